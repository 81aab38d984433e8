use Rattle.std.proofs.Common.{◌<◌, ◌∷◌, ◌++◌, [], length, map, take, sym, ap, ◌∙◌, add-one, arith}
use Rattle.request_log.specs.declared.entry.Entry.{Entry}
use Rattle.request_log.specs.Keys.{number_of}
use Rattle.request_log.proofs.FoldedLemmas.{map-more}
use Rattle.request_log.proofs.finding.numbers_of.Goals as goal

pub push-requires : goal.push-requires
push-requires c = let room = c.loop-kept.invariant.room in omega arith

pub loop-kept-preserved : goal.loop-kept-preserved
loop-kept-preserved c =
    let es = c.args.entries.now in
    let i = c.loop-kept.kept-index in
    let lt : i < length es = omega arith in
    record {
      keys = rw add-one
          (c.push.ensures.keys ∙ ap (λ l. l ++ c.entry.result.now.id ∷ []) c.loop-kept.invariant.keys
          ∙ ap (λ (e : Entry). map number_of (take i es) ++ number_of e ∷ []) (c.entry.ensures ∙ c.kept-item.is)
          ∙ sym (map-more number_of es i c.kept-item.result lt));
      room = (let spare = c.push.ensures.spare in let room = c.loop-kept.invariant.room in omega arith);
    }
