use Rattle.std.proofs.Common.{◌<◌, ◌∷◌, ◌++◌, [], length, map, take, sym, ap, ◌∙◌, add-one, arith}
use Rattle.request_log.specs.Keys.{entry_key}
use Rattle.request_log.proofs.FoldedLemmas.{map-more}
use Rattle.request_log.proofs.finding.origins_of.Goals as goal

pub push-requires : goal.push-requires
push-requires c = let room = c.loop-kept.invariant.room in omega arith

pub loop-kept-preserved : goal.loop-kept-preserved
loop-kept-preserved c =
    let es = c.args.entries.now in
    let i = c.loop-kept.kept-index in
    let lt : i < length es = omega arith in
    record {
      keys = rw add-one
          (c.push.ensures.keys ∙ ap (λ l. l ++ c.key_of.result ∷ []) c.loop-kept.invariant.keys
          ∙ ap (λ n. map entry_key (take i es) ++ n ∷ []) (c.key_of.ensures ∙ ap entry_key (c.entry.ensures ∙ c.kept-item.is))
          ∙ sym (map-more entry_key es i c.kept-item.result lt));
      room = (let spare = c.push.ensures.spare in let room = c.loop-kept.invariant.room in omega arith);
    }
