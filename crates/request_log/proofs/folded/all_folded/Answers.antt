use Rattle.std.proofs.Common.{◌<◌, ◌++◌, length, take, sym, ap, ◌∙◌, add-one, arith}
use Rattle.std.specs.List.{filter_map}
use Rattle.std.specs.Option.{option_to_list}
use Rattle.request_log.specs.declared.entry.Entry.{Entry}
use Rattle.request_log.specs.Folded.{folded_as}
use Rattle.request_log.proofs.FoldedLemmas.{filter_map-more}
use Rattle.request_log.proofs.folded.all_folded.Goals as goal

pub loop-kept-preserved : goal.loop-kept-preserved
loop-kept-preserved c =
    let es = c.args.entries.now in
    let i = c.loop-kept.kept-index in
    let lt : i < length es = omega arith in
    rw add-one
    (c.in_ok-push_if_ran.ensures ∙ ap (λ l. l ++ option_to_list (folded_as c.entry.result.now)) c.loop-kept.invariant
    ∙ ap (λ (e : Entry). filter_map folded_as (take i es) ++ option_to_list (folded_as e)) (c.entry.ensures ∙ c.kept-item.is)
    ∙ sym (filter_map-more folded_as es i c.kept-item.result lt))
