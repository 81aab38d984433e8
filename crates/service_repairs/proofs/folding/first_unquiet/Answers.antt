use Rattle.std.proofs.Common.{List, ap, take, ◌∙◌}
use Rattle.request_log.specs.declared.entry.Entry.{Entry}
use Rattle.service_parts.specs.Parts.{kept}
use Rattle.service_repairs.specs.Folding.{first_unquiet_among}
use Rattle.service_repairs.proofs.FoldLemmas.{first_is}
use Rattle.service_repairs.proofs.folding.first_unquiet.Goals as goal

pub returns : goal.returns
returns c =
    let p = c.args.parts.now in
    let n = c.count_to-count.result in
    let stale = c.first_stale-stale.result in
    c.first_unquiet_among.ensures
    ∙ ap (λ (es : List Entry). first_unquiet_among (kept p) stale es) (c.front-folds.ensures ∙ ap (take n) (c.as_slice.ensures.entries ∙ c.log.ensures.entries))
    ∙ first_is p c.args.id n stale c.requires c.count_to-count.ensures.count c.first_stale-stale.ensures.test
