use Rattle.std.proofs.Common.{Some, ap, option_map, ◌∙◌}
use Rattle.request_log.specs.declared.entry.Entry.{Entry}
use Rattle.service_parts.specs.Parts.{kept}
use Rattle.service_repairs.proofs.FoldLemmas.{unquiet_found}
use Rattle.service_repairs.proofs.folding.first_unquiet_among.Goals as goal

pub returns-in-None : goal.returns-in-None
returns-in-None c =
    ap (option_map (λ (e : Entry). e.id)) c.in-None.ensures ∙ unquiet_found (kept c.args.parts.now) c.args.stale c.args.entries.now

pub returns-in-Some : goal.returns-in-Some
returns-in-Some c =
    ap (λ (e : Entry). Some e.id) c.entry.ensures
    ∙ ap (option_map (λ (e : Entry). e.id)) c.in-Some.ensures ∙ unquiet_found (kept c.args.parts.now) c.args.stale c.args.entries.now
