use Rattle.std.proofs.Common.{◌||◌, Bool, ap, sym, ◌∙◌}
use Rattle.std.specs.List.{list_any}
use Rattle.lang_core.specs.declared.ids.Origin.{Origin}
use Rattle.dump_reader.specs.Reading.{comes_from}
use Rattle.dump_reader.proofs.EnteredLemmas.{entered_by}
use Rattle.dump_reader.proofs.steps.is_entered.Goals as goal

pub returns-then-has_id : goal.returns-then-has_id
returns-then-has_id c =
    let line = c.args.line.now in
    let entries = c.args.entries.now in
    let here = sym c.has_id.ensures ∙ c.if-has_id.true in
    sym (entered_by line entries ∙ ap (λ (b : Bool). b || list_any (comes_from line.origin) entries) here)

pub returns-in-Call : goal.returns-in-Call
returns-in-Call c =
    let line = c.args.line.now in
    let entries = c.args.entries.now in
    let none = sym c.has_id.ensures ∙ c.if-has_id.false in
    c.has_caller.ensures
    ∙ sym (entered_by line entries ∙ ap (λ (b : Bool). b || list_any (comes_from line.origin) entries) none ∙ ap (λ (o : Origin). list_any (comes_from o) entries) c.in-Call.is)
