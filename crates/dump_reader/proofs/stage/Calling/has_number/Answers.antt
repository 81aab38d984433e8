use Rattle.std.proofs.Common.{nat_eq, nat_lt, ap, ◌∙◌}
use Rattle.std.specs.List.{list_any}
use Rattle.dump_tables.specs.Indexed.{has_number}
use Rattle.dump_tables.proofs.FoundLemmas.{any_end}
use Rattle.dump_reader.proofs.stage.Calling.has_number.Goals as goal

pub returns : goal.returns
returns c =
    ap (nat_lt 0) c.end_of.ensures
    ∙ any_end (nat_eq c.args.number) c.self.inside.numbers.keys
    ∙ ap (list_any (nat_eq c.args.number)) c.self.invariant
    ∙ ap (has_number c.args.number) c.self.view_is
