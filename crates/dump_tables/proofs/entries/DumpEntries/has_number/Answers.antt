use Rattle.std.proofs.Common.{ap, sym, ◌∙◌}
use Rattle.std.specs.Option.{is_some}
use Rattle.dump_tables.specs.Indexed.{has_number}
use Rattle.dump_tables.proofs.FoundLemmas.{found_any}
use Rattle.dump_tables.proofs.entries.DumpEntries.has_number.Goals as goal

pub returns-in-Some : goal.returns-in-Some
returns-in-Some c = sym (ap is_some c.in-Some.is) ∙ found_any (has_number c.args.number) c.args.self.now c.with_number.result c.with_number.ensures

pub returns-in-None : goal.returns-in-None
returns-in-None c = sym (ap is_some c.in-None.is) ∙ found_any (has_number c.args.number) c.args.self.now c.with_number.result c.with_number.ensures
