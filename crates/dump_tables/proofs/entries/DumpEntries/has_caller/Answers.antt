use Rattle.std.proofs.Common.{ap, sym, ◌∙◌}
use Rattle.std.specs.Option.{is_some}
use Rattle.lang_core.specs.Origins.{is_call}
use Rattle.dump_tables.proofs.FoundLemmas.{found_any}
use Rattle.dump_tables.proofs.entries.DumpEntries.has_caller.Goals as goal

pub returns-in-Some : goal.returns-in-Some
returns-in-Some c = sym (ap is_some c.in-Some.is) ∙ found_any (λ e. is_call c.args.caller.now c.args.number e.origin) c.args.self.now c.of_call.result c.of_call.ensures

pub returns-in-None : goal.returns-in-None
returns-in-None c = sym (ap is_some c.in-None.is) ∙ found_any (λ e. is_call c.args.caller.now c.args.number e.origin) c.args.self.now c.of_call.result c.of_call.ensures
