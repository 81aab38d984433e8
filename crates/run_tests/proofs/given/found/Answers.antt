use Rattle.std.proofs.Common.{◌∙◌, option_map, ap, sym}
use Rattle.world_file.proofs.Standards.{built_in_knows}
use Rattle.run_tests.proofs.given.found.Goals as goal

pub returns-in-Ok-Some : goal.returns-in-Ok-Some
returns-in-Ok-Some c = (built_in_knows c.args.word.now c.in-Ok-Some.setups.items (sym c.in-Ok-Some.ensures ∙ ap (option_map _) c.in-Ok-Some.field-0-is)).apart
