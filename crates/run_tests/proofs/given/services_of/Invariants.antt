use Rattle.std.proofs.Common.{◌≡◌, vec_len}
use Rattle.run_tests.proofs.given.services_of.Given as goal

abbrev pub invariant-loop-setup : goal.invariant-loop-setup
invariant-loop-setup l = vec_len l.services ≡ l.setup-index
