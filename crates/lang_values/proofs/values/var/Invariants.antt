use Rattle.std.proofs.Common.{◌≡◌, drop}
use Rattle.lang_values.specs.Values.{var}
use Rattle.lang_values.proofs.values.var.Given as goal

abbrev pub invariant-loop-binding : goal.invariant-loop-binding
invariant-loop-binding l = var (drop l.binding-index l.vars) l.name ≡ var l.vars l.name
