use Rattle.std.proofs.Common.{◌≡◌, ◌++◌, take, drop}
use Rattle.lang_core.specs.declared.value.Value.{Value}
use Rattle.lang_values.specs.Variables.{bind}
use Rattle.lang_values.proofs.variables.bound_at.Given as goal

abbrev pub invariant-loop-i : goal.invariant-loop-i
invariant-loop-i l = (v : Value) → bind l.name v l.vars ≡ take l.i l.vars ++ bind l.name v (drop l.i l.vars)
