-- Changes that are to be made of registers, and the registers after them.
use Rattle.std.specs.Prelude.{ℕ, ◌+◌, List, [], ◌∷◌, ◌++◌, fold, if◌then◌else◌}
use Rattle.call_registers.specs.Registers.{at_number, has_number, next_number}
use Rattle.call_registers.specs.declared.changes.RegisterChanges.{RegisterChanges}
use Rattle.call_registers.specs.declared.register.Register.{Register}

-- it stands in place of the register of its number, where there is one
abbrev pub put : List Register → Register → List Register
put registers r = at_number r.number (λ old. r) registers

-- each of these in order
abbrev pub put_all : List Register → List Register → List Register
put_all changed registers = fold put registers changed

abbrev pub numbered : ℕ → Register → Register
numbered number r = record r { number = number }

-- with numbers that rise by 1, beginning with this
abbrev pub numbered_from : ℕ → List Register → List Register
numbered_from number [] = []
numbered_from number (r ∷ rs) = numbered number r ∷ numbered_from (number + 1) rs

-- the changed ones stand in their places, and the added ones are last, with the numbers that come next
abbrev pub overlaid : RegisterChanges → List Register → List Register
overlaid c registers = put_all c.changed.items registers ++ numbered_from (next_number registers) c.added.items

-- the later of two registers that may have the number
abbrev pub later : ℕ → Register → Register → Register
later number r c = if has_number number c then c else r
