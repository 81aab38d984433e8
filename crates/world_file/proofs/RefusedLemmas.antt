-- What follows where a call refuses, unless memory is wanting.
use Rattle.std.proofs.Common.{◌≡◌, Bool, true, false}
use Rattle.lang_base.specs.Memory.{Unless}

-- what follows from it
pub unless_so : (lacking : Bool) (this so that : Type 0) → (this → so) → Unless lacking this that → Unless lacking so that
unless_so true this so that step h = h
unless_so false this so that step h = step h

-- it holds where memory isn't wanting
pub where_not : (lacking : Bool) (this that : Type 0) → lacking ≡ false → Unless lacking this that → this
where_not true this that e h = absurd (let never : ⊥ = cc in never)
where_not false this that e h = h
