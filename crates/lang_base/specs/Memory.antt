-- Want of memory: any call that allocates may answer it, and nothing is claimed of when it does.
use Rattle.std.specs.Prelude.{Bool, true, false, Result, Ok, Err}

-- whether an answer is the one for want of memory, by the test that tells it among the reasons for an error
abbrev pub lacks : {X E : Type 0} → (E → Bool) → Result X E → Bool
lacks is_memory (Ok x) = false
lacks is_memory (Err why) = is_memory why

-- unless memory is wanting, this; else that
abbrev pub Unless : Bool → Type 0 → Type 0 → Type 0
Unless true this that = that
Unless false this that = this
