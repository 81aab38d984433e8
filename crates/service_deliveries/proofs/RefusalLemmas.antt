-- A call that refuses what its event refuses, and changes nothing, does what the event means, whatever the reason is.
use Rattle.std.proofs.Common.{◌≡◌, refl, Bool, true, false, Result, Err}
use Rattle.lang_base.specs.Memory.{Unless}
use Rattle.service_events.specs.State.{Kept, After, after}
use Rattle.service_events.specs.Doing.{Does}

either_way : (lacking : Bool) (P : Type 0) (s : Kept) → P → Unless lacking P (s ≡ s)
either_way true P s p = refl
either_way false P s p = p

pub refusal_does : {A E : Type 0} (is_memory : E → Bool) (event : After (Result A E)) (s : Kept) (why : E) → after s (Err why) ≡ event → Does is_memory event s (Err why) s
refusal_does {A} {E} is_memory event s why is = either_way (is_memory why) (after {A = Result A E} s (Err why) ≡ event) s is
