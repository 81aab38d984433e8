-- A call that did an event of its own kind did it as an event by name.
use Rattle.std.proofs.Common.{◌≡◌, Bool, true, false, ap}
use Rattle.lang_base.specs.Memory.{Unless}
use Rattle.service_events.specs.Event.{telling}
use Rattle.service_events.specs.State.{Kept, After, after}
use Rattle.service_events.specs.declared.event.Done.{Done}

pub telling_is : {A : Type 0} (tell : A → Done) (lacking : Bool) (s t : Kept) (answer : A) (e : After A) → Unless lacking (after t answer ≡ e) (t ≡ s)
    → Unless lacking (after t (tell answer) ≡ telling tell e) (t ≡ s)
telling_is tell true s t answer e same = same
telling_is tell false s t answer e is = ap (telling tell) is
