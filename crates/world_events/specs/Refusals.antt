-- What was refused at a service.
use Rattle.std.specs.Prelude.{Bool, true, false, Ok, Err, is_err}
use Rattle.world_events.specs.Events.{Answer}
use Rattle.world_events.specs.declared.happened.What.{What}
use Rattle.world_events.specs.declared.happened.What.TheVariants.{Arrive, CallAnswered, CallFailed, Take, TakeToken, Give, Posted, Order}

abbrev pub is_refusal : What → Bool
is_refusal (Arrive r) = is_err r
is_refusal (CallAnswered r) = is_err r
is_refusal (CallFailed r) = is_err r
is_refusal (Take r) = is_err r
is_refusal (TakeToken r) = is_err r
is_refusal (Give r) = is_err r
is_refusal (Posted r) = is_err r
is_refusal (Order r) = is_err r
is_refusal what = false

-- the event was refused, or what came was refused at the service
abbrev pub was_refused : Answer → Bool
was_refused (Ok h) = is_refusal h.what
was_refused (Err why) = true
