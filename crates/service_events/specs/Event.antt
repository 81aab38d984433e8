-- What each event leaves of a service and answers, as one function; and what a call that makes it promises.
use Rattle.std.specs.Prelude.{◌≡◌, Bool, false, Ok, IsSome, is_err}
use Rattle.std.specs.Option.{ok_or}
use Rattle.lang_base.specs.Memory.{Unless, lacks}
use Rattle.call_registers.specs.declared.register.Why.{Why}
use Rattle.call_registers.specs.declared.register.Why.TheVariants.{Changes}
use Rattle.service_events.specs.State.{Kept, After, after}
use Rattle.service_events.specs.Arriving.{abandon_event, arrive_event, call_answered_event, call_failed_event}
use Rattle.service_events.specs.Doing.{answer_memory, arrive_memory, call_memory, give_memory, order_memory, post_memory, take_memory}
use Rattle.service_events.specs.Messages.{give_event, posted_event, take_event, take_token_event}
use Rattle.service_events.specs.Orders.{order_event}
use Rattle.service_events.specs.Posts.{next_post, write_post}
use Rattle.service_events.specs.Steps.{step_event}
use Rattle.service_events.specs.declared.event.Done.{Done}
use Rattle.service_events.specs.declared.event.Done.TheVariants as done
use Rattle.service_events.specs.declared.event.Event.{Event}
use Rattle.service_events.specs.declared.event.Event.TheVariants as events

-- ---- one function

-- what is left, and the answer as this tells it
abbrev pub telling : {A : Type 0} → (A → Done) → After A → After Done
telling tell a = after a.service (tell a.answer)

-- what an event leaves and answers
abbrev pub event : Kept → Event → After Done
event s (events.Arrive o q i) = telling done.Arrive (arrive_event s o q i)
event s (events.CallAnswered flight a) = telling done.CallAnswered (call_answered_event s flight a)
event s (events.CallFailed flight number why) = telling done.CallFailed (call_failed_event s flight number why)
event s (events.Abandon flight) = telling done.Abandon (abandon_event s flight)
event s (events.Take set i) = telling done.Take (take_event s set i)
event s (events.TakeToken t) = telling done.TakeToken (take_token_event s t)
event s (events.Give f) = telling done.Give (give_event s f)
event s (events.NextPost dest) = after s (done.NextPost (next_post dest s))
event s (events.WritePost name) = after s (done.WritePost (ok_or (write_post s name) (record {})))
event s (events.Posted p reply) = telling done.Posted (posted_event s p reply)
event s events.Step = telling (λ stepped. done.Step (Ok stepped)) (step_event s)
event s (events.Order command token who i) = telling done.Order (order_event s command token who i)

-- ---- its condition

-- how a call that was sent may fail: its exchange was lost or refused. A call that isn't sent any more, since its flight has changed too often, is no failure
abbrev pub IsFailure : Why → Type 0
IsFailure Changes = ⊥
IsFailure why = Unit {0}

-- a failure is one of an exchange, and a post that is to be read is there
abbrev pub MayHappen : Kept → Event → Type 0
MayHappen s (events.CallFailed flight number why) = IsFailure why
MayHappen s (events.WritePost name) = IsSome (write_post s name)
MayHappen s event = Unit {0}

-- ---- want of memory

-- an answer for want of memory
abbrev pub is_lacking : Done → Bool
is_lacking (done.Arrive result) = lacks arrive_memory result
is_lacking (done.CallAnswered result) = lacks call_memory result
is_lacking (done.CallFailed result) = lacks call_memory result
is_lacking (done.Take result) = lacks take_memory result
is_lacking (done.TakeToken result) = lacks answer_memory result
is_lacking (done.Give result) = lacks give_memory result
is_lacking (done.WritePost result) = is_err result
is_lacking (done.Posted result) = lacks post_memory result
is_lacking (done.Step result) = is_err result
is_lacking (done.Order result) = lacks order_memory result
is_lacking answer = false

-- what is left and the answer are the event's; for want of memory, nothing changed
abbrev pub Happens : Event → Kept → Done → Kept → Type 0
Happens e s answer t = Unless (is_lacking answer) (after t answer ≡ event s e) (t ≡ s)
