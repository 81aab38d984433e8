-- What each call on a service promises of its event: it does it, unless memory is wanting.
use Rattle.std.specs.Prelude.{◌≡◌, Bool, true, false, Result}
use Rattle.lang_base.specs.Memory.{Unless, lacks}
use Rattle.service_events.specs.State.{Kept, After, after}
use Rattle.service_events.specs.declared.refusals.AnswerRefused.{AnswerRefused}
use Rattle.service_events.specs.declared.refusals.ArriveRefused.{ArriveRefused}
use Rattle.service_events.specs.declared.refusals.CallRefused.{CallRefused}
use Rattle.service_events.specs.declared.refusals.GiveRefused.{GiveRefused}
use Rattle.service_events.specs.declared.refusals.OrderRefused.{OrderRefused}
use Rattle.service_events.specs.declared.refusals.PostRefused.{PostRefused}
use Rattle.service_events.specs.declared.refusals.TakeRefused.{TakeRefused}

-- ---- want of memory among the reasons of a refusal

abbrev pub arrive_memory : ArriveRefused → Bool
arrive_memory ArriveRefused.NoMemory = true
arrive_memory why = false

abbrev pub call_memory : CallRefused → Bool
call_memory CallRefused.NoMemory = true
call_memory why = false

abbrev pub take_memory : TakeRefused → Bool
take_memory TakeRefused.NoMemory = true
take_memory why = false

abbrev pub answer_memory : AnswerRefused → Bool
answer_memory AnswerRefused.NoMemory = true
answer_memory why = false

abbrev pub give_memory : GiveRefused → Bool
give_memory GiveRefused.NoMemory = true
give_memory why = false

abbrev pub post_memory : PostRefused → Bool
post_memory PostRefused.NoMemory = true
post_memory why = false

abbrev pub order_memory : OrderRefused → Bool
order_memory OrderRefused.NoMemory = true
order_memory why = false

-- ---- an event

-- the answer and what is left are the event's; for want of memory, nothing changed
abbrev pub Does : {A E : Type 0} → (E → Bool) → After (Result A E) → Kept → Result A E → Kept → Type 0
Does is_memory event s result s' = Unless (lacks is_memory result) (after s' result ≡ event) (s' ≡ s)
