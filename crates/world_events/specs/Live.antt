-- Worlds in which nothing is repaired: each call of a request that is committed consumes what its callee answered, or its register says why not.
use Rattle.std.specs.Prelude.{ℕ, ◌≡◌, ◌≤◌, ◌⊎◌, Bool, true, ◌||◌, List, [], ◌∷◌, Option, Some, None, IsSome, IfSome, IsSomeAnd, IfOk, All, filter, find, is_some}
use Rattle.lang_core.specs.declared.trace.CallMade.{CallMade}
use Rattle.service_events.specs.HandedOn.{has_id, has_origin}
use Rattle.service_events.specs.HandedOn.{Entry}
use Rattle.service_events.specs.HandedOn.{Made}
use Rattle.world_agreement.specs.HandedOn.{calls_of_made}
use Rattle.journal_rows.specs.declared.row.Row.{Row}
use Rattle.journal_rows.specs.declared.row.Row.TheVariants.{Answered, Sent, SawAnswer}
use Rattle.call_registers.specs.Registers.{register, consumed}
use Rattle.call_registers.specs.declared.register.Register.{Register}
use Rattle.flights.specs.declared.flight.Flight.{Flight}
use Rattle.service_events.specs.Flying.{awaited}
use Rattle.service_events.specs.State.{Kept, me}
use Rattle.world_agreement.specs.Partners.{service_of}
use Rattle.world_events.specs.Events.{answer_to, after_event}
use Rattle.world_events.specs.Worlds.{World}
use Rattle.world_events.specs.declared.event.Event.{Event}
use Rattle.world_events.specs.declared.event.Event.TheVariants.{Begin, Deliver, Lose, Abandon, Clock, Seed}
use Rattle.world_events.specs.declared.happened.Outcome.{Outcome}
use Rattle.world_events.specs.declared.happened.Outcome.TheVariants.{Done}
use Rattle.world_events.specs.declared.happened.What.{What}
use Rattle.world_events.specs.declared.happened.What.TheVariants.{Arrive, CallAnswered, CallFailed}
use Rattle.world_events.specs.declared.packet.Packet.{Packet}
use Rattle.world_events.specs.declared.packet.Packet.TheVariants.{Call, CallReply}

-- an event of live requests: no step, no order, no post
abbrev pub IsLiveEvent : Event → Type 0
IsLiveEvent (Begin name q) = Unit {0}
IsLiveEvent (Deliver number) = Unit {0}
IsLiveEvent (Lose number) = Unit {0}
IsLiveEvent (Abandon name flight) = Unit {0}
IsLiveEvent (Clock moment) = Unit {0}
IsLiveEvent (Seed n) = Unit {0}
IsLiveEvent e = ⊥

abbrev pub AllLiveEvents : List Event → Type 0
AllLiveEvents [] = Unit {0}
AllLiveEvents (e ∷ events) = IsLiveEvent e × AllLiveEvents events

-- ---- what a commit says

-- the service that was called has one entry of this call, whose response the call consumes
pub record IsAnswered (services : List Kept) (s : Kept) (number : ℕ) (call : CallMade) : Type 0 where
  pub callee : Kept
  pub there : service_of call.dest services ≡ Some callee
  pub entry : Entry
  pub one : filter (has_origin (me s) number) callee.entries ≡ entry ∷ []
  pub request : entry.request ≡ call.request
  pub made : Made
  pub is : entry.made ≡ Some made
  pub response : consumed number s.registers ≡ Some made.trace.response

-- the call consumes the tentative answer, and its register says why
pub record IsTold (s : Kept) (number : ℕ) : Type 0 where
  pub tentative : consumed number s.registers ≡ None
  pub told : IsSomeAnd (register number s.registers) (λ r. IsSome r.told)

-- each of these calls, by its number
abbrev pub EachCall : (ℕ → CallMade → Type 0) → List ℕ → List CallMade → Type 0
EachCall P [] [] = Unit {0}
EachCall P (n ∷ ns) (c ∷ cs) = P n c × EachCall P ns cs
EachCall P ns cs = ⊥

abbrev pub CallsEnd : List Kept → Kept → Entry → Type 0
CallsEnd services s e = EachCall (λ n c. IsAnswered services s n c ⊎ IsTold s n) e.slots (calls_of_made e.made)

abbrev pub EntryEnds : List Kept → ℕ → Kept → Type 0
EntryEnds services id s = IsSomeAnd (find (has_id id) s.entries) (CallsEnd services s)

-- the calls of the entry of this number, of the service of this name
abbrev pub CommitEnds : List Kept → Option (List ℕ) → Outcome → Type 0
CommitEnds services (Some name) (Done index id) = IsSomeAnd (service_of name services) (EntryEnds services id)
CommitEnds services None (Done index id) = ⊥
CommitEnds services name outcome = Unit {0}

-- if a request was committed, each of its calls ended so
abbrev pub WhatEnds : List Kept → Option (List ℕ) → What → Type 0
WhatEnds services name (Arrive r) = IfOk r (CommitEnds services name)
WhatEnds services name (CallAnswered r) = IfOk r (CommitEnds services name)
WhatEnds services name (CallFailed r) = IfOk r (CommitEnds services name)
WhatEnds services name what = Unit {0}

abbrev pub CommitsEnd : World → Event → Type 0
CommitsEnd w e = IfOk (answer_to w e) (λ h. WhatEnds (after_event w e).services h.service h.what)

-- so it is at each of these events, one behind another
abbrev pub AllCommitsEnd : World → List Event → Type 0
AllCommitsEnd w [] = Unit {0}
AllCommitsEnd w (e ∷ events) = CommitsEnd w e × AllCommitsEnd (after_event w e) events

-- ---- what such a world keeps

-- calls are named once and changed to nothing alone, answers are live, and what is seen answers the first version
abbrev pub IsLiveRow : Row → Type 0
IsLiveRow (Sent s) = IfSome s.desired (λ _. s.version ≡ 1)
IsLiveRow (Answered a) = a.live ≡ true
IsLiveRow (SawAnswer a) = a.version ≡ 1
IsLiveRow row = Unit {0}

-- the call is over: its register has an answer, or why there is none
abbrev pub is_call_over : Register → Bool
is_call_over r = is_some r.told || is_some r.answer

abbrev pub IsCallOver : ℕ → List Register → Type 0
IsCallOver number registers = IsSomeAnd (register number registers) (λ r. is_call_over r ≡ true)

-- a flight waits for one call at most, the last that was named
abbrev pub WaitsForOne : List Register → Flight → Type 0
WaitsForOne registers f = All (λ n. (awaited f ≤ n) ⊎ IsCallOver n registers) f.numbers

pub record IsLive (s : Kept) : Type 0 where
  pub rows : All IsLiveRow s.journal
  pub flights : All (WaitsForOne s.registers) s.flights

-- a live call or what comes back of it
abbrev pub IsLivePacket : Packet → Type 0
IsLivePacket (Call from flight set) = Unit {0}
IsLivePacket (CallReply to flight number reply) = Unit {0}
IsLivePacket packet = ⊥

pub record IsLiveWorld (w : World) : Type 0 where
  pub services : All IsLive w.services
  pub packets : All IsLivePacket w.packets
