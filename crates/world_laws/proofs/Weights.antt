-- How much services and the message in hand weigh: a bound on the deliveries that may still follow.
use Rattle.std.specs.Prelude.{ℕ, zero, suc, ◌+◌, ◌-◌, ◌*◌, ◌<◌, List, [], ◌∷◌, Option, Some, None, Result, Ok, Err, if◌then◌else◌, length, sum_by}
use Rattle.lang_core.specs.declared.request.Request.{Request}
pub use Rattle.handler_chains.specs.Onward.{is_among, chain_behind}
use Rattle.flights.specs.declared.flight.Flight.{Flight}
use Rattle.repair_messages.specs.declared.messages.SetMessage.{SetMessage}
use Rattle.service_events.specs.State.{Kept, me}
use Rattle.service_events.specs.declared.answers.Arrived.{Arrived}
use Rattle.service_events.specs.declared.answers.Arrived.TheVariants.{Call as Sends}
use Rattle.service_events.specs.declared.refusals.ArriveRefused.{ArriveRefused}
use Rattle.service_events.specs.declared.refusals.CallRefused.{CallRefused}

-- how many of these names aren't in a chain
abbrev pub left_by : List (List ℕ) → List (List ℕ) → ℕ
left_by chain [] = 0
left_by chain (n ∷ names) = if is_among n chain then left_by chain names else suc (left_by chain names)

-- what a call may cost behind whose callee this many names are left: at most 19 calls of the callee's flight, the flight and its answer
abbrev pub cost : ℕ → ℕ
cost zero = 2
cost (suc k) = 19 * cost k + 2

-- how many calls a flight may still send: it makes at most 16 calls, and at most three changes send one more each
abbrev pub room : Flight → ℕ
room f = (16 - length f.numbers) + (3 - f.changes)

-- where these are the names of all services, and this is the service's own
abbrev pub flight_weight : List (List ℕ) → List ℕ → Flight → ℕ
flight_weight names name f = room f * cost (left_by (chain_behind name f.request) names) + 1

-- what a service weighs
abbrev pub load : List (List ℕ) → Kept → ℕ
load names s = sum_by (flight_weight names (me s)) s.flights

-- what a call in hand weighs; one to no service is answered by nobody
abbrev pub call_weight : List (List ℕ) → List ℕ → Request → ℕ
call_weight names dest q = if is_among dest names then cost (suc (left_by (chain_behind dest q) names)) else 1

abbrev pub message_weight : List (List ℕ) → SetMessage → Option Request → ℕ
message_weight names set None = 1
message_weight names set (Some q) = call_weight names set.dest q

-- what is sent where a live request goes on: its call, or at most one answer
abbrev pub sent_weight : List (List ℕ) → Arrived → ℕ
sent_weight names (Sends flight set) = message_weight names set set.desired
sent_weight names arrived = 1

-- a call that is refused is answered so
abbrev pub weight_of_arrival : List (List ℕ) → Result Arrived ArriveRefused → ℕ
weight_of_arrival names (Ok a) = sent_weight names a
weight_of_arrival names (Err why) = 1

-- what finds no flight is followed by nothing
abbrev pub weight_of_return : List (List ℕ) → Result Arrived CallRefused → ℕ
weight_of_return names (Ok a) = sent_weight names a
weight_of_return names (Err why) = 0

-- a service and what it sends are lighter than the service and what came to it
abbrev pub IsLighter : List (List ℕ) → Kept → ℕ → Kept → ℕ → Type 0
IsLighter names before came after sent = load names after + sent < load names before + came
