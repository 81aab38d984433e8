-- Worlds in which each message has a receiver, and what an event is refused for: that it names what isn't there.
use Rattle.std.specs.Prelude.{ℕ, ◌≡◌, List, Option, Some, None, IsSome, IsOk, Err, All, Contains, option_and_then}
use Rattle.journal_rows.specs.declared.row.Row.{Row}
use Rattle.journal_rows.specs.declared.row.Row.TheVariants.{Sent}
use Rattle.service_events.specs.State.{Kept, or_else, flight_of}
use Rattle.world_agreement.specs.Partners.{service_of}
use Rattle.world_events.specs.Events.{Answer}
use Rattle.world_events.specs.Worlds.{World, packet_of}
use Rattle.world_events.specs.declared.event.Event.{Event}
use Rattle.world_events.specs.declared.event.Event.TheVariants.{Begin, Deliver, Lose, Post as Posts, Step, Abandon, Order, Clock, Seed}
use Rattle.world_events.specs.declared.event.WorldStepRefused.{WorldStepRefused}
use Rattle.world_events.specs.declared.event.WorldStepRefused.TheVariants.{NoService, NoPacket, NoFlight}

-- ---- receivers

-- each service that one of these may call is one of these
abbrev pub ArePeered : List Kept → Type 0
ArePeered services = All (λ (s : Kept). All (λ name. IsSome (service_of name services)) s.setting.peers) services

-- a version of a call went to one of these
abbrev pub GoesTo : List (List ℕ) → Row → Type 0
GoesTo peers (Sent s) = Contains peers s.dest
GoesTo peers row = Unit {0}

-- a service called its peers alone
abbrev pub CallsPeers : Kept → Type 0
CallsPeers s = All (GoesTo s.setting.peers) s.journal

pub record AreReached (services : List Kept) : Type 0 where
  pub peered : ArePeered services
  pub calls : All CallsPeers services

abbrev pub IsReached : World → Type 0
IsReached w = AreReached w.services

-- ---- refusals

abbrev pub where_none : {X : Type 0} → WorldStepRefused → Option X → Option WorldStepRefused
where_none why None = Some why
where_none why (Some x) = None

-- what an event names that isn't there, if anything
abbrev pub missing : World → Event → Option WorldStepRefused
missing w (Begin name q) = where_none NoService (service_of name w.services)
missing w (Deliver number) = where_none (NoPacket number) (packet_of number w)
missing w (Lose number) = where_none (NoPacket number) (packet_of number w)
missing w (Posts from to) =
    or_else (where_none NoService (service_of to w.services)) (where_none NoService (service_of from w.services))
missing w (Step name) = where_none NoService (service_of name w.services)
missing w (Abandon name flight) =
    or_else (where_none NoService (service_of name w.services))
    (where_none (NoFlight flight) (option_and_then (flight_of flight) (service_of name w.services)))
missing w (Order name command token who) = where_none NoService (service_of name w.services)
missing w (Clock moment) = None
missing w (Seed n) = None

-- the answer is this refusal, and where there is none something happened
abbrev pub AnswersBy : Option WorldStepRefused → Answer → Type 0
AnswersBy None answer = IsOk answer
AnswersBy (Some why) answer = answer ≡ Err why
