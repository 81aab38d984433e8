-- What is done of some events in a world, all of them or some first ones, and what is counted of them.
use Rattle.std.specs.Prelude.{ℕ, ◌≡◌, Bool, ◌||◌, List, [], ◌∷◌, ◌++◌, Option, IfSome, if◌then◌else◌}
use Rattle.local_repair.specs.Current.{AllCurrent}
use Rattle.call_registers.specs.Changes.{raised}
use Rattle.service_events.specs.State.{answers, base, unfolded}
use Rattle.world_agreement.specs.Partners.{NamesDiffer, service_of}
use Rattle.world_events.specs.Events.{Answer, after_event, after_events, answer_to}
use Rattle.world_events.specs.Sound.{AllFew, AreFew, IsSound}
use Rattle.world_events.specs.Worlds.{World}
use Rattle.world_events.specs.declared.event.Event.{Event}
use Rattle.world_events.specs.declared.happened.What.{What}
use Rattle.world_core.specs.HandedOn.{written_at}
use Rattle.world_settle.specs.declared.came.Came.{Came}
use Rattle.world_settle.specs.declared.settled.Settled.{Settled}
use Rattle.world_settle.specs.declared.tally.Tally.{Tally}
use Rattle.world_settle.specs.Settles.{IsDelivered, IsExchange, IsRound, IsSettling, any_came, came, goes_on, has_work, is_done, is_post, is_run, is_work}

-- ---- events

-- these events happened, one behind another, and after each of them each journal could be counted
pub record HaveHappened (start : World) (events : List Event) (now : World) : Type 0 where
  pub world : now ≡ after_events start events
  pub few : AllFew start events

-- no two services have one name after any of these events
abbrev pub AllDiffer : World → List Event → Type 0
AllDiffer w [] = Unit {0}
AllDiffer w (e ∷ events) = NamesDiffer (after_event w e).services × AllDiffer (after_event w e) events

-- of events of which this holds some first ones happened
pub record DoesFirst (start : World) (Are : World → List Event → Type 0) (now : World) : Type 0 where
  pub done : List Event
  pub rest : List Event
  pub are : Are start (done ++ rest)
  pub happened : HaveHappened start done now

-- where the one world was sound, the other is
abbrev pub KeepsSound : World → World → Type 0
KeepsSound before now = IsSound before → IsSound now

-- ---- settling

-- at most n rounds were done, and these are their counts
pub record Settles (start : World) (n : ℕ) (counts : Settled) (now : World) : Type 0 where
  pub events : List Event
  pub are : IsSettling start n events counts
  pub happened : HaveHappened start events now

-- these are the events of at most n rounds
abbrev pub AreOfSettling : ℕ → World → List Event → Type 0
AreOfSettling n w events = (counts : Settled) × IsSettling w n events counts

-- some first events of at most n rounds happened
abbrev pub SettlesFirst : World → ℕ → World → Type 0
SettlesFirst start n now = DoesFirst start (AreOfSettling n) now

-- at most n rounds in a world are one list of events, with one count
pub record IsSettled (w : World) (n : ℕ) : Type 0 where
  pub events : List Event
  pub counts : Settled
  pub are : IsSettling w n events counts
  pub alone : (others : List Event) (theirs : Settled) → IsSettling w n others theirs → (others ≡ events) × (theirs ≡ counts)

-- ---- steps

-- the service of this name, if it is there, has no stale entry
abbrev pub IsAtRest : List ℕ → World → Type 0
IsAtRest name w = IfSome (service_of name w.services) (λ s. AllCurrent (answers s) (base s) (unfolded s))

-- ---- what is counted on the way

-- what is told of an event
abbrev pub told_of : Answer → Came
told_of a = record { ran = came is_run a; is_done = came is_done a; packet = written_at a }

-- a count that rose at each of these events of which this came
abbrev pub risen : (What → Bool) → ℕ → World → List Event → ℕ
risen passes n w [] = n
risen passes n w (e ∷ events) = risen passes (if came passes (answer_to w e) then raised n else n) (after_event w e) events

-- whether there was work before or at one of these events
abbrev pub worked : Bool → World → List Event → Bool
worked before w [] = before
worked before w (e ∷ events) = worked (came is_work (answer_to w e) || before) (after_event w e) events

-- what was counted before, and then these events
abbrev pub added : Tally → World → List Event → Tally
added t w events = record { runs = risen is_run t.runs w events; posts = risen is_post t.posts w events; works = worked t.works w events }

-- what was counted before, and what came of one event more
abbrev pub noted : Tally → What → Tally
noted t what = record {
  runs = if is_run what then raised t.runs else t.runs;
  posts = if is_post what then raised t.posts else t.posts;
  works = is_work what || t.works;
}

-- an event happened and was counted, and this is told of it
pub record Comes (start : World) (event : Event) (before after : Tally) (came : Came) (now : World) : Type 0 where
  pub told : came ≡ told_of (answer_to start event)
  pub world : now ≡ after_event start event
  pub few : AreFew now
  pub differ : NamesDiffer now.services
  pub tally : after ≡ added before start (event ∷ [])

-- events of which this holds happened and were counted
pub record Does (start : World) (Are : World → List Event → Type 0) (before after : Tally) (now : World) : Type 0 where
  pub events : List Event
  pub are : Are start events
  pub happened : HaveHappened start events now
  pub tally : after ≡ added before start events

-- What was in hand was delivered, and so often what that wrote; and whether its sender is done with a post then.
pub record Delivers (start : World) (times : ℕ) (packet : Option ℕ) (before after : Tally) (told : Bool) (now : World) : Type 0 where
  pub events : List Event
  pub are : IsDelivered times start packet events
  pub happened : HaveHappened start events now
  pub tally : after ≡ added before start events
  pub is : told ≡ any_came is_done start events
  pub differ : AllDiffer start events

-- One exchange happened and was counted; and whether another one follows, which is where the sender is done with the post.
pub record Exchanges (start : World) (from to : List ℕ) (before after : Tally) (told : Bool) (now : World) : Type 0 where
  pub events : List Event
  pub are : IsExchange from to start events
  pub happened : HaveHappened start events now
  pub tally : after ≡ added before start events
  pub is : told ≡ goes_on from to start events
  pub done : told ≡ any_came is_done start events

-- a round was done, and its runs and posts were counted; and whether it had work
pub record DoesRound (start : World) (before after : Tally) (told : Bool) (now : World) : Type 0 where
  pub events : List Event
  pub are : IsRound start events
  pub happened : HaveHappened start events now
  pub runs : after.runs ≡ risen is_run before.runs start events
  pub posts : after.posts ≡ risen is_post before.posts start events
  pub is : told ≡ has_work start events
