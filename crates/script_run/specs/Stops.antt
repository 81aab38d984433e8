-- What is done of a script, and where its run stops.
use Rattle.std.specs.Prelude.{◌≡◌, ◌≢◌, ℕ, ◌+◌, false, List, [], ◌++◌, Option, None, take, drop}
use Rattle.io_edge.specs.Edge.{Writes, Wrote}
use Rattle.world_events.specs.Events.{after_events}
use Rattle.world_events.specs.Live.{AllCommitsEnd, IsLiveWorld}
use Rattle.world_events.specs.Sound.{AllFew, IsSound}
use Rattle.world_events.specs.Worlds.{World}
use Rattle.world_events.specs.declared.event.Event.{Event}
use Rattle.script_run.specs.Counting.{counted}
use Rattle.script_run.specs.Plays.{AreEventsIn, AreLiveLines, FirstPlay, IsRunOf, Played, is_long, lines_of}
use Rattle.script_run.specs.Told.{LineAnswer}
use Rattle.script_run.specs.declared.counts.Counts.{Counts}

-- ---- events

-- these events happened, one behind another, and after each of them each journal could be counted
pub record AreDone (start : World) (events : List Event) (now : World) : Type 0 where
  pub world : now ≡ after_events start events
  pub few : AllFew start events

-- events of which this holds are done, and what is said is said of them
pub record Does (start : World) (Are : List Event → Type 0) (Says : List Event → LineAnswer → Type 0) (said : LineAnswer) (now : World) : Type 0 where
  pub events : List Event
  pub are : Are events
  pub done : AreDone start events now
  pub told : Says events said

-- of events of which this holds some first are done
pub record DoesFirst (start : World) (Are : List Event → Type 0) (now : World) : Type 0 where
  pub events : List Event
  pub are : Are events
  pub count : ℕ
  pub done : AreDone start (take count events) now

-- ---- a script

-- where the one world was sound, the other is
abbrev pub KeepsSound : World → World → Type 0
KeepsSound before now = IsSound before → IsSound now

-- A script comes to exactly one thing, whose world is the one after its events. So what is delivered of an `ask` comes to an end.
pub record IsDetermined (start : World) (script : List ℕ) : Type 0 where
  pub p : Played
  pub run : IsRunOf start script p
  pub alone : (q : Played) → IsRunOf start script q → q ≡ p
  pub leads : p.world ≡ after_events start p.events

-- Where a script has lines of live requests alone, each call of each request that is committed at these events of it ended:
-- what the call consumes is the response of its callee's one entry of it, or its register says why there is none.
abbrev pub AreTold : World → List ℕ → List Event → Type 0
AreTold start script events = AreLiveLines (lines_of script) → AllCommitsEnd start events

-- so it is where nothing was repaired before
abbrev pub TellsFrom : World → List ℕ → List Event → Type 0
TellsFrom start script events = IsSound start → IsLiveWorld start → AreTold start script events

-- all that a script comes to is done and written, and it is refused so, if it is
pub record DoesAll (start : World) (script : List ℕ) (refused : Option (ℕ × ℕ)) (now : World) (before after : Writes) : Type 0 where
  pub p : Played
  pub run : IsRunOf start script p
  pub ends : p.refused ≡ refused
  pub same_world : now ≡ p.world
  pub wrote : Wrote before after (p.said).text
  pub told : TellsFrom start script p.events

-- a script comes to these counts
pub record AreCountsOf (start : World) (script : List ℕ) (counts : Counts) : Type 0 where
  pub p : Played
  pub run : IsRunOf start script p
  pub are : counts ≡ counted (p.said).counts

-- Some first lines are done, and what they print is written; of the line behind them some first events happened, and
-- nothing of it is written.
pub record StopsEarly (start : World) (script : List ℕ) (now : World) (before after : Writes) : Type 0 where
  pub short : is_long script ≡ false
  pub lines : ℕ
  pub p : Played
  pub first : FirstPlay lines start script p
  pub not_refused : p.refused ≡ None
  pub next : DoesFirst p.world (AreEventsIn p.world (drop lines (lines_of script))) now
  pub wrote : Wrote before after (p.said).text
  pub told : TellsFrom start script (p.events ++ take next.count next.events)

-- All of the first text was written, and of the whole, which goes on behind it, not all.
abbrev pub WroteInto : Writes → Writes → List ℕ → List ℕ → Type 0
WroteInto before now first whole =
    (piece : List ℕ) × (rest : List ℕ) × (whole ≡ first ++ (piece ++ rest)) × (rest ≢ []) × Wrote before now (first ++ piece)

-- Some first lines are done and all that they print was written; the line behind them is done too, and not all that it
-- prints was written.
pub record StopsInLine (start : World) (script : List ℕ) (now : World) (before after : Writes) : Type 0 where
  pub short : is_long script ≡ false
  pub lines : ℕ
  pub p : Played
  pub first : FirstPlay lines start script p
  pub whole : Played
  pub with_line : FirstPlay (lines + 1) start script whole
  pub not_refused : whole.refused ≡ None
  pub same_world : now ≡ whole.world
  pub wrote : WroteInto before after (p.said).text (whole.said).text
  pub told : TellsFrom start script whole.events
