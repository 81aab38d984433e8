-- Services that settle, all of it or some first events.
use Rattle.std.proofs.Common.{◌≡◌, ℕ, List, ◌++◌, Ok, ap, length, sym, subst}
use Rattle.world_events.specs.Worlds.{World}
use Rattle.world_events.specs.declared.event.Event.{Event}
use Rattle.world_settle.specs.Doing.{AreOfSettling, Settles, SettlesFirst}
use Rattle.world_settle.specs.declared.settled.Settled.{Settled}
use Rattle.script_run.specs.Settling.{SaysSettled, settled_said}
use Rattle.script_run.specs.Stops.{AreDone, Does, DoesFirst}
use Rattle.script_run.specs.declared.counts.Said.{Said}
use Rattle.script_run.proofs.Following.{does_all_first, take_done}

settling_done : (w now : World) (n : ℕ) (settled : Settled) (s : Settles w n settled now) → AreDone w s.events now
settling_done w now n settled s = record { world = (s.happened).world; few = (s.happened).few }

-- all of it is said
pub settling_does : (w now : World) (n : ℕ) (settled : Settled) (said : Said) → Settles w n settled now → said ≡ settled_said settled
    → Does w (AreOfSettling n w) (SaysSettled n w) (Ok said) now
settling_does w now n settled said s is = record {
  events = s.events;
  are = (settled, s.are);
  done = settling_done w now n settled s;
  told = (settled, s.are, ap (λ (x : Said). Ok x) is);
}

-- all of it happened, and nothing is said
pub settling_all : (w now : World) (n : ℕ) (settled : Settled) → Settles w n settled now → DoesFirst w (AreOfSettling n w) now
settling_all w now n settled s = does_all_first w now (AreOfSettling n w) s.events (settled, s.are) (settling_done w now n settled s)

-- some of it happened
pub settling_first : (w now : World) (n : ℕ) → SettlesFirst w n now → DoesFirst w (AreOfSettling n w) now
settling_first w now n f =
    let D : List Event → Type 0 = λ es. AreDone w es now in
    let done : AreDone w f.done now = record { world = (f.happened).world; few = (f.happened).few } in
    record {
      events = f.done ++ f.rest;
      are = f.are;
      count = length f.done;
      done = subst D (sym (take_done f.done f.rest)) done;
    }
