-- How a script stands before one of its lines, and where it stops.
use Rattle.std.proofs.Common.{◌≡◌, ℕ, ◌+◌, true, false, List, [], ◌∷◌, ◌++◌, Some, None, Ok, Err, take, drop, refl, ap, sym, ◌∙◌, subst}
use Rattle.io_edge.specs.Edge.{Writes, Wrote, WroteShort}
use Rattle.std.proofs.lemmas.List.{append-nil}
use Rattle.io_edge.proofs.Pieces.{wrote_more}
use Rattle.world_events.specs.Live.{AllLiveEvents}
use Rattle.world_events.specs.Sound.{IsSound}
use Rattle.world_events.specs.Worlds.{World}
use Rattle.world_events.specs.declared.event.Event.{Event}
use Rattle.world_settle.proofs.HandedOn.{events_sound, live_events}
use Rattle.script_lines.specs.Faults.{fault_number}
use Rattle.script_lines.specs.Lines.{line_at}
use Rattle.script_lines.specs.declared.line.LineFault.{LineFault}
use Rattle.script_lines.specs.declared.line.LineFault.TheVariants.{TooLong}
use Rattle.script_run.specs.Counting.{both, counted, no_counts, said_then}
use Rattle.script_run.specs.Plays.{ended, refused_at, AreEventsFor, AreEventsIn, AreLiveLines, FirstPlay, Played, SaysFor, is_long, lines_of}
use Rattle.script_run.specs.Told.{LineAnswer}
use Rattle.script_run.specs.Stops.{AreCountsOf, AreDone, TellsFrom, Does, DoesAll, DoesFirst, KeepsSound, StopsEarly, StopsInLine}
use Rattle.script_run.specs.declared.counts.Counts.{Counts}
use Rattle.script_run.specs.declared.counts.Said.{Said}
use Rattle.script_run.proofs.CountLaws.{counted_more}
use Rattle.script_run.proofs.LineLaws.{live_for, refused_still}
use Rattle.script_run.proofs.PlayLaws.{all_play, done_then, gone, lines_drop, lines_take, live_append, live_take, next_plays, long_run, play_live, refused_play, short_run}

-- ---- what follows for events that are done

-- a world that was sound is so still
pub done_sound : (start now : World) (events : List Event) → AreDone start events now → KeepsSound start now
done_sound start now events d = λ sound. subst IsSound (sym d.world) (events_sound events start sound d.few)

-- and where they are of live requests, each call of a request that is committed ended
pub done_told : (start now : World) (script : List ℕ) (events : List Event) → AreDone start events now → (AreLiveLines (lines_of script) → AllLiveEvents events)
    → TellsFrom start script events
done_told start now script events d live = λ sound lives lines. live_events events start sound lives (live lines) d.few

first_live : (n : ℕ) (start : World) (script : List ℕ) (p : Played) → FirstPlay n start script p → AreLiveLines (lines_of script) → AllLiveEvents p.events
first_live n start script p first lines = play_live 1 start (take n (lines_of script)) p (lines_take n (lines_of script) lines) first

-- the events of the line behind these
line_live : (n : ℕ) (w : World) (script line : List ℕ) (rest : List (List ℕ)) (events : List Event) → drop n (lines_of script) ≡ line ∷ rest → AreEventsFor w (line_at line) events
    → AreLiveLines (lines_of script) → AllLiveEvents events
line_live n w script line rest events left are lines =
    let here : AreLiveLines (line ∷ rest) = subst AreLiveLines left (lines_drop n (lines_of script) lines) in
    live_for w (line_at line) events here.0 are

-- ---- before a line

-- some first lines of a script that isn't too long are done, written and counted, and none of them was refused
pub record Stands (start : World) (script : List ℕ) (n : ℕ) (now : World) (counts : Counts) (before after : Writes) : Type 0 where
  pub short : is_long script ≡ false
  pub p : Played
  pub first : FirstPlay n start script p
  pub goes : p.refused ≡ None
  pub done : AreDone start p.events now
  pub world : now ≡ p.world
  pub counts_are : counts ≡ counted (p.said).counts
  pub wrote : Wrote before after (p.said).text

-- these lines, and then one that is refused
abbrev refused_behind : ℕ → ℕ → Played → Played
refused_behind line number p = record { events = p.events; world = p.world; said = p.said; refused = Some (line, number) }

-- none is done yet
pub stands_first : (start : World) (script : List ℕ) (a : Writes) → is_long script ≡ false → Stands start script 0 start no_counts a a
stands_first start script a short = record {
  short = short;
  p = ended start;
  first = refl;
  goes = refl;
  done = record { world = refl; few = tt };
  world = refl;
  counts_are = refl;
  wrote = λ all told. told ∙ ap Some (sym (append-nil all));
}

-- a script that is too long is refused, before any line
pub long_does : (start : World) (script : List ℕ) (a : Writes) → is_long script ≡ true → DoesAll start script (Some (0, fault_number TooLong)) start a a
long_does start script a long = record {
  p = refused_at 0 (fault_number TooLong) start;
  run = long_run start script long;
  ends = refl;
  same_world = refl;
  wrote = λ all told. told ∙ ap Some (sym (append-nil all));
  told = λ _ _ _. tt;
}

module _ (start : World) (script : List ℕ) (n : ℕ) (now : World) (counts : Counts) (a b : Writes) (s : Stands start script n now counts a b) where
  -- at its end all is done
  pub all_does : drop n (lines_of script) ≡ [] → DoesAll start script None now a b
  all_does left = record {
    p = s.p;
    run = short_run start script s.p s.short (all_play n start script s.p left s.first);
    ends = s.goes;
    same_world = s.world;
    wrote = s.wrote;
    told = done_told start now script (s.p).events s.done (first_live n start script s.p s.first);
  }

  -- and counted
  pub all_counts : drop n (lines_of script) ≡ [] → AreCountsOf start script counts
  all_counts left = record { p = s.p; run = short_run start script s.p s.short (all_play n start script s.p left s.first); are = s.counts_are }

  -- it was sound all the time
  pub stands_sound : KeepsSound start now
  stands_sound = done_sound start now (s.p).events s.done

  module _ (line : List ℕ) (rest : List (List ℕ)) (left : drop n (lines_of script) ≡ line ∷ rest) where
    -- in the world in which the lines before it end
    line_does : (said : LineAnswer) (then : World) → Does now (AreEventsFor now (line_at line)) (SaysFor now (line_at line)) said then
        → Does (s.p).world (AreEventsFor (s.p).world (line_at line)) (SaysFor (s.p).world (line_at line)) said then
    line_does said then d =
        let D : World → Type 0 = λ w. Does w (AreEventsFor w (line_at line)) (SaysFor w (line_at line)) said then in
        subst D s.world d

    done_line : (then : World) (events : List Event) → AreDone (s.p).world events then → AreDone start ((s.p).events ++ events) then
    done_line then events d =
        let D : World → Type 0 = λ w. AreDone w events then in
        done_then start now then (s.p).events events s.done (subst D (sym s.world) d)

    -- the next line is done, written and counted
    pub next_stands : (said : Said) (then : World) (c : Writes) → Does now (AreEventsFor now (line_at line)) (SaysFor now (line_at line)) (Ok said) then → Wrote b c said.text
        → Stands start script (n + 1) then (counted (both counts said.counts)) a c
    next_stands said then c does wrote =
        let d = line_does (Ok said) then does in
        record {
          short = s.short;
          p = gone ((s.p).events ++ d.events) then (said_then (s.p).said said);
          first = next_plays n start then script line said rest s.p left s.first s.goes d;
          goes = refl;
          done = done_line then d.events d.done;
          world = refl;
          counts_are = ap (λ (k : Counts). counted (both k said.counts)) s.counts_are ∙ counted_more ((s.p).said).counts said.counts;
          wrote = wrote_more a b c ((s.p).said).text said.text s.wrote wrote;
        }

    -- the next line is refused, and does nothing
    pub refused_does : (fault : LineFault) (then : World) → Does now (AreEventsFor now (line_at line)) (SaysFor now (line_at line)) (Err fault) then
        → DoesAll start script (Some (n + 1, fault_number fault)) then a b
    refused_does fault then does =
        let d = line_does (Err fault) then does in
        let still = refused_still (s.p).world (line_at line) d.events fault d.are d.told in
        record {
          p = refused_behind (n + 1) (fault_number fault) s.p;
          run = short_run start script (refused_behind (n + 1) (fault_number fault) s.p) s.short (refused_play n start then script line rest s.p fault left s.first s.goes d);
          ends = refl;
          same_world = (d.done).world ∙ still;
          wrote = s.wrote;
          told = done_told start now script (s.p).events s.done (first_live n start script s.p s.first);
        }

    -- memory is wanting in the next line
    pub stopped : (then : World) → DoesFirst now (AreEventsFor now (line_at line)) then → StopsEarly start script then a b
    stopped then d =
        let D : World → Type 0 = λ w. DoesFirst w (AreEventsFor w (line_at line)) then in
        let f = subst D s.world d in
        let L : List (List ℕ) → Type 0 = λ lines. AreEventsIn (s.p).world lines f.events in
        let some = take f.count f.events in
        record {
          short = s.short;
          lines = n;
          p = s.p;
          first = s.first;
          not_refused = s.goes;
          next = record { events = f.events; are = subst L (sym left) f.are; count = f.count; done = f.done };
          wrote = s.wrote;
          told = done_told start then script ((s.p).events ++ some) (done_line then some f.done)
              (λ lines. live_append (s.p).events some (first_live n start script s.p s.first lines) (live_take f.count f.events (line_live n (s.p).world script line rest f.events left f.are lines)));
        }

    pub stopped_sound : (then : World) → DoesFirst now (AreEventsFor now (line_at line)) then → KeepsSound start then
    stopped_sound then d = λ sound. done_sound now then (take d.count d.events) d.done (stands_sound sound)

    -- it is done, and what it prints isn't written whole
    pub cut_short : (said : Said) (then : World) (c : Writes) → Does now (AreEventsFor now (line_at line)) (SaysFor now (line_at line)) (Ok said) then → WroteShort b c said.text
        → StopsInLine start script then a c
    cut_short said then c does short =
        let d = line_does (Ok said) then does in
        let whole = gone ((s.p).events ++ d.events) then (said_then (s.p).said said) in
        let first = next_plays n start then script line said rest s.p left s.first s.goes d in
        record {
          short = s.short;
          lines = n;
          p = s.p;
          first = s.first;
          whole = whole;
          with_line = first;
          not_refused = refl;
          same_world = refl;
          wrote = (short.0, short.1, ap (λ (x : List ℕ). ((s.p).said).text ++ x) short.2, short.3, wrote_more a b c ((s.p).said).text short.0 s.wrote short.4);
          told = done_told start then script ((s.p).events ++ d.events) (done_line then d.events d.done) (first_live (n + 1) start script whole first);
        }

    pub does_sound : (said : LineAnswer) (then : World) → Does now (AreEventsFor now (line_at line)) (SaysFor now (line_at line)) said then → KeepsSound start then
    does_sound said then d = λ sound. done_sound now then d.events d.done (stands_sound sound)
