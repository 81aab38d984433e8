-- The lines of a script, one after another.
use Rattle.std.proofs.Common.{◌≡◌, ◌≢◌, ℕ, ◌+◌, ◌-◌, ◌^◌, zero, ◌<◌, ◌≤◌, Bool, true, false, cond, List, [], ◌∷◌, ◌++◌, Option, Some, None, Ok, Err, length, take, drop, ltb, suc, ◌==◌, add-zero, length-drop, refl, ap, sym, ◌∙◌, subst, append_assoc, arith}
use Rattle.std.specs.List.{position, position_or_len, slice_split}
use Rattle.std.proofs.lemmas.List.Splits.{slice_split_first, slice_split_none}
use Rattle.std.proofs.lemmas.Bool.Decides.{nat_tests}
use Rattle.std.proofs.lemmas.Bool.{ltb-true}
use Rattle.std.proofs.lemmas.List.Sums.{fails_before_first}
use Rattle.std.proofs.Math.Seq.{take-add}
use Rattle.std.proofs.lemmas.List.{append-nil, drop-drop, length-take, take-append-drop}
use Rattle.io_edge.specs.Edge.{Writes, WroteFront}
use Rattle.world_events.specs.Events.{after_event, after_events}
use Rattle.world_events.specs.Live.{AllLiveEvents}
use Rattle.world_events.specs.Sound.{AllFew}
use Rattle.world_events.specs.Worlds.{World}
use Rattle.world_events.specs.declared.event.Event.{Event}
use Rattle.script_lines.specs.declared.line.LineFault.{LineFault}
use Rattle.script_lines.specs.declared.line.LineFault.TheVariants.{TooLong}
use Rattle.script_lines.specs.Faults.{fault_number}
use Rattle.script_lines.specs.Lines.{line_at}
use Rattle.script_run.specs.Counting.{nothing_said, said_then}
use Rattle.script_run.specs.Told.{LineAnswer}
use Rattle.script_run.specs.Plays.{AreEventsFor, AreLiveLines, FirstPlay, GoesOn, IsPlayed, IsRunOf, Played, Plays, RunsIfLong, SaysFor, played_after, ended, is_long, lines_of, refused_at, unless_empty, with_last}
use Rattle.script_run.specs.Stops.{AreDone, Does, IsDetermined, StopsEarly}
use Rattle.script_run.specs.declared.counts.Said.{Said}
use Rattle.script_run.proofs.CountLaws.{nothing_then, said_assoc, then_nothing}
use Rattle.script_run.proofs.LineLaws.{events_for, live_for, one_answer, one_for, said_for}

-- ---- where the first line ends

end_at : (b : Bool) (bytes : List ℕ) (end : ℕ) → ltb (position_or_len (λ b. b == 10) bytes) (length bytes) ≡ b → cond b (Some (position_or_len (λ b. b == 10) bytes)) None ≡ Some end
    → (position_or_len (λ b. b == 10) bytes < length bytes) × (position_or_len (λ b. b == 10) bytes ≡ end)
end_at true bytes end h e = (ltb-true _ _ h, cc)
end_at false bytes end h e = cc

no_end : (b : Bool) (bytes : List ℕ) (o : Option ℕ) → ltb (position_or_len (λ b. b == 10) bytes) (length bytes) ≡ b → cond b (Some (position_or_len (λ b. b == 10) bytes)) None ≡ o → o ≡ None → length bytes ≤ position_or_len (λ b. b == 10) bytes
no_end true bytes o h e none = cc
no_end false bytes o h e none = grind (arith, nat_tests)

-- a text has at least one piece between line feeds
pieces_of : (o : Option ℕ) (bytes : List ℕ) → position (λ b. b == 10) bytes ≡ o → (x : List ℕ) × (xs : List (List ℕ)) × (slice_split (λ b. b == 10) bytes ≡ x ∷ xs)
pieces_of (Some end) bytes e =
    let p = end_at _ bytes end refl e in
    (take end bytes, slice_split (λ b. b == 10) (drop (end + 1) bytes), slice_split_first (λ b. b == 10) bytes 0 p.0 ∙ rw p.1 refl)
pieces_of None bytes e =
    let far = no_end _ bytes None refl e refl in
    (bytes, [], slice_split_none (λ b. b == 10) bytes (λ k d h. fails_before_first (λ b. b == 10) bytes k d (omega (arith, far, h))))

pub line_found : (bytes : List ℕ) (end : ℕ) → position (λ b. b == 10) bytes ≡ Some end → lines_of bytes ≡ take end bytes ∷ lines_of (drop (end + 1) bytes)
line_found bytes end e =
    let p = end_at _ bytes end refl e in
    let rest = drop (end + 1) bytes in
    let more = pieces_of (position (λ b. b == 10) rest) rest refl in
    let L : List (List ℕ) → Type 0 = λ xs. with_last (take end bytes ∷ xs) ≡ take end bytes ∷ with_last xs in
    let cut : slice_split (λ b. b == 10) bytes ≡ take end bytes ∷ slice_split (λ b. b == 10) rest = slice_split_first (λ b. b == 10) bytes 0 p.0 ∙ rw p.1 refl in
    ap with_last cut ∙ subst L (sym more.2) refl

-- a last line isn't empty
kept_last : (bytes : List ℕ) → bytes ≢ [] → unless_empty bytes ≡ bytes ∷ []
kept_last [] some = absurd (some refl)
kept_last (b ∷ bytes) some = refl

pub line_last : (bytes : List ℕ) → bytes ≢ [] → position (λ b. b == 10) bytes ≡ None → lines_of bytes ≡ bytes ∷ lines_of []
line_last bytes some e =
    let far = no_end _ bytes None refl e refl in
    let whole : slice_split (λ b. b == 10) bytes ≡ bytes ∷ [] =
    slice_split_none (λ b. b == 10) bytes (λ k d h. fails_before_first (λ b. b == 10) bytes k d (omega (arith, far, h))) in
    ap with_last whole ∙ kept_last bytes some

pub some_bytes : (bytes : List ℕ) → (length bytes == 0) ≡ false → bytes ≢ []
some_bytes bytes e none = let no : (length bytes == 0) ≡ true = ap (λ (x : List ℕ). length x == 0) none in cc

-- ---- some lines, and then others

behind_behind : (xs ys : List Event) (a b : Said) (p : Played) → played_after (xs ++ ys) (said_then a b) p ≡ played_after xs a (played_after ys b p)
behind_behind xs ys a b p =
    ap (λ (es : List Event). record { events = es; world = p.world; said = said_then (said_then a b) p.said; refused = p.refused }) (append_assoc xs ys p.events)
    ∙ ap (λ (o : Said). record { events = xs ++ (ys ++ p.events); world = p.world; said = o; refused = p.refused }) (said_assoc a b p.said)

goes_then : (n : ℕ) (w : World) (events : List Event) (said : LineAnswer) (xs ys : List (List ℕ)) (p q : Played)
    (more : (now : World) (rest : Played) → Plays (n + 1) now xs rest → rest.refused ≡ None → Plays (n + 1 + length xs) rest.world ys q
    → Plays (n + 1) now (xs ++ ys) (played_after rest.events rest.said q))
    → GoesOn n w events said (λ next rest. Plays (n + 1) next xs rest) p → p.refused ≡ None → Plays (n + 1 + length xs) p.world ys q
    → GoesOn n w events said (λ next rest. Plays (n + 1) next (xs ++ ys) rest) (played_after p.events p.said q)
goes_then n w events (Ok said) xs ys p q more g e b =
    let rest = g.0 in
    let R : Played → Type 0 = λ x. x.refused ≡ None in
    let W : Played → Type 0 = λ x. Plays (n + 1 + length xs) x.world ys q in
    let same : played_after p.events p.said q ≡ played_after events said (played_after rest.events rest.said q) =
    ap (λ (x : Played). played_after x.events x.said q) g.2 ∙ behind_behind events rest.events said rest.said q in
    (played_after rest.events rest.said q, more (after_events w events) rest g.1 (subst R g.2 e) (subst W g.2 b), same)
goes_then n w events (Err fault) xs ys p q more g e b =
    let no : None ≡ Some (n, fault_number fault) = sym e ∙ ap (λ (x : Played). x.refused) g in cc

-- what some lines come to, and then the others
pub plays_then : (n : ℕ) (w : World) (xs ys : List (List ℕ)) (p q : Played) → Plays n w xs p → p.refused ≡ None → Plays (n + length xs) p.world ys q
    → Plays n w (xs ++ ys) (played_after p.events p.said q)
plays_then n w [] ys p q a e b =
    let B : Played → Type 0 = λ x. Plays (n + 0) x.world ys q in
    let N : ℕ → Type 0 = λ k. Plays k w ys q in
    let Q : Played → Type 0 = λ x. Plays n w ys x in
    let same : played_after p.events p.said q ≡ q =
    ap (λ (x : Played). played_after x.events x.said q) a ∙ ap (λ (o : Said). record { events = q.events; world = q.world; said = o; refused = q.refused }) (nothing_then q.said) in
    subst Q (sym same) (subst N (add-zero n) (subst B a b))
plays_then n w (x ∷ xs) ys p q a e b =
    let same : n + suc (length xs) ≡ n + 1 + length xs = omega arith in
    let N : ℕ → Type 0 = λ k. Plays k p.world ys q in (
      a.0,
      a.1,
      a.2,
      a.3,
      goes_then n w a.0 a.2 xs ys p q (λ now rest c d f. plays_then (n + 1) now xs ys rest q c d f) a.4 e (subst N same b),
    )

-- ---- there is one thing that lines come to

has_goes : (n : ℕ) (w : World) (events : List Event) (said : LineAnswer) (Rest : World → Played → Type 0) → ((now : World) → (r : Played) × Rest now r) → (p : Played) × GoesOn n w events said Rest p
has_goes n w events (Ok said) Rest rest =
    let r = rest (after_events w events) in
    (played_after events said r.0, (r.0, r.1, refl))
has_goes n w events (Err fault) Rest rest = (refused_at n (fault_number fault) w, refl)

pub has_play : (n : ℕ) (w : World) (lines : List (List ℕ)) → (p : Played) × Plays n w lines p
has_play n w [] = (ended w, refl)
has_play n w (line ∷ lines) =
    let es = events_for w (line_at line) in
    let said = said_for w (line_at line) es.0 es.1 in
    let g = has_goes n w es.0 said.0 (λ next rest. Plays (n + 1) next lines rest) (λ now. has_play (n + 1) now lines) in
    (g.0, (es.0, es.1, said.0, said.1, g.1))

one_goes : (n : ℕ) (w : World) (events : List Event) (said : LineAnswer) (Rest : World → Played → Type 0) (p q : Played)
    → ((now : World) (r s : Played) → Rest now r → Rest now s → r ≡ s) → GoesOn n w events said Rest p → GoesOn n w events said Rest q → p ≡ q
one_goes n w events (Ok said) Rest p q one a b = a.2 ∙ ap (played_after events said) (one (after_events w events) a.0 b.0 a.1 b.1) ∙ sym b.2
one_goes n w events (Err fault) Rest p q one a b = a ∙ sym b

pub one_play : (n : ℕ) (w : World) (lines : List (List ℕ)) (p q : Played) → Plays n w lines p → Plays n w lines q → p ≡ q
one_play n w [] p q a b = a ∙ sym b
one_play n w (line ∷ lines) p q a b =
    let same : a.0 ≡ b.0 = one_for w (line_at line) a.0 b.0 a.1 b.1 in
    let Rest : World → Played → Type 0 = λ next rest. Plays (n + 1) next lines rest in
    let S : List Event → Type 0 = λ es. SaysFor w (line_at line) es a.2 in
    let told : a.2 ≡ b.2 = one_answer w (line_at line) b.0 a.2 b.2 (subst S same a.3) b.3 in
    let G : List Event → Type 0 = λ es. GoesOn n w es a.2 Rest p in
    let T : LineAnswer → Type 0 = λ said. GoesOn n w b.0 said Rest p in
    one_goes n w b.0 b.2 Rest p q (λ now r s c d. one_play (n + 1) now lines r s c d) (subst T told (subst G same a.4)) b.4

-- ---- a whole script

-- a script that isn't too long is played
pub short_run : (w : World) (script : List ℕ) (p : Played) → is_long script ≡ false → IsPlayed w script p → IsRunOf w script p
short_run w script p short played = let R : Bool → Type 0 = λ b. RunsIfLong b w script p in subst R (sym short) played

-- one that is is refused
pub long_run : (w : World) (script : List ℕ) → is_long script ≡ true → IsRunOf w script (refused_at 0 (fault_number TooLong) w)
long_run w script long = let R : Bool → Type 0 = λ b. RunsIfLong b w script (refused_at 0 (fault_number TooLong) w) in subst R (sym long) refl

one_run_of : (long : Bool) (w : World) (script : List ℕ) (p q : Played) → RunsIfLong long w script p → RunsIfLong long w script q → p ≡ q
one_run_of true w script p q a b = a ∙ sym b
one_run_of false w script p q a b = one_play 1 w (lines_of script) p q a b

pub one_run : (w : World) (script : List ℕ) (p q : Played) → IsRunOf w script p → IsRunOf w script q → p ≡ q
one_run w script p q a b = one_run_of (is_long script) w script p q a b

has_run_of : (long : Bool) (w : World) (script : List ℕ) → (p : Played) × RunsIfLong long w script p
has_run_of true w script = (refused_at 0 (fault_number TooLong) w, refl)
has_run_of false w script = has_play 1 w (lines_of script)

-- ---- events

pub after_append : (w : World) (xs ys : List Event) → after_events w (xs ++ ys) ≡ after_events (after_events w xs) ys
after_append w [] ys = refl
after_append w (e ∷ xs) ys = after_append (after_event w e) xs ys

few_append : (w : World) (xs ys : List Event) → AllFew w xs → AllFew (after_events w xs) ys → AllFew w (xs ++ ys)
few_append w [] ys a b = b
few_append w (e ∷ xs) ys a b = (a.0, few_append (after_event w e) xs ys a.1 b)

-- some events are done, and then others
pub done_then : (start mid now : World) (xs ys : List Event) → AreDone start xs mid → AreDone mid ys now → AreDone start (xs ++ ys) now
done_then start mid now xs ys a b =
    let F : World → Type 0 = λ w. AllFew w ys in
    record {
      world = b.world ∙ ap (λ w. after_events w ys) a.world ∙ sym (after_append start xs ys);
      few = few_append start xs ys a.few (subst F a.world b.few);
    }

goes_leads : (n : ℕ) (w : World) (events : List Event) (said : LineAnswer) (Rest : World → Played → Type 0) (p : Played)
    → ((now : World) (r : Played) → Rest now r → r.world ≡ after_events now r.events) → GoesOn n w events said Rest p → p.world ≡ after_events w p.events
goes_leads n w events (Ok said) Rest p leads g =
    let L : Played → Type 0 = λ x. x.world ≡ after_events w x.events in
    subst L (sym g.2) (leads (after_events w events) g.0 g.1 ∙ sym (after_append w events (g.0).events))
goes_leads n w events (Err fault) Rest p leads g =
    let L : Played → Type 0 = λ x. x.world ≡ after_events w x.events in
    subst L (sym g) refl

-- the world that lines lead to is the one after their events
pub play_leads : (n : ℕ) (w : World) (lines : List (List ℕ)) (p : Played) → Plays n w lines p → p.world ≡ after_events w p.events
play_leads n w [] p a = let L : Played → Type 0 = λ x. x.world ≡ after_events w x.events in subst L (sym a) refl
play_leads n w (line ∷ lines) p a =
    goes_leads n w a.0 a.2 (λ next rest. Plays (n + 1) next lines rest) p (λ now r c. play_leads (n + 1) now lines r c) a.4

run_leads : (long : Bool) (w : World) (script : List ℕ) (p : Played) → RunsIfLong long w script p → p.world ≡ after_events w p.events
run_leads true w script p a = let L : Played → Type 0 = λ x. x.world ≡ after_events w x.events in subst L (sym a) refl
run_leads false w script p a = play_leads 1 w (lines_of script) p a

-- a script comes to one thing
pub determined : (w : World) (script : List ℕ) → IsDetermined w script
determined w script =
    let h = has_run_of (is_long script) w script in
    record {
      p = h.0;
      run = h.1;
      alone = λ q other. one_run w script q h.0 other h.1;
      leads = run_leads (is_long script) w script h.0 h.1;
    }

-- ---- lines of live requests

pub live_append : (xs ys : List Event) → AllLiveEvents xs → AllLiveEvents ys → AllLiveEvents (xs ++ ys)
live_append [] ys a b = b
live_append (e ∷ xs) ys a b = (a.0, live_append xs ys a.1 b)

pub live_take : (n : ℕ) (xs : List Event) → AllLiveEvents xs → AllLiveEvents (take n xs)
live_take zero xs a = tt
live_take (suc n) [] a = tt
live_take (suc n) (e ∷ xs) a = (a.0, live_take n xs a.1)

pub lines_take : (n : ℕ) (lines : List (List ℕ)) → AreLiveLines lines → AreLiveLines (take n lines)
lines_take zero lines a = tt
lines_take (suc n) [] a = tt
lines_take (suc n) (line ∷ lines) a = (a.0, lines_take n lines a.1)

pub lines_drop : (n : ℕ) (lines : List (List ℕ)) → AreLiveLines lines → AreLiveLines (drop n lines)
lines_drop zero lines a = a
lines_drop (suc n) [] a = a
lines_drop (suc n) (line ∷ lines) a = lines_drop n lines a.1

goes_live : (n : ℕ) (w : World) (events : List Event) (said : LineAnswer) (Rest : World → Played → Type 0) (p : Played) → AllLiveEvents events
    → ((now : World) (r : Played) → Rest now r → AllLiveEvents r.events) → GoesOn n w events said Rest p → AllLiveEvents p.events
goes_live n w events (Ok said) Rest p live rest g =
    let L : Played → Type 0 = λ x. AllLiveEvents x.events in
    subst L (sym g.2) (live_append events (g.0).events live (rest (after_events w events) g.0 g.1))
goes_live n w events (Err fault) Rest p live rest g = let L : Played → Type 0 = λ x. AllLiveEvents x.events in subst L (sym g) tt

-- they have no other events
pub play_live : (n : ℕ) (w : World) (lines : List (List ℕ)) (p : Played) → AreLiveLines lines → Plays n w lines p → AllLiveEvents p.events
play_live n w [] p live a = let L : Played → Type 0 = λ x. AllLiveEvents x.events in subst L (sym a) tt
play_live n w (line ∷ lines) p live a =
    goes_live n w a.0 a.2 (λ next rest. Plays (n + 1) next lines rest) p (live_for w (line_at line) a.0 live.0 a.1)
    (λ now r c. play_live (n + 1) now lines r live.1 c) a.4

-- ---- the line behind some first lines

take_line : (lines rest : List (List ℕ)) (n : ℕ) (line : List ℕ) → drop n lines ≡ line ∷ rest → take (n + 1) lines ≡ take n lines ++ line ∷ []
take_line lines rest n line e = take-add n 1 lines ∙ ap (λ (x : List (List ℕ)). take n lines ++ take 1 x) e

length_taken : (lines rest : List (List ℕ)) (n : ℕ) (line : List ℕ) → drop n lines ≡ line ∷ rest → length (take n lines) ≡ n
length_taken lines rest n line d = omega (arith, length-take n lines, length-drop n lines, ap length d)

-- what is done where no line was refused
abbrev pub gone : List Event → World → Said → Played
gone events now said = record { events = events; world = now; said = said; refused = None }

-- a line that is good, as lines
line_plays : (n : ℕ) (w now : World) (line : List ℕ) (said : Said) (d : Does w (AreEventsFor w (line_at line)) (SaysFor w (line_at line)) (Ok said) now)
    → Plays n w (line ∷ []) (played_after d.events said (ended now))
line_plays n w now line said d =
    (d.events, d.are, Ok said, d.told, (ended (after_events w d.events), refl, ap (λ next. played_after d.events said (ended next)) (d.done).world))

-- one line more
pub next_plays : (n : ℕ) (start now : World) (script line : List ℕ) (said : Said) (rest : List (List ℕ)) (p : Played) → drop n (lines_of script) ≡ line ∷ rest
    → FirstPlay n start script p → p.refused ≡ None → (d : Does p.world (AreEventsFor p.world (line_at line)) (SaysFor p.world (line_at line)) (Ok said) now)
    → FirstPlay (n + 1) start script (gone (p.events ++ d.events) now (said_then p.said said))
next_plays n start now script line said rest p left first goes d =
    let lines = take n (lines_of script) in
    let more = plays_then 1 start lines (line ∷ []) p (played_after d.events said (ended now)) first goes (line_plays (1 + length lines) p.world now line said d) in
    let same : played_after p.events p.said (played_after d.events said (ended now)) ≡ gone (p.events ++ d.events) now (said_then p.said said) =
    ap (λ (es : List Event). gone (p.events ++ es) now (said_then p.said (said_then said nothing_said))) (append-nil d.events)
    ∙ ap (λ (o : Said). gone (p.events ++ d.events) now (said_then p.said o)) (then_nothing said) in
    let Q : Played → Type 0 = λ x. Plays 1 start (lines ++ line ∷ []) x in
    let L : List (List ℕ) → Type 0 = λ xs. Plays 1 start xs (gone (p.events ++ d.events) now (said_then p.said said)) in
    subst L (sym (take_line (lines_of script) rest n line left)) (subst Q same more)

-- the lines are all done
pub all_play : (n : ℕ) (start : World) (script : List ℕ) (p : Played) → drop n (lines_of script) ≡ [] → FirstPlay n start script p → IsPlayed start script p
all_play n start script p left first =
    let lines = take n (lines_of script) in
    let whole : lines ≡ lines_of script = sym (append-nil lines) ∙ ap (λ (x : List (List ℕ)). lines ++ x) (sym left) ∙ take-append-drop n (lines_of script) in
    let L : List (List ℕ) → Type 0 = λ xs. Plays 1 start xs p in
    subst L whole first

-- some lines are done, and the others follow
pub more_play : (n : ℕ) (start : World) (script : List ℕ) (p q : Played) → FirstPlay n start script p → p.refused ≡ None
    → Plays (1 + length (take n (lines_of script))) p.world (drop n (lines_of script)) q → IsPlayed start script (played_after p.events p.said q)
more_play n start script p q first goes more =
    let L : List (List ℕ) → Type 0 = λ xs. Plays 1 start xs (played_after p.events p.said q) in
    subst L (take-append-drop n (lines_of script)) (plays_then 1 start (take n (lines_of script)) (drop n (lines_of script)) p q first goes more)

-- the next line is refused
pub refused_play : (n : ℕ) (start now : World) (script line : List ℕ) (rest : List (List ℕ)) (p : Played) (fault : LineFault) → drop n (lines_of script) ≡ line ∷ rest
    → FirstPlay n start script p → p.refused ≡ None → Does p.world (AreEventsFor p.world (line_at line)) (SaysFor p.world (line_at line)) (Err fault) now
    → IsPlayed start script (record { events = p.events; world = p.world; said = p.said; refused = Some (n + 1, fault_number fault) })
refused_play n start now script line rest p fault left first goes d =
    let lines = take n (lines_of script) in
    let place : 1 + length lines ≡ n + 1 = omega (arith, length_taken (lines_of script) rest n line left) in
    let q = refused_at (n + 1) (fault_number fault) p.world in
    let one : Plays (n + 1) p.world (line ∷ rest) q = (d.events, d.are, Err fault, d.told, refl) in
    let N : ℕ → Type 0 = λ k. Plays k p.world (line ∷ rest) q in
    let L : List (List ℕ) → Type 0 = λ xs. Plays (1 + length lines) p.world xs q in
    let whole = more_play n start script p q first goes (subst L (sym left) (subst N (sym place) one)) in
    let same : played_after p.events p.said q ≡ record { events = p.events; world = p.world; said = p.said; refused = Some (n + 1, fault_number fault) } =
    ap (λ (es : List Event). record { events = es; world = p.world; said = said_then p.said nothing_said; refused = Some (n + 1, fault_number fault) }) (append-nil p.events)
    ∙ ap (λ (o : Said). record { events = p.events; world = p.world; said = o; refused = Some (n + 1, fault_number fault) }) (then_nothing p.said) in
    let Q : Played → Type 0 = λ x. IsPlayed start script x in
    subst Q same whole

pub rest_behind : (lines rest : List (List ℕ)) (n : ℕ) (line : List ℕ) → drop n lines ≡ line ∷ rest → drop (n + 1) lines ≡ rest
rest_behind lines rest n line e = sym (drop-drop 1 n lines) ∙ ap (drop 1) e

-- where a run stops for want of memory, a front of what the script prints was written
pub early_front : (start : World) (script : List ℕ) (now : World) (a b : Writes) → StopsEarly start script now a b → (p : Played) × IsRunOf start script p × WroteFront a b (p.said).text
early_front start script now a b early =
    let p = early.p in
    let q = has_play (1 + length (take early.lines (lines_of script))) p.world (drop early.lines (lines_of script)) in (
      played_after p.events p.said q.0,
      short_run start script (played_after p.events p.said q.0) early.short (more_play early.lines start script p q.0 early.first early.not_refused q.1),
      ((p.said).text, (((q.0).said).text, refl), early.wrote),
    )
