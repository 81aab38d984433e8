-- A program in place of another one: which entries are stale then, and what is kept of them.
use Rattle.std.proofs.Common.{◌≡◌, ◌↔◌, ℕ, ◌<◌, ◌≤◌, Bool, true, false, cond, List, [], ◌∷◌, Option, Some, None, IfSome, IsSomeAnd, All, Contains, nat_eq, length, get_or, take, map, refl, sym, ap, ◌∙◌, subst, inl, inr, arith, ◌+◌, ◌||◌}
use Rattle.std.proofs.lemmas.Bool.{cases_lt}
use Rattle.std.proofs.lemmas.List.{get_or-map, get_or_default, length-map}
use Rattle.std.proofs.lemmas.List.Elements.{All-map, All-weaker}
use Rattle.lang_base.proofs.EqualLemmas.{nat_same}
use Rattle.lang_core.specs.declared.cells.Cell.{Cell}
use Rattle.lang_core.specs.declared.inputs.Inputs.{Inputs}
use Rattle.lang_core.specs.declared.setting.Setting.{Setting}
use Rattle.lang_core.specs.declared.writes.Write.{Write}
use Rattle.request_log.specs.HandedOn.{with_program}
use Rattle.request_log.specs.Entries.{corrected, has_program, is_alive, with_correction}
use Rattle.request_log.specs.HandedOn.{Numbered}
use Rattle.request_log.specs.declared.entry.Entry.{Entry}
use Rattle.request_log.specs.declared.entry.Made.{Made}
use Rattle.log_index.specs.HandedOn.{read_at}
use Rattle.log_index.specs.Marks.{KeptMarks, is_marked}
use Rattle.local_repair.specs.Corrections.{AreStaleAfter, IsCurrentButHandler, IsCurrentByAny, IsHandlerMarked, IsMarkedByHandlers}
use Rattle.local_repair.specs.Current.{Consumed, rows_after, writes_of, AllRuns, IsCurrent, IsCurrentRecord, IsRun}
use Rattle.local_repair.specs.Held.{all_looked, looked, reads_of, IsHeld, IsHeldRecord, IsKept}
use Rattle.local_repair.specs.Programs.{setting_ran, HasItsHandler}
use Rattle.local_repair.specs.Settling.{HasItsSlots}
use Rattle.local_repair.specs.Steps.{calls_of_made, AreApart, StandOnce}
use Rattle.local_repair.specs.Written.{all_written}
use Rattle.local_repair.proofs.GivesLemmas.{wrote}
use Rattle.local_repair.proofs.HeldLemmas.{rows_alike}

-- ---- one entry

-- the one entry is the other but for its own program: that of its record is the same
pub record IsButProgram (e x : Entry) : Type 0 where
  pub alive : is_alive x ≡ is_alive e
  pub version : x.version ≡ e.version
  pub request : x.request ≡ e.request
  pub inputs : x.inputs ≡ e.inputs
  pub slots : x.slots ≡ e.slots
  pub made : x.made ≡ e.made
  pub ran : x.under.ran ≡ e.under.ran

but_program_by : (p : Numbered) (e : Entry) (b : Bool) → IsButProgram e (cond b (with_correction p e) e)
but_program_by p e true = record { alive = refl; version = refl; request = refl; inputs = refl; slots = refl; made = refl; ran = refl }
but_program_by p e false = record { alive = refl; version = refl; request = refl; inputs = refl; slots = refl; made = refl; ran = refl }

pub but_program : (number : ℕ) (p : Numbered) (e : Entry) → IsButProgram e (corrected number p e)
but_program number p e = but_program_by p e (has_program number e)

by_any : (consumed : Consumed) (rows : List Cell) (e x : Entry) (made : Option Made) → IsButProgram e x → IsSomeAnd made (λ m. IsCurrentRecord consumed rows x m)
    → IsSomeAnd made (λ m. IsCurrentByAny consumed rows e m) × HasItsHandler x
by_any consumed rows e x None same h = absurd h
by_any consumed rows e x (Some m) same h = (
  record {
    alive = h.alive ∙ same.alive;
    version = h.version ∙ same.version;
    request = h.request ∙ same.request;
    reads = h.reads;
    answers = h.answers ∙ ap (map consumed) same.slots;
  },
  h.handler,
)

by_own : (consumed : Consumed) (rows : List Cell) (e x : Entry) (made : Option Made) → IsButProgram e x → IsSomeAnd made (λ m. IsCurrentByAny consumed rows e m) → HasItsHandler x
    → IsSomeAnd made (λ m. IsCurrentRecord consumed rows x m)
by_own consumed rows e x None same h handler = h
by_own consumed rows e x (Some m) same h handler = record {
  alive = h.alive ∙ sym same.alive;
  version = h.version ∙ sym same.version;
  request = h.request ∙ sym same.request;
  reads = h.reads;
  answers = h.answers ∙ ap (map consumed) (sym same.slots);
  handler = handler;
}

-- it is current exactly where the other isn't stale by another cause, and its handler is that of its record
pub current_by_handler : (consumed : Consumed) (rows : List Cell) (e x : Entry) → IsButProgram e x → IsCurrent consumed rows x ↔ (IsCurrentButHandler consumed rows e × HasItsHandler x)
current_by_handler consumed rows e x same =
    let P : Option Made → Type 0 = λ o. IsSomeAnd o (λ m. IsCurrentRecord consumed rows x m) in (
      λ h. by_any consumed rows e x e.made same (subst P same.made h),
      λ h. subst P (sym same.made) (by_own consumed rows e x e.made same h.0 h.1),
    )

held_by_own : (rows : List Cell) (e x : Entry) (made : Option Made) → IsButProgram e x → HasItsHandler x → IsSomeAnd made (λ m. IsHeldRecord rows e m)
    → IsSomeAnd made (λ m. IsHeldRecord rows x m)
held_by_own rows e x None same handler h = h
held_by_own rows e x (Some m) same handler h = record {
  alive = h.alive ∙ sym same.alive;
  version = h.version ∙ sym same.version;
  request = h.request ∙ sym same.request;
  count = h.count ∙ ap length (sym same.slots);
  reads = h.reads;
  handler = handler;
}

-- what is held stays so under another program, where the handler is that of its record
held_under : (rows : List Cell) (e x : Entry) → IsButProgram e x → HasItsHandler x → IsHeld rows e → IsHeld rows x
held_under rows e x same handler h =
    let P : Option Made → Type 0 = λ o. IsSomeAnd o (λ m. IsHeldRecord rows x m) in subst P (sym same.made) (held_by_own rows e x e.made same handler h)

-- an entry that is corrected has the new program, and another one is as it was
held_corrected : (rows : List Cell) (p : Numbered) (e : Entry) (b : Bool) → (nat_eq p.number p.number ≡ true → b ≡ true → HasItsHandler (with_correction p e)) → IsHeld rows e
    → IsHeld rows (cond b (with_correction p e) e)
held_corrected rows p e true handler h = held_under rows e (with_correction p e) (but_program_by p e true) (handler (nat_same p.number) refl) h
held_corrected rows p e false handler h = h

-- ---- all entries

map_as : {Y : Type 0} (g : Entry → Y) (f : Entry → Entry) → ((e : Entry) → g (f e) ≡ g e) → (es : List Entry) → map g (map f es) ≡ map g es
map_as g f same [] = refl
map_as g f same (e ∷ es) = let here = same e in let rest = map_as g f same es in (λ i. here i ∷ rest i)

module _ (number : ℕ) (p : Numbered) where
  abbrev change : Entry → Entry
  change e = corrected number p e

  pub written_corrected : (es : List Entry) → all_written (map change es) ≡ all_written es
  written_corrected es = map_as wrote change (λ e. ap writes_of (but_program number p e).made) es

  looked_corrected : (es : List Entry) → all_looked (map change es) ≡ all_looked es
  looked_corrected es = map_as looked change (λ e. ap (λ o. map read_at (reads_of o)) (but_program number p e).made) es

  rows_corrected : (base : List Cell) (old new : List Entry) (place : ℕ) → new ≡ map change old → rows_after base (take place old) ≡ rows_after base (take place new)
  rows_corrected base old new place is = rows_alike base old new place (ap all_written is ∙ written_corrected old)

  at_corrected : (old new : List Entry) (place : ℕ) (d : Entry) → new ≡ map change old → place < length old → get_or new place d ≡ change (get_or old place d)
  at_corrected old new place d is within = ap (λ l. get_or l place d) is ∙ get_or-map change old place d d within

  -- exactly those are stale whose record's handler isn't theirs, and those that another cause makes stale
  pub stale_after : (base : List Cell) (old new : List Entry) → new ≡ map change old → AreStaleAfter number p base old new
  stale_after base old new is = λ consumed place d within.
      let e : Entry = get_or old place d in
      let R : List Cell = rows_after base (take place old) in
      let P : List Cell → Entry → Type 0 = λ rows x. IsCurrent consumed rows x ↔ (IsCurrentButHandler consumed R e × HasItsHandler (change e)) in
      let Q : List Cell → Type 0 = λ rows. P rows (get_or new place d) in
      subst Q (rows_corrected base old new place is)
      (subst (P R) (sym (at_corrected old new place d is within)) (current_by_handler consumed R e (change e) (but_program number p e)))

  -- what a repairer keeps once each entry that got another handler is marked
  pub kept_corrected : (base : List Cell) (old new : List Entry) (writes : List (List Write)) (m m' : KeptMarks) (calls : Bool) (end : ℕ) → IsKept base old writes m calls → new ≡ map change old → end ≡ length new
      → IsMarkedByHandlers p.number end new m m' → IsKept base new writes m' calls
  kept_corrected base old new writes m m' calls end kept is all marked =
      let Q : Entry → Type 0 = λ e. e.slots ≡ [] in
      let L : List Entry → Type 0 = λ l. All Q l in
      record {
        ordered = kept.ordered;
        tied = kept.tied ∙ sym (ap all_written is ∙ written_corrected old);
        looked = marked.reads ∙ kept.looked ∙ sym (ap all_looked is ∙ looked_corrected old);
        held = λ q d lt bare.
            let many : length new ≡ length old = ap length is ∙ length-map old change in
            let within : q < length old = subst (λ n. q < n) many lt in
            let e : Entry = get_or old q d in
            let there : get_or new q d ≡ change e = at_corrected old new q d is within in
            let A : List Cell → Type 0 = λ rows. IsHeld rows (get_or new q d) in
            let B : Entry → Type 0 = λ x. IsHeld (rows_after base (take q old)) x in
            let H : Entry → Type 0 = λ x. has_program p.number x ≡ true → HasItsHandler x in
            let handler : H (change e) = subst H there (marked.handlers q d (subst (λ n. q < n) (sym all) lt) bare) in
            subst A (rows_corrected base old new q is)
            (subst B (sym there) (held_corrected (rows_after base (take q old)) p e (has_program number e) (by_handler e (has_program number e) refl handler) (kept.held q d within (marked.stays q bare))));
        quiet = λ none. subst L (sym is) (All-map Q change old (All-weaker Q (λ e. Q (change e)) (λ e quiet. (but_program number p e).slots ∙ quiet) old (kept.quiet none)));
      }
    where
      by_handler : (e : Entry) (b : Bool) → has_program number e ≡ b → (has_program p.number (change e) ≡ true → HasItsHandler (change e)) → nat_eq p.number p.number ≡ true → b ≡ true → HasItsHandler (with_correction p e)
      by_handler e b is h same told =
          let H : Entry → Type 0 = λ x. has_program p.number x ≡ true → HasItsHandler x in
          let there : change e ≡ with_correction p e = ap (λ c. cond c (with_correction p e) e) (is ∙ told) in
          subst H there h same

  -- ---- what else holds of them still

  -- each record is what a run gave, under the program of which it was made
  pub runs_corrected : (setting : Setting) (es : List Entry) → AllRuns setting es → AllRuns setting (map change es)
  runs_corrected setting es runs =
      All-map (λ e. IfSome e.made (IsRun (setting_ran setting e) e.inputs)) change es
      (All-weaker (λ e. IfSome e.made (IsRun (setting_ran setting e) e.inputs)) (λ e. IfSome (change e).made (IsRun (setting_ran setting (change e)) (change e).inputs))
      (λ e run.
      let same = but_program number p e in
      let A : Option Made → Type 0 = λ o. IfSome o (IsRun (setting_ran setting (change e)) (change e).inputs) in
      let B : Inputs → Type 0 = λ i. IfSome e.made (IsRun (setting_ran setting (change e)) i) in
      let C : Numbered → Type 0 = λ n. IfSome e.made (IsRun (with_program n.program setting) e.inputs) in
      subst A (sym same.made) (subst B (sym same.inputs) (subst C (sym same.ran) run)))
      es runs)

  -- each has as many slots as its last run had calls
  pub own_corrected : (es : List Entry) → All HasItsSlots es → All HasItsSlots (map change es)
  own_corrected es own =
      All-map HasItsSlots change es
      (All-weaker HasItsSlots (λ e. HasItsSlots (change e))
      (λ e h. (let same = but_program number p e in ap length same.slots ∙ h ∙ ap (λ o. length (calls_of_made o)) (sym same.made))) es own)

  -- and the slots are apart
  pub apart_corrected : (last : ℕ) (es : List Entry) → AreApart last es → AreApart last (map change es)
  apart_corrected last es apart =
      let many : length (map change es) ≡ length es = length-map es change in
      let at : (k : ℕ) (d : Entry) → k < length es → (get_or (map change es) k d).slots ≡ (get_or es k d).slots =
      λ k d lt. ap (λ (e : Entry). e.slots) (get_or-map change es k d d lt) ∙ (but_program number p (get_or es k d)).slots in
      record {
        apart = λ j k d less within n inj ink.
            let w : k < length es = subst (λ m. k < m) many within in
            let S : List ℕ → Type 0 = λ l. Contains l n in
            let v : j < length es = omega arith in
            apart.apart j k d less w n (subst S (at j d v) inj) (subst S (at k d w) ink);
        once = All-map (λ e. StandOnce e.slots) change es
            (All-weaker (λ e. StandOnce e.slots) (λ e. StandOnce (change e).slots) (λ e h. subst (λ l. StandOnce l) (sym (but_program number p e).slots) h) es apart.once);
        given = All-map (λ e. (n : ℕ) → Contains e.slots n → n ≤ last) change es
            (All-weaker (λ e. (n : ℕ) → Contains e.slots n → n ≤ last) (λ e. (n : ℕ) → Contains (change e).slots n → n ≤ last)
            (λ e h n there. (let S : List ℕ → Type 0 = λ l. Contains l n in h n (subst S (but_program number p e).slots there))) es apart.given);
      }

-- ---- marks

never : true ≡ false → ⊥
never h = cc

or_false : (a b : Bool) → (a || b) ≡ false → (a ≡ false) × (b ≡ false)
or_false true b h = let never : true ≡ false = h in cc
or_false false b h = (refl, h)

-- the entry at a place is marked besides
pub place_marked : (number place : ℕ) (e : Entry) (m m' : KeptMarks) → m'.reads ≡ m.reads → ((q : ℕ) → is_marked q m'.marks ≡ (nat_eq q place || is_marked q m.marks))
    → IsHandlerMarked number place e m m'
place_marked number place e m m' reads marks = record {
  reads = reads;
  stays = λ q bare. (or_false (nat_eq q place) (is_marked q m.marks) (sym (marks q) ∙ bare)).1;
  handler = λ bare own.
      let none = (or_false (nat_eq place place) (is_marked place m.marks) (sym (marks place) ∙ bare)).0 in
      absurd (never (sym (nat_same place) ∙ none));
}

-- where its handler is that of its record, it stays as it was
pub place_left : (number place : ℕ) (e : Entry) (m : KeptMarks) → (has_program number e ≡ true → HasItsHandler e) → IsHandlerMarked number place e m m
place_left number place e m handler = record { reads = refl; stays = λ q bare. bare; handler = λ bare own. handler own }

pub none_marked : (number : ℕ) (es : List Entry) (m : KeptMarks) → IsMarkedByHandlers number 0 es m m
none_marked number es m = record { reads = refl; stays = λ q bare. bare; handlers = λ q d lt bare own. absurd (omega arith) }

-- one more
pub more_marked : (number place : ℕ) (es : List Entry) (e : Entry) (m m1 m2 : KeptMarks) → place < length es → e ≡ get_or es place e → IsMarkedByHandlers number place es m m1
    → IsHandlerMarked number place e m1 m2 → IsMarkedByHandlers number (place + 1) es m m2
more_marked number place es e m m1 m2 within is before here = record {
  reads = here.reads ∙ before.reads;
  stays = λ q bare. before.stays q (here.stays q bare);
  handlers = λ q d lt bare own. elim (cases_lt q place) [
    | inl less ↦ before.handlers q d less (here.stays q bare) own
    | inr more ↦ (let same : q ≡ place = omega arith in
        let there : e ≡ get_or es q d = is ∙ get_or_default es place e d within ∙ ap (λ n. get_or es n d) (sym same) in
        let H : Entry → Type 0 = λ x. has_program number x ≡ true → HasItsHandler x in
        subst H there (here.handler (subst (λ n. is_marked n m2.marks ≡ false) same bare)) own)
  ];
}

pub marked_as : (number n : ℕ) (es fs : List Entry) (m m' : KeptMarks) → number ≡ n → es ≡ fs → IsMarkedByHandlers number (length es) es m m' → IsMarkedByHandlers n (length fs) fs m m'
marked_as number n es fs m m' same is marked =
    let N : ℕ → Type 0 = λ k. IsMarkedByHandlers k (length fs) fs m m' in
    let E : List Entry → Type 0 = λ l. IsMarkedByHandlers number (length l) l m m' in
    subst N same (subst E is marked)
