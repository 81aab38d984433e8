-- The first stale entry is the first of the marked ones, or one before it whose record consumed something else.
use Rattle.std.proofs.Common.{◌≡◌, ℕ, zero, suc, ◌+◌, ◌<◌, ◌≤◌, Bool, true, false, List, [], ◌∷◌, Option, Some, None, IsSomeAnd, MatchOption, length, get_or, take, map, refl, sym, ap, ◌∙◌, subst, inl, inr, arith}
use Rattle.std.specs.List.{HoldsAt}
use Rattle.std.proofs.lemmas.Bool.{cases_Bool}
use Rattle.std.proofs.lemmas.List.{get_or_default, take_all}
use Rattle.std.proofs.lemmas.List.Elements.{All-get_or}
use Rattle.lang_core.specs.declared.cells.Cell.{Cell}
use Rattle.lang_core.specs.declared.request.Response.{Response}
use Rattle.lang_core.specs.declared.writes.Write.{Write}
use Rattle.request_log.specs.declared.entry.Entry.{Entry}
use Rattle.request_log.specs.declared.entry.Made.{Made}
use Rattle.log_index.specs.Marks.{KeptMarks, is_marked}
use Rattle.local_repair.specs.Current.{Consumed, AllCurrent, AreChecked, IsCurrent, IsCurrentRecord, IsFirstStale, rows_after}
use Rattle.local_repair.specs.Held.{AreCurrent, IsAnswered, IsCurrentAt, IsFirstChanged, IsFirstMarked, IsHeldRecord, IsKept}
use Rattle.local_repair.proofs.CurrentLemmas.{AllCurrent-more, current_at}
use Rattle.local_repair.proofs.StepLemmas.{entry_at}

-- ---- one entry

current_by : (consumed : Consumed) (rows : List Cell) (e : Entry) (made : Option Made) → IsSomeAnd made (λ m. IsHeldRecord rows e m) → IsSomeAnd made (λ m. m.trace.answers ≡ map consumed e.slots)
    → IsSomeAnd made (λ m. IsCurrentRecord consumed rows e m)
current_by consumed rows e None h a = h
current_by consumed rows e (Some m) h a = record { alive = h.alive; version = h.version; request = h.request; reads = h.reads; answers = a; handler = h.handler }

none_of : (xs : List Response) → length xs ≡ 0 → xs ≡ []
none_of [] h = refl
none_of (x ∷ xs) h = absurd (omega arith)

answered_by : (consumed : Consumed) (rows : List Cell) (e : Entry) (made : Option Made) → IsSomeAnd made (λ m. IsHeldRecord rows e m) → e.slots ≡ [] → IsSomeAnd made (λ m. m.trace.answers ≡ map consumed e.slots)
answered_by consumed rows e None h none = h
answered_by consumed rows e (Some m) h none = none_of m.trace.answers (h.count ∙ ap length none) ∙ sym (ap (map consumed) none)

changed_by : (consumed : Consumed) (rows : List Cell) (e : Entry) (made : Option Made) → IsSomeAnd made (λ m. IsCurrentRecord consumed rows e m) → IsSomeAnd made (λ m. m.trace.answers ≡ map consumed e.slots)
changed_by consumed rows e None h = h
changed_by consumed rows e (Some m) h = h.answers

-- an entry that was tested, where it stands
pub current_here : (consumed : Consumed) (base : List Cell) (entries : List Entry) (k place : ℕ) (e : Entry) (rows : List Cell) → place < length entries → e ≡ get_or entries place e → rows ≡ rows_after base (take place entries)
    → IsCurrent consumed rows e → k ≡ place → IsCurrentAt consumed base entries k
current_here consumed base entries k place e rows within is seen current same =
    let P : ℕ → Type 0 = λ n. IsCurrentAt consumed base entries n in
    let Q : List Cell → Entry → Type 0 = λ r x. IsCurrent consumed r x in
    let B : List Cell → Type 0 = λ r. Q r e in
    subst P (sym same) (λ d. subst (Q (rows_after base (take place entries))) (is ∙ get_or_default entries place e d within) (subst B seen current))

pub stale_here : (consumed : Consumed) (base : List Cell) (entries : List Entry) (place : ℕ) (e : Entry) (rows : List Cell) → place < length entries → e ≡ get_or entries place e → rows ≡ rows_after base (take place entries)
    → (IsCurrent consumed rows e → ⊥) → HoldsAt (λ e. ¬ IsCurrent consumed (rows_after base (take place entries)) e) entries place
stale_here consumed base entries place e rows within is seen stale = λ d current.
    let Q : List Cell → Entry → Type 0 = λ r x. IsCurrent consumed r x in
    let B : List Cell → Type 0 = λ r. Q r e in
    stale (subst B (sym seen) (subst (Q (rows_after base (take place entries))) (get_or_default entries place d e within ∙ sym is) current))

-- what is known to be current consumed what there is now
pub checked_answered : (consumed : Consumed) (base : List Cell) (entries : List Entry) (checked : ℕ) → AreChecked consumed base entries checked → (q : ℕ) → q < checked → HoldsAt (IsAnswered consumed) entries q
checked_answered consumed base entries checked known q lt = λ d.
    let within = known.within in
    changed_by consumed (rows_after base (take q entries)) (get_or entries q d) (get_or entries q d).made
    (current_at consumed entries base checked q d lt (omega arith) known.current)

-- ---- all before a place

all_current : (consumed : Consumed) (base : List Cell) (entries : List Entry) (n : ℕ) → n ≤ length entries → ((q : ℕ) → q < n → IsCurrentAt consumed base entries q) → AllCurrent consumed base (take n entries)
all_current consumed base entries zero le each = tt
all_current consumed base entries (suc n) le each =
    let x = entry_at entries n (omega arith) in
    let e : n + 1 ≡ suc n = omega arith in
    let P : ℕ → Type 0 = λ k. AllCurrent consumed base (take k entries) in
    let Q : Entry → Type 0 = λ y. IsCurrent consumed (rows_after base (take n entries)) y in
    subst P e (AllCurrent-more consumed entries n x.0 base (omega arith) (sym (x.1 x.0)) (all_current consumed base entries n (omega arith) (λ q lt. each q (omega arith))) (subst Q (x.1 x.0) (each n (omega arith) x.0)))

module _ (consumed : Consumed) (base : List Cell) (entries : List Entry) (writes : List (List Write)) (m : KeptMarks) (calls : Bool) (kept : IsKept base entries writes m calls) where
  -- what has no calls consumed what there is
  answered : (end : ℕ) → end ≤ length entries → (calls ≡ true → (q : ℕ) → q < end → HoldsAt (IsAnswered consumed) entries q)
      → (q : ℕ) → q < end → is_marked q m.marks ≡ false → HoldsAt (IsAnswered consumed) entries q
  answered end le given q lt bare = elim (cases_Bool calls) [
    | inl some ↦ given some q lt
    | inr none ↦ λ d. answered_by consumed (rows_after base (take q entries)) (get_or entries q d) (get_or entries q d).made (kept.held q d (omega arith) bare)
        (All-get_or (λ (e : Entry). e.slots ≡ []) entries q d (omega arith) (kept.quiet none))
  ]

  each_current : (end : ℕ) → end ≤ length entries → AreCurrent consumed base entries m.marks end → ((q : ℕ) → q < end → is_marked q m.marks ≡ false → HoldsAt (IsAnswered consumed) entries q)
      → (q : ℕ) → q < end → IsCurrentAt consumed base entries q
  each_current end le marked given q lt = elim (cases_Bool (is_marked q m.marks)) [
    | inl told ↦ marked q lt told
    | inr bare ↦ λ d. current_by consumed (rows_after base (take q entries)) (get_or entries q d) (get_or entries q d).made (kept.held q d (omega arith) bare) (given q lt bare d)
  ]

  -- up to the end that the marked entries leave
  abbrev IsEnd : Option ℕ → ℕ → Type 0
  IsEnd marked end = MatchOption marked (end ≡ length entries) (λ p. end ≡ p)

  abbrev AreTested : Option ℕ → Type 0
  AreTested marked = MatchOption marked (AreCurrent consumed base entries m.marks (length entries)) (λ p. IsFirstMarked consumed base entries m.marks p)

  pub end_within : (marked : Option ℕ) (end : ℕ) → IsEnd marked end → AreTested marked → (end ≤ length entries) × AreCurrent consumed base entries m.marks end
  end_within None end is tested = (omega arith, λ q lt told. tested q (omega arith) told)
  end_within (Some p) end is tested = (let lt = tested.within in omega arith, λ q lt told. tested.before q (omega arith) told)

  -- an entry whose record consumed something else
  pub changed_first : (marked : Option ℕ) (end place : ℕ) → IsEnd marked end → AreTested marked → place < end → IsFirstChanged consumed entries place → IsFirstStale consumed base entries place
  changed_first marked end place is tested lt first =
      let w = end_within marked end is tested in
      let inside = w.0 in
      record {
        within = first.within;
        before = all_current consumed base entries place (omega arith)
            (each_current place (omega arith) (λ q less told. w.1 q (omega arith) told) (λ q less bare. first.before q less));
        stale = λ d current. first.stale d (changed_by consumed (rows_after base (take place entries)) (get_or entries place d) (get_or entries place d).made current);
      }

  -- or the first of the marked ones, or none
  pub marked_first : (marked : Option ℕ) (end : ℕ) → IsEnd marked end → AreTested marked → (calls ≡ true → (q : ℕ) → q < end → HoldsAt (IsAnswered consumed) entries q)
      → MatchOption marked (AllCurrent consumed base entries) (λ p. IsFirstStale consumed base entries p)
  marked_first None end is tested given =
      let w = end_within None end is tested in
      let inside = w.0 in
      let P : List Entry → Type 0 = λ l. AllCurrent consumed base l in
      subst P (take_all end entries (omega arith)) (all_current consumed base entries end inside (each_current end inside w.1 (answered end inside given)))
  marked_first (Some p) end is tested given =
      let w = end_within (Some p) end is tested in
      let inside = w.0 in
      let P : ℕ → Type 0 = λ n. AllCurrent consumed base (take n entries) in
      record {
        within = tested.within;
        before = subst P is (all_current consumed base entries end inside (each_current end inside w.1 (answered end inside given)));
        stale = tested.stale;
      }
