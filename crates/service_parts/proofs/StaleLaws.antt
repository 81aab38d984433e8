-- The first stale entry: by a walk along the log, and by its place.
use Rattle.std.proofs.Common.{◌≡◌, ℕ, zero, suc, ◌<◌, ◌≤◌, List, [], ◌∷◌, Some, None, length, get_or, take, refl, sym, ap, subst, inl, inr, arith}
use Rattle.std.proofs.lemmas.Bool.{cases_Bool, both_ways}
use Rattle.lang_core.specs.declared.cells.Cell.{Cell}
use Rattle.request_log.specs.declared.entry.Entry.{Entry}
use Rattle.local_repair.specs.Current.{Consumed, after_entry, rows_after, IsCurrent, AllCurrent, IsFirstStale}
use Rattle.local_repair.specs.Tests.{is_current}
use Rattle.local_repair.proofs.TestLemmas.{is_current-true, is_current-from, is_current-false}
use Rattle.service_events.specs.Steps.{Stale, stale_in}
use Rattle.service_events.proofs.SearchLemmas.{some_none}

-- where the walk finds none, all are current
pub all_current : (consumed : Consumed) (rows : List Cell) (es : List Entry) → stale_in consumed rows es ≡ None → AllCurrent consumed rows es
all_current consumed rows [] is = tt
all_current consumed rows (e ∷ es) is = elim (cases_Bool (is_current consumed rows e)) [
  | inl current ↦ (is_current-true consumed rows e current, all_current consumed (after_entry rows e) es (rw current at is))
  | inr stale ↦ absurd (some_none (stale_in consumed rows (e ∷ es)) (rw stale refl) is)
]

pub none_stale : (consumed : Consumed) (rows : List Cell) (es : List Entry) → AllCurrent consumed rows es → stale_in consumed rows es ≡ None
none_stale consumed rows [] h = refl
none_stale consumed rows (e ∷ es) h = rw (is_current-from consumed rows e h.0) (none_stale consumed (after_entry rows e) es h.1)

-- the entry that the walk finds has a place, and all before it are current
pub record StaleAt (consumed : Consumed) (rows : List Cell) (es : List Entry) (x : Stale) : Type 0 where
  pub place : ℕ
  pub within : place < length es
  pub before : AllCurrent consumed rows (take place es)
  pub here : (d : Entry) → get_or es place d ≡ x.entry
  pub on : x.rows ≡ rows_after rows (take place es)
  pub stale : IsCurrent consumed x.rows x.entry → ⊥

pub stale_at : (consumed : Consumed) (rows : List Cell) (es : List Entry) (x : Stale) → stale_in consumed rows es ≡ Some x → StaleAt consumed rows es x
stale_at consumed rows [] x is = cc
stale_at consumed rows (e ∷ es) x is = elim (cases_Bool (is_current consumed rows e)) [
  | inl current ↦ (let later = stale_at consumed (after_entry rows e) es x (rw current at is) in
      record {
        place = suc later.place;
        within = (let w = later.within in omega (arith, w));
        before = (is_current-true consumed rows e current, later.before);
        here = λ d. later.here d;
        on = later.on;
        stale = later.stale;
      })
  | inr stale ↦ (let found : Some (record { entry = e; rows = rows }) ≡ Some x = rw stale at is in
      let same : record { entry = e; rows = rows } ≡ x = cc in
      let P : Stale → Type 0 = λ y. StaleAt consumed rows (e ∷ es) y in
      subst P same
      (record {
        place = 0;
        within = omega arith;
        before = tt;
        here = λ d. refl;
        on = refl;
        stale = λ current. both_ways (is_current consumed rows e) stale (is_current-from consumed rows e current);
      }))
]

-- it is the first stale one
pub first_of : (consumed : Consumed) (base : List Cell) (es : List Entry) (x : Stale) (a : StaleAt consumed base es x) → IsFirstStale consumed base es a.place
first_of consumed base es x a = record {
  within = a.within;
  before = a.before;
  stale = λ d current. a.stale
      (subst (λ r. IsCurrent consumed r x.entry) (sym a.on) (subst (IsCurrent consumed (rows_after base (take a.place es))) (a.here d) current));
}

found_from : (consumed : Consumed) (rows : List Cell) (es : List Entry) (place : ℕ) (was : Entry) → place < length es → AllCurrent consumed rows (take place es)
    → ((d : Entry) → get_or es place d ≡ was) → (IsCurrent consumed (rows_after rows (take place es)) was → ⊥)
    → stale_in consumed rows es ≡ Some (record { entry = was; rows = rows_after rows (take place es) })
found_from consumed rows [] place was w before here stale = absurd (omega (arith, w))
found_from consumed rows (e ∷ es) zero was w before here stale =
    let same : e ≡ was = here e in
    rw (is_current-false consumed rows e (λ current. stale (subst (IsCurrent consumed rows) same current)))
    (ap (λ (y : Entry). Some (record { entry = y; rows = rows })) same)
found_from consumed rows (e ∷ es) (suc place) was w before here stale =
    rw (is_current-from consumed rows e before.0) (found_from consumed (after_entry rows e) es place was (omega (arith, w)) before.1 (λ d. here d) stale)

-- the first stale one is what the walk finds
pub found_first : (consumed : Consumed) (base : List Cell) (es : List Entry) (place : ℕ) (was : Entry) → IsFirstStale consumed base es place
    → ((d : Entry) → get_or es place d ≡ was) → stale_in consumed base es ≡ Some (record { entry = was; rows = rows_after base (take place es) })
found_first consumed base es place was first here =
    found_from consumed base es place was first.within first.before here
    (λ current. first.stale was (subst (IsCurrent consumed (rows_after base (take place es))) (sym (here was)) current))

-- the first ones of those that are current
pub fewer_current : (consumed : Consumed) (rows : List Cell) (es : List Entry) (k n : ℕ) → k ≤ n → AllCurrent consumed rows (take n es) → AllCurrent consumed rows (take k es)
fewer_current consumed rows es zero n w h = tt
fewer_current consumed rows [] (suc k) n w h = tt
fewer_current consumed rows (e ∷ es) (suc k) zero w h = absurd (omega (arith, w))
fewer_current consumed rows (e ∷ es) (suc k) (suc n) w h = (h.0, fewer_current consumed (after_entry rows e) es k n (omega (arith, w)) h.1)

pub some_current : (consumed : Consumed) (rows : List Cell) (es : List Entry) (k : ℕ) → AllCurrent consumed rows es → AllCurrent consumed rows (take k es)
some_current consumed rows es zero h = tt
some_current consumed rows [] (suc k) h = tt
some_current consumed rows (e ∷ es) (suc k) h = (h.0, some_current consumed (after_entry rows e) es k h.1)
