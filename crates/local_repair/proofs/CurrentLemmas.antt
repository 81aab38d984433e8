-- Entries that are current, one more, and one among them.
use Rattle.std.proofs.Common.{inl, inr, ◌≡◌, ℕ, zero, suc, ◌+◌, ◌<◌, List, [], ◌∷◌, length, get_or, take, subst, arith, add-one}
use Rattle.std.proofs.lemmas.Bool.{cases_lt}
use Rattle.std.proofs.lemmas.List.Sums.{fold_more}
use Rattle.lang_core.specs.declared.cells.Cell.{Cell}
use Rattle.request_log.specs.declared.entry.Entry.{Entry}
use Rattle.local_repair.specs.Current.{Consumed, after_entry, rows_after, IsCurrent, AllCurrent, IsFirstStale}

-- the rows one entry later
pub rows_after-more : (rows : List Cell) (entries : List Entry) (i : ℕ) (e : Entry) → i < length entries
    → rows_after rows (take (i + 1) entries) ≡ after_entry (rows_after rows (take i entries)) (get_or entries i e)
rows_after-more rows entries i e l = fold_more after_entry rows entries i e l

AllCurrent-suc : (consumed : Consumed) (entries : List Entry) (i : ℕ) (e : Entry) (rows : List Cell) → i < length entries → e ≡ get_or entries i e
    → AllCurrent consumed rows (take i entries) → IsCurrent consumed (rows_after rows (take i entries)) e → AllCurrent consumed rows (take (suc i) entries)
AllCurrent-suc consumed [] i e rows l is h k = absurd (omega arith)
AllCurrent-suc consumed (x ∷ xs) zero e rows l is h k = (let P : Entry → Type 0 = IsCurrent consumed rows in subst P is k, tt)
AllCurrent-suc consumed (x ∷ xs) (suc i) e rows l is h k =
    (h.0, AllCurrent-suc consumed xs i e (after_entry rows x) (omega arith) is h.1 k)

-- one entry more that is current
pub AllCurrent-more : (consumed : Consumed) (entries : List Entry) (i : ℕ) (e : Entry) (rows : List Cell) → i < length entries → e ≡ get_or entries i e
    → AllCurrent consumed rows (take i entries) → IsCurrent consumed (rows_after rows (take i entries)) e → AllCurrent consumed rows (take (i + 1) entries)
AllCurrent-more consumed entries i e rows l is h k = rw add-one (AllCurrent-suc consumed entries i e rows l is h k)

-- an entry among those that are current is
pub current_at : (consumed : Consumed) (entries : List Entry) (rows : List Cell) (m k : ℕ) (d : Entry) → k < m → k < length entries
    → AllCurrent consumed rows (take m entries) → IsCurrent consumed (rows_after rows (take k entries)) (get_or entries k d)
current_at consumed [] rows m k d km kl h = absurd (omega arith)
current_at consumed (x ∷ xs) rows zero k d km kl h = absurd (omega arith)
current_at consumed (x ∷ xs) rows (suc m) zero d km kl h = h.0
current_at consumed (x ∷ xs) rows (suc m) (suc k) d km kl h = current_at consumed xs (after_entry rows x) m k d (omega arith) (omega arith) h.1

-- the next first stale entry stands after those that are current, so that there are no more steps than entries
pub next_later : (consumed : Consumed) (base : List Cell) (entries : List Entry) (place next : ℕ) (d : Entry) → AllCurrent consumed base (take (place + 1) entries)
    → IsFirstStale consumed base entries next → place < next
next_later consumed base entries place next d current first = elim (cases_lt place next) [
  | inl later ↦ later
  | inr earlier ↦ absurd (first.stale d (current_at consumed entries base (place + 1) next d (omega arith) first.within current))
]
