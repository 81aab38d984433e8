-- Scans and writes keep rows in order.
use Rattle.std.proofs.Common.{ℕ, ◌+◌, Bool, true, false, cond, List, [], ◌∷◌, Option, Some, None}
use Rattle.std.specs.List.{filter}
use Rattle.lang_core.specs.declared.cells.Cell.{Cell}
use Rattle.lang_core.specs.declared.writes.Write.{Write}
use Rattle.lang_core.specs.Places.{Place, place_of, IsBelowAll, IsOrdered}
use Rattle.lang_core.specs.Rows.{cell_place, cell_size, is_over, kept_from, with_text, after_write, apply}
use Rattle.lang_core.proofs.PlaceLemmas.{ordered-set, ordered-unset}

-- what holds of both choices holds of the chosen one
either : (P : List Cell → Type 0) (b : Bool) (x y : List Cell) → P x → P y → P (cond b x y)
either P true x y p q = p
either P false x y p q = q

below-filter : (p : Place) (test : Cell → Bool) (cs : List Cell) → IsBelowAll cell_place p cs → IsBelowAll cell_place p (filter test cs)
below-filter p test [] all = tt
below-filter p test (c ∷ cs) all =
    either (IsBelowAll cell_place p) (test c) (c ∷ filter test cs) (filter test cs)
    (all.0, below-filter p test cs all.1) (below-filter p test cs all.1)

pub ordered-filter : (test : Cell → Bool) (cs : List Cell) → IsOrdered cell_place cs → IsOrdered cell_place (filter test cs)
ordered-filter test [] o = tt
ordered-filter test (c ∷ cs) o =
    either (IsOrdered cell_place) (test c) (c ∷ filter test cs) (filter test cs)
    (below-filter (cell_place c) test cs o.0, ordered-filter test cs o.1) (ordered-filter test cs o.1)

below-kept : (p : Place) (n bytes : ℕ) (cs : List Cell) → IsBelowAll cell_place p cs → IsBelowAll cell_place p (kept_from n bytes cs)
below-kept p n bytes [] all = tt
below-kept p n bytes (c ∷ cs) all = (
  all.0,
  either (IsBelowAll cell_place p) (is_over (n + 1) (bytes + cell_size c)) [] (kept_from (n + 1) (bytes + cell_size c) cs)
      tt (below-kept p (n + 1) (bytes + cell_size c) cs all.1),
)

pub ordered-kept : (n bytes : ℕ) (cs : List Cell) → IsOrdered cell_place cs → IsOrdered cell_place (kept_from n bytes cs)
ordered-kept n bytes [] o = tt
ordered-kept n bytes (c ∷ cs) o = (
  either (IsBelowAll cell_place (cell_place c)) (is_over (n + 1) (bytes + cell_size c)) [] (kept_from (n + 1) (bytes + cell_size c) cs)
      tt (below-kept (cell_place c) (n + 1) (bytes + cell_size c) cs o.0),
  either (IsOrdered cell_place) (is_over (n + 1) (bytes + cell_size c)) [] (kept_from (n + 1) (bytes + cell_size c) cs)
      tt (ordered-kept (n + 1) (bytes + cell_size c) cs o.1),
)

pub ordered-text : (t k : List ℕ) (o : Option (List ℕ)) (cs : List Cell) → IsOrdered cell_place cs → IsOrdered cell_place (with_text t k o cs)
ordered-text t k None cs o = ordered-unset cell_place (place_of t k) cs o
ordered-text t k (Some x) cs o = ordered-set cell_place (record { table = t; key = k; text = x }) cs o

pub ordered-apply : (cs : List Cell) (ws : List Write) → IsOrdered cell_place cs → IsOrdered cell_place (apply cs ws)
ordered-apply cs [] o = o
ordered-apply cs (w ∷ ws) o = ordered-apply (after_write cs w) ws (ordered-text w.table w.key w.text cs o)
