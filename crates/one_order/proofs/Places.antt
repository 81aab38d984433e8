-- Writes at a service that is found by its place.
use Rattle.std.proofs.Common.{◌≡◌, ◌<◌, ◌≤◌, ◌+◌, ℕ, zero, suc, true, List, [], ◌∷◌, ◌++◌, take, drop, length, slice_index_or, slice_set, refl, sym, ap, ◌∙◌, subst, arith}
use Rattle.lang_base.specs.Texts.{same_text}
use Rattle.lang_core.specs.Rows.{apply}
use Rattle.lang_core.specs.declared.writes.Write.{Write}
use Rattle.one_world.specs.Tapes.{World, with_writes}
use Rattle.one_world.specs.declared.rows.Rows.{Rows}
use Rattle.one_world.proofs.Lists.{if_true}

-- what stands at a place, whatever is asked for past the end
pub same_place : (world : World) (i : ℕ) (a b : Rows) → i < length world → slice_index_or world i a ≡ slice_index_or world i b
same_place [] i a b lt = absurd (omega (arith, lt))
same_place (x ∷ world) zero a b lt = refl
same_place (x ∷ world) (suc i) a b lt = same_place world i a b (omega (arith, lt))

module _ (name : List ℕ) (ws : List Write) where
  -- with the writes at these rows
  abbrev written : Rows → Rows
  written r = record { service = r.service; rows = apply r.rows ws }

  first_here : (r : Rows) (world : World) → same_text r.service name ≡ true → with_writes name ws (r ∷ world) ≡ written r ∷ world
  first_here r world is = if_true (same_text r.service name) (written r ∷ world) (r ∷ with_writes name ws world) is

  pub found_here : (world : World) (i : ℕ) (r : Rows) → i < length world → slice_index_or world i r ≡ r → same_text r.service name ≡ true
      → slice_set world i (written r) ≡ take i world ++ with_writes name ws (drop i world)
  found_here [] i r lt e is = absurd (omega (arith, lt))
  found_here (x ∷ world) zero r lt e is =
      ap (λ y. y ∷ world) (ap written (sym e)) ∙ sym (first_here x world (subst (λ (y : Rows). same_text y.service name ≡ true) (sym e) is))
  found_here (x ∷ world) (suc i) r lt e is = ap (λ ys. x ∷ ys) (found_here world i r (omega (arith, lt)) e is)

  pub found_none : (world : World) (i : ℕ) → length world ≤ i → world ≡ take i world ++ with_writes name ws (drop i world)
  found_none [] zero le = refl
  found_none [] (suc i) le = refl
  found_none (x ∷ world) zero le = absurd (omega (arith, le))
  found_none (x ∷ world) (suc i) le = ap (λ ys. x ∷ ys) (found_none world i (omega (arith, le)))

-- the rows at a place, with the writes, in the place of what stood there
pub placed : (name : List ℕ) (ws : List Write) (world : World) (i : ℕ) (a b row : Rows) → i < length world
    → same_text (slice_index_or world i a).service name ≡ true
    → row ≡ record { service = (slice_index_or world i b).service; rows = apply (slice_index_or world i b).rows ws }
    → slice_set world i row ≡ take i world ++ with_writes name ws (drop i world)
placed name ws world i a b row lt named e =
    let r : Rows = slice_index_or world i b in
    let mine : same_text r.service name ≡ true = subst (λ (x : Rows). same_text x.service name ≡ true) (same_place world i a b lt) named in
    ap (λ (x : Rows). slice_set world i x) e ∙ found_here name ws world i r lt (same_place world i r b lt) mine
