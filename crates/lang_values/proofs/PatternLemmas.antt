-- The parts of a pattern, compared with the segments of a path as they are cut.
use Rattle.std.proofs.Common.{◌≡◌, ◌∙◌, ◌<◌, ◌≤◌, ◌+◌, ℕ, Bool, true, false, not, Option, Some, None, List, [], ◌∷◌, length, map, drop, get_or, sym, ap, subst, Bor}
use Rattle.std.specs.Prelude.{◌||◌, ◌&&◌, codes}
use Rattle.std.specs.Iterator.{AlwaysYields}
use Rattle.std.specs.Option.{is_some}
use Rattle.std.proofs.lemmas.Iterator.{YieldsList}
use Rattle.std.proofs.lemmas.List.{at_drop_more, at_drop_all}
use Rattle.lang_base.specs.Texts.{same_text}
use Rattle.lang_values.specs.Paths.{segments_match}

-- the parts that are still to come match these segments exactly where all parts match all segments
pub record PartsLeft {S : Type 0} (steps : S → Option (Bor (List ℕ)) → S → Type 0) (s : S) (segments : List (List ℕ)) (whole : Bool) : Type 0 where
  pub rest : List (List ℕ)
  pub come : YieldsList steps (λ (x : Bor (List ℕ)). x.now) s rest
  pub same : segments_match rest segments ≡ whole

module _ {S : Type 0} (steps : S → Option (Bor (List ℕ)) → S → Type 0) (s t : S) where
  abbrev Come : List (List ℕ) → Type 0
  Come rest = AlwaysYields steps (λ (x : Bor (List ℕ)). x.now) s rest

  ended_by : (rest : List (List ℕ)) (y : List ℕ) (ys : List (List ℕ)) (whole : Bool) → Come rest → segments_match rest (y ∷ ys) ≡ whole → steps s None t → false ≡ whole
  ended_by [] y ys whole come same step = same
  ended_by (p ∷ rest) y ys whole come same step = absurd (come.0 t step)

  differs_by : (rest : List (List ℕ)) (x : Bor (List ℕ)) (y : List ℕ) (ys : List (List ℕ)) (whole : Bool) → Come rest → segments_match rest (y ∷ ys) ≡ whole → steps s (Some x) t
      → (same_text x.now (codes "*") || same_text x.now y) ≡ false → false ≡ whole
  differs_by [] x y ys whole come same step differ = absurd (come x t step)
  differs_by (p ∷ rest) x y ys whole come same step differ =
      sym (ap (λ (b : Bool). b && segments_match rest ys) (ap (λ (q : List ℕ). same_text q (codes "*") || same_text q y) (sym (come.1 x t step).0) ∙ differ)) ∙ same

  matched_by : (rest : List (List ℕ)) (x : Bor (List ℕ)) (y : List ℕ) (ys : List (List ℕ)) (whole : Bool) → Come rest → segments_match rest (y ∷ ys) ≡ whole → steps s (Some x) t
      → (same_text x.now (codes "*") || same_text x.now y) ≡ true → PartsLeft steps t ys whole
  matched_by [] x y ys whole come same step matched = absurd (come x t step)
  matched_by (p ∷ rest) x y ys whole come same step matched = record {
    rest = rest;
    come = record { runs = (come.1 x t step).1 };
    same = sym (ap (λ (b : Bool). b && segments_match rest ys) (ap (λ (q : List ℕ). same_text q (codes "*") || same_text q y) (sym (come.1 x t step).0) ∙ matched)) ∙ same;
  }

  last_by : (rest : List (List ℕ)) (whole : Bool) → Come rest → segments_match rest [] ≡ whole → steps s None t → true ≡ whole
  last_by [] whole come same step = same
  last_by (p ∷ rest) whole come same step = absurd (come.0 t step)

  longer_by : (rest : List (List ℕ)) (x : Bor (List ℕ)) (whole : Bool) → Come rest → segments_match rest [] ≡ whole → steps s (Some x) t → false ≡ whole
  longer_by [] x whole come same step = absurd (come x t step)
  longer_by (p ∷ rest) x whole come same step = same

  -- where a segment is left, it stands first of those that are
  next_left : {X : Type 0} (f : X → List ℕ) (xs : List X) (i : ℕ) (d : X) (whole : Bool) → i < length xs → PartsLeft steps s (map f (drop i xs)) whole
      → PartsLeft steps s (f (get_or xs i d) ∷ map f (drop (i + 1) xs)) whole
  next_left f xs i d whole more left = record {
    rest = left.rest;
    come = left.come;
    same = sym (at_drop_more (λ l. segments_match left.rest (map f l)) xs i d more) ∙ left.same;
  }

  -- a segment is left, and no part
  pub parts_ended : {X : Type 0} (f : X → List ℕ) (xs : List X) (i : ℕ) (d : X) (whole : Bool) (r : Option (Bor (List ℕ))) → i < length xs → PartsLeft steps s (map f (drop i xs)) whole
      → steps s r t → r ≡ None → false ≡ whole
  parts_ended f xs i d whole r more left step is =
      let on : PartsLeft steps s (f (get_or xs i d) ∷ map f (drop (i + 1) xs)) whole = next_left f xs i d whole more left in
      ended_by on.rest (f (get_or xs i d)) (map f (drop (i + 1) xs)) whole on.come.runs on.same (subst (λ o. steps s o t) is step)

  -- the next part and the next segment
  pub part_differs : {X : Type 0} (f : X → List ℕ) (xs : List X) (i : ℕ) (d : X) (whole : Bool) (r : Option (Bor (List ℕ))) (x : Bor (List ℕ)) (same : Bool) → i < length xs
      → PartsLeft steps s (map f (drop i xs)) whole → steps s r t → r ≡ Some x
      → same ≡ (same_text x.now (codes "*") || same_text x.now (f (get_or xs i d))) → same ≡ false → false ≡ whole
  part_differs f xs i d whole r x same more left step is told differ =
      let on : PartsLeft steps s (f (get_or xs i d) ∷ map f (drop (i + 1) xs)) whole = next_left f xs i d whole more left in
      differs_by on.rest x (f (get_or xs i d)) (map f (drop (i + 1) xs)) whole on.come.runs on.same (subst (λ o. steps s o t) is step) (sym told ∙ differ)

  pub part_matched : {X : Type 0} (f : X → List ℕ) (xs : List X) (i : ℕ) (d : X) (whole : Bool) (r : Option (Bor (List ℕ))) (x : Bor (List ℕ)) (same : Bool) → i < length xs
      → PartsLeft steps s (map f (drop i xs)) whole → steps s r t → r ≡ Some x
      → same ≡ (same_text x.now (codes "*") || same_text x.now (f (get_or xs i d))) → same ≡ true → PartsLeft steps t (map f (drop (i + 1) xs)) whole
  part_matched f xs i d whole r x same more left step is told equal =
      let on : PartsLeft steps s (f (get_or xs i d) ∷ map f (drop (i + 1) xs)) whole = next_left f xs i d whole more left in
      matched_by on.rest x (f (get_or xs i d)) (map f (drop (i + 1) xs)) whole on.come.runs on.same (subst (λ o. steps s o t) is step) (sym told ∙ equal)

  over_by : (r : Option (Bor (List ℕ))) (rest : List (List ℕ)) (none whole : Bool) → Come rest → segments_match rest [] ≡ whole → steps s r t → is_some r ≡ not none → none ≡ whole
  over_by None rest true whole come same step is = last_by rest whole come same step
  over_by None rest false whole come same step is = absurd cc
  over_by (Some x) rest true whole come same step is = absurd cc
  over_by (Some x) rest false whole come same step is = longer_by rest x whole come same step

  -- no segment is left, and perhaps no part
  pub parts_over : {X : Type 0} (f : X → List ℕ) (xs : List X) (i : ℕ) (whole : Bool) (r : Option (Bor (List ℕ))) (none : Bool) → length xs ≤ i → PartsLeft steps s (map f (drop i xs)) whole
      → steps s r t → is_some r ≡ not none → none ≡ whole
  parts_over f xs i whole r none past left step is =
      over_by r left.rest none whole left.come.runs (sym (at_drop_all (λ l. segments_match left.rest (map f l)) xs i past) ∙ left.same) step is
