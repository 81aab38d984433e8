-- One more name that none of a list is.
use Rattle.std.proofs.Common.{◌≡◌, ℕ, Bool, true, false, cond, List, [], ◌∷◌, ◌++◌, Option, Some, None, find, map, refl, sym, ap, subst}
use Rattle.std.specs.List.{AllByRecursion, IsDistinct}
use Rattle.std.specs.Option.{is_some}
use Rattle.lang_base.specs.Texts.{same_text}
use Rattle.wire_fields.specs.Named.{AreApart, has_name, name_in}
use Rattle.wire_fields.specs.declared.named.Named.{Named}

apart_more : (x y : List ℕ) (ys : List (List ℕ)) → AllByRecursion (λ z. same_text x z ≡ false) ys → same_text x y ≡ false → AllByRecursion (λ z. same_text x z ≡ false) (ys ++ y ∷ [])
apart_more x y [] all apart = (apart, all)
apart_more x y (z ∷ ys) all apart = (all.0, apart_more x y ys all.1 apart)

module _ {T : Type 0} where
  none_first : (b : Bool) (x : Named T) (o : Option (Named T)) → cond b (Some x) o ≡ None → (b ≡ false) × (o ≡ None)
  none_first true x o none = cc
  none_first false x o none = (refl, none)

  names_more : (list : List (Named T)) (item : Named T) → map name_in (list ++ item ∷ []) ≡ map name_in list ++ item.name ∷ []
  names_more [] item = refl
  names_more (first ∷ list) item = ap (λ (names : List (List ℕ)). first.name ∷ names) (names_more list item)

  pub still_apart : (list : List (Named T)) (item : Named T) → AreApart list → find (has_name item.name) list ≡ None → AreApart (list ++ item ∷ [])
  unfolding IsDistinct
  still_apart [] item apart none = (tt, tt)
  still_apart (first ∷ list) item apart none =
      let parts = none_first (same_text first.name item.name) first (find (has_name item.name) list) none in
      let N : List (List ℕ) → Type 0 = λ names. AllByRecursion (λ z. same_text first.name z ≡ false) names in (
        subst N (sym (names_more list item)) (apart_more first.name item.name (map name_in list) apart.0 parts.0),
        still_apart list item apart.1 parts.1,
      )

  -- no names at all
  pub none_apart : (list : List (Named T)) → list ≡ [] → AreApart list
  unfolding IsDistinct
  none_apart list none = let P : List (Named T) → Type 0 = λ xs. AreApart xs in subst P (sym none) tt

  -- the same names
  pub same_apart : (list now : List (Named T)) → AreApart list → now ≡ list → AreApart now
  same_apart list now apart same = let P : List (Named T) → Type 0 = λ xs. AreApart xs in subst P (sym same) apart

  not_there : (o : Option (Named T)) → is_some o ≡ false → o ≡ None
  not_there (Some x) none = cc
  not_there None none = refl

  -- one more, as the code has it
  pub pushed_apart : (list now : List (Named T)) (name : List ℕ) (value : T) → AreApart list → is_some (find (has_name name) list) ≡ false
      → now ≡ list ++ record { name = name; value = value } ∷ [] → AreApart now
  pushed_apart list now name value apart none pushed =
      let item : Named T = record { name = name; value = value } in
      same_apart (list ++ item ∷ []) now (still_apart list item apart (not_there (find (has_name name) list) none)) pushed
