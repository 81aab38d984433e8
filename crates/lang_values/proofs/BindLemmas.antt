-- Where a variable is bound.
use Rattle.std.proofs.Common.{◌≡◌, ◌<◌, ℕ, suc, Bool, true, false, cond, List, ◌∷◌, ◌++◌, length, take, drop, get_or, slice_set, ap, sym, ◌∙◌, refl, drop-cons}
use Rattle.std.proofs.lemmas.List.{set_split}
use Rattle.lang_base.specs.Texts.{same_text}
use Rattle.lang_core.specs.declared.value.Value.{Value}
use Rattle.lang_values.specs.declared.given.Binding.{Binding}
use Rattle.lang_values.specs.Variables.{bind}

by_test : (t : Bool) (a b : List Binding) → t ≡ true → cond t a b ≡ a
by_test true a b e = refl
by_test false a b e = cc

bind_first : (x : List ℕ) (v : Value) (b : Binding) (bs : List Binding) → same_text b.name x ≡ true → bind x v (b ∷ bs) ≡ record { name = x; value = v } ∷ bs
bind_first x v b bs e = by_test (same_text b.name x) _ _ e

-- the variable stands at i, and not before
pub bind_at : (x : List ℕ) (v : Value) (bs : List Binding) (i : ℕ) (b : Binding) → i < length bs → b ≡ get_or bs i b → same_text b.name x ≡ true → bind x v bs ≡ take i bs ++ bind x v (drop i bs) → bind x v bs ≡ slice_set bs i (record { name = x; value = v })
bind_at x v bs i b l is e h =
    let at : drop i bs ≡ b ∷ drop (suc i) bs = drop-cons bs i b l ∙ ap (λ y. y ∷ drop (suc i) bs) (sym is) in
    h ∙ ap (λ r. take i bs ++ r) (ap (bind x v) at ∙ bind_first x v b (drop (suc i) bs) e)
    ∙ sym (set_split bs i (record { name = x; value = v }) l)
