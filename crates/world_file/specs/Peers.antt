-- The services that a service may call: the others of its world.
use Rattle.std.specs.Prelude.{◌≡◌, true, not, ℕ, List, refl}
use Rattle.std.specs.List.{Contains, filter}
use Rattle.std.proofs.Common.{true≢false, sym, ap, ◌∙◌}
use Rattle.std.proofs.lemmas.List.Elements.{All-contains, filter_passes}
use Rattle.std.specs.Cmp.Lexicographic.{bytes_decides}
use Rattle.lang_base.specs.Texts.{same_text}

-- the other names, in their order
abbrev pub others : List ℕ → List (List ℕ) → List (List ℕ)
others me names = filter (λ name. not (same_text name me)) names

-- a name isn't among the others
pub not_among_others : (me : List ℕ) (names : List (List ℕ)) → ¬ (Contains (others me names) me)
not_among_others me names found =
    let other : not (same_text me me) ≡ true = All-contains (λ name. not (same_text name me) ≡ true) (others me names) me (filter_passes (λ name. not (same_text name me)) names) found in
    let same : same_text me me ≡ true = (bytes_decides me me).1 refl in
    true≢false (sym other ∙ ap not same)
