-- A service is none of the services that it may call.
use Rattle.std.specs.Prelude.{◌≡◌, ℕ, true, false, List}
use Rattle.std.specs.List.{Contains, list_any}
use Rattle.std.proofs.Common.{true≢false, sym, ap, ◌∙◌}
use Rattle.std.proofs.lemmas.List.Folds.{list_any_at}
use Rattle.std.specs.Cmp.Lexicographic.{nat_list_eq_equiv}
use Rattle.lang_base.specs.Texts.{same_text}

-- a name that is equal to none of these isn't among them
pub not_among : (me : List ℕ) (peers : List (List ℕ)) → list_any (same_text me) peers ≡ false → ¬ (Contains peers me)
not_among me peers free found =
    let there : list_any (same_text me) peers ≡ true = list_any_at (same_text me) peers found.0 me found.1 (ap (same_text me) found.2 ∙ nat_list_eq_equiv.refl me) in
    true≢false (sym there ∙ free)
