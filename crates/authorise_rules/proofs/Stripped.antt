-- What stands behind a prefix that is stripped.
use Rattle.std.proofs.Common.{◌≡◌, ℕ, true, false, List, Option, Some, None, codes, nat_eq, drop, sym, ap, subst, ◌∙◌}
use Rattle.std.specs.List.{starts_with}
use Rattle.std.specs.Option.{MatchOption, option_copied}
use Rattle.std.specs.Str.{IsCharBoundary}
use Rattle.std.specs.Str.Pattern.{FindsTextPrefix, StripsPrefix}
use Rattle.std.proofs.lemmas.Bool.{cond-true, cond-false}
use Rattle.std.proofs.lemmas.Str.Pattern.{starts_text}
use Rattle.authorise_rules.specs.Reading.{behind_is}
use denote.Ref.{Bor}

pub behind_from : (word : List ℕ) (r : Option (Bor (List ℕ))) → MatchOption r (FindsTextPrefix (codes "is:") word None) (λ x. StripsPrefix (FindsTextPrefix (codes "is:")) word x.now) → option_copied r ≡ behind_is word
behind_from word None lacks =
    let lacking = starts_text false (codes "is:") word lacks in
    sym (cond-false (starts_with nat_eq word (codes "is:")) (Some (drop 3 word)) None (sym lacking))
behind_from word (Some x) found =
    let B : ℕ → Type 0 = λ k. IsCharBoundary word k in
    let begun = starts_text true (codes "is:") word (found.0, found.1, subst B (sym found.1.0) found.1.2) in
    ap Some (found.2 ∙ ap (λ k. drop k word) found.1.0) ∙ sym (cond-true (starts_with nat_eq word (codes "is:")) (Some (drop 3 word)) None (sym begun))
