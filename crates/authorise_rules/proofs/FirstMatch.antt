-- What is decided is the verdict of the first rule that matches.
use Rattle.std.proofs.Common.{◌≡◌, ℕ, ◌+◌, Bool, true, false, List, [], ◌∷◌, ◌++◌, length, inl, inr, refl, sym, ap, subst, ◌∙◌, append_assoc, append-nil, length-append, arith}
use Rattle.std.specs.List.{list_any}
use Rattle.std.proofs.lemmas.Bool.{cond-true, cond-false, or_from, or_parts}
use Rattle.authorise_rules.specs.Deciding.{Decides, Question, decision, decision_from, matches, verdict}
use Rattle.authorise_rules.specs.declared.asked.Decision.{Decision}
use Rattle.authorise_rules.specs.declared.asked.Decision.TheVariants as decided
use Rattle.authorise_rules.specs.declared.rule.Rule.{Rule}

none_more : (q : Question) (rules : List Rule) (rule : Rule) → list_any (λ r. matches r q) rules ≡ false → matches rule q ≡ false → list_any (λ r. matches r q) (rules ++ rule ∷ []) ≡ false
none_more q [] rule none fails = or_from (matches rule q) false fails refl
none_more q (r ∷ rules) rule none fails =
    let parts = or_parts (matches r q) (list_any (λ s. matches s q) rules) none in
    or_from (matches r q) (list_any (λ s. matches s q) (rules ++ rule ∷ [])) parts.0 (none_more q rules rule parts.1 fails)

-- the rules that are left decide so, behind some of which none matches
abbrev DecideSo : List Rule → Question → Type 0
DecideSo rules q = (before : List Rule) (n : ℕ) → list_any (λ r. matches r q) before ≡ false → n ≡ length before + 1 → Decides (before ++ rules) q (decision_from n rules q)

number_more : (before : List Rule) (rule : Rule) (n : ℕ) → n ≡ length before + 1 → n + 1 ≡ length (before ++ rule ∷ []) + 1
number_more before rule n is = omega (arith, length-append before (rule ∷ []))

regroup : (before rules : List Rule) (rule : Rule) → (before ++ rule ∷ []) ++ rules ≡ before ++ (rule ∷ rules)
regroup before rules rule = append_assoc before (rule ∷ []) rules

by_rule : (t : Bool) (rule : Rule) (rules : List Rule) (q : Question) → matches rule q ≡ t → DecideSo rules q → DecideSo (rule ∷ rules) q
by_rule true rule rules q does rest before n none is =
    inl (record {
      front = before;
      rule = rule;
      back = rules;
      is = refl;
      none = none;
      matches = does;
      decides = cond-true (matches rule q) (verdict rule.verb n) (decision_from (n + 1) rules q) does ∙ ap (λ m. verdict rule.verb m) is;
    })
by_rule false rule rules q fails rest before n none is =
    let goes_on : decision_from n (rule ∷ rules) q ≡ decision_from (n + 1) rules q = cond-false (matches rule q) (verdict rule.verb n) (decision_from (n + 1) rules q) fails in
    let later = rest (before ++ rule ∷ []) (n + 1) (none_more q before rule none fails) (number_more before rule n is) in
    let R : List Rule → Type 0 = λ rs. Decides rs q (decision_from (n + 1) rules q) in
    let D : Decision → Type 0 = λ d. Decides (before ++ (rule ∷ rules)) q d in
    subst D (sym goes_on) (subst R (regroup before rules rule) later)

decide_so : (rules : List Rule) (q : Question) → DecideSo rules q
decide_so [] q before n none is =
    let R : List Rule → Type 0 = λ rs. Decides rs q (decided.Deny 0) in
    subst R (sym (append-nil before)) (inr (none, refl))
decide_so (rule ∷ rules) q before n none is =
    by_rule (matches rule q) rule rules q refl (λ b m no e. decide_so rules q b m no e) before n none is

pub first_decides : (rules : List Rule) (q : Question) (d : Decision) → d ≡ decision rules q → Decides rules q d
first_decides rules q d is =
    let D : Decision → Type 0 = λ e. Decides rules q e in
    subst D (sym is) (decide_so rules q [] 1 refl refl)
