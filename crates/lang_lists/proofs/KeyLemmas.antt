-- What has another key is something else.
use Rattle.std.proofs.Common.{◌≡◌, ℕ, Bool, true, false, ◌&&◌, List, nat_eq, refl, sym, ap, ◌∙◌, eq-eqb, eqb-true}
use Rattle.std.proofs.lemmas.Bool.{and_parts}
use lib.Pointwise.{bytes_decides}
use Rattle.lang_base.specs.Texts.{same_text}
use Rattle.lang_lists.specs.Keys.{text_key, call_key}

unless_true : (b : Bool) → (b ≡ true → ⊥) → b ≡ false
unless_true true h = absurd (h refl)
unless_true false h = refl

apart : (a b : ℕ) → nat_eq a b ≡ false → a ≡ b → ⊥
apart a b differs is = let same : nat_eq a b ≡ true = eq-eqb a b is in cc

pub text_other : (text other : List ℕ) → nat_eq (text_key text) (text_key other) ≡ false → same_text other text ≡ false
text_other text other differs = unless_true (same_text other text) (λ same. apart (text_key text) (text_key other) differs (ap text_key (sym ((bytes_decides other text).0 same))))

pub call_other : (caller other : List ℕ) (number n : ℕ) → nat_eq (call_key caller number) (call_key other n) ≡ false → (same_text other caller && nat_eq n number) ≡ false
call_other caller other number n differs = unless_true (same_text other caller && nat_eq n number) (λ same.
    let parts = and_parts (same_text other caller) (nat_eq n number) same in
    let name : other ≡ caller = (bytes_decides other caller).0 parts.0 in
    let numbers : n ≡ number = eqb-true n number parts.1 in
    apart (call_key caller number) (call_key other n) differs (sym (ap (λ t. call_key t n) name ∙ ap (call_key caller) numbers)))
