-- The first two lines of a store.
use Rattle.std.proofs.Common.{◌≡◌, ℕ, zero, suc, ◌+◌, ◌≤◌, List, [], ◌∷◌, ◌++◌, length, take, refl, sym, ◌∙◌, ap, arith}
use Rattle.store_lines.specs.Lines.{recovered, IsBetween}
use Rattle.store_lines.specs.Seals.{spelled_from, texts_from}
use Rattle.store_lines.specs.declared.piece.Piece.TheVariants.{Text}
use Rattle.store_commits.specs.Stands.{Appended, IsFewLines, texts_in}
use Rattle.store_commits.proofs.TextLemmas.{texts_behind}

-- nothing was written, the first line or none of it was, or the second too
pub few_none : (first began : List ℕ) (found : List (List ℕ)) → found ≡ [] → IsFewLines (Text first ∷ Text began ∷ []) found
few_none first began found is = (0, omega arith, is)

pub few_of_one : (first began : List ℕ) (old found : List (List ℕ)) → old ≡ [] → IsBetween old (spelled_from 0 (Text first ∷ [])) found → IsFewLines (Text first ∷ Text began ∷ []) found
few_of_one first began old found none (zero, le, is) = (0, omega arith, is ∙ ap (λ (l : List (List ℕ)). l ++ []) none)
few_of_one first began old found none (suc zero, le, is) = (1, omega arith, is ∙ ap (λ (l : List (List ℕ)). l ++ spelled_from 0 (Text first ∷ [])) none)
few_of_one first began old found none (suc (suc k), le, is) = absurd (omega (arith, le))

pub few_of_two : (at : ℕ) (first began : List ℕ) (old found : List (List ℕ)) → old ≡ spelled_from 0 (Text first ∷ []) → at ≡ length old → IsBetween old (spelled_from at (Text began ∷ [])) found
    → IsFewLines (Text first ∷ Text began ∷ []) found
few_of_two at first began old found one is (zero, le, few) = (1, omega arith, few ∙ ap (λ (l : List (List ℕ)). l ++ []) one)
few_of_two at first began old found one is (suc zero, le, few) =
    (2, omega arith, few ∙ ap (λ (l : List (List ℕ)). l ++ spelled_from at (Text began ∷ [])) one ∙ ap (λ (n : ℕ). spelled_from 0 (Text first ∷ []) ++ spelled_from n (Text began ∷ [])) (is ∙ ap length one))
few_of_two at first began old found one is (suc (suc k), le, few) = absurd (omega (arith, le))

-- the first line alone
pub one_line : (first : List ℕ) (old new : List ℕ) → recovered old ≡ [] → Appended 0 old new (Text first ∷ []) → recovered new ≡ spelled_from 0 (Text first ∷ [])
one_line first old new none a = a.found ∙ ap (λ (l : List (List ℕ)). l ++ spelled_from 0 (Text first ∷ [])) none

-- and both are two texts
pub two_texts : (at : ℕ) (first began : List ℕ) (old mid new : List ℕ) → recovered old ≡ [] → Appended 0 old mid (Text first ∷ []) → at ≡ length (recovered mid) → Appended at mid new (Text began ∷ [])
    → 0 + 2 ≡ length (texts_in new)
two_texts at first began old mid new none a is b =
    let one : texts_in mid ≡ first ∷ [] =
    ap (λ (l : List (List ℕ)). texts_from 0 l) a.found ∙ texts_behind 0 (recovered old) (Text first ∷ []) (sym (ap length none)) ∙ ap (λ (l : List (List ℕ)). texts_from 0 l ++ first ∷ []) none in
    let two : texts_in new ≡ texts_in mid ++ began ∷ [] = ap (λ (l : List (List ℕ)). texts_from 0 l) b.found ∙ texts_behind at (recovered mid) (Text began ∷ []) is in
    sym (ap length (two ∙ ap (λ (l : List (List ℕ)). l ++ began ∷ []) one))
