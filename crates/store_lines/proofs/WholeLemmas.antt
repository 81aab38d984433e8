-- What encoded records stand for.
use Rattle.std.proofs.Common.{◌≡◌, ◌≢◌, ℕ, zero, suc, List, [], ◌∷◌, ◌++◌, length, get_or, refl, sym, ◌∙◌, ap, arith, append_assoc, ◌<◌, subst}
use Rattle.std.proofs.lemmas.List.{append-nil}
use Rattle.std.proofs.lemmas.Bool.Decides.{nat_tests}
use Rattle.store_lines.specs.Lines.{ended, lines_from, recovered, encode, IsText, IsLine, AreLines}

-- a byte that ends nothing
pub lines_other : (line : List ℕ) (b : ℕ) (bs : List ℕ) → b ≢ 0 → b ≢ 10 → lines_from line (b ∷ bs) ≡ lines_from (line ++ b ∷ []) bs
lines_other line b bs text inner = grind (arith, nat_tests)

text_line : (line x rest : List ℕ) → IsText x → lines_from line (x ++ 10 ∷ rest) ≡ ended (line ++ x) (lines_from [] rest)
text_line line [] rest text = ap (λ (l : List ℕ). ended l (lines_from [] rest)) (sym (append-nil line))
text_line line (b ∷ bs) rest text =
    lines_other line b (bs ++ 10 ∷ rest) text.0 text.1 ∙ text_line (line ++ b ∷ []) bs rest text.2 ∙ ap (λ (l : List ℕ). ended l (lines_from [] rest)) (append_assoc line (b ∷ []) bs)

-- the records, and then whatever the rest stands for
pub lines_encode : (xs : List (List ℕ)) (rest : List ℕ) → AreLines xs → lines_from [] (encode xs ++ rest) ≡ xs ++ lines_from [] rest
lines_encode [] rest are = refl
lines_encode ([] ∷ xs) rest are = absurd are.0
lines_encode ((b ∷ bs) ∷ xs) rest are =
    ap (λ (l : List ℕ). lines_from [] l) (append_assoc (b ∷ bs) (10 ∷ encode xs) rest)
    ∙ text_line [] (b ∷ bs) (encode xs ++ rest) are.0
    ∙ ap (λ (l : List (List ℕ)). (b ∷ bs) ∷ l) (lines_encode xs rest are.1)

pub encode-append : (xs ys : List (List ℕ)) → encode (xs ++ ys) ≡ encode xs ++ encode ys
encode-append [] ys = refl
encode-append (x ∷ xs) ys = ap (λ (l : List ℕ). x ++ 10 ∷ l) (encode-append xs ys) ∙ sym (append_assoc x (10 ∷ encode xs) (encode ys))

pub AreLines-append : (xs ys : List (List ℕ)) → AreLines xs → AreLines ys → AreLines (xs ++ ys)
AreLines-append [] ys here there = there
AreLines-append (x ∷ xs) ys here there = (here.0, AreLines-append xs ys here.1 there)

-- records behind which nothing stands
pub recovered_end : (xs : List (List ℕ)) (rest : List ℕ) → AreLines xs → recovered rest ≡ [] → recovered (encode xs ++ rest) ≡ xs
recovered_end xs rest are none = lines_encode xs rest are ∙ ap (λ (l : List (List ℕ)). xs ++ l) none ∙ append-nil xs

pub recovered_encode : (xs : List (List ℕ)) → AreLines xs → recovered (encode xs) ≡ xs
recovered_encode xs are = ap recovered (sym (append-nil (encode xs))) ∙ recovered_end xs [] are refl

pub IsText-push : (line : List ℕ) (b : ℕ) → IsText line → b ≢ 0 → b ≢ 10 → IsText (line ++ b ∷ [])
IsText-push [] b text this inner = (this, inner, tt)
IsText-push (c ∷ cs) b text this inner = (text.0, text.1, IsText-push cs b text.2 this inner)

pub text_at : (l : List ℕ) (i : ℕ) → IsText l → i < length l → (get_or l i 0 ≢ 0) × (get_or l i 0 ≢ 10)
text_at [] i text within = absurd (omega arith)
text_at (b ∷ bs) zero text within = (text.0, text.1)
text_at (b ∷ bs) (suc i) text within = text_at bs i text.2 (omega arith)

-- no byte of a line is 0 or 10
pub line_at : (l : List ℕ) (i : ℕ) → IsLine l → i < length l → (get_or l i 0 ≢ 0) × (get_or l i 0 ≢ 10)
line_at [] i line within = absurd line
line_at (b ∷ bs) i line within = text_at (b ∷ bs) i line within

-- one record more
pub record Pushed (was text now : List ℕ) : Type 0 where
  pub encoded : encode (recovered now) ≡ now
  pub lines : AreLines (recovered now)
  pub records : recovered now ≡ recovered was ++ text ∷ []

pub pushed : (was text now : List ℕ) → encode (recovered was) ≡ was → AreLines (recovered was) → IsLine text → now ≡ (was ++ text) ++ 10 ∷ [] → Pushed was text now
pushed was text now encoded lines line is =
    let xs = recovered was in
    let all_lines = AreLines-append xs (text ∷ []) lines (line, tt) in
    let whole : now ≡ encode (xs ++ text ∷ []) =
    is ∙ append_assoc was text (10 ∷ []) ∙ ap (λ (l : List ℕ). l ++ (text ++ 10 ∷ [])) (sym encoded) ∙ sym (encode-append xs (text ∷ [])) in
    let found : recovered now ≡ xs ++ text ∷ [] = ap recovered whole ∙ recovered_encode (xs ++ text ∷ []) all_lines in
    record { encoded = ap encode found ∙ sym whole; lines = subst AreLines (sym found) all_lines; records = found }
