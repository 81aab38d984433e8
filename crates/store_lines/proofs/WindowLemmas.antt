-- Marks in front of bytes, of which a window is looked at.
use Rattle.std.proofs.Common.{◌≡◌, ◌⊎◌, inl, inr, ⊎_elim, ℕ, zero, suc, ◌+◌, ◌-◌, ◌<◌, ◌≤◌, ◌^◌, min, List, [], ◌∷◌, ◌++◌, length, get_or, take, drop, refl, sym, ◌∙◌, ap, subst, arith, append_assoc, length-append, length-drop, take-append-drop}
use Rattle.std.specs.Prelude.{codes, decimal}
use Rattle.std.proofs.lemmas.Bool.{cases_lt}
use Rattle.std.proofs.lemmas.List.{drop_more, drop-append-le, drop-take, get_or-drop, get_or-append-add, take_all}
use Rattle.store_lines.specs.Lines.{IsText, Lacks}
use Rattle.store_lines.specs.Readings.{BeginsAbove, IsAhead, IsMarkAbove}
use Rattle.store_lines.specs.Seals.{spelled, IsMark}
use Rattle.store_lines.specs.declared.piece.Piece.{Piece}
use Rattle.store_lines.specs.declared.piece.Piece.TheVariants.{Text, Safe, Stopped}
use Rattle.store_lines.proofs.MarkLemmas.{is_mark_line, mark_length, mark_text, no_text_behind}
use Rattle.store_lines.proofs.ReadAsLemmas.{above_first}
use Rattle.store_lines.proofs.TextLemmas.{decimal_digits, digits_lack, first_of, lacks_behind, text_lacks_end}
use Rattle.store_lines.proofs.WholeLemmas.{text_at}

pub begins_in_window : (lines i long : ℕ) (bytes : List ℕ) → BeginsAbove lines (drop i (take long bytes)) → BeginsAbove lines (drop i bytes)
begins_in_window lines i long bytes begins =
    let window = take long bytes in
    let left = drop long bytes in
    let within : i ≤ length window = omega (arith, ap length begins.is, length-append begins.line (10 ∷ begins.behind), length-drop i window) in
    record {
      line = begins.line;
      behind = begins.behind ++ left;
      is = ap (λ (l : List ℕ). drop i l) (sym (take-append-drop long bytes)) ∙ drop-append-le i window left within ∙ ap (λ (l : List ℕ). l ++ left) begins.is
          ∙ append_assoc begins.line (10 ∷ begins.behind) left;
      above = begins.above;
    }

take_past : (m : ℕ) (front behind : List ℕ) → length front ≤ m → take m (front ++ behind) ≡ front ++ take (m - length front) behind
take_past m [] behind le = ap (λ (n : ℕ). take n behind) (let e : m ≡ m - 0 = omega arith in e)
take_past zero (x ∷ front) behind le = absurd (omega arith)
take_past (suc m) (x ∷ front) behind le =
    ap (λ (l : List ℕ). x ∷ l) (take_past m front behind (omega arith) ∙ ap (λ (n : ℕ). front ++ take n behind) (let e : m - length front ≡ suc m - suc (length front) = omega arith in e))

pub begins_of_window : (lines i long : ℕ) (bytes : List ℕ) → BeginsAbove lines (drop i bytes) → (i + 67 ≤ long) ⊎ (length bytes ≤ long) → BeginsAbove lines (drop i (take long bytes))
begins_of_window lines i long bytes begins fits = ⊎_elim
    (λ inner.
    let m = long - i in
    let text = begins.line ++ 10 ∷ [] in
    let short = mark_length lines begins.line begins.above in
    let size : length text ≤ m = omega (arith, short, inner, length-append begins.line (10 ∷ [])) in
    record {
      line = begins.line;
      behind = take (m - length text) begins.behind;
      is = ap (λ (n : ℕ). drop i (take n bytes)) (let e : long ≡ i + m = omega (arith, inner) in e)
          ∙ drop-take i m bytes
          ∙ ap (λ (l : List ℕ). take m l) (begins.is ∙ sym (append_assoc begins.line (10 ∷ []) begins.behind))
          ∙ take_past m text begins.behind size
          ∙ append_assoc begins.line (10 ∷ []) (take (m - length text) begins.behind);
      above = begins.above;
    })
    (λ all. subst (λ (l : List ℕ). BeginsAbove lines (drop i l)) (sym (take_all long bytes all)) begins)
    fits

-- ---- the line in front

above_text : (lines : ℕ) (line : List ℕ) → IsMarkAbove lines line → IsText line
above_text lines line above =
    subst IsText (sym above.is) (mark_text above.number (spelled above.number above.mark) (is_mark_line above.number above.mark above.small above.is_mark above.is_piece))

-- a text has no end of a line in it
pub no_mark_in_text : (lines : ℕ) (bytes : List ℕ) → IsText bytes → BeginsAbove lines bytes → ⊥
no_mark_in_text lines bytes text begins =
    let n = length begins.line in
    let within : n < length bytes = omega (arith, ap length begins.is, length-append begins.line (10 ∷ begins.behind)) in
    let ten : get_or bytes n 0 ≡ 10 =
    ap (λ (l : List ℕ). get_or l n 0) begins.is
    ∙ ap (λ (k : ℕ). get_or (begins.line ++ 10 ∷ begins.behind) k 0) (let e : n ≡ length begins.line + 0 = omega arith in e)
    ∙ get_or-append-add begins.line (10 ∷ begins.behind) 0 0 in
    (text_at bytes n text within).1 ten

zero_or_end : (xs ys front behind : List ℕ) → IsText xs → IsText front → xs ++ 0 ∷ ys ≡ front ++ 10 ∷ behind → ⊥
zero_or_end [] ys [] behind text there is = let e : ◌≡◌ {A = ℕ} 0 10 = cc in let f : ⊥ = omega (arith, e) in f
zero_or_end [] ys (f ∷ front) behind text there is = let e : f ≡ 0 = cc in there.0 e
zero_or_end (x ∷ xs) ys [] behind text there is = let e : x ≡ 10 = cc in text.1 e
zero_or_end (x ∷ xs) ys (f ∷ front) behind text there is = let e : xs ++ 0 ∷ ys ≡ front ++ 10 ∷ behind = cc in zero_or_end xs ys front behind text.2 there.2 e

cut : (bytes : List ℕ) (n b : ℕ) → n < length bytes → get_or bytes n 0 ≡ b → bytes ≡ take n bytes ++ b ∷ drop (n + 1) bytes
cut bytes n b within is =
    sym (take-append-drop n bytes) ∙ ap (λ (l : List ℕ). take n bytes ++ l) (drop_more bytes n 0 within ∙ ap (λ (k : ℕ). k ∷ drop (n + 1) bytes) is)

pub no_mark_at_zero : (lines : ℕ) (bytes : List ℕ) (n : ℕ) → n < length bytes → IsText (take n bytes) → get_or bytes n 0 ≡ 0 → BeginsAbove lines bytes → ⊥
no_mark_at_zero lines bytes n within text zeros begins =
    zero_or_end (take n bytes) (drop (n + 1) bytes) begins.line begins.behind text (above_text lines begins.line begins.above) (sym (cut bytes n 0 within zeros) ∙ begins.is)

pub mark_at_end : (lines : ℕ) (bytes : List ℕ) (n : ℕ) → n < length bytes → IsText (take n bytes) → get_or bytes n 0 ≡ 10 → BeginsAbove lines bytes → IsMarkAbove lines (take n bytes)
mark_at_end lines bytes n within text ten begins =
    let same = (first_of 10 (take n bytes) (drop (n + 1) bytes) begins.line begins.behind (text_lacks_end (take n bytes) text) (text_lacks_end begins.line (above_text lines begins.line begins.above))
    (sym (cut bytes n 10 within ten) ∙ begins.is)).0 in
    subst (λ (l : List ℕ). IsMarkAbove lines l) (sym same) begins.above

pub begins_at_end : (lines : ℕ) (bytes : List ℕ) (n : ℕ) → n < length bytes → get_or bytes n 0 ≡ 10 → IsMarkAbove lines (take n bytes) → BeginsAbove lines bytes
begins_at_end lines bytes n within ten above = record { line = take n bytes; behind = drop (n + 1) bytes; is = cut bytes n 10 within ten; above = above }

-- what stands in front of a mark's first space
pub above_number : (lines : ℕ) (line : List ℕ) (above : IsMarkAbove lines line) → (behind : List ℕ) × (line ≡ decimal above.number ++ (codes " " ++ behind))
above_number lines line above =
    let mark = is_mark_line above.number above.mark above.small above.is_mark above.is_piece in
    (mark.behind, above.is ∙ mark.is)

-- a text's line is no mark
pub text_not_above : (lines at : ℕ) (text line : List ℕ) → spelled at (Text text) ≡ line → IsMarkAbove lines line → ⊥
text_not_above lines at text line is above =
    no_text_behind [] (spelled above.number above.mark) above.number at text (is_mark_line above.number above.mark above.small above.is_mark above.is_piece) (sym above.is ∙ sym is)

-- ---- one place behind another

abbrev pub NoneBefore : ℕ → ℕ → List ℕ → Type 0
NoneBefore lines at bytes = (k : ℕ) → k < at → BeginsAbove lines (drop k bytes) → ⊥

pub none_before_more : (lines at : ℕ) (bytes : List ℕ) → NoneBefore lines at bytes → (BeginsAbove lines (drop at bytes) → ⊥) → NoneBefore lines (at + 1) bytes
none_before_more lines at bytes before here k below begins = ⊎_elim
    (λ lt. before k lt begins)
    (λ le. let e : k ≡ at = omega (arith, le, below) in here (subst (λ (n : ℕ). BeginsAbove lines (drop n bytes)) e begins))
    (cases_lt k at)

pub none_ahead : (lines within at : ℕ) (bytes : List ℕ) → NoneBefore lines at bytes → (within ≤ at) ⊎ (length bytes ≤ at) → IsAhead lines within bytes → ⊥
none_ahead lines within at bytes before all ahead =
    let begins = ahead.above in
    let inside : ahead.at < length bytes = omega (arith, ap length begins.is, length-append begins.line (10 ∷ begins.behind), length-drop ahead.at bytes) in
    let below : ahead.at < at = ⊎_elim (λ le. let e : ahead.at < at = omega (arith, ahead.begins, le) in e) (λ le. let e : ahead.at < at = omega (arith, inside, le) in e) all in
    before ahead.at below begins

pub zero_begins_none : (lines at : ℕ) (bytes : List ℕ) → get_or bytes at 0 ≡ 0 → BeginsAbove lines (drop at bytes) → ⊥
zero_begins_none lines at bytes zeros begins =
    above_first lines (drop at bytes) begins (get_or-drop at bytes 0 0 ∙ ap (λ (n : ℕ). get_or bytes n 0) (let e : at + 0 ≡ at = omega arith in e) ∙ zeros)

-- the bytes in front are enough to see a mark
pub begins_in_front : (lines k : ℕ) (bytes : List ℕ) → k ≡ min (length bytes) 67 → BeginsAbove lines bytes → BeginsAbove lines (take k bytes)
begins_in_front lines k bytes is begins = begins_of_window lines 0 k bytes begins
    (⊎_elim (λ short. inr (let e : length bytes ≤ k = omega (arith, is, short) in e)) (λ long. inl (let e : 0 + 67 ≤ k = omega (arith, is, long) in e)) (cases_lt (length bytes) 67))

-- the digits in front of a line's first space
pub space_front : (line behind : List ℕ) (n k : ℕ) → n < 2 ^ 64 → line ≡ decimal n ++ (codes " " ++ behind) → k ≤ length line → Lacks 32 (take k line) → (k < length line → get_or line k 0 ≡ 32) → take k line ≡ decimal n
space_front line behind n k small is within lacks space =
    let digits = digits_lack 32 (decimal n) (omega arith) (decimal_digits n small) in
    ⊎_elim
    (λ inner. (first_of 32 (take k line) (drop (k + 1) line) (decimal n) behind lacks digits (sym (cut line k 32 inner (space inner)) ∙ is)).0)
    (λ all.
    let whole : take k line ≡ line = take_all k line all in
    let none : Lacks 32 (codes " " ++ behind) = lacks_behind 32 (decimal n) (codes " " ++ behind) (subst (λ (l : List ℕ). Lacks 32 l) (whole ∙ is) lacks) in
    absurd (none.0 refl))
    (cases_lt k (length line))

-- a line of what is no mark is that of none
pub no_mark_above : (lines number : ℕ) (piece : Piece) (line : List ℕ) → (IsMark piece → ⊥) → spelled number piece ≡ line → IsMarkAbove lines line → ⊥
no_mark_above lines number (Text text) line none is above = text_not_above lines number text line is above
no_mark_above lines number (Safe len) line none is above = none tt
no_mark_above lines number (Stopped len) line none is above = none tt
