-- Lines that are made one behind another.
use Rattle.std.proofs.Common.{◌≡◌, ℕ, suc, ◌+◌, ◌-◌, ◌<◌, List, ◌++◌, sym, ap, ◌∙◌, append_assoc, arith}
use Rattle.recorded_inputs.specs.Drawing.{next_word}
use Rattle.script_make.specs.Making.{ask_line, ask_lines, cancel_line, cancel_lines}

one_less : (n made : ℕ) → made < n → n - made ≡ suc (n - (made + 1))
one_less n made h = omega (arith, h)

-- the line of one request more, of the word that was drawn, is the first of those that are to come
pub one_ask : (n made word drawn left : ℕ) (before now : List ℕ) → made < n → drawn ≡ next_word word → left ≡ next_word word → now ≡ before ++ ask_line (made + 1) drawn
    → now ++ ask_lines (n - (made + 1)) (made + 1 + 1) left ≡ before ++ ask_lines (n - made) (made + 1) word
one_ask n made word drawn left before now h drew rest is =
    let more = n - (made + 1) in
    ap (λ l. l ++ ask_lines more (made + 1 + 1) left) is
    ∙ append_assoc before (ask_line (made + 1) drawn) (ask_lines more (made + 1 + 1) left)
    ∙ ap (λ x. before ++ (ask_line (made + 1) x ++ ask_lines more (made + 1 + 1) left)) drew
    ∙ ap (λ x. before ++ (ask_line (made + 1) (next_word word) ++ ask_lines more (made + 1 + 1) x)) rest
    ∙ ap (λ count. before ++ ask_lines count (made + 1) word) (sym (one_less n made h))

pub one_cancel : (n made word drawn left : ℕ) (before now : List ℕ) → made < n → drawn ≡ next_word word → left ≡ next_word word → now ≡ before ++ cancel_line (made + 1) drawn
    → now ++ cancel_lines (n - (made + 1)) (made + 1 + 1) left ≡ before ++ cancel_lines (n - made) (made + 1) word
one_cancel n made word drawn left before now h drew rest is =
    let more = n - (made + 1) in
    ap (λ l. l ++ cancel_lines more (made + 1 + 1) left) is
    ∙ append_assoc before (cancel_line (made + 1) drawn) (cancel_lines more (made + 1 + 1) left)
    ∙ ap (λ x. before ++ (cancel_line (made + 1) x ++ cancel_lines more (made + 1 + 1) left)) drew
    ∙ ap (λ x. before ++ (cancel_line (made + 1) (next_word word) ++ cancel_lines more (made + 1 + 1) x)) rest
    ∙ ap (λ count. before ++ cancel_lines count (made + 1) word) (sym (one_less n made h))
