-- What is drawn of a clock and of words.
use Rattle.std.specs.Prelude.{◌≡◌, ℕ, zero, suc, ◌+◌, ◌*◌, ◌%◌, Option, Some, None, min}
use Rattle.std.proofs.Math.Nat.{min-le_right}
use Rattle.lang_core.specs.declared.inputs.Inputs.{Inputs}

-- what is to come once the first was taken
abbrev pub behind_first : Option (ℕ → ℕ) → Option (ℕ → ℕ)
behind_first None = None
behind_first (Some coming) = Some (λ i. coming (suc i))

-- what is to come once so many were taken
abbrev pub after : ℕ → Option (ℕ → ℕ) → Option (ℕ → ℕ)
after zero coming = coming
after (suc n) coming = after n (behind_first coming)

-- the words are the first eight of these, in order
pub record HasWords (coming : ℕ → ℕ) (inputs : Inputs) : Type 0 where
  pub w1 : inputs.w1 ≡ coming 0
  pub w2 : inputs.w2 ≡ coming 1
  pub w3 : inputs.w3 ≡ coming 2
  pub w4 : inputs.w4 ≡ coming 3
  pub w5 : inputs.w5 ≡ coming 4
  pub w6 : inputs.w6 ≡ coming 5
  pub w7 : inputs.w7 ≡ coming 6
  pub w8 : inputs.w8 ≡ coming 7

-- the word that a script draws after this one
abbrev pub next_word : ℕ → ℕ
next_word x = (75 * x + 74) % 65537

-- the last of so many words that a script draws after this one
abbrev pub word_after : ℕ → ℕ → ℕ
word_after zero x = x
word_after (suc n) x = word_after n (next_word x)

-- what is drawn at this moment behind this word; no clock tells a later moment than the last
abbrev pub drawn : ℕ → ℕ → Inputs
drawn moment x = record {
  moment = min moment 9223372036854775807;
  w1 = word_after 1 x;
  w2 = word_after 2 x;
  w3 = word_after 3 x;
  w4 = word_after 4 x;
  w5 = word_after 5 x;
  w6 = word_after 6 x;
  w7 = word_after 7 x;
  w8 = word_after 8 x;
  in_range = min-le_right moment 9223372036854775807;
}
