-- A script's clock and words, by what they are to tell.
use Rattle.std.proofs.Common.{◌≡◌, ℕ, suc, ◌+◌, ◌*◌, ◌<◌, Option, Some, None, ap, lit<, mod-lt, arith}
use Rattle.recorded_inputs.specs.Drawing.{after, next_word, word_after}
use Rattle.recorded_inputs.specs.Scripted.{SetClock}

-- two words that are followed by the same word are the same
same_before : (x y : ℕ) → x < 65537 → y < 65537 → next_word x ≡ next_word y → x ≡ y
same_before x y small little same = omega arith

-- the first that is to come, where it is told
first : Option (ℕ → ℕ) → ℕ
first None = 0
first (Some coming) = coming 0

-- what a clock of one moment is to tell
abbrev one_moment : SetClock → Option (ℕ → ℕ)
one_moment clock = Some (λ i. clock.moment)

-- clocks that are to tell the same tell one moment
pub same_clock : (a b : SetClock) → one_moment a ≡ one_moment b → a ≡ b
unfolding first
same_clock a b same =
    let moment : a.moment ≡ b.moment = ap first same in
    let at : ℕ → SetClock = λ m. record { moment = m } in
    ap at moment

-- what is to come behind a word
abbrev words_behind : ℕ → Option (ℕ → ℕ)
words_behind x = Some (λ i. word_after (suc i) x)

-- words that are to give what comes behind eight words go on from the eighth
pub same_words : (y x : ℕ) → y < 65537 → words_behind y ≡ after 8 (words_behind x) → y ≡ word_after 8 x
unfolding first
same_words y x small same =
    let next : next_word y ≡ next_word (word_after 8 x) = ap first same in
    same_before y (word_after 8 x) small (mod-lt (75 * word_after 7 x + 74) (lit< tt)) next
