-- A line whose first word is none of a dump.
use Rattle.std.proofs.Common.{◌≡◌, ℕ, Bool, true, false, List, Option, Err, codes, refl, sym}
use Rattle.std.specs.Cmp.Lexicographic.{same_text as text_is}
use Rattle.lang_base.specs.Texts.{same_text}
use Rattle.dump_words.specs.Lines.{words_at}
use Rattle.dump_words.specs.declared.line.LineFault.TheVariants.{Shape}

other_by : (t : Bool) (a b : List ℕ) → same_text a b ≡ t → ¬ (a ≡ b) → t ≡ false
other_by true a b is other = absurd (other (text_is a b (sym is)))
other_by false a b is other = refl

other_word : (a b : List ℕ) → ¬ (a ≡ b) → same_text a b ≡ false
other_word a b other = other_by (same_text a b) a b refl other

none_so : (word : List ℕ) (rest : Option (List ℕ)) → same_text word (codes "service") ≡ false → same_text word (codes "peers") ≡ false → same_text word (codes "program") ≡ false
    → same_text word (codes "entry") ≡ false → same_text word (codes "under") ≡ false → same_text word (codes "call") ≡ false → same_text word (codes "answer") ≡ false
    → same_text word (codes "reply") ≡ false → same_text word (codes "row") ≡ false → same_text word (codes "end") ≡ false → Err Shape ≡ words_at word rest
unfolding words_at
none_so word rest a b c d e f g h i j = rw (a, b, c, d, e, f, g, h, i, j) refl

pub no_word : (word : List ℕ) (rest : Option (List ℕ)) → ¬ (word ≡ codes "service") → ¬ (word ≡ codes "peers") → ¬ (word ≡ codes "program") → ¬ (word ≡ codes "entry") → ¬ (word ≡ codes "under")
    → ¬ (word ≡ codes "call") → ¬ (word ≡ codes "answer") → ¬ (word ≡ codes "reply") → ¬ (word ≡ codes "row") → ¬ (word ≡ codes "end") → Err Shape ≡ words_at word rest
no_word word rest a b c d e f g h i j =
    none_so word rest (other_word word (codes "service") a) (other_word word (codes "peers") b) (other_word word (codes "program") c) (other_word word (codes "entry") d) (other_word word (codes "under") e)
    (other_word word (codes "call") f) (other_word word (codes "answer") g) (other_word word (codes "reply") h) (other_word word (codes "row") i) (other_word word (codes "end") j)
