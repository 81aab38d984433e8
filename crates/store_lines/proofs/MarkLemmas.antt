-- The lines of marks: which bytes they have, and that a line which ends like one is none or begins with a number that is no less.
use Rattle.std.proofs.Common.{◌≡◌, ◌≢◌, ℕ, suc, ◌+◌, ◌-◌, ◌/◌, ◌<◌, ◌≤◌, ◌^◌, true, false, Option, Some, None, List, [], ◌∷◌, ◌++◌, length, get_or, refl, sym, ◌∙◌, ap, arith, subst, append_assoc, length-append}
use Rattle.std.specs.Prelude.{codes, decimal}
use Rattle.std.specs.Str.Parse.{digits_value}
use Rattle.std.proofs.lemmas.Bool.{false≢true}
use Rattle.std.proofs.lemmas.Fmt.{length-decimal-le}
use Rattle.std.proofs.lemmas.Option.{none-some, same_Some}
use Rattle.sqlite_disk.specs.Digest.{digest}
use Rattle.store_lines.specs.Lines.{IsText, Lacks}
use Rattle.store_lines.specs.Seals.{letter, letters, numbered, safe_words, stopped_words, sealed, spelled, words, IsMark, IsPiece, has_text, last_byte}
use Rattle.store_lines.specs.Readings.{IsMarkAbove}
use Rattle.store_lines.specs.declared.piece.Piece.{Piece}
use Rattle.store_lines.specs.declared.piece.Piece.TheVariants.{Text, Safe, Stopped}
use Rattle.store_lines.proofs.TextLemmas.{lacks_append, text_from, first_of, spaces, spaces_append, spaces_none, lacks_spaces, decimal_digits, decimal_value, digits_lack, value_behind}
use Rattle.store_lines.proofs.SealLemmas.{last_behind, mark_ends_great, text_ends_small}

letter_lacks : (b first n : ℕ) → b < first → letter first n ≢ b
letter_lacks b first n less = omega arith

pub letters_lack : (b first n : ℕ) → b < first → Lacks b (letters first n)
letters_lack b first n less = (
  letter_lacks b first n less,
  (
    letter_lacks b first (n / 16) less,
    (
      letter_lacks b first (n / 256) less,
      (
        letter_lacks b first (n / 4096) less,
        (
          letter_lacks b first (n / 65536) less,
          (
            letter_lacks b first (n / 1048576) less,
            (
              letter_lacks b first (n / 16777216) less,
              (
                letter_lacks b first (n / 268435456) less,
                (
                  letter_lacks b first (n / 4294967296) less,
                  (
                    letter_lacks b first (n / 68719476736) less,
                    (
                      letter_lacks b first (n / 1099511627776) less,
                      (
                        letter_lacks b first (n / 17592186044416) less,
                        (
                          letter_lacks b first (n / 281474976710656) less,
                          (
                            letter_lacks b first (n / 4503599627370496) less,
                            (
                              letter_lacks b first (n / 72057594037927936) less,
                              (
                                letter_lacks b first (n / 1152921504606846976) less,
                                tt,
                              ),
                            ),
                          ),
                        ),
                      ),
                    ),
                  ),
                ),
              ),
            ),
          ),
        ),
      ),
    ),
  ),
)

-- what is known of the line of a mark of this number
pub record MarkLine (at : ℕ) (line : List ℕ) : Type 0 where
  pub behind : List ℕ
  pub is : line ≡ decimal at ++ 32 ∷ behind
  pub two : spaces behind ≡ 2
  pub lacks : (b : ℕ) → b < 32 → Lacks b line
  pub short : length line ≤ 66
  pub some : 0 < length line
  pub great : has_text line ≡ false

-- a word, a length and a digest behind a number
line_of : (at len seal : ℕ) (word line : List ℕ) → at < 2 ^ 64 → len < 2 ^ 64 → ((b : ℕ) → b < 32 → Lacks b word) → spaces word ≡ 1 → length word ≤ 8
    → line ≡ decimal at ++ 32 ∷ ((word ++ decimal len) ++ 32 ∷ letters 65 seal) → has_text line ≡ false → MarkLine at line
line_of at len seal word line small fits lacks one short is great =
    let seals = letters 65 seal in
    let said = word ++ decimal len in
    let behind = said ++ 32 ∷ seals in
    let in_said : spaces said ≡ 1 = omega (arith, spaces_append word (decimal len), one, spaces_none (decimal len) (digits_lack 32 (decimal len) (omega arith) (decimal_digits len fits))) in
    let in_behind : spaces behind ≡ 2 = omega (arith, spaces_append said (32 ∷ seals), in_said, spaces_none seals (letters_lack 32 65 seal (omega arith))) in
    let number_size = length-decimal-le 20 at (omega arith) (omega arith) small in
    let len_size = length-decimal-le 20 len (omega arith) (omega arith) fits in
    let size : length line ≡ length (decimal at) + 1 + (length word + length (decimal len) + 17) =
    omega (arith, ap length is, length-append (decimal at) (32 ∷ behind), length-append said (32 ∷ seals), length-append word (decimal len)) in
    record {
      behind = behind;
      is = is;
      two = in_behind;
      lacks = λ b less.
          let number = digits_lack b (decimal at) (omega arith) (decimal_digits at small) in
          let said_lacks = lacks_append b word (decimal len) (lacks b less) (digits_lack b (decimal len) (omega arith) (decimal_digits len fits)) in
          let other : 32 ≢ b = omega arith in
          let behind_lacks = lacks_append b said (32 ∷ seals) said_lacks (other, letters_lack b 65 seal (omega arith)) in
          subst (λ (l : List ℕ). Lacks b l) (sym is) (lacks_append b (decimal at) (32 ∷ behind) number (other, behind_lacks));
      short = omega (arith, size, number_size, len_size, short);
      some = omega (arith, size);
      great = great;
    }

pub is_mark_line : (at : ℕ) (mark : Piece) → at < 2 ^ 64 → IsMark mark → IsPiece mark → MarkLine at (spelled at mark)
is_mark_line at (Text text) small is_mark piece = absurd is_mark
is_mark_line at (Safe len) small is_mark piece =
    line_of at len (digest at (safe_words len)) (codes "safe ") (spelled at (Safe len)) small piece (λ b less. (omega arith, (omega arith, (omega arith, (omega arith, (omega arith, tt)))))) refl (omega arith) refl
    (mark_ends_great at (safe_words len))
is_mark_line at (Stopped len) small is_mark piece =
    line_of at len (digest at (stopped_words len)) (codes "stopped ") (spelled at (Stopped len)) small piece
    (λ b less. (omega arith, (omega arith, (omega arith, (omega arith, (omega arith, (omega arith, (omega arith, (omega arith, tt))))))))) refl (omega arith) refl
    (mark_ends_great at (stopped_words len))

pub mark_text : (at : ℕ) (line : List ℕ) → MarkLine at line → IsText line
mark_text at line m = text_from line (m.lacks 0 (omega arith)) (m.lacks 10 (omega arith))

-- a mark at the end of another has no greater number
pub number_behind : (front line : List ℕ) (m n : ℕ) → m < 2 ^ 64 → n < 2 ^ 64 → MarkLine m line → MarkLine n (front ++ line) → m ≤ n
number_behind front line m n m_small n_small here whole =
    let m_lacks = digits_lack 32 (decimal m) (omega arith) (decimal_digits m m_small) in
    let n_lacks = digits_lack 32 (decimal n) (omega arith) (decimal_digits n n_small) in
    let in_line : spaces line ≡ 3 = omega (arith, ap spaces here.is, spaces_append (decimal m) (32 ∷ here.behind), spaces_none (decimal m) m_lacks, here.two) in
    let in_whole : spaces (front ++ line) ≡ 3 = omega (arith, ap spaces whole.is, spaces_append (decimal n) (32 ∷ whole.behind), spaces_none (decimal n) n_lacks, whole.two) in
    let none : spaces front ≡ 0 = omega (arith, spaces_append front line, in_line, in_whole) in
    let front_lacks = lacks_append 32 front (decimal m) (lacks_spaces front none) m_lacks in
    let same : (front ++ decimal m) ++ 32 ∷ here.behind ≡ decimal n ++ 32 ∷ whole.behind =
    append_assoc front (decimal m) (32 ∷ here.behind) ∙ ap (λ (l : List ℕ). front ++ l) (sym here.is) ∙ whole.is in
    let digits : front ++ decimal m ≡ decimal n = (first_of 32 (front ++ decimal m) here.behind (decimal n) whole.behind front_lacks n_lacks same).0 in
    omega (arith, value_behind front (decimal m), decimal_value m m_small, decimal_value n n_small, ap (λ (l : List ℕ). digits_value 10 l) digits)

last_of_both : (front line : List ℕ) → 0 < length line → last_byte (front ++ line) ≡ last_byte line
last_of_both front [] some = absurd (omega arith)
last_of_both front (b ∷ bs) some = last_behind front b bs

-- no text's line ends like a mark's
pub no_text_behind : (front line : List ℕ) (m at : ℕ) (text : List ℕ) → MarkLine m line → front ++ line ≡ sealed at text → ⊥
no_text_behind front line m at text mark is =
    let great : has_text (front ++ line) ≡ false = ap (λ (b : ℕ). has_text (b ∷ [])) (last_of_both front line mark.some) ∙ mark.great in
    false≢true (sym great ∙ ap has_text is ∙ text_ends_small at text)

-- the last byte by its place
pub last_at : (line : List ℕ) → last_byte line ≡ get_or line (length line - 1) 0
last_at [] = refl
last_at (b ∷ []) = refl
last_at (b ∷ c ∷ bs) = last_at (c ∷ bs) ∙ next b (c ∷ bs) (omega arith)
  where
    next : (b : ℕ) (l : List ℕ) → 0 < length l → get_or l (length l - 1) 0 ≡ get_or (b ∷ l) (length (b ∷ l) - 1) 0
    next b l some = ap (λ (n : ℕ). get_or (b ∷ l) n 0) (let e : suc (length l - 1) ≡ length (b ∷ l) - 1 = omega arith in e)

-- ---- what a line's words say

-- the words of a mark with the first word alone
pub says_safe : (said : List ℕ) (len : ℕ) (r : Option ℕ) → ((n : ℕ) → n < 2 ^ 64 → said ≡ codes "safe " ++ decimal n → r ≡ Some n)
    → (((behind : List ℕ) → said ≡ codes "safe " ++ behind → ⊥) → r ≡ None) → r ≡ Some len → (mark : Piece) → IsMark mark → IsPiece mark → words mark ≡ said → Safe len ≡ mark
says_safe said len r number other is (Text text) is_mark piece has = absurd is_mark
says_safe said len r number other is (Safe k) is_mark piece has = let e : len ≡ k = same_Some len k (sym is ∙ number k piece (sym has)) in ap (λ (n : ℕ). Safe n) e
says_safe said len r number other is (Stopped k) is_mark piece has = absurd (none-some len (sym (other (λ behind begins. absurd (apart k behind (has ∙ begins)))) ∙ is))
  where
    apart : (k : ℕ) (behind : List ℕ) → codes "stopped " ++ decimal k ≡ codes "safe " ++ behind → ⊥
    apart k behind is = let e : ◌≡◌ {A = ℕ} 116 97 = cc in let f : ⊥ = omega (arith, e) in f

pub says_stopped : (said : List ℕ) (r : Option ℕ) (s : Option ℕ) → ((n : ℕ) → n < 2 ^ 64 → said ≡ codes "safe " ++ decimal n → r ≡ Some n) → r ≡ None
    → ((n : ℕ) → n < 2 ^ 64 → said ≡ codes "stopped " ++ decimal n → s ≡ Some n) → (mark : Piece) → IsMark mark → IsPiece mark → words mark ≡ said → (k : ℕ) × (mark ≡ Stopped k) × (s ≡ Some k)
says_stopped said r s safe none stopped (Text text) is_mark piece has = absurd is_mark
says_stopped said r s safe none stopped (Safe k) is_mark piece has = absurd (none-some k (sym none ∙ safe k piece (sym has)))
says_stopped said r s safe none stopped (Stopped k) is_mark piece has = (k, refl, stopped k piece (sym has))

-- the piece of a line whose last letter is small is a text, and that of another a mark
pub small_is_text : (at : ℕ) (piece : Piece) (line text : List ℕ) → has_text line ≡ true → spelled at piece ≡ line → words piece ≡ text → Text text ≡ piece
small_is_text at (Text t) line text small is has = ap (λ (l : List ℕ). Text l) (sym has)
small_is_text at (Safe len) line text small is has = absurd (false≢true (sym (mark_ends_great at (safe_words len)) ∙ ap has_text is ∙ small))
small_is_text at (Stopped len) line text small is has = absurd (false≢true (sym (mark_ends_great at (stopped_words len)) ∙ ap has_text is ∙ small))

pub great_is_mark : (at : ℕ) (piece : Piece) (line : List ℕ) → has_text line ≡ false → spelled at piece ≡ line → IsMark piece
great_is_mark at (Text text) line great is = absurd (false≢true (sym great ∙ sym (ap has_text is) ∙ text_ends_small at text))
great_is_mark at (Safe len) line great is = tt
great_is_mark at (Stopped len) line great is = tt

-- a piece's line by its words
pub spelled_words : (at : ℕ) (piece : Piece) → (first : ℕ) × (numbered first at (words piece) ≡ spelled at piece)
spelled_words at (Text text) = (97, refl)
spelled_words at (Safe len) = (65, refl)
spelled_words at (Stopped len) = (65, refl)

pub mark_length : (lines : ℕ) (line : List ℕ) → IsMarkAbove lines line → length line ≤ 66
mark_length lines line above =
    let size = (is_mark_line above.number above.mark above.small above.is_mark above.is_piece).short in
    omega (arith, ap length above.is, size)
