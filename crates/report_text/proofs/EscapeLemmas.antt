-- What a body stands for, piece by piece.
use Rattle.std.proofs.Common.{◌≡◌, ◌≢◌, ℕ, suc, ◌+◌, ◌<◌, ◌≤◌, Bool, true, false, cond, not, List, [], ◌∷◌, ◌++◌, Option, Some, None, length, take, drop, nat_lt, ◌==◌, refl, sym, ap, ◌∙◌, append_assoc, length-drop, arith}
use Rattle.std.specs.List.{position_or_len, before_first, after_first}
use Rattle.std.specs.Option.{option_map}
use Rattle.std.proofs.lemmas.Bool.Decides.{nat_tests}
use Rattle.report_text.specs.Escapes.{escape_of, byte_before, unescaped_from, unescaped, at_backslash, escape_at, glued}

-- two pieces of a text
abbrev Pieces : Type 0
Pieces = List ℕ × List ℕ

-- pieces in a row
pub glue_all : (a b : List ℕ) (rest : Option (List ℕ)) → glued a (glued b rest) ≡ glued (a ++ b) rest
glue_all a b None = refl
glue_all a b (Some bytes) = ap Some (sym (append_assoc a b bytes))

glue_none : (rest : Option (List ℕ)) → glued [] rest ≡ rest
glue_none None = refl
glue_none (Some bytes) = refl

glue_byte : (b : ℕ) (bytes : List ℕ) (rest : Option (List ℕ)) → byte_before (Some b) (glued bytes rest) ≡ glued (b ∷ bytes) rest
glue_byte b bytes None = refl
glue_byte b bytes (Some more) = refl

one_byte : (b : ℕ) (rest : Option (List ℕ)) → byte_before (Some b) rest ≡ glued (b ∷ []) rest
one_byte b None = refl
one_byte b (Some more) = refl

-- what is known of the rest where a text's first byte is no backslash
inside_rest : (is : Bool) (p n : ℕ) → cond (not is) (1 + p) 0 < suc n → is ≡ false → p < n
inside_rest true p n within other = cc
inside_rest false p n within other = omega arith

past_rest : (is : Bool) (p n : ℕ) → suc n ≤ cond (not is) (1 + p) 0 → (is ≡ false) × (n ≤ p)
past_rest true p n past = absurd (omega (arith, past))
past_rest false p n past = (refl, omega arith)

first_slash : (b : ℕ) (bytes : List ℕ) → (b == 92) ≡ true → unescaped (b ∷ bytes) ≡ glued (before_first (λ b. b == 92) (b ∷ bytes)) (unescaped_from (after_first (λ b. b == 92) (b ∷ bytes)) true)
first_slash b bytes is = rw is (sym (glue_none (unescaped_from bytes true)))

first_other : (b : ℕ) (bytes : List ℕ) → (b == 92) ≡ false
    → unescaped bytes ≡ glued (before_first (λ b. b == 92) bytes) (unescaped_from (after_first (λ b. b == 92) bytes) true)
    → unescaped (b ∷ bytes) ≡ glued (before_first (λ b. b == 92) (b ∷ bytes)) (unescaped_from (after_first (λ b. b == 92) (b ∷ bytes)) true)
first_other b bytes is rest =
    let p = position_or_len (λ b. b == 92) bytes in
    let one : 1 + p ≡ suc p = omega arith in
    let two : suc p + 1 ≡ suc (p + 1) = omega arith in
    rw (is, one, two) (ap (byte_before (Some b)) rest ∙ glue_byte b (take p bytes) (unescaped_from (drop (p + 1) bytes) true))

first_of : (is : Bool) (b : ℕ) (bytes : List ℕ) → (b == 92) ≡ is
    → (is ≡ false → unescaped bytes ≡ glued (before_first (λ b. b == 92) bytes) (unescaped_from (after_first (λ b. b == 92) bytes) true))
    → unescaped (b ∷ bytes) ≡ glued (before_first (λ b. b == 92) (b ∷ bytes)) (unescaped_from (after_first (λ b. b == 92) (b ∷ bytes)) true)
first_of true b bytes is rest = first_slash b bytes is
first_of false b bytes is rest = first_other b bytes is (rest refl)

-- up to the first backslash
front_of : (text : List ℕ) → position_or_len (λ b. b == 92) text < length text
    → unescaped text ≡ glued (before_first (λ b. b == 92) text) (unescaped_from (after_first (λ b. b == 92) text) true)
front_of [] within = absurd (omega (arith, within))
front_of (b ∷ bytes) within =
    first_of (b == 92) b bytes refl (λ other. front_of bytes (inside_rest (b == 92) (position_or_len (λ b. b == 92) bytes) (length bytes) within other))

-- without a backslash
plain : (text : List ℕ) → length text ≤ position_or_len (λ b. b == 92) text → unescaped text ≡ Some text
plain [] past = refl
plain (b ∷ bytes) past =
    let rest = past_rest (b == 92) (position_or_len (λ b. b == 92) bytes) (length bytes) past in
    let other : (b == 92) ≡ false = rest.0 in
    rw other (ap (byte_before (Some b)) (plain bytes rest.1))

split_at : (there : Bool) (text front behind : List ℕ) → nat_lt (position_or_len (λ b. b == 92) text) (length text) ≡ there
    → cond {A = Option Pieces} there (Some (before_first (λ b. b == 92) text, after_first (λ b. b == 92) text)) None ≡ Some (front, behind)
    → (unescaped text ≡ glued front (unescaped_from behind true)) × (length behind < length text)
split_at true text front behind within is =
    let at = position_or_len (λ b. b == 92) text in
    let inside : at < length text = grind (arith, nat_tests) in
    let pair : ◌≡◌ {A = Pieces} (before_first (λ b. b == 92) text, after_first (λ b. b == 92) text) (front, behind) = cc in (
      front_of text inside ∙ ap (λ p. glued p.0 (unescaped_from p.1 true)) pair,
      omega (arith, inside, length-drop (at + 1) text, ap (λ p. length p.1) pair),
    )
split_at false text front behind within is = cc

pub at_split : (text front behind : List ℕ) → Some (front, behind) ≡ at_backslash text
    → (unescaped text ≡ glued front (unescaped_from behind true)) × (length behind < length text)
at_split text front behind is = split_at (nat_lt (position_or_len (λ b. b == 92) text) (length text)) text front behind refl (sym is)

no_split : (there : Bool) (text : List ℕ) → nat_lt (position_or_len (λ b. b == 92) text) (length text) ≡ there
    → cond {A = Option Pieces} there (Some (before_first (λ b. b == 92) text, after_first (λ b. b == 92) text)) None ≡ None → unescaped text ≡ Some text
no_split true text within is = cc
no_split false text within is = plain text (grind (arith, nat_tests))

pub at_none : (text : List ℕ) → None ≡ at_backslash text → unescaped text ≡ Some text
at_none text is = no_split (nat_lt (position_or_len (λ b. b == 92) text) (length text)) text refl (sym is)

-- behind a backslash
escaped : (e : Option ℕ) (bytes byte more : List ℕ) → option_map {U = Pieces} (λ x. (x ∷ [], bytes)) e ≡ Some (byte, more) → byte_before e (unescaped bytes) ≡ glued byte (unescaped more)
escaped None bytes byte more is = cc
escaped (Some e) bytes byte more is =
    let pair : ◌≡◌ {A = Pieces} (e ∷ [], bytes) (byte, more) = cc in
    one_byte e (unescaped bytes) ∙ ap (λ p. glued p.0 (unescaped p.1)) pair

pub at_escape : (behind byte more : List ℕ) → Some (byte, more) ≡ escape_at behind → unescaped_from behind true ≡ glued byte (unescaped more)
at_escape [] byte more is = cc
at_escape (b ∷ bytes) byte more is = escaped (escape_of b) bytes byte more (sym is)

shorter : (e : Option ℕ) (bytes byte more : List ℕ) → option_map {U = Pieces} (λ x. (x ∷ [], bytes)) e ≡ Some (byte, more) → length more ≤ length bytes
shorter None bytes byte more is = cc
shorter (Some e) bytes byte more is =
    let pair : ◌≡◌ {A = Pieces} (e ∷ [], bytes) (byte, more) = cc in
    omega (arith, ap (λ p. length p.1) pair)

pub escape_shorter : (behind byte more : List ℕ) → Some (byte, more) ≡ escape_at behind → length more < length behind
escape_shorter [] byte more is = cc
escape_shorter (b ∷ bytes) byte more is = omega (arith, shorter (escape_of b) bytes byte more (sym is))

lone : (e : Option ℕ) (bytes : List ℕ) → option_map {U = Pieces} (λ x. (x ∷ [], bytes)) e ≡ None → byte_before e (unescaped bytes) ≡ None
lone None bytes is = refl
lone (Some e) bytes is = cc

pub no_escape : (behind : List ℕ) → None ≡ escape_at behind → unescaped_from behind true ≡ None
no_escape [] is = refl
no_escape (b ∷ bytes) is = lone (escape_of b) bytes (sym is)

-- a text that begins with none of the three
same_byte : (is : Bool) (b c : ℕ) (bytes : List ℕ) → (b == c) ≡ is → ((rest : List ℕ) → b ∷ bytes ≢ c ∷ rest) → is ≡ false
same_byte true b c bytes is other = let same : b ≡ c = grind (arith, nat_tests) in absurd (other bytes (ap (λ x. x ∷ bytes) same))
same_byte false b c bytes is other = refl

pub other_byte : (b c : ℕ) (bytes : List ℕ) → ((rest : List ℕ) → b ∷ bytes ≢ c ∷ rest) → (b == c) ≡ false
other_byte b c bytes other = same_byte (b == c) b c bytes refl other

pub none_of_three : (text : List ℕ) → ((rest : List ℕ) → text ≢ 92 ∷ rest) → ((rest : List ℕ) → text ≢ 110 ∷ rest) → ((rest : List ℕ) → text ≢ 114 ∷ rest) → None ≡ escape_at text
none_of_three [] a b c = refl
none_of_three (x ∷ bytes) a b c = rw (other_byte x 92 bytes a, other_byte x 110 bytes b, other_byte x 114 bytes c) refl

-- ---- a body, piece after piece

pub piece_more : (done next last rest front behind byte more : List ℕ) (whole : Option (List ℕ)) → glued done (unescaped rest) ≡ whole → Some (front, behind) ≡ at_backslash rest → Some (byte, more) ≡ escape_at behind
    → next ≡ done ++ front → last ≡ next ++ byte → glued last (unescaped more) ≡ whole
piece_more done next last rest front behind byte more whole so at escape put end =
    rw (end, put)
    (sym (glue_all (done ++ front) byte (unescaped more))
    ∙ ap (glued (done ++ front)) (sym (at_escape behind byte more escape))
    ∙ sym (glue_all done front (unescaped_from behind true))
    ∙ ap (glued done) (sym (at_split rest front behind at).0)
    ∙ so)

pub piece_shorter : (rest front behind byte more : List ℕ) → Some (front, behind) ≡ at_backslash rest → Some (byte, more) ≡ escape_at behind → length more < length rest
piece_shorter rest front behind byte more at escape = omega (arith, (at_split rest front behind at).1, escape_shorter behind byte more escape)

pub piece_none : (done rest front behind : List ℕ) (whole : Option (List ℕ)) → glued done (unescaped rest) ≡ whole → Some (front, behind) ≡ at_backslash rest → None ≡ escape_at behind → None ≡ whole
piece_none done rest front behind whole so at escape =
    sym (ap (glued done) ((at_split rest front behind at).0 ∙ ap (glued front) (no_escape behind escape))) ∙ so

pub piece_last : (done last rest : List ℕ) (whole : Option (List ℕ)) → glued done (unescaped rest) ≡ whole → None ≡ at_backslash rest → last ≡ done ++ rest → Some last ≡ whole
piece_last done last rest whole so at end = ap Some end ∙ sym (ap (glued done) (at_none rest at)) ∙ so

pub whole_piece : (text body : List ℕ) → None ≡ at_backslash body → text ≡ body → Some text ≡ unescaped body
whole_piece text body at is = piece_last [] text body (unescaped body) (glue_none (unescaped body)) at is
