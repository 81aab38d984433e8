-- What a body stands for, piece by piece.
use Rattle.std.proofs.Common.{◌≡◌, ◌≢◌, ℕ, suc, ◌+◌, ◌<◌, ◌≤◌, Bool, true, false, cond, not, List, [], ◌∷◌, ◌++◌, Option, Some, None, length, take, drop, nat_lt, ◌==◌, refl, sym, ap, ◌∙◌, append_assoc, length-drop, arith}
use Rattle.std.specs.List.{position_or_len, before_first, after_first}
use Rattle.std.specs.Option.{option_map}
use Rattle.std.proofs.lemmas.Bool.Decides.{nat_tests}
use Rattle.dump_words.specs.Escapes.{escape_of, byte_before, unescaped_from, unescaped, at_backslash, escape_at, glued}

-- two pieces of a text
abbrev Pieces : Type 0
Pieces = List ℕ × List ℕ

-- pieces in a row
pub glue_all : (a b : List ℕ) (rest : Option (List ℕ)) → glued a (glued b rest) ≡ glued (a ++ b) rest
glue_all a b None = refl
glue_all a b (Some bytes) = ap Some (sym (append_assoc a b bytes))

glue_none : (rest : Option (List ℕ)) → glued [] rest ≡ rest
glue_none None = refl
glue_none (Some bytes) = refl

glue_byte : (b : ℕ) (bytes : List ℕ) (rest : Option (List ℕ)) → byte_before (Some b) (glued bytes rest) ≡ glued (b ∷ bytes) rest
glue_byte b bytes None = refl
glue_byte b bytes (Some more) = refl

one_byte : (b : ℕ) (rest : Option (List ℕ)) → byte_before (Some b) rest ≡ glued (b ∷ []) rest
one_byte b None = refl
one_byte b (Some more) = refl

-- what is known of the rest where a text's first byte is no backslash
inside_rest : (is : Bool) (p n : ℕ) → cond (not is) (1 + p) 0 < suc n → is ≡ false → p < n
inside_rest true p n within other = cc
inside_rest false p n within other = omega arith

past_rest : (is : Bool) (p n : ℕ) → suc n ≤ cond (not is) (1 + p) 0 → (is ≡ false) × (n ≤ p)
past_rest true p n past = absurd (omega (arith, past))
past_rest false p n past = (refl, omega arith)

first_slash : (k : Bool) (b : ℕ) (bytes : List ℕ) → (b == 92) ≡ true → unescaped k (b ∷ bytes) ≡ glued (before_first (λ b. b == 92) (b ∷ bytes)) (unescaped_from k (after_first (λ b. b == 92) (b ∷ bytes)) true)
first_slash k b bytes is = rw is (sym (glue_none (unescaped_from k bytes true)))

first_other : (k : Bool) (b : ℕ) (bytes : List ℕ) → (b == 92) ≡ false
    → unescaped k bytes ≡ glued (before_first (λ b. b == 92) bytes) (unescaped_from k (after_first (λ b. b == 92) bytes) true)
    → unescaped k (b ∷ bytes) ≡ glued (before_first (λ b. b == 92) (b ∷ bytes)) (unescaped_from k (after_first (λ b. b == 92) (b ∷ bytes)) true)
first_other k b bytes is rest =
    let p = position_or_len (λ b. b == 92) bytes in
    let one : 1 + p ≡ suc p = omega arith in
    let two : suc p + 1 ≡ suc (p + 1) = omega arith in
    rw (is, one, two) (ap (byte_before (Some b)) rest ∙ glue_byte b (take p bytes) (unescaped_from k (drop (p + 1) bytes) true))

first_of : (k : Bool) (is : Bool) (b : ℕ) (bytes : List ℕ) → (b == 92) ≡ is
    → (is ≡ false → unescaped k bytes ≡ glued (before_first (λ b. b == 92) bytes) (unescaped_from k (after_first (λ b. b == 92) bytes) true))
    → unescaped k (b ∷ bytes) ≡ glued (before_first (λ b. b == 92) (b ∷ bytes)) (unescaped_from k (after_first (λ b. b == 92) (b ∷ bytes)) true)
first_of k true b bytes is rest = first_slash k b bytes is
first_of k false b bytes is rest = first_other k b bytes is (rest refl)

-- up to the first backslash
front_of : (k : Bool) (text : List ℕ) → position_or_len (λ b. b == 92) text < length text
    → unescaped k text ≡ glued (before_first (λ b. b == 92) text) (unescaped_from k (after_first (λ b. b == 92) text) true)
front_of k [] within = absurd (omega (arith, within))
front_of k (b ∷ bytes) within =
    first_of k (b == 92) b bytes refl (λ other. front_of k bytes (inside_rest (b == 92) (position_or_len (λ b. b == 92) bytes) (length bytes) within other))

-- without a backslash
plain : (k : Bool) (text : List ℕ) → length text ≤ position_or_len (λ b. b == 92) text → unescaped k text ≡ Some text
plain k [] past = refl
plain k (b ∷ bytes) past =
    let rest = past_rest (b == 92) (position_or_len (λ b. b == 92) bytes) (length bytes) past in
    let other : (b == 92) ≡ false = rest.0 in
    rw other (ap (byte_before (Some b)) (plain k bytes rest.1))

split_at : (k : Bool) (there : Bool) (text front behind : List ℕ) → nat_lt (position_or_len (λ b. b == 92) text) (length text) ≡ there
    → cond {A = Option Pieces} there (Some (before_first (λ b. b == 92) text, after_first (λ b. b == 92) text)) None ≡ Some (front, behind)
    → (unescaped k text ≡ glued front (unescaped_from k behind true)) × (length behind < length text)
split_at k true text front behind within is =
    let at = position_or_len (λ b. b == 92) text in
    let inside : at < length text = grind (arith, nat_tests) in
    let pair : ◌≡◌ {A = Pieces} (before_first (λ b. b == 92) text, after_first (λ b. b == 92) text) (front, behind) = cc in (
      front_of k text inside ∙ ap (λ p. glued p.0 (unescaped_from k p.1 true)) pair,
      omega (arith, inside, length-drop (at + 1) text, ap (λ p. length p.1) pair),
    )
split_at k false text front behind within is = cc

pub at_split : (k : Bool) (text front behind : List ℕ) → Some (front, behind) ≡ at_backslash text
    → (unescaped k text ≡ glued front (unescaped_from k behind true)) × (length behind < length text)
at_split k text front behind is = split_at k (nat_lt (position_or_len (λ b. b == 92) text) (length text)) text front behind refl (sym is)

no_split : (k : Bool) (there : Bool) (text : List ℕ) → nat_lt (position_or_len (λ b. b == 92) text) (length text) ≡ there
    → cond {A = Option Pieces} there (Some (before_first (λ b. b == 92) text, after_first (λ b. b == 92) text)) None ≡ None → unescaped k text ≡ Some text
no_split k true text within is = cc
no_split k false text within is = plain k text (grind (arith, nat_tests))

pub at_none : (k : Bool) (text : List ℕ) → None ≡ at_backslash text → unescaped k text ≡ Some text
at_none k text is = no_split k (nat_lt (position_or_len (λ b. b == 92) text) (length text)) text refl (sym is)

-- behind a backslash
escaped : (k : Bool) (e : Option ℕ) (bytes byte more : List ℕ) → option_map {U = Pieces} (λ x. (x ∷ [], bytes)) e ≡ Some (byte, more) → byte_before e (unescaped k bytes) ≡ glued byte (unescaped k more)
escaped k None bytes byte more is = cc
escaped k (Some e) bytes byte more is =
    let pair : ◌≡◌ {A = Pieces} (e ∷ [], bytes) (byte, more) = cc in
    one_byte e (unescaped k bytes) ∙ ap (λ p. glued p.0 (unescaped k p.1)) pair

pub at_escape : (k : Bool) (behind byte more : List ℕ) → Some (byte, more) ≡ escape_at k behind → unescaped_from k behind true ≡ glued byte (unescaped k more)
at_escape k [] byte more is = cc
at_escape k (b ∷ bytes) byte more is = escaped k (escape_of k b) bytes byte more (sym is)

shorter : (e : Option ℕ) (bytes byte more : List ℕ) → option_map {U = Pieces} (λ x. (x ∷ [], bytes)) e ≡ Some (byte, more) → length more ≤ length bytes
shorter None bytes byte more is = cc
shorter (Some e) bytes byte more is =
    let pair : ◌≡◌ {A = Pieces} (e ∷ [], bytes) (byte, more) = cc in
    omega (arith, ap (λ p. length p.1) pair)

pub escape_shorter : (k : Bool) (behind byte more : List ℕ) → Some (byte, more) ≡ escape_at k behind → length more < length behind
escape_shorter k [] byte more is = cc
escape_shorter k (b ∷ bytes) byte more is = omega (arith, shorter (escape_of k b) bytes byte more (sym is))

lone : (k : Bool) (e : Option ℕ) (bytes : List ℕ) → option_map {U = Pieces} (λ x. (x ∷ [], bytes)) e ≡ None → byte_before e (unescaped k bytes) ≡ None
lone k None bytes is = refl
lone k (Some e) bytes is = cc

pub no_escape : (k : Bool) (behind : List ℕ) → None ≡ escape_at k behind → unescaped_from k behind true ≡ None
no_escape k [] is = refl
no_escape k (b ∷ bytes) is = lone k (escape_of k b) bytes (sym is)

-- a text that begins with none of the three
same_byte : (is : Bool) (b c : ℕ) (bytes : List ℕ) → (b == c) ≡ is → ((rest : List ℕ) → b ∷ bytes ≢ c ∷ rest) → is ≡ false
same_byte true b c bytes is other = let same : b ≡ c = grind (arith, nat_tests) in absurd (other bytes (ap (λ x. x ∷ bytes) same))
same_byte false b c bytes is other = refl

pub other_byte : (b c : ℕ) (bytes : List ℕ) → ((rest : List ℕ) → b ∷ bytes ≢ c ∷ rest) → (b == c) ≡ false
other_byte b c bytes other = same_byte (b == c) b c bytes refl other

pub none_of_three : (text : List ℕ) → ((rest : List ℕ) → text ≢ 92 ∷ rest) → ((rest : List ℕ) → text ≢ 110 ∷ rest) → ((rest : List ℕ) → text ≢ 114 ∷ rest) → None ≡ escape_at false text
none_of_three [] a b c = refl
none_of_three (x ∷ bytes) a b c = rw (other_byte x 92 bytes a, other_byte x 110 bytes b, other_byte x 114 bytes c) refl

pub none_of_four : (text : List ℕ) → ((rest : List ℕ) → text ≢ 92 ∷ rest) → ((rest : List ℕ) → text ≢ 110 ∷ rest) → ((rest : List ℕ) → text ≢ 114 ∷ rest) → ((rest : List ℕ) → text ≢ 115 ∷ rest) → None ≡ escape_at true text
none_of_four [] a b c d = refl
none_of_four (x ∷ bytes) a b c d = rw (other_byte x 92 bytes a, other_byte x 110 bytes b, other_byte x 114 bytes c, other_byte x 115 bytes d) refl

-- ---- a body, piece after piece

pub piece_more : (k : Bool) (done next last rest front behind byte more : List ℕ) (whole : Option (List ℕ)) → glued done (unescaped k rest) ≡ whole → Some (front, behind) ≡ at_backslash rest → Some (byte, more) ≡ escape_at k behind
    → next ≡ done ++ front → last ≡ next ++ byte → glued last (unescaped k more) ≡ whole
piece_more k done next last rest front behind byte more whole so at escape put end =
    rw (end, put)
    (sym (glue_all (done ++ front) byte (unescaped k more))
    ∙ ap (glued (done ++ front)) (sym (at_escape k behind byte more escape))
    ∙ sym (glue_all done front (unescaped_from k behind true))
    ∙ ap (glued done) (sym (at_split k rest front behind at).0)
    ∙ so)

pub piece_shorter : (k : Bool) (rest front behind byte more : List ℕ) → Some (front, behind) ≡ at_backslash rest → Some (byte, more) ≡ escape_at k behind → length more < length rest
piece_shorter k rest front behind byte more at escape = omega (arith, (at_split k rest front behind at).1, escape_shorter k behind byte more escape)

pub piece_none : (k : Bool) (done rest front behind : List ℕ) (whole : Option (List ℕ)) → glued done (unescaped k rest) ≡ whole → Some (front, behind) ≡ at_backslash rest → None ≡ escape_at k behind → None ≡ whole
piece_none k done rest front behind whole so at escape =
    sym (ap (glued done) ((at_split k rest front behind at).0 ∙ ap (glued front) (no_escape k behind escape))) ∙ so

pub piece_last : (k : Bool) (done last rest : List ℕ) (whole : Option (List ℕ)) → glued done (unescaped k rest) ≡ whole → None ≡ at_backslash rest → last ≡ done ++ rest → Some last ≡ whole
piece_last k done last rest whole so at end = ap Some end ∙ sym (ap (glued done) (at_none k rest at)) ∙ so

pub whole_piece : (k : Bool) (text body : List ℕ) → None ≡ at_backslash body → text ≡ body → Some text ≡ unescaped k body
whole_piece k text body at is = piece_last k [] text body (unescaped k body) (glue_none (unescaped k body)) at is
