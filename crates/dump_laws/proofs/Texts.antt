-- Texts and keys as they are written, with their escapes, stand for what they were written of.
use Rattle.std.proofs.Common.{◌≡◌, ℕ, ◌<◌, ◌≤◌, Bool, true, false, List, [], ◌∷◌, ◌++◌, Option, Some, None, length, nat_eq, nat_le, ◌==◌, refl, sym, ap, ◌∙◌, eqb-true, append-nil, arith}
use Rattle.std.specs.List.{flat_map, list_all}
use Rattle.std.proofs.lemmas.Bool.Decides.{nat_tests}
use Rattle.report_text.specs.Reports as report
use Rattle.report_text.specs.Reports.{body_byte, escaped_body, escaped_key, key_byte}
use Rattle.dump_words.specs.Escapes.{byte_before, unescaped, unescaped_from}
use Rattle.dump_words.specs.Parts.{body_behind, cut_at, key_part, text_behind, with_word, within}
use Rattle.dump_laws.specs.Forms.{IsBody}
use Rattle.dump_laws.proofs.Words.{all_both, all_next, cut_last, cut_word, lacks}

-- ---- escapes

not_slash : (b : ℕ) → nat_eq b 92 ≡ false → (b == 92) ≡ false
not_slash b h = grind (arith, nat_tests)

-- a byte as it is written, and others behind it
byte_back : (k slash feed return : Bool) (b : ℕ) (rest text : List ℕ) → nat_eq b 92 ≡ slash → nat_eq b 10 ≡ feed → nat_eq b 13 ≡ return
    → unescaped_from k rest false ≡ Some text → unescaped_from k (body_byte b ++ rest) false ≡ Some (b ∷ text)
byte_back k true feed return b rest text s f r h = rw s (ap (byte_before (Some 92)) h ∙ ap (λ n. Some (n ∷ text)) (sym (eqb-true b 92 s)))
byte_back k false true return b rest text s f r h = rw (s, f) (ap (byte_before (Some 10)) h ∙ ap (λ n. Some (n ∷ text)) (sym (eqb-true b 10 f)))
byte_back k false false true b rest text s f r h = rw (s, f, r) (ap (byte_before (Some 13)) h ∙ ap (λ n. Some (n ∷ text)) (sym (eqb-true b 13 r)))
byte_back k false false false b rest text s f r h = let other : (b == 92) ≡ false = not_slash b s in rw (s, f, r, other) (ap (byte_before (Some b)) h)

key_back : (space : Bool) (b : ℕ) (rest text : List ℕ) → nat_eq b 32 ≡ space → unescaped_from true rest false ≡ Some text → unescaped_from true (key_byte b ++ rest) false ≡ Some (b ∷ text)
key_back true b rest text s h = rw s (ap (byte_before (Some 32)) h ∙ ap (λ n. Some (n ∷ text)) (sym (eqb-true b 32 s)))
key_back false b rest text s h = rw s (byte_back true (nat_eq b 92) (nat_eq b 10) (nat_eq b 13) b rest text refl refl refl h)

pub body_reads : (text : List ℕ) → unescaped false (escaped_body text) ≡ Some text
body_reads [] = refl
body_reads (b ∷ text) = byte_back false (nat_eq b 92) (nat_eq b 10) (nat_eq b 13) b (flat_map body_byte text) text refl refl refl (body_reads text)

pub key_reads : (text : List ℕ) → unescaped true (escaped_key text) ≡ Some text
key_reads [] = refl
key_reads (b ∷ text) = key_back (nat_eq b 32) b (flat_map key_byte text) text refl (key_reads text)

-- ---- what isn't in them

byte_clean : (slash feed return : Bool) (b : ℕ) → nat_eq b 92 ≡ slash → nat_eq b 10 ≡ feed → nat_eq b 13 ≡ return → list_all (lacks 10) (body_byte b) ≡ true
byte_clean true feed return b s f r = rw s refl
byte_clean false true return b s f r = rw (s, f) refl
byte_clean false false true b s f r = rw (s, f, r) refl
byte_clean false false false b s f r = let other : (b == 10) ≡ false = grind (arith, nat_tests) in rw (s, f, r, other) refl

byte_no_space : (slash feed return : Bool) (b : ℕ) → nat_eq b 32 ≡ false → nat_eq b 92 ≡ slash → nat_eq b 10 ≡ feed → nat_eq b 13 ≡ return → list_all (lacks 32) (body_byte b) ≡ true
byte_no_space true feed return b n s f r = rw s refl
byte_no_space false true return b n s f r = rw (s, f) refl
byte_no_space false false true b n s f r = rw (s, f, r) refl
byte_no_space false false false b n s f r = let other : (b == 32) ≡ false = grind (arith, nat_tests) in rw (s, f, r, other) refl

pub body_one_line : (text : List ℕ) → list_all (lacks 10) (escaped_body text) ≡ true
body_one_line [] = refl
body_one_line (b ∷ text) = all_both (lacks 10) (body_byte b) (escaped_body text) (byte_clean (nat_eq b 92) (nat_eq b 10) (nat_eq b 13) b refl refl refl) (body_one_line text)

key_clean : (space : Bool) (b : ℕ) → nat_eq b 32 ≡ space → list_all (lacks 10) (key_byte b) ≡ true
key_clean true b s = rw s refl
key_clean false b s = rw s (byte_clean (nat_eq b 92) (nat_eq b 10) (nat_eq b 13) b refl refl refl)

key_no_space : (space : Bool) (b : ℕ) → nat_eq b 32 ≡ space → list_all (lacks 32) (key_byte b) ≡ true
key_no_space true b s = rw s refl
key_no_space false b s = rw s (byte_no_space (nat_eq b 92) (nat_eq b 10) (nat_eq b 13) b s refl refl refl)

pub key_one_line : (text : List ℕ) → list_all (lacks 10) (escaped_key text) ≡ true
key_one_line [] = refl
key_one_line (b ∷ text) = all_both (lacks 10) (key_byte b) (escaped_key text) (key_clean (nat_eq b 32) b refl) (key_one_line text)

pub key_one_word : (text : List ℕ) → list_all (lacks 32) (escaped_key text) ≡ true
key_one_word [] = refl
key_one_word (b ∷ text) = all_both (lacks 32) (key_byte b) (escaped_key text) (key_no_space (nat_eq b 32) b refl) (key_one_word text)

-- ---- a text at the end of a line

-- what is read behind the last word: nothing where the text is empty
abbrev pub behind : List ℕ → Option (List ℕ)
behind [] = None
behind (b ∷ text) = Some (escaped_body (b ∷ text))

-- the last word before a text
pub cut_before : (word text : List ℕ) → list_all (lacks 32) word ≡ true → cut_at 32 (word ++ report.body_behind text) ≡ (word, behind text)
cut_before word [] clean = rw append-nil (cut_last 32 word clean)
cut_before word (b ∷ text) clean = cut_word 32 word (escaped_body (b ∷ text)) refl clean

pub word_before : {X : Type 0} (word text : List ℕ) (next : List ℕ → Option (List ℕ) → Option X) → list_all (lacks 32) word ≡ true → with_word (Some (word ++ report.body_behind text)) next ≡ next word (behind text)
word_before word text next clean = ap (λ (c : List ℕ × Option (List ℕ)). next c.0 c.1) (cut_before word text clean)

one_at_least : (x : ℕ) (xs : List ℕ) → nat_eq (length (x ∷ xs)) 0 ≡ false
one_at_least x xs = grind (arith, nat_tests)

some_bytes : (slash feed return : Bool) (b : ℕ) (rest : List ℕ) → nat_eq b 92 ≡ slash → nat_eq b 10 ≡ feed → nat_eq b 13 ≡ return → nat_eq (length (body_byte b ++ rest)) 0 ≡ false
some_bytes true feed return b rest s f r = rw s (one_at_least 92 (92 ∷ rest))
some_bytes false true return b rest s f r = rw (s, f) (one_at_least 92 (110 ∷ rest))
some_bytes false false true b rest s f r = rw (s, f, r) (one_at_least 92 (114 ∷ rest))
some_bytes false false false b rest s f r = rw (s, f, r) (one_at_least b rest)

pub text_reads : (text : List ℕ) → text_behind (behind text) ≡ Some text
text_reads [] = refl
text_reads (b ∷ text) = rw (some_bytes (nat_eq b 92) (nat_eq b 10) (nat_eq b 13) b (escaped_body text) refl refl refl) (body_reads (b ∷ text))

pub body_behind_reads : (text : List ℕ) → IsBody text → body_behind (behind text) ≡ Some text
body_behind_reads text short =
    let fits : nat_le (length text) 65536 ≡ true = grind (arith, nat_tests, short) in
    let least : nat_le 0 (length text) ≡ true = grind (arith, nat_tests) in
    ap (within 0 65536) (text_reads text) ∙ rw (least, fits) refl

pub key_part_reads : (key : List ℕ) → 0 < length key → length key ≤ 256 → key_part (escaped_key key) ≡ Some key
key_part_reads key some short =
    let least : nat_le 1 (length key) ≡ true = grind (arith, nat_tests, some) in
    let most : nat_le (length key) 256 ≡ true = grind (arith, nat_tests, short) in
    ap (within 1 256) (key_reads key) ∙ rw (least, most) refl

-- a text at the end of a line has no line feed
pub behind_one_line : (text : List ℕ) → list_all (lacks 10) (report.body_behind text) ≡ true
behind_one_line [] = refl
behind_one_line (b ∷ text) = all_next (lacks 10) 32 (escaped_body (b ∷ text)) refl (body_one_line (b ∷ text))
