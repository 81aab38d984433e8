-- Texts of header fields that a line gives back as they are.
use Rattle.std.proofs.Common.{◌≡◌, ◌⊎◌, inl, inr, ℕ, ◌<◌, ◌^◌, true, ◌&&◌, not, List, [], ◌∷◌, IsSome, length, codes, decimal, nat_eq, nat_le, ap, ◌∙◌, arith}
use Rattle.std.specs.List.{ends_with, list_all, starts_with}
use Rattle.std.proofs.lemmas.Bool.Decides.{nat_tests}
use Rattle.std.proofs.lemmas.Fmt.{decimal_nonempty}
use Rattle.std.proofs.lemmas.List.Folds.{list_all-append}
use Rattle.lang_base.specs.Characters.{is_lower, is_visible}
use Rattle.lang_core.specs.Names.{is_name, is_name_byte, is_who}
use Rattle.lang_tree.specs.Forms.{is_path}
use Rattle.peer_seal.specs.Seal.{seal_digits}
use Rattle.request_names.specs.Ids.{id_text}
use Rattle.wire_fields.specs.Forms.{is_notifier, is_seal_digit}
use Rattle.repair_messages.specs.Refusals.{word_said}
use Rattle.wire_fields.specs.Words.{lone_status, numbered_status, refusal_text}
use Rattle.wire_fields.proofs.SealLemmas.{seal_form}
use Rattle.wire_fields.proofs.WordLemmas.{lone_text, lone_word, numbered_text, numbered_word}
use Rattle.http_front.specs.ReadBack.{is_plain}
use Rattle.std.proofs.lemmas.Bool.{and_from, and_parts}
use Rattle.http_front.proofs.PassLemmas.{weaker}
use Rattle.http_front.proofs.PlainLemmas.{decimal_visible, spaced_plain, visible_plain}

-- ---- names, ids, users and paths

name_visible : (b : ℕ) → is_name_byte b ≡ true → is_visible b ≡ true
name_visible b is = grind (arith, nat_tests)

pub name_bytes : (name : List ℕ) → is_name name ≡ true → list_all is_visible name ≡ true
name_bytes name is =
    weaker is_name_byte is_visible name_visible name
    (and_parts (not (nat_eq (length name) 0) && nat_le (length name) 32) (list_all is_name_byte name) is).1

pub name_plain : (name : List ℕ) → is_name name ≡ true → is_plain name ≡ true
name_plain name is = visible_plain name (name_bytes name is)

pub id_plain : (name : List ℕ) (n : ℕ) → is_name name ≡ true → n < 2 ^ 64 → is_plain (id_text name n) ≡ true
id_plain name n is small =
    visible_plain (id_text name n) (list_all-append is_visible name (47 ∷ decimal n)
    ∙ and_from (list_all is_visible name) (list_all is_visible (decimal n)) (name_bytes name is) (decimal_visible n small))

pub who_plain : (who : List ℕ) → is_who who ≡ true → is_plain who ≡ true
who_plain who is = visible_plain who (and_parts (not (nat_eq (length who) 0) && nat_le (length who) 64) (list_all is_visible who) is).1

pub path_plain : (path : List ℕ) → is_path path ≡ true → is_plain path ≡ true
path_plain path is = visible_plain path (and_parts (starts_with nat_eq path (codes "/") && nat_le (length path) 1024) (list_all is_visible path) is).1

pub notifier_plain : (text : List ℕ) → is_notifier text ≡ true → is_plain text ≡ true
notifier_plain text is =
    let framed = starts_with nat_eq text (codes "http://") && ends_with nat_eq text (codes "/aire/notify") && nat_le 20 (length text) && nat_le (length text) 83 in
    visible_plain text (and_parts framed (list_all is_visible text) is).1

-- ---- seals

digit_visible : (b : ℕ) → is_seal_digit b ≡ true → is_visible b ≡ true
digit_visible b is = grind (arith, nat_tests)

pub seal_plain : (key bytes : List ℕ) → is_plain (seal_digits key bytes) ≡ true
seal_plain key bytes =
    let digits = seal_digits key bytes in
    visible_plain digits (weaker is_seal_digit is_visible digit_visible digits (and_parts (nat_eq (length digits) 64) (list_all is_seal_digit digits) (seal_form key bytes)).1)

-- ---- words of refusals

lower_visible : (b : ℕ) → is_lower b ≡ true → is_visible b ≡ true
lower_visible b is = grind (arith, nat_tests)

word_visible : (word : List ℕ) → list_all is_lower word ≡ true → list_all is_visible word ≡ true
word_visible word lower = weaker is_lower is_visible lower_visible word lower

some_word : (word : List ℕ) → IsSome (numbered_status word) → 0 < length word
unfolding numbered_status word_said
some_word [] is = absurd (cc is)
some_word (b ∷ word) is = omega arith

pub refusal_plain : (word : List ℕ) (n : ℕ) → n < 2 ^ 64 → (IsSome (lone_status word) × (n ≡ 0)) ⊎ IsSome (numbered_status word) → is_plain (refusal_text word n) ≡ true
refusal_plain word n small (inl lone) = ap is_plain (lone_text word n lone.0) ∙ visible_plain word (word_visible word (lone_word word lone.0).0)
refusal_plain word n small (inr numbered) =
    ap is_plain (numbered_text word n numbered)
    ∙ spaced_plain word (decimal n) (word_visible word (numbered_word word numbered)) (some_word word numbered) (decimal_visible n small) (decimal_nonempty n small)
