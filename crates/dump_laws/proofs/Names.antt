-- Names, origins and the other words of an entry as they are written are read as what they were written of.
use Rattle.std.proofs.Common.{◌≡◌, ℕ, Bool, true, false, not, ◌&&◌, List, [], ◌∷◌, ◌++◌, Option, Some, codes, decimal, length, nat_eq, nat_le, ◌==◌, refl, sym, ap, ◌∙◌, append-nil, arith}
use Rattle.std.specs.List.{All, flat_map, list_all, slice_split, starts_with}
use Rattle.std.specs.Result.{result_ok}
use Rattle.std.proofs.lemmas.Bool.{and_parts}
use Rattle.std.proofs.lemmas.Bool.Decides.{nat_tests}
use Rattle.std.proofs.lemmas.List.Elements.{All-cons}
use Rattle.std.proofs.lemmas.List.Splits.{slice_split_at, slice_split_none}
use Rattle.std.specs.Cmp.Lexicographic.{same_text as text_is}
use Rattle.lang_base.specs.Characters.{is_visible}
use Rattle.lang_base.specs.Texts.{same_text}
use Rattle.lang_tree.specs.Forms.{begins_with_digit, is_path, is_reserved, is_word, is_word_byte}
use Rattle.lang_tree.specs.Methods.{method_named, method_word}
use Rattle.lang_tree.specs.declared.method.Method.{Method}
use Rattle.lang_tree.specs.declared.method.Method.TheVariants.{Get, Put, Post, Delete}
use Rattle.lang_core.specs.Names.{is_name, is_name_byte, is_who}
use Rattle.lang_core.specs.declared.ids.Origin.{Origin}
use Rattle.lang_core.specs.declared.ids.Origin.TheVariants.{Outside, Call}
use Rattle.request_names.specs.Ids.{id_of, id_text}
use Rattle.request_names.proofs.IdLemmas.{reads_back, three_hold}
use Rattle.dump_lines.specs.Dumps.{digit_of, names_text, origin_text}
use Rattle.dump_words.specs.Parts.{call_origin, flag_part, name_part, names_part, origin_part, path_part, table_part, where_good, who_part, with_part}
use Rattle.dump_laws.specs.Forms.{IsOrigin}
use Rattle.dump_laws.proofs.Words.{all_both, all_next, all_weaker, digits_lack_feeds, digits_lack_spaces, lacks}

-- ---- bytes

visible_no_space : (b : ℕ) → is_visible b ≡ true → lacks 32 b ≡ true
visible_no_space b is = grind (arith, nat_tests)

visible_no_feed : (b : ℕ) → is_visible b ≡ true → lacks 10 b ≡ true
visible_no_feed b is = grind (arith, nat_tests)

name_no_space : (b : ℕ) → is_name_byte b ≡ true → lacks 32 b ≡ true
name_no_space b is = grind (arith, nat_tests)

name_no_feed : (b : ℕ) → is_name_byte b ≡ true → lacks 10 b ≡ true
name_no_feed b is = grind (arith, nat_tests)

word_no_space : (b : ℕ) → is_word_byte b ≡ true → lacks 32 b ≡ true
word_no_space b is = grind (arith, nat_tests)

word_no_feed : (b : ℕ) → is_word_byte b ≡ true → lacks 10 b ≡ true
word_no_feed b is = grind (arith, nat_tests)

-- a word that stands in a line: it has no space, and no line feed
pub record IsWordOfLine (word : List ℕ) : Type 0 where
  pub spaceless : list_all (lacks 32) word ≡ true
  pub feedless : list_all (lacks 10) word ≡ true

by_bytes : (p : ℕ → Bool) → ((b : ℕ) → p b ≡ true → lacks 32 b ≡ true) → ((b : ℕ) → p b ≡ true → lacks 10 b ≡ true) → (word : List ℕ) → list_all p word ≡ true → IsWordOfLine word
by_bytes p no_space no_feed word all = record { spaceless = all_weaker p (lacks 32) no_space word all; feedless = all_weaker p (lacks 10) no_feed word all }

name_bytes : (name : List ℕ) → is_name name ≡ true → list_all is_name_byte name ≡ true
name_bytes name is = (three_hold (not (nat_eq (length name) 0)) (nat_le (length name) 32) (list_all is_name_byte name) is).2

pub name_word : (name : List ℕ) → is_name name ≡ true → IsWordOfLine name
name_word name is = by_bytes is_name_byte name_no_space name_no_feed name (name_bytes name is)

pub who_word : (who : List ℕ) → is_who who ≡ true → IsWordOfLine who
who_word who is = by_bytes is_visible visible_no_space visible_no_feed who (three_hold (not (nat_eq (length who) 0)) (nat_le (length who) 64) (list_all is_visible who) is).2

pub path_word : (path : List ℕ) → is_path path ≡ true → IsWordOfLine path
path_word path is = by_bytes is_visible visible_no_space visible_no_feed path (three_hold (starts_with nat_eq path (codes "/")) (nat_le (length path) 1024) (list_all is_visible path) is).2

five_hold : (a b c d e : Bool) → ((((a && b) && c) && d) && e) ≡ true → c ≡ true
five_hold true true true d e h = refl
five_hold true true false d e h = cc
five_hold true false c d e h = cc
five_hold false b c d e h = cc

pub table_bytes : (table : List ℕ) → is_word table ≡ true → list_all is_word_byte table ≡ true
table_bytes table is =
    five_hold (not (nat_eq (length table) 0)) (nat_le (length table) 32) (list_all is_word_byte table) (not (begins_with_digit table)) (not (is_reserved table)) is

pub table_word : (table : List ℕ) → is_word table ≡ true → IsWordOfLine table
table_word table is =
    by_bytes is_word_byte word_no_space word_no_feed table (table_bytes table is)

-- ---- words that are read

pub name_reads : (name : List ℕ) → is_name name ≡ true → name_part name ≡ Some name
name_reads name is = ap (λ ok. where_good ok (Some name)) is

pub who_reads : (who : List ℕ) → is_who who ≡ true → who_part who ≡ Some who
who_reads who is = ap (λ ok. where_good ok (Some who)) is

pub path_reads : (path : List ℕ) → is_path path ≡ true → path_part path ≡ Some path
path_reads path is = ap (λ ok. where_good ok (Some path)) is

pub table_reads : (table : List ℕ) → is_word table ≡ true → table_part table ≡ Some table
table_reads table is = ap (λ ok. where_good ok (Some table)) is

pub flag_reads : (b : Bool) → flag_part (digit_of b) ≡ Some b
flag_reads true = refl
flag_reads false = refl

pub flag_word : (b : Bool) → IsWordOfLine (digit_of b)
flag_word true = record { spaceless = refl; feedless = refl }
flag_word false = record { spaceless = refl; feedless = refl }

pub method_reads : (m : Method) → method_named (method_word m) ≡ Some m
method_reads Get = refl
method_reads Put = refl
method_reads Post = refl
method_reads Delete = refl

pub method_is_word : (m : Method) → IsWordOfLine (method_word m)
method_is_word Get = record { spaceless = refl; feedless = refl }
method_is_word Put = record { spaceless = refl; feedless = refl }
method_is_word Post = record { spaceless = refl; feedless = refl }
method_is_word Delete = record { spaceless = refl; feedless = refl }

-- ---- origins

-- a text with a slash is no text without one
and_no : (a b : Bool) → b ≡ false → (a && b) ≡ false
and_no true b fails = fails
and_no false b fails = refl

has_slash : (caller rest : List ℕ) → list_all (lacks 47) (caller ++ 47 ∷ rest) ≡ false
has_slash [] rest = refl
has_slash (b ∷ caller) rest = and_no (lacks 47 b) (list_all (lacks 47) (caller ++ 47 ∷ rest)) (has_slash caller rest)

not_out : (caller rest : List ℕ) → ¬ (caller ++ 47 ∷ rest ≡ codes "out")
not_out caller rest same =
    let both : false ≡ list_all (lacks 47) (codes "out") = sym (has_slash caller rest) ∙ ap (list_all (lacks 47)) same in
    cc

other_by : (t : Bool) (a b : List ℕ) → same_text a b ≡ t → ¬ (a ≡ b) → t ≡ false
other_by true a b is other = absurd (other (text_is a b (sym is)))
other_by false a b is other = refl

pub other_text : (a b : List ℕ) → ¬ (a ≡ b) → same_text a b ≡ false
other_text a b other = other_by (same_text a b) a b refl other

pub origin_reads : (o : Origin) → IsOrigin o → origin_part (origin_text o) ≡ Some o
origin_reads Outside is = refl
origin_reads (Call caller number) is =
    let named : id_of (id_text caller number) ≡ Some (caller, number) = ap result_ok (reads_back caller number is.0 is.1.0 is.1.1) in
    rw (other_text (id_text caller number) (codes "out") (not_out caller (decimal number)))
    (ap call_origin named ∙ ap (λ (n : Option (List ℕ)). with_part n (λ c. Some (Call c number))) (name_reads caller is.0))

pub origin_word : (o : Origin) → IsOrigin o → IsWordOfLine (origin_text o)
origin_word Outside is = record { spaceless = refl; feedless = refl }
origin_word (Call caller number) is =
    let name = name_word caller is.0 in
    record {
      spaceless = all_both (lacks 32) caller (47 ∷ decimal number) name.spaceless (all_next (lacks 32) 47 (decimal number) refl (digits_lack_spaces number is.1.1));
      feedless = all_both (lacks 10) caller (47 ∷ decimal number) name.feedless (all_next (lacks 10) 47 (decimal number) refl (digits_lack_feeds number is.1.1));
    }

-- ---- lists of names

no_comma : (b : ℕ) → is_name_byte b ≡ true → (b == 44) ≡ false
no_comma b is = grind (arith, nat_tests)

without_comma : (bs : List ℕ) → list_all is_name_byte bs ≡ true → All (λ b. (b == 44) ≡ false) bs
without_comma [] all = λ k d h. absurd (omega (arith, h))
without_comma (b ∷ bs) all =
    let both = and_parts (is_name_byte b) (list_all is_name_byte bs) all in
    All-cons (λ b. (b == 44) ≡ false) b bs (no_comma b both.0) (without_comma bs both.1)

names_split : (name : List ℕ) (names : List (List ℕ)) → list_all is_name (name ∷ names) ≡ true → slice_split (λ b. b == 44) (names_text (name ∷ names)) ≡ name ∷ names
names_split name [] all =
    let both = and_parts (is_name name) true all in
    rw (append-nil name) (slice_split_none (λ b. b == 44) name (without_comma name (name_bytes name both.0)))
names_split name (next ∷ names) all =
    let both = and_parts (is_name name) (list_all is_name (next ∷ names)) all in
    slice_split_at (λ b. b == 44) name 44 (names_text (next ∷ names)) (without_comma name (name_bytes name both.0)) refl
    ∙ ap (λ rest. name ∷ rest) (names_split next names both.1)

-- a name begins with a byte of a name
no_dash : (name rest : List ℕ) → is_name name ≡ true → ¬ (name ++ rest ≡ codes "-")
no_dash [] rest is e = cc
no_dash (b ∷ bs) rest is e =
    let first = (and_parts (is_name_byte b) (list_all is_name_byte bs) (name_bytes (b ∷ bs) is)).0 in
    let same : b ≡ 45 = cc in
    let dash : is_name_byte 45 ≡ true = ap is_name_byte (sym same) ∙ first in
    cc

pub names_read : (names : List (List ℕ)) → list_all is_name names ≡ true → names_part (names_text names) ≡ Some names
names_read [] all = refl
names_read (name ∷ names) all =
    let both = and_parts (is_name name) (list_all is_name names) all in
    rw (other_text (names_text (name ∷ names)) (codes "-") (no_dash name (flat_map (λ n. codes "," ++ n) names) both.0), names_split name names all, both.0, both.1) refl

pieces_are : (sep : ℕ) → lacks sep 44 ≡ true → ((b : ℕ) → is_name_byte b ≡ true → lacks sep b ≡ true) → (names : List (List ℕ)) → list_all is_name names ≡ true → list_all (lacks sep) (flat_map (λ n. codes "," ++ n) names) ≡ true
pieces_are sep comma clean [] all = refl
pieces_are sep comma clean (name ∷ names) all =
    let both = and_parts (is_name name) (list_all is_name names) all in
    all_both (lacks sep) (44 ∷ name) (flat_map (λ n. codes "," ++ n) names) (all_next (lacks sep) 44 name comma (all_weaker is_name_byte (lacks sep) clean name (name_bytes name both.0)))
    (pieces_are sep comma clean names both.1)

pub names_word : (names : List (List ℕ)) → list_all is_name names ≡ true → IsWordOfLine (names_text names)
names_word [] all = record { spaceless = refl; feedless = refl }
names_word (name ∷ names) all =
    let both = and_parts (is_name name) (list_all is_name names) all in
    let first = name_word name both.0 in
    let more = flat_map (λ n. codes "," ++ n) names in
    record {
      spaceless = all_both (lacks 32) name more first.spaceless (pieces_are 32 refl name_no_space names both.1);
      feedless = all_both (lacks 10) name more first.feedless (pieces_are 10 refl name_no_feed names both.1);
    }
