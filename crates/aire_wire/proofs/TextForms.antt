-- Texts of paths, users and chains, as they are written.
use Rattle.std.proofs.Common.{◌≡◌, ℕ, ◌+◌, ◌-◌, ◌<◌, true, false, not, List, [], ◌∷◌, ◌++◌, length, take, drop, nat_eq, nat_le, ◌==◌, codes, refl, sym, ap, ◌∙◌, ◌&&◌, arith, length-append}
use Rattle.std.specs.List.{list_all, flat_map, starts_with, ends_with, All}
use Rattle.std.specs.Str.{is_utf8, IsAscii}
use Rattle.std.proofs.Math.Bool.{or-true}
use Rattle.std.proofs.Math.Seq.{take-append_seam, drop-append-add}
use Rattle.std.proofs.lemmas.Bool.Decides.{nat_tests}
use Rattle.std.proofs.lemmas.List.{append-nil, append_assoc}
use Rattle.std.proofs.lemmas.List.Elements.{All-cons}
use Rattle.std.proofs.lemmas.List.Splits.{slice_split_at, slice_split_none}
use Rattle.std.proofs.lemmas.Str.{IsAscii-append}
use Rattle.std.proofs.lemmas.Str.Ascii.{IsAscii-nil, IsAscii-cons}
use Rattle.lang_core.specs.Names.{is_name, is_name_byte, is_who}
use Rattle.lang_base.specs.Characters.{is_visible}
use Rattle.lang_tree.specs.Forms.{is_path}
use Rattle.wire_fields.proofs.SealLemmas.{text_same}
use Rattle.wire_fields.proofs.SpeltLemmas.{ascii_by, name_ascii, utf8_of_ascii}
use Rattle.aire_wire.specs.Incoming.{ends_with_name, is_behind_comma, names_in}
use Rattle.aire_wire.specs.Written.{behind_comma, chain_text}
use Rattle.std.proofs.lemmas.Bool.{and_parts}

-- ---- visible characters

visible_small : (b : ℕ) → is_visible b ≡ true → b < 128
visible_small b is = grind (arith, nat_tests)

pub visible_utf8 : (text : List ℕ) → list_all is_visible text ≡ true → is_utf8 text ≡ true
visible_utf8 text all = utf8_of_ascii text (ascii_by is_visible visible_small text all)

pub path_utf8 : (path : List ℕ) → is_path path ≡ true → is_utf8 path ≡ true
path_utf8 path is = visible_utf8 path (and_parts (starts_with nat_eq path (codes "/") && nat_le (length path) 1024) (list_all is_visible path) is).1

pub who_utf8 : (who : List ℕ) → is_who who ≡ true → is_utf8 who ≡ true
who_utf8 who is = visible_utf8 who (and_parts (not (nat_eq (length who) 0) && nat_le (length who) 64) (list_all is_visible who) is).1

-- ---- chains

no_comma : (b : ℕ) → is_name_byte b ≡ true → (b == 44) ≡ false
no_comma b is = grind (arith, nat_tests)

without_comma : (bs : List ℕ) → list_all is_name_byte bs ≡ true → All (λ b. (b == 44) ≡ false) bs
without_comma [] all = λ k d h. absurd (omega (arith, h))
without_comma (b ∷ bs) all =
    let both = and_parts (is_name_byte b) (list_all is_name_byte bs) all in
    All-cons (λ b. (b == 44) ≡ false) b bs (no_comma b both.0) (without_comma bs both.1)

pub name_without_comma : (name : List ℕ) → is_name name ≡ true → All (λ b. (b == 44) ≡ false) name
name_without_comma name is =
    without_comma name (and_parts (not (nat_eq (length name) 0) && nat_le (length name) 32) (list_all is_name_byte name) is).1

-- the names of a chain's text are those of the chain
pub chain_read : (name : List ℕ) (names : List (List ℕ)) → list_all is_name (name ∷ names) ≡ true → names_in (chain_text (name ∷ names)) ≡ name ∷ names
chain_read name [] all =
    let both = and_parts (is_name name) true all in
    rw (append-nil name) (slice_split_none (λ b. b == 44) name (name_without_comma name both.0))
chain_read name (next ∷ names) all =
    let both = and_parts (is_name name) (list_all is_name (next ∷ names)) all in
    slice_split_at (λ b. b == 44) name 44 (chain_text (next ∷ names)) (name_without_comma name both.0) refl
    ∙ ap (λ rest. name ∷ rest) (chain_read next names both.1)

behind : (front last : List ℕ) → length (front ++ last) - length last ≡ length front
behind front last = omega (arith, length-append front last)

last_drop : (front last : List ℕ) → drop (length (front ++ last) - length last) (front ++ last) ≡ last
last_drop front last =
    let at : length (front ++ last) - length last ≡ length front + 0 = omega (arith, length-append front last) in
    rw at (drop-append-add front last 0)

ends : (front last : List ℕ) → ends_with nat_eq (front ++ last) last ≡ true
ends front last = rw (last_drop front last) (text_same last)

after_comma : (front : List ℕ) → is_behind_comma (front ++ 44 ∷ []) ≡ true
after_comma front = rw (ends front (44 ∷ [])) (or-true (nat_eq (length (front ++ 44 ∷ [])) 0))

ends_named : (front name : List ℕ) → is_behind_comma front ≡ true → ends_with_name (front ++ name) name ≡ true
ends_named front name comma =
    let front_taken : take (length (front ++ name) - length name) (front ++ name) ≡ front = rw (behind front name) (take-append_seam front name) in
    rw (ends front name, front_taken) comma

last_piece : (names : List (List ℕ)) (name : List ℕ) → flat_map behind_comma (names ++ name ∷ []) ≡ (flat_map behind_comma names ++ 44 ∷ []) ++ name
last_piece [] name = ap (λ rest. 44 ∷ rest) (append-nil name)
last_piece (first ∷ names) name =
    let pieces = flat_map behind_comma names in
    ap (λ rest. behind_comma first ++ rest) (last_piece names name)
    ∙ sym (append_assoc (behind_comma first) (pieces ++ 44 ∷ []) name)
    ∙ ap (λ front. front ++ name) (sym (append_assoc (behind_comma first) pieces (44 ∷ [])))

-- a chain's text ends with its last name
pub chain_ends : (front : List (List ℕ)) (name : List ℕ) → ends_with_name (chain_text (front ++ name ∷ [])) name ≡ true
chain_ends [] name = rw (append-nil name) (ends_named [] name refl)
chain_ends (first ∷ names) name =
    let pieces = flat_map behind_comma names in
    let whole : chain_text ((first ∷ names) ++ name ∷ []) ≡ ((first ++ pieces) ++ 44 ∷ []) ++ name =
    ap (λ rest. first ++ rest) (last_piece names name)
    ∙ sym (append_assoc first (pieces ++ 44 ∷ []) name)
    ∙ ap (λ front. front ++ name) (sym (append_assoc first pieces (44 ∷ []))) in
    rw whole (ends_named ((first ++ pieces) ++ 44 ∷ []) name (after_comma (first ++ pieces)))

pieces_ascii : (names : List (List ℕ)) → list_all is_name names ≡ true → IsAscii (flat_map behind_comma names)
pieces_ascii [] all = IsAscii-nil
pieces_ascii (name ∷ names) all =
    let both = and_parts (is_name name) (list_all is_name names) all in
    IsAscii-append (44 ∷ name) (flat_map behind_comma names) (IsAscii-cons 44 name (omega arith) (name_ascii name both.0)) (pieces_ascii names both.1)

chain_ascii : (names : List (List ℕ)) → list_all is_name names ≡ true → IsAscii (chain_text names)
chain_ascii [] all = IsAscii-nil
chain_ascii (name ∷ names) all =
    let both = and_parts (is_name name) (list_all is_name names) all in
    IsAscii-append name (flat_map behind_comma names) (name_ascii name both.0) (pieces_ascii names both.1)

pub chain_utf8 : (names : List (List ℕ)) → list_all is_name names ≡ true → is_utf8 (chain_text names) ≡ true
chain_utf8 names all = utf8_of_ascii (chain_text names) (chain_ascii names all)
