-- Lines of fields that are written, as lines of a head and as fields of the grammar.
use Rattle.std.proofs.Common.{◌≡◌, ℕ, ◌<◌, ◌≤◌, Bool, true, ◌&&◌, not, List, [], ◌∷◌, ◌++◌, Option, Some, None, map, length, nat_lt, refl, sym, subst, ap, ◌∙◌, arith, append_assoc, length-append}
use Rattle.std.specs.List.{list_all, flat_map}
use Rattle.std.proofs.lemmas.Bool.Decides.{nat_tests}
use Rattle.std.proofs.lemmas.List.{append-nil}
use Rattle.std.proofs.lemmas.List.Elements.{All-cons, All-nil}
use Rattle.std.proofs.lemmas.List.Folds.{list_all-append}
use Rattle.std.proofs.lemmas.List.Sums.{AllPass-from_list_all}
use Rattle.std.proofs.lemmas.Slice.Eq.{bytes_eq-Decides}
use Rattle.std.specs.List.{All}
use Rattle.lang_base.specs.Texts.{same_text}
use Rattle.httparse.specs.Grammar.{Field, IsField, crlf, is_token, is_token_byte, is_value_byte, print_field, trim_ows}
use Rattle.httparse.specs.Spans.{name_and_value}
use Rattle.httparse.proofs.PieceLemmas.{token_is_no_newline}
use Rattle.http_header.specs.FieldValue.{FieldValue}
use Rattle.http_header.specs.HeaderMap.{Entries, get}
use Rattle.http_header.specs.Token.{lowercase}
use Rattle.http_front.specs.Ends.{is_of_line}
use Rattle.http_front.specs.Table.{aire_headers, spelling}
use Rattle.http_front.specs.Writing.{Line, aire_lines, field_line, first_of, first_of_header, line_if}
use Rattle.http_front.specs.declared.header.AireHeader.{AireHeader}
use Rattle.http_front.specs.declared.header.AireHeader.TheVariants.{From, Dest, RequestId, ResponseId, NotifierUrl, Repair, Version, AnswerVersion, Who, Method, Path, RequestWho, Chain, Before, After, Refused, Seal}
use Rattle.http_front.specs.ReadBack.{is_plain, is_plain_line}
use Rattle.std.proofs.lemmas.Bool.{and_from, and_parts}
use Rattle.http_front.proofs.PassLemmas.{weaker}
use Rattle.http_front.proofs.HeadEnds.{AreLines, next_line}

-- ---- bytes of lines

token_of_line : (b : ℕ) → is_token_byte b ≡ true → is_of_line b ≡ true
token_of_line b is = ap not (token_is_no_newline b is)

value_of_line : (b : ℕ) → is_value_byte b ≡ true → is_of_line b ≡ true
value_of_line b is = grind (arith, nat_tests)

pub values_of_line : (bytes : List ℕ) → list_all is_value_byte bytes ≡ true → list_all is_of_line bytes ≡ true
values_of_line bytes all = weaker is_value_byte is_of_line value_of_line bytes all

-- ---- a name that is a token, and a plain value

abbrev pub is_sound : Line → Bool
is_sound line = is_token line.0 && is_plain line.1

abbrev IsSound : Line → Type 0
IsSound line =
    (nat_lt 0 (length line.0) ≡ true) × (list_all is_token_byte line.0 ≡ true) × (list_all is_value_byte line.1 ≡ true) × (trim_ows line.1 ≡ line.1)

parts_of : (line : Line) → is_sound line ≡ true → IsSound line
parts_of line is =
    let both = and_parts (is_token line.0) (is_plain line.1) is in
    let name = and_parts (nat_lt 0 (length line.0)) (list_all is_token_byte line.0) both.0 in
    let value = and_parts (list_all is_value_byte line.1) (same_text (trim_ows line.1) line.1) both.1 in
    (name.0, name.1, value.0, (bytes_eq-Decides (trim_ows line.1) line.1).0 value.1)

-- ---- as lines of a head

rest_of_line : (name value : List ℕ) → list_all is_token_byte name ≡ true → list_all is_value_byte value ≡ true
    → list_all is_of_line (name ++ 58 ∷ 32 ∷ value) ≡ true
rest_of_line name value named valued =
    list_all-append is_of_line name (58 ∷ 32 ∷ value)
    ∙ and_from (list_all is_of_line name) (list_all is_of_line value) (weaker is_token_byte is_of_line token_of_line name named) (values_of_line value valued)

field_more : (bytes name value : List ℕ) → AreLines bytes → IsSound (name, value) → AreLines (bytes ++ field_line (name, value))
field_more bytes [] value lines sound = absurd (cc sound.0)
field_more bytes (b ∷ name) value lines sound =
    let first = and_parts (is_token_byte b) (list_all is_token_byte name) sound.1 in
    let apart : (b ∷ (name ++ 58 ∷ 32 ∷ value)) ++ 13 ∷ 10 ∷ [] ≡ field_line (b ∷ name, value) =
    ap (λ (text : List ℕ). b ∷ text) (append_assoc name (58 ∷ 32 ∷ value) (13 ∷ 10 ∷ [])) in
    subst (λ (text : List ℕ). AreLines (bytes ++ text)) apart
    (next_line bytes b (name ++ 58 ∷ 32 ∷ value) lines (token_of_line b first.0) (rest_of_line name value first.1 sound.2))

pub fields_more : (bytes : List ℕ) (lines : List Line) → AreLines bytes → list_all is_sound lines ≡ true → AreLines (bytes ++ flat_map field_line lines)
fields_more bytes [] begun all = subst AreLines (sym (append-nil bytes)) begun
fields_more bytes (line ∷ lines) begun all =
    let both = and_parts (is_sound line) (list_all is_sound lines) all in
    subst AreLines (append_assoc bytes (field_line line) (flat_map field_line lines))
    (fields_more (bytes ++ field_line line) lines (field_more bytes line.0 line.1 begun (parts_of line both.0)) both.1)

-- ---- as fields of the grammar

abbrev pub field_of : Line → Field
field_of line = record { name = line.0; raw = 32 ∷ line.1; end = crlf }

same_line : (name value : List ℕ) → print_field (field_of (name, value)) ≡ field_line (name, value)
same_line name value = append_assoc name (58 ∷ 32 ∷ value) (13 ∷ 10 ∷ [])

pub printed : (lines : List Line) → flat_map print_field (map field_of lines) ≡ flat_map field_line lines
printed [] = refl
printed (line ∷ lines) = ap (λ (text : List ℕ). text ++ flat_map print_field (map field_of lines)) (same_line line.0 line.1) ∙ ap (λ (text : List ℕ). field_line line ++ text) (printed lines)

is_field : (line : Line) → is_sound line ≡ true → IsField (field_of line)
is_field line is =
    let parts = parts_of line is in
    let some : 0 < length line.0 = let test = parts.0 in grind (arith, nat_tests, test) in
    record {
      name = (some, AllPass-from_list_all is_token_byte line.0 parts.1);
      raw = AllPass-from_list_all is_value_byte (32 ∷ line.1) parts.2;
    }

pub are_fields : (lines : List Line) → list_all is_sound lines ≡ true → All IsField (map field_of lines)
are_fields [] all = All-nil IsField
are_fields (line ∷ lines) all =
    let both = and_parts (is_sound line) (list_all is_sound lines) all in
    All-cons IsField (field_of line) (map field_of lines) (is_field line both.0) (are_fields lines both.1)

behind_space : (value : List ℕ) → trim_ows (32 ∷ value) ≡ trim_ows value
unfolding trim_ows
behind_space value = refl

pub named_values : (lines : List Line) → list_all is_sound lines ≡ true → map name_and_value (map field_of lines) ≡ lines
named_values [] all = refl
named_values (line ∷ lines) all =
    let both = and_parts (is_sound line) (list_all is_sound lines) all in
    let value : trim_ows (32 ∷ line.1) ≡ line.1 = behind_space line.1 ∙ (parts_of line both.0).3 in
    ap (λ (v : List ℕ). (line.0, v) ∷ map name_and_value (map field_of lines)) value ∙ ap (λ (others : List Line). line ∷ others) (named_values lines both.1)

-- ---- the lines of the table

token_name : (header : AireHeader) → is_token (spelling header) ≡ true
unfolding is_token_byte
token_name From = refl
token_name Dest = refl
token_name RequestId = refl
token_name ResponseId = refl
token_name NotifierUrl = refl
token_name Repair = refl
token_name Version = refl
token_name AnswerVersion = refl
token_name Who = refl
token_name Method = refl
token_name Path = refl
token_name RequestWho = refl
token_name Chain = refl
token_name Before = refl
token_name After = refl
token_name Refused = refl
token_name Seal = refl

sound_if : (name : List ℕ) (value : Option FieldValue) → is_token name ≡ true → list_all is_plain_line (line_if name value) ≡ true → list_all is_sound (line_if name value) ≡ true
sound_if name None is plain = refl
sound_if name (Some value) is plain =
    and_from (is_sound (name, value.bytes)) true
    (and_from (is_token name) (is_plain value.bytes) is (and_parts (is_plain value.bytes) true plain).0) refl

pub sound_first : (head : Entries FieldValue) (name : List ℕ) → is_token name ≡ true → list_all is_plain_line (first_of head name) ≡ true → list_all is_sound (first_of head name) ≡ true
sound_first head name is plain = sound_if name (get head (lowercase name)) is plain

sound_of : (head : Entries FieldValue) (headers : List AireHeader) → list_all is_plain_line (flat_map (first_of_header head) headers) ≡ true
    → list_all is_sound (flat_map (first_of_header head) headers) ≡ true
sound_of head [] plain = refl
sound_of head (header ∷ headers) plain =
    let others = flat_map (first_of_header head) headers in
    let both = and_parts (list_all is_plain_line (first_of_header head header)) (list_all is_plain_line others)
    (sym (list_all-append is_plain_line (first_of_header head header) others) ∙ plain) in
    list_all-append is_sound (first_of_header head header) others
    ∙ and_from (list_all is_sound (first_of_header head header)) (list_all is_sound others)
    (sound_first head (spelling header) (token_name header) both.0) (sound_of head headers both.1)

pub sound_table : (head : Entries FieldValue) → list_all is_plain_line (aire_lines head) ≡ true → list_all is_sound (aire_lines head) ≡ true
sound_table head plain = sound_of head aire_headers plain

-- ---- how many there are

one_at_most : (name : List ℕ) (value : Option FieldValue) → length (line_if name value) ≤ 1
one_at_most name None = omega arith
one_at_most name (Some value) = omega arith

pub first_few : (head : Entries FieldValue) (name : List ℕ) → length (first_of head name) ≤ 1
first_few head name = one_at_most name (get head (lowercase name))

few_of : (head : Entries FieldValue) (headers : List AireHeader) → length (flat_map (first_of_header head) headers) ≤ length headers
few_of head [] = omega arith
few_of head (header ∷ headers) =
    omega (arith, length-append (first_of_header head header) (flat_map (first_of_header head) headers), first_few head (spelling header), few_of head headers)

pub few_in_table : (head : Entries FieldValue) → length (aire_lines head) ≤ 17
few_in_table head = few_of head aire_headers
