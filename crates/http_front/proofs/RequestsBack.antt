-- A request that is written is read back.
use Rattle.std.proofs.Common.{◌≡◌, ℕ, ◌<◌, ◌≤◌, Bool, true, ◌&&◌, cond, inr, List, [], ◌∷◌, ◌++◌, Option, Some, Result, Ok, Err, map, length, drop, codes, nat_eq, nat_le, refl, sym, subst, ap, ◌∙◌, arith, append_assoc, length-append}
use Rattle.std.specs.List.{list_all, list_any, flat_map, starts_with}
use Rattle.std.proofs.Math.Seq.{drop-append_seam}
use Rattle.std.proofs.lemmas.Bool.Decides.{nat_tests}
use Rattle.std.proofs.lemmas.List.{append-nil, length-map}
use Rattle.std.proofs.lemmas.List.Folds.{list_all-append}
use Rattle.std.proofs.lemmas.List.Sums.{AllPass-from_list_all}
use Rattle.lang_base.specs.Characters.{is_visible}
use Rattle.lang_tree.specs.Forms.{is_path}
use Rattle.lang_tree.specs.Methods.{method_named, method_word}
use Rattle.lang_tree.specs.declared.method.Method.{Method}
use Rattle.lang_tree.specs.declared.method.Method.TheVariants.{Get, Put, Post, Delete}
use Rattle.httparse.specs.Grammar.{IsRequestHead, IsToken, RequestHead, crlf, is_token_byte, is_uri_byte, print_field, print_request}
use Rattle.httparse.proofs.GrammarLemmas.{print_request-append}
use Rattle.http_header.specs.FieldValue.{FieldValue}
use Rattle.http_header.specs.HeaderMap.{Entries}
use Rattle.http_header.specs.Token.{is_visible_or_blank}
use Rattle.http_header.proofs.TokenLemmas.{IsUtf8-from_visible}
use Rattle.http_front.specs.Ends.{IsWholeHead, is_of_line}
use Rattle.http_front.specs.Fields.{head_of, map_of}
use Rattle.http_front.specs.Lengths.{body_length}
use Rattle.http_front.specs.Reading.{SpellsRequest, request_behind, request_with}
use Rattle.http_front.specs.Requests.{request_start, start_from, started}
use Rattle.http_front.specs.Writing.{aire_lines, field_line, first_of, last_lines, request_bytes, request_lines}
use Rattle.http_front.specs.declared.message.FrontRefused.{FrontRefused}
use Rattle.http_front.specs.declared.message.FrontRefused.TheVariants.{BadHead}
use Rattle.http_front.specs.declared.message.WireRequest.{WireRequest}
use Rattle.http_front.specs.declared.request_head.RequestStart.{RequestStart}
use Rattle.http_front.specs.ReadBack.{IsSendable, RequestReadsBack, request_read}
use Rattle.http_front.proofs.BodyLemmas.{body_back, measured}
use Rattle.std.proofs.lemmas.Bool.{and_from, and_parts}
use Rattle.http_front.proofs.PassLemmas.{weaker}
use Rattle.http_front.proofs.HeadEnds.{AreLines, first_line, whole_head}
use Rattle.http_front.proofs.PlainLemmas.{sound_last}
use Rattle.http_front.proofs.LineLemmas.{are_fields, few_in_table, field_of, fields_more, first_few, is_sound, named_values, printed, sound_first, sound_table}
use Rattle.http_front.proofs.MapLemmas.{request_length}
use Rattle.http_front.proofs.OneAnswer.{one_request}

-- ---- the request line

abbrev request_line : Method → List ℕ → List ℕ
request_line method path = method_word method ++ (codes " " ++ (path ++ codes " HTTP/1.1\r\n"))

visible_of_line : (b : ℕ) → is_visible b ≡ true → is_of_line b ≡ true
visible_of_line b is = grind (arith, nat_tests)

line_begins : (b : ℕ) (front path : List ℕ) → is_of_line b ≡ true → list_all is_of_line front ≡ true → list_all is_visible path ≡ true
    → AreLines (b ∷ (front ++ (path ++ codes " HTTP/1.1\r\n")))
line_begins b front path is all visible =
    let version = codes " HTTP/1.1" in
    let whole : b ∷ ((front ++ (path ++ version)) ++ 13 ∷ 10 ∷ []) ≡ b ∷ (front ++ (path ++ codes " HTTP/1.1\r\n")) =
    ap (λ (text : List ℕ). b ∷ text) (append_assoc front (path ++ version) (13 ∷ 10 ∷ []) ∙ ap (λ (text : List ℕ). front ++ text) (append_assoc path version (13 ∷ 10 ∷ []))) in
    subst AreLines whole (first_line b (front ++ (path ++ version)) is
    (list_all-append is_of_line front (path ++ version) ∙ and_from (list_all is_of_line front) (list_all is_of_line (path ++ version)) all
    (list_all-append is_of_line path version ∙ and_from (list_all is_of_line path) true (weaker is_visible is_of_line visible_of_line path visible) refl)))

line_is : (method : Method) (path : List ℕ) → list_all is_visible path ≡ true → AreLines (request_line method path)
line_is Get path visible = line_begins 71 (codes "ET ") path refl refl visible
line_is Put path visible = line_begins 80 (codes "UT ") path refl refl visible
line_is Post path visible = line_begins 80 (codes "OST ") path refl refl visible
line_is Delete path visible = line_begins 68 (codes "ELETE ") path refl refl visible

some_line : (method : Method) (rest : List ℕ) → list_any is_of_line (method_word method ++ rest) ≡ true
some_line Get rest = refl
some_line Put rest = refl
some_line Post rest = refl
some_line Delete rest = refl

-- ---- the head

regroup : (method space path version fields blank body : List ℕ)
    → method ++ (space ++ (path ++ (version ++ (fields ++ (blank ++ body))))) ≡ (((method ++ (space ++ (path ++ version))) ++ fields) ++ blank) ++ body
regroup method space path version fields blank body = simp append_assoc

flat : (method space path version fields blank : List ℕ)
    → ((method ++ (space ++ (path ++ version))) ++ fields) ++ blank ≡ method ++ (space ++ (path ++ (version ++ (fields ++ blank))))
flat method space path version fields blank = simp append_assoc

-- the lines, and the empty one behind them
abbrev lines_of : WireRequest → List ℕ
lines_of request = request_line request.method request.path ++ flat_map field_line (request_lines request)

abbrev head_of_bytes : WireRequest → List ℕ
head_of_bytes request = lines_of request ++ 13 ∷ 10 ∷ []

bytes_are : (request : WireRequest) → request_bytes request ≡ head_of_bytes request ++ request.body
bytes_are request =
    regroup (method_word request.method) (codes " ") request.path (codes " HTTP/1.1\r\n") (flat_map field_line (request_lines request)) (13 ∷ 10 ∷ []) request.body

sound_lines : (request : WireRequest) → IsSendable request → list_all is_sound (request_lines request) ≡ true
unfolding is_token_byte
sound_lines request sendable =
    let head = request.head in
    let host = first_of head (codes "Host") in
    let aire = aire_lines head in
    let last = last_lines request.body in
    list_all-append is_sound host (aire ++ last)
    ∙ and_from (list_all is_sound host) (list_all is_sound (aire ++ last)) (sound_first head (codes "Host") refl sendable.host)
    (list_all-append is_sound aire last ∙ and_from (list_all is_sound aire) (list_all is_sound last) (sound_table head sendable.fields) (sound_last request.body sendable.within.short_body))

path_visible : (path : List ℕ) → is_path path ≡ true → list_all is_visible path ≡ true
path_visible path is = (and_parts (starts_with nat_eq path (codes "/") && nat_le (length path) 1024) (list_all is_visible path) is).1

is_whole : (request : WireRequest) → IsSendable request → IsWholeHead (head_of_bytes request)
is_whole request sendable =
    let line = line_is request.method request.path (path_visible request.path sendable.path) in
    let lines = fields_more (request_line request.method request.path) (request_lines request) line (sound_lines request sendable) in
    let together = flat (method_word request.method) (codes " ") request.path (codes " HTTP/1.1\r\n") (flat_map field_line (request_lines request)) (13 ∷ 10 ∷ []) in
    whole_head (lines_of request) lines (ap (list_any is_of_line) together ∙ some_line request.method _)

-- ---- as a head of the grammar

abbrev tree : WireRequest → RequestHead
tree request = record {
  blank = [];
  method = method_word request.method;
  target = request.path;
  minor = 1;
  line_end = crlf;
  fields = map field_of (request_lines request);
  last = crlf;
}

token_word : (method : Method) → IsToken (method_word method)
unfolding is_token_byte
token_word Get = (omega arith, AllPass-from_list_all is_token_byte (codes "GET") refl)
token_word Put = (omega arith, AllPass-from_list_all is_token_byte (codes "PUT") refl)
token_word Post = (omega arith, AllPass-from_list_all is_token_byte (codes "POST") refl)
token_word Delete = (omega arith, AllPass-from_list_all is_token_byte (codes "DELETE") refl)

visible_of_target : (b : ℕ) → is_visible b ≡ true → is_uri_byte b ≡ true
visible_of_target b is = grind (arith, nat_tests)

visible_of_text : (b : ℕ) → is_visible b ≡ true → is_visible_or_blank b ≡ true
visible_of_text b is = grind (arith, nat_tests)

some_path : (path : List ℕ) → is_path path ≡ true → 0 < length path
some_path [] is = absurd (cc is)
some_path (b ∷ path) is = omega arith

head_is : (request : WireRequest) → IsSendable request → IsRequestHead (tree request)
head_is request sendable =
    let path = request.path in
    let visible = path_visible path sendable.path in
    record {
      method = token_word request.method;
      target = (some_path path sendable.path, AllPass-from_list_all is_uri_byte path (weaker is_visible is_uri_byte visible_of_target path visible));
      target_text = IsUtf8-from_visible path (AllPass-from_list_all is_visible_or_blank path (weaker is_visible is_visible_or_blank visible_of_text path visible));
      minor = omega arith;
      fields = are_fields (request_lines request) (sound_lines request sendable);
    }

tree_is : (request : WireRequest) → head_of_bytes request ≡ print_request (tree request) ++ []
tree_is request =
    let lines = request_lines request in
    let section : flat_map field_line lines ++ 13 ∷ 10 ∷ [] ≡ (flat_map print_field (map field_of lines) ++ 13 ∷ 10 ∷ []) ++ [] =
    ap (λ (text : List ℕ). text ++ 13 ∷ 10 ∷ []) (sym (printed lines)) ∙ sym (append-nil (flat_map print_field (map field_of lines) ++ 13 ∷ 10 ∷ [])) in
    flat (method_word request.method) (codes " ") request.path (codes " HTTP/1.1\r\n") (flat_map field_line lines) (13 ∷ 10 ∷ [])
    ∙ ap (λ (text : List ℕ). method_word request.method ++ (codes " " ++ (request.path ++ (codes " HTTP/1.1\r\n" ++ text)))) section
    ∙ sym (print_request-append (tree request) [])

few : (request : WireRequest) → length (map field_of (request_lines request)) ≤ 64
few request =
    let head = request.head in
    let host = first_of head (codes "Host") in
    let aire = aire_lines head in
    omega (
      arith,
      length-map (request_lines request) field_of,
      length-append host (aire ++ last_lines request.body),
      length-append aire (last_lines request.body),
      first_few head (codes "Host"),
      few_in_table head,
    )

-- ---- what it says

method_back : (method : Method) → method_named (method_word method) ≡ Some method
method_back Get = refl
method_back Put = refl
method_back Post = refl
method_back Delete = refl

abbrev start : WireRequest → RequestStart
start request = record {
  method = request.method;
  path = request.path;
  head = map_of (request_lines request);
  length = length request.body;
}

starts : (request : WireRequest) → IsSendable request → Ok (start request) ≡ request_start (tree request)
starts request sendable =
    let word = method_word request.method in
    let path = request.path in
    let head = map_of (request_lines request) in
    let fields : head_of (map field_of (request_lines request)) ≡ head = ap map_of (named_values (request_lines request) (sound_lines request sendable)) in
    sym (ap (λ (h : Entries FieldValue). start_from word path h) fields
    ∙ ap (λ (b : Bool). cond b (started (method_named word) path head (body_length head)) (Err BadHead)) sendable.path
    ∙ ap (λ (o : Option Method). started o path head (body_length head)) (method_back request.method)
    ∙ ap (λ (l : Result ℕ FrontRefused). started (Some request.method) path head l) (measured head request.body (request_length request) sendable.within.short_body))

behind : (request : WireRequest) (rest : List ℕ) → IsSendable request
    → request_behind (length (head_of_bytes request)) (request.body ++ rest) (Ok (start request)) ≡ (Ok (request_read request), rest)
behind request rest sendable =
    let body = request.body in
    ap (λ (r : Result (List ℕ) FrontRefused). (request_with (start request) r, drop (length body) (body ++ rest))) (body_back (length (head_of_bytes request)) body rest sendable.text)
    ∙ ap (λ (left : List ℕ). (Ok (request_read request), left)) (drop-append_seam body rest)

within : (request : WireRequest) → IsSendable request → length (head_of_bytes request) ≤ 16384
within request sendable =
    let long = ap length (bytes_are request) ∙ length-append (head_of_bytes request) request.body in
    omega (arith, long, sendable.within.short_head)

-- the bytes spell the request, and leave what follows
pub spelled : (request : WireRequest) (rest : List ℕ) → IsSendable request → SpellsRequest (request_bytes request ++ rest) (Ok (request_read request)) rest
spelled request rest sendable =
    let split = ap (λ (text : List ℕ). text ++ rest) (bytes_are request) ∙ append_assoc (head_of_bytes request) request.body rest in
    inr (
      head_of_bytes request,
      request.body ++ rest,
      (split, is_whole request sendable, within request sendable),
      (
        Ok (start request),
        inr (tree request, ((head_is request sendable, tree_is request), few request), starts request sendable),
        behind request rest sendable,
      ),
    )

pub request_reads_back : (request : WireRequest) → IsSendable request → RequestReadsBack request
request_reads_back request sendable = λ rest answer left spells.
    one_request (request_bytes request ++ rest) answer (Ok (request_read request)) left rest spells (spelled request rest sendable)
