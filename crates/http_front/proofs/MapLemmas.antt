-- What the map of some lines has under a name.
use Rattle.std.proofs.Common.{◌≡◌, ℕ, ◌≢◌, Bool, true, false, true≢false, ◌&&◌, not, cond, List, [], ◌∷◌, ◌++◌, Option, Some, None, map, bytes_eq, codes, decimal, length, refl, sym, ap, ◌∙◌, append_assoc}
use Rattle.std.specs.List.{list_all, flat_map}
use Rattle.std.proofs.lemmas.List.{append-nil}
use Rattle.std.proofs.lemmas.Slice.Eq.{bytes_eq-Decides}
use Rattle.http_header.specs.FieldValue.{FieldValue, plain_value}
use Rattle.http_header.specs.HeaderMap.{Entries, append, append_all, get, get_all}
use Rattle.http_header.specs.Token.{lowercase}
use Rattle.http_header.proofs.HeaderMapLemmas.{get_all-append_other, get_all-append_same}
use Rattle.http_front.specs.Fields.{entry_of, map_of}
use Rattle.http_front.specs.Table.{aire_headers, spelling}
use Rattle.http_front.specs.Writing.{Line, aire_lines, first_of, first_of_header, last_lines, line_if, request_lines, response_lines, type_line}
use Rattle.http_front.specs.declared.header.AireHeader.{AireHeader}
use Rattle.http_front.specs.declared.header.AireHeader.TheVariants.{From, Dest, RequestId, ResponseId, NotifierUrl, Repair, Version, AnswerVersion, Who, Method, Path, RequestWho, Chain, Before, After, Refused, Seal}
use Rattle.http_front.specs.declared.message.WireRequest.{WireRequest}
use Rattle.http_front.specs.declared.message.WireResponse.{WireResponse}
use Rattle.http_front.specs.ReadBack.{request_read, response_read}
use Rattle.std.proofs.lemmas.Bool.{and_parts}

-- the values of the lines with this name, whose letters are small
abbrev pub under : List ℕ → List Line → List FieldValue
under name [] = []
under name (line ∷ lines) = cond (bytes_eq (lowercase line.0) name) (plain_value line.1 ∷ under name lines) (under name lines)

pub under-append : (name : List ℕ) (xs ys : List Line) → under name (xs ++ ys) ≡ under name xs ++ under name ys
under-append name [] ys = refl
under-append name (x ∷ xs) ys = by (bytes_eq (lowercase x.0) name) (under-append name xs ys)
  where
    by : (b : Bool) → under name (xs ++ ys) ≡ under name xs ++ under name ys
        → cond b (plain_value x.1 ∷ under name (xs ++ ys)) (under name (xs ++ ys)) ≡ cond b (plain_value x.1 ∷ under name xs) (under name xs) ++ under name ys
    by true rest = ap (λ (values : List FieldValue). plain_value x.1 ∷ values) rest
    by false rest = rest

pub added : (head : Entries FieldValue) (name : List ℕ) (line : Line) → get_all (append head (lowercase line.0) (plain_value line.1)) name
    ≡ get_all head name ++ cond (bytes_eq (lowercase line.0) name) (plain_value line.1 ∷ []) []
added head name line = by (bytes_eq (lowercase line.0) name) refl
  where
    by : (b : Bool) → bytes_eq (lowercase line.0) name ≡ b → get_all (append head (lowercase line.0) (plain_value line.1)) name ≡ get_all head name ++ cond b (plain_value line.1 ∷ []) []
    by true is =
        let same : lowercase line.0 ≡ name = (bytes_eq-Decides (lowercase line.0) name).0 is in
        rw (← same) (get_all-append_same head (lowercase line.0) (plain_value line.1))
    by false is =
        let other : lowercase line.0 ≢ name = λ same. true≢false (sym ((bytes_eq-Decides (lowercase line.0) name).1 same) ∙ is) in
        get_all-append_other head (lowercase line.0) name (plain_value line.1) other ∙ sym (append-nil (get_all head name))

behind : (b : Bool) (values : List FieldValue) (value : FieldValue) (others : List FieldValue)
    → (values ++ cond b (value ∷ []) []) ++ others ≡ values ++ cond b (value ∷ others) others
behind true values value others = append_assoc values (value ∷ []) others
behind false values value others = ap (λ (some : List FieldValue). some ++ others) (append-nil values)

added_all : (head : Entries FieldValue) (name : List ℕ) (lines : List Line) → get_all (append_all head (map entry_of lines)) name ≡ get_all head name ++ under name lines
added_all head name [] = sym (append-nil (get_all head name))
added_all head name (line ∷ lines) =
    added_all (append head (lowercase line.0) (plain_value line.1)) name lines
    ∙ ap (λ (values : List FieldValue). values ++ under name lines) (added head name line)
    ∙ behind (bytes_eq (lowercase line.0) name) (get_all head name) (plain_value line.1) (under name lines)

pub mapped : (name : List ℕ) (lines : List Line) → get_all (map_of lines) name ≡ under name lines
mapped name lines = added_all [] name lines

-- ---- lines of another name

-- the name of this line is another
abbrev pub is_other : List ℕ → List ℕ → Bool
is_other name spelled = not (bytes_eq (lowercase spelled) name)

none_if : (name spelled : List ℕ) (value : Option FieldValue) → is_other name spelled ≡ true → under name (line_if spelled value) ≡ []
none_if name spelled None other = refl
none_if name spelled (Some value) other = by (bytes_eq (lowercase spelled) name) other
  where
    by : (b : Bool) → not b ≡ true → cond b (plain_value value.bytes ∷ []) [] ≡ []
    by true is = cc
    by false is = refl

pub none_first : (name spelled : List ℕ) (head : Entries FieldValue) → is_other name spelled ≡ true → under name (first_of head spelled) ≡ []
none_first name spelled head other = none_if name spelled (get head (lowercase spelled)) other

pub none_of : (name : List ℕ) (head : Entries FieldValue) (headers : List AireHeader) → list_all (λ header. is_other name (spelling header)) headers ≡ true
    → under name (flat_map (first_of_header head) headers) ≡ []
none_of name head [] all = refl
none_of name head (header ∷ headers) all =
    let both = and_parts (is_other name (spelling header)) (list_all (λ h. is_other name (spelling h)) headers) all in
    under-append name (first_of_header head header) (flat_map (first_of_header head) headers)
    ∙ ap (λ (values : List FieldValue). values ++ under name (flat_map (first_of_header head) headers)) (none_first name (spelling header) head both.0)
    ∙ none_of name head headers both.1

-- ---- a header of the table

-- a header's name as a map has it
abbrev pub key : AireHeader → List ℕ
key header = lowercase (spelling header)

-- the first of a header's values, as it is written
abbrev pub first_plain : Option FieldValue → List FieldValue
first_plain None = []
first_plain (Some value) = plain_value value.bytes ∷ []

given : (name spelled : List ℕ) (value : Option FieldValue) → lowercase spelled ≡ name → under name (line_if spelled value) ≡ first_plain value
given name spelled None is = refl
given name spelled (Some value) is = rw ((bytes_eq-Decides (lowercase spelled) name).1 is) refl

-- one header has this name
abbrev pub stands_once : List ℕ → List AireHeader → Bool
stands_once name [] = false
stands_once name (header ∷ headers) =
    cond (bytes_eq (key header) name) (list_all (λ other. is_other name (spelling other)) headers) (stands_once name headers)

once : (head : Entries FieldValue) (name : List ℕ) (headers : List AireHeader) → stands_once name headers ≡ true
    → under name (flat_map (first_of_header head) headers) ≡ first_plain (get head name)
once head name [] is = cc
once head name (header ∷ headers) is =
    under-append name (first_of_header head header) (flat_map (first_of_header head) headers) ∙ by (bytes_eq (key header) name) refl (once head name headers) is
  where
    by : (b : Bool) → bytes_eq (key header) name ≡ b
        → (stands_once name headers ≡ true → under name (flat_map (first_of_header head) headers) ≡ first_plain (get head name))
        → cond b (list_all (λ other. is_other name (spelling other)) headers) (stands_once name headers) ≡ true
        → under name (first_of_header head header) ++ under name (flat_map (first_of_header head) headers) ≡ first_plain (get head name)
    by true here rest others =
        let same : key header ≡ name = (bytes_eq-Decides (key header) name).0 here in
        ap (λ (values : List FieldValue). under name (first_of_header head header) ++ values) (none_of name head headers others)
        ∙ append-nil (under name (first_of_header head header)) ∙ given name (spelling header) (get head (key header)) same
        ∙ ap (λ (n : List ℕ). first_plain (get head n)) same
    by false other rest later =
        let not_here : is_other name (spelling header) ≡ true = ap not other in
        ap (λ (values : List FieldValue). values ++ under name (flat_map (first_of_header head) headers)) (none_first name (spelling header) head not_here)
        ∙ rest later

in_table : (header : AireHeader) → stands_once (key header) aire_headers ≡ true
in_table From = refl
in_table Dest = refl
in_table RequestId = refl
in_table ResponseId = refl
in_table NotifierUrl = refl
in_table Repair = refl
in_table Version = refl
in_table AnswerVersion = refl
in_table Who = refl
in_table Method = refl
in_table Path = refl
in_table RequestWho = refl
in_table Chain = refl
in_table Before = refl
in_table After = refl
in_table Refused = refl
in_table Seal = refl

-- names of fields that aren't in the table
abbrev other_names : List (List ℕ)
other_names = codes "Host" ∷ codes "Content-Type" ∷ codes "Content-Length" ∷ codes "Connection" ∷ []

apart : (header : AireHeader) → list_all (is_other (key header)) other_names ≡ true
apart From = refl
apart Dest = refl
apart RequestId = refl
apart ResponseId = refl
apart NotifierUrl = refl
apart Repair = refl
apart Version = refl
apart AnswerVersion = refl
apart Who = refl
apart Method = refl
apart Path = refl
apart RequestWho = refl
apart Chain = refl
apart Before = refl
apart After = refl
apart Refused = refl
apart Seal = refl

of_table : (head : Entries FieldValue) (header : AireHeader) → under (key header) (aire_lines head) ≡ first_plain (get head (key header))
of_table head header = once head (key header) aire_headers (in_table header)

four : (a b c d : Bool) → a && (b && (c && (d && true))) ≡ true → (a ≡ true) × (b ≡ true) × (c ≡ true) × (d ≡ true)
four true true true true is = (refl, refl, refl, refl)
four true true true false is = cc
four true true false d is = cc
four true false c d is = cc
four false b c d is = cc

-- a line of another name gives nothing
skipped : (name : List ℕ) (line : Line) (lines : List Line) → is_other name line.0 ≡ true → under name (line ∷ lines) ≡ under name lines
skipped name line lines other = by (bytes_eq (lowercase line.0) name) other
  where
    by : (b : Bool) → not b ≡ true → cond b (plain_value line.1 ∷ under name lines) (under name lines) ≡ under name lines
    by true is = cc
    by false is = refl

last_apart : (name : List ℕ) (body : List ℕ) → is_other name (codes "Content-Length") ≡ true → is_other name (codes "Connection") ≡ true → under name (last_lines body) ≡ []
last_apart name body length_other connection_other =
    skipped name (codes "Content-Length", decimal (length body)) ((codes "Connection", codes "close") ∷ []) length_other
    ∙ skipped name (codes "Connection", codes "close") [] connection_other

-- ---- heads that are written

-- what a request's head has of a header that is written: its first value
pub request_field : (request : WireRequest) (header : AireHeader) → get_all (request_read request).head (key header) ≡ first_plain (get request.head (key header))
request_field request header =
    let others = four _ _ _ _ (apart header) in
    let head = request.head in
    let rest = aire_lines head ++ last_lines request.body in
    mapped (key header) (request_lines request)
    ∙ under-append (key header) (first_of head (codes "Host")) rest
    ∙ ap (λ (values : List FieldValue). values ++ under (key header) rest) (none_first (key header) (codes "Host") head others.0)
    ∙ under-append (key header) (aire_lines head) (last_lines request.body)
    ∙ ap (λ (values : List FieldValue). under (key header) (aire_lines head) ++ values) (last_apart (key header) request.body others.2 others.3)
    ∙ append-nil (under (key header) (aire_lines head)) ∙ of_table head header

pub response_field : (response : WireResponse) (header : AireHeader) → get_all (response_read response).head (key header) ≡ first_plain (get response.head (key header))
response_field response header =
    let others = four _ _ _ _ (apart header) in
    let head = response.head in
    let rest = type_line head ∷ last_lines response.body in
    mapped (key header) (response_lines response)
    ∙ under-append (key header) (aire_lines head) rest
    ∙ ap (λ (values : List FieldValue). under (key header) (aire_lines head) ++ values)
    (skipped (key header) (type_line head) (last_lines response.body) others.1 ∙ last_apart (key header) response.body others.2 others.3)
    ∙ append-nil (under (key header) (aire_lines head)) ∙ of_table head header

-- ---- what they say of the body

-- a name that neither the table nor the other lines before the last two have
abbrev is_apart : List ℕ → Bool
is_apart name = list_all (λ header. is_other name (spelling header)) aire_headers

request_last : (request : WireRequest) (name : List ℕ) → is_other name (codes "Host") ≡ true → is_apart name ≡ true
    → get_all (map_of (request_lines request)) name ≡ under name (last_lines request.body)
request_last request name no_host no_aire =
    let head = request.head in
    let rest = aire_lines head ++ last_lines request.body in
    mapped name (request_lines request)
    ∙ under-append name (first_of head (codes "Host")) rest
    ∙ ap (λ (values : List FieldValue). values ++ under name rest) (none_first name (codes "Host") head no_host)
    ∙ under-append name (aire_lines head) (last_lines request.body)
    ∙ ap (λ (values : List FieldValue). values ++ under name (last_lines request.body)) (none_of name head aire_headers no_aire)

response_last : (response : WireResponse) (name : List ℕ) → is_other name (codes "Content-Type") ≡ true → is_apart name ≡ true
    → get_all (map_of (response_lines response)) name ≡ under name (last_lines response.body)
response_last response name no_type no_aire =
    let head = response.head in
    mapped name (response_lines response)
    ∙ under-append name (aire_lines head) (type_line head ∷ last_lines response.body)
    ∙ ap (λ (values : List FieldValue). values ++ under name (type_line head ∷ last_lines response.body)) (none_of name head aire_headers no_aire)
    ∙ skipped name (type_line head) (last_lines response.body) no_type

-- no coding, and one length
pub record SaysLength (head : Entries FieldValue) (body : List ℕ) : Type 0 where
  pub uncoded : get_all head (codes "transfer-encoding") ≡ []
  pub one_length : get_all head (codes "content-length") ≡ plain_value (decimal (length body)) ∷ []

pub request_length : (request : WireRequest) → SaysLength (map_of (request_lines request)) request.body
request_length request = record {
  uncoded = request_last request (codes "transfer-encoding") refl refl;
  one_length = request_last request (codes "content-length") refl refl;
}

pub response_length : (response : WireResponse) → SaysLength (map_of (response_lines response)) response.body
response_length response = record {
  uncoded = response_last response (codes "transfer-encoding") refl refl;
  one_length = response_last response (codes "content-length") refl refl;
}
