-- A response that is written is read back.
use Rattle.std.proofs.Common.{◌≡◌, ℕ, zero, suc, ◌+◌, ◌/◌, ◌%◌, ◌<◌, ◌≤◌, ◌^◌, Bool, true, ◌&&◌, inr, List, [], ◌∷◌, ◌++◌, Some, Result, Ok, map, length, drop, codes, decimal, refl, sym, subst, ap, ◌∙◌, arith, append_assoc, length-append}
use Rattle.std.specs.Char.{is_ascii_digit}
use Rattle.std.specs.List.{list_all, flat_map}
use Rattle.std.proofs.Math.Seq.{drop-append_seam}
use Rattle.std.proofs.lemmas.Bool.Decides.{Decides-below_and, nat_tests}
use Rattle.std.proofs.lemmas.Fmt.{decimal_digit, decimal_is_IsNumeral, decimal_step, digits_decimal}
use Rattle.std.proofs.lemmas.List.{append-nil, length-map}
use Rattle.std.proofs.lemmas.List.Folds.{list_all-append}
use Rattle.std.proofs.lemmas.List.Sums.{AllPass-from_list_all}
use Rattle.lang_base.specs.Characters.{is_digit}
use Rattle.httparse.specs.Grammar.{IsResponseHead, ResponseHead, crlf, is_token_byte, is_value_byte, print_field, print_response, status_code}
use Rattle.httparse.proofs.GrammarLemmas.{print_response-append}
use Rattle.http_header.specs.FieldValue.{FieldValue}
use Rattle.http_header.specs.HeaderMap.{Entries}
use Rattle.http_front.specs.Ends.{IsWholeHead, is_of_line}
use Rattle.http_front.specs.Fields.{head_of, map_of}
use Rattle.http_front.specs.Reading.{SpellsResponse, response_behind, response_with}
use Rattle.http_front.specs.Responses.{response_start, start_from, with_length}
use Rattle.http_front.specs.Writing.{aire_lines, field_line, last_lines, phrase, response_bytes, response_lines, type_line}
use Rattle.http_front.specs.declared.message.FrontRefused.{FrontRefused}
use Rattle.http_front.specs.declared.message.WireResponse.{WireResponse}
use Rattle.http_front.specs.declared.response_head.ResponseStart.{ResponseStart}
use Rattle.http_front.specs.ReadBack.{IsRepliable, ResponseReadsBack, response_read}
use Rattle.http_front.proofs.BodyLemmas.{body_back, measured, own}
use Rattle.std.proofs.lemmas.Bool.{and_from}
use Rattle.http_front.proofs.PassLemmas.{weaker}
use Rattle.http_front.proofs.HeadEnds.{AreLines, first_line, whole_head}
use Rattle.http_front.proofs.LineLemmas.{are_fields, few_in_table, field_of, fields_more, is_sound, named_values, printed, sound_table, values_of_line}
use Rattle.http_front.proofs.MapLemmas.{response_length}
use Rattle.http_front.proofs.OneAnswer.{one_response}
use Rattle.http_front.proofs.PlainLemmas.{sound_last}

-- ---- the status line

-- a status of three digits has three
three : (n : ℕ) → 100 ≤ n → n < 1000 → length (decimal n) ≡ 3
three n low high =
    let tens = decimal_step n (omega arith) (omega arith) in
    let hundreds = decimal_step (n / 10) (omega arith) (omega arith) in
    let first = decimal_digit (n / 10 / 10) (omega arith) in
    ap length (tens ∙ ap (λ (text : List ℕ). text ++ (48 + n % 10) ∷ []) (hundreds ∙ ap (λ (text : List ℕ). text ++ (48 + n / 10 % 10) ∷ []) first))

fits : (n : ℕ) → n < 1000 → n < 2 ^ 64
fits n high = omega (arith, high)

digit_value : (b : ℕ) → is_digit b ≡ true → is_value_byte b ≡ true
digit_value b is = grind (arith, nat_tests)

digits_of_line : (n : ℕ) → n < 2 ^ 64 → list_all is_of_line (decimal n) ≡ true
digits_of_line n small = values_of_line (decimal n) (weaker is_digit is_value_byte digit_value (decimal n) (digits_decimal own n small))

abbrev has_values : ℕ → Bool
has_values n = list_all is_value_byte (phrase n)

abbrev have_values : ℕ → Bool
have_values zero = true
have_values (suc n) = has_values n && have_values n

-- each phrase has bytes of values
phrase_values : (n : ℕ) → n < 1000 → list_all is_value_byte (phrase n) ≡ true
phrase_values n small = (Decides-below_and has_values (λ k. has_values k ≡ true) have_values (λ k. (λ x. x, λ x. x)) refl (λ _. refl) 1000).0 refl n small

abbrev status_line : ℕ → List ℕ
status_line status = codes "HTTP/1.1 " ++ (decimal status ++ (codes " " ++ (phrase status ++ codes "\r\n")))

ended : (digits text : List ℕ)
    → (codes "HTTP/1.1 " ++ (digits ++ (codes " " ++ text))) ++ 13 ∷ 10 ∷ [] ≡ codes "HTTP/1.1 " ++ (digits ++ (codes " " ++ (text ++ 13 ∷ 10 ∷ [])))
ended digits text = ap (λ (rest : List ℕ). codes "HTTP/1.1 " ++ rest) (append_assoc digits (32 ∷ text) (13 ∷ 10 ∷ []))

line_is : (status : ℕ) → status < 1000 → AreLines (status_line status)
line_is status small =
    let digits = decimal status in
    let text = codes " " ++ phrase status in
    subst AreLines (ended digits (phrase status)) (first_line 72 (codes "TTP/1.1 " ++ (digits ++ text)) refl
    (list_all-append is_of_line digits text ∙ and_from (list_all is_of_line digits) (list_all is_of_line text) (digits_of_line status (fits status small))
    (values_of_line (phrase status) (phrase_values status small))))

-- ---- the head

regroup : (version digits space text end fields blank body : List ℕ)
    → version ++ (digits ++ (space ++ (text ++ (end ++ (fields ++ (blank ++ body))))))
    ≡ (((version ++ (digits ++ (space ++ (text ++ end)))) ++ fields) ++ blank) ++ body
regroup version digits space text end fields blank body = simp append_assoc

flat : (version digits space text end fields blank : List ℕ)
    → ((version ++ (digits ++ (space ++ (text ++ end)))) ++ fields) ++ blank ≡ version ++ (digits ++ (space ++ (text ++ (end ++ (fields ++ blank)))))
flat version digits space text end fields blank = simp append_assoc

-- the lines, and the empty one behind them
abbrev lines_of : WireResponse → List ℕ
lines_of response = status_line response.status ++ flat_map field_line (response_lines response)

abbrev head_of_bytes : WireResponse → List ℕ
head_of_bytes response = lines_of response ++ 13 ∷ 10 ∷ []

bytes_are : (response : WireResponse) → response_bytes response ≡ head_of_bytes response ++ response.body
bytes_are response =
    regroup (codes "HTTP/1.1 ") (decimal response.status) (codes " ") (phrase response.status) (codes "\r\n") (flat_map field_line (response_lines response)) (13 ∷ 10 ∷ []) response.body

sound_lines : (response : WireResponse) → IsRepliable response → list_all is_sound (response_lines response) ≡ true
unfolding is_token_byte
sound_lines response repliable =
    let head = response.head in
    let aire = aire_lines head in
    let last = last_lines response.body in
    list_all-append is_sound aire (type_line head ∷ last)
    ∙ and_from (list_all is_sound aire) (list_all is_sound (type_line head ∷ last)) (sound_table head repliable.fields)
    (and_from (is_sound (type_line head)) (list_all is_sound last) repliable.kind (sound_last response.body repliable.within.short_body))

is_whole : (response : WireResponse) → IsRepliable response → IsWholeHead (head_of_bytes response)
is_whole response repliable =
    let line = line_is response.status repliable.three_digits.1 in
    whole_head (lines_of response) (fields_more (status_line response.status) (response_lines response) line (sound_lines response repliable)) refl

-- ---- as a head of the grammar

abbrev tree : WireResponse → ResponseHead
tree response = record {
  blank = [];
  minor = 1;
  digits = decimal response.status;
  reason = Some (phrase response.status);
  line_end = crlf;
  fields = map field_of (response_lines response);
  last = crlf;
}

ascii_digit : (b : ℕ) → is_digit b ≡ true → is_ascii_digit b ≡ true
ascii_digit b is = grind (arith, nat_tests)

head_is : (response : WireResponse) → IsRepliable response → IsResponseHead (tree response)
head_is response repliable =
    let status = response.status in
    let small = repliable.three_digits.1 in
    record {
      minor = omega arith;
      digits = (
        three status repliable.three_digits.0 small,
        AllPass-from_list_all is_ascii_digit (decimal status) (weaker is_digit is_ascii_digit ascii_digit (decimal status) (digits_decimal own status (fits status small))),
      );
      reason = AllPass-from_list_all is_value_byte (phrase status) (phrase_values status small);
      fields = are_fields (response_lines response) (sound_lines response repliable);
    }

tree_is : (response : WireResponse) → head_of_bytes response ≡ print_response (tree response) ++ []
tree_is response =
    let lines = response_lines response in
    let section : flat_map field_line lines ++ 13 ∷ 10 ∷ [] ≡ (flat_map print_field (map field_of lines) ++ 13 ∷ 10 ∷ []) ++ [] =
    ap (λ (text : List ℕ). text ++ 13 ∷ 10 ∷ []) (sym (printed lines)) ∙ sym (append-nil (flat_map print_field (map field_of lines) ++ 13 ∷ 10 ∷ [])) in
    flat (codes "HTTP/1.1 ") (decimal response.status) (codes " ") (phrase response.status) (codes "\r\n") (flat_map field_line lines) (13 ∷ 10 ∷ [])
    ∙ ap (λ (text : List ℕ). codes "HTTP/1.1 " ++ (decimal response.status ++ (codes " " ++ (phrase response.status ++ (codes "\r\n" ++ text))))) section
    ∙ sym (print_response-append (tree response) [])

few : (response : WireResponse) → length (map field_of (response_lines response)) ≤ 64
few response =
    let aire = aire_lines response.head in
    omega (arith, length-map (response_lines response) field_of, length-append aire (type_line response.head ∷ last_lines response.body), few_in_table response.head)

-- ---- what it says

abbrev start : WireResponse → ResponseStart
start response = record {
  status = response.status;
  head = map_of (response_lines response);
  length = length response.body;
}

starts : (response : WireResponse) → IsRepliable response → Ok (start response) ≡ response_start (tree response)
starts response repliable =
    let status = response.status in
    let head = map_of (response_lines response) in
    let fields : head_of (map field_of (response_lines response)) ≡ head = ap map_of (named_values (response_lines response) (sound_lines response repliable)) in
    let code : status_code (tree response) ≡ status = (decimal_is_IsNumeral status (fits status repliable.three_digits.1)).1 in
    sym (ap (λ (h : Entries FieldValue). start_from (status_code (tree response)) h) fields
    ∙ ap (λ (n : ℕ). start_from n head) code
    ∙ ap (λ (l : Result ℕ FrontRefused). with_length status head l) (measured head response.body (response_length response) repliable.within.short_body))

behind : (response : WireResponse) (rest : List ℕ) → IsRepliable response
    → response_behind (length (head_of_bytes response)) (response.body ++ rest) (Ok (start response)) ≡ (Ok (response_read response), rest)
behind response rest repliable =
    let body = response.body in
    ap (λ (r : Result (List ℕ) FrontRefused). (response_with (start response) r, drop (length body) (body ++ rest))) (body_back (length (head_of_bytes response)) body rest repliable.text)
    ∙ ap (λ (left : List ℕ). (Ok (response_read response), left)) (drop-append_seam body rest)

within : (response : WireResponse) → IsRepliable response → length (head_of_bytes response) ≤ 16384
within response repliable =
    let long = ap length (bytes_are response) ∙ length-append (head_of_bytes response) response.body in
    omega (arith, long, repliable.within.short_head)

-- the bytes spell the response, and leave what follows
pub spelled : (response : WireResponse) (rest : List ℕ) → IsRepliable response → SpellsResponse (response_bytes response ++ rest) (Ok (response_read response)) rest
spelled response rest repliable =
    let split = ap (λ (text : List ℕ). text ++ rest) (bytes_are response) ∙ append_assoc (head_of_bytes response) response.body rest in
    inr (
      head_of_bytes response,
      response.body ++ rest,
      (split, is_whole response repliable, within response repliable),
      (
        Ok (start response),
        inr (tree response, ((head_is response repliable, tree_is response), few response), starts response repliable),
        behind response rest repliable,
      ),
    )

pub response_reads_back : (response : WireResponse) → IsRepliable response → ResponseReadsBack response
response_reads_back response repliable = λ rest answer left spells.
    one_response (response_bytes response ++ rest) answer (Ok (response_read response)) left rest spells (spelled response rest repliable)
