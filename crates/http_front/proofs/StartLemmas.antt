-- What a parsed head says, from the places of its parts.
use Rattle.std.proofs.Common.{◌≡◌, ℕ, ◌≤◌, List, [], Result, length, take, drop, map, subst, ap, arith, inr}
use Rattle.std.proofs.lemmas.List.{length-map, length-take, drop_all}
use Rattle.httparse.specs.Grammar.{Field, RequestHead, ReadsRequest, ResponseHead, ReadsResponse}
use Rattle.httparse.specs.Spans.{AreFieldsAt, IsRequestAt, IsResponseAt, header_bytes, name_and_value, span_bytes}
use Rattle.httparse.specs.declared.spans.HeaderSpan.{HeaderSpan}
use Rattle.httparse.specs.declared.spans.RequestSpans.{RequestSpans}
use Rattle.httparse.specs.declared.spans.ResponseSpans.{ResponseSpans}
use Rattle.http_front.specs.Fields.{map_of}
use Rattle.http_front.specs.Requests.{StartsRequest, start_from}
use Rattle.http_front.specs.Responses as responses
use Rattle.http_front.specs.Responses.{StartsResponse}
use Rattle.http_front.specs.declared.message.FrontRefused.{FrontRefused}
use Rattle.http_front.specs.declared.request_head.RequestStart.{RequestStart}
use Rattle.http_front.specs.declared.response_head.ResponseStart.{ResponseStart}

-- as many fields as places that were written
pub few_fields : (bytes : List ℕ) (places : List HeaderSpan) (count : ℕ) (fields : List Field) → length places ≡ 64 → AreFieldsAt bytes places count fields → length fields ≤ 64
few_fields bytes places count fields room are =
    omega (arith, ap length are, length-map (take count places) (header_bytes bytes), length-map fields name_and_value, length-take count places)

pub starts_request : (bytes : List ℕ) (places : List HeaderSpan) (spans : RequestSpans) (head : RequestHead)
    → spans.len ≡ length bytes → length places ≡ 64 → IsRequestAt bytes places spans head
    → (answer : Result RequestStart FrontRefused)
    → answer ≡ start_from (span_bytes bytes spans.method) (span_bytes bytes spans.path) (map_of (map (header_bytes bytes) (take spans.headers places)))
    → StartsRequest bytes answer
starts_request bytes places spans head whole room at answer is =
    let nothing : drop spans.len bytes ≡ [] = drop_all spans.len bytes (omega arith) in
    let reads : ReadsRequest bytes head [] = subst (λ (rest : List ℕ). ReadsRequest bytes head rest) nothing at.reads in
    inr (head, (reads, few_fields bytes places spans.headers head.fields room at.fields), rw (← at.method, ← at.path, ← at.fields) is)

pub starts_response : (bytes : List ℕ) (places : List HeaderSpan) (spans : ResponseSpans) (head : ResponseHead)
    → spans.len ≡ length bytes → length places ≡ 64 → IsResponseAt bytes places spans head
    → (answer : Result ResponseStart FrontRefused)
    → answer ≡ responses.start_from spans.code (map_of (map (header_bytes bytes) (take spans.headers places)))
    → StartsResponse bytes answer
starts_response bytes places spans head whole room at answer is =
    let nothing : drop spans.len bytes ≡ [] = drop_all spans.len bytes (omega arith) in
    let reads : ReadsResponse bytes head [] = subst (λ (rest : List ℕ). ReadsResponse bytes head rest) nothing at.reads in
    inr (head, (reads, few_fields bytes places spans.headers head.fields room at.fields), rw (← at.code, ← at.fields) is)
