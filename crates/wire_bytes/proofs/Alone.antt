-- What was taken of a source spells alone what it spelled before what follows it.
use Rattle.std.proofs.Common.{◌≡◌, ℕ, ◌+◌, ◌≤◌, inl, inr, Bool, true, false, cond, List, [], ◌++◌, Result, Ok, Err, length, take, drop, nat_lt, refl, sym, ap, ◌∙◌, arith, append_assoc, length-append}
use Rattle.std.specs.Str.{is_utf8}
use Rattle.std.proofs.Math.Seq.{take-append_seam}
use Rattle.std.proofs.lemmas.Bool.Decides.{nat_tests}
use Rattle.std.proofs.lemmas.List.{take_all, drop_all, length-take, take-append-drop}
use Rattle.http_front.specs.Reading.{RequestBehind, ResponseBehind, SpellsRequest, SpellsResponse, body_behind, request_behind, request_with, response_behind, response_with}
use Rattle.http_front.specs.Requests.{StartsRequest}
use Rattle.http_front.specs.Responses.{StartsResponse}
use Rattle.http_front.specs.declared.message.FrontRefused.{FrontRefused}
use Rattle.http_front.specs.declared.message.FrontRefused.TheVariants.{Cut, NotText}
use Rattle.http_front.specs.declared.message.WireRequest.{WireRequest}
use Rattle.http_front.specs.declared.message.WireResponse.{WireResponse}
use Rattle.http_front.specs.declared.request_head.RequestStart.{RequestStart}
use Rattle.http_front.specs.declared.response_head.ResponseStart.{ResponseStart}

-- ---- lists

same_front : (xs ys rest : List ℕ) → xs ++ rest ≡ ys ++ rest → xs ≡ ys
same_front xs ys rest same =
    let long : length xs ≡ length ys = omega (arith, ap length same, length-append xs rest, length-append ys rest) in
    sym (take-append_seam xs rest) ∙ ap (take (length xs)) same ∙ ap (λ (n : ℕ). take n (ys ++ rest)) long ∙ take-append_seam ys rest

-- ---- bodies

-- a body of so many bytes is there, and it is a text
pub record HasBody (most : ℕ) (behind body : List ℕ) : Type 0 where
  pub enough : most ≤ length behind
  pub text : is_utf8 (take most behind) ≡ true
  pub it : take most behind ≡ body

body_by : (short text : Bool) (head most : ℕ) (behind body : List ℕ) → nat_lt (length behind) most ≡ short → is_utf8 (take most behind) ≡ text
    → ◌≡◌ {A = Result (List ℕ) FrontRefused} (cond short (Err (Cut (head + length behind))) (cond text (Ok (take most behind)) (Err NotText))) (Ok body) → HasBody most behind body
body_by true text head most behind body few is same = cc
body_by false false head most behind body few is same = cc
body_by false true head most behind body few is same = record { enough = grind (arith, nat_tests); text = is; it = cc }

body_there : (head most : ℕ) (behind body : List ℕ) → body_behind head most behind ≡ Ok body → HasBody most behind body
body_there head most behind body same = body_by (nat_lt (length behind) most) (is_utf8 (take most behind)) head most behind body refl refl same

front_long : (most : ℕ) (behind : List ℕ) → most ≤ length behind → length (take most behind) ≡ most
front_long most behind enough = omega (arith, length-take most behind)

front_again : (most : ℕ) (behind : List ℕ) → most ≤ length behind → take most (take most behind) ≡ take most behind
front_again most behind enough =
    let whole : length (take most behind) ≤ most = omega (arith, front_long most behind enough) in
    take_all most (take most behind) whole

front_spent : (most : ℕ) (behind : List ℕ) → most ≤ length behind → drop most (take most behind) ≡ []
front_spent most behind enough =
    let whole : length (take most behind) ≤ most = omega (arith, front_long most behind enough) in
    drop_all most (take most behind) whole

-- the body alone is as much
body_alone : (head most : ℕ) (behind body : List ℕ) → HasBody most behind body → body_behind head most (take most behind) ≡ Ok body
body_alone head most behind body has =
    let few : nat_lt (length (take most behind)) most ≡ false = let long = front_long most behind has.enough in grind (arith, nat_tests, long) in
    let again = front_again most behind has.enough in
    rw (few, again, has.text) (ap Ok has.it)

-- ---- what was taken

-- the head and the body
taken_is : (taken rest bytes head behind : List ℕ) (most : ℕ) → bytes ≡ taken ++ rest → bytes ≡ head ++ behind → rest ≡ drop most behind → taken ≡ head ++ take most behind
taken_is taken rest bytes head behind most first second left =
    let whole : head ++ behind ≡ (head ++ take most behind) ++ drop most behind =
    ap (λ (text : List ℕ). head ++ text) (sym (take-append-drop most behind)) ∙ sym (append_assoc head (take most behind) (drop most behind)) in
    same_front taken (head ++ take most behind) rest (sym first ∙ second ∙ whole ∙ ap (λ (text : List ℕ). (head ++ take most behind) ++ text) (sym left))

-- ---- requests

of_pair : {X : Type 0} (a b : X) (left rest : List ℕ) → ◌≡◌ {A = X × List ℕ} (a, left) (b, rest) → (a ≡ b) × (left ≡ rest)
of_pair {X} a b left rest same = (ap (λ (p : X × List ℕ). p.0) same, ap (λ (p : X × List ℕ). p.1) same)

request_made : (start : RequestStart) (body : Result (List ℕ) FrontRefused) (request : WireRequest) → request_with start body ≡ Ok request → (text : List ℕ) × (body ≡ Ok text)
request_made start (Err why) request same = cc
request_made start (Ok text) request same = (text, refl)

request_alone_behind : (head behind rest : List ℕ) (start : Result RequestStart FrontRefused) (request : WireRequest) → StartsRequest head start
    → request_behind (length head) behind start ≡ (Ok request, rest)
    → (most : ℕ) × (rest ≡ drop most behind) × RequestBehind head (take most behind) (Ok request) []
request_alone_behind head behind rest (Err why) request starts same = let never = (of_pair _ _ _ _ same).0 in cc
request_alone_behind head behind rest (Ok start) request starts same =
    let parts = of_pair (request_with start (body_behind (length head) start.length behind)) (Ok request) (drop start.length behind) rest same in
    let made = request_made start (body_behind (length head) start.length behind) request parts.0 in
    let has = body_there (length head) start.length behind made.0 made.1 in
    let alone = body_alone (length head) start.length behind made.0 has in
    let spent = front_spent start.length behind has.enough in (
      start.length,
      sym parts.1,
      (
        Ok start,
        starts,
        ap (λ (body : Result (List ℕ) FrontRefused). (request_with start body, drop start.length (take start.length behind))) (alone ∙ sym made.1)
            ∙ ap (λ (left : List ℕ). (request_with start (body_behind (length head) start.length behind), left)) spent
            ∙ ap (λ (answer : Result WireRequest FrontRefused). (answer, [])) parts.0,
      ),
    )

pub request_alone : (taken rest : List ℕ) (request : WireRequest) → SpellsRequest (taken ++ rest) (Ok request) rest → SpellsRequest taken (Ok request) []
request_alone taken rest request (inl unread) = let never = unread.1 in cc
request_alone taken rest request (inr found) =
    let head = found.0 in
    let behind = found.1 in
    let alone = request_alone_behind head behind rest found.3.0 request found.3.1 found.3.2 in
    inr (
      head,
      take alone.0 behind,
      (taken_is taken rest (taken ++ rest) head behind alone.0 refl found.2.0 alone.1, found.2.1, found.2.2),
      alone.2,
    )

-- ---- responses

response_made : (start : ResponseStart) (body : Result (List ℕ) FrontRefused) (response : WireResponse) → response_with start body ≡ Ok response → (text : List ℕ) × (body ≡ Ok text)
response_made start (Err why) response same = cc
response_made start (Ok text) response same = (text, refl)

response_alone_behind : (head behind rest : List ℕ) (start : Result ResponseStart FrontRefused) (response : WireResponse) → StartsResponse head start
    → response_behind (length head) behind start ≡ (Ok response, rest)
    → (most : ℕ) × (rest ≡ drop most behind) × ResponseBehind head (take most behind) (Ok response) []
response_alone_behind head behind rest (Err why) response starts same = let never = (of_pair _ _ _ _ same).0 in cc
response_alone_behind head behind rest (Ok start) response starts same =
    let parts = of_pair (response_with start (body_behind (length head) start.length behind)) (Ok response) (drop start.length behind) rest same in
    let made = response_made start (body_behind (length head) start.length behind) response parts.0 in
    let has = body_there (length head) start.length behind made.0 made.1 in
    let alone = body_alone (length head) start.length behind made.0 has in
    let spent = front_spent start.length behind has.enough in (
      start.length,
      sym parts.1,
      (
        Ok start,
        starts,
        ap (λ (body : Result (List ℕ) FrontRefused). (response_with start body, drop start.length (take start.length behind))) (alone ∙ sym made.1)
            ∙ ap (λ (left : List ℕ). (response_with start (body_behind (length head) start.length behind), left)) spent
            ∙ ap (λ (answer : Result WireResponse FrontRefused). (answer, [])) parts.0,
      ),
    )

pub response_alone : (taken rest : List ℕ) (response : WireResponse) → SpellsResponse (taken ++ rest) (Ok response) rest → SpellsResponse taken (Ok response) []
response_alone taken rest response (inl unread) = let never = unread.1 in cc
response_alone taken rest response (inr found) =
    let head = found.0 in
    let behind = found.1 in
    let alone = response_alone_behind head behind rest found.3.0 response found.3.1 found.3.2 in
    inr (
      head,
      take alone.0 behind,
      (taken_is taken rest (taken ++ rest) head behind alone.0 refl found.2.0 alone.1, found.2.1, found.2.2),
      alone.2,
    )
