-- A head that was read, and the body behind it.
use Rattle.std.proofs.Common.{◌≡◌, ℕ, List, ◌++◌, false, cond, Some, Result, Ok, Err, length, drop, nat_lt, refl, sym, ap, subst, ◌∙◌, length-append, arith}
use Rattle.std.proofs.lemmas.Bool.Decides.{nat_tests}
use Rattle.std.specs.Str.{is_utf8}
use Rattle.std.proofs.Math.Seq.{take-append_seam, drop-append_seam}
use Rattle.std.specs.Option.{ForSome}
use Rattle.io_edge.specs.Edge.{Reads, Took}
use Rattle.http_front.specs.Answers.{was_interrupted}
use Rattle.http_front.specs.Reading.{RequestBehind, ResponseBehind, body_behind, request_with, response_with}
use Rattle.http_front.specs.Requests.{StartsRequest}
use Rattle.http_front.specs.Responses.{StartsResponse}
use Rattle.http_front.specs.declared.message.FrontRefused.{FrontRefused}
use Rattle.http_front.specs.declared.message.FrontRefused.TheVariants.{NotText}
use Rattle.http_front.specs.declared.message.WireRequest.{WireRequest}
use Rattle.http_front.specs.declared.message.WireResponse.{WireResponse}
use Rattle.http_front.specs.declared.request_head.RequestStart.{RequestStart}
use Rattle.http_front.specs.declared.response_head.ResponseStart.{ResponseStart}

-- what a body's reading answers of what follows, and leaves
abbrev pub BodyRead : Reads → Reads → ℕ → ℕ → Result (List ℕ) FrontRefused → Type 0
BodyRead before now head most body =
    was_interrupted body ≡ false
    → ForSome before.left (λ behind. (body ≡ body_behind head most behind) × (now.left ≡ Some (drop most behind)))

-- a request is interrupted where its body is
request_as_body : (start : RequestStart) (body : Result (List ℕ) FrontRefused) → was_interrupted body ≡ was_interrupted (request_with start body)
request_as_body start (Ok text) = refl
request_as_body start (Err why) = refl

response_as_body : (start : ResponseStart) (body : Result (List ℕ) FrontRefused) → was_interrupted body ≡ was_interrupted (response_with start body)
response_as_body start (Ok text) = refl
response_as_body start (Err why) = refl

pub request_read : (before now : Reads) (head : List ℕ) (start : RequestStart) (body : Result (List ℕ) FrontRefused) (answer : Result WireRequest FrontRefused)
    → StartsRequest head (Ok start) → answer ≡ request_with start body → BodyRead before now (length head) start.length body
    → was_interrupted answer ≡ false → (all : List ℕ) → before.left ≡ Some all → (rest : List ℕ) × (now.left ≡ Some rest) × RequestBehind head all answer rest
request_read before now head start body answer starts is read whole = λ all told.
    let calm = request_as_body start body ∙ ap was_interrupted (sym is) ∙ whole in
    let found = read calm all told in
    let with_body = λ (b : Result (List ℕ) FrontRefused). request_with start b in (
      drop start.length all,
      found.1,
      (Ok start, starts, ap (λ (r : Result WireRequest FrontRefused). (r, drop start.length all)) (ap with_body (sym found.0) ∙ sym is)),
    )

pub response_read : (before now : Reads) (head : List ℕ) (start : ResponseStart) (body : Result (List ℕ) FrontRefused) (answer : Result WireResponse FrontRefused)
    → StartsResponse head (Ok start) → answer ≡ response_with start body → BodyRead before now (length head) start.length body
    → was_interrupted answer ≡ false → (all : List ℕ) → before.left ≡ Some all → (rest : List ℕ) × (now.left ≡ Some rest) × ResponseBehind head all answer rest
response_read before now head start body answer starts is read whole = λ all told.
    let calm = response_as_body start body ∙ ap was_interrupted (sym is) ∙ whole in
    let found = read calm all told in
    let with_body = λ (b : Result (List ℕ) FrontRefused). response_with start b in (
      drop start.length all,
      found.1,
      (Ok start, starts, ap (λ (r : Result WireResponse FrontRefused). (r, drop start.length all)) (ap with_body (sym found.0) ∙ sym is)),
    )

-- a body that was taken whole is judged by its bytes
pub body_taken : (before now : Reads) (head most : ℕ) (body : List ℕ) (answer : Result (List ℕ) FrontRefused) → Took before now body → length body ≡ most
    → (was_interrupted answer ≡ false → answer ≡ cond (is_utf8 body) (Ok body) (Err NotText)) → was_interrupted answer ≡ false
    → (all : List ℕ) → before.left ≡ Some all → (answer ≡ body_behind head most all) × (now.left ≡ Some (drop most all))
body_taken before now head most body answer took full is calm = λ all told.
    let first = took all told in
    let P : ℕ → List ℕ → Type 0 = λ n bytes. (answer ≡ body_behind head n bytes) × (now.left ≡ Some (drop n bytes)) in
    let enough : nat_lt (length (body ++ first.0)) (length body) ≡ false = let long = length-append body first.0 in grind (arith, nat_tests, long) in
    let judged : body_behind head (length body) (body ++ first.0) ≡ cond (is_utf8 body) (Ok body) (Err NotText) = rw (enough, take-append_seam body first.0) refl in
    subst (λ n. P n all) full (subst (λ bytes. P (length body) bytes) (sym first.2)
    (is calm ∙ sym judged, first.1 ∙ ap Some (sym (drop-append_seam body first.0))))
