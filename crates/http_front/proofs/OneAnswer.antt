-- Bytes spell one answer at most, and leave one rest.
use Rattle.std.proofs.Common.{◌≡◌, ℕ, ◌<◌, ◌≤◌, ◌⊎◌, inl, inr, true, false, true≢false, List, [], ◌++◌, Result, Err, length, take, drop, sym, subst, ap, ◌∙◌, arith}
use Rattle.std.proofs.Math.Seq.{take-append_seam, drop-append_seam}
use Rattle.std.proofs.lemmas.Bool.{cases_lt}
use Rattle.std.proofs.lemmas.List.{take-append-le}
use Rattle.httparse.proofs.GrammarLemmas.{request_unique, response_unique}
use Rattle.http_front.specs.Ends.{ends_head, IsWholeHead}
use Rattle.http_front.specs.Reading.{HasNoHead, NeverEnds, RefusesUnread, RequestBehind, ResponseBehind, SpellsRequest, SpellsResponse, Splits, request_behind, response_behind}
use Rattle.http_front.specs.Requests.{StartsRequest, request_start}
use Rattle.http_front.specs.Responses.{StartsResponse, response_start}
use Rattle.http_front.specs.declared.message.FrontRefused.{FrontRefused}
use Rattle.http_front.specs.declared.message.WireRequest.{WireRequest}
use Rattle.http_front.specs.declared.message.WireResponse.{WireResponse}
use Rattle.http_front.specs.declared.request_head.RequestStart.{RequestStart}
use Rattle.http_front.specs.declared.response_head.ResponseStart.{ResponseStart}

abbrev One : {X : Type 0} → Result X FrontRefused → List ℕ → Result X FrontRefused → List ℕ → Type 0
One a left b rest = (a ≡ b) × (left ≡ rest)

-- ---- heads

-- of two heads with which some bytes begin, neither is longer
no_longer : (bytes head other behind rest : List ℕ) → bytes ≡ head ++ behind → bytes ≡ other ++ rest → IsWholeHead head → IsWholeHead other → length other ≤ length head
no_longer bytes head other behind rest first second whole other_whole = by (cases_lt (length head) (length other))
  where
    by : (length head < length other) ⊎ (length other ≤ length head) → length other ≤ length head
    by (inl shorter) =
        let within : length head ≤ length other = omega (arith, shorter) in
        let front : take (length head) other ≡ head =
        sym (take-append-le (length head) other rest within) ∙ ap (take (length head)) (sym second ∙ first) ∙ take-append_seam head behind in
        let ends : ends_head head ≡ true = whole.0 in
        let not_yet : ends_head head ≡ false = ap ends_head (sym front) ∙ other_whole.1 (length head) shorter in
        absurd (true≢false (sym ends ∙ not_yet))
    by (inr shown) = shown

abbrev Parts : List ℕ → List ℕ → List ℕ → List ℕ → Type 0
Parts head behind other rest = (head ≡ other) × (behind ≡ rest)

one_split : (bytes head behind other rest : List ℕ) → Splits bytes head behind → Splits bytes other rest → Parts head behind other rest
one_split bytes head behind other rest a b =
    let long : length head ≡ length other =
    omega (arith, no_longer bytes head other behind rest a.0 b.0 a.1 b.1, no_longer bytes other head rest behind b.0 a.0 b.1 a.1) in
    let whole : head ++ behind ≡ other ++ rest = sym a.0 ∙ b.0 in (
      sym (take-append_seam head behind) ∙ ap (take (length head)) whole ∙ ap (λ (n : ℕ). take n (other ++ rest)) long ∙ take-append_seam other rest,
      sym (drop-append_seam head behind) ∙ ap (drop (length head)) whole ∙ ap (λ (n : ℕ). drop n (other ++ rest)) long ∙ drop-append_seam other rest,
    )

-- bytes that have no head begin with none
none_begins : (bytes head behind : List ℕ) → NeverEnds bytes → Splits bytes head behind → ⊥
none_begins bytes head behind never split =
    let front : take (length head) bytes ≡ head = ap (take (length head)) split.0 ∙ take-append_seam head behind in
    let ends : ends_head head ≡ true = split.1.0 in
    let not_so : ends_head head ≡ false = ap ends_head (sym front) ∙ never (length head) split.2 in
    true≢false (sym ends ∙ not_so)

-- why, and what is left
one_refusal : (bytes : List ℕ) (why other : FrontRefused) (left rest : List ℕ) → HasNoHead bytes why left → HasNoHead bytes other rest → (why ≡ other) × (left ≡ rest)
one_refusal bytes why other left rest (never, inl a) (again, inl b) = (a.1 ∙ sym b.1, a.2 ∙ sym b.2)
one_refusal bytes why other left rest (never, inl a) (again, inr b) = absurd (omega (arith, a.0, b.0))
one_refusal bytes why other left rest (never, inr a) (again, inl b) = absurd (omega (arith, a.0, b.0))
one_refusal bytes why other left rest (never, inr a) (again, inr b) = (a.1 ∙ sym b.1, a.2 ∙ sym b.2)

both_unread : {X : Type 0} (bytes : List ℕ) (a b : Result X FrontRefused) (left rest : List ℕ) → RefusesUnread bytes a left → RefusesUnread bytes b rest → One a left b rest
both_unread bytes a b left rest first second =
    let same = one_refusal bytes first.0 second.0 left rest first.2 second.2 in
    (first.1 ∙ ap Err same.0 ∙ sym second.1, same.1)

-- ---- requests

one_request_start : (head : List ℕ) (a b : Result RequestStart FrontRefused) → StartsRequest head a → StartsRequest head b → a ≡ b
one_request_start head a b (inl none) (inl never) = none.1 ∙ sym never.1
one_request_start head a b (inl none) (inr found) = absurd (none.0 found.0 found.1)
one_request_start head a b (inr found) (inl never) = absurd (never.0 found.0 found.1)
one_request_start head a b (inr found) (inr again) =
    let same = request_unique head found.0 again.0 [] [] found.1.0 again.1.0 in
    found.2 ∙ ap request_start same.0 ∙ sym again.2

one_request_behind : (head behind : List ℕ) (a b : Result WireRequest FrontRefused) (left rest : List ℕ) → RequestBehind head behind a left → RequestBehind head behind b rest → One a left b rest
one_request_behind head behind a b left rest first second =
    let start = one_request_start head first.0 second.0 first.1 second.1 in
    let same : (a, left) ≡ (b, rest) = sym first.2 ∙ ap (request_behind (length head) behind) start ∙ second.2 in
    (ap (λ (p : Result WireRequest FrontRefused × List ℕ). p.0) same, ap (λ (p : Result WireRequest FrontRefused × List ℕ). p.1) same)

pub one_request : (bytes : List ℕ) (a b : Result WireRequest FrontRefused) (left rest : List ℕ) → SpellsRequest bytes a left → SpellsRequest bytes b rest → (a ≡ b) × (left ≡ rest)
one_request bytes a b left rest (inl none) (inl never) = both_unread bytes a b left rest none never
one_request bytes a b left rest (inl none) (inr found) = absurd (none_begins bytes found.0 found.1 none.2.0 found.2)
one_request bytes a b left rest (inr found) (inl never) = absurd (none_begins bytes found.0 found.1 never.2.0 found.2)
one_request bytes a b left rest (inr found) (inr again) =
    let parts = one_split bytes found.0 found.1 again.0 again.1 found.2 again.2 in
    let moved = subst (λ (head : List ℕ). RequestBehind head found.1 a left) parts.0 found.3 in
    one_request_behind again.0 again.1 a b left rest (subst (λ (behind : List ℕ). RequestBehind again.0 behind a left) parts.1 moved) again.3

-- ---- responses

one_response_start : (head : List ℕ) (a b : Result ResponseStart FrontRefused) → StartsResponse head a → StartsResponse head b → a ≡ b
one_response_start head a b (inl none) (inl never) = none.1 ∙ sym never.1
one_response_start head a b (inl none) (inr found) = absurd (none.0 found.0 found.1)
one_response_start head a b (inr found) (inl never) = absurd (never.0 found.0 found.1)
one_response_start head a b (inr found) (inr again) =
    let same = response_unique head found.0 again.0 [] [] found.1.0 again.1.0 in
    found.2 ∙ ap response_start same.0 ∙ sym again.2

one_response_behind : (head behind : List ℕ) (a b : Result WireResponse FrontRefused) (left rest : List ℕ) → ResponseBehind head behind a left → ResponseBehind head behind b rest → One a left b rest
one_response_behind head behind a b left rest first second =
    let start = one_response_start head first.0 second.0 first.1 second.1 in
    let same : (a, left) ≡ (b, rest) = sym first.2 ∙ ap (response_behind (length head) behind) start ∙ second.2 in
    (ap (λ (p : Result WireResponse FrontRefused × List ℕ). p.0) same, ap (λ (p : Result WireResponse FrontRefused × List ℕ). p.1) same)

pub one_response : (bytes : List ℕ) (a b : Result WireResponse FrontRefused) (left rest : List ℕ) → SpellsResponse bytes a left → SpellsResponse bytes b rest → (a ≡ b) × (left ≡ rest)
one_response bytes a b left rest (inl none) (inl never) = both_unread bytes a b left rest none never
one_response bytes a b left rest (inl none) (inr found) = absurd (none_begins bytes found.0 found.1 none.2.0 found.2)
one_response bytes a b left rest (inr found) (inl never) = absurd (none_begins bytes found.0 found.1 never.2.0 found.2)
one_response bytes a b left rest (inr found) (inr again) =
    let parts = one_split bytes found.0 found.1 again.0 again.1 found.2 again.2 in
    let moved = subst (λ (head : List ℕ). ResponseBehind head found.1 a left) parts.0 found.3 in
    one_response_behind again.0 again.1 a b left rest (subst (λ (behind : List ℕ). ResponseBehind again.0 behind a left) parts.1 moved) again.3
