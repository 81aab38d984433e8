-- What the bytes of a source spell: a message and what follows it, or the first refusal and what is left then.
use Rattle.std.specs.Prelude.{◌≡◌, ℕ, ◌+◌, ◌<◌, ◌≤◌, ◌⊎◌, false, List, [], ◌∷◌, ◌++◌, Option, Some, None, Result, Ok, Err, length, take, drop, nat_lt, if◌then◌else◌}
use Rattle.std.specs.Option.{ForSome}
use Rattle.std.specs.Str.{is_utf8}
use Rattle.io_edge.specs.Edge.{Reads, Took}
use Rattle.http_front.specs.Ends.{ends_head, IsWholeHead}
use Rattle.http_front.specs.Requests.{StartsRequest}
use Rattle.http_front.specs.Responses.{StartsResponse}
use Rattle.http_front.specs.declared.message.FrontRefused.{FrontRefused}
use Rattle.http_front.specs.declared.message.FrontRefused.TheVariants.{Cut, HeadTooLong, NotText}
use Rattle.http_front.specs.declared.message.WireRequest.{WireRequest}
use Rattle.http_front.specs.declared.message.WireResponse.{WireResponse}
use Rattle.http_front.specs.declared.request_head.RequestStart.{RequestStart}
use Rattle.http_front.specs.declared.response_head.ResponseStart.{ResponseStart}

-- the bytes that a read of one byte takes
abbrev pub taken_byte : Option ℕ → List ℕ
taken_byte None = []
taken_byte (Some byte) = byte ∷ []

-- no head ends within the first 16,384 bytes
abbrev pub NeverEnds : List ℕ → Type 0
NeverEnds bytes = (n : ℕ) → n ≤ 16384 → ends_head (take n bytes) ≡ false

-- these bytes have no head's end, and what is answered then, and left
abbrev pub HasNoHead : List ℕ → FrontRefused → List ℕ → Type 0
HasNoHead bytes why rest =
    NeverEnds bytes
    × (((length bytes < 16384) × (why ≡ Cut (length bytes)) × (rest ≡ []))
    ⊎ ((16384 ≤ length bytes) × (why ≡ HeadTooLong) × (rest ≡ drop 16384 bytes)))

-- what was taken up to a head's end, or why none came
abbrev pub HeadTaken : Reads → Reads → Result (List ℕ) FrontRefused → Type 0
HeadTaken before now (Ok head) = Took before now head × IsWholeHead head × (length head ≤ 16384)
HeadTaken before now (Err why) = ForSome before.left (λ all. (rest : List ℕ) × (now.left ≡ Some rest) × HasNoHead all why rest)

-- a body of so many bytes, behind a head of so many
abbrev pub body_behind : ℕ → ℕ → List ℕ → Result (List ℕ) FrontRefused
body_behind head most behind =
    if nat_lt (length behind) most then Err (Cut (head + length behind))
    else (if is_utf8 (take most behind) then Ok (take most behind) else Err NotText)

-- the bytes are a whole head, of at most 16,384 bytes, and what follows it
abbrev pub Splits : List ℕ → List ℕ → List ℕ → Type 0
Splits bytes head behind = (bytes ≡ head ++ behind) × IsWholeHead head × (length head ≤ 16384)

-- ---- requests

abbrev pub request_with : RequestStart → Result (List ℕ) FrontRefused → Result WireRequest FrontRefused
request_with start (Err why) = Err why
request_with start (Ok body) = Ok (record { method = start.method; path = start.path; head = start.head; body = body })

-- a request, where its head says this much, and what is left behind it
abbrev pub request_behind : ℕ → List ℕ → Result RequestStart FrontRefused → Result WireRequest FrontRefused × List ℕ
request_behind head behind (Err why) = (Err why, behind)
request_behind head behind (Ok start) = (request_with start (body_behind head start.length behind), drop start.length behind)

-- the answer that the bytes behind a head decide
abbrev pub RequestBehind : List ℕ → List ℕ → Result WireRequest FrontRefused → List ℕ → Type 0
RequestBehind head behind answer rest =
    (start : Result RequestStart FrontRefused) × StartsRequest head start × (request_behind (length head) behind start ≡ (answer, rest))

abbrev pub RefusesUnread : {X : Type 0} → List ℕ → Result X FrontRefused → List ℕ → Type 0
RefusesUnread {X} bytes answer rest = (why : FrontRefused) × (answer ≡ Err why) × HasNoHead bytes why rest

-- the answer that a source's bytes decide, and what is left of them
abbrev pub SpellsRequest : List ℕ → Result WireRequest FrontRefused → List ℕ → Type 0
SpellsRequest bytes answer rest =
    RefusesUnread bytes answer rest
    ⊎ ((head : List ℕ) × (behind : List ℕ) × Splits bytes head behind × RequestBehind head behind answer rest)

-- ---- responses

abbrev pub response_with : ResponseStart → Result (List ℕ) FrontRefused → Result WireResponse FrontRefused
response_with start (Err why) = Err why
response_with start (Ok body) = Ok (record { status = start.status; head = start.head; body = body })

-- a response, where its head says this much, and what is left behind it
abbrev pub response_behind : ℕ → List ℕ → Result ResponseStart FrontRefused → Result WireResponse FrontRefused × List ℕ
response_behind head behind (Err why) = (Err why, behind)
response_behind head behind (Ok start) = (response_with start (body_behind head start.length behind), drop start.length behind)

-- the answer that the bytes behind a head decide
abbrev pub ResponseBehind : List ℕ → List ℕ → Result WireResponse FrontRefused → List ℕ → Type 0
ResponseBehind head behind answer rest =
    (start : Result ResponseStart FrontRefused) × StartsResponse head start × (response_behind (length head) behind start ≡ (answer, rest))

-- the answer that a source's bytes decide, and what is left of them
abbrev pub SpellsResponse : List ℕ → Result WireResponse FrontRefused → List ℕ → Type 0
SpellsResponse bytes answer rest =
    RefusesUnread bytes answer rest
    ⊎ ((head : List ℕ) × (behind : List ℕ) × Splits bytes head behind × ResponseBehind head behind answer rest)
