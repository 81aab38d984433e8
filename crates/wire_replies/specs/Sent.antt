-- A reply's bytes are read as that reply.
use Rattle.std.specs.Prelude.{◌≡◌, ℕ, ◌<◌, ◌≤◌, true, List, ◌++◌, Result, Ok}
use Rattle.http_header.specs.HeaderMap.{get_all}
use Rattle.http_header.specs.Token.{lowercase}
use Rattle.http_front.specs.Reading.{SpellsResponse}
use Rattle.http_front.specs.Table.{spelling}
use Rattle.http_front.specs.Writing.{response_bytes, type_line}
use Rattle.http_front.specs.declared.header.AireHeader.{AireHeader}
use Rattle.http_front.specs.declared.message.FrontRefused.{FrontRefused}
use Rattle.http_front.specs.declared.message.WireResponse.{WireResponse}
use Rattle.http_front.specs.ReadBack.{IsWithin, is_plain_line}
use Rattle.wire_replies.specs.Reading.{replied}
use Rattle.wire_replies.specs.Writing.{Answers, IsSpelt}
use Rattle.wire_replies.specs.declared.kinds.Asking.{Asking}
use Rattle.wire_replies.specs.declared.replies.Outgoing.{Outgoing}

-- a response as it is sent: the one that is written for a reply, and a type of its own perhaps, within the limits
pub record Carries (sent written : WireResponse) : Type 0 where
  pub status : sent.status ≡ written.status
  pub body : sent.body ≡ written.body
  pub fields : (header : AireHeader) → get_all sent.head (lowercase (spelling header)) ≡ get_all written.head (lowercase (spelling header))
  pub three_digits : (100 ≤ sent.status) × (sent.status < 1000)
  pub kind : is_plain_line (type_line sent.head) ≡ true
  pub within : IsWithin (response_bytes sent) sent.body

-- the bytes, whatever follows them, spell this response and nothing else, and leave what follows
abbrev pub SpellAlone : List ℕ → WireResponse → List ℕ → Type 0
SpellAlone bytes read rest =
    SpellsResponse (bytes ++ rest) (Ok read) rest
    × ((answer : Result WireResponse FrontRefused) (left : List ℕ) → SpellsResponse (bytes ++ rest) answer left → (answer ≡ Ok read) × (left ≡ rest))

-- its bytes, whatever follows them, spell one response, which who asked reads as that reply
abbrev pub BytesReadBack : List ℕ → List ℕ → List ℕ → Outgoing → WireResponse → Type 0
BytesReadBack me peer secret reply written =
    IsSpelt reply → (asking : Asking) → Answers asking reply → (sent : WireResponse) → Carries sent written → (rest : List ℕ)
    → (read : WireResponse) × SpellAlone (response_bytes sent) read rest × (replied peer me secret asking read ≡ Ok reply)
