-- What is written for a message is read as that message, where its parts have their forms.
use Rattle.std.specs.Prelude.{◌≡◌, ℕ, ◌<◌, ◌^◌, true, false, List, [], ◌∷◌, ◌++◌, Some, None, Result, Ok, codes, length, nat_eq}
use Rattle.std.specs.List.{list_all, starts_with}
use Rattle.std.specs.Option.{ForSome}
use Rattle.lang_core.specs.Names.{is_name, is_who}
use Rattle.lang_core.specs.declared.request.Request.{Request}
use Rattle.lang_tree.specs.Forms.{is_path}
use Rattle.http_header.specs.HeaderMap.{get_all}
use Rattle.http_header.specs.Token.{lowercase}
use Rattle.http_front.specs.Reading.{SpellsRequest}
use Rattle.http_front.specs.Table.{spelling}
use Rattle.http_front.specs.Writing.{first_of, request_bytes}
use Rattle.http_front.specs.declared.header.AireHeader.{AireHeader}
use Rattle.http_front.specs.declared.header.AireHeader.TheVariants.{NotifierUrl}
use Rattle.http_front.specs.declared.message.FrontRefused.{FrontRefused}
use Rattle.http_front.specs.declared.message.WireRequest.{WireRequest}
use Rattle.http_front.specs.ReadBack.{IsWithin, is_plain_line}
use Rattle.repair_messages.specs.declared.messages.Fetch.{Fetch as FetchMessage}
use Rattle.repair_messages.specs.declared.messages.SetMessage.{SetMessage}
use Rattle.repair_messages.specs.declared.messages.TokenMessage.{TokenMessage}
use Rattle.repair_messages.specs.declared.posts.Post.{Post}
use Rattle.repair_messages.specs.declared.posts.Post.TheVariants as posts
use Rattle.wire_fields.specs.Rows.{is_spelt}
use Rattle.wire_fields.specs.Named.{value_of}
use Rattle.wire_fields.specs.Secrets.{Secrets}
use Rattle.aire_wire.specs.Incoming.{incoming}
use Rattle.aire_wire.specs.declared.incoming.Incoming.{Incoming}
use Rattle.aire_wire.specs.declared.incoming.Incoming.TheVariants.{Live, Set, Token, Fetch}

-- a service of this name is a peer, with this secret
abbrev pub IsPeer : Secrets → List ℕ → List ℕ → Type 0
IsPeer peers name secret = value_of name peers ≡ Some secret

-- a service reads the request as this message, where its sender is a peer with this secret
abbrev pub IsReadAs : List ℕ → List ℕ → List ℕ → WireRequest → Incoming → Type 0
IsReadAs me sender secret request message =
    (peers : Secrets) (console : List ℕ) → IsPeer peers sender secret → incoming me peers console request ≡ Ok message

-- a number of 64 bits, and one from 1
abbrev pub IsNumber : ℕ → Type 0
IsNumber n = n < 2 ^ 64

abbrev pub IsFromOne : ℕ → Type 0
IsFromOne n = (0 < n) × IsNumber n

-- a request for which services called
pub record IsCalled (request : Request) : Type 0 where
  pub path : is_path request.path ≡ true
  pub who : is_who request.who ≡ true
  pub chain : list_all is_name request.chain ≡ true
  pub some : 0 < length request.chain

-- a version of a call, between two services
pub record IsSent (set : SetMessage) : Type 0 where
  pub caller : is_name set.caller ≡ true
  pub dest : is_name set.dest ≡ true
  pub who : is_who set.who ≡ true
  pub number : IsFromOne set.number
  pub version : IsNumber set.version
  pub before : ForSome set.before IsNumber
  pub after : ForSome set.after IsNumber
  pub desired : ForSome set.desired IsCalled

-- a first version that names no neighbours, with a request that its caller makes on its user's behalf, to a handler
pub record IsLive (set : SetMessage) (request : Request) : Type 0 where
  pub desired : set.desired ≡ Some request
  pub version : set.version ≡ 1
  pub before : set.before ≡ None
  pub after : set.after ≡ None
  pub who : set.who ≡ request.who
  pub last : (front : List (List ℕ)) × (request.chain ≡ front ++ set.caller ∷ [])
  pub handled : starts_with nat_eq request.path (codes "/aire/") ≡ false

-- a live call
abbrev pub CallReadsBack : SetMessage → List ℕ → List ℕ → WireRequest → Type 0
CallReadsBack set notifier secret written =
    (request : Request) → IsSent set → IsLive set request → is_spelt NotifierUrl notifier ≡ true → IsReadAs set.dest set.caller secret written (Live set)

-- a set message
abbrev pub SetReadsBack : SetMessage → List ℕ → WireRequest → Type 0
SetReadsBack set secret written = IsSent set → IsReadAs set.dest set.caller secret written (Set set)

-- a token of a callee's entry, between two services
pub record IsToken (token : TokenMessage) : Type 0 where
  pub caller : is_name token.caller ≡ true
  pub callee : is_name token.callee ≡ true
  pub who : is_who token.who ≡ true
  pub id : IsFromOne token.id
  pub number : IsFromOne token.number
  pub answer_version : IsNumber token.answer_version

abbrev pub TokenReadsBack : TokenMessage → List ℕ → WireRequest → Type 0
TokenReadsBack token secret written = IsToken token → IsReadAs token.caller token.callee secret written (Token token)

-- a fetch of an answer, between two services
pub record IsFetch (fetch : FetchMessage) : Type 0 where
  pub caller : is_name fetch.caller ≡ true
  pub callee : is_name fetch.callee ≡ true
  pub number : IsFromOne fetch.number
  pub answer_version : IsNumber fetch.answer_version

abbrev pub FetchReadsBack : FetchMessage → List ℕ → WireRequest → Type 0
FetchReadsBack fetch secret written = IsFetch fetch → IsReadAs fetch.callee fetch.caller secret written (Fetch fetch)

-- a post
abbrev pub PostReadsBack : Post → List ℕ → WireRequest → Type 0
PostReadsBack (posts.Set set) secret written = SetReadsBack set secret written
PostReadsBack (posts.Token token) secret written = TokenReadsBack token secret written
PostReadsBack (posts.Fetch fetch) secret written = FetchReadsBack fetch secret written

-- ---- as bytes

-- a request as it is sent: the one that is written for a message, and a Host perhaps, within the limits
pub record Carries (sent written : WireRequest) : Type 0 where
  pub method : sent.method ≡ written.method
  pub path : sent.path ≡ written.path
  pub body : sent.body ≡ written.body
  pub fields : (header : AireHeader) → get_all sent.head (lowercase (spelling header)) ≡ get_all written.head (lowercase (spelling header))
  pub host : list_all is_plain_line (first_of sent.head (codes "Host")) ≡ true
  pub within : IsWithin (request_bytes sent) sent.body

-- the bytes, whatever follows them, spell this request and nothing else, and leave what follows
abbrev pub SpellAlone : List ℕ → WireRequest → List ℕ → Type 0
SpellAlone bytes read rest =
    SpellsRequest (bytes ++ rest) (Ok read) rest
    × ((answer : Result WireRequest FrontRefused) (left : List ℕ) → SpellsRequest (bytes ++ rest) answer left → (answer ≡ Ok read) × (left ≡ rest))

-- its bytes, whatever follows them, spell one request, which says this message to that service, where its sender is a peer with
-- this secret
abbrev pub AreReadAs : List ℕ → List ℕ → List ℕ → WireRequest → Incoming → Type 0
AreReadAs me sender secret written message =
    (sent : WireRequest) → Carries sent written → (peers : Secrets) (console : List ℕ) → IsPeer peers sender secret → (rest : List ℕ)
    → (read : WireRequest) × SpellAlone (request_bytes sent) read rest × (incoming me peers console read ≡ Ok message)

abbrev pub CallBytesReadBack : SetMessage → List ℕ → List ℕ → WireRequest → Type 0
CallBytesReadBack set notifier secret written =
    (request : Request) → IsSent set → IsLive set request → is_spelt NotifierUrl notifier ≡ true
    → AreReadAs set.dest set.caller secret written (Live set)

abbrev pub SetBytesReadBack : SetMessage → List ℕ → WireRequest → Type 0
SetBytesReadBack set secret written = IsSent set → AreReadAs set.dest set.caller secret written (Set set)

abbrev pub TokenBytesReadBack : TokenMessage → List ℕ → WireRequest → Type 0
TokenBytesReadBack token secret written = IsToken token → AreReadAs token.caller token.callee secret written (Token token)

abbrev pub FetchBytesReadBack : FetchMessage → List ℕ → WireRequest → Type 0
FetchBytesReadBack fetch secret written = IsFetch fetch → AreReadAs fetch.callee fetch.caller secret written (Fetch fetch)

abbrev pub PostBytesReadBack : Post → List ℕ → WireRequest → Type 0
PostBytesReadBack (posts.Set set) secret written = SetBytesReadBack set secret written
PostBytesReadBack (posts.Token token) secret written = TokenBytesReadBack token secret written
PostBytesReadBack (posts.Fetch fetch) secret written = FetchBytesReadBack fetch secret written
