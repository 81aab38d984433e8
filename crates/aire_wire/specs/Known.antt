-- What is known of a message that was read.
use Rattle.std.specs.Prelude.{◌≡◌, ℕ, true, false, List, [], Ok, codes, nat_eq}
use Rattle.std.specs.List.{starts_with}
use Rattle.lang_core.specs.Names.{is_who}
use Rattle.lang_core.specs.declared.request.Request.{Request}
use Rattle.lang_tree.specs.Forms.{is_path}
use Rattle.http_front.specs.declared.header.AireHeader.{AireHeader}
use Rattle.http_front.specs.declared.header.AireHeader.TheVariants as headers
use Rattle.http_front.specs.declared.message.WireRequest.{WireRequest}
use Rattle.peer_seal.specs.Seal.{seal_digits}
use Rattle.repair_messages.specs.declared.messages.Fetch.{Fetch as FetchMessage}
use Rattle.repair_messages.specs.declared.messages.SetMessage.{SetMessage}
use Rattle.repair_messages.specs.declared.messages.TokenMessage.{TokenMessage}
use Rattle.wire_fields.specs.Rows.{call_headers, console_headers, fetch_headers, text_at, token_headers}
use Rattle.wire_fields.specs.Secrets.{Secrets}
use Rattle.wire_fields.specs.declared.console.ConsoleRequest.{ConsoleRequest}
use Rattle.aire_wire.specs.Incoming.{incoming, is_deletion, sealed_bytes, set_fields}
use Rattle.aire_wire.specs.ReadBack.{IsFetch, IsFromOne, IsLive, IsPeer, IsSent, IsToken}
use Rattle.aire_wire.specs.declared.incoming.Incoming.{Incoming}
use Rattle.aire_wire.specs.declared.incoming.Incoming.TheVariants.{Outside, Live, Set, Token, Fetch, Console}

-- these fields of the request were sealed with this secret
abbrev pub IsSealedWith : List ℕ → WireRequest → List AireHeader → Type 0
IsSealedWith secret request fields = text_at request.head headers.Seal ≡ seal_digits secret (sealed_bytes request fields)

-- the sender is a peer, and they were sealed with its secret
pub record IsSealedBy (peers : Secrets) (sender : List ℕ) (request : WireRequest) (fields : List AireHeader) : Type 0 where
  pub secret : List ℕ
  pub peer : IsPeer peers sender secret
  pub sealed : IsSealedWith secret request fields

-- from outside: for some user, called by no service, to a handler
pub record IsOutside (request : WireRequest) (asked : Request) : Type 0 where
  pub method : asked.method ≡ request.method
  pub path : asked.path ≡ request.path
  pub body : asked.body ≡ request.body
  pub who : is_who asked.who ≡ true
  pub chain : asked.chain ≡ []
  pub handled : starts_with nat_eq asked.path (codes "/aire/") ≡ false

-- a live call: from a peer to this service, as its first version, and its chain ends with that peer
pub record IsLiveCall (me : List ℕ) (peers : Secrets) (request : WireRequest) (set : SetMessage) : Type 0 where
  pub sealed : IsSealedBy peers set.caller request call_headers
  pub dest : set.dest ≡ me
  pub number : IsFromOne set.number
  pub asked : Request
  pub live : IsLive set asked
  pub sent : is_path request.path ≡ true → IsSent set

-- a version of a call, from a peer to this service
pub record IsSetMessage (me : List ℕ) (peers : Secrets) (request : WireRequest) (set : SetMessage) : Type 0 where
  pub sealed : IsSealedBy peers set.caller request (set_fields (is_deletion request.head))
  pub dest : set.dest ≡ me
  pub sent : IsSent set

-- a token, from a peer that a call of this service went to
pub record IsTokenMessage (me : List ℕ) (peers : Secrets) (request : WireRequest) (token : TokenMessage) : Type 0 where
  pub sealed : IsSealedBy peers token.callee request token_headers
  pub caller : token.caller ≡ me
  pub formed : IsToken token

-- a fetch, from a peer, of an answer of this service to that peer's call
pub record IsFetchMessage (me : List ℕ) (peers : Secrets) (request : WireRequest) (fetch : FetchMessage) : Type 0 where
  pub sealed : IsSealedBy peers fetch.caller request fetch_headers
  pub callee : fetch.callee ≡ me
  pub formed : IsFetch fetch

-- of an operator, to this service, whatever its peers
pub record IsConsoleRequest (me console : List ℕ) (request : WireRequest) (asked : ConsoleRequest) : Type 0 where
  pub sealed : IsSealedWith console request console_headers
  pub dest : text_at request.head headers.Dest ≡ me
  pub who : is_who asked.who ≡ true
  pub body : asked.body ≡ request.body
  pub alone : (peers : Secrets) → incoming me peers console request ≡ Ok (Console asked)

-- what is known, whichever it is
abbrev pub IsKnown : List ℕ → Secrets → List ℕ → WireRequest → Incoming → Type 0
IsKnown me peers console request (Outside asked) = IsOutside request asked
IsKnown me peers console request (Live set) = IsLiveCall me peers request set
IsKnown me peers console request (Set set) = IsSetMessage me peers request set
IsKnown me peers console request (Token token) = IsTokenMessage me peers request token
IsKnown me peers console request (Fetch fetch) = IsFetchMessage me peers request fetch
IsKnown me peers console request (Console asked) = IsConsoleRequest me console request asked
