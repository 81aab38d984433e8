-- Services whose journals agree: each row that says that something of another service came has its partner there, the row that says that it went.
use Rattle.std.specs.Prelude.{ℕ, ◌≢◌, Bool, List, Option, IsSomeAnd, All, AllPairs, Contains, find}
use Rattle.lang_base.specs.Texts.{same_text}
use Rattle.lang_core.specs.declared.ids.Origin.TheVariants.{Call}
use Rattle.lang_core.specs.declared.request.Request.{Request}
use Rattle.lang_core.specs.declared.request.Response.{Response}
use Rattle.journal_rows.specs.Words.{last_sent}
use Rattle.journal_rows.specs.declared.caller.AckHow.{AckHow}
use Rattle.journal_rows.specs.declared.caller.AckHow.TheVariants.{WithAnswer, ToPost}
use Rattle.journal_rows.specs.declared.row.Row.{Row}
use Rattle.journal_rows.specs.declared.row.Row.TheVariants.{Took, Acked, Answered, WasConfirmed, Sent, SawAck, Noted, SawAnswer, Confirmed}
use Rattle.service_events.specs.State.{Kept, me}

-- ---- services by their names

abbrev pub has_name : List ℕ → Kept → Bool
has_name name s = same_text (me s) name

-- the service of this name, if it is one of these
abbrev pub service_of : List ℕ → List Kept → Option Kept
service_of name services = find (has_name name) services

-- no two services have one name
abbrev pub NamesDiffer : List Kept → Type 0
NamesDiffer services = AllPairs (λ s t. me s ≢ me t) services

-- ---- rows of another service

-- the service of this name is one of these, and its journal is so
abbrev pub JournalOf : List Kept → List ℕ → (List Row → Type 0) → Type 0
JournalOf services name P = IsSomeAnd (service_of name services) (λ s. P s.journal)

-- the journal of the service to which the call of this number was sent is so
abbrev pub JournalOfDest : List Kept → Kept → ℕ → (List Row → Type 0) → Type 0
JournalOfDest services s number P = IsSomeAnd (last_sent number s.journal) (λ sent. JournalOf services sent.dest P)

-- this version of a call was sent
abbrev pub HasSent : List ℕ → ℕ → ℕ → Option Request → List Row → Type 0
HasSent dest number version desired journal =
    Contains journal (Sent (record { number = number; dest = dest; version = version; desired = desired }))

-- a message with this version of a call was acknowledged
abbrev pub HasAcked : List ℕ → ℕ → ℕ → List Row → Type 0
HasAcked caller number version journal = Contains journal (Acked (record { caller = caller; number = number; version = version }))

-- this answer was given to a call, live or not, by whichever entry
abbrev pub HasAnswered : List ℕ → ℕ → ℕ → ℕ → Response → List Row → Type 0
HasAnswered caller number answer_version version response journal =
    (id : ℕ) × (live : Bool)
    × Contains journal
    (Answered (record {
      id = id;
      origin = Call caller number;
      answer_version = answer_version;
      version = version;
      response = response;
      live = live;
    }))

-- an answer of this version was given to a call, whatever it said
abbrev pub HasGiven : List ℕ → ℕ → ℕ → List Row → Type 0
HasGiven caller number answer_version journal =
    (version : ℕ) × (response : Response) × HasAnswered caller number answer_version version response journal

-- this answer to a call was confirmed
abbrev pub HasConfirmed : ℕ → ℕ → List Row → Type 0
HasConfirmed number answer_version journal = Contains journal (Confirmed (record { number = number; answer_version = answer_version }))

-- a version of a call was acknowledged: by a live answer to it, or in reply to a message
abbrev pub HasAcknowledged : List ℕ → ℕ → ℕ → AckHow → List Row → Type 0
HasAcknowledged caller number version (WithAnswer answer_version) journal =
    (response : Response) × HasAnswered caller number answer_version version response journal
HasAcknowledged caller number version ToPost journal = HasAcked caller number version journal

-- ---- partners

-- what a row of this service says of another service, that service says too
abbrev pub HasPartner : List Kept → Kept → Row → Type 0
HasPartner services s (Took t) = JournalOf services t.caller (HasSent (me s) t.number t.version t.desired)
HasPartner services s (SawAck a) = JournalOfDest services s a.number (HasAcknowledged (me s) a.number a.version a.how)
HasPartner services s (Noted n) = JournalOfDest services s n.number (HasGiven (me s) n.number n.answer_version)
HasPartner services s (SawAnswer a) =
    JournalOfDest services s a.number (HasAnswered (me s) a.number a.answer_version a.version a.response)
HasPartner services s (WasConfirmed c) = JournalOf services c.caller (HasConfirmed c.number c.answer_version)
HasPartner services s row = Unit {0}

-- each row has its partner
abbrev pub IsJoined : List Kept → Type 0
IsJoined services = All (λ s. All (HasPartner services s) s.journal) services
