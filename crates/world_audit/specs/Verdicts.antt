-- What each verdict says.
use Rattle.std.specs.Prelude.{◌≡◌, ℕ, false, List, [], All, IsSomeAnd, slice_get}
use Rattle.std.specs.List.{HoldsAt}
use Rattle.world_agreement.specs.HandedOn.{AllCurrent}
use Rattle.world_agreement.specs.HandedOn.{IsStaleId}
use Rattle.journal_rows.specs.declared.verdict.Outstanding.{Outstanding}
use Rattle.journal_rows.specs.declared.verdict.Outstanding.TheVariants.{Flight as OfFlight, Stale as OfEntry, Call as OfCall, Fetch as OfFetch, Answer as OfAnswer}
use Rattle.journal_rows.specs.declared.verdict.Verdict.{Verdict}
use Rattle.journal_rows.specs.declared.verdict.Verdict.TheVariants.{Legal, Forged, Unsettled}
use Rattle.call_registers.specs.Registers.{owes_fetch}
use Rattle.call_registers.specs.declared.register.Register.{Register}
use Rattle.call_registers.specs.declared.reply.Reply.{Reply}
use Rattle.service_events.specs.State.{Kept, answers, base, unfolded}
use Rattle.world_agreement.specs.Partners.{HasPartner, IsJoined}
use Rattle.world_agreement.specs.Quiet.{AreQuiet}
use Rattle.world_audit.specs.First.{IsFirstWithout, IsFirstNumber}
use Rattle.world_audit.specs.declared.outstanding.OutstandingKind.{OutstandingKind}
use Rattle.world_audit.specs.declared.outstanding.OutstandingKind.TheVariants.{Flights, Entries, Calls, Fetches, Answers}

-- ---- what is outstanding, by its kind

abbrev pub IsAcknowledged : Register → Type 0
IsAcknowledged r = r.acked ≡ r.version

abbrev pub IsFetched : Register → Type 0
IsFetched r = owes_fetch r ≡ false

abbrev pub IsGiven : Reply → Type 0
IsGiven p = p.due ≡ false

-- nothing of this kind is outstanding of a service
abbrev pub NoneOf : OutstandingKind → Kept → Type 0
NoneOf Flights s = s.flights ≡ []
NoneOf Entries s = AllCurrent (answers s) (base s) (unfolded s)
NoneOf Calls s = All IsAcknowledged s.registers
NoneOf Fetches s = All IsFetched s.registers
NoneOf Answers s = All IsGiven s.replies

-- the first of this kind that is outstanding of a service has this number
abbrev pub IsFirstIn : OutstandingKind → Kept → ℕ → Type 0
IsFirstIn Flights s number = IsSomeAnd (slice_get s.flights 0) (λ f. f.id ≡ number)
IsFirstIn Entries s number = IsStaleId (answers s) (base s) (unfolded s) number
IsFirstIn Calls s number = IsFirstNumber IsAcknowledged (λ r. r.number) s.registers number
IsFirstIn Fetches s number = IsFirstNumber IsFetched (λ r. r.number) s.registers number
IsFirstIn Answers s number = IsFirstNumber IsGiven (λ p. p.id) s.replies number

-- nothing of this kind is outstanding of the services before the one at this place, and the first there has this number
pub record IsFirstOf (kind : OutstandingKind) (services : List Kept) (at number : ℕ) : Type 0 where
  pub service : IsFirstWithout (NoneOf kind) services at
  pub first : HoldsAt (λ s. IsFirstIn kind s number) services at

abbrev pub NoneIn : OutstandingKind → List Kept → Type 0
NoneIn kind services = All (NoneOf kind) services

-- nothing of an earlier kind is outstanding
abbrev pub NoneEarlier : OutstandingKind → List Kept → Type 0
NoneEarlier Flights services = Unit {0}
NoneEarlier Entries services = NoneIn Flights services
NoneEarlier Calls services = NoneIn Flights services × NoneIn Entries services
NoneEarlier Fetches services = NoneIn Flights services × NoneIn Entries services × NoneIn Calls services
NoneEarlier Answers services = NoneIn Flights services × NoneIn Entries services × NoneIn Calls services × NoneIn Fetches services

abbrev pub what_is : OutstandingKind → ℕ → Outstanding
what_is Flights n = OfFlight n
what_is Entries n = OfEntry n
what_is Calls n = OfCall n
what_is Fetches n = OfFetch n
what_is Answers n = OfAnswer n

abbrev pub kind_of : Outstanding → OutstandingKind
kind_of (OfFlight n) = Flights
kind_of (OfEntry n) = Entries
kind_of (OfCall n) = Calls
kind_of (OfFetch n) = Fetches
kind_of (OfAnswer n) = Answers

abbrev pub number_of : Outstanding → ℕ
number_of (OfFlight n) = n
number_of (OfEntry n) = n
number_of (OfCall n) = n
number_of (OfFetch n) = n
number_of (OfAnswer n) = n

-- ---- verdicts

-- each row of this service has its partner
abbrev pub IsJoinedIn : List Kept → Kept → Type 0
IsJoinedIn services s = All (HasPartner services s) s.journal

-- the first row without a partner, by service and then in its journal
pub record IsForged (services : List Kept) (at index : ℕ) : Type 0 where
  pub service : IsFirstWithout (IsJoinedIn services) services at
  pub row : HoldsAt (λ s. IsFirstWithout (HasPartner services s) s.journal index) services at

-- each row has its partner, and this is the first that is outstanding: by kind, then by service, then within it
pub record IsUnsettled (services : List Kept) (at : ℕ) (what : Outstanding) : Type 0 where
  pub joined : IsJoined services
  pub earlier : NoneEarlier (kind_of what) services
  pub first : IsFirstOf (kind_of what) services at (number_of what)

abbrev pub IsVerdict : List Kept → Verdict → Type 0
IsVerdict services Legal = IsJoined services × AreQuiet services
IsVerdict services (Forged at index) = IsForged services at index
IsVerdict services (Unsettled at what) = IsUnsettled services at what

abbrev pub SaysForged : Verdict → Type 0
SaysForged Legal = ⊥
SaysForged (Forged at index) = Unit {0}
SaysForged (Unsettled at what) = ⊥

abbrev pub SaysUnsettled : Verdict → Type 0
SaysUnsettled Legal = ⊥
SaysUnsettled (Forged at index) = ⊥
SaysUnsettled (Unsettled at what) = Unit {0}
