-- What an event of a live request tells of the journal, and of its receipt.
use Rattle.std.proofs.Common.{◌≡◌, ◌+◌, ℕ, List, Option, Some, None, Result, Ok, Err, IfSome, IsSomeAnd, MatchOption, length, slice_get, refl, sym, ap, ◌∙◌, subst, arith, length-append}
use Rattle.lang_core.specs.declared.ids.Origin.{Origin}
use Rattle.lang_core.specs.declared.inputs.Inputs.{Inputs}
use Rattle.lang_core.specs.declared.request.Request.{Request}
use Rattle.lang_programs.specs.Numbered.{Numbered}
use Rattle.journal_rows.specs.declared.row.Row.TheVariants.{Answered}
use Rattle.flights.specs.declared.flight.Flight.{Flight}
use Rattle.service_events.specs.Commits.{live_rows, live_answer_of, Commits, CommitsFlight}
use Rattle.service_events.specs.State.{Kept, flight_of}
use Rattle.service_events.specs.declared.answers.Arrived.{Arrived}
use Rattle.service_events.specs.declared.answers.Arrived.TheVariants as arrived
use Rattle.node_core.specs.Doings.{commits_in, GetsReceipt, GetsReceiptOf, IsOpen, IsSameFlight, IsThere}
use Rattle.node_core.specs.Memos.{committed_in, committed_of, count_of, IsGivenReceipt, IsIn}
use Rattle.node_core.specs.declared.notes.Begun.{Begun}
use Rattle.node_core.specs.declared.receipt.Receipt.{Receipt}

-- what an event of a live request leaves, under whichever program it ran
abbrev pub CommitsSome : {E : Type 0} → Origin → Request → Inputs → Kept → Result Arrived E → Kept → Type 0
CommitsSome o q i s result t = (p : Numbered) × Commits o q i p s result t

-- as many live answers more as were committed
pub counts : {E : Type 0} (o : Origin) (q : Request) (i : Inputs) (s t : Kept) (result : Result Arrived E) → CommitsSome o q i s result t
    → length (live_rows t.journal) ≡ length (live_rows s.journal) + count_of (committed_in q i result)
counts o q i s t (Ok (arrived.Done index id answer)) h =
    ap length h.1.alone ∙ length-append (live_rows s.journal) _
counts o q i s t (Ok (arrived.Call flight set)) h = omega (arith, ap length h.1.0.lives)
counts o q i s t (Ok (arrived.Known answer)) h = omega (arith, ap length h.1.lives)
counts o q i s t (Err why) h = omega (arith, ap (λ (k : Kept). length (live_rows k.journal)) h.1)

pub counted : {E : Type 0} (q : Request) (i : Inputs) (result : Result Arrived E) → count_of (committed_in q i result) ≡ commits_in result
counted q i (Ok (arrived.Done index id answer)) = refl
counted q i (Ok (arrived.Call flight set)) = refl
counted q i (Ok (arrived.Known answer)) = refl
counted q i (Err why) = refl

-- behind a commit the answer stands there
pub answered : {E : Type 0} (o : Origin) (q : Request) (i : Inputs) (s t : Kept) (result : Result Arrived E) → CommitsSome o q i s result t
    → IfSome (committed_in q i result) (IsIn t.journal)
answered o q i s t (Ok (arrived.Done index id answer)) h =
    record { origin = o; response = h.1.trace.response; program = h.0.number; there = h.1.there; asked_so = h.1.asks }
answered o q i s t (Ok (arrived.Call flight set)) h = tt
answered o q i s t (Ok (arrived.Known answer)) h = tt
answered o q i s t (Err why) h = tt

-- a receipt of the answer there is of the live request that was committed
pub gets : {E : Type 0} (o : Origin) (q : Request) (i : Inputs) (s t : Kept) (secret : List ℕ) (result : Result Arrived E) (before behind : List Receipt)
    → CommitsSome o q i s result t → IsGivenReceipt t secret (committed_in q i result) before behind → GetsReceipt t secret o q i result before behind
gets o q i s t secret (Ok (arrived.Done index id answer)) before behind h given =
    let r = given.receipt in
    let row : Some r.row ≡ Some (Answered (live_answer_of id o h.1.trace.response)) =
    sym given.so.agrees.there ∙ ap (slice_get t.journal) given.so.index ∙ h.1.there in
    record {
      receipt = r;
      last = given.last;
      so = record { is = given.so; response = h.1.trace.response; row = cc };
    }
gets o q i s t secret (Ok (arrived.Call flight set)) before behind h given = given
gets o q i s t secret (Ok (arrived.Known answer)) before behind h given = given
gets o q i s t secret (Err why) before behind h given = given

-- ---- of the open flight

commits_found : {E : Type 0} (b : Begun) (s t : Kept) (f : Option Flight) (result : Result Arrived E) → IsSomeAnd f (IsSameFlight b)
    → MatchOption f (t ≡ s) (λ (g : Flight). Commits g.origin g.request g.inputs g.program s result t) → CommitsSome b.origin b.request b.inputs s result t
commits_found b s t None result same h = absurd same
commits_found b s t (Some g) result same h =
    let P : Origin → Type 0 = λ o. CommitsSome o g.request g.inputs s result t in
    let Q : Request → Type 0 = λ q. CommitsSome b.origin q g.inputs s result t in
    let R : Inputs → Type 0 = λ i. CommitsSome b.origin b.request i s result t in
    subst R same.2 (subst Q same.1 (subst P same.0 (g.program, h)))

-- what the flight of this number does is what the live request does that is open
pub flies : {E : Type 0} (flight : ℕ) (begun : Option Begun) (s t : Kept) (result : Result Arrived E) → IsOpen flight begun → IsSomeAnd begun (IsThere s)
    → CommitsFlight flight s result t → IsSomeAnd begun (λ (b : Begun). CommitsSome b.origin b.request b.inputs s result t)
flies flight None s t result opened there h = absurd opened
flies flight (Some b) s t result opened there h =
    let P : ℕ → Type 0 = λ n. CommitsFlight n s result t in
    commits_found b s t (flight_of b.flight s) result there.flight (subst P (sym opened) h)

pub counts_open : {E : Type 0} (begun : Option Begun) (s t : Kept) (result : Result Arrived E)
    → IsSomeAnd begun (λ (b : Begun). CommitsSome b.origin b.request b.inputs s result t)
    → length (live_rows t.journal) ≡ length (live_rows s.journal) + count_of (committed_of begun result)
counts_open None s t result h = absurd h
counts_open (Some b) s t result h = counts b.origin b.request b.inputs s t result h

pub counted_open : {E : Type 0} (begun : Option Begun) (P : Begun → Type 0) (result : Result Arrived E) → IsSomeAnd begun P
    → count_of (committed_of begun result) ≡ commits_in result
counted_open None P result h = absurd h
counted_open (Some b) P result h = counted b.request b.inputs result

pub answered_open : {E : Type 0} (begun : Option Begun) (s t : Kept) (result : Result Arrived E)
    → IsSomeAnd begun (λ (b : Begun). CommitsSome b.origin b.request b.inputs s result t) → IfSome (committed_of begun result) (IsIn t.journal)
answered_open None s t result h = absurd h
answered_open (Some b) s t result h = answered b.origin b.request b.inputs s t result h

pub gets_open : {E : Type 0} (begun : Option Begun) (s t : Kept) (secret : List ℕ) (result : Result Arrived E) (before behind : List Receipt)
    → IsSomeAnd begun (λ (b : Begun). CommitsSome b.origin b.request b.inputs s result t) → IsGivenReceipt t secret (committed_of begun result) before behind
    → GetsReceiptOf t secret begun result before behind
gets_open None s t secret result before behind h given = absurd h
gets_open (Some b) s t secret result before behind h given = gets b.origin b.request b.inputs s t secret result before behind h given
