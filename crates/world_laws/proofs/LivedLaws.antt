-- What a live request leaves when it goes on, and what is said of it.
use Rattle.std.proofs.Common.{◌≡◌, ℕ, zero, suc, IsSome, IfSome, ◌⊎◌, true, List, [], ◌∷◌, ◌++◌, Option, Some, None, All, Contains, slice_get, nat_le, nat_lt, not, inl, inr, refl, ap, ◌∙◌, subst, append_assoc}
use Rattle.std.specs.Prelude.{drop, length}
use Rattle.std.proofs.lemmas.Bool.{cond_both}
use Rattle.std.proofs.lemmas.List.Elements.{All-cons, All-head, All-tail, All-weaker, All-filter, All-contains_itself, Contains-append_right, Contains-push}
use Rattle.lang_core.specs.Traces.{dead_trace}
use Rattle.lang_core.specs.declared.ids.Origin.{Origin}
use Rattle.lang_core.specs.declared.ids.Origin.TheVariants.{Outside, Call}
use Rattle.lang_core.specs.declared.request.Request.{Request}
use Rattle.lang_core.specs.declared.trace.CallMade.{CallMade}
use Rattle.lang_core.specs.declared.trace.Trace.{Trace}
use Rattle.handler_run.specs.declared.state.Ran.{Ran}
use Rattle.local_repair.specs.Alone.{trace_or_dead}
use Rattle.repair_messages.specs.declared.messages.AnswerMessage.{AnswerMessage}
use Rattle.repair_messages.specs.declared.messages.SetMessage.{SetMessage}
use Rattle.journal_rows.specs.declared.row.Row.{Row}
use Rattle.journal_rows.specs.declared.row.Row.TheVariants.{Asked, Took, Answered, Sent}
use Rattle.call_registers.specs.Registers.{next_number}
use Rattle.call_registers.specs.declared.register.Register.{Register}
use Rattle.flights.specs.Moves.{calls_in, next_move}
use Rattle.flights.specs.declared.flight.Flight.{Flight}
use Rattle.flights.specs.declared.flight.Move.{Move}
use Rattle.flights.specs.declared.flight.Move.TheVariants.{Commit, Name, Change}
use Rattle.service_events.specs.State.{Kept, After, me, has_flight, without_flight, put_flight, with_flight}
use Rattle.service_events.specs.Calls.{noted, named, all_deleted}
use Rattle.service_events.specs.Flying.{flight_run, before_answer, live_answer, surplus_rows, took_rows, answer_to_caller, committed_entry, committed, with_slot, with_change, deletion, change_rows, waits, wanted_of, named_unsent, changed_unsent, completing, completed, changed, moved, goes_on}
use Rattle.service_events.specs.declared.answers.Arrived.{Arrived}
use Rattle.service_events.specs.declared.answers.Arrived.TheVariants.{Done, Call as Sends, Known}
use Rattle.service_events.proofs.CallLaws.{Grows}
use Rattle.service_events.proofs.CallRowLemmas.{Each, each_append, each_weaker}
use Rattle.service_events.proofs.LiveEntryLaws.{call_keeps}
use Rattle.world_agreement.specs.Partners.{HasSent, HasAnswered}

-- ---- what it leaves

-- it says that a call was named, or is to have no effect
abbrev pub IsNaming : Row → Type 0
IsNaming (Sent s) = IfSome s.desired (λ _. s.version ≡ 1)
IsNaming row = ⊥

-- a row that a live request of this origin leaves: it takes no other call, and its answer is live
abbrev pub IsOfRequest : Origin → Request → Row → Type 0
IsOfRequest o q (Took t) = (o ≡ Call t.caller t.number) × (t.version ≡ 1) × (t.desired ≡ Some q)
IsOfRequest o q (Sent s) = IsNaming (Sent s)
IsOfRequest o q (Asked a) = Unit {0}
IsOfRequest o q (Answered a) = a.live ≡ true
IsOfRequest o q row = ⊥

-- a flight that was there, or is this request's
abbrev pub IsFlownFrom : Kept → Origin → Request → Flight → Type 0
IsFlownFrom s o q g = Contains s.flights g ⊎ ((g.origin ≡ o) × (g.request ≡ q))

pub record Lived (s : Kept) (o : Origin) (q : Request) (t : Kept) : Type 0 where
  pub grows : Grows s t
  pub rows : Each (IsOfRequest o q) grows.rows
  pub flights : All (IsFlownFrom s o q) t.flights

-- ---- what is said of it

-- an answer to the call that it comes from, which the service gave
pub record IsGiven (o : Origin) (t : Kept) (a : AnswerMessage) : Type 0 where
  pub from : o ≡ Call a.caller a.number
  pub callee : a.callee ≡ me t
  pub given : HasAnswered a.caller a.number a.answer_version a.version a.response t.journal

-- a call that the service sent first
pub record IsSent (t : Kept) (set : SetMessage) : Type 0 where
  pub caller : set.caller ≡ me t
  pub first : set.version ≡ 1
  pub asks : IsSome set.desired
  pub sent : HasSent set.dest set.number set.version set.desired t.journal

abbrev pub GoesBack : Origin → Kept → Option AnswerMessage → Type 0
GoesBack o t None = Unit {0}
GoesBack o t (Some a) = IsGiven o t a

abbrev pub Says : Origin → Kept → Arrived → Type 0
Says o t (Done index id answer) = GoesBack o t answer
Says o t (Sends flight set) = IsSent t set
Says o t (Known a) = IsGiven o t a

pub record Lives (s : Kept) (o : Origin) (q : Request) (a : After Arrived) : Type 0 where
  pub lived : Lived s o q a.service
  pub says : Says o a.service a.answer

-- ---- flights

pub flown_same : (s : Kept) (o : Origin) (q : Request) → All (IsFlownFrom s o q) s.flights
flown_same s o q = All-weaker (Contains s.flights) (IsFlownFrom s o q) (λ g h. inl h) s.flights (All-contains_itself s.flights)

all_put_flight : (P : Flight → Type 0) (f : Flight) (fs : List Flight) → P f → All P fs → All P (put_flight f fs)
all_put_flight P f [] p h = All-cons P f [] p h
all_put_flight P f (g ∷ gs) p h =
    cond_both (nat_lt f.id g.id) (f ∷ g ∷ gs) (g ∷ put_flight f gs) (All P)
    (λ _. All-cons P f (g ∷ gs) p h)
    (λ _. All-cons P g (put_flight f gs) (All-head P g gs h) (all_put_flight P f gs p (All-tail P g gs h)))

pub without_all : (P : Flight → Type 0) (id : ℕ) (fs : List Flight) → All P fs → All P (without_flight id fs)
without_all P id fs h = All-filter (λ f. not (has_flight id f)) P fs h

pub with_all : (P : Flight → Type 0) (f : Flight) (fs : List Flight) → P f → All P fs → All P (with_flight f fs)
with_all P f fs p h = all_put_flight P f (without_flight f.id fs) p (without_all P f.id fs h)

-- ---- rows on own calls

naming_of : (o : Origin) (q : Request) (row : Row) → IsNaming row → IsOfRequest o q row
naming_of o q (Sent s) h = h
naming_of o q row h = absurd h

names_of : (o : Origin) (q : Request) (rows : List Row) → Each IsNaming rows → Each (IsOfRequest o q) rows
names_of o q rows h = each_weaker IsNaming (IsOfRequest o q) (naming_of o q) rows h

pub deleted_names : (rs : List Register) (ns : List ℕ) (cs : List CallMade) → Each IsNaming (all_deleted rs ns cs)
deleted_names rs [] cs = tt
deleted_names rs (n ∷ ns) [] = tt
deleted_names rs (n ∷ ns) (c ∷ cs) = (tt, deleted_names rs ns cs)

deletion_names : (s : Kept) (n : Option ℕ) (c : Option CallMade) → Each IsNaming (deletion s n c)
deletion_names s (Some n) (Some c) = (tt, tt)
deletion_names s (Some n) None = tt
deletion_names s None c = tt

-- what follows such rows, of a flight of the same request
lives_then : (s t : Kept) (o : Origin) (q : Request) (rows : List Row) (a : After Arrived) → t.journal ≡ s.journal ++ rows → t.setting ≡ s.setting → t.flights ≡ s.flights
    → Each IsNaming rows → Lives t o q a → Lives s o q a
lives_then s t o q rows a journal setting flights names l =
    let more = l.lived.grows.rows in
    let F : List Flight → Type 0 = λ fs. All (λ g. Contains fs g ⊎ ((g.origin ≡ o) × (g.request ≡ q))) (a.service).flights in
    record {
      lived = record {
        grows = record {
          rows = rows ++ more;
          is = l.lived.grows.is ∙ ap (λ j. j ++ more) journal ∙ append_assoc s.journal rows more;
          setting = l.lived.grows.setting ∙ setting;
        };
        rows = each_append (IsOfRequest o q) rows more (names_of o q rows names) l.lived.rows;
        flights = subst F flights l.lived.flights;
      };
      says = l.says;
    }

-- ---- the commit

took_of : (o : Origin) (q : Request) → Each (IsOfRequest o q) (took_rows o q)
took_of Outside q = tt
took_of (Call c n) q = ((refl, refl, refl), tt)

answered_last : (s : Kept) (f : Flight) (t : Trace) → Contains (s.journal ++ (before_answer s f t ++ live_answer s f t ∷ [])) (live_answer s f t)
answered_last s f t =
    Contains-append_right s.journal (before_answer s f t ++ live_answer s f t ∷ []) (live_answer s f t) (Contains-push (before_answer s f t) (live_answer s f t))

-- a flight of this origin
abbrev of_origin : Flight → Origin → Flight
of_origin f o = record f { origin = o }

commit_says : (s : Kept) (f : Flight) (t : Trace) (o : Origin)
    → GoesBack o (committed s (of_origin f o) t).service (answer_to_caller s o (committed_entry s (of_origin f o) t))
commit_says s f t Outside = tt
commit_says s f t (Call c n) = record { from = refl; callee = refl; given = (_, true, answered_last s (of_origin f (Call c n)) t) }

committed_lives : (s : Kept) (f : Flight) (t : Trace) → Lives s f.origin f.request (committed s f t)
committed_lives s f t =
    let o = f.origin in
    let q = f.request in
    let surplus = surplus_rows s f t in
    let before = before_answer s f t in
    let deleted = names_of o q surplus (deleted_names s.registers (drop (length t.calls) f.numbers) (drop (length t.calls) f.calls)) in
    record {
      lived = record {
        grows = record { rows = before ++ live_answer s f t ∷ []; is = refl; setting = refl };
        rows = each_append (IsOfRequest o q) before (live_answer s f t ∷ [])
            (each_append (IsOfRequest o q) surplus (Asked _ ∷ took_rows o q) deleted (tt, took_of o q)) (refl, tt);
        flights = without_all (IsFlownFrom s o q) f.id s.flights (flown_same s o q);
      };
      says = commit_says s f t f.origin;
    }

-- ---- a call is sent

-- rows that end with a call that is named, and the flight that waits for it
waits_lives : (s : Kept) (f g : Flight) (rows : List Row) (n : ℕ) (c : CallMade) → g.origin ≡ f.origin → g.request ≡ f.request → Each IsNaming rows
    → Contains rows (named n c) → Lives s f.origin f.request (waits (noted rows s) g n c)
waits_lives s f g rows n c origin request names has = record {
  lived = record {
    grows = record { rows = rows; is = refl; setting = refl };
    rows = names_of f.origin f.request rows names;
    flights = with_all (IsFlownFrom s f.origin f.request) g s.flights (inr (origin, request)) (flown_same s f.origin f.request);
  };
  says = record { caller = refl; first = refl; asks = refl; sent = Contains-append_right s.journal rows (named n c) has };
}

change_last : (s : Kept) (f : Flight) (slot : ℕ) (c : CallMade) → Contains (change_rows s f slot c) (named (next_number s.registers) c)
change_last s f slot c = Contains-push (deletion s (slice_get f.numbers slot) (slice_get f.calls slot)) (named (next_number s.registers) c)

change_names : (s : Kept) (f : Flight) (slot : ℕ) (c : CallMade) → Each IsNaming (change_rows s f slot c)
change_names s f slot c =
    each_append IsNaming (deletion s (slice_get f.numbers slot) (slice_get f.calls slot)) (named (next_number s.registers) c ∷ [])
    (deletion_names s (slice_get f.numbers slot) (slice_get f.calls slot)) (refl, tt)

-- ---- a flight goes on

completing_lives : (s : Kept) (f : Flight) (ran : Ran) (move : Move) (again : Kept → Flight → After Arrived)
    → ((t : Kept) (g : Flight) → Lives t g.origin g.request (again t g)) → Lives s f.origin f.request (completing s f ran move again)
completing_lives s f ran Commit again next = committed_lives s f (trace_or_dead ran)
completing_lives s f ran Name again next =
    call_keeps (Lives s f.origin f.request) (wanted_of ran) (λ c. again (named_unsent s c) (with_slot (next_number s.registers) c f)) (committed s f (trace_or_dead ran))
    (λ c. lives_then s (named_unsent s c) f.origin f.request (named (next_number s.registers) c ∷ []) (again (named_unsent s c) (with_slot (next_number s.registers) c f)) refl refl refl (refl, tt)
    (next (named_unsent s c) (with_slot (next_number s.registers) c f)))
    (committed_lives s f (trace_or_dead ran))
completing_lives s f ran (Change slot) again next =
    call_keeps (Lives s f.origin f.request) (slice_get (calls_in ran) slot) (λ c. again (changed_unsent s f slot c) (with_change slot (next_number s.registers) c f))
    (committed s f (trace_or_dead ran))
    (λ c. lives_then s (changed_unsent s f slot c) f.origin f.request (change_rows s f slot c) (again (changed_unsent s f slot c) (with_change slot (next_number s.registers) c f)) refl refl refl
    (change_names s f slot c) (next (changed_unsent s f slot c) (with_change slot (next_number s.registers) c f)))
    (committed_lives s f (trace_or_dead ran))

completed_lives : (runs : ℕ) (s : Kept) (f : Flight) → Lives s f.origin f.request (completed runs s f)
completed_lives zero s f = committed_lives s f dead_trace
completed_lives (suc runs) s f =
    completing_lives s f (flight_run s f) (next_move f (flight_run s f)) (completed runs) (λ t g. completed_lives runs t g)

changed_lives : (s : Kept) (f : Flight) (slot : ℕ) (c : CallMade) → Lives s f.origin f.request (changed s f slot c)
changed_lives s f slot c =
    let g = with_change slot (next_number s.registers) c f in
    cond_both (nat_le 3 f.changes) (completed 17 (changed_unsent s f slot c) g) (waits (noted (change_rows s f slot c) s) g (next_number s.registers) c) (Lives s f.origin f.request)
    (λ _. lives_then s (changed_unsent s f slot c) f.origin f.request (change_rows s f slot c) (completed 17 (changed_unsent s f slot c) g) refl refl refl (change_names s f slot c)
    (completed_lives 17 (changed_unsent s f slot c) g))
    (λ _. waits_lives s f g (change_rows s f slot c) (next_number s.registers) c refl refl (change_names s f slot c) (change_last s f slot c))

moved_lives : (s : Kept) (f : Flight) (ran : Ran) (move : Move) → Lives s f.origin f.request (moved s f ran move)
moved_lives s f ran Commit = committed_lives s f (trace_or_dead ran)
moved_lives s f ran Name =
    call_keeps (Lives s f.origin f.request) (wanted_of ran)
    (λ c. waits (noted (named (next_number s.registers) c ∷ []) s) (with_slot (next_number s.registers) c f) (next_number s.registers) c) (committed s f (trace_or_dead ran))
    (λ c. waits_lives s f (with_slot (next_number s.registers) c f) (named (next_number s.registers) c ∷ []) (next_number s.registers) c refl refl (refl, tt) (Contains-push [] (named (next_number s.registers) c)))
    (committed_lives s f (trace_or_dead ran))
moved_lives s f ran (Change slot) =
    call_keeps (Lives s f.origin f.request) (slice_get (calls_in ran) slot) (λ c. changed s f slot c) (committed s f (trace_or_dead ran)) (λ c. changed_lives s f slot c)
    (committed_lives s f (trace_or_dead ran))

pub goes_on_lives : (s : Kept) (f : Flight) → Lives s f.origin f.request (goes_on s f)
unfolding goes_on
goes_on_lives s f = moved_lives s f (flight_run s f) (next_move f (flight_run s f))
