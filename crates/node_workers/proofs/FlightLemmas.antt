-- How a worker's events leave its open flight, its receipts and its counts.
use Rattle.std.proofs.Common.{◌≡◌, ◌⊎◌, ℕ, inl, inr, ◌+◌, ◌≤◌, ◌-◌, ◌^◌, Bool, List, Option, Some, None, Result, Ok, Err, IfOk, OnErr, IsSomeAnd, min, refl, sym, ap, ◌∙◌, subst, arith}
use Rattle.lang_base.specs.declared.memory.NoMemory.{NoMemory as LacksMemory}
use Rattle.lang_core.specs.declared.ids.Origin.{Origin}
use Rattle.lang_core.specs.declared.inputs.Inputs.{Inputs}
use Rattle.lang_core.specs.declared.request.Request.{Request}
use Rattle.repair_messages.specs.declared.messages.AnswerMessage.{AnswerMessage}
use Rattle.repair_messages.specs.declared.messages.SetMessage.{SetMessage}
use Rattle.call_registers.specs.declared.register.Why.{Why}
use Rattle.call_registers.specs.declared.register.Why.TheVariants as whys
use Rattle.service_events.specs.Arriving.{call_answered_event, call_failed_event}
use Rattle.service_events.specs.Commits.{live_answer_of}
use Rattle.service_events.specs.Doing.{Does, call_memory}
use Rattle.service_events.specs.Fits.{Fits}
use Rattle.service_events.specs.State.{After, Kept, me}
use Rattle.service_events.specs.declared.answers.Arrived.{Arrived}
use Rattle.service_events.specs.declared.answers.Arrived.TheVariants as arrived
use Rattle.service_events.specs.declared.event.Done.{Done as NodeDone}
use Rattle.service_events.specs.declared.event.Done.TheVariants as done
use Rattle.service_events.specs.declared.event.Event.{Event as NodeEvent}
use Rattle.service_events.specs.declared.event.Event.TheVariants as events
use Rattle.service_events.specs.declared.refusals.CallRefused.{CallRefused}
use Rattle.node_core.specs.Doings.{AsksMemory, GetsReceipt, GetsReceiptOf, HasReceipts, IsDone, IsOpen, MayAsk}
use Rattle.node_core.specs.Notes.{begun_after, goes_on_by, if_accepted, lost_after, lost_by, noted, refused_after, refused_by, waiting_for}
use Rattle.node_core.specs.declared.notes.Begun.{Begun}
use Rattle.node_core.specs.declared.notes.Notes.{Notes}
use Rattle.node_core.specs.declared.receipt.Receipt.{Receipt}
use Rattle.node_exchanges.specs.Calls.{AnswersOnly, FailsOnly, lost_in, refused_in}
use Rattle.node_workers.specs.Desks.{Endpoint}
use Rattle.node_workers.specs.Flying.{EndsSo, GivesUp, GoesOn, IfAccepted, IsGivenUp, IsTold, IsToldInVain, IsToldOnce, IsWaiting, IsWanting, NotesAtMost, SentBy, end_of_call, went_by, went_of}
use Rattle.node_workers.specs.Serving.{OneReceipt}
use Rattle.node_workers.specs.Turns.{IsUntouched, Made}
use Rattle.node_workers.specs.declared.flying.Went.{Went}
use Rattle.node_workers.specs.declared.flying.Went.TheVariants as went
use Rattle.node_workers.specs.declared.live.Ending.{Ending}
use Rattle.node_workers.specs.declared.live.Ending.TheVariants as ends
use Rattle.node_workers.proofs.SentLemmas.{answered_sent, failed_sent}

-- ---- what there is

pub map_some : {X : Type 0} (o : Option X) (P Q : X → Type 0) → ((x : X) → P x → Q x) → IsSomeAnd o P → IsSomeAnd o Q
map_some None P Q f h = absurd h
map_some (Some x) P Q f h = f x h

from_some : {X : Type 0} (o : Option X) (P : X → Type 0) (F : Type 0) → ((x : X) → P x → F) → IsSomeAnd o P → F
from_some None P F f h = absurd h
from_some (Some x) P F f h = f x h

-- ---- receipts

pub received : (E : Type 0) (t : Kept) (secret : List ℕ) (o : Origin) (q : Request) (i : Inputs) (index id : ℕ) (answer : Option AnswerMessage) (had have : List Receipt)
    → GetsReceipt {E = E} t secret o q i (Ok (arrived.Done index id answer)) had have → OneReceipt o q i index had have
received E t secret o q i index id answer had have one =
    record {
      receipt = one.receipt;
      last = one.last;
      of = record { answer = live_answer_of id o one.so.response; row = one.so.row; of = refl; asked = one.so.is.request; inputs = one.so.is.inputs; at = one.so.is.index };
    }

-- ---- a call came to its end

module _ (e : Endpoint) (b : Begun) (flight : ℕ) (before now : Notes) (had have : List Receipt) where
  abbrev Goes : Went → Type 0
  Goes way = GoesOn e b.origin b.request b.inputs flight now had have way

  -- by what the service answered
  went_on : (t : Kept) (secret : List ℕ) (result : Result Arrived CallRefused) → b.flight ≡ flight → now.begun ≡ goes_on_by (Some b) result
      → GetsReceipt t secret b.origin b.request b.inputs result had have → IfAccepted (SentBy e.me) result → Goes (went_by result)
  went_on t secret (Ok (arrived.Done index id answer)) of begun one sent =
      (begun, received CallRefused t secret b.origin b.request b.inputs index id answer had have one)
  went_on t secret (Ok (arrived.Call next set)) of begun same sent =
      (record { waiting = waiting_for next set b; is = begun; flight_so = refl; number = refl; dest = refl; of = refl; asked = refl; inputs = refl; from = sent }, same)
  went_on t secret (Ok (arrived.Known a)) of begun same sent = absurd sent
  went_on t secret (Err why) of begun same sent = (subst (IsOpen flight) (sym begun) of, same)

-- what holds of an event's answer holds of what a service answered
pub accepted_by : {E : Type 0} (is_memory : E → Bool) (P : Arrived → Type 0) (event : After (Result Arrived E)) (s t : Kept) (result : Result Arrived E)
    → Does is_memory event s result t → IfAccepted P event.answer → IfAccepted P result
accepted_by {E} is_memory P event s t (Ok a) does so = subst (IfAccepted P) (ap (λ (x : After (Result Arrived E)). x.answer) (sym does)) so
accepted_by {E} is_memory P event s t (Err why) does so = tt

module _ (e : Endpoint) (b : Begun) (flight number : ℕ) (before now : Notes) (had have : List Receipt) (at : before.begun ≡ Some b) (of : b.flight ≡ flight) where
  abbrev Leads : Result NodeDone LacksMemory → Type 0
  Leads answer = GoesOn e b.origin b.request b.inputs flight now had have (went_of answer)

  abbrev MadeSo : Result AnswerMessage Why → NodeDone → Type 0
  MadeSo came answer = Made e.me before now had have (end_of_call flight number came) answer

  receipts_of : (t : Kept) (secret : List ℕ) (result : Result Arrived CallRefused) → GetsReceiptOf t secret before.begun result had have
      → GetsReceipt t secret b.origin b.request b.inputs result had have
  receipts_of t secret result all =
      subst (λ (o : Option Begun). IsSomeAnd o (λ (x : Begun). GetsReceipt t secret x.origin x.request x.inputs result had have)) at all

  answered_leads : (a : AnswerMessage) (answer : NodeDone) → MadeSo (Ok a) answer → Leads (Ok answer)
  answered_leads a (done.CallAnswered result) m =
      went_on e b flight before now had have m.left m.secret result of (ap (λ (n : Notes). n.begun) m.notes ∙ ap (λ (o : Option Begun). goes_on_by o result) at)
      (receipts_of m.left m.secret result m.receipts)
      (subst (λ (name : List ℕ). IfAccepted (SentBy name) result) m.is
      (accepted_by call_memory (SentBy (me m.service)) (call_answered_event m.service flight a) m.service m.left result m.made.1.0 (answered_sent m.service flight a)))
  answered_leads a done.Gone m = (ap (λ (n : Notes). n.begun) m.notes, ap (λ (n : Notes). n.turn) m.notes, m.receipts)
  answered_leads a (done.Arrive result) m = absurd m.made.1
  answered_leads a (done.CallFailed result) m = absurd m.made.1
  answered_leads a (done.Abandon found) m = absurd m.made.1
  answered_leads a (done.Take result) m = absurd m.made.1
  answered_leads a (done.TakeToken result) m = absurd m.made.1
  answered_leads a (done.Give result) m = absurd m.made.1
  answered_leads a (done.NextPost name) m = absurd m.made.1
  answered_leads a (done.WritePost result) m = absurd m.made.1
  answered_leads a (done.Posted result) m = absurd m.made.1
  answered_leads a (done.Step result) m = absurd m.made.1
  answered_leads a (done.Order result) m = absurd m.made.1

  failed_leads : (why : Why) (answer : NodeDone) → MadeSo (Err why) answer → Leads (Ok answer)
  failed_leads why (done.CallFailed result) m =
      went_on e b flight before now had have m.left m.secret result of (ap (λ (n : Notes). n.begun) m.notes ∙ ap (λ (o : Option Begun). goes_on_by o result) at)
      (receipts_of m.left m.secret result m.receipts)
      (subst (λ (name : List ℕ). IfAccepted (SentBy name) result) m.is
      (accepted_by call_memory (SentBy (me m.service)) (call_failed_event m.service flight number why) m.service m.left result m.made.1.0 (failed_sent m.service flight number why)))
  failed_leads why done.Gone m = (ap (λ (n : Notes). n.begun) m.notes, ap (λ (n : Notes). n.turn) m.notes, m.receipts)
  failed_leads why (done.Arrive result) m = absurd m.made.1
  failed_leads why (done.CallAnswered result) m = absurd m.made.1
  failed_leads why (done.Abandon found) m = absurd m.made.1
  failed_leads why (done.Take result) m = absurd m.made.1
  failed_leads why (done.TakeToken result) m = absurd m.made.1
  failed_leads why (done.Give result) m = absurd m.made.1
  failed_leads why (done.NextPost name) m = absurd m.made.1
  failed_leads why (done.WritePost result) m = absurd m.made.1
  failed_leads why (done.Posted result) m = absurd m.made.1
  failed_leads why (done.Step result) m = absurd m.made.1
  failed_leads why (done.Order result) m = absurd m.made.1

  -- how the flight goes on once the service was told what came of its call
  pub told_leads : (came : Result AnswerMessage Why) (answer : Result NodeDone LacksMemory) → IfOk answer (MadeSo came) → OnErr answer ((now ≡ before) × (have ≡ had)) → Leads answer
  told_leads (Ok a) (Ok answer) m same = answered_leads a answer m
  told_leads (Err why) (Ok answer) m same = failed_leads why answer m
  told_leads came (Err why) m same =
      (subst (λ (n : Notes). IsOpen flight n.begun) (sym same.0) (subst (IsOpen flight) (sym at) of), same.1)

-- ---- what a service is told

abbrev IsOf : ℕ → ℕ → Begun → Type 0
IsOf flight number b = (b.flight ≡ flight) × (b.number ≡ number)

may_end : (s : Kept) (begun : Option Begun) (flight number : ℕ) (came : Result AnswerMessage Why) → IsSomeAnd begun (IsOf flight number) → FailsOnly came
    → MayAsk s begun (end_of_call flight number came)
may_end s begun flight number (Ok a) here fails = map_some begun (IsOf flight number) (λ (b : Begun). b.flight ≡ flight) (λ b h. h.0) here
may_end s begun flight number (Err (whys.Lost note)) here fails = (here, tt)
may_end s begun flight number (Err (whys.Refused word n)) here fails = (here, tt)
may_end s begun flight number (Err whys.Changes) here fails = absurd fails

-- what came of the open flight's call may be told
pub may_tell : (s : Kept) (begun : Option Begun) (flight number : ℕ) (came : Result AnswerMessage Why) (asked : NodeEvent) → asked ≡ end_of_call flight number came
    → IsSomeAnd begun (λ (b : Begun). (b.flight ≡ flight) × (b.number ≡ number)) → FailsOnly came → MayAsk s begun asked
may_tell s begun flight number came asked is here fails = subst (MayAsk s begun) (sym is) (may_end s begun flight number came here fails)

module _ (e : Endpoint) (flight number : ℕ) (before now : Notes) (had have : List Receipt) (came : Result AnswerMessage Why) (answer : Result NodeDone LacksMemory) (way : Went)
    (is : way ≡ went_of answer) (m : IfOk answer (Made e.me before now had have (end_of_call flight number came))) (same : OnErr answer ((now ≡ before) × (have ≡ had))) where
  goes_by : (o : Option Begun) → before.begun ≡ o → IsSomeAnd o (IsOf flight number)
      → IsSomeAnd o (λ (b : Begun). GoesOn e b.origin b.request b.inputs flight now had have way)
  goes_by None at here = absurd here
  goes_by (Some b) at here =
      subst (GoesOn e b.origin b.request b.inputs flight now had have) (sym is) (told_leads e b flight number before now had have at here.0 came answer m same)

  -- how the open flight goes on
  goes_so : IsSomeAnd before.begun (λ (b : Begun). (b.flight ≡ flight) × (b.number ≡ number))
      → IsSomeAnd before.begun (λ (b : Begun). GoesOn e b.origin b.request b.inputs flight now had have way)
  goes_so here = goes_by before.begun refl here

-- what was made of the event was made of what came
pub made_of : (name : List ℕ) (before now : Notes) (had have : List Receipt) (asked event : NodeEvent) (answer : Result NodeDone LacksMemory) → asked ≡ event
    → IfOk answer (Made name before now had have asked) → IfOk answer (Made name before now had have event)
made_of name before now had have asked event answer is m = subst (λ (a : NodeEvent). IfOk answer (Made name before now had have a)) is m

-- ---- what is counted

within : (n k : ℕ) → min (n + 1) k ≤ n + 1
within n k = omega arith

lost_most : (n : ℕ) (why : Why) (result : Result Arrived CallRefused) → if_accepted n (lost_by n why) result ≤ n + lost_in (Err why)
lost_most n (whys.Lost note) (Ok a) = within n (2 ^ 64 - 1)
lost_most n (whys.Refused word number) (Ok a) = omega arith
lost_most n whys.Changes (Ok a) = omega arith
lost_most n why (Err refused) = omega arith

refused_most : (n : ℕ) (why : Why) (result : Result Arrived CallRefused) → if_accepted n (refused_by n why) result ≤ n + refused_in (Err why)
refused_most n (whys.Lost note) (Ok a) = omega arith
refused_most n (whys.Refused word number) (Ok a) = within n (2 ^ 64 - 1)
refused_most n whys.Changes (Ok a) = omega arith
refused_most n why (Err refused) = omega arith

at_most : (before now : Notes) (lost refused : ℕ) → now.lost ≡ before.lost → now.refused ≡ before.refused → NotesAtMost before now lost refused
at_most before now lost refused l r = record { lost_at_most = omega (arith, l); refused_at_most = omega (arith, r) }

module _ (before now : Notes) (flight number : ℕ) where
  abbrev NotedAs : Result AnswerMessage Why → NodeDone → Type 0
  NotedAs came answer = (name : List ℕ) × (now ≡ noted name before (end_of_call flight number came) answer)

  kept_at : (came : Result AnswerMessage Why) (answer : NodeDone) → NotedAs came answer
      → lost_after before.lost (end_of_call flight number came) answer ≡ before.lost
      → refused_after before.refused (end_of_call flight number came) answer ≡ before.refused
      → NotesAtMost before now (lost_in came) (refused_in came)
  kept_at came answer how lost refused =
      at_most before now (lost_in came) (refused_in came) (ap (λ (n : Notes). n.lost) how.1 ∙ lost) (ap (λ (n : Notes). n.refused) how.1 ∙ refused)

  failed_most : (why : Why) (answer : NodeDone) → NotedAs (Err why) answer → NotesAtMost before now (lost_in (Err why)) (refused_in (Err why))
  failed_most why (done.CallFailed result) how =
      let lost : now.lost ≡ if_accepted before.lost (lost_by before.lost why) result = ap (λ (n : Notes). n.lost) how.1 in
      let refused : now.refused ≡ if_accepted before.refused (refused_by before.refused why) result = ap (λ (n : Notes). n.refused) how.1 in
      let l = lost_most before.lost why result in
      let r = refused_most before.refused why result in
      record { lost_at_most = omega (arith, lost, l); refused_at_most = omega (arith, refused, r) }
  failed_most why (done.CallAnswered result) how = kept_at (Err why) (done.CallAnswered result) how refl refl
  failed_most why (done.Arrive result) how = kept_at (Err why) (done.Arrive result) how refl refl
  failed_most why (done.Abandon found) how = kept_at (Err why) (done.Abandon found) how refl refl
  failed_most why (done.Take result) how = kept_at (Err why) (done.Take result) how refl refl
  failed_most why (done.TakeToken result) how = kept_at (Err why) (done.TakeToken result) how refl refl
  failed_most why (done.Give result) how = kept_at (Err why) (done.Give result) how refl refl
  failed_most why (done.NextPost name) how = kept_at (Err why) (done.NextPost name) how refl refl
  failed_most why (done.WritePost result) how = kept_at (Err why) (done.WritePost result) how refl refl
  failed_most why (done.Posted result) how = kept_at (Err why) (done.Posted result) how refl refl
  failed_most why (done.Step result) how = kept_at (Err why) (done.Step result) how refl refl
  failed_most why (done.Order result) how = kept_at (Err why) (done.Order result) how refl refl
  failed_most why done.Gone how = kept_at (Err why) done.Gone how refl refl

  -- no more is counted than came of the call
  told_most : (name : List ℕ) (had have : List Receipt) (came : Result AnswerMessage Why) (answer : Result NodeDone LacksMemory)
      → IfOk answer (Made name before now had have (end_of_call flight number came)) → OnErr answer ((now ≡ before) × (have ≡ had))
      → NotesAtMost before now (lost_in came) (refused_in came)
  told_most name had have (Ok a) (Ok answer) m same = kept_at (Ok a) answer (me m.left, m.notes) refl refl
  told_most name had have (Err why) (Ok answer) m same = failed_most why answer (me m.left, m.notes)
  told_most name had have came (Err why) m same =
      at_most before now (lost_in came) (refused_in came) (ap (λ (n : Notes). n.lost) same.0) (ap (λ (n : Notes). n.refused) same.0)

-- ---- in one event, or in two

-- the open flight, and what is counted
abbrev IsLeft : Notes → Notes → Type 0
IsLeft before now = (now.begun ≡ before.begun) × (now.lost ≡ before.lost) × (now.refused ≡ before.refused)

module _ (e : Endpoint) (flight number : ℕ) (before now : Notes) (had have : List Receipt) where
  abbrev MadeOf : Result AnswerMessage Why → NodeDone → Type 0
  MadeOf came answer = Made e.me before now had have (end_of_call flight number came) answer

  left_answered : (a : AnswerMessage) (answer : NodeDone) → MadeOf (Ok a) answer → went.NoMemory ≡ went_of (Ok answer) → IsLeft before now
  left_answered a (done.CallAnswered (Ok (arrived.Done index id sent))) m lacks = absurd (cc lacks)
  left_answered a (done.CallAnswered (Ok (arrived.Call next set))) m lacks = absurd (cc lacks)
  left_answered a (done.CallAnswered (Ok (arrived.Known known))) m lacks =
      (ap (λ (n : Notes). n.begun) m.notes, ap (λ (n : Notes). n.lost) m.notes, ap (λ (n : Notes). n.refused) m.notes)
  left_answered a (done.CallAnswered (Err why)) m lacks =
      (ap (λ (n : Notes). n.begun) m.notes, ap (λ (n : Notes). n.lost) m.notes, ap (λ (n : Notes). n.refused) m.notes)
  left_answered a done.Gone m lacks = absurd (cc lacks)
  left_answered a (done.Arrive result) m lacks = absurd m.made.1
  left_answered a (done.CallFailed result) m lacks = absurd m.made.1
  left_answered a (done.Abandon found) m lacks = absurd m.made.1
  left_answered a (done.Take result) m lacks = absurd m.made.1
  left_answered a (done.TakeToken result) m lacks = absurd m.made.1
  left_answered a (done.Give result) m lacks = absurd m.made.1
  left_answered a (done.NextPost name) m lacks = absurd m.made.1
  left_answered a (done.WritePost result) m lacks = absurd m.made.1
  left_answered a (done.Posted result) m lacks = absurd m.made.1
  left_answered a (done.Step result) m lacks = absurd m.made.1
  left_answered a (done.Order result) m lacks = absurd m.made.1

  left_failed : (why : Why) (answer : NodeDone) → MadeOf (Err why) answer → went.NoMemory ≡ went_of (Ok answer) → IsLeft before now
  left_failed why (done.CallFailed (Ok (arrived.Done index id sent))) m lacks = absurd (cc lacks)
  left_failed why (done.CallFailed (Ok (arrived.Call next set))) m lacks = absurd (cc lacks)
  left_failed why (done.CallFailed (Ok (arrived.Known known))) m lacks =
      absurd (accepted_by call_memory (SentBy (me m.service)) (call_failed_event m.service flight number why) m.service m.left (Ok (arrived.Known known)) m.made.1.0
      (failed_sent m.service flight number why))
  left_failed why (done.CallFailed (Err refused)) m lacks =
      (ap (λ (n : Notes). n.begun) m.notes, ap (λ (n : Notes). n.lost) m.notes, ap (λ (n : Notes). n.refused) m.notes)
  left_failed why done.Gone m lacks = absurd (cc lacks)
  left_failed why (done.Arrive result) m lacks = absurd m.made.1
  left_failed why (done.CallAnswered result) m lacks = absurd m.made.1
  left_failed why (done.Abandon found) m lacks = absurd m.made.1
  left_failed why (done.Take result) m lacks = absurd m.made.1
  left_failed why (done.TakeToken result) m lacks = absurd m.made.1
  left_failed why (done.Give result) m lacks = absurd m.made.1
  left_failed why (done.NextPost name) m lacks = absurd m.made.1
  left_failed why (done.WritePost result) m lacks = absurd m.made.1
  left_failed why (done.Posted result) m lacks = absurd m.made.1
  left_failed why (done.Step result) m lacks = absurd m.made.1
  left_failed why (done.Order result) m lacks = absurd m.made.1

  left_by : (came : Result AnswerMessage Why) (answer : Result NodeDone LacksMemory) → IfOk answer (MadeOf came) → OnErr answer ((now ≡ before) × (have ≡ had))
      → went.NoMemory ≡ went_of answer → IsLeft before now
  left_by (Ok a) (Ok answer) m same lacks = left_answered a answer m lacks
  left_by (Err why) (Ok answer) m same lacks = left_failed why answer m lacks
  left_by came (Err why) m same lacks = (ap (λ (n : Notes). n.begun) same.0, ap (λ (n : Notes). n.lost) same.0, ap (λ (n : Notes). n.refused) same.0)

wanting_way : (answer : NodeDone) → IsWanting answer → went.NoMemory ≡ went_of (Ok answer)
wanting_way (done.CallAnswered (Err why)) wants = refl
wanting_way (done.CallFailed (Err why)) wants = refl
wanting_way (done.CallAnswered (Ok result)) wants = absurd wants
wanting_way (done.CallFailed (Ok result)) wants = absurd wants
wanting_way (done.Arrive result) wants = absurd wants
wanting_way (done.Abandon found) wants = absurd wants
wanting_way (done.Take result) wants = absurd wants
wanting_way (done.TakeToken result) wants = absurd wants
wanting_way (done.Give result) wants = absurd wants
wanting_way (done.NextPost name) wants = absurd wants
wanting_way (done.WritePost result) wants = absurd wants
wanting_way (done.Posted result) wants = absurd wants
wanting_way (done.Step result) wants = absurd wants
wanting_way (done.Order result) wants = absurd wants
wanting_way done.Gone wants = absurd wants

-- likewise behind the first time that it was told, where memory was wanting
first_left : (e : Endpoint) (flight number : ℕ) (came : Result AnswerMessage Why) (before since : Notes) (had : List Receipt)
    → (since ≡ before) ⊎ IsToldInVain e flight number came before since had → IsLeft before since
first_left e flight number came before since had (inl same) =
    (ap (λ (n : Notes). n.begun) same, ap (λ (n : Notes). n.lost) same, ap (λ (n : Notes). n.refused) same)
first_left e flight number came before since had (inr once) =
    left_by e flight number before since had had came (Ok once.0) once.1 tt (wanting_way once.0 once.2)

-- told once, where memory was wanting, it was told in vain, or not at all
in_vain : (e : Endpoint) (flight number : ℕ) (came : Result AnswerMessage Why) (before since : Notes) (had : List Receipt) (answer : Result NodeDone LacksMemory)
    → IfOk answer (Made e.me before since had had (end_of_call flight number came)) → OnErr answer (IsUntouched before since had had)
    → IfOk answer IsWanting → (since ≡ before) ⊎ IsToldInVain e flight number came before since had
in_vain e flight number came before since had (Ok d) made nothing wants = inr (d, made, wants)
in_vain e flight number came before since had (Err why) made nothing wants = inl nothing.0

module _ (e : Endpoint) (flight number : ℕ) (before now : Notes) (had have : List Receipt) where
  abbrev Told : Result AnswerMessage Why → Went → Type 0
  Told came way = IsTold e flight number came before now had have way

  -- told once, it is told
  pub once_told : (came : Result AnswerMessage Why) (way : Went) → IsToldOnce e flight number came before now had have way → Told came way
  once_told came way once = record { since = before; first = inl refl; last = once }

  -- how the open flight goes on
  pub goes_told : (came : Result AnswerMessage Why) (way : Went) → Told came way → IsSomeAnd before.begun (λ (b : Begun). (b.flight ≡ flight) × (b.number ≡ number))
      → IsSomeAnd before.begun (λ (b : Begun). GoesOn e b.origin b.request b.inputs flight now had have way)
  goes_told came way told here =
      let left = first_left e flight number came before told.since had told.first in
      let last = told.last in
      subst (λ (o : Option Begun). IsSomeAnd o (λ (b : Begun). GoesOn e b.origin b.request b.inputs flight now had have way)) left.0
      (goes_so e flight number told.since now had have came last.answer way last.goes last.made last.nothing
      (subst (λ (o : Option Begun). IsSomeAnd o (IsOf flight number)) (sym left.0) here))

  -- no more is counted than came of the call
  pub most_told : (came : Result AnswerMessage Why) (way : Went) → Told came way → NotesAtMost before now (lost_in came) (refused_in came)
  most_told came way told =
      let last = told.last in
      let most = told_most told.since now flight number e.me had have came last.answer last.made last.nothing in
      let left = first_left e flight number came before told.since had told.first in
      let l = most.lost_at_most in
      let r = most.refused_at_most in
      let lost = left.1 in
      let refused = left.2 in
      record { lost_at_most = omega (arith, lost, l); refused_at_most = omega (arith, refused, r) }

module _ (e : Endpoint) (flight number : ℕ) (came : Result AnswerMessage Why) (before mid : Notes) (had held : List Receipt)
    (lacks : IsToldOnce e flight number came before mid had held went.NoMemory) (here : IsSomeAnd before.begun (λ (b : Begun). (b.flight ≡ flight) × (b.number ≡ number))) where
  left_so : IsLeft before mid
  left_so = left_by e flight number before mid had held came lacks.answer lacks.made lacks.nothing lacks.goes

  no_receipt : held ≡ had
  no_receipt =
      from_some before.begun (λ (b : Begun). GoesOn e b.origin b.request b.inputs flight mid had held went.NoMemory) (held ≡ had) (λ b goes. goes.1)
      (goes_told e flight number before mid had held came went.NoMemory (once_told e flight number before mid had held came went.NoMemory lacks) here)

  -- where memory was wanting, the flight waits for that call as before
  pub waits_again : IsSomeAnd mid.begun (λ (b : Begun). (b.flight ≡ flight) × (b.number ≡ number))
  waits_again = subst (λ (o : Option Begun). IsSomeAnd o (IsOf flight number)) (sym left_so.0) here

  pub answers_again : (copy : Result AnswerMessage Why) → copy ≡ came → IsSomeAnd before.begun (λ (b : Begun). AnswersOnly b.dest b.number came)
      → IsSomeAnd mid.begun (λ (b : Begun). AnswersOnly b.dest b.number copy)
  answers_again copy same answers =
      subst (λ (o : Option Begun). IsSomeAnd o (λ (b : Begun). AnswersOnly b.dest b.number copy)) (sym left_so.0)
      (subst (λ (c : Result AnswerMessage Why). IsSomeAnd before.begun (λ (b : Begun). AnswersOnly b.dest b.number c)) (sym same) answers)

  -- and then it is told again
  pub told_again : (copy : Result AnswerMessage Why) (now : Notes) (have : List Receipt) (way : Went) → copy ≡ came
      → IsToldOnce e flight number copy mid now held have way → IsTold e flight number came before now had have way
  told_again copy now have way same told =
      record {
        since = mid;
        first = (let once = subst (λ (h : List Receipt). IsToldOnce e flight number came before mid had h went.NoMemory) no_receipt lacks in
            in_vain e flight number came before mid had once.answer once.made once.nothing (once.wanting refl));
        last = subst (λ (h : List Receipt). IsToldOnce e flight number came mid now h have way) no_receipt
            (subst (λ (c : Result AnswerMessage Why). IsToldOnce e flight number c mid now held have way) same told);
      }

-- ---- a flight that is given up

module _ (s t : Kept) (secret : List ℕ) (flight : ℕ) (before now : Notes) (had have : List Receipt) where
  abbrev GivenUp : Type 0
  GivenUp = IsGivenUp before now × (have ≡ had)

  noted_so : (answer : NodeDone) → now ≡ noted (me t) before (events.Abandon flight) answer → begun_after (me t) before.begun (events.Abandon flight) answer ≡ None → have ≡ had
      → GivenUp
  noted_so answer notes closed same =
      (record { closed = ap (λ (n : Notes). n.begun) notes ∙ closed; lost = ap (λ (n : Notes). n.lost) notes; refused = ap (λ (n : Notes). n.refused) notes }, same)

  up_by : (answer : NodeDone) → IsDone s before.begun (events.Abandon flight) answer t → now ≡ noted (me t) before (events.Abandon flight) answer
      → HasReceipts t secret before.begun (events.Abandon flight) answer had have → GivenUp
  up_by (done.Arrive result) made notes same = absurd made.1
  up_by (done.CallAnswered result) made notes same = absurd made.1
  up_by (done.CallFailed result) made notes same = absurd made.1
  up_by (done.Abandon found) made notes same = noted_so (done.Abandon found) notes refl same
  up_by (done.Take result) made notes same = absurd made.1
  up_by (done.TakeToken result) made notes same = absurd made.1
  up_by (done.Give result) made notes same = absurd made.1
  up_by (done.NextPost next) made notes same = absurd made.1
  up_by (done.WritePost result) made notes same = absurd made.1
  up_by (done.Posted result) made notes same = absurd made.1
  up_by (done.Step result) made notes same = absurd made.1
  up_by (done.Order result) made notes same = absurd made.1
  up_by done.Gone made notes same = noted_so done.Gone notes refl same

  -- a flight that is given up is open no more, and takes no memory
  pub given_up : (answer : Result NodeDone LacksMemory) → IfOk answer (λ (d : NodeDone). IsDone s before.begun (events.Abandon flight) d t)
      → IfOk answer (λ (d : NodeDone). now ≡ noted (me t) before (events.Abandon flight) d)
      → IfOk answer (λ (d : NodeDone). HasReceipts t secret before.begun (events.Abandon flight) d had have)
      → OnErr answer (AsksMemory (events.Abandon flight)) → GivenUp
  given_up (Ok answer) made notes same memory = up_by answer made notes same
  given_up (Err why) made notes same memory = absurd memory

  -- it is so in one event
  pub given_up_by : (answer : Result NodeDone LacksMemory) → Fits s → IfOk answer (λ (d : NodeDone). IsDone s before.begun (events.Abandon flight) d t)
      → IfOk answer (λ (d : NodeDone). now ≡ noted (me t) before (events.Abandon flight) d)
      → IfOk answer (λ (d : NodeDone). HasReceipts t secret before.begun (events.Abandon flight) d had have)
      → OnErr answer (AsksMemory (events.Abandon flight)) → GivesUp flight before now had have
  given_up_by (Ok d) fits made notes receipts memory =
      (me s, d, record { service = s; left = t; secret = secret; is = refl; fits = fits; made = made; notes = notes; receipts = receipts })
  given_up_by (Err why) fits made notes receipts memory = absurd memory

-- ---- the open flight

-- what holds of the open flight's request holds of the request that it is of
pub at_open : (e : Endpoint) (o : Origin) (q : Request) (i : Inputs) (begun : Option Begun) (flight : ℕ) (set : SetMessage) (P : Origin → Request → Inputs → Type 0)
    → IsWaiting e o q i begun flight set → IsSomeAnd begun (λ (b : Begun). P b.origin b.request b.inputs) → P o q i
at_open e o q i begun flight set P w h =
    let here : P (w.waiting).origin (w.waiting).request (w.waiting).inputs =
    subst (λ (x : Option Begun). IsSomeAnd x (λ (b : Begun). P b.origin b.request b.inputs)) w.is h in
    let of : P o (w.waiting).request (w.waiting).inputs = subst (λ (x : Origin). P x (w.waiting).request (w.waiting).inputs) w.of here in
    let asked : P o q (w.waiting).inputs = subst (λ (x : Request). P o x (w.waiting).inputs) w.asked of in
    subst (λ (x : Inputs). P o q x) w.inputs asked

-- it waits as its own request
pub waits_on : (e : Endpoint) (o : Origin) (q : Request) (i : Inputs) (begun : Option Begun) (flight : ℕ) (set : SetMessage) → IsWaiting e o q i begun flight set
    → IsSomeAnd begun (λ (b : Begun). IsWaiting e b.origin b.request b.inputs begun flight set)
waits_on e o q i begun flight set w =
    subst (λ (x : Option Begun). IsSomeAnd x (λ (b : Begun). IsWaiting e b.origin b.request b.inputs begun flight set)) (sym w.is)
    (record { waiting = w.waiting; is = w.is; flight_so = w.flight_so; number = w.number; dest = w.dest; of = refl; asked = refl; inputs = refl; from = w.from })

module _ (e : Endpoint) (flight : ℕ) (set : SetMessage) where
  -- the flight that was open first has gone on, and waits for this call
  abbrev pub Waits : Option Begun → Option Begun → Type 0
  Waits first begun = IsSomeAnd first (λ (b : Begun). IsWaiting e b.origin b.request b.inputs begun flight set)

  -- which call it waits for
  pub call_of : (first begun : Option Begun) → Waits first begun → IsSomeAnd begun (λ (b : Begun). (b.flight ≡ flight) × (b.number ≡ set.number))
  call_of first begun waits =
      from_some first (λ (b : Begun). IsWaiting e b.origin b.request b.inputs begun flight set)
      (IsSomeAnd begun (λ (b : Begun). (b.flight ≡ flight) × (b.number ≡ set.number)))
      (λ b w. subst (λ (x : Option Begun). IsSomeAnd x (λ (y : Begun). (y.flight ≡ flight) × (y.number ≡ set.number))) (sym w.is) (w.flight_so, w.number)) waits

  -- what comes of that call
  pub answers_of : (first begun : Option Begun) (came : Result AnswerMessage Why) → Waits first begun → AnswersOnly set.dest set.number came
      → IsSomeAnd begun (λ (b : Begun). AnswersOnly b.dest b.number came)
  answers_of first begun came waits answers =
      from_some first (λ (b : Begun). IsWaiting e b.origin b.request b.inputs begun flight set) (IsSomeAnd begun (λ (b : Begun). AnswersOnly b.dest b.number came))
      (λ b w. subst (λ (x : Option Begun). IsSomeAnd x (λ (y : Begun). AnswersOnly y.dest y.number came)) (sym w.is)
      (subst (λ (d : List ℕ). AnswersOnly d (w.waiting).number came) (sym w.dest) (subst (λ (n : ℕ). AnswersOnly set.dest n came) (sym w.number) answers))) waits

  -- whose call it is
  pub caller_of : (first begun : Option Begun) → Waits first begun → set.caller ≡ e.me
  caller_of first begun waits =
      from_some first (λ (b : Begun). IsWaiting e b.origin b.request b.inputs begun flight set) (set.caller ≡ e.me) (λ b w. w.from) waits

  -- it waits as its own request
  pub waits_now : (first begun : Option Begun) → Waits first begun → Waits begun begun
  waits_now first begun waits =
      from_some first (λ (b : Begun). IsWaiting e b.origin b.request b.inputs begun flight set) (Waits begun begun)
      (λ b w. waits_on e b.origin b.request b.inputs begun flight set w) waits

  -- a flight that wasn't told anything is open as before
  pub still_open : (now : Notes) (have : List Receipt) → Waits now.begun now.begun
      → IsSomeAnd now.begun (λ (b : Begun). GoesOn e b.origin b.request b.inputs flight now have have went.NoMemory)
  still_open now have waits =
      map_some now.begun (λ (b : Begun). IsWaiting e b.origin b.request b.inputs now.begun flight set)
      (λ (b : Begun). GoesOn e b.origin b.request b.inputs flight now have have went.NoMemory) (λ b w. (subst (IsOpen flight) (sym w.is) w.flight_so, refl)) waits

  -- likewise a flight that has gone on from its first call
  pub flown : (first begun : Option Begun) (now : Notes) (before had have : List Receipt) (way : Went) → had ≡ before → Waits first begun
      → IsSomeAnd begun (λ (b : Begun). GoesOn e b.origin b.request b.inputs flight now had have way)
      → IsSomeAnd first (λ (b : Begun). GoesOn e b.origin b.request b.inputs flight now before have way)
  flown first begun now before had have way same waits goes =
      map_some first (λ (b : Begun). IsWaiting e b.origin b.request b.inputs begun flight set) (λ (b : Begun). GoesOn e b.origin b.request b.inputs flight now before have way)
      (λ b w. at_open e b.origin b.request b.inputs begun flight set (λ o q i. GoesOn e o q i flight now before have way) w
      (subst (λ (h : List Receipt). IsSomeAnd begun (λ (b : Begun). GoesOn e b.origin b.request b.inputs flight now h have way)) same goes)) waits

-- ---- its end

module _ (e : Endpoint) (flight : ℕ) (first : Option Begun) (now : Notes) (had have : List Receipt) where
  -- it went on so
  abbrev pub Went_on : Went → Type 0
  Went_on way = IsSomeAnd first (λ (b : Begun). GoesOn e b.origin b.request b.inputs flight now had have way)

  -- it ended so
  abbrev pub Ended : Notes → List Receipt → Ending → Type 0
  Ended last all ending = IsSomeAnd first (λ (b : Begun). EndsSo e b.origin b.request b.inputs last had all ending)

  pub commit_ends : (index : ℕ) → Went_on (went.Committed index) → Ended now have (ends.Committed index) × (now.begun ≡ None)
  commit_ends index goes = (
    map_some first (λ (b : Begun). GoesOn e b.origin b.request b.inputs flight now had have (went.Committed index))
        (λ (b : Begun). EndsSo e b.origin b.request b.inputs now had have (ends.Committed index)) (λ b h. h.1) goes,
    from_some first (λ (b : Begun). GoesOn e b.origin b.request b.inputs flight now had have (went.Committed index)) (now.begun ≡ None) (λ b h. h.0) goes,
  )

  pub gone_ends : Went_on went.Gone → Ended now have ends.Gone × (now.begun ≡ None)
  gone_ends goes = (
    map_some first (λ (b : Begun). GoesOn e b.origin b.request b.inputs flight now had have went.Gone)
        (λ (b : Begun). EndsSo e b.origin b.request b.inputs now had have ends.Gone) (λ b h. (h.1, h.2)) goes,
    from_some first (λ (b : Begun). GoesOn e b.origin b.request b.inputs flight now had have went.Gone) (now.begun ≡ None) (λ b h. h.0) goes,
  )

  pub call_goes_on : (next : ℕ) (set : SetMessage) → Went_on (went.Call next set)
      → IsSomeAnd first (λ (b : Begun). IsWaiting e b.origin b.request b.inputs now.begun next set) × (have ≡ had)
  call_goes_on next set goes = (
    map_some first (λ (b : Begun). GoesOn e b.origin b.request b.inputs flight now had have (went.Call next set))
        (λ (b : Begun). IsWaiting e b.origin b.request b.inputs now.begun next set) (λ b h. h.0) goes,
    from_some first (λ (b : Begun). GoesOn e b.origin b.request b.inputs flight now had have (went.Call next set)) (have ≡ had) (λ b h. h.1) goes,
  )

  pub open_still : Went_on went.NoMemory → IsOpen flight now.begun
  open_still goes =
      from_some first (λ (b : Begun). GoesOn e b.origin b.request b.inputs flight now had have went.NoMemory) (IsOpen flight now.begun) (λ b h. h.0) goes

  pub memory_ends : (last : Notes) (all : List Receipt) → Went_on went.NoMemory → all ≡ have → Ended last all ends.NoMemory
  memory_ends last all goes same =
      map_some first (λ (b : Begun). GoesOn e b.origin b.request b.inputs flight now had have went.NoMemory)
      (λ (b : Begun). EndsSo e b.origin b.request b.inputs last had all ends.NoMemory) (λ b h. same ∙ h.1) goes
