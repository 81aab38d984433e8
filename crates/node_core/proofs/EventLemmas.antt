-- What holds of each event that a service makes for a worker.
use Rattle.std.proofs.Common.{◌≡◌, ◌+◌, ◌≤◌, ℕ, Bool, true, false, List, Option, Some, None, IfSome, IsSomeAnd, length, refl, sym, ap, ◌∙◌, arith}
use Rattle.lang_base.specs.Memory.{Unless}
use Rattle.service_events.specs.Commits.{is_live_row, live_rows}
use Rattle.service_events.specs.Event.{event, is_lacking, Happens, MayHappen}
use Rattle.service_events.specs.State.{Kept, After, after, me}
use Rattle.service_events.specs.declared.event.Done.{Done}
use Rattle.service_events.specs.declared.event.Done.TheVariants as done
use Rattle.service_events.specs.declared.event.Event.{Event}
use Rattle.service_events.specs.declared.event.Event.TheVariants as events
use Rattle.service_core.proofs.HandedOn.{event_answers_none, RunsNoRequest}
use Rattle.service_core.proofs.GrowthLaws.{grown}
use Rattle.service_core.specs.Answers.{Answers}
use Rattle.node_core.proofs.OrderLemmas.{counts_orders}
use Rattle.node_core.proofs.SinceLemmas.{since_grown}
use Rattle.node_core.proofs.CommitLemmas.{answered, answered_open, counted, counted_open, counts, counts_open, flies, gets, gets_open}
use Rattle.node_core.specs.Closings.{live_since, told_since}
use Rattle.node_core.specs.Doings.{commits, FindsFlight, HasReceipts, IsDone, IsOpen, IsThere, MayAsk, MayCommit}
use Rattle.node_core.specs.Memos.{committed_by, count_of, memo_of, noted_by, IsGivenReceipt, IsIn}
use Rattle.node_core.specs.Notes.{made_after, noted, noted_at, one_more, turn_of, unturned}
use Rattle.node_core.specs.Orders.{is_order_row, order_written, with_note}
use Rattle.node_core.specs.declared.memos.Memo.{Memo}
use Rattle.node_core.specs.declared.notes.Begun.{Begun}
use Rattle.node_core.specs.declared.notes.Notes.{Notes}
use Rattle.node_core.specs.declared.notes.Turn.{Turn}
use Rattle.node_core.specs.declared.notes.Turn.TheVariants as turns
use Rattle.node_core.specs.declared.orders.OrderNote.{OrderNote}
use Rattle.node_core.specs.declared.receipt.Receipt.{Receipt}
use Rattle.node_core.specs.declared.receipts.Committed.{Committed}

-- ---- before it

pub may_happen : (s : Kept) (begun : Option Begun) (e : Event) → MayAsk s begun e → MayHappen s e
may_happen s begun (events.CallFailed flight number why) may = may.1
may_happen s begun (events.WritePost name) may = may
may_happen s begun e may = tt

opened : (begun : Option Begun) (flight number : ℕ) → IsSomeAnd begun (λ (b : Begun). (b.flight ≡ flight) × (b.number ≡ number)) → IsOpen flight begun
opened None flight number h = absurd h
opened (Some b) flight number h = h.0

-- ---- where the flight isn't there

lost : (s : Kept) (begun : Option Begun) (flight : ℕ) → IsOpen flight begun → ¬ IsSomeAnd begun (IsThere s) → IsSomeAnd begun (λ (b : Begun). ¬ IsThere s b)
lost s None flight at none = absurd at
lost s (Some b) flight at none = none

pub gone_done : (s : Kept) (begun : Option Begun) (e : Event) → MayAsk s begun e → ¬ FindsFlight s begun e → IsDone s begun e done.Gone s
gone_done s begun (events.CallAnswered flight a) may none = (lost s begun flight may none, refl)
gone_done s begun (events.CallFailed flight number why) may none = (lost s begun flight (opened begun flight number may.0) none, refl)
gone_done s begun (events.Abandon flight) may none = (lost s begun flight may none, refl)
gone_done s begun e may none = absurd (none tt)

pub gone_noted : (s : Kept) (before : Notes) (e : Event) → ¬ FindsFlight s before.begun e
    → record before { begun = None; turn = Some turns.Gone } ≡ noted_at s s before e done.Gone
gone_noted s before (events.CallAnswered flight a) none = refl
gone_noted s before (events.CallFailed flight number why) none = refl
gone_noted s before (events.Abandon flight) none = refl
gone_noted s before e none = absurd (none tt)

-- no order was written
pub gone_counts : (s : Kept) (begun : Option Begun) (e : Event) (amount : ℕ) → ¬ FindsFlight s begun e
    → amount ≡ amount + (commits done.Gone + count_of (order_written s s e))
gone_counts s begun (events.CallAnswered flight a) amount none = omega arith
gone_counts s begun (events.CallFailed flight number why) amount none = omega arith
gone_counts s begun (events.Abandon flight) amount none = omega arith
gone_counts s begun e amount none = absurd (none tt)

pub gone_receipts : (s : Kept) (secret : List ℕ) (begun : Option Begun) (e : Event) (had : List Receipt) → HasReceipts s secret begun e done.Gone had had
gone_receipts s secret begun (events.Arrive o q i) had = refl
gone_receipts s secret begun e had = refl

-- ---- what it leaves of the journal

-- as many live answers as before, where no live request runs by it
silent : (s t : Kept) (e : Event) (d : Done) → RunsNoRequest e → Happens e s d t → live_rows t.journal ≡ live_rows s.journal
silent s t e d runs happens = by (is_lacking d) happens
  where
    by : (lacking : Bool) → Unless lacking (after t d ≡ event s e) (t ≡ s) → live_rows t.journal ≡ live_rows s.journal
    by true same = ap (λ (k : Kept). live_rows k.journal) same
    by false is = ap (λ (a : After Done). live_rows a.service.journal) is ∙ event_answers_none s e runs

-- ---- what it was answered

module _ (s t : Kept) (begun : Option Begun) where
  pub done_so : (e : Event) (d : Done) → FindsFlight s begun e → Answers s e d t → IsDone s begun e d t
  done_so (events.CallAnswered flight a) (done.CallAnswered r) there h = (there, h)
  done_so (events.CallAnswered flight a) d there h = absurd h
  done_so (events.CallFailed flight number why) (done.CallFailed r) there h = (there, h)
  done_so (events.CallFailed flight number why) d there h = absurd h
  done_so (events.Abandon flight) (done.Abandon found) there h = (there, h)
  done_so (events.Abandon flight) d there h = absurd h
  done_so e d there h = h

  -- as many live answers more as were committed
  pub counts_by : (e : Event) (d : Done) → MayAsk s begun e → FindsFlight s begun e → Happens e s d t → Answers s e d t
      → length (live_rows t.journal) ≡ length (live_rows s.journal) + count_of (committed_by begun (memo_of e) d)
  counts_by (events.Arrive o q i) (done.Arrive r) may there happens h = counts o q i s t r (s.newest, h.1)
  counts_by (events.Arrive o q i) d may there happens h = absurd h
  counts_by (events.CallAnswered flight a) (done.CallAnswered r) may there happens h = counts_open begun s t r (flies flight begun s t r may there h.1)
  counts_by (events.CallAnswered flight a) d may there happens h = absurd h
  counts_by (events.CallFailed flight number why) (done.CallFailed r) may there happens h =
      counts_open begun s t r (flies flight begun s t r (opened begun flight number may.0) there h.1)
  counts_by (events.CallFailed flight number why) d may there happens h = absurd h
  counts_by e d may there happens h = omega (arith, ap length (silent s t e d tt happens))

  -- from each index within the journal on
  since_by : (first : ℕ) (e : Event) (d : Done) → first ≤ length s.journal → MayAsk s begun e → FindsFlight s begun e → Happens e s d t → Answers s e d t
      → live_since first t ≡ live_since first s + count_of (committed_by begun (memo_of e) d)
  since_by first e d within may there happens h =
      since_grown is_live_row first (count_of (committed_by begun (memo_of e) d)) s t within (grown s t e d happens) (counts_by e d may there happens h)

  -- with as many orders more as were written
  pub told_by : (first : ℕ) (e : Event) (d : Done) → first ≤ length s.journal → MayAsk s begun e → FindsFlight s begun e → Happens e s d t → Answers s e d t
      → told_since first t ≡ told_since first s + (count_of (committed_by begun (memo_of e) d) + count_of (order_written s t e))
  told_by first e d within may there happens h =
      let lives = since_by first e d within may there happens h in
      let orders = since_grown is_order_row first (count_of (order_written s t e)) s t within (grown s t e d happens) (counts_orders s t e d happens h) in
      omega (arith, lives, orders)

  pub counted_by : (e : Event) (d : Done) → FindsFlight s begun e → Answers s e d t → count_of (committed_by begun (memo_of e) d) ≡ commits d
  counted_by (events.Arrive o q i) (done.Arrive r) there h = counted q i r
  counted_by (events.CallAnswered flight a) (done.CallAnswered r) there h = counted_open begun (IsThere s) r there
  counted_by (events.CallFailed flight number why) (done.CallFailed r) there h = counted_open begun (IsThere s) r there
  counted_by (events.Abandon flight) (done.Abandon found) there h = refl
  counted_by (events.Take set i) (done.Take r) there h = refl
  counted_by (events.TakeToken x) (done.TakeToken r) there h = refl
  counted_by (events.Give f) (done.Give r) there h = refl
  counted_by (events.NextPost dest) (done.NextPost name) there h = refl
  counted_by (events.WritePost name) (done.WritePost r) there h = refl
  counted_by (events.Posted p reply) (done.Posted r) there h = refl
  counted_by events.Step (done.Step r) there h = refl
  counted_by (events.Order command token who i) (done.Order r) there h = refl
  counted_by e d there h = absurd h

  -- behind a commit the answer stands there
  pub answered_by : (e : Event) (d : Done) → MayAsk s begun e → FindsFlight s begun e → Answers s e d t → IfSome (committed_by begun (memo_of e) d) (IsIn t.journal)
  answered_by (events.Arrive o q i) (done.Arrive r) may there h = answered o q i s t r (s.newest, h.1)
  answered_by (events.Arrive o q i) d may there h = absurd h
  answered_by (events.CallAnswered flight a) (done.CallAnswered r) may there h = answered_open begun s t r (flies flight begun s t r may there h.1)
  answered_by (events.CallAnswered flight a) d may there h = absurd h
  answered_by (events.CallFailed flight number why) (done.CallFailed r) may there h =
      answered_open begun s t r (flies flight begun s t r (opened begun flight number may.0) there h.1)
  answered_by (events.CallFailed flight number why) d may there h = absurd h
  answered_by e d may there h = tt

  -- the receipt that was given is the one that is due
  pub gets_by : (e : Event) (d : Done) (secret : List ℕ) (had have : List Receipt) → MayAsk s begun e → FindsFlight s begun e → Answers s e d t
      → IsGivenReceipt t secret (committed_by begun (memo_of e) d) had have → HasReceipts t secret begun e d had have
  gets_by (events.Arrive o q i) (done.Arrive r) secret had have may there h given = gets o q i s t secret r had have (s.newest, h.1) given
  gets_by (events.CallAnswered flight a) (done.CallAnswered r) secret had have may there h given =
      gets_open begun s t secret r had have (flies flight begun s t r may there h.1) given
  gets_by (events.CallFailed flight number why) (done.CallFailed r) secret had have may there h given =
      gets_open begun s t secret r had have (flies flight begun s t r (opened begun flight number may.0) there h.1) given
  gets_by (events.Abandon flight) (done.Abandon found) secret had have may there h given = given
  gets_by (events.Take set i) (done.Take r) secret had have may there h given = given
  gets_by (events.TakeToken x) (done.TakeToken r) secret had have may there h given = given
  gets_by (events.Give f) (done.Give r) secret had have may there h given = given
  gets_by (events.NextPost dest) (done.NextPost name) secret had have may there h given = given
  gets_by (events.WritePost name) (done.WritePost r) secret had have may there h given = given
  gets_by (events.Posted p reply) (done.Posted r) secret had have may there h given = given
  gets_by events.Step (done.Step r) secret had have may there h given = given
  gets_by (events.Order command token who i) (done.Order r) secret had have may there h given = given
  gets_by e d secret had have may there h given = absurd h

-- what is noted by what is kept of the event is what is noted of it
pub noted_so : (s t : Kept) (me : List ℕ) (before : Notes) (e : Event) (d : Done) → Answers s e d t → noted_by me before (memo_of e) d ≡ unturned me before e d
noted_so s t me before (events.Arrive o q i) (done.Arrive r) h = refl
noted_so s t me before (events.CallAnswered flight a) (done.CallAnswered r) h = refl
noted_so s t me before (events.CallFailed flight number why) (done.CallFailed r) h = refl
noted_so s t me before (events.Abandon flight) (done.Abandon found) h = refl
noted_so s t me before (events.Take set i) (done.Take r) h = refl
noted_so s t me before (events.TakeToken x) (done.TakeToken r) h = refl
noted_so s t me before (events.Give f) (done.Give r) h = refl
noted_so s t me before (events.NextPost dest) (done.NextPost name) h = refl
noted_so s t me before (events.WritePost name) (done.WritePost r) h = refl
noted_so s t me before (events.Posted p reply) (done.Posted r) h = refl
noted_so s t me before events.Step (done.Step r) h = refl
noted_so s t me before (events.Order command token who i) (done.Order r) h = refl
noted_so s t me before e d h = absurd h

-- an event that a service made is counted
made_one : (s t : Kept) (n : ℕ) (e : Event) (d : Done) → Answers s e d t → made_after n d ≡ one_more n
made_one s t n (events.Arrive o q i) (done.Arrive r) h = refl
made_one s t n (events.CallAnswered flight a) (done.CallAnswered r) h = refl
made_one s t n (events.CallFailed flight number why) (done.CallFailed r) h = refl
made_one s t n (events.Abandon flight) (done.Abandon found) h = refl
made_one s t n (events.Take set i) (done.Take r) h = refl
made_one s t n (events.TakeToken x) (done.TakeToken r) h = refl
made_one s t n (events.Give f) (done.Give r) h = refl
made_one s t n (events.NextPost dest) (done.NextPost name) h = refl
made_one s t n (events.WritePost name) (done.WritePost r) h = refl
made_one s t n (events.Posted p reply) (done.Posted r) h = refl
made_one s t n events.Step (done.Step r) h = refl
made_one s t n (events.Order command token who i) (done.Order r) h = refl
made_one s t n e d h = absurd h

-- ---- by what was kept of it

-- what was handed out by that is what was committed
pub committed_so : (before ready : Notes) (memo : Memo) (e : Event) (d : Done) (o : Option Committed) → ready ≡ before → memo ≡ memo_of e
    → o ≡ committed_by ready.begun memo d → o ≡ committed_by before.begun (memo_of e) d
committed_so before ready memo e d o same is by =
    by ∙ ap (λ (n : Notes). committed_by n.begun memo d) same ∙ ap (λ (m : Memo). committed_by before.begun m d) is

-- and what was noted by that, and of how it was turned away, is all that is noted
pub notes_so : (s t : Kept) (name : List ℕ) (before ready left last : Notes) (memo : Memo) (e : Event) (d : Done) → Answers s e d t → name ≡ me t → ready ≡ before
    → memo ≡ memo_of e → left ≡ noted_by name ready memo d → last ≡ left
    → record last { turn = turn_of d; made = one_more last.made } ≡ noted (me t) before e d
notes_so s t name before ready left last memo e d h named same is by then =
    let of_it : noted_by name ready memo d ≡ noted_by (me t) before (memo_of e) d =
    ap (λ (n : List ℕ). noted_by n ready memo d) named ∙ ap (λ (n : Notes). noted_by (me t) n memo d) same ∙ ap (λ (m : Memo). noted_by (me t) before m d) is in
    let all : last ≡ unturned (me t) before e d = then ∙ by ∙ of_it ∙ noted_so s t (me t) before e d h in
    ap (λ (n : Notes). record n { turn = turn_of d; made = one_more n.made }) all
    ∙ ap (λ (m : ℕ). record (noted (me t) before e d) { made = m }) (sym (made_one s t before.made e d h))

-- with the order that was written
with_order : (n last final : Notes) (turn : Option Turn) (written o : Option OrderNote) → record last { turn = turn; made = one_more last.made } ≡ n
    → final ≡ record last { orders = with_note written last.orders } → written ≡ o
    → record final { turn = turn; made = one_more final.made } ≡ record n { orders = with_note o n.orders }
with_order n last final turn written o is then same =
    ap (λ (m : Notes). record m { turn = turn; made = one_more m.made }) then
    ∙ ap (λ (w : Option OrderNote). record last { turn = turn; made = one_more last.made; orders = with_note w last.orders }) same
    ∙ ap (λ (m : Notes). record m { orders = with_note o m.orders }) is

-- all that is noted
pub all_noted : (s t : Kept) (before last final : Notes) (e : Event) (d : Done) (written : Option OrderNote)
    → record last { turn = turn_of d; made = one_more last.made } ≡ noted (me t) before e d
    → final ≡ record last { orders = with_note written last.orders } → written ≡ order_written s t e
    → record final { turn = turn_of d; made = one_more final.made } ≡ noted_at s t before e d
all_noted s t before last final e d written is then same = with_order (noted (me t) before e d) last final (turn_of d) written (order_written s t e) is then same

pub orders_noted : (s t : Kept) (before now : Notes) (e : Event) (d : Done) → now ≡ noted_at s t before e d
    → now.orders ≡ with_note (order_written s t e) before.orders
orders_noted s t before now e d is = ap (λ (n : Notes). n.orders) is

-- ---- the room of a receipt

if_any : (o : Option Committed) (P : Type 0) → P → IfSome o (λ (c : Committed). P)
if_any None P p = tt
if_any (Some c) P p = p

-- there is some for what may be committed
pub has_room : (begun : Option Begun) (e : Event) (d : Done) (P : Type 0) → (MayCommit e → P) → IfSome (committed_by begun (memo_of e) d) (λ (c : Committed). P)
has_room begun (events.Arrive o q i) d P room = if_any (committed_by begun (memo_of (events.Arrive o q i)) d) P (room tt)
has_room begun (events.CallAnswered flight a) d P room = if_any (committed_by begun (memo_of (events.CallAnswered flight a)) d) P (room tt)
has_room begun (events.CallFailed flight number why) d P room = if_any (committed_by begun (memo_of (events.CallFailed flight number why)) d) P (room tt)
has_room begun e d P room = tt
