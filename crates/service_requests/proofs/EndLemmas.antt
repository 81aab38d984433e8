-- Rows that are noted one after another, and what a commit leaves.
use Rattle.std.proofs.Common.{◌≡◌, ◌∙◌, sym, ap, refl, subst, Bool, true, false, not, cond, nat_le, ℕ, zero, suc, ◌+◌, ◌-◌, ◌≢◌, Option, Some, None, List, [], ◌∷◌, ◌++◌, length, IfSome, arith, append_assoc, length-append, add-zero}
use Rattle.lang_core.specs.declared.ids.Origin.{Origin}
use Rattle.lang_core.specs.declared.ids.Origin.TheVariants.{Outside, Call}
use Rattle.lang_core.specs.declared.trace.CallMade.{CallMade}
use Rattle.lang_core.specs.declared.trace.Trace.{Trace}
use Rattle.journal_rows.specs.declared.row.Row.{Row}
use Rattle.call_registers.specs.Replies.{IsAboveAll}
use Rattle.call_registers.specs.declared.register.Register.{Register}
use Rattle.flights.specs.Moves.{next_move}
use Rattle.flights.specs.declared.flight.Flight.{Flight}
use Rattle.service_events.specs.State.{Kept, After, next_id}
use Rattle.service_events.specs.Calls.{after_row, after_rows, noted}
use Rattle.service_events.specs.Flying.{before_answer, live_answer, committed_entry, committed, answer_index, live_replies, flight_run, live_call, call_or_none, completing, completed, changed, moved, goes_on}
use Rattle.service_events.specs.declared.answers.Arrived.{Arrived}
use Rattle.service_parts.specs.Drafts.{with_draft}
use Rattle.service_requests.specs.Endings.{ends, follows, new_call, slot_of, with_call, named_flight, named_service, unsent_service, call_sent, listed, reply_of, commit_noted, CanEnd, MayEnd}
use Rattle.service_parts.specs.declared.draft.Draft.{Draft}
use Rattle.handler_run.specs.declared.state.Ran.{Ran}
use Rattle.flights.specs.declared.flight.Move.{Move}
use Rattle.flights.specs.declared.flight.Move.TheVariants.{Commit, Name, Change}
use Rattle.flights.specs.Numbers.{flight_in, has_flight, without_flight}
use Rattle.call_registers.specs.Registers.{next_number}
use Rattle.local_repair.specs.Alone.{trace_or_dead}
use Rattle.repair_messages.specs.declared.messages.SetMessage.{SetMessage}
use Rattle.service_requests.specs.declared.endings.Step.{Step}
use Rattle.service_requests.specs.declared.endings.Step.TheVariants.{Ends, Goes}
use Rattle.service_requests.specs.declared.endings.Ending.{Ending}
use Rattle.service_requests.specs.declared.endings.Ending.TheVariants.{Commits, Waits}

next_at : (at n : ℕ) → at + suc n ≡ (at + 1) + n
next_at at n = omega arith

after_append : (at : ℕ) (registers : List Register) (xs ys : List Row) → after_rows (at + length xs) (after_rows at registers xs) ys ≡ after_rows at registers (xs ++ ys)
after_append at registers [] ys = ap (λ n. after_rows n registers ys) (add-zero at)
after_append at registers (x ∷ xs) ys =
    ap (λ n. after_rows n (after_rows (at + 1) (after_row at registers x) xs) ys) (next_at at (length xs))
    ∙ after_append (at + 1) (after_row at registers x) xs ys

-- noted one after another, they are noted together
pub noted_twice : (s : Kept) (xs ys : List Row) → noted ys (noted xs s) ≡ noted (xs ++ ys) s
noted_twice s xs ys =
    ap (λ j. record s { journal = j; registers = after_rows (length (s.journal ++ xs)) (after_rows (length s.journal) s.registers xs) ys }) (append_assoc s.journal xs ys)
    ∙ ap (λ r. record s { journal = s.journal ++ (xs ++ ys); registers = r })
    (ap (λ n. after_rows n (after_rows (length s.journal) s.registers xs) ys) (length-append s.journal xs)
    ∙ after_append (length s.journal) s.registers xs ys)

pub index_is : (K : Kept) (d d' : Draft) (f : Flight) (t : Trace) (index : ℕ) → index ≡ length (K.journal ++ d'.rows.items) → with_draft d' K ≡ noted (before_answer (with_draft d K) f t) (with_draft d K) → index ≡ answer_index (with_draft d K) f t
index_is K d d' f t index e h =
    e ∙ ap (λ (s : Kept). length s.journal) h ∙ length-append (K.journal ++ d.rows.items) (before_answer (with_draft d K) f t)

pub commit_noted_is : (K : Kept) (d d' d'' : Draft) (f : Flight) (t : Trace) → with_draft d' K ≡ noted (before_answer (with_draft d K) f t) (with_draft d K) → with_draft d'' K ≡ noted (live_answer K f t ∷ []) (with_draft d' K) → with_draft d'' K ≡ commit_noted (with_draft d K) f t
commit_noted_is K d d' d'' f t h k =
    k ∙ ap (noted (live_answer K f t ∷ [])) h ∙ noted_twice (with_draft d K) (before_answer (with_draft d K) f t) (live_answer K f t ∷ [])

listed_reply : (s : Kept) (index : ℕ) (o : Origin) → listed (reply_of s index o) ≡ live_replies s index o
listed_reply s index Outside = refl
listed_reply s index (Call caller number) = refl

commit_ends : (K : Kept) (d : Draft) (f : Flight) (t : Trace) (index : ℕ) → index ≡ answer_index (with_draft d K) f t → ends (commit_noted (with_draft d K) f t) (Commits f.id (committed_entry K f t) (reply_of K index f.origin) index) ≡ committed (with_draft d K) f t
commit_ends K d f t index e =
    ap (λ i. ends (commit_noted (with_draft d K) f t) (Commits f.id (committed_entry K f t) (reply_of K i f.origin) i)) e
    ∙ ap (λ rs. let a : After Arrived = committed (with_draft d K) f t in record a { service = record a.service { replies = K.replies ++ rs } })
    (listed_reply K (answer_index (with_draft d K) f t) f.origin)

-- a commit leaves what it means
pub commit_is : (K : Kept) (d d' : Draft) (f : Flight) (t : Trace) (index : ℕ) (e : Ending) → with_draft d' K ≡ commit_noted (with_draft d K) f t → index ≡ answer_index (with_draft d K) f t → e ≡ Commits f.id (committed_entry K f t) (reply_of K index f.origin) index → ends (with_draft d' K) e ≡ committed (with_draft d K) f t
commit_is K d d' f t index e h i is =
    ap (ends (with_draft d' K)) is
    ∙ ap (λ s. ends s (Commits f.id (committed_entry K f t) (reply_of K index f.origin) index)) h
    ∙ commit_ends K d f t index i

reply_above : (K : Kept) (index : ℕ) (o : Origin) → IsAboveAll (next_id K) K.replies → IfSome (reply_of K index o) (λ p. IsAboveAll p.id K.replies)
reply_above K index Outside h = tt
reply_above K index (Call caller number) h = h

pub can_commit : (K : Kept) (f : Flight) (t : Trace) (index : ℕ) (e : Ending) → e ≡ Commits f.id (committed_entry K f t) (reply_of K index f.origin) index → MayEnd K f → CanEnd K e
can_commit K f t index e is h =
    subst (CanEnd K) (sym is)
    (record { id = h.id; origin = h.origin }, h.few, reply_above K index f.origin h.replies)

one_less : (n : ℕ) → n ≡ suc n - 1
one_less n = omega arith

-- one run of those that are left
pub completed_more : (runs : ℕ) (s : Kept) (f : Flight) → runs ≢ 0 → completed runs s f ≡ completing s f (flight_run s f) (next_move f (flight_run s f)) (completed (runs - 1))
completed_more zero s f w = absurd (w refl)
completed_more (suc runs) s f w = ap (λ n. completing s f (flight_run s f) (next_move f (flight_run s f)) (completed n)) (one_less runs)

-- what a step of it leads to is what is left
pub step_is : (before now : Kept) (f : Flight) (ran : Ran) (runs : ℕ) (step : Step) → runs ≢ 0 → ran ≡ flight_run before f → ((again : Kept → Flight → After Arrived) → follows now step again ≡ completing before f ran (next_move f ran) again) → follows now step (completed (runs - 1)) ≡ completed runs before f
step_is before now f ran runs step w e h =
    h (completed (runs - 1)) ∙ ap (λ (r : Ran). completing before f r (next_move f r) (completed (runs - 1))) e ∙ sym (completed_more runs before f w)

pub step_ends : (before now : Kept) (f : Flight) (ran : Ran) (runs : ℕ) (step : Step) (ending : Ending) → step ≡ Ends ending → runs ≢ 0 → ran ≡ flight_run before f → ((again : Kept → Flight → After Arrived) → follows now step again ≡ completing before f ran (next_move f ran) again) → ends now ending ≡ completed runs before f
step_ends before now f ran runs step ending is w e h =
    ap (λ (st : Step). follows now st (completed (runs - 1))) (sym is) ∙ step_is before now f ran runs step w e h

pub step_goes : (before now : Kept) (f next : Flight) (ran : Ran) (runs : ℕ) (step : Step) → step ≡ Goes next → runs ≢ 0 → ran ≡ flight_run before f → ((again : Kept → Flight → After Arrived) → follows now step again ≡ completing before f ran (next_move f ran) again) → completed (runs - 1) now next ≡ completed runs before f
step_goes before now f next ran runs step is w e h =
    ap (λ (st : Step). follows now st (completed (runs - 1))) (sym is) ∙ step_is before now f ran runs step w e h

pub goes_where_true : (go : Kept → Flight → After Arrived) (b : Bool) (s now : Kept) (f next : Flight) (other : After Arrived) → b ≡ true → now ≡ s → next ≡ f → go now next ≡ cond b (go s f) other
goes_where_true go true s now f next other h e k = ap (λ (x : Kept). go x next) e ∙ ap (go s) k
goes_where_true go false s now f next other h e k = cc

pub goes_is : (s : Kept) (f : Flight) (ran : Ran) (move : Move) → ran ≡ flight_run s f → move ≡ next_move f ran → moved s f ran move ≡ goes_on s f
unfolding goes_on
goes_is s f ran move e m = ap (moved s f ran) m ∙ ap (λ (r : Ran). moved s f r (next_move f r)) e

-- ---- a new call

new_completing : (s : Kept) (f : Flight) (ran : Ran) (move : Move) (again : Kept → Flight → After Arrived)
    → call_or_none (new_call move ran) (λ (call : CallMade). again (unsent_service s f (slot_of move) call) (named_flight s f (slot_of move) call)) (committed s f (trace_or_dead ran))
    ≡ completing s f ran move again
new_completing s f ran Commit again = refl
new_completing s f ran Name again = refl
new_completing s f ran (Change slot) again = refl

-- one run of a flight that is completed

pub step_commits : (s now : Kept) (f : Flight) (ran : Ran) (move : Move) (e : Ending) → move ≡ next_move f ran → None ≡ new_call move ran
    → ends now e ≡ committed s f (trace_or_dead ran)
    → (again : Kept → Flight → After Arrived) → follows now (Ends e) again ≡ completing s f ran (next_move f ran) again
step_commits s now f ran move e m none is again =
    is
    ∙ ap (λ (o : Option CallMade). call_or_none o (λ (call : CallMade). again (unsent_service s f (slot_of move) call) (named_flight s f (slot_of move) call)) (committed s f (trace_or_dead ran))) none
    ∙ new_completing s f ran move again ∙ ap (λ (m : Move). completing s f ran m again) m

pub step_calls : (s now : Kept) (f next : Flight) (ran : Ran) (move : Move) (slot : Option ℕ) (call : CallMade) → move ≡ next_move f ran
    → slot ≡ slot_of move → Some call ≡ new_call move ran → now ≡ unsent_service s f slot call → next ≡ named_flight s f slot call
    → (again : Kept → Flight → After Arrived) → follows now (Goes next) again ≡ completing s f ran (next_move f ran) again
step_calls s now f next ran move slot call m at new is has again =
    ap (λ (k : Kept). again k next) is ∙ ap (again (unsent_service s f slot call)) has
    ∙ ap (λ (o : Option ℕ). again (unsent_service s f o call) (named_flight s f o call)) at
    ∙ ap (λ (o : Option CallMade). call_or_none o (λ (call : CallMade). again (unsent_service s f (slot_of move) call) (named_flight s f (slot_of move) call)) (committed s f (trace_or_dead ran))) new
    ∙ new_completing s f ran move again ∙ ap (λ (m : Move). completing s f ran m again) m

-- another call at a slot, where from the fourth change on the flight is completed in at most so many runs
pub changed_by : ℕ → Kept → Flight → ℕ → CallMade → After Arrived
changed_by runs s f slot call =
    cond (nat_le 3 f.changes) (completed runs (unsent_service s f (Some slot) call) (named_flight s f (Some slot) call)) (call_sent s f (Some slot) call)

pub changed_by_is : (s : Kept) (f : Flight) (slot : ℕ) (call : CallMade) → changed_by 17 s f slot call ≡ changed s f slot call
unfolding changed_by
changed_by_is s f slot call = refl

pub changed_completes : (runs : ℕ) (s now : Kept) (f next : Flight) (slot : ℕ) (call : CallMade) → nat_le 3 f.changes ≡ true → now ≡ unsent_service s f (Some slot) call → next ≡ named_flight s f (Some slot) call → completed runs now next ≡ changed_by runs s f slot call
unfolding changed_by
changed_completes runs s now f next slot call h e k =
    goes_where_true (completed runs) (nat_le 3 f.changes) (unsent_service s f (Some slot) call) now (named_flight s f (Some slot) call) next (call_sent s f (Some slot) call) h e k

-- what a call that is sent leaves
pub send_is : (K : Kept) (d d' : Draft) (f next : Flight) (slot : Option ℕ) (number : ℕ) (call : CallMade) (e : Ending) → e ≡ Waits next (live_call K number call)
    → with_draft d' K ≡ named_service (with_draft d K) f slot call → next ≡ named_flight (with_draft d K) f slot call → number ≡ next_number (with_draft d K).registers
    → ends (with_draft d' K) e ≡ call_sent (with_draft d K) f slot call
send_is K d d' f next slot number call e is noted has at =
    let s : Kept = with_draft d K in
    ap (ends (with_draft d' K)) is
    ∙ ap (λ (k : Kept). ends k (Waits next (live_call K number call))) noted
    ∙ ap (λ (g : Flight). ends (named_service s f slot call) (Waits g (live_call K number call))) has
    ∙ ap (λ (n : ℕ). ends (named_service s f slot call) (Waits (named_flight s f slot call) (live_call K n call))) at

-- the flight may end as before
pub still_may_end : (K : Kept) (f : Flight) (slot : Option ℕ) (n : ℕ) (call : CallMade) → MayEnd K f → MayEnd K (with_call slot n call f)
still_may_end K f None n call h = record { number = h.number; id = h.id; origin = h.origin; few = h.few; replies = h.replies }
still_may_end K f (Some slot) n call h = record { number = h.number; id = h.id; origin = h.origin; few = h.few; replies = h.replies }

pub next_may_end : (K s : Kept) (f next : Flight) (slot : Option ℕ) (call : CallMade) → next ≡ named_flight s f slot call → MayEnd K f → MayEnd K next
next_may_end K s f next slot call is h = subst (MayEnd K) (sym is) (still_may_end K f slot (next_number s.registers) call h)

pub can_wait : (K : Kept) (f : Flight) (set : SetMessage) (e : Ending) → e ≡ Waits f set → MayEnd K f → CanEnd K e
can_wait K f set e is h = subst (CanEnd K) (sym is) h.number

-- ---- a flight that isn't there

kept_missing : (b : Bool) (f : Flight) (found : Option Flight) (fs left : List Flight) → None ≡ cond b (Some f) found → (None ≡ found → fs ≡ left)
    → f ∷ fs ≡ cond (not b) (f ∷ left) left
kept_missing true f found fs left h k = cc
kept_missing false f found fs left h k = ap (λ (gs : List Flight). f ∷ gs) (k h)

-- taking it out changes nothing
pub without_missing : (id : ℕ) (fs : List Flight) → None ≡ flight_in id fs → fs ≡ without_flight id fs
without_missing id [] h = refl
without_missing id (f ∷ fs) h = kept_missing (has_flight id f) f (flight_in id fs) fs (without_flight id fs) h (without_missing id fs)
