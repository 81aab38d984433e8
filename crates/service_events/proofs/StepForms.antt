-- A repair step in the words of local repair: which entry it takes, what it makes of the log, and what it leaves of every other entry.
use Rattle.std.proofs.Common.{◌≡◌, ℕ, zero, suc, Bool, false, cond, List, [], ◌∷◌, ◌++◌, Option, Some, None, find, length, option_map, set, refl, sym, ap, ◌∙◌, subst, inl, inr, nat_eq, eq-eqb, ne_eqb}
use Rattle.std.proofs.lemmas.Bool.{cases_Bool, cond-false}
use Rattle.lang_core.specs.Traces.{dead_trace}
use Rattle.lang_core.specs.declared.cells.Cell.{Cell}
use Rattle.lang_core.specs.declared.request.Response.{Response}
use Rattle.lang_core.specs.declared.trace.CallMade.{CallMade}
use Rattle.handler_run.specs.Handlers.{run_of}
use Rattle.handler_run.specs.declared.state.Ran.{Ran}
use Rattle.handler_run.specs.declared.state.Ran.TheVariants.{Done, Wants}
use Rattle.request_log.specs.Entries.{has_id, is_alive, IsDistinct, with_entry}
use Rattle.request_log.specs.declared.entry.Entry.{Entry}
use Rattle.local_repair.specs.Current.{Consumed, after_entry}
use Rattle.local_repair.specs.Programs.{setting_of}
use Rattle.local_repair.specs.Repairs.{stale_id}
use Rattle.local_repair.specs.Steps.{calls_of_made, answer_at, trace_through, trace_again, remade}
use Rattle.local_repair.specs.Tests.{is_current, first_stale, step_with}
use Rattle.local_repair.specs.declared.stepped.Stepped.{Stepped}
use Rattle.local_repair.specs.declared.stepped.Stepped.TheVariants.{Idle, Ran as RanAgain}
use Rattle.local_repair.proofs.HandlerLemmas.{handler}
use Rattle.service_events.specs.State.{Kept, answers, base, folded, unfolded}
use Rattle.service_events.specs.Steps.{ended_or, rerun, new_trace, new_record, new_numbers, Stale, stale_in, step_by, step_event}
use Rattle.service_events.proofs.LogLemmas.{front_id, with_entry_is}
use Rattle.service_events.proofs.SearchLemmas.{some_none, place_is, set_mid}
use Rattle.service_events.proofs.StepLaw.{apart_behind, is_taken}
use Rattle.service_events.proofs.HorizonLemmas.{all_entries, with_stays, with_unfolded}

-- ---- the trace of a re-execution

turns_same : (s : Kept) (rows : List Cell) (e : Entry) (turns : ℕ) (xs : List Response)
    → trace_through turns (λ ys. run_of (setting_of s.setting e) e.request e.inputs ys rows) (answer_at (answers s) (calls_of_made e.made) e.slots) xs ≡ rerun turns s rows e xs
unfolding trace_through
turns_same s rows e zero xs = refl
turns_same s rows e (suc turns) xs =
    one_turn (run_of (setting_of s.setting e) e.request e.inputs xs rows) refl
    (λ slot call. turns_same s rows e turns (xs ++ answer_at (answers s) (calls_of_made e.made) e.slots slot call ∷ []))
  where
    one_turn : (ran : Ran) → run_of (setting_of s.setting e) e.request e.inputs xs rows ≡ ran
        → ((slot : ℕ) (call : CallMade) → trace_through turns (λ ys. run_of (setting_of s.setting e) e.request e.inputs ys rows) (answer_at (answers s) (calls_of_made e.made) e.slots) (xs ++ answer_at (answers s) (calls_of_made e.made) e.slots slot call ∷ [])
        ≡ rerun turns s rows e (xs ++ answer_at (answers s) (calls_of_made e.made) e.slots slot call ∷ []))
        → Rattle.local_repair.specs.Steps.ended_or ran (λ call. trace_through turns (λ ys. run_of (setting_of s.setting e) e.request e.inputs ys rows) (answer_at (answers s) (calls_of_made e.made) e.slots) (xs ++ answer_at (answers s) (calls_of_made e.made) e.slots (length xs) call ∷ []))
        ≡ ended_or ran (λ slot call. rerun turns s rows e (xs ++ answer_at (answers s) (calls_of_made e.made) e.slots slot call ∷ []))
    one_turn (Done t) is more = refl
    one_turn (Wants slot calls call) is more =
        let at = (((handler (setting_of s.setting e)).steady e.request e.inputs rows).asks xs slot calls call is).0 in
        ap (λ k. trace_through turns (λ ys. run_of (setting_of s.setting e) e.request e.inputs ys rows) (answer_at (answers s) (calls_of_made e.made) e.slots) (xs ++ answer_at (answers s) (calls_of_made e.made) e.slots k call ∷ [])) (sym at)
        ∙ more slot call

-- it is the trace that local repair makes
pub new_trace_is : (s : Kept) (rows : List Cell) (e : Entry) → trace_again s.setting (answers s) rows e ≡ new_trace s rows e
unfolding new_trace
new_trace_is s rows e = ap (λ t. cond (is_alive e) t dead_trace) (turns_same s rows e 17 [])

-- ---- the entry that it takes

pub stale_is : (consumed : Consumed) (rows : List Cell) (log : List Entry) → option_map (λ (x : Stale). x.entry) (stale_in consumed rows log) ≡ first_stale consumed rows log
stale_is consumed rows [] = refl
stale_is consumed rows (e ∷ es) = elim (cases_Bool (is_current consumed rows e)) [
  | inl current ↦ rw current (stale_is consumed (after_entry rows e) es)
  | inr stale ↦ rw stale refl
]

named_by : (o : Option Stale) (p : Option Entry) → option_map (λ (x : Stale). x.entry) o ≡ p → option_map (λ (x : Stale). (x.entry).id) o ≡ option_map (λ (e : Entry). e.id) p
named_by None p is = ap (option_map (λ (e : Entry). e.id)) is
named_by (Some x) p is = ap (option_map (λ (e : Entry). e.id)) is

-- its number is the one that local repair tells
pub stale_id_is : (s : Kept) → option_map (λ (x : Stale). (x.entry).id) (stale_in (answers s) (base s) (unfolded s)) ≡ stale_id (answers s) (base s) (unfolded s)
stale_id_is s = named_by (stale_in (answers s) (base s) (unfolded s)) (first_stale (answers s) (base s) (unfolded s)) (stale_is (answers s) (base s) (unfolded s))

-- what a step answers names it
abbrev pub Names : Option ℕ → Stepped → Type 0
Names None answer = answer ≡ Idle
Names (Some id) answer = (answered : Bool) × (answer ≡ RanAgain id answered)

names_by : (s : Kept) (o : Option Stale) → Names (option_map (λ (x : Stale). (x.entry).id) o) (step_by s o).answer
names_by s None = refl
names_by s (Some x) = (_, refl)

pub step_names : (s : Kept) → Names (stale_id (answers s) (base s) (unfolded s)) (step_event s).answer
step_names s = subst (λ o. Names o (step_event s).answer) (stale_id_is s) (names_by s (stale_in (answers s) (base s) (unfolded s)))

-- ---- what it makes of the log

-- the entry that ran again on these rows
abbrev pub run_again : Kept → List Cell → Entry → Entry
run_again s rows e = remade e (new_record s rows e) (new_numbers s e (new_record s rows e))

none_steps : (consumed : Consumed) (remake : List Cell → Entry → Entry) (rows : List Cell) (log : List Entry) → stale_in consumed rows log ≡ None → step_with consumed remake rows log ≡ log
none_steps consumed remake rows [] e = refl
none_steps consumed remake rows (y ∷ ys) e = elim (cases_Bool (is_current consumed rows y)) [
  | inl current ↦ rw current (ap (λ zs. y ∷ zs) (none_steps consumed remake (after_entry rows y) ys (rw current at e)))
  | inr stale ↦ absurd (some_none (stale_in consumed rows (y ∷ ys)) (rw stale refl) e)
]

entry_put : (log before rest : List Entry) (e y : Entry) → log ≡ before ++ e ∷ rest → y.id ≡ e.id → IsDistinct log → with_entry y log ≡ before ++ y ∷ rest
entry_put log before rest e y is id apart =
    let whole : IsDistinct (before ++ e ∷ rest) = subst IsDistinct is apart in
    let front : find (has_id y.id) before ≡ None = subst (λ k. find (has_id k) before ≡ None) (sym id) (front_id before e rest whole) in
    ap (with_entry y) is ∙ ap (λ k. set (before ++ e ∷ rest) k y) (place_is (has_id y.id) before e rest front (eq-eqb e.id y.id (sym id))) ∙ set_mid before e y rest

unfolded_by : (s : Kept) (o : Option Stale) → stale_in (answers s) (base s) (unfolded s) ≡ o → IsDistinct s.entries
    → unfolded (step_by s o).service ≡ step_with (answers s) (run_again s) (base s) (unfolded s)
unfolded_by s None is apart = sym (none_steps (answers s) (run_again s) (base s) (unfolded s) is)
unfolded_by s (Some x) is apart =
    let t = is_taken s x is apart in
    with_unfolded s (run_again s x.rows x.entry) t.past
    ∙ entry_put (unfolded s) t.at.before t.at.rest x.entry (run_again s x.rows x.entry) t.at.is refl (apart_behind s apart) ∙ sym (t.at.step (run_again s))

folded_by : (s : Kept) (o : Option Stale) → stale_in (answers s) (base s) (unfolded s) ≡ o → IsDistinct s.entries → folded (step_by s o).service ≡ folded s
folded_by s None is apart = refl
folded_by s (Some x) is apart = with_stays s (run_again s x.rows x.entry) (is_taken s x is apart).past

-- the entries that aren't folded are what local repair's step makes of them, and the folded ones stay
pub step_unfolded : (s : Kept) → IsDistinct s.entries → unfolded (step_event s).service ≡ step_with (answers s) (run_again s) (base s) (unfolded s)
step_unfolded s apart = unfolded_by s (stale_in (answers s) (base s) (unfolded s)) refl apart

pub step_folded : (s : Kept) → IsDistinct s.entries → folded (step_event s).service ≡ folded s
step_folded s apart = folded_by s (stale_in (answers s) (base s) (unfolded s)) refl apart

pub step_entries : (s : Kept) → IsDistinct s.entries → (step_event s).service.entries ≡ folded s ++ step_with (answers s) (run_again s) (base s) (unfolded s)
step_entries s apart =
    let t = (step_event s).service in
    let parts : folded t ++ unfolded t ≡ folded s ++ step_with (answers s) (run_again s) (base s) (unfolded s) = (λ i. step_folded s apart i ++ step_unfolded s apart i) in
    sym (all_entries t) ∙ parts

-- ---- every other entry stays as it was

others_by : (s : Kept) (o : Option Stale) → stale_in (answers s) (base s) (unfolded s) ≡ o → IsDistinct s.entries → (id : ℕ) → (option_map (λ (x : Stale). (x.entry).id) o ≡ Some id → ⊥)
    → find (has_id id) (step_by s o).service.entries ≡ find (has_id id) s.entries
others_by s None is apart id other = refl
others_by s (Some x) is apart id other =
    let e = x.entry in
    let y = run_again s x.rows e in
    let found = (is_taken s x is apart).found in
    let w = with_entry_is s.entries y e found refl apart in
    let not_it : nat_eq e.id id ≡ false = ne_eqb e.id id (λ same. other (ap Some same)) in
    w.found id ∙ cond-false (nat_eq e.id id) (Some y) (find (has_id id) s.entries) not_it

pub step_leaves_others : (s : Kept) → IsDistinct s.entries → (id : ℕ) → (stale_id (answers s) (base s) (unfolded s) ≡ Some id → ⊥)
    → find (has_id id) (step_event s).service.entries ≡ find (has_id id) s.entries
step_leaves_others s apart id other =
    others_by s (stale_in (answers s) (base s) (unfolded s)) refl apart id (λ same. other (sym (stale_id_is s) ∙ same))
