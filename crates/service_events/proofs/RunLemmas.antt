-- Records are what runs gave: what was run, and what is made of logs.
use Rattle.std.proofs.Common.{◌≡◌, ℕ, zero, suc, ◌+◌, ◌≤◌, Bool, true, false, cond, List, [], ◌∷◌, ◌++◌, IfSome, length, refl, sym, ap, ◌∙◌, arith, append-nil, length-append}
use Rattle.std.specs.List.{position_or_len}
use Rattle.std.proofs.lemmas.Bool.{cond_both}
use Rattle.std.proofs.lemmas.List.Elements.{All-set, All-map, All-weaker}
use Rattle.lang_core.specs.Traces.{dead_trace}
use Rattle.lang_core.specs.declared.cells.Cell.{Cell}
use Rattle.lang_core.specs.declared.inputs.Inputs.{Inputs}
use Rattle.lang_core.specs.declared.request.Request.{Request}
use Rattle.lang_core.specs.declared.request.Response.{Response}
use Rattle.lang_core.specs.declared.setting.Setting.{Setting}
use Rattle.lang_core.specs.declared.trace.CallMade.{CallMade}
use Rattle.lang_core.specs.declared.trace.Trace.{Trace}
use Rattle.handler_run.specs.Handlers.{run_of}
use Rattle.handler_run.specs.declared.state.Ran.{Ran}
use Rattle.handler_run.specs.declared.state.Ran.TheVariants.{Done, Wants}
use Rattle.request_log.specs.Entries.{has_id, is_alive, with_entry, changed}
use Rattle.request_log.specs.declared.entry.Entry.{Entry}
use Rattle.local_repair.specs.Current.{IsRun, AllRuns}
use Rattle.local_repair.specs.Programs.{setting_of, setting_ran}
use Rattle.local_repair.specs.Steps.{calls_of_made, answer_at}
use Rattle.local_repair.proofs.HandlerLemmas.{handler}
use Rattle.service_events.specs.State.{Kept, answers}
use Rattle.service_events.specs.Steps.{ended_or, rerun, new_trace, new_record}

-- what a run that ended gave is a record
pub record_is_run : (setting : Setting) (q : Request) (i : Inputs) (xs : List Response) (rows : List Cell) (t : Trace) (version : ℕ) → run_of setting q i xs rows ≡ Done t
    → IsRun setting i (record { alive = true; version = version; request = q; trace = t })
record_is_run setting q i xs rows t version done = record {
  live = λ alive other gives.
      ap (λ ys. run_of setting q i ys other) (sym (append-nil t.answers)) ∙ (handler setting).same q i xs [] rows other t done gives;
  dead = λ dead. cc;
}

pub dead_is_run : (setting : Setting) (q : Request) (i : Inputs) (version : ℕ) → IsRun setting i (record { alive = false; version = version; request = q; trace = dead_trace })
dead_is_run setting q i version = record { live = λ alive. cc; dead = λ dead. refl }

-- ---- the new record of a step

more_turns : (s : Kept) (rows : List Cell) (e : Entry) (turns : ℕ) (given : List Response) → 16 ≤ turns + length given → (ran : Ran) → run_of (setting_of s.setting e) e.request e.inputs given rows ≡ ran
    → ((slot : ℕ) (calls : List CallMade) (call : CallMade) → ran ≡ Wants slot calls call → (k : ℕ) → turns ≡ suc k
    → (xs : List Response) × (run_of (setting_of s.setting e) e.request e.inputs xs rows ≡ Done (rerun turns s rows e (given ++ answer_at (answers s) (calls_of_made e.made) e.slots slot call ∷ []))))
    → (xs : List Response) × (run_of (setting_of s.setting e) e.request e.inputs xs rows ≡ Done (ended_or ran (λ slot call. rerun turns s rows e (given ++ answer_at (answers s) (calls_of_made e.made) e.slots slot call ∷ []))))
more_turns s rows e turns given enough (Done t) is again = (given, is)
more_turns s rows e zero given enough (Wants slot calls call) is again =
    let asks = ((handler (setting_of s.setting e)).steady e.request e.inputs rows).asks given slot calls call is in
    absurd (let at = asks.0 in let few = asks.2 in omega (arith, at, few, enough))
more_turns s rows e (suc k) given enough (Wants slot calls call) is again = again slot calls call refl k refl

rerun_done : (s : Kept) (rows : List Cell) (e : Entry) (turns : ℕ) (given : List Response) → 16 ≤ turns + length given
    → (xs : List Response) × (run_of (setting_of s.setting e) e.request e.inputs xs rows ≡ Done (rerun (suc turns) s rows e given))
rerun_done s rows e zero given enough =
    more_turns s rows e zero given enough (run_of (setting_of s.setting e) e.request e.inputs given rows) refl (λ slot calls call is k none. absurd (omega (arith, none)))
rerun_done s rows e (suc turns) given enough =
    more_turns s rows e (suc turns) given enough (run_of (setting_of s.setting e) e.request e.inputs given rows) refl
    (λ slot calls call is k same. rerun_done s rows e turns (given ++ answer_at (answers s) (calls_of_made e.made) e.slots slot call ∷ [])
    (let one = length-append given (answer_at (answers s) (calls_of_made e.made) e.slots slot call ∷ []) in omega (arith, one, enough)))

trace_is_run : (s : Kept) (rows : List Cell) (e : Entry) (b : Bool)
    → IsRun (setting_of s.setting e) e.inputs (record { alive = b; version = e.version; request = e.request; trace = cond b (rerun 17 s rows e []) dead_trace })
trace_is_run s rows e true =
    (let ran = rerun_done s rows e 16 [] (omega arith) in record_is_run (setting_of s.setting e) e.request e.inputs ran.0 rows (rerun 17 s rows e []) e.version ran.1)
trace_is_run s rows e false = dead_is_run (setting_of s.setting e) e.request e.inputs e.version

-- a step's record is what a run gave
pub new_is_run : (s : Kept) (rows : List Cell) (e : Entry) → IsRun (setting_of s.setting e) e.inputs (new_record s rows e)
unfolding new_trace
new_is_run s rows e = trace_is_run s rows e (is_alive e)

-- ---- logs

-- what an entry's record is, under the program that it was made under
abbrev pub HasRun : Setting → Entry → Type 0
HasRun setting e = IfSome e.made (IsRun (setting_ran setting e) e.inputs)

pub runs_with : (setting : Setting) (log : List Entry) (x : Entry) → HasRun setting x → AllRuns setting log → AllRuns setting (with_entry x log)
runs_with setting log x here all = All-set (HasRun setting) log (position_or_len (has_id x.id) log) x here all

pub runs_changed : (setting : Setting) (log : List Entry) (id : ℕ) (f : Entry → Entry) → ((e : Entry) → HasRun setting e → HasRun setting (f e)) → AllRuns setting log
    → AllRuns setting (changed id f log)
runs_changed setting log id f keeps all =
    All-map (HasRun setting) (λ e. cond (has_id id e) (f e) e) log
    (All-weaker (HasRun setting) (λ e. HasRun setting (cond (has_id id e) (f e) e))
    (λ e here. cond_both (has_id id e) (f e) e (HasRun setting) (λ _. keeps e here) (λ _. here)) log all)
