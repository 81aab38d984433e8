-- A repair step: the first stale entry runs again, and its calls are settled.
use Rattle.std.specs.Prelude.{ℕ, suc, zero, ◌+◌, false, List, [], ◌∷◌, ◌++◌, Option, Some, None, if◌then◌else◌, length}
use Rattle.lang_core.specs.Traces.{dead_trace}
use Rattle.lang_core.specs.declared.cells.Cell.{Cell}
use Rattle.lang_core.specs.declared.request.Response.{Response}
use Rattle.lang_core.specs.declared.trace.CallMade.{CallMade}
use Rattle.lang_core.specs.declared.trace.Trace.{Trace}
use Rattle.handler_run.specs.Handlers.{run_of}
use Rattle.handler_run.specs.declared.state.Ran.{Ran}
use Rattle.handler_run.specs.declared.state.Ran.TheVariants.{Done, Wants}
use Rattle.request_log.specs.Entries.{is_alive, with_entry}
use Rattle.request_log.specs.declared.entry.Entry.{Entry}
use Rattle.request_log.specs.declared.entry.Made.{Made}
use Rattle.local_repair.specs.Current.{Consumed, after_entry}
use Rattle.local_repair.specs.Programs.{setting_of}
use Rattle.local_repair.specs.Steps.{calls_of_made, answer_at, is_new_answer, remade, raised}
use Rattle.local_repair.specs.Tests.{is_current}
use Rattle.local_repair.specs.declared.stepped.Stepped.{Stepped}
use Rattle.local_repair.specs.declared.stepped.Stepped.TheVariants.{Idle, Ran as RanAgain}
use Rattle.journal_rows.specs.declared.row.Row.{Row}
use Rattle.journal_rows.specs.declared.row.Row.TheVariants.{Answered}
use Rattle.call_registers.specs.Registers.{next_number}
use Rattle.call_registers.specs.Replies.{at_entry, with_answer}
use Rattle.call_registers.specs.declared.reply.Reply.{Reply}
use Rattle.service_events.specs.State.{Kept, After, after, answers, base, unfolded}
use Rattle.service_events.specs.Calls.{noted, settling_rows, settling_numbers}

-- ---- the run

abbrev pub ended_or : Ran → (ℕ → CallMade → Trace) → Trace
ended_or (Done t) more = t
ended_or (Wants slot calls call) more = more slot call

-- a run under the entry's program in at most so many turns: each call that it wants gets the answer of its old slot, where it is the old call, else the tentative one
abbrev pub rerun : ℕ → Kept → List Cell → Entry → List Response → Trace
rerun zero s rows e given = dead_trace
rerun (suc turns) s rows e given =
    ended_or (run_of (setting_of s.setting e) e.request e.inputs given rows)
    (λ slot call. rerun turns s rows e (given ++ answer_at (answers s) (calls_of_made e.made) e.slots slot call ∷ []))

-- a request makes at most 16 calls
unfoldable pub new_trace : Kept → List Cell → Entry → Trace
new_trace s rows e = if is_alive e then rerun 17 s rows e [] else dead_trace

abbrev pub new_record : Kept → List Cell → Entry → Made
new_record s rows e = record { alive = is_alive e; version = e.version; request = e.request; trace = new_trace s rows e }

-- ---- what it leaves

abbrev pub new_numbers : Kept → Entry → Made → List ℕ
new_numbers s e m = settling_numbers (next_number s.registers) e.slots (calls_of_made e.made) m.trace.calls

abbrev pub sent_rows : Kept → Entry → Made → List Row
sent_rows s e m = settling_rows s.registers (next_number s.registers) e.slots (calls_of_made e.made) m.trace.calls

-- the row of a new answer
abbrev pub answer_rows : Entry → Made → List Row
answer_rows e m =
    if is_new_answer e.made m
    then Answered (record {
      id = e.id;
      origin = e.origin;
      answer_version = raised e.answer_version;
      version = e.version;
      response = m.trace.response;
      live = false;
    }) ∷ []
    else []

-- the reply of the entry, where it has one, has the new answer
abbrev pub answered_replies : Kept → Entry → Made → List Reply
answered_replies s e m =
    if is_new_answer e.made m
    then at_entry e.id (with_answer (raised e.answer_version) e.version (length s.journal + length (sent_rows s e m))) s.replies
    else s.replies

abbrev pub stepped : Kept → Entry → Made → After Stepped
stepped s e m =
    after
    (noted (sent_rows s e m ++ answer_rows e m)
    (record s {
      entries = with_entry (remade e m (new_numbers s e m)) s.entries;
      replies = answered_replies s e m;
    }))
    (RanAgain e.id (is_new_answer e.made m))

-- ---- the first stale entry

-- an entry, and the rows before it
pub record Stale : Type 0 where
  pub entry : Entry
  pub rows : List Cell

-- the first stale one of these entries, where these are the rows before them
abbrev pub stale_in : Consumed → List Cell → List Entry → Option Stale
stale_in consumed rows [] = None
stale_in consumed rows (e ∷ es) =
    if is_current consumed rows e then stale_in consumed (after_entry rows e) es else Some (record { entry = e; rows = rows })

abbrev pub step_by : Kept → Option Stale → After Stepped
step_by s None = after s Idle
step_by s (Some x) = stepped s x.entry (new_record s x.rows x.entry)

abbrev pub step_event : Kept → After Stepped
step_event s = step_by s (stale_in (answers s) (base s) (unfolded s))
