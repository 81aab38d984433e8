-- The record that a repair step makes is a run on the rows before the entry, with what its old calls consume.
use Rattle.std.proofs.Common.{◌≡◌, ℕ, zero, suc, ◌+◌, Bool, true, false, cond, List, [], ◌∷◌, ◌++◌, length, refl, sym, subst, arith}
use Rattle.lang_core.specs.Traces.{dead_trace}
use Rattle.lang_core.specs.declared.cells.Cell.{Cell}
use Rattle.lang_core.specs.declared.request.Response.{Response}
use Rattle.lang_core.specs.declared.trace.CallMade.{CallMade}
use Rattle.lang_core.specs.declared.trace.Trace.{Trace}
use Rattle.handler_run.specs.Handlers.{run_of}
use Rattle.handler_run.specs.declared.state.Ran.{Ran}
use Rattle.handler_run.specs.declared.state.Ran.TheVariants.{Done, Wants}
use Rattle.request_log.specs.Entries.{is_alive}
use Rattle.request_log.specs.declared.entry.Entry.{Entry}
use Rattle.local_repair.specs.Current.{Consumed}
use Rattle.local_repair.specs.Programs.{setting_of}
use Rattle.local_repair.specs.Steps.{answer_at, answers_for, calls_of_made, ended_or, trace_through, trace_again, IsRerun}
use Rattle.local_repair.proofs.CallsLemmas.{IsTurn, first_turn, turn_more, done_runs, done_answers}
use Rattle.local_repair.proofs.HandlerLemmas.{IsSteady, handler}
use Rattle.service_events.specs.State.{Kept, answers}
use Rattle.service_events.specs.Steps.{new_record}
use Rattle.service_events.proofs.StepForms.{new_trace_is}

-- a run whose calls are answered as their slots consume ended with this trace
record Ended (run : List Response → Ran) (consumed : Consumed) (old : List CallMade) (slots : List ℕ) (t : Trace) : Type 0 where
  pub given : List Response
  pub turn : ℕ
  pub at : IsTurn run consumed old slots given turn
  pub done : run given ≡ Done t

module _ (run : List Response → Ran) (steady : IsSteady run) (consumed : Consumed) (old : List CallMade) (slots : List ℕ) where
  abbrev answer : ℕ → CallMade → Response
  answer = answer_at consumed old slots

  -- one turn: the run ended, or it goes on with the answer of the call that it wants
  one_turn : (turns turn : ℕ) (xs : List Response) → IsTurn run consumed old slots xs turn → turn + suc turns ≡ 17 → (ran : Ran) → run xs ≡ ran
      → ((more : ℕ) (call : CallMade) → turns ≡ suc more → IsTurn run consumed old slots (xs ++ answer (length xs) call ∷ []) (turn + 1)
      → Ended run consumed old slots (trace_through turns run answer (xs ++ answer (length xs) call ∷ [])))
      → Ended run consumed old slots (ended_or ran (λ call. trace_through turns run answer (xs ++ answer (length xs) call ∷ [])))
  one_turn turns turn xs at all (Done t) is on = record { given = xs; turn = turn; at = at; done = is }
  one_turn zero turn xs at all (Wants slot calls call) is on =
      let asks = steady.asks xs slot calls call is in
      absurd (let count = at.count in let here = asks.0 in let few = asks.2 in omega (arith, all, count, here, few))
  one_turn (suc more) turn xs at all (Wants slot calls call) is on =
      on more call refl
      (turn_more run steady consumed old slots xs (xs ++ answer (length xs) call ∷ []) turn (Wants slot calls call) slot calls call (answer (length xs) call) (sym is) refl refl refl at)

  ends_from : (turns turn : ℕ) (xs : List Response) → IsTurn run consumed old slots xs turn → turn + suc turns ≡ 17
      → Ended run consumed old slots (trace_through (suc turns) run answer xs)
  unfolding trace_through
  ends_from zero turn xs at all = one_turn zero turn xs at all (run xs) refl (λ more call none next. absurd (omega (arith, none)))
  ends_from (suc turns) turn xs at all =
      one_turn (suc turns) turn xs at all (run xs) refl (λ more call same next. ends_from turns (turn + 1) (xs ++ answer (length xs) call ∷ []) next (omega (arith, all)))

  ends : Ended run consumed old slots (trace_through 17 run answer [])
  ends = ends_from 16 0 [] (first_turn run steady consumed old slots) refl

module _ (s : Kept) (rows : List Cell) (e : Entry) where
  abbrev runs : List Response → Ran
  runs = λ xs. run_of (setting_of s.setting e) e.request e.inputs xs rows

  abbrev live : Trace
  live = trace_through 17 runs (answer_at (answers s) (calls_of_made e.made) e.slots) []

  ended : Ended runs (answers s) (calls_of_made e.made) e.slots live
  ended = ends runs ((handler (setting_of s.setting e)).steady e.request e.inputs rows) (answers s) (calls_of_made e.made) e.slots

  live_runs : (b : Bool) → b ≡ true → run_of (setting_of s.setting e) e.request e.inputs (cond b live dead_trace).answers rows ≡ Done (cond b live dead_trace)
  live_runs true is =
      done_runs runs ((handler (setting_of s.setting e)).steady e.request e.inputs rows) (answers s) (calls_of_made e.made) e.slots ended.given ended.turn live ended.at ended.done
  live_runs false is = cc

  is_dead : (b : Bool) → b ≡ false → cond b live dead_trace ≡ dead_trace
  is_dead true is = cc
  is_dead false is = refl

  their_answers : (b : Bool) → (cond b live dead_trace).answers ≡ answers_for (answers s) (calls_of_made e.made) e.slots (cond b live dead_trace).calls
  their_answers true =
      done_answers runs ((handler (setting_of s.setting e)).steady e.request e.inputs rows) (answers s) (calls_of_made e.made) e.slots ended.given ended.turn live ended.at ended.done
  their_answers false = refl

  again_is : IsRerun s.setting (answers s) rows e (record { alive = is_alive e; version = e.version; request = e.request; trace = trace_again s.setting (answers s) rows e })
  again_is = record {
    alive = refl;
    version = refl;
    request = refl;
    live = live_runs (is_alive e);
    dead = is_dead (is_alive e);
    answers = their_answers (is_alive e);
    trace = refl;
  }

  -- the new record is a run of local repair
  pub new_is_rerun : IsRerun s.setting (answers s) rows e (new_record s rows e)
  new_is_rerun =
      let P : Trace → Type 0 = λ t. IsRerun s.setting (answers s) rows e (record { alive = is_alive e; version = e.version; request = e.request; trace = t }) in
      subst P (new_trace_is s rows e) again_is
