use Rattle.std.proofs.Common.{◌≡◌, ◌∙◌, sym, true, false, Bool, List, [], Result, IfOk, subst, if◌then◌else◌}
use Rattle.lang_base.specs.declared.memory.NoMemory.{NoMemory}
use Rattle.lang_core.specs.Traces.{dead_trace}
use Rattle.lang_core.specs.declared.trace.CallMade.{CallMade}
use Rattle.lang_core.specs.declared.trace.Trace.{Trace}
use Rattle.execution.specs.HandedOn.{run_of}
use Rattle.request_log.specs.Entries.{is_alive}
use Rattle.local_repair.specs.Programs.{setting_of}
use Rattle.local_repair.specs.Steps.{answer_at, calls_of_made, trace_through}
use Rattle.local_repair.proofs.rerun.new_trace.Goals as goal

first_if : (r : Result Trace NoMemory) (b : Bool) (x y : Trace) → b ≡ true → IfOk r (λ t. t ≡ x) → IfOk r (λ t. t ≡ (if b then x else y))
first_if r true x y e h = h
first_if r false x y e h = cc

pub returns-then-is_alive-clause-again : goal.returns-then-is_alive-clause-again
returns-then-is_alive-clause-again g c =
    let e = c.args.entry.now in
    let through = λ (old : List CallMade). trace_through 17 (λ xs. run_of (setting_of c.args.setting.now e) e.request e.inputs xs (g.V.View.rows c.args.view.now)) (answer_at (g.S.Slots.consumed_of c.args.slots.now) old e.slots) [] in
    let P : List CallMade → Type 0 = λ old. IfOk c.live_trace.result (λ t. t ≡ through old) in
    first_if c.live_trace.result (is_alive e) (through (calls_of_made e.made)) dead_trace (sym c.is_alive.ensures ∙ c.if-is_alive.true) (subst P c.old_calls.ensures c.live_trace.ensures.again)
