-- How deep calls lead, and one step down.
use Rattle.std.proofs.Common.{◌≡◌, ◌-◌, ℕ, zero, suc, List, [], ◌∷◌, length, Some, false, refl, sym, ap, ◌∙◌, arith}
use Rattle.lang_core.specs.Traces.{dead_trace}
use Rattle.lang_core.specs.declared.request.Request.{Request}
use Rattle.execution.specs.Executions.{Act, History}
use Rattle.dump_tables.specs.declared.dump.DumpService.{DumpService}
use Rattle.dump_audit.specs.Histories.{histories_of}
use Rattle.one_world.specs.Tapes.{World}
use Rattle.one_world.specs.Trees.{calls_of}
use Rattle.one_world.specs.Turns.{turn_act, turn_all, turn_calls}
use Rattle.one_world.proofs.Lists.{if_false}

pub as_many : (world : List DumpService) → length world ≡ length (histories_of world)
as_many [] = refl
as_many (s ∷ world) = ap suc (as_many world)

one_down : (d : ℕ) → d ≡ suc d - 1
one_down d = omega arith

pub turn_down : (depth : ℕ) (world : List History) (h : History) (a : Act) (q : Request) (w : World) → ¬ (depth ≡ 0)
    → turn_calls (turn_all (depth - 1) world) world h a q a.numbers (calls_of a) [] w ≡ turn_all depth world h a q w
turn_down zero world h a q w more = absurd (more refl)
turn_down (suc d) world h a q w more =
    ap (λ k. turn_calls (turn_all k world) world h a q a.numbers (calls_of a) [] w) (sym (one_down d))

-- a root that wasn't struck
pub root_turn : (depth : ℕ) (world : List History) (h : History) (a : Act) (q : Request) (w : World) → depth ≡ length world → a.struck ≡ false
    → turn_calls (turn_all depth world) world h a q a.numbers (calls_of a) [] w ≡ turn_act (turn_all (suc (length world)) world) w q h a
root_turn depth world h a q w e free =
    ap (λ k. turn_calls (turn_all k world) world h a q a.numbers (calls_of a) [] w) e
    ∙ sym (if_false a.struck (Some (record { world = w; response = dead_trace.response })) (turn_all (suc (length world)) world h a q w) free)
