-- What an `if` does by the block that it goes into.
use Rattle.std.proofs.Common.{◌≡◌, Bool, List, Option, Some, None, Result, Ok, Err, cond, option_map, sym, ap, ◌∙◌}
use Rattle.std.specs.Result.{IfOk}
use Rattle.lang_tree.specs.declared.expr.Expr.{Expr}
use Rattle.lang_tree.specs.declared.stmt.Block.{Block}
use Rattle.lang_tree.specs.declared.stmt.Stmt as tree
use Rattle.lang_tree.specs.declared.stmt.Stmt.TheVariants.{If}
use Rattle.lang_tree.specs.declared.stmt.Stmt.TheOpen.{Stmt-F}
use Rattle.lang_tree.specs.declared.stmt.Stmt.TheFolds.{fold-roll-Stmt}
use Rattle.lang_core.specs.declared.cells.Cell.{Cell}
use Rattle.lang_values.specs.declared.given.Fault.{Fault}
use Rattle.lang_values.specs.Given.{Given}
use Rattle.handler_run.specs.declared.state.Flow.{Flow}
use Rattle.handler_run.specs.declared.state.State.{State}
use Rattle.handler_run.specs.Runs.{Effect, ended, faulted, act, block_step, if_of, maybe, stmt_of, block_of}

-- an `if` as a statement
if_stmt : (g : Given) (rows : List Cell) (e : Expr) (b : Block) (o : Option Block) → stmt_of g rows (If e b o) ≡ if_of g e (block_of g rows b) (option_map (block_of g rows) o)
unfolding tree.roll-Stmt denote.Hole.Carrier.roll
if_stmt g rows e b None = fold-roll-Stmt Effect Effect (act g rows) block_step (Stmt-F.If e b None)
if_stmt g rows e b (Some c) = fold-roll-Stmt Effect Effect (act g rows) block_step (Stmt-F.If e b (Some c))

-- the block that it goes into runs
pub if_ran : {E : Type 0} (g : Given) (rows : List Cell) (e : Expr) (b : Block) (o : Option Block) (s after : State) (way : Bool) (r : Result Flow E)
    → ((first : Effect) (other : Option Effect) → if_of g e first other s ≡ cond way (first s) (maybe other s))
    → IfOk r (λ flow. ended flow after ≡ cond way (block_of g rows b s) (maybe (option_map (block_of g rows) o) s))
    → IfOk r (λ flow. ended flow after ≡ stmt_of g rows (If e b o) s)
if_ran g rows e b o s after way (Ok flow) h ran = ran ∙ sym (ap (λ f. f s) (if_stmt g rows e b o) ∙ h (block_of g rows b) (option_map (block_of g rows) o))
if_ran g rows e b o s after way (Err f) h ran = tt

-- or it faults
pub if_faults : (g : Given) (rows : List Cell) (e : Expr) (b : Block) (o : Option Block) (s : State) (f : Fault)
    → ((first : Effect) (other : Option Effect) → if_of g e first other s ≡ faulted f s)
    → faulted f s ≡ stmt_of g rows (If e b o) s
if_faults g rows e b o s f h = sym (ap (λ f. f s) (if_stmt g rows e b o) ∙ h (block_of g rows b) (option_map (block_of g rows) o))
