-- What an `each` does with the cells that it goes over.
use Rattle.std.proofs.Common.{◌≡◌, ℕ, List, Result, Ok, Err, sym, ap, ◌∙◌}
use Rattle.std.specs.Result.{IfOk, MatchResult}
use Rattle.lang_tree.specs.declared.expr.Expr.{Expr}
use Rattle.lang_tree.specs.declared.stmt.Block.{Block}
use Rattle.lang_tree.specs.declared.stmt.Stmt as tree
use Rattle.lang_tree.specs.declared.stmt.Stmt.TheVariants.{Each}
use Rattle.lang_tree.specs.declared.stmt.Stmt.TheOpen.{Stmt-F}
use Rattle.lang_tree.specs.declared.stmt.Stmt.TheFolds.{fold-roll-Stmt}
use Rattle.lang_core.specs.declared.cells.Cell.{Cell}
use Rattle.lang_values.specs.declared.given.Fault.{Fault}
use Rattle.handler_run.specs.declared.state.Flow.{Flow}
use Rattle.lang_values.specs.Given.{Given}
use Rattle.handler_run.specs.declared.state.State.{State}
use Rattle.handler_run.specs.Runs.{Effect, Ended, ended, faulted, turns, act, block_step, each_of, stmt_of, block_of}

-- with the turns of an `each` for what comes next
pub with_turns : {E : Type 0} (does : (List Cell → Effect) → Ended) (u : State) (r : Result (Result (List Cell) Fault) E)
    → IfOk r (λ b. MatchResult b (λ laid. (next : List Cell → Effect) → does next ≡ next laid u) (λ f. (next : List Cell → Effect) → does next ≡ faulted f u))
    → IfOk r (λ b. MatchResult b (λ laid. (k t : List ℕ) (body : Effect) → does (turns k t body) ≡ turns k t body laid u) (λ f. (k t : List ℕ) (body : Effect) → does (turns k t body) ≡ faulted f u))
with_turns does u (Ok (Ok laid)) h = λ k t body. h (turns k t body)
with_turns does u (Ok (Err f)) h = λ k t body. h (turns k t body)
with_turns does u (Err e) h = tt

-- an `each` as a statement
pub each_stmt : (g : Given) (rows : List Cell) (k t table : List ℕ) (p : Expr) (block : Block) → stmt_of g rows (Each k t table p block) ≡ each_of g rows k t table p (block_of g rows block)
unfolding tree.roll-Stmt denote.Hole.Carrier.roll
each_stmt g rows k t table p block = fold-roll-Stmt Effect Effect (act g rows) block_step (Stmt-F.Each k t table p block)

abbrev Beneath : Type 0
Beneath = Result (List Cell) Fault

-- an `each` that runs over what it goes over, or faults with its fault
pub each_ran : {E : Type 0} (g : Given) (rows : List Cell) (k t table : List ℕ) (p : Expr) (block : Block) (s u after : State) (b : Beneath) (r : Result Flow E)
    → MatchResult b (λ laid. (k t : List ℕ) (body : Effect) → each_of g rows k t table p body s ≡ turns k t body laid u) (λ f. (k t : List ℕ) (body : Effect) → each_of g rows k t table p body s ≡ faulted f u)
    → IfOk r (λ flow. MatchResult b (λ laid. ended flow after ≡ turns k t (block_of g rows block) laid u) (λ f. ended flow after ≡ faulted f u))
    → IfOk r (λ flow. ended flow after ≡ stmt_of g rows (Each k t table p block) s)
each_ran g rows k t table p block s u after (Ok laid) (Ok flow) h ran = ran ∙ sym (ap (λ f. f s) (each_stmt g rows k t table p block) ∙ h k t (block_of g rows block))
each_ran g rows k t table p block s u after (Err f) (Ok flow) h ran = ran ∙ sym (ap (λ f. f s) (each_stmt g rows k t table p block) ∙ h k t (block_of g rows block))
each_ran g rows k t table p block s u after b (Err e) h ran = tt
