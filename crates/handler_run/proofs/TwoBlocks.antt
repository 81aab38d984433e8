-- Two runs of a statement and of a block, by induction on the tree.
use Rattle.std.proofs.Common.{List, [], ◌∷◌, map, Some, None, sym, subst}
use Rattle.lang_tree.specs.declared.stmt.Stmt.{Stmt, map-Stmt, roll-Stmt}
use Rattle.lang_tree.specs.declared.stmt.Stmt.TheOpen.{Stmt-F, Block-F}
use Rattle.lang_tree.specs.declared.stmt.Stmt.TheFolds.{ind-Block, fold-roll-Stmt, fold-roll-Block}
use Rattle.lang_tree.specs.declared.stmt.Block.{Block, roll-Block}
use Rattle.lang_core.specs.declared.cells.Cell.{Cell}
use Rattle.lang_core.specs.declared.request.Response.{Response}
use Rattle.handler_run.specs.Runs.{Effect, act, in_turn, block_step, stmt_of, block_of}
use Rattle.lang_values.specs.Given.{Given}
use Rattle.handler_run.proofs.TwoRuns.{notes_of, with_answers, Same, stays, follow, steps}
use Rattle.handler_run.proofs.TwoCalls.{calls}
use Rattle.handler_run.proofs.TwoStmts.{lets, gets, puts, drops, eaches, ifs, nows, randoms, replied}

module _ (g : Given) (bs : List Response) (R Q : List Cell) where
  -- what the second run is given
  abbrev g' : Given
  g' = with_answers g bs

  -- the law of a statement
  SameStmt : Stmt → Type 0
  SameStmt s = Same g bs R Q (stmt_of g R s) (stmt_of g' Q s)

  -- the law of a block
  SameBlock : Block → Type 0
  SameBlock b = Same g bs R Q (block_of g R b) (block_of g' Q b)

  -- a statement for which it holds
  abbrev S : Type 0
  S = (s : Stmt) × SameStmt s

  -- a block for which it holds
  abbrev B : Type 0
  B = (b : Block) × SameBlock b

  -- a layer with the effects of its parts
  abbrev seen : Given → List Cell → Stmt-F Stmt Block → Stmt-F Effect Effect
  seen h rows x = map-Stmt Stmt Block Effect Effect (stmt_of h rows) (block_of h rows) x

  -- a layer without what is known of its parts
  abbrev bare : Stmt-F S B → Stmt-F Stmt Block
  bare y = map-Stmt S B Stmt Block (λ e. e.0) (λ e. e.0) y

  -- a statement whose blocks keep the law
  acts : (y : Stmt-F S B) → Same g bs R Q (act g R (seen g R (bare y))) (act g' Q (seen g' Q (bare y)))
  unfolding SameStmt SameBlock
  acts (Stmt-F.Let x e) = lets x e
  acts (Stmt-F.Get x t k) = gets x t k
  acts (Stmt-F.Put t k e) = puts t k e
  acts (Stmt-F.Drop t k) = drops t k
  acts (Stmt-F.Each k t table p b) = eaches k t table p _ _ b.1
  acts (Stmt-F.If e b None) = ifs e _ _ None None b.1 (record { at = λ s. stays s })
  acts (Stmt-F.If e b (Some c)) =
      ifs e _ _ (Some (block_of g R c.0)) (Some (block_of g' Q c.0)) b.1 (record { at = λ s. c.1.at s })
  acts (Stmt-F.Call x y d m p b) = calls x y d m p b
  acts (Stmt-F.Now x) = nows x
  acts (Stmt-F.Random x) = randoms x
  acts (Stmt-F.Reply status body) = replied status body

  -- statements in turn
  in_turns : (z : List S) → Same g bs R Q (in_turn (map (stmt_of g R) (map (λ e. e.0) z))) (in_turn (map (stmt_of g' Q) (map (λ e. e.0) z)))
  unfolding SameStmt
  in_turns [] = record { at = λ s. stays s }
  in_turns (e ∷ z) = record {
    at = λ s. steps s _ _ (record { at = λ u. follow (notes_of u) _ _ _ _ (e.1.at u) (in_turns z) });
  }

  -- from a statement's layer to the statement
  from_layer : (x : Stmt-F Stmt Block) → Same g bs R Q (act g R (seen g R x)) (act g' Q (seen g' Q x)) → SameStmt (roll-Stmt x)
  unfolding SameStmt
  from_layer x h =
      subst (λ e. Same g bs R Q e (stmt_of g' Q (roll-Stmt x))) (sym (fold-roll-Stmt Effect Effect (act g R) block_step x))
      (subst (λ e. Same g bs R Q (act g R (seen g R x)) e) (sym (fold-roll-Stmt Effect Effect (act g' Q) block_step x)) h)

  -- from a block's statements to the block
  from_row : (x : Block-F Stmt Block) → Same g bs R Q (in_turn (map (stmt_of g R) x.stmts)) (in_turn (map (stmt_of g' Q) x.stmts)) → SameBlock (roll-Block x)
  unfolding SameBlock
  from_row x h =
      subst (λ e. Same g bs R Q e (block_of g' Q (roll-Block x))) (sym (fold-roll-Block Effect Effect (act g R) block_step x))
      (subst (λ e. Same g bs R Q (in_turn (map (stmt_of g R) x.stmts)) e) (sym (fold-roll-Block Effect Effect (act g' Q) block_step x)) h)

  -- by induction
  all_blocks : (b : Block) → SameBlock b
  unfolding SameBlock
  all_blocks = ind-Block SameStmt SameBlock
      (λ x y is. from_layer x (subst (λ x. Same g bs R Q (act g R (seen g R x)) (act g' Q (seen g' Q x))) is (acts y)))
      (λ x y is. from_row x (subst (λ (x : Block-F Stmt Block). Same g bs R Q (in_turn (map (stmt_of g R) x.stmts)) (in_turn (map (stmt_of g' Q) x.stmts))) is (in_turns y.stmts)))

  -- two runs of a block from one state
  pub both : (b : Block) → Same g bs R Q (block_of g R b) (block_of (with_answers g bs) Q b)
  unfolding SameBlock
  both b = all_blocks b
