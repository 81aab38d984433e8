-- The purchase and its cancellation with programs that do this: from two services that wrote nothing to the end, whose world is sound.
use Rattle.std.proofs.Common.{◌≡◌, true, ℕ, ℤ, pos, List, [], ◌∷◌, None, Ok, map, codes, refl, ap, ◌∙◌}
use Rattle.lang_tree.specs.declared.method.Method.TheVariants.{Post as PostTo}
use Rattle.lang_tree.specs.declared.expr.Expr.{Expr, roll-Expr}
use Rattle.lang_tree.specs.declared.expr.Expr.TheOpen.{Expr-F}
use Rattle.lang_tree.specs.declared.expr.Expr.TheFolds.{fold-roll-Expr}
use Rattle.lang_tree.specs.declared.stmt.Stmt.{Stmt, roll-Stmt}
use Rattle.lang_tree.specs.declared.stmt.Stmt.TheOpen.{Stmt-F}
use Rattle.lang_tree.specs.declared.stmt.Stmt.TheFolds.{fold-roll-Stmt, fold-roll-Block}
use Rattle.lang_tree.specs.declared.stmt.Block.{Block}
use Rattle.lang_tree.specs.declared.program.Route.{Route}
use Rattle.lang_core.specs.declared.value.Value.TheVariants.{Int, Str}
use Rattle.lang_core.specs.declared.request.Response.{Response}
use Rattle.lang_core.specs.declared.setting.Setting.{Setting}
use Rattle.recorded_inputs.specs.Drawing.{drawn, word_after}
use Rattle.lang_values.specs.Values.{Outcome, value_of, value_step, var}
use Rattle.lang_values.specs.Variables.{bind}
use Rattle.lang_values.specs.declared.given.Binding.{Binding}
use Rattle.lang_values.specs.Given.{Given}
use Rattle.handler_run.specs.Runs.{Effect, act, block_step, stmt_of, block_of, in_turn, call_of, reply_of}
use Rattle.handler_run.specs.Handlers.{run_of, finish_of, given, start}
use Rattle.handler_run.specs.declared.state.Ran.{Ran}
use Rattle.handler_run.specs.declared.state.Ran.TheVariants.{Done, Wants}
use Rattle.local_repair.specs.Steps.{tentative}
use Rattle.local_repair.specs.declared.stepped.Stepped.TheVariants.{Ran as RanAgain}
use Rattle.service_events.proofs.PurchaseExample.{shop_name, ok, call, trace, paid_trace}
use Rattle.world_events.specs.Events.{turn, after_events}
use Rattle.world_events.specs.Sound.{IsSound}
use Rattle.world_events.specs.declared.event.Event.TheVariants.{Lose, Step}
use Rattle.world_events.specs.declared.happened.Outcome.TheVariants as came
use Rattle.world_events.specs.declared.happened.What.TheVariants.{CallFailed, RepairStep}
use Rattle.world_laws.proofs.ReplyLost.{tried_trace, tried, world, happens, before_step, after_step, loses, mends}
use Rattle.world_laws.proofs.PurchaseRun.{paying as paid_world, bank_paid, answered, buy, pay, shop_setting, bank_setting, fresh, undone, purchase, undoing, purchases, undoes, purchased_sound, undone_sound}

-- ---- the programs

abbrev text : List ℕ → Expr
text t = roll-Expr (Expr-F.Str t)

abbrev variable : List ℕ → Expr
variable x = roll-Expr (Expr-F.Var x)

abbrev integer : ℤ → Expr
integer n = roll-Expr (Expr-F.Integer n)

abbrev calling : Stmt-F Stmt Block
calling = Stmt-F.Call (codes "s") (codes "b") (text (codes "bank")) PostTo (text (codes "/pay")) (text [])

abbrev answering : Stmt-F Stmt Block
answering = Stmt-F.Reply (variable (codes "s")) (variable (codes "b"))

abbrev thanking : Stmt-F Stmt Block
thanking = Stmt-F.Reply (integer (pos 200)) (text (codes "ok"))

abbrev buying : Block
buying = record { stmts = roll-Stmt calling ∷ (roll-Stmt answering ∷ []) }

abbrev paying : Block
paying = record { stmts = roll-Stmt thanking ∷ [] }

-- both services have both routes: one asks the bank and answers what it says, the other answers ok
abbrev program : List Route
program =
    record { method = PostTo; pattern = codes "/buy"; block = buying } ∷ (record { method = PostTo; pattern = codes "/pay"; block = paying } ∷ [])

-- ---- what they do

module _ (g : Given) where
  text_is : (vars : List Binding) (t : List ℕ) → value_of g vars (text t) ≡ Ok (Str t)
  text_is vars t = fold-roll-Expr Outcome (value_step g vars) (Expr-F.Str t)

  integer_is : (vars : List Binding) (n : ℤ) → value_of g vars (integer n) ≡ Ok (Int n)
  integer_is vars n = fold-roll-Expr Outcome (value_step g vars) (Expr-F.Integer n)

  variable_is : (vars : List Binding) (x : List ℕ) → value_of g vars (variable x) ≡ Ok (var vars x)
  variable_is vars x = fold-roll-Expr Outcome (value_step g vars) (Expr-F.Var x)

  block_is : (stmts : List Stmt) → block_of g [] (record { stmts = stmts }) ≡ in_turn (map (stmt_of g []) stmts)
  block_is stmts = fold-roll-Block Effect Effect (act g []) block_step (record { stmts = stmts })

  call_is : stmt_of g [] (roll-Stmt calling) ≡ call_of g (codes "s") (codes "b") (text (codes "bank")) PostTo (text (codes "/pay")) (text [])
  call_is = fold-roll-Stmt Effect Effect (act g []) block_step calling

  answer_is : stmt_of g [] (roll-Stmt answering) ≡ reply_of g (variable (codes "s")) (variable (codes "b"))
  answer_is = fold-roll-Stmt Effect Effect (act g []) block_step answering

  thanks_is : stmt_of g [] (roll-Stmt thanking) ≡ reply_of g (integer (pos 200)) (text (codes "ok"))
  thanks_is = fold-roll-Stmt Effect Effect (act g []) block_step thanking

module _ (token : List ℕ) where
  abbrev at_shop : Setting
  at_shop = shop_setting program token

  abbrev at_bank : Setting
  at_bank = bank_setting program token

  abbrev shop_given : List Response → Given
  shop_given answers = given at_shop buy (drawn 0 1) answers

  abbrev bank_given : Given
  bank_given = given at_bank pay (drawn 0 1) []

  pays : run_of at_bank pay (drawn 0 1) [] [] ≡ Done (paid_trace at_bank buy pay (drawn 0 1) [] [] token shop_name)
  pays =
      ap (λ (e : Effect). finish_of (e start)) (block_is bank_given (roll-Stmt thanking ∷ []))
      ∙ ap (λ (e : Effect). finish_of (in_turn (e ∷ []) start)) (thanks_is bank_given)
      ∙ (rw (integer_is bank_given [] (pos 200), text_is bank_given [] (codes "ok")) refl)

  -- the shop's two statements
  abbrev two : Effect → Effect → Ran
  two first then = finish_of (in_turn (first ∷ (then ∷ [])) start)

  abbrev then_answers : List Response → Effect
  then_answers answers = stmt_of (shop_given answers) [] (roll-Stmt answering)

  asks : run_of at_shop buy (drawn 0 1) [] [] ≡ Wants 0 [] (call at_shop buy pay (drawn 0 1) [] [] token shop_name)
  asks =
      ap (λ (e : Effect). finish_of (e start)) (block_is (shop_given []) (roll-Stmt calling ∷ (roll-Stmt answering ∷ [])))
      ∙ ap (λ (e : Effect). two e (then_answers [])) (call_is (shop_given []))
      ∙ (rw (text_is (shop_given []) [] (codes "bank"), text_is (shop_given []) [] (codes "/pay"), text_is (shop_given []) [] []) refl)

  abbrev heard : List Binding
  heard = bind (codes "b") (Str ok.body) (bind (codes "s") (Int (pos 200)) [])

  buys : run_of at_shop buy (drawn 0 1) (ok ∷ []) [] ≡ Done (trace at_shop buy pay (drawn 0 1) [] [] token shop_name)
  buys =
      ap (λ (e : Effect). finish_of (e start)) (block_is (shop_given (ok ∷ [])) (roll-Stmt calling ∷ (roll-Stmt answering ∷ [])))
      ∙ ap (λ (e : Effect). two e (then_answers (ok ∷ []))) (call_is (shop_given (ok ∷ [])))
      ∙ (rw (
        text_is (shop_given (ok ∷ [])) [] (codes "bank"),
        text_is (shop_given (ok ∷ [])) [] (codes "/pay"),
        text_is (shop_given (ok ∷ [])) [] [],
        answer_is (shop_given (ok ∷ [])),
        variable_is (shop_given (ok ∷ [])) heard (codes "s"),
        variable_is (shop_given (ok ∷ [])) heard (codes "b"),
      ) refl)

  abbrev nothing_heard : List Binding
  nothing_heard = bind (codes "b") (Str []) (bind (codes "s") (Int (pos 504)) [])

  tries : run_of at_shop buy (drawn 0 1) (tentative ∷ []) [] ≡ Done (tried_trace program token)
  tries =
      ap (λ (e : Effect). finish_of (e start)) (block_is (shop_given (tentative ∷ [])) (roll-Stmt calling ∷ (roll-Stmt answering ∷ [])))
      ∙ ap (λ (e : Effect). two e (then_answers (tentative ∷ []))) (call_is (shop_given (tentative ∷ [])))
      ∙ (rw (
        text_is (shop_given (tentative ∷ [])) [] (codes "bank"),
        text_is (shop_given (tentative ∷ [])) [] (codes "/pay"),
        text_is (shop_given (tentative ∷ [])) [] [],
        answer_is (shop_given (tentative ∷ [])),
        variable_is (shop_given (tentative ∷ [])) nothing_heard (codes "s"),
        variable_is (shop_given (tentative ∷ [])) nothing_heard (codes "b"),
      ) refl)

  -- ---- from the start to the end

  ends : after_events (after_events (fresh program token) (purchase program token)) (undoing program token) ≡ undone program token
  ends = ap (λ w. after_events w (undoing program token)) (purchases program token asks buys pays) ∙ undoes program token

  sound : IsSound (undone program token)
  sound = undone_sound program token (purchased_sound program token asks buys pays)

  -- where the reply is lost: the shop's first answer, and its second
  loss : turn (paid_world program token) (Lose 2)
      ≡ happens program token (world program token (tried program token) (bank_paid program token) (answered program token) (word_after 8 1)) shop_name
      (CallFailed (Ok (came.Done 2 1))) None
  loss = loses program token tries

  mending : turn (before_step program token) (Step shop_name) ≡ happens program token (after_step program token) shop_name (RepairStep (RanAgain 1 true)) None
  mending = mends program token asks buys
