use Rattle.std.proofs.Common.{◌≡◌, ℕ, List, Result, Ok, Err, IfOk, subst}
use Rattle.journal_rows.specs.declared.orders.Command.{Command}
use Rattle.preview_core.specs.Trials.{command_of}
use Rattle.preview_core.proofs.TrialLemmas.{order_is}
use Rattle.preview_core.proofs.trying.order_as.Goals as goal

-- what a clause says of what was answered
given : {X E : Type 0} (P : X → Type 0) (r : Result X E) (x : X) → r ≡ Ok x → IfOk r P → P x
given P (Ok y) x is h = (let same : y ≡ x = cc in subst P same h)
given P (Err why) x is h = cc

pub returns : goal.returns
returns c =
    order_is c.args.copy.now c.order.new.self c.args.trial.now c.in_ok-command.command c.args.token c.in_ok-command.who c.args.who.now c.no_inputs.result c.order.result
    (given (λ (x : Command). x ≡ command_of c.args.trial.now) c.command_of.result c.in_ok-command.command c.in_ok-command.ensures.ok.0 c.command_of.ensures)
    (given (λ (x : List ℕ). x ≡ c.args.who.now) c.copied.result c.in_ok-command.who c.in_ok-command.ensures.ok.1 c.copied.ensures)
    c.order.ensures.does
