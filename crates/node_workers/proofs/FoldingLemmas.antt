-- An order to fold that a service makes by itself.
use Rattle.std.proofs.Common.{◌≡◌, ◌∙◌, ℕ, List, ap, inl, inr, subst}
use Rattle.lang_core.specs.declared.inputs.Inputs.{Inputs}
use Rattle.journal_rows.specs.declared.orders.Command.TheVariants.{Fold}
use Rattle.service_events.specs.declared.event.Event.{Event as NodeEvent}
use Rattle.service_events.specs.declared.event.Event.TheVariants as events
use Rattle.node_core.specs.declared.notes.Notes.{Notes}
use Rattle.node_core.specs.declared.receipt.Receipt.{Receipt}
use Rattle.node_workers.specs.Folding.{FoldsOnce, fold_token, own_fold}
use Rattle.node_workers.specs.Turns.{Made, MakesOnce}

-- its event was made once or not at all, under such a token and in the service's name
pub folds_made : (name : List ℕ) (id number : ℕ) (token who : List ℕ) (i : Inputs) (before now : Notes) (had have : List Receipt)
    → token ≡ fold_token number → who ≡ name → MakesOnce name (events.Order (Fold id) token who i) before now had have → FoldsOnce name before now had have
folds_made name id number token who i before now had have spelled mine (inl none) = inl none
folds_made name id number token who i before now had have spelled mine (inr once) =
    let event : events.Order (Fold id) token who i ≡ own_fold name id number i =
    ap (λ (t : List ℕ). events.Order (Fold id) t who i) spelled ∙ ap (λ (w : List ℕ). events.Order (Fold id) (fold_token number) w i) mine in
    inr (record {
      id = id;
      number = number;
      inputs = i;
      done = once.0;
      made = subst (λ (e : NodeEvent). Made name before now had have e once.0) event once.1;
    })
