-- Why an order is refused, or which rule allows it; what it leaves where it is accepted, and what it needs of a service that is to carry
-- it out.
use Rattle.std.specs.Prelude.{ℕ, ◌≡◌, List, [], ◌∷◌, Option, Some, None, Result, Ok, Err, find, option_map}
use Rattle.lang_core.specs.declared.ids.Origin.TheVariants.{Outside}
use Rattle.lang_core.specs.declared.inputs.Inputs.{Inputs}
use Rattle.request_log.specs.Entries.{has_id}
use Rattle.authorise_rules.specs.Deciding.{decision}
use Rattle.authorise_rules.specs.declared.asked.Decision.{Decision}
use Rattle.authorise_rules.specs.declared.asked.Decision.TheVariants.{Allow, Deny}
use Rattle.journal_rows.specs.declared.orders.Command.{Command}
use Rattle.journal_rows.specs.declared.row.Row.{Row}
use Rattle.journal_rows.specs.declared.row.Row.TheVariants.{Asked, Ordered as OrderedAs}
use Rattle.service_events.specs.State.{Kept, next_id, or_else}
use Rattle.service_events.specs.Questions.{question_about}
use Rattle.service_events.specs.Orders.{about, is_too_much, misnamed, order_rows, order_rule, refused, unless_quiet}
use Rattle.service_events.specs.declared.refusals.OrderRefused.{OrderRefused}
use Rattle.service_events.specs.declared.refusals.OrderRefused.TheVariants.{Denied, Full}
use Rattle.service_repairs.specs.Resolving.{Creation, Resolution}
use Rattle.service_repairs.specs.declared.ordering.OrderDraft.{OrderDraft}

-- why it can't be carried out, whoever may order it
abbrev pub unless_carried : Kept → Resolution → Option OrderRefused
unless_carried s r = or_else (or_else r.misnamed (unless_quiet s r.command)) (option_map (λ n. Full n) (is_too_much s r.command))

-- what the service's rules decide of it
abbrev pub decision_on : Kept → Resolution → List ℕ → Decision
decision_on s r who = decision s.rules.rules (question_about r.kind None who r.subject r.repaired)

-- the rule that allows it, or the one that denies it
abbrev pub allowance : Decision → Result ℕ OrderRefused
allowance (Allow rule) = Ok rule
allowance (Deny rule) = Err (Denied rule)

-- why it is refused, or which rule allows it
abbrev pub admitted : Option OrderRefused → Decision → Result ℕ OrderRefused
admitted (Some why) d = Err why
admitted None d = allowance d

abbrev pub admission : Kept → Resolution → List ℕ → Result ℕ OrderRefused
admission s r who = admitted (unless_carried s r) (decision_on s r who)

-- ---- what an accepted one leaves

-- the row of the entry that it makes, if it makes one
abbrev pub made_rows : Kept → Option Creation → Inputs → List Row
made_rows s None i = []
made_rows s (Some c) i =
    Asked (record { id = next_id s; origin = Outside; request = c.request; inputs = i; program = c.program }) ∷ []

-- the rows of one that this rule allowed
abbrev pub allowed_rows : Kept → Resolution → List ℕ → List ℕ → Inputs → ℕ → List Row
allowed_rows s r token who i rule =
    OrderedAs (record {
      token = token;
      command = r.command;
      who = who;
      rule = rule;
      original = r.original;
      repaired = r.repaired;
      about = r.about;
    }) ∷ made_rows s r.created i

-- nothing refuses the order, and this is its answer, with its rows
pub record IsDraft (s : Kept) (command : Command) (token who : List ℕ) (i : Inputs) (d : OrderDraft) : Type 0 where
  pub allowed : refused s command who ≡ None
  pub about : d.ordered.about ≡ about s command
  pub rule : d.ordered.rule ≡ order_rule s command who
  pub rows : d.rows.items ≡ order_rows s command token who i

-- what the order names is there, what it folds is quiet, and the next entry is a new one
pub record MayOrder (s : Kept) (command : Command) : Type 0 where
  pub named : misnamed s command ≡ None
  pub quiet : unless_quiet s command ≡ None
  pub id : find (has_id (next_id s)) s.entries ≡ None
