-- Orders that are drafted: what a command's resolution says of it, and what comes of the draft.
use Rattle.std.proofs.Common.{◌≡◌, ◌∙◌, sym, ap, subst, refl, ℕ, Bool, true, false, List, Option, Some, None, Result, Ok, Err, IfOk, IfErr}
use Rattle.lang_base.specs.Memory.{Unless}
use Rattle.lang_core.specs.declared.inputs.Inputs.{Inputs}
use Rattle.authorise_rules.specs.declared.asked.Decision.{Decision}
use Rattle.authorise_rules.specs.declared.asked.Decision.TheVariants.{Allow, Deny}
use Rattle.journal_rows.specs.Words.{ordered}
use Rattle.journal_rows.specs.declared.orders.Command.{Command}
use Rattle.journal_rows.specs.declared.orders.Command.TheVariants.{Cancel, Restore, Replace, Create, Retry, Fold, Deploy, Correct, Rules}
use Rattle.service_events.specs.State.{Kept, after, or_else}
use Rattle.service_events.specs.Calls.{noted}
use Rattle.service_events.specs.Doing.{Does, order_memory}
use Rattle.service_events.specs.Questions.{rule_of}
use Rattle.service_events.specs.Orders.{about, carried_out, order_by, order_event, order_rows, order_rule, order_where, refused, unless_allowed}
use Rattle.service_events.specs.declared.answers.Ordered.{Ordered}
use Rattle.service_events.specs.declared.refusals.OrderRefused.{OrderRefused}
use Rattle.service_parts.specs.Drafts.{TellNoCall}
use Rattle.service_parts.specs.Parts.{kept}
use Rattle.service_parts.specs.Services.{HasRoom, IsService}
use Rattle.service_parts.specs.declared.parts.Parts.{Parts}
use Rattle.service_parts.proofs.ServiceLaws.{same_service}
use Rattle.service_repairs.specs.Ordering.{admission, admitted, allowed_rows, decision_on, unless_carried, IsDraft}
use Rattle.service_repairs.specs.Resolving.{Resolution, resolution}
use Rattle.service_repairs.specs.declared.ordering.OrderDraft.{OrderDraft}
use Rattle.service_repairs.proofs.OrderLemmas.{orders_tell_none}
use Rattle.service_repairs.proofs.RepairLemmas.{order_service}

-- what isn't refused, rules allowed
admitted_by : (o : Option OrderRefused) (d : Decision) (rule : ℕ) → admitted o d ≡ Ok rule → (or_else o (unless_allowed d) ≡ None) × (rule ≡ rule_of d)
admitted_by (Some why) d rule is = cc
admitted_by None (Allow n) rule is = (refl, cc)
admitted_by None (Deny n) rule is = cc

refused_by : (o : Option OrderRefused) (d : Decision) (why : OrderRefused) → admitted o d ≡ Err why → or_else o (unless_allowed d) ≡ Some why
refused_by (Some w) d why is = cc
refused_by None (Allow n) why is = cc
refused_by None (Deny n) why is = cc

-- what is asked of a command's resolution is what is asked of the command
refusals_are : (s : Kept) (command : Command) (who : List ℕ)
    → or_else (unless_carried s (resolution s command)) (unless_allowed (decision_on s (resolution s command) who)) ≡ refused s command who
refusals_are s (Cancel id) who = refl
refusals_are s (Restore id) who = refl
refusals_are s (Replace id method path body) who = refl
refusals_are s (Create before after q) who = refl
refusals_are s (Retry name) who = refl
refusals_are s (Fold id) who = refl
refusals_are s (Deploy p) who = refl
refusals_are s (Correct k p) who = refl
refusals_are s (Rules g) who = refl

rule_on : (s : Kept) (command : Command) (who : List ℕ) → rule_of (decision_on s (resolution s command) who) ≡ order_rule s command who
rule_on s (Cancel id) who = refl
rule_on s (Restore id) who = refl
rule_on s (Replace id method path body) who = refl
rule_on s (Create before after q) who = refl
rule_on s (Retry name) who = refl
rule_on s (Fold id) who = refl
rule_on s (Deploy p) who = refl
rule_on s (Correct k p) who = refl
rule_on s (Rules g) who = refl

rows_are : (s : Kept) (command : Command) (token who : List ℕ) (i : Inputs)
    → allowed_rows s (resolution s command) token who i (order_rule s command who) ≡ order_rows s command token who i
rows_are s (Cancel id) token who i = refl
rows_are s (Restore id) token who i = refl
rows_are s (Replace id method path body) token who i = refl
rows_are s (Create before after q) token who i = refl
rows_are s (Retry name) token who i = refl
rows_are s (Fold id) token who i = refl
rows_are s (Deploy p) token who i = refl
rows_are s (Correct k p) token who i = refl
rows_are s (Rules g) token who i = refl

module _ (s : Kept) (command : Command) (who : List ℕ) where
  none_refuses : (rule : ℕ) → admission s (resolution s command) who ≡ Ok rule → refused s command who ≡ None
  none_refuses rule is =
      sym (refusals_are s command who) ∙ (admitted_by (unless_carried s (resolution s command)) (decision_on s (resolution s command) who) rule is).0

  -- the rule that allowed it is that of the decision
  rule_is : (rule : ℕ) → admission s (resolution s command) who ≡ Ok rule → rule ≡ order_rule s command who
  rule_is rule is =
      (admitted_by (unless_carried s (resolution s command)) (decision_on s (resolution s command) who) rule is).1 ∙ rule_on s command who

  module _ (r : Resolution) (resolved : r ≡ resolution s command) where
    asked : admission s r who ≡ admission s (resolution s command) who
    asked = ap (λ x. admission s x who) resolved

    pub refused_for : (why : OrderRefused) → Err why ≡ admission s r who → refused s command who ≡ Some why
    refused_for why is =
        sym (refusals_are s command who)
        ∙ refused_by (unless_carried s (resolution s command)) (decision_on s (resolution s command) who) why (sym (is ∙ asked))

    pub draft_is : (token : List ℕ) (i : Inputs) (rule : ℕ) (d : OrderDraft) → Ok rule ≡ admission s r who → d.ordered.about ≡ r.about → d.ordered.rule ≡ rule
        → d.rows.items ≡ allowed_rows s r token who i rule → IsDraft s command token who i d
    draft_is token i rule d is names by rows =
        let allowed : admission s (resolution s command) who ≡ Ok rule = sym (is ∙ asked) in
        record {
          allowed = none_refuses rule allowed;
          about = names ∙ ap (λ (x : Resolution). x.about) resolved;
          rule = by ∙ rule_is rule allowed;
          rows = rows ∙ ap (λ x. allowed_rows s x token who i rule) resolved
              ∙ ap (allowed_rows s (resolution s command) token who i) (rule_is rule allowed) ∙ rows_are s command token who i;
        }

  module _ (token : List ℕ) (i : Inputs) where
    whole : (o : Option OrderRefused) → ordered token s.journal ≡ None → refused s command who ≡ o → order_event s command token who i ≡ order_by s command token who i o
    whole o new is = ap (order_where s command token who i) new ∙ ap (order_by s command token who i) is

    -- one that is refused changes nothing
    pub refused_does : (why : OrderRefused) → ordered token s.journal ≡ None → (order_memory why ≡ false → refused s command who ≡ Some why)
        → Does order_memory (order_event s command token who i) s (Err why) s
    refused_does why new is = by (order_memory why) refl
      where
        by : (lacking : Bool) → order_memory why ≡ lacking → Unless lacking (after s (Err why) ≡ order_event s command token who i) (s ≡ s)
        by true e = refl
        by false e = sym (whole (Some why) new (is e))

    -- one that isn't refused leaves what it carries out and notes, and answers what it is about
    accepted_is : (s' : Kept) (d : OrderDraft) → ordered token s.journal ≡ None → IsDraft s command token who i d
        → s' ≡ noted d.rows.items (carried_out s command who i) → after s' (Ok d.ordered) ≡ order_event s command token who i
    accepted_is s' d new draft is =
        ap (λ k. after k (Ok d.ordered)) (is ∙ ap (λ rows. noted rows (carried_out s command who i)) draft.rows)
        ∙ ap (λ a. after (noted (order_rows s command token who i) (carried_out s command who i)) (Ok (record { about = a; rule = d.ordered.rule }))) draft.about
        ∙ ap (λ r. after (noted (order_rows s command token who i) (carried_out s command who i)) (Ok (record { about = about s command; rule = r }))) draft.rule
        ∙ sym (whole None new draft.allowed)

    -- what was drafted is carried out and answered, or for want of memory nothing changed
    pub accepted_does : (s' : Kept) (d : OrderDraft) (result : Result Ordered OrderRefused) → ordered token s.journal ≡ None → IsDraft s command token who i d
        → IfOk result (λ o. (o ≡ d.ordered) × (s' ≡ noted d.rows.items (carried_out s command who i)))
        → IfErr result (λ why. (why ≡ OrderRefused.NoMemory) × (s' ≡ s)) → Does order_memory (order_event s command token who i) s result s'
    accepted_does s' d (Ok o) new draft ok err = ap (λ a. after s' (Ok a)) ok.0 ∙ accepted_is s' d new draft ok.1
    accepted_does s' d (Err why) new draft ok err =
        subst (λ lacking. Unless lacking (after s' (Err why) ≡ order_event s command token who i) (s' ≡ s)) (sym (ap order_memory err.0)) err.1

-- what was drafted tells of no call
pub drafted_tells_none : (s : Kept) (command : Command) (token who : List ℕ) (i : Inputs) (d : OrderDraft) → IsDraft s command token who i d
    → TellNoCall d.rows.items
drafted_tells_none s command token who i d draft = subst TellNoCall (sym draft.rows) (orders_tell_none s command token who i)

pub accepted_service : (p p' : Parts) (command : Command) (token who : List ℕ) (i : Inputs) (d : OrderDraft) (result : Result Ordered OrderRefused)
    → IsService p → ordered token p.journal.rows ≡ None → IsDraft (kept p) command token who i d
    → IfOk result (λ o. (o ≡ d.ordered) × (kept p' ≡ noted d.rows.items (carried_out (kept p) command who i)))
    → IfErr result (λ why. (why ≡ OrderRefused.NoMemory) × (kept p' ≡ kept p)) → HasRoom p' → IsService p'
accepted_service p p' command token who i d (Ok o) h new draft ok err room =
    order_service p p' command token who i d.ordered h (accepted_is (kept p) command who token i (kept p') d new draft ok.1) room
accepted_service p p' command token who i d (Err why) h new draft ok err room = same_service p p' err.1 room h
