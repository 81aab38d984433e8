-- An order leaves what a service is set to do.
use Rattle.std.proofs.Common.{◌≡◌, ℕ, List, Option, Some, None, refl}
use Rattle.lang_core.specs.declared.inputs.Inputs.{Inputs}
use Rattle.repair_messages.specs.declared.posts.PostName.{PostName}
use Rattle.repair_messages.specs.declared.posts.PostName.TheVariants.{Call, Reply, Fetch}
use Rattle.journal_rows.specs.declared.orders.Command.{Command}
use Rattle.journal_rows.specs.declared.orders.Command.TheVariants.{Cancel, Restore, Replace, Create, Retry, Fold, Deploy, Correct, Rules}
use Rattle.journal_rows.specs.declared.orders.OrderedRow.{OrderedRow}
use Rattle.journal_rows.specs.Words.{ordered}
use Rattle.service_events.specs.Orders.{carried_out, order_by, order_event, order_where, refused, released_post}
use Rattle.service_events.specs.State.{Kept}
use Rattle.service_events.specs.declared.refusals.OrderRefused.{OrderRefused}

released_setting : (who : List ℕ) (name : PostName) (s : Kept) → (released_post who name s).setting ≡ s.setting
released_setting who (Call number) s = refl
released_setting who (Reply id) s = refl
released_setting who (Fetch number) s = refl

carried_setting : (s : Kept) (command : Command) (who : List ℕ) (i : Inputs) → (carried_out s command who i).setting ≡ s.setting
carried_setting s (Cancel id) who i = refl
carried_setting s (Restore id) who i = refl
carried_setting s (Replace id method path body) who i = refl
carried_setting s (Create before after q) who i = refl
carried_setting s (Retry name) who i = released_setting who name s
carried_setting s (Fold id) who i = refl
carried_setting s (Deploy p) who i = refl
carried_setting s (Correct k p) who i = refl
carried_setting s (Rules g) who i = refl

module _ (s : Kept) (command : Command) (token who : List ℕ) (i : Inputs) where
  setting_by : (why : Option OrderRefused) → (order_by s command token who i why).service.setting ≡ s.setting
  setting_by (Some why) = refl
  setting_by None = carried_setting s command who i

  setting_where : (known : Option OrderedRow) → (order_where s command token who i known).service.setting ≡ s.setting
  setting_where (Some o) = refl
  setting_where None = setting_by (refused s command who)

  pub order_setting : (order_event s command token who i).service.setting ≡ s.setting
  order_setting = setting_where (ordered token s.journal)
