-- Why an order can't be about the entry that it names: by what is found among the folded entries, and behind them.
use Rattle.std.proofs.Common.{◌≡◌, ℕ, Bool, Option, Some, None, find, is_some, refl, sym, ap, ◌∙◌}
use Rattle.request_log.specs.Entries.{has_id}
use Rattle.request_log.specs.Folded.{has_number}
use Rattle.request_log.specs.declared.entry.Entry.{Entry}
use Rattle.request_log.specs.declared.folded.Folded.{Folded}
use Rattle.service_events.specs.Orders.{entry_of, unless_outside, unless_past, unless_present, unless_replaced}
use Rattle.service_events.specs.State.{Kept, folded, or_else, unfolded, where_needed}
use Rattle.service_events.specs.declared.refusals.OrderRefused.{OrderRefused}
use Rattle.service_events.proofs.HorizonLemmas.{all_entries, found_past, none_front}
use Rattle.service_parts.specs.Parts.{kept}
use Rattle.service_parts.specs.declared.parts.Parts.{Parts}
use Rattle.service_parts.proofs.WholeLemmas.{past_entry_is, unfolded_kept}

-- by the folded entry that has its number, if one has it
pub past_by : (p : Parts) (id : ℕ) (o : Option Folded) → o ≡ find (has_number id) p.repairer.folded
    → where_needed (is_some o) (Some (OrderRefused.TooOld id)) ≡ unless_past id (kept p)
past_by p id o found = ap (λ (b : Bool). where_needed b (Some (OrderRefused.TooOld id))) (ap is_some found ∙ sym (past_entry_is p id))

none_by : (id : ℕ) (o : Option Entry) → where_needed (is_some o) (Some (OrderRefused.TooOld id)) ≡ None → o ≡ None
none_by id None recent = refl
none_by id (Some e) recent = cc

-- one that isn't folded is found behind the folded ones
pub behind_by : (p : Parts) (id : ℕ) (o : Option Entry) → unless_past id (kept p) ≡ None → o ≡ find (has_id id) p.repairer.entries → o ≡ entry_of id (kept p)
behind_by p id o recent found =
    let s : Kept = kept p in
    found ∙ ap (find (has_id id)) (sym (unfolded_kept p)) ∙ sym (found_past s (has_id id) (none_by id (find (has_id id) (folded s)) recent))

-- one that is folded is there
past_there : (s : Kept) (id : ℕ) (why : OrderRefused) → unless_past id s ≡ Some why → entry_of id s ≡ None → ⊥
past_there s id why past none =
    let recent : find (has_id id) (folded s) ≡ None = none_front (has_id id) (folded s) (unfolded s) (ap (find (has_id id)) (all_entries s) ∙ none) in
    let never : None ≡ Some why = ap (λ (o : Option Entry). where_needed (is_some o) (Some (OrderRefused.TooOld id))) (sym recent) ∙ past in
    cc

pub past_present : (s : Kept) (id : ℕ) (why : OrderRefused) → unless_past id s ≡ Some why → Some why ≡ unless_present id s (entry_of id s)
past_present s id why past = by (entry_of id s) refl
  where
    by : (o : Option Entry) → entry_of id s ≡ o → Some why ≡ unless_present id s o
    by None is = absurd (past_there s id why past is)
    by (Some e) is = sym past

pub past_replaced : (s : Kept) (id : ℕ) (why : OrderRefused) → unless_past id s ≡ Some why → Some why ≡ unless_replaced id s (entry_of id s)
past_replaced s id why past = by (entry_of id s) refl
  where
    by : (o : Option Entry) → entry_of id s ≡ o → Some why ≡ unless_replaced id s o
    by None is = absurd (past_there s id why past is)
    by (Some e) is = ap (λ (o : Option OrderRefused). or_else o (unless_outside id e.origin)) (sym past)

-- one that isn't folded, and comes from here
pub recent_replaced : (s : Kept) (id : ℕ) (e : Entry) → unless_past id s ≡ None → unless_outside id e.origin ≡ unless_replaced id s (Some e)
recent_replaced s id e recent = ap (λ (o : Option OrderRefused). or_else o (unless_outside id e.origin)) (sym recent)
