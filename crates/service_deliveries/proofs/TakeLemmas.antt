-- Why a version isn't taken, or by which rule, and what taking it leaves and answers.
use Rattle.std.proofs.Common.{◌≡◌, ◌∙◌, sym, ap, refl, subst, ℕ, ◌≤◌, Bool, true, false, cond, List, find, length, Option, Some, None, Result, Ok, Err, IfOk, OnOk, OnErr, is_some, option_map}
use Rattle.lang_base.specs.declared.memory.NoMemory.{NoMemory}
use Rattle.lang_core.specs.declared.inputs.Inputs.{Inputs}
use Rattle.lang_core.specs.declared.request.Request.{Request}
use Rattle.request_log.specs.Entries.{has_id, find_call, IsNew, has_origin}
use Rattle.request_log.specs.declared.entry.Entry.{Entry}
use Rattle.local_repair.specs.Repairs.{Amends, KeptRepairer}
use Rattle.repair_messages.specs.declared.messages.SetMessage.{SetMessage}
use Rattle.authorise_rules.specs.declared.asked.Decision.{Decision}
use Rattle.authorise_rules.specs.declared.asked.Decision.TheVariants.{Allow, Deny}
use Rattle.journal_rows.specs.declared.row.Row.{Row}
use Rattle.call_registers.specs.Replies.{IsAboveAll, at_entry, made_due}
use Rattle.call_registers.specs.declared.reply.Reply.{Reply}
use Rattle.service_events.specs.State.{Kept, After, after, is_in_flight, next_id, folded, unfolded}
use Rattle.service_events.specs.Calls.{noted}
use Rattle.service_events.specs.Fits.{Fits}
use Rattle.service_events.specs.Questions.{is_denied, rule_of}
use Rattle.service_events.specs.Messages.{acked_again, at_version, created_entry, created_reply, is_known, is_too_much, origin_of, take_admitted, take_allowed, take_decision, take_event, take_rule, taken, at_reply_of, take_unless_past}
use Rattle.service_events.specs.declared.answers.Taken.{Taken}
use Rattle.service_events.specs.declared.event.Event.TheVariants as events
use Rattle.service_events.specs.declared.refusals.TakeRefused.{TakeRefused}
use Rattle.service_events.specs.declared.refusals.TakeRefused.TheVariants.{NotYet, Denied}
use Rattle.service_events.proofs.EntryLemmas.{found_by_call}
use Rattle.service_events.proofs.FreshLemmas.{unfound, below_next}
use Rattle.service_events.proofs.PartLemmas.{logged}
use Rattle.service_events.proofs.ReplyLemmas.{above_all}
use Rattle.service_events.proofs.SearchLemmas.{some_and}
use Rattle.service_parts.specs.Parts.{kept, whole_log}
use Rattle.service_parts.specs.Services.{HasRoom, IsService}
use Rattle.service_parts.specs.declared.parts.Parts.{Parts}
use Rattle.service_parts.specs.Drafts.{TellNoCall}
use Rattle.service_parts.proofs.ServiceLaws.{event_service, same_service}
use Rattle.service_deliveries.specs.TakeChanges.{admission, allowance, changed_by, left_by, unless_much, CanChange, CanCreate, Leaves, unless_past_entry}
use Rattle.service_deliveries.specs.declared.take_changes.Taking.{Taking}
use Rattle.std.specs.Option.{option_map_or}
use Rattle.service_events.proofs.HorizonLemmas.{number_past}
use Rattle.service_events.proofs.StepLaw.{apart_behind}
use Rattle.service_deliveries.specs.declared.take_changes.TakeChange.TheVariants.{Amend}

-- ---- taken, or not

module _ (s : Kept) (set : SetMessage) (i : Inputs) where
  -- what the event leaves, by the rule by which the version is taken or why it isn't
  abbrev taken_as : Result (Option ℕ) TakeRefused → After (Result Taken TakeRefused)
  taken_as (Err why) = after s (Err why)
  taken_as (Ok None) = after (acked_again s set) (Ok (taken set None))
  taken_as (Ok (Some rule)) = take_allowed s set i

  allowed : (d : Decision) → taken_as (allowance d) ≡ cond (is_denied d) (after s (Err (Denied (rule_of d)))) (take_allowed s set i)
  allowed (Allow rule) = refl
  allowed (Deny rule) = refl

  new_by : (o : Option Entry) → taken_as (unless_past_entry o (allowance (take_decision s set))) ≡ take_unless_past s set i o
  new_by (Some e) = refl
  new_by None = allowed (take_decision s set)

  admitted_by : (known : Bool) (o : Option Entry) → taken_as (cond known (Ok None) (unless_past_entry o (allowance (take_decision s set))))
      ≡ cond known (after (acked_again s set) (Ok (taken set None))) (take_unless_past s set i o)
  admitted_by true o = refl
  admitted_by false o = new_by o

  much_by : (much : Option ℕ) → taken_as (unless_much s set much) ≡ take_admitted s set i much
  much_by (Some n) = refl
  much_by None = admitted_by (is_known s set) (find_call (origin_of set) (folded s))

  landed_by : (flies : Bool) → flies ≡ false → take_admitted s set i (is_too_much s set) ≡ cond flies (after s (Err (NotYet set.number))) (take_admitted s set i (is_too_much s set))
  landed_by true landed = cc
  landed_by false landed = refl

  flying_by : (flies : Bool) → flies ≡ true → after s (Err (NotYet set.number)) ≡ cond flies (after s (Err (NotYet set.number))) (take_admitted s set i (is_too_much s set))
  flying_by true flies = refl
  flying_by false flies = cc

  -- where its call is in flight, it is refused
  pub flying_is : is_in_flight (origin_of set) s ≡ true → after s (Err (NotYet set.number)) ≡ take_event s set i
  flying_is flies = flying_by (is_in_flight (origin_of set) s) flies

  module _ (landed : is_in_flight (origin_of set) s ≡ false) where
    event_is : (r : Result (Option ℕ) TakeRefused) → admission s set ≡ r → taken_as r ≡ take_event s set i
    event_is r is = ap taken_as (sym is) ∙ much_by (is_too_much s set) ∙ landed_by (is_in_flight (origin_of set) s) landed

    -- refused so, it changes nothing
    pub refused_is : (why : TakeRefused) → admission s set ≡ Err why → after s (Err why) ≡ take_event s set i
    refused_is why is = event_is (Err why) is

    -- a version that is known
    pub again_is : admission s set ≡ Ok None → after (acked_again s set) (Ok (taken set None)) ≡ take_event s set i
    again_is is = event_is (Ok None) is

    -- one that is allowed
    pub newer_is : (rule : ℕ) → admission s set ≡ Ok (Some rule) → take_allowed s set i ≡ take_event s set i
    newer_is rule is = event_is (Ok (Some rule)) is

-- the rule that allowed it is that of the decision
allowed_rule : (rule : ℕ) (d : Decision) → allowance d ≡ Ok (Some rule) → rule ≡ rule_of d
allowed_rule rule (Allow n) is = cc
allowed_rule rule (Deny n) is = cc

-- and its call's entry isn't folded
admitted_rule : (rule : ℕ) (known : Bool) (o : Option Entry) (d : Decision) → cond known (Ok None) (unless_past_entry o (allowance d)) ≡ Ok (Some rule) → (rule ≡ rule_of d) × (o ≡ None)
admitted_rule rule true o d is = cc
admitted_rule rule false (Some e) d is = cc
admitted_rule rule false None d is = (allowed_rule rule d is, refl)

much_rule : (s : Kept) (set : SetMessage) (rule : ℕ) (much : Option ℕ) → unless_much s set much ≡ Ok (Some rule)
    → (rule ≡ take_rule s set) × (find_call (origin_of set) (folded s) ≡ None)
much_rule s set rule (Some n) is = cc
much_rule s set rule None is = admitted_rule rule (is_known s set) (find_call (origin_of set) (folded s)) (take_decision s set) is

pub rule_is : (s : Kept) (set : SetMessage) (rule : ℕ) → admission s set ≡ Ok (Some rule) → rule ≡ take_rule s set
rule_is s set rule is = (much_rule s set rule (is_too_much s set) is).0

pub recent_is : (s : Kept) (set : SetMessage) (rule : ℕ) → admission s set ≡ Ok (Some rule) → find_call (origin_of set) (folded s) ≡ None
recent_is s set rule is = (much_rule s set rule (is_too_much s set) is).1

-- ---- what is drafted

-- where its parts are these
pub leaves_of : (s left : Kept) (t : Taking) (answer : Taken) (rows : List Row) → t.taken ≡ answer → t.rows.items ≡ rows → changed_by s t.change ≡ left
    → TellNoCall rows → CanChange s t.change → Leaves s t (after (noted rows left) (Ok answer))
leaves_of s left t answer rows answers noting changes plain can = record {
  is = ap (λ k. after (noted t.rows.items k) (Ok t.taken)) changes
      ∙ ap (λ r. after (noted r left) (Ok t.taken)) noting
      ∙ ap (λ k. after (noted rows left) (Ok k)) answers;
  can = can;
  plain = subst TellNoCall (sym noting) plain;
}

-- and so of what is the same
pub leaves_same : (s : Kept) (t : Taking) (a b : After (Result Taken TakeRefused)) → a ≡ b → Leaves s t a → Leaves s t b
leaves_same s t a b same h = record { is = h.is ∙ same; can = h.can; plain = h.plain }

-- the entry of the call, which isn't folded, can have this version
pub can_amend : (s : Kept) (set : SetMessage) (e : Entry) (since : ℕ) → Fits s → find_call (origin_of set) (folded s) ≡ None → find_call (origin_of set) (unfolded s) ≡ Some e
    → CanChange s (Amend (at_version set e) since)
can_amend s set e since fits recent found = (
  some_and (find (has_id e.id) (unfolded s)) e (λ old. Amends old (at_version set e))
      (found_by_call (unfolded s) set.caller set.number e (apart_behind s fits.asked.distinct) found).1 refl,
  number_past s (has_origin set.caller set.number) e fits.asked.distinct found,
)

-- an entry can be made of a call that has none
pub can_create : (s : Kept) (set : SetMessage) (q : Request) (i : Inputs) (at : ℕ) (e : Entry) (p : Reply) → Fits s → find_call (origin_of set) s.entries ≡ None
    → at ≤ length (unfolded s) → e ≡ created_entry s set q i → p ≡ created_reply s set → CanCreate s at e p
can_create s set q i at e p fits none within entry reply =
    let l = logged s fits in
    record {
      within = within;
      is_new = subst (λ e. IsNew e s.entries) (sym entry) (record { id = unfound s.journal s.entries s.replies l; origin = none });
      above = subst (λ (p : Reply). IsAboveAll p.id s.replies) (sym reply) (above_all (next_id s) s.replies (below_next s.journal s.entries s.replies l));
    }

-- ---- what is found

-- no entry is there exactly where no request of one is
pub none_asked : (o : Option Entry) → is_some (option_map (λ (e : Entry). e.request) o) ≡ is_some o
none_asked None = refl
none_asked (Some e) = refl

-- the reply of what is found, by its number
due_by : (o : Option Entry) (f : Reply → Reply) (replies : List Reply) → at_reply_of o f replies ≡ option_map_or (λ id. at_entry id f replies) (option_map (λ (e : Entry). e.id) o) replies
due_by None f replies = refl
due_by (Some e) f replies = refl

-- it is due, from the journal's next row on
pub due_again_is : (s : Kept) (set : SetMessage) (id : Option ℕ) (since : ℕ) → id ≡ option_map (λ (e : Entry). e.id) (find_call (origin_of set) s.entries) → since ≡ length s.journal
    → record s { replies = option_map_or (λ n. at_entry n (made_due since) s.replies) id s.replies }
    ≡ record s { replies = at_reply_of (find_call (origin_of set) s.entries) (made_due (length s.journal)) s.replies }
due_again_is s set id since found now =
    ap (λ (k : ℕ). record s { replies = option_map_or (λ n. at_entry n (made_due k) s.replies) id s.replies }) now
    ∙ ap (λ (o : Option ℕ). record s { replies = option_map_or (λ n. at_entry n (made_due (length s.journal)) s.replies) o s.replies }) found
    ∙ ap (λ (ps : List Reply). record s { replies = ps }) (sym (due_by (find_call (origin_of set) s.entries) (made_due (length s.journal)) s.replies))

-- ---- what is put in place

-- the log has these entries behind the folded ones, which stay, and the replies are these
pub changed_so : (p : Parts) (r : KeptRepairer) (es : List Entry) (ps qs : List Reply) → whole_log r ≡ es → r.folded ≡ p.repairer.folded → r.base ≡ p.repairer.base → ps ≡ qs
    → record (kept p) { entries = whole_log r; horizon = length r.folded; base = r.base; replies = ps } ≡ record (kept p) { entries = es; replies = qs }
changed_so p r es ps qs entries folded base replies = (λ i. record (kept p) { entries = entries i; horizon = length (folded i); base = base i; replies = replies i })

-- the same, unless memory is wanting
pub changed_or_not : {X E : Type 0} (p : Parts) (r : KeptRepairer) (es : List Entry) (ps qs : List Reply) (result : Result X E) → OnOk result (whole_log r ≡ es)
    → r.folded ≡ p.repairer.folded → r.base ≡ p.repairer.base → OnOk result (ps ≡ qs)
    → OnOk result (record (kept p) { entries = whole_log r; horizon = length r.folded; base = r.base; replies = ps } ≡ record (kept p) { entries = es; replies = qs })
changed_or_not p r es ps qs (Ok x) entries folded base replies = changed_so p r es ps qs entries folded base replies
changed_or_not p r es ps qs (Err why) entries folded base replies = tt

pub put_is : (s s' : Kept) (t : Taking) (result : Result Taken NoMemory) (event : After (Result Taken TakeRefused)) → Leaves s t event
    → OnOk result (s' ≡ left_by s t) → IfOk result (λ answer. answer ≡ t.taken) → IfOk result (λ answer. after s' (Ok answer) ≡ event)
put_is s s' t (Ok answer) event drafts left answers =
    ap (λ k. after k (Ok answer)) left ∙ ap (λ (a : Taken). after (left_by s t) (Ok a)) answers ∙ drafts.is
put_is s s' t (Err why) event drafts left answers = tt

-- ---- what is left is a service

pub take_service : (p p' : Parts) (set : SetMessage) (i : Inputs) (result : Result Taken NoMemory) → IsService p
    → IfOk result (λ answer. after (kept p') (Ok answer) ≡ take_event (kept p) set i) → OnErr result (kept p' ≡ kept p)
    → HasRoom p' → IsService p'
take_service p p' set i (Ok answer) h is err room =
    event_service p p' (events.Take set i) (ap (λ (a : After (Result Taken TakeRefused)). a.service) is) room h
take_service p p' set i (Err why) h is err room = same_service p p' err room h
