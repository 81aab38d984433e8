-- Why a version of a call isn't taken, or which rule allows it; what taking it is to leave and to answer.
use Rattle.std.specs.Prelude.{ℕ, ◌≡◌, ◌≤◌, [], ◌∷◌, ◌++◌, Option, Some, None, Result, Ok, Err, if◌then◌else◌, insert, length, ◌+◌, find}
use Rattle.request_log.specs.Entries.{with_entry, IsNew, find_call, has_id}
use Rattle.request_log.specs.declared.entry.Entry.{Entry}
use Rattle.local_repair.specs.Repairs.{IsAmended}
use Rattle.repair_messages.specs.declared.messages.SetMessage.{SetMessage}
use Rattle.authorise_rules.specs.declared.asked.Decision.{Decision}
use Rattle.authorise_rules.specs.declared.asked.Decision.TheVariants.{Allow, Deny}
use Rattle.call_registers.specs.Replies.{at_entry, made_due, with_taken, IsAboveAll}
use Rattle.call_registers.specs.declared.reply.Reply.{Reply}
use Rattle.service_events.specs.State.{Kept, After, after, folded, unfolded}
use Rattle.service_events.specs.Calls.{noted}
use Rattle.service_events.specs.Messages.{is_known, is_too_much, take_decision, origin_of, created_place}
use Rattle.service_events.specs.declared.answers.Taken.{Taken}
use Rattle.service_events.specs.declared.refusals.TakeRefused.{TakeRefused}
use Rattle.service_events.specs.declared.refusals.TakeRefused.TheVariants.{Full, Denied, TooOld}
use Rattle.service_parts.specs.Drafts.{TellNoCall}
use Rattle.service_deliveries.specs.declared.take_changes.TakeChange.{TakeChange}
use Rattle.service_deliveries.specs.declared.take_changes.TakeChange.TheVariants.{Nothing, Due, Amend, Create}
use Rattle.service_deliveries.specs.declared.take_changes.Taking.{Taking}

-- the rule that allows it, or the one that denies it
abbrev pub allowance : Decision → Result (Option ℕ) TakeRefused
allowance (Allow rule) = Ok (Some rule)
allowance (Deny rule) = Err (Denied rule)

-- not where its call's entry is folded
abbrev pub unless_past_entry : Option Entry → Result (Option ℕ) TakeRefused → Result (Option ℕ) TakeRefused
unless_past_entry (Some e) allowed = Err (TooOld e.id)
unless_past_entry None allowed = allowed

-- by which rule it is taken, and one that is known by none
abbrev pub admitted : Kept → SetMessage → Result (Option ℕ) TakeRefused
admitted s set =
    if is_known s set then Ok None else unless_past_entry (find_call (origin_of set) (folded s)) (allowance (take_decision s set))

abbrev pub unless_much : Kept → SetMessage → Option ℕ → Result (Option ℕ) TakeRefused
unless_much s set (Some much) = Err (Full much)
unless_much s set None = admitted s set

-- where its call isn't in flight: by which rule it is taken, or why it isn't
abbrev pub admission : Kept → SetMessage → Result (Option ℕ) TakeRefused
admission s set = unless_much s set (is_too_much s set)

abbrev pub changed_by : Kept → TakeChange → Kept
changed_by s Nothing = s
changed_by s (Due id since) = record s { replies = at_entry id (made_due since) s.replies }
changed_by s (Amend entry since) =
    record s {
      entries = with_entry entry s.entries;
      replies = at_entry entry.id (λ p. made_due since (with_taken entry.version entry.wanted p)) s.replies;
    }
changed_by s (Create at entry reply) =
    record s { entries = insert s.entries (s.horizon + at) entry; replies = s.replies ++ reply ∷ [] }

-- a created entry at its place, with its reply
abbrev pub created_change : Kept → SetMessage → Entry → Reply → Kept
created_change s set entry reply =
    record s { entries = insert s.entries (created_place s set) entry; replies = s.replies ++ reply ∷ [] }

-- a created entry and its reply are new, and the place is one behind the folded entries
pub record CanCreate (s : Kept) (at : ℕ) (entry : Entry) (reply : Reply) : Type 0 where
  pub within : at ≤ length (unfolded s)
  pub is_new : IsNew entry s.entries
  pub above : IsAboveAll reply.id s.replies

abbrev pub CanChange : Kept → TakeChange → Type 0
CanChange s Nothing = Unit {0}
CanChange s (Due id since) = Unit {0}
CanChange s (Amend entry since) = IsAmended entry (unfolded s) × (find (has_id entry.id) (folded s) ≡ None)
CanChange s (Create at entry reply) = CanCreate s at entry reply

abbrev pub left_by : Kept → Taking → Kept
left_by s t = noted t.rows.items (changed_by s t.change)

-- it leaves and answers this, can be put in place, and its rows tell of no call of the service's own
pub record Leaves (s : Kept) (t : Taking) (event : After (Result Taken TakeRefused)) : Type 0 where
  pub is : after (left_by s t) (Ok t.taken) ≡ event
  pub can : CanChange s t.change
  pub plain : TellNoCall t.rows.items
