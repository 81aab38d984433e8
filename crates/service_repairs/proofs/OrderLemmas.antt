-- Orders: what is held, where a created entry stands, and rows that tell of no call.
use Rattle.std.proofs.Common.{◌≡◌, ◌∙◌, ap, refl, ℕ, ◌+◌, List, Option, Some, None, IsSome, insert, length}
use Rattle.std.specs.Option.{option_map_or}
use Rattle.lang_core.specs.declared.inputs.Inputs.{Inputs}
use Rattle.lang_core.specs.declared.request.Request.{Request}
use Rattle.request_log.specs.declared.entry.Entry.{Entry}
use Rattle.create_placement.specs.Placement.{created, place_among}
use Rattle.local_repair.specs.Repairs.{KeptRepairer}
use Rattle.repair_messages.specs.declared.posts.PostName.TheVariants.{Call as OfCall, Reply as OfReply}
use Rattle.journal_rows.specs.declared.orders.Command.{Command}
use Rattle.journal_rows.specs.declared.orders.Command.TheVariants.{Cancel, Restore, Replace, Create, Retry, Fold, Deploy, Correct, Rules}
use Rattle.call_registers.specs.Registers.{register}
use Rattle.call_registers.specs.Replies.{reply}
use Rattle.call_registers.specs.declared.register.Register.{Register}
use Rattle.call_registers.specs.declared.reply.Reply.{Reply}
use Rattle.service_events.specs.State.{Kept, next_id, program_for}
use Rattle.service_events.specs.Orders.{hold_on, made_under, order_rows, place_made, unless_held}
use Rattle.service_parts.specs.Drafts.{TellNoCall}
use Rattle.service_parts.specs.Parts.{kept, whole_log}
use Rattle.service_parts.specs.declared.parts.Parts.{Parts}
use Rattle.service_parts.proofs.PlaceLaw.{place_behind_all}

held_register : (o : Option Register) → unless_held (option_map_or (λ (r : Register). r.held) o None) ≡ None → IsSome o
held_register None h = cc
held_register (Some r) h = refl

held_reply : (o : Option Reply) → unless_held (option_map_or (λ (p : Reply). p.held) o None) ≡ None → IsSome o
held_reply None h = cc
held_reply (Some p) h = refl

-- a post that is held is there
pub held_call_there : (s : Kept) (number : ℕ) → unless_held (hold_on s (OfCall number)) ≡ None → IsSome (register number s.registers)
held_call_there s number h = held_register (register number s.registers) h

pub held_reply_there : (s : Kept) (id : ℕ) → unless_held (hold_on s (OfReply id)) ≡ None → IsSome (reply id s.replies)
held_reply_there s id h = held_reply (reply id s.replies) h

-- the place of a created entry among all, behind the folded ones
pub place_is : (p : Parts) (at : ℕ) (before after : Option ℕ) → at ≡ place_among before after p.repairer.folded p.repairer.entries
    → length p.repairer.folded + at ≡ place_made (kept p) before after
place_is p at before after is =
    ap (λ (k : ℕ). length p.repairer.folded + k) is ∙ place_behind_all before after p.repairer.folded p.repairer.entries

-- it stands where it belongs, under the program of that place
pub created_at : (p : Parts) (new : KeptRepairer) (at : ℕ) (e : Entry) (before after : Option ℕ) (q : Request) (i : Inputs)
    → at ≡ place_among before after p.repairer.folded p.repairer.entries
    → e ≡ created (next_id (kept p)) q i (program_for (kept p) (length p.repairer.folded + at))
    → whole_log new ≡ insert (whole_log p.repairer) (length p.repairer.folded + at) e
    → whole_log new ≡ insert (whole_log p.repairer) (place_made (kept p) before after) (created (next_id (kept p)) q i (made_under (kept p) before after))
created_at p new at e before after q i place entry done =
    done ∙ ap (insert (whole_log p.repairer) (length p.repairer.folded + at)) entry
    ∙ ap (λ (k : ℕ). insert (whole_log p.repairer) k (created (next_id (kept p)) q i (program_for (kept p) k))) (place_is p at before after place)

-- an order's rows tell of no call
pub orders_tell_none : (s : Kept) (command : Command) (token who : List ℕ) (i : Inputs) → TellNoCall (order_rows s command token who i)
orders_tell_none s (Cancel id) token who i = λ at rs. refl
orders_tell_none s (Restore id) token who i = λ at rs. refl
orders_tell_none s (Replace id method path body) token who i = λ at rs. refl
orders_tell_none s (Create before after q) token who i = λ at rs. refl
orders_tell_none s (Retry name) token who i = λ at rs. refl
orders_tell_none s (Fold id) token who i = λ at rs. refl
orders_tell_none s (Deploy p) token who i = λ at rs. refl
orders_tell_none s (Correct k p) token who i = λ at rs. refl
orders_tell_none s (Rules g) token who i = λ at rs. refl
