-- Which posts are outstanding, whichever service they are for, and which of them weren't before.
use Rattle.std.specs.Prelude.{ℕ, Bool, false, ◌&&◌, not, List, ◌++◌, Option, Some, None, if◌then◌else◌, is_none, map, nat_eq, nat_lt}
use Rattle.std.specs.List.{filter_map, list_any}
use Rattle.std.specs.Option.{option_map_or}
use Rattle.repair_messages.specs.Kinds.{spelling}
use Rattle.repair_messages.specs.declared.kinds.Kind.TheVariants.{ReplaceResponse}
use Rattle.repair_messages.specs.declared.posts.PostName.TheVariants.{Call, Reply as OfReply}
use Rattle.call_registers.specs.Registers.{register}
use Rattle.call_registers.specs.Replies.{reply}
use Rattle.call_registers.specs.declared.register.Register.{Register}
use Rattle.call_registers.specs.declared.reply.Reply.{Reply}
use Rattle.service_events.specs.Flying.{awaited}
use Rattle.service_events.specs.Posts.{set_message}
use Rattle.service_events.specs.State.{Kept}
use Rattle.preview_core.specs.declared.told.PostOne.{PostOne}

-- the last version of a call isn't acknowledged; nothing holds it, and no flight awaits it
abbrev pub is_call_out : Kept → Register → Bool
is_call_out s r = nat_lt r.acked r.version && is_none r.held && not (list_any (nat_eq r.number) (map awaited s.flights))

abbrev pub was_call_out : Kept → ℕ → Bool
was_call_out s number = option_map_or (is_call_out s) (register number s.registers) false

-- a reply is due that has an answer, and nothing holds it
abbrev pub is_reply_out : Reply → Bool
is_reply_out p = p.due && nat_lt 0 p.answer_version && is_none p.held

abbrev pub was_reply_out : Kept → ℕ → Bool
was_reply_out s id = option_map_or is_reply_out (reply id s.replies) false

-- the post of a call that is outstanding now and wasn't, with the kind of its message now
abbrev pub call_post : Kept → Kept → Register → Option PostOne
call_post was s r =
    if is_call_out s r && not (was_call_out was r.number)
    then Some (record { name = Call r.number; kind = spelling (set_message s r) }) else None

-- that of a reply
abbrev pub reply_post : Kept → Reply → Option PostOne
reply_post was p =
    if is_reply_out p && not (was_reply_out was p.id)
    then Some (record { name = OfReply p.id; kind = ReplaceResponse }) else None

-- all that are outstanding now and weren't: calls by their numbers, then replies by their entries
abbrev pub new_posts : Kept → Kept → List PostOne
new_posts was s = filter_map (call_post was s) s.registers ++ filter_map (reply_post was) s.replies
