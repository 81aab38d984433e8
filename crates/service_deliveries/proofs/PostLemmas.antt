-- A post that a service had or has is there.
use Rattle.std.proofs.Common.{◌≡◌, refl, ℕ, true, Option, Some, None, IsSome}
use Rattle.std.proofs.lemmas.Bool.{and_parts}
use Rattle.lang_base.specs.Texts.{same_text}
use Rattle.repair_messages.specs.declared.messages.SetMessage.{SetMessage}
use Rattle.repair_messages.specs.declared.messages.TokenMessage.{TokenMessage}
use Rattle.repair_messages.specs.declared.posts.Post.TheVariants.{Set, Token}
use Rattle.call_registers.specs.Registers.{register}
use Rattle.call_registers.specs.Replies.{reply}
use Rattle.call_registers.specs.declared.register.Register.{Register}
use Rattle.call_registers.specs.declared.reply.Reply.{Reply}
use Rattle.service_events.specs.State.{Kept, me}
use Rattle.service_events.specs.Messages.{answer_is_now, call_is_now, had, had_answer, is_now}

answered : (a : TokenMessage) (o : Option Reply) → had_answer a o ≡ true → IsSome o
answered a None h = cc
answered a (Some p) h = refl

pub had_reply : (s : Kept) (a : TokenMessage) → had s (Token a) ≡ true → IsSome (reply a.id s.replies)
had_reply s a h =
    answered a (reply a.id s.replies) (and_parts (same_text a.callee (me s)) (had_answer a (reply a.id s.replies)) h).1

version_now : (version : ℕ) (o : Option Register) → call_is_now version o ≡ true → IsSome o
version_now version None h = cc
version_now version (Some r) h = refl

answer_now : (answer_version : ℕ) (o : Option Reply) → answer_is_now answer_version o ≡ true → IsSome o
answer_now answer_version None h = cc
answer_now answer_version (Some p) h = refl

pub call_there : (s : Kept) (set : SetMessage) → is_now s (Set set) ≡ true → IsSome (register set.number s.registers)
call_there s set h = version_now set.version (register set.number s.registers) h

pub reply_there : (s : Kept) (a : TokenMessage) → is_now s (Token a) ≡ true → IsSome (reply a.id s.replies)
reply_there s a h = answer_now a.answer_version (reply a.id s.replies) h
