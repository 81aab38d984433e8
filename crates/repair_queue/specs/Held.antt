-- What is held: posts that nothing sends until somebody asks for it.
use Rattle.std.specs.Prelude.{List, ◌++◌, Option, option_map}
use Rattle.std.specs.List.{filter_map}
use Rattle.repair_messages.specs.declared.posts.PostName.TheVariants.{Call, Reply as Answer}
use Rattle.call_registers.specs.declared.register.Register.{Register}
use Rattle.call_registers.specs.declared.reply.Reply.{Reply}
use Rattle.repair_queue.specs.declared.held.Notice.{Notice}

-- of a call whose post is held, with its version
abbrev pub call_notice : Register → Option Notice
call_notice r = option_map (λ hold. record { name = Call r.number; version = r.version; hold = hold }) r.held

-- of a reply whose post is held, with the version of its answer
abbrev pub reply_notice : Reply → Option Notice
reply_notice p = option_map (λ hold. record { name = Answer p.id; version = p.answer_version; hold = hold }) p.held

-- of all that are held: calls by their numbers, then replies by their entries
abbrev pub notices : List Register → List Reply → List Notice
notices registers replies = filter_map call_notice registers ++ filter_map reply_notice replies
