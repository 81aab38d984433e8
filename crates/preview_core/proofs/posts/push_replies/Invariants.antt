use Rattle.std.proofs.Common.{◌≡◌, ◌++◌, filter_map, take}
use Rattle.preview_core.specs.Posts.{reply_post}
use Rattle.preview_core.proofs.posts.push_replies.Given as goal

abbrev pub invariant-loop-reply : goal.invariant-loop-reply
invariant-loop-reply l = l.list ≡ l.initial.list ++ filter_map (reply_post l.before) (take l.reply-index l.replies)
