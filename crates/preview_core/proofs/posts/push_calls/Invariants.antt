use Rattle.std.proofs.Common.{◌≡◌, ◌++◌, filter_map, take}
use Rattle.preview_core.specs.Posts.{call_post}
use Rattle.preview_core.proofs.posts.push_calls.Given as goal

abbrev pub invariant-loop-register : goal.invariant-loop-register
invariant-loop-register l = l.list ≡ l.initial.list ++ filter_map (call_post l.before l.after) (take l.register-index l.registers)
