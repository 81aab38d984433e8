use Rattle.std.proofs.Common.{◌≡◌, ◌++◌, flat_map, string_bytes, take}
use Rattle.service_reports.specs.Lines.{post_line}
use Rattle.service_reports.proofs.lines.push_posts.Given as goal

abbrev pub invariant-loop-post : goal.invariant-loop-post
invariant-loop-post l = string_bytes l.text ≡ string_bytes l.initial.text ++ flat_map (post_line l.service) (take l.post-index l.posts)
