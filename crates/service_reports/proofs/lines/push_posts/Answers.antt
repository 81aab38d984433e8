use Rattle.std.proofs.Common.{string_bytes, arith}
use Rattle.service_reports.specs.Lines.{post_line}
use Rattle.service_reports.proofs.LineLemmas.{one_more_line}
use Rattle.service_reports.proofs.lines.push_posts.Goals as goal

pub loop-post-preserved : goal.loop-post-preserved
loop-post-preserved c =
    let inside = c.loop-post-test.true in
    let end = c.loop-post.auto.post-index-end in
    one_more_line (post_line c.args.service.now) c.args.posts.now c.loop-post.post-index _ (string_bytes c.args.text.now) (string_bytes c.loop-post.text) (string_bytes c.push_post.new.text)
    (omega arith) c.loop-post.invariant c.in_ok-push_post.ensures
