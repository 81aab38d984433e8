use Rattle.std.proofs.Common.{subst, sym}
use Rattle.std.proofs.lemmas.Result.{err_from_is_err_and}
use Rattle.node_core.specs.HandedOn.{GoesTo}
use Rattle.service_events.specs.Posts.{write_post}
use Rattle.node_workers.proofs.PostLemmas.{is_there, next_makes, next_so, next_wants}
use Rattle.node_workers.specs.Posting.{GoesNext}
use Rattle.node_workers.proofs.posts.next_written.Goals as goal

pub written-requires : goal.written-requires
written-requires g c = record { some = is_there (write_post c.args.kept.now.service c.args.name) (GoesTo c.args.dest.now) c.requires.goes }

pub returns-in_err-post-clause-makes : goal.returns-in_err-post-clause-makes
returns-in_err-post-clause-makes g c =
    let failed = err_from_is_err_and c.from_residual.result c.from_residual.ensures.1 in
    let goes = GoesNext c.args.desk.now.setup.now.setting.me c.args.dest.now c.args.name c.args.pass.now.notes c.written.new.pass.notes c.args.pass.now.receipts.items
    c.written.new.pass.receipts.items in
    subst goes (sym failed.1)
    (next_wants c.args.desk.now.setup.now.setting.me c.args.dest.now c.args.name c.args.pass.now.notes c.written.new.pass.notes c.args.pass.now.receipts.items
    c.written.new.pass.receipts.items failed.0 c.written.ensures.makes)

pub returns-clause-next : goal.returns-clause-next
returns-clause-next g c =
    next_so c.args.desk.now.setup.now.setting.me c.args.dest.now c.args.name c.args.kept.now.service c.written.new.kept.service c.args.pass.now.notes.begun c.in_ok-post.post
    c.in_ok-post.ensures.at c.requires.goes c.requires.next

pub returns-clause-makes : goal.returns-clause-makes
returns-clause-makes g c =
    next_makes c.args.desk.now.setup.now.setting.me c.args.dest.now c.args.name c.args.kept.now.service c.written.new.kept.service c.args.pass.now.notes.begun c.in_ok-post.post
    c.in_ok-post.ensures.at c.requires.goes c.args.pass.now.notes c.written.new.pass.notes c.args.pass.now.receipts.items c.written.new.pass.receipts.items c.in_ok-post.ensures.made
