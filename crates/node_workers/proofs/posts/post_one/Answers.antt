use Rattle.std.proofs.Common.{Ok, Option, inl, refl, subst}
use Rattle.repair_messages.specs.declared.posts.Post.{Post}
use Rattle.node_workers.specs.Desks.{at_desk}
use Rattle.node_workers.specs.Posting.{MakesNext}
use Rattle.node_workers.proofs.posts.post_one.Goals as goal

pub returns-in-Ok-Some-clause-turn : goal.returns-in-Ok-Some-clause-turn
returns-in-Ok-Some-clause-turn g c =
    let name = (at_desk c.args.desk.now).me in
    let before = c.args.pass.now in
    let mid = c.next_post.new.pass in
    c.post_it.ensures.turn before.notes before.receipts.items
    (subst (λ (next : Option Post). MakesNext name c.args.dest.now (Ok next) before.notes mid.notes before.receipts.items mid.receipts.items) c.in-Ok-Some.field-0-is
    c.in-Ok-Some.ensures.makes)

pub returns-in-Ok-None-clause-turn : goal.returns-in-Ok-None-clause-turn
returns-in-Ok-None-clause-turn g c =
    let name = (at_desk c.args.desk.now).me in
    let before = c.args.pass.now in
    let now = c.next_post.new.pass in
    record {
      made = subst (λ (next : Option Post). MakesNext name c.args.dest.now (Ok next) before.notes now.notes before.receipts.items now.receipts.items) c.in-Ok-None.field-0-is
          c.in-Ok-None.ensures.makes;
      none = refl;
    }

pub returns-in-Err-clause-turn : goal.returns-in-Err-clause-turn
returns-in-Err-clause-turn g c = inl (c.in-Err.field-0, c.in-Err.ensures.makes, refl)
