use Rattle.std.proofs.Common.{Option, Some, None, ◌≡◌, inl, inr, subst, sym}
use Rattle.service_events.specs.declared.answers.PostReply.{PostReply}
use Rattle.node_workers.proofs.PostLemmas.{turn_told}
use Rattle.node_workers.specs.Desks.{at_desk}
use Rattle.wire_bytes.specs.Sending.{sender_of}
use Rattle.node_exchanges.specs.Endpoints.{Endpoint, at_place}
use Rattle.node_exchanges.specs.Posts.{PostsAtMost, PostsIt}
use Rattle.node_workers.specs.Posting.{EndsTurn}
use Rattle.node_workers.specs.declared.posts.PostedOne.{PostedOne}
use Rattle.node_workers.proofs.posts.post_it.Goals as goal

pub post_to-requires : goal.post_to-requires
post_to-requires g c =
    record { from = subst (λ (at : Endpoint). sender_of c.args.post ≡ at.me) (sym c.place.ensures) c.requires.next.0; goes = c.requires.next.1 }

pub returns-in-Ok-Some-clause-turn : goal.returns-in-Ok-Some-clause-turn
returns-in-Ok-Some-clause-turn g c =
    let e = at_desk c.args.desk.now in
    let dest = c.args.dest.now in
    let post = c.args.post in
    let mid = c.args.pass.now in
    let now = c.tell.new.pass in
    let link = g.L.Link.exchanges c.args.link.now in
    let link_now = g.L.Link.exchanges c.post_to.new.link in
    let here = subst (λ (r : Option PostReply). PostsIt (at_place c.place.result) dest post r link link_now) c.in-Ok-Some.field-0-is c.in-Ok-Some.ensures.sent in
    let sent = subst (λ (at : Endpoint). PostsIt at dest post (Some c.in-Ok-Some.reply) link link_now) c.place.ensures here in
    let sends = subst (λ (at : Endpoint). PostsAtMost at dest post link link_now) c.place.ensures c.post_to.ensures.sends in
    subst (λ (o : PostedOne). EndsTurn e dest post mid.notes now.notes mid.receipts.items now.receipts.items link link_now o) (sym c.outcome.ensures)
    (turn_told e dest post mid.notes now.notes mid.receipts.items now.receipts.items link link_now c.requires.next.2 c.in-Ok-Some.reply sent sends c.tell.result c.tell.ensures.made
    c.tell.ensures.err)

pub returns-in-Ok-None-clause-turn : goal.returns-in-Ok-None-clause-turn
returns-in-Ok-None-clause-turn g c = λ before had makes.
    let dest = c.args.dest.now in
    let link = g.L.Link.exchanges c.args.link.now in
    let link_now = g.L.Link.exchanges c.post_to.new.link in
    record {
      post = c.args.post;
      written = c.requires.next.2;
      made = makes;
      sent = subst (λ (at : Endpoint). PostsIt at dest c.args.post None link link_now) c.place.ensures
          (subst (λ (r : Option PostReply). PostsIt (at_place c.place.result) dest c.args.post r link link_now) c.in-Ok-None.field-0-is c.in-Ok-None.ensures.sent);
    }

pub returns-in-Err-clause-turn : goal.returns-in-Err-clause-turn
returns-in-Err-clause-turn g c = λ before had makes.
    let link = g.L.Link.exchanges c.args.link.now in
    let link_now = g.L.Link.exchanges c.post_to.new.link in
    let sends = subst (λ (at : Endpoint). PostsAtMost at c.args.dest.now c.args.post link link_now) c.place.ensures c.post_to.ensures.sends in
    inr (inl (record { post = c.args.post; written = c.requires.next.2; made = makes; sends = sends }))
