use Rattle.std.proofs.Common.{IfOk, Option, Result, inl, refl, subst, sym}
use Rattle.lang_base.specs.declared.memory.NoMemory.{NoMemory as LacksMemory}
use Rattle.service_events.specs.declared.answers.PostReply.{PostReply}
use Rattle.wire_replies.specs.declared.kinds.Asking.{Asking}
use Rattle.node_exchanges.proofs.PostLemmas.{posted, posted_at_most}
use Rattle.node_exchanges.specs.Endpoints.{at_place}
use Rattle.node_exchanges.specs.Exchanging.{IsExchanged}
use Rattle.node_exchanges.specs.Posts.{PostsIt}
use Rattle.node_exchanges.proofs.posts.post_to.Goals as goal

pub returns-clause-sent : goal.returns-clause-sent
returns-clause-sent g c =
    let e = at_place c.args.place.now in
    let dest = c.args.dest.now in
    let post = c.args.post.now in
    let peer = c.in-Some.peer in
    let before = g.L.Link.exchanges c.args.link.now in
    let now = g.L.Link.exchanges c.exchange-back.new.link in
    let made = subst (λ (a : Asking). IsExchanged e.me dest peer.secret.now a peer.door.now c.in_ok-bytes.bytes before now c.exchange-back.result) c.asking_of.ensures
    c.exchange-back.ensures.made in
    subst (λ (said : Result (Option PostReply) LacksMemory). IfOk said (λ (reply : Option PostReply). PostsIt e dest post reply before now)) (sym c.said_with.ensures)
    (posted e dest peer.secret.now peer.door.now c.in_ok-bytes.bytes post before now c.in-Some.ensures.door c.in-Some.ensures.secret
    (record { from = c.requires.from; dest = c.requires.goes; spelled = c.in_ok-bytes.ensures.bytes }) c.exchange-back.result made)

pub returns-in_default-clause-sends : goal.returns-in_default-clause-sends
returns-in_default-clause-sends g c = inl refl

pub returns-in_err-bytes-clause-sends : goal.returns-in_err-bytes-clause-sends
returns-in_err-bytes-clause-sends g c = inl refl

pub returns-clause-sends : goal.returns-clause-sends
returns-clause-sends g c =
    posted_at_most (at_place c.args.place.now) c.args.dest.now c.in-Some.peer.secret.now c.in-Some.peer.door.now c.in_ok-bytes.bytes c.args.post.now
    (g.L.Link.exchanges c.args.link.now) (g.L.Link.exchanges c.exchange-back.new.link) c.in-Some.ensures.door c.in-Some.ensures.secret
    (record { from = c.requires.from; dest = c.requires.goes; spelled = c.in_ok-bytes.ensures.bytes }) c.exchange-back.ensures.made.answer c.exchange-back.ensures.made.left
