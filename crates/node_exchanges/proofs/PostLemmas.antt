-- What comes back of posts.
use Rattle.std.proofs.Common.{◌≡◌, ℕ, List, [], ◌∷◌, ◌++◌, Option, Some, Result, Ok, Err, IfOk, inl, inr, refl, ap, ◌∙◌}
use Rattle.std.specs.Option.{ForSome}
use Rattle.lang_base.specs.declared.memory.NoMemory.{NoMemory as LacksMemory}
use Rattle.repair_messages.specs.declared.posts.Post.{Post}
use Rattle.service_events.specs.declared.answers.PostReply.{PostReply}
use Rattle.io_links.specs.Exchanges.{Exchanges, Leaves}
use Rattle.io_links.specs.declared.links.Exchange.{Exchange}
use Rattle.io_links.specs.declared.links.Exchange.TheVariants as answers
use Rattle.io_links.specs.declared.links.Exchanged.{Exchanged}
use Rattle.http_front.specs.declared.message.FrontRefused.{FrontRefused}
use Rattle.wire_fields.specs.Named.{value_of}
use Rattle.wire_fields.specs.declared.refused.WireRefused.{WireRefused}
use Rattle.wire_replies.specs.declared.replies.Outgoing.{Outgoing}
use Rattle.wire_words.specs.Posts.{asking_of}
use Rattle.wire_bytes.specs.Sending.{SendsPost}
use Rattle.wire_bytes.specs.declared.hearing.Replied.{Replied}
use Rattle.node_exchanges.specs.Endpoints.{Endpoint}
use Rattle.node_exchanges.specs.Exchanging.{ComesBack, IsExchanged, back_of, if_reply}
use Rattle.node_exchanges.specs.Posts.{CameBack, PostSent, PostsAtMost, PostsIt, said_by, said_in, said_of, said_with}
use Rattle.node_exchanges.specs.declared.exchanges.Back.{Back}
use Rattle.node_exchanges.specs.declared.exchanges.Back.TheVariants as backs

-- ---- what is said by what came back

by_reply : (p : Post) (status : ℕ) (reply : Result Outgoing WireRefused) → said_by p (backs.Response status (if_reply reply)) ≡ said_in p reply
by_reply p status (Ok reply) = refl
by_reply p status (Err why) = refl

by_read : (p : Post) (read : Result Replied FrontRefused) → said_by p (back_of read) ≡ said_of p read
by_read p (Ok replied) = by_reply p replied.status replied.reply
by_read p (Err why) = refl

said_from : (e : Endpoint) (dest secret : List ℕ) (p : Post) (answer : Exchange) (came : Result Back LacksMemory)
    → IfOk came (ComesBack e.me dest secret (asking_of p) answer) → IfOk (said_with p came) (CameBack e dest secret p answer)
said_from e dest secret p (answers.Reply bytes) (Ok came) of = (of.0, of.1, of.2, ap (said_by p) of.3 ∙ by_read p of.0)
said_from e dest secret p answers.NoMemory (Ok came) of = of
said_from e dest secret p (answers.Failed note) (Ok came) of = ap (said_by p) of
said_from e dest secret p answer (Err why) of = tt

-- ---- an exchange

module _ (e : Endpoint) (dest secret address bytes : List ℕ) (p : Post) (before now : Exchanges) (door : value_of dest e.doors ≡ Some address)
    (peer : value_of dest e.secrets ≡ Some secret) (sends : SendsPost e.me dest address e.secret p bytes) where
  abbrev exchanged : Exchange → Exchanged
  exchanged answer = record { address = address; bytes = bytes; answer = answer }

  abbrev sent : (answer : Exchange) → PostSent e dest p (exchanged answer)
  sent answer = record { door = door; secret = secret; peer = peer; sends = sends }

  sent_so : (answer : Exchange) (reply : Option PostReply)
      → ForSome before.made (λ (all : List Exchanged). now.made ≡ Some (all ++ exchanged answer ∷ []))
      → CameBack e dest secret p answer reply → PostsIt e dest p reply before now
  sent_so answer reply made came all is =
      (exchanged answer, made all is, record { sent = sent answer; came = came })

  sent_back : (answer : Exchange) (said : Result (Option PostReply) LacksMemory) → Leaves before now address bytes answer
      → IfOk said (CameBack e dest secret p answer) → IfOk said (λ (reply : Option PostReply). PostsIt e dest p reply before now)
  sent_back (answers.Reply r) (Ok reply) left came = sent_so (answers.Reply r) reply left came
  sent_back answers.NoMemory (Ok reply) left came = absurd came
  sent_back (answers.Failed note) (Ok reply) left came = sent_so (answers.Failed note) reply left came
  sent_back answer (Err why) left came = tt

  -- it sent the post, and that came back
  pub posted : (came : Result Back LacksMemory) → IsExchanged e.me dest secret (asking_of p) address bytes before now came
      → IfOk (said_with p came) (λ (reply : Option PostReply). PostsIt e dest p reply before now)
  posted came made = sent_back made.answer (said_with p came) made.left (said_from e dest secret p made.answer came made.back)

  -- and sent it once at most
  pub posted_at_most : (answer : Exchange) → Leaves before now address bytes answer → PostsAtMost e dest p before now
  posted_at_most (answers.Reply r) left = inr (exchanged (answers.Reply r), left, sent (answers.Reply r))
  posted_at_most answers.NoMemory left = inl left
  posted_at_most (answers.Failed note) left = inr (exchanged (answers.Failed note), left, sent (answers.Failed note))
