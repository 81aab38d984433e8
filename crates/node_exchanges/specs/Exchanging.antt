-- One exchange with a peer, and what came back of it.
use Rattle.std.specs.Prelude.{ℕ, ◌≡◌, ◌<◌, ◌+◌, ◌^◌, List, Option, Some, None, Result, Ok, Err, IfOk}
use Rattle.lang_base.specs.declared.memory.NoMemory.{NoMemory as LacksMemory}
use Rattle.io_edge.specs.Edge.{Rose}
use Rattle.io_links.specs.Exchanges.{Exchanges, IsFailure, Leaves}
use Rattle.io_links.specs.declared.links.Exchange.{Exchange}
use Rattle.io_links.specs.declared.links.Exchange.TheVariants as answers
use Rattle.http_front.specs.declared.message.FrontRefused.{FrontRefused}
use Rattle.wire_fields.specs.declared.refused.WireRefused.{WireRefused}
use Rattle.wire_replies.specs.declared.kinds.Asking.{Asking}
use Rattle.wire_replies.specs.declared.replies.Outgoing.{Outgoing}
use Rattle.wire_bytes.specs.Hearing.{IsReplied}
use Rattle.wire_bytes.specs.declared.hearing.Replied.{Replied}
use Rattle.node_exchanges.specs.declared.exchanges.Back.{Back}
use Rattle.node_exchanges.specs.declared.exchanges.Back.TheVariants as backs

abbrev pub if_reply : Result Outgoing WireRefused → Option Outgoing
if_reply (Ok reply) = Some reply
if_reply (Err why) = None

-- what was read: a response with its status, and what it replies, if anything; bytes that are no response reply nothing, with the status 0
abbrev pub back_of : Result Replied FrontRefused → Back
back_of (Ok replied) = backs.Response replied.status (if_reply replied.reply)
back_of (Err why) = backs.Response 0 None

-- this came back of an exchange of the service `me` with a peer that has this secret: what the bytes of a reply spell, or that it failed
abbrev pub ComesBack : List ℕ → List ℕ → List ℕ → Asking → Exchange → Back → Type 0
ComesBack me peer secret asking (answers.Reply bytes) came =
    (read : Result Replied FrontRefused) × (left : List ℕ) × IsReplied me peer secret asking bytes read left × (came ≡ back_of read)
ComesBack me peer secret asking answers.NoMemory came = ⊥
ComesBack me peer secret asking (answers.Failed note) came = came ≡ backs.Failed note

-- the exchange failed, and its note says that the link's count rose, unless that stood at its end
abbrev pub NotesRise : Exchange → Type 0
NotesRise (answers.Reply bytes) = ⊥
NotesRise answers.NoMemory = ⊥
NotesRise (answers.Failed note) = note.before + 1 < 2 ^ 64 → note.before < note.after

-- These bytes were sent to this address, or there was no memory for it. A failure raised the link's count, and this came back.
pub record IsExchanged (me peer secret : List ℕ) (asking : Asking) (address bytes : List ℕ) (before now : Exchanges) (came : Result Back LacksMemory) : Type 0 where
  pub answer : Exchange
  pub left : Leaves before now address bytes answer
  pub rose : IsFailure answer → Rose before.faults now.faults
  pub back : IfOk came (ComesBack me peer secret asking answer)
