-- What comes back of an exchange.
use Rattle.std.proofs.Common.{◌≡◌, ℕ, ◌+◌, ◌^◌, ◌<◌, ◌≤◌, false, List, Some, Result, Ok, Err, IfOk, OnOk, arith}
use Rattle.lang_base.specs.declared.memory.NoMemory.{NoMemory as LacksMemory}
use Rattle.io_edge.specs.Edge.{Reads, Rose}
use Rattle.io_links.specs.Exchanges.{Exchanges, Notes}
use Rattle.io_links.specs.declared.links.Exchange.{Exchange}
use Rattle.io_links.specs.declared.links.Exchange.TheVariants as answers
use Rattle.http_front.specs.Answers.{interrupts}
use Rattle.http_front.specs.declared.message.FrontRefused.{FrontRefused}
use Rattle.wire_fields.specs.Fits.{lacks_memory}
use Rattle.wire_replies.specs.declared.kinds.Asking.{Asking}
use Rattle.wire_bytes.specs.Hearing.{IsRepliedFrom}
use Rattle.wire_bytes.specs.declared.hearing.Replied.{Replied}
use Rattle.node_exchanges.specs.Exchanging.{ComesBack, NotesRise, back_of}
use Rattle.node_exchanges.specs.declared.exchanges.Back.{Back}

-- ---- what the bytes of a reply say

module _ (me peer secret : List ℕ) (asking : Asking) (bytes : List ℕ) (before now : Reads) (left : before.left ≡ Some bytes) where
  -- a response
  pub response_back : (heard : Replied) (came : Result Back LacksMemory) → IsRepliedFrom me peer secret asking before now (Ok heard)
      → IfOk came (λ (b : Back). b ≡ back_of (Ok heard)) → OnOk came (lacks_memory heard.reply ≡ false)
      → IfOk came (ComesBack me peer secret asking (answers.Reply bytes))
  response_back heard (Ok came) from is whole = (let found = from whole bytes left in (Ok heard, found.0, found.2, is))
  response_back heard (Err why) from is whole = tt

  -- none
  pub nothing_back : (why : FrontRefused) (came : Result Back LacksMemory) → IsRepliedFrom me peer secret asking before now (Err why)
      → IfOk came (λ (b : Back). b ≡ back_of (Err why)) → OnOk came (interrupts why ≡ false)
      → IfOk came (ComesBack me peer secret asking (answers.Reply bytes))
  nothing_back why (Ok came) from is whole = (let found = from whole bytes left in (Err why, found.0, found.2, is))
  nothing_back why (Err lacks) from is whole = tt

-- ---- failures

rises_by : (top was stands before now : ℕ) → was ≡ before → stands ≡ now → before ≤ now → (was + 1 < top → was < stands) → now + 1 < top → before < now
rises_by top was stands before now from to counted rise room = (let up = rise (omega (arith, from, counted, room)) in omega (arith, from, to, up))

-- a failure that was noted raised the count
pub rises : (before now : Exchanges) (answer : Exchange) → Notes before now answer → before.faults ≤ now.faults → NotesRise answer → Rose before.faults now.faults
rises before now (answers.Reply back) notes counted rise = absurd rise
rises before now answers.NoMemory notes counted rise = absurd rise
rises before now (answers.Failed note) notes counted rise =
    rises_by (2 ^ 64) note.before note.after before.faults now.faults notes.0 notes.1 counted rise
