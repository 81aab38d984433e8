-- What workers do, from their start to their end.
use Rattle.std.specs.Prelude.{ℕ, ◌≡◌, ◌⊎◌, List, None}
use Rattle.lang_core.specs.declared.inputs.Inputs.{Inputs}
use Rattle.io_edge.specs.Edge.{Reads, Writes}
use Rattle.io_links.specs.Connections.{IsNew}
use Rattle.io_links.specs.Exchanges.{Exchanges}
use Rattle.node_core.specs.declared.notes.Notes.{Notes}
use Rattle.node_core.specs.declared.receipt.Receipt.{Receipt}
use Rattle.node_workers.specs.Asking.{MakesOnly}
use Rattle.node_workers.specs.Desks.{Endpoint}
use Rattle.node_workers.specs.Posting.{IsTurn}
use Rattle.node_workers.specs.declared.posts.PostedOne.{PostedOne}

-- ---- a turn

-- what the pass of a worker has, and what its link tells
pub record Standing : Type 0 where
  pub notes : Notes
  pub receipts : List Receipt
  pub link : Exchanges

abbrev pub standing : Notes → List Receipt → Exchanges → Standing
standing notes receipts link = record { notes = notes; receipts = receipts; link = link }

-- the notes with which a turn begins: they show nothing of an earlier one
abbrev pub readied : Notes → Notes
readied notes = record notes { turn = None; posting = None; gave = None }

-- no event was made, and no exchange
abbrev pub IsIdle : Standing → Standing → Type 0
IsIdle before now = now ≡ record before { notes = readied before.notes }

-- ---- a worker that posts

-- a turn for a peer
pub record PostsOnce (e : Endpoint) (before now : Standing) : Type 0 where
  pub dest : List ℕ
  pub answer : PostedOne
  pub turn : IsTurn e dest (readied before.notes) now.notes before.receipts now.receipts before.link now.link answer

abbrev pub PostsOrRests : Endpoint → Standing → Standing → Type 0
PostsOrRests e before now = PostsOnce e before now ⊎ IsIdle before now

-- ---- a worker that serves

-- no event and no exchange was made but for the message that was read from this connection
pub record ServesOnce (e : Endpoint) (reads : Reads) (before now : Standing) : Type 0 where
  pub inputs : Inputs
  pub reads_now : Reads
  pub makes : MakesOnly e inputs reads reads_now (readied before.notes) now.notes before.receipts now.receipts before.link now.link

abbrev pub ServesOrRests : Endpoint → Reads → Standing → Standing → Type 0
ServesOrRests e reads before now = ServesOnce e reads before now ⊎ IsIdle before now

-- a connection that had just come was served
pub record ServesNew (e : Endpoint) (before now : Standing) : Type 0 where
  pub reads : Reads
  pub writes : Writes
  pub new : IsNew reads writes
  pub serves : ServesOrRests e reads before now

-- or none came
abbrev pub ServesNext : Endpoint → Standing → Standing → Type 0
ServesNext e before now = ServesNew e before now ⊎ (now ≡ before)
