-- What an exchange over a connection gives.
use Rattle.std.specs.Prelude.{◌≡◌, ◌⊎◌, ℕ, List, ⊤}
use Rattle.io_edge.specs.Edge.{Reads, Writes}
use Rattle.io_links.specs.declared.links.Exchange.{Exchange}
use Rattle.io_links.specs.declared.links.Exchange.TheVariants.{Reply, NoMemory, Failed}

-- of a reply, this holds
abbrev pub OfReply : Exchange → (List ℕ → Type 0) → Type 0
OfReply (Reply reply) P = P reply
OfReply NoMemory P = ⊤
OfReply (Failed note) P = ⊤

-- a failure tells the count of reads or that of writes, before and after
abbrev pub NotesOneOf : Reads → Reads → Writes → Writes → Exchange → Type 0
NotesOneOf reads reads' writes writes' (Reply reply) = ⊤
NotesOneOf reads reads' writes writes' NoMemory = ⊤
NotesOneOf reads reads' writes writes' (Failed note) =
    ((note.before ≡ reads.faults) × (note.after ≡ reads'.faults)) ⊎ ((note.before ≡ writes.faults) × (note.after ≡ writes'.faults))
