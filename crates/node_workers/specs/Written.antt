-- What is written on a connection of a receipt, and to an operator.
use Rattle.std.specs.Prelude.{ℕ, ◌≡◌, ◌-◌, List, Option, length, slice_get}
use Rattle.lang_core.specs.declared.inputs.Inputs.{Inputs}
use Rattle.io_edge.specs.Edge.{Writes, Wrote}
use Rattle.http_front.specs.declared.message.WireResponse.{WireResponse}
use Rattle.wire_fields.specs.declared.console.ConsoleRequest.{ConsoleRequest}
use Rattle.admin_console.specs.Replies.{report_reply}
use Rattle.node_core.specs.declared.notes.Notes.{Notes}
use Rattle.node_core.specs.declared.receipt.Receipt.{Receipt}
use Rattle.node_exchanges.specs.Endpoints.{Endpoint}
use Rattle.node_exchanges.specs.Replies.{IsCutShort, IsSaid}
use Rattle.node_exchanges.specs.declared.served.Served.{Served}
use Rattle.node_exchanges.specs.declared.served.Served.TheVariants as served
use Rattle.node_workers.specs.Serving.{IsForWorkers, IsOperatorTold, IsPreviewTold}

-- the last of them, if there is one
abbrev pub last_of : List Receipt → Option Receipt
last_of receipts = slice_get receipts (length receipts - 1)

-- the reply of a commit was written, or its write failed
abbrev pub IsCommitWritten : ℕ → List ℕ → Writes → Writes → Served → Type 0
IsCommitWritten index reply before now (served.Committed at) = (at ≡ index) × Wrote before now reply
IsCommitWritten index reply before now served.WriteFault = IsCutShort before now reply
IsCommitWritten index reply before now other = ⊥

-- what an operator's request comes to
abbrev pub IsConsoleSo : Endpoint → Inputs → ConsoleRequest → Notes → Writes → Writes → Served → Type 0
IsConsoleSo e i asked notes before now (served.Console given) = (given ≡ asked) × IsForWorkers asked.word × (now ≡ before)
IsConsoleSo e i asked notes before now served.NoMemory = now ≡ before
IsConsoleSo e i asked notes before now answer =
    (¬ IsForWorkers asked.word) × ((response : WireResponse) × IsOperatorTold e i asked notes response × IsSaid response before now answer)

-- what an operator who asks for a preview is written
abbrev pub IsPreviewSo : List ℕ → ConsoleRequest → Writes → Writes → Served → Type 0
IsPreviewSo name request before now served.NoMemory = now ≡ before
IsPreviewSo name request before now answer = (response : WireResponse) × IsPreviewTold name request response × IsSaid response before now answer

-- what an operator is written who gets a report with this text
abbrev pub IsTextSo : List ℕ → Writes → Writes → Served → Type 0
IsTextSo text before now answer = IsSaid (report_reply text) before now answer
