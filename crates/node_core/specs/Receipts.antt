-- What a receipt is of.
use Rattle.std.specs.Prelude.{ℕ, ◌≡◌, List, Option, Some, IsSomeAnd, slice_get}
use Rattle.lang_core.specs.declared.ids.Origin.{Origin}
use Rattle.lang_core.specs.declared.inputs.Inputs.{Inputs}
use Rattle.lang_core.specs.declared.request.Request.{Request}
use Rattle.lang_core.specs.declared.request.Response.{Response}
use Rattle.journal_rows.specs.Words.{asked}
use Rattle.journal_rows.specs.declared.callee.AskedRow.{AskedRow}
use Rattle.journal_rows.specs.declared.row.Row.{Row}
use Rattle.journal_rows.specs.declared.row.Row.TheVariants.{Answered}
use Rattle.service_events.specs.Commits.{live_answer_of}
use Rattle.service_events.specs.State.{Kept, me}
use Rattle.node_core.specs.declared.receipt.Receipt.{Receipt}

-- the number of the entry that a row answers
abbrev pub answered_id : Row → ℕ
answered_id (Answered a) = a.id
answered_id row = 0

-- the entry was asked with this request and these inputs
abbrev pub WasAskedSo : Request → Inputs → Option AskedRow → Type 0
WasAskedSo q i entry = IsSomeAnd entry (λ (a : AskedRow). (a.request ≡ q) × (a.inputs ≡ i))

-- it agrees with a journal: the row at its index is its row, and the entry that this answers was asked with its request and its inputs
pub record AgreesWith (journal : List Row) (r : Receipt) : Type 0 where
  pub there : slice_get journal r.index ≡ Some r.row
  pub asked_so : WasAskedSo r.request r.inputs (asked (answered_id r.row) journal)

-- a live request with this request and these inputs was committed as the entry of this number, under some program, and its answer stands at this place
pub record HasAnswered (journal : List Row) (q : Request) (i : Inputs) (place id : ℕ) : Type 0 where
  pub origin : Origin
  pub response : Response
  pub program : ℕ
  pub there : slice_get journal place ≡ Some (Answered (live_answer_of id origin response))
  pub asked_so : asked id journal ≡ Some (record { id = id; origin = origin; request = q; inputs = i; program = program })

-- this service's receipt for a live request with this request and these inputs, whose answer stands at this place
pub record IsReceiptAt (s : Kept) (secret : List ℕ) (q : Request) (i : Inputs) (place : ℕ) (r : Receipt) : Type 0 where
  pub service : r.service ≡ me s
  pub sealed : r.secret ≡ secret
  pub index : r.index ≡ place
  pub request : r.request ≡ q
  pub inputs : r.inputs ≡ i
  pub agrees : AgreesWith s.journal r

-- and which was committed as the entry of this number, of this origin
pub record IsReceiptOf (s : Kept) (secret : List ℕ) (o : Origin) (q : Request) (i : Inputs) (place id : ℕ) (r : Receipt) : Type 0 where
  pub is : IsReceiptAt s secret q i place r
  pub response : Response
  pub row : r.row ≡ Answered (live_answer_of id o response)
