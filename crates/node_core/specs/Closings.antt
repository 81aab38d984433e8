-- What services and receipts come to at the end.
use Rattle.std.specs.Prelude.{ℕ, ◌≡◌, ◌+◌, ◌<◌, ◌≤◌, Bool, true, List, [], ◌∷◌, Option, Some, IsSomeAnd, drop, filter, find, get_or, length, map, position, slice_get}
use Rattle.std.specs.Option.{option_map_or}
use Rattle.lang_base.specs.Texts.{same_text}
use Rattle.lang_lists.specs.Keys.{call_key}
use Rattle.journal_rows.specs.declared.orders.OrderedRow.{OrderedRow}
use Rattle.journal_rows.specs.declared.row.Row.{Row}
use Rattle.journal_rows.specs.declared.row.Row.TheVariants.{Ordered}
use Rattle.service_events.specs.Commits.{is_live_row}
use Rattle.service_events.specs.State.{Kept, me}
use Rattle.node_core.specs.Orders.{is_order_row, order_note}
use Rattle.node_core.specs.Receipts.{AgreesWith}
use Rattle.node_core.specs.declared.orders.OrderNote.{OrderNote}
use Rattle.node_core.specs.declared.receipt.Receipt.{Receipt}

-- the service of a name; where several have it, the first
abbrev pub service_of : List ℕ → List Kept → Option Kept
service_of name services = find (λ (s : Kept). same_text (me s) name) services

-- it agrees with the journal of the service that it names
abbrev pub Agrees : List Kept → Receipt → Type 0
Agrees services r = IsSomeAnd (service_of r.service services) (λ (s : Kept). AgreesWith s.journal r)

-- each of them agrees
abbrev pub AllAgree : List Kept → List Receipt → Type 0
AllAgree services receipts = (at : ℕ) (r : Receipt) → slice_get receipts at ≡ Some r → Agrees services r

-- ---- journals since they were opened

-- how many rows its journal has
abbrev pub row_count : Kept → ℕ
row_count s = length s.journal

-- from which index on each journal counts where these services are opened: what comes then stands behind their rows
abbrev pub opened_at : List Kept → List ℕ
opened_at services = map row_count services

-- how many rows of a kind its journal has from this index on
abbrev pub kind_since : (Row → Bool) → ℕ → Kept → ℕ
kind_since kind first s = length (filter kind (drop first s.journal))

-- how many live requests it answers from there on
abbrev pub live_since : ℕ → Kept → ℕ
live_since first s = kind_since is_live_row first s

-- how many orders it has from there on
abbrev pub orders_since : ℕ → Kept → ℕ
orders_since first s = kind_since is_order_row first s

-- how many rows of a kind they have together, each from the index at its place on
abbrev pub kinds_since : (Row → Bool) → List Kept → List ℕ → ℕ
kinds_since kind [] since = 0
kinds_since kind (s ∷ services) [] = kind_since kind 0 s + kinds_since kind services []
kinds_since kind (s ∷ services) (first ∷ since) = kind_since kind first s + kinds_since kind services since

-- how many live requests it answers and how many orders it has from there on
abbrev pub told_since : ℕ → Kept → ℕ
told_since first s = live_since first s + orders_since first s

-- how many they answer and have together
abbrev pub all_told_since : List Kept → List ℕ → ℕ
all_told_since services since = kinds_since is_live_row services since + kinds_since is_order_row services since

-- from which index on the journal of the service of a name counts; where several have it, that of the first
abbrev pub since_of : List ℕ → List ℕ → List Kept → ℕ
since_of name since services =
    option_map_or (λ (place : ℕ). get_or since place 0) (position (λ (s : Kept). same_text (me s) name) services) 0

-- it agrees with the journal of the service that it names, and is of no answer of before that was opened
abbrev pub AgreesSince : List ℕ → List Kept → Receipt → Type 0
AgreesSince since services r = Agrees services r × (since_of r.service since services ≤ r.index)

-- each of them does
abbrev pub AllAgreeSince : List ℕ → List Kept → List Receipt → Type 0
AllAgreeSince since services receipts = (at : ℕ) (r : Receipt) → slice_get receipts at ≡ Some r → AgreesSince since services r

-- ---- what is of one row

-- they name one service and index
abbrev pub SameRow : {A : Type 0} → (A → List ℕ) → (A → ℕ) → A → A → Type 0
SameRow service index r t = (service r ≡ service t) × (index r ≡ index t)

-- the key under which it is found, by the service's name and the index
abbrev pub row_key : {A : Type 0} → (A → List ℕ) → (A → ℕ) → A → ℕ
row_key service index r = call_key (service r) (index r)

-- no two of them are of one row
abbrev pub ApartBy : {A : Type 0} → (A → List ℕ) → (A → ℕ) → List A → Type 0
ApartBy {A} service index xs =
    (at other : ℕ) (r t : A) → slice_get xs at ≡ Some r → slice_get xs other ≡ Some t → SameRow service index r t → at ≡ other

-- receipts of one answer
abbrev pub SamePlace : Receipt → Receipt → Type 0
SamePlace r t = SameRow (λ (x : Receipt). x.service) (λ (x : Receipt). x.index) r t

-- no two of them are of one answer
abbrev pub AreApart : List Receipt → Type 0
AreApart receipts = ApartBy (λ (x : Receipt). x.service) (λ (x : Receipt). x.index) receipts

-- it stands among them
pub record IsAmong (r : Receipt) (receipts : List Receipt) : Type 0 where
  pub at : ℕ
  pub there : slice_get receipts at ≡ Some r

-- it is the first of them that doesn't agree, or is of an answer of before that was opened: it stands among them, and each before it agrees
pub record IsFirstToDiffer (since : List ℕ) (services : List Kept) (r : Receipt) (receipts : List Receipt) : Type 0 where
  pub at : ℕ
  pub there : slice_get receipts at ≡ Some r
  pub differs : ¬ AgreesSince since services r
  pub before : (k : ℕ) (t : Receipt) → k < at → slice_get receipts k ≡ Some t → AgreesSince since services t

-- they stand among them, this one before that one
pub record AreAmong (r t : Receipt) (receipts : List Receipt) : Type 0 where
  pub at : ℕ
  pub other : ℕ
  pub before : at < other
  pub here : slice_get receipts at ≡ Some r
  pub there : slice_get receipts other ≡ Some t

-- a receipt for the row at this place of this service's journal
pub record HasReceipt (s : Kept) (place : ℕ) (row : Row) (receipts : List Receipt) : Type 0 where
  pub receipt : Receipt
  pub at : ℕ
  pub there : slice_get receipts at ≡ Some receipt
  pub service : receipt.service ≡ me s
  pub index : receipt.index ≡ place
  pub answer : receipt.row ≡ row
  pub agrees : AgreesWith s.journal receipt

-- each receipt agrees with the journal of the service that it names; each live answer in a service's journal has a receipt; and no two receipts
-- are of one answer
pub record IsWhole (services : List Kept) (receipts : List Receipt) : Type 0 where
  pub agree : AllAgree services receipts
  pub each : (k : ℕ) (s : Kept) (place : ℕ) (row : Row) → slice_get services k ≡ Some s → slice_get s.journal place ≡ Some row
      → is_live_row row ≡ true → HasReceipt s place row receipts
  pub once : AreApart receipts

-- The same, of what journals answer since they were opened, each from the index at its place on: each receipt stands there, and agrees; each live answer
-- there has a receipt; and no two receipts are of one answer.
pub record IsWholeSince (since : List ℕ) (services : List Kept) (receipts : List Receipt) : Type 0 where
  pub agree : AllAgreeSince since services receipts
  pub each : (k : ℕ) (s : Kept) (place : ℕ) (row : Row) → slice_get services k ≡ Some s → get_or since k 0 ≤ place → slice_get s.journal place ≡ Some row
      → is_live_row row ≡ true → HasReceipt s place row receipts
  pub once : AreApart receipts

-- ---- orders

-- its order's row stands at its index in the journal of the service that it names, and not before that was opened
abbrev pub StandsSince : List ℕ → List Kept → OrderNote → Type 0
StandsSince since services n =
    IsSomeAnd (service_of n.service services) (λ (s : Kept). slice_get s.journal n.index ≡ Some (Ordered n.row))
    × (since_of n.service since services ≤ n.index)

-- each of them does
abbrev pub AllStandSince : List ℕ → List Kept → List OrderNote → Type 0
AllStandSince since services orders = (at : ℕ) (n : OrderNote) → slice_get orders at ≡ Some n → StandsSince since services n

-- no two of them are of one row
abbrev pub OrdersApart : List OrderNote → Type 0
OrdersApart orders = ApartBy (λ (x : OrderNote). x.service) (λ (x : OrderNote). x.index) orders

-- the note of the order at this place of this service's journal is one of these
pub record HasNote (s : Kept) (place : ℕ) (row : OrderedRow) (orders : List OrderNote) : Type 0 where
  pub at : ℕ
  pub there : slice_get orders at ≡ Some (order_note (me s) place row)

-- Each note is of an order that a journal got since it was opened; each such order has a note; and no two notes are of one order.
pub record AreNoted (since : List ℕ) (services : List Kept) (orders : List OrderNote) : Type 0 where
  pub stand : AllStandSince since services orders
  pub each : (k : ℕ) (s : Kept) (place : ℕ) (row : OrderedRow) → slice_get services k ≡ Some s → get_or since k 0 ≤ place
      → slice_get s.journal place ≡ Some (Ordered row) → HasNote s place row orders
  pub once : OrdersApart orders
