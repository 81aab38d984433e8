-- Receipts and notes of orders that agree, no two of one row, as many together as there are answers and orders since journals were opened: each has one.
use Rattle.std.proofs.Common.{◌≡◌, ◌+◌, ◌-◌, ◌<◌, ◌≤◌, ◌∷◌, ◌++◌, [], ℕ, zero, suc, List, Option, Some, None, Bool, true, IsSomeAnd, cond, drop, get_or, length, nat_lt, slice_get, sum_by, refl, sym, ap, ◌∙◌, subst, arith, inl, inr}
use Rattle.std.specs.List.{position_or_len}
use Rattle.std.proofs.lemmas.Bool.{cases_Bool}
use Rattle.std.proofs.lemmas.Bool.Decides.{nat_tests}
use Rattle.std.proofs.lemmas.List.Sums.{sum_by-cons}
use Rattle.std.proofs.lemmas.Option.{slice_get_within}
use Rattle.std.specs.Cmp.Lexicographic.{bytes_decides}
use Rattle.lang_base.specs.Texts.{same_text}
use Rattle.journal_rows.specs.declared.row.Row.{Row}
use Rattle.journal_rows.specs.declared.orders.OrderedRow.{OrderedRow}
use Rattle.journal_rows.specs.declared.row.Row.TheVariants.{Ordered}
use Rattle.service_events.specs.Commits.{is_live_row}
use Rattle.service_events.specs.State.{Kept, me}
use Rattle.node_core.proofs.Places.{Spot, Found, NameApart, NameLive, each_found, few_named, is_live_at, lives, spots_same}
use Rattle.node_core.specs.Closings.{all_told_since, kind_since, kinds_since, service_of, since_of, told_since, AllAgreeSince, AllStandSince, ApartBy, AreApart, AreNoted, HasNote, HasReceipt, IsWholeSince, OrdersApart}
use Rattle.node_core.specs.Orders.{is_order_row, order_note}
use Rattle.node_core.specs.Receipts.{AgreesWith}
use Rattle.node_core.specs.declared.orders.OrderNote.{OrderNote}
use Rattle.node_core.specs.declared.receipt.Receipt.{Receipt}

-- ---- services by their names

-- the place of the first service of a name
abbrev place_named : List ℕ → List Kept → ℕ
place_named name [] = 0
place_named name (s ∷ rest) = cond (same_text (me s) name) 0 (suc (place_named name rest))

found_there : (name : List ℕ) (services : List Kept) → service_of name services ≡ slice_get services (place_named name services)
found_there name [] = refl
found_there name (s ∷ rest) = elim (cases_Bool (same_text (me s) name)) [
  | inl is ↦ rw is refl
  | inr differs ↦ rw differs (found_there name rest)
]

has_its_name : (name : List ℕ) (services : List Kept) (s : Kept) → service_of name services ≡ Some s → me s ≡ name
has_its_name name [] s h = cc
has_its_name name (t ∷ rest) s h = elim (cases_Bool (same_text (me t) name)) [
  | inl is ↦
      let here : Some t ≡ Some s = rw is at h in
      let same : t ≡ s = cc in
      subst (λ (k : Kept). me k ≡ name) same ((bytes_decides (me t) name).0 is)
  | inr differs ↦ has_its_name name rest s (rw differs at h)
]

-- the test for the name finds that place
same_place : (name : List ℕ) (services : List Kept) → position_or_len (λ (s : Kept). same_text (me s) name) services ≡ place_named name services
same_place name [] = refl
same_place name (s ∷ rest) = elim (cases_Bool (same_text (me s) name)) [
  | inl is ↦ rw is refl
  | inr differs ↦ rw differs (omega (arith, same_place name rest))
]

-- and its journal counts from the index there
since_there : (name : List ℕ) (since : List ℕ) (services : List Kept) (s : Kept) → slice_get services (place_named name services) ≡ Some s
    → since_of name since services ≡ get_or since (place_named name services) 0
since_there name since services s there =
    let within : place_named name services < length services = slice_get_within services (place_named name services) s there in
    let less : nat_lt (place_named name services) (length services) ≡ true = grind (arith, nat_tests, within) in
    rw (same_place name services, less) refl

-- ---- what stands in journals since they were opened

abbrev cut : List Kept → List ℕ → List (List Row)
cut [] since = []
cut (s ∷ services) [] = drop 0 s.journal ∷ cut services []
cut (s ∷ services) (first ∷ since) = drop first s.journal ∷ cut services since

cut_first : (first : ℕ) (t s : Kept) → Some t ≡ Some s → Some (drop first t.journal) ≡ Some (drop first s.journal)
cut_first first t s e = (let same : t ≡ s = cc in ap (λ (x : Kept). Some (drop first x.journal)) same)

cut_at : (services : List Kept) (since : List ℕ) (k : ℕ) (s : Kept) → slice_get services k ≡ Some s
    → slice_get (cut services since) k ≡ Some (drop (get_or since k 0) s.journal)
cut_at [] since k s there = cc
cut_at (t ∷ services) [] zero s there = cut_first 0 t s there
cut_at (t ∷ services) [] (suc k) s there = cut_at services [] k s there
cut_at (t ∷ services) (first ∷ since) zero s there = cut_first first t s there
cut_at (t ∷ services) (first ∷ since) (suc k) s there = cut_at services since k s there

-- what stands behind so many others
behind : {X : Type 0} (first : ℕ) (xs : List X) (i k : ℕ) (x : X) → i ≡ first + k → slice_get xs i ≡ Some x → slice_get (drop first xs) k ≡ Some x
behind first [] i k x is there = cc
behind zero (y ∷ xs) i k x is there = (let same : i ≡ k = omega (arith, is) in subst (λ n. slice_get (y ∷ xs) n ≡ Some x) same there)
behind (suc first) (y ∷ xs) zero k x is there = absurd (omega (arith, is))
behind (suc first) (y ∷ xs) (suc i) k x is there = behind first xs i k x (omega (arith, is)) there

count_all : (kind : Row → Bool) (services : List Kept) (since : List ℕ) → sum_by (lives kind) (cut services since) ≡ kinds_since kind services since
count_all kind [] since = refl
count_all kind (s ∷ services) [] = omega (arith, sum_by-cons (lives kind) (drop 0 s.journal) (cut services []), count_all kind services [])
count_all kind (s ∷ services) (first ∷ since) =
    omega (arith, sum_by-cons (lives kind) (drop first s.journal) (cut services since), count_all kind services since)

-- with one service more
kinds_more : (kind : Row → Bool) (services : List Kept) (since : List ℕ) (s : Kept)
    → kinds_since kind (services ++ s ∷ []) since ≡ kinds_since kind services since + kind_since kind (get_or since (length services) 0) s
kinds_more kind [] [] s = omega arith
kinds_more kind [] (first ∷ since) s = omega arith
kinds_more kind (t ∷ services) [] s = omega (arith, kinds_more kind services [] s)
kinds_more kind (t ∷ services) (first ∷ since) s = omega (arith, kinds_more kind services since s)

pub told_more : (services : List Kept) (since : List ℕ) (s : Kept)
    → all_told_since (services ++ s ∷ []) since ≡ all_told_since services since + told_since (get_or since (length services) 0) s
told_more services since s = omega (arith, kinds_more is_live_row services since s, kinds_more is_order_row services since s)

-- ---- the spot of a row that is noted

-- from which index on the journal of the service of this name counts
abbrev from_of : List ℕ → List Kept → List ℕ → ℕ
from_of since services name = get_or since (place_named name services) 0

abbrev spot_of : List ℕ → List Kept → List ℕ → ℕ → Spot
spot_of since services name index = (place_named name services, index - from_of since services name)

-- the service of this name, of which this holds
record Named (services : List Kept) (name : List ℕ) (P : Kept → Type 0) : Type 0 where
  pub service : Kept
  pub there : slice_get services (place_named name services) ≡ Some service
  pub is : me service ≡ name
  pub holds : P service

named_at : (services : List Kept) (name : List ℕ) (P : Kept → Type 0) (o : Option Kept) → service_of name services ≡ o → IsSomeAnd o P → Named services name P
named_at services name P None is h = absurd h
named_at services name P (Some s) is h =
    record { service = s; there = sym (found_there name services) ∙ is; is = has_its_name name services s is; holds = h }

named : (services : List Kept) (name : List ℕ) (P : Kept → Type 0) → IsSomeAnd (service_of name services) P → Named services name P
named services name P h = named_at services name P (service_of name services) refl h

some_weaker : (o : Option Kept) (P Q : Kept → Type 0) → ((s : Kept) → P s → Q s) → IsSomeAnd o P → IsSomeAnd o Q
some_weaker None P Q weaker h = absurd h
some_weaker (Some s) P Q weaker h = weaker s h

live_spot : (kind : Row → Bool) (since : List ℕ) (services : List Kept) (k : ℕ) (s : Kept) (place : ℕ) (row : Row) → slice_get services k ≡ Some s
    → get_or since k 0 ≤ place → slice_get s.journal place ≡ Some row → kind row ≡ true → is_live_at kind (cut services since) (k, place - get_or since k 0) ≡ true
live_spot kind since services k s place row there later at live =
    let first = get_or since k 0 in
    let here = behind first s.journal place (place - first) row (omega (arith, later)) at in
    rw (cut_at services since k s there, here) live

-- ---- notes of one kind of rows

-- one of these is of the row at this place of the journal of the service at this place
record HasOne {A : Type 0} (service : A → List ℕ) (index : A → ℕ) (row : A → Row) (services : List Kept) (notes : List A) (k : ℕ) (s : Kept) (place : ℕ) (is : Row) : Type 0 where
  pub note : A
  pub at : ℕ
  pub there : slice_get notes at ≡ Some note
  pub list : place_named (service note) services ≡ k
  pub name : service note ≡ me s
  pub stands : index note ≡ place
  pub says : row note ≡ is

module _ {A : Type 0} (service : A → List ℕ) (index : A → ℕ) (row : A → Row) (kind : Row → Bool) (is_kind : (a : A) → kind (row a) ≡ true)
    (since : List ℕ) (services : List Kept) (notes : List A)
    (stand : (at : ℕ) (a : A) → slice_get notes at ≡ Some a
    → IsSomeAnd (service_of (service a) services) (λ (s : Kept). slice_get s.journal (index a) ≡ Some (row a)) × (since_of (service a) since services ≤ index a))
  where
    abbrev spot : A → Spot
    spot a = spot_of since services (service a) (index a)

    abbrev HasIt : A → Kept → Type 0
    HasIt a s = slice_get s.journal (index a) ≡ Some (row a)

    named_there : (at : ℕ) (a : A) → slice_get notes at ≡ Some a → Named services (service a) (HasIt a)
    named_there at a there = named services (service a) (HasIt a) (stand at a there).0

    -- it stands there since the journal was opened
    later_there : (at : ℕ) (a : A) → slice_get notes at ≡ Some a → from_of since services (service a) ≤ index a
    later_there at a there =
        let n = named_there at a there in
        let from = since_there (service a) since services n.service n.there in
        let later = (stand at a there).1 in
        omega (arith, from, later)

    name_live : NameLive kind (cut services since) spot notes
    name_live at a there =
        let n = named_there at a there in
        live_spot kind since services (place_named (service a) services) n.service (index a) (row a) n.there (later_there at a there) n.holds (is_kind a)

    -- two of one service name it
    name_apart : ApartBy service index notes → NameApart spot notes
    name_apart apart at other a b here there same =
        let m = named_there at a here in
        let n = named_there other b there in
        let both = spots_same (spot a) (spot b) same in
        let list : place_named (service a) services ≡ place_named (service b) services = sym both.0 in
        let from : from_of since services (service a) ≡ from_of since services (service b) = ap (λ k. get_or since k 0) list in
        let first = later_there at a here in
        let second = later_there other b there in
        let place : index a ≡ index b = omega (arith, both.1, from, first, second) in
        let back : slice_get services (place_named (service a) services) ≡ Some n.service = ap (slice_get services) list ∙ n.there in
        let one : m.service ≡ n.service = cc in
        apart at other a b here there (sym m.is ∙ ap (λ (s : Kept). me s) one ∙ n.is, place)

    -- they are no more than the rows
    few : ApartBy service index notes → length notes ≤ kinds_since kind services since
    few apart =
        let most = few_named kind (cut services since) spot notes name_live (name_apart apart) in
        omega (arith, most, count_all kind services since)

    found_one : (k : ℕ) (s : Kept) (place : ℕ) (is : Row) → slice_get services k ≡ Some s → get_or since k 0 ≤ place → slice_get s.journal place ≡ Some is
        → Found spot notes (k, place - get_or since k 0) → HasOne service index row services notes k s place is
    found_one k s place is there later at found =
        let a = found.thing in
        let n = named_there found.at a found.there in
        let here : slice_get services k ≡ Some n.service = ap (slice_get services) (sym found.list) ∙ n.there in
        let one : n.service ≡ s = cc in
        let holds : HasIt a s = subst (HasIt a) one n.holds in
        let from : from_of since services (service a) ≡ get_or since k 0 = ap (λ i. get_or since i 0) found.list in
        let spot = found.place in
        let stands = later_there found.at a found.there in
        let at_place : index a ≡ place = omega (arith, spot, from, stands, later) in
        let read : slice_get s.journal place ≡ Some (row a) = ap (slice_get s.journal) (sym at_place) ∙ holds in
        record {
          note = a;
          at = found.at;
          there = found.there;
          list = found.list;
          name = sym n.is ∙ ap (λ (t : Kept). me t) one;
          stands = at_place;
          says = cc;
        }

    -- where they are as many as the rows, each row has one
    has_one : ApartBy service index notes → length notes ≡ kinds_since kind services since
        → (k : ℕ) (s : Kept) (place : ℕ) (is : Row) → slice_get services k ≡ Some s → get_or since k 0 ≤ place → slice_get s.journal place ≡ Some is → kind is ≡ true
        → HasOne service index row services notes k s place is
    has_one apart many k s place is there later at live =
        found_one k s place is there later at
        (each_found kind (cut services since) spot notes name_live (name_apart apart) (many ∙ sym (count_all kind services since)) (k, place - get_or since k 0)
        (live_spot kind since services k s place is there later at live))

-- ---- receipts and notes of orders

abbrev receipt_service : Receipt → List ℕ
receipt_service r = r.service

abbrev receipt_index : Receipt → ℕ
receipt_index r = r.index

abbrev receipt_row : Receipt → Row
receipt_row r = r.row

abbrev order_service : OrderNote → List ℕ
order_service n = n.service

abbrev order_index : OrderNote → ℕ
order_index n = n.index

abbrev ordered_row : OrderNote → Row
ordered_row n = Ordered n.row

module _ (since : List ℕ) (services : List Kept) (receipts : List Receipt) (orders : List OrderNote) (agree : AllAgreeSince since services receipts) (apart : AreApart receipts)
    (stand : AllStandSince since services orders) (once : OrdersApart orders) (many : length receipts + length orders ≡ all_told_since services since)
  where
    receipts_stand : (at : ℕ) (r : Receipt) → slice_get receipts at ≡ Some r
        → IsSomeAnd (service_of r.service services) (λ (s : Kept). slice_get s.journal r.index ≡ Some r.row) × (since_of r.service since services ≤ r.index)
    receipts_stand at r there =
        let h = agree at r there in (
          some_weaker (service_of r.service services) (λ (s : Kept). AgreesWith s.journal r) (λ (s : Kept). slice_get s.journal r.index ≡ Some r.row) (λ s a. a.there) h.0,
          h.1,
        )

    few_receipts : length receipts ≤ kinds_since is_live_row services since
    few_receipts = few receipt_service receipt_index receipt_row is_live_row (λ r. r.live) since services receipts receipts_stand apart

    few_orders : length orders ≤ kinds_since is_order_row services since
    few_orders = few order_service order_index ordered_row is_order_row (λ n. refl) since services orders stand once

    has_receipt : (k : ℕ) (s : Kept) (place : ℕ) (row : Row) → slice_get services k ≡ Some s → HasOne receipt_service receipt_index receipt_row services receipts k s place row
        → HasReceipt s place row receipts
    has_receipt k s place row there h =
        let r = h.note in
        let n = named services r.service (λ (t : Kept). AgreesWith t.journal r) (agree h.at r h.there).0 in
        let here : slice_get services k ≡ Some n.service = ap (slice_get services) (sym h.list) ∙ n.there in
        let one : n.service ≡ s = cc in
        record {
          receipt = r;
          at = h.at;
          there = h.there;
          service = h.name;
          index = h.stands;
          answer = h.says;
          agrees = subst (λ (t : Kept). AgreesWith t.journal r) one n.holds;
        }

    -- each answer has a receipt
    pub whole : IsWholeSince since services receipts
    whole =
        record {
          agree = agree;
          each = λ k s place row there later at live. has_receipt k s place row there
              (has_one receipt_service receipt_index receipt_row is_live_row (λ r. r.live) since services receipts receipts_stand apart
              (omega (arith, few_receipts, few_orders, many)) k s place row there later at live);
          once = apart;
        }

    has_note : (k : ℕ) (s : Kept) (place : ℕ) (row : OrderedRow) → HasOne order_service order_index ordered_row services orders k s place (Ordered row) → HasNote s place row orders
    has_note k s place row h =
        let n = h.note in
        let says : Ordered n.row ≡ Ordered row = h.says in
        let same : n.row ≡ row = cc in
        let is : order_note n.service n.index n.row ≡ order_note (me s) place row =
        ap (λ name. order_note name n.index n.row) h.name ∙ ap (λ i. order_note (me s) i n.row) h.stands ∙ ap (order_note (me s) place) same in
        record { at = h.at; there = h.there ∙ ap (λ (m : OrderNote). Some m) is }

    -- each order has a note
    pub noted : AreNoted since services orders
    noted =
        record {
          stand = stand;
          each = λ k s place row there later at. has_note k s place row
              (has_one order_service order_index ordered_row is_order_row (λ n. refl) since services orders stand once
              (omega (arith, few_receipts, few_orders, many)) k s place (Ordered row) there later at refl);
          once = once;
        }
