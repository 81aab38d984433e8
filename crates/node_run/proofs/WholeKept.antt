-- Receipts and notes of orders stay one to one with what journals answer and have since they were opened, where these go on without another live answer
-- and order.
use Rattle.std.proofs.Common.{◌≡◌, ◌⊎◌, ◌+◌, ℕ, zero, suc, Bool, true, false, cond, not, List, [], ◌∷◌, ◌++◌, Option, Some, None, IsSomeAnd, get_or, length, slice_get, nat_eq, nat_lt, refl, sym, ap, ap₂, ◌∙◌, subst, arith, inl, inr}
use Rattle.std.specs.List.{filter, fold, position_or_len}
use Rattle.std.specs.Option.{option_map_or}
use Rattle.std.proofs.lemmas.Bool.{cases_Bool}
use Rattle.std.proofs.lemmas.List.{append_cancel_left, append-nil}
use Rattle.std.proofs.lemmas.List.Elements.{filter-append}
use Rattle.std.proofs.lemmas.List.Sums.{fold-append}
use Rattle.lang_base.specs.Texts.{same_text}
use Rattle.journal_rows.specs.Words.{asked, asked_step}
use Rattle.journal_rows.specs.declared.callee.AskedRow.{AskedRow}
use Rattle.journal_rows.specs.declared.orders.OrderedRow.{OrderedRow}
use Rattle.journal_rows.specs.declared.row.Row.{Row}
use Rattle.journal_rows.specs.declared.row.Row.TheVariants as rows
use Rattle.service_events.specs.Commits.{is_live_row}
use Rattle.service_events.specs.State.{Kept, me}
use Rattle.node_core.specs.Closings.{AreNoted, HasNote, HasReceipt, IsWholeSince, service_of, since_of}
use Rattle.node_core.specs.Orders.{is_order_row, order_note}
use Rattle.node_core.specs.Receipts.{AgreesWith, WasAskedSo, answered_id}
use Rattle.node_core.specs.declared.orders.OrderNote.{OrderNote}
use Rattle.node_core.specs.declared.receipt.Receipt.{Receipt}
use Rattle.node_core.proofs.SearchLemmas.{in_longer}
use Rattle.node_run.specs.Settled.{GoesOnFrom, HaveSettled}

-- ---- one journal

-- what stands behind is elsewhere
got_within : {X : Type 0} (xs ys : List X) (i : ℕ) (x : X) → slice_get (xs ++ ys) i ≡ Some x → slice_get xs i ≡ Some x ⊎ ((k : ℕ) × (slice_get ys k ≡ Some x))
got_within [] ys i x h = inr (i, h)
got_within (y ∷ xs) ys zero x h = inl h
got_within (y ∷ xs) ys (suc i) x h = got_within xs ys i x h

asked_on : (id : ℕ) (a : AskedRow) (row : Row) → asked_step id (Some a) row ≡ Some a
asked_on id a (rows.Asked b) = elim (cases_Bool (nat_eq b.id id)) [
  | inl same ↦ rw same refl
  | inr other ↦ rw other refl
]
asked_on id a row = refl

asked_stays : (id : ℕ) (a : AskedRow) (more : List Row) → fold (asked_step id) (Some a) more ≡ Some a
asked_stays id a [] = refl
asked_stays id a (row ∷ more) = ap (λ o. fold (asked_step id) o more) (asked_on id a row) ∙ asked_stays id a more

still_asked_by : (o : Option AskedRow) (id : ℕ) (journal more : List Row) (r : Receipt) → asked id journal ≡ o → WasAskedSo r.request r.inputs o → asked id (journal ++ more) ≡ o
still_asked_by None id journal more r is so = absurd so
still_asked_by (Some a) id journal more r is so =
    fold-append (asked_step id) None journal more ∙ (ap (λ o. fold (asked_step id) o more) is ∙ asked_stays id a more)

still_agrees : (journal more : List Row) (r : Receipt) → AgreesWith journal r → AgreesWith (journal ++ more) r
still_agrees journal more r h = record {
  there = in_longer journal more r.index r.row h.there;
  asked_so = (let id = answered_id r.row in
      subst (WasAskedSo r.request r.inputs) (sym (still_asked_by (asked id journal) id journal more r refl h.asked_so)) h.asked_so);
}

-- a row that passes a test stands among those that do
passes_none : {X : Type 0} (p : X → Bool) (xs : List X) (k : ℕ) (x : X) → filter p xs ≡ [] → slice_get xs k ≡ Some x → p x ≡ true → ⊥
passes_none p [] k x none there passes = cc
passes_none p (y ∷ xs) zero x none there passes = (let same : y ≡ x = cc in let first : p y ≡ true = subst (λ z. p z ≡ true) (sym same) passes in (let h = rw first at none in cc))
passes_none p (y ∷ xs) (suc k) x none there passes = elim (cases_Bool (p y)) [
  | inl first ↦ (let h = rw first at none in cc)
  | inr other ↦ passes_none p xs k x (rw other at none) there passes
]

-- none of a kind came behind
none_behind : (kind : Row → Bool) (s t : Kept) (g : GoesOnFrom s t) → filter kind t.journal ≡ filter kind s.journal → filter kind g.rows ≡ []
none_behind kind s t g same =
    let both : filter kind s.journal ++ filter kind g.rows ≡ filter kind s.journal ++ [] =
    sym (filter-append kind s.journal g.rows) ∙ (ap (filter kind) (sym g.is) ∙ (same ∙ sym (append-nil (filter kind s.journal)))) in
    append_cancel_left (filter kind s.journal) (filter kind g.rows) [] both

module _ (s t : Kept) (g : GoesOnFrom s t) where
  agrees_on : (r : Receipt) → AgreesWith s.journal r → AgreesWith t.journal r
  agrees_on r h = subst (λ journal. AgreesWith journal r) (sym g.is) (still_agrees s.journal g.rows r h)

  -- what stands there of a kind stood there
  stood : (kind : Row → Bool) (place : ℕ) (row : Row) → filter kind t.journal ≡ filter kind s.journal → slice_get t.journal place ≡ Some row → kind row ≡ true
      → slice_get s.journal place ≡ Some row
  stood kind place row same there is = elim (got_within s.journal g.rows place row (subst (λ journal. slice_get journal place ≡ Some row) g.is there)) [
    | inl before ↦ before
    | inr behind ↦ absurd (passes_none kind g.rows behind.0 row (none_behind kind s t g same) behind.1 is)
  ]

  stands_on : (n : OrderNote) → slice_get s.journal n.index ≡ Some (rows.Ordered n.row) → slice_get t.journal n.index ≡ Some (rows.Ordered n.row)
  stands_on n h = ap (λ (journal : List Row). slice_get journal n.index) g.is ∙ in_longer s.journal g.rows n.index (rows.Ordered n.row) h

  noted_still : (place : ℕ) (row : OrderedRow) (orders : List OrderNote) → HasNote s place row orders → HasNote t place row orders
  noted_still place row orders h = record { at = h.at; there = h.there ∙ ap (λ (name : List ℕ). Some (order_note name place row)) (sym g.name) }

  has_still : (place : ℕ) (row : Row) (receipts : List Receipt) → HasReceipt s place row receipts → HasReceipt t place row receipts
  has_still place row receipts h = record {
    receipt = h.receipt;
    at = h.at;
    there = h.there;
    service = h.service ∙ sym g.name;
    index = h.index;
    answer = h.answer;
    agrees = agrees_on h.receipt h.agrees;
  }

-- ---- services, in order

-- the one of that place before
record Was (services : List Kept) (k : ℕ) (t : Kept) : Type 0 where
  before : Kept
  there : slice_get services k ≡ Some before
  goes : GoesOnFrom before t

was : (ss ts : List Kept) (k : ℕ) (t : Kept) → HaveSettled ss ts → slice_get ts k ≡ Some t → Was ss k t
was [] [] k t h there = cc
was [] (y ∷ ts) k t h there = absurd h
was (x ∷ ss) [] k t h there = absurd h
was (x ∷ ss) (y ∷ ts) zero t h there =
    (let same : y ≡ t = cc in record { before = x; there = refl; goes = subst (GoesOnFrom x) same h.0.goes })
was (x ∷ ss) (y ∷ ts) (suc k) t h there = (let w = was ss ts k t h.1 there in record { before = w.before; there = w.there; goes = w.goes })

-- what holds of the service of a name holds of it still
some_still : (Q : Kept → Type 0) → ((s t : Kept) → GoesOnFrom s t → Q s → Q t) → (ss ts : List Kept) (name : List ℕ) → HaveSettled ss ts
    → IsSomeAnd (service_of name ss) Q → IsSomeAnd (service_of name ts) Q
some_still Q keeps [] [] name h holds = absurd holds
some_still Q keeps [] (y ∷ ts) name h holds = absurd h
some_still Q keeps (x ∷ ss) [] name h holds = absurd h
some_still Q keeps (x ∷ ss) (y ∷ ts) name h holds =
    let same : same_text (me y) name ≡ same_text (me x) name = ap (λ one. same_text one name) h.0.goes.name in
    elim (cases_Bool (same_text (me x) name)) [
      | inl is ↦ (let that : same_text (me y) name ≡ true = same ∙ is in
          let one : Q x = rw is at holds in
          rw that (keeps x y h.0.goes one))
      | inr other ↦ (let that : same_text (me y) name ≡ false = same ∙ other in
          let more : IsSomeAnd (service_of name ss) Q = rw other at holds in
          rw that (some_still Q keeps ss ts name h.1 more))
    ]

-- names lead to the same places
places_still : (ss ts : List Kept) (name : List ℕ) → HaveSettled ss ts
    → (length ts ≡ length ss) × (position_or_len (λ (s : Kept). same_text (me s) name) ts ≡ position_or_len (λ (s : Kept). same_text (me s) name) ss)
places_still [] [] name h = (refl, refl)
places_still [] (y ∷ ts) name h = absurd h
places_still (x ∷ ss) [] name h = absurd h
places_still (x ∷ ss) (y ∷ ts) name h =
    let same : same_text (me y) name ≡ same_text (me x) name = ap (λ one. same_text one name) h.0.goes.name in
    let more = places_still ss ts name h.1 in
    (ap suc more.0, ap₂ (λ b n. cond (not b) (1 + n) 0) same more.1)

since_still : (since : List ℕ) (ss ts : List Kept) (name : List ℕ) → HaveSettled ss ts → since_of name since ts ≡ since_of name since ss
since_still since ss ts name h =
    let still = places_still ss ts name h in
    ap₂ (λ many place. option_map_or (λ (n : ℕ). get_or since n 0) (cond (nat_lt place many) (Some place) None) 0) still.0 still.1

-- receipts and live answers are one to one still
pub whole_kept : (since : List ℕ) (ss ts : List Kept) (receipts : List Receipt) → HaveSettled ss ts → IsWholeSince since ss receipts → IsWholeSince since ts receipts
whole_kept since ss ts receipts h whole = record {
  agree = λ at r there. (let before = whole.agree at r there in
      let same = since_still since ss ts r.service h in (
        some_still (λ (s : Kept). AgreesWith s.journal r) (λ s t g agrees. agrees_on s t g r agrees) ss ts r.service h before.0,
        (let later = before.1 in omega (arith, same, later)),
      ));
  each = λ k t place row here later there live. (let w = was ss ts k t h here in
      has_still w.before t w.goes place row receipts
      (whole.each k w.before place row w.there later (stood w.before t w.goes is_live_row place row w.goes.silent there live) live));
  once = whole.once;
}

-- and so are notes and orders
pub noted_kept : (since : List ℕ) (ss ts : List Kept) (orders : List OrderNote) → HaveSettled ss ts → AreNoted since ss orders → AreNoted since ts orders
noted_kept since ss ts orders h noted = record {
  stand = λ at n there. (let before = noted.stand at n there in
      let same = since_still since ss ts n.service h in (
        some_still (λ (s : Kept). slice_get s.journal n.index ≡ Some (rows.Ordered n.row)) (λ s t g stands. stands_on s t g n stands) ss ts n.service h before.0,
        (let later = before.1 in omega (arith, same, later)),
      ));
  each = λ k t place row here later there. (let w = was ss ts k t h here in
      noted_still w.before t w.goes place row orders
      (noted.each k w.before place row w.there later (stood w.before t w.goes is_order_row place (rows.Ordered row) w.goes.unordered there refl)));
  once = noted.once;
}
