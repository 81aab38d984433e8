-- Call order is the order of the ways up: of two requests to which a root comes, the one before the other has the earlier slots.
use Rattle.std.proofs.Common.{◌≡◌, ◌≤◌, ◌<◌, ◌+◌, ℕ, zero, suc, Bool, true, cond, List, [], ◌∷◌, ◌++◌, Some, slice_get, inl, inr, refl, sym, ap, ◌∙◌, subst, append-nil, nat_eq, nat_lt, eq-eqb, eqb-true, arith}
use Rattle.std.proofs.lemmas.Bool.{cases_Bool, lt-ltb}
use Rattle.lang_core.specs.declared.ids.RequestId.{RequestId}
use Rattle.lang_core.specs.declared.trace.CallMade.{CallMade}
use Rattle.execution.specs.Executions.{Act, History, survives}
use Rattle.execution.specs.Together.{history_in, name_of}
use Rattle.one_world.specs.Trees.{AreCalled, AreRoots, IsCallee, IsRoot, Trees, call_order, callee_in, calls_of, id_of, none, tree}
use Rattle.one_world.proofs.Alike.{both_some}
use Rattle.one_world.proofs.Lists.{Has, has_behind, if_false, if_true}
use Rattle.one_world.proofs.Stuck.{has_append}
use Rattle.one_order.specs.Cycles.{Place, callee_at, id_at, in_slot, is_earlier, led_to, place_in}
use Rattle.one_order.proofs.Climbs.{Up, at, down, has_front, step_of}

-- ---- lists

-- each is so beside all behind it
abbrev pub AreSorted : {X : Type 0} → (X → X → Type 0) → List X → Type 0
AreSorted R [] = Unit {0}
AreSorted R (x ∷ xs) = ((y : _) → Has y xs → R x y) × AreSorted R xs

sorted_by : {X : Type 0} (R S : X → X → Type 0) (xs : List X) → ((x y : X) → R x y → S x y) → AreSorted R xs → AreSorted S xs
sorted_by R S [] lift sorted = tt
sorted_by R S (x ∷ xs) lift sorted = (λ y there. lift x y (sorted.0 y there), sorted_by R S xs lift sorted.1)

first_or_later : {X : Type 0} (P : X → Type 0) (xs ys : List X) → ((y : X) → Has y xs → P y) → ((y : X) → Has y ys → P y) → (y : X) → Has y (xs ++ ys) → P y
first_or_later P xs ys first later y h = elim (has_append y xs ys h) [
  | inl there ↦ first y there
  | inr behind ↦ later y behind
]

sorted_append : {X : Type 0} (R : X → X → Type 0) (xs ys : List X) → AreSorted R xs → AreSorted R ys → ((x : X) → Has x xs → (y : X) → Has y ys → R x y) → AreSorted R (xs ++ ys)
sorted_append R [] ys p q across = q
sorted_append R (x ∷ xs) ys p q across =
    (first_or_later (R x) xs ys p.0 (across x (inl refl)), sorted_append R xs ys p.1 q (λ z there. across z (inr there)))

-- ---- slots

same_slot : (k : ℕ) (ss ts : List ℕ) → is_earlier (k ∷ ss) (k ∷ ts) ≡ is_earlier ss ts
same_slot k ss ts = if_true (nat_eq k k) (is_earlier ss ts) (nat_lt k k) (eq-eqb k k refl)

apart_slots : (k m : ℕ) (b : Bool) → k < m → cond (nat_eq k m) b (nat_lt k m) ≡ true
apart_slots k m b lt = elim (cases_Bool (nat_eq k m)) [
  | inl is ↦ (let same : k ≡ m = eqb-true k m is in absurd (omega (arith, lt, same)))
  | inr other ↦ if_false (nat_eq k m) b (nat_lt k m) other ∙ lt-ltb k m lt
]

earlier_slot : (k m : ℕ) (ss ts : List ℕ) → k < m → is_earlier (k ∷ ss) (m ∷ ts) ≡ true
earlier_slot k m ss ts lt = apart_slots k m (is_earlier ss ts) lt

-- the same turned round twice
down_onto : (xs ys zs : List ℕ) → down (down xs ys) zs ≡ down ys (xs ++ zs)
down_onto [] ys zs = refl
down_onto (x ∷ xs) ys zs = down_onto xs (x ∷ ys) zs

pub down_twice : (xs : List ℕ) → down (down xs []) [] ≡ xs
down_twice xs = down_onto xs [] [] ∙ append-nil xs

pub down_same : (xs ys : List ℕ) → down xs [] ≡ down ys [] → xs ≡ ys
down_same xs ys e = sym (down_twice xs) ∙ ap (λ zs. down zs []) e ∙ down_twice ys

-- ---- the marks of a request

-- a root comes to a request that survives, by these slots, the last call first
pub record Mark (world : List History) (i : RequestId) (slots : List ℕ) (id : RequestId) : Type 0 where
  pub place : Place
  pub up : Up world i slots place
  pub alive : survives place.act ≡ true
  pub is : id_at place ≡ id

-- it does so below a request with these slots, in one of its slots from this one on
pub record From (world : List History) (i : RequestId) (above : List ℕ) (k : ℕ) (id : RequestId) : Type 0 where
  pub slot : ℕ
  pub below : List ℕ
  pub not_before : k ≤ slot
  pub mark : Mark world i (down (slot ∷ below) above) id

-- below a request with these slots a root comes to the one by earlier slots than to the other
pub record Earlier (world : List History) (i : RequestId) (above : List ℕ) (id other : RequestId) : Type 0 where
  pub slots : List ℕ
  pub others : List ℕ
  pub first : Mark world i (down slots above) id
  pub second : Mark world i (down others above) other
  pub earlier : is_earlier slots others ≡ true

-- what is called from a slot on, in call order
record Ordered (world : List History) (i : RequestId) (above : List ℕ) (k : ℕ) (ids : List RequestId) : Type 0 where
  from : (x : RequestId) → Has x ids → From world i above k x
  sorted : AreSorted (Earlier world i above) ids

-- ---- calls from a slot on

record AreFrom (q : Place) (k : ℕ) (ns : List ℕ) (cs : List CallMade) : Type 0 where
  numbers : (m : ℕ) → slice_get ns m ≡ slice_get q.act.numbers (k + m)
  calls : (m : ℕ) → slice_get cs m ≡ slice_get (calls_of q.act) (k + m)

from_first : (q : Place) → AreFrom q 0 q.act.numbers (calls_of q.act)
from_first q = record {
  numbers = λ m. (let e : m ≡ 0 + m = omega arith in ap (slice_get q.act.numbers) e);
  calls = λ m. (let e : m ≡ 0 + m = omega arith in ap (slice_get (calls_of q.act)) e);
}

from_next : (q : Place) (k : ℕ) (n : ℕ) (ns : List ℕ) (c : CallMade) (cs : List CallMade) → AreFrom q k (n ∷ ns) (c ∷ cs) → AreFrom q (suc k) ns cs
from_next q k n ns c cs from = record {
  numbers = λ m. (let e : k + suc m ≡ suc k + m = omega arith in from.numbers (suc m) ∙ ap (slice_get q.act.numbers) e);
  calls = λ m. (let e : k + suc m ≡ suc k + m = omega arith in from.calls (suc m) ∙ ap (slice_get (calls_of q.act)) e);
}

called_at : (world : List History) (q : Place) (k : ℕ) (n : ℕ) (ns : List ℕ) (c : CallMade) (cs : List CallMade) (h : History) (a : Act) → AreFrom q k (n ∷ ns) (c ∷ cs)
    → IsCallee world (name_of q.history) n c h a → in_slot world q k ≡ Some (at h a)
called_at world q k n ns c cs h a from callee =
    let here : k ≡ k + 0 = omega arith in
    let number : slice_get q.act.numbers k ≡ Some n = ap (slice_get q.act.numbers) here ∙ sym (from.numbers 0) in
    let call : slice_get (calls_of q.act) k ≡ Some c = ap (slice_get (calls_of q.act)) here ∙ sym (from.calls 0) in
    ap (λ o. led_to world (name_of q.history) o (slice_get (calls_of q.act) k)) number
    ∙ ap (λ o. led_to world (name_of q.history) (Some n) o) call
    ∙ ap (λ o. callee_at (name_of q.history) n o) callee.served
    ∙ ap (λ o. place_in h o) callee.called

-- ---- call order

widened : (world : List History) (i : RequestId) (above : List ℕ) (k : ℕ) (x : RequestId) → From world i above (suc k) x → From world i above k x
widened world i above k x f =
    let late = f.not_before in
    record { slot = f.slot; below = f.below; not_before = omega (arith, late); mark = f.mark }

deeper : (world : List History) (i : RequestId) (above : List ℕ) (k : ℕ) (x : RequestId) → From world i (k ∷ above) 0 x → From world i above k x
deeper world i above k x f = record { slot = k; below = f.slot ∷ f.below; not_before = omega arith; mark = f.mark }

deeper_earlier : (world : List History) (i : RequestId) (above : List ℕ) (k : ℕ) (x y : RequestId) → Earlier world i (k ∷ above) x y → Earlier world i above x y
deeper_earlier world i above k x y e = record {
  slots = k ∷ e.slots;
  others = k ∷ e.others;
  first = e.first;
  second = e.second;
  earlier = same_slot k e.slots e.others ∙ e.earlier;
}

module _ (world : List History) (i : RequestId) (above : List ℕ) (k : ℕ) (h : History) (a : Act) (mark : Mark world i (k ∷ above) (id_of h a)) (us vs : List RequestId)
    (under : Ordered world i (k ∷ above) 0 us) (later : Ordered world i above (suc k) vs) where
  before_under : (y : RequestId) → Has y us → Earlier world i above (id_of h a) y
  before_under y there =
      let f = under.from y there in
      record { slots = k ∷ []; others = k ∷ f.slot ∷ f.below; first = mark; second = f.mark; earlier = same_slot k [] (f.slot ∷ f.below) }

  before_later : (y : RequestId) → Has y vs → Earlier world i above (id_of h a) y
  before_later y there =
      let f = later.from y there in
      record { slots = k ∷ []; others = f.slot ∷ f.below; first = mark; second = f.mark; earlier = earlier_slot k f.slot [] f.below f.not_before }

  across : (x : RequestId) → Has x us → (y : RequestId) → Has y vs → Earlier world i above x y
  across x there y behind =
      let f = under.from x there in
      let g = later.from y behind in
      record {
        slots = k ∷ f.slot ∷ f.below;
        others = g.slot ∷ g.below;
        first = f.mark;
        second = g.mark;
        earlier = earlier_slot k g.slot (f.slot ∷ f.below) g.below g.not_before;
      }

  from_all : (x : RequestId) → Has x (id_of h a ∷ (us ++ vs)) → From world i above k x
  from_all x (inl e) = record { slot = k; below = []; not_before = omega arith; mark = subst (Mark world i (k ∷ above)) (sym e) mark }
  from_all x (inr more) =
      first_or_later (From world i above k) us vs (λ y there. deeper world i above k y (under.from y there)) (λ y there. widened world i above k y (later.from y there)) x more

  joined : Ordered world i above k (id_of h a ∷ (us ++ vs))
  joined = record {
    from = from_all;
    sorted = (
      first_or_later (Earlier world i above (id_of h a)) us vs before_under before_later,
      sorted_append (Earlier world i above) us vs
          (sorted_by (Earlier world i (k ∷ above)) (Earlier world i above) us (λ x y e. deeper_earlier world i above k x y e) under.sorted) later.sorted across,
    );
  }

-- what a request called stands in call order
ordered : (world : List History) (i : RequestId) (t : Trees) (q : Place) (above : List ℕ) (k : ℕ) (ns : List ℕ) (cs : List CallMade) → Up world i above q → survives q.act ≡ true
    → AreFrom q k ns cs → AreCalled t world (name_of q.history) ns cs → Ordered world i above k (call_order t)
ordered world i none q above k ns cs up alive from called = record { from = λ x there. absurd there; sorted = tt }
ordered world i (tree h a below behind) q above k [] cs up alive from called = absurd called
ordered world i (tree h a below behind) q above k (n ∷ ns) [] up alive from called = absurd called
ordered world i (tree h a below behind) q above k (n ∷ ns) (c ∷ cs) up alive from called =
    let later = ordered world i behind q above (suc k) ns cs up alive (from_next q k n ns c cs from) called.2 in
    elim (cases_Bool (survives a)) [
      | inl lives ↦ (let here : Up world i (k ∷ above) (at h a) = (q, alive, called_at world q k n ns c cs h a from called.0, up) in
          let under = ordered world i below (at h a) (k ∷ above) 0 a.numbers (calls_of a) here lives (from_first (at h a)) called.1 in
          let mark : Mark world i (k ∷ above) (id_of h a) = record { place = at h a; up = here; alive = lives; is = refl } in
          subst (Ordered world i above k) (sym (if_true (survives a) (id_of h a ∷ (call_order below ++ call_order behind)) (call_order behind) lives))
          (joined world i above k h a mark (call_order below) (call_order behind) under later))
      | inr dead ↦ subst (Ordered world i above k) (sym (if_false (survives a) (id_of h a ∷ (call_order below ++ call_order behind)) (call_order behind) dead))
          (record { from = λ x there. widened world i above k x (later.from x there); sorted = later.sorted })
    ]

-- ---- a root, and all that it calls

abbrev pub root_ids : History → Act → Trees → List RequestId
root_ids h a below = id_of h a ∷ call_order below

module _ (world : List History) (i : RequestId) (h : History) (a : Act) (below : Trees) (root : IsRoot world i h a) (called : AreCalled below world (name_of h) a.numbers (calls_of a)) where
  under_root : Ordered world i [] 0 (call_order below)
  under_root = ordered world i below (at h a) [] 0 a.numbers (calls_of a) root root.alive (from_first (at h a)) called

  own_mark : Mark world i [] (id_of h a)
  own_mark = record { place = at h a; up = root; alive = root.alive; is = refl }

  -- the root comes to each of them
  pub root_mark : (x : RequestId) → Has x (root_ids h a below) → (slots : List ℕ) × Mark world i slots x
  root_mark x (inl e) = ([], subst (Mark world i []) (sym e) own_mark)
  root_mark x (inr there) = (let f = under_root.from x there in (down (f.slot ∷ f.below) [], f.mark))

  own_before : (y : RequestId) → Has y (call_order below) → Earlier world i [] (id_of h a) y
  own_before y there =
      let f = under_root.from y there in
      record { slots = []; others = f.slot ∷ f.below; first = own_mark; second = f.mark; earlier = refl }

  -- each before those behind it
  pub root_sorted : AreSorted (Earlier world i []) (root_ids h a below)
  root_sorted = (own_before, under_root.sorted)

-- ---- where a request stands that a root comes to

-- a request and all that it calls are among these
pub record Node (world : List History) (ids : List RequestId) (p : Place) : Type 0 where
  pub below : Trees
  pub called : AreCalled below world (name_of p.history) p.act.numbers (calls_of p.act)
  pub all : (y : RequestId) → Has y (id_at p ∷ call_order below) → Has y ids

-- behind others
node_later : (world : List History) (ids more : List RequestId) (p : Place) → ((y : RequestId) → Has y ids → Has y more) → Node world ids p → Node world more p
node_later world ids more p within node = record { below = node.below; called = node.called; all = λ y there. within y (node.all y there) }

callee_same : (world : List History) (caller : List ℕ) (n : ℕ) (c : CallMade) (h : History) (a : Act) (p : Place) → IsCallee world caller n c h a
    → IsCallee world caller n c p.history p.act → at h a ≡ p
callee_same world caller n c h a p x y =
    let home : h ≡ p.history = both_some (history_in c.dest world) h p.history x.served y.served in
    let found : callee_in caller n h.acts ≡ Some p.act = subst (λ (g : History). callee_in caller n g.acts ≡ Some p.act) (sym home) y.called in
    let act : a ≡ p.act = both_some (callee_in caller n h.acts) a p.act x.called found in
    ap (λ (g : History). at g a) home ∙ ap (λ (b : Act). at p.history b) act

behind_within : (h : History) (a : Act) (below behind : Trees) (y : RequestId) → Has y (call_order behind) → Has y (call_order (tree h a below behind))
behind_within h a below behind y there = elim (cases_Bool (survives a)) [
  | inl alive ↦ subst (Has y) (sym (if_true (survives a) (id_of h a ∷ (call_order below ++ call_order behind)) (call_order behind) alive))
      (inr (has_behind y (call_order below) (call_order behind) there))
  | inr dead ↦ subst (Has y) (sym (if_false (survives a) (id_of h a ∷ (call_order below ++ call_order behind)) (call_order behind) dead)) there
]

first_within : (h : History) (a : Act) (below behind : Trees) → survives a ≡ true → (y : RequestId) → Has y (id_of h a ∷ call_order below) → Has y (call_order (tree h a below behind))
first_within h a below behind alive y there =
    subst (Has y) (sym (if_true (survives a) (id_of h a ∷ (call_order below ++ call_order behind)) (call_order behind) alive))
    (has_front y (id_of h a ∷ call_order below) (call_order behind) there)

first_node : (world : List History) (h : History) (a : Act) (below behind : Trees) (p : Place) → AreCalled below world (name_of h) a.numbers (calls_of a) → at h a ≡ p
    → survives p.act ≡ true → Node world (call_order (tree h a below behind)) p
first_node world h a below behind p called same alive =
    let lives : survives a ≡ true = ap (λ (r : Place). survives r.act) same ∙ alive in
    let own : Node world (call_order (tree h a below behind)) (at h a) = record { below = below; called = called; all = first_within h a below behind lives } in
    subst (Node world (call_order (tree h a below behind))) same own

child : (world : List History) (t : Trees) (caller : List ℕ) (ns : List ℕ) (cs : List CallMade) → AreCalled t world caller ns cs → (k n : ℕ) (c : CallMade)
    → slice_get ns k ≡ Some n → slice_get cs k ≡ Some c → (p : Place) → IsCallee world caller n c p.history p.act → survives p.act ≡ true → Node world (call_order t) p
child world none caller [] cs called k n c e f p callee alive = absurd cc
child world none caller (m ∷ ns) cs called k n c e f p callee alive = absurd called
child world (tree h a below behind) caller [] cs called k n c e f p callee alive = absurd called
child world (tree h a below behind) caller (m ∷ ns) [] called k n c e f p callee alive = absurd called
child world (tree h a below behind) caller (m ∷ ns) (d ∷ cs) called zero n c e f p callee alive =
    let number : m ≡ n = cc in
    let call : d ≡ c = cc in
    let own : IsCallee world caller n c h a = subst (λ (x : CallMade). IsCallee world caller n x h a) call (subst (λ (x : ℕ). IsCallee world caller x d h a) number called.0) in
    first_node world h a below behind p called.1 (callee_same world caller n c h a p own callee) alive
child world (tree h a below behind) caller (m ∷ ns) (d ∷ cs) called (suc k) n c e f p callee alive =
    node_later world (call_order behind) (call_order (tree h a below behind)) p (behind_within h a below behind) (child world behind caller ns cs called.2 k n c e f p callee alive)

pub node_under : (world : List History) (i : RequestId) (ids : List RequestId) → ((r : Place) → IsRoot world i r.history r.act → Node world ids r)
    → (slots : List ℕ) (p : Place) → Up world i slots p → survives p.act ≡ true → Node world ids p
node_under world i ids root [] p up alive = root p up
node_under world i ids root (k ∷ slots) p up alive =
    let q : Place = up.0 in
    let over = node_under world i ids root slots q up.3 up.1 in
    let step = step_of world q p k up.2 in
    let node = child world over.below (name_of q.history) q.act.numbers (calls_of q.act) over.called k step.number step.call step.numbered step.made p step.callee alive in
    node_later world (call_order over.below) ids p (λ y there. over.all y (inr there)) node

-- of roots, the one that comes to a request
pub record Over (world : List History) (ids : List RequestId) (x : RequestId) : Type 0 where
  pub root : RequestId
  pub history : History
  pub act : Act
  pub is_root : IsRoot world root history act
  pub below : Trees
  pub called : AreCalled below world (name_of history) act.numbers (calls_of act)
  pub all : (y : RequestId) → Has y (root_ids history act below) → Has y ids
  pub slots : List ℕ
  pub mark : Mark world root slots x

over_later : (world : List History) (ids more : List RequestId) (x : RequestId) → ((y : RequestId) → Has y ids → Has y more) → Over world ids x → Over world more x
over_later world ids more x within over = record {
  root = over.root;
  history = over.history;
  act = over.act;
  is_root = over.is_root;
  below = over.below;
  called = over.called;
  all = λ y there. within y (over.all y there);
  slots = over.slots;
  mark = over.mark;
}

pub root_over : (world : List History) (t : Trees) (order : List RequestId) → AreRoots t world order → (x : RequestId) → Has x (call_order t) → Over world (call_order t) x
root_over world none order roots x there = absurd there
root_over world (tree h a below behind) [] roots x there = absurd roots
root_over world (tree h a below behind) (i ∷ order) roots x there =
    let is = if_true (survives a) (id_of h a ∷ (call_order below ++ call_order behind)) (call_order behind) roots.0.alive in
    elim (has_append x (root_ids h a below) (call_order behind) (subst (Has x) is there)) [
      | inl own ↦ (let m = root_mark world i h a below roots.0 roots.1 x own in
          record {
            root = i;
            history = h;
            act = a;
            is_root = roots.0;
            below = below;
            called = roots.1;
            all = first_within h a below behind roots.0.alive;
            slots = m.0;
            mark = m.1;
          })
      | inr later ↦ over_later world (call_order behind) (call_order (tree h a below behind)) x (behind_within h a below behind) (root_over world behind order roots.2 x later)
    ]
