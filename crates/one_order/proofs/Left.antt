-- What is left where a search of an order stands: roots with all that they call, each whole.
use Rattle.std.proofs.Common.{◌≡◌, ℕ, true, List, [], ◌∷◌, ◌++◌, Some, map, inl, inr, refl, sym, ap, ◌∙◌, subst}
use Rattle.std.proofs.lemmas.Bool.{cases_Bool}
use Rattle.lang_base.specs.Texts.{same_text}
use Rattle.lang_core.specs.declared.ids.RequestId.{RequestId}
use Rattle.execution.specs.Executions.{Act, History, survives}
use Rattle.execution.specs.Together.{IsLegalTogether, history_in, name_of}
use Rattle.one_world.specs.Certificates.{AreApart, AreNamed, numbers_at, survivors}
use Rattle.one_world.specs.Searches.{Log, named}
use Rattle.one_world.specs.Trees.{IsRoot, act_in, call_order, id_of}
use Rattle.one_world.proofs.Alike.{both_some}
use Rattle.one_world.proofs.Lists.{Has, each_has, has_behind, numbers_here, numbers_there, same_is, same_self}
use Rattle.one_world.proofs.OneRun.{IsAt}
use Rattle.one_world.proofs.Passing.{alive_first, dead_first}
use Rattle.one_world.proofs.Searching.{Behind, Reached}
use Rattle.one_world.proofs.Stuck.{has_append, has_history, ids_same, numbers_has, root_id, survivors_apart}
use Rattle.one_order.specs.Cycles.{Place, id_at}
use Rattle.one_order.proofs.Climbs.{AreNumbered, Up, apart_both, apart_later, at, one_way, up_at}
use Rattle.one_order.proofs.Marks.{Mark, Node, node_under, root_over}

-- ---- lists

abbrev id_with : List ℕ → ℕ → RequestId
id_with service number = record { service = service; number = number }

pub has_numbers : (name : List ℕ) (n : ℕ) (xs : List RequestId) → Has (id_with name n) xs → Has n (numbers_at name xs)
has_numbers name n [] h = absurd h
has_numbers name n (i ∷ xs) (inl e) =
    let here : same_text i.service name ≡ true = subst (λ (j : RequestId). same_text j.service name ≡ true) e (same_self name) in
    subst (Has n) (sym (numbers_here name i xs here)) (inl (ap (λ (j : RequestId). j.number) e))
has_numbers name n (i ∷ xs) (inr there) = elim (cases_Bool (same_text i.service name)) [
  | inl here ↦ subst (Has n) (sym (numbers_here name i xs here)) (inr (has_numbers name n xs there))
  | inr other ↦ subst (Has n) (sym (numbers_there name i xs other)) (has_numbers name n xs there)
]

-- a request that survives, by its number
pub record Survivor (n : ℕ) (acts : List Act) : Type 0 where
  pub act : Act
  pub logged : Has act acts
  pub alive : survives act ≡ true
  pub number : act.id ≡ n

survivor_later : (n : ℕ) (a : Act) (acts : List Act) → Survivor n acts → Survivor n (a ∷ acts)
survivor_later n a acts s = record { act = s.act; logged = inr s.logged; alive = s.alive; number = s.number }

survivor_by : (n : ℕ) (a : Act) (acts : List Act) → survives a ≡ true → Has n (a.id ∷ survivors acts) → (Has n (survivors acts) → Survivor n acts) → Survivor n (a ∷ acts)
survivor_by n a acts alive (inl e) later = record { act = a; logged = inl refl; alive = alive; number = sym e }
survivor_by n a acts alive (inr there) later = survivor_later n a acts (later there)

survivor : (n : ℕ) (acts : List Act) → Has n (survivors acts) → Survivor n acts
survivor n [] there = absurd there
survivor n (a ∷ acts) there = elim (cases_Bool (survives a)) [
  | inl alive ↦ survivor_by n a acts alive (subst (Has n) (alive_first a acts alive) there) (λ later. survivor n acts later)
  | inr dead ↦ survivor_later n a acts (survivor n acts (subst (Has n) (dead_first a acts dead) there))
]

has_survivor : (a : Act) (acts : List Act) → Has a acts → survives a ≡ true → Has a.id (survivors acts)
has_survivor a [] there alive = absurd there
has_survivor a (b ∷ acts) (inl e) alive =
    subst (Has a.id) (sym (alive_first b acts (ap survives (sym e) ∙ alive))) (inl (ap (λ (c : Act). c.id) e))
has_survivor a (b ∷ acts) (inr there) alive = elim (cases_Bool (survives b)) [
  | inl lives ↦ subst (Has a.id) (sym (alive_first b acts lives)) (inr (has_survivor a acts there alive))
  | inr dead ↦ subst (Has a.id) (sym (dead_first b acts dead)) (has_survivor a acts there alive)
]

has_name : (h : History) (world : List History) → Has h world → Has (name_of h) (map name_of world)
has_name h [] there = absurd there
has_name h (g ∷ world) (inl e) = inl (ap name_of e)
has_name h (g ∷ world) (inr there) = inr (has_name h world there)

-- the service of a name is the one that has it
pub history_found : (h : History) (world : List History) → AreApart (map name_of world) → Has h world → history_in (name_of h) world ≡ Some h
history_found h [] apart there = absurd there
history_found h (g ∷ world) apart (inl e) =
    let same : same_text (name_of g) (name_of h) ≡ true = subst (λ (k : History). same_text (name_of k) (name_of h) ≡ true) e (same_self (name_of h)) in
    rw same (ap Some (sym e))
history_found h (g ∷ world) apart (inr there) = elim (cases_Bool (same_text (name_of g) (name_of h))) [
  | inl same ↦ absurd (each_has (λ n. ¬ (name_of g ≡ n)) (name_of h) (map name_of world) apart.0 (has_name h world there) (same_is (name_of g) (name_of h) same))
  | inr other ↦ rw other (history_found h world apart.1 there)
]

-- ---- roots

root_place : (world : List History) (i : RequestId) (slots : List ℕ) (p : Place) → Up world i slots p → (r : Place) × IsRoot world i r.history r.act
root_place world i [] p up = (p, up)
root_place world i (k ∷ slots) p up = root_place world i slots up.0 up.3

pub root_same : (world : List History) (i : RequestId) (h : History) (a : Act) (r : Place) → IsRoot world i h a → IsRoot world i r.history r.act → at h a ≡ r
root_same world i h a r root other =
    let home : h ≡ r.history = both_some (history_in i.service world) h r.history root.served other.served in
    let found : act_in i.number h.acts ≡ Some r.act = subst (λ (g : History). act_in i.number g.acts ≡ Some r.act) (sym home) other.logged in
    let act : a ≡ r.act = both_some (act_in i.number h.acts) a r.act root.logged found in
    ap (λ (g : History). at g a) home ∙ ap (λ (b : Act). at r.history b) act

root_mark : (world : List History) (i : RequestId) (r : Place) → IsRoot world i r.history r.act → Mark world i [] i
root_mark world i r root = record { place = r; up = root; alive = root.alive; is = sym (root_id world i r.history r.act root) }

module _ (world : List History) (legal : IsLegalTogether world) (named_so : AreNamed world) (numbered : AreNumbered world) where
  -- requests of one name are one
  one_place : (p q : Place) → IsAt world p.history p.act → IsAt world q.history q.act → id_at p ≡ id_at q → p ≡ q
  one_place p q x y e =
      let same = ids_same world named_so p.history q.history p.act q.act x y e in
      ap (λ (h : History). at h p.act) same.0 ∙ ap (λ (a : Act). at q.history a) same.1

  -- a request has one root, which comes to it in one way
  pub one_root : (i j : RequestId) (slots others : List ℕ) (id : RequestId) → Mark world i slots id → Mark world j others id → (i ≡ j) × (slots ≡ others)
  one_root i j slots others id m n =
      let same = one_place m.place n.place (up_at world i slots m.place m.up) (up_at world j others n.place n.up) (m.is ∙ sym n.is) in
      one_way world numbered i j slots others n.place (subst (Up world i slots) same m.up) n.up

  module _ (order : List RequestId) (logs : List Log) (reached : Reached world order logs) where
    -- what the search took
    abbrev taken : List RequestId
    taken = call_order reached.trees

    -- a root that it didn't take
    pub record IsOpen (i : RequestId) : Type 0 where
      pub history : History
      pub act : Act
      pub is_root : IsRoot world i history act
      pub left : ¬ (Has i taken)

    pub in_world : (l : Log) → Has l logs → Has l.history world
    in_world l there = subst (Has l.history) reached.histories (has_history l logs there)

    pub behind : (l : Log) → Has l logs → Behind reached.trees l
    behind l there = each_has (Behind reached.trees) l logs reached.each there

    whole_apart : (l : Log) → Has l logs → AreApart (numbers_at (name_of l.history) taken ++ survivors l.left)
    whole_apart l there =
        subst AreApart (behind l there)
        (survivors_apart l.history.acts (each_has (λ (h : History). AreApart (map (λ (c : Act). c.id) h.acts)) l.history world named_so.ids (in_world l there)))

    pub left_apart : (l : Log) → Has l logs → AreApart (survivors l.left)
    left_apart l there = apart_later (numbers_at (name_of l.history) taken) (survivors l.left) (whole_apart l there)

    not_twice : (l : Log) → Has l logs → (n : ℕ) → Has n (numbers_at (name_of l.history) taken) → Has n (survivors l.left) → ⊥
    not_twice l there n before later =
        apart_both n (numbers_at (name_of l.history) taken) (survivors l.left) (whole_apart l there) before later

    -- a root that was taken, with what it calls
    taken_node : (j : RequestId) → Has j taken → (r : Place) → IsRoot world j r.history r.act → Node world taken r
    taken_node j there r root =
        let over = root_over world reached.trees order reached.roots j there in
        let same = one_root over.root j over.slots [] j over.mark (root_mark world j r root) in
        let own : IsRoot world j over.history over.act = subst (λ (k : RequestId). IsRoot world k over.history over.act) same.0 over.is_root in
        subst (Node world taken) (root_same world j over.history over.act r own root) (record { below = over.below; called = over.called; all = over.all })

    -- what a root that was taken comes to isn't left
    not_left : (l : Log) → Has l logs → (n : ℕ) → Has n (survivors l.left) → (j : RequestId) (slots : List ℕ) → Mark world j slots (named l.history n) → ¬ (Has j taken)
    not_left l there n left j slots m took =
        let node = node_under world j taken (taken_node j took) slots m.place m.up m.alive in
        let among : Has (named l.history n) taken = subst (λ (i : RequestId). Has i taken) m.is (node.all (id_at m.place) (inl refl)) in
        not_twice l there n (has_numbers (name_of l.history) n taken among) left

    -- the entry of a number that is left
    pub left_survivor : (l : Log) → Has l logs → (n : ℕ) → Has n (survivors l.left) → Survivor n l.history.acts
    left_survivor l there n left =
        survivor n l.history.acts (subst (Has n) (sym (behind l there)) (has_behind n (numbers_at (name_of l.history) taken) (survivors l.left) left))

    -- the root of an entry that is left is left, however it comes to it
    pub still_open : (l : Log) → Has l logs → (n : ℕ) → Has n (survivors l.left) → (i : RequestId) (slots : List ℕ) → Mark world i slots (named l.history n) → IsOpen i
    still_open l there n left i slots m =
        let top = root_place world i slots m.place m.up in
        record { history = top.0.history; act = top.0.act; is_root = top.1; left = not_left l there n left i slots m }

    not_taken : (i : RequestId) → IsOpen i → (l : Log) (n : ℕ) (slots : List ℕ) → Mark world i slots (named l.history n) → Has (named l.history n) taken → ⊥
    not_taken i still l n slots m among =
        let over = root_over world reached.trees order reached.roots (named l.history n) among in
        let same = one_root over.root i over.slots slots (named l.history n) over.mark m in
        let id : id_of over.history over.act ≡ i = sym (root_id world over.root over.history over.act over.is_root) ∙ same.0 in
        still.left (subst (λ (j : RequestId). Has j taken) id (over.all (id_of over.history over.act) (inl refl)))

    -- all that a root which is left comes to is left
    pub still_left : (i : RequestId) → IsOpen i → (l : Log) → Has l logs → (n : ℕ) (slots : List ℕ) → Mark world i slots (named l.history n) → Has n (survivors l.left)
    still_left i still l there n slots m =
        let p : Place = m.place in
        let home = up_at world i slots p m.up in
        let names : name_of p.history ≡ name_of l.history = ap (λ (j : RequestId). j.service) m.is in
        let same : p.history ≡ l.history = both_some (history_in (name_of l.history) world) p.history l.history
        (subst (λ (s : List ℕ). history_in s world ≡ Some p.history) names home.found) (history_found l.history world named_so.names (in_world l there)) in
        let logged : Has p.act l.history.acts = subst (λ (h : History). Has p.act h.acts) same home.logged in
        let whole : Has n (survivors l.history.acts) = subst (λ k. Has k (survivors l.history.acts)) (ap (λ (j : RequestId). j.number) m.is) (has_survivor p.act l.history.acts logged m.alive) in
        elim (has_append n (numbers_at (name_of l.history) taken) (survivors l.left) (subst (Has n) (behind l there) whole)) as (λ _. Has n (survivors l.left)) [
          | inl before ↦ absurd (not_taken i still l n slots m (numbers_has (name_of l.history) n taken before))
          | inr left ↦ left
        ]
