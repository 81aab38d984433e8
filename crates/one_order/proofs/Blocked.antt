-- Where no root comes next, each root that is left is blocked: two neighbours are turned, or one of another root stands before one of it.
use Rattle.std.proofs.Common.{◌≡◌, ◌<◌, ℕ, Bool, true, false, not, cond, List, [], ◌∷◌, ◌++◌, None, map, ◌⊎◌, inl, inr, refl, sym, ap, ◌∙◌, subst, append_assoc, append-nil, nat_eq, nat_lt, eqb-true, eq-eqb, true≢false, arith}
use Rattle.std.proofs.lemmas.Bool.{and_from, cases_Bool, le-ltb, ltb-false}
use Rattle.lang_base.specs.Texts.{same_text}
use Rattle.lang_core.specs.declared.ids.RequestId.{RequestId}
use Rattle.execution.specs.Executions.{Act, History, survives}
use Rattle.execution.specs.Together.{IsLegalTogether, name_of}
use Rattle.one_world.specs.Certificates.{AreApart, AreNamed, numbers_at, survivors}
use Rattle.one_world.specs.Searches.{Log, named, next_root}
use Rattle.one_world.specs.Trees.{AreCalled, AreRoots, IsRoot, Trees, call_order, calls_of, id_of, none, tree}
use Rattle.one_world.proofs.Existing.{roots_there}
use Rattle.one_world.proofs.Lists.{Has, has_behind, if_false, if_true, numbers_here, numbers_there, same_is}
use Rattle.one_world.proofs.Searching.{Reached}
use Rattle.one_world.proofs.Stuck.{goes_on, has_append, numbers, numbers_has}
use Rattle.one_order.specs.Cycles.{Place, id_at, is_earlier}
use Rattle.one_order.specs.Pairs.{Rooted, is_turned, leads_to}
use Rattle.one_order.specs.Shown.{same_ids}
use Rattle.one_order.proofs.Climbs.{AreNumbered, apart_both, down}
use Rattle.one_order.proofs.CycleLaws.{same_ids_is, same_ids_self}
use Rattle.one_order.proofs.Left.{IsOpen, has_numbers, left_apart, one_root, root_same, still_left}
use Rattle.one_order.proofs.Marks.{AreSorted, Earlier, Mark, Node, down_same, node_under, root_ids, root_mark, root_sorted}

-- ---- slots are in order

slot_parts : (m k : ℕ) (b : Bool) → cond (nat_eq m k) b (nat_lt m k) ≡ false → ((m ≡ k) × (b ≡ false)) ⊎ (k < m)
slot_parts m k b e = elim (cases_Bool (nat_eq m k)) [
  | inl is ↦ inl (eqb-true m k is, sym (if_true (nat_eq m k) b (nat_lt m k) is) ∙ e)
  | inr other ↦ (let le = ltb-false m k (sym (if_false (nat_eq m k) b (nat_lt m k) other) ∙ e) in
      let apart : ¬ (m ≡ k) = λ same. true≢false (sym (eq-eqb m k same) ∙ other) in
      inr (omega (arith, le, apart)))
]

not_before : (m k : ℕ) (b : Bool) → ((m ≡ k) × (b ≡ false)) ⊎ (k < m) → cond (nat_eq m k) b (nat_lt m k) ≡ false
not_before m k b (inl e) = if_true (nat_eq m k) b (nat_lt m k) (eq-eqb m k e.0) ∙ e.1
not_before m k b (inr lt) = elim (cases_Bool (nat_eq m k)) [
  | inl is ↦ (let same = eqb-true m k is in absurd (omega (arith, lt, same)))
  | inr other ↦ if_false (nat_eq m k) b (nat_lt m k) other ∙ le-ltb m k (omega (arith, lt))
]

in_order : (x y z : ℕ) (a b c : Bool) → (a ≡ false → b ≡ false → c ≡ false) → ((y ≡ x) × (a ≡ false)) ⊎ (x < y) → ((z ≡ y) × (b ≡ false)) ⊎ (y < z)
    → ((z ≡ x) × (c ≡ false)) ⊎ (x < z)
in_order x y z a b c below (inl e) (inl f) = inl (f.0 ∙ e.0, below e.1 f.1)
in_order x y z a b c below (inl e) (inr lt) = (let same = e.0 in inr (omega (arith, same, lt)))
in_order x y z a b c below (inr lt) (inl f) = (let same = f.0 in inr (omega (arith, same, lt)))
in_order x y z a b c below (inr lt) (inr more) = inr (omega (arith, lt, more))

never_earlier : (xs ys zs : List ℕ) → is_earlier ys xs ≡ false → is_earlier zs ys ≡ false → is_earlier zs xs ≡ false
never_earlier [] [] [] e f = refl
never_earlier [] [] (z ∷ zs) e f = refl
never_earlier [] (y ∷ ys) [] e f = absurd (true≢false f)
never_earlier [] (y ∷ ys) (z ∷ zs) e f = refl
never_earlier (x ∷ xs) [] zs e f = absurd (true≢false e)
never_earlier (x ∷ xs) (y ∷ ys) [] e f = absurd (true≢false f)
never_earlier (x ∷ xs) (y ∷ ys) (z ∷ zs) e f =
    not_before z x (is_earlier zs xs)
    (in_order x y z (is_earlier ys xs) (is_earlier zs ys) (is_earlier zs xs) (λ g h. never_earlier xs ys zs g h)
    (slot_parts y x (is_earlier ys xs) e) (slot_parts z y (is_earlier zs ys) f))

not_earlier_self : (xs : List ℕ) → is_earlier xs xs ≡ false
not_earlier_self [] = refl
not_earlier_self (x ∷ xs) = not_before x x (is_earlier xs xs) (inl (refl, not_earlier_self xs))

-- ---- from an entry to a later one

-- two neighbours that are turned, or of which the second alone is of this root
pub record Meets (i : RequestId) (entries : List Rooted) : Type 0 where
  pub first : Rooted
  pub second : Rooted
  pub before : List Rooted
  pub after : List Rooted
  pub is : entries ≡ before ++ first ∷ second ∷ after
  pub so : (is_turned first second ≡ true) ⊎ (leads_to i first second ≡ true)

meets_later : (i : RequestId) (y : Rooted) (entries : List Rooted) → Meets i entries → Meets i (y ∷ entries)
meets_later i y entries m = record {
  first = m.first;
  second = m.second;
  before = y ∷ m.before;
  after = m.after;
  is = ap (λ es. y ∷ es) m.is;
  so = m.so;
}

meets_behind : (i : RequestId) (front entries : List Rooted) → Meets i entries → Meets i (front ++ entries)
meets_behind i [] entries m = m
meets_behind i (y ∷ front) entries m = meets_later i y (front ++ entries) (meets_behind i front entries m)

module _ (i : RequestId) (x : Rooted) (own : same_ids x.root i ≡ true) where
  -- it is of another root, or comes later than this one
  abbrev pub IsLate : Rooted → Type 0
  IsLate y = (same_ids y.root i ≡ false) ⊎ ((same_ids y.root i ≡ true) × (is_earlier x.slots y.slots ≡ true))

  meets_here : (y w : Rooted) (after : List Rooted) → (is_turned y w ≡ true) ⊎ (leads_to i y w ≡ true) → Meets i (y ∷ w ∷ after)
  meets_here y w after so = record { first = y; second = w; before = []; after = after; is = refl; so = so }

  leads_so : (y w : Rooted) → same_ids y.root i ≡ false → same_ids w.root i ≡ true → leads_to i y w ≡ true
  leads_so y w other here = and_from (not (same_ids y.root i)) (same_ids w.root i) (ap not other) here

  turned_so : (y w : Rooted) → same_ids y.root i ≡ true → same_ids w.root i ≡ true → is_earlier w.slots y.slots ≡ true → is_turned y w ≡ true
  turned_so y w here there earlier =
      let same : y.root ≡ w.root = same_ids_is y.root i here ∙ sym (same_ids_is w.root i there) in
      and_from (same_ids y.root w.root) (is_earlier w.slots y.slots) (subst (λ (r : RequestId). same_ids y.root r ≡ true) same (same_ids_self y.root)) earlier

  still_late : (y w : Rooted) → is_earlier x.slots y.slots ≡ true → is_earlier w.slots y.slots ≡ false → is_earlier x.slots w.slots ≡ true
  still_late y w late other = elim (cases_Bool (is_earlier x.slots w.slots)) [
    | inl is ↦ is
    | inr never ↦ absurd (true≢false (sym late ∙ never_earlier y.slots w.slots x.slots other never))
  ]

  meets_at : (y : Rooted) (after : List Rooted) → IsLate y → Meets i (y ∷ x ∷ after)
  meets_at y after (inl other) = meets_here y x after (inr (leads_so y x other own))
  meets_at y after (inr late) = meets_here y x after (inl (turned_so y x late.0 own late.1))

  meets_or : (y w : Rooted) (rest : List Rooted) → IsLate y → same_ids w.root i ≡ true → (IsLate w → Meets i (w ∷ rest)) → Meets i (y ∷ w ∷ rest)
  meets_or y w rest (inl other) here again = meets_here y w rest (inr (leads_so y w other here))
  meets_or y w rest (inr late) here again = elim (cases_Bool (is_earlier w.slots y.slots)) [
    | inl turned ↦ meets_here y w rest (inl (turned_so y w late.0 here turned))
    | inr other ↦ meets_later i y (w ∷ rest) (again (inr (here, still_late y w late.1 other)))
  ]

  stretch : (y : Rooted) (between after : List Rooted) → IsLate y → Meets i (y ∷ (between ++ x ∷ after))
  stretch y [] after late = meets_at y after late
  stretch y (w ∷ between) after late = elim (cases_Bool (same_ids w.root i)) [
    | inl here ↦ meets_or y w (between ++ x ∷ after) late here (λ later. stretch w between after later)
    | inr other ↦ meets_later i y (w ∷ (between ++ x ∷ after)) (stretch w between after (inl other))
  ]

-- ---- where a log doesn't go on as a root's calls do

-- where two lists part
record Parts (ns ms : List ℕ) : Type 0 where
  before : List ℕ
  first : ℕ
  later : List ℕ
  others : List ℕ
  wanted : ns ≡ before ++ first ∷ later
  left : ms ≡ before ++ others
  apart : (rest : List ℕ) → ¬ (others ≡ first ∷ rest)

parts_later : (n : ℕ) (ns ms : List ℕ) → Parts ns ms → Parts (n ∷ ns) (n ∷ ms)
parts_later n ns ms p = record {
  before = n ∷ p.before;
  first = p.first;
  later = p.later;
  others = p.others;
  wanted = ap (λ xs. n ∷ xs) p.wanted;
  left = ap (λ xs. n ∷ xs) p.left;
  apart = p.apart;
}

abbrev Goes : List ℕ → List ℕ → Type 0
Goes ns ms = (rest : List ℕ) × (ms ≡ ns ++ rest)

goes_same : (n m : ℕ) (ns ms : List ℕ) → m ≡ n → Goes ns ms ⊎ Parts ns ms → Goes (n ∷ ns) (m ∷ ms) ⊎ Parts (n ∷ ns) (m ∷ ms)
goes_same n m ns ms e (inl goes) = inl (goes.0, ap (λ k. k ∷ ms) e ∙ ap (λ xs. n ∷ xs) goes.1)
goes_same n m ns ms e (inr parts) = inr (subst (λ k. Parts (n ∷ ns) (k ∷ ms)) (sym e) (parts_later n ns ms parts))

goes_or_parts : (ns ms : List ℕ) → Goes ns ms ⊎ Parts ns ms
goes_or_parts [] ms = inl (ms, refl)
goes_or_parts (n ∷ ns) [] = inr (record { before = []; first = n; later = ns; others = []; wanted = refl; left = refl; apart = λ rest e. absurd cc })
goes_or_parts (n ∷ ns) (m ∷ ms) = elim (cases_Bool (nat_eq m n)) [
  | inl is ↦ goes_same n m ns ms (eqb-true m n is) (goes_or_parts ns ms)
  | inr other ↦ inr (record {
    before = [];
    first = n;
    later = ns;
    others = m ∷ ms;
    wanted = refl;
    left = refl;
    apart = λ rest e. (let same : m ≡ n = cc in true≢false (sym (eq-eqb m n same) ∙ other));
  })
]

-- ---- parts of lists

has_split : {X : Type 0} (x : X) (xs : List X) → Has x xs → (before : List X) × (after : List X) × (xs ≡ before ++ x ∷ after)
has_split x [] there = absurd there
has_split x (y ∷ xs) (inl e) = ([], xs, ap (λ z. z ∷ xs) (sym e))
has_split x (y ∷ xs) (inr there) = (let s = has_split x xs there in (y ∷ s.0, s.1, ap (λ zs. y ∷ zs) s.2))

-- the parts of a list whose images are so cut
record Cut {X : Type 0} (f : X → ℕ) (xs : List X) (y : ℕ) (ys : List ℕ) : Type 0 where
  front : List X
  at : X
  back : List X
  is : xs ≡ front ++ at ∷ back
  image : f at ≡ y
  images : map f back ≡ ys

cut_at : {X : Type 0} (f : X → ℕ) (xs : List X) (before : List ℕ) (y : ℕ) (ys : List ℕ) → map f xs ≡ before ++ y ∷ ys → Cut f xs y ys
cut_at f [] [] y ys e = absurd cc
cut_at f [] (b ∷ before) y ys e = absurd cc
cut_at f (x ∷ xs) [] y ys e = record { front = []; at = x; back = xs; is = refl; image = cc; images = cc }
cut_at f (x ∷ xs) (b ∷ before) y ys e =
    let rest : map f xs ≡ before ++ y ∷ ys = cc in
    let c = cut_at f xs before y ys rest in
    record { front = x ∷ c.front; at = c.at; back = c.back; is = ap (λ zs. x ∷ zs) c.is; image = c.image; images = c.images }

image_of : {X : Type 0} (f : X → ℕ) (xs : List X) (y : ℕ) → Has y (map f xs) → (x : X) × Has x xs × (f x ≡ y)
image_of f [] y there = absurd there
image_of f (x ∷ xs) y (inl e) = (x, inl refl, sym e)
image_of f (x ∷ xs) y (inr there) = (let m = image_of f xs y there in (m.0, inr m.1, m.2))

abbrev id_with : List ℕ → ℕ → RequestId
id_with service number = record { service = service; number = number }

sorted_here : (R : RequestId → RequestId → Type 0) (name : List ℕ) (i : RequestId) (ids : List RequestId) → ((j : RequestId) → Has j ids → R i j) → i.service ≡ name
    → (before : List ℕ) (n : ℕ) (later : List ℕ) → i.number ∷ numbers_at name ids ≡ before ++ n ∷ later → (m : ℕ) → Has m later
    → ((bs : List ℕ) → numbers_at name ids ≡ bs ++ n ∷ later → R (id_with name n) (id_with name m)) → R (id_with name n) (id_with name m)
sorted_here R name i ids first own [] n later e m there again =
    let number : i.number ≡ n = cc in
    let rest : numbers_at name ids ≡ later = cc in
    let is : i ≡ id_with name n = ap (λ (s : List ℕ). id_with s i.number) own ∙ ap (id_with name) number in
    subst (λ (j : RequestId). R j (id_with name m)) is (first (id_with name m) (numbers_has name m ids (subst (Has m) (sym rest) there)))
sorted_here R name i ids first own (b ∷ before) n later e m there again =
    let rest : numbers_at name ids ≡ before ++ n ∷ later = cc in
    again before rest

-- of two numbers that are so listed, the first one's request is before the other's
sorted_pair : (R : RequestId → RequestId → Type 0) (name : List ℕ) (ids : List RequestId) → AreSorted R ids → (before : List ℕ) (n : ℕ) (later : List ℕ)
    → numbers_at name ids ≡ before ++ n ∷ later → (m : ℕ) → Has m later → R (id_with name n) (id_with name m)
sorted_pair R name [] sorted [] n later e m there = absurd cc
sorted_pair R name [] sorted (b ∷ before) n later e m there = absurd cc
sorted_pair R name (i ∷ ids) sorted before n later e m there = elim (cases_Bool (same_text i.service name)) [
  | inl here ↦ sorted_here R name i ids sorted.0 (same_is i.service name here) before n later (sym (numbers_here name i ids here) ∙ e) m there (λ bs rest. sorted_pair R name ids sorted.1 bs n later rest m there)
  | inr other ↦ sorted_pair R name ids sorted.1 before n later (sym (numbers_there name i ids other) ∙ e) m there
]

-- ---- one log

-- the entries of a log that are left and survive, each with its root
pub record AreRooted (world : List History) (l : Log) (entries : List Rooted) : Type 0 where
  pub numbers : map (λ (e : Rooted). e.id.number) entries ≡ survivors l.left
  pub ids : (e : Rooted) → Has e entries → e.id ≡ named l.history e.id.number
  pub marks : (e : Rooted) → Has e entries → Mark world e.root (down e.slots []) e.id

one_ids : (h : History) (a : Act) (below : Trees) → survives a ≡ true → call_order (tree h a below none) ≡ root_ids h a below
one_ids h a below alive = if_true (survives a) (id_of h a ∷ (call_order below ++ [])) [] alive ∙ ap (λ ids. id_of h a ∷ ids) (append-nil (call_order below))

module _ (world : List History) (legal : IsLegalTogether world) (named_so : AreNamed world) (numbered : AreNumbered world) (order : List RequestId) (logs : List Log)
    (reached : Reached world order logs) where
  abbrev Open : RequestId → Type 0
  Open i = IsOpen world legal named_so numbered order logs reached i

  module _ (i : RequestId) (still : Open i) (h : History) (a : Act) (below : Trees) (root : IsRoot world i h a) (called : AreCalled below world (name_of h) a.numbers (calls_of a))
      (l : Log) (there : Has l logs) where
    abbrev name : List ℕ
    name = name_of l.history

    abbrev ids : List RequestId
    ids = root_ids h a below

    same_mark : (j : RequestId) (slots others : List ℕ) (id : RequestId) → Mark world i (down slots []) id → Mark world j (down others []) id → (i ≡ j) × (slots ≡ others)
    same_mark j slots others id m n =
        let same = one_root world legal named_so numbered i j (down slots []) (down others []) id m n in
        (same.0, down_same slots others same.1)

    -- no number is wanted twice
    not_again : (before : List ℕ) (n : ℕ) (later : List ℕ) → numbers_at name ids ≡ before ++ n ∷ later → Has n before → ⊥
    not_again before n later wanted again =
        let s = has_split n before again in
        let cut : numbers_at name ids ≡ s.0 ++ n ∷ (s.1 ++ n ∷ later) = wanted ∙ ap (λ ns. ns ++ n ∷ later) s.2 ∙ append_assoc s.0 (n ∷ s.1) (n ∷ later) in
        let e = sorted_pair (Earlier world i []) name ids (root_sorted world i h a below root called) s.0 n (s.1 ++ n ∷ later) cut n (has_behind n s.1 (n ∷ later) (inl refl)) in
        let same = same_mark i e.slots e.others (id_with name n) e.first e.second in
        true≢false (sym e.earlier ∙ ap (λ s. is_earlier s e.others) same.1 ∙ not_earlier_self e.others)

    -- what it comes to is among what it calls
    wanted_has : (slots : List ℕ) (n : ℕ) → Mark world i slots (named l.history n) → Has n (numbers_at name ids)
    wanted_has slots n m =
        let top : (r : Place) → IsRoot world i r.history r.act → Node world ids r = λ r is.
        subst (Node world ids) (root_same world i h a r root is) (record { below = below; called = called; all = λ y h. h }) in
        let node = node_under world i ids top slots m.place m.up m.alive in
        has_numbers name n ids (subst (λ (j : RequestId). Has j ids) m.is (node.all (id_at m.place) (inl refl)))

    module _ (entries : List Rooted) (rooted : AreRooted world l entries) where
      mark_at : (e : Rooted) → Has e entries → (n : ℕ) → e.id.number ≡ n → Mark world e.root (down e.slots []) (named l.history n)
      mark_at e among n number = subst (Mark world e.root (down e.slots [])) (rooted.ids e among ∙ ap (λ k. named l.history k) number) (rooted.marks e among)

      -- an entry that stands before one that comes next is of another root, or later
      late_later : (x y : Rooted) → Has x entries → Has y entries → (before later : List ℕ) → numbers_at name ids ≡ before ++ x.id.number ∷ later → y.root ≡ i
          → Has y.id.number later → is_earlier x.slots y.slots ≡ true
      late_later x y x_there y_there before later wanted own behind =
          let e = sorted_pair (Earlier world i []) name ids (root_sorted world i h a below root called) before x.id.number later wanted y.id.number behind in
          let first = same_mark x.root e.slots x.slots (id_with name x.id.number) e.first (mark_at x x_there x.id.number refl) in
          let second = same_mark y.root e.others y.slots (id_with name y.id.number) e.second (mark_at y y_there y.id.number refl) in
          ap (λ s. is_earlier s y.slots) (sym first.1) ∙ ap (is_earlier e.slots) (sym second.1) ∙ e.earlier

      late_by : (x y : Rooted) (own : same_ids x.root i ≡ true) → Has x entries → Has y entries → (before later ys : List ℕ) → numbers_at name ids ≡ before ++ x.id.number ∷ later
          → survivors l.left ≡ before ++ y.id.number ∷ ys → ¬ (y.id.number ≡ x.id.number) → y.root ≡ i → same_ids y.root i ≡ true → Has y.id.number (before ++ x.id.number ∷ later)
          → IsLate i x own y
      late_by x y own x_there y_there before later ys wanted left apart mine here among = elim (has_append y.id.number before (x.id.number ∷ later) among) as (λ _. IsLate i x own y) [
        | inl earlier ↦ absurd (apart_both y.id.number before (y.id.number ∷ ys)
            (subst AreApart left (left_apart world legal named_so numbered order logs reached l there)) earlier (inl refl))
        | inr (inl same) ↦ absurd (apart same)
        | inr (inr behind) ↦ inr (here, late_later x y x_there y_there before later wanted mine behind)
      ]

      late : (x y : Rooted) (own : same_ids x.root i ≡ true) → Has x entries → Has y entries → (before later ys : List ℕ) → numbers_at name ids ≡ before ++ x.id.number ∷ later
          → survivors l.left ≡ before ++ y.id.number ∷ ys → ¬ (y.id.number ≡ x.id.number) → IsLate i x own y
      late x y own x_there y_there before later ys wanted left apart = elim (cases_Bool (same_ids y.root i)) [
        | inl here ↦ (let mine : y.root ≡ i = same_ids_is y.root i here in
            let mark : Mark world i (down y.slots []) (named l.history y.id.number) =
            subst (λ (r : RequestId). Mark world r (down y.slots []) (named l.history y.id.number)) mine (mark_at y y_there y.id.number refl) in
            let among : Has y.id.number (before ++ x.id.number ∷ later) = subst (Has y.id.number) wanted (wanted_has (down y.slots []) y.id.number mark) in
            late_by x y own x_there y_there before later ys wanted left apart mine here among)
        | inr other ↦ inl other
      ]

      -- two that part, where the one that is wanted is left behind the other
      meets_by : (before : List ℕ) (n : ℕ) (later : List ℕ) (y : ℕ) (ys : List ℕ) → numbers_at name ids ≡ before ++ n ∷ later → survivors l.left ≡ before ++ y ∷ ys → ¬ (y ≡ n) → Has n ys
          → (slots : List ℕ) → Mark world i slots (named l.history n) → Meets i entries
      meets_by before n later y ys wanted left apart behind slots mark =
          let cut = cut_at (λ (e : Rooted). e.id.number) entries before y ys (rooted.numbers ∙ left) in
          let found = image_of (λ (e : Rooted). e.id.number) cut.back n (subst (Has n) (sym cut.images) behind) in
          let x : Rooted = found.0 in
          let parts = has_split x cut.back found.1 in
          let whole : entries ≡ cut.front ++ cut.at ∷ (parts.0 ++ x ∷ parts.1) = cut.is ∙ ap (λ es. cut.front ++ cut.at ∷ es) parts.2 in
          let x_there : Has x entries = subst (Has x) (sym cut.is) (has_behind x cut.front (cut.at ∷ cut.back) (inr found.1)) in
          let y_there : Has cut.at entries = subst (Has cut.at) (sym cut.is) (has_behind cut.at cut.front (cut.at ∷ cut.back) (inl refl)) in
          let same = one_root world legal named_so numbered x.root i (down x.slots []) slots (named l.history n) (mark_at x x_there n found.2) mark in
          let own : same_ids x.root i ≡ true = subst (λ (r : RequestId). same_ids x.root r ≡ true) same.0 (same_ids_self x.root) in
          let is_late = late x cut.at own x_there y_there before later ys (subst (λ k. numbers_at name ids ≡ before ++ k ∷ later) (sym found.2) wanted)
          (subst (λ k. survivors l.left ≡ before ++ k ∷ ys) (sym cut.image) left) (λ e. apart (sym cut.image ∙ e ∙ found.2)) in
          subst (Meets i) (sym whole) (meets_behind i cut.front (cut.at ∷ (parts.0 ++ x ∷ parts.1)) (stretch i x own cut.at parts.0 parts.1 is_late))

      meets_others : (before : List ℕ) (n : ℕ) (later others : List ℕ) → numbers_at name ids ≡ before ++ n ∷ later → survivors l.left ≡ before ++ others
          → ((rest : List ℕ) → ¬ (others ≡ n ∷ rest)) → Has n others → (slots : List ℕ) → Mark world i slots (named l.history n) → Meets i entries
      meets_others before n later [] wanted left apart among slots mark = absurd among
      meets_others before n later (y ∷ ys) wanted left apart (inl e) slots mark = absurd (apart ys (ap (λ k. k ∷ ys) (sym e)))
      meets_others before n later (y ∷ ys) wanted left apart (inr behind) slots mark =
          meets_by before n later y ys wanted left (λ e. apart ys (ap (λ k. k ∷ ys) e)) behind slots mark

      -- where the log doesn't go on with what the root calls
      meets : Parts (numbers_at name ids) (survivors l.left) → Meets i entries
      meets p =
          let among : Has (id_with name p.first) ids =
          numbers_has name p.first ids (subst (Has p.first) (sym p.wanted) (has_behind p.first p.before (p.first ∷ p.later) (inl refl))) in
          let mark = root_mark world i h a below root called (id_with name p.first) among in
          let left = still_left world legal named_so numbered order logs reached i still l there p.first mark.0 mark.1 in
          elim (has_append p.first p.before p.others (subst (Has p.first) p.left left)) as (λ _. Meets i entries) [
            | inl again ↦ absurd (not_again p.before p.first p.later p.wanted again)
            | inr behind ↦ meets_others p.before p.first p.later p.others p.wanted p.left p.apart behind mark.0 mark.1
          ]

-- ---- all logs

-- the entries of each of these logs
abbrev pub AreAllRooted : List History → List Log → List (List Rooted) → Type 0
AreAllRooted world [] [] = Unit {0}
AreAllRooted world (l ∷ logs) (entries ∷ lists) = AreRooted world l entries × AreAllRooted world logs lists
AreAllRooted world logs lists = ⊥

rooted_at : (world : List History) (logs : List Log) (lists : List (List Rooted)) → AreAllRooted world logs lists → (l : Log) → Has l logs
    → (entries : List Rooted) × Has entries lists × AreRooted world l entries
rooted_at world [] lists all l there = absurd there
rooted_at world (m ∷ logs) [] all l there = absurd all
rooted_at world (m ∷ logs) (entries ∷ lists) all l (inl e) = (entries, inl refl, subst (λ (k : Log). AreRooted world k entries) (sym e) all.0)
rooted_at world (m ∷ logs) (entries ∷ lists) all l (inr there) = (let r = rooted_at world logs lists all.1 l there in (r.0, inr r.1, r.2))

first_of_all : {X : Type 0} (P : X → Type 0) (y : X) (ys : List X) → P y → ((x : X) → Has x ys → P x) → (x : X) → Has x (y ∷ ys) → P x
first_of_all P y ys here later x (inl e) = subst P (sym e) here
first_of_all P y ys here later x (inr there) = later x there

all_or_some : {X : Type 0} (P Q : X → Type 0) (xs : List X) → ((x : X) → Has x xs → P x ⊎ Q x) → ((x : X) → Has x xs → P x) ⊎ ((x : X) × Has x xs × Q x)
all_or_some P Q [] each = inl (λ x there. absurd there)
all_or_some P Q (y ∷ ys) each = elim (each y (inl refl)) [
  | inl here ↦ elim (all_or_some P Q ys (λ x there. each x (inr there))) [
    | inl later ↦ inl (first_of_all P y ys here later)
    | inr some ↦ inr (some.0, inr some.1, some.2)
  ]
  | inr here ↦ inr (y, inl refl, here)
]

module _ (world : List History) (legal : IsLegalTogether world) (named_so : AreNamed world) (numbered : AreNumbered world) (order : List RequestId) (logs : List Log)
    (reached : Reached world order logs) (stuck : next_root world logs logs ≡ None) (lists : List (List Rooted)) (rooted : AreAllRooted world logs lists) where
  -- a log where it meets another
  pub record IsBlocked (i : RequestId) : Type 0 where
    pub entries : List Rooted
    pub there : Has entries lists
    pub meets : Meets i entries

  blocked_at : (i : RequestId) → IsOpen world legal named_so numbered order logs reached i → (h : History) (a : Act) (below : Trees) → IsRoot world i h a
      → AreCalled below world (name_of h) a.numbers (calls_of a) → IsBlocked i
  blocked_at i still h a below root called =
      let one : Trees = tree h a below none in
      let each : (l : Log) → Has l logs → Goes (numbers l one) (survivors l.left) ⊎ Parts (numbers l one) (survivors l.left) = λ l there. goes_or_parts (numbers l one) (survivors l.left) in
      elim (all_or_some (λ l. Goes (numbers l one) (survivors l.left)) (λ l. Parts (numbers l one) (survivors l.left)) logs each) as (λ _. IsBlocked i) [
        | inl all ↦ absurd (goes_on world legal logs reached.histories h a below i root called all stuck)
        | inr some ↦ (let l : Log = some.0 in
            let r = rooted_at world logs lists rooted l some.1 in
            let parts : Parts (numbers_at (name_of l.history) (root_ids h a below)) (survivors l.left) =
            subst (λ ids. Parts (numbers_at (name_of l.history) ids) (survivors l.left)) (one_ids h a below root.alive) some.2 in
            record { entries = r.0; there = r.1; meets = meets world legal named_so numbered order logs reached i still h a below root called l some.1 r.0 r.2 parts })
      ]

  blocked_by : (i : RequestId) → IsOpen world legal named_so numbered order logs reached i → (t : Trees) → AreRoots t world (i ∷ []) → IsBlocked i
  blocked_by i still none roots = absurd roots
  blocked_by i still (tree h a below behind) roots = blocked_at i still h a below roots.0 roots.1

  pub blocked : (i : RequestId) → IsOpen world legal named_so numbered order logs reached i → IsBlocked i
  blocked i still = (let t = roots_there world legal (i ∷ []) ((still.history, still.act, still.is_root), tt) in blocked_by i still t.0 t.1)
