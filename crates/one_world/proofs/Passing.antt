-- The test of a certificate says what it should.
use Rattle.std.proofs.Common.{◌≡◌, ℕ, zero, suc, Bool, true, false, not, ◌&&◌, ◌||◌, cond, List, [], ◌∷◌, ◌++◌, length, map, filter, Option, Some, None, inl, inr, refl, sym, ap, ◌∙◌, subst, append_assoc, append-nil, nat_eq, eqb-true, eq-eqb}
use Rattle.std.specs.List.{AllByRecursion, list_all, list_any}
use Rattle.std.proofs.lemmas.Bool.{and_from, and_parts, cases_Bool, or_parts}
use Rattle.lang_base.specs.Texts.{same_text}
use Rattle.lang_core.specs.declared.ids.Origin.{Origin}
use Rattle.lang_core.specs.declared.ids.Origin.TheVariants.{Outside, Call}
use Rattle.lang_core.specs.declared.ids.RequestId.{RequestId}
use Rattle.lang_core.specs.declared.trace.CallMade.{CallMade}
use Rattle.execution.specs.Executions.{Act, History, survives}
use Rattle.execution.specs.Together.{IsLegalTogether, comes_from, history_in, name_of}
use Rattle.one_world.specs.Certificates.{Passes, numbers_at, survivors}
use Rattle.one_world.specs.Checks.{Deeper, Left, behind_act, behind_all, behind_callee, behind_calls, behind_found, behind_id, behind_next, behind_root, behind_roots, is_certificate, is_empty, is_outside, none_left, passed, stands_in, then_left}
use Rattle.one_world.specs.Trees.{AreCalled, AreRoots, IsCallee, IsRoot, Trees, act_in, call_order, callee_in, calls_of, id_of, none, tree}
use Rattle.one_world.proofs.Alike.{roots_alike}
use Rattle.one_world.proofs.Facts.{dead_calls, dead_numbers, lawful, onward}
use Rattle.one_world.proofs.Lists.{Has, has_found, if_false, if_true, numbers_append, numbers_here, numbers_there}
use Rattle.one_world.proofs.Low.{Low, called_low, left_all}

-- ---- one log

pub alive_first : (a : Act) (left : List Act) → survives a ≡ true → survivors (a ∷ left) ≡ a.id ∷ survivors left
alive_first a left e = ap (λ xs. map (λ (b : Act). b.id) xs) (if_true (survives a) (a ∷ filter survives left) (filter survives left) e)

pub dead_first : (a : Act) (left : List Act) → survives a ≡ false → survivors (a ∷ left) ≡ survivors left
dead_first a left e = ap (λ xs. map (λ (b : Act). b.id) xs) (if_false (survives a) (a ∷ filter survives left) (filter survives left) e)

next_alive : (id : ℕ) (a : Act) (left : List Act) → survives a ≡ true → behind_next id (a ∷ left) ≡ cond (nat_eq a.id id) (Some left) None
next_alive id a left e = if_true (survives a) (cond (nat_eq a.id id) (Some left) None) (behind_next id left) e

next_dead : (id : ℕ) (a : Act) (left : List Act) → survives a ≡ false → behind_next id (a ∷ left) ≡ behind_next id left
next_dead id a left e = if_false (survives a) (cond (nat_eq a.id id) (Some left) None) (behind_next id left) e

some_if : (b : Bool) (left later : List Act) → cond b (Some left) None ≡ Some later → (b ≡ true) × (left ≡ later)
some_if true left later e = (refl, cc)
some_if false left later e = absurd cc

pub next_sound : (id : ℕ) (left later : List Act) → behind_next id left ≡ Some later → survivors left ≡ id ∷ survivors later
next_sound id [] later e = absurd cc
next_sound id (a ∷ left) later e = elim (cases_Bool (survives a)) [
  | inl alive ↦ (let here = some_if (nat_eq a.id id) left later (sym (next_alive id a left alive) ∙ e) in
      alive_first a left alive ∙ ap (λ n. n ∷ survivors left) (eqb-true a.id id here.0) ∙ ap (λ xs. id ∷ survivors xs) here.1)
  | inr dead ↦ dead_first a left dead ∙ next_sound id left later (sym (next_dead id a left dead) ∙ e)
]

-- what is left, and what survives of it
pub record Goes (left : Left) (rest : List ℕ) : Type 0 where
  pub later : List Act
  pub is : left ≡ Some later
  pub survive : survivors later ≡ rest

pub next_complete : (id : ℕ) (left : List Act) (rest : List ℕ) → survivors left ≡ id ∷ rest → Goes (behind_next id left) rest
next_complete id [] rest e = absurd cc
next_complete id (a ∷ left) rest e = elim (cases_Bool (survives a)) [
  | inl alive ↦ (let all : a.id ∷ survivors left ≡ id ∷ rest = sym (alive_first a left alive) ∙ e in
      let first : a.id ≡ id = cc in
      let others : survivors left ≡ rest = cc in
      record { later = left; is = next_alive id a left alive ∙ if_true (nat_eq a.id id) (Some left) None (eq-eqb a.id id first); survive = others })
  | inr dead ↦ (let g = next_complete id left rest (sym (dead_first a left dead) ∙ e) in
      record { later = g.later; is = next_dead id a left dead ∙ g.is; survive = g.survive })
]

passed_here : (name : List ℕ) (i : RequestId) (left : List Act) → same_text i.service name ≡ true → passed name i left ≡ behind_next i.number left
passed_here name i left e = if_true (same_text i.service name) (behind_next i.number left) (Some left) e

passed_there : (name : List ℕ) (i : RequestId) (left : List Act) → same_text i.service name ≡ false → passed name i left ≡ Some left
passed_there name i left e = if_false (same_text i.service name) (behind_next i.number left) (Some left) e

pub passed_sound : (name : List ℕ) (i : RequestId) (left later : List Act) → passed name i left ≡ Some later → survivors left ≡ numbers_at name (i ∷ []) ++ survivors later
passed_sound name i left later e = elim (cases_Bool (same_text i.service name)) [
  | inl here ↦ next_sound i.number left later (sym (passed_here name i left here) ∙ e) ∙ ap (λ ns. ns ++ survivors later) (sym (numbers_here name i [] here))
  | inr there ↦ (let both : Some left ≡ Some later = sym (passed_there name i left there) ∙ e in
      let same : left ≡ later = cc in
      ap survivors same ∙ ap (λ ns. ns ++ survivors later) (sym (numbers_there name i [] there)))
]

pub passed_complete : (name : List ℕ) (i : RequestId) (xs : List RequestId) (left : List Act) (rest : List ℕ) → survivors left ≡ numbers_at name (i ∷ xs) ++ rest
    → Goes (passed name i left) (numbers_at name xs ++ rest)
passed_complete name i xs left rest e = elim (cases_Bool (same_text i.service name)) [
  | inl here ↦ (let g = next_complete i.number left (numbers_at name xs ++ rest) (e ∙ ap (λ ns. ns ++ rest) (numbers_here name i xs here)) in
      record { later = g.later; is = passed_here name i left here ∙ g.is; survive = g.survive })
  | inr there ↦ record { later = left; is = passed_there name i left there; survive = e ∙ ap (λ ns. ns ++ rest) (numbers_there name i xs there) }
]

record Split (o : Left) (next : List Act → Left) (later : List Act) : Type 0 where
  mid : List Act
  first : o ≡ Some mid
  then : next mid ≡ Some later

split : (o : Left) (next : List Act → Left) (later : List Act) → then_left o next ≡ Some later → Split o next later
split None next later e = absurd cc
split (Some mid) next later e = record { mid = mid; first = refl; then = e }

joins : (o : Left) (next : List Act → Left) (mid : List Act) → o ≡ Some mid → then_left o next ≡ next mid
joins o next mid e = ap (λ x. then_left x next) e

-- ---- call order

-- a request with what it called, in call order
abbrev heads : History → Act → Trees → List RequestId
heads h a below = cond (survives a) (id_of h a ∷ call_order below) []

heads_by : (b : Bool) (i : RequestId) (xs ys : List RequestId) → cond b (i ∷ (xs ++ ys)) ys ≡ cond b (i ∷ xs) [] ++ ys
heads_by true i xs ys = refl
heads_by false i xs ys = refl

order_heads : (h : History) (a : Act) (below behind : Trees) → call_order (tree h a below behind) ≡ heads h a below ++ call_order behind
order_heads h a below behind = heads_by (survives a) (id_of h a) (call_order below) (call_order behind)

two_passed : (name : List ℕ) (xs ys : List RequestId) (left mid later : List Act) → survivors left ≡ numbers_at name xs ++ survivors mid → survivors mid ≡ numbers_at name ys ++ survivors later
    → survivors left ≡ numbers_at name (xs ++ ys) ++ survivors later
two_passed name xs ys left mid later e f =
    e ∙ ap (λ ns. numbers_at name xs ++ ns) f ∙ sym (append_assoc (numbers_at name xs) (numbers_at name ys) (survivors later))
    ∙ ap (λ ns. ns ++ survivors later) (sym (numbers_append name xs ys))

module _ (world : List History) (legal : IsLegalTogether world) (name : List ℕ) where
  -- the trees that were passed on the way
  record Found (P : Trees → Type 0) (left later : List Act) : Type 0 where
    trees : Trees
    are : P trees
    passes : survivors left ≡ numbers_at name (call_order trees) ++ survivors later

  -- a request, with the trees of what it calls
  record FoundAct (h : History) (a : Act) (left later : List Act) : Type 0 where
    trees : Trees
    are : AreCalled trees world (name_of h) a.numbers (calls_of a)
    passes : survivors left ≡ numbers_at name (heads h a trees) ++ survivors later

  abbrev Sound : Deeper → Type 0
  Sound deeper = (h : History) (a : Act) (left later : List Act) → Has h world → Has a h.acts → deeper h a left ≡ Some later
      → Found (λ t. AreCalled t world (name_of h) a.numbers (calls_of a)) left later

  act_sound : (deeper : Deeper) → Sound deeper → (h : History) (a : Act) (left later : List Act) → Has h world → Has a h.acts → behind_act deeper name h a left ≡ Some later
      → FoundAct h a left later
  act_sound deeper sound h a left later there logged e = elim (cases_Bool (survives a)) [
    | inl alive ↦ (let s = split (passed name (id_of h a) left) (deeper h a) later
        (sym (if_true (survives a) (then_left (passed name (id_of h a) left) (deeper h a)) (Some left) alive) ∙ e) in
        let f = sound h a s.mid later there logged s.then in
        let is : heads h a f.trees ≡ id_of h a ∷ call_order f.trees = if_true (survives a) (id_of h a ∷ call_order f.trees) [] alive in
        record {
          trees = f.trees;
          are = f.are;
          passes = two_passed name (id_of h a ∷ []) (call_order f.trees) left s.mid later (passed_sound name (id_of h a) left s.mid s.first) f.passes
              ∙ ap (λ xs. numbers_at name xs ++ survivors later) (sym is);
        })
    | inr dead ↦ (let both : Some left ≡ Some later = sym (if_false (survives a) (then_left (passed name (id_of h a) left) (deeper h a)) (Some left) dead) ∙ e in
        let same : left ≡ later = cc in
        let law = lawful world legal h there a logged in
        let nothing : AreCalled none world (name_of h) a.numbers (calls_of a) =
        subst (λ ns. AreCalled none world (name_of h) ns (calls_of a)) (sym (dead_numbers world h a law dead))
        (subst (λ cs. AreCalled none world (name_of h) [] cs) (sym (dead_calls world h a law dead)) tt) in
        let is : heads h a none ≡ [] = if_false (survives a) (id_of h a ∷ call_order none) [] dead in
        record { trees = none; are = nothing; passes = ap survivors same ∙ ap (λ xs. numbers_at name xs ++ survivors later) (sym is) })
  ]

  -- a request that is found at the service that is found
  record FoundCallee (deeper : Deeper) (caller : List ℕ) (n : ℕ) (c : CallMade) (left later : List Act) : Type 0 where
    h : History
    a : Act
    callee : IsCallee world caller n c h a
    goes : behind_act deeper name h a left ≡ Some later

  callee_by : (deeper : Deeper) (caller : List ℕ) (n : ℕ) (c : CallMade) (left later : List Act) (h : History) (o : Option Act) → history_in c.dest world ≡ Some h
      → callee_in caller n h.acts ≡ o → behind_found deeper name h o left ≡ Some later → FoundCallee deeper caller n c left later
  callee_by deeper caller n c left later h None e f goes = absurd cc
  callee_by deeper caller n c left later h (Some a) e f goes = record { h = h; a = a; callee = record { served = e; called = f }; goes = goes }

  service_by : (deeper : Deeper) (caller : List ℕ) (n : ℕ) (c : CallMade) (left later : List Act) (o : Option History) → history_in c.dest world ≡ o
      → behind_callee deeper name caller n o left ≡ Some later → FoundCallee deeper caller n c left later
  service_by deeper caller n c left later None e goes = absurd cc
  service_by deeper caller n c left later (Some h) e goes = callee_by deeper caller n c left later h (callee_in caller n h.acts) e refl goes

  calls_sound : (deeper : Deeper) → Sound deeper → (caller : List ℕ) (ns : List ℕ) (cs : List CallMade) (left later : List Act)
      → behind_calls deeper world name caller ns cs left ≡ Some later → Found (λ t. AreCalled t world caller ns cs) left later
  calls_sound deeper sound caller [] [] left later e =
      (let same : left ≡ later = cc in record { trees = none; are = tt; passes = ap survivors same })
  calls_sound deeper sound caller [] (c ∷ cs) left later e = absurd cc
  calls_sound deeper sound caller (n ∷ ns) [] left later e = absurd cc
  calls_sound deeper sound caller (n ∷ ns) (c ∷ cs) left later e =
      let s = split (behind_callee deeper name caller n (history_in c.dest world) left) (λ x. behind_calls deeper world name caller ns cs x) later e in
      let f = service_by deeper caller n c left s.mid (history_in c.dest world) refl s.first in
      let at = has_found (λ (g : History). same_text (name_of g) c.dest) world f.h f.callee.served in
      let logged = has_found (comes_from caller n) f.h.acts f.a f.callee.called in
      let one = act_sound deeper sound f.h f.a left s.mid at.0 logged.0 f.goes in
      let more = calls_sound deeper sound caller ns cs s.mid later s.then in
      record {
        trees = tree f.h f.a one.trees more.trees;
        are = (f.callee, one.are, more.are);
        passes = two_passed name (heads f.h f.a one.trees) (call_order more.trees) left s.mid later one.passes more.passes
            ∙ ap (λ xs. numbers_at name xs ++ survivors later) (sym (order_heads f.h f.a one.trees more.trees));
      }

  all_sound : (depth : ℕ) → Sound (behind_all depth world name)
  all_sound zero h a left later there logged e = absurd cc
  all_sound (suc depth) h a left later there logged e =
      calls_sound (behind_all depth world name) (all_sound depth) (name_of h) a.numbers (calls_of a) left later e

  -- ---- the other way round

  callee_goes : (deeper : Deeper) (caller : List ℕ) (n : ℕ) (c : CallMade) (left : List Act) (h : History) (a : Act) → IsCallee world caller n c h a
      → behind_callee deeper name caller n (history_in c.dest world) left ≡ behind_act deeper name h a left
  callee_goes deeper caller n c left h a callee =
      ap (λ o. behind_callee deeper name caller n o left) callee.served ∙ ap (λ o. behind_found deeper name h o left) callee.called

  regroup : (xs ys : List RequestId) (rest : List ℕ) → numbers_at name (xs ++ ys) ++ rest ≡ numbers_at name xs ++ (numbers_at name ys ++ rest)
  regroup xs ys rest = ap (λ ns. ns ++ rest) (numbers_append name xs ys) ∙ append_assoc (numbers_at name xs) (numbers_at name ys) rest

  calls_complete : (t : Trees) (depth : ℕ) (caller : List ℕ) (ns : List ℕ) (cs : List CallMade) (left : List Act) (rest : List ℕ) → AreCalled t world caller ns cs → Low t depth
      → survivors left ≡ numbers_at name (call_order t) ++ rest → Goes (behind_calls (behind_all depth world name) world name caller ns cs left) rest
  calls_complete none depth caller [] [] left rest called low e = record { later = left; is = refl; survive = e }
  calls_complete none depth caller [] (c ∷ cs) left rest called low e = absurd called
  calls_complete none depth caller (n ∷ ns) cs left rest called low e = absurd called
  calls_complete (tree h a below behind) depth caller [] cs left rest called low e = absurd called
  calls_complete (tree h a below behind) depth caller (n ∷ ns) [] left rest called low e = absurd called
  calls_complete (tree h a below behind) zero caller (n ∷ ns) (c ∷ cs) left rest called low e = absurd low
  calls_complete (tree h a below behind) (suc depth) caller (n ∷ ns) (c ∷ cs) left rest called low e =
      let deeper = behind_all (suc depth) world name in
      let here = callee_goes deeper caller n c left h a called.0 in
      let next : List Act → Left = λ x. behind_calls deeper world name caller ns cs x in
      elim (cases_Bool (survives a)) [
        | inl alive ↦ (let order = if_true (survives a) (id_of h a ∷ (call_order below ++ call_order behind)) (call_order behind) alive in
            let p = passed_complete name (id_of h a) (call_order below ++ call_order behind) left rest (e ∙ ap (λ xs. numbers_at name xs ++ rest) order) in
            let under = calls_complete below depth (name_of h) a.numbers (calls_of a) p.later (numbers_at name (call_order behind) ++ rest) called.1 low.0
            (p.survive ∙ regroup (call_order below) (call_order behind) rest) in
            let act : behind_act deeper name h a left ≡ Some under.later =
            if_true (survives a) (then_left (passed name (id_of h a) left) (deeper h a)) (Some left) alive
            ∙ joins (passed name (id_of h a) left) (deeper h a) p.later p.is ∙ under.is in
            let more = calls_complete behind (suc depth) caller ns cs under.later rest called.2 low.1 under.survive in
            record { later = more.later; is = joins (behind_callee deeper name caller n (history_in c.dest world) left) next under.later (here ∙ act) ∙ more.is; survive = more.survive })
        | inr dead ↦ (let order = if_false (survives a) (id_of h a ∷ (call_order below ++ call_order behind)) (call_order behind) dead in
            let act : behind_act deeper name h a left ≡ Some left = if_false (survives a) (then_left (passed name (id_of h a) left) (deeper h a)) (Some left) dead in
            let more = calls_complete behind (suc depth) caller ns cs left rest called.2 low.1 (e ∙ ap (λ xs. numbers_at name xs ++ rest) order) in
            record { later = more.later; is = joins (behind_callee deeper name caller n (history_in c.dest world) left) next left (here ∙ act) ∙ more.is; survive = more.survive })
      ]

  -- ---- roots

  root_parts : (o : Origin) (s : Bool) → (is_outside o && s) ≡ true → (o ≡ Outside) × (s ≡ true)
  root_parts Outside s e = (refl, e)
  root_parts (Call caller n) s e = absurd cc

  outside_and : (o : Origin) (s : Bool) → o ≡ Outside → s ≡ true → (is_outside o && s) ≡ true
  outside_and o s e f = ap (λ x. is_outside x && s) e ∙ f

  -- a root that is found
  record FoundRoot (depth : ℕ) (i : RequestId) (left later : List Act) : Type 0 where
    h : History
    a : Act
    root : IsRoot world i h a
    goes : then_left (passed name (id_of h a) left) (behind_all (suc depth) world name h a) ≡ Some later

  root_by : (depth : ℕ) (i : RequestId) (left later : List Act) (h : History) (o : Option Act) → history_in i.service world ≡ Some h → act_in i.number h.acts ≡ o
      → behind_root depth world name h o left ≡ Some later → FoundRoot depth i left later
  root_by depth i left later h None e f goes = absurd cc
  root_by depth i left later h (Some a) e f goes = elim (cases_Bool (is_outside a.origin && survives a)) [
    | inl is ↦ (let parts = root_parts a.origin (survives a) is in
        record {
          h = h;
          a = a;
          root = record { served = e; logged = f; outside = parts.0; alive = parts.1 };
          goes = sym (if_true (is_outside a.origin && survives a) (then_left (passed name (id_of h a) left) (behind_all (suc depth) world name h a)) None is) ∙ goes;
        })
    | inr other ↦ (let both : None ≡ Some later = sym (if_false (is_outside a.origin && survives a) (then_left (passed name (id_of h a) left) (behind_all (suc depth) world name h a)) None other) ∙ goes in absurd cc)
  ]

  id_by : (depth : ℕ) (i : RequestId) (left later : List Act) (o : Option History) → history_in i.service world ≡ o → behind_id depth world name i.number o left ≡ Some later
      → FoundRoot depth i left later
  id_by depth i left later None e goes = absurd cc
  id_by depth i left later (Some h) e goes = root_by depth i left later h (act_in i.number h.acts) e refl goes

  roots_sound : (depth : ℕ) (order : List RequestId) (left later : List Act) → behind_roots depth world name order left ≡ Some later → Found (λ t. AreRoots t world order) left later
  roots_sound depth [] left later e =
      (let same : left ≡ later = cc in record { trees = none; are = tt; passes = ap survivors same })
  roots_sound depth (i ∷ order) left later e =
      let s = split (behind_id depth world name i.number (history_in i.service world) left) (λ x. behind_roots depth world name order x) later e in
      let f = id_by depth i left s.mid (history_in i.service world) refl s.first in
      let at = has_found (λ (g : History). same_text (name_of g) i.service) world f.h f.root.served in
      let logged = has_found (λ (b : Act). nat_eq b.id i.number) f.h.acts f.a f.root.logged in
      let p = split (passed name (id_of f.h f.a) left) (behind_all (suc depth) world name f.h f.a) s.mid f.goes in
      let under = all_sound (suc depth) f.h f.a p.mid s.mid at.0 logged.0 p.then in
      let more = roots_sound depth order s.mid later s.then in
      let is : heads f.h f.a under.trees ≡ id_of f.h f.a ∷ call_order under.trees = if_true (survives f.a) (id_of f.h f.a ∷ call_order under.trees) [] f.root.alive in
      let one : survivors left ≡ numbers_at name (heads f.h f.a under.trees) ++ survivors s.mid =
      two_passed name (id_of f.h f.a ∷ []) (call_order under.trees) left p.mid s.mid (passed_sound name (id_of f.h f.a) left p.mid p.first) under.passes
      ∙ ap (λ xs. numbers_at name xs ++ survivors s.mid) (sym is) in
      record {
        trees = tree f.h f.a under.trees more.trees;
        are = (f.root, under.are, more.are);
        passes = two_passed name (heads f.h f.a under.trees) (call_order more.trees) left s.mid later one more.passes
            ∙ ap (λ xs. numbers_at name xs ++ survivors later) (sym (order_heads f.h f.a under.trees more.trees));
      }

  root_goes : (depth : ℕ) (i : RequestId) (left : List Act) (h : History) (a : Act) → IsRoot world i h a
      → behind_id depth world name i.number (history_in i.service world) left ≡ then_left (passed name (id_of h a) left) (behind_all (suc depth) world name h a)
  root_goes depth i left h a root =
      ap (λ o. behind_id depth world name i.number o left) root.served
      ∙ ap (λ o. behind_root depth world name h o left) root.logged
      ∙ if_true (is_outside a.origin && survives a) (then_left (passed name (id_of h a) left) (behind_all (suc depth) world name h a)) None (outside_and a.origin (survives a) root.outside root.alive)

  roots_complete : (t : Trees) (order : List RequestId) (left : List Act) (rest : List ℕ) → AreRoots t world order
      → survivors left ≡ numbers_at name (call_order t) ++ rest → Goes (behind_roots (length world) world name order left) rest
  roots_complete none [] left rest roots e = record { later = left; is = refl; survive = e }
  roots_complete none (i ∷ order) left rest roots e = absurd roots
  roots_complete (tree h a below behind) [] left rest roots e = absurd roots
  roots_complete (tree h a below behind) (i ∷ order) left rest roots e =
      let depth = length world in
      let at = has_found (λ (g : History). same_text (name_of g) i.service) world h roots.0.served in
      let logged = has_found (λ (b : Act). nat_eq b.id i.number) h.acts a roots.0.logged in
      let law = lawful world legal h at.0 a logged.0 in
      let alive = roots.0.alive in
      let order_is = if_true (survives a) (id_of h a ∷ (call_order below ++ call_order behind)) (call_order behind) alive in
      let p = passed_complete name (id_of h a) (call_order below ++ call_order behind) left rest (e ∙ ap (λ xs. numbers_at name xs ++ rest) order_is) in
      let low : Low below depth = called_low world legal below (name_of h) h.setting.peers a.request a.numbers (calls_of a) a.answers depth roots.1 (onward world h a law alive) (law.served alive)
      (left_all (a.request.chain ++ name_of h ∷ []) world) in
      let under = calls_complete below depth (name_of h) a.numbers (calls_of a) p.later (numbers_at name (call_order behind) ++ rest) roots.1 low
      (p.survive ∙ regroup (call_order below) (call_order behind) rest) in
      let one : behind_id depth world name i.number (history_in i.service world) left ≡ Some under.later =
      root_goes depth i left h a roots.0 ∙ joins (passed name (id_of h a) left) (behind_all (suc depth) world name h a) p.later p.is ∙ under.is in
      let more = roots_complete behind order under.later rest roots.2 under.survive in
      record {
        later = more.later;
        is = joins (behind_id depth world name i.number (history_in i.service world) left) (λ later. behind_roots depth world name order later) under.later one ∙ more.is;
        survive = more.survive;
      }

-- ---- one root

-- what a log loses behind a root is what survives of the root's tree
pub root_passed : (world : List History) → IsLegalTogether world → (name : List ℕ) (i : RequestId) (left later : List Act)
    → behind_id (length world) world name i.number (history_in i.service world) left ≡ Some later
    → (t : Trees) × AreRoots t world (i ∷ []) × (survivors left ≡ numbers_at name (call_order t) ++ survivors later)
root_passed world legal name i left later e =
    let f = roots_sound world legal name (length world) (i ∷ []) left later (joins (behind_id (length world) world name i.number (history_in i.service world) left) (λ x. Some x) later e) in
    (f.trees, f.are, f.passes)

-- a log that goes on with a root's tree
pub root_passes : (world : List History) → IsLegalTogether world → (name : List ℕ) (i : RequestId) (t : Trees) (left : List Act) (rest : List ℕ) → AreRoots t world (i ∷ [])
    → survivors left ≡ numbers_at name (call_order t) ++ rest → Goes (behind_id (length world) world name i.number (history_in i.service world) left) rest
root_passes world legal name i t left rest roots e =
    let g = roots_complete world legal name t (i ∷ []) left rest roots e in
    let s = split (behind_id (length world) world name i.number (history_in i.service world) left) (λ x. Some x) g.later g.is in
    let same : s.mid ≡ g.later = (let both : Some s.mid ≡ Some g.later = s.then in cc) in
    record { later = s.mid; is = s.first; survive = ap survivors same ∙ g.survive }

-- ---- whole worlds

nothing_left : (left : List Act) → list_any survives left ≡ false → survivors left ≡ []
nothing_left [] e = refl
nothing_left (a ∷ left) e =
    let parts = or_parts (survives a) (list_any survives left) e in
    dead_first a left parts.0 ∙ nothing_left left parts.1

left_nothing : (left : List Act) → survivors left ≡ [] → list_any survives left ≡ false
left_nothing [] e = refl
left_nothing (a ∷ left) e = elim (cases_Bool (survives a)) [
  | inl alive ↦ (let all : a.id ∷ survivors left ≡ [] = sym (alive_first a left alive) ∙ e in absurd cc)
  | inr dead ↦ (let later = left_nothing left (sym (dead_first a left dead) ∙ e) in ap (λ b. b || list_any survives left) dead ∙ later)
]

record LeavesNone (o : Left) : Type 0 where
  later : List Act
  is : o ≡ Some later
  none_survive : survivors later ≡ []

not_so : (b : Bool) → not b ≡ true → b ≡ false
not_so true e = absurd cc
not_so false e = refl

leaves_none : (o : Left) → none_left o ≡ true → LeavesNone o
leaves_none None e = absurd cc
leaves_none (Some later) e = record { later = later; is = refl; none_survive = nothing_left later (not_so (list_any survives later) e) }

none_leaves : (o : Left) (later : List Act) → o ≡ Some later → survivors later ≡ [] → none_left o ≡ true
none_leaves o later e empty = ap none_left e ∙ ap not (left_nothing later empty)

all_true : (p : History → Bool) (hs : List History) → list_all p hs ≡ true → AllByRecursion (λ h. p h ≡ true) hs
all_true p [] e = tt
all_true p (h ∷ hs) e = (let parts = and_parts (p h) (list_all p hs) e in (parts.0, all_true p hs parts.1))

true_all : (p : History → Bool) (hs : List History) → AllByRecursion (λ h. p h ≡ true) hs → list_all p hs ≡ true
true_all p [] all = refl
true_all p (h ∷ hs) all = and_from (p h) (list_all p hs) all.0 (true_all p hs all.1)

module _ (world : List History) (legal : IsLegalTogether world) (order : List RequestId) where
  -- the log of a service stands in the order of these roots
  abbrev Logged : Trees → History → Type 0
  Logged t h = numbers_at (name_of h) (call_order t) ≡ survivors h.acts

  stands_so : (h : History) → stands_in world order h ≡ true → (t : Trees) × AreRoots t world order × Logged t h
  stands_so h e =
      let l = leaves_none (behind_roots (length world) world (name_of h) order h.acts) e in
      let f = roots_sound world legal (name_of h) (length world) order h.acts l.later l.is in
      let logged : survivors h.acts ≡ numbers_at (name_of h) (call_order f.trees) =
      f.passes ∙ ap (λ ns. numbers_at (name_of h) (call_order f.trees) ++ ns) l.none_survive ∙ append-nil (numbers_at (name_of h) (call_order f.trees)) in
      (f.trees, f.are, sym logged)

  so_stands : (h : History) (t : Trees) → AreRoots t world order → Logged t h → stands_in world order h ≡ true
  so_stands h t roots logged =
      let all : survivors h.acts ≡ numbers_at (name_of h) (call_order t) ++ [] = sym logged ∙ sym (append-nil (numbers_at (name_of h) (call_order t))) in
      let g = roots_complete world legal (name_of h) t order h.acts [] roots all in
      none_leaves (behind_roots (length world) world (name_of h) order h.acts) g.later g.is g.survive

  all_logged : (t : Trees) → AreRoots t world order → (part : List History) → AllByRecursion (λ h. stands_in world order h ≡ true) part → AllByRecursion (Logged t) part
  all_logged t roots [] all = tt
  all_logged t roots (h ∷ part) all =
      let here = stands_so h all.0 in
      (subst (λ u. Logged u h) (roots_alike here.0 t world order here.1 roots) here.2, all_logged t roots part all.1)

  all_stand : (t : Trees) → AreRoots t world order → (part : List History) → AllByRecursion (Logged t) part → AllByRecursion (λ h. stands_in world order h ≡ true) part
  all_stand t roots [] all = tt
  all_stand t roots (h ∷ part) all = (so_stands h t roots all.0, all_stand t roots part all.1)

empty_order : (t : Trees) (order : List RequestId) → AreRoots t [] order → is_empty order ≡ true
empty_order t [] roots = refl
empty_order none (i ∷ order) roots = absurd roots
empty_order (tree h a below behind) (i ∷ order) roots = (let lost : None ≡ Some h = roots.0.served in absurd cc)

-- an order that the test takes is a certificate
pub certificate_passes : (world : List History) → IsLegalTogether world → (order : List RequestId) → is_certificate world order ≡ true → Passes world order
certificate_passes [] legal [] e = record { trees = none; roots = tt; logged = tt }
certificate_passes [] legal (i ∷ order) e = absurd cc
certificate_passes (h ∷ world) legal order e =
    let all = all_true (stands_in (h ∷ world) order) (h ∷ world) e in
    let first = stands_so (h ∷ world) legal order h all.0 in
    record { trees = first.0; roots = first.1; logged = all_logged (h ∷ world) legal order first.0 first.1 (h ∷ world) all }

-- and it takes every certificate
pub passes_certificate : (world : List History) → IsLegalTogether world → (order : List RequestId) → Passes world order → is_certificate world order ≡ true
passes_certificate [] legal order passes = empty_order passes.trees order passes.roots
passes_certificate (h ∷ world) legal order passes =
    true_all (stands_in (h ∷ world) order) (h ∷ world) (all_stand (h ∷ world) legal order passes.trees passes.roots (h ∷ world) passes.logged)
