-- Where a search of an order can't go on, nothing is left of the logs, or no order passes.
--
-- An order that passes goes on where the search stands: what the search took is a part of it that can come first.
use Rattle.std.proofs.Common.{◌≡◌, ℕ, true, false, List, [], ◌∷◌, ◌++◌, map, Some, None, ◌⊎◌, inl, inr, refl, sym, ap, ◌∙◌, subst, append_assoc, nat_eq, eqb-true, true≢false}
use Rattle.std.proofs.lemmas.List.{append_cancel_left}
use Rattle.std.specs.List.{AllByRecursion}
use Rattle.std.proofs.lemmas.Bool.{cases_Bool}
use Rattle.lang_base.specs.Texts.{same_text}
use Rattle.lang_core.specs.Origins.{is_call}
use Rattle.lang_core.specs.declared.ids.Origin.{Origin}
use Rattle.lang_core.specs.declared.ids.Origin.TheVariants.{Outside}
use Rattle.lang_core.specs.declared.ids.RequestId.{RequestId}
use Rattle.lang_core.specs.declared.trace.CallMade.{CallMade}
use Rattle.handler_chains.proofs.Finding.{text_is}
use Rattle.execution.specs.Executions.{Act, History, survives}
use Rattle.execution.specs.Together.{IsLegalTogether, comes_from, history_in, name_of}
use Rattle.one_world.specs.Certificates.{AreApart, AreNamed, Passes, numbers_at, survivors}
use Rattle.one_world.specs.Searches.{Log, Taken, front, next_root, or_later, taken, tried}
use Rattle.one_world.specs.Trees.{AreCalled, AreRoots, IsRoot, Trees, call_order, calls_of, id_of, none, tree}
use Rattle.one_world.proofs.Alike.{both_some, called_alike}
use Rattle.one_world.proofs.Facts.{callee_there}
use Rattle.one_world.proofs.Lists.{Has, apart_ids, each_has, has_behind, has_found, if_false, if_true, numbers_append, numbers_here, numbers_there}
use Rattle.one_world.proofs.OneRun.{IsAt, root_at}
use Rattle.one_world.proofs.Passing.{alive_first, dead_first, root_passes}
use Rattle.one_world.proofs.Searching.{Behind, GoesOn, IsPassed, Reached, all_go_on, and_trees, call_append, history_of_log, root_first, roots_append}

-- ---- lists

pub has_append : {X : Type 0} (x : X) (xs ys : List X) → Has x (xs ++ ys) → Has x xs ⊎ Has x ys
has_append x [] ys h = inr h
has_append x (y ∷ xs) ys (inl e) = inl (inl e)
has_append x (y ∷ xs) ys (inr h) = elim (has_append x xs ys h) [
  | inl there ↦ inl (inr there)
  | inr later ↦ inr later
]

each_all : {X : Type 0} (P : X → Type 0) (xs : List X) → ((x : X) → Has x xs → P x) → AllByRecursion P xs
each_all P [] each = tt
each_all P (x ∷ xs) each = (each x (inl refl), each_all P xs (λ y there. each y (inr there)))

apart_behind : (xs ys : List ℕ) → AreApart (xs ++ ys) → AreApart ys
apart_behind [] ys apart = apart
apart_behind (x ∷ xs) ys apart = apart_behind xs ys apart.1

-- what can come first in two orders of which one begins with it, where nothing stands twice
put_first : (xs ys zs ws : List ℕ) → xs ++ (ys ++ zs) ≡ ys ++ ws → AreApart (ys ++ ws) → xs ++ zs ≡ ws
put_first [] ys zs ws e apart = append_cancel_left ys zs ws e
put_first (x ∷ xs) [] zs ws e apart = e
put_first (x ∷ xs) (y ∷ ys) zs ws e apart =
    let rest : xs ++ (y ∷ (ys ++ zs)) ≡ ys ++ ws = cc in
    let twice : Has y (ys ++ ws) = subst (Has y) rest (has_behind y xs (y ∷ (ys ++ zs)) (inl refl)) in
    absurd (each_has (λ n. ¬ (y ≡ n)) y (ys ++ ws) apart.0 twice refl)

not_among : (n : ℕ) (acts : List Act) → AllByRecursion (λ m. ¬ (n ≡ m)) (map (λ (a : Act). a.id) acts) → AllByRecursion (λ m. ¬ (n ≡ m)) (survivors acts)
not_among n [] apart = tt
not_among n (a ∷ acts) apart = elim (cases_Bool (survives a)) [
  | inl alive ↦ subst (AllByRecursion (λ m. ¬ (n ≡ m))) (sym (alive_first a acts alive)) (apart.0, not_among n acts apart.1)
  | inr dead ↦ subst (AllByRecursion (λ m. ¬ (n ≡ m))) (sym (dead_first a acts dead)) (not_among n acts apart.1)
]

pub survivors_apart : (acts : List Act) → AreApart (map (λ (a : Act). a.id) acts) → AreApart (survivors acts)
survivors_apart [] apart = tt
survivors_apart (a ∷ acts) apart = elim (cases_Bool (survives a)) [
  | inl alive ↦ subst AreApart (sym (alive_first a acts alive)) (not_among a.id acts apart.0, survivors_apart acts apart.1)
  | inr dead ↦ subst AreApart (sym (dead_first a acts dead)) (survivors_apart acts apart.1)
]

front_first : (left : List Act) (n : ℕ) (ns : List ℕ) → survivors left ≡ n ∷ ns → front left ≡ Some n
front_first [] n ns e = absurd cc
front_first (a ∷ left) n ns e = elim (cases_Bool (survives a)) [
  | inl alive ↦ (let all : a.id ∷ survivors left ≡ n ∷ ns = sym (alive_first a left alive) ∙ e in
      let first : a.id ≡ n = cc in
      if_true (survives a) (Some a.id) (front left) alive ∙ ap (λ m. Some m) first)
  | inr dead ↦ if_false (survives a) (Some a.id) (front left) dead ∙ front_first left n ns (sym (dead_first a left dead) ∙ e)
]

-- a request of a service, by its number there
abbrev id_at : List ℕ → ℕ → RequestId
id_at name n = record { service = name; number = n }

own_or_later : (name : List ℕ) (n : ℕ) (i : RequestId) (xs : List RequestId) → i.service ≡ name → Has n (i.number ∷ numbers_at name xs)
    → (Has n (numbers_at name xs) → Has (id_at name n) xs) → Has (id_at name n) (i ∷ xs)
own_or_later name n i xs e (inl same) again = inl (ap (id_at name) same ∙ ap (λ s. id_at s i.number) (sym e))
own_or_later name n i xs e (inr later) again = inr (again later)

pub numbers_has : (name : List ℕ) (n : ℕ) (xs : List RequestId) → Has n (numbers_at name xs) → Has (id_at name n) xs
numbers_has name n [] h = absurd h
numbers_has name n (i ∷ xs) h = elim (cases_Bool (same_text i.service name)) [
  | inl here ↦ own_or_later name n i xs (text_is i.service name here) (subst (Has n) (numbers_here name i xs here) h) (λ there. numbers_has name n xs there)
  | inr there ↦ inr (numbers_has name n xs (subst (Has n) (numbers_there name i xs there) h))
]

-- ---- where a root stands in trees

call_is_none : (caller : List ℕ) (n : ℕ) (o : Origin) → o ≡ Outside → is_call caller n o ≡ true → ⊥
call_is_none caller n o e is = true≢false (sym (sym (ap (is_call caller n) e) ∙ is))

-- a root is what its name says
pub root_id : (world : List History) (i : RequestId) (h : History) (a : Act) → IsRoot world i h a → i ≡ id_of h a
root_id world i h a root =
    let at = has_found (λ (g : History). same_text (name_of g) i.service) world h root.served in
    let service : i.service ≡ name_of h = sym (text_is (name_of h) i.service at.1) in
    let number : i.number ≡ a.id = sym (eqb-true a.id i.number (has_found (λ (b : Act). nat_eq b.id i.number) h.acts a root.logged).1) in
    ap (id_at i.service) number ∙ ap (λ s. id_at s a.id) service

own_root : (world : List History) (i : RequestId) (h : History) (a : Act) → IsRoot world i h a → IsRoot world (id_of h a) h a
own_root world i h a root = subst (λ j. IsRoot world j h a) (root_id world i h a root) root

-- the trees before a root, its own, and those behind it
record Cut (world : List History) (t : Trees) (h : History) (a : Act) : Type 0 where
  before : Trees
  below : Trees
  after : Trees
  front_order : List RequestId
  back_order : List RequestId
  front_roots : AreRoots before world front_order
  back_roots : AreRoots after world back_order
  called : AreCalled below world (name_of h) a.numbers (calls_of a)
  is : t ≡ and_trees before (tree h a below after)

module _ (world : List History) (named : AreNamed world) where
  pub ids_same : (h g : History) (a b : Act) → IsAt world h a → IsAt world g b → id_of h a ≡ id_of g b → (h ≡ g) × (a ≡ b)
  ids_same h g a b x y e =
      let names : name_of h ≡ name_of g = ap (λ (i : RequestId). i.service) e in
      let same : h ≡ g = both_some (history_in (name_of h) world) h g x.found (subst (λ n. history_in n world ≡ Some g) (sym names) y.found) in
      let apart = each_has (λ (k : History). AreApart (map (λ (c : Act). c.id) k.acts)) h world named.ids x.there in
      let there : Has b h.acts = subst (λ (k : History). Has b k.acts) (sym same) y.logged in
      (same, apart_ids a b h.acts apart x.logged there (ap (λ (i : RequestId). i.number) e))

  -- the first of what was called isn't a root
  not_first : (g : History) (b : Act) (below behind : Trees) (caller : List ℕ) (n : ℕ) (ns : List ℕ) (c : CallMade) (cs : List CallMade)
      → AreCalled (tree g b below behind) world caller (n ∷ ns) (c ∷ cs) → (h : History) (a : Act) → IsAt world h a → a.origin ≡ Outside
      → Has (id_of h a) (id_of g b ∷ (call_order below ++ call_order behind)) → (Has (id_of h a) (call_order below) → ⊥) → (Has (id_of h a) (call_order behind) → ⊥) → ⊥
  not_first g b below behind caller n ns c cs called h a at outside (inl e) under later =
      let there = callee_there world caller n c g b called.0 in
      let same = ids_same h g a b at (record { there = there.world_has; found = there.found; logged = there.logged }) e in
      let is : is_call caller n b.origin ≡ true = (has_found (comes_from caller n) g.acts b called.0.called).1 in
      call_is_none caller n b.origin (subst (λ (x : Act). x.origin ≡ Outside) same.1 outside) is
  not_first g b below behind caller n ns c cs called h a at outside (inr more) under later =
      elim (has_append (id_of h a) (call_order below) (call_order behind) more) as (λ _. ⊥) [
        | inl there ↦ under there
        | inr there ↦ later there
      ]

  -- no call leads to a root
  not_called : (t : Trees) (caller : List ℕ) (ns : List ℕ) (cs : List CallMade) → AreCalled t world caller ns cs → (h : History) (a : Act) → IsAt world h a → a.origin ≡ Outside
      → Has (id_of h a) (call_order t) → ⊥
  not_called none caller ns cs called h a at outside there = absurd there
  not_called (tree g b below behind) caller [] cs called h a at outside there = absurd called
  not_called (tree g b below behind) caller (n ∷ ns) [] called h a at outside there = absurd called
  not_called (tree g b below behind) caller (n ∷ ns) (c ∷ cs) called h a at outside there = elim (cases_Bool (survives b)) as (λ _. ⊥) [
    | inl alive ↦ (let order = if_true (survives b) (id_of g b ∷ (call_order below ++ call_order behind)) (call_order behind) alive in
        not_first g b below behind caller n ns c cs called h a at outside (subst (Has (id_of h a)) order there)
        (λ under. not_called below (name_of g) b.numbers (calls_of b) called.1 h a at outside under) (λ later. not_called behind caller ns cs called.2 h a at outside later))
    | inr dead ↦ (let order = if_false (survives b) (id_of g b ∷ (call_order below ++ call_order behind)) (call_order behind) dead in
        not_called behind caller ns cs called.2 h a at outside (subst (Has (id_of h a)) order there))
  ]

  cut_first : (g : History) (b : Act) (below behind : Trees) (o : RequestId) (order : List RequestId) → AreRoots (tree g b below behind) world (o ∷ order)
      → Cut world (tree g b below behind) g b
  cut_first g b below behind o order roots = record {
    before = none;
    below = below;
    after = behind;
    front_order = [];
    back_order = order;
    front_roots = tt;
    back_roots = roots.2;
    called = roots.1;
    is = refl;
  }

  cut_later : (g : History) (b : Act) (below behind : Trees) (o : RequestId) (order : List RequestId) (h : History) (a : Act) → AreRoots (tree g b below behind) world (o ∷ order)
      → Cut world behind h a → Cut world (tree g b below behind) h a
  cut_later g b below behind o order h a roots c = record {
    before = tree g b below c.before;
    below = c.below;
    after = c.after;
    front_order = o ∷ c.front_order;
    back_order = c.back_order;
    front_roots = (roots.0, roots.1, c.front_roots);
    back_roots = c.back_roots;
    called = c.called;
    is = ap (tree g b below) c.is;
  }

  cut_by : (g : History) (b : Act) (below behind : Trees) (o : RequestId) (order : List RequestId) (h : History) (a : Act) → AreRoots (tree g b below behind) world (o ∷ order)
      → IsAt world h a → a.origin ≡ Outside → Has (id_of h a) (id_of g b ∷ (call_order below ++ call_order behind))
      → (Has (id_of h a) (call_order behind) → Cut world behind h a) → Cut world (tree g b below behind) h a
  cut_by g b below behind o order h a roots at outside (inl e) again =
      let same = ids_same h g a b at (root_at world o g b roots.0) e in
      subst (λ (x : Act). Cut world (tree g b below behind) h x) (sym same.1)
      (subst (λ (k : History). Cut world (tree g b below behind) k b) (sym same.0) (cut_first g b below behind o order roots))
  cut_by g b below behind o order h a roots at outside (inr more) again =
      elim (has_append (id_of h a) (call_order below) (call_order behind) more) [
        | inl under ↦ absurd (not_called below (name_of g) b.numbers (calls_of b) roots.1 h a at outside under)
        | inr later ↦ cut_later g b below behind o order h a roots (again later)
      ]

  -- a root whose request is among these is one of their roots
  cut_at : (t : Trees) (order : List RequestId) → AreRoots t world order → (h : History) (a : Act) → IsAt world h a → a.origin ≡ Outside → Has (id_of h a) (call_order t)
      → Cut world t h a
  cut_at none order roots h a at outside there = absurd there
  cut_at (tree g b below behind) [] roots h a at outside there = absurd roots
  cut_at (tree g b below behind) (o ∷ order) roots h a at outside there =
      let is = if_true (survives b) (id_of g b ∷ (call_order below ++ call_order behind)) (call_order behind) roots.0.alive in
      cut_by g b below behind o order h a roots at outside (subst (Has (id_of h a)) is there) (λ later. cut_at behind order roots.2 h a at outside later)

-- ---- what an order still comes to behind what a search took

-- each log of a search, and what an order comes to there
abbrev pub Each : List Log → (Log → Type 0) → Type 0
Each logs P = (l : Log) → Has l logs → P l

abbrev pub numbers : Log → Trees → List ℕ
numbers l t = numbers_at (name_of l.history) (call_order t)

numbers_trees : (l : Log) (t u : Trees) → numbers l (and_trees t u) ≡ numbers l t ++ numbers l u
numbers_trees l t u = ap (numbers_at (name_of l.history)) (call_append t u) ∙ numbers_append (name_of l.history) (call_order t) (call_order u)

-- ---- one log

-- the numbers of a root with what it calls, and of roots behind it
first_numbers : (l : Log) (h : History) (a : Act) (below later : Trees) → numbers l (tree h a below later) ≡ numbers l (tree h a below none) ++ numbers l later
first_numbers l h a below later = numbers_trees l (tree h a below none) later

-- a root that can come first is taken out at one log
without_one : (l : Log) (h : History) (a : Act) (below later under before after : Trees) (rest : List ℕ) → under ≡ below
    → numbers l (and_trees before (tree h a under after)) ≡ numbers l (tree h a below later) ++ rest → AreApart (numbers l (tree h a below later) ++ rest)
    → numbers l (and_trees before after) ≡ numbers l later ++ rest
without_one l h a below later under before after rest same e apart =
    let Y : List ℕ = numbers l (tree h a below none) in
    let right : numbers l (tree h a below later) ++ rest ≡ Y ++ (numbers l later ++ rest) =
    ap (λ ns. ns ++ rest) (first_numbers l h a below later) ∙ append_assoc Y (numbers l later) rest in
    let left : numbers l (and_trees before (tree h a under after)) ≡ numbers l before ++ (Y ++ numbers l after) =
    numbers_trees l before (tree h a under after) ∙ ap (λ ns. numbers l before ++ ns) (ap (λ u. numbers l (tree h a u after)) same ∙ first_numbers l h a below after) in
    numbers_trees l before after
    ∙ put_first (numbers l before) Y (numbers l after) (numbers l later ++ rest) (sym left ∙ e ∙ right) (subst AreApart right apart)

apart_later : (l : Log) (h : History) (a : Act) (below later : Trees) (rest : List ℕ) → AreApart (numbers l (tree h a below later) ++ rest) → AreApart (numbers l later ++ rest)
apart_later l h a below later rest apart =
    let Y : List ℕ = numbers l (tree h a below none) in
    apart_behind Y (numbers l later ++ rest)
    (subst AreApart (ap (λ ns. ns ++ rest) (first_numbers l h a below later) ∙ append_assoc Y (numbers l later) rest) apart)

pub has_history : (l : Log) (logs : List Log) → Has l logs → Has l.history (map history_of_log logs)
has_history l [] there = absurd there
has_history l (m ∷ logs) (inl e) = inl (ap history_of_log e)
has_history l (m ∷ logs) (inr there) = inr (has_history l logs there)

-- ---- all logs

-- roots that come to exactly this at each log
record Ahead (world : List History) (logs : List Log) (rest : Log → List ℕ) : Type 0 where
  trees : Trees
  order : List RequestId
  roots : AreRoots trees world order
  each : Each logs (λ l. numbers l trees ≡ rest l)

log_with : (h : History) (logs : List Log) → Has h (map history_of_log logs) → (l : Log) × Has l logs × (l.history ≡ h)
log_with h [] there = absurd there
log_with h (l ∷ logs) (inl e) = (l, inl refl, sym e)
log_with h (l ∷ logs) (inr there) = (let more = log_with h logs there in (more.0, inr more.1, more.2))

module _ (world : List History) (named : AreNamed world) (logs : List Log) (histories : map history_of_log logs ≡ world) where
  own_log : (h : History) → Has h world → (l : Log) × Has l logs × (l.history ≡ h)
  own_log h there = log_with h logs (subst (Has h) (sym histories) there)

  -- a root that can come first is taken out of an order
  without_first : (h : History) (a : Act) (below later : Trees) (i : RequestId) (rest : Log → List ℕ) → IsRoot world i h a
      → AreCalled below world (name_of h) a.numbers (calls_of a) → Each logs (λ l. AreApart (numbers l (tree h a below later) ++ rest l))
      → Ahead world logs (λ l. numbers l (tree h a below later) ++ rest l) → Ahead world logs (λ l. numbers l later ++ rest l)
  without_first h a below later i rest root called apart ahead =
      let at = root_at world i h a root in
      let own = own_log h at.there in
      let mine : IsRoot world (id_of h a) h a = own_root world i h a root in
      let one : Trees = tree h a below none in
      let first = root_first world one (id_of h a) (mine, called, tt) (name_of h) refl in
      let begins : numbers_at (name_of h) (call_order ahead.trees) ≡ (a.id ∷ (first.0 ++ numbers_at (name_of h) (call_order later))) ++ rest own.0 =
      subst (λ (k : History). numbers_at (name_of k) (call_order ahead.trees) ≡ (numbers_at (name_of k) (call_order (tree h a below later))) ++ rest own.0) own.2 (ahead.each own.0 own.1)
      ∙ ap (λ ns. ns ++ rest own.0)
      (ap (numbers_at (name_of h)) (call_append one later) ∙ numbers_append (name_of h) (call_order one) (call_order later)
      ∙ ap (λ ns. ns ++ numbers_at (name_of h) (call_order later)) first.1) in
      let among : Has (id_of h a) (call_order ahead.trees) = numbers_has (name_of h) a.id (call_order ahead.trees) (subst (Has a.id) (sym begins) (inl refl)) in
      let c = cut_at world named ahead.trees ahead.order ahead.roots h a at root.outside among in
      record {
        trees = and_trees c.before c.after;
        order = c.front_order ++ c.back_order;
        roots = roots_append c.before c.after world c.front_order c.back_order c.front_roots c.back_roots;
        each = λ l there. without_one l h a below later c.below c.before c.after (rest l)
            (called_alike c.below below world (name_of h) a.numbers (calls_of a) c.called called)
            (ap (numbers l) (sym c.is) ∙ ahead.each l there) (apart l there);
      }

  -- roots that can come first, one after the other
  without_all : (t : Trees) (order : List RequestId) (rest : Log → List ℕ) → AreRoots t world order → Each logs (λ l. AreApart (numbers l t ++ rest l))
      → Ahead world logs (λ l. numbers l t ++ rest l) → Ahead world logs rest
  without_all none order rest roots apart ahead = ahead
  without_all (tree h a below later) [] rest roots apart ahead = absurd roots
  without_all (tree h a below later) (i ∷ order) rest roots apart ahead =
      let next = without_first h a below later i rest roots.0 roots.1 apart ahead in
      without_all later order rest roots.2 (λ l there. apart_later l h a below later (rest l) (apart l there)) next

-- ---- a search that can't go on

some_not_none : (o : Taken) (found : RequestId × List Log) → o ≡ Some found → o ≡ None → ⊥
some_not_none None found e f = absurd cc
some_not_none (Some other) found e f = absurd cc

later_none : (o p : Taken) → or_later o p ≡ None → (o ≡ None) × (p ≡ None)
later_none None p e = (refl, e)
later_none (Some found) p e = absurd cc

none_tried : (world : List History) (logs part : List Log) → next_root world logs part ≡ None → (l : Log) → Has l part → tried world logs l.history (front l.left) ≡ None
none_tried world logs [] e l there = absurd there
none_tried world logs (m ∷ part) e l (inl same) =
    subst (λ (x : Log). tried world logs x.history (front x.left) ≡ None) (sym same) (later_none (tried world logs m.history (front m.left)) (next_root world logs part) e).0
none_tried world logs (m ∷ part) e l (inr there) =
    none_tried world logs part (later_none (tried world logs m.history (front m.left)) (next_root world logs part) e).1 l there

module _ (world : List History) (legal : IsLegalTogether world) (logs : List Log) (histories : map history_of_log logs ≡ world) where
  -- a root with which each log goes on is found
  pub goes_on : (h : History) (a : Act) (below : Trees) (i : RequestId) → IsRoot world i h a → AreCalled below world (name_of h) a.numbers (calls_of a)
      → Each logs (λ l. (rest : List ℕ) × (survivors l.left ≡ numbers l (tree h a below none) ++ rest)) → next_root world logs logs ≡ None → ⊥
  goes_on h a below i root called each stuck =
      let at = root_at world i h a root in
      let own = log_with h logs (subst (Has h) (sym histories) at.there) in
      let mine : IsRoot world (id_of h a) h a = own_root world i h a root in
      let one : Trees = tree h a below none in
      let roots : AreRoots one world (id_of h a ∷ []) = (mine, called, tt) in
      let goes : (l : Log) → Has l logs → GoesOn world (id_of h a) l = λ l there.
      (let e = each l there in
      let g = root_passes world legal (name_of l.history) (id_of h a) one l.left e.0 roots e.1 in (g.later, g.is)) in
      let all = all_go_on world (id_of h a) logs (each_all (GoesOn world (id_of h a)) logs goes) in
      let first = root_first world one (id_of h a) roots (name_of own.0.history) (ap name_of own.2) in
      let behind = each own.0 own.1 in
      let begins : survivors own.0.left ≡ a.id ∷ (first.0 ++ behind.0) = behind.1 ∙ ap (λ ns. ns ++ behind.0) first.1 in
      let number : front own.0.left ≡ Some a.id = front_first own.0.left a.id (first.0 ++ behind.0) begins in
      let found : tried world logs h (Some a.id) ≡ Some (id_of h a, all.0) = ap (taken (id_of h a)) all.1 in
      let lost : tried world logs own.0.history (front own.0.left) ≡ None = none_tried world logs logs stuck own.0 own.1 in
      let none_there : tried world logs h (Some a.id) ≡ None =
      subst (λ (k : History). tried world logs k (Some a.id) ≡ None) own.2 (subst (λ o. tried world logs own.0.history o ≡ None) number lost) in
      some_not_none (tried world logs h (Some a.id)) (id_of h a, all.0) found none_there

  nothing_ahead : (t : Trees) (order : List RequestId) → AreRoots t world order → Each logs (λ l. numbers l t ≡ survivors l.left) → next_root world logs logs ≡ None
      → Each logs IsPassed
  nothing_ahead none order roots each stuck = λ l there. sym (each l there)
  nothing_ahead (tree h a below later) [] roots each stuck = absurd roots
  nothing_ahead (tree h a below later) (i ∷ order) roots each stuck =
      absurd (goes_on h a below i roots.0 roots.1 (λ l there. (numbers l later, sym (each l there) ∙ numbers_trees l (tree h a below none) later)) stuck)

-- where an order passes, a search ends when nothing is left
pub stuck_passed : (world : List History) → IsLegalTogether world → AreNamed world → (order : List RequestId) (logs : List Log) → Reached world order logs
    → next_root world logs logs ≡ None → (other : List RequestId) → Passes world other → AllByRecursion IsPassed logs
stuck_passed world legal named order logs reached stuck other passes =
    let in_world : (l : Log) → Has l logs → Has l.history world = λ l there. subst (Has l.history) reached.histories (has_history l logs there) in
    let behind : (l : Log) → Has l logs → Behind reached.trees l = λ l there. each_has (Behind reached.trees) l logs reached.each there in
    let apart : Each logs (λ l. AreApart (numbers l reached.trees ++ survivors l.left)) = λ l there.
    subst AreApart (behind l there) (survivors_apart l.history.acts (each_has (λ (h : History). AreApart (map (λ (c : Act). c.id) h.acts)) l.history world named.ids (in_world l there))) in
    let whole : Ahead world logs (λ l. numbers l reached.trees ++ survivors l.left) = record {
      trees = passes.trees;
      order = other;
      roots = passes.roots;
      each = λ l there.
          each_has (λ (h : History). numbers_at (name_of h) (call_order passes.trees) ≡ survivors h.acts) l.history world passes.logged (in_world l there) ∙ behind l there;
    } in
    let rest = without_all world named logs reached.histories reached.trees order (λ l. survivors l.left) reached.roots apart whole in
    each_all IsPassed logs (nothing_ahead world legal logs reached.histories rest.trees rest.order rest.roots rest.each stuck)
