-- A search of an order: what it took so far passes what is no longer left of the logs, and each step leaves less.
use Rattle.std.proofs.Common.{◌≡◌, ◌≤◌, ◌<◌, ◌+◌, ℕ, suc, Bool, true, false, not, cond, List, [], ◌∷◌, ◌++◌, length, map, Option, Some, None, inl, inr, refl, sym, ap, ◌∙◌, subst, append_assoc, append-nil, nat_eq, eqb-true, true≢false, arith}
use Rattle.std.proofs.lemmas.List.{length-append}
use Rattle.std.specs.List.{AllByRecursion}
use Rattle.std.specs.Option.{is_some}
use Rattle.std.proofs.lemmas.Bool.{and_from, and_parts, cases_Bool}
use Rattle.lang_base.specs.Texts.{same_text}
use Rattle.lang_core.specs.declared.ids.RequestId.{RequestId}
use Rattle.handler_chains.proofs.Finding.{text_is}
use Rattle.execution.specs.Executions.{Act, History, survives}
use Rattle.execution.specs.Together.{IsLegalTogether, history_in, name_of}
use Rattle.one_world.specs.Certificates.{Passes, numbers_at, survivors}
use Rattle.one_world.specs.Checks.{Left, behind_id}
use Rattle.one_world.specs.Searches.{Log, Logs, Taken, and_left, all_passed, and_logs, behind_each, front, logs_of, named, next_root, or_later, taken, tried}
use Rattle.one_world.specs.Trees.{AreRoots, Trees, call_order, id_of, none, tree}
use Rattle.one_world.proofs.Alike.{roots_alike}
use Rattle.one_world.proofs.Lists.{Has, has_found, if_false, if_true, numbers_append, numbers_here, same_self}
use Rattle.one_world.proofs.Passing.{alive_first, dead_first, root_passed}

-- ---- trees with more behind them

abbrev pub and_trees : Trees → Trees → Trees
and_trees none later = later
and_trees (tree h a below behind) later = tree h a below (and_trees behind later)

pub roots_append : (t u : Trees) (world : List History) (xs ys : List RequestId) → AreRoots t world xs → AreRoots u world ys → AreRoots (and_trees t u) world (xs ++ ys)
roots_append none u world [] ys p q = q
roots_append none u world (x ∷ xs) ys p q = absurd p
roots_append (tree h a below behind) u world [] ys p q = absurd p
roots_append (tree h a below behind) u world (x ∷ xs) ys p q = (p.0, p.1, roots_append behind u world xs ys p.2 q)

order_by : (b : Bool) (i : RequestId) (xs ys zs : List RequestId) → cond b (i ∷ (xs ++ (ys ++ zs))) (ys ++ zs) ≡ cond b (i ∷ (xs ++ ys)) ys ++ zs
order_by true i xs ys zs = ap (λ ids. i ∷ ids) (sym (append_assoc xs ys zs))
order_by false i xs ys zs = refl

pub call_append : (t u : Trees) → call_order (and_trees t u) ≡ call_order t ++ call_order u
call_append none u = refl
call_append (tree h a below behind) u =
    ap (λ ids. cond (survives a) (id_of h a ∷ (call_order below ++ ids)) ids) (call_append behind u)
    ∙ order_by (survives a) (id_of h a) (call_order below) (call_order behind) (call_order u)

-- ---- what is left of all logs behind a root

pub record Passed (world : List History) (i : RequestId) (l m : Log) : Type 0 where
  pub history : m.history ≡ l.history
  pub left : behind_id (length world) world (name_of l.history) i.number (history_in i.service world) l.left ≡ Some m.left

abbrev pub ArePassed : List History → RequestId → List Log → List Log → Type 0
ArePassed world i [] [] = Unit {0}
ArePassed world i (l ∷ logs) (m ∷ later) = Passed world i l m × ArePassed world i logs later
ArePassed world i logs later = ⊥

record AndLeft (h : History) (o : Left) (rest : Logs) (later : List Log) : Type 0 where
  log : Log
  others : List Log
  history : log.history ≡ h
  first : o ≡ Some log.left
  then : rest ≡ Some others
  is : later ≡ log ∷ others

and_left_is : (h : History) (o : Left) (rest : Logs) (later : List Log) → and_left h o rest ≡ Some later → AndLeft h o rest later
and_left_is h None rest later e = absurd cc
and_left_is h (Some left) None later e = absurd cc
and_left_is h (Some left) (Some others) later e =
    record { log = record { history = h; left = left }; others = others; history = refl; first = refl; then = refl; is = cc }

pub each_passed : (world : List History) (i : RequestId) (logs later : List Log) → behind_each world i logs ≡ Some later → ArePassed world i logs later
each_passed world i [] [] e = tt
each_passed world i [] (m ∷ later) e = absurd cc
each_passed world i (l ∷ logs) later e =
    let s = and_left_is l.history (behind_id (length world) world (name_of l.history) i.number (history_in i.service world) l.left) (behind_each world i logs) later e in
    let first : Passed world i l s.log = record { history = s.history; left = s.first } in
    subst (ArePassed world i (l ∷ logs)) (sym s.is) (first, each_passed world i logs s.others s.then)

-- a log goes on behind a root
abbrev pub GoesOn : List History → RequestId → Log → Type 0
GoesOn world i l = (left : List Act) × (behind_id (length world) world (name_of l.history) i.number (history_in i.service world) l.left ≡ Some left)

pub all_go_on : (world : List History) (i : RequestId) (logs : List Log) → AllByRecursion (GoesOn world i) logs → (later : List Log) × (behind_each world i logs ≡ Some later)
all_go_on world i [] all = ([], refl)
all_go_on world i (l ∷ logs) all =
    let rest = all_go_on world i logs all.1 in
    let first : Log = record { history = l.history; left = all.0.0 } in
    (first ∷ rest.0, ap (λ o. and_left l.history o (behind_each world i logs)) all.0.1 ∙ ap (and_logs first) rest.1)

-- ---- the next root

-- the root that was found next stands at the front of one of these logs, and comes next in all
pub record IsNext (world : List History) (logs part : List Log) (i : RequestId) (later : List Log) : Type 0 where
  pub log : Log
  pub there : Has log part
  pub service : name_of log.history ≡ i.service
  pub goes : behind_each world i logs ≡ Some later

abbrev first_of : Taken → RequestId → RequestId
first_of None i = i
first_of (Some found) i = found.0

abbrev logs_in : Taken → Logs
logs_in None = None
logs_in (Some found) = Some found.1

taken_is : (i j : RequestId) (o : Logs) (later : List Log) → taken i o ≡ Some (j, later) → (i ≡ j) × (o ≡ Some later)
taken_is i j None later e = absurd cc
taken_is i j (Some logs) later e = (ap (λ (found : Taken). first_of found i) e, ap logs_in e)

tried_is : (world : List History) (logs part : List Log) (l : Log) (o : Option ℕ) (i : RequestId) (later : List Log) → Has l part
    → tried world logs l.history o ≡ Some (i, later) → IsNext world logs part i later
tried_is world logs part l None i later there e = absurd cc
tried_is world logs part l (Some n) i later there e =
    let is = taken_is (named l.history n) i (behind_each world (named l.history n) logs) later e in
    record {
      log = l;
      there = there;
      service = ap (λ (j : RequestId). j.service) is.0;
      goes = subst (λ (j : RequestId). behind_each world j logs ≡ Some later) is.0 is.1;
    }

further : {world : List History} {logs part : List Log} {i : RequestId} {later : List Log} (l : Log) → IsNext world logs part i later → IsNext world logs (l ∷ part) i later
further l n = record { log = n.log; there = inr n.there; service = n.service; goes = n.goes }

next_by : (world : List History) (logs : List Log) (l : Log) (part : List Log) (i : RequestId) (later : List Log) (o : Taken) → tried world logs l.history (front l.left) ≡ o
    → or_later o (next_root world logs part) ≡ Some (i, later) → (next_root world logs part ≡ Some (i, later) → IsNext world logs part i later)
    → IsNext world logs (l ∷ part) i later
next_by world logs l part i later None f e again = further l (again e)
next_by world logs l part i later (Some found) f e again = tried_is world logs (l ∷ part) l (front l.left) i later (inl refl) (f ∙ e)

pub next_is : (world : List History) (logs part : List Log) (i : RequestId) (later : List Log) → next_root world logs part ≡ Some (i, later) → IsNext world logs part i later
next_is world logs [] i later e = absurd cc
next_is world logs (l ∷ part) i later e =
    next_by world logs l part i later (tried world logs l.history (front l.left)) refl e (λ there. next_is world logs part i later there)

-- ---- each step leaves less

-- how many requests that survive are left
abbrev pub how_many : List Log → ℕ
how_many [] = 0
how_many (l ∷ logs) = length (survivors l.left) + how_many logs

-- a root's own request comes first in its tree
pub root_first : (world : List History) (t : Trees) (i : RequestId) → AreRoots t world (i ∷ []) → (name : List ℕ) → name ≡ i.service
    → (ns : List ℕ) × (numbers_at name (call_order t) ≡ i.number ∷ ns)
root_first world none i roots name e = absurd roots
root_first world (tree h a below behind) i roots name e =
    let at = has_found (λ (g : History). same_text (name_of g) i.service) world h roots.0.served in
    let mine : name ≡ name_of h = e ∙ sym (text_is (name_of h) i.service at.1) in
    let number : a.id ≡ i.number = eqb-true a.id i.number (has_found (λ (b : Act). nat_eq b.id i.number) h.acts a roots.0.logged).1 in
    let more : List RequestId = call_order below ++ call_order behind in
    let first : call_order (tree h a below behind) ≡ id_of h a ∷ more = if_true (survives a) (id_of h a ∷ more) (call_order behind) roots.0.alive in
    let here : numbers_at name (id_of h a ∷ more) ≡ a.id ∷ numbers_at name more =
    numbers_here name (id_of h a) more (subst (λ n. same_text n name ≡ true) mine (same_self name)) in
    (numbers_at name more, ap (numbers_at name) first ∙ here ∙ ap (λ n. n ∷ numbers_at name more) number)

module _ (world : List History) (legal : IsLegalTogether world) (i : RequestId) where
  behind_less : (xs ys zs : List ℕ) → xs ≡ ys ++ zs → length zs ≤ length xs
  behind_less xs ys zs e = (let n = ap length e ∙ length-append ys zs in omega (arith, n))

  one_less : (l m : Log) → Passed world i l m → length (survivors m.left) ≤ length (survivors l.left)
  one_less l m p =
      let r = root_passed world legal (name_of l.history) i l.left m.left p.left in
      behind_less (survivors l.left) (numbers_at (name_of l.history) (call_order r.0)) (survivors m.left) r.2

  own_less : (l m : Log) → Passed world i l m → name_of l.history ≡ i.service → length (survivors m.left) < length (survivors l.left)
  own_less l m p mine =
      let r = root_passed world legal (name_of l.history) i l.left m.left p.left in
      let f = root_first world r.0 i r.1 (name_of l.history) mine in
      let n : length (survivors l.left) ≡ suc (length (f.0 ++ survivors m.left)) = ap length (r.2 ∙ ap (λ ns. ns ++ survivors m.left) f.1) in
      let k = length-append f.0 (survivors m.left) in
      omega (arith, n, k)

  all_less : (logs later : List Log) → ArePassed world i logs later → how_many later ≤ how_many logs
  all_less [] [] p = omega arith
  all_less [] (m ∷ later) p = absurd p
  all_less (l ∷ logs) [] p = absurd p
  all_less (l ∷ logs) (m ∷ later) p = (let here = one_less l m p.0 in let more = all_less logs later p.1 in omega (arith, here, more))

  some_less : (logs later : List Log) (l : Log) → ArePassed world i logs later → Has l logs → name_of l.history ≡ i.service → how_many later < how_many logs
  some_less [] later l p there mine = absurd there
  some_less (k ∷ logs) [] l p there mine = absurd p
  some_less (k ∷ logs) (m ∷ later) l p (inl same) mine =
      let own = own_less k m p.0 (subst (λ (x : Log). name_of x.history ≡ i.service) same mine) in
      let more = all_less logs later p.1 in
      omega (arith, own, more)
  some_less (k ∷ logs) (m ∷ later) l p (inr there) mine =
      let here = one_less k m p.0 in
      let more = some_less logs later l p.1 there mine in
      omega (arith, here, more)

pub next_less : (world : List History) → IsLegalTogether world → (logs : List Log) (i : RequestId) (later : List Log) → next_root world logs logs ≡ Some (i, later)
    → how_many later < how_many logs
next_less world legal logs i later e =
    let n = next_is world logs logs i later e in
    some_less world legal i logs later n.log (each_passed world i logs later n.goes) n.there n.service

-- ---- how far a search came

-- what survives of a log is what these trees come to, and then what is left
abbrev pub Behind : Trees → Log → Type 0
Behind t l = survivors l.history.acts ≡ numbers_at (name_of l.history) (call_order t) ++ survivors l.left

abbrev pub history_of_log : Log → History
history_of_log l = l.history

-- the logs of the world behind the roots of an order
pub record Reached (world : List History) (order : List RequestId) (logs : List Log) : Type 0 where
  pub trees : Trees
  pub roots : AreRoots trees world order
  pub histories : map history_of_log logs ≡ world
  pub each : AllByRecursion (Behind trees) logs

first_histories : (world : List History) → map history_of_log (logs_of world) ≡ world
first_histories [] = refl
first_histories (h ∷ world) = ap (λ hs. h ∷ hs) (first_histories world)

first_behind : (world : List History) → AllByRecursion (Behind none) (logs_of world)
first_behind [] = tt
first_behind (h ∷ world) = (refl, first_behind world)

pub reached_first : (world : List History) → Reached world [] (logs_of world)
reached_first world = record { trees = none; roots = tt; histories = first_histories world; each = first_behind world }

same_histories : (world : List History) (i : RequestId) (logs later : List Log) → ArePassed world i logs later → map history_of_log later ≡ map history_of_log logs
same_histories world i [] [] p = refl
same_histories world i [] (m ∷ later) p = absurd p
same_histories world i (l ∷ logs) [] p = absurd p
same_histories world i (l ∷ logs) (m ∷ later) p =
    ap (λ h. h ∷ map history_of_log later) p.0.history ∙ ap (λ hs. l.history ∷ hs) (same_histories world i logs later p.1)

passed_at : (world : List History) (i : RequestId) (logs later : List Log) (l : Log) → ArePassed world i logs later → Has l logs → GoesOn world i l
passed_at world i [] later l p there = absurd there
passed_at world i (k ∷ logs) [] l p there = absurd p
passed_at world i (k ∷ logs) (m ∷ later) l p (inl same) = subst (GoesOn world i) (sym same) (m.left, p.0.left)
passed_at world i (k ∷ logs) (m ∷ later) l p (inr there) = passed_at world i logs later l p.1 there

module _ (world : List History) (legal : IsLegalTogether world) (i : RequestId) (trees t : Trees) (root : AreRoots t world (i ∷ [])) where
  behind_one : (l m : Log) → Passed world i l m → Behind trees l → Behind (and_trees trees t) m
  behind_one l m p here =
      let name : List ℕ = name_of l.history in
      let r = root_passed world legal name i l.left m.left p.left in
      let cut : survivors l.left ≡ numbers_at name (call_order t) ++ survivors m.left =
      subst (λ u. survivors l.left ≡ numbers_at name (call_order u) ++ survivors m.left) (roots_alike r.0 t world (i ∷ []) r.1 root) r.2 in
      let both : numbers_at name (call_order trees) ++ numbers_at name (call_order t) ≡ numbers_at name (call_order (and_trees trees t)) =
      sym (numbers_append name (call_order trees) (call_order t)) ∙ ap (numbers_at name) (sym (call_append trees t)) in
      subst (λ (h : History). survivors h.acts ≡ numbers_at (name_of h) (call_order (and_trees trees t)) ++ survivors m.left) (sym p.history)
      (here
      ∙ ap (λ ns. numbers_at name (call_order trees) ++ ns) cut
      ∙ sym (append_assoc (numbers_at name (call_order trees)) (numbers_at name (call_order t)) (survivors m.left))
      ∙ ap (λ ns. ns ++ survivors m.left) both)

  all_behind : (logs later : List Log) → ArePassed world i logs later → AllByRecursion (Behind trees) logs → AllByRecursion (Behind (and_trees trees t)) later
  all_behind [] [] p all = tt
  all_behind [] (m ∷ later) p all = absurd p
  all_behind (l ∷ logs) [] p all = absurd p
  all_behind (l ∷ logs) (m ∷ later) p all = (behind_one l m p.0 all.0, all_behind logs later p.1 all.1)

pub reached_next : (world : List History) → IsLegalTogether world → (order : List RequestId) (logs : List Log) (i : RequestId) (later : List Log) → Reached world order logs
    → next_root world logs logs ≡ Some (i, later) → Reached world (order ++ i ∷ []) later
reached_next world legal order logs i later reached e =
    let n = next_is world logs logs i later e in
    let passed = each_passed world i logs later n.goes in
    let own = passed_at world i logs later n.log passed n.there in
    let r = root_passed world legal (name_of n.log.history) i n.log.left own.0 own.1 in
    record {
      trees = and_trees reached.trees r.0;
      roots = roots_append reached.trees r.0 world order (i ∷ []) reached.roots r.1;
      histories = same_histories world i logs later passed ∙ reached.histories;
      each = all_behind world legal i reached.trees r.0 r.1 logs later passed reached.each;
    }

-- ---- where nothing is left

abbrev pub IsPassed : Log → Type 0
IsPassed l = survivors l.left ≡ []

all_logged : (t : Trees) (logs : List Log) → AllByRecursion (Behind t) logs → AllByRecursion IsPassed logs
    → AllByRecursion (λ (h : History). numbers_at (name_of h) (call_order t) ≡ survivors h.acts) (map history_of_log logs)
all_logged t [] each passed = tt
all_logged t (l ∷ logs) each passed =
    let numbers : List ℕ = numbers_at (name_of l.history) (call_order t) in
    (sym (each.0 ∙ ap (λ ns. numbers ++ ns) passed.0 ∙ append-nil numbers), all_logged t logs each.1 passed.1)

-- an order that comes to all of the logs is a certificate
pub reached_passes : (world : List History) (order : List RequestId) (logs : List Log) → Reached world order logs → AllByRecursion IsPassed logs → Passes world order
reached_passes world order logs reached passed = record {
  trees = reached.trees;
  roots = reached.roots;
  logged = subst (AllByRecursion (λ (h : History). numbers_at (name_of h) (call_order reached.trees) ≡ survivors h.acts)) reached.histories
      (all_logged reached.trees logs reached.each passed);
}

front_none : (left : List Act) → not (is_some (front left)) ≡ true → survivors left ≡ []
front_none [] e = refl
front_none (a ∷ left) e = elim (cases_Bool (survives a)) [
  | inl alive ↦ (let some : front (a ∷ left) ≡ Some a.id = if_true (survives a) (Some a.id) (front left) alive in
      absurd (true≢false (sym e ∙ ap (λ o. not (is_some o)) some)))
  | inr dead ↦ (let more : front (a ∷ left) ≡ front left = if_false (survives a) (Some a.id) (front left) dead in
      dead_first a left dead ∙ front_none left (sym (ap (λ o. not (is_some o)) more) ∙ e))
]

none_front : (left : List Act) → survivors left ≡ [] → not (is_some (front left)) ≡ true
none_front [] e = refl
none_front (a ∷ left) e = elim (cases_Bool (survives a)) [
  | inl alive ↦ (let all : a.id ∷ survivors left ≡ [] = sym (alive_first a left alive) ∙ e in absurd cc)
  | inr dead ↦ ap (λ o. not (is_some o)) (if_false (survives a) (Some a.id) (front left) dead) ∙ none_front left (sym (dead_first a left dead) ∙ e)
]

pub passed_all : (logs : List Log) → all_passed logs ≡ true → AllByRecursion IsPassed logs
passed_all [] e = tt
passed_all (l ∷ logs) e =
    let parts = and_parts (not (is_some (front l.left))) (all_passed logs) e in
    (front_none l.left parts.0, passed_all logs parts.1)

pub all_passed_so : (logs : List Log) → AllByRecursion IsPassed logs → all_passed logs ≡ true
all_passed_so [] all = refl
all_passed_so (l ∷ logs) all = and_from (not (is_some (front l.left))) (all_passed logs) (none_front l.left all.0) (all_passed_so logs all.1)
