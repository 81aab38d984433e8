-- Where a search stands still, two neighbours that are found show a cycle, and a walk from root to root comes round.
use Rattle.std.proofs.Common.{◌≡◌, ◌<◌, ℕ, Bool, true, false, not, ◌||◌, cond, List, [], ◌∷◌, ◌++◌, map, reverse, Option, Some, None, ◌⊎◌, inl, inr, refl, sym, ap, ◌∙◌, subst, append_assoc, true≢false}
use Rattle.std.specs.List.{AllByRecursion}
use Rattle.std.specs.Option.{option_map}
use Rattle.std.proofs.lemmas.Bool.{and_parts, cases_Bool}
use Rattle.std.proofs.lemmas.List.{reverse-append}
use Rattle.lang_core.specs.declared.ids.RequestId.{RequestId}
use Rattle.execution.specs.Executions.{History}
use Rattle.execution.specs.Together.{IsLegalTogether, history_in, name_of}
use Rattle.dump_tables.specs.Kept.{AreKept}
use Rattle.dump_tables.specs.declared.dump.DumpService.{DumpService}
use Rattle.dump_audit.specs.Histories.{histories_of}
use Rattle.order_finder.specs.declared.candidate.At.{At}
use Rattle.one_world.specs.Certificates.{AreNamed, numbers_at, survivors}
use Rattle.one_world.specs.Searches.{Log, logs_of, named}
use Rattle.one_world.specs.Trees.{call_order}
use Rattle.one_world.proofs.Lists.{Has, has_behind, if_false, if_true}
use Rattle.one_world.proofs.Searching.{IsPassed, Reached, all_passed_so, reached_first, reached_next}
use Rattle.one_order.specs.Certificates.{AreTaken, IsStuck}
use Rattle.one_order.specs.Cycles.{AreNeighbours, ComesTo, IsBefore, IsLink, IsWay, LeadTo, Place, ShowsCycle, id_at, is_earlier}
use Rattle.one_order.specs.Pairs.{GoesBack, IsRootIn, IsRootOf, IsWalk, Pair, Rooted, and_roots, is_turned, leads_to, or_pair, pair_behind, pair_in, pair_of, up_to}
use Rattle.one_order.specs.Roots.{all_rooted, both_rooted, first_left, first_of, or_place, places_left, rooted, rooted_at, rooted_left, rooted_of}
use Rattle.one_order.specs.Shown.{name_at, place_of, same_ids}
use Rattle.one_order.specs.declared.pairs.Neighbours.{Neighbours}
use Rattle.one_order.specs.declared.roots.Rooted.{Rooted as RootedEntry}
use Rattle.one_order.proofs.Blocked.{AreAllRooted, AreRooted, Meets, blocked}
use Rattle.one_order.proofs.Climbs.{AreNumbered, comes_down, down}
use Rattle.one_order.proofs.CycleLaws.{same_ids_apart, same_ids_is}
use Rattle.one_order.proofs.Left.{IsOpen, behind, history_found, in_world, left_survivor, still_open}
use Rattle.one_order.proofs.Marks.{Mark, down_twice}
use Rattle.one_order.proofs.Named.{kept_named, kept_numbered}
use Rattle.one_order.proofs.RootLaws.{left_rooted}
use Rattle.one_order.proofs.Seen.{among, less, unseen}

-- ---- the pair that is found

-- two neighbours of these entries of which a test holds
pub record Meet (test : Rooted → Rooted → Bool) (entries : List Rooted) (first second : Rooted) : Type 0 where
  pub before : List Rooted
  pub after : List Rooted
  pub is : entries ≡ before ++ first ∷ second ∷ after
  pub holds : test first second ≡ true

abbrev pair_first : Pair → Rooted → Rooted
pair_first None u = u
pair_first (Some p) u = p.0

abbrev pair_second : Pair → Rooted → Rooted
pair_second None u = u
pair_second (Some p) u = p.1

meet_later : (test : Rooted → Rooted → Bool) (e : Rooted) (entries : List Rooted) (u v : Rooted) → Meet test entries u v → Meet test (e ∷ entries) u v
meet_later test e entries u v m = record { before = e ∷ m.before; after = m.after; is = ap (λ es. e ∷ es) m.is; holds = m.holds }

found_behind : (test : Rooted → Rooted → Bool) (e : Rooted) (later : List Rooted) (u v : Rooted) → pair_behind test e later ≡ Some (u, v) → Meet test (e ∷ later) u v
found_behind test e [] u v f = absurd cc
found_behind test e (w ∷ later) u v f = elim (cases_Bool (test e w)) [
  | inl holds ↦ (let here : Some (e, w) ≡ Some (u, v) = sym (if_true (test e w) (Some (e, w)) (pair_behind test w later) holds) ∙ f in
      let first : e ≡ u = ap (λ (p : Pair). pair_first p e) here in
      let second : w ≡ v = ap (λ (p : Pair). pair_second p w) here in
      subst (λ (x : Rooted). Meet test (e ∷ w ∷ later) x v) first (subst (λ (x : Rooted). Meet test (e ∷ w ∷ later) e x) second
      (record { before = []; after = later; is = refl; holds = holds })))
  | inr other ↦ meet_later test e (w ∷ later) u v (found_behind test w later u v (sym (if_false (test e w) (Some (e, w)) (pair_behind test w later) other) ∙ f))
]

found_in : (test : Rooted → Rooted → Bool) (entries : List Rooted) (u v : Rooted) → pair_in test entries ≡ Some (u, v) → Meet test entries u v
found_in test [] u v f = absurd cc
found_in test (e ∷ entries) u v f = found_behind test e entries u v f

found_by : (test : Rooted → Rooted → Bool) (log : List Rooted) (logs : List (List Rooted)) (u v : Rooted) (o : Pair) → pair_in test log ≡ o → or_pair o (pair_of test logs) ≡ Some (u, v)
    → (pair_of test logs ≡ Some (u, v) → (es : List Rooted) × Has es logs × Meet test es u v) → (es : List Rooted) × Has es (log ∷ logs) × Meet test es u v
found_by test log logs u v None e f again = (let more = again f in (more.0, inr more.1, more.2))
found_by test log logs u v (Some p) e f again = (log, inl refl, found_in test log u v (e ∙ f))

pub found_of : (test : Rooted → Rooted → Bool) (logs : List (List Rooted)) (u v : Rooted) → pair_of test logs ≡ Some (u, v) → (es : List Rooted) × Has es logs × Meet test es u v
found_of test [] u v f = absurd cc
found_of test (log ∷ logs) u v f = found_by test log logs u v (pair_in test log) refl f (λ g. found_of test logs u v g)

-- ---- none that passes is missed

missed_behind : (test : Rooted → Rooted → Bool) (e : Rooted) (later before : List Rooted) (u v : Rooted) (after : List Rooted) → e ∷ later ≡ before ++ u ∷ v ∷ after → test u v ≡ true
    → pair_behind test e later ≡ None → ⊥
missed_behind test e [] [] u v after is holds f = absurd cc
missed_behind test e [] (b ∷ []) u v after is holds f = absurd cc
missed_behind test e [] (b ∷ c ∷ before) u v after is holds f = absurd cc
missed_behind test e (w ∷ later) [] u v after is holds f =
    let first : u ≡ e = cc in
    let second : v ≡ w = cc in
    let here : test e w ≡ true = ap (λ (x : Rooted). test x w) (sym first) ∙ ap (test u) (sym second) ∙ holds in
    let some : Some (e, w) ≡ None = sym (if_true (test e w) (Some (e, w)) (pair_behind test w later) here) ∙ f in
    absurd cc
missed_behind test e (w ∷ later) (b ∷ before) u v after is holds f =
    let rest : w ∷ later ≡ before ++ u ∷ v ∷ after = cc in
    elim (cases_Bool (test e w)) as (λ _. ⊥) [
      | inl here ↦ (let some : Some (e, w) ≡ None = sym (if_true (test e w) (Some (e, w)) (pair_behind test w later) here) ∙ f in absurd cc)
      | inr other ↦ missed_behind test w later before u v after rest holds (sym (if_false (test e w) (Some (e, w)) (pair_behind test w later) other) ∙ f)
    ]

missed_in : (test : Rooted → Rooted → Bool) (entries before : List Rooted) (u v : Rooted) (after : List Rooted) → entries ≡ before ++ u ∷ v ∷ after → test u v ≡ true
    → pair_in test entries ≡ None → ⊥
missed_in test [] [] u v after is holds f = absurd cc
missed_in test [] (b ∷ before) u v after is holds f = absurd cc
missed_in test (e ∷ entries) before u v after is holds f = missed_behind test e entries before u v after is holds f

or_none : (o p : Pair) → or_pair o p ≡ None → (o ≡ None) × (p ≡ None)
or_none None p e = (refl, e)
or_none (Some found) p e = absurd cc

none_in : (test : Rooted → Rooted → Bool) (logs : List (List Rooted)) → pair_of test logs ≡ None → (es : List Rooted) → Has es logs → pair_in test es ≡ None
none_in test [] f es there = absurd there
none_in test (log ∷ logs) f es (inl e) = ap (pair_in test) e ∙ (or_none (pair_in test log) (pair_of test logs) f).0
none_in test (log ∷ logs) f es (inr there) = none_in test logs (or_none (pair_in test log) (pair_of test logs) f).1 es there

not_so : (b : Bool) → not b ≡ true → b ≡ false
not_so true e = absurd (true≢false (sym e))
not_so false e = refl

-- ---- roots of what is left

root_in : (i : RequestId) (entries : List Rooted) → IsRootIn i entries → (e : Rooted) × Has e entries × (e.root ≡ i)
root_in i [] is = absurd is
root_in i (e ∷ entries) (inl here) = (e, inl refl, here)
root_in i (e ∷ entries) (inr later) = (let more = root_in i entries later in (more.0, inr more.1, more.2))

in_root : (e : Rooted) (entries : List Rooted) → Has e entries → IsRootIn e.root entries
in_root e [] there = absurd there
in_root e (x ∷ entries) (inl is) = inl (ap (λ (y : Rooted). y.root) (sym is))
in_root e (x ∷ entries) (inr there) = inr (in_root e entries there)

root_of : (i : RequestId) (logs : List (List Rooted)) → IsRootOf i logs → (es : List Rooted) × Has es logs × IsRootIn i es
root_of i [] is = absurd is
root_of i (log ∷ logs) (inl here) = (log, inl refl, here)
root_of i (log ∷ logs) (inr later) = (let more = root_of i logs later in (more.0, inr more.1, more.2))

of_root : (i : RequestId) (es : List Rooted) (logs : List (List Rooted)) → Has es logs → IsRootIn i es → IsRootOf i logs
of_root i es [] there is = absurd there
of_root i es (log ∷ logs) (inl e) is = inl (subst (IsRootIn i) e is)
of_root i es (log ∷ logs) (inr there) is = inr (of_root i es logs there is)

has_number : (e : Rooted) (entries : List Rooted) → Has e entries → Has e.id.number (map (λ (x : Rooted). x.id.number) entries)
has_number e [] there = absurd there
has_number e (x ∷ entries) (inl is) = inl (ap (λ (y : Rooted). y.id.number) is)
has_number e (x ∷ entries) (inr there) = inr (has_number e entries there)

rooted_has : (world : List History) (p : Place) (ps : List Place) → Has p ps → Has (rooted world p) (map (rooted world) ps)
rooted_has world p [] there = absurd there
rooted_has world p (q ∷ ps) (inl e) = inl (ap (rooted world) e)
rooted_has world p (q ∷ ps) (inr there) = inr (rooted_has world p ps there)

first_none : (ps : List Place) (o : Option Place) → or_place (first_of ps) o ≡ None → (ps ≡ []) × (o ≡ None)
first_none [] o e = (refl, e)
first_none (p ∷ ps) o e = absurd cc

first_some : (ps : List Place) (o : Option Place) (p : Place) → or_place (first_of ps) o ≡ Some p → Has p ps ⊎ (o ≡ Some p)
first_some [] o p e = inr e
first_some (q ∷ ps) o p e = (let same : p ≡ q = cc in inl (inl same))

-- all of them
abbrev roots_in : List Rooted → List RequestId → List RequestId
roots_in [] later = later
roots_in (e ∷ entries) later = e.root ∷ roots_in entries later

abbrev pub roots_of : List (List Rooted) → List RequestId
roots_of [] = []
roots_of (log ∷ logs) = roots_in log (roots_of logs)

has_roots_in : (i : RequestId) (entries : List Rooted) (later : List RequestId) → IsRootIn i entries ⊎ Has i later → Has i (roots_in entries later)
has_roots_in i [] later (inl is) = absurd is
has_roots_in i [] later (inr there) = there
has_roots_in i (e ∷ entries) later (inl (inl here)) = inl (sym here)
has_roots_in i (e ∷ entries) later (inl (inr more)) = inr (has_roots_in i entries later (inl more))
has_roots_in i (e ∷ entries) later (inr there) = inr (has_roots_in i entries later (inr there))

has_root : (i : RequestId) (logs : List (List Rooted)) → IsRootOf i logs → Has i (roots_of logs)
has_root i [] is = absurd is
has_root i (log ∷ logs) (inl here) = has_roots_in i log (roots_of logs) (inl here)
has_root i (log ∷ logs) (inr later) = has_roots_in i log (roots_of logs) (inr (has_root i logs later))

-- ---- where a search stands still

reached_behind : (world : List History) → IsLegalTogether world → (done : List RequestId) (logs : List Log) (order : List RequestId) (left : List Log) → Reached world done logs
    → AreTaken world logs order left → (all : List RequestId) × Reached world all left
reached_behind world legal done logs [] left reached taken = (done, subst (λ (ls : List Log). Reached world done ls) taken reached)
reached_behind world legal done logs (i ∷ order) left reached taken =
    reached_behind world legal (done ++ i ∷ []) taken.0 order left (reached_next world legal done logs i taken.0 reached taken.1) taken.2

module _ (world : List History) (legal : IsLegalTogether world) (named_so : AreNamed world) (numbered : AreNumbered world) (logs : List Log) (stuck : IsStuck world logs) where
  reached : (all : List RequestId) × Reached world all logs
  reached = reached_behind world legal [] (logs_of world) stuck.order logs (reached_first world) stuck.taken

  abbrev lists : List (List Rooted)
  lists = all_rooted world logs

  served : (l : Log) → Has l logs → history_in (name_of l.history) world ≡ Some l.history
  served l there = history_found l.history world named_so.names (in_world world legal named_so numbered reached.0 logs reached.1 l there)

  log_rooted : (l : Log) → Has l logs → AreRooted world l (rooted_left world l)
  log_rooted l there =
      left_rooted world legal named_so numbered l (served l there) (in_world world legal named_so numbered reached.0 logs reached.1 l there)
      (λ n left. left_survivor world legal named_so numbered reached.0 logs reached.1 l there n left)

  part_rooted : (part : List Log) → ((l : Log) → Has l part → Has l logs) → AreAllRooted world part (all_rooted world part)
  part_rooted [] within = tt
  part_rooted (l ∷ part) within = (log_rooted l (within l (inl refl)), part_rooted part (λ m there. within m (inr there)))

  whole : AreAllRooted world logs lists
  whole = part_rooted logs (λ l there. there)

  log_of_list : (part : List Log) (es : List Rooted) → Has es (all_rooted world part) → (l : Log) × Has l part × (es ≡ rooted_left world l)
  log_of_list [] es there = absurd there
  log_of_list (l ∷ part) es (inl e) = (l, inl refl, e)
  log_of_list (l ∷ part) es (inr there) = (let more = log_of_list part es there in (more.0, inr more.1, more.2))

  -- ---- two neighbours

  record Found (u v : Rooted) : Type 0 where
    neighbours : AreNeighbours world u.id v.id
    of_first : ComesTo world u.root u.slots u.id
    of_second : ComesTo world v.root v.slots v.id

  comes_to : (l : Log) → Has l logs → (entries : List Rooted) → AreRooted world l entries → (e : Rooted) → Has e entries → ComesTo world e.root e.slots e.id
  comes_to l there entries rooted e among =
      let m = rooted.marks e among in
      let comes = comes_down world e.root (down e.slots []) m.place m.up m.alive in
      subst (λ (j : RequestId). ComesTo world e.root e.slots j) m.is (subst (λ s. ComesTo world e.root s (id_at m.place)) (down_twice e.slots) comes)

  numbers_cut : (before after : List Rooted) (u v : Rooted) → map (λ (e : Rooted). e.id.number) (before ++ u ∷ v ∷ after)
      ≡ map (λ (e : Rooted). e.id.number) before ++ u.id.number ∷ v.id.number ∷ map (λ (e : Rooted). e.id.number) after
  numbers_cut [] after u v = refl
  numbers_cut (b ∷ before) after u v = ap (λ ns. b.id.number ∷ ns) (numbers_cut before after u v)

  found_so : (test : Rooted → Rooted → Bool) (l : Log) → Has l logs → (entries : List Rooted) → AreRooted world l entries → (u v : Rooted) → Meet test entries u v → Found u v
  found_so test l there entries rooted u v m =
      let u_there : Has u entries = subst (Has u) (sym m.is) (has_behind u m.before (u ∷ v ∷ m.after) (inl refl)) in
      let v_there : Has v entries = subst (Has v) (sym m.is) (has_behind v m.before (u ∷ v ∷ m.after) (inr (inl refl))) in
      let h : History = l.history in
      let front : List ℕ = numbers_at (name_of h) (call_order reached.1.trees) in
      let number : Rooted → ℕ = λ e. e.id.number in
      let left : survivors l.left ≡ map number m.before ++ u.id.number ∷ v.id.number ∷ map number m.after =
      sym rooted.numbers ∙ ap (map number) m.is ∙ numbers_cut m.before m.after u v in
      let all : survivors h.acts ≡ (front ++ map number m.before) ++ u.id.number ∷ v.id.number ∷ map number m.after =
      behind world legal named_so numbered reached.0 logs reached.1 l there ∙ ap (λ ns. front ++ ns) left
      ∙ sym (append_assoc front (map number m.before) (u.id.number ∷ v.id.number ∷ map number m.after)) in
      let home : u.id.service ≡ name_of h = ap (λ (j : RequestId). j.service) (rooted.ids u u_there) in
      let away : v.id.service ≡ name_of h = ap (λ (j : RequestId). j.service) (rooted.ids v v_there) in
      record {
        neighbours = record {
          history = h;
          served = ap (λ (s : List ℕ). history_in s world) home ∙ served l there;
          same = home ∙ sym away;
          before = front ++ map number m.before;
          after = map number m.after;
          is = all;
        };
        of_first = comes_to l there entries rooted u u_there;
        of_second = comes_to l there entries rooted v v_there;
      }

  found_at : (test : Rooted → Rooted → Bool) (u v : Rooted) → pair_of test lists ≡ Some (u, v) → Found u v × (test u v ≡ true) × IsRootOf u.root lists
  found_at test u v f =
      let found = found_of test lists u v f in
      let l = log_of_list logs found.0 found.1 in
      let m : Meet test found.0 u v = found.2 in
      let u_there : Has u found.0 = subst (Has u) (sym m.is) (has_behind u m.before (u ∷ v ∷ m.after) (inl refl)) in
      let rooted : AreRooted world l.0 found.0 = subst (AreRooted world l.0) (sym l.2) (log_rooted l.0 l.1) in
      (found_so test l.0 l.1 found.0 rooted u v m, m.holds, of_root u.root found.0 lists found.1 (in_root u found.0 u_there))

  -- two that are turned show a cycle
  pub turned_shows : (u v : Rooted) → pair_of is_turned lists ≡ Some (u, v) → ShowsCycle world u.id v.id []
  turned_shows u v f =
      let found = found_at is_turned u v f in
      let parts = and_parts (same_ids u.root v.root) (is_earlier v.slots u.slots) found.1 in
      let same : v.root ≡ u.root = sym (same_ids_is u.root v.root parts.0) in
      record {
        neighbours = found.0.neighbours;
        way = inl (record {
          root = u.root;
          first_slots = u.slots;
          second_slots = v.slots;
          of_first = found.0.of_first;
          of_second = subst (λ (r : RequestId). ComesTo world r v.slots v.id) same found.0.of_second;
          turned = parts.1;
          none = refl;
        });
      }

  -- one root is before another by two of which the second alone is of the other
  pub leads_links : (i : RequestId) (u v : Rooted) → pair_of (leads_to i) lists ≡ Some (u, v) → IsLink world u.root i u.id v.id × IsRootOf u.root lists
  leads_links i u v f =
      let found = found_at (leads_to i) u v f in
      let parts = and_parts (not (same_ids u.root i)) (same_ids v.root i) found.1 in
      let before : IsBefore world u.root i = record {
        first = u.id;
        second = v.id;
        neighbours = found.0.neighbours;
        first_slots = u.slots;
        second_slots = v.slots;
        of_root = found.0.of_first;
        of_other = subst (λ (r : RequestId). ComesTo world r v.slots v.id) (same_ids_is v.root i parts.1) found.0.of_second;
        apart = same_ids_apart u.root i (not_so (same_ids u.root i) parts.0);
      } in
      (record { before = before; first_is = refl; second_is = refl }, found.2)

  -- ---- a root has one before it

  open_root : (i : RequestId) → IsRootOf i lists → IsOpen world legal named_so numbered reached.0 logs reached.1 i
  open_root i is =
      let list = root_of i lists is in
      let l = log_of_list logs list.0 list.1 in
      let e = root_in i list.0 list.2 in
      let rooted : AreRooted world l.0 list.0 = subst (AreRooted world l.0) (sym l.2) (log_rooted l.0 l.1) in
      let left : Has e.0.id.number (survivors l.0.left) = subst (Has e.0.id.number) rooted.numbers (has_number e.0 list.0 e.1) in
      let mark : Mark world i (down e.0.slots []) (named l.0.history e.0.id.number) =
      subst (λ (j : RequestId). Mark world j (down e.0.slots []) (named l.0.history e.0.id.number)) e.2 (subst (Mark world e.0.root (down e.0.slots [])) (rooted.ids e.0 e.1) (rooted.marks e.0 e.1)) in
      still_open world legal named_so numbered reached.0 logs reached.1 l.0 l.1 e.0.id.number left i (down e.0.slots []) mark

  pub must_lead : (i : RequestId) → IsRootOf i lists → pair_of is_turned lists ≡ None → pair_of (leads_to i) lists ≡ None → ⊥
  must_lead i is none_turned none_leads =
      let b = blocked world legal named_so numbered reached.0 logs reached.1 stuck.none_next lists whole i (open_root i is) in
      let m : Meets i b.entries = b.meets in
      elim m.so as (λ _. ⊥) [
        | inl turned ↦ missed_in is_turned b.entries m.before m.first m.second m.after m.is turned (none_in is_turned lists none_turned b.entries b.there)
        | inr leads ↦ missed_in (leads_to i) b.entries m.before m.first m.second m.after m.is leads (none_in (leads_to i) lists none_leads b.entries b.there)
      ]

  -- ---- what is left first

  none_left : (part : List Log) → ((l : Log) → Has l part → Has l logs) → first_left world part ≡ None → AllByRecursion IsPassed part
  none_left [] within e = tt
  none_left (l ∷ part) within e =
      let none = first_none (places_left world l.history l.left) (first_left world part) e in
      let number : Rooted → ℕ = λ x. x.id.number in
      (sym (log_rooted l (within l (inl refl))).numbers ∙ ap (λ ps. map number (map (rooted world) ps)) none.0, none_left part (λ m there. within m (inr there)) none.1)

  -- something is
  pub some_left : first_left world logs ≡ None → ⊥
  some_left e = true≢false (sym (all_passed_so logs (none_left logs (λ l there. there) e)) ∙ stuck.some_left)

-- its root is that of an entry that is left
pub first_root : (world : List History) (part : List Log) (p : Place) → first_left world part ≡ Some p → IsRootOf (rooted world p).root (all_rooted world part)
first_root world [] p e = absurd cc
first_root world (l ∷ part) p e = elim (first_some (places_left world l.history l.left) (first_left world part) p e) [
  | inl there ↦ inl (in_root (rooted world p) (rooted_left world l) (rooted_has world p (places_left world l.history l.left) there))
  | inr later ↦ inr (first_root world part p later)
]

-- ---- a walk

and_none : (i : RequestId) (o : Option (List RequestId)) → and_roots i o ≡ None → o ≡ None
and_none i None e = refl
and_none i (Some roots) e = absurd cc

not_same : (root i : RequestId) → same_ids i root ≡ false → same_ids root i ≡ false
not_same root i other = elim (cases_Bool (same_ids root i)) [
  | inl is ↦ absurd (same_ids_apart i root other (sym (same_ids_is root i is)))
  | inr apart ↦ apart
]

not_among_by : (root i : RequestId) (roots : List RequestId) → same_ids root i ≡ false → among root roots ≡ false → among root (i ∷ roots) ≡ false
not_among_by root i roots other later = ap (λ b. b || among root roots) other ∙ later

not_among : (root : RequestId) (roots : List RequestId) → up_to root roots ≡ None → among root roots ≡ false
not_among root [] e = refl
not_among root (i ∷ roots) e = elim (cases_Bool (same_ids i root)) [
  | inl is ↦ (let none : Some (i ∷ []) ≡ None = sym (if_true (same_ids i root) (Some (i ∷ [])) (and_roots i (up_to root roots)) is) ∙ e in absurd cc)
  | inr other ↦ not_among_by root i roots (not_same root i other)
      (not_among root roots (and_none i (up_to root roots) (sym (if_false (same_ids i root) (Some (i ∷ [])) (and_roots i (up_to root roots)) other) ∙ e)))
]

pushed_first : (roots : List RequestId) (root : RequestId) → reverse (roots ++ root ∷ []) ≡ root ∷ reverse roots
pushed_first roots root = reverse-append roots (root ∷ [])

pub walk_begins : (world : List History) (start : RequestId) (roots : List RequestId) → roots ≡ start ∷ [] → IsWalk world roots start
walk_begins world start roots e = record { start = start; back = []; is = ap reverse e; leads = refl }

module _ (world : List History) (roots : List RequestId) (last : RequestId) (logs : List (List Rooted)) (roots_now : List RequestId) (last_now : RequestId)
    (goes : GoesBack world roots last logs roots_now last_now) where
  turned_now : reverse roots_now ≡ last_now ∷ reverse roots
  turned_now = ap reverse goes.is ∙ pushed_first roots last_now

  pub walk_goes_on : IsWalk world roots last → IsWalk world roots_now last_now
  walk_goes_on w = record {
    start = w.start;
    back = last ∷ w.back;
    is = turned_now ∙ ap (λ rs. last_now ∷ rs) w.is;
    leads = (goes.before, w.leads);
  }

  pub walk_less : unseen (reverse roots_now) (roots_of logs) < unseen (reverse roots) (roots_of logs)
  walk_less =
      subst (λ rs. unseen rs (roots_of logs) < unseen (reverse roots) (roots_of logs)) (sym turned_now)
      (less last_now (reverse roots) (roots_of logs) (has_root last_now logs goes.among) (not_among last_now (reverse roots) goes.new))

abbrev roots_in_it : Option (List RequestId) → List RequestId
roots_in_it None = []
roots_in_it (Some roots) = roots

and_some : (i : RequestId) (o : Option (List RequestId)) (ids : List RequestId) → and_roots i o ≡ Some ids → (more : List RequestId) × (o ≡ Some more) × (ids ≡ i ∷ more)
and_some i None ids e = absurd cc
and_some i (Some more) ids e = (more, refl, sym (ap roots_in_it e))

way_ends : (world : List History) (last root : RequestId) (ids : List RequestId) (later : Option (List RequestId)) → same_ids last root ≡ true
    → cond (same_ids last root) (Some (last ∷ [])) later ≡ Some ids → IsWay world last root ids
way_ends world last root ids later is e =
    let here : Some (last ∷ []) ≡ Some ids = sym (if_true (same_ids last root) (Some (last ∷ [])) later is) ∙ e in
    record { later = []; is = sym (ap roots_in_it here); way = same_ids_is last root is }

-- the roots up to one are a way to it
way_of : (world : List History) (last : RequestId) (back : List RequestId) (start : RequestId) → LeadTo world last back start → (root : RequestId) (ids : List RequestId)
    → up_to root (last ∷ back) ≡ Some ids → IsWay world last root ids
way_of world last [] start leads root ids e = elim (cases_Bool (same_ids last root)) [
  | inl is ↦ way_ends world last root ids (and_roots last None) is e
  | inr other ↦ (let none : None ≡ Some ids = sym (if_false (same_ids last root) (Some (last ∷ [])) None other) ∙ e in absurd cc)
]
way_of world last (next ∷ back) start leads root ids e = elim (cases_Bool (same_ids last root)) [
  | inl is ↦ way_ends world last root ids (and_roots last (up_to root (next ∷ back))) is e
  | inr other ↦ (let more = and_some last (up_to root (next ∷ back)) ids (sym (if_false (same_ids last root) (Some (last ∷ [])) (and_roots last (up_to root (next ∷ back))) other) ∙ e) in
      let way = way_of world next back start leads.1 root more.0 more.1 in
      record { later = more.0; is = more.2; way = subst (λ (rs : List RequestId). LeadTo world last rs root) (sym way.is) (leads.0, way.way) })
]

-- where one of the roots comes again, the link to it and the way back show a cycle
pub comes_round : (world : List History) (root last first second : RequestId) (roots back : List RequestId) → IsLink world root last first second → IsWalk world roots last
    → up_to root (reverse roots) ≡ Some back → ShowsCycle world first second back
comes_round world root last first second roots back link walk e =
    let b : IsBefore world root last = link.before in
    let way = way_of world last walk.back walk.start walk.leads root back (ap (up_to root) (sym walk.is) ∙ e) in
    let shows : ShowsCycle world b.first b.second back = record {
      neighbours = b.neighbours;
      way = inr (record {
        root = root;
        other = last;
        first_slots = b.first_slots;
        second_slots = b.second_slots;
        of_first = b.of_root;
        of_second = b.of_other;
        apart = b.apart;
        way = way;
      });
    } in
    subst (λ (i : RequestId). ShowsCycle world i second back) link.first_is (subst (λ (i : RequestId). ShowsCycle world b.first i back) link.second_is shows)

-- ---- the same as the code has it

-- roots that were put down, and those that are left to be looked at
abbrev pub and_up_to : List RequestId → Option (List RequestId) → Option (List RequestId)
and_up_to ids None = None
and_up_to ids (Some more) = Some (ids ++ more)

module _ (services : List DumpService) (kept : ∥ AreKept services ∥₁) (legal : IsLegalTogether (histories_of services)) (logs : List Log) (stuck : IsStuck (histories_of services) logs) where
  abbrev world : List History
  world = histories_of services

  abbrev left : List (List Rooted)
  left = all_rooted world logs

  pair_is : (test : Rooted → Rooted → Bool) (found : Option Neighbours) (pair : Neighbours) → option_map (both_rooted world) found ≡ pair_of test left → found ≡ Some pair
      → pair_of test left ≡ Some (both_rooted world pair)
  pair_is test found pair e is = sym e ∙ ap (option_map (both_rooted world)) is

  -- two that are turned
  pub turned_pair : (found : Option Neighbours) (pair : Neighbours) → option_map (both_rooted world) found ≡ pair_of is_turned left → found ≡ Some pair
      → ShowsCycle world (name_at pair.first) (name_at pair.second) []
  turned_pair found pair e is =
      turned_shows world legal (kept_named services kept) (kept_numbered services kept) logs stuck (rooted_at world pair.first) (rooted_at world pair.second)
      (pair_is is_turned found pair e is)

  pub none_turned : (found : Option Neighbours) → option_map (both_rooted world) found ≡ pair_of is_turned left → found ≡ None → pair_of is_turned left ≡ None
  none_turned found e is = sym e ∙ ap (option_map (both_rooted world)) is

  -- the link to a root
  pub link_to : (i : RequestId) (found : Option Neighbours) (pair : Neighbours) → option_map (both_rooted world) found ≡ pair_of (leads_to i) left → found ≡ Some pair
      → (r : RootedEntry) → rooted_of r ≡ rooted_at world pair.first
      → IsLink world (name_at r.root) i (name_at pair.first) (name_at pair.second) × IsRootOf (name_at r.root) left
  link_to i found pair e is r same =
      let link = leads_links world legal (kept_named services kept) (kept_numbered services kept) logs stuck i (rooted_at world pair.first) (rooted_at world pair.second)
      (pair_is (leads_to i) found pair e is) in
      let root : name_at r.root ≡ (rooted_at world pair.first).root = ap (λ (x : Rooted). x.root) same in
      subst (λ (j : RequestId). IsLink world j i (name_at pair.first) (name_at pair.second) × IsRootOf j left) (sym root) link

  -- there is one
  pub one_leads : (i : RequestId) (found : Option Neighbours) → option_map (both_rooted world) found ≡ pair_of (leads_to i) left → found ≡ None → IsRootOf i left
      → pair_of is_turned left ≡ None → ⊥
  one_leads i found e is among none =
      must_lead world legal (kept_named services kept) (kept_numbered services kept) logs stuck i among none (sym e ∙ ap (option_map (both_rooted world)) is)

  -- something is left
  pub one_left : (found : Option At) → option_map place_of found ≡ first_left world logs → found ≡ None → ⊥
  one_left found e is = some_left world legal (kept_named services kept) (kept_numbered services kept) logs stuck (sym e ∙ ap (option_map place_of) is)

  pub root_left : (found : Option At) (at : At) → option_map place_of found ≡ first_left world logs → found ≡ Some at → (r : RootedEntry) → rooted_of r ≡ rooted_at world at
      → IsRootOf (name_at r.root) left
  root_left found at e is r same =
      let root : name_at r.root ≡ (rooted_at world at).root = ap (λ (x : Rooted). x.root) same in
      subst (λ (j : RequestId). IsRootOf j left) (sym root) (first_root world logs (place_of at) (sym e ∙ ap (option_map place_of) is))
