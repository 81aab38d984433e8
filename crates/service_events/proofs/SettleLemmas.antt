-- The calls of one run in place of those of another.
use Rattle.lang_core.specs.declared.request.Response.{Response}
use Rattle.std.proofs.Common.{◌≡◌, ℕ, ◌+◌, ◌≤◌, Bool, true, false, ◌||◌, List, [], ◌∷◌, ◌++◌, Option, Some, None, nat_eq, refl, sym, ap, ◌∙◌, subst, inl, inr, arith, if◌then◌else◌, ne_eqb, length, map}
use Rattle.std.proofs.lemmas.Bool.{cases_Bool}
use Rattle.std.specs.Option.{option_map_or}
use Rattle.std.specs.Cmp.Lexicographic.{same_text as text_is}
use Rattle.lang_base.proofs.EqualLemmas.{equal-true}
use Rattle.lang_base.specs.Texts.{same_text}
use Rattle.lang_core.specs.contracts.trace.CallMade as call_made
use Rattle.lang_core.specs.declared.trace.CallMade.{CallMade}
use Rattle.local_repair.specs.Steps.{same_call, tentative, answer_or_tentative, answers_for}
use Rattle.journal_rows.specs.declared.row.Row.{Row}
use Rattle.call_registers.specs.Registers.{register, next_number, consumed_in, IsTimely}
use Rattle.call_registers.specs.declared.register.Register.{Register}
use Rattle.service_events.specs.Calls.{named as named_row, replaced, deleted, version_of, all_deleted, slot_rows, slot_number, next_after, settling_rows, settling_numbers, keeps_number}
use Rattle.service_events.specs.Fits.{count, NumberedCalls, wanted_call, WantsItsCalls, FitsPlaces}
use Rattle.service_events.proofs.CallRowLemmas.{Each, each_of_all}
use Rattle.service_events.proofs.RegisterLemmas.{flip_false, next_none, found_within}
use Rattle.service_events.proofs.PlaceLemmas.{one_if, place, no_place, not_counted, count_self, rearrange, swapped, with_none, without_none, parted, joined}
use Rattle.service_events.proofs.FittingLemmas.{Book, entered, entered-append, HasRoom, room_first, room_then, Fitting, fitting_then, fitting_nil, name_call, delete_call, replace_call, next_unwanted, answered, wanted_at}

-- ---- fitting, by the places alone

pub fitting_by : (b : Book) (xs ys : List NumberedCalls) → (FitsPlaces b.registers xs → FitsPlaces b.registers ys) → Fitting b xs → Fitting b ys
fitting_by b xs ys step f = record { sent = f.sent; places = step f.places }

pub fitting_swap : (b : Book) (p q : NumberedCalls) (ps : List NumberedCalls) → Fitting b (p ∷ (q ∷ ps)) → Fitting b (q ∷ (p ∷ ps))
fitting_swap b p q ps f = fitting_by b (p ∷ (q ∷ ps)) (q ∷ (p ∷ ps)) (rearrange b.registers (p ∷ (q ∷ ps)) (q ∷ (p ∷ ps)) (swapped p q ps)) f

-- the first slot apart from the others
pub fitting_first : (b : Book) (n : ℕ) (ns : List ℕ) (o : CallMade) (os : List CallMade) (ps : List NumberedCalls) → Fitting b (place (n ∷ ns) (o ∷ os) ∷ ps)
    → Fitting b (place (n ∷ []) (o ∷ []) ∷ (place ns os ∷ ps))
fitting_first b n ns o os ps f =
    fitting_by b (place (n ∷ ns) (o ∷ os) ∷ ps) (place (n ∷ []) (o ∷ []) ∷ (place ns os ∷ ps)) (parted b.registers (n ∷ []) ns (o ∷ []) os ps refl) f

pub fitting_join : (b : Book) (ns ms : List ℕ) (cs ds : List CallMade) (ps : List NumberedCalls) → Fitting b (place ns cs ∷ (place ms ds ∷ ps))
    → Fitting b (place (ns ++ ms) (cs ++ ds) ∷ ps)
fitting_join b ns ms cs ds ps f =
    fitting_by b (place ns cs ∷ (place ms ds ∷ ps)) (place (ns ++ ms) (cs ++ ds) ∷ ps) (joined b.registers ns ms cs ds ps) f

-- ---- versions as they were before

abbrev pub SameVersions : List Register → List Register → List ℕ → Type 0
SameVersions before now ns = Each (λ n. version_of before n ≡ version_of now n) ns

pub same_versions : (now : List Register) (ns : List ℕ) → SameVersions now now ns
same_versions now [] = tt
same_versions now (n ∷ ns) = (refl, same_versions now ns)

versions_kept : (before now end : List Register) (n next : ℕ)
    → ((m : ℕ) → nat_eq n m ≡ false → nat_eq next m ≡ false → register m end ≡ register m now)
    → (ns : List ℕ) → Each (λ k. nat_eq k n ≡ false) ns → Each (λ k. nat_eq k next ≡ false) ns → SameVersions before now ns → SameVersions before end ns
versions_kept before now end n next same [] a b h = tt
versions_kept before now end n next same (m ∷ ms) a b h = (
  h.0 ∙ sym (ap (λ o. option_map_or (λ (r : Register). r.version) o 0) (same m (flip_false m n a.0) (flip_false m next b.0))),
  versions_kept before now end n next same ms a.1 b.1 h.1,
)

-- ---- calls that are to have no effect

rest_versions : (b : Book) (before : List Register) (n : ℕ) (o : CallMade) (ns : List ℕ) (os : List CallMade) (ps : List NumberedCalls) (end : List Register)
    → ((m : ℕ) → nat_eq n m ≡ false → register m end ≡ register m b.registers)
    → Fitting b (place (n ∷ []) (o ∷ []) ∷ (place ns os ∷ ps)) → SameVersions before b.registers ns → SameVersions before end ns
rest_versions b before n o ns os ps end others f same =
    let all = f.places.once n in
    let one = count_self n in
    let most = one_most (wanted_call b.registers n) in
    let away = not_counted n ns (omega (arith, all, one, most)) in
    versions_kept before b.registers end n n (λ m differs _. others m differs) ns away away same
  where
    one_most : (c : Option CallMade) → one_if c ≤ 1
    one_most None = omega arith
    one_most (Some c) = omega arith

-- what the deletion of all calls of a place leaves: their registers alone change
pub record Deleted (b : Book) (rows : List Row) (ns : List ℕ) (ps : List NumberedCalls) : Type 0 where
  pub fits : Fitting (entered rows b) ps
  pub others : (m : ℕ) → count m ns ≡ 0 → register m (entered rows b).registers ≡ register m b.registers
  pub timely : IsTimely b.registers → IsTimely (entered rows b).registers

count_parts : (n m : ℕ) (ns : List ℕ) → count m (n ∷ ns) ≡ 0 → (nat_eq n m ≡ false) × (count m ns ≡ 0)
count_parts n m ns h = elim (cases_Bool (nat_eq n m)) [
  | inl is ↦ absurd (let more : count m (n ∷ ns) ≡ 1 + count m ns = rw is refl in omega (arith, more, h))
  | inr differs ↦ (let more : count m (n ∷ ns) ≡ 0 + count m ns = rw differs refl in (differs, omega (arith, more, h)))
]

pub delete_all : (before : List Register) (ns : List ℕ) (os : List CallMade) (b : Book) (ps : List NumberedCalls) → HasRoom b (all_deleted before ns os)
    → SameVersions before b.registers ns → Fitting b (place ns os ∷ ps) → Deleted b (all_deleted before ns os) ns ps
delete_all before [] [] b ps few same f =
    record { fits = fitting_nil b ps (fitting_by b (no_place ∷ ps) ps (without_none b.registers ps) f); others = λ m none. refl; timely = λ timely. timely }
delete_all before [] (o ∷ os) b ps few same f = (let w = (each_of_all (WantsItsCalls b.registers) (place [] (o ∷ os) ∷ ps) f.places.calls).0 in cc)
delete_all before (n ∷ ns) [] b ps few same f = (let w = (each_of_all (WantsItsCalls b.registers) (place (n ∷ ns) [] ∷ ps) f.places.calls).0 in cc)
delete_all before (n ∷ ns) (o ∷ os) b ps few same f =
    let row = deleted before n o in
    let rows = all_deleted before ns os in
    let apart = fitting_first b n ns o os ps f in
    let gone = delete_call b before n o (place ns os ∷ ps) (room_first b (row ∷ []) rows few) same.0 apart in
    let mid = entered (row ∷ []) b in
    let left = fitting_by mid (no_place ∷ (place ns os ∷ ps)) (place ns os ∷ ps) (without_none mid.registers (place ns os ∷ ps)) gone.fits in
    let rest = delete_all before ns os mid ps (room_then b (row ∷ []) rows few) (rest_versions b before n o ns os ps mid.registers gone.others apart same.1) left in
    record {
      fits = fitting_then (row ∷ []) rows b ps rest.fits;
      others = λ m none. (let parts = count_parts n m ns none in
          ap (λ (x : Book). register m x.registers) (entered-append (row ∷ []) rows b) ∙ rest.others m parts.1 ∙ gone.others m parts.0);
      timely = λ timely. (let P : Book → Type 0 = λ x. IsTimely x.registers in
          subst P (sym (entered-append (row ∷ []) rows b)) (rest.timely (gone.timely timely)));
    }

-- ---- one slot

record Slotted (b : Book) (rows : List Row) (n next number : ℕ) (c : CallMade) (later : ℕ) (ps : List NumberedCalls) (gives : Response) : Type 0 where
  pub fits : Fitting (entered rows b) (place (number ∷ []) (c ∷ []) ∷ ps)
  pub others : (m : ℕ) → nat_eq n m ≡ false → nat_eq next m ≡ false → register m (entered rows b).registers ≡ register m b.registers
  pub follows : later ≡ next_number (entered rows b).registers
  pub consumes : IsTimely b.registers → answered (entered rows b).registers number ≡ gives
  pub timely : IsTimely b.registers → IsTimely (entered rows b).registers

module _ (before : List Register) (b : Book) (n next : ℕ) (o c : CallMade) (ps : List NumberedCalls) (same : version_of before n ≡ version_of b.registers n)
    (is : next ≡ next_number b.registers) (f : Fitting b (place (n ∷ []) (o ∷ []) ∷ ps)) where
  kept_slot : o ≡ c → Slotted b [] n next n c next ps (answered b.registers n)
  kept_slot e = record {
    fits = fitting_nil b (place (n ∷ []) (c ∷ []) ∷ ps) (let P : CallMade → Type 0 = λ x. Fitting b (place (n ∷ []) (x ∷ []) ∷ ps) in subst P e f);
    others = λ m a d. refl;
    follows = is;
    consumes = λ timely. refl;
    timely = λ timely. timely;
  }

  replaced_slot : o.dest ≡ c.dest → HasRoom b (replaced before n o.dest c.request ∷ []) → Slotted b (replaced before n o.dest c.request ∷ []) n next n c next ps tentative
  replaced_slot e few =
      let r = replace_call b before n o c.request ps few same f in
      let end = entered (replaced before n o.dest c.request ∷ []) b in
      record {
        fits = (let P : List ℕ → Type 0 = λ d. Fitting end (place (n ∷ []) (record { dest = d; request = c.request } ∷ []) ∷ ps) in subst P e r.fits);
        others = λ m a d. r.others m a;
        follows = is ∙ r.next;
        consumes = r.consumes;
        timely = r.timely;
      }

  renamed_slot : HasRoom b (deleted before n o ∷ (named_row next c ∷ [])) → Slotted b (deleted before n o ∷ (named_row next c ∷ [])) n next next c (next + 1) ps tentative
  renamed_slot few =
      let row = deleted before n o in
      let fresh = named_row next c in
      let gone = delete_call b before n o ps (room_first b (row ∷ []) (fresh ∷ []) few) same f in
      let mid = entered (row ∷ []) b in
      let left = fitting_by mid (no_place ∷ ps) ps (without_none mid.registers ps) gone.fits in
      let new = name_call mid next c ps (room_then b (row ∷ []) (fresh ∷ []) few) (is ∙ gone.next) left in
      let P : Book → Type 0 = λ x. Fitting x (place (next ∷ []) (c ∷ []) ∷ ps) in
      let split = entered-append (row ∷ []) (fresh ∷ []) b in
      record {
        fits = fitting_then (row ∷ []) (fresh ∷ []) b (place (next ∷ []) (c ∷ []) ∷ ps) new.fits;
        others = λ m a d. ap (λ (x : Book). register m x.registers) split ∙ new.others m d ∙ gone.others m a;
        follows = new.later ∙ sym (ap (λ (x : Book). next_number x.registers) split);
        consumes = λ timely. ap (λ (x : Book). answered x.registers next) split ∙ new.consumes;
        timely = λ timely. (let T : Book → Type 0 = λ x. IsTimely x.registers in subst T (sym split) (new.timely (gone.timely timely)));
      }

  slot_by : (s d : Bool) → same_call o c ≡ s → same_text o.dest c.dest ≡ d
      → HasRoom b (if s then [] else (if d then replaced before n o.dest c.request ∷ [] else deleted before n o ∷ (named_row next c ∷ [])))
      → Slotted b (if s then [] else (if d then replaced before n o.dest c.request ∷ [] else deleted before n o ∷ (named_row next c ∷ [])))
      n next (if s || d then n else next) c (if s || d then next else next + 1) ps (if s then answered b.registers n else tentative)
  slot_by true d es ed few = kept_slot (equal-true call_made.the_row.coded o c es)
  slot_by false true es ed few = replaced_slot (text_is o.dest c.dest (sym ed)) few
  slot_by false false es ed few = renamed_slot few

  one_slot : HasRoom b (slot_rows before next n o c)
      → Slotted b (slot_rows before next n o c) n next (slot_number next n o c) c (next_after next o c) ps (if same_call o c then answered b.registers n else tentative)
  one_slot few = slot_by (same_call o c) (same_text o.dest c.dest) refl refl few

-- ---- all slots

-- what settling leaves: the registers of the old numbers and of new ones change, and no other
pub record Settled (b : Book) (rows : List Row) (ns ks : List ℕ) (os cs : List CallMade) (ps : List NumberedCalls) : Type 0 where
  pub fits : Fitting (entered rows b) (place ks cs ∷ ps)
  pub others : (m : ℕ) → count m ns ≡ 0 → m ≤ length b.registers → register m (entered rows b).registers ≡ register m b.registers
  pub consumes : IsTimely b.registers → map (answered (entered rows b).registers) ks ≡ answers_for (answered b.registers) os ns cs
  pub timely : IsTimely b.registers → IsTimely (entered rows b).registers

-- the same answers, where these registers are as they were
same_answers : (now end : List Register) (os : List CallMade) (ns : List ℕ) (cs : List CallMade) → Each (λ k. register k end ≡ register k now) ns
    → answers_for (answered end) os ns cs ≡ answers_for (answered now) os ns cs
same_answers now end os ns [] h = refl
same_answers now end [] ns (c ∷ cs) h = ap (λ xs. tentative ∷ xs) (same_answers now end [] ns cs h)
same_answers now end (o ∷ os) [] (c ∷ cs) h = ap (λ xs. tentative ∷ xs) (same_answers now end os [] cs h)
same_answers now end (o ∷ os) (n ∷ ns) (c ∷ cs) h =
    let head = ap (λ x. if same_call o c then answer_or_tentative (consumed_in x) else tentative) h.0 in
    let rest = same_answers now end os ns cs h.1 in (λ i. head i ∷ rest i)

kept_each : (now end : List Register) (n next : ℕ) → ((m : ℕ) → nat_eq n m ≡ false → nat_eq next m ≡ false → register m end ≡ register m now)
    → (ns : List ℕ) → Each (λ k. nat_eq k n ≡ false) ns → Each (λ k. nat_eq k next ≡ false) ns → Each (λ k. register k end ≡ register k now) ns
kept_each now end n next same [] a b = tt
kept_each now end n next same (m ∷ ms) a b = (same m (flip_false m n a.0) (flip_false m next b.0), kept_each now end n next same ms a.1 b.1)

number_apart : (k : Bool) (n next : ℕ) (ns : List ℕ) → count n ns ≡ 0 → count next ns ≡ 0 → count (if k then n else next) ns ≡ 0
number_apart true n next ns a b = a
number_apart false n next ns a b = b

next_rises : (next : ℕ) (o c : CallMade) → next ≤ next_after next o c
next_rises next o c = by_test (keeps_number o c)
  where
    by_test : (b : Bool) → next ≤ (if b then next else next + 1)
    by_test true = omega arith
    by_test false = omega arith

pub settle_all : (before : List Register) (ns : List ℕ) (os cs : List CallMade) (b : Book) (next : ℕ) (ps : List NumberedCalls)
    → HasRoom b (settling_rows before next ns os cs) → next ≡ next_number b.registers → SameVersions before b.registers ns → Fitting b (place ns os ∷ ps)
    → Settled b (settling_rows before next ns os cs) ns (settling_numbers next ns os cs) os cs ps
settle_all before [] (o ∷ os) cs b next ps few is same f = (let w = (each_of_all (WantsItsCalls b.registers) (place [] (o ∷ os) ∷ ps) f.places.calls).0 in cc)
settle_all before (n ∷ ns) [] cs b next ps few is same f = (let w = (each_of_all (WantsItsCalls b.registers) (place (n ∷ ns) [] ∷ ps) f.places.calls).0 in cc)
settle_all before [] [] [] b next ps few is same f = record { fits = fitting_nil b (no_place ∷ ps) f; others = λ m none within. refl; consumes = λ timely. refl; timely = λ timely. timely }
settle_all before [] [] (c ∷ cs) b next ps few is same f =
    let row = named_row next c in
    let rows = settling_rows before (next + 1) [] [] cs in
    let ks = settling_numbers (next + 1) [] [] cs in
    let new = name_call b next c (no_place ∷ ps) (room_first b (row ∷ []) rows few) is f in
    let mid = entered (row ∷ []) b in
    let rest = settle_all before [] [] cs mid (next + 1) (place (next ∷ []) (c ∷ []) ∷ ps) (room_then b (row ∷ []) rows few) new.later tt
    (fitting_swap mid (place (next ∷ []) (c ∷ [])) no_place ps new.fits) in
    let later = new.later in
    record {
      fits = fitting_then (row ∷ []) rows b (place (next ∷ ks) (c ∷ cs) ∷ ps)
          (fitting_join (entered rows mid) (next ∷ []) ks (c ∷ []) cs ps (fitting_swap (entered rows mid) (place ks cs) (place (next ∷ []) (c ∷ [])) ps rest.fits));
      others = λ m none within.
          ap (λ (x : Book). register m x.registers) (entered-append (row ∷ []) rows b) ∙ rest.others m refl (omega (arith, within, is, later))
          ∙ new.others m (ne_eqb next m (λ e. omega (arith, is, e, within)));
      consumes = λ timely. (
          let split = entered-append (row ∷ []) rows b in
          let head = ap (λ (x : Book). answered x.registers next) split
          ∙ ap (λ o. answer_or_tentative (consumed_in o)) (rest.others next refl (omega (arith, later))) ∙ new.consumes in
          let tail = ap (λ (x : Book). map (answered x.registers) ks) split ∙ rest.consumes (new.timely timely) ∙ no_old cs in
          (λ i. head i ∷ tail i));
      timely = λ timely. (let P : Book → Type 0 = λ x. IsTimely x.registers in subst P (sym (entered-append (row ∷ []) rows b)) (rest.timely (new.timely timely)));
    }
  where
    no_old : (cs : List CallMade) → answers_for (answered (entered (named_row next c ∷ []) b).registers) [] [] cs ≡ answers_for (answered b.registers) [] [] cs
    no_old cs = same_answers b.registers (entered (named_row next c ∷ []) b).registers [] [] cs tt
settle_all before (n ∷ ns) (o ∷ os) [] b next ps few is same f =
    let gone = delete_all before (n ∷ ns) (o ∷ os) b ps few same f in
    record {
      fits = fitting_by (entered (all_deleted before (n ∷ ns) (o ∷ os)) b) ps (no_place ∷ ps) (with_none (entered (all_deleted before (n ∷ ns) (o ∷ os)) b).registers ps) gone.fits;
      others = λ m none within. gone.others m none;
      consumes = λ timely. refl;
      timely = gone.timely;
    }
settle_all before (n ∷ ns) (o ∷ os) (c ∷ cs) b next ps few is same f =
    let first = slot_rows before next n o c in
    let number = slot_number next n o c in
    let later = next_after next o c in
    let rows = settling_rows before later ns os cs in
    let ks = settling_numbers later ns os cs in
    let apart = fitting_first b n ns o os ps f in
    let slot = one_slot before b n next o c (place ns os ∷ ps) same.0 is apart (room_first b first rows few) in
    let mid = entered first b in
    let all = apart.places.once n in
    let one = count_self n in
    let most = one_most (wanted_call b.registers n) in
    let away = not_counted n ns (omega (arith, all, one, most)) in
    let gone : register next b.registers ≡ None = ap (λ k. register k b.registers) is ∙ next_none b.registers f.sent.numbered in
    let none = next_unwanted b.registers (place (n ∷ []) (o ∷ []) ∷ (place ns os ∷ ps)) next gone apart.places in
    let fresh = not_counted next ns (omega (arith, none)) in
    let none_in : count next ns ≡ 0 = omega (arith, none) in
    let versions = versions_kept before b.registers mid.registers n next slot.others ns away fresh same.1 in
    let rest = settle_all before ns os cs mid later (place (number ∷ []) (c ∷ []) ∷ ps) (room_then b first rows few) slot.follows versions
    (fitting_swap mid (place (number ∷ []) (c ∷ [])) (place ns os) ps slot.fits) in
    let rises = next_rises next o c in
    let follows = slot.follows in
    record {
      fits = fitting_then first rows b (place (number ∷ ks) (c ∷ cs) ∷ ps)
          (fitting_join (entered rows mid) (number ∷ []) ks (c ∷ []) cs ps (fitting_swap (entered rows mid) (place ks cs) (place (number ∷ []) (c ∷ [])) ps rest.fits));
      others = λ m none within. (
          let parts = count_parts n m ns none in
          ap (λ (x : Book). register m x.registers) (entered-append first rows b) ∙ rest.others m parts.1 (omega (arith, within, is, rises, follows))
          ∙ slot.others m parts.0 (ne_eqb next m (λ e. omega (arith, is, e, within))));
      consumes = λ timely. (
          let split = entered-append first rows b in
          let there = wanted_at mid.registers number c (place ns os ∷ ps) slot.fits.places in
          let below = found_within number mid.registers there.made slot.fits.sent.numbered there.found in
          let alone = number_apart (keeps_number o c) n next ns (omega (arith, all, one, most)) (omega (arith, none_in)) in
          let head = ap (λ (x : Book). answered x.registers number) split
          ∙ ap (λ x. answer_or_tentative (consumed_in x)) (rest.others number alone below) ∙ slot.consumes timely in
          let tail = ap (λ (x : Book). map (answered x.registers) ks) split ∙ rest.consumes (slot.timely timely)
          ∙ same_answers b.registers mid.registers os ns cs (kept_each b.registers mid.registers n next slot.others ns away fresh) in
          (λ i. head i ∷ tail i));
      timely = λ timely. (let P : Book → Type 0 = λ x. IsTimely x.registers in subst P (sym (entered-append first rows b)) (rest.timely (slot.timely timely)));
    }
  where
    one_most : (c : Option CallMade) → one_if c ≤ 1
    one_most None = omega arith
    one_most (Some c) = omega arith
