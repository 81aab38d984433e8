-- What a repair step leaves.
use Rattle.std.proofs.Common.{◌≡◌, ◌≢◌, ℕ, zero, suc, ◌<◌, ◌≤◌, Bool, List, [], ◌∷◌, ◌++◌, Option, Some, None, IfSome, IsSomeAnd, All, Contains, map, length, get_or, set, take, refl, sym, ap, ◌∙◌, subst, inl, inr, arith, Result, Ok, Err, IfOk, append-nil, get_or-set_same, get_or-set_other}
use Rattle.std.proofs.lemmas.Bool.{cases_Bool, cases_eq}
use Rattle.std.proofs.lemmas.List.{take-set, get_or_default, get_or-take, length-take}
use Rattle.std.proofs.lemmas.List.Elements.{All-nil, All-set, All-get_or}
use Rattle.std.proofs.Math.ListN.{length-set}
use Rattle.lang_base.specs.declared.memory.NoMemory.{NoMemory}
use Rattle.lang_core.specs.declared.cells.Cell.{Cell}
use Rattle.lang_core.specs.declared.request.Request.{Request}
use Rattle.lang_core.specs.declared.setting.Setting.{Setting}
use Rattle.lang_core.specs.declared.trace.CallMade.{CallMade}
use Rattle.lang_core.specs.declared.trace.Trace.{Trace}
use Rattle.execution.specs.HandedOn.{run_of}
use Rattle.execution.specs.HandedOn.{Gives, GivesAll}
use Rattle.execution.specs.HandedOn.{Done}
use Rattle.request_log.specs.Entries.{is_alive, with_run}
use Rattle.request_log.specs.declared.entry.Entry.{Entry}
use Rattle.request_log.specs.declared.entry.Made.{Made}
use Rattle.local_repair.specs.Current.{Consumed, after_entry, rows_after, IsCurrentRecord, IsCurrent, AllCurrent, IsFirstStale, IsRun, AllRuns}
use Rattle.local_repair.specs.Programs.{setting_of, setting_ran}
use Rattle.local_repair.specs.Registers.{SlotsChange}
use Rattle.local_repair.specs.Settling.{HasItsSlots, CanSettle, IsAgain, noted, Leaves}
use Rattle.local_repair.specs.Steps.{answers_for, calls_of_made, raised, raised_if, IsRerun, IsRemade, IsFreshOr, StandOnce, AreApart, RanFirst, StepsTo}
use Rattle.local_repair.specs.Tests.{step_with}
use Rattle.local_repair.specs.declared.remaking.Rerun.{Rerun}
use Rattle.local_repair.specs.declared.stepped.Stepped.{Stepped}
use Rattle.local_repair.specs.declared.stepped.Stepped.TheVariants.{Idle, Ran}
use Rattle.local_repair.proofs.CurrentLemmas.{AllCurrent-more, next_later}
use Rattle.local_repair.proofs.HandlerLemmas.{handler}
use Rattle.local_repair.proofs.TestLemmas.{step_with_none, step_with_at}

-- a new record is what a run under the entry's program gave
rerun_is : (setting : Setting) (consumed : Consumed) (rows : List Cell) (e : Entry) (m : Made) → IsRerun setting consumed rows e m → IsRun (setting_of setting e) e.inputs m
rerun_is setting consumed rows e m r = record {
  live = λ alive other gives.
      let own : Setting = setting_of setting e in
      let again : run_of own e.request e.inputs (m.trace.answers ++ []) other ≡ Done m.trace = (handler own).same e.request e.inputs m.trace.answers [] rows other m.trace (r.live (sym r.alive ∙ alive)) gives in
      ap (λ (q : Request). run_of own q e.inputs m.trace.answers other) r.request ∙ ap (λ xs. run_of own e.request e.inputs xs other) (sym (append-nil m.trace.answers)) ∙ again;
  dead = λ dead. r.dead (sym r.alive ∙ dead);
}

-- its reads are what the rows give
pub rerun_reads : (setting : Setting) (consumed : Consumed) (rows : List Cell) (e : Entry) (m : Made) → IsRerun setting consumed rows e m → GivesAll rows m.trace.reads
rerun_reads setting consumed rows e m r = elim (cases_Bool (is_alive e)) [
  | inl alive ↦ (handler (setting_of setting e)).reads e.request e.inputs m.trace.answers rows m.trace (r.live alive)
  | inr dead ↦ (let P : Trace → Type 0 = λ t. GivesAll rows t.reads in subst P (sym (r.dead dead)) (All-nil (Gives rows)))
]

-- what a new record came to can be settled
pub rerun_settles : (setting : Setting) (can : Entry → Trace → Type 0) (consumed : Consumed) (rows : List Cell) (e : Entry) (m : Made) → IsRerun setting consumed rows e m
    → CanSettle can setting e → can e m.trace
rerun_settles setting can consumed rows e m r c = elim (cases_Bool (is_alive e)) [
  | inl alive ↦ c.live rows m.trace (r.live alive)
  | inr dead ↦ subst (can e) (sym (r.dead dead)) c.dead
]

length-answers_for : (consumed : Consumed) (old : List CallMade) (slots : List ℕ) (calls : List CallMade) → length (answers_for consumed old slots calls) ≡ length calls
length-answers_for consumed old slots [] = refl
length-answers_for consumed [] slots (c ∷ cs) = ap suc (length-answers_for consumed [] slots cs)
length-answers_for consumed (o ∷ os) [] (c ∷ cs) = ap suc (length-answers_for consumed os [] cs)
length-answers_for consumed (o ∷ os) (n ∷ ns) (c ∷ cs) = ap suc (length-answers_for consumed os ns cs)

map_same : (f g : Consumed) (ns : List ℕ) → ((n : ℕ) → Contains ns n → g n ≡ f n) → map g ns ≡ map f ns
map_same f g [] same = refl
map_same f g (n ∷ ns) same =
    let here : g n ≡ f n = same n (0, omega arith, refl) in
    let later = map_same f g ns (λ k c. same k (suc c.0, omega (arith, c.1), c.2)) in
    cc

-- an entry stays current where its slots consume what they did
same_current : (f g : Consumed) (rows : List Cell) (e : Entry) (made : Option Made) → map g e.slots ≡ map f e.slots
    → IsSomeAnd made (λ m. IsCurrentRecord f rows e m) → IsSomeAnd made (λ m. IsCurrentRecord g rows e m)
same_current f g rows e None same h = h
same_current f g rows e (Some m) same h = record { alive = h.alive; version = h.version; request = h.request; reads = h.reads; answers = h.answers ∙ sym same; handler = h.handler }

all_same_current : (f g : Consumed) (es : List Entry) (rows : List Cell) → ((e : Entry) → Contains es e → map g e.slots ≡ map f e.slots) → AllCurrent f rows es → AllCurrent g rows es
all_same_current f g [] rows same h = tt
all_same_current f g (e ∷ es) rows same h =
    (same_current f g rows e e.made (same e (0, omega arith, refl)) h.0, all_same_current f g es (after_entry rows e) (λ x c. same x (suc c.0, omega (arith, c.1), c.2)) h.1)

-- the entries before a place have other slots, which were given
others_apart : (last : ℕ) (entries : List Entry) (place : ℕ) (x : Entry) → AreApart last entries → place < length entries → (y : Entry) → Contains (take place entries) y
    → (n : ℕ) → Contains y.slots n → (n ≤ last) × (Contains (get_or entries place x).slots n → ⊥)
others_apart last entries place x apart l y c n within =
    let k = c.0 in
    let before : k < place = omega (arith, c.1, length-take place entries) in
    let is : get_or entries k y ≡ y = sym (get_or-take place entries k y before) ∙ c.2 in
    let E : Entry → Type 0 = λ e. Contains e.slots n in
    let there : Contains (get_or entries k x).slots n = subst E (get_or_default entries k y x (omega arith)) (subst E (sym is) within) in
    (All-get_or (λ e. (n : ℕ) → Contains e.slots n → n ≤ last) entries k x (omega arith) apart.given n there, λ other. apart.apart k place x before l n there other)

-- no slot stands in two entries afterwards
not_both : (last last' n : ℕ) (own other : List ℕ) → IsFreshOr own last last' n → (Contains other n → n ≤ last) → (Contains own n → Contains other n → ⊥) → Contains other n → ⊥
not_both last last' n own other (inl kept) given apart there = apart kept there
not_both last last' n own other (inr new) given apart there = let below = given there in absurd (omega (arith, new.0, below))

at_most : (last last' n : ℕ) (own : List ℕ) → IsFreshOr own last last' n → (Contains own n → n ≤ last) → last ≤ last' → n ≤ last'
at_most last last' n own (inl kept) given l = let below = given kept in omega arith
at_most last last' n own (inr new) given l = new.1

-- the entries stay apart
apart_after : (last last' : ℕ) (entries : List Entry) (place : ℕ) (x y : Entry) → AreApart last entries → place < length entries → ((d : Entry) → get_or entries place d ≡ x)
    → ((n : ℕ) → Contains y.slots n → IsFreshOr x.slots last last' n) → StandOnce y.slots → last ≤ last' → AreApart last' (set entries place y)
apart_after last last' entries place x y apart l at fresh once higher = record {
  apart = λ j k d before within n inj ink.
      let w : k < length entries = (let P : ℕ → Type 0 = λ m. k < m in subst P (length-set entries place y) within) in
      let given : (m : ℕ) → m < length entries → Contains (get_or entries m d).slots n → n ≤ last = λ m lm. All-get_or (λ (e : Entry). (i : ℕ) → Contains e.slots i → i ≤ last) entries m d lm apart.given n in
      let E : Entry → Type 0 = λ e. Contains e.slots n in
      elim (cases_eq j place) [
        | inl jp ↦ (let yj : Contains y.slots n = subst E (first_is j d jp) inj in
            let kp : k ≢ place = omega arith in
            let other : Contains (get_or entries k d).slots n = subst E (get_or-set_other entries place k y d kp) ink in
            not_both last last' n x.slots (get_or entries k d).slots (fresh n yj) (given k w)
            (λ mine there. apart.apart j k d before w n (subst E (old_is j d jp) mine) there) other)
        | inr jn ↦ (let yj : Contains (get_or entries j d).slots n = subst E (get_or-set_other entries place j y d jn) inj in
            elim (cases_eq k place) [
              | inl kp ↦ (let other : Contains y.slots n = subst E (first_is k d kp) ink in
                  not_both last last' n x.slots (get_or entries j d).slots (fresh n other) (given j (omega arith))
                  (λ mine there. apart.apart j k d before w n there (subst E (old_is k d kp) mine)) yj)
              | inr kn ↦ apart.apart j k d before w n yj (subst E (get_or-set_other entries place k y d kn) ink)
            ])
      ];
  once = All-set (λ e. StandOnce e.slots) entries place y once apart.once;
  given = All-set (λ e. (n : ℕ) → Contains e.slots n → n ≤ last') entries place y
      (λ n there. at_most last last' n x.slots (fresh n there) (λ mine. (let E : Entry → Type 0 = λ e. Contains e.slots n in All-get_or (λ (e : Entry). (i : ℕ) → Contains e.slots i → i ≤ last) entries place x l apart.given n (subst E (sym (at x)) mine))) higher)
      (λ k d w n there. let below = apart.given k d w n there in let more = higher in omega arith);
}
  where
    first_is : (j : ℕ) (d : Entry) → j ≡ place → get_or (set entries place y) j d ≡ y
    first_is j d e = ap (λ k. get_or (set entries place y) k d) e ∙ get_or-set_same entries place y d l

    old_is : (j : ℕ) (d : Entry) → j ≡ place → x ≡ get_or entries j d
    old_is j d e = sym (at d) ∙ ap (λ k. get_or entries k d) (sym e)

-- what a step leaves where the first stale entry ran again
step_leaves : (setting : Setting) (c : SlotsChange) (base : List Cell) (entries : List Entry) (place : ℕ) (was : Entry) (again : Rerun)
    → IsFirstStale c.before base entries place → ((d : Entry) → get_or entries place d ≡ was) → IsAgain setting c (rows_after base (take place entries)) was again
    → AllRuns setting entries → AreApart c.last entries → All HasItsSlots entries → Leaves setting c base place (set entries place (noted again was))
step_leaves setting c base entries place was again first at a runs apart own =
    let rows = rows_after base (take place entries) in
    let z : Entry = noted again was in
    let m : Made = again.made in
    let l = first.within in
    let current : c.timely → IsCurrent c.after rows z = λ ok. record { alive = a.rerun.alive; version = a.rerun.version; request = a.rerun.request; reads = rerun_reads setting c.before rows was m a.rerun; answers = sym (a.settled.consumes ok); handler = λ alive. refl } in
    let before : AllCurrent c.after base (take place entries) = all_same_current c.before c.after (take place entries) base (λ e k. map_same c.before c.after e.slots (λ n there.
    let o = others_apart c.last entries place was apart l e k n there in
    a.settled.others n o.0 (λ mine. o.1 (let E : Entry → Type 0 = λ v. Contains v.slots n in subst E (sym (at was)) mine)))) first.before in
    let many : length again.numbers ≡ length m.trace.calls = a.settled.count ∙ ap length a.rerun.answers ∙ length-answers_for c.before (calls_of_made was.made) was.slots m.trace.calls in
    record {
      runs = All-set (λ e. IfSome e.made (IsRun (setting_ran setting e) e.inputs)) entries place z (rerun_is setting c.before rows was m a.rerun) runs;
      apart = apart_after c.last c.later entries place was z apart l at a.settled.fresh a.settled.once a.settled.higher;
      own = All-set HasItsSlots entries place z many own;
      before = (rw length-set (omega (arith, l)), rw (take-set entries place z) before);
      current = λ ok. AllCurrent-more c.after (set entries place z) place z base (rw length-set l) (sym (get_or-set_same entries place z z l)) (rw (take-set entries place z) before) (rw (take-set entries place z) (current ok));
    }

-- the same, as a step
ran_first : (setting : Setting) (c : SlotsChange) (base : List Cell) (entries after : List Entry) (place : ℕ) (was : Entry) (again : Rerun)
    → IsFirstStale c.before base entries place → ((d : Entry) → get_or entries place d ≡ was) → IsAgain setting c (rows_after base (take place entries)) was again
    → AllRuns setting entries → AreApart c.last entries → All HasItsSlots entries → after ≡ set entries place (noted again was)
    → Leaves setting c base place after × RanFirst setting c base entries was.id again.answered after
ran_first setting c base entries after place was again first at a runs apart own e =
    let left : Leaves setting c base place after =
    (let P : List Entry → Type 0 = λ xs. Leaves setting c base place xs in subst P (sym e) (step_leaves setting c base entries place was again first at a runs apart own)) in (
      left,
      record {
        place = place;
        first = first;
        was = was;
        there = at;
        entry = noted again was;
        remade = record {
          made = again.made;
          rerun = a.rerun;
          slots = again.numbers;
          settled = (let S : Bool → Type 0 = λ b. c.settles was again.made.trace b again.numbers in subst S a.tells a.how);
          count = a.settled.count;
          consumes = a.settled.consumes;
          is = ap (λ b. with_run again.made again.numbers (raised_if b was.answer_version) (raised was.runs) was) a.tells;
        };
        names = refl;
        tells = a.tells;
        rest = e;
        current = left.current;
        later = λ ok next stale. next_later c.after base after place next was (left.current ok) stale;
      },
    )

-- a place within has an entry
pub entry_at : (entries : List Entry) (place : ℕ) → place < length entries → (e : Entry) × ((d : Entry) → get_or entries place d ≡ e)
entry_at [] place l = absurd (omega (arith, l))
entry_at (x ∷ xs) zero l = (x, λ d. refl)
entry_at (x ∷ xs) (suc place) l = entry_at xs place (omega (arith, l))

-- what a step answers and leaves, from what was run again and noted
pub stepped : (setting : Setting) (c : SlotsChange) (base : List Cell) (entries after : List Entry) (place : ℕ) (again : Rerun) (answer : Stepped) → IsFirstStale c.before base entries place
    → ((d : Entry) → IsAgain setting c (rows_after base (take place entries)) (get_or entries place d) again)
    → ((d : Entry) → answer ≡ Ran (get_or entries place d).id again.answered) → ((d : Entry) → after ≡ set entries place (noted again (get_or entries place d)))
    → AllRuns setting entries → AreApart c.last entries → All HasItsSlots entries
    → Leaves setting c base place after × StepsTo setting c base entries answer after
stepped setting c base entries after place again answer first a told put runs apart own =
    let x = entry_at entries place first.within in
    let was : Entry = x.0 in
    let at : (d : Entry) → get_or entries place d ≡ was = x.1 in
    let A : Entry → Type 0 = λ e. IsAgain setting c (rows_after base (take place entries)) e again in
    let P : Entry → Type 0 = λ e. after ≡ set entries place (noted again e) in
    let T : Entry → Type 0 = λ e. answer ≡ Ran e.id again.answered in
    let S : Stepped → Type 0 = λ s. StepsTo setting c base entries s after in
    let r = ran_first setting c base entries after place was again first at (subst A (at was) (a was)) runs apart own (subst P (at was) (put was)) in
    (r.0, subst S (sym (subst T (at was) (told was))) r.1)

-- a step is a function of the log where an entry made anew is a function of the rows and the entry
pub step_is : (setting : Setting) (c : SlotsChange) (base : List Cell) (remake : List Cell → Entry → Entry) → ((rows : List Cell) (e e' : Entry) → IsRemade setting c rows e e' → e' ≡ remake rows e)
    → (before after : List Entry) (answer : Stepped) → StepsTo setting c base before answer after → after ≡ step_with c.before remake base before
step_is setting c base remake is before after Idle s = s.1 ∙ sym (step_with_none c.before remake before base s.0)
step_is setting c base remake is before after (Ran id answered) s =
    s.rest ∙ ap (λ e. set before s.place e) (is (rows_after base (take s.place before)) s.was s.entry s.remade ∙ ap (λ e. remake (rows_after base (take s.place before)) e) (sym (s.there s.was)))
    ∙ sym (step_with_at c.before remake base before s.place s.was s.first)

-- an entry that ran again, by its place
pub again_at : (setting : Setting) (c : SlotsChange) (base : List Cell) (entries : List Entry) (place : ℕ) (was : Entry) (rows : List Cell) (r : Result Rerun NoMemory) → place < length entries → was ≡ get_or entries place was
    → rows ≡ rows_after base (take place entries) → IfOk r (λ again. IsAgain setting c rows was again)
    → IfOk r (λ again. (d : Entry) → IsAgain setting c (rows_after base (take place entries)) (get_or entries place d) again)
again_at setting c base entries place was rows (Ok again) l read before h = λ d.
    let A : List Cell → Entry → Type 0 = λ rs e. IsAgain setting c rs e again in
    let B : List Cell → Type 0 = λ rs. A rs was in
    subst (A (rows_after base (take place entries))) (read ∙ get_or_default entries place was d l) (subst B before h)
again_at setting c base entries place was rows (Err e) l read before h = tt

abbrev pub ok : Stepped → Result Stepped NoMemory
ok answer = Ok answer

-- a step that ran isn't idle
pub not_idle : (entries : List Entry) (place : ℕ) (answered : Bool) (answer : Stepped) → place < length entries → ((d : Entry) → answer ≡ Ran (get_or entries place d).id answered)
    → ok answer ≡ ok Idle → ⊥
not_idle entries place answered answer l told idle =
    let ran = told (entry_at entries place l).0 in
    cc
