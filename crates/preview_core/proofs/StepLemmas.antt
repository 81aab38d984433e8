-- Repair steps until one is idle.
use Rattle.std.proofs.Common.{◌≡◌, ℕ, suc, ◌+◌, ◌-◌, ◌<◌, ◌≤◌, Bool, true, false, cond, List, [], ◌∷◌, ◌++◌, Option, Some, None, IsSome, All, find, length, map, option_map, set, take, refl, sym, ap, ◌∙◌, subst, inl, inr, nat_eq, eq-eqb, eqb-true, length-append, arith}
use Rattle.std.specs.List.{position_or_len}
use Rattle.std.proofs.Math.Seq.{take-length}
use Rattle.std.proofs.lemmas.Bool.{cases_Bool}
use Rattle.std.proofs.lemmas.List.{map-append}
use Rattle.std.proofs.lemmas.List.Elements.{All-cons, All-nil}
use Rattle.lang_core.specs.declared.cells.Cell.{Cell}
use Rattle.request_log.specs.Entries.{has_id, IsDistinct, with_entry}
use Rattle.request_log.specs.Records.{Record, record_in}
use Rattle.request_log.specs.declared.entry.Entry.{Entry}
use Rattle.request_log.specs.declared.entry.Made.{Made}
use Rattle.local_repair.specs.Current.{AllCurrent, after_entry}
use Rattle.local_repair.specs.Steps.{StepsTo, remade}
use Rattle.local_repair.specs.Tests.{is_current, step_with}
use Rattle.local_repair.specs.declared.stepped.Stepped.{Stepped}
use Rattle.local_repair.specs.declared.stepped.Stepped.TheVariants.{Idle, Ran}
use Rattle.local_repair.proofs.TestLemmas.{stale_id_none}
use Rattle.call_registers.specs.Registers.{IsTimely}
use Rattle.service_events.specs.Fits.{Fits}
use Rattle.service_events.specs.Progress.{changes}
use Rattle.service_events.specs.State.{Kept, answers, base, folded, unfolded}
use Rattle.service_events.specs.Steps.{Stale, new_numbers, new_record, stale_in, step_by, step_event}
use Rattle.service_events.proofs.CallLaws.{IsFew}
use Rattle.service_events.proofs.HorizonLemmas.{all_entries}
use Rattle.service_events.proofs.StepForms.{Names, run_again, step_entries, step_names}
use Rattle.service_core.proofs.HandedOn.{step_as_many, step_further, step_steps, step_timely}
use Rattle.preview_core.specs.Repairs.{Asks, HasRepaired, HasRun, HaveRun, IsNoted, all_asks, asks, response_in, response_of}

-- ---- which entries ran

pub has_run_more : (s now : Kept) (ids : List ℕ) (id : ℕ) → HaveRun s ids now → HasRun id (step_event now).answer → HaveRun s (ids ++ id ∷ []) (step_event now).service
has_run_more s now [] id same ran =
    let R : Kept → Type 0 = λ k. HasRun id (step_event k).answer in (subst R same ran, ap (λ (k : Kept). (step_event k).service) same)
has_run_more s now (first ∷ ids) id h ran = (h.0, has_run_more (step_event s).service now ids id h.1 ran)

-- ---- what no step changes

asks_with : (s : Kept) (rows : List Cell) (es : List Entry) → map asks (step_with (answers s) (run_again s) rows es) ≡ map asks es
asks_with s rows [] = refl
asks_with s rows (e ∷ es) = elim (cases_Bool (is_current (answers s) rows e)) [
  | inl current ↦ rw current (ap (λ xs. asks e ∷ xs) (asks_with s (after_entry rows e) es))
  | inr stale ↦ rw stale refl
]

step_asks : (s : Kept) → IsDistinct s.entries → all_asks (step_event s).service ≡ all_asks s
step_asks s apart =
    let left = step_with (answers s) (run_again s) (base s) (unfolded s) in
    ap (map asks) (step_entries s apart)
    ∙ map-append asks (folded s) left
    ∙ ap (λ (later : List Asks). map asks (folded s) ++ later) (asks_with s (base s) (unfolded s))
    ∙ sym (map-append asks (folded s) (unfolded s))
    ∙ ap (map asks) (all_entries s)

-- ---- what an entry that ran answers

with_later : (e : Entry) (es : List Entry) (y : Entry) → nat_eq e.id y.id ≡ false → with_entry y (e ∷ es) ≡ e ∷ with_entry y es
with_later e es y other =
    let k = position_or_len (has_id y.id) es in
    let same : 1 + k ≡ suc k = omega arith in
    rw other (subst (λ j. set (e ∷ es) j y ≡ e ∷ set es k y) (sym same) refl)

found_put : (id : ℕ) (es : List Entry) (y : Entry) → y.id ≡ id → IsSome (find (has_id id) es) → find (has_id id) (with_entry y es) ≡ Some y
found_put id [] y same some = cc
found_put id (e ∷ es) y same some = elim (cases_Bool (nat_eq e.id y.id)) [
  | inl here ↦ rw (here, eq-eqb y.id id same) refl
  | inr other ↦ (let differs : nat_eq e.id id ≡ false = subst (λ k. nat_eq e.id k ≡ false) same other in
      let later : IsSome (find (has_id id) es) = rw differs at some in
      ap (find (has_id id)) (with_later e es y other) ∙ rw differs (found_put id es y same later))
]

other_put : (id : ℕ) (es : List Entry) (y : Entry) → nat_eq y.id id ≡ false → find (has_id id) (with_entry y es) ≡ find (has_id id) es
other_put id [] y differs = refl
other_put id (e ∷ es) y differs = elim (cases_Bool (nat_eq e.id y.id)) [
  | inl here ↦ (let gone : nat_eq e.id id ≡ false = subst (λ k. nat_eq k id ≡ false) (sym (eqb-true e.id y.id here)) differs in rw (here, differs, gone) refl)
  | inr other ↦ ap (find (has_id id)) (with_later e es y other) ∙ ap (cond (nat_eq e.id id) (Some e)) (other_put id es y differs)
]

found_some : (o : Option Entry) → IsSome (response_in o) → IsSome o
found_some None h = h
found_some (Some e) h = refl

made_some : (y : Entry) (m : Made) → y.made ≡ Some m → IsSome (response_in (Some y))
made_some y m is = subst (λ o. IsSome (option_map (λ (r : Record). r.response) (option_map record_in o))) (sym is) refl

put_keeps : (id : ℕ) (es : List Entry) (y : Entry) (m : Made) → y.made ≡ Some m → IsSome (response_in (find (has_id id) es)) → IsSome (response_in (find (has_id id) (with_entry y es)))
put_keeps id es y m made some = elim (cases_Bool (nat_eq y.id id)) [
  | inl same ↦ subst (λ o. IsSome (response_in o)) (sym (found_put id es y (eqb-true y.id id same) (found_some (find (has_id id) es) some))) (made_some y m made)
  | inr other ↦ subst (λ o. IsSome (response_in o)) (sym (other_put id es y other)) some
]

stale_there : (s : Kept) (rows : List Cell) (es : List Entry) (x : Stale) → stale_in (answers s) rows es ≡ Some x → IsSome (find (has_id (x.entry).id) es)
stale_there s rows [] x is = cc
stale_there s rows (e ∷ es) x is = elim (cases_Bool (is_current (answers s) rows e)) [
  | inl current ↦ either (nat_eq e.id (x.entry).id) (stale_there s (after_entry rows e) es x (rw current at is))
  | inr stale ↦ (let here : Some (record { entry = e; rows = rows }) ≡ Some x = rw stale at is in
      let it : record { entry = e; rows = rows } ≡ x = cc in
      rw (eq-eqb e.id (x.entry).id (ap (λ (y : Stale). (y.entry).id) it)) refl)
]
  where
    either : (b : Bool) → IsSome (find (has_id (x.entry).id) es) → IsSome (cond b (Some e) (find (has_id (x.entry).id) es))
    either true some = refl
    either false some = some

-- what is found is found behind others too, or something before it is
there_behind : (p : Entry → Bool) (front back : List Entry) → IsSome (find p back) → IsSome (find p (front ++ back))
there_behind p [] back some = some
there_behind p (e ∷ es) back some = either (p e) (there_behind p es back some)
  where
    either : (b : Bool) → IsSome (find p (es ++ back)) → IsSome (cond b (Some e) (find p (es ++ back)))
    either true some = refl
    either false some = some

-- it has a response then
step_responds : (s : Kept) (id : ℕ) → HasRun id (step_event s).answer → IsSome (response_of id (step_event s).service)
step_responds s id ran = by (stale_in (answers s) (base s) (unfolded s)) refl ran
  where
    by : (o : Option Stale) → stale_in (answers s) (base s) (unfolded s) ≡ o → HasRun id (step_by s o).answer → IsSome (response_of id (step_by s o).service)
    by None is ran = absurd ran
    by (Some x) is ran =
        let m = new_record s x.rows x.entry in
        let y = remade x.entry m (new_numbers s x.entry m) in
        let behind : IsSome (find (has_id id) (unfolded s)) = subst (λ k. IsSome (find (has_id k) (unfolded s))) ran (stale_there s (base s) (unfolded s) x is) in
        let There : List Entry → Type 0 = λ es. IsSome (find (has_id id) es) in
        let there : There s.entries = subst There (all_entries s) (there_behind (has_id id) (folded s) (unfolded s) behind) in
        subst (λ o. IsSome (response_in o)) (sym (found_put id s.entries y ran there)) refl

-- and keeps one
step_keeps : (s : Kept) (id : ℕ) → IsSome (response_of id s) → IsSome (response_of id (step_event s).service)
step_keeps s id some = by (stale_in (answers s) (base s) (unfolded s))
  where
    by : (o : Option Stale) → IsSome (response_of id (step_by s o).service)
    by None = some
    by (Some x) =
        let m = new_record s x.rows x.entry in
        put_keeps id s.entries (remade x.entry m (new_numbers s x.entry m)) m refl some

run_keeps : (s now : Kept) (ids : List ℕ) (id : ℕ) → HaveRun s ids now → IsSome (response_of id s) → IsSome (response_of id now)
run_keeps s now [] id same some = subst (λ k. IsSome (response_of id k)) (sym same) some
run_keeps s now (ran ∷ ids) id h some = run_keeps (step_event s).service now ids id h.1 (step_keeps s id some)

-- each entry that ran has a response at the end
pub run_responds : (s now : Kept) (ids : List ℕ) → HaveRun s ids now → All (λ id. IsSome (response_of id now)) ids
run_responds s now [] h = All-nil (λ id. IsSome (response_of id now))
run_responds s now (id ∷ ids) h =
    All-cons (λ n. IsSome (response_of n now)) id ids (run_keeps (step_event s).service now ids id h.1 (step_responds s id h.0))
    (run_responds (step_event s).service now ids h.1)

-- ---- an idle step

idle_by : (s : Kept) (o : Option Stale) → (step_by s o).answer ≡ Idle → (step_by s o).service ≡ s
idle_by s None e = refl
idle_by s (Some x) e = cc

idle_same : (s : Kept) → (step_event s).answer ≡ Idle → (step_event s).service ≡ s
idle_same s e = idle_by s (stale_in (answers s) (base s) (unfolded s)) e

idle_current : (s : Kept) → Fits s → IsFew (step_event s).service → (step_event s).answer ≡ Idle → AllCurrent (answers s) (base s) (unfolded s)
idle_current s f few e =
    let S : Stepped → Type 0 = λ a. StepsTo s.setting (changes s (step_event s).service) (base s) (unfolded s) a (unfolded (step_event s).service) in
    (subst S e (step_steps s f few)).0

current_idle : (s : Kept) → AllCurrent (answers s) (base s) (unfolded s) → (step_event s).answer ≡ Idle
current_idle s current = subst (λ o. Names o (step_event s).answer) (sym (stale_id_none (answers s) (base s) (unfolded s) current)) (step_names s)

-- ---- the way

-- Entries ran, and none of the first so many entries that aren't folded is stale now; with the steps that are left these are all.
pub record Going (start now : Kept) (ids : List ℕ) (left : ℕ) : Type 0 where
  pub ran : HaveRun start ids now
  pub same : all_asks now ≡ all_asks start
  pub timely : IsTimely now.registers
  pub far : ℕ
  pub current : AllCurrent (answers now) (base now) (take far (unfolded now))
  pub sum : left + far ≡ length (unfolded now)
  pub most : length ids + left ≤ length (unfolded start)

pub going_none : (s : Kept) → IsTimely s.registers → Going s s [] (length (unfolded s))
going_none s timely = record {
  ran = refl;
  same = refl;
  timely = timely;
  far = 0;
  current = tt;
  sum = omega arith;
  most = omega arith;
}

module _ (start now next : Kept) (ids then : List ℕ) (left : ℕ) (g : Going start now ids left) (f : Fits now) (few : IsFew next) (is : next ≡ (step_event now).service) where
  few_next : IsFew (step_event now).service
  few_next = subst IsFew is few

  -- an entry ran
  module _ (id : ℕ) (ran : HasRun id (step_event now).answer) (noted : then ≡ ids ++ id ∷ []) (some : 0 < left) where
    same_asks : all_asks (step_event now).service ≡ all_asks now
    same_asks = step_asks now f.asked.distinct

    on : Going start (step_event now).service (ids ++ id ∷ []) (left - 1)
    on = record {
      ran = has_run_more start now ids id g.ran ran;
      same = same_asks ∙ g.same;
      timely = step_timely now f few_next g.timely;
      far = suc g.far;
      current = step_further now f few_next g.timely g.far g.current;
      sum = (let many = step_as_many now f few_next in let whole = g.sum in omega (arith, many, whole, some));
      most = (let long = length-append ids (id ∷ []) in let m = g.most in omega (arith, long, m, some));
    }

    pub going_on : Going start next then (left - 1)
    going_on =
        let G : Kept → Type 0 = λ k. Going start k then (left - 1) in
        subst G (sym is) (subst (λ xs. Going start (step_event now).service xs (left - 1)) (sym noted) on)

  -- none did
  module _ (idle : (step_event now).answer ≡ Idle) (noted : then ≡ ids) where
    whole : take (length (unfolded now)) (unfolded now) ≡ unfolded now
    whole = take-length (unfolded now)

    at_rest : Going start now ids 0
    at_rest = record {
      ran = g.ran;
      same = g.same;
      timely = g.timely;
      far = length (unfolded now);
      current = subst (AllCurrent (answers now) (base now)) (sym whole) (idle_current now f few_next idle);
      sum = omega arith;
      most = (let m = g.most in omega (arith, m));
    }

    pub going_idle : Going start next then 0
    going_idle =
        let G : Kept → Type 0 = λ k. Going start k then 0 in
        subst G (sym (is ∙ idle_same now idle)) (subst (λ xs. Going start now xs 0) (sym noted) at_rest)

  -- by what a step answers
  noted_by : (a : Stepped) (b : Bool) → (step_event now).answer ≡ a → IsNoted a ids then b → 0 < left → Going start next then (cond b (left - 1) 0)
  noted_by Idle b e n some = subst (λ c. Going start next then (cond c (left - 1) 0)) (sym n.0) (going_idle e n.1)
  noted_by (Ran id answered) b e n some =
      let R : Stepped → Type 0 = λ a. HasRun id a in
      subst (λ c. Going start next then (cond c (left - 1) 0)) (sym n.0) (going_on id (subst R (sym e) refl) n.1 some)

  pub going_step : (b : Bool) → IsNoted (step_event now).answer ids then b → 0 < left → Going start next then (cond b (left - 1) 0)
  going_step b n some = noted_by (step_event now).answer b refl n some

-- ---- all of it

pub going_done : (start now : Kept) (ids : List ℕ) (left : ℕ) → left ≡ 0 → Going start now ids left → HasRepaired start ids now
going_done start now ids left none g =
    let all : g.far ≡ length (unfolded now) = (let whole = g.sum in omega (arith, whole, none)) in
    let current : AllCurrent (answers now) (base now) (unfolded now) =
    subst (AllCurrent (answers now) (base now)) (ap (λ n. take n (unfolded now)) all ∙ take-length (unfolded now)) g.current in
    record {
      repaired = record { ran = g.ran; idle = current_idle now current };
      current = current;
      answered = run_responds start now ids g.ran;
      most = (let m = g.most in omega (arith, m));
      same = g.same;
    }
