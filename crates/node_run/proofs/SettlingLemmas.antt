-- Repair steps until one is idle, and services that come to rest one behind another.
use Rattle.std.proofs.Common.{◌≡◌, ℕ, ◌+◌, ◌-◌, ◌<◌, ◌≤◌, Bool, true, false, cond, List, [], ◌∷◌, ◌++◌, Option, Some, None, IfSome, find, length, take, refl, sym, ap, ◌∙◌, subst, inl, inr, nat_eq, nat_lt, eq-eqb, arith}
use Rattle.std.specs.Option.{option_map_or}
use Rattle.std.proofs.Math.ListN.{length-set}
use Rattle.std.proofs.Math.Seq.{take-length}
use Rattle.std.proofs.lemmas.Bool.{cases_Bool}
use Rattle.std.proofs.lemmas.Bool.Decides.{nat_tests}
use Rattle.std.proofs.lemmas.List.{append-nil, append_assoc}
use Rattle.local_repair.specs.Current.{AllCurrent}
use Rattle.local_repair.specs.declared.stepped.Stepped.{Stepped}
use Rattle.local_repair.specs.declared.stepped.Stepped.TheVariants.{Idle, Ran}
use Rattle.call_registers.specs.Registers.{CountFrom, IsNumbered, IsTimely, has_number, register}
use Rattle.call_registers.specs.declared.register.Answer.{Answer}
use Rattle.call_registers.specs.declared.register.Register.{Register}
use Rattle.service_events.specs.Commits.{live_rows}
use Rattle.service_events.specs.Progress.{GoesFurther, IsLocalStep}
use Rattle.service_events.specs.State.{After, Kept, after, answers, base, unfolded}
use Rattle.service_events.specs.Steps.{Stale, answer_rows, new_record, sent_rows, stale_in, step_by, step_event}
use Rattle.service_events.proofs.SearchLemmas.{none_mid, splits}
use Rattle.node_core.proofs.OrderRowLaws.{step_orders_none}
use Rattle.node_core.specs.Orders.{ordered_rows}
use Rattle.node_run.specs.Settled.{GoesOnFrom, HasSettled, HaveSettled, IsAtRest, is_early}
use Rattle.node_run.specs.Stepping.{ComesToRest, HasStepped, has_run}

-- ---- journals that go on

pub goes_none : (s : Kept) → GoesOnFrom s s
goes_none s = record { name = refl; rows = []; is = sym (append-nil s.journal); silent = refl; unordered = refl }

pub goes_more : (s t u : Kept) → GoesOnFrom s t → GoesOnFrom t u → GoesOnFrom s u
goes_more s t u first second = record {
  name = second.name ∙ first.name;
  rows = first.rows ++ second.rows;
  is = second.is ∙ (ap (λ xs. xs ++ second.rows) first.is ∙ append_assoc s.journal first.rows second.rows);
  silent = second.silent ∙ first.silent;
  unordered = second.unordered ∙ first.unordered;
}

-- ---- a repair step

goes_by : (s : Kept) (o : Option Stale) → live_rows (step_by s o).service.journal ≡ live_rows s.journal
    → ordered_rows (step_by s o).service.journal ≡ ordered_rows s.journal → GoesOnFrom s (step_by s o).service
goes_by s None silent unordered = goes_none s
goes_by s (Some x) silent unordered =
    let m = new_record s x.rows x.entry in
    record { name = refl; rows = sent_rows s x.entry m ++ answer_rows x.entry m; is = refl; silent = silent; unordered = unordered }

many_by : (s t : Kept) (stepped : Stepped) → IsLocalStep s stepped t → length (unfolded t) ≡ length (unfolded s)
many_by s t Idle local = ap length local.1
many_by s t (Ran id answered) local = ap length local.rest ∙ length-set (unfolded s) local.place local.entry

idle_by : (s : Kept) (o : Option Stale) → (step_by s o).answer ≡ Idle → (step_by s o).service ≡ s
idle_by s None h = refl
idle_by s (Some x) h = cc

idle_rests : (s t : Kept) (stepped : Stepped) → after t stepped ≡ step_event s → IsLocalStep s stepped t → has_run stepped ≡ false → IsAtRest t
idle_rests s t Idle is local none =
    let first : t ≡ (step_event s).service = ap (λ (a : After Stepped). a.service) is in
    let idle : (step_event s).answer ≡ Idle = sym (ap (λ (a : After Stepped). a.answer) is) in
    subst IsAtRest (sym (first ∙ idle_by s (stale_in (answers s) (base s) (unfolded s)) idle)) local.0
idle_rests s t (Ran id answered) is local none = cc

-- what a repair step says of itself
pub has_stepped : (s t : Kept) (stepped : Stepped) (ran : Bool) → after t stepped ≡ step_event s → IsLocalStep s stepped t → (IsTimely s.registers → GoesFurther s t)
    → live_rows t.journal ≡ live_rows s.journal → ran ≡ has_run stepped → HasStepped s ran t
has_stepped s t stepped ran is local further silent told =
    let first : t ≡ (step_event s).service = ap (λ (a : After Stepped). a.service) is in
    let L : Kept → Type 0 = λ k. live_rows k.journal ≡ live_rows s.journal in
    record {
      goes = subst (GoesOnFrom s) (sym first) (goes_by s (stale_in (answers s) (base s) (unfolded s)) (subst L first silent) (step_orders_none s));
      many = many_by s t stepped local;
      further = further;
      idle = λ none. idle_rests s t stepped is local (sym told ∙ none);
    }

-- ---- the way to rest

-- the service is timely, and none of the first so many entries is stale; with the steps that are left these are all
pub record IsAhead (now : Kept) (left : ℕ) : Type 0 where
  pub timely : IsTimely now.registers
  pub far : ℕ
  pub current : AllCurrent (answers now) (base now) (take far (unfolded now))
  pub sum : left + far ≡ length (unfolded now)

pub record Going (start now : Kept) (left : ℕ) : Type 0 where
  pub goes : GoesOnFrom start now
  pub ahead : IsTimely start.registers → IsAhead now left

pub going_none : (s : Kept) → Going s s (length (unfolded s))
going_none s = record {
  goes = goes_none s;
  ahead = λ timely. record { timely = timely; far = 0; current = tt; sum = omega arith };
}

ahead_by : (now next : Kept) (left : ℕ) (ran : Bool) → 0 < left → HasStepped now ran next → IsAhead now left → IsAhead next (cond ran (left - 1) 0)
ahead_by now next left true some step a = record {
  timely = (step.further a.timely).timely;
  far = a.far + 1;
  current = (step.further a.timely).further a.far a.current;
  sum = (let many = step.many in let whole = a.sum in omega (arith, many, whole, some));
}
ahead_by now next left false some step a = record {
  timely = (step.further a.timely).timely;
  far = length (unfolded next);
  current = subst (AllCurrent (answers next) (base next)) (sym (take-length (unfolded next))) (step.idle refl);
  sum = omega arith;
}

pub going_step : (start now next : Kept) (left : ℕ) (ran : Bool) → 0 < left → Going start now left → HasStepped now ran next → Going start next (cond ran (left - 1) 0)
going_step start now next left ran some g step = record {
  goes = goes_more start now next g.goes step.goes;
  ahead = λ timely. ahead_by now next left ran some step (g.ahead timely);
}

pub going_done : (start now : Kept) (left : ℕ) → left ≡ 0 → Going start now left → ComesToRest start now
going_done start now left none g = record {
  goes = g.goes;
  timely = λ timely. (g.ahead timely).timely;
  rests = λ timely. (let a = g.ahead timely in
      let all : a.far ≡ length (unfolded now) = (let whole = a.sum in omega (arith, whole, none)) in
      subst (AllCurrent (answers now) (base now)) (ap (λ n. take n (unfolded now)) all ∙ take-length (unfolded now)) a.current);
}

-- ---- whether a service is timely

in_time : (r : Register) (o : Option Answer) → option_map_or (λ (a : Answer). nat_lt r.version a.version) o false ≡ false
    → IfSome o (λ (a : Answer). a.version ≤ r.version)
in_time r None h = tt
in_time r (Some a) h = grind (arith, nat_tests)

pub timely : (registers : List Register) → find is_early registers ≡ None → IsTimely registers
timely registers none number = by (register number registers) refl
  where
    by : (o : Option Register) → register number registers ≡ o → IfSome o (λ (r : Register). IfSome r.answer (λ (a : Answer). a.version ≤ r.version))
    by None is = tt
    by (Some r) is =
        let at = splits (has_number number) registers r is in
        in_time r r.answer (none_mid is_early at.before r at.rest (subst (λ rs. find is_early rs ≡ None) at.is none))

late_answer : (r : Register) (o : Option Answer) → option_map_or (λ (a : Answer). nat_lt r.version a.version) o false ≡ true
    → IfSome o (λ (a : Answer). a.version ≤ r.version) → ⊥
late_answer r None h g = cc
late_answer r (Some a) h g = grind (arith, nat_tests)

-- it has its number alone
record IsFound (n : ℕ) (registers : List Register) (r : Register) : Type 0 where
  above : n ≤ r.number
  found : register r.number registers ≡ Some r
  early : is_early r ≡ true

early_found : (n : ℕ) (registers : List Register) (r : Register) → CountFrom n registers → find is_early registers ≡ Some r → IsFound n registers r
early_found n [] r numbered found = cc
early_found n (x ∷ xs) r numbered found = elim (cases_Bool (is_early x)) [
  | inl here ↦ (let same : x ≡ r = cc in
      let F : Register → Type 0 = λ y. IsFound n (x ∷ xs) y in
      subst F same (record { above = (let first = numbered.0 in omega (arith, first)); found = rw (eq-eqb x.number x.number refl) refl; early = here }))
  | inr other ↦ (let later : find is_early xs ≡ Some r = rw other at found in
      let more = early_found (n + 1) xs r numbered.1 later in
      let differs : nat_eq x.number r.number ≡ false = (let first = numbered.0 in let above = more.above in grind (arith, nat_tests)) in
      record { above = (let above = more.above in omega (arith, above)); found = rw differs more.found; early = more.early })
]

pub untimely : (registers : List Register) (r : Register) → IsNumbered registers → find is_early registers ≡ Some r → IsTimely registers → ⊥
untimely registers r numbered found timely =
    let is = early_found 1 registers r numbered found in
    let T : Option Register → Type 0 = λ o. IfSome o (λ (r : Register). IfSome r.answer (λ (a : Answer). a.version ≤ r.version)) in
    late_answer r r.answer is.early (subst T is.found (timely r.number))

-- ---- services one behind another

pub rested : (s t : Kept) → ComesToRest s t → (IsTimely t.registers → ⊥) → HasSettled s t
rested s t c none = record { goes = c.goes; rests = λ timely. absurd (none timely) }

pub rested_again : (s t u : Kept) → ComesToRest s t → IsTimely t.registers → ComesToRest t u → HasSettled s u
rested_again s t u first timely second = record { goes = goes_more s t u first.goes second.goes; rests = λ _. second.rests timely }

pub settled_more : (ss ts : List Kept) (s t : Kept) → HaveSettled ss ts → HasSettled s t → HaveSettled (ss ++ s ∷ []) (ts ++ t ∷ [])
settled_more [] [] s t have has = (has, tt)
settled_more [] (y ∷ ts) s t have has = absurd have
settled_more (x ∷ ss) [] s t have has = absurd have
settled_more (x ∷ ss) (y ∷ ts) s t have has = (have.0, settled_more ss ts s t have.1 has)

pub settled_next : (ss ts us : List Kept) (s t : Kept) → us ≡ ts ++ t ∷ [] → HaveSettled ss ts → HasSettled s t → HaveSettled (ss ++ s ∷ []) us
settled_next ss ts us s t is have has = subst (HaveSettled (ss ++ s ∷ [])) (sym is) (settled_more ss ts s t have has)
