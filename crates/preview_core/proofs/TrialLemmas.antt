-- Orders tried one behind another.
use Rattle.std.proofs.Common.{◌≡◌, ℕ, ◌+◌, ◌<◌, ◌≤◌, ◌⊎◌, ◌^◌, Bool, true, false, List, [], ◌∷◌, length, Option, Some, None, Result, Ok, Err, refl, sym, ap, ◌∙◌, subst, inl, inr, arith}
use Rattle.std.proofs.lemmas.Bool.{cases_lt}
use Rattle.lang_base.specs.Memory.{Unless}
use Rattle.lang_core.specs.declared.inputs.Inputs.{Inputs}
use Rattle.journal_rows.specs.Words.{ordered}
use Rattle.journal_rows.specs.declared.orders.Command.{Command}
use Rattle.journal_rows.specs.declared.orders.OrderedRow.{OrderedRow}
use Rattle.journal_rows.specs.declared.row.Row.{Row}
use Rattle.service_events.specs.Doing.{Does, order_memory}
use Rattle.service_events.specs.Orders.{order_by, order_event, order_where, refused}
use Rattle.service_events.specs.State.{Kept, After}
use Rattle.service_events.specs.declared.answers.Ordered.{Ordered}
use Rattle.service_events.specs.declared.refusals.OrderRefused.{OrderRefused}
use Rattle.service_events.specs.declared.refusals.OrderRefused.TheVariants.{NoMemory, NoSuchRequest, Denied, Full, NotHeld, NotOutside, TooOld, NotQuiet, NoSuchProgram}
use Rattle.preview_core.specs.Previews.{preview_memory}
use Rattle.preview_core.specs.Trials.{AreTried, GoesOn, IsNextFree, RefusedTrial, Tried, TriesAll, TriesAt, command_of, is_free, no_inputs, refused_at, token, trial_event}
use Rattle.preview_core.specs.declared.refused.PreviewRefused.{PreviewRefused}
use Rattle.preview_core.specs.declared.trial.Trial.{Trial}
use Rattle.preview_core.specs.declared.trial.Trial.TheVariants.{Cancel, Restore, Replace, Correct}

-- ---- tokens

-- those behind the last number, up to this one, are taken
pub record AreTaken (journal : List Row) (last n : ℕ) : Type 0 where
  pub behind : last ≤ n
  pub taken : (m : ℕ) → last < m → m ≤ n → is_free journal m ≡ false

pub none_taken : (journal : List Row) (last : ℕ) → AreTaken journal last last
none_taken journal last = record { behind = omega arith; taken = λ m above within. absurd (omega (arith, above, within)) }

pub one_taken : (journal : List Row) (last n : ℕ) → AreTaken journal last n → is_free journal (n + 1) ≡ false → AreTaken journal last (n + 1)
one_taken journal last n h is = record {
  behind = (let b = h.behind in omega (arith, b));
  taken = λ m above most. by m (cases_lt n m) above most;
}
  where
    by : (m : ℕ) → (n < m) ⊎ (m ≤ n) → last < m → m ≤ n + 1 → is_free journal m ≡ false
    by m (inr within) above most = h.taken m above within
    by m (inl beyond) above most = (let same : n + 1 ≡ m = omega (arith, beyond, most) in subst (λ k. is_free journal k ≡ false) same is)

pub next_free : (journal : List Row) (last n : ℕ) → AreTaken journal last n → n + 1 < 2 ^ 64 → is_free journal (n + 1) ≡ true → IsNextFree journal last (n + 1)
next_free journal last n h counted is = record {
  behind = (let b = h.behind in omega (arith, b));
  counted = counted;
  free = is;
  first = λ m above below. h.taken m above (omega (arith, below));
}

-- ---- what a trial draws

by_same : (s : Kept) (t : Trial) (tok who : List ℕ) (i j : Inputs) (w : Option OrderRefused) → order_by s (command_of t) tok who i w ≡ order_by s (command_of t) tok who j w
by_same s t tok who i j (Some why) = refl
by_same s (Cancel id) tok who i j None = refl
by_same s (Restore id) tok who i j None = refl
by_same s (Replace id method path body) tok who i j None = refl
by_same s (Correct k p) tok who i j None = refl

where_same : (s : Kept) (t : Trial) (tok who : List ℕ) (i j : Inputs) (o : Option OrderedRow) → order_where s (command_of t) tok who i o ≡ order_where s (command_of t) tok who j o
where_same s t tok who i j (Some o) = refl
where_same s t tok who i j None = by_same s t tok who i j (refused s (command_of t) who)

-- an order that makes no request does the same whatever is drawn for it
pub order_is : (s now : Kept) (t : Trial) (command : Command) (tok w who : List ℕ) (i : Inputs) (r : Result Ordered OrderRefused) → command ≡ command_of t → w ≡ who
    → Does order_memory (order_event s command tok w i) s r now → Does order_memory (order_event s (command_of t) tok who no_inputs) s r now
order_is s now t command tok w who i r is same does =
    let D : After (Result Ordered OrderRefused) → Type 0 = λ e. Does order_memory e s r now in
    let C : Command → Type 0 = λ c. D (order_event s c tok w i) in
    let W : List ℕ → Type 0 = λ u. D (order_event s (command_of t) tok u i) in
    subst D (where_same s t tok who i no_inputs (ordered tok s.journal)) (subst W same (subst C is does))

-- ---- one trial

module _ (journal : List Row) (who : List ℕ) (at last : ℕ) (s now : Kept) (t : Trial) (n : ℕ) (tok : List ℕ) (next : IsNextFree journal last n) (is : tok ≡ token n) where
  abbrev named : After (Result Ordered OrderRefused) → Type 0
  named e = order_event s (command_of t) tok who no_inputs ≡ e

  same_event : order_event s (command_of t) tok who no_inputs ≡ trial_event who s t n
  same_event = ap (λ x. order_event s (command_of t) x who no_inputs) is

  pub accepted : (o : Ordered) → Does order_memory (order_event s (command_of t) tok who no_inputs) s (Ok o) now → TriesAt journal who at last s t (Ok n) now
  accepted o does = (next, o, does ∙ same_event)

  pub refused_trial : (why : OrderRefused) → Does order_memory (order_event s (command_of t) tok who no_inputs) s (Err why) now
      → Unless (preview_memory (refused_at at why)) (TriesAt journal who at last s t (Err (refused_at at why)) now) Unit
  refused_trial NoMemory does = tt
  refused_trial (NoSuchRequest id) does = (n, next, NoSuchRequest id, sym (ap (λ (e : After (Result Ordered OrderRefused)). e.answer) (does ∙ same_event)), refl)
  refused_trial (Denied rule) does = (n, next, Denied rule, sym (ap (λ (e : After (Result Ordered OrderRefused)). e.answer) (does ∙ same_event)), refl)
  refused_trial (Full much) does = (n, next, Full much, sym (ap (λ (e : After (Result Ordered OrderRefused)). e.answer) (does ∙ same_event)), refl)
  refused_trial NotHeld does = (n, next, NotHeld, sym (ap (λ (e : After (Result Ordered OrderRefused)). e.answer) (does ∙ same_event)), refl)
  refused_trial (NotOutside id) does = (n, next, NotOutside id, sym (ap (λ (e : After (Result Ordered OrderRefused)). e.answer) (does ∙ same_event)), refl)
  refused_trial (TooOld id) does = (n, next, TooOld id, sym (ap (λ (e : After (Result Ordered OrderRefused)). e.answer) (does ∙ same_event)), refl)
  refused_trial (NotQuiet id) does = (n, next, NotQuiet id, sym (ap (λ (e : After (Result Ordered OrderRefused)). e.answer) (does ∙ same_event)), refl)
  refused_trial (NoSuchProgram k) does = (n, next, NoSuchProgram k, sym (ap (λ (e : After (Result Ordered OrderRefused)). e.answer) (does ∙ same_event)), refl)

-- ---- all trials

-- whatever the trials that are left come to, that all come to
pub record Trying (journal : List Row) (who : List ℕ) (start : Kept) (trials : List Trial) (at last : ℕ) (now : Kept) (left : List Trial) : Type 0 where
  pub sum : at + length left ≡ length trials
  pub on : (out : Tried) → AreTried journal who at last now left out → AreTried journal who 0 0 start trials out

pub none_tried : (journal : List Row) (who : List ℕ) (start : Kept) (trials : List Trial) → Trying journal who start trials 0 0 start trials
none_tried journal who start trials = record { sum = omega arith; on = λ out h. h }

none_left : (ts : List Trial) → length ts ≡ 0 → ts ≡ []
none_left [] h = refl
none_left (t ∷ ts) h = absurd (omega (arith, h))

unless_more : (b : Bool) {A B : Type 0} → (A → B) → Unless b A Unit → Unless b B Unit
unless_more true f h = tt
unless_more false f h = f h

module _ (journal : List Row) (who : List ℕ) (start : Kept) (trials : List Trial) (at last : ℕ) (now : Kept) (left : List Trial) (h : Trying journal who start trials at last now left) where
  pub one_tried : (t : Trial) (later : List Trial) (n : ℕ) (next : Kept) → left ≡ t ∷ later → TriesAt journal who at last now t (Ok n) next
      → Trying journal who start trials (at + 1) n next later
  one_tried t later n next is tries = record {
    sum = (let whole = h.sum in let more = ap length is in omega (arith, whole, more));
    on = λ out more. h.on out (subst (λ ts. AreTried journal who at last now ts out) (sym is) (inl (n, tries.0, goes out more)));
  }
    where
      goes : (out : Tried) → AreTried journal who (at + 1) n next later out
          → GoesOn (trial_event who now t n).answer (AreTried journal who (at + 1) n (trial_event who now t n).service later out) at out
      goes out more =
          let G : After (Result Ordered OrderRefused) → Type 0 = λ e. GoesOn e.answer (AreTried journal who (at + 1) n e.service later out) at out in
          subst G tries.2 more

  pub one_refused : (D : Type 0) (t : Trial) (later : List Trial) (why : PreviewRefused) (next end : Kept) → left ≡ t ∷ later
      → Unless (preview_memory why) (TriesAt journal who at last now t (Err why) next) Unit → Unless (preview_memory why) (TriesAll {D = D} journal who start trials (Err why) end) Unit
  one_refused D t later why next end is tries = unless_more (preview_memory why) told tries
    where
      told : TriesAt journal who at last now t (Err why) next → TriesAll {D = D} journal who start trials (Err why) end
      told f =
          let r : RefusedTrial = record { at = at; refused = f.2 } in
          let G : Result Ordered OrderRefused → Type 0 = λ a. GoesOn a (AreTried journal who (at + 1) f.0 (trial_event who now t f.0).service later (Err r)) at (Err r) in
          (r, f.4, h.on (Err r) (subst (λ ts. AreTried journal who at last now ts (Err r)) (sym is) (inl (f.0, f.1, subst G (sym f.3) refl))))

  pub all_tried : {D : Type 0} (done : D) → length left ≡ 0 → TriesAll {D = D} journal who start trials (Ok done) now
  all_tried done none = h.on (Ok now) (subst (λ ts. AreTried journal who at last now ts (Ok now)) (sym (none_left left none)) refl)

-- ---- what trials leave

order_keeps : (s : Kept) (t : Trial) (tok who : List ℕ) (i : Inputs) (o : Option OrderedRow) (w : Option OrderRefused) → refused s (command_of t) who ≡ w
    → (order_where s (command_of t) tok who i o).service.registers ≡ s.registers
order_keeps s t tok who i (Some o) w is = refl
order_keeps s t tok who i None (Some why) is = ap (λ x. (order_by s (command_of t) tok who i x).service.registers) is
order_keeps s (Cancel id) tok who i None None is = ap (λ x. (order_by s (command_of (Cancel id)) tok who i x).service.registers) is
order_keeps s (Restore id) tok who i None None is = ap (λ x. (order_by s (command_of (Restore id)) tok who i x).service.registers) is
order_keeps s (Replace id method path body) tok who i None None is = ap (λ x. (order_by s (command_of (Replace id method path body)) tok who i x).service.registers) is
order_keeps s (Correct k p) tok who i None None is = ap (λ x. (order_by s (command_of (Correct k p)) tok who i x).service.registers) is

trial_keeps : (who : List ℕ) (s : Kept) (t : Trial) (n : ℕ) → (trial_event who s t n).service.registers ≡ s.registers
trial_keeps who s t n = order_keeps s t (token n) who no_inputs (ordered (token n) s.journal) (refused s (command_of t) who) refl

-- no trial changes a register
pub trials_keep : (journal : List Row) (who : List ℕ) (at last : ℕ) (s : Kept) (ts : List Trial) (now : Kept) → AreTried journal who at last s ts (Ok now) → now.registers ≡ s.registers
trials_keep journal who at last s [] now same = (let is : now ≡ s = cc in ap (λ (k : Kept). k.registers) is)
trials_keep journal who at last s (t ∷ ts) now (inr none) = let no = none.1 in cc
trials_keep journal who at last s (t ∷ ts) now (inl h) =
    by (trial_event who s t h.0).answer h.2 (λ more. trials_keep journal who (at + 1) h.0 (trial_event who s t h.0).service ts now more)
  where
    by : (a : Result Ordered OrderRefused) → GoesOn a (AreTried journal who (at + 1) h.0 (trial_event who s t h.0).service ts (Ok now)) at (Ok now)
        → (AreTried journal who (at + 1) h.0 (trial_event who s t h.0).service ts (Ok now) → now.registers ≡ (trial_event who s t h.0).service.registers) → now.registers ≡ s.registers
    by (Ok o) more on = on more ∙ trial_keeps who s t h.0
    by (Err why) none on = cc
