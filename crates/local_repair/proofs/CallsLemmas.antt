-- The answers of calls, one call more.
use Rattle.std.proofs.Common.{◌≡◌, ℕ, suc, ◌+◌, ◌-◌, ◌≤◌, if◌then◌else◌, List, [], ◌∷◌, ◌++◌, Option, Some, None, length, slice_get, refl, sym, ap, ◌∙◌, subst, arith, length-append, append-nil}
use Rattle.lang_core.specs.declared.request.Response.{Response}
use Rattle.lang_core.specs.declared.trace.CallMade.{CallMade}
use Rattle.lang_core.specs.declared.trace.Trace.{Trace}
use Rattle.execution.specs.HandedOn.{calls_of}
use Rattle.execution.specs.HandedOn.{Ran}
use Rattle.execution.specs.HandedOn.{Done, Wants}
use Rattle.local_repair.specs.Current.{Consumed}
use Rattle.local_repair.specs.Steps.{tentative, same_call, consumed_if_same_call, answer_at, answers_for, ended_or, trace_through}
use Rattle.local_repair.proofs.HandlerLemmas.{IsSteady}

no_slot : (consumed : Consumed) (o : Option CallMade) (call : CallMade) → consumed_if_same_call consumed o None call ≡ tentative
no_slot consumed None call = refl
no_slot consumed (Some x) call = refl

pub answers_for-more : (consumed : Consumed) (calls old : List CallMade) (slots : List ℕ) (call : CallMade)
    → answers_for consumed old slots (calls ++ call ∷ []) ≡ answers_for consumed old slots calls ++ answer_at consumed old slots (length calls) call ∷ []
answers_for-more consumed [] [] slots call = refl
answers_for-more consumed [] (o ∷ os) [] call = refl
answers_for-more consumed [] (o ∷ os) (n ∷ ns) call = refl
answers_for-more consumed (x ∷ xs) [] slots call = ap (λ zs. tentative ∷ zs) (answers_for-more consumed xs [] slots call)
answers_for-more consumed (x ∷ xs) (o ∷ os) [] call =
    ap (λ zs. tentative ∷ zs)
    (answers_for-more consumed xs os [] call ∙ ap (λ r. answers_for consumed os [] xs ++ r ∷ [])
    (no_slot consumed (slice_get os (length xs)) call ∙ sym (no_slot consumed (slice_get (o ∷ os) (suc (length xs))) call)))
answers_for-more consumed (x ∷ xs) (o ∷ os) (n ∷ ns) call =
    ap (λ zs. (if same_call o x then consumed n else tentative) ∷ zs) (answers_for-more consumed xs os ns call)

-- what a turn keeps: the answers so far are those of the run's calls
pub record IsTurn (run : List Response → Ran) (consumed : Consumed) (old : List CallMade) (slots : List ℕ) (xs : List Response) (turn : ℕ) : Type 0 where
  pub count : length xs ≡ turn
  pub few : length xs ≤ 16
  pub calls : length (calls_of (run xs)) ≡ length xs
  pub so_far : xs ≡ answers_for consumed old slots (calls_of (run xs))
  -- and with the turns that are left it comes to what it comes to from its start
  pub goes : (left : ℕ) → turn + left ≡ 17 → trace_through left run (answer_at consumed old slots) xs ≡ trace_through 17 run (answer_at consumed old slots) []

pub first_turn : (run : List Response → Ran) → IsSteady run → (consumed : Consumed) (old : List CallMade) (slots : List ℕ) → IsTurn run consumed old slots [] 0
first_turn run s consumed old slots = record {
  count = refl;
  few = omega arith;
  calls = ap length s.starts;
  so_far = sym (ap (λ calls. answers_for consumed old slots calls) s.starts);
  goes = λ left e. (let all : left ≡ 17 = omega (arith, e) in ap (λ n. trace_through n run (answer_at consumed old slots) []) all);
}

-- a run that wants an answer goes on with it
goes_with : (run : List Response → Ran) (answer : ℕ → CallMade → Response) (left : ℕ) (xs : List Response) (slot : ℕ) (calls : List CallMade) (call : CallMade)
    → run xs ≡ Wants slot calls call → trace_through left run answer (xs ++ answer (length xs) call ∷ []) ≡ trace_through (suc left) run answer xs
unfolding trace_through
goes_with run answer left xs slot calls call e = sym (ap (λ r. ended_or r (λ call. trace_through left run answer (xs ++ answer (length xs) call ∷ []))) e)

-- a run that ended has come to its trace
comes_to : (run : List Response → Ran) (answer : ℕ → CallMade → Response) (left : ℕ) (xs : List Response) (t : Trace) → run xs ≡ Done t → trace_through (suc left) run answer xs ≡ t
unfolding trace_through
comes_to run answer left xs t e = ap (λ r. ended_or r (λ call. trace_through left run answer (xs ++ answer (length xs) call ∷ []))) e

pub turn_more : (run : List Response → Ran) → IsSteady run → (consumed : Consumed) (old : List CallMade) (slots : List ℕ) (xs new : List Response) (turn : ℕ)
    (ran : Ran) (slot : ℕ) (calls : List CallMade) (call : CallMade) (x : Response) → ran ≡ run xs → ran ≡ Wants slot calls call
    → x ≡ answer_at consumed old slots (length xs) call → new ≡ xs ++ x ∷ [] → IsTurn run consumed old slots xs turn → IsTurn run consumed old slots new (turn + 1)
turn_more run s consumed old slots xs new turn ran slot calls call x is wants answer pushed t =
    let here : run xs ≡ Wants slot calls call = sym is ∙ wants in
    let bound = s.asks xs slot calls call here in
    let more = s.goes_on xs slot calls call x here in
    let P : List Response → Type 0 = λ zs. IsTurn run consumed old slots zs (turn + 1) in
    subst P (sym pushed) (record {
      count = omega (arith, length-append xs (x ∷ []), t.count);
      few = omega (arith, length-append xs (x ∷ []), bound.0, bound.2);
      calls = ap length more ∙ omega (arith, length-append xs (x ∷ []), length-append calls (call ∷ []), bound.1);
      so_far =
          let before : xs ≡ answers_for consumed old slots calls = t.so_far ∙ ap (λ r. answers_for consumed old slots (calls_of r)) here in
          let now : x ≡ answer_at consumed old slots (length calls) call = answer ∙ ap (λ k. answer_at consumed old slots k call) (sym bound.1) in
          rw (more, answers_for-more consumed calls old slots call)
          (ap (λ ys. ys ++ x ∷ []) before ∙ ap (λ y. answers_for consumed old slots calls ++ y ∷ []) now);
      goes = λ left e.
          ap (λ y. trace_through left run (answer_at consumed old slots) (xs ++ y ∷ [])) answer
          ∙ goes_with run (answer_at consumed old slots) left xs slot calls call here
          ∙ t.goes (suc left) (omega (arith, e));
    })

all_taken : (xs ys rest : List Response) → xs ≡ ys ++ rest → length ys ≡ length xs → ys ≡ xs
all_taken xs ys [] e l = sym (e ∙ append-nil ys)
all_taken xs ys (r ∷ rest) e l = absurd (omega (arith, length-append ys (r ∷ rest), ap length e))

-- a run that ended took all the answers
pub done_takes : (run : List Response → Ran) → IsSteady run → (consumed : Consumed) (old : List CallMade) (slots : List ℕ) (xs : List Response) (turn : ℕ) (t : Trace)
    → IsTurn run consumed old slots xs turn → run xs ≡ Done t → t.answers ≡ xs
done_takes run s consumed old slots xs turn t at done =
    let taken = s.takes xs t done in
    let calls : length t.calls ≡ length xs = ap (λ r. length (calls_of r)) (sym done) ∙ at.calls in
    all_taken xs t.answers taken.0 taken.1 (s.fits xs t done ∙ calls)

pub done_runs : (run : List Response → Ran) → IsSteady run → (consumed : Consumed) (old : List CallMade) (slots : List ℕ) (xs : List Response) (turn : ℕ) (t : Trace)
    → IsTurn run consumed old slots xs turn → run xs ≡ Done t → run t.answers ≡ Done t
done_runs run s consumed old slots xs turn t at done = ap run (done_takes run s consumed old slots xs turn t at done) ∙ done

pub done_answers : (run : List Response → Ran) → IsSteady run → (consumed : Consumed) (old : List CallMade) (slots : List ℕ) (xs : List Response) (turn : ℕ) (t : Trace)
    → IsTurn run consumed old slots xs turn → run xs ≡ Done t → t.answers ≡ answers_for consumed old slots t.calls
done_answers run s consumed old slots xs turn t at done =
    done_takes run s consumed old slots xs turn t at done ∙ at.so_far ∙ ap (λ r. answers_for consumed old slots (calls_of r)) done

pub done_again : (run : List Response → Ran) → (consumed : Consumed) (old : List CallMade) (slots : List ℕ) (xs : List Response) (turn : ℕ) (t : Trace)
    → IsTurn run consumed old slots xs turn → run xs ≡ Done t → t ≡ trace_through 17 run (answer_at consumed old slots) []
done_again run consumed old slots xs turn t at done =
    let less : turn ≤ 16 = omega (arith, at.count, at.few) in
    let left : turn + suc (16 - turn) ≡ 17 = omega (arith, less) in
    sym (comes_to run (answer_at consumed old slots) (16 - turn) xs t done) ∙ at.goes (suc (16 - turn)) left
