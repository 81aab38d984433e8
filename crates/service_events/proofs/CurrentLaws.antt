-- A flight is committed with what its last run did, and the committed entry isn't stale.
use Rattle.std.proofs.Common.{◌≡◌, ℕ, zero, suc, ◌+◌, ◌<◌, ◌≤◌, List, [], ◌∷◌, ◌++◌, Option, Some, None, map, take, drop, length, refl, sym, ap, ◌∙◌, arith, take-append-drop, eq-eqb, append-nil}
use Rattle.lang_core.specs.declared.trace.CallMade.{CallMade}
use Rattle.lang_core.specs.declared.trace.Trace.{Trace}
use Rattle.lang_programs.specs.Settings.{with_program}
use Rattle.handler_run.specs.declared.state.Ran.TheVariants.{Done}
use Rattle.handler_run.specs.Handlers.{run_of}
use Rattle.handler_run.proofs.RunLaws.{takes_done, counts_done, reads_done, same_done}
use Rattle.local_repair.specs.Current.{IsCurrent, rows_after}
use Rattle.local_repair.specs.Steps.{answer_or_tentative}
use Rattle.call_registers.specs.Registers.{register, consumed_in}
use Rattle.flights.specs.declared.flight.Flight.{Flight}
use Rattle.service_events.specs.State.{Kept, answers, base, unfolded}
use Rattle.service_events.specs.Flying.{flight_run, committed, committed_entry}
use Rattle.service_events.specs.Fits.{count, wanted_call}
use Rattle.service_events.proofs.CallRowLemmas.{Each}
use Rattle.service_events.proofs.PlaceLemmas.{one_if, count-append}
use Rattle.service_events.proofs.CallLaws.{FitsCalls, IsFew}
use Rattle.service_events.proofs.CommitLaws.{commit_keeps}
use Rattle.service_events.proofs.FlightLaws.{flying, flown, fitting_at}

take_map : {X Y : Type 0} (g : X → Y) (k : ℕ) (xs : List X) → take k (map g xs) ≡ map g (take k xs)
take_map g zero xs = refl
take_map g (suc k) [] = refl
take_map g (suc k) (x ∷ xs) = ap (λ ys. g x ∷ ys) (take_map g k xs)

take_front : {X : Type 0} (xs ys : List X) → take (length xs) (xs ++ ys) ≡ xs
take_front [] ys = refl
take_front (x ∷ xs) ys = ap (λ zs. x ∷ zs) (take_front xs ys)

-- each of some numbers is counted among them
each_counted : (P : ℕ → Type 0) (xs : List ℕ) → ((k : ℕ) → 0 < count k xs → P k) → Each P xs
each_counted P [] h = tt
each_counted P (x ∷ xs) h = (
  h x (let is = eq-eqb x x refl in let one : count x (x ∷ xs) ≡ 1 + count x xs = rw is refl in omega (arith, one)),
  each_counted P xs (λ k some. h k (omega (arith, some))),
)

one_most : (c : Option CallMade) → one_if c ≤ 1
one_most None = omega arith
one_most (Some c) = omega arith

same_answers : (s t : Kept) (ns : List ℕ) → Each (λ n. register n t.registers ≡ register n s.registers) ns → map (answers t) ns ≡ map (answers s) ns
same_answers s t [] h = refl
same_answers s t (n ∷ ns) h =
    let head = ap (λ o. answer_or_tentative (consumed_in o)) h.0 in let rest = same_answers s t ns h.1 in (λ i. head i ∷ rest i)

-- the calls of the committed entry consume what its run consumed
commit_answers : (s : Kept) (f : Flight) (t : Trace) → FitsCalls (flying s f) → IsFew (committed s f t).service → flight_run s f ≡ Done t
    → t.answers ≡ map (answers (committed s f t).service) (take (length t.calls) f.numbers)
commit_answers s f t h few done =
    let k = length t.calls in
    let given = map (answers s) f.numbers in
    let took = takes_done (with_program f.program.program s.setting) f.request f.inputs given (rows_after (base s) (unfolded s)) t done in
    let made = counts_done (with_program f.program.program s.setting) f.request f.inputs given (rows_after (base s) (unfolded s)) t done in
    let w = flown s f in
    let at = fitting_at s f w h in
    let apart : Each (λ n. count n (drop k f.numbers) ≡ 0) (take k f.numbers) =
    each_counted (λ n. count n (drop k f.numbers) ≡ 0) (take k f.numbers) (λ n some. (
    let total = at.places.once n in
    let most = one_most (wanted_call s.registers n) in
    let sum = ap (count n) (sym (take-append-drop k f.numbers)) ∙ count-append n (take k f.numbers) (drop k f.numbers) in
    omega (arith, some, total, most, sum))) in
    let kept = each_kept (take k f.numbers) apart in
    sym (take_front t.answers took.0) ∙ ap (λ n. take n (t.answers ++ took.0)) made ∙ ap (take k) (sym took.1) ∙ take_map (answers s) k f.numbers
    ∙ sym (same_answers s (committed s f t).service (take k f.numbers) kept)
  where
    each_kept : (ns : List ℕ) → Each (λ n. count n (drop (length t.calls) f.numbers) ≡ 0) ns
        → Each (λ n. register n (committed s f t).service.registers ≡ register n s.registers) ns
    each_kept [] a = tt
    each_kept (n ∷ ns) a = (commit_keeps s f t h few n a.0, each_kept ns a.1)

-- a flight whose run on the rows at the end of the log ended, with the answers that its calls consume: its entry isn't stale
pub committed_current : (s : Kept) (f : Flight) (t : Trace) → FitsCalls (flying s f) → IsFew (committed s f t).service → flight_run s f ≡ Done t
    → IsCurrent (answers (committed s f t).service) (rows_after (base s) (unfolded s)) (committed_entry s f t)
committed_current s f t h few done = record {
  alive = refl;
  version = refl;
  request = refl;
  reads = reads_done (with_program f.program.program s.setting) f.request f.inputs (map (answers s) f.numbers) (rows_after (base s) (unfolded s)) t done;
  answers = commit_answers s f t h few done;
  handler = λ alive. refl;
}

-- and its record is the run on these rows, with what its calls consume
pub committed_ran : (s : Kept) (f : Flight) (t : Trace) → FitsCalls (flying s f) → IsFew (committed s f t).service → flight_run s f ≡ Done t
    → run_of (with_program f.program.program s.setting) f.request f.inputs (map (answers (committed s f t).service) (take (length t.calls) f.numbers)) (rows_after (base s) (unfolded s)) ≡ Done t
committed_ran s f t h few done =
    let given = map (answers s) f.numbers in
    let rows = rows_after (base s) (unfolded s) in
    let gives = reads_done (with_program f.program.program s.setting) f.request f.inputs given rows t done in
    let again = same_done (with_program f.program.program s.setting) f.request f.inputs given rows t done rows gives [] in
    let answers_are = append-nil t.answers ∙ commit_answers s f t h few done in
    ap (λ xs. run_of (with_program f.program.program s.setting) f.request f.inputs xs rows) (sym answers_are) ∙ again
