use Rattle.std.proofs.Common.{◌≤◌, ◌⊎◌, inl, inr, ⊎_elim, drop, length, arith, List, ℕ, subst, sym}
use Rattle.std.proofs.lemmas.List.{take_rest}
use Rattle.std.proofs.lemmas.Bool.{cases_lt}
use Rattle.store_lines.specs.Readings.{BeginsAbove}
use Rattle.store_lines.proofs.WindowLemmas.{none_ahead, none_before_more, zero_begins_none}
use Rattle.store_lines.proofs.marks.mark_ahead.Goals as goal
use Rattle.store_lines.proofs.marks.mark_ahead.Goals.{else-bytes-at-ne0-via-then-bytes-at-ne0+in_ok-begins_above+else-branch, else-bytes-at-ne0-via-else-bytes-at-ne0}

pub loop-at-preserved : goal.loop-at-preserved
loop-at-preserved c =
    let bytes = c.args.bytes.now in
    let at = c.loop-at.at in
    let here : BeginsAbove c.args.lines (drop at bytes) → ⊥ = elim c.else-bytes-at-ne0.branch [
      | else-bytes-at-ne0-via-then-bytes-at-ne0+in_ok-begins_above+else-branch w ↦ (λ begins. w.in_ok-begins_above.ensures.no w.if-branch.false (subst (λ (l : List ℕ). BeginsAbove c.args.lines l) (sym (take_rest bytes at)) begins))
      | else-bytes-at-ne0-via-else-bytes-at-ne0 w ↦ zero_begins_none c.args.lines at bytes w.if-bytes-at-ne0.false
    ] in
    none_before_more c.args.lines at bytes c.loop-at.invariant here

pub returns-clause-no : goal.returns-clause-no
returns-clause-no c = λ _ ahead.
    let bytes = c.args.bytes.now in
    let at = c.loop-at.at in
    let all : (c.args.within ≤ at) ⊎ (length bytes ≤ at) = ⊎_elim
    (λ less. inl (let e : c.args.within ≤ at = omega (arith, c.loop-at-test.false, c.min-at-end.ensures, less) in e))
    (λ most. inr (let e : length bytes ≤ at = omega (arith, c.loop-at-test.false, c.min-at-end.ensures, most) in e))
    (cases_lt c.args.within (length bytes)) in
    none_ahead c.args.lines c.args.within at bytes c.loop-at.invariant all ahead
