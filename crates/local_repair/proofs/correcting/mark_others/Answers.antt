use Rattle.std.proofs.Common.{◌≡◌, ℕ, ap, length, subst, arith}
use Rattle.local_repair.specs.Corrections.{IsMarkedByHandlers}
use Rattle.local_repair.proofs.CorrectionLemmas.{more_marked, none_marked}
use Rattle.local_repair.proofs.correcting.mark_others.Goals as goal

pub loop-place-init : goal.loop-place-init
loop-place-init c = none_marked c.args.number c.args.entries.now c.args.marks.now

pub mark_if_other-requires : goal.mark_if_other-requires
mark_if_other-requires c =
    let many = ap length c.loop-place.invariant.reads in
    omega arith

pub loop-place-preserved : goal.loop-place-preserved
loop-place-preserved c =
    more_marked c.args.number c.loop-place.place c.args.entries.now c.index-entries-place.result c.args.marks.now c.loop-place.marks c.mark_if_other.new.marks
    c.loop-place-test.true c.index-entries-place.is c.loop-place.invariant (rw c.entry.ensures at c.mark_if_other.ensures)

pub returns : goal.returns
returns c =
    let P : ℕ → Type 0 = λ n. IsMarkedByHandlers c.args.number n c.args.entries.now c.args.marks.now c.loop-place.marks in
    let end : c.loop-place.place ≡ length c.args.entries.now = omega arith in
    subst P end c.loop-place.invariant
