use Rattle.std.proofs.Common.{◌+◌, sym, subst}
use Rattle.std.proofs.lemmas.Result.{IfOk-weaker, on_err_weaker}
use Rattle.request_log.specs.declared.entry.Made.{Made}
use Rattle.log_index.specs.Marks.{IsReadyToSet as IsReadyToMark}
use Rattle.log_index.specs.Rows.{rows_before, IsReadyToSet}
use Rattle.local_repair.specs.Current.{writes_of}
use Rattle.local_repair.specs.Held.{IsMarkedBehind}
use Rattle.local_repair.proofs.HeldLemmas.{marked_none}
use Rattle.local_repair.proofs.StepLemmas.{rerun_settles}
use Rattle.local_repair.proofs.remaking.remake.Goals as goal

pub settle-requires-clause-answers : goal.settle-requires-clause-answers
settle-requires-clause-answers g c = c.in_ok-made.ensures.answers

pub settle-requires-clause-can : goal.settle-requires-clause-can
settle-requires-clause-can g c =
    rerun_settles c.args.setting.now (g.S.Slots.can_settle c.args.slots.now) (g.S.Slots.consumed_of c.args.slots.now) (rows_before c.args.place c.args.rows.now) c.args.entry.now
    c.in_ok-made.made c.in_ok-made.ensures c.requires.can

pub returns-clause-ok : goal.returns-clause-ok
returns-clause-ok g c = c.settle.ensures.ok c.args.setting.now (rows_before c.args.place c.args.rows.now) c.in_ok-made.ensures

pub returns-clause-ready : goal.returns-clause-ready
returns-clause-ready g c =
    let P : Made → Type 0 = λ m. IsReadyToSet m.trace.writes c.ready_again.new.rows in
    IfOk-weaker c.settle.result _ _ (λ again same. subst P (sym same) c.in_ok-ready_again.ensures.ready_rows) c.settle.ensures.made

pub returns-clause-ready_marks : goal.returns-clause-ready_marks
returns-clause-ready_marks g c =
    let P : Made → Type 0 = λ m. IsReadyToMark m.trace.reads c.ready_again.new.marks in
    IfOk-weaker c.settle.result _ _ (λ again same. subst P (sym same) c.in_ok-ready_again.ensures.ready_marks) c.settle.ensures.made

pub returns-clause-marked : goal.returns-clause-marked
returns-clause-marked g c =
    let P : Made → Type 0 = λ m. IsMarkedBehind c.args.place (writes_of c.args.entry.now.made) m.trace.writes c.args.marks.now c.ready_again.new.marks in
    IfOk-weaker c.settle.result _ _ (λ again same. subst P (sym same) c.in_ok-ready_again.ensures.ok) c.settle.ensures.made

pub returns-clause-stays : goal.returns-clause-stays
returns-clause-stays g c = on_err_weaker c.settle.result (λ e. marked_none (c.args.place + 1) _ c.args.marks.now c.ready_again.new.marks c.in_ok-ready_again.ensures.ok.marked) c.settle.ensures.err
