use Rattle.std.proofs.Common.{◌∙◌, ap, length, subst, arith}
use Rattle.std.proofs.lemmas.List.{get_or_default, length-map}
use Rattle.std.proofs.lemmas.Result.{IfOk-weaker}
use Rattle.request_log.specs.declared.entry.Entry.{Entry}
use Rattle.local_repair.specs.Current.{writes_of}
use Rattle.local_repair.specs.Held.{looked, IsMarkedBehind}
use Rattle.local_repair.specs.Registers.{SlotsChange}
use Rattle.log_index.specs.Rows.{rows_before}
use Rattle.local_repair.proofs.StepLemmas.{again_at}
use Rattle.local_repair.proofs.WrittenLemmas.{seen_before}
use Rattle.local_repair.proofs.repairer.remake_at.Goals as goal

pub remake-requires-clause-within : goal.remake-requires-clause-within
remake-requires-clause-within g c =
    let count = ap length c.requires.looked ∙ length-map c.args.entries.now looked in
    let within = c.requires.within in
    omega arith

pub returns-clause-ok : goal.returns-clause-ok
returns-clause-ok g c =
    let change : SlotsChange =
    record {
      before = g.S.Slots.consumed_of c.args.slots.now;
      after = g.S.Slots.consumed_of c.remake.new.slots;
      last = g.S.Slots.last_of c.args.slots.now;
      later = g.S.Slots.last_of c.remake.new.slots;
      timely = g.S.Slots.is_timely c.args.slots.now;
      settles = g.S.Slots.settles c.args.slots.now c.remake.new.slots;
    } in
    again_at c.args.setting.now change c.args.rows.now.base c.args.entries.now c.args.place c.index-entries-place.result (rows_before c.args.place c.args.rows.now) c.remake.result
    c.requires.within c.index-entries-place.is (seen_before c.args.rows.now c.args.entries.now c.args.place c.requires.tied) (rw c.entry.ensures at c.remake.ensures.ok)

pub returns-clause-marked : goal.returns-clause-marked
returns-clause-marked g c =
    let es = c.args.entries.now in
    let place = c.args.place in
    let e = c.index-entries-place.result in
    IfOk-weaker c.remake.result _ _
    (λ again from d. (let P : Entry → Type 0 = λ x. IsMarkedBehind place (writes_of x.made) again.made.trace.writes c.args.marks.now c.remake.new.marks in
    subst P (c.entry.ensures ∙ c.index-entries-place.is ∙ get_or_default es place e d c.requires.within) from))
    c.remake.ensures.marked
