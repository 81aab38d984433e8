use Rattle.std.proofs.Common.{Option, sym, subst, ◌↔◌, IsTrue, IsSomeAnd}
use Rattle.request_log.specs.declared.entry.Made.{Made}
use Rattle.log_index.specs.Rows.{rows_before}
use Rattle.local_repair.specs.Current.{IsCurrentRecord}
use Rattle.local_repair.proofs.current.is_current.Goals as goal

pub returns-in-Some : goal.returns-in-Some
returns-in-Some g c =
    let P : Option Made → Type 0 = λ made. IsTrue c.is_current_record.result ↔ IsSomeAnd made (λ m. IsCurrentRecord (g.S.Slots.consumed_of c.args.slots.now) (rows_before c.args.place c.args.rows.now) c.args.entry.now m) in
    subst P (sym c.in-Some.is) c.is_current_record.ensures
