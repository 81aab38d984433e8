use Rattle.std.proofs.Common.{sym, ap, subst, List}
use Rattle.request_log.specs.declared.entry.Entry.{Entry}
use Rattle.local_repair.specs.Repairs.{KeptRepairer, IsAmended}
use Rattle.local_repair.proofs.ChangedLemmas.{kept_replaced}
use Rattle.local_repair.proofs.repairer.Repairer.amend.Goals as goal

pub invariant_of-self : goal.invariant_of-self
invariant_of-self c =
    let inside = c.self.inside in
    let seen = ap (λ (k : KeptRepairer). k.entries) c.self.view_is in
    let P : List Entry → Type 0 = IsAmended c.args.entry in
    kept_replaced inside.rows.base inside.log.entries c.replace.new.log.entries inside.rows.writes inside.marks c.mark_id.new.marks inside.calls c.self.invariant c.args.entry (subst P (sym seen) c.requires)
    c.mark_id.ensures c.replace.ensures.entries
