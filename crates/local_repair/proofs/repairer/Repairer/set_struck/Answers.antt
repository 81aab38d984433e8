use Rattle.std.proofs.Common.{refl}
use Rattle.request_log.specs.Entries.{mark}
use Rattle.local_repair.proofs.ChangedLemmas.{kept_changed}
use Rattle.local_repair.proofs.repairer.Repairer.set_struck.Goals as goal

pub invariant_of-self : goal.invariant_of-self
invariant_of-self c =
    let inside = c.self.inside in
    kept_changed inside.rows.base inside.log.entries c.set_struck.new.self.entries inside.rows.writes inside.marks c.mark_id.new.marks inside.calls c.self.invariant (mark c.args.struck)
    (record { number = record { id = λ e. refl; origin = λ e. refl }; made = λ e. refl; slots = λ e. refl }) c.args.id c.mark_id.ensures c.set_struck.ensures.entries
