use Rattle.std.proofs.Common.{◌==◌, ◌∙◌, ap, position, sym}
use Rattle.dump_audit.specs.Histories.{act_of, histories_of, history_of}
use Rattle.one_order.proofs.RootLaws.{no_slot}
use Rattle.one_order.proofs.roots.caller_of.Goals as goal

pub returns-in-None : goal.returns-in-None
returns-in-None c =
    no_slot (histories_of c.args.world.now) c.args.entry.now.origin c.in-Call.caller c.in-Call.number (history_of c.in-Some.service.now) (act_of c.in-Some-made_in.entry.now)
    c.in-Call.is (sym c.in-Some.ensures.found) (sym c.in-Some-made_in.ensures) (ap (position (λ n. n == c.in-Call.number)) (sym c.as_slice.ensures) ∙ sym c.in-None.ensures)
