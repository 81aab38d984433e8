use Rattle.std.proofs.Common.{sym, ◌∙◌}
use Rattle.call_registers.proofs.ChangeLemmas.{found_at, none_zero}
use Rattle.call_registers.proofs.register_list.find_in.Goals as goal

pub returns-then-number-eq0 : goal.returns-then-number-eq0
returns-then-number-eq0 c = rw c.if-number-eq0.true (sym (none_zero c.args.list.now c.requires))

pub returns : goal.returns
returns c = c.item_at.ensures ∙ sym (found_at c.args.list.now c.args.number c.requires c.if-number-eq0.false)
