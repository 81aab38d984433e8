use Rattle.std.proofs.Common.{sym, ◌∙◌}
use Rattle.world_file.proofs.HeldLemmas.{taken_at}
use Rattle.world_file.proofs.members.is_taken.Goals as goal

pub returns-then-eq : goal.returns-then-eq
returns-then-eq c =
    sym (taken_at c.args.earlier.now c.loop-member.member-index c.member-item.result c.args.name.now c.loop-member-test.true c.member-item.is
    (rw (c.as_str.ensures, c.as_str-in-loop-member.ensures) at (sym c.eq.ensures ∙ c.if-eq.true)))
