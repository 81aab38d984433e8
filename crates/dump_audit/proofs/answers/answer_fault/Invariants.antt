use Rattle.std.proofs.Common.{◌≡◌, drop}
use Rattle.dump_audit.specs.Judging.{first_failing, is_answered}
use Rattle.dump_audit.specs.declared.judged.Fault.TheVariants as fault
use Rattle.dump_audit.proofs.answers.answer_fault.Given as goal

abbrev pub invariant-loop-entry : goal.invariant-loop-entry
invariant-loop-entry l =
    first_failing fault.Answer (is_answered l.services l.service.setting.me) (drop l.entry-index l.service.entries)
    ≡ first_failing fault.Answer (is_answered l.services l.service.setting.me) l.service.entries
