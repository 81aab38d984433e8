use Rattle.std.proofs.Common.{◌∙◌, ap, length}
use Rattle.std.proofs.lemmas.List.{length-map}
use Rattle.request_log.specs.Entries.{corrected}
use Rattle.request_log.specs.HandedOn.{Numbered}
use Rattle.local_repair.proofs.CorrectionLemmas.{marked_as}
use Rattle.local_repair.proofs.correcting.correct_parts.Goals as goal

pub mark_others-requires : goal.mark_others-requires
mark_others-requires c =
    ap length (c.as_slice.ensures.entries ∙ c.in_ok-correct.ensures.entries) ∙ length-map c.args.log.now.entries (corrected c.args.number c.args.program.now) ∙ c.requires

pub returns-clause-marks : goal.returns-clause-marks
returns-clause-marks c =
    marked_as c.number.result c.args.program.now.number c.as_slice.result.now c.correct.new.self.entries c.args.marks.now c.mark_others.new.marks
    (c.number.ensures ∙ ap (λ (p : Numbered). p.number) c.get.ensures) c.as_slice.ensures.entries c.mark_others.ensures
