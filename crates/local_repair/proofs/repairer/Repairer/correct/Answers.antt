use Rattle.std.proofs.Common.{length, map, refl, sym, ap, ◌∙◌}
use Rattle.std.proofs.lemmas.List.{length-map}
use Rattle.request_log.specs.Entries.{corrected, KeptLog}
use Rattle.log_index.specs.Marks.{KeptMarks}
use Rattle.local_repair.specs.Held.{looked}
use Rattle.local_repair.specs.Repairs.{KeptRepairer}
use Rattle.local_repair.proofs.CorrectionLemmas.{kept_corrected, stale_after}
use Rattle.local_repair.proofs.FoldLemmas.{kept_same}
use Rattle.local_repair.proofs.repairer.Repairer.correct.Goals as goal

pub correct_parts-requires : goal.correct_parts-requires
correct_parts-requires c = sym (ap length c.self.invariant.looked ∙ length-map c.self.inside.log.entries looked)

pub invariant_of-self : goal.invariant_of-self
invariant_of-self c =
    let inside = c.self.inside in
    let new = c.correct_parts.new in
    let same = c.in_err-correct_parts.ensures in
    kept_same inside.rows.base inside.rows.base inside.log.entries new.log.entries inside.rows.writes inside.rows.writes inside.marks new.marks inside.calls
    refl (ap (λ (k : KeptLog). k.entries) same.err) refl (ap (λ (k : KeptMarks). k.reads) same.err_marks) (ap (λ (k : KeptMarks). k.marks) same.err_marks) c.self.invariant

pub invariant_of-self-2 : goal.invariant_of-self-2
invariant_of-self-2 c =
    let inside = c.self.inside in
    let new = c.correct_parts.new in
    kept_corrected c.args.number c.args.program.now inside.rows.base inside.log.entries new.log.entries inside.rows.writes inside.marks new.marks inside.calls (length new.log.entries)
    c.self.invariant c.in_ok-correct_parts.ensures.entries refl c.in_ok-correct_parts.ensures.marks

pub returns-clause-stale : goal.returns-clause-stale
returns-clause-stale c =
    let old = c.args.self.now in
    let seen = ap (λ (k : KeptRepairer). map (corrected c.args.number c.args.program.now) k.entries) c.self.view_is in
    stale_after c.args.number c.args.program.now old.base old.entries c.correct_parts.new.log.entries (c.in_ok-correct_parts.ensures.entries ∙ seen)
