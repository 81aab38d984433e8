use Rattle.std.proofs.Common.{◌≤◌, ◌++◌, length, take, drop, ap, ◌∙◌, arith}
use Rattle.std.specs.List.{filter_map}
use Rattle.request_log.specs.Entries.{KeptLog}
use Rattle.request_log.specs.Folded.{folded_as}
use Rattle.log_index.specs.Marks.{KeptMarks}
use Rattle.log_index.specs.Rows.{KeptWrites}
use Rattle.local_repair.specs.Current.{rows_after}
use Rattle.local_repair.specs.Repairs.{KeptRepairer}
use Rattle.local_repair.proofs.FoldLemmas.{kept_folded, kept_same, rows_stay}
use Rattle.local_repair.proofs.WrittenLemmas.{seen_before}
use Rattle.local_repair.proofs.repairer.Repairer.fold.Goals as goal

pub invariant_of-self : goal.invariant_of-self
invariant_of-self c =
    let inside = c.self.inside in
    let new = c.fold_parts.new in
    let same = c.in_err-fold_parts.ensures in
    kept_same inside.rows.base new.rows.base inside.log.entries new.log.entries inside.rows.writes new.rows.writes inside.marks new.marks inside.calls
    (ap (λ (k : KeptWrites). k.base) same.err_rows) (ap (λ (k : KeptLog). k.entries) same.err) (ap (λ (k : KeptWrites). k.writes) same.err_rows) (ap (λ (k : KeptMarks). k.reads) same.err_marks) (ap (λ (k : KeptMarks). k.marks) same.err_marks) c.self.invariant

pub invariant_of-self-2 : goal.invariant_of-self-2
invariant_of-self-2 c =
    let inside = c.self.inside in
    let new = c.fold_parts.new in
    let many = ap length (ap (λ (k : KeptRepairer). k.entries) c.self.view_is) in
    let w = c.requires.within in
    let within : c.args.n ≤ length inside.log.entries = omega arith in
    kept_folded inside.rows.base new.rows.base inside.log.entries new.log.entries inside.rows.writes new.rows.writes inside.marks new.marks c.args.n inside.calls c.self.invariant within
    (c.in_ok-fold_parts.ensures.base ∙ seen_before inside.rows inside.log.entries c.args.n c.self.invariant.tied)
    c.in_ok-fold_parts.ensures.entries c.in_ok-fold_parts.ensures.writes c.in_ok-fold_parts.ensures.reads c.in_ok-fold_parts.ensures.marks

pub returns-clause-ok : goal.returns-clause-ok
returns-clause-ok c =
    let n = c.args.n in
    let seen = c.self.view_is in
    record {
      entries = c.in_ok-fold_parts.ensures.entries ∙ ap (λ (k : KeptRepairer). drop n k.entries) seen;
      folded = c.in_ok-fold_parts.ensures.folded ∙ ap (λ (k : KeptRepairer). k.folded ++ filter_map folded_as (take n k.entries)) seen;
      base = c.in_ok-fold_parts.ensures.base ∙ seen_before c.self.inside.rows c.self.inside.log.entries n c.self.invariant.tied
          ∙ ap (λ (k : KeptRepairer). rows_after k.base (take n k.entries)) seen;
    }

pub returns-clause-rows : goal.returns-clause-rows
returns-clause-rows c = λ place. rows_stay c.args.n place c.args.self.now _ (returns-clause-ok c)
