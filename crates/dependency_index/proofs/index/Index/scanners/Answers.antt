use Rattle.std.proofs.Common.{◌≡◌, ◌+◌, length, ap, ◌∙◌}
use Rattle.std.proofs.lemmas.Result.{IfOk-weaker}
use Rattle.dependency_index.specs.Reads.{scanners}
use Rattle.dependency_index.specs.Rows.{under}
use Rattle.dependency_index.specs.declared.reads.ReadKind.TheVariants.{Scan}
use Rattle.dependency_index.proofs.ScanLemmas.{all_scanners}
use Rattle.dependency_index.proofs.index.Index.scanners.Goals as goal

pub labels_under-requires : goal.labels_under-requires
labels_under-requires c = c.self.invariant.0.ordered Scan

pub returns : goal.returns
returns c =
    let t = c.args.table.now in
    let k = c.args.key.now in
    let ns = c.self.inside.noted.items in
    let same : ns ≡ c.args.self.now.reads = ap (λ v. v.reads) c.self.view_is in
    let rows = c.self.inside.rows.scans.items in
    let found : c.in_ok-found.found.items ≡ under rows t k (length k + 1) = rw c.as_bytes.ensures at c.in_ok-found.ensures in
    let all = found ∙ all_scanners rows ns t k c.self.invariant.0.rising (c.self.invariant.0.each Scan) ∙ ap (scanners t k) same in
    IfOk-weaker c.listed.result _ _ (λ labels h. h ∙ c.deref.ensures.value ∙ all) c.listed.ensures
