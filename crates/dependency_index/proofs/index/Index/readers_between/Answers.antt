use Rattle.std.proofs.Common.{◌≡◌, ℕ, List, map, sym, ap, ◌∙◌, subst}
use Rattle.std.specs.List.{All, Contains}
use Rattle.dependency_index.specs.Reads.{is_at, label_of}
use Rattle.dependency_index.specs.declared.noted.Noted.{Noted}
use Rattle.dependency_index.specs.declared.reads.ReadKind.TheVariants.{Key}
use Rattle.dependency_index.proofs.IndexLemmas.{labels_all}
use Rattle.dependency_index.proofs.index.Index.readers_between.Goals as goal

pub labels_in-labels-requires : goal.labels_in-labels-requires
labels_in-labels-requires c = c.self.invariant.0.ordered Key

pub labels_between-requires-clause-labels : goal.labels_between-requires-clause-labels
labels_between-requires-clause-labels c =
    let t = c.args.table.now in
    let k = c.args.key.now in
    let ns = c.self.inside.noted.items in
    let same : ns ≡ c.args.self.now.reads = ap (λ v. v.reads) c.self.view_is in
    let order = c.args.order.now.labels in
    let P : ℕ → Type 0 = λ x. Contains order x in
    let Q : List Noted → Type 0 = λ l. All P (map label_of l) in
    let R : List ℕ → Type 0 = λ l. All P l in
    let known : All P (map label_of ns) = subst Q (sym same) c.requires.labels in
    let are = c.labels_in-labels.ensures ∙ c.self.invariant.0.each Key t k in
    subst R (sym are) (labels_all (is_at Key t k) P ns known)
