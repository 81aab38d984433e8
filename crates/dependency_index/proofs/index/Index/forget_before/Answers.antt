use Rattle.std.proofs.Common.{◌≡◌, List, map, sym, ap, subst}
use Rattle.std.specs.List.{All, Contains}
use Rattle.dependency_index.specs.Reads.{label_of}
use Rattle.dependency_index.specs.declared.noted.Noted.{Noted}
use Rattle.dependency_index.proofs.index.Index.forget_before.Goals as goal

pub forget-requires-clause-known : goal.forget-requires-clause-known
forget-requires-clause-known c =
    let same : c.self.inside.noted.items ≡ c.args.self.now.reads = ap (λ v. v.reads) c.self.view_is in
    let Q : List Noted → Type 0 = λ l. All (Contains c.args.order.now.labels) (map label_of l) in
    subst Q (sym same) c.requires.labels
