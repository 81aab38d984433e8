use Rattle.std.proofs.Common.{ℕ, List, sym, subst}
use Rattle.std.specs.List.{All, Contains}
use Rattle.std.proofs.lemmas.List.{map-id}
use Rattle.key_labels.proofs.prune.prune.Goals as goal

pub drop_before-requires-clause-known : goal.drop_before-requires-clause-known
drop_before-requires-clause-known c =
    let P : List ℕ → Type 0 = λ l. All (Contains c.args.order.now.labels) l in
    subst P (sym (map-id c.args.row.now.labels.items)) c.requires.known
