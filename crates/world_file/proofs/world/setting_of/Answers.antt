use Rattle.std.proofs.Common.{Contains, List, ℕ, subst}
use Rattle.world_file.specs.Peers.{not_among_others}
use Rattle.world_file.proofs.world.setting_of.Goals as goal

pub invariant_of-result : goal.invariant_of-result
invariant_of-result c = record {
  alone = λ found. let C : List (List ℕ) → Type 0 = λ names. Contains names c.args.me in not_among_others c.args.me c.args.names.now (subst C c.in_ok-peers.ensures found);
}
