use Rattle.std.proofs.Common.{nat_le, rules}
use Rattle.std.proofs.lemmas.List.Sorted.{IsPartitionedBy-leb}
use Rattle.lang_lists.proofs.AgeLemmas.{codes}
use Rattle.lang_lists.specs.declared.age_keys.AgeKey.{AgeKey}
use Rattle.lang_lists.proofs.age_keys.count_to.Goals as goal

pub returns-clause-parted : goal.returns-clause-parted
returns-clause-parted c =
    c.count_front.ensures.parted (λ (k : AgeKey). nat_le k.code c.args.code) (λ x r there e. search rules)
    (IsPartitionedBy-leb (λ (k : AgeKey). k.code) c.args.keys.now c.args.code (codes c.args.keys.now c.requires))
