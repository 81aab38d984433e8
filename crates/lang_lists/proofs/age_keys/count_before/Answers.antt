use Rattle.std.proofs.Common.{rules}
use Rattle.lang_lists.specs.Ages.{is_before}
use Rattle.lang_lists.proofs.AgeLemmas.{parted_before}
use Rattle.lang_lists.proofs.age_keys.count_before.Goals as goal

pub returns-clause-parted : goal.returns-clause-parted
returns-clause-parted c =
    c.count_front.ensures.parted (λ k. is_before k c.args.key) (λ x r there e. search rules) (parted_before c.args.keys.now c.requires c.args.key)
