use Rattle.std.proofs.Common.{sym, ◌∙◌}
use Rattle.versioned_rows.proofs.InsteadLemmas.{key_at}
use Rattle.versioned_rows.proofs.places.are_at_keys.Goals as goal

pub returns-then-not-is_at_key : goal.returns-then-not-is_at_key
returns-then-not-is_at_key c = (
  λ never. cc,
  λ same. sym c.if-not-is_at_key.true ∙ c.is_at_key.ensures.1 (key_at c.args.left.now c.args.right.now c.loop-i.i c.index-left-i.result c.index-right-i.result c.loop-i-test.true c.index-left-i.is c.index-right-i.is same),
)
