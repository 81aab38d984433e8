use Rattle.std.proofs.Common.{◌≡◌, ℕ, Some, get_or, slice_get, ap, sym, ◌∙◌}
use Rattle.std.proofs.lemmas.Option.{get_or_from_slice_get, slice_get_within}
use Rattle.node_core.specs.Closings.{told_since}
use Rattle.node_core.proofs.closing.left_of.Goals as goal

pub returns-then-was_opened_at-clause-amount : goal.returns-then-was_opened_at-clause-amount
returns-then-was_opened_at-clause-amount g c =
    let state = c.into_inner-service.result in
    let there : slice_get c.args.since.now c.args.place ≡ Some state.since = c.was_opened_at.ensures c.if-was_opened_at.true in
    let opened : get_or c.args.since.now c.args.place 0 ≡ state.since = get_or_from_slice_get c.args.since.now c.args.place state.since 0 there in
    state.counted ∙ sym (ap (λ (rows : ℕ). told_since rows state.service) opened)

pub returns-then-was_opened_at-clause-within : goal.returns-then-was_opened_at-clause-within
returns-then-was_opened_at-clause-within g c =
    slice_get_within c.args.since.now c.args.place c.into_inner-service.result.since (c.was_opened_at.ensures c.if-was_opened_at.true)
