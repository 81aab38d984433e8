use Rattle.std.proofs.Common.{ℕ, ◌≡◌, ◌<◌, length, vec_len, vec_capacity}
use Rattle.place_order.specs.Tags.{tag_at, even_tag}
use Rattle.place_order.proofs.tags.spread.Given as goal

abbrev pub invariant-loop-place : goal.invariant-loop-place
invariant-loop-place l = record {
  len : vec_len l.tags ≡ vec_len l.initial.tags;
  items : length l.tags.items ≡ length l.initial.tags.items;
  capacity : vec_capacity l.tags ≡ vec_capacity l.initial.tags;
  each : (k : ℕ) → k < l.place → tag_at l.labels l.tags.items k ≡ even_tag l.gap k;
}
