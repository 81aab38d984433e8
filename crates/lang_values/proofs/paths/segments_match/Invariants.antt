use Rattle.std.proofs.Common.{◌≡◌, ◌==◌, drop, map}
use Rattle.std.specs.List.{slice_split}
use Rattle.std.specs.Str.Iter.{split_steps}
use Rattle.std.specs.Str.Pattern.{FindsChar}
use Rattle.lang_values.specs.Paths.{segments_match}
use Rattle.lang_values.proofs.PatternLemmas.{PartsLeft}
use Rattle.lang_values.proofs.paths.segments_match.Given as goal

abbrev pub invariant-loop-segment : goal.invariant-loop-segment
invariant-loop-segment l =
    PartsLeft (split_steps FindsChar (λ a b. b ≡ a)) l.parts (map (λ x. x.now) (drop l.segment-index l.segments)) (segments_match (slice_split (λ b. b == 47) l.pattern) (map (λ x. x.now) l.segments))
