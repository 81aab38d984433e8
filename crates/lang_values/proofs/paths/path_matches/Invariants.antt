use Rattle.std.proofs.Common.{◌≡◌, ◌==◌, drop, length, map}
use Rattle.std.specs.List.{slice_split}
use Rattle.std.specs.Str.Iter.{split_steps}
use Rattle.std.specs.Str.Pattern.{FindsChar}
use Rattle.lang_values.specs.Paths.{segments_match}
use Rattle.lang_values.proofs.PatternLemmas.{PartsLeft}
use Rattle.lang_values.proofs.paths.path_matches.Given as goal

abbrev pub invariant-loop-segment : goal.invariant-loop-segment
invariant-loop-segment l =
    PartsLeft (split_steps FindsChar (λ a b. b ≡ a)) l.pieces (map (λ x. x) (drop (length l.yielded) (slice_split (λ b. b == 47) l.path)))
    (segments_match (slice_split (λ b. b == 47) l.pattern) (slice_split (λ b. b == 47) l.path))
