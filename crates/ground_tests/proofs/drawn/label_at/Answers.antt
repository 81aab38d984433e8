use Rattle.std.proofs.Common.{◌≡◌, ◌<◌, ℕ, List, length, slice_index_or, slice_get, Some, refl, ◌∙◌, subst}
use Rattle.std.specs.List.{All, Contains}
use Rattle.std.proofs.lemmas.Option.{get_or_from_slice_get, slice_get_read, slice_get_within}
use Rattle.ground_tests.proofs.drawn.label_at.Goals as goal

known_there :
    (known labels : List ℕ) (at label x : ℕ) → at < length labels → label ≡ slice_index_or labels at label
    → All (Contains known) labels → Some label ≡ Some x → Contains known x
known_there known labels at label x within read all same =
    let there : slice_get labels at ≡ Some x = slice_get_read labels (length labels) at label refl within read ∙ same in
    subst (Contains known) (get_or_from_slice_get labels at x x there) (all at x (slice_get_within labels at x there))

pub returns-in-Some : goal.returns-in-Some
returns-in-Some c = λ known all x same.
    known_there known c.args.labels.now _ c.in-Some.label.now x c.in-Some.ensures.lookup.3.0 c.in-Some.ensures.lookup.1 all same
