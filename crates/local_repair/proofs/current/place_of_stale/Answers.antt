use Rattle.std.proofs.Common.{◌∙◌, ℕ, List, length, ap, subst, MatchOption}
use Rattle.std.proofs.lemmas.List.{length-map}
use Rattle.log_index.specs.Marks.{AreMarks}
use Rattle.local_repair.specs.Held.{looked, AreCurrent, IsFirstMarked}
use Rattle.local_repair.proofs.StaleLemmas.{changed_first, checked_answered, end_within, marked_first}
use Rattle.local_repair.proofs.current.place_of_stale.Given.{Over}
use Rattle.local_repair.proofs.current.place_of_stale.Goals as goal

pub place_of_marked-marked-requires-clause-tied : goal.place_of_marked-marked-requires-clause-tied
place_of_marked-marked-requires-clause-tied g c = c.requires.kept.tied

pub place_of_marked-marked-requires-clause-marks : goal.place_of_marked-marked-requires-clause-marks
place_of_marked-marked-requires-clause-marks g c =
    let P : ℕ → Type 0 = λ n. AreMarks n c.marks.result.now in
    subst P (ap length c.requires.kept.looked ∙ length-map c.args.entries.now looked) c.marks.ensures.marks

-- what was told of the marks
tested : (g : Over) (c : goal.After-end_of-end g)
    → MatchOption c.place_of_marked-marked.result (AreCurrent (g.S.Slots.consumed_of c.args.slots.now) c.args.rows.now.base c.args.entries.now c.args.marks.now.marks (length c.args.entries.now))
    (λ place. IsFirstMarked (g.S.Slots.consumed_of c.args.slots.now) c.args.rows.now.base c.args.entries.now c.args.marks.now.marks place)
tested g c =
    let consumed = g.S.Slots.consumed_of c.args.slots.now in
    let es = c.args.entries.now in
    let P : List ℕ → Type 0 = λ marks. MatchOption c.place_of_marked-marked.result (AreCurrent consumed c.args.rows.now.base es marks (length es)) (λ place. IsFirstMarked consumed c.args.rows.now.base es marks place) in
    subst P c.marks.ensures.is c.place_of_marked-marked.ensures

pub place_of_changed-requires-clause-within : goal.place_of_changed-requires-clause-within
unfolding tested
place_of_changed-requires-clause-within g c =
    (end_within (g.S.Slots.consumed_of c.args.slots.now) c.args.rows.now.base c.args.entries.now c.args.rows.now.writes c.args.marks.now c.args.calls c.requires.kept
    c.place_of_marked-marked.result c.end_of-end.result c.end_of-end.ensures (tested g c)).0

pub place_of_changed-requires-clause-checked : goal.place_of_changed-requires-clause-checked
place_of_changed-requires-clause-checked g c =
    checked_answered (g.S.Slots.consumed_of c.args.slots.now) c.args.rows.now.base c.args.entries.now c.args.checked c.requires.checked

pub returns-in-Some : goal.returns-in-Some
returns-in-Some g c =
    let consumed = g.S.Slots.consumed_of c.args.slots.now in
    let es = c.args.entries.now in
    let P : List ℕ → Type 0 = λ marks. MatchOption c.place_of_marked-marked.result (AreCurrent consumed c.args.rows.now.base es marks (length es)) (λ place. IsFirstMarked consumed c.args.rows.now.base es marks place) in
    changed_first consumed c.args.rows.now.base es c.args.rows.now.writes c.args.marks.now c.args.calls c.requires.kept c.place_of_marked-marked.result c.end_of-end.result c.in-Some.place
    c.end_of-end.ensures (subst P c.marks.ensures.is c.place_of_marked-marked.ensures) c.in-Some.ensures.0 c.in-Some.ensures.1

pub returns-in-None : goal.returns-in-None
returns-in-None g c =
    let consumed = g.S.Slots.consumed_of c.args.slots.now in
    let es = c.args.entries.now in
    let P : List ℕ → Type 0 = λ marks. MatchOption c.place_of_marked-marked.result (AreCurrent consumed c.args.rows.now.base es marks (length es)) (λ place. IsFirstMarked consumed c.args.rows.now.base es marks place) in
    marked_first consumed c.args.rows.now.base es c.args.rows.now.writes c.args.marks.now c.args.calls c.requires.kept c.place_of_marked-marked.result c.end_of-end.result
    c.end_of-end.ensures (subst P c.marks.ensures.is c.place_of_marked-marked.ensures) c.in-None.ensures
