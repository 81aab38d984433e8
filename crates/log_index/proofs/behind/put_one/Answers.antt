use Rattle.std.proofs.Common.{ℕ, List, length, sym, subst}
use Rattle.log_index.specs.Marks.{AreMarks}
use Rattle.log_index.proofs.MarkLemmas.{put_are, put_fits}
use Rattle.log_index.proofs.behind.put_one.Goals as goal

pub put-requires-clause-fits : goal.put-requires-clause-fits
put-requires-clause-fits c =
    put_fits (length c.args.places.now.labels) c.place_of-at.result _ c.args.marks.now.items c.place_of-at.ensures.within c.requires.marks c.requires.room

pub returns-then-place-at-clause-marks : goal.returns-then-place-at-clause-marks
returns-then-place-at-clause-marks c =
    let P : List ℕ → Type 0 = λ l. AreMarks (length c.args.places.now.labels) l in
    subst P (sym c.put.ensures.items) (put_are (length c.args.places.now.labels) c.place_of-at.result c.args.marks.now.items c.place_of-at.ensures.within c.requires.marks)
