use Rattle.std.proofs.Common.{◌<◌, ◌||◌, ℕ, List, nat_eq, length, sym, ap, ◌∙◌, subst, arith}
use Rattle.dependency_index.proofs.NumberLemmas.{member_put}
use Rattle.log_index.specs.Marks.{is_marked, AreMarks, KeptMarks}
use Rattle.log_index.proofs.MarkLemmas.{put_are, put_fits}
use Rattle.log_index.proofs.NotedLemmas.{many}
use Rattle.log_index.proofs.marks.EntryMarks.mark.Goals as goal

pub put-requires-clause-fits : goal.put-requires-clause-fits
put-requires-clause-fits c =
    let seen = ap length (ap (λ (k : KeptMarks). k.reads) c.self.view_is) in
    let count = many c.self.inside.index.reads c.self.inside.places.labels in
    let within = c.requires in
    let inside : c.args.place < length c.self.inside.places.labels = omega arith in
    put_fits (length c.self.inside.places.labels) c.args.place _ c.self.inside.marks.items inside c.self.invariant.0.are c.self.invariant.1

pub invariant_of-self : goal.invariant_of-self
invariant_of-self c =
    let seen = ap length (ap (λ (k : KeptMarks). k.reads) c.self.view_is) in
    let count = many c.self.inside.index.reads c.self.inside.places.labels in
    let within = c.requires in
    let inside : c.args.place < length c.self.inside.places.labels = omega arith in
    let P : List ℕ → Type 0 = λ l. AreMarks (length c.self.inside.places.labels) l in
    let noted = c.self.invariant.0 in
    let room = c.self.invariant.1 in
    let more = c.put.ensures.spots in (
      record {
        apart = noted.apart;
        known = noted.known;
        are = subst P (sym c.put.ensures.items) (put_are (length c.self.inside.places.labels) c.args.place c.self.inside.marks.items inside noted.are);
      },
      omega arith,
    )

pub returns-clause-marks : goal.returns-clause-marks
returns-clause-marks c = λ q.
    ap (is_marked q) c.put.ensures.items ∙ member_put q c.args.place c.self.inside.marks.items
    ∙ ap (λ (k : KeptMarks). nat_eq q c.args.place || is_marked q k.marks) c.self.view_is
