use Rattle.std.proofs.Common.{◌≡◌, ◌+◌, ℕ, List, Option, length, map, drop, sym, ap, ◌∙◌, subst, arith}
use Rattle.std.specs.List.{All, Contains, slice_get}
use Rattle.std.specs.Option.{ForSome}
use Rattle.std.proofs.lemmas.List.{drop-map, length-drop}
use Rattle.dependency_index.specs.Reads.{label_of, noted_behind}
use Rattle.dependency_index.specs.declared.noted.Noted.{Noted}
use Rattle.log_index.specs.Rows.{IsApart}
use Rattle.log_index.specs.Marks.{is_marked, reads_by, reads_under, AreMarks, KeptMarks}
use Rattle.log_index.proofs.LabelLemmas.{apart_drop, known_end}
use Rattle.log_index.proofs.NotedLemmas.{by_behind, known_behind, many}
use Rattle.log_index.proofs.marks.EntryMarks.fold.Goals as goal

pub forget_before-requires-clause-labels : goal.forget_before-requires-clause-labels
forget_before-requires-clause-labels c =
    let L : List ℕ → Type 0 = λ l. All (Contains l) (map label_of c.self.inside.index.reads) in
    subst L (sym c.order.ensures) c.self.invariant.0.known

pub forget_before-requires-clause-end : goal.forget_before-requires-clause-end
forget_before-requires-clause-end c =
    let labels = c.self.inside.places.labels in
    let L : List ℕ → Type 0 = λ l. ForSome c.get-end.result (Contains l) in
    let E : Option ℕ → Type 0 = λ e. ForSome e (Contains labels) in
    subst L (sym c.order.ensures) (subst E (sym c.get-end.ensures) (known_end labels c.args.n))

pub forget_first-requires : goal.forget_first-requires
forget_first-requires c =
    let seen = ap length (ap (λ (k : KeptMarks). k.reads) c.self.view_is) in
    let count = many c.self.inside.index.reads c.self.inside.places.labels in
    let within = c.requires in
    omega arith

pub fold-requires-clause-marks : goal.fold-requires-clause-marks
fold-requires-clause-marks c =
    let M : ℕ → Type 0 = λ n. AreMarks n c.self.inside.marks.items in
    subst M (sym c.len-count.ensures) c.self.invariant.0.are

pub fold-requires-clause-within : goal.fold-requires-clause-within
fold-requires-clause-within c =
    let seen = ap length (ap (λ (k : KeptMarks). k.reads) c.self.view_is) in
    let count = many c.self.inside.index.reads c.self.inside.places.labels in
    let len = c.len-count.ensures in
    let within = c.requires in
    omega arith

-- what is noted still
noted : (c : goal.After-fold) → c.forget_before.new.self.reads ≡ noted_behind c.self.inside.places.labels (slice_get c.self.inside.places.labels c.args.n) c.self.inside.index.reads
noted c =
    let reads = c.self.inside.index.reads in
    c.forget_before.ensures.reads ∙ ap (λ l. noted_behind l c.get-end.result reads) c.order.ensures
    ∙ ap (λ e. noted_behind c.self.inside.places.labels e reads) c.get-end.ensures

pub invariant_of-self : goal.invariant_of-self
invariant_of-self c =
    let labels = c.self.inside.places.labels in
    let n = c.args.n in
    let was = c.self.invariant.0 in
    let room = c.self.invariant.1 in
    let left = c.forget_first.ensures in
    let long = ap length left ∙ length-drop n labels in
    let len = c.len-count.ensures in
    let more = c.fold.ensures.spots in
    let A : List ℕ → Type 0 = λ l. IsApart l in
    let K : List Noted → Type 0 = λ ns. All (Contains (drop n labels)) (map label_of ns) in
    let L : List ℕ → Type 0 = λ l. All (Contains l) (map label_of c.forget_before.new.self.reads) in
    let M : ℕ → Type 0 = λ k. AreMarks k c.fold.new.self.items in (
      record {
        apart = subst A (sym left) (apart_drop n labels was.apart);
        known = subst L (sym left) (subst K (sym (noted c)) (known_behind labels n c.self.inside.index.reads was.apart was.known));
        are = subst M (omega arith) c.fold.ensures.marks;
      },
      omega arith,
    )

pub returns-clause-reads : goal.returns-clause-reads
returns-clause-reads c =
    let labels = c.self.inside.places.labels in
    let n = c.args.n in
    ap (reads_by c.forget_before.new.self.reads) c.forget_first.ensures ∙ ap (λ ns. reads_by ns (drop n labels)) (noted c)
    ∙ by_behind labels n c.self.inside.index.reads c.self.invariant.0.apart
    ∙ sym (drop-map (reads_under c.self.inside.index.reads) n labels) ∙ ap (drop n) (ap (λ (k : KeptMarks). k.reads) c.self.view_is)

pub returns-clause-marks : goal.returns-clause-marks
returns-clause-marks c = λ q. c.fold.ensures.each q ∙ ap (λ (k : KeptMarks). is_marked (c.args.n + q) k.marks) c.self.view_is
