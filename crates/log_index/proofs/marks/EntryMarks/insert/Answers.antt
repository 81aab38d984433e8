use Rattle.std.proofs.Common.{◌≡◌, ◌≤◌, ◌+◌, ℕ, List, length, map, sym, ap, ◌∙◌, subst, arith}
use Rattle.std.specs.List.{All, Contains, insert}
use Rattle.std.proofs.lemmas.List.Edits.{length-insert}
use Rattle.std.proofs.lemmas.List.Elements.{All-weaker}
use Rattle.lang_lists.specs.Room.{is_made}
use Rattle.place_order.proofs.InsertLemmas.{put_there, still_there}
use Rattle.log_index.specs.Rows.{IsApart}
use Rattle.log_index.proofs.LabelLemmas.{apart_insert}
use Rattle.log_index.proofs.ReadyLemmas.{where_ok}
use Rattle.dependency_index.specs.Index.{call_code, note_call}
use Rattle.dependency_index.specs.Reads.{label_of, read_at, with_noted}
use Rattle.dependency_index.specs.declared.noted.Noted.{Noted}
use Rattle.log_index.specs.Marks.{reads_by, AreMarks, KeptMarks}
use Rattle.log_index.proofs.NotedLemmas.{many, noted_new}
use Rattle.log_index.proofs.marks.EntryMarks.insert.Goals as goal

pub invariant_of-self : goal.invariant_of-self
invariant_of-self c =
    let labels = c.self.inside.places.labels in
    let label = c.insert-label.result in
    let reads = c.args.reads.now in
    let old = c.self.inside.index.reads in
    let noted = c.self.invariant.0 in
    let made = ap (is_made call_code (note_call reads)) (ap (λ (k : KeptMarks). k.notes) c.self.view_is) ∙ c.requires.ready.note in
    let known = where_ok c.note_reads.result (c.note_reads.ensures.ready made) c.note_reads.ensures.known in
    let whole : List ℕ = insert labels c.args.place label in
    let A : List ℕ → Type 0 = λ l. IsApart l in
    let K : List ℕ → Type 0 = λ l. All (Contains l) (map label_of c.note_reads.new.self.reads) in
    let M : ℕ → Type 0 = λ n. AreMarks n c.insert.new.self.items in
    let e = sym c.insert-label.ensures.labels in
    let count = c.len-count.ensures in
    let seen = ap length (ap (λ (k : KeptMarks). k.reads) c.self.view_is) in
    let noted_many = many old labels in
    let within = c.requires.within in
    let inside : c.args.place ≤ length labels = omega arith in
    let n : length c.insert-label.new.self.labels ≡ length labels + 1 = ap length c.insert-label.ensures.labels ∙ length-insert labels c.args.place label inside in
    let spot = c.requires.ready.spot in
    let cap = ap (λ (k : KeptMarks). k.spots) c.self.view_is in
    let more = c.insert.ensures.spots in (
      record {
        apart = subst A e (apart_insert labels c.args.place label c.insert-label.ensures.is_new noted.apart);
        known = subst K e (known whole (All-weaker (Contains labels) (Contains whole) (λ x there. still_there labels c.args.place label x there) (map label_of old) noted.known)
            (put_there labels c.args.place label));
        are = subst M (omega arith) c.insert.ensures.marks;
      },
      omega arith,
    )

pub returns-clause-reads : goal.returns-clause-reads
returns-clause-reads c =
    let labels = c.self.inside.places.labels in
    let reads = c.args.reads.now in
    let old = c.self.inside.index.reads in
    let own : Noted = record { label = c.insert-label.result; reads = map read_at reads } in
    let made = ap (is_made call_code (note_call reads)) (ap (λ (k : KeptMarks). k.notes) c.self.view_is) ∙ c.requires.ready.note in
    let noted : c.note_reads.new.self.reads ≡ with_noted own old = where_ok c.note_reads.result (c.note_reads.ensures.ready made) c.note_reads.ensures.ok in
    ap (λ n. reads_by n c.insert-label.new.self.labels) noted ∙ ap (reads_by (with_noted own old)) c.insert-label.ensures.labels
    ∙ noted_new own old labels c.args.place c.insert-label.ensures.is_new
    ∙ ap (λ (k : KeptMarks). insert k.reads c.args.place (map read_at reads)) c.self.view_is
