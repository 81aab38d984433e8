use Rattle.std.proofs.Common.{◌≡◌, ◌<◌, length, map, set, ap, ◌∙◌, arith}
use Rattle.lang_lists.specs.Room.{is_made}
use Rattle.log_index.proofs.ReadyLemmas.{where_ok}
use Rattle.dependency_index.specs.Index.{call_code, note_call}
use Rattle.dependency_index.specs.Reads.{read_at, with_noted}
use Rattle.dependency_index.specs.declared.noted.Noted.{Noted}
use Rattle.log_index.specs.Marks.{reads_by, KeptMarks}
use Rattle.log_index.proofs.NotedLemmas.{many, noted_there}
use Rattle.log_index.proofs.marks.EntryMarks.set.Goals as goal

pub returns-clause-reads : goal.returns-clause-reads
returns-clause-reads c =
    let labels = c.self.inside.places.labels in
    let reads = c.args.reads.now in
    let old = c.self.inside.index.reads in
    let own : Noted = record { label = c.label_at-label.result; reads = map read_at reads } in
    let made = ap (is_made call_code (note_call reads)) (ap (λ (k : KeptMarks). k.notes) c.self.view_is) ∙ c.requires.ready in
    let noted : c.note_reads.new.self.reads ≡ with_noted own old = where_ok c.note_reads.result (c.note_reads.ensures.ready made) c.note_reads.ensures.ok in
    let seen = ap length (ap (λ (k : KeptMarks). k.reads) c.self.view_is) in
    let count = many old labels in
    let within = c.requires.within in
    let lt : c.args.place < length labels = omega arith in
    ap (λ n. reads_by n labels) noted ∙ noted_there own old labels c.args.place c.self.invariant.0.apart lt c.label_at-label.ensures.is
    ∙ ap (λ (k : KeptMarks). set k.reads c.args.place (map read_at reads)) c.self.view_is
