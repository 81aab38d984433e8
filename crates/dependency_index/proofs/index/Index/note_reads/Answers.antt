use Rattle.std.proofs.Common.{◌≡◌, ℕ, List, map, sym, ap, ◌∙◌, subst}
use Rattle.std.specs.List.{All, Contains}
use Rattle.dependency_index.specs.Reads.{label_of, with_noted}
use Rattle.dependency_index.specs.declared.noted.Noted.{Noted}
use Rattle.dependency_index.proofs.IndexLemmas.{noted_all}
use Rattle.dependency_index.proofs.index.Index.note_reads.Goals as goal

pub returns-clause-known : goal.returns-clause-known
returns-clause-known c = λ order all here.
    let ns = c.self.inside.noted.items in
    let own : Noted = record { label = c.args.label; reads = c.in_ok-reads.reads } in
    let same : c.args.self.now.reads ≡ ns = sym (ap (λ v. v.reads) c.self.view_is) in
    let P : ℕ → Type 0 = λ x. Contains order x in
    let Q : List Noted → Type 0 = λ l. All P (map label_of l) in
    let is : c.note.new.noted.items ≡ with_noted own ns = c.note.ensures.noted ∙ ap (with_noted own) c.take_reads.ensures.items in
    subst Q (sym is) (noted_all P own ns (subst Q same all) here)
