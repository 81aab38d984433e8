use Rattle.std.proofs.Common.{◌≡◌, List, ℕ, subst, sym}
use Rattle.std.specs.Prelude.{Bool, IsTrue, None}
use Rattle.store_lines.specs.Readings.{IsReadAs}
use Rattle.store_disk.specs.declared.store.Store.{Store}
use Rattle.store_commits.specs.Stands.{IsLeftWithTexts}
use Rattle.store_commits.proofs.WriteLemmas.{left_unwritten, not_some}
use Rattle.store_commits.proofs.writer.Writer.commit.Goals as goal

pub returns-then-upto-count-clause-told : goal.returns-then-upto-count-clause-told
returns-then-upto-count-clause-told g c = λ is clean pieces read.
    let none : c.self.inside.closing ≡ None = not_some c.self.inside.closing (cc) in
    let same : c.args.self.now.store ≡ c.self.inside.store = cc in
    left_unwritten pieces c.args.taken.texts (g.D.Disk.seen c.self.inside.store.disk) (g.D.Disk.may_leave c.self.inside.store.disk)
    ((c.self.invariant.0 none).ready.at_rest (subst (λ (s : Store g.row.D.Denot). IsTrue (g.D.Disk.is_clean s.disk)) same clean)).durable
    (subst (λ (s : Store g.row.D.Denot). IsReadAs pieces (g.D.Disk.seen s.disk)) same read)

pub returns-then-count-eq0-clause-told : goal.returns-then-count-eq0-clause-told
returns-then-count-eq0-clause-told g c = λ is clean pieces read.
    let none : c.self.inside.closing ≡ None = not_some c.self.inside.closing (cc) in
    let same : c.args.self.now.store ≡ c.self.inside.store = cc in
    subst (λ (s : Store g.row.D.Denot). IsLeftWithTexts pieces c.args.taken.texts (g.D.Disk.may_leave s.disk)) (sym same)
    (left_unwritten pieces c.args.taken.texts (g.D.Disk.seen c.self.inside.store.disk) (g.D.Disk.may_leave c.self.inside.store.disk)
    ((c.self.invariant.0 none).ready.at_rest (subst (λ (s : Store g.row.D.Denot). IsTrue (g.D.Disk.is_clean s.disk)) same clean)).durable
    (subst (λ (s : Store g.row.D.Denot). IsReadAs pieces (g.D.Disk.seen s.disk)) same read))

pub returns-in-Ok-clause-told : goal.returns-in-Ok-clause-told
returns-in-Ok-clause-told g c = λ is clean pieces read.
    let same : c.args.self.now.store ≡ c.self.inside.store = cc in
    let texts : c.as_slice.result.now ≡ c.args.taken.texts = cc in
    subst (λ (ts : List (List ℕ)). IsLeftWithTexts pieces ts (g.D.Disk.may_leave c.write_texts.new.store.disk)) texts
    (c.write_texts.ensures.told (subst (λ (s : Store g.row.D.Denot). IsTrue (g.D.Disk.is_clean s.disk)) same clean) pieces
    (subst (λ (s : Store g.row.D.Denot). IsReadAs pieces (g.D.Disk.seen s.disk)) same read))
