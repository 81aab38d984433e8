use Rattle.std.proofs.Common.{◌≡◌, ◌+◌, [], List, ℕ, subst, sym, ap, ◌∙◌, length}
use Rattle.std.specs.Prelude.{Bool, IsTrue, None}
use Rattle.store_lines.specs.Readings.{IsReadAs}
use Rattle.store_lines.specs.declared.piece.Piece.TheVariants.{Stopped}
use Rattle.store_disk.specs.declared.store.Store.{Store}
use Rattle.store_commits.proofs.WriteLemmas.{left_behind, not_some, texts_of_mark}
use Rattle.store_commits.proofs.writer.Writer.stop.Goals as goal

pub invariant_of-self : goal.invariant_of-self
invariant_of-self g c =
    let none : c.self.inside.closing ≡ None = not_some c.self.inside.closing (cc) in
    let stands = c.self.invariant.0 none in (
      (λ still. record {
        ready = c.in-Ok.ensures.ready;
        records = λ clean.
            let was : IsTrue (g.D.Disk.is_clean c.self.inside.store.disk) = subst (λ (b : Bool). IsTrue b) c.append_lines.ensures.clean clean in
            stands.records was
            ∙ ap length (sym (texts_of_mark c.self.inside.lines (Stopped c.self.inside.store.len) (g.D.Disk.seen c.self.inside.store.disk) (g.D.Disk.seen c.append_lines.new.store.disk)
            (stands.ready.count was) tt (c.in-Ok.ensures.written was)));
      }),
      (λ e is. cc),
      (λ is. cc),
    )

pub returns-clause-told : goal.returns-clause-told
returns-clause-told g c = λ is clean pieces read.
    let same : c.args.self.now.store ≡ c.self.inside.store = cc in
    left_behind pieces (Stopped c.self.inside.store.len) [] (g.D.Disk.may_leave c.append_lines.new.store.disk) tt
    (c.append_lines.ensures.told (subst (λ (s : Store g.row.D.Denot). IsTrue (g.D.Disk.is_clean s.disk)) same clean) pieces
    (subst (λ (s : Store g.row.D.Denot). IsReadAs pieces (g.D.Disk.seen s.disk)) same read))
