use Rattle.std.proofs.Common.{◌≡◌, ◌+◌, ◌++◌, ◌∷◌, List, ℕ, map, ap, subst, ◌∙◌, arith, length}
use Rattle.std.specs.Prelude.{Bool, IsTrue}
use Rattle.store_lines.specs.Lines.{recovered}
use Rattle.store_lines.specs.declared.piece.Piece.TheVariants.{Text}
use Rattle.store_commits.proofs.WriteLemmas.{appended, count_texts, next_batch}
use Rattle.store_commits.proofs.write.append_lines.Goals as goal

pub returns-in_err-append-clause-told : goal.returns-in_err-append-clause-told
returns-in_err-append-clause-told g c = λ clean pieces read.
    c.append.ensures.told clean pieces (c.args.mark.now ∷ map Text c.args.texts.now) read
    (next_batch c.args.store.now.len c.args.lines c.args.mark.now c.args.texts.now pieces (g.D.Disk.seen c.args.store.now.disk) _ (omega arith) (c.requires.ready.count clean) read
    c.requires.mark c.in_ok-batch.ensures)

pub returns-clause-told : goal.returns-clause-told
returns-clause-told g c = λ clean pieces read.
    c.append.ensures.told clean pieces (c.args.mark.now ∷ map Text c.args.texts.now) read
    (next_batch c.args.store.now.len c.args.lines c.args.mark.now c.args.texts.now pieces (g.D.Disk.seen c.args.store.now.disk) _ (omega arith) (c.requires.ready.count clean) read
    c.requires.mark c.in_ok-batch.ensures)

pub returns-clause-written : goal.returns-clause-written
returns-clause-written g c = λ clean.
    appended c.args.store.now.len c.args.lines c.args.mark.now c.args.texts.now (g.D.Disk.seen c.args.store.now.disk) (g.D.Disk.seen c.append.new.self.disk) _ (omega arith)
    (c.requires.ready.count clean) c.requires.mark c.in_ok-batch.ensures (c.in_ok-append.ensures.appended clean).1 (c.in_ok-append.ensures.read clean)

pub returns-clause-ready : goal.returns-clause-ready
returns-clause-ready g c =
    record {
      usable = c.in_ok-append.ensures.usable;
      at_rest = λ clean. (c.in_ok-append.ensures.appended (subst (λ (b : Bool). IsTrue b) c.append.ensures.clean clean)).0;
      count = λ clean.
          let was = subst (λ (b : Bool). IsTrue b) c.append.ensures.clean clean in
          let now : c.args.lines + 1 + length c.args.texts.now ≡ length (recovered (g.D.Disk.seen c.append.new.self.disk)) =
          count_texts c.args.lines c.args.mark.now c.args.texts.now (recovered (g.D.Disk.seen c.args.store.now.disk)) (recovered (g.D.Disk.seen c.append.new.self.disk))
          (c.requires.ready.count was)
          ((c.in_ok-append.ensures.appended was).1 ∙ ap (λ (l : List (List ℕ)). recovered (g.D.Disk.seen c.args.store.now.disk) ++ l) c.in_ok-batch.ensures) in
          omega arith;
    }
