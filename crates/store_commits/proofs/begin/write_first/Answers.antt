use Rattle.std.proofs.Common.{◌≡◌, [], ◌∷◌, List, ℕ, subst, sym, ap, ◌∙◌, length}
use Rattle.std.specs.Prelude.{Bool, IsTrue}
use Rattle.store_lines.specs.Lines.{recovered}
use Rattle.store_lines.specs.declared.piece.Piece.TheVariants.{Text}
use Rattle.store_commits.proofs.BeginLemmas.{few_none, few_of_one, few_of_two, one_line, two_texts}
use Rattle.store_commits.proofs.begin.write_first.Goals as goal

pub append_lines-requires-clause-ready : goal.append_lines-requires-clause-ready
append_lines-requires-clause-ready g c =
    record {
      usable = c.in_ok-stretch.ensures.usable;
      at_rest = λ clean. (c.in_ok-stretch.ensures.at_rest (subst (λ (b : Bool). IsTrue b) c.stretch.ensures.clean clean)).0;
      count = λ clean. sym (ap length (c.in_ok-stretch.ensures.at_rest (subst (λ (b : Bool). IsTrue b) c.stretch.ensures.clean clean)).1);
    }

pub returns-in_err-stretch-clause-crash : goal.returns-in_err-stretch-clause-crash
returns-in_err-stretch-clause-crash g c = λ clean f left. few_none c.args.first c.args.began (recovered f) (c.stretch.ensures.crash clean f left)

pub returns-in_err-begun-clause-crash : goal.returns-in_err-begun-clause-crash
returns-in_err-begun-clause-crash g c = λ clean f left.
    few_of_one c.args.first c.args.began (recovered (g.D.Disk.seen c.stretch.new.store.disk)) (recovered f) (c.in_ok-stretch.ensures.at_rest clean).1
    (c.append_lines.ensures.crash (subst (λ (b : Bool). IsTrue b) (sym c.stretch.ensures.clean) clean) f left)

pub returns-in_err-lines-clause-crash : goal.returns-in_err-lines-clause-crash
returns-in_err-lines-clause-crash g c = λ clean f left.
    let then = subst (λ (b : Bool). IsTrue b) (sym c.stretch.ensures.clean) clean in
    let mid = subst (λ (b : Bool). IsTrue b) (sym c.append_lines.ensures.clean) then in
    few_of_two _ c.args.first c.args.began (recovered (g.D.Disk.seen c.append_lines.new.store.disk)) (recovered f)
    (one_line c.args.first (g.D.Disk.seen c.stretch.new.store.disk) (g.D.Disk.seen c.append_lines.new.store.disk) (c.in_ok-stretch.ensures.at_rest clean).1 (c.in_ok-begun.ensures.written then))
    (c.in_ok-begun.ensures.ready.count mid) (c.append_lines-2.ensures.crash mid f left)

pub returns-clause-crash : goal.returns-clause-crash
returns-clause-crash g c = λ clean f left.
    let then = subst (λ (b : Bool). IsTrue b) (sym c.stretch.ensures.clean) clean in
    let mid = subst (λ (b : Bool). IsTrue b) (sym c.append_lines.ensures.clean) then in
    few_of_two _ c.args.first c.args.began (recovered (g.D.Disk.seen c.append_lines.new.store.disk)) (recovered f)
    (one_line c.args.first (g.D.Disk.seen c.stretch.new.store.disk) (g.D.Disk.seen c.append_lines.new.store.disk) (c.in_ok-stretch.ensures.at_rest clean).1 (c.in_ok-begun.ensures.written then))
    (c.in_ok-begun.ensures.ready.count mid) (c.append_lines-2.ensures.crash mid f left)

pub returns-clause-read : goal.returns-clause-read
returns-clause-read g c = λ clean.
    let then = subst (λ (b : Bool). IsTrue b) (sym c.stretch.ensures.clean) clean in
    let mid = subst (λ (b : Bool). IsTrue b) (sym c.append_lines.ensures.clean) then in
    (c.in_ok-lines.ensures.written mid).read (Text c.args.first ∷ []) ((c.in_ok-begun.ensures.written then).read [] (c.in_ok-stretch.ensures.read clean))

pub returns-clause-stands : goal.returns-clause-stands
returns-clause-stands g c =
    record {
      ready = c.in_ok-lines.ensures.ready;
      records = λ clean.
          let mid = subst (λ (b : Bool). IsTrue b) c.append_lines-2.ensures.clean clean in
          let then = subst (λ (b : Bool). IsTrue b) c.append_lines.ensures.clean mid in
          let was = subst (λ (b : Bool). IsTrue b) c.stretch.ensures.clean then in
          two_texts _ c.args.first c.args.began (g.D.Disk.seen c.stretch.new.store.disk) (g.D.Disk.seen c.append_lines.new.store.disk) (g.D.Disk.seen c.append_lines-2.new.store.disk)
          (c.in_ok-stretch.ensures.at_rest was).1 (c.in_ok-begun.ensures.written then) (c.in_ok-begun.ensures.ready.count mid) (c.in_ok-lines.ensures.written mid);
    }
