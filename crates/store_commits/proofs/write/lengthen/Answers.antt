use Rattle.std.proofs.Common.{◌≡◌, ◌+◌, ◌<◌, ◌≤◌, ◌^◌, ◌++◌, [], ◌∷◌, List, ℕ, map, ap, sym, subst, ◌∙◌, arith, length}
use Rattle.std.specs.Prelude.{Bool, IsTrue}
use Rattle.store_lines.specs.Lines.{recovered, IsBetween}
use Rattle.store_lines.specs.Readings.{IsReadAs}
use Rattle.store_lines.specs.Seals.{spelled_from, texts_from}
use Rattle.store_lines.specs.declared.piece.Piece.{Piece}
use Rattle.store_lines.specs.declared.piece.Piece.TheVariants.{Safe}
use Rattle.store_commits.specs.Stands.{Appended, texts_in}
use Rattle.store_commits.proofs.TextLemmas.{between_no_texts, between_texts}
use Rattle.store_commits.proofs.WriteLemmas.{appended, count_texts, grown_reads, left_as, left_behind, lengthened, next_batch}
use Rattle.store_commits.proofs.write.lengthen.Goals as goal

pub returns-in_err-grow-clause-told : goal.returns-in_err-grow-clause-told
returns-in_err-grow-clause-told g c = λ clean pieces read. left_as pieces [] (g.D.Disk.may_leave c.grow.new.self.disk) (c.grow.ensures.told clean pieces read)

pub returns-in_err-append-clause-told : goal.returns-in_err-append-clause-told
returns-in_err-append-clause-told g c = λ clean pieces read.
    let mid_clean : IsTrue (g.D.Disk.is_clean c.grow.new.self.disk) = subst (λ (b : Bool). IsTrue b) (sym c.grow.ensures.clean) clean in
    let mid_read : IsReadAs pieces (g.D.Disk.seen c.grow.new.self.disk) =
    grown_reads g.D.Disk.seen g.D.Disk.may_leave c.args.store.now c.grow.new.self.len (g.D.Disk.seen c.grow.new.self.disk) (c.requires.ready.at_rest clean) (omega (arith, c.in_ok-grow.ensures.sizes.0))
    (c.in_ok-grow.ensures.read clean) pieces read in
    left_behind pieces (Safe (c.args.store.now.len + c.args.by)) [] (g.D.Disk.may_leave c.append.new.self.disk) tt
    (c.append.ensures.told mid_clean pieces (Safe (c.args.store.now.len + c.args.by) ∷ []) mid_read
    (next_batch c.grow.new.self.len c.args.lines (Safe (c.args.store.now.len + c.args.by)) [] pieces (g.D.Disk.seen c.grow.new.self.disk) _ (omega arith)
    (c.requires.ready.count clean ∙ ap length (sym (c.in_ok-grow.ensures.grown clean).1)) mid_read (omega (arith, c.in_ok-grow.ensures.sizes.0), omega arith) c.in_ok-mark.ensures))

pub returns-clause-told : goal.returns-clause-told
returns-clause-told g c = λ clean pieces read.
    let mid_clean : IsTrue (g.D.Disk.is_clean c.grow.new.self.disk) = subst (λ (b : Bool). IsTrue b) (sym c.grow.ensures.clean) clean in
    let mid_read : IsReadAs pieces (g.D.Disk.seen c.grow.new.self.disk) =
    grown_reads g.D.Disk.seen g.D.Disk.may_leave c.args.store.now c.grow.new.self.len (g.D.Disk.seen c.grow.new.self.disk) (c.requires.ready.at_rest clean) (omega (arith, c.in_ok-grow.ensures.sizes.0))
    (c.in_ok-grow.ensures.read clean) pieces read in
    left_behind pieces (Safe (c.args.store.now.len + c.args.by)) [] (g.D.Disk.may_leave c.append.new.self.disk) tt
    (c.append.ensures.told mid_clean pieces (Safe (c.args.store.now.len + c.args.by) ∷ []) mid_read
    (next_batch c.grow.new.self.len c.args.lines (Safe (c.args.store.now.len + c.args.by)) [] pieces (g.D.Disk.seen c.grow.new.self.disk) _ (omega arith)
    (c.requires.ready.count clean ∙ ap length (sym (c.in_ok-grow.ensures.grown clean).1)) mid_read (omega (arith, c.in_ok-grow.ensures.sizes.0), omega arith) c.in_ok-mark.ensures))

pub returns-in_err-append-clause-crash : goal.returns-in_err-append-clause-crash
returns-in_err-append-clause-crash g c = λ clean f left.
    let mid_clean : IsTrue (g.D.Disk.is_clean c.grow.new.self.disk) = subst (λ (b : Bool). IsTrue b) (sym c.grow.ensures.clean) clean in
    let same = (c.in_ok-grow.ensures.grown clean).1 in
    between_no_texts (texts_in (g.D.Disk.seen c.grow.new.self.disk)) (texts_in f)
    (between_texts c.args.lines (Safe (c.args.store.now.len + c.args.by)) [] (recovered (g.D.Disk.seen c.grow.new.self.disk)) (recovered f) (c.requires.ready.count clean ∙ ap length (sym same)) tt
    (subst (λ (l : List (List ℕ)). IsBetween (recovered (g.D.Disk.seen c.grow.new.self.disk)) l (recovered f)) c.in_ok-mark.ensures (c.append.ensures.crash mid_clean f left)))
    ∙ ap (λ (l : List (List ℕ)). texts_from 0 l) same

pub returns-clause-crash : goal.returns-clause-crash
returns-clause-crash g c = λ clean f left.
    let mid_clean : IsTrue (g.D.Disk.is_clean c.grow.new.self.disk) = subst (λ (b : Bool). IsTrue b) (sym c.grow.ensures.clean) clean in
    let same = (c.in_ok-grow.ensures.grown clean).1 in
    between_no_texts (texts_in (g.D.Disk.seen c.grow.new.self.disk)) (texts_in f)
    (between_texts c.args.lines (Safe (c.args.store.now.len + c.args.by)) [] (recovered (g.D.Disk.seen c.grow.new.self.disk)) (recovered f) (c.requires.ready.count clean ∙ ap length (sym same)) tt
    (subst (λ (l : List (List ℕ)). IsBetween (recovered (g.D.Disk.seen c.grow.new.self.disk)) l (recovered f)) c.in_ok-mark.ensures (c.append.ensures.crash mid_clean f left)))
    ∙ ap (λ (l : List (List ℕ)). texts_from 0 l) same

pub returns-clause-written : goal.returns-clause-written
returns-clause-written g c = λ clean.
    let mid_clean : IsTrue (g.D.Disk.is_clean c.grow.new.self.disk) = subst (λ (b : Bool). IsTrue b) (sym c.grow.ensures.clean) clean in
    let same = (c.in_ok-grow.ensures.grown clean).1 in
    let long : c.args.store.now.len + c.args.by ≡ c.append.new.self.len = omega (arith, c.in_ok-grow.ensures.sizes.0, c.in_ok-append.ensures.sizes.0) in
    subst (λ (n : ℕ). Appended c.args.lines (g.D.Disk.seen c.args.store.now.disk) (g.D.Disk.seen c.append.new.self.disk) (Safe n ∷ [])) long
    (lengthened c.args.lines (g.D.Disk.seen c.args.store.now.disk) (g.D.Disk.seen c.grow.new.self.disk) (g.D.Disk.seen c.append.new.self.disk) (Safe (c.args.store.now.len + c.args.by) ∷ []) same
    (grown_reads g.D.Disk.seen g.D.Disk.may_leave c.args.store.now c.grow.new.self.len (g.D.Disk.seen c.grow.new.self.disk) (c.requires.ready.at_rest clean) (omega (arith, c.in_ok-grow.ensures.sizes.0)) (c.in_ok-grow.ensures.read clean))
    (appended c.grow.new.self.len c.args.lines (Safe (c.args.store.now.len + c.args.by)) [] (g.D.Disk.seen c.grow.new.self.disk) (g.D.Disk.seen c.append.new.self.disk) _ (omega arith)
    (c.requires.ready.count clean ∙ ap length (sym same)) (omega (arith, c.in_ok-grow.ensures.sizes.0), omega arith) c.in_ok-mark.ensures (c.in_ok-append.ensures.appended mid_clean).1 (c.in_ok-append.ensures.read mid_clean)))

pub returns-clause-ready : goal.returns-clause-ready
returns-clause-ready g c =
    record {
      usable = c.in_ok-append.ensures.usable;
      at_rest = λ clean. (c.in_ok-append.ensures.appended (subst (λ (b : Bool). IsTrue b) c.append.ensures.clean clean)).0;
      count = λ clean.
          let mid_clean = subst (λ (b : Bool). IsTrue b) c.append.ensures.clean clean in
          let was = subst (λ (b : Bool). IsTrue b) c.grow.ensures.clean mid_clean in
          let now : c.args.lines + 1 + 0 ≡ length (recovered (g.D.Disk.seen c.append.new.self.disk)) =
          count_texts c.args.lines (Safe (c.args.store.now.len + c.args.by)) [] (recovered (g.D.Disk.seen c.grow.new.self.disk)) (recovered (g.D.Disk.seen c.append.new.self.disk))
          (c.requires.ready.count was ∙ ap length (sym (c.in_ok-grow.ensures.grown was).1))
          ((c.in_ok-append.ensures.appended mid_clean).1 ∙ ap (λ (l : List (List ℕ)). recovered (g.D.Disk.seen c.grow.new.self.disk) ++ l) c.in_ok-mark.ensures) in
          omega arith;
    }
