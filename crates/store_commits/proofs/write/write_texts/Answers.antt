use Rattle.std.proofs.Common.{◌≡◌, ◌++◌, List, ℕ, sym, subst, ◌∙◌, ap}
use Rattle.std.specs.Prelude.{Bool, IsTrue}
use Rattle.store_lines.specs.Lines.{recovered, IsBetween}
use Rattle.store_lines.specs.declared.piece.Piece.TheVariants.{Safe}
use Rattle.store_commits.specs.Stands.{AreWritten, behind_mark, texts_in}
use Rattle.store_commits.proofs.TextLemmas.{between_texts}
use Rattle.store_commits.proofs.WriteLemmas.{both_appended, left_before, left_behind_room, texts_of_room, texts_of_written}
use Rattle.store_commits.proofs.write.write_texts.Goals as goal

pub returns-in_err-lines-clause-told : goal.returns-in_err-lines-clause-told
returns-in_err-lines-clause-told g c = λ clean pieces read. left_before pieces c.args.texts.now (g.D.Disk.may_leave c.make_room.new.store.disk) (c.make_room.ensures.told clean pieces read)

pub returns-in_err-lines-2-clause-told : goal.returns-in_err-lines-2-clause-told
returns-in_err-lines-2-clause-told g c = λ clean pieces read.
    let made = c.in_ok-lines.ensures.made in
    left_behind_room c.args.store.now.len c.make_room.new.store.len pieces made.0 (Safe c.make_room.new.store.len) c.args.texts.now (g.D.Disk.may_leave c.append_lines.new.store.disk) made.1 tt
    (c.append_lines.ensures.told (subst (λ (b : Bool). IsTrue b) (sym c.make_room.ensures.clean) clean) (pieces ++ made.0) ((made.2 clean).read pieces read))

pub returns-clause-told : goal.returns-clause-told
returns-clause-told g c = λ clean pieces read.
    let made = c.in_ok-lines.ensures.made in
    left_behind_room c.args.store.now.len c.make_room.new.store.len pieces made.0 (Safe c.make_room.new.store.len) c.args.texts.now (g.D.Disk.may_leave c.append_lines.new.store.disk) made.1 tt
    (c.append_lines.ensures.told (subst (λ (b : Bool). IsTrue b) (sym c.make_room.ensures.clean) clean) (pieces ++ made.0) ((made.2 clean).read pieces read))

pub returns-in_err-lines-2-clause-crash : goal.returns-in_err-lines-2-clause-crash
returns-in_err-lines-2-clause-crash g c = λ clean f left.
    let made = c.in_ok-lines.ensures.made in
    let mid_clean = subst (λ (b : Bool). IsTrue b) (sym c.make_room.ensures.clean) clean in
    let same = texts_of_room c.args.lines.now c.args.store.now.len c.make_room.new.store.len (g.D.Disk.seen c.args.store.now.disk) (g.D.Disk.seen c.make_room.new.store.disk) made.0 (c.requires.count clean)
    made.1 (made.2 clean) in
    subst (λ (l : List (List ℕ)). IsBetween l c.args.texts.now (texts_in f)) same
    (between_texts _ (Safe c.make_room.new.store.len) c.args.texts.now (recovered (g.D.Disk.seen c.make_room.new.store.disk)) (recovered f) (c.in_ok-lines.ensures.ready.count mid_clean) tt
    (c.append_lines.ensures.crash mid_clean f left))

pub returns-clause-crash : goal.returns-clause-crash
returns-clause-crash g c = λ clean f left.
    let made = c.in_ok-lines.ensures.made in
    let mid_clean = subst (λ (b : Bool). IsTrue b) (sym c.make_room.ensures.clean) clean in
    let same = texts_of_room c.args.lines.now c.args.store.now.len c.make_room.new.store.len (g.D.Disk.seen c.args.store.now.disk) (g.D.Disk.seen c.make_room.new.store.disk) made.0 (c.requires.count clean)
    made.1 (made.2 clean) in
    subst (λ (l : List (List ℕ)). IsBetween l c.args.texts.now (texts_in f)) same
    (between_texts _ (Safe c.make_room.new.store.len) c.args.texts.now (recovered (g.D.Disk.seen c.make_room.new.store.disk)) (recovered f) (c.in_ok-lines.ensures.ready.count mid_clean) tt
    (c.append_lines.ensures.crash mid_clean f left))

pub returns-clause-written : goal.returns-clause-written
returns-clause-written g c = λ clean.
    let made = c.in_ok-lines.ensures.made in
    let mid_clean = subst (λ (b : Bool). IsTrue b) (sym c.make_room.ensures.clean) clean in
    subst
    (λ (n : ℕ). AreWritten c.args.lines.now c.args.store.now.len n (g.D.Disk.seen c.args.store.now.disk) (g.D.Disk.seen c.append_lines.new.store.disk) c.args.texts.now)
    (sym c.in_ok-lines-2.ensures.len) (
      made.0,
      made.1,
      both_appended c.args.lines.now _ (g.D.Disk.seen c.args.store.now.disk) (g.D.Disk.seen c.make_room.new.store.disk) (g.D.Disk.seen c.append_lines.new.store.disk) made.0
          (behind_mark c.make_room.new.store.len c.args.texts.now) (c.requires.count clean) (c.in_ok-lines.ensures.ready.count mid_clean) (made.2 clean) (c.in_ok-lines-2.ensures.written mid_clean),
    )

pub returns-clause-texts : goal.returns-clause-texts
returns-clause-texts g c = λ clean.
    let made = c.in_ok-lines.ensures.made in
    let mid_clean = subst (λ (b : Bool). IsTrue b) (sym c.make_room.ensures.clean) clean in
    texts_of_written c.args.lines.now c.args.store.now.len c.make_room.new.store.len (g.D.Disk.seen c.args.store.now.disk) (g.D.Disk.seen c.append_lines.new.store.disk) c.args.texts.now
    (c.requires.count clean) (
      made.0,
      made.1,
      both_appended c.args.lines.now _ (g.D.Disk.seen c.args.store.now.disk) (g.D.Disk.seen c.make_room.new.store.disk) (g.D.Disk.seen c.append_lines.new.store.disk) made.0
          (behind_mark c.make_room.new.store.len c.args.texts.now) (c.requires.count clean) (c.in_ok-lines.ensures.ready.count mid_clean) (made.2 clean) (c.in_ok-lines-2.ensures.written mid_clean),
    )
