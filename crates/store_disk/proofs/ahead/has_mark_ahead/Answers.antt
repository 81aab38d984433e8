use Rattle.std.proofs.Common.{◌≡◌, List, ℕ, take, drop, refl, sym, ◌∙◌, ap, subst, arith}
use Rattle.store_lines.specs.Readings.{IsAhead}
use Rattle.store_disk.proofs.ReadLemmas.{ahead_from_window, none_at_all, none_at_first, none_in_window, window_fits}
use Rattle.store_disk.proofs.ahead.has_mark_ahead.Goals as goal

pub loop-at-init : goal.loop-at-init
loop-at-init g c = record {
  begun = omega arith;
  usable = c.requires.usable;
  clean = λ is. is;
  seen = refl;
  crash = λ f left. left;
  counted = omega arith;
  none = λ is len. none_at_first c.args.lines c.args.from (g.D.Disk.seen c.args.disk.now);
}

pub loop-at-preserved : goal.loop-at-preserved
loop-at-preserved g c =
    let file = g.D.Disk.seen c.args.disk.now in
    let at = c.loop-at.at in
    let count = c.min-count.result in
    let long = c.min.result in
    record {
      begun = omega (arith, c.loop-at.invariant.begun);
      usable = c.read_piece.ensures.usable;
      clean = λ is. c.loop-at.invariant.clean (c.read_piece.ensures.clean is);
      seen = c.read_piece.ensures.seen ∙ c.loop-at.invariant.seen;
      crash = λ f left. c.loop-at.invariant.crash f (c.read_piece.ensures.crash f left);
      counted = omega (arith, c.loop-at.invariant.counted, c.read_piece.ensures.counted);
      none = λ is len.
          let window : c.deref.result.now ≡ take long (drop at file) =
          c.deref.ensures.value ∙ c.in_ok-bytes.ensures.bytes is ∙ ap (λ (l : List ℕ). take long (drop at l)) c.loop-at.invariant.seen in
          none_in_window c.args.lines c.args.from at count long file c.loop-at.invariant.begun (c.loop-at.invariant.none (c.read_piece.ensures.clean is) len)
          (λ ahead. c.in_ok-mark_ahead.ensures.no c.if-branch.false (subst (λ (l : List ℕ). IsAhead c.args.lines count l) (sym window) ahead))
          (window_fits count at c.args.len long file len c.min.ensures);
    }

pub returns-then-branch-clause-yes : goal.returns-then-branch-clause-yes
returns-then-branch-clause-yes g c = λ is len yes.
    let file = g.D.Disk.seen c.args.disk.now in
    let at = c.loop-at.at in
    let count = c.min-count.result in
    let long = c.min.result in
    let window : c.deref.result.now ≡ take long (drop at file) =
    c.deref.ensures.value ∙ c.in_ok-bytes.ensures.bytes is ∙ ap (λ (l : List ℕ). take long (drop at l)) c.loop-at.invariant.seen in
    ahead_from_window c.args.lines c.args.from c.args.to at count long file c.loop-at.invariant.begun (omega (arith, c.min-count.ensures, c.loop-at-test.true))
    (subst (λ (l : List ℕ). IsAhead c.args.lines count l) window (c.in_ok-mark_ahead.ensures.yes c.if-branch.true))

pub returns-clause-no : goal.returns-clause-no
returns-clause-no g c = λ is len no.
    none_at_all c.args.lines c.args.from c.args.to (g.D.Disk.seen c.args.disk.now)
    (λ i below begins. c.loop-at.invariant.none is len i (omega (arith, c.loop-at-test.false)) begins)
