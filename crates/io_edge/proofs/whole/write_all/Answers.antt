use Rattle.std.proofs.Common.{◌∙◌, ◌+◌, List, ℕ, take, length, arith, refl, subst, ap, length-drop}
use Rattle.std.proofs.lemmas.Result.{err_from_is_err_and}
use Rattle.io_edge.specs.Edge.{Wrote}
use Rattle.io_edge.proofs.Pieces.{piece_at, short_at, slice_rest}
use Rattle.io_edge.proofs.whole.write_all.Goals as goal

pub returns-in_err-n-clause-err : goal.returns-in_err-n-clause-err
returns-in_err-n-clause-err g c =
    let is_err = err_from_is_err_and c.from_residual.result c.from_residual.ensures.1 in
    rw is_err.1 (short_at (g.K.Sink.writes c.args.sink.now) (g.K.Sink.writes c.loop-at.sink) (g.K.Sink.writes c.write.new.self) c.args.bytes.now c.loop-at.at (omega arith) c.loop-at.invariant.wrote c.in_err-n.ensures.err)

pub returns-then-n-eq0-clause-err : goal.returns-then-n-eq0-clause-err
returns-then-n-eq0-clause-err g c =
    let P : List ℕ → Type 0 = λ rest. Wrote (g.K.Sink.writes c.loop-at.sink) (g.K.Sink.writes c.write.new.self) (take c.in_ok-n.n rest) in
    let piece = subst P (slice_rest c.args.bytes.now c.loop-at.at) c.in_ok-n.ensures.wrote in
    let front = piece_at (g.K.Sink.writes c.args.sink.now) (g.K.Sink.writes c.loop-at.sink) (g.K.Sink.writes c.write.new.self) c.args.bytes.now c.loop-at.at c.in_ok-n.n c.loop-at.invariant.wrote piece in
    short_at (g.K.Sink.writes c.args.sink.now) (g.K.Sink.writes c.write.new.self) (g.K.Sink.writes c.write.new.self) c.args.bytes.now (c.loop-at.at + c.in_ok-n.n) (omega arith) front refl

pub loop-at-preserved : goal.loop-at-preserved
loop-at-preserved g c =
    let P : List ℕ → Type 0 = λ rest. Wrote (g.K.Sink.writes c.loop-at.sink) (g.K.Sink.writes c.write.new.self) (take c.in_ok-n.n rest) in
    let rest = slice_rest c.args.bytes.now c.loop-at.at in
    record {
      wrote = piece_at (g.K.Sink.writes c.args.sink.now) (g.K.Sink.writes c.loop-at.sink) (g.K.Sink.writes c.write.new.self) c.args.bytes.now c.loop-at.at c.in_ok-n.n c.loop-at.invariant.wrote (subst P rest c.in_ok-n.ensures.wrote);
      beside = c.write.ensures.beside ∙ c.loop-at.invariant.beside;
      within = omega (arith, ap length rest, length-drop c.loop-at.at c.args.bytes.now, c.in_ok-n.ensures.bound);
      counted = omega arith;
    }
