use Rattle.std.proofs.Common.{ℕ, arith}
use Rattle.std.proofs.lemmas.List.{length-take}
use Rattle.std.proofs.lemmas.Result.{err_from_is_err_and}
use Rattle.io_edge.proofs.Pieces.{up_to_piece}
use Rattle.io_edge.proofs.whole.read_all.Goals as goal

pub returns-then-n-room-clause-err : goal.returns-then-n-room-clause-err
returns-then-n-room-clause-err g c =
    up_to_piece _ (g.S.Source.reads c.args.source.now) (g.S.Source.reads c.loop-bytes.source) (g.S.Source.reads c.read.new.self) _ c.read.new.into c.in_ok-n.n c.loop-bytes.invariant.took c.in_ok-n.ensures.took (omega (arith, c.in_ok-n.ensures.bound, length-take {A = ℕ}))

pub returns-in_err-extend_from_slice-clause-err : goal.returns-in_err-extend_from_slice-clause-err
returns-in_err-extend_from_slice-clause-err g c =
    let is_err = err_from_is_err_and c.from_residual-in_err-extend_from_slice.result c.from_residual-in_err-extend_from_slice.ensures.1 in
    rw is_err.1 (up_to_piece _ (g.S.Source.reads c.args.source.now) (g.S.Source.reads c.loop-bytes.source) (g.S.Source.reads c.read.new.self) _ c.read.new.into c.in_ok-n.n c.loop-bytes.invariant.took c.in_ok-n.ensures.took (omega (arith, c.in_ok-n.ensures.bound, length-take {A = ℕ})))
