use Rattle.std.proofs.Common.{ℕ, arith}
use Rattle.std.proofs.lemmas.List.{length-take}
use Rattle.io_edge.proofs.Pieces.{up_to_piece}
use Rattle.http_front.proofs.ReadLemmas.{body_taken}
use Rattle.http_front.proofs.reading.read_body.Goals as goal

pub returns-in_err-extend_from_slice-clause-taken : goal.returns-in_err-extend_from_slice-clause-taken
returns-in_err-extend_from_slice-clause-taken g c =
    up_to_piece c.args.length (g.S.Source.reads c.args.source.now) (g.S.Source.reads c.loop-piece.source) (g.S.Source.reads c.read.new.self) c.loop-piece.body.items c.read.new.into c.in_ok-n.n
    c.loop-piece.invariant.took c.in_ok-n.ensures.took (omega (arith, c.in_ok-n.ensures.bound, length-take {A = ℕ}))

pub returns-clause-body : goal.returns-clause-body
returns-clause-body g c = λ calm.
    body_taken (g.S.Source.reads c.args.source.now) (g.S.Source.reads c.loop-piece.source) c.args.head c.args.length c.loop-piece.body.items c.text_of.result
    c.loop-piece.invariant.took (omega arith) c.text_of.ensures.text calm
