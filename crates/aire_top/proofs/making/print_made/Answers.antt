use Rattle.std.proofs.Common.{◌∙◌, ℕ, List, inl, subst}
use Rattle.io_edge.specs.Edge.{Writes}
use Rattle.command_ends.specs.Ends.{StatusOf}
use Rattle.aire_top.proofs.making.print_made.Goals as goal

pub returns-in-Ok : goal.returns-in-Ok
returns-in-Ok g c =
    let before : Writes = g.K.Sink.writes c.args.out.now in
    let now : Writes = g.K.Sink.writes c.print.new.out in
    inl (c.print.result, c.standing.ensures, subst (λ (line : List ℕ). StatusOf before now line c.print.result) (c.as_str.ensures.value ∙ c.in-Ok.ensures) c.print.ensures)
