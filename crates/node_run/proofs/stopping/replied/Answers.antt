use Rattle.std.proofs.Common.{◌≡◌, ℕ, List, sym, subst, ◌∙◌}
use Rattle.io_edge.specs.Edge.{Reads}
use Rattle.node_run.specs.Stopping.{stop_bytes, WasAskedToStop, WasReplied}
use Rattle.node_run.proofs.StoppingLemmas.{replied_with}
use Rattle.node_run.proofs.stopping.replied.Goals as goal

pub invariant_of-result : goal.invariant_of-result
invariant_of-result g c =
    let law = g.met.C.Connection.write_keeps in
    let conn = c.write_all.new.sink in
    let before = g.C.Source.reads c.args.conn in
    let written = g.C.Sink.writes conn in
    let bytes = c.as_slice.result.now in
    let same : g.C.Source.reads conn ≡ before = sym (law conn) ∙ (c.write_all.ensures.beside ∙ law c.args.conn) in
    let is : bytes ≡ stop_bytes = c.as_slice.ensures ∙ c.requires.reply in
    let replied : WasReplied before written bytes = replied_with before (g.C.Sink.writes c.args.conn) written bytes c.write_all.result c.requires.untold
    c.write_all.ensures.ok c.write_all.ensures.err c.write_all.ensures.failed in
    record {
      asked = ∣ subst (WasAskedToStop c.args.service c.args.console) (sym same) c.requires.asked ∣₁;
      replied = ∣ subst (λ (reads : Reads). WasReplied reads written stop_bytes) (sym same)
          (subst (λ (xs : List ℕ). WasReplied before written xs) is replied) ∣₁;
    }
