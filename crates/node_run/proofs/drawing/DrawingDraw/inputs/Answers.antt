use Rattle.node_run.proofs.drawing.DrawingDraw.inputs.Goals as goal

pub returns : goal.returns
returns g c = record {
  clock = c.deref_mut.result.now.clock.now;
  words = c.deref_mut.result.now.words.now;
  moment = c.draw.ensures.moment;
  eight = c.draw.ensures.words;
}
