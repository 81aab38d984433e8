use Rattle.recorded_inputs.proofs.Drawn.{same_clock, same_words}
use Rattle.recorded_inputs.proofs.drawing.draw_script.Goals as goal

pub returns-clause-clock : goal.returns-clause-clock
returns-clause-clock c = same_clock _ _ c.draw-inputs.ensures.clock_rest

pub returns-clause-words : goal.returns-clause-words
returns-clause-words c = same_words c.draw-inputs.new.words.x c.args.words.now.x c.last-last.ensures.below c.draw-inputs.ensures.words_rest
