use Rattle.std.proofs.Common.{◌∙◌, ◌<◌, arith, string_bytes}
use Rattle.script_make.proofs.LineLemmas.{one_cancel}
use Rattle.script_make.proofs.making.push_cancels.Goals as goal

pub loop-number-preserved : goal.loop-number-preserved
loop-number-preserved c =
    let inside : c.loop-number.number < c.args.n = omega arith in
    record {
      within = omega arith;
      rest = one_cancel c.args.n c.loop-number.number c.loop-number.words.x c.word-drawn.result c.word-drawn.new.self.x (string_bytes c.loop-number.text) (string_bytes c.push_cancel.new.text)
          inside c.word-drawn.ensures.next c.word-drawn.ensures.rest c.in_ok-push_cancel.ensures
          ∙ c.loop-number.invariant.rest;
    }
