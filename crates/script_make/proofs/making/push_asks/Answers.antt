use Rattle.std.proofs.Common.{◌∙◌, ◌<◌, arith, string_bytes}
use Rattle.script_make.proofs.LineLemmas.{one_ask}
use Rattle.script_make.proofs.making.push_asks.Goals as goal

pub loop-number-preserved : goal.loop-number-preserved
loop-number-preserved c =
    let inside : c.loop-number.number < c.args.n = omega arith in
    record {
      within = omega arith;
      rest = one_ask c.args.n c.loop-number.number c.loop-number.words.x c.word-drawn.result c.word-drawn.new.self.x (string_bytes c.loop-number.text) (string_bytes c.push_ask.new.text)
          inside c.word-drawn.ensures.next c.word-drawn.ensures.rest c.in_ok-push_ask.ensures
          ∙ c.loop-number.invariant.rest;
    }
