use Rattle.std.proofs.Common.{◌∙◌, sym, arith}
use Rattle.std.proofs.lemmas.Result.{on_ok_weaker}
use Rattle.one_order.proofs.Places.{found_none, placed}
use Rattle.one_order.proofs.playing.write_at.Goals as goal

pub returns : goal.returns
returns c =
    found_none c.args.name.now c.args.writes.now c.loop-i.world c.loop-i.i (let n = c.loop-i.auto.world in let le = c.loop-i-test.false in omega (arith, n, le)) ∙ c.loop-i.invariant

pub returns-then-is_named : goal.returns-then-is_named
returns-then-is_named c =
    on_ok_weaker c.apply.result
    (λ e. placed c.args.name.now c.args.writes.now c.loop-i.world c.loop-i.i c.index-world-i.result c.index-world-i-then-is_named.result c.apply.new.self
    (let n = c.loop-i.auto.world in let lt = c.loop-i-test.true in omega (arith, n, lt)) (sym c.is_named.ensures ∙ c.if-is_named.true) e
    ∙ c.loop-i.invariant)
    c.apply.ensures
