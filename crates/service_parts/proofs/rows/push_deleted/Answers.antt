use Rattle.std.proofs.Common.{◌∙◌, ◌<◌, ◌∷◌, [], ◌++◌, ap, sym, length, arith}
use Rattle.service_parts.proofs.DraftLemmas.{none_left, deleted_more}
use Rattle.service_parts.proofs.rows.push_deleted.Goals as goal

pub returns-in-None : goal.returns-in-None
returns-in-None g c =
    none_left (g.R.RegistersView.list c.args.registers.now) c.loop-i.rows.items c.loop-i.i c.args.numbers.now c.args.calls.now (sym c.in-None.ensures)
    ∙ c.loop-i.invariant

pub loop-i-preserved : goal.loop-i-preserved
loop-i-preserved g c =
    let w : c.loop-i.i < length c.args.numbers.now = omega arith in
    deleted_more (g.R.RegistersView.list c.args.registers.now) c.loop-i.rows.items c.push.new.self.items c.loop-i.i c.args.numbers.now c.args.calls.now c.in-Some.call.now w (sym c.in-Some.ensures)
    (c.in_ok-push-in-Some.ensures.items ∙ ap (λ r. c.loop-i.rows.items ++ r ∷ []) c.in_ok-deleted-in-Some.ensures)
    ∙ c.loop-i.invariant
