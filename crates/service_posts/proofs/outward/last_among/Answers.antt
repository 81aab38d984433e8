use Rattle.std.proofs.Common.{◌∙◌, ap, arith, sym, take_all}
use Rattle.request_log.specs.declared.folded.Folded.{Folded}
use Rattle.service_posts.specs.Walks.{calls_by, is_to, last_to}
use Rattle.service_posts.proofs.OutwardLemmas.{last_far, last_near}
use Rattle.service_posts.proofs.outward.last_among.Goals as goal

pub returns-then-is_some : goal.returns-then-is_some
returns-then-is_some c =
    sym (last_near (is_to c.args.registers.now.list c.args.dest.now) c.args.folded.now _ c.last_before-near.result c.last_before-near.ensures
    (sym c.is_some.ensures ∙ c.if-is_some.true))

pub returns : goal.returns
returns c =
    c.last_before.ensures
    ∙ ap (λ fs. last_to c.args.registers.now.list c.args.dest.now (calls_by (λ (f : Folded). f.slots) fs)) (take_all _ c.args.folded.now (omega arith))
    ∙ sym (last_far (is_to c.args.registers.now.list c.args.dest.now) c.args.folded.now _ c.last_before-near.result c.last_before-near.ensures
    (sym c.is_some.ensures ∙ c.if-is_some.false))
