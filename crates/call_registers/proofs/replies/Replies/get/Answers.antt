use Rattle.std.proofs.Common.{◌≡◌, ◌∙◌, sym, ap, find}
use Rattle.call_registers.proofs.ReplyLemmas.{numbers_rise}
use Rattle.call_registers.specs.Replies.{has_entry, KeptReplies}
use Rattle.call_registers.proofs.replies.Replies.get.Goals as goal

pub find_number-requires : goal.find_number-requires
find_number-requires c = rw c.deref.ensures.value (numbers_rise c.self.inside.list.items c.self.invariant.rising)

pub returns : goal.returns
returns c =
    let same : c.args.self.now.list ≡ c.deref.result.now = ap (λ (k : KeptReplies). k.list) (sym c.self.view_is) ∙ sym c.deref.ensures.value in
    c.find_number.ensures ∙ sym (ap (find (has_entry c.args.id)) same)
