use Rattle.std.proofs.Common.{ℕ, Bool, ◌∙◌, ap, nat_eq, not}
use Rattle.std.specs.List.{list_any}
use Rattle.lang_lists.specs.Ends.{last_end}
use Rattle.request_log.specs.declared.folded.Folded.{Folded}
use Rattle.request_log.proofs.FoldedFindLemmas.{called_end}
use Rattle.request_log.proofs.folded.FoldedList.has_slot.Goals as goal

pub returns : goal.returns
returns c =
    let number = c.args.number in
    let some : ℕ → Bool = λ end. not (nat_eq end 0) in
    ap some (c.end_of.ensures ∙ ap (last_end (nat_eq number)) c.self.invariant.by_call)
    ∙ called_end number c.self.inside.items.items
    ∙ ap (list_any (λ (f : Folded). list_any (nat_eq number) f.slots)) c.self.view_is
