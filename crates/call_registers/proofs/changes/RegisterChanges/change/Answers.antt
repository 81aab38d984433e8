use Rattle.std.proofs.Common.{◌≡◌, List, None, Some, [], ◌∷◌, ◌∙◌, ◌++◌, ap, subst}
use Rattle.call_registers.specs.Overlays.{numbered_from, put_all}
use Rattle.call_registers.specs.Registers.{next_number, register}
use Rattle.call_registers.specs.declared.register.Register.{Register}
use Rattle.call_registers.proofs.OverlayLemmas.{change_last, change_put}
use Rattle.call_registers.proofs.changes.RegisterChanges.change.Goals as goal

pub returns-in-None : goal.returns-in-None
returns-in-None c =
    let old = c.args.self.now in
    let standing = c.args.standing.now.list in
    let P : List Register → Type 0 = λ l. None ≡ register c.args.number (put_all l standing) in
    change_last c.args.change c.args.number c.len.result old.changed.items standing old.added.items c.change_added.new.added.items c.len.ensures (subst P c.deref.ensures.value c.in-None.ensures) c.change_added.ensures

pub returns-in_ok-push-in-Some : goal.returns-in_ok-push-in-Some
returns-in_ok-push-in-Some c =
    let old = c.args.self.now in
    let standing = c.args.standing.now.list in
    let added = numbered_from (next_number standing) old.added.items in
    let P : List Register → Type 0 = λ l. Some c.in-Some.register.now ≡ register c.args.number (put_all l standing) in
    ap (λ (l : List Register). put_all l standing ++ added) (c.in_ok-push-in-Some.ensures.items ∙ ap (λ (r : Register). old.changed.items ++ r ∷ []) c.in_ok-next-in-Some.ensures)
    ∙ change_put c.args.change c.args.number old.changed.items standing added c.in-Some.register.now (subst P c.deref.ensures.value c.in-Some.ensures)
