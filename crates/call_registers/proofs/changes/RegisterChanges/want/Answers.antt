use Rattle.std.proofs.Common.{List, ◌∙◌, ◌++◌, ap}
use Rattle.call_registers.specs.Overlays.{numbered_from, put_all}
use Rattle.call_registers.specs.Registers.{next_number}
use Rattle.call_registers.specs.declared.register.Register.{Register}
use Rattle.call_registers.proofs.OverlayLemmas.{want_last}
use Rattle.call_registers.proofs.changes.RegisterChanges.want.Goals as goal

pub returns : goal.returns
returns c =
    let old = c.args.self.now in
    let standing = c.args.standing.now.list in
    ap (λ (l : List Register). put_all old.changed.items standing ++ numbered_from (next_number standing) l) c.in_ok-push.ensures.items
    ∙ want_last c.args.dest.now c.args.request.now c.args.since c.next_number.result old.changed.items standing old.added.items c.in_ok-register.register c.next_number.ensures c.in_ok-register.ensures
