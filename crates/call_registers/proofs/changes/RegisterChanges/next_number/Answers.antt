use Rattle.std.proofs.Common.{List, ap, arith, length}
use Rattle.call_registers.specs.Registers.{next_number}
use Rattle.call_registers.specs.declared.register.Register.{Register}
use Rattle.call_registers.proofs.OverlayLemmas.{overlaid_length}
use Rattle.call_registers.proofs.changes.RegisterChanges.next_number.Goals as goal

pub returns : goal.returns
returns c =
    let standing = c.args.standing.now.list in
    let counts = overlaid_length c.args.self.now.changed.items standing c.args.self.now.added.items (next_number standing) in
    let first = ap (λ (l : List Register). length l) c.as_slice.ensures.list in
    let second = ap (λ (l : List Register). length l) c.deref.ensures.value in
    let sum = c.number_after.ensures in
    omega (arith, sum, first, second, counts)
