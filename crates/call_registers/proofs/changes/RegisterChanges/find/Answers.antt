use Rattle.std.proofs.Common.{◌≡◌, ◌+◌, List, None, Some, option_map, subst}
use Rattle.std.specs.Option.{option_copied}
use Rattle.call_registers.specs.Overlays.{numbered, numbered_from, put_all}
use Rattle.call_registers.specs.Registers.{next_number, register}
use Rattle.call_registers.specs.declared.register.Register.{Register}
use Rattle.call_registers.proofs.OverlayLemmas.{find_first, find_last}
use Rattle.call_registers.proofs.changes.RegisterChanges.find.Goals as goal

pub returns-in-Some : goal.returns-in-Some
returns-in-Some c =
    let now = c.args.self.now in
    let standing = c.args.standing.now.list in
    let P : List Register → Type 0 = λ l. Some c.in-Some.register.now ≡ register c.args.number (put_all l standing) in
    find_first c.args.number (put_all now.changed.items standing) (numbered_from (next_number standing) now.added.items) c.in-Some.register.now (subst P c.deref.ensures.value c.in-Some.ensures)

pub returns-in-None : goal.returns-in-None
returns-in-None c =
    let now = c.args.self.now in
    let standing = c.args.standing.now.list in
    let P : List Register → Type 0 = λ l. None ≡ register c.args.number (put_all l standing) in
    let Q : List Register → Type 0 = λ l. register c.args.number (numbered_from (c.len.result + 1) l) ≡ option_map (numbered c.args.number) (option_copied c.find_added.result) in
    find_last c.args.number c.len.result now.changed.items standing now.added.items (option_copied c.find_added.result) c.len.ensures (subst P c.deref.ensures.value c.in-None.ensures) (subst Q c.deref-in-None.ensures.value c.find_added.ensures)
