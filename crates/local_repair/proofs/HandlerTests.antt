-- What the tests of an entry's handler say.
use Rattle.std.proofs.Common.{◌≡◌, ◌↔◌, Bool, true, false, not, IsTrue, refl, ap}
use Rattle.execution.specs.HandedOn.{handler_of}
use Rattle.request_log.specs.Entries.{is_alive}
use Rattle.request_log.specs.HandedOn.{Numbered}
use Rattle.request_log.specs.declared.entry.Entry.{Entry}
use Rattle.local_repair.specs.Programs.{HasItsHandler}

pub not_both : {P : Type 0} (b : Bool) → b ≡ false → b ≡ true → P
not_both true f t = cc
not_both false f t = cc

-- a dead entry has it
pub dead_has : (e : Entry) → is_alive e ≡ false → IsTrue true ↔ HasItsHandler e
dead_has e dead = (λ passed alive. not_both (is_alive e) dead alive, λ has. refl)

-- so has one whose record was made under its program
pub settled_has : (e : Entry) → e.under.ran ≡ e.under.now → IsTrue true ↔ HasItsHandler e
settled_has e is = (λ passed alive. ap (λ (n : Numbered). handler_of n.program e.request) is, λ has. refl)

-- and of others the handlers tell
pub alive_has : (b : Bool) (e : Entry) → is_alive e ≡ true → IsTrue b ↔ (handler_of e.under.ran.program e.request ≡ handler_of e.under.now.program e.request) → IsTrue b ↔ HasItsHandler e
alive_has b e alive told = (λ passed again. told.0 passed, λ has. told.1 (has alive))

pub not_false : (b : Bool) → not b ≡ false → b ≡ true
not_false true h = refl
not_false false h = cc
