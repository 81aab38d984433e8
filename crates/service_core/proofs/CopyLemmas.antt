-- Equal parts of a service, with room to abandon its flights, are a service too.
use Rattle.std.proofs.Common.{◌≡◌, Result, Ok, Err, IfOk, ◌≤◌, sym, subst}
use Rattle.service_events.specs.Ages.{HasAges}
use Rattle.service_events.specs.Allowed.{IsAllowed}
use Rattle.service_events.specs.Fits.{Fits}
use Rattle.service_events.specs.State.{Kept, in_all}
use Rattle.service_parts.specs.Parts.{kept}
use Rattle.service_parts.specs.Services.{HasRoom, IsService}
use Rattle.service_parts.specs.declared.parts.Parts.{Parts}
use Rattle.lang_base.specs.declared.memory.NoMemory.{NoMemory}

pub copy_is : (p q : Parts) → kept q ≡ kept p → HasRoom q → IsService p → IsService q
copy_is p q same room is = record {
  fits = subst Fits (sym same) is.fits;
  allowed = subst IsAllowed (sym same) is.allowed;
  ages = subst (λ (s : Kept). HasAges s.journal s.registers s.replies) (sym same) is.ages;
  few = subst (λ (s : Kept). in_all s ≤ 100000) (sym same) is.few;
  room = room;
}

-- so is the copy that a call may have made
pub copies_are : (p : Parts) (r : Result Parts NoMemory) → IsService p → IfOk r (λ q. kept q ≡ kept p) → IfOk r (λ q. HasRoom q) → IfOk r (λ q. IsService q)
copies_are p (Ok q) is same room = copy_is p q same room is
copies_are p (Err why) is same room = tt
