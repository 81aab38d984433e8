-- Of which kinds the rows of events are.
use Rattle.std.proofs.Common.{◌≡◌, ℕ, ◌+◌, Bool, true, false, List, [], ◌∷◌, refl, ◌∙◌, if◌then◌else◌}
use Rattle.lang_base.specs.Texts.{same_text}
use Rattle.lang_core.specs.declared.ids.Origin.{Origin}
use Rattle.lang_core.specs.declared.ids.Origin.TheVariants.{Outside, Call}
use Rattle.lang_core.specs.declared.request.Request.{Request}
use Rattle.lang_core.specs.declared.trace.CallMade.{CallMade}
use Rattle.local_repair.specs.Steps.{same_call}
use Rattle.call_registers.specs.declared.register.Register.{Register}
use Rattle.service_events.specs.State.{same_call_origin}
use Rattle.service_events.specs.Calls.{replaced, deleted, named, all_deleted, slot_rows, next_after, settling_rows}
use Rattle.service_events.specs.Flying.{took_rows}
use Rattle.service_events.proofs.CallRowLemmas.{Each, each_append, IsSending, IsUnseen, IsUnordered, IsPlain}
use Rattle.service_events.proofs.FlightLemmas.{LeavesOrigin, same_flips}

pub sends_deleted : (before : List Register) (ns : List ℕ) (cs : List CallMade) → Each IsSending (all_deleted before ns cs)
sends_deleted before [] cs = tt
sends_deleted before (n ∷ ns) [] = tt
sends_deleted before (n ∷ ns) (c ∷ cs) = (tt, sends_deleted before ns cs)

sends_by : (before : List Register) (next n : ℕ) (o c : CallMade) (s d : Bool)
    → Each IsSending (if s then [] else (if d then replaced before n o.dest c.request ∷ [] else deleted before n o ∷ (named next c ∷ [])))
sends_by before next n o c true d = tt
sends_by before next n o c false true = (tt, tt)
sends_by before next n o c false false = (tt, (tt, tt))

pub sends_settled : (before : List Register) (ns : List ℕ) (os cs : List CallMade) (next : ℕ) → Each IsSending (settling_rows before next ns os cs)
sends_settled before (n ∷ ns) (o ∷ os) (c ∷ cs) next =
    each_append IsSending (slot_rows before next n o c) (settling_rows before (next_after next o c) ns os cs)
    (sends_by before next n o c (same_call o c) (same_text o.dest c.dest)) (sends_settled before ns os cs (next_after next o c))
sends_settled before (n ∷ ns) (o ∷ os) [] next = sends_deleted before (n ∷ ns) (o ∷ os)
sends_settled before [] os (c ∷ cs) next = (tt, sends_settled before [] os cs (next + 1))
sends_settled before [] os [] next = tt
sends_settled before (n ∷ ns) [] cs next = tt

-- what a commit takes
pub took_plain : (o : Origin) (q : Request) → Each IsPlain (took_rows o q)
took_plain Outside q = tt
took_plain (Call c n) q = (tt, tt)

pub took_unseen : (o : Origin) (q : Request) → Each IsUnseen (took_rows o q)
took_unseen Outside q = tt
took_unseen (Call c n) q = (tt, tt)

pub took_unordered : (o : Origin) (q : Request) → Each IsUnordered (took_rows o q)
took_unordered Outside q = tt
took_unordered (Call c n) q = (tt, tt)

pub took_leaves : (o g : Origin) (q : Request) → same_call_origin o g ≡ false → Each (LeavesOrigin g) (took_rows o q)
took_leaves Outside g q h = tt
took_leaves (Call c n) Outside q h = (refl, tt)
took_leaves (Call c n) (Call d m) q h = (same_flips (Call d m) (Call c n) ∙ h, tt)
