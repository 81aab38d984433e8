-- A good audit ends well.
use Rattle.std.proofs.Common.{◌≡◌, ◌⊎◌, inl, inr, ℕ, List, Option, Some, None, Result, Ok, Err, refl, sym, ◌∙◌}
use Rattle.io_edge.specs.Edge.{Writes}
use Rattle.io_edge.specs.Files.{Loads}
use Rattle.dump_tables.specs.declared.dump.DumpService.{DumpService}
use Rattle.dump_reader.specs.declared.refused.DumpRefused.{DumpRefused}
use Rattle.audit_command.specs.Audits.{AuditEnds, IsGood}

pub some_none : {X : Type 0} (o : Option X) (x : X) → o ≡ None → o ≡ Some x → ⊥
some_none o x a b = let e : None ≡ Some x = sym a ∙ b in cc

pub read_refused : (a : List DumpService) (why : DumpRefused) (x y : Result (List DumpService) DumpRefused) → x ≡ Ok a → y ≡ Err why → Some x ≡ Some y → ⊥
read_refused a why x y is other e = let same : x ≡ y = cc in cc

pub ends_well : (words : List (List ℕ)) (files files_now : Loads) (out out_now : Writes) (status : ℕ) → IsGood words files files_now out out_now → AuditEnds words files files_now out out_now status
    → (status ≡ 0) ⊎ (status ≡ 6)
ends_well words files files_now out out_now status good (inl has) = elim has.prints as (λ _. (status ≡ 0) ⊎ (status ≡ 6)) [
  | inl all ↦ inl all.0
  | inr short ↦ absurd (good.writes short.1.1)
]
ends_well words files files_now out out_now status good (inr (inl none)) =
    absurd (read_refused good.services none.why (Ok good.services) (Err none.why) refl refl (none.refused (Some (Ok good.services)) good.dump))
ends_well words files files_now out out_now status good (inr (inr (inl unread))) = absurd (good.loads unread.fault)
ends_well words files files_now out out_now status good (inr (inr (inr (inl misused)))) = absurd (some_none _ misused.place good.fit misused.at_word)
ends_well words files files_now out out_now status good (inr (inr (inr (inr lacks)))) = inr lacks.answered
