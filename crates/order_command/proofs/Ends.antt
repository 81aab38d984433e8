-- A good search for an order ends well.
use Rattle.std.proofs.Common.{◌≡◌, ◌⊎◌, inl, inr, ℕ, List, Some, Ok, Err, refl}
use Rattle.io_edge.specs.Edge.{Writes}
use Rattle.io_edge.specs.Files.{Loads}
use Rattle.audit_command.proofs.Ends.{read_refused, some_none}
use Rattle.order_command.specs.Orders.{IsGoodOrder, OrderEnds}

pub ends_well : (words : List (List ℕ)) (files files_now : Loads) (out out_now : Writes) (status : ℕ) → IsGoodOrder words files files_now out out_now
    → OrderEnds words files files_now out out_now status → (status ≡ 0) ⊎ (status ≡ 6)
ends_well words files files_now out out_now status good (inl has) = elim has.prints as (λ _. (status ≡ 0) ⊎ (status ≡ 6)) [
  | inl all ↦ inl all.0
  | inr short ↦ absurd (good.writes short.1.1)
]
ends_well words files files_now out out_now status good (inr (inl none)) =
    absurd (read_refused good.services none.why (Ok good.services) (Err none.why) refl refl (none.refused (Some (Ok good.services)) good.dump))
ends_well words files files_now out out_now status good (inr (inr (inl unread))) = absurd (good.loads unread.fault)
ends_well words files files_now out out_now status good (inr (inr (inr (inl misused)))) = absurd (some_none _ misused.place good.fit misused.at_word)
ends_well words files files_now out out_now status good (inr (inr (inr (inr lacks)))) = inr lacks.answered
