-- What is told of a dump whose roots have an order, or none.
use Rattle.std.proofs.Common.{◌≡◌, ◌<◌, ◌≤◌, ◌+◌, ◌⊎◌, inl, inr, ℕ, List, [], ◌∷◌, ◌++◌, codes, decimal, flat_map, get_or, length, take, refl, sym, ap, ◌∙◌, append_assoc, append-nil}
use Rattle.std.proofs.lemmas.List.{take_all, take_more}
use Rattle.std.proofs.lemmas.List.Concat.{flat_map-append}
use Rattle.lang_core.specs.declared.ids.RequestId.{RequestId}
use Rattle.io_edge.specs.Edge.{Writes}
use Rattle.command_ends.specs.Ends.{LacksMemory, StatusOf}
use Rattle.execution.specs.Together.{IsLegalTogether}
use Rattle.dump_tables.specs.declared.dump.DumpService.{DumpService}
use Rattle.dump_audit.specs.Histories.{histories_of}
use Rattle.dump_audit.specs.Judging.{judged}
use Rattle.dump_audit.specs.declared.judged.Judged.{Judged}
use Rattle.dump_audit.specs.declared.judged.Judged.TheVariants.{Legal}
use Rattle.audit_command.specs.Audits.{judged_line}
use Rattle.one_order.specs.Certificates.{AreFirst}
use Rattle.one_order.specs.Cycles.{ShowsCycle}
use Rattle.one_world.specs.Certificates.{Passes}
use Rattle.one_world.specs.OneWorld.{RunsAsOne}
use Rattle.one_world.specs.Searches.{logs_of}
use Rattle.order_command.specs.Orders.{Tells, cycle_line, id_line, order_lines}

module _ (services : List DumpService) (out out_now : Writes) (status : ℕ) where
  abbrev pub IsTold : Type 0
  IsTold = ((text : List ℕ) × Tells services text × StatusOf out out_now text status) ⊎ LacksMemory out out_now status

  or_lacks : (text : List ℕ) → Tells services text → StatusOf out out_now text status ⊎ LacksMemory out out_now status → IsTold
  or_lacks text tells (inl prints) = inl (text, tells, prints)
  or_lacks text tells (inr lacks) = inr lacks

  pub order_told : (order : List RequestId) → IsLegalTogether (histories_of services) → Passes (histories_of services) order
      → AreFirst (histories_of services) (logs_of (histories_of services)) order → RunsAsOne (histories_of services) order
      → StatusOf out out_now (order_lines order) status ⊎ LacksMemory out out_now status → IsTold
  order_told order legal passes first runs prints =
      or_lacks (order_lines order) (inl (record { legal = legal; order = order; passes = passes; first = first; runs = runs; is = refl })) prints

  pub cycle_told : (first second : RequestId) (back : List RequestId) → IsLegalTogether (histories_of services) → ((order : List RequestId) → ¬ (Passes (histories_of services) order))
      → ShowsCycle (histories_of services) first second back → StatusOf out out_now (cycle_line first second) status ⊎ LacksMemory out out_now status → IsTold
  cycle_told first second back legal never shown prints =
      or_lacks (cycle_line first second) (inr (inl (record { legal = legal; never = never; first = first; second = second; back = back; shown = shown; is = refl }))) prints

  pub fault_told : (found : Judged) → found ≡ judged services → ¬ (found ≡ Legal) → StatusOf out out_now (judged_line found) status ⊎ LacksMemory out out_now status → IsTold
  fault_told found is ill prints =
      or_lacks (judged_line found) (inr (inr (record { ill = λ e. ill (is ∙ e); is = ap judged_line is }))) prints

-- ---- the lines of an order

-- the line that says how many there are
abbrev pub head_line : ℕ → List ℕ
head_line n = codes "order " ++ (decimal n ++ codes "\n")

lines_more : (order : List RequestId) (i : ℕ) (x : RequestId) → i < length order → x ≡ get_or order i x
    → flat_map id_line (take i order) ++ id_line x ≡ flat_map id_line (take (i + 1) order)
lines_more order i x lt is =
    ap (λ t. flat_map id_line (take i order) ++ t) (sym (append-nil (id_line x)))
    ∙ sym (flat_map-append id_line (take i order) (x ∷ []))
    ∙ ap (λ y. flat_map id_line (take i order ++ y ∷ [])) is
    ∙ ap (flat_map id_line) (sym (take_more order i x lt))

-- a line more
pub line_more : (order : List RequestId) (i : ℕ) (x : RequestId) (text text_now : List ℕ) → i < length order → x ≡ get_or order i x
    → text ≡ head_line (length order) ++ flat_map id_line (take i order) → text_now ≡ text ++ id_line x → text_now ≡ head_line (length order) ++ flat_map id_line (take (i + 1) order)
line_more order i x text text_now lt is told put =
    put ∙ ap (λ t. t ++ id_line x) told ∙ append_assoc (head_line (length order)) (flat_map id_line (take i order)) (id_line x)
    ∙ ap (λ t. head_line (length order) ++ t) (lines_more order i x lt is)

pub all_lines : (order ids : List RequestId) (i : ℕ) (text : List ℕ) → ids ≡ order → length ids ≤ i
    → text ≡ head_line (length ids) ++ flat_map id_line (take i ids) → text ≡ order_lines order
all_lines order ids i text same le told =
    let later : List ℕ = flat_map id_line ids in
    told ∙ ap (λ ls. head_line (length ids) ++ flat_map id_line ls) (take_all i ids le)
    ∙ append_assoc (codes "order ") (decimal (length ids) ++ codes "\n") later
    ∙ ap (λ t. codes "order " ++ t) (append_assoc (decimal (length ids)) (codes "\n") later)
    ∙ ap order_lines same
