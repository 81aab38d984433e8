-- How a search for an order ends whose dump was loaded, or refused.
use Rattle.std.proofs.Common.{◌≡◌, ◌⊎◌, inl, inr, ℕ, List, None, Ok, Err, subst, sym}
use Rattle.io_edge.specs.Edge.{Writes}
use Rattle.io_edge.specs.Files.{Loads}
use Rattle.command_ends.specs.Ends.{Closes, LacksMemory, StatusOf}
use Rattle.dump_tables.specs.declared.dump.DumpService.{DumpService}
use Rattle.dump_reader.specs.declared.refused.DumpRefused.{DumpRefused}
use Rattle.audit_command.specs.Audits.{Asked, Is, dump_told, dump_word, refused_line}
use Rattle.order_command.specs.Orders.{OrderEnds, Tells, misfit}

module _ (words : List (List ℕ)) (path : List ℕ) (files files_now : Loads) (out out_now : Writes) (status : ℕ) (fit : misfit words ≡ None) (at : dump_word words ≡ path) (asked : Asked files files_now path) where
  pub told_ends : (services : List DumpService) → Is (dump_told files.files path) (Ok services)
      → ((text : List ℕ) × Tells services text × StatusOf out out_now text status) ⊎ LacksMemory out out_now status → OrderEnds words files files_now out out_now status
  told_ends services dump (inl told) = inl (record {
    fit = fit;
    services = services;
    dump = subst (λ (p : List ℕ). Is (dump_told files.files p) (Ok services)) (sym at) dump;
    asked = subst (Asked files files_now) (sym at) asked;
    text = told.0;
    tells = told.1;
    prints = told.2;
  })
  told_ends services dump (inr lacks) = inr (inr (inr (inr lacks)))

  pub refused_ends : (why : DumpRefused) → Is (dump_told files.files path) (Err why) → Closes out out_now 3 (refused_line why) status
      → OrderEnds words files files_now out out_now status
  refused_ends why refused (inl told) = inr (inl (record {
    fit = fit;
    why = why;
    refused = subst (λ (p : List ℕ). Is (dump_told files.files p) (Err why)) (sym at) refused;
    asked = subst (Asked files files_now) (sym at) asked;
    answered = told.0;
    ends = told.1;
  }))
  refused_ends why refused (inr lacks) = inr (inr (inr (inr lacks)))
