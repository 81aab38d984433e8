use Rattle.std.proofs.Common.{◌≡◌, IfOk, List, subst, sym}
use Rattle.lang_core.specs.declared.cells.Cell.{Cell}
use Rattle.request_log.specs.declared.entry.Entry.{Entry}
use Rattle.local_repair.specs.Current.{rows_after}
use Rattle.service_events.specs.State.{Kept, base, unfolded}
use Rattle.service_parts.specs.Parts.{kept}
use Rattle.service_parts.proofs.WholeLemmas.{unfolded_kept}
use Rattle.service_core.proofs.service.Service.rows.Goals as goal

pub returns : goal.returns
returns c =
    let p = c.self.inside.parts in
    subst (λ (s : Kept). IfOk c.rows.result (λ (rows : List Cell). rows ≡ rows_after (base s) (unfolded s))) c.self.view_is
    (subst (λ (es : List Entry). IfOk c.rows.result (λ (rows : List Cell). rows ≡ rows_after (base (kept p)) es)) (sym (unfolded_kept p)) c.rows.ensures)
