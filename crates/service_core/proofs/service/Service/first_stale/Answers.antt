use Rattle.std.proofs.Common.{◌∙◌, List, MatchOption, ap, subst, sym}
use Rattle.request_log.specs.declared.entry.Entry.{Entry}
use Rattle.local_repair.specs.Current.{AllCurrent}
use Rattle.local_repair.specs.Repairs.{IsStaleId, stale_id}
use Rattle.service_events.specs.State.{Kept, answers, base, unfolded}
use Rattle.service_parts.specs.Parts.{kept}
use Rattle.service_parts.proofs.WholeLemmas.{unfolded_kept}
use Rattle.service_core.specs.Readings.{AreReplayed, IsReplayedBefore, first_stale}
use Rattle.service_core.proofs.ReplayLemmas.{replayed}
use Rattle.service_core.proofs.service.Service.first_stale.Goals as goal

pub returns-clause-first : goal.returns-clause-first
returns-clause-first c =
    let p = c.self.inside.parts in
    subst (λ (s : Kept). MatchOption c.first_stale.result (AllCurrent (answers s) (base s) (unfolded s)) (IsStaleId (answers s) (base s) (unfolded s))) c.self.view_is
    (subst (λ (es : List Entry). MatchOption c.first_stale.result (AllCurrent (answers (kept p)) (base (kept p)) es) (IsStaleId (answers (kept p)) (base (kept p)) es))
    (sym (unfolded_kept p)) c.first_stale.ensures.first)

pub returns-clause-test : goal.returns-clause-test
returns-clause-test c =
    let p = c.self.inside.parts in
    c.first_stale.ensures.test ∙ ap (λ (es : List Entry). stale_id (answers (kept p)) (base (kept p)) es) (sym (unfolded_kept p)) ∙ ap (λ (s : Kept). first_stale s) c.self.view_is

pub returns-clause-replay : goal.returns-clause-replay
returns-clause-replay c =
    let p = c.self.inside.parts in
    subst (λ (s : Kept). MatchOption c.first_stale.result (AreReplayed s (unfolded s)) (IsReplayedBefore s)) c.self.view_is
    (replayed (kept p) c.self.invariant.0.fits c.first_stale.result
    (subst (λ (es : List Entry). MatchOption c.first_stale.result (AllCurrent (answers (kept p)) (base (kept p)) es) (IsStaleId (answers (kept p)) (base (kept p)) es))
    (sym (unfolded_kept p)) c.first_stale.ensures.first))
