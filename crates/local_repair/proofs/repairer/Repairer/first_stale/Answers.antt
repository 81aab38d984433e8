use Rattle.std.proofs.Common.{◌≡◌, ◌∙◌, sym, ap, subst, List, Some, get_or}
use Rattle.request_log.specs.declared.entry.Entry.{Entry}
use Rattle.lang_core.specs.declared.cells.Cell.{Cell}
use Rattle.local_repair.specs.Current.{AllCurrent, IsFirstStale}
use Rattle.local_repair.specs.Held.{IsKept}
use Rattle.local_repair.specs.Repairs.{KeptRepairer, IsStaleId, stale_id}
use Rattle.local_repair.proofs.TestLemmas.{stale_id_none, stale_id_at, is_stale_id}
use Rattle.local_repair.proofs.repairer.Repairer.first_stale.Goals as goal

pub place_of_stale-requires-clause-kept : goal.place_of_stale-requires-clause-kept
place_of_stale-requires-clause-kept g c =
    let inside = c.self.inside in
    let P : List Entry → Type 0 = λ l. IsKept inside.rows.base l inside.rows.writes inside.marks inside.calls in
    subst P (sym c.as_slice-entries.ensures.entries) c.self.invariant

pub returns-in-None-clause-test : goal.returns-in-None-clause-test
returns-in-None-clause-test g c =
    let consumed = g.S.Slots.consumed_of c.args.slots.now in
    let seen : c.as_slice-entries.result.now ≡ c.args.self.now.entries = c.as_slice-entries.ensures.entries ∙ ap (λ (k : KeptRepairer). k.entries) c.self.view_is in
    let based : c.self.inside.rows.base ≡ c.args.self.now.base = ap (λ (k : KeptRepairer). k.base) c.self.view_is in
    let P : List Entry → Type 0 = λ entries. AllCurrent consumed c.self.inside.rows.base entries in
    let B : List Cell → Type 0 = λ base. AllCurrent consumed base c.args.self.now.entries in
    stale_id_none consumed c.args.self.now.base c.args.self.now.entries (subst B based (subst P seen c.in-None.ensures))

pub returns-in-Some-clause-test : goal.returns-in-Some-clause-test
returns-in-Some-clause-test g c =
    let consumed = g.S.Slots.consumed_of c.args.slots.now in
    let seen : c.as_slice-entries.result.now ≡ c.args.self.now.entries = c.as_slice-entries.ensures.entries ∙ ap (λ (k : KeptRepairer). k.entries) c.self.view_is in
    let based : c.self.inside.rows.base ≡ c.args.self.now.base = ap (λ (k : KeptRepairer). k.base) c.self.view_is in
    ap (λ (e : Entry). Some e.id) (c.entry.ensures ∙ c.index-entries-place.is)
    ∙ stale_id_at consumed c.self.inside.rows.base c.as_slice-entries.result.now c.in-Some.place c.index-entries-place.result c.in-Some.ensures
    ∙ ap (λ base. stale_id consumed base c.as_slice-entries.result.now) based ∙ ap (stale_id consumed c.args.self.now.base) seen

pub returns-in-Some-clause-first : goal.returns-in-Some-clause-first
returns-in-Some-clause-first g c =
    let consumed = g.S.Slots.consumed_of c.args.slots.now in
    let seen : c.as_slice-entries.result.now ≡ c.args.self.now.entries = c.as_slice-entries.ensures.entries ∙ ap (λ (k : KeptRepairer). k.entries) c.self.view_is in
    let based : c.self.inside.rows.base ≡ c.args.self.now.base = ap (λ (k : KeptRepairer). k.base) c.self.view_is in
    let P : List Entry → Type 0 = λ entries. IsStaleId consumed c.args.self.now.base entries (get_or c.as_slice-entries.result.now c.in-Some.place c.index-entries-place.result).id in
    let B : List Cell → Type 0 = λ base. IsFirstStale consumed base c.as_slice-entries.result.now c.in-Some.place in
    let Q : Entry → Type 0 = λ e. IsStaleId consumed c.args.self.now.base c.args.self.now.entries e.id in
    subst Q (sym (c.entry.ensures ∙ c.index-entries-place.is))
    (subst P seen (is_stale_id consumed c.args.self.now.base c.as_slice-entries.result.now c.in-Some.place c.index-entries-place.result (subst B based c.in-Some.ensures)))
