-- From a service that is ready to what is shown of it.
use Rattle.std.proofs.Common.{◌≡◌, ℕ, ◌≤◌, Bool, true, false, List, Option, Some, None, Result, Ok, Err, IfOk, IfSome, find, option_map, refl, sym, ap, ◌∙◌, subst, inl, arith, nat_lt}
use Rattle.std.specs.Option.{option_map_or}
use Rattle.std.proofs.lemmas.Bool.Decides.{nat_tests}
use Rattle.lang_base.specs.Memory.{Unless}
use Rattle.lang_base.specs.declared.memory.NoMemory.{NoMemory as LacksMemory}
use Rattle.journal_rows.specs.declared.row.Row.{Row}
use Rattle.call_registers.specs.Registers.{IsTimely, has_number, register}
use Rattle.call_registers.specs.declared.register.Answer.{Answer}
use Rattle.call_registers.specs.declared.register.Register.{Register}
use Rattle.service_events.specs.Fits.{Fits}
use Rattle.service_events.specs.State.{Kept}
use Rattle.service_events.proofs.SearchLemmas.{neither, none_mid, splits}
use Rattle.service_core.proofs.ReplayLemmas.{replayed}
use Rattle.preview_core.specs.Differences.{LeadsTo, difference}
use Rattle.preview_core.specs.Posts.{new_posts}
use Rattle.preview_core.specs.Previews.{HasReplay, IsReplayOf, IsShown, ShowsTrials, Steps, is_early, not_idle, not_ready, preview_memory, rows_of, untimely}
use Rattle.preview_core.specs.Repairs.{AreResponses, HasRepaired, HaveRunAtMost}
use Rattle.preview_core.specs.Trials.{AreTried, Tried, TriesAll}
use Rattle.preview_core.specs.declared.refused.PreviewRefused.{PreviewRefused}
use Rattle.preview_core.specs.declared.refused.PreviewRefused.TheVariants.{NotIdle, Untimely}
use Rattle.preview_core.specs.declared.told.Preview.{Preview}
use Rattle.preview_core.specs.declared.trial.Trial.{Trial}
use Rattle.preview_core.proofs.TrialLemmas.{trials_keep}

-- ---- a service that is ready is timely

mapped_none : {X Y : Type 0} (f : X → Y) (o : Option X) → option_map f o ≡ None → o ≡ None
mapped_none f None h = refl
mapped_none f (Some x) h = cc

in_time : (r : Register) (o : Option Answer) → option_map_or (λ (a : Answer). nat_lt r.version a.version) o false ≡ false
    → IfSome o (λ (a : Answer). a.version ≤ r.version)
in_time r None h = tt
in_time r (Some a) h = grind (arith, nat_tests)

timely : (s : Kept) → find is_early s.registers ≡ None → IsTimely s.registers
timely s none number = by (register number s.registers) refl
  where
    by : (o : Option Register) → register number s.registers ≡ o → IfSome o (λ (r : Register). IfSome r.answer (λ (a : Answer). a.version ≤ r.version))
    by None is = tt
    by (Some r) is =
        let at = splits (has_number number) s.registers r is in
        in_time r r.answer (none_mid is_early at.before r at.rest (subst (λ rs. find is_early rs ≡ None) at.is none))

pub ready_timely : (s : Kept) → not_ready s ≡ None → IsTimely s.registers
ready_timely s ready =
    let none = neither (option_map NotIdle (not_idle s)) (option_map Untimely (untimely s)) ready in
    timely s (mapped_none (λ (r : Register). r.number) (find is_early s.registers) (mapped_none Untimely (untimely s) none.1))

-- so it is after trials
pub tried_timely : (s tried start : Kept) (journal : List Row) (who : List ℕ) (trials : List Trial) → not_ready s ≡ None → start ≡ s
    → AreTried journal who 0 0 start trials (Ok tried) → IsTimely tried.registers
tried_timely s tried start journal who trials ready same are =
    subst IsTimely (sym (trials_keep journal who 0 0 start trials tried are ∙ ap (λ (k : Kept). k.registers) same)) (ready_timely s ready)

-- ---- what is shown of a repair

pub shows_repair : (Are : Steps) (was tried now : Kept) (ids : List ℕ) (r : Result Preview LacksMemory) → Are tried ids now → IfOk r (λ p. AreResponses now ids p.ran)
    → IfOk r (λ p. p.rows ≡ difference (rows_of was) (rows_of now)) → IfOk r (λ p. p.posts ≡ new_posts was now) → IfOk r (IsShown Are was tried)
shows_repair Are was tried now ids (Ok p) repaired ran rows posts = record { ids = ids; now = now; repaired = repaired; ran = ran; rows = rows; posts = posts }
shows_repair Are was tried now ids (Err why) repaired ran rows posts = tt

pub at_most : (s now : Kept) (ids : List ℕ) → HasRepaired s ids now → HaveRunAtMost s ids now
at_most s now ids h = record { ran = h.repaired.ran; most = h.most; ends = inl h.repaired.idle }

pub replays_repair : (was tried now : Kept) (ids : List ℕ) (r : Result Preview LacksMemory) → HasRepaired tried ids now → Fits now
    → IfOk r (λ p. LeadsTo (rows_of was) (rows_of now) p.rows) → IfOk r (IsReplayOf was tried)
replays_repair was tried now ids (Ok p) h f rows = record { now = now; same = h.same; replayed = replayed now f None h.current; rows = rows }
replays_repair was tried now ids (Err why) h f rows = tt

-- ---- what is shown of trials

unless_more : (b : Bool) {A B : Type 0} → (A → B) → Unless b A Unit → Unless b B Unit
unless_more true f h = tt
unless_more false f h = f h

module _ (s start : Kept) (journal : List Row) (who : List ℕ) (trials : List Trial) (rows : journal ≡ s.journal) (same : start ≡ s) where
  of_service : (out : Tried) → AreTried journal who 0 0 start trials out → AreTried s.journal who 0 0 s trials out
  of_service out are =
      subst (λ j. AreTried j who 0 0 s trials out) rows (subst (λ k. AreTried journal who 0 0 k trials out) same are)

  pub refused_shows : (D : Type 0) (Are : Steps) (why : PreviewRefused) (end : Kept) → Unless (preview_memory why) (TriesAll {D = D} journal who start trials (Err why) end) Unit
      → Unless (preview_memory why) (ShowsTrials Are s trials who (Err why)) Unit
  refused_shows D Are why end tries = unless_more (preview_memory why) shows tries
    where
      shows : TriesAll {D = D} journal who start trials (Err why) end → ShowsTrials Are s trials who (Err why)
      shows f = (Err f.0, of_service (Err f.0) f.2, ap (λ (x : PreviewRefused). Err x) f.1)

  pub accepted_replays : (tried : Kept) (p : Preview) → AreTried journal who 0 0 start trials (Ok tried) → IsReplayOf s tried p → HasReplay s trials who p
  accepted_replays tried p are replay = record { tried = tried; accepted = of_service (Ok tried) are; replay = replay }
