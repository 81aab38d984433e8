-- A search for an order: what it keeps, that it ends, and what it has found then.
use Rattle.std.proofs.Common.{◌≡◌, ◌<◌, ℕ, suc, Bool, true, false, List, [], ◌∷◌, ◌++◌, Some, None, refl, sym, ap, ◌∙◌, subst, true≢false, arith}
use Rattle.lang_core.specs.declared.ids.RequestId.{RequestId}
use Rattle.execution.specs.Executions.{History}
use Rattle.execution.specs.Together.{IsLegalTogether}
use Rattle.dump_tables.specs.Kept.{AreKept}
use Rattle.dump_tables.specs.declared.dump.DumpService.{DumpService}
use Rattle.dump_audit.specs.Histories.{histories_of}
use Rattle.one_world.specs.Certificates.{AreNamed, Passes}
use Rattle.one_world.specs.OneWorld.{RunsAsOne}
use Rattle.one_world.specs.Searches.{IsStep, Log, all_passed, logs_of, next_root}
use Rattle.one_world.proofs.OneRun.{runs_as_one}
use Rattle.one_world.proofs.Searching.{Reached, all_passed_so, how_many, next_less, passed_all, reached_first, reached_next, reached_passes}
use Rattle.one_world.proofs.Stuck.{stuck_passed}
use Rattle.one_order.specs.Certificates.{AreFirst, AreTaken, IsStuck}
use Rattle.one_order.proofs.Named.{kept_named}

-- a step that finds no root
pub step_none : (world : List History) (order : List RequestId) (logs : List Log) → None ≡ next_root world logs logs → IsStep world order logs order logs false
step_none world order logs next = (sym next, refl, refl)

pub taking_more : (world : List History) (logs : List Log) (order : List RequestId) (left : List Log) (i : RequestId) (later : List Log) → AreTaken world logs order left
    → next_root world left left ≡ Some (i, later) → AreTaken world logs (order ++ i ∷ []) later
taking_more world logs [] left i later taking next = (later, subst (λ ls. next_root world ls ls ≡ Some (i, later)) (sym taking) next, refl)
taking_more world logs (j ∷ order) left i later taking next = (taking.0, taking.1, taking_more world taking.0 order left i later taking.2 next)

pub taking_first : (world : List History) (logs : List Log) (order : List RequestId) (left : List Log) → AreTaken world logs order left → AreFirst world logs order
taking_first world logs [] left taking = tt
taking_first world logs (i ∷ order) left taking = (taking.0, taking.1, taking_first world taking.0 order left taking.2)

-- what stands between two steps: the logs behind the roots of the order, each of which was the first to come next; and once the search ends, no root
-- comes next
pub record Searched (world : List History) (more : Bool) (order : List RequestId) (logs : List Log) : Type 0 where
  pub reached : Reached world order logs
  pub taking : AreTaken world (logs_of world) order logs
  pub ends : more ≡ false → next_root world logs logs ≡ None

-- the requests that are left, and the step that finds no root
abbrev pub still_left : Bool → List Log → ℕ
still_left true logs = suc (how_many logs)
still_left false logs = how_many logs

pub search_begins : (world : List History) (order : List RequestId) (logs : List Log) → order ≡ [] → logs ≡ logs_of world → Searched world true order logs
search_begins world order logs none all = record {
  reached = subst (λ o. Reached world o logs) (sym none) (subst (Reached world []) (sym all) (reached_first world));
  taking = subst (λ o. AreTaken world (logs_of world) o logs) (sym none) (sym all);
  ends = λ e. absurd (true≢false e);
}

module _ (world : List History) (legal : IsLegalTogether world) (order : List RequestId) (logs : List Log) where
  step_searched : (order_now : List RequestId) (logs_now : List Log) (more : Bool) → Reached world order logs → AreTaken world (logs_of world) order logs
      → IsStep world order logs order_now logs_now more → Searched world more order_now logs_now
  step_searched order_now logs_now true reached taking step = record {
    reached = subst (λ o. Reached world o logs_now) (sym step.2) (reached_next world legal order logs step.0 logs_now reached step.1);
    taking = subst (λ o. AreTaken world (logs_of world) o logs_now) (sym step.2) (taking_more world (logs_of world) order logs step.0 logs_now taking step.1);
    ends = λ e. absurd (true≢false e);
  }
  step_searched order_now logs_now false reached taking step = record {
    reached = subst (λ o. Reached world o logs_now) (sym step.1) (subst (Reached world order) (sym step.2) reached);
    taking = subst (λ o. AreTaken world (logs_of world) o logs_now) (sym step.1) (subst (AreTaken world (logs_of world) order) (sym step.2) taking);
    ends = λ e. subst (λ ls. next_root world ls ls ≡ None) (sym step.2) step.0;
  }

  pub search_goes_on : (before : Bool) (order_now : List RequestId) (logs_now : List Log) (more : Bool) → Searched world before order logs
      → IsStep world order logs order_now logs_now more → Searched world more order_now logs_now
  search_goes_on before order_now logs_now more searched step = step_searched order_now logs_now more searched.reached searched.taking step

  step_less : (order_now : List RequestId) (logs_now : List Log) (more : Bool) → IsStep world order logs order_now logs_now more → still_left more logs_now < suc (how_many logs)
  step_less order_now logs_now true step =
      let less : how_many logs_now < how_many logs = next_less world legal logs step.0 logs_now step.1 in
      let fewer : suc (how_many logs_now) < suc (how_many logs) = omega (arith, less) in
      fewer
  step_less order_now logs_now false step =
      let same : how_many logs_now ≡ how_many logs = ap how_many step.2 in
      let ended : how_many logs_now < suc (how_many logs) = omega (arith, same) in
      ended

  pub search_less : (before : Bool) (order_now : List RequestId) (logs_now : List Log) (more : Bool) → before ≡ true → IsStep world order logs order_now logs_now more
      → still_left more logs_now < still_left before logs
  search_less true order_now logs_now more e step = step_less order_now logs_now more step
  search_less false order_now logs_now more e step = absurd cc

module _ (world : List History) (legal : IsLegalTogether world) (more : Bool) (order : List RequestId) (logs : List Log) (ended : more ≡ false) (searched : Searched world more order logs) where
  pub order_passes : all_passed logs ≡ true → Passes world order
  order_passes e = reached_passes world order logs searched.reached (passed_all logs e)

  pub order_first : AreFirst world (logs_of world) order
  order_first = taking_first world (logs_of world) order logs searched.taking

  pub search_stuck : all_passed logs ≡ false → IsStuck world logs
  search_stuck e = record { order = order; taken = searched.taking; none_next = searched.ends ended; some_left = e }

  pub none_passes : AreNamed world → all_passed logs ≡ false → (other : List RequestId) → ¬ (Passes world other)
  none_passes named e other passes =
      true≢false (sym (all_passed_so logs (stuck_passed world legal named order logs searched.reached (searched.ends ended) other passes)) ∙ e)

pub order_runs : (services : List DumpService) → IsLegalTogether (histories_of services) → ∥ AreKept services ∥₁ → (order : List RequestId) → Passes (histories_of services) order
    → RunsAsOne (histories_of services) order
order_runs services legal kept order passes = runs_as_one (histories_of services) legal (kept_named services kept) order passes
