-- The run of a world from its histories is that of its roots' tapes.
use Rattle.std.proofs.Common.{◌≡◌, ℕ, zero, suc, Bool, true, false, cond, List, [], ◌∷◌, ◌++◌, length, Option, Some, None, refl, sym, ap, ◌∙◌}
use Rattle.std.specs.Option.{option_map}
use Rattle.lang_base.specs.Texts.{same_text}
use Rattle.lang_core.specs.HandedOn.{Route}
use Rattle.lang_core.specs.Traces.{dead_trace}
use Rattle.lang_core.specs.declared.ids.RequestId.{RequestId}
use Rattle.lang_core.specs.declared.request.Request.{Request}
use Rattle.lang_core.specs.declared.request.Response.{Response}
use Rattle.lang_core.specs.declared.setting.Setting.{Setting}
use Rattle.lang_core.specs.declared.trace.CallMade.{CallMade}
use Rattle.handler_run.specs.Handlers.{run_of}
use Rattle.handler_run.specs.HandedOn.{with_program}
use Rattle.handler_run.specs.declared.state.Ran.{Ran}
use Rattle.handler_run.specs.declared.state.Ran.TheVariants.{Done, Wants}
use Rattle.execution.specs.Executions.{Act, History}
use Rattle.execution.specs.Together.{IsLegalTogether, history_in, name_of}
use Rattle.one_world.specs.OneWorld.{Run, and_roots, next_root, one_world, before_all, run_roots, settings_of, tapes_of}
use Rattle.one_world.specs.Tapes.{Played, World, and_behind, at_call, at_service, ended, go_on, in_place, rows_at, setting_in}
use Rattle.one_world.specs.Trees.{AreCalled, AreRoots, IsCallee, Trees, calls_of, none, requests_of, setting_of, tree}
use Rattle.one_world.specs.Turns.{Player, Turned, call_to, next_world, turn_act, turn_all, turn_callee, turn_calls, turn_end, turn_found, turn_id, turn_on, turn_root, turn_roots, with_call}
use Rattle.one_world.proofs.Facts.{callee_there, lawful, onward}
use Rattle.one_world.proofs.Low.{Low, called_low, left_all}
use Rattle.one_world.proofs.OneRun.{root_at}
use Rattle.one_world.proofs.Stands.{setting_found}

-- without the responses of the calls
abbrev turned_of : Played → Turned
turned_of p = record { world = p.world; response = p.response }

abbrev turned : Option Played → Option Turned
turned o = option_map turned_of o

end_turned : (me : List ℕ) (w : World) (ran : Ran) → turn_end me w ran ≡ turned (ended me w ran)
end_turned me w (Done t) = refl
end_turned me w (Wants slot calls call) = refl

and_turned : (p : Played) (o : Option Played) → turned (and_behind p o) ≡ turned o
and_turned p None = refl
and_turned p (Some q) = refl

go_turned : (o : Option Played) (k : Played → Option Played) (next : Turned → Option Turned) → ((p : Played) → next (turned_of p) ≡ turned (k p))
    → turn_on (turned o) next ≡ turned (go_on o k)
go_turned None k next so = refl
go_turned (Some p) k next so = so p ∙ sym (and_turned p (k p))

-- the call of a run, where it is to this service
by_call : (b : Bool) (call : CallMade) (k : CallMade → Option Played) (next : CallMade → Option Turned) → next call ≡ turned (k call)
    → with_call (cond b (Some call) None) next ≡ turned (cond b (k call) None)
by_call true call k next e = e
by_call false call k next e = refl

call_turned : (ran : Ran) (dest : List ℕ) (k : CallMade → Option Played) (next : CallMade → Option Turned) → ((call : CallMade) → next call ≡ turned (k call))
    → with_call (call_to ran dest) next ≡ turned (at_call ran dest k)
call_turned (Done t) dest k next so = refl
call_turned (Wants slot calls call) dest k next so = by_call (same_text call.dest dest) call k next (so call)

-- a request that may be struck
act_by : (struck : Bool) (s : Setting) (program : List Route) (w : World) (k : Setting → Option Played) (next : Option Turned) → next ≡ turned (k (with_program program s))
    → cond struck (Some (record { world = w; response = dead_trace.response })) next ≡ turned (at_service (Some s) program struck w k)
act_by true s program w k next e = refl
act_by false s program w k next e = e

act_turned : (player : Player) (w : World) (q : Request) (h : History) (a : Act) (o : Option Setting) (k : Setting → Option Played) → o ≡ Some h.setting
    → player h a q w ≡ turned (k (setting_of h a)) → turn_act player w q h a ≡ turned (at_service o a.program a.struck w k)
act_turned player w q h a o k found e =
    act_by a.struck h.setting a.program w k (player h a q w) e ∙ ap (λ x. turned (at_service x a.program a.struck w k)) (sym found)

-- what follows a call follows its callee
on_call : (o : Option CallMade) (f : CallMade → Option Turned) (next : Turned → Option Turned) → turn_on (with_call o f) next ≡ with_call o (λ call. turn_on (f call) next)
on_call None f next = refl
on_call (Some call) f next = refl

module _ (world : List History) where
  callee_found : (player : Player) (caller : List ℕ) (n : ℕ) (c : CallMade) (w : World) (q : Request) (h : History) (a : Act) → IsCallee world caller n c h a
      → turn_callee player caller n w q (history_in c.dest world) ≡ turn_act player w q h a
  callee_found player caller n c w q h a callee =
      ap (λ o. turn_callee player caller n w q o) callee.served ∙ ap (λ o. turn_found player w q h o) callee.called

  pub calls_turned : (t : Trees) (depth : ℕ) (h : History) (a : Act) (q : Request) (ns : List ℕ) (cs : List CallMade) (given : List Response) (w : World)
      → AreCalled t world (name_of h) ns cs → Low t depth
      → turn_calls (turn_all depth world) world h a q ns cs given w ≡ turned (in_place (tapes_of t) (settings_of world) (setting_of h a) q a.inputs given w)
  calls_turned none depth h a q [] [] given w called low = end_turned (name_of h) w (run_of (setting_of h a) q a.inputs given (rows_at (name_of h) w))
  calls_turned none depth h a q [] (c ∷ cs) given w called low = absurd called
  calls_turned none depth h a q (n ∷ ns) cs given w called low = absurd called
  calls_turned (tree g b below behind) depth h a q [] cs given w called low = absurd called
  calls_turned (tree g b below behind) depth h a q (n ∷ ns) [] given w called low = absurd called
  calls_turned (tree g b below behind) zero h a q (n ∷ ns) (c ∷ cs) given w called low = absurd low
  calls_turned (tree g b below behind) (suc depth) h a q (n ∷ ns) (c ∷ cs) given w called low =
      let there = callee_there world (name_of h) n c g b called.0 in
      let ran = run_of (setting_of h a) q a.inputs given (rows_at (name_of h) w) in
      let next : CallMade → Option Turned = λ call.
      turn_on (turn_callee (turn_all (suc depth) world) (name_of h) n w call.request (history_in c.dest world))
      (λ t. turn_calls (turn_all (suc depth) world) world h a q ns cs (given ++ t.response ∷ []) t.world) in
      let callee : CallMade → Option Played = λ call.
      at_service (setting_in (name_of g) (settings_of world)) b.program b.struck w (λ s. in_place (tapes_of below) (settings_of world) s call.request b.inputs [] w) in
      let k : CallMade → Option Played = λ call. go_on (callee call) (λ p. in_place (tapes_of behind) (settings_of world) (setting_of h a) q a.inputs (given ++ p.response ∷ []) p.world) in
      let called_so : (call : CallMade) → turn_callee (turn_all (suc depth) world) (name_of h) n w call.request (history_in c.dest world) ≡ turned (callee call) = λ call.
      callee_found (turn_all (suc depth) world) (name_of h) n c w call.request g b called.0
      ∙ act_turned (turn_all (suc depth) world) w call.request g b (setting_in (name_of g) (settings_of world))
      (λ s. in_place (tapes_of below) (settings_of world) s call.request b.inputs [] w) (setting_found (name_of g) world g there.found)
      (calls_turned below depth g b call.request b.numbers (calls_of b) [] w called.1 low.0) in
      let so : (call : CallMade) → next call ≡ turned (k call) = λ call.
      ap (λ o. turn_on o (λ t. turn_calls (turn_all (suc depth) world) world h a q ns cs (given ++ t.response ∷ []) t.world)) (called_so call)
      ∙ go_turned (callee call) (λ p. in_place (tapes_of behind) (settings_of world) (setting_of h a) q a.inputs (given ++ p.response ∷ []) p.world)
      (λ t. turn_calls (turn_all (suc depth) world) world h a q ns cs (given ++ t.response ∷ []) t.world)
      (λ p. calls_turned behind (suc depth) h a q ns cs (given ++ p.response ∷ []) p.world called.2 low.1) in
      on_call (call_to ran c.dest) (λ call. turn_callee (turn_all (suc depth) world) (name_of h) n w call.request (history_in c.dest world))
      (λ t. turn_calls (turn_all (suc depth) world) world h a q ns cs (given ++ t.response ∷ []) t.world)
      ∙ ap (λ d. with_call (call_to ran d) next) (sym there.named) ∙ call_turned ran (name_of g) k next so

-- ---- roots

abbrev world_of : Option Run → Option World
world_of o = option_map (λ (r : Run). r.world) o

roots_worlds : (p : Played) (o : Option Run) → world_of (and_roots p o) ≡ world_of o
roots_worlds p None = refl
roots_worlds p (Some r) = refl

next_turned : (o : Option Played) (k : Played → Option Run) (next : World → Option World) → ((p : Played) → next p.world ≡ world_of (k p))
    → next_world (turned o) next ≡ world_of (next_root o k)
next_turned None k next so = refl
next_turned (Some p) k next so = so p ∙ sym (roots_worlds p (k p))

module _ (world : List History) (legal : IsLegalTogether world) where
  roots_turned : (t : Trees) (order : List RequestId) (w : World) → AreRoots t world order
      → turn_roots (length world) world order w ≡ world_of (run_roots (tapes_of t) (settings_of world) (requests_of t) w)
  roots_turned none [] w roots = refl
  roots_turned none (i ∷ order) w roots = absurd roots
  roots_turned (tree h a below behind) [] w roots = absurd roots
  roots_turned (tree h a below behind) (i ∷ order) w roots =
      let depth = length world in
      let at = root_at world i h a roots.0 in
      let law = lawful world legal h at.there a at.logged in
      let low : Low below depth = called_low world legal below (name_of h) h.setting.peers a.request a.numbers (calls_of a) a.answers depth roots.1
      (onward world h a law roots.0.alive) (law.served roots.0.alive) (left_all (a.request.chain ++ name_of h ∷ []) world) in
      let k : Setting → Option Played = λ s. in_place (tapes_of below) (settings_of world) s a.request a.inputs [] w in
      let one : turn_id depth world i.number w (history_in i.service world) ≡ turned (at_service (setting_in (name_of h) (settings_of world)) a.program a.struck w k) =
      ap (λ o. turn_id depth world i.number w o) roots.0.served ∙ ap (λ o. turn_root depth world w h o) roots.0.logged
      ∙ act_turned (turn_all (suc depth) world) w a.request h a (setting_in (name_of h) (settings_of world)) k (setting_found (name_of h) world h at.found)
      (calls_turned world below depth h a a.request a.numbers (calls_of a) [] w roots.1 low) in
      ap (λ o. next_world o (λ next. turn_roots depth world order next)) one
      ∙ next_turned (at_service (setting_in (name_of h) (settings_of world)) a.program a.struck w k) (λ p. run_roots (tapes_of behind) (settings_of world) (requests_of behind) p.world)
      (λ next. turn_roots depth world order next) (λ p. roots_turned behind order p.world roots.2)

  -- from empty rows on
  pub one_world_turned : (t : Trees) (order : List RequestId) → AreRoots t world order → turn_roots (length world) world order (before_all world) ≡ world_of (one_world world t)
  one_world_turned t order roots = roots_turned t order (before_all world) roots
