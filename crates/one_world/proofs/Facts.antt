-- What a legal execution says of one request, and of the request that a call led to.
use Rattle.std.proofs.Common.{◌≡◌, ℕ, Bool, true, false, List, [], ◌∷◌, length, filter, Option, Some, None, IsSomeAnd, All, find, inl, inr, refl, sym, ap, ◌∙◌, subst, arith}
use Rattle.std.specs.List.{AllByRecursion}
use Rattle.std.proofs.lemmas.Bool.{cases_Bool}
use Rattle.std.proofs.lemmas.List.Elements.{recursion_from_All}
use Rattle.lang_base.specs.Texts.{same_text}
use Rattle.lang_core.specs.Rows.{apply}
use Rattle.lang_core.specs.Traces.{dead_trace}
use Rattle.lang_core.specs.declared.cells.Cell.{Cell}
use Rattle.lang_core.specs.declared.request.Response.{Response}
use Rattle.lang_core.specs.declared.setting.Setting.{Setting}
use Rattle.lang_core.specs.declared.trace.CallMade.{CallMade}
use Rattle.lang_core.specs.declared.trace.Trace.{Trace}
use Rattle.handler_run.specs.declared.state.Ran.{Ran}
pub use Rattle.handler_chains.specs.Onward.{IsOnward}
use Rattle.handler_chains.specs.Onward.{calls_in}
use Rattle.handler_chains.proofs.Finding.{text_is}
use Rattle.handler_chains.proofs.OnwardLaws.{calls_onward}
use Rattle.execution.specs.Executions.{Act, Deed, History, IsPlayed, IsReplay, Replays, deed_of, survives}
use Rattle.execution.specs.Together.{AreServed, CallsAreServed, IsLegalTogether, IsOne, IsServed, Serves, comes_from, history_in, name_of}
use Rattle.one_world.specs.Trees.{IsCallee, calls_of, deed_calls, setting_of}
use Rattle.one_world.proofs.Lists.{Has, each_has, has_found}

-- a request of a replay, and its trace
pub record HasRun (setting : Setting) (a : Act) : Type 0 where
  pub rows : List Cell
  pub trace : Trace
  pub played : IsPlayed setting rows a trace

pub run_in : (setting : Setting) (acts : List Act) (traces : List Trace) (rows last : List Cell) → IsReplay setting rows acts traces last
    → (a : Act) → Has a acts → HasRun setting a
run_in setting [] traces rows last r a h = absurd h
run_in setting (b ∷ acts) [] rows last r a h = absurd r
run_in setting (b ∷ acts) (t ∷ traces) rows last r a (inl e) =
    record { rows = rows; trace = t; played = subst (λ (x : Act). IsPlayed setting rows x t) (sym e) r.0 }
run_in setting (b ∷ acts) (t ∷ traces) rows last r a (inr h) = run_in setting acts traces (apply rows t.writes) last r.1 a h

-- what a legal execution says of a request
pub record Lawful (world : List History) (h : History) (a : Act) : Type 0 where
  pub run : HasRun h.setting a
  pub served : survives a ≡ true → AreServed world (name_of h) a.numbers (calls_of a) a.answers

served_calls : (world : List History) (caller : List ℕ) (ns : List ℕ) (rs : List Response) (did : Option Deed)
    → IsSomeAnd did (λ d. AreServed world caller ns d.calls rs) → AreServed world caller ns (deed_calls did) rs
served_calls world caller ns rs None h = absurd h
served_calls world caller ns rs (Some d) h = h

served_so : (world : List History) (part : List History) → AllByRecursion (λ (g : History). All (CallsAreServed world g) g.acts) part
    → AllByRecursion (λ (g : History). AllByRecursion (CallsAreServed world g) g.acts) part
served_so world [] all = tt
served_so world (g ∷ part) all = (recursion_from_All (CallsAreServed world g) g.acts all.0, served_so world part all.1)

served_each : (world : List History) (part : List History) → All (λ g. All (CallsAreServed world g) g.acts) part
    → AllByRecursion (λ (g : History). AllByRecursion (CallsAreServed world g) g.acts) part
served_each world part all =
    served_so world part (recursion_from_All (λ (g : History). All (CallsAreServed world g) g.acts) part all)

pub lawful : (world : List History) → IsLegalTogether world → (h : History) → Has h world → (a : Act) → Has a h.acts → Lawful world h a
lawful world legal h there a logged =
    let alone = recursion_from_All (λ (g : History). Replays g.setting [] g.acts g.rows) world legal.alone.replayed in
    let replays : Replays h.setting [] h.acts h.rows = each_has (λ (g : History). Replays g.setting [] g.acts g.rows) h world alone there in
    let all = each_has (λ (g : History). AllByRecursion (CallsAreServed world g) g.acts) h world (served_each world world legal.served) there in
    let mine : CallsAreServed world h a = each_has (CallsAreServed world h) a h.acts all logged in
    record {
      run = run_in h.setting h.acts replays.traces [] h.rows replays.replay a logged;
      served = λ alive. served_calls world (name_of h) a.numbers a.answers a.did (mine alive);
    }

no_items : {X : Type 0} (xs : List X) → length xs ≡ 0 → xs ≡ []
no_items [] h = refl
no_items (x ∷ xs) h = absurd (omega (arith, h))

-- ---- of a request that survives

module _ (world : List History) (h : History) (a : Act) (l : Lawful world h a) where
  -- its calls are its run's
  pub calls_run : calls_of a ≡ l.run.trace.calls
  calls_run = ap deed_calls l.run.played.did

  pub onward : survives a ≡ true → AllByRecursion (IsOnward (name_of h) h.setting.peers a.request) (calls_of a)
  onward alive =
      let all = calls_onward (setting_of h a) a.request a.inputs a.answers l.run.rows in
      let ours : AllByRecursion (IsOnward (name_of h) h.setting.peers a.request) l.run.trace.calls =
      subst (λ (r : Ran). AllByRecursion (IsOnward (name_of h) h.setting.peers a.request) (calls_in r)) (l.run.played.live alive) all in
      subst (AllByRecursion (IsOnward (name_of h) h.setting.peers a.request)) (sym calls_run) ours

  -- ---- and of one that doesn't

  pub dead_calls : survives a ≡ false → calls_of a ≡ []
  dead_calls dead = calls_run ∙ ap (λ (t : Trace). t.calls) (l.run.played.dead dead)

  pub dead_numbers : survives a ≡ false → a.numbers ≡ []
  dead_numbers dead = no_items a.numbers (l.run.played.named ∙ ap (λ (t : Trace). length t.calls) (l.run.played.dead dead))

  pub dead_did : survives a ≡ false → a.did ≡ Some (deed_of dead_trace)
  dead_did dead = l.run.played.did ∙ ap (λ (t : Trace). Some (deed_of t)) (l.run.played.dead dead)

-- ---- the request that a call led to

only : {X : Type 0} (P : X → Type 0) (x : X) (xs : List X) → IsOne P (x ∷ xs) → P x
only P x [] h = h
only P x (y ∷ ys) h = absurd h

serves_found : {X : Type 0} (P : X → Type 0) (p : X → Bool) (xs : List X) (x : X) → IsOne P (filter p xs) → find p xs ≡ Some x → P x
serves_found P p [] x one e = absurd one
serves_found P p (y ∷ ys) x one e = elim (cases_Bool (p y)) [
  | inl is ↦ (let here : Some y ≡ Some x = rw is at e in
      let same : y ≡ x = cc in
      let alone : IsOne P (y ∷ filter p ys) = rw is at one in
      subst P same (only P y (filter p ys) alone))
  | inr other ↦ serves_found P p ys x (rw other at one) (rw other at e)
]

served_by : (o : Option History) (h : History) (P : History → Type 0) → o ≡ Some h → IsSomeAnd o P → P h
served_by None h P e s = absurd s
served_by (Some g) h P e s = (let is : g ≡ h = cc in subst P is s)

pub callee_serves : (world : List History) (caller : List ℕ) (n : ℕ) (c : CallMade) (r : Response) (h : History) (a : Act) → IsCallee world caller n c h a
    → IsServed world caller n c r → Serves c r a
callee_serves world caller n c r h a callee served =
    serves_found (Serves c r) (comes_from caller n) h.acts a
    (served_by (history_in c.dest world) h (λ g. IsOne (Serves c r) (filter (comes_from caller n) g.acts)) callee.served served) callee.called

-- where it is, and that it is the service that the call names
pub record IsThere (world : List History) (c : CallMade) (h : History) (a : Act) : Type 0 where
  pub world_has : Has h world
  pub named : name_of h ≡ c.dest
  pub found : history_in (name_of h) world ≡ Some h
  pub logged : Has a h.acts

pub callee_there : (world : List History) (caller : List ℕ) (n : ℕ) (c : CallMade) (h : History) (a : Act) → IsCallee world caller n c h a → IsThere world c h a
callee_there world caller n c h a callee =
    let there = has_found (λ (g : History). same_text (name_of g) c.dest) world h callee.served in
    let named = text_is (name_of h) c.dest there.1 in
    record {
      world_has = there.0;
      named = named;
      found = subst (λ (d : List ℕ). history_in d world ≡ Some h) (sym named) callee.served;
      logged = (has_found (comes_from caller n) h.acts a callee.called).0;
    }
