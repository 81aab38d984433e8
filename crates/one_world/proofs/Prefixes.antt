-- A run that ends, given fewer of the answers that it takes: it comes to the call whose answer lacks.
use Rattle.std.proofs.Common.{◌≡◌, ℕ, ◌+◌, List, [], ◌∷◌, ◌++◌, length, refl, sym, ap, ◌∙◌, subst, arith, length-append, append_assoc}
use Rattle.lang_core.specs.declared.cells.Cell.{Cell}
use Rattle.lang_core.specs.declared.inputs.Inputs.{Inputs}
use Rattle.lang_core.specs.declared.request.Request.{Request}
use Rattle.lang_core.specs.declared.request.Response.{Response}
use Rattle.lang_core.specs.declared.setting.Setting.{Setting}
use Rattle.lang_core.specs.declared.trace.CallMade.{CallMade}
use Rattle.lang_core.specs.declared.trace.Trace.{Trace}
use Rattle.handler_run.specs.Handlers.{run_of}
use Rattle.handler_run.specs.Laws.{calls_of}
use Rattle.handler_run.specs.declared.state.Ran.{Ran}
use Rattle.handler_run.specs.declared.state.Ran.TheVariants.{Done, Wants}
use Rattle.handler_run.proofs.RunLaws.{goes_on_wants, reads_done, same_done, takes_done}

-- a run that wants the answer of the call behind so many
pub record WantsNext (r : Ran) (t : Trace) (n : ℕ) : Type 0 where
  pub slot : ℕ
  pub calls : List CallMade
  pub call : CallMade
  pub more : List CallMade
  pub wants : r ≡ Wants slot calls call
  pub count : length calls ≡ n
  pub made : t.calls ≡ calls ++ call ∷ more

too_few : (us rest gs rs : List Response) (r : Response) → gs ≡ us ++ rest → us ≡ gs ++ r ∷ rs → ⊥
too_few us rest gs rs r e f =
    let a = ap length e ∙ length-append us rest in
    let b = ap length f ∙ length-append gs (r ∷ rs) in
    omega (arith, a, b)

module _ (s : Setting) (q : Request) (i : Inputs) (rows : List Cell) (t : Trace) where
  -- it doesn't end
  no_end : (gs : List Response) (r : Response) (rs : List Response) (u : Trace) → run_of s q i gs rows ≡ Done u → run_of s q i (gs ++ r ∷ rs) rows ≡ Done t
      → t.answers ≡ gs ++ r ∷ rs → ⊥
  no_end gs r rs u ends whole takes =
      let front = takes_done s q i gs rows u ends in
      let again = same_done s q i gs rows u ends rows (reads_done s q i gs rows u ends) (front.0 ++ r ∷ rs) in
      let same : u.answers ++ (front.0 ++ r ∷ rs) ≡ gs ++ r ∷ rs = sym (append_assoc u.answers front.0 (r ∷ rs)) ∙ ap (λ xs. xs ++ r ∷ rs) (sym front.1) in
      let here : run_of s q i (gs ++ r ∷ rs) rows ≡ Done u = subst (λ xs. run_of s q i xs rows ≡ Done u) same again in
      let both : Done u ≡ Done t = sym here ∙ whole in
      let is : u ≡ t = cc in
      too_few u.answers front.0 gs rs r front.1 (ap (λ (x : Trace). x.answers) is ∙ takes)

  mutual_made : (gs : List Response) (r : Response) (calls : List CallMade) (call : CallMade) → calls_of (run_of s q i (gs ++ r ∷ []) rows) ≡ calls ++ call ∷ []
      → run_of s q i (gs ++ r ∷ []) rows ≡ Done t → t.calls ≡ calls ++ call ∷ []
  mutual_made gs r calls call goes whole = sym (ap calls_of whole) ∙ goes

  by_ran : (gs : List Response) (r : Response) (rs : List Response) (x : Ran) → run_of s q i gs rows ≡ x → run_of s q i (gs ++ r ∷ rs) rows ≡ Done t
      → t.answers ≡ gs ++ r ∷ rs
      → ((calls : List CallMade) (call : CallMade) → calls_of (run_of s q i (gs ++ r ∷ []) rows) ≡ calls ++ call ∷ [] → (more : List CallMade) × (t.calls ≡ calls ++ call ∷ more))
      → WantsNext x t (length gs)
  by_ran gs r rs (Done u) is whole takes made = absurd (no_end gs r rs u is whole takes)
  by_ran gs r rs (Wants slot calls call) is whole takes made =
      let on = goes_on_wants s q i gs rows slot calls call is in
      let m = made calls call (on.2 r) in
      record { slot = slot; calls = calls; call = call; more = m.0; wants = refl; count = on.1; made = m.1 }

  pub wants_next : (rs : List Response) (gs : List Response) (r : Response) → run_of s q i (gs ++ r ∷ rs) rows ≡ Done t → t.answers ≡ gs ++ r ∷ rs
      → WantsNext (run_of s q i gs rows) t (length gs)
  wants_next [] gs r whole takes =
      by_ran gs r [] (run_of s q i gs rows) refl whole takes (λ calls call goes. ([], mutual_made gs r calls call goes whole))
  wants_next (z ∷ rs) gs r whole takes =
      let move : gs ++ r ∷ z ∷ rs ≡ (gs ++ r ∷ []) ++ z ∷ rs = sym (append_assoc gs (r ∷ []) (z ∷ rs)) in
      let next = wants_next rs (gs ++ r ∷ []) z (subst (λ xs. run_of s q i xs rows ≡ Done t) move whole) (takes ∙ move) in
      by_ran gs r (z ∷ rs) (run_of s q i gs rows) refl whole takes
      (λ calls call goes.
      let front : next.calls ≡ calls ++ call ∷ [] = sym (ap calls_of next.wants) ∙ goes in
      (next.call ∷ next.more, next.made ∙ ap (λ xs. xs ++ next.call ∷ next.more) front ∙ append_assoc calls (call ∷ []) (next.call ∷ next.more)))
