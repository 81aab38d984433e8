-- A statement of a block that goes on, and a turn of an `each`.
use Rattle.std.proofs.Common.{◌≡◌, ◌<◌, ◌+◌, ℕ, suc, List, ◌∷◌, Option, Some, length, drop, map, get_or, ap, sym, ◌∙◌, drop-cons, add-one}
use Rattle.handler_run.specs.declared.state.Flow.TheVariants.{GoesOn}
use Rattle.handler_run.specs.declared.state.State.{State}
use Rattle.lang_core.specs.declared.cells.Cell.{Cell}
use Rattle.lang_core.specs.declared.value.Value.TheVariants.{Str}
use Rattle.handler_run.specs.Runs.{Effect, Ended, ended, begun, begin, set_var, then_do, in_turn, turns}

begins : (o : Option State) (s u : State) (next : Effect) → o ≡ Some u → begin o s next ≡ next u
begins o s u next e = ap (λ o. begin o s next) e

goes : (e : Ended) (w : State) (next : Effect) → ended GoesOn w ≡ e → then_do e next ≡ next w
goes e w next is = ap (λ e. then_do e next) (sym is)

-- what is left after it does what was left before
pub goes_past : {X : Type 0} (effect : X → Effect) (items : List X) (i : ℕ) (x : X) (s u w : State) → i < length items → x ≡ get_or items i x → begun s ≡ Some u → ended GoesOn w ≡ effect x u → in_turn (map effect (drop (i + 1) items)) w ≡ in_turn (map effect (drop i items)) s
goes_past effect items i x s u w l is b e =
    let rest : Effect = in_turn (map effect (drop (suc i) items)) in
    let at : drop i items ≡ x ∷ drop (suc i) items = drop-cons items i x l ∙ ap (λ y. y ∷ drop (suc i) items) (sym is) in
    rw (add-one, at) (sym (begins (begun s) s u (λ u. then_do (effect x u) rest) b ∙ goes (effect x u) w rest e))

pub turns_past : (k t : List ℕ) (body : Effect) (cells : List Cell) (i : ℕ) (x : Cell) (s u v w : State) → i < length cells → x ≡ get_or cells i x → begun s ≡ Some u → v ≡ set_var t (Str x.text) (set_var k (Str x.key) u) → ended GoesOn w ≡ body v
    → turns k t body (drop (i + 1) cells) w ≡ turns k t body (drop i cells) s
turns_past k t body cells i x s u v w l is b set e =
    let rest : Effect = turns k t body (drop (suc i) cells) in
    let with_cell : Effect = λ u. body (set_var t (Str x.text) (set_var k (Str x.key) u)) in
    let at : drop i cells ≡ x ∷ drop (suc i) cells = drop-cons cells i x l ∙ ap (λ y. y ∷ drop (suc i) cells) (sym is) in
    let ran : ended GoesOn w ≡ with_cell u = e ∙ ap body set in
    rw (add-one, at) (sym (begins (begun s) s u (λ u. then_do (with_cell u) rest) b ∙ goes (with_cell u) w rest ran))
