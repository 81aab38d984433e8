-- Two runs of a call.
use Rattle.std.proofs.Common.{◌≡◌, ◌<◌, ℕ, suc, Bool, true, false, List, [], ◌∷◌, ◌++◌, length, take, Option, Some, None, nat_lt, refl, sym, ap, ◌∙◌, subst, arith, append_assoc, length-append}
use Rattle.std.specs.Prelude.{slice_get}
use Rattle.std.specs.List.{find}
use Rattle.std.proofs.lemmas.List.{length-take-le}
use Rattle.std.proofs.lemmas.Bool.{ltb-true}
use Rattle.std.proofs.lemmas.Option.{slice_get_within}
use Rattle.lang_base.specs.Texts.{same_text}
use Rattle.lang_tree.specs.declared.method.Method.{Method}
use Rattle.lang_tree.specs.declared.expr.Expr.{Expr}
use Rattle.lang_core.specs.declared.cells.Cell.{Cell}
use Rattle.lang_core.specs.declared.request.Response.{Response}
use Rattle.lang_core.specs.declared.trace.CallMade.{CallMade}
use Rattle.lang_core.specs.declared.value.Value.{Value}
use Rattle.lang_values.specs.Values.{value_of}
use Rattle.handler_run.specs.Runs.{note_call, answered, take_answer, send_to, call_request, is_loop, call_to, call_path_fits, call_at, call_of, within}
use Rattle.lang_values.specs.Given.{Given}
use Rattle.handler_run.specs.declared.state.State.{State}
use Rattle.handler_run.proofs.RunLists.{take_next, get_behind, get_none}
use Rattle.handler_run.proofs.TwoRuns.{notes_of, with_answers, Extends, extends_none, Holds, MeetsCall, Follows, Same, stays, fails, chosen, inside, values, texts, shorts}

-- a call with its answer is noted, or none
answer_grows : (o : Option Response) (x y : List ℕ) (c : CallMade) (s : State) → Extends s.calls (take_answer o x y c s).state.calls
answer_grows None x y c s = extends_none s.calls
answer_grows (Some r) x y c s = record { rest = c ∷ []; is = refl }

-- with an answer the run goes past the call
answer_past : (o : Option Response) (r : Response) (x y : List ℕ) (c : CallMade) (s : State) → o ≡ Some r → Extends (s.calls ++ c ∷ []) (take_answer o x y c s).state.calls
answer_past o r x y c s e = subst (λ o. Extends (s.calls ++ c ∷ []) (take_answer o x y c s).state.calls) (sym e) (extends_none (s.calls ++ c ∷ []))

module _ {g : Given} {bs : List Response} {R Q : List Cell} where
  -- as many answers as calls
  even_notes : (s : State) → Holds g bs R Q (notes_of s) → length s.answers ≡ length s.calls
  even_notes s h = ap length h.answers ∙ length-take-le (length s.calls) g.answers h.covered

  -- where no answer is left, all were taken
  all_taken : (s : State) → slice_get g.answers (length s.calls) ≡ None → Holds g bs R Q (notes_of s) → length s.calls ≡ length g.answers
  all_taken s e h =
      let ge = get_none g.answers (length s.calls) e in
      let le = h.covered in
      omega arith

  -- a call takes the next answer
  note_holds : (c : CallMade) (r : Response) (s : State) → slice_get g.answers (length s.calls) ≡ Some r → Holds g bs R Q (notes_of s) → Holds g bs R Q (notes_of (note_call c r s))
  note_holds c r s e h =
      let long : length (s.calls ++ c ∷ []) ≡ suc (length s.calls) = length-append s.calls (c ∷ []) ∙ omega arith in
      record {
        reads = h.reads;
        answers = ap (λ l. l ++ r ∷ []) h.answers ∙ sym (take_next g.answers (length s.calls) r e) ∙ ap (λ n. take n g.answers) (sym long);
        covered = let lt = slice_get_within g.answers (length s.calls) r e in omega arith;
      }

  -- the first run takes an answer or wants one
  takes : (o : Option Response) (x y : List ℕ) (c : CallMade) (s : State) → length s.calls < 16 → (g.peers ≡ [] → ⊥) → slice_get g.answers (length s.calls) ≡ o
      → Follows g bs R Q (notes_of s) (take_answer o x y c s) (take_answer (slice_get bs (length s.calls)) x y c s)
  takes None x y c s few peers e = record {
    keeps = λ h. h;
    ends = λ h. record { all = all_taken s e h; few = few; peers = peers };
    grows = answer_grows (slice_get bs (length s.calls)) x y c s;
    meets = λ h v.
        let meets : MeetsCall g bs R Q c s (take_answer (slice_get bs (length s.calls)) x y c s) = record {
          past = λ r is. answer_past (slice_get bs (length s.calls)) r x y c s is;
          stops = λ none. ap (λ o. take_answer o x y c s) none;
        } in
        (v, meets);
  }
  takes (Some r) x y c s few peers e = record {
    keeps = note_holds c r s e;
    ends = λ h. tt;
    grows = answer_grows (slice_get bs (length s.calls)) x y c s;
    meets = λ h v.
        let same : bs ≡ s.answers ++ r ∷ v.rest = v.answers ∙ append_assoc s.answers (r ∷ []) v.rest in
        let even : length s.answers ≡ length s.calls = even_notes s h in
        let next : slice_get bs (length s.calls) ≡ Some r = rw (same, ← even) (get_behind s.answers r v.rest) in
        (record { reads = v.reads; rest = r ∷ v.rest; answers = same }, ap (λ o. take_answer o x y c s) next);
  }

  -- a call that is within the limit on calls
  sends_at : (b : Bool) (x y : List ℕ) (c : CallMade) (s : State) → nat_lt (length s.calls) 16 ≡ b → (g.peers ≡ [] → ⊥)
      → Follows g bs R Q (notes_of s) (within b s (take_answer (slice_get g.answers (length s.calls)) x y c s)) (within b s (take_answer (slice_get bs (length s.calls)) x y c s))
  sends_at true x y c s e peers = takes (slice_get g.answers (length s.calls)) x y c s (ltb-true (length s.calls) 16 e) peers refl
  sends_at false x y c s e peers = fails _ s

  -- a call to a peer, or none
  sends : (o : Option (List ℕ)) (x y : List ℕ) (m : Method) (path body : List ℕ) (s : State) → (g.peers ≡ [] → o ≡ None)
      → Follows g bs R Q (notes_of s) (send_to o g x y m path body s) (send_to o (with_answers g bs) x y m path body s)
  sends None x y m path body s h = stays (answered x y (record { status = 502; body = [] }) s)
  sends (Some dest) x y m path body s h =
      sends_at _ x y (record { dest = dest; request = call_request g m path body }) s refl (λ e. let none = h e in cc)

  -- a call that is no loop
  calls_to : (x y dest : List ℕ) (m : Method) (path body : List ℕ) (s : State)
      → Follows g bs R Q (notes_of s) (call_to g x y dest m path body s) (call_to (with_answers g bs) x y dest m path body s)
  calls_to x y dest m path body s =
      chosen (is_loop g dest) (notes_of s) _ _ _ _ (stays (answered x y (record { status = 508; body = [] }) s))
      (sends (find (λ name. same_text name dest) g.peers) x y m path body s (ap (find (λ name. same_text name dest))))

  -- a call with the values of its parts
  calls_at : (x y : List ℕ) (dest : Value) (m : Method) (path body : Value) (s : State)
      → Follows g bs R Q (notes_of s) (call_at g x y dest m path body s) (call_at (with_answers g bs) x y dest m path body s)
  calls_at x y dest m path body s =
      texts dest s _ _ (λ d. texts path s _ _ (λ p. inside (call_path_fits p) s _ _ (shorts body s _ _ (λ b. calls_to x y d m p b s))))

  -- `call`
  pub calls : (x y : List ℕ) (d : Expr) (m : Method) (p b : Expr) → Same g bs R Q (call_of g x y d m p b) (call_of (with_answers g bs) x y d m p b)
  calls x y d m p b = record {
    at = λ s. values (value_of g s.vars d) s _ _ (λ dest. values (value_of g s.vars p) s _ _ (λ path.
        values (value_of g s.vars b) s _ _ (λ body. calls_at x y dest m path body s)));
  }
