-- A run, and a second run that is given other answers and other rows: what the first keeps, and where the second does the same.
use Rattle.std.proofs.Common.{◌≡◌, ◌≤◌, ◌<◌, ℕ, ◌+◌, Bool, true, false, cond, List, [], ◌∷◌, ◌++◌, length, take, Some, None, Ok, Err, nat_lt, refl, sym, ap, ◌∙◌, subst, append_assoc, append-nil}
use Rattle.std.specs.Prelude.{slice_get}
use Rattle.std.proofs.lemmas.List.Elements.{All-push}
use Rattle.lang_core.specs.declared.cells.Cell.{Cell}
use Rattle.lang_core.specs.declared.request.Response.{Response}
use Rattle.lang_core.specs.declared.trace.CallMade.{CallMade}
use Rattle.lang_core.specs.declared.trace.Read.{Read}
use Rattle.lang_core.specs.declared.value.Value.{Value}
use Rattle.lang_core.specs.declared.value.Value.TheVariants.{Int, Str, Nothing}
use Rattle.handler_run.specs.Reads.{Gives, GivesAll}
use Rattle.lang_values.specs.Values.{Outcome}
use Rattle.handler_run.specs.Runs.{Ended, ended, Effect, goes_on, faulted, go_on, then_do, begin, step, with_value, with_text, within, key_fits, text_fits, with_key, with_short, note_read, reads_fit, noted}
use Rattle.lang_values.specs.declared.given.Fault.{Fault}
use Rattle.handler_run.specs.declared.state.Flow.{Flow}
use Rattle.handler_run.specs.declared.state.Flow.TheVariants.{GoesOn, Replied, Wants, Faulted}
use Rattle.lang_values.specs.Given.{Given}
use Rattle.handler_run.specs.declared.state.State.{State}
use Rattle.handler_run.proofs.RunLists.{all_last}

-- what a state has for the trace, beside its writes
pub record Notes : Type 0 where
  pub reads : List Read
  pub calls : List CallMade
  pub answers : List Response

-- of a state
abbrev pub notes_of : State → Notes
notes_of s = record { reads = s.reads; calls = s.calls; answers = s.answers }

-- the same but for the answers
abbrev pub with_answers : Given → List Response → Given
with_answers g answers = record g { answers = answers }

-- more calls, behind these
pub record Extends (before after : List CallMade) : Type 0 where
  pub rest : List CallMade
  pub is : after ≡ before ++ rest

-- no call more
pub extends_none : (xs : List CallMade) → Extends xs xs
extends_none xs = record { rest = []; is = sym (append-nil xs) }

-- more calls, and again more
pub extends_both : (xs ys zs : List CallMade) → Extends xs ys → Extends ys zs → Extends xs zs
extends_both xs ys zs p q = record { rest = p.rest ++ q.rest; is = q.is ∙ ap (λ l. l ++ q.rest) p.is ∙ append_assoc xs p.rest q.rest }

-- what goes on only adds calls
on_grows : (f : Flow) (u : State) (n' : Effect) → ((s : State) → Extends s.calls (n' s).state.calls) → Extends u.calls (go_on f u n').state.calls
on_grows GoesOn u n' h = h u
on_grows (Replied r) u n' h = extends_none u.calls
on_grows (Wants c) u n' h = extends_none u.calls
on_grows (Faulted f) u n' h = extends_none u.calls

-- the first run is given g and the rows R, the second the answers bs and the rows Q
module _ (g : Given) (bs : List Response) (R Q : List Cell) where
  -- of the first run: its rows give its reads, and it took one answer for each call
  pub record Holds (n : Notes) : Type 0 where
    pub reads : GivesAll R n.reads
    pub answers : n.answers ≡ take (length n.calls) g.answers
    pub covered : length n.calls ≤ length g.answers

  -- of the second run: its rows give these reads, and its answers begin with these
  pub record Serves (n : Notes) : Type 0 where
    pub reads : GivesAll Q n.reads
    pub rest : List Response
    pub answers : bs ≡ n.answers ++ rest

  -- of a first run that wants an answer: it took all that it had, it made at most 15 calls before this one, and it has peers
  pub record LacksOne (n : Notes) : Type 0 where
    pub all : length n.calls ≡ length g.answers
    pub few : length n.calls < 16
    pub peers : g.peers ≡ [] → ⊥

  -- how the first ends
  abbrev pub Ends : Flow → Notes → Type 0
  Ends GoesOn n = Unit {0}
  Ends (Replied r) n = Unit {0}
  Ends (Wants c) n = LacksOne n
  Ends (Faulted f) n = Unit {0}

  -- of a second run where the first wants the answer of a call: past the call with an answer, and without one it ends so too
  pub record MeetsCall (c : CallMade) (s : State) (e : Ended) : Type 0 where
    pub past : (x : Response) → slice_get bs (length s.calls) ≡ Some x → Extends (s.calls ++ c ∷ []) e.state.calls
    pub stops : slice_get bs (length s.calls) ≡ None → e ≡ ended (Wants c) s

  -- how the second ends where the first ends so
  abbrev pub Meets : Flow → State → Ended → Type 0
  Meets GoesOn s e = e ≡ ended GoesOn s
  Meets (Replied r) s e = e ≡ ended (Replied r) s
  Meets (Wants c) s e = MeetsCall c s e
  Meets (Faulted f) s e = e ≡ ended (Faulted f) s

  -- from these notes the first run ends so, and the second so: what held of the first still holds, the second's calls only
  -- grow, and what serves the second at the end served it from the start, and there it does the same
  pub record Follows (n : Notes) (e e' : Ended) : Type 0 where
    pub keeps : Holds n → Holds (notes_of e.state)
    pub ends : Holds n → Ends e.flow (notes_of e.state)
    pub grows : Extends n.calls e'.state.calls
    pub meets : Holds n → Serves (notes_of e.state) → Serves n × Meets e.flow e.state e'

  -- two effects, from any state
  pub record Same (e e' : Effect) : Type 0 where
    pub at : (s : State) → Follows (notes_of s) (e s) (e' s)

module _ {g : Given} {bs : List Response} {R Q : List Cell} where
  -- both go on, with nothing noted
  pub stays : (s : State) → Follows g bs R Q (notes_of s) (goes_on s) (goes_on s)
  stays s = record { keeps = λ h. h; ends = λ h. tt; grows = extends_none s.calls; meets = λ h v. (v, refl) }

  -- both fault
  pub fails : (f : Fault) (s : State) → Follows g bs R Q (notes_of s) (faulted f s) (faulted f s)
  fails f s = record { keeps = λ h. h; ends = λ h. tt; grows = extends_none s.calls; meets = λ h v. (v, refl) }

  -- both reply
  pub replies : (r : Response) (s : State) → Follows g bs R Q (notes_of s) (ended (Replied r) s) (ended (Replied r) s)
  replies r s = record { keeps = λ h. h; ends = λ h. tt; grows = extends_none s.calls; meets = λ h v. (v, refl) }

  -- either of two choices
  pub chosen : (b : Bool) (n : Notes) (x y x' y' : Ended) → Follows g bs R Q n x x' → Follows g bs R Q n y y' → Follows g bs R Q n (cond b x y) (cond b x' y')
  chosen true n x y x' y' p q = p
  chosen false n x y x' y' p q = q

  -- within a limit, or a fault
  pub inside : (b : Bool) (s : State) (x x' : Ended) → Follows g bs R Q (notes_of s) x x' → Follows g bs R Q (notes_of s) (within b s x) (within b s x')
  inside b s x x' p = chosen b (notes_of s) x _ x' _ p (fails _ s)

  -- with a value, or a fault
  pub values : (o : Outcome) (s : State) (n n' : Value → Ended) → ((v : Value) → Follows g bs R Q (notes_of s) (n v) (n' v)) → Follows g bs R Q (notes_of s) (with_value o s n) (with_value o s n')
  values (Ok v) s n n' h = h v
  values (Err f) s n n' h = fails f s

  -- with a text, or a fault
  pub texts : (v : Value) (s : State) (n n' : List ℕ → Ended) → ((t : List ℕ) → Follows g bs R Q (notes_of s) (n t) (n' t)) → Follows g bs R Q (notes_of s) (with_text v s n) (with_text v s n')
  texts (Str t) s n n' h = h t
  texts (Int i) s n n' h = fails _ s
  texts Nothing s n n' h = fails _ s

  -- with a key within its limit, or a fault
  pub keys : (v : Value) (s : State) (n n' : List ℕ → Ended) → ((t : List ℕ) → Follows g bs R Q (notes_of s) (n t) (n' t)) → Follows g bs R Q (notes_of s) (with_key v s n) (with_key v s n')
  keys v s n n' h = texts v s _ _ (λ k. inside (key_fits k) s _ _ (h k))

  -- with a text within its limit, or a fault
  pub shorts : (v : Value) (s : State) (n n' : List ℕ → Ended) → ((t : List ℕ) → Follows g bs R Q (notes_of s) (n t) (n' t)) → Follows g bs R Q (notes_of s) (with_short v s n) (with_short v s n')
  shorts v s n n' h = texts v s _ _ (λ t. inside (text_fits t) s _ _ (h t))

  -- the second's calls only grow from one effect to the next
  then_grows : (xs : List CallMade) (e' : Ended) (n n' : Effect) → Extends xs e'.state.calls → Same g bs R Q n n' → Extends xs (then_do e' n').state.calls
  then_grows xs e' n n' p q = extends_both xs e'.state.calls _ p (on_grows e'.flow e'.state n' (λ s. (q.at s).grows))

  -- one after the other, by how the first ends
  on_follows : (f : Flow) (m : Notes) (u : State) (e' : Ended) (n n' : Effect) → Follows g bs R Q m (ended f u) e' → Same g bs R Q n n' → Follows g bs R Q m (go_on f u n) (then_do e' n')
  on_follows GoesOn m u e' n n' p q = record {
    keeps = λ h. (q.at u).keeps (p.keeps h);
    ends = λ h. (q.at u).ends (p.keeps h);
    grows = then_grows m.calls e' n n' p.grows q;
    meets = λ h v.
        let second = (q.at u).meets (p.keeps h) v in
        let first = p.meets h second.0 in
        (first.0, subst (λ x. Meets g bs R Q (n u).flow (n u).state (then_do x n')) (sym first.1) second.1);
  }
  on_follows (Replied r) m u e' n n' p q = record {
    keeps = p.keeps;
    ends = p.ends;
    grows = then_grows m.calls e' n n' p.grows q;
    meets = λ h v. let first = p.meets h v in (first.0, ap (λ x. then_do x n') first.1);
  }
  on_follows (Wants c) m u e' n n' p q = record {
    keeps = p.keeps;
    ends = p.ends;
    grows = then_grows m.calls e' n n' p.grows q;
    meets = λ h v.
        let first = p.meets h v in
        let meets : MeetsCall g bs R Q c u (then_do e' n') = record {
          past = λ x is. then_grows (u.calls ++ c ∷ []) e' n n' (first.1.past x is) q;
          stops = λ none. ap (λ x. then_do x n') (first.1.stops none);
        } in
        (first.0, meets);
  }
  on_follows (Faulted f) m u e' n n' p q = record {
    keeps = p.keeps;
    ends = p.ends;
    grows = then_grows m.calls e' n n' p.grows q;
    meets = λ h v. let first = p.meets h v in (first.0, ap (λ x. then_do x n') first.1);
  }

  -- one after the other
  pub follow : (m : Notes) (e e' : Ended) (n n' : Effect) → Follows g bs R Q m e e' → Same g bs R Q n n' → Follows g bs R Q m (then_do e n) (then_do e' n')
  follow m e e' n n' p q = on_follows e.flow m e.state e' n n' p q

  -- a step that may begin or not
  begins : (b : Bool) (s u : State) (n n' : Effect) → Follows g bs R Q (notes_of s) (n u) (n' u) → Follows g bs R Q (notes_of s) (begin (cond b (Some u) None) s n) (begin (cond b (Some u) None) s n')
  begins true s u n n' h = h
  begins false s u n n' h = fails _ s

  -- a step, and then the rest
  pub steps : (s : State) (n n' : Effect) → Same g bs R Q n n' → Follows g bs R Q (notes_of s) (step s n) (step s n')
  steps s n n' h = begins (nat_lt s.steps 10000) s (record s { steps = s.steps + 1 }) n n' (h.at (record s { steps = s.steps + 1 }))

  -- a read that the rows give is noted
  note_holds : (r : Read) (s : State) → Gives R r → Holds g bs R Q (notes_of s) → Holds g bs R Q (notes_of (note_read r s))
  note_holds r s gives h = record { reads = All-push (Gives R) s.reads r h.reads gives; answers = h.answers; covered = h.covered }

  -- after the same read
  read_follows : (r : Read) (s : State) (n n' : Effect) → Same g bs R Q n n' → Follows g bs R Q (notes_of (note_read r s)) (noted r s n) (noted r s n')
  read_follows r s n n' h = inside (reads_fit (note_read r s)) (note_read r s) _ _ (h.at (note_read r s))

  -- a read of one's own rows, which finds the same where the second's rows give what the first's gave
  pub reads_same : {A : Type 0} (read : A → Read) (a a' : A) (s : State) (n n' : A → Effect) → Gives R (read a) → (Gives Q (read a) → a' ≡ a)
      → ((x : A) → Same g bs R Q (n x) (n' x)) → Follows g bs R Q (notes_of s) (noted (read a) s (n a)) (noted (read a') s (n' a'))
  reads_same read a a' s n n' gives same h =
      let first = read_follows (read a) s (n a) (n' a) (h a) in
      record {
        keeps = λ k. first.keeps (note_holds (read a) s gives k);
        ends = λ k. first.ends (note_holds (read a) s gives k);
        grows = (read_follows (read a') s (n a') (n' a') (h a')).grows;
        meets = λ k v.
            let m = first.meets (note_holds (read a) s gives k) v in
            let l = all_last (Gives Q) s.reads (read a) m.0.reads in
            let e = noted (read a) s (n a) in
            let served : Serves g bs R Q (notes_of s) = record { reads = l.0; rest = m.0.rest; answers = m.0.answers } in
            (served, subst (λ x. Meets g bs R Q e.flow e.state (noted (read x) s (n' x))) (sym (same l.1)) m.1);
      }
