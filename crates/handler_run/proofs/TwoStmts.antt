-- Two runs of each kind of statement.
use Rattle.std.proofs.Common.{ℕ, pos, negsuc, ◌+◌, ◌/◌, List, [], ◌∷◌, length, Option, Some, None, nat_le, nat_eq, refl}
use Rattle.std.specs.Prelude.{slice_get}
use Rattle.lang_tree.specs.declared.expr.Expr.{Expr}
use Rattle.lang_core.specs.Rows.{get, scan}
use Rattle.lang_core.specs.declared.cells.Cell.{Cell}
use Rattle.lang_core.specs.declared.request.Response.{Response}
use Rattle.lang_core.specs.declared.trace.Read.TheVariants.{Key, Scan}
use Rattle.lang_core.specs.declared.value.Value.{Value}
use Rattle.lang_core.specs.declared.value.Value.TheVariants.{Int, Str, Nothing}
use Rattle.lang_values.specs.Values.{value_of, text_or_nothing}
use Rattle.handler_run.specs.Runs
use Rattle.handler_run.specs.Runs.{Ended, ended, Effect, goes_on, faulted, then_do, step, set_var, noted, turns, scan_fits, laid_over, with_cells, act, in_turn, block_step, stmt_of, block_of}
use Rattle.lang_values.specs.Given.{Given}
use Rattle.handler_run.specs.declared.state.State.{State}
use Rattle.handler_run.proofs.TwoRuns.{notes_of, with_answers, Follows, Same, stays, fails, replies, chosen, inside, values, texts, keys, shorts, follow, steps, reads_same}

module _ {g : Given} {bs : List Response} {R Q : List Cell} where
  -- `let`
  pub lets : (x : List ℕ) (e : Expr) → Same g bs R Q (Runs.let_of g x e) (Runs.let_of (with_answers g bs) x e)
  lets x e = record { at = λ s. values (value_of g s.vars e) s _ _ (λ v. stays (set_var x v s)) }

  -- a key that has an own write or is read
  key_reads : (o : Option (Option (List ℕ))) (x t k : List ℕ) (s : State) → Follows g bs R Q (notes_of s) (Runs.read_or o R x t k s) (Runs.read_or o Q x t k s)
  key_reads (Some o) x t k s = stays (set_var x (text_or_nothing o) s)
  key_reads None x t k s =
      reads_same (Key t k) (get R t k) (get Q t k) s (λ o u. goes_on (set_var x (text_or_nothing o) u)) (λ o u. goes_on (set_var x (text_or_nothing o) u))
      refl (λ e. e) (λ o. record { at = λ u. stays (set_var x (text_or_nothing o) u) })

  -- `get`
  pub gets : (x t : List ℕ) (k : Expr) → Same g bs R Q (Runs.get_of g R x t k) (Runs.get_of (with_answers g bs) Q x t k)
  gets x t k = record {
    at = λ s. values (value_of g s.vars k) s _ _ (λ key. keys key s _ _ (λ k. key_reads (Runs.own s.own t k) x t k s));
  }

  -- `put`
  pub puts : (t : List ℕ) (k e : Expr) → Same g bs R Q (Runs.put_of g t k e) (Runs.put_of (with_answers g bs) t k e)
  puts t k e = record {
    at = λ s. values (value_of g s.vars k) s _ _ (λ key. values (value_of g s.vars e) s _ _ (λ value.
        keys key s _ _ (λ k. shorts value s _ _ (λ x. stays (Runs.write_own t k (Some x) s)))));
  }

  -- `drop`
  pub drops : (t : List ℕ) (k : Expr) → Same g bs R Q (Runs.drop_of g t k) (Runs.drop_of (with_answers g bs) t k)
  drops t k = record {
    at = λ s. values (value_of g s.vars k) s _ _ (λ key. keys key s _ _ (λ k. stays (Runs.write_own t k None s)));
  }

  -- `now`
  pub nows : (x : List ℕ) → Same g bs R Q (Runs.now_of g x) (Runs.now_of (with_answers g bs) x)
  nows x = record { at = λ s. stays (set_var x (Int (pos g.inputs.moment)) s) }

  -- a word, or a fault
  draws : (o : Option ℕ) (x : List ℕ) (s : State) → Follows g bs R Q (notes_of s) (Runs.draw o x s) (Runs.draw o x s)
  draws None x s = fails _ s
  draws (Some word) x s = stays (set_var x (Int (pos (word / 2))) (record s { drawn = s.drawn + 1 }))

  -- `random`
  pub randoms : (x : List ℕ) → Same g bs R Q (Runs.random_of g x) (Runs.random_of (with_answers g bs) x)
  randoms x = record { at = λ s. draws (slice_get (Runs.words_of g.inputs) s.drawn) x s }

  -- with a status that a reply may have, or a fault
  statuses : (v : Value) (s : State) (n n' : ℕ → Ended) → ((t : ℕ) → Follows g bs R Q (notes_of s) (n t) (n' t)) → Follows g bs R Q (notes_of s) (Runs.with_status v s n) (Runs.with_status v s n')
  statuses (Int (pos i)) s n n' h = chosen (Runs.is_status i) (notes_of s) _ _ _ _ (h i) (fails _ s)
  statuses (Int (negsuc i)) s n n' h = fails _ s
  statuses (Str t) s n n' h = fails _ s
  statuses Nothing s n n' h = fails _ s

  -- `reply`
  pub replied : (status body : Expr) → Same g bs R Q (Runs.reply_of g status body) (Runs.reply_of (with_answers g bs) status body)
  replied status body = record {
    at = λ s. values (value_of g s.vars status) s _ _ (λ n. values (value_of g s.vars body) s _ _ (λ b.
        statuses n s _ _ (λ n. shorts b s _ _ (λ b. replies (record { status = n; body = b }) s))));
  }

  -- the turns of an `each` over the same cells
  turned : (k t : List ℕ) (b b' : Effect) → Same g bs R Q b b' → (cs : List Cell) → Same g bs R Q (turns k t b cs) (turns k t b' cs)
  turned k t b b' h [] = record { at = λ s. stays s }
  turned k t b b' h (c ∷ cs) = record {
    at = λ s. steps s _ _ (record {
      at = λ u.
          let w = set_var t (Str c.text) (set_var k (Str c.key) u) in
          follow (notes_of u) (b w) (b' w) (turns k t b cs) (turns k t b' cs) (h.at w) (turned k t b b' h cs);
    });
  }

  -- a scan, and what follows
  scans : (t p : List ℕ) (s : State) (n n' : List Cell → Effect) → ((cs : List Cell) → Same g bs R Q (n cs) (n' cs)) → Follows g bs R Q (notes_of s) (with_cells (scan R t p) t p s n) (with_cells (scan Q t p) t p s n')
  scans t p s n n' h =
      reads_same (Scan t p) (scan R t p) (scan Q t p) s _ _ refl (λ e. e)
      (λ cells. record {
        at = λ u. inside (scan_fits cells) u _ _ (inside (scan_fits (laid_over cells t p u)) u _ _ ((h (laid_over cells t p u)).at u));
      })

  -- `each`
  pub eaches : (k t table : List ℕ) (p : Expr) (b b' : Effect) → Same g bs R Q b b' → Same g bs R Q (Runs.each_of g R k t table p b) (Runs.each_of (with_answers g bs) Q k t table p b')
  eaches k t table p b b' h = record {
    at = λ s. values (value_of g s.vars p) s _ _ (λ prefix. texts prefix s _ _ (λ p. inside (nat_le (length p) 256) s _ _
        (scans table p s _ _ (turned k t b b' h))));
  }

  -- either of two choices by a value, or a fault
  chooses : (v : Value) (s : State) (x y x' y' : Ended) → Follows g bs R Q (notes_of s) x x' → Follows g bs R Q (notes_of s) y y' → Follows g bs R Q (notes_of s) (Runs.choose v x y s) (Runs.choose v x' y' s)
  chooses (Int (pos n)) s x y x' y' p q = chosen (nat_eq n 0) (notes_of s) _ _ _ _ q p
  chooses (Int (negsuc n)) s x y x' y' p q = p
  chooses (Str t) s x y x' y' p q = fails _ s
  chooses Nothing s x y x' y' p q = fails _ s

  -- `if`
  pub ifs : (e : Expr) (a a' : Effect) (o o' : Option Effect) → Same g bs R Q a a' → Same g bs R Q (Runs.maybe o) (Runs.maybe o') → Same g bs R Q (Runs.if_of g e a o) (Runs.if_of (with_answers g bs) e a' o')
  ifs e a a' o o' h m = record { at = λ s. values (value_of g s.vars e) s _ _ (λ v. chooses v s _ _ _ _ (h.at s) (m.at s)) }
