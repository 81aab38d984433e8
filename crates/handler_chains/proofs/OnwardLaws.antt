-- AllByRecursion call of a run hands on who called for its request, the service itself last, and goes to a peer that is none of these.
use Rattle.std.proofs.Common.{◌≡◌, ℕ, pos, negsuc, ◌+◌, ◌/◌, Bool, true, false, ◌||◌, List, [], ◌∷◌, map, length, Option, Some, None, Ok, Err, find, nat_le, nat_eq, nat_lt, slice_get, refl, sym, ◌∙◌, subst, cond}
use Rattle.std.proofs.lemmas.Bool.{or_parts}
use Rattle.std.specs.List.{AllByRecursion}
use Rattle.std.proofs.lemmas.List.Folds.{list_any-append}
use Rattle.lang_base.specs.Texts.{same_text}
use Rattle.lang_tree.specs.declared.expr.Expr.{Expr}
use Rattle.lang_tree.specs.declared.method.Method.{Method}
use Rattle.lang_tree.specs.declared.program.Route.{Route}
use Rattle.lang_tree.specs.declared.stmt.Block.{Block, roll-Block}
use Rattle.lang_tree.specs.declared.stmt.Stmt.{Stmt, map-Stmt, roll-Stmt}
use Rattle.lang_tree.specs.declared.stmt.Stmt.TheFolds.{ind-Block, fold-roll-Stmt, fold-roll-Block}
use Rattle.lang_tree.specs.declared.stmt.Stmt.TheOpen.{Stmt-F, Block-F}
use Rattle.lang_core.specs.Rows.{get, scan}
use Rattle.lang_core.specs.declared.cells.Cell.{Cell}
use Rattle.lang_core.specs.declared.inputs.Inputs.{Inputs}
use Rattle.lang_core.specs.declared.request.Request.{Request}
use Rattle.lang_core.specs.declared.request.Response.{Response}
use Rattle.lang_core.specs.declared.setting.Setting.{Setting}
use Rattle.lang_core.specs.declared.trace.CallMade.{CallMade}
use Rattle.lang_core.specs.declared.trace.Read.{Read}
use Rattle.lang_core.specs.declared.trace.Read.TheVariants.{Key, Scan}
use Rattle.lang_core.specs.declared.value.Value.{Value}
use Rattle.lang_core.specs.declared.value.Value.TheVariants.{Int, Str, Nothing}
use Rattle.lang_values.specs.Paths.{route_of, segments_of}
use Rattle.lang_values.specs.Values.{Outcome, value_of, text_or_nothing}
use Rattle.lang_values.specs.declared.given.Fault.{Fault}
use Rattle.lang_values.specs.Given.{Given}
use Rattle.handler_run.specs.Handlers.{finish, start, given, run_route, run_of}
use Rattle.handler_run.specs.Runs
use Rattle.handler_run.specs.Runs.{Ended, ended, Effect, goes_on, faulted, go_on, then_do, begin, step, with_value, with_text, within, key_fits, text_fits, with_key, with_short, note_read, reads_fit, noted, set_var, turns, scan_fits, laid_over, with_cells, note_call, answered, take_answer, send_to, call_request, is_loop, call_path_fits, call_at, call_of, act, in_turn, block_step, stmt_of, block_of}
use Rattle.handler_run.specs.declared.state.Flow.{Flow}
use Rattle.handler_run.specs.declared.state.Flow.TheVariants.{GoesOn, Replied, Wants, Faulted}
use Rattle.handler_run.specs.declared.state.State.{State}
use Rattle.handler_chains.specs.Onward.{IsOnward, calls_in, chain_behind, is_among}
use Rattle.handler_chains.proofs.Finding.{all_append, found, found_in, text_is}

either : (a b : Bool) → a ≡ false → b ≡ false → (b || (a || false)) ≡ false
either true b h k = cc
either false true h k = cc
either false false h k = refl

-- what is no loop isn't in the chain behind
not_among : (g : Given) (dest : List ℕ) → is_loop g dest ≡ false → is_among dest (chain_behind g.me g.request) ≡ false
not_among g dest h =
    let parts = or_parts (same_text g.me dest) (is_among dest g.request.chain) h in
    list_any-append (λ n. same_text n dest) g.request.chain (g.me ∷ []) ∙ either (same_text g.me dest) (is_among dest g.request.chain) parts.0 parts.1

module _ (g : Given) where
  -- a call made for the request
  abbrev Ours : CallMade → Type 0
  Ours c = IsOnward g.me g.peers g.request c

  abbrev WantsOurs : Flow → Type 0
  WantsOurs GoesOn = Unit {0}
  WantsOurs (Replied r) = Unit {0}
  WantsOurs (Wants c) = Ours c
  WantsOurs (Faulted f) = Unit {0}

  -- the calls at the end, and the one that is wanted there, are made for the request
  record Stays (e : Ended) : Type 0 where
    calls : AllByRecursion Ours e.state.calls
    wanted : WantsOurs e.flow

  -- from any state whose calls are
  record Keeps (e : Effect) : Type 0 where
    at : (s : State) → AllByRecursion Ours s.calls → Stays (e s)

module _ {g : Given} where
  stays : (s : State) → AllByRecursion (Ours g) s.calls → Stays g (goes_on s)
  stays s h = record { calls = h; wanted = tt }

  fails : (f : Fault) (s : State) → AllByRecursion (Ours g) s.calls → Stays g (faulted f s)
  fails f s h = record { calls = h; wanted = tt }

  chosen : (b : Bool) (x y : Ended) → Stays g x → Stays g y → Stays g (cond b x y)
  chosen true x y p q = p
  chosen false x y p q = q

  inside : (b : Bool) (s : State) (x : Ended) → AllByRecursion (Ours g) s.calls → Stays g x → Stays g (within b s x)
  inside b s x h p = chosen b x _ p (fails _ s h)

  values : (o : Outcome) (s : State) (n : Value → Ended) → AllByRecursion (Ours g) s.calls → ((v : Value) → Stays g (n v)) → Stays g (with_value o s n)
  values (Ok v) s n h p = p v
  values (Err f) s n h p = fails f s h

  texts : (v : Value) (s : State) (n : List ℕ → Ended) → AllByRecursion (Ours g) s.calls → ((t : List ℕ) → Stays g (n t)) → Stays g (with_text v s n)
  texts (Str t) s n h p = p t
  texts (Int i) s n h p = fails _ s h
  texts Nothing s n h p = fails _ s h

  keys : (v : Value) (s : State) (n : List ℕ → Ended) → AllByRecursion (Ours g) s.calls → ((t : List ℕ) → Stays g (n t)) → Stays g (with_key v s n)
  keys v s n h p = texts v s _ h (λ k. inside (key_fits k) s _ h (p k))

  shorts : (v : Value) (s : State) (n : List ℕ → Ended) → AllByRecursion (Ours g) s.calls → ((t : List ℕ) → Stays g (n t)) → Stays g (with_short v s n)
  shorts v s n h p = texts v s _ h (λ t. inside (text_fits t) s _ h (p t))

  -- one after the other, by how the first ends
  on : (f : Flow) (u : State) (n : Effect) → Stays g (ended f u) → Keeps g n → Stays g (go_on f u n)
  on GoesOn u n p q = q.at u p.calls
  on (Replied r) u n p q = record { calls = p.calls; wanted = tt }
  on (Wants c) u n p q = record { calls = p.calls; wanted = p.wanted }
  on (Faulted f) u n p q = record { calls = p.calls; wanted = tt }

  follow : (e : Ended) (n : Effect) → Stays g e → Keeps g n → Stays g (then_do e n)
  follow e n p q = on e.flow e.state n p q

  begins : (b : Bool) (s u : State) (n : Effect) → AllByRecursion (Ours g) s.calls → Stays g (n u) → Stays g (begin (cond b (Some u) None) s n)
  begins true s u n h p = p
  begins false s u n h p = fails _ s h

  steps : (s : State) (n : Effect) → AllByRecursion (Ours g) s.calls → Keeps g n → Stays g (step s n)
  steps s n h p = begins (nat_lt s.steps 10000) s (record s { steps = s.steps + 1 }) n h (p.at (record s { steps = s.steps + 1 }) h)

  reads : (r : Read) (s : State) (n : Effect) → AllByRecursion (Ours g) s.calls → Keeps g n → Stays g (noted r s n)
  reads r s n h p = inside (reads_fit (note_read r s)) (note_read r s) _ h (p.at (note_read r s) h)

  -- ---- statements

  lets : (x : List ℕ) (e : Expr) → Keeps g (Runs.let_of g x e)
  lets x e = record { at = λ s h. values (value_of g s.vars e) s _ h (λ v. stays (set_var x v s) h) }

  key_reads : (rows : List Cell) (o : Option (Option (List ℕ))) (x t k : List ℕ) (s : State) → AllByRecursion (Ours g) s.calls → Stays g (Runs.read_or o rows x t k s)
  key_reads rows (Some o) x t k s h = stays (set_var x (text_or_nothing o) s) h
  key_reads rows None x t k s h =
      reads (Key t k (get rows t k)) s _ h (record { at = λ u k'. stays (set_var x (text_or_nothing (get rows t k)) u) k' })

  gets : (rows : List Cell) (x t : List ℕ) (k : Expr) → Keeps g (Runs.get_of g rows x t k)
  gets rows x t k = record {
    at = λ s h. values (value_of g s.vars k) s _ h (λ key. keys key s _ h (λ k. key_reads rows (Runs.own s.own t k) x t k s h));
  }

  puts : (t : List ℕ) (k e : Expr) → Keeps g (Runs.put_of g t k e)
  puts t k e = record {
    at = λ s h. values (value_of g s.vars k) s _ h (λ key. values (value_of g s.vars e) s _ h (λ value.
        keys key s _ h (λ k. shorts value s _ h (λ x. stays (Runs.write_own t k (Some x) s) h))));
  }

  drops : (t : List ℕ) (k : Expr) → Keeps g (Runs.drop_of g t k)
  drops t k = record {
    at = λ s h. values (value_of g s.vars k) s _ h (λ key. keys key s _ h (λ k. stays (Runs.write_own t k None s) h));
  }

  nows : (x : List ℕ) → Keeps g (Runs.now_of g x)
  nows x = record { at = λ s h. stays (set_var x (Int (pos g.inputs.moment)) s) h }

  draws : (o : Option ℕ) (x : List ℕ) (s : State) → AllByRecursion (Ours g) s.calls → Stays g (Runs.draw o x s)
  draws None x s h = fails _ s h
  draws (Some word) x s h = stays (set_var x (Int (pos (word / 2))) (record s { drawn = s.drawn + 1 })) h

  randoms : (x : List ℕ) → Keeps g (Runs.random_of g x)
  randoms x = record { at = λ s h. draws (slice_get (Runs.words_of g.inputs) s.drawn) x s h }

  statuses : (v : Value) (s : State) (n : ℕ → Ended) → AllByRecursion (Ours g) s.calls → ((t : ℕ) → Stays g (n t)) → Stays g (Runs.with_status v s n)
  statuses (Int (pos i)) s n h p = chosen (Runs.is_status i) _ _ (p i) (fails _ s h)
  statuses (Int (negsuc i)) s n h p = fails _ s h
  statuses (Str t) s n h p = fails _ s h
  statuses Nothing s n h p = fails _ s h

  replied : (status body : Expr) → Keeps g (Runs.reply_of g status body)
  replied status body = record {
    at = λ s h. values (value_of g s.vars status) s _ h (λ n. values (value_of g s.vars body) s _ h (λ b.
        statuses n s _ h (λ n. shorts b s _ h (λ b. record { calls = h; wanted = tt }))));
  }

  turned : (k t : List ℕ) (b : Effect) → Keeps g b → (cs : List Cell) → Keeps g (turns k t b cs)
  turned k t b p [] = record { at = λ s h. stays s h }
  turned k t b p (c ∷ cs) = record {
    at = λ s h. steps s _ h (record {
      at = λ u k'.
          let w = set_var t (Str c.text) (set_var k (Str c.key) u) in
          follow (b w) (turns k t b cs) (p.at w k') (turned k t b p cs);
    });
  }

  scans : (rows : List Cell) (t p : List ℕ) (s : State) (n : List Cell → Effect) → AllByRecursion (Ours g) s.calls → ((cs : List Cell) → Keeps g (n cs)) → Stays g (with_cells (scan rows t p) t p s n)
  scans rows t p s n h q =
      let cells = scan rows t p in
      reads (Scan t p cells) s _ h (record {
        at = λ u k. inside (scan_fits cells) u _ k (inside (scan_fits (laid_over cells t p u)) u _ k ((q (laid_over cells t p u)).at u k));
      })

  eaches : (rows : List Cell) (k t table : List ℕ) (p : Expr) (b : Effect) → Keeps g b → Keeps g (Runs.each_of g rows k t table p b)
  eaches rows k t table p b q = record {
    at = λ s h. values (value_of g s.vars p) s _ h (λ prefix. texts prefix s _ h (λ p. inside (nat_le (length p) 256) s _ h
        (scans rows table p s _ h (turned k t b q))));
  }

  chooses : (v : Value) (s : State) (x y : Ended) → AllByRecursion (Ours g) s.calls → Stays g x → Stays g y → Stays g (Runs.choose v x y s)
  chooses (Int (pos n)) s x y h p q = chosen (nat_eq n 0) _ _ q p
  chooses (Int (negsuc n)) s x y h p q = p
  chooses (Str t) s x y h p q = fails _ s h
  chooses Nothing s x y h p q = fails _ s h

  ifs : (e : Expr) (a : Effect) (o : Option Effect) → Keeps g a → Keeps g (Runs.maybe o) → Keeps g (Runs.if_of g e a o)
  ifs e a o p q = record { at = λ s h. values (value_of g s.vars e) s _ h (λ v. chooses v s _ _ h (p.at s h) (q.at s h)) }

  -- ---- calls

  takes : (o : Option Response) (x y : List ℕ) (c : CallMade) (s : State) → Ours g c → AllByRecursion (Ours g) s.calls → Stays g (take_answer o x y c s)
  takes None x y c s ours h = record { calls = h; wanted = ours }
  takes (Some r) x y c s ours h = stays (answered x y r (note_call c r s)) (all_append (Ours g) s.calls (c ∷ []) h (ours, tt))

  sends : (o : Option (List ℕ)) (x y dest : List ℕ) (m : Method) (path body : List ℕ) (s : State) → is_loop g dest ≡ false
      → find (λ name. same_text name dest) g.peers ≡ o → AllByRecursion (Ours g) s.calls → Stays g (send_to o g x y m path body s)
  sends None x y dest m path body s none e h = stays (answered x y (record { status = 502; body = [] }) s) h
  sends (Some peer) x y dest m path body s none e h =
      let there = found (λ name. same_text name dest) g.peers peer e in
      let named : peer ≡ dest = text_is peer dest there.passes in
      let c : CallMade = record { dest = peer; request = call_request g m path body } in
      let P : List ℕ → Type 0 = λ d. is_among d (chain_behind g.me g.request) ≡ false in
      let ours : Ours g c = record { who = refl; chain = refl; fresh = subst P (sym named) (not_among g dest none); peer = found_in (λ name. same_text name dest) g.peers peer e } in
      inside (nat_lt (length s.calls) 16) s _ h (takes (slice_get g.answers (length s.calls)) x y c s ours h)

  calls_to : (b : Bool) (x y dest : List ℕ) (m : Method) (path body : List ℕ) (s : State) → is_loop g dest ≡ b → AllByRecursion (Ours g) s.calls
      → Stays g (cond b (goes_on (answered x y (record { status = 508; body = [] }) s)) (send_to (find (λ name. same_text name dest) g.peers) g x y m path body s))
  calls_to true x y dest m path body s e h = stays (answered x y (record { status = 508; body = [] }) s) h
  calls_to false x y dest m path body s e h = sends (find (λ name. same_text name dest) g.peers) x y dest m path body s e refl h

  calls_at : (x y : List ℕ) (dest : Value) (m : Method) (path body : Value) (s : State) → AllByRecursion (Ours g) s.calls → Stays g (call_at g x y dest m path body s)
  calls_at x y dest m path body s h =
      texts dest s _ h (λ d. texts path s _ h (λ p. inside (call_path_fits p) s _ h (shorts body s _ h (λ b. calls_to (is_loop g d) x y d m p b s refl h))))

  calls : (x y : List ℕ) (d : Expr) (m : Method) (p b : Expr) → Keeps g (call_of g x y d m p b)
  calls x y d m p b = record {
    at = λ s h. values (value_of g s.vars d) s _ h (λ dest. values (value_of g s.vars p) s _ h (λ path.
        values (value_of g s.vars b) s _ h (λ body. calls_at x y dest m path body s h)));
  }

-- ---- by induction on the tree

module _ (g : Given) (R : List Cell) where
  KeepsStmt : Stmt → Type 0
  KeepsStmt s = Keeps g (stmt_of g R s)

  KeepsBlock : Block → Type 0
  KeepsBlock b = Keeps g (block_of g R b)

  -- a statement for which it holds
  abbrev S : Type 0
  S = (s : Stmt) × KeepsStmt s

  -- a block for which it holds
  abbrev B : Type 0
  B = (b : Block) × KeepsBlock b

  -- a layer with the effects of its parts
  abbrev seen : Stmt-F Stmt Block → Stmt-F Effect Effect
  seen x = map-Stmt Stmt Block Effect Effect (stmt_of g R) (block_of g R) x

  -- a layer without what is known of its parts
  abbrev bare : Stmt-F S B → Stmt-F Stmt Block
  bare y = map-Stmt S B Stmt Block (λ e. e.0) (λ e. e.0) y

  acts : (y : Stmt-F S B) → Keeps g (act g R (seen (bare y)))
  unfolding KeepsStmt KeepsBlock
  acts (Stmt-F.Let x e) = lets x e
  acts (Stmt-F.Get x t k) = gets R x t k
  acts (Stmt-F.Put t k e) = puts t k e
  acts (Stmt-F.Drop t k) = drops t k
  acts (Stmt-F.Each k t table p b) = eaches R k t table p _ b.1
  acts (Stmt-F.If e b None) = ifs e _ None b.1 (record { at = λ s h. stays s h })
  acts (Stmt-F.If e b (Some c)) = ifs e _ (Some (block_of g R c.0)) b.1 (record { at = λ s h. c.1.at s h })
  acts (Stmt-F.Call x y d m p b) = calls x y d m p b
  acts (Stmt-F.Now x) = nows x
  acts (Stmt-F.Random x) = randoms x
  acts (Stmt-F.Reply status body) = replied status body

  in_turns : (z : List S) → Keeps g (in_turn (map (stmt_of g R) (map (λ e. e.0) z)))
  unfolding KeepsStmt
  in_turns [] = record { at = λ s h. stays s h }
  in_turns (e ∷ z) = record { at = λ s h. steps s _ h (record { at = λ u k. follow _ _ (e.1.at u k) (in_turns z) }) }

  from_layer : (x : Stmt-F Stmt Block) → Keeps g (act g R (seen x)) → KeepsStmt (roll-Stmt x)
  unfolding KeepsStmt
  from_layer x h = subst (λ e. Keeps g e) (sym (fold-roll-Stmt Effect Effect (act g R) block_step x)) h

  from_row : (x : Block-F Stmt Block) → Keeps g (in_turn (map (stmt_of g R) x.stmts)) → KeepsBlock (roll-Block x)
  unfolding KeepsBlock
  from_row x h = subst (λ e. Keeps g e) (sym (fold-roll-Block Effect Effect (act g R) block_step x)) h

  all_blocks : (b : Block) → Keeps g (block_of g R b)
  unfolding KeepsBlock
  all_blocks = ind-Block KeepsStmt KeepsBlock
      (λ x y is. from_layer x (subst (λ x. Keeps g (act g R (seen x))) is (acts y)))
      (λ x y is. from_row x (subst (λ (x : Block-F Stmt Block). Keeps g (in_turn (map (stmt_of g R) x.stmts))) is (in_turns y.stmts)))

-- ---- a run

finished : (g : Given) (f : Flow) (s : State) → Stays g (ended f s) → AllByRecursion (Ours g) (calls_in (finish f s))
finished g GoesOn s h = h.calls
finished g (Replied r) s h = h.calls
finished g (Wants c) s h = all_append (Ours g) s.calls (c ∷ []) h.calls (h.wanted, tt)
finished g (Faulted f) s h = h.calls

routed : (g : Given) (rows : List Cell) (o : Option Route) → AllByRecursion (Ours g) (calls_in (run_route o g rows))
routed g rows None = tt
routed g rows (Some r) =
    let e = block_of g rows r.block start in
    finished g e.flow e.state ((all_blocks g rows r.block).at start tt)

pub calls_onward : (s : Setting) (q : Request) (i : Inputs) (answers : List Response) (rows : List Cell) → AllByRecursion (IsOnward s.me s.peers q) (calls_in (run_of s q i answers rows))
calls_onward s q i answers rows = routed (given s q i answers) rows (route_of s.program q.method (segments_of q.path))
