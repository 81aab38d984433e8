-- A run of a program keeps the limits of what it calls, writes and answers.
use Rattle.std.proofs.Common.{◌≡◌, ℕ, pos, negsuc, ◌+◌, ◌<◌, ◌≤◌, ◌-◌, ◌^◌, Bool, true, false, ◌||◌, ◌&&◌, not, List, [], ◌∷◌, ◌++◌, map, length, Option, Some, None, Ok, Err, find, nat_le, nat_eq, nat_lt, slice_get, codes, decimal, refl, sym, ap, ◌∙◌, subst, cond, arith}
use Rattle.std.proofs.lemmas.Bool.{and_parts}
use Rattle.std.proofs.lemmas.Bool.Decides.{nat_tests}
use Rattle.std.proofs.lemmas.Fmt.{decimal_digit}
use Rattle.std.specs.List.{AllByRecursion, starts_with}
use Rattle.std.specs.Prelude.{IfSome}
use Rattle.lang_base.specs.Texts.{same_text}
use Rattle.lang_tree.specs.Depths.{Fits, all_fit, block_fits, block_parts_fit, nested, routes_fit, stmt_fits, stmt_parts_fit, expr_fits}
use Rattle.lang_tree.specs.Forms.{is_path, is_word}
use Rattle.lang_tree.specs.declared.expr.Expr.{Expr}
use Rattle.lang_tree.specs.declared.method.Method.{Method}
use Rattle.lang_tree.specs.declared.program.Route.{Route}
use Rattle.lang_tree.specs.declared.stmt.Block.{Block, roll-Block}
use Rattle.lang_tree.specs.declared.stmt.Stmt.{Stmt, map-Stmt, roll-Stmt}
use Rattle.lang_tree.specs.declared.stmt.Stmt.TheFolds.{ind-Block, fold-roll-Stmt, fold-roll-Block}
use Rattle.lang_tree.specs.declared.stmt.Stmt.TheOpen.{Stmt-F, Block-F}
use Rattle.lang_core.specs.Places.{by_order, place_order, set_in}
use Rattle.lang_core.specs.Rows.{get, scan, write_place}
use Rattle.lang_core.specs.declared.cells.Cell.{Cell}
use Rattle.lang_core.specs.declared.inputs.Inputs.{Inputs}
use Rattle.lang_core.specs.declared.request.Request.{Request}
use Rattle.lang_core.specs.declared.request.Response.{Response}
use Rattle.lang_core.specs.declared.setting.Setting.{Setting}
use Rattle.lang_core.specs.declared.trace.CallMade.{CallMade}
use Rattle.lang_core.specs.declared.trace.Read.{Read}
use Rattle.lang_core.specs.declared.trace.Read.TheVariants.{Key, Scan}
use Rattle.lang_core.specs.declared.trace.Trace.{Trace}
use Rattle.lang_core.specs.declared.value.Value.{Value}
use Rattle.lang_core.specs.declared.value.Value.TheVariants.{Int, Str, Nothing}
use Rattle.lang_core.specs.declared.writes.Write.{Write}
use Rattle.std.specs.declared.cmp.Ordering.{Ordering}
use Rattle.std.specs.declared.cmp.Ordering.TheVariants.{Less, Equal, Greater}
use Rattle.lang_values.specs.Paths.{route_matches, route_of, segments_of}
use Rattle.lang_values.specs.Values.{Outcome, value_of, text_or_nothing}
use Rattle.lang_values.specs.declared.given.Fault.{Fault}
use Rattle.lang_values.specs.declared.given.Fault.TheVariants as fault
use Rattle.lang_values.specs.Given.{Given}
use Rattle.handler_run.specs.Handlers.{fault_text, finish, start, given, run_route, run_of}
use Rattle.handler_run.specs.Laws.{IfDone}
use Rattle.handler_run.specs.Runs
use Rattle.handler_run.specs.Runs.{Ended, ended, Effect, goes_on, faulted, go_on, then_do, begin, step, with_value, with_text, within, key_fits, text_fits, with_key, with_short, note_read, reads_fit, noted, set_var, turns, scan_fits, laid_over, with_cells, note_call, answered, take_answer, send_to, call_request, is_loop, call_path_fits, call_at, call_of, act, in_turn, block_step, stmt_of, block_of}
use Rattle.handler_run.specs.declared.state.Flow.{Flow}
use Rattle.handler_run.specs.declared.state.Flow.TheVariants.{GoesOn, Replied, Wants, Faulted}
use Rattle.handler_run.specs.declared.state.State.{State}
use Rattle.dump_laws.specs.Forms.{IsBody, IsResponse}

-- ---- what is kept

-- a call within its limits
pub record IsShortCall (c : CallMade) : Type 0 where
  pub path : is_path c.request.path ≡ true
  pub body : IsBody c.request.body

abbrev pub IsShort : Option (List ℕ) → Type 0
IsShort None = Unit {0}
IsShort (Some text) = IsBody text

-- a write within its limits
pub record IsShortWrite (w : Write) : Type 0 where
  pub table : is_word w.table ≡ true
  pub some : 0 < length w.key
  pub key : length w.key ≤ 256
  pub text : IsShort w.text

record Kept (s : State) : Type 0 where
  calls : AllByRecursion IsShortCall s.calls
  own : AllByRecursion IsShortWrite s.own

abbrev RepliesWell : Flow → Type 0
RepliesWell GoesOn = Unit {0}
RepliesWell (Replied r) = IsResponse r
RepliesWell (Wants c) = Unit {0}
RepliesWell (Faulted f) = Unit {0}

record Stays (e : Ended) : Type 0 where
  kept : Kept e.state
  reply : RepliesWell e.flow

-- from any state that keeps them
record Keeps (e : Effect) : Type 0 where
  at : (s : State) → Kept s → Stays (e s)

stays : (s : State) → Kept s → Stays (goes_on s)
stays s h = record { kept = h; reply = tt }

fails : (f : Fault) (s : State) → Kept s → Stays (faulted f s)
fails f s h = record { kept = h; reply = tt }

chosen : (b : Bool) (x y : Ended) → Stays x → Stays y → Stays (cond b x y)
chosen true x y p q = p
chosen false x y p q = q

-- goes on where this holds
inside_by : (b : Bool) (s : State) (x : Ended) → Kept s → (b ≡ true → Stays x) → Stays (within b s x)
inside_by true s x h p = p refl
inside_by false s x h p = fails _ s h

inside : (b : Bool) (s : State) (x : Ended) → Kept s → Stays x → Stays (within b s x)
inside b s x h p = inside_by b s x h (λ is. p)

values : (o : Outcome) (s : State) (n : Value → Ended) → Kept s → ((v : Value) → Stays (n v)) → Stays (with_value o s n)
values (Ok v) s n h p = p v
values (Err f) s n h p = fails f s h

texts : (v : Value) (s : State) (n : List ℕ → Ended) → Kept s → ((t : List ℕ) → Stays (n t)) → Stays (with_text v s n)
texts (Str t) s n h p = p t
texts (Int i) s n h p = fails _ s h
texts Nothing s n h p = fails _ s h

keys : (v : Value) (s : State) (n : List ℕ → Ended) → Kept s → ((t : List ℕ) → key_fits t ≡ true → Stays (n t)) → Stays (with_key v s n)
keys v s n h p = texts v s _ h (λ k. inside_by (key_fits k) s _ h (p k))

shorts : (v : Value) (s : State) (n : List ℕ → Ended) → Kept s → ((t : List ℕ) → text_fits t ≡ true → Stays (n t)) → Stays (with_short v s n)
shorts v s n h p = texts v s _ h (λ t. inside_by (text_fits t) s _ h (p t))

-- one after the other, by how the first ends
on : (f : Flow) (u : State) (n : Effect) → Stays (ended f u) → Keeps n → Stays (go_on f u n)
on GoesOn u n p q = q.at u p.kept
on (Replied r) u n p q = record { kept = p.kept; reply = p.reply }
on (Wants c) u n p q = record { kept = p.kept; reply = tt }
on (Faulted f) u n p q = record { kept = p.kept; reply = tt }

follow : (e : Ended) (n : Effect) → Stays e → Keeps n → Stays (then_do e n)
follow e n p q = on e.flow e.state n p q

begins : (b : Bool) (s u : State) (n : Effect) → Kept s → Stays (n u) → Stays (begin (cond b (Some u) None) s n)
begins true s u n h p = p
begins false s u n h p = fails _ s h

again : (s : State) → Kept s → Kept (record s { steps = s.steps + 1 })
again s h = record { calls = h.calls; own = h.own }

steps : (s : State) (n : Effect) → Kept s → Keeps n → Stays (step s n)
steps s n h p = begins (nat_lt s.steps 10000) s (record s { steps = s.steps + 1 }) n h (p.at (record s { steps = s.steps + 1 }) (again s h))

read_kept : (r : Read) (s : State) → Kept s → Kept (note_read r s)
read_kept r s h = record { calls = h.calls; own = h.own }

reads : (r : Read) (s : State) (n : Effect) → Kept s → Keeps n → Stays (noted r s n)
reads r s n h p = inside (reads_fit (note_read r s)) (note_read r s) _ (read_kept r s h) (p.at (note_read r s) (read_kept r s h))

-- a variable changes nothing of it
set : (x : List ℕ) (v : Value) (s : State) → Kept s → Stays (goes_on (set_var x v s))
set x v s h = record { kept = record { calls = h.calls; own = h.own }; reply = tt }

-- ---- limits

is_body : (t : List ℕ) → text_fits t ≡ true → IsBody t
is_body t is = grind (arith, nat_tests, is)

key_some : (k : List ℕ) → key_fits k ≡ true → 0 < length k
key_some k is = let both = and_parts (not (nat_eq (length k) 0)) (nat_le (length k) 256) is in grind (arith, nat_tests, both.0)

key_short : (k : List ℕ) → key_fits k ≡ true → length k ≤ 256
key_short k is = let both = and_parts (not (nat_eq (length k) 0)) (nat_le (length k) 256) is in grind (arith, nat_tests, both.1)

-- a write put among others
by_place : (o : Ordering) (a b c : List Write) → AllByRecursion IsShortWrite a → AllByRecursion IsShortWrite b → AllByRecursion IsShortWrite c → AllByRecursion IsShortWrite (by_order o a b c)
by_place Less a b c p q r = p
by_place Equal a b c p q r = q
by_place Greater a b c p q r = r

put_in : (w : Write) (ws : List Write) → IsShortWrite w → AllByRecursion IsShortWrite ws → AllByRecursion IsShortWrite (set_in write_place w ws)
put_in w [] is all = (is, tt)
put_in w (x ∷ ws) is all =
    by_place (place_order (write_place w) (write_place x)) (w ∷ x ∷ ws) (w ∷ ws) (x ∷ set_in write_place w ws) (is, all) (is, all.1) (all.0, put_in w ws is all.1)

written : (t k : List ℕ) (o : Option (List ℕ)) (s : State) → is_word t ≡ true → key_fits k ≡ true → IsShort o → Kept s → Kept (Runs.write_own t k o s)
written t k o s table key short h =
    record {
      calls = h.calls;
      own = put_in (record { table = t; key = k; text = o }) s.own (record { table = table; some = key_some k key; key = key_short k key; text = short }) h.own;
    }

all_and : {X : Type 0} (P : X → Type 0) (xs : List X) (x : X) → AllByRecursion P xs → P x → AllByRecursion P (xs ++ x ∷ [])
all_and P [] x all is = (is, tt)
all_and P (y ∷ xs) x all is = (all.0, all_and P xs x all.1 is)

chosen_by : (b : Bool) (x y : Ended) → (b ≡ true → Stays x) → Stays y → Stays (cond b x y)
chosen_by true x y p q = p refl
chosen_by false x y p q = q

three_first : (a b c : Bool) → ((a && b) && c) ≡ true → a ≡ true
three_first true b c h = refl
three_first false b c h = cc

three_second : (a b c : Bool) → ((a && b) && c) ≡ true → b ≡ true
three_second true true c h = refl
three_second true false c h = cc
three_second false b c h = cc

three_third : (a b c : Bool) → ((a && b) && c) ≡ true → c ≡ true
three_third true true c h = h
three_third true false c h = cc
three_third false b c h = cc

status_small : (n : ℕ) → Runs.is_status n ≡ true → n < 2 ^ 16
status_small n is =
    let most : nat_le n 599 ≡ true = three_second (nat_le 200 n) (nat_le n 599) (not (nat_eq n 204 || nat_eq n 205 || nat_eq n 304)) is in
    let small : n ≤ 599 = grind (arith, nat_tests, most) in
    omega (arith, small)

five_last : (a b c d e : Bool) → ((((a && b) && c) && d) && e) ≡ true → e ≡ true
five_last true true true true e h = h
five_last true true true false e h = cc
five_last true true false d e h = cc
five_last true false c d e h = cc
five_last false b c d e h = cc

un_nested : (zero_left inner : Bool) → cond zero_left false inner ≡ true → inner ≡ true
un_nested true inner h = cc
un_nested false inner h = h

-- ---- statements

module _ (g : Given) where
  lets : (x : List ℕ) (e : Expr) → Keeps (Runs.let_of g x e)
  lets x e = record { at = λ s h. values (value_of g s.vars e) s _ h (λ v. set x v s h) }

  key_reads : (rows : List Cell) (o : Option (Option (List ℕ))) (x t k : List ℕ) (s : State) → Kept s → Stays (Runs.read_or o rows x t k s)
  key_reads rows (Some o) x t k s h = set x (text_or_nothing o) s h
  key_reads rows None x t k s h =
      reads (Key t k (get rows t k)) s _ h (record { at = λ u k'. set x (text_or_nothing (get rows t k)) u k' })

  gets : (rows : List Cell) (x t : List ℕ) (k : Expr) → Keeps (Runs.get_of g rows x t k)
  gets rows x t k = record {
    at = λ s h. values (value_of g s.vars k) s _ h (λ key. keys key s _ h (λ k fits. key_reads rows (Runs.own s.own t k) x t k s h));
  }

  puts : (t : List ℕ) (k e : Expr) → is_word t ≡ true → Keeps (Runs.put_of g t k e)
  puts t k e table = record {
    at = λ s h. values (value_of g s.vars k) s _ h (λ key. values (value_of g s.vars e) s _ h (λ value.
        keys key s _ h (λ k fits. shorts value s _ h (λ x short. stays (Runs.write_own t k (Some x) s) (written t k (Some x) s table fits (is_body x short) h)))));
  }

  drops : (t : List ℕ) (k : Expr) → is_word t ≡ true → Keeps (Runs.drop_of g t k)
  drops t k table = record {
    at = λ s h. values (value_of g s.vars k) s _ h (λ key. keys key s _ h (λ k fits. stays (Runs.write_own t k None s) (written t k None s table fits tt h)));
  }

  nows : (x : List ℕ) → Keeps (Runs.now_of g x)
  nows x = record { at = λ s h. set x (Int (pos g.inputs.moment)) s h }

  draws : (o : Option ℕ) (x : List ℕ) (s : State) → Kept s → Stays (Runs.draw o x s)
  draws None x s h = fails _ s h
  draws (Some word) x s h = record { kept = record { calls = h.calls; own = h.own }; reply = tt }

  randoms : (x : List ℕ) → Keeps (Runs.random_of g x)
  randoms x = record { at = λ s h. draws (slice_get (Runs.words_of g.inputs) s.drawn) x s h }

  statuses : (v : Value) (s : State) (n : ℕ → Ended) → Kept s → ((t : ℕ) → Runs.is_status t ≡ true → Stays (n t)) → Stays (Runs.with_status v s n)
  statuses (Int (pos i)) s n h p = chosen_by (Runs.is_status i) _ _ (p i) (fails _ s h)
  statuses (Int (negsuc i)) s n h p = fails _ s h
  statuses (Str t) s n h p = fails _ s h
  statuses Nothing s n h p = fails _ s h

  replied : (status body : Expr) → Keeps (Runs.reply_of g status body)
  replied status body = record {
    at = λ s h. values (value_of g s.vars status) s _ h (λ n. values (value_of g s.vars body) s _ h (λ b.
        statuses n s _ h (λ n good. shorts b s _ h (λ b short. record { kept = h; reply = record { status = status_small n good; body = is_body b short } }))));
  }

  turned : (k t : List ℕ) (b : Effect) → Keeps b → (cs : List Cell) → Keeps (turns k t b cs)
  turned k t b p [] = record { at = λ s h. stays s h }
  turned k t b p (c ∷ cs) = record {
    at = λ s h. steps s _ h (record {
      at = λ u k'.
          let w = set_var t (Str c.text) (set_var k (Str c.key) u) in
          follow (b w) (turns k t b cs) (p.at w (record { calls = k'.calls; own = k'.own })) (turned k t b p cs);
    });
  }

  scans : (rows : List Cell) (t p : List ℕ) (s : State) (n : List Cell → Effect) → Kept s → ((cs : List Cell) → Keeps (n cs)) → Stays (with_cells (scan rows t p) t p s n)
  scans rows t p s n h q =
      let cells = scan rows t p in
      reads (Scan t p cells) s _ h (record {
        at = λ u k. inside (scan_fits cells) u _ k (inside (scan_fits (laid_over cells t p u)) u _ k ((q (laid_over cells t p u)).at u k));
      })

  eaches : (rows : List Cell) (k t table : List ℕ) (p : Expr) (b : Effect) → Keeps b → Keeps (Runs.each_of g rows k t table p b)
  eaches rows k t table p b q = record {
    at = λ s h. values (value_of g s.vars p) s _ h (λ prefix. texts prefix s _ h (λ p. inside (nat_le (length p) 256) s _ h
        (scans rows table p s _ h (turned k t b q))));
  }

  chooses : (v : Value) (s : State) (x y : Ended) → Kept s → Stays x → Stays y → Stays (Runs.choose v x y s)
  chooses (Int (pos n)) s x y h p q = chosen (nat_eq n 0) _ _ q p
  chooses (Int (negsuc n)) s x y h p q = p
  chooses (Str t) s x y h p q = fails _ s h
  chooses Nothing s x y h p q = fails _ s h

  ifs : (e : Expr) (a : Effect) (o : Option Effect) → Keeps a → Keeps (Runs.maybe o) → Keeps (Runs.if_of g e a o)
  ifs e a o p q = record { at = λ s h. values (value_of g s.vars e) s _ h (λ v. chooses v s _ _ h (p.at s h) (q.at s h)) }

  -- ---- calls

  told : (x y : List ℕ) (r : Response) (s : State) → Kept s → Stays (goes_on (answered x y r s))
  told x y r s h = record { kept = record { calls = h.calls; own = h.own }; reply = tt }

  takes : (o : Option Response) (x y : List ℕ) (c : CallMade) (s : State) → IsShortCall c → Kept s → Stays (take_answer o x y c s)
  takes None x y c s short h = record { kept = h; reply = tt }
  takes (Some r) x y c s short h = told x y r (note_call c r s) (record { calls = all_and IsShortCall s.calls c h.calls short; own = h.own })

  sends : (o : Option (List ℕ)) (x y : List ℕ) (m : Method) (path body : List ℕ) (s : State) → is_path path ≡ true → IsBody body → Kept s → Stays (send_to o g x y m path body s)
  sends None x y m path body s good short h = told x y (record { status = 502; body = [] }) s h
  sends (Some peer) x y m path body s good short h =
      let c : CallMade = record { dest = peer; request = call_request g m path body } in
      inside (nat_lt (length s.calls) 16) s _ h (takes (slice_get g.answers (length s.calls)) x y c s (record { path = good; body = short }) h)

  calls_at : (x y : List ℕ) (dest : Value) (m : Method) (path body : Value) (s : State) → Kept s → Stays (call_at g x y dest m path body s)
  calls_at x y dest m path body s h =
      texts dest s _ h (λ d. texts path s _ h (λ p. inside_by (call_path_fits p) s _ h (λ fits. shorts body s _ h (λ b short.
      chosen (is_loop g d) _ _ (told x y (record { status = 508; body = [] }) s h)
      (sends (find (λ name. same_text name d) g.peers) x y m p b s (and_parts (is_path p) (not (starts_with nat_eq p (codes "/aire/"))) fits).0 (is_body b short) h)))))

  calls : (x y : List ℕ) (d : Expr) (m : Method) (p b : Expr) → Keeps (call_of g x y d m p b)
  calls x y d m p b = record {
    at = λ s h. values (value_of g s.vars d) s _ h (λ dest. values (value_of g s.vars p) s _ h (λ path.
        values (value_of g s.vars b) s _ h (λ body. calls_at x y dest m path body s h)));
  }

-- ---- by induction on the tree

module _ (g : Given) (R : List Cell) where
  KeepsStmt : Stmt → Type 0
  KeepsStmt s = (most : ℕ) → stmt_fits s most ≡ true → Keeps (stmt_of g R s)

  KeepsBlock : Block → Type 0
  KeepsBlock b = (most : ℕ) → block_fits b most ≡ true → Keeps (block_of g R b)

  -- a statement and a block for which it holds
  abbrev S : Type 0
  S = (s : Stmt) × KeepsStmt s

  abbrev B : Type 0
  B = (b : Block) × KeepsBlock b

  -- a layer with the effects of its parts, and with whether they are of their forms
  abbrev seen : Stmt-F Stmt Block → Stmt-F Effect Effect
  seen x = map-Stmt Stmt Block Effect Effect (stmt_of g R) (block_of g R) x

  abbrev formed : Stmt-F Stmt Block → Stmt-F Fits Fits
  formed x = map-Stmt Stmt Block Fits Fits stmt_fits block_fits x

  -- a layer without what is known of its parts
  abbrev bare : Stmt-F S B → Stmt-F Stmt Block
  bare y = map-Stmt S B Stmt Block (λ e. e.0) (λ e. e.0) y

  acts : (y : Stmt-F S B) (most : ℕ) → stmt_parts_fit (formed (bare y)) most ≡ true → Keeps (act g R (seen (bare y)))
  unfolding KeepsStmt KeepsBlock
  acts (Stmt-F.Let x e) most fits = lets g x e
  acts (Stmt-F.Get x t k) most fits = gets g R x t k
  acts (Stmt-F.Put t k e) most fits = puts g t k e (three_first (is_word t) (expr_fits k) (expr_fits e) fits)
  acts (Stmt-F.Drop t k) most fits = drops g t k (and_parts (is_word t) (expr_fits k) fits).0
  acts (Stmt-F.Each k t table p b) most fits =
      eaches g R k t table p _ (b.1 most (five_last (is_word k) (is_word t) (is_word table) (expr_fits p) (block_fits b.0 most) fits))
  acts (Stmt-F.If e b None) most fits = ifs g e _ None (b.1 most (three_second (expr_fits e) (block_fits b.0 most) true fits)) (record { at = λ s h. stays s h })
  acts (Stmt-F.If e b (Some c)) most fits =
      ifs g e _ (Some (block_of g R c.0)) (b.1 most (three_second (expr_fits e) (block_fits b.0 most) (block_fits c.0 most) fits))
      (record { at = λ s h. (c.1 most (three_third (expr_fits e) (block_fits b.0 most) (block_fits c.0 most) fits)).at s h })
  acts (Stmt-F.Call x y d m p b) most fits = calls g x y d m p b
  acts (Stmt-F.Now x) most fits = nows g x
  acts (Stmt-F.Random x) most fits = randoms g x
  acts (Stmt-F.Reply status body) most fits = replied g status body

  in_turns : (z : List S) (most : ℕ) → all_fit (map stmt_fits (map (λ e. e.0) z)) most ≡ true → Keeps (in_turn (map (stmt_of g R) (map (λ e. e.0) z)))
  unfolding KeepsStmt
  in_turns [] most fits = record { at = λ s h. stays s h }
  in_turns (e ∷ z) most fits =
      let both = and_parts (stmt_fits e.0 most) (all_fit (map stmt_fits (map (λ e. e.0) z)) most) fits in
      record { at = λ s h. steps s _ h (record { at = λ u k. follow _ _ ((e.1 most both.0).at u k) (in_turns z most both.1) }) }

  from_layer : (x : Stmt-F Stmt Block) → ((most : ℕ) → stmt_parts_fit (formed x) most ≡ true → Keeps (act g R (seen x))) → KeepsStmt (roll-Stmt x)
  unfolding KeepsStmt
  from_layer x h most fits =
      subst (λ e. Keeps e) (sym (fold-roll-Stmt Effect Effect (act g R) block_step x))
      (h most (sym (ap (λ (f : Fits). f most) (fold-roll-Stmt Fits Fits stmt_parts_fit block_parts_fit x)) ∙ fits))

  from_row : (x : Block-F Stmt Block) → ((most : ℕ) → all_fit (map stmt_fits x.stmts) most ≡ true → Keeps (in_turn (map (stmt_of g R) x.stmts))) → KeepsBlock (roll-Block x)
  unfolding KeepsBlock
  from_row x h most fits =
      let inner : nested (all_fit (map stmt_fits x.stmts)) most ≡ true = sym (ap (λ (f : Fits). f most) (fold-roll-Block Fits Fits stmt_parts_fit block_parts_fit x)) ∙ fits in
      subst (λ e. Keeps e) (sym (fold-roll-Block Effect Effect (act g R) block_step x))
      (h (most - 1) (un_nested (nat_eq most 0) (all_fit (map stmt_fits x.stmts) (most - 1)) inner))

  all_blocks : (b : Block) → KeepsBlock b
  unfolding KeepsBlock
  all_blocks = ind-Block KeepsStmt KeepsBlock
      (λ x y is. from_layer x (subst (λ x. (most : ℕ) → stmt_parts_fit (formed x) most ≡ true → Keeps (act g R (seen x))) is (acts y)))
      (λ x y is. from_row x (subst (λ (x : Block-F Stmt Block). (most : ℕ) → all_fit (map stmt_fits x.stmts) most ≡ true → Keeps (in_turn (map (stmt_of g R) x.stmts))) is (in_turns y.stmts)))

  block_keeps : (b : Block) (most : ℕ) → block_fits b most ≡ true → Keeps (block_of g R b)
  unfolding KeepsBlock
  block_keeps b most fits = all_blocks b most fits

-- ---- a run

-- what a run did keeps its limits
pub record IsShortTrace (t : Trace) : Type 0 where
  pub calls : AllByRecursion IsShortCall t.calls
  pub writes : AllByRecursion IsShortWrite t.writes
  pub response : IsResponse t.response

numbered_short : (n : ℕ) → n < 10 → IsBody (codes "fault " ++ decimal n)
numbered_short n small = rw (decimal_digit n small) (omega arith)

fault_short : (f : Fault) → IsBody (fault_text f)
fault_short fault.Steps = numbered_short 1 (omega arith)
fault_short fault.Range = numbered_short 2 (omega arith)
fault_short fault.Kind = numbered_short 3 (omega arith)
fault_short fault.Limit = numbered_short 4 (omega arith)
fault_short fault.Words = numbered_short 5 (omega arith)

finished : (f : Flow) (s : State) → Stays (ended f s) → IfDone (finish f s) IsShortTrace
finished GoesOn s h = record { calls = h.kept.calls; writes = h.kept.own; response = record { status = omega arith; body = omega arith } }
finished (Replied r) s h = record { calls = h.kept.calls; writes = h.kept.own; response = h.reply }
finished (Wants c) s h = tt
finished (Faulted f) s h = record { calls = h.kept.calls; writes = tt; response = record { status = omega arith; body = fault_short f } }

route_by : (b : Bool) (r : Route) (later : Option Route) → block_fits r.block 32 ≡ true → IfSome later (λ x. block_fits x.block 32 ≡ true) → IfSome (cond b (Some r) later) (λ x. block_fits x.block 32 ≡ true)
route_by true r later fits more = fits
route_by false r later fits more = more

route_fits : (p : Route → Bool) (routes : List Route) → routes_fit routes ≡ true → IfSome (find p routes) (λ r. block_fits r.block 32 ≡ true)
route_fits p [] fits = tt
route_fits p (r ∷ routes) fits =
    route_by (p r) r (find p routes) (three_second (is_path r.pattern) (block_fits r.block 32) (routes_fit routes) fits) (route_fits p routes (three_third (is_path r.pattern) (block_fits r.block 32) (routes_fit routes) fits))

routed : (g : Given) (rows : List Cell) (o : Option Route) → IfSome o (λ r. block_fits r.block 32 ≡ true) → IfDone (run_route o g rows) IsShortTrace
routed g rows None fits = record { calls = tt; writes = tt; response = record { status = omega arith; body = omega arith } }
routed g rows (Some r) fits =
    let e = block_of g rows r.block start in
    finished e.flow e.state ((block_keeps g rows r.block 32 fits).at start (record { calls = tt; own = tt }))

-- a run of a program that is of its forms keeps its limits
pub runs_short : (s : Setting) (q : Request) (i : Inputs) (answers : List Response) (rows : List Cell) → routes_fit s.program ≡ true → IfDone (run_of s q i answers rows) IsShortTrace
runs_short s q i answers rows fits = routed (given s q i answers) rows (route_of s.program q.method (segments_of q.path)) (route_fits (route_matches q.method (segments_of q.path)) s.program fits)
