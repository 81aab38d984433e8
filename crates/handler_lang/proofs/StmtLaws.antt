-- The laws of reading statements, blocks and routes, form by form.
use Rattle.std.proofs.Common.{◌≡◌, ℕ, zero, suc, true, List, [], ◌∷◌, ◌++◌, map, Option, Some, None, Result, Ok, Err, refl, ap, subst, ◌∙◌, append_assoc, inl, inr}
use Rattle.std.specs.Prelude.{◌&&◌}
use Rattle.std.proofs.lemmas.List.{append-nil}
use Rattle.lang_reader.specs.Reading.{◌>>=◌, bound, gives}
use Rattle.lang_reader.proofs.Laws.{Begun, Completes, SameFirst, StopsFirst, laws_as, laws_end, laws_head, laws_none, laws_none_left, laws_one, laws_stop, reads_bound, reads_given, reads_marked}
use Rattle.lang_tokens.specs.declared.token.Token.{Token}
use Rattle.lang_tokens.specs.declared.token.Token.TheVariants as token
use Rattle.lang_tokens.proofs.KeptLemmas.{AreKept}
use Rattle.lang_tree.specs.Depths.{all_fit, block_fits, expr_within, other_fits, routes_fit, stmt_fits}
use Rattle.lang_tree.specs.Forms.{is_path, is_word}
use Rattle.lang_tree.specs.declared.method.Method.{Method}
use Rattle.lang_tree.specs.declared.method.Method.TheVariants as methods
use Rattle.lang_tree.specs.declared.expr.Expr.{Expr}
use Rattle.lang_tree.specs.declared.stmt.Stmt.{Stmt, roll-Stmt}
use Rattle.lang_tree.specs.declared.stmt.Stmt.TheVariants as stmt
use Rattle.lang_tree.specs.declared.stmt.Stmt.TheVariants.{rolls-Let, rolls-Get, rolls-Put, rolls-Drop, rolls-Each, rolls-If, rolls-Call, rolls-Now, rolls-Random, rolls-Reply}
use Rattle.lang_tree.specs.declared.stmt.Stmt.TheOpen.{Stmt-F}
use Rattle.lang_tree.specs.declared.stmt.Block.{Block}
use Rattle.lang_tree.specs.declared.program.Route.{Route}
use Rattle.lang_grammar.specs.Grammar.{block_tokens, expr_tokens, joined, other_tokens, program_tokens, route_tokens, stmt_tokens}
use Rattle.lang_grammar.proofs.Layers.{block_layer, block_of, stmt_layer, stmt_layer_fits, stmt_layer_tokens}
use Rattle.lang_reader.specs.declared.stop.Cause.TheVariants as cause
use Rattle.lang_reader.specs.declared.stop.Stop.{Stop}
use Rattle.lang_reader.specs.Readers.{Read, block_at, block_in, call_in, close_at, drop_in, each_in, else_in, expr_at, get_in, if_in, let_in, most, now_in, put_in, random_in, refused, reply_in, route_at, route_in, routes_in, stmt_in, stmts_in, stop}
use Rattle.std.proofs.lemmas.Bool.{and_from}
use Rattle.lang_reader.proofs.Loops.{stmts_next}
use Rattle.handler_lang.proofs.TokenLaws.{At, Reads, by_tokens, comma_mark, equals_mark, in_mark, kept_behind, laws_refused, method_reads, pattern_reads, semicolon_mark, there_is, word_reads}
use Rattle.handler_lang.proofs.ExprLaws.{expr_reads}

-- it fits where so many levels are left
abbrev pub StmtFits : ℕ → Stmt → Type 0
StmtFits n s = stmt_fits s n ≡ true

abbrev pub BlockFits : ℕ → Block → Type 0
BlockFits n b = block_fits b n ≡ true

abbrev ElseFits : ℕ → Option Block → Type 0
ElseFits n o = other_fits o n ≡ true

abbrev ReadsBlock : ℕ → Type 0
ReadsBlock n = Reads [] (block_at n) block_tokens (BlockFits n)

-- ---- what may stand behind `if`

some_read : (n : ℕ) → ReadsBlock n → Reads (token.Else ∷ []) (bound (block_at n) (λ b. gives (Some b))) other_tokens (ElseFits n)
some_read n inner = reads_bound inner (λ b. reads_given refl (λ bf. bf))

else_reads : (n : ℕ) → ReadsBlock n → Reads [] (else_in (block_at n)) other_tokens (ElseFits n)
unfolding else_in
else_reads n inner = record { at = go; some = there_is None other_tokens } where
  go : (ts : List Token) → At (else_in (block_at n)) other_tokens (ElseFits n) ts
  go [] = laws_none_left None refl refl refl
  go (token.Else ∷ ts) = laws_head token.Else (λ us. refl) (kept_behind token.Else) (some_read n inner) ts
  go (t ∷ ts) = laws_none t None (λ us. refl) refl refl ts

-- ---- statements

-- a statement of this form
made : {Holds : Stmt → Type 0} {front : List Token} (x : Stmt-F Stmt Block) {s : Stmt} → roll-Stmt x ≡ s → stmt_layer_tokens x ≡ front → Holds s → Reads front (gives s) stmt_tokens Holds
made x is spells holds = reads_given ((stmt_layer x _ is).spells ∙ spells) holds

fits : (x : Stmt-F Stmt Block) {s : Stmt} (n : ℕ) → roll-Stmt x ≡ s → stmt_layer_fits x n ≡ true → StmtFits n s
fits x n is f = (stmt_layer x _ is).fits n ∙ f

let_regroup : (v : List ℕ) (xs : List Token) → token.Let ∷ (token.Word v ∷ (token.Equals ∷ (xs ++ (token.Semicolon ∷ [])))) ≡ ((((token.Let ∷ []) ++ (token.Word v ∷ [])) ++ (token.Equals ∷ [])) ++ xs) ++ (token.Semicolon ∷ [])
let_regroup v xs = simp append_assoc

let_reads : (n : ℕ) → Reads (token.Let ∷ []) (let_in (expr_at 32)) stmt_tokens (StmtFits n)
unfolding let_in
let_reads n =
    reads_bound word_reads (λ v.
    reads_marked equals_mark
    (reads_bound (expr_reads 32) (λ x.
    reads_marked semicolon_mark
    (made (Stmt-F.Let v x) (rolls-Let v x) (let_regroup v (expr_tokens x))
    (λ xf vf. fits (Stmt-F.Let v x) n (rolls-Let v x) (and_from (is_word v) (expr_within x 32) vf xf))))))

get_regroup : (v t : List ℕ) (ks : List Token) → token.Get ∷ (token.Word v ∷ (token.Equals ∷ (token.Word t ∷ (ks ++ (token.Semicolon ∷ [])))))
    ≡ (((((token.Get ∷ []) ++ (token.Word v ∷ [])) ++ (token.Equals ∷ [])) ++ (token.Word t ∷ [])) ++ ks) ++ (token.Semicolon ∷ [])
get_regroup v t ks = simp append_assoc

get_reads : (n : ℕ) → Reads (token.Get ∷ []) (get_in (expr_at 32)) stmt_tokens (StmtFits n)
unfolding get_in
get_reads n =
    reads_bound word_reads (λ v.
    reads_marked equals_mark
    (reads_bound word_reads (λ t.
    reads_bound (expr_reads 32) (λ k.
    reads_marked semicolon_mark
    (made (Stmt-F.Get v t k) (rolls-Get v t k) (get_regroup v t (expr_tokens k))
    (λ kf tf vf. fits (Stmt-F.Get v t k) n (rolls-Get v t k) (and_from (is_word v && is_word t) (expr_within k 32) (and_from (is_word v) (is_word t) vf tf) kf)))))))

put_regroup : (t : List ℕ) (ks xs : List Token) → token.Put ∷ (token.Word t ∷ (ks ++ (token.Equals ∷ (xs ++ (token.Semicolon ∷ [])))))
    ≡ (((((token.Put ∷ []) ++ (token.Word t ∷ [])) ++ ks) ++ (token.Equals ∷ [])) ++ xs) ++ (token.Semicolon ∷ [])
put_regroup t ks xs = simp append_assoc

put_reads : (n : ℕ) → Reads (token.Put ∷ []) (put_in (expr_at 32)) stmt_tokens (StmtFits n)
unfolding put_in
put_reads n =
    reads_bound word_reads (λ t.
    reads_bound (expr_reads 32) (λ k.
    reads_marked equals_mark
    (reads_bound (expr_reads 32) (λ x.
    reads_marked semicolon_mark
    (made (Stmt-F.Put t k x) (rolls-Put t k x) (put_regroup t (expr_tokens k) (expr_tokens x))
    (λ xf kf tf. fits (Stmt-F.Put t k x) n (rolls-Put t k x) (and_from (is_word t && expr_within k 32) (expr_within x 32) (and_from (is_word t) (expr_within k 32) tf kf) xf)))))))

drop_regroup : (t : List ℕ) (ks : List Token) → token.Drop ∷ (token.Word t ∷ (ks ++ (token.Semicolon ∷ []))) ≡ (((token.Drop ∷ []) ++ (token.Word t ∷ [])) ++ ks) ++ (token.Semicolon ∷ [])
drop_regroup t ks = simp append_assoc

drop_reads : (n : ℕ) → Reads (token.Drop ∷ []) (drop_in (expr_at 32)) stmt_tokens (StmtFits n)
unfolding drop_in
drop_reads n =
    reads_bound word_reads (λ t.
    reads_bound (expr_reads 32) (λ k.
    reads_marked semicolon_mark
    (made (Stmt-F.Drop t k) (rolls-Drop t k) (drop_regroup t (expr_tokens k))
    (λ kf tf. fits (Stmt-F.Drop t k) n (rolls-Drop t k) (and_from (is_word t) (expr_within k 32) tf kf)))))

each_regroup : (k x t : List ℕ) (ps bs : List Token) → token.Each ∷ (token.Word k ∷ (token.Comma ∷ (token.Word x ∷ (token.In ∷ (token.Word t ∷ (ps ++ bs))))))
    ≡ (((((((token.Each ∷ []) ++ (token.Word k ∷ [])) ++ (token.Comma ∷ [])) ++ (token.Word x ∷ [])) ++ (token.In ∷ [])) ++ (token.Word t ∷ [])) ++ ps) ++ bs
each_regroup k x t ps bs = simp append_assoc

each_reads : (n : ℕ) → ReadsBlock n → Reads (token.Each ∷ []) (each_in (expr_at 32) (block_at n)) stmt_tokens (StmtFits n)
unfolding each_in
each_reads n inner =
    reads_bound word_reads (λ k.
    reads_marked comma_mark
    (reads_bound word_reads (λ x.
    reads_marked in_mark
    (reads_bound word_reads (λ t.
    reads_bound (expr_reads 32) (λ p.
    reads_bound inner (λ b.
    made (Stmt-F.Each k x t p b) (rolls-Each k x t p b) (each_regroup k x t (expr_tokens p) (block_tokens b))
    (λ bf pf tf xf kf. fits (Stmt-F.Each k x t p b) n (rolls-Each k x t p b)
    (and_from (is_word k && is_word x && is_word t && expr_within p 32) (block_fits b n)
    (and_from (is_word k && is_word x && is_word t) (expr_within p 32) (and_from (is_word k && is_word x) (is_word t) (and_from (is_word k) (is_word x) kf xf) tf) pf) bf)))))))))

if_regroup : (xs bs os : List Token) → token.If ∷ (xs ++ (bs ++ os)) ≡ (((token.If ∷ []) ++ xs) ++ bs) ++ os
if_regroup xs bs os = simp append_assoc

if_made : (x : Expr) (b : Block) (o : Option Block) {front : List Token} {Holds : Stmt → Type 0} → token.If ∷ (expr_tokens x ++ (block_tokens b ++ other_tokens o)) ≡ front → Holds (stmt.If x b o) → Reads front (gives (stmt.If x b o)) stmt_tokens Holds
if_made x b None spells holds = made (Stmt-F.If x b None) (rolls-If x b None) spells holds
if_made x b (Some c) spells holds = made (Stmt-F.If x b (Some c)) (rolls-If x b (Some c)) spells holds

if_fits : (x : Expr) (b : Block) (o : Option Block) (n : ℕ) → expr_within x 32 && block_fits b n && other_fits o n ≡ true → StmtFits n (stmt.If x b o)
if_fits x b None n f = fits (Stmt-F.If x b None) n (rolls-If x b None) f
if_fits x b (Some c) n f = fits (Stmt-F.If x b (Some c)) n (rolls-If x b (Some c)) f

if_reads : (n : ℕ) → ReadsBlock n → Reads (token.If ∷ []) (if_in (expr_at 32) (block_at n)) stmt_tokens (StmtFits n)
unfolding if_in
if_reads n inner =
    reads_bound (expr_reads 32) (λ x.
    reads_bound inner (λ b.
    reads_bound (else_reads n inner) (λ o.
    if_made x b o (if_regroup (expr_tokens x) (block_tokens b) (other_tokens o))
    (λ of bf xf. if_fits x b o n (and_from (expr_within x 32 && block_fits b n) (other_fits o n) (and_from (expr_within x 32) (block_fits b n) xf bf) of)))))

call_regroup : (s a : List ℕ) (m : Method) (ds ps bs : List Token)
    → token.Call ∷ (token.Word s ∷ (token.Comma ∷ (token.Word a ∷ (token.Equals ∷ (ds ++ (token.Method m ∷ (ps ++ (bs ++ (token.Semicolon ∷ [])))))))))
    ≡ (((((((((token.Call ∷ []) ++ (token.Word s ∷ [])) ++ (token.Comma ∷ [])) ++ (token.Word a ∷ [])) ++ (token.Equals ∷ [])) ++ ds) ++ (token.Method m ∷ [])) ++ ps) ++ bs) ++ (token.Semicolon ∷ [])
call_regroup s a m ds ps bs = simp append_assoc

call_reads : (n : ℕ) → Reads (token.Call ∷ []) (call_in (expr_at 32)) stmt_tokens (StmtFits n)
unfolding call_in
call_reads n =
    reads_bound word_reads (λ s.
    reads_marked comma_mark
    (reads_bound word_reads (λ a.
    reads_marked equals_mark
    (reads_bound (expr_reads 32) (λ d.
    reads_bound method_reads (λ m.
    reads_bound (expr_reads 32) (λ p.
    reads_bound (expr_reads 32) (λ b.
    reads_marked semicolon_mark
    (made (Stmt-F.Call s a d m p b) (rolls-Call s a d m p b) (call_regroup s a m (expr_tokens d) (expr_tokens p) (expr_tokens b))
    (λ bf pf mf df af sf. fits (Stmt-F.Call s a d m p b) n (rolls-Call s a d m p b)
    (and_from (is_word s && is_word a && expr_within d 32 && expr_within p 32) (expr_within b 32)
    (and_from (is_word s && is_word a && expr_within d 32) (expr_within p 32) (and_from (is_word s && is_word a) (expr_within d 32) (and_from (is_word s) (is_word a) sf af) df) pf) bf)))))))))))

now_reads : (n : ℕ) → Reads (token.Now ∷ []) now_in stmt_tokens (StmtFits n)
unfolding now_in
now_reads n = reads_bound word_reads (λ v. reads_marked semicolon_mark (made (Stmt-F.Now v) (rolls-Now v) refl (λ vf. fits (Stmt-F.Now v) n (rolls-Now v) vf)))

random_reads : (n : ℕ) → Reads (token.Random ∷ []) random_in stmt_tokens (StmtFits n)
unfolding random_in
random_reads n = reads_bound word_reads (λ v. reads_marked semicolon_mark (made (Stmt-F.Random v) (rolls-Random v) refl (λ vf. fits (Stmt-F.Random v) n (rolls-Random v) vf)))

reply_regroup : (ss bs : List Token) → token.Reply ∷ (ss ++ (bs ++ (token.Semicolon ∷ []))) ≡ (((token.Reply ∷ []) ++ ss) ++ bs) ++ (token.Semicolon ∷ [])
reply_regroup ss bs = simp append_assoc

reply_reads : (n : ℕ) → Reads (token.Reply ∷ []) (reply_in (expr_at 32)) stmt_tokens (StmtFits n)
unfolding reply_in
reply_reads n =
    reads_bound (expr_reads 32) (λ s.
    reads_bound (expr_reads 32) (λ b.
    reads_marked semicolon_mark
    (made (Stmt-F.Reply s b) (rolls-Reply s b) (reply_regroup (expr_tokens s) (expr_tokens b))
    (λ bf sf. fits (Stmt-F.Reply s b) n (rolls-Reply s b) (and_from (expr_within s 32) (expr_within b 32) sf bf)))))

abbrev one : ℕ → List Token → Read Stmt
one n = stmt_in (expr_at 32) (block_at n)

one_reads : (n : ℕ) → ReadsBlock n → Reads [] (one n) stmt_tokens (StmtFits n)
unfolding stmt_in
one_reads n inner = record { at = go; some = some } where
  some : Completes [] stmt_tokens
  some = there_is (stmt.Now []) stmt_tokens

  go : (ts : List Token) → At (one n) stmt_tokens (StmtFits n) ts
  go [] = laws_end (refused []) some refl refl
  go (token.Let ∷ ts) = laws_head token.Let (λ us. refl) (kept_behind token.Let) (let_reads n) ts
  go (token.Get ∷ ts) = laws_head token.Get (λ us. refl) (kept_behind token.Get) (get_reads n) ts
  go (token.Put ∷ ts) = laws_head token.Put (λ us. refl) (kept_behind token.Put) (put_reads n) ts
  go (token.Drop ∷ ts) = laws_head token.Drop (λ us. refl) (kept_behind token.Drop) (drop_reads n) ts
  go (token.Each ∷ ts) = laws_head token.Each (λ us. refl) (kept_behind token.Each) (each_reads n inner) ts
  go (token.If ∷ ts) = laws_head token.If (λ us. refl) (kept_behind token.If) (if_reads n inner) ts
  go (token.Call ∷ ts) = laws_head token.Call (λ us. refl) (kept_behind token.Call) (call_reads n) ts
  go (token.Now ∷ ts) = laws_head token.Now (λ us. refl) (kept_behind token.Now) (now_reads n) ts
  go (token.Random ∷ ts) = laws_head token.Random (λ us. refl) (kept_behind token.Random) (random_reads n) ts
  go (token.Reply ∷ ts) = laws_head token.Reply (λ us. refl) (kept_behind token.Reply) (reply_reads n) ts
  go (t ∷ ts) = laws_refused t some (λ us. refl) ts

-- ---- statements up to the end of their block

abbrev closed_stmts : List Stmt → List Token
closed_stmts ss = joined (map stmt_tokens ss) ++ (token.Close ∷ [])

abbrev StmtsFit : ℕ → List Stmt → Type 0
StmtsFit n ss = all_fit (map stmt_fits ss) n ≡ true

some_stmts : Completes [] closed_stmts
some_stmts = there_is [] closed_stmts

abbrev one_and_more : ℕ → (List Token → Read Stmt) → List Token → Read (List Stmt)
one_and_more k one = bound one (λ s. bound (stmts_in k one) (λ more. gives (s ∷ more)))

more_reads : (k n : ℕ) → ReadsBlock n → Reads [] (stmts_in k (one n)) closed_stmts (StmtsFit n) → Reads [] (one_and_more k (one n)) closed_stmts (StmtsFit n)
more_reads k n inner next =
    reads_bound (one_reads n inner) (λ s.
    reads_bound next (λ more.
    reads_given (append_assoc (stmt_tokens s) (joined (map stmt_tokens more)) (token.Close ∷ []))
    (λ mf sf. and_from (stmt_fits s n) (all_fit (map stmt_fits more) n) sf mf)))

close_head : (t : Token) (ts us : List Token) → close_at (t ∷ ts) ≡ None → close_at (t ∷ us) ≡ None
close_head token.Close ts us e = absurd cc
close_head _ ts us e = refl

agree_at : (k : ℕ) (one : List Token → Read Stmt) (t : Token) (ts us : List Token) → close_at (t ∷ ts) ≡ None → SameFirst (t ∷ ts) us → stmts_in (suc k) one us ≡ one_and_more k one us
agree_at k one t ts [] e g = absurd g
agree_at k one t ts (u ∷ us) e g = stmts_next k one (u ∷ us) (subst (λ v. close_at (v ∷ us) ≡ None) g (close_head t ts us e))

none_allowed : (n : ℕ) (ts : List Token) → At (stmts_in zero (one n)) closed_stmts (StmtsFit n) ts
unfolding stmts_in
none_allowed n [] = laws_end (refused []) some_stmts refl refl
none_allowed n (t ∷ ts) = laws_refused t some_stmts (λ us. refl) ts

none_left : (k n : ℕ) → stmts_in (suc k) (one n) [] ≡ Err (refused [])
unfolding stmts_in stmt_in
none_left k n = refl

some_allowed : (k n : ℕ) → Reads [] (one_and_more k (one n)) closed_stmts (StmtsFit n) → (ts : List Token) → At (stmts_in (suc k) (one n)) closed_stmts (StmtsFit n) ts
unfolding stmts_in
some_allowed k n more [] = laws_end (refused []) some_stmts (none_left k n) refl
some_allowed k n more (token.Close ∷ ts) = laws_one token.Close [] (λ us. refl) refl (λ us kept. (refl, kept.1)) ts
some_allowed k n more (t ∷ ts) = laws_as t ts (λ us g. agree_at k (one n) t ts us refl g) (more.at (t ∷ ts))

-- whatever number of statements is allowed
stmts_read : (k n : ℕ) → ReadsBlock n → Reads [] (stmts_in k (one n)) closed_stmts (StmtsFit n)
stmts_read zero n inner = record { at = none_allowed n; some = some_stmts }
stmts_read (suc k) n inner = record { at = some_allowed k n (more_reads k n inner (stmts_read k n inner)); some = some_stmts }

-- ---- blocks

some_block : Completes [] block_tokens
some_block = there_is (block_of []) block_tokens

open_reads : (n : ℕ) → ReadsBlock n → Reads (token.Open ∷ []) (bound (stmts_in most (one n)) (λ ss. gives (block_of ss))) block_tokens (BlockFits (suc n))
open_reads n inner = reads_bound (stmts_read most n inner) (λ ss. reads_given (block_layer ss).spells (λ f. (block_layer ss).fits n ∙ f))

any_block : (n : ℕ) → ReadsBlock n → (ts : List Token) → At (block_in (block_at n)) block_tokens (BlockFits (suc n)) ts
unfolding block_in
any_block n inner [] = laws_end (refused []) some_block refl refl
any_block n inner (token.Open ∷ ts) = laws_head token.Open (λ us. refl) (kept_behind token.Open) (open_reads n inner) ts
any_block n inner (t ∷ ts) = laws_refused t some_block (λ us. refl) ts

deep_block_laws : (ts : List Token) → At (block_at zero) block_tokens (BlockFits zero) ts
unfolding block_at
deep_block_laws [] = laws_end (refused []) some_block refl refl
deep_block_laws (token.Open ∷ ts) = laws_stop token.Open (stop cause.TooDeep []) some_block (λ us. refl) ts
deep_block_laws (t ∷ ts) = laws_refused t some_block (λ us. refl) ts

pub block_reads : (n : ℕ) → ReadsBlock n
unfolding block_at
block_reads zero = record { at = deep_block_laws; some = some_block }
block_reads (suc n) = record { at = any_block n (block_reads n); some = some_block }

-- ---- routes

abbrev RouteFits : Route → Type 0
RouteFits r = is_path r.pattern && block_fits r.block 32 ≡ true

abbrev route_of : Method → List ℕ → Block → Route
route_of m p b = record { method = m; pattern = p; block = b }

body_reads : Reads (token.Route ∷ []) route_in route_tokens RouteFits
unfolding route_in
body_reads =
    reads_bound method_reads (λ m.
    reads_bound pattern_reads (λ p.
    reads_bound (block_reads 32) (λ b.
    reads_given {y = route_of m p b} refl (λ bf pf mf. and_from (is_path p) (block_fits b 32) pf bf))))

route_reads : Reads [] route_at route_tokens RouteFits
unfolding route_at
route_reads = record { at = go; some = some } where
  some : Completes [] route_tokens
  some = there_is (route_of methods.Get [] (block_of [])) route_tokens

  go : (ts : List Token) → At route_at route_tokens RouteFits ts
  go [] = laws_end (refused []) some refl refl
  go (token.Route ∷ ts) = laws_head token.Route (λ us. refl) (kept_behind token.Route) body_reads ts
  go (t ∷ ts) = laws_refused t some (λ us. refl) ts

abbrev pub RoutesFit : List Route → Type 0
RoutesFit rs = routes_fit rs ≡ true

-- routes are read to the end, so nothing is left
abbrev to_end : Result (List Route) Stop → Read (List Route)
to_end r = r >>= λ rs. Ok (rs, [])

abbrev all_routes : ℕ → List Token → Read (List Route)
all_routes k ts = to_end (routes_in k ts)

abbrev route_and_more : ℕ → List Token → Read (List Route)
route_and_more k = bound route_at (λ r. bound (all_routes k) (λ more. gives (r ∷ more)))

rest_same : (r : Route) (got : Result (List Route) Stop) → to_end (got >>= λ more. Ok (r ∷ more)) ≡ (to_end got >>= λ q. Ok (r ∷ q.0, q.1))
rest_same r (Ok more) = refl
rest_same r (Err s) = refl

same_routes : (k : ℕ) (got : Read Route) → to_end (got >>= λ r. routes_in k r.1 >>= λ more. Ok (r.0 ∷ more)) ≡ (got >>= λ r. all_routes k r.1 >>= λ q. Ok (r.0 ∷ q.0, q.1))
same_routes k (Ok p) = rest_same p.0 (routes_in k p.1)
same_routes k (Err s) = refl

routes_agree : (k : ℕ) (t : Token) (ts us : List Token) → SameFirst (t ∷ ts) us → all_routes (suc k) us ≡ route_and_more k us
unfolding routes_in
routes_agree k t ts [] g = absurd g
routes_agree k t ts (u ∷ us) g = same_routes k (route_at (u ∷ us))

some_routes : Completes [] program_tokens
some_routes = there_is [] program_tokens

routes_more : (k : ℕ) → Reads [] (all_routes k) program_tokens RoutesFit → Reads [] (route_and_more k) program_tokens RoutesFit
routes_more k next =
    reads_bound route_reads (λ r.
    reads_bound next (λ more.
    reads_given refl (λ mf rf. and_from (is_path r.pattern && block_fits r.block 32) (routes_fit more) rf mf)))

no_route : (ts : List Token) → At (all_routes zero) program_tokens RoutesFit ts
unfolding routes_in
no_route [] = laws_end (refused []) some_routes refl refl
no_route (t ∷ ts) = laws_refused t some_routes (λ us. refl) ts

more_routes : (k : ℕ) → Reads [] (route_and_more k) program_tokens RoutesFit → (ts : List Token) → At (all_routes (suc k)) program_tokens RoutesFit ts
unfolding routes_in
more_routes k more [] = laws_none_left [] refl refl refl
more_routes k more (t ∷ ts) = laws_as t ts (routes_agree k t ts) (more.at (t ∷ ts))

-- whatever number of routes is allowed
all_read : (k : ℕ) → Reads [] (all_routes k) program_tokens RoutesFit
all_read zero = record { at = no_route; some = some_routes }
all_read (suc k) = record { at = more_routes k (routes_more k (all_read k)); some = some_routes }

-- ---- programs

end_ok : (r : Result (List Route) Stop) (rs : List Route) → r ≡ Ok rs → to_end r ≡ Ok (rs, [])
end_ok r rs e = ap to_end e

end_err : (r : Result (List Route) Stop) (s : Stop) → to_end r ≡ Err s → r ≡ Err s
end_err (Ok rs) s h = absurd cc
end_err (Err d) s h = cc

-- what is read is spelled so
pub routes_exact : (k : ℕ) (ts : List Token) (rs : List Route) → routes_in k ts ≡ Ok rs → ts ≡ program_tokens rs
routes_exact k ts rs h = (((all_read k).at ts).took rs [] (end_ok (routes_in k ts) rs h)).spelled ∙ append-nil (program_tokens rs)

-- what is read of tokens of a text fits
pub routes_read_fit : (k : ℕ) (ts : List Token) (rs : List Route) → AreKept ts → routes_in k ts ≡ Ok rs → routes_fit rs ≡ true
routes_read_fit k ts rs kept h = ((((all_read k).at ts).took rs [] (end_ok (routes_in k ts) rs h)).holds kept).0

refused_first : (k : ℕ) (ts : List Token) (s : Stop) → StopsFirst by_tokens (all_routes k) ts s → StopsFirst by_tokens (routes_in k) ts s
refused_first k ts s (inl e) = inl e
refused_first k ts s (inr a) = inr (record { front = a.front; first = a.first; back = a.back; is = a.is; left = a.left; always = λ more. end_err (routes_in k (a.front ++ (a.first ∷ more))) _ (a.always more) })

-- a refusal is the first
pub routes_refuse : (k : ℕ) (ts : List Token) (s : Stop) → routes_in k ts ≡ Err s → StopsFirst by_tokens (routes_in k) ts s
routes_refuse k ts s h = refused_first k ts s (((all_read k).at ts).stopped s (ap to_end h)).first

-- what stands before it begins a program, of whatever depth
pub routes_begun : (k : ℕ) (ts : List Token) (s : Stop) → routes_in k ts ≡ Err s → Begun by_tokens [] program_tokens ts s
routes_begun k ts s h = (((all_read k).at ts).stopped s (ap to_end h)).begun
