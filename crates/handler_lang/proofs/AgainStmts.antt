-- A program that is spelled so is read.
use Rattle.std.proofs.Common.{◌≡◌, ℕ, zero, suc, ◌≤◌, ◌<◌, true, false, List, [], ◌∷◌, ◌++◌, map, length, Option, Some, None, Ok, refl, sym, ap, subst, ◌∙◌, append_assoc, arith}
use Rattle.std.proofs.lemmas.List.{length-append}
use Rattle.lang_tokens.specs.declared.token.Token.{Token}
use Rattle.lang_tokens.specs.declared.token.Token.TheVariants as token
use Rattle.lang_tree.specs.Depths.{all_fit, block_fits, expr_within, routes_fit, stmt_fits}
use Rattle.lang_tree.specs.Forms.{is_path, is_word}
use Rattle.lang_tree.specs.declared.method.Method.{Method}
use Rattle.lang_tree.specs.declared.expr.Expr.{Expr}
use Rattle.lang_tree.specs.declared.stmt.Stmt.{Stmt, roll-Stmt, map-Stmt}
use Rattle.lang_tree.specs.declared.stmt.Stmt.TheVariants as stmt
use Rattle.lang_tree.specs.declared.stmt.Stmt.TheVariants.{rolls-Let, rolls-Get, rolls-Put, rolls-Drop, rolls-Each, rolls-If, rolls-Call, rolls-Now, rolls-Random, rolls-Reply}
use Rattle.lang_tree.specs.declared.stmt.Stmt.TheOpen.{Stmt-F, Block-F}
use Rattle.lang_tree.specs.declared.stmt.Stmt.TheFolds.{ind-Block}
use Rattle.lang_tree.specs.declared.stmt.Block.{Block, roll-Block}
use Rattle.lang_tree.specs.declared.program.Route.{Route}
use Rattle.lang_grammar.specs.Grammar.{block_tokens, expr_tokens, joined, program_tokens, route_tokens, stmt_tokens}
use Rattle.lang_reader.specs.Reading.{◌>>=◌}
use Rattle.lang_reader.specs.Readers.{Read, block_at, block_in, call_in, close_at, drop_in, each_in, else_in, expr_at, get_in, if_in, let_in, most, now_in, pattern_at, put_in, random_in, reply_in, route_at, route_in, routes_in, stmt_in, stmts_in}
use Rattle.std.proofs.lemmas.Bool.{and_parts}
use Rattle.handler_lang.proofs.Conjuncts.{five, conjuncts_of_three}
use Rattle.lang_grammar.proofs.Layers.{block_layer, block_of, stmt_layer, stmt_layer_fits, stmt_layer_tokens}
use Rattle.lang_reader.proofs.Loops.{routes_ended, routes_next, stmts_closed, stmts_next}
use Rattle.handler_lang.proofs.AgainExprs.{expr_again, then_ok}

abbrev one : ℕ → List Token → Read Stmt
one n = stmt_in (expr_at 32) (block_at n)

pub record IsReadBlock (b : Block) : Type 0 where
  pub at : (n : ℕ) (rest : List Token) → block_fits b n ≡ true → length (block_tokens b) ≤ 65536 → block_at n (block_tokens b ++ rest) ≡ Ok (b, rest)

-- no `else` stands here
abbrev IsNotElse : List Token → Type 0
IsNotElse ts = (n : ℕ) → else_in (block_at n) ts ≡ Ok (None, ts)

record IsReadStmt (s : Stmt) : Type 0 where
  at : (n : ℕ) (rest : List Token) → stmt_fits s n ≡ true → length (stmt_tokens s) ≤ 65536 → IsNotElse rest → one n (stmt_tokens s ++ rest) ≡ Ok (s, rest)
  goes_on : (rest : List Token) → close_at (stmt_tokens s ++ rest) ≡ None
  no_else : (rest : List Token) → IsNotElse (stmt_tokens s ++ rest)
  some : 0 < length (stmt_tokens s)

from_layer : (x : Stmt-F Stmt Block) (s : Stmt) → roll-Stmt x ≡ s
    → ((n : ℕ) (rest : List Token) → stmt_layer_fits x n ≡ true → length (stmt_layer_tokens x) ≤ 65536 → IsNotElse rest → one n (stmt_layer_tokens x ++ rest) ≡ Ok (s, rest))
    → ((rest : List Token) → close_at (stmt_layer_tokens x ++ rest) ≡ None) → ((rest : List Token) → IsNotElse (stmt_layer_tokens x ++ rest)) → 0 < length (stmt_layer_tokens x) → IsReadStmt s
from_layer x s is reads goes none some =
    let l = stmt_layer x s is in
    record {
      at = λ n rest f small h. ap (λ (ts : List Token). one n (ts ++ rest)) l.spells ∙ reads n rest (sym (l.fits n) ∙ f) (subst (λ (ts : List Token). length ts ≤ 65536) l.spells small) h;
      goes_on = λ rest. ap (λ (ts : List Token). close_at (ts ++ rest)) l.spells ∙ goes rest;
      no_else = λ rest n. subst (λ (ts : List Token). else_in (block_at n) (ts ++ rest) ≡ Ok (None, ts ++ rest)) (sym l.spells) (none rest n);
      some = subst (λ (ts : List Token). 0 < length ts) (sym l.spells) some;
    }

let_again : (n : ℕ) (v : List ℕ) (x : Expr) (rest : List Token) → expr_within x 32 ≡ true → one n (token.Let ∷ (token.Word v ∷ (token.Equals ∷ (expr_tokens x ++ (token.Semicolon ∷ rest))))) ≡ Ok (stmt.Let v x, rest)
unfolding stmt_in let_in
let_again n v x rest xf = rw ((expr_again x).at 32 (token.Semicolon ∷ rest) xf, ◌>>=◌) refl

let_more : (v : List ℕ) (xs : List Token) (rest : List Token) → (token.Let ∷ (token.Word v ∷ (token.Equals ∷ (xs ++ (token.Semicolon ∷ []))))) ++ rest ≡ (token.Let ∷ (token.Word v ∷ (token.Equals ∷ (xs ++ (token.Semicolon ∷ rest)))))
let_more v xs rest = simp append_assoc

get_again : (n : ℕ) (v : List ℕ) (t : List ℕ) (k : Expr) (rest : List Token) → expr_within k 32 ≡ true → one n (token.Get ∷ (token.Word v ∷ (token.Equals ∷ (token.Word t ∷ (expr_tokens k ++ (token.Semicolon ∷ rest)))))) ≡ Ok (stmt.Get v t k, rest)
unfolding stmt_in get_in
get_again n v t k rest kf = rw ((expr_again k).at 32 (token.Semicolon ∷ rest) kf, ◌>>=◌) refl

get_more : (v : List ℕ) (t : List ℕ) (ks : List Token) (rest : List Token) → (token.Get ∷ (token.Word v ∷ (token.Equals ∷ (token.Word t ∷ (ks ++ (token.Semicolon ∷ [])))))) ++ rest ≡ (token.Get ∷ (token.Word v ∷ (token.Equals ∷ (token.Word t ∷ (ks ++ (token.Semicolon ∷ rest))))))
get_more v t ks rest = simp append_assoc

put_again : (n : ℕ) (t : List ℕ) (k : Expr) (x : Expr) (rest : List Token) → expr_within k 32 ≡ true → expr_within x 32 ≡ true → one n (token.Put ∷ (token.Word t ∷ (expr_tokens k ++ (token.Equals ∷ (expr_tokens x ++ (token.Semicolon ∷ rest)))))) ≡ Ok (stmt.Put t k x, rest)
unfolding stmt_in put_in
put_again n t k x rest kf xf = rw ((expr_again k).at 32 (token.Equals ∷ (expr_tokens x ++ (token.Semicolon ∷ rest))) kf, (expr_again x).at 32 (token.Semicolon ∷ rest) xf, ◌>>=◌) refl

put_more : (t : List ℕ) (ks : List Token) (xs : List Token) (rest : List Token) → (token.Put ∷ (token.Word t ∷ (ks ++ (token.Equals ∷ (xs ++ (token.Semicolon ∷ [])))))) ++ rest ≡ (token.Put ∷ (token.Word t ∷ (ks ++ (token.Equals ∷ (xs ++ (token.Semicolon ∷ rest))))))
put_more t ks xs rest = simp append_assoc

drop_again : (n : ℕ) (t : List ℕ) (k : Expr) (rest : List Token) → expr_within k 32 ≡ true → one n (token.Drop ∷ (token.Word t ∷ (expr_tokens k ++ (token.Semicolon ∷ rest)))) ≡ Ok (stmt.Drop t k, rest)
unfolding stmt_in drop_in
drop_again n t k rest kf = rw ((expr_again k).at 32 (token.Semicolon ∷ rest) kf, ◌>>=◌) refl

drop_more : (t : List ℕ) (ks : List Token) (rest : List Token) → (token.Drop ∷ (token.Word t ∷ (ks ++ (token.Semicolon ∷ [])))) ++ rest ≡ (token.Drop ∷ (token.Word t ∷ (ks ++ (token.Semicolon ∷ rest))))
drop_more t ks rest = simp append_assoc

each_again : (n : ℕ) (k : List ℕ) (x : List ℕ) (t : List ℕ) (p : Expr) (b : Block) (ts : List Token) (rest : List Token) → expr_within p 32 ≡ true → block_at n ts ≡ Ok (b, rest) → one n (token.Each ∷ (token.Word k ∷ (token.Comma ∷ (token.Word x ∷ (token.In ∷ (token.Word t ∷ (expr_tokens p ++ ts))))))) ≡ Ok (stmt.Each k x t p b, rest)
unfolding stmt_in each_in
each_again n k x t p b ts rest pf hb = rw ((expr_again p).at 32 ts pf, hb, ◌>>=◌) refl

each_more : (k : List ℕ) (x : List ℕ) (t : List ℕ) (ps : List Token) (bs : List Token) (rest : List Token) → (token.Each ∷ (token.Word k ∷ (token.Comma ∷ (token.Word x ∷ (token.In ∷ (token.Word t ∷ (ps ++ bs))))))) ++ rest ≡ (token.Each ∷ (token.Word k ∷ (token.Comma ∷ (token.Word x ∷ (token.In ∷ (token.Word t ∷ (ps ++ (bs ++ rest))))))))
each_more k x t ps bs rest = simp append_assoc

call_again : (n : ℕ) (s : List ℕ) (a : List ℕ) (d : Expr) (m : Method) (p : Expr) (b : Expr) (rest : List Token) → expr_within d 32 ≡ true → expr_within p 32 ≡ true → expr_within b 32 ≡ true → one n (token.Call ∷ (token.Word s ∷ (token.Comma ∷ (token.Word a ∷ (token.Equals ∷ (expr_tokens d ++ (token.Method m ∷ (expr_tokens p ++ (expr_tokens b ++ (token.Semicolon ∷ rest)))))))))) ≡ Ok (stmt.Call s a d m p b, rest)
unfolding stmt_in call_in
call_again n s a d m p b rest df pf bf = rw ((expr_again d).at 32 (token.Method m ∷ (expr_tokens p ++ (expr_tokens b ++ (token.Semicolon ∷ rest)))) df, (expr_again p).at 32 (expr_tokens b ++ (token.Semicolon ∷ rest)) pf, (expr_again b).at 32 (token.Semicolon ∷ rest) bf, ◌>>=◌) refl

call_more : (s : List ℕ) (a : List ℕ) (ds : List Token) (m : Method) (ps : List Token) (bs : List Token) (rest : List Token) → (token.Call ∷ (token.Word s ∷ (token.Comma ∷ (token.Word a ∷ (token.Equals ∷ (ds ++ (token.Method m ∷ (ps ++ (bs ++ (token.Semicolon ∷ [])))))))))) ++ rest ≡ (token.Call ∷ (token.Word s ∷ (token.Comma ∷ (token.Word a ∷ (token.Equals ∷ (ds ++ (token.Method m ∷ (ps ++ (bs ++ (token.Semicolon ∷ rest))))))))))
call_more s a ds m ps bs rest = simp append_assoc

now_again : (n : ℕ) (v : List ℕ) (rest : List Token) → one n (token.Now ∷ (token.Word v ∷ (token.Semicolon ∷ rest))) ≡ Ok (stmt.Now v, rest)
unfolding stmt_in now_in
now_again n v rest = refl

random_again : (n : ℕ) (v : List ℕ) (rest : List Token) → one n (token.Random ∷ (token.Word v ∷ (token.Semicolon ∷ rest))) ≡ Ok (stmt.Random v, rest)
unfolding stmt_in random_in
random_again n v rest = refl

reply_again : (n : ℕ) (s : Expr) (b : Expr) (rest : List Token) → expr_within s 32 ≡ true → expr_within b 32 ≡ true → one n (token.Reply ∷ (expr_tokens s ++ (expr_tokens b ++ (token.Semicolon ∷ rest)))) ≡ Ok (stmt.Reply s b, rest)
unfolding stmt_in reply_in
reply_again n s b rest sf bf = rw ((expr_again s).at 32 (expr_tokens b ++ (token.Semicolon ∷ rest)) sf, (expr_again b).at 32 (token.Semicolon ∷ rest) bf, ◌>>=◌) refl

reply_more : (ss : List Token) (bs : List Token) (rest : List Token) → (token.Reply ∷ (ss ++ (bs ++ (token.Semicolon ∷ [])))) ++ rest ≡ (token.Reply ∷ (ss ++ (bs ++ (token.Semicolon ∷ rest))))
reply_more ss bs rest = simp append_assoc

if_again : (n : ℕ) (x : Expr) (b : Block) (o : Option Block) (ts after rest : List Token) → expr_within x 32 ≡ true → block_at n ts ≡ Ok (b, after) → else_in (block_at n) after ≡ Ok (o, rest)
    → one n (token.If ∷ (expr_tokens x ++ ts)) ≡ Ok (stmt.If x b o, rest)
unfolding stmt_in if_in
if_again n x b o ts after rest xf hb ho = rw ((expr_again x).at 32 ts xf, hb, ho, ◌>>=◌) refl

else_again : (n : ℕ) (b : Block) (rest : List Token) → block_at n (block_tokens b ++ rest) ≡ Ok (b, rest) → else_in (block_at n) (token.Else ∷ (block_tokens b ++ rest)) ≡ Ok (Some b, rest)
unfolding else_in
else_again n b rest h = rw (h, ◌>>=◌) refl

if_more : (xs bs rest : List Token) → (token.If ∷ (xs ++ (bs ++ []))) ++ rest ≡ token.If ∷ (xs ++ (bs ++ rest))
if_more xs bs rest = simp append_assoc

if_else_more : (xs bs cs rest : List Token) → (token.If ∷ (xs ++ (bs ++ (token.Else ∷ cs)))) ++ rest ≡ token.If ∷ (xs ++ (bs ++ (token.Else ∷ (cs ++ rest))))
if_else_more xs bs cs rest = simp append_assoc

abbrev S : Type 0
S = (s : Stmt) × IsReadStmt s

abbrev B : Type 0
B = (b : Block) × IsReadBlock b

abbrev bare : Stmt-F S B → Stmt-F Stmt Block
bare y = map-Stmt S B Stmt Block (λ e. e.0) (λ e. e.0) y

abbrev read_to : (s : Stmt) (rest : List Token) → Read Stmt
read_to s rest = Ok (s, rest)

again : (y : Stmt-F S B) → IsReadStmt (roll-Stmt (bare y))
unfolding else_in
again (Stmt-F.Let v x) = from_layer (Stmt-F.Let v x) (roll-Stmt (Stmt-F.Let v x)) refl
    (λ n rest f small h.
    let k = and_parts (is_word v) (expr_within x 32) f in
    ap (one n) (let_more v (expr_tokens x) rest)
    ∙ let_again n v x rest k.1
    ∙ ap (λ (s : Stmt). read_to s rest) (sym (rolls-Let v x)))
    (λ rest. refl) (λ rest n. refl) (omega arith)
again (Stmt-F.Get v t k) = from_layer (Stmt-F.Get v t k) (roll-Stmt (Stmt-F.Get v t k)) refl
    (λ n rest f small h.
    let c = conjuncts_of_three (is_word v) (is_word t) (expr_within k 32) f in
    ap (one n) (get_more v t (expr_tokens k) rest)
    ∙ get_again n v t k rest c.2
    ∙ ap (λ (s : Stmt). read_to s rest) (sym (rolls-Get v t k)))
    (λ rest. refl) (λ rest n. refl) (omega arith)
again (Stmt-F.Put t k x) = from_layer (Stmt-F.Put t k x) (roll-Stmt (Stmt-F.Put t k x)) refl
    (λ n rest f small h.
    let c = conjuncts_of_three (is_word t) (expr_within k 32) (expr_within x 32) f in
    ap (one n) (put_more t (expr_tokens k) (expr_tokens x) rest)
    ∙ put_again n t k x rest c.1 c.2
    ∙ ap (λ (s : Stmt). read_to s rest) (sym (rolls-Put t k x)))
    (λ rest. refl) (λ rest n. refl) (omega arith)
again (Stmt-F.Drop t k) = from_layer (Stmt-F.Drop t k) (roll-Stmt (Stmt-F.Drop t k)) refl
    (λ n rest f small h.
    let c = and_parts (is_word t) (expr_within k 32) f in
    ap (one n) (drop_more t (expr_tokens k) rest)
    ∙ drop_again n t k rest c.1
    ∙ ap (λ (s : Stmt). read_to s rest) (sym (rolls-Drop t k)))
    (λ rest. refl) (λ rest n. refl) (omega arith)
again (Stmt-F.Each k x t p b) = from_layer (Stmt-F.Each k x t p b.0) (roll-Stmt (Stmt-F.Each k x t p b.0)) refl
    (λ n rest f small h.
    let c = five (is_word k) (is_word x) (is_word t) (expr_within p 32) (block_fits b.0 n) f in
    let fewer : length (block_tokens b.0) ≤ 65536 = omega (arith, small, length-append (expr_tokens p) (block_tokens b.0)) in
    ap (one n) (each_more k x t (expr_tokens p) (block_tokens b.0) rest)
    ∙ each_again n k x t p b.0 (block_tokens b.0 ++ rest) rest c.3 (b.1.at n rest c.4 fewer)
    ∙ ap (λ (s : Stmt). read_to s rest) (sym (rolls-Each k x t p b.0)))
    (λ rest. refl) (λ rest n. refl) (omega arith)
again (Stmt-F.Call s a d m p b) = from_layer (Stmt-F.Call s a d m p b) (roll-Stmt (Stmt-F.Call s a d m p b)) refl
    (λ n rest f small h.
    let c = five (is_word s) (is_word a) (expr_within d 32) (expr_within p 32) (expr_within b 32) f in
    ap (one n) (call_more s a (expr_tokens d) m (expr_tokens p) (expr_tokens b) rest)
    ∙ call_again n s a d m p b rest c.2 c.3 c.4
    ∙ ap (λ (s : Stmt). read_to s rest) (sym (rolls-Call s a d m p b)))
    (λ rest. refl) (λ rest n. refl) (omega arith)
again (Stmt-F.Now v) = from_layer (Stmt-F.Now v) (roll-Stmt (Stmt-F.Now v)) refl
    (λ n rest f small h. now_again n v rest ∙ ap (λ (s : Stmt). read_to s rest) (sym (rolls-Now v)))
    (λ rest. refl) (λ rest n. refl) (omega arith)
again (Stmt-F.Random v) = from_layer (Stmt-F.Random v) (roll-Stmt (Stmt-F.Random v)) refl
    (λ n rest f small h. random_again n v rest ∙ ap (λ (s : Stmt). read_to s rest) (sym (rolls-Random v)))
    (λ rest. refl) (λ rest n. refl) (omega arith)
again (Stmt-F.Reply s b) = from_layer (Stmt-F.Reply s b) (roll-Stmt (Stmt-F.Reply s b)) refl
    (λ n rest f small h.
    let c = and_parts (expr_within s 32) (expr_within b 32) f in
    ap (one n) (reply_more (expr_tokens s) (expr_tokens b) rest)
    ∙ reply_again n s b rest c.0 c.1
    ∙ ap (λ (s : Stmt). read_to s rest) (sym (rolls-Reply s b)))
    (λ rest. refl) (λ rest n. refl) (omega arith)
again (Stmt-F.If x b None) = from_layer (Stmt-F.If x b.0 None) (roll-Stmt (Stmt-F.If x b.0 None)) refl
    (λ n rest f small h.
    let c = conjuncts_of_three (expr_within x 32) (block_fits b.0 n) true f in
    let fewer : length (block_tokens b.0) ≤ 65536 =
    omega (arith, small, length-append (expr_tokens x) (block_tokens b.0 ++ []), length-append (block_tokens b.0) []) in
    ap (one n) (if_more (expr_tokens x) (block_tokens b.0) rest)
    ∙ if_again n x b.0 None (block_tokens b.0 ++ rest) rest rest c.0 (b.1.at n rest c.1 fewer) (h n)
    ∙ ap (λ (s : Stmt). read_to s rest) (sym (rolls-If x b.0 None)))
    (λ rest. refl) (λ rest n. refl) (omega arith)
again (Stmt-F.If x b (Some c)) = from_layer (Stmt-F.If x b.0 (Some c.0)) (roll-Stmt (Stmt-F.If x b.0 (Some c.0))) refl
    (λ n rest f small h.
    let k = conjuncts_of_three (expr_within x 32) (block_fits b.0 n) (block_fits c.0 n) f in
    let sum = length-append (expr_tokens x) (block_tokens b.0 ++ (token.Else ∷ block_tokens c.0)) in
    let last = length-append (block_tokens b.0) (token.Else ∷ block_tokens c.0) in
    let fewer : length (block_tokens b.0) ≤ 65536 = omega (arith, small, sum, last) in
    let others : length (block_tokens c.0) ≤ 65536 = omega (arith, small, sum, last) in
    let behind : List Token = token.Else ∷ (block_tokens c.0 ++ rest) in
    ap (one n) (if_else_more (expr_tokens x) (block_tokens b.0) (block_tokens c.0) rest)
    ∙ if_again n x b.0 (Some c.0) (block_tokens b.0 ++ behind) behind rest k.0 (b.1.at n behind k.1 fewer) (else_again n c.0 rest (c.1.at n rest k.2 others))
    ∙ ap (λ (s : Stmt). read_to s rest) (sym (rolls-If x b.0 (Some c.0))))
    (λ rest. refl) (λ rest n. refl) (omega arith)

abbrev bares : List S → List Stmt
bares ss = map (λ s. s.0) ss

abbrev all_tokens : List S → List Token
all_tokens ss = joined (map stmt_tokens (bares ss))

next_no_else : (ss : List S) (rest : List Token) → IsNotElse (all_tokens ss ++ (token.Close ∷ rest))
unfolding else_in
next_no_else [] rest n = refl
next_no_else (s ∷ ss) rest n =
    let e = append_assoc (stmt_tokens s.0) (all_tokens ss) (token.Close ∷ rest) in
    subst (λ (ts : List Token). else_in (block_at n) ts ≡ Ok (None, ts)) (sym e) (s.1.no_else (all_tokens ss ++ (token.Close ∷ rest)) n)

abbrev then_more : ℕ → ℕ → Stmt × List Token → Read (List Stmt)
then_more k n s = stmts_in k (one n) s.1 >>= λ more. Ok (s.0 ∷ more.0, more.1)

one_more : (k n : ℕ) (s : Stmt) (ss : List Stmt) (first : Read Stmt) (others rest : List Token) → first ≡ Ok (s, others) → stmts_in k (one n) others ≡ Ok (ss, rest)
    → (first >>= then_more k n) ≡ Ok (s ∷ ss, rest)
one_more k n s ss first others rest h g = rw h (rw g refl)

stmts_again : (ss : List S) (k n : ℕ) (rest : List Token) → length ss < k → all_fit (map stmt_fits (bares ss)) n ≡ true → length (all_tokens ss) ≤ 65536
    → stmts_in k (one n) (all_tokens ss ++ (token.Close ∷ rest)) ≡ Ok (bares ss, rest)
stmts_again ss zero n rest lt f small = absurd (omega arith)
stmts_again [] (suc k) n rest lt f small = stmts_closed k (one n) (token.Close ∷ rest) rest refl
stmts_again (s ∷ ss) (suc k) n rest lt f small =
    let others = all_tokens ss ++ (token.Close ∷ rest) in
    let fs = and_parts (stmt_fits s.0 n) (all_fit (map stmt_fits (bares ss)) n) f in
    ap (λ (ts : List Token). stmts_in (suc k) (one n) ts) (append_assoc (stmt_tokens s.0) (all_tokens ss) (token.Close ∷ rest))
    ∙ stmts_next k (one n) (stmt_tokens s.0 ++ others) (s.1.goes_on others)
    ∙ one_more k n s.0 (bares ss) (one n (stmt_tokens s.0 ++ others)) others rest
    (s.1.at n others fs.0 (omega (arith, small, length-append (stmt_tokens s.0) (all_tokens ss))) (next_no_else ss rest))
    (stmts_again ss k n rest (omega arith) fs.1 (omega (arith, small, length-append (stmt_tokens s.0) (all_tokens ss))))

count_le : (ss : List S) → length ss ≤ length (all_tokens ss)
count_le [] = omega arith
count_le (s ∷ ss) = omega (arith, count_le ss, s.1.some, length-append (stmt_tokens s.0) (all_tokens ss))

whole_block : (n : ℕ) (ts : List Token) (ss : List Stmt) (rest : List Token) → stmts_in most (one n) ts ≡ Ok (ss, rest) → block_in (block_at n) (token.Open ∷ ts) ≡ Ok (block_of ss, rest)
unfolding block_in
whole_block n ts ss rest h = rw (h, ◌>>=◌) refl

block_again_at : (ss : List S) (n : ℕ) (rest : List Token) → block_fits (block_of (bares ss)) n ≡ true → length (block_tokens (block_of (bares ss))) ≤ 65536
    → block_at n (block_tokens (block_of (bares ss)) ++ rest) ≡ Ok (block_of (bares ss), rest)
unfolding block_at
block_again_at ss zero rest f small = absurd (let k : false ≡ true = sym (block_layer (bares ss)).none ∙ f in cc)
block_again_at ss (suc n) rest f small =
    let l = block_layer (bares ss) in
    let long : length (token.Open ∷ (all_tokens ss ++ (token.Close ∷ []))) ≤ 65536 = subst (λ (ts : List Token). length ts ≤ 65536) l.spells small in
    let fewer : length (all_tokens ss) ≤ 65536 = omega (arith, long, length-append (all_tokens ss) (token.Close ∷ [])) in
    let count : length ss < most = omega (arith, count_le ss, fewer) in
    ap (λ (ts : List Token). block_in (block_at n) (ts ++ rest)) l.spells
    ∙ ap (λ (ts : List Token). block_in (block_at n) (token.Open ∷ ts)) (append_assoc (all_tokens ss) (token.Close ∷ []) rest)
    ∙ whole_block n (all_tokens ss ++ (token.Close ∷ rest)) (bares ss) rest (stmts_again ss most n rest count (sym (l.fits n) ∙ f) fewer)

from_row : (ss : List S) → IsReadBlock (block_of (bares ss))
from_row ss = record { at = block_again_at ss }

pub block_again : (b : Block) → IsReadBlock b
block_again = ind-Block IsReadStmt IsReadBlock
    (λ x y is. subst (λ x. IsReadStmt (roll-Stmt x)) is (again y))
    (λ x y is. subst (λ (x : Block-F Stmt Block). IsReadBlock (roll-Block x)) is (from_row y.stmts))

-- ---- routes

pattern_again : (p : List ℕ) (rest : List Token) → is_path p ≡ true → pattern_at (token.Str p ∷ rest) ≡ Ok (p, rest)
pattern_again p rest h = rw h refl

route_again : (r : Route) (rest : List Token) → is_path r.pattern ≡ true → block_fits r.block 32 ≡ true → length (block_tokens r.block) ≤ 65536 → route_at (route_tokens r ++ rest) ≡ Ok (r, rest)
unfolding route_at route_in
route_again r rest p b small =
    then_ok (pattern_at (token.Str r.pattern ∷ (block_tokens r.block ++ rest))) (λ q. block_at 32 q.1 >>= λ c. Ok (record { method = r.method; pattern = q.0; block = c.0 }, c.1)) (r.pattern, block_tokens r.block ++ rest) (Ok (r, rest))
    (pattern_again r.pattern (block_tokens r.block ++ rest) p)
    (then_ok (block_at 32 (block_tokens r.block ++ rest)) (λ c. Ok (record { method = r.method; pattern = r.pattern; block = c.0 }, c.1)) (r.block, rest) (Ok (r, rest)) ((block_again r.block).at 32 rest b small) refl)

routes_more : (k : ℕ) (r : Route) (rs : List Route) (others : List Token) → route_at (route_tokens r ++ others) ≡ Ok (r, others) → routes_in k others ≡ Ok rs → routes_in (suc k) (route_tokens r ++ others) ≡ Ok (r ∷ rs)
routes_more k r rs others h g =
    routes_next k (route_tokens r ++ others) (omega arith)
    ∙ then_ok (route_at (route_tokens r ++ others)) (λ x. routes_in k x.1 >>= λ more. Ok (x.0 ∷ more)) (r, others) (Ok (r ∷ rs)) h
    (then_ok (routes_in k others) (λ more. Ok (r ∷ more)) rs (Ok (r ∷ rs)) g refl)

pub routes_again : (rs : List Route) (k : ℕ) → length rs < k → routes_fit rs ≡ true → length (program_tokens rs) ≤ 65536 → routes_in k (program_tokens rs) ≡ Ok rs
routes_again rs zero lt f small = absurd (omega arith)
routes_again [] (suc k) lt f small = routes_ended k
routes_again (r ∷ rs) (suc k) lt f small =
    let c = conjuncts_of_three (is_path r.pattern) (block_fits r.block 32) (routes_fit rs) f in
    let sum = length-append (route_tokens r) (program_tokens rs) in
    let one_route = route_again r (program_tokens rs) c.0 c.1 (omega (arith, small, sum)) in
    routes_more k r rs (program_tokens rs) one_route (routes_again rs k (omega arith) c.2 (omega (arith, small, sum)))

pub routes_count : (rs : List Route) → length rs ≤ length (program_tokens rs)
routes_count [] = omega arith
routes_count (r ∷ rs) = omega (arith, routes_count rs, length-append (route_tokens r) (program_tokens rs))
