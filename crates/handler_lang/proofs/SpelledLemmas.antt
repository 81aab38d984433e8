-- The tokens of a program are tokens that a text can have.
use Rattle.std.proofs.Common.{◌≡◌, ℕ, zero, suc, true, false, List, [], ◌∷◌, ◌++◌, map, length, Some, None, refl, sym, subst, ◌∙◌, arith}
use Rattle.std.specs.Prelude.{nat_eq, nat_le}
use Rattle.std.specs.List.{AllByRecursion, list_all, starts_with}
use Rattle.lang_tokens.specs.declared.token.Token.{Token}
use Rattle.lang_tokens.specs.declared.token.Token.TheVariants as token
use Rattle.lang_tokens.specs.Spelling.{IsSpelled}
use Rattle.lang_tree.specs.Depths.{all_fit, block_fits, expr_within, is_natural, routes_fit, stmt_fits}
use Rattle.lang_base.specs.Characters.{is_visible}
use Rattle.lang_tree.specs.Forms.{is_literal, is_literal_byte, is_path, is_word}
use Rattle.lang_tree.specs.declared.expr.Op.{Op}
use Rattle.lang_tree.specs.declared.expr.Op.TheVariants as op
use Rattle.lang_tree.specs.declared.expr.Expr.{Expr, roll-Expr, map-Expr}
use Rattle.lang_tree.specs.declared.expr.Expr.TheOpen.{Expr-F}
use Rattle.lang_tree.specs.declared.expr.Expr.TheFolds.{ind-Expr}
use Rattle.lang_tree.specs.declared.stmt.Stmt.{Stmt, roll-Stmt, map-Stmt}
use Rattle.lang_tree.specs.declared.stmt.Stmt.TheOpen.{Stmt-F, Block-F}
use Rattle.lang_tree.specs.declared.stmt.Stmt.TheFolds.{ind-Block}
use Rattle.lang_tree.specs.declared.stmt.Block.{Block, roll-Block}
use Rattle.lang_tree.specs.declared.program.Route.{Route}
use Rattle.std.proofs.lemmas.Bool.Decides.{nat_tests}
use Rattle.lang_grammar.specs.Grammar.{block_tokens, expr_tokens, joined, op_token, program_tokens, route_tokens, segment, stmt_tokens}
use Rattle.std.proofs.lemmas.Bool.{and_from, and_parts}
use Rattle.handler_lang.proofs.Conjuncts.{five, conjuncts_of_three}
use Rattle.lang_grammar.proofs.Layers.{block_layer, block_of, expr_layer, expr_layer_fits, expr_layer_tokens, stmt_layer, stmt_layer_fits, stmt_layer_tokens}

abbrev pub AreSpelled : List Token → Type 0
AreSpelled ts = AllByRecursion IsSpelled ts

all_append : (xs ys : List Token) → AreSpelled xs → AreSpelled ys → AreSpelled (xs ++ ys)
all_append [] ys h g = g
all_append (x ∷ xs) ys h g = (h.0, all_append xs ys h.1 g)

record IsSpelledExpr (e : Expr) : Type 0 where
  all : (n : ℕ) → expr_within e n ≡ true → AreSpelled (expr_tokens e)

spelled_at : (x : Expr-F Expr) (e : Expr) → roll-Expr x ≡ e → ((n : ℕ) → expr_layer_fits x n ≡ true → AreSpelled (expr_layer_tokens x)) → IsSpelledExpr e
spelled_at x e is h = record { all = go } where
  go : (n : ℕ) → expr_within e n ≡ true → AreSpelled (expr_tokens e)
  go zero f = absurd (let k : false ≡ true = sym (expr_layer x e is).none ∙ f in cc)
  go (suc n) f = subst AreSpelled (sym (expr_layer x e is).spells) (h n (sym ((expr_layer x e is).fits n) ∙ f))

op_spelled : (o : Op) (ts : List Token) → AreSpelled ts → AreSpelled (op_token o ∷ ts)
op_spelled op.Add ts h = (tt, h)
op_spelled op.Sub ts h = (tt, h)
op_spelled op.Mul ts h = (tt, h)
op_spelled op.Equal ts h = (tt, h)
op_spelled op.Less ts h = (tt, h)
op_spelled op.Join ts h = (tt, h)

segment_natural : (k : ℕ) → nat_le k 32 ≡ true → is_natural (segment k) ≡ true
segment_natural k small = rw small refl

again : (y : Expr-F ((e : Expr) × IsSpelledExpr e)) → IsSpelledExpr (roll-Expr (map-Expr ((e : Expr) × IsSpelledExpr e) Expr (λ p. p.0) y))
again (Expr-F.Integer k) = spelled_at (Expr-F.Integer k) (roll-Expr (Expr-F.Integer k)) refl (λ n f. (f, tt))
again (Expr-F.Str t) = spelled_at (Expr-F.Str t) (roll-Expr (Expr-F.Str t)) refl (λ n f. (f, tt))
again (Expr-F.Var w) = spelled_at (Expr-F.Var w) (roll-Expr (Expr-F.Var w)) refl (λ n f. (f, tt))
again Expr-F.Nothing = spelled_at Expr-F.Nothing (roll-Expr Expr-F.Nothing) refl (λ n f. (tt, tt))
again Expr-F.Body = spelled_at Expr-F.Body (roll-Expr Expr-F.Body) refl (λ n f. (tt, tt))
again Expr-F.Who = spelled_at Expr-F.Who (roll-Expr Expr-F.Who) refl (λ n f. (tt, tt))
again (Expr-F.Path k) = spelled_at (Expr-F.Path k) (roll-Expr (Expr-F.Path k)) refl (λ n f. (tt, (tt, (segment_natural k (and_parts (nat_le 1 k) (nat_le k 32) f).1, (tt, tt)))))
again (Expr-F.Number e) = spelled_at (Expr-F.Number e.0) (roll-Expr (Expr-F.Number e.0)) refl (λ n f. (tt, (tt, all_append (expr_tokens e.0) (token.Right ∷ []) (e.1.all n f) (tt, tt))))
again (Expr-F.AsText e) = spelled_at (Expr-F.AsText e.0) (roll-Expr (Expr-F.AsText e.0)) refl (λ n f. (tt, (tt, all_append (expr_tokens e.0) (token.Right ∷ []) (e.1.all n f) (tt, tt))))
again (Expr-F.Pair l o r) = spelled_at (Expr-F.Pair l.0 o r.0) (roll-Expr (Expr-F.Pair l.0 o r.0)) refl
    (λ n f.
    let k = and_parts (expr_within l.0 n) (expr_within r.0 n) f in
    let right : AreSpelled (expr_tokens r.0 ++ (token.Right ∷ [])) = all_append (expr_tokens r.0) (token.Right ∷ []) (r.1.all n k.1) (tt, tt) in
    (tt, all_append (expr_tokens l.0) (op_token o ∷ (expr_tokens r.0 ++ (token.Right ∷ []))) (l.1.all n k.0) (op_spelled o (expr_tokens r.0 ++ (token.Right ∷ [])) right)))
again (Expr-F.Part a b c) = spelled_at (Expr-F.Part a.0 b.0 c.0) (roll-Expr (Expr-F.Part a.0 b.0 c.0)) refl
    (λ n f.
    let k = conjuncts_of_three (expr_within a.0 n) (expr_within b.0 n) (expr_within c.0 n) f in
    let last : AreSpelled (expr_tokens c.0 ++ (token.Right ∷ [])) = all_append (expr_tokens c.0) (token.Right ∷ []) (c.1.all n k.2) (tt, tt) in
    let behind : AreSpelled (expr_tokens b.0 ++ (token.Comma ∷ (expr_tokens c.0 ++ (token.Right ∷ [])))) =
    all_append (expr_tokens b.0) (token.Comma ∷ (expr_tokens c.0 ++ (token.Right ∷ []))) (b.1.all n k.1) (tt, last) in
    (tt, (tt, all_append (expr_tokens a.0) (token.Comma ∷ (expr_tokens b.0 ++ (token.Comma ∷ (expr_tokens c.0 ++ (token.Right ∷ []))))) (a.1.all n k.0) (tt, behind))))

expr_spelled : (e : Expr) → IsSpelledExpr e
expr_spelled = ind-Expr IsSpelledExpr (λ x y is. subst (λ x. IsSpelledExpr (roll-Expr x)) is (again y))

-- ---- statements and blocks

record IsSpelledStmt (s : Stmt) : Type 0 where
  all : (n : ℕ) → stmt_fits s n ≡ true → AreSpelled (stmt_tokens s)

record IsSpelledBlock (b : Block) : Type 0 where
  all : (n : ℕ) → block_fits b n ≡ true → AreSpelled (block_tokens b)

stmt_spelled_at : (x : Stmt-F Stmt Block) (s : Stmt) → roll-Stmt x ≡ s → ((n : ℕ) → stmt_layer_fits x n ≡ true → AreSpelled (stmt_layer_tokens x)) → IsSpelledStmt s
stmt_spelled_at x s is h = record { all = λ n f. subst AreSpelled (sym (stmt_layer x s is).spells) (h n (sym ((stmt_layer x s is).fits n) ∙ f)) }

abbrev S : Type 0
S = (s : Stmt) × IsSpelledStmt s

abbrev B : Type 0
B = (b : Block) × IsSpelledBlock b

then_expr : (x : Expr) (ts : List Token) → expr_within x 32 ≡ true → AreSpelled ts → AreSpelled (expr_tokens x ++ ts)
then_expr x ts f h = all_append (expr_tokens x) ts ((expr_spelled x).all 32 f) h

then_end : (x : Expr) → expr_within x 32 ≡ true → AreSpelled (expr_tokens x ++ (token.Semicolon ∷ []))
then_end x f = then_expr x (token.Semicolon ∷ []) f (tt, tt)

stmt_again : (y : Stmt-F S B) → IsSpelledStmt (roll-Stmt (map-Stmt S B Stmt Block (λ e. e.0) (λ e. e.0) y))
stmt_again (Stmt-F.Let v x) = stmt_spelled_at (Stmt-F.Let v x) (roll-Stmt (Stmt-F.Let v x)) refl
    (λ n f.
    let k = and_parts (is_word v) (expr_within x 32) f in
    (tt, (k.0, (tt, then_end x k.1))))
stmt_again (Stmt-F.Get v t k) = stmt_spelled_at (Stmt-F.Get v t k) (roll-Stmt (Stmt-F.Get v t k)) refl
    (λ n f.
    let h = conjuncts_of_three (is_word v) (is_word t) (expr_within k 32) f in
    (tt, (h.0, (tt, (h.1, then_end k h.2)))))
stmt_again (Stmt-F.Put t k x) = stmt_spelled_at (Stmt-F.Put t k x) (roll-Stmt (Stmt-F.Put t k x)) refl
    (λ n f.
    let h = conjuncts_of_three (is_word t) (expr_within k 32) (expr_within x 32) f in
    (tt, (h.0, then_expr k (token.Equals ∷ (expr_tokens x ++ (token.Semicolon ∷ []))) h.1 (tt, then_end x h.2))))
stmt_again (Stmt-F.Drop t k) = stmt_spelled_at (Stmt-F.Drop t k) (roll-Stmt (Stmt-F.Drop t k)) refl
    (λ n f.
    let h = and_parts (is_word t) (expr_within k 32) f in
    (tt, (h.0, then_end k h.1)))
stmt_again (Stmt-F.Each k x t p b) = stmt_spelled_at (Stmt-F.Each k x t p b.0) (roll-Stmt (Stmt-F.Each k x t p b.0)) refl
    (λ n f.
    let h = five (is_word k) (is_word x) (is_word t) (expr_within p 32) (block_fits b.0 n) f in
    (tt, (h.0, (tt, (h.1, (tt, (h.2, then_expr p (block_tokens b.0) h.3 (b.1.all n h.4))))))))
stmt_again (Stmt-F.Call s a d m p b) = stmt_spelled_at (Stmt-F.Call s a d m p b) (roll-Stmt (Stmt-F.Call s a d m p b)) refl
    (λ n f.
    let h = five (is_word s) (is_word a) (expr_within d 32) (expr_within p 32) (expr_within b 32) f in
    let last : AreSpelled (expr_tokens p ++ (expr_tokens b ++ (token.Semicolon ∷ []))) = then_expr p (expr_tokens b ++ (token.Semicolon ∷ [])) h.3 (then_end b h.4) in
    (tt, (h.0, (tt, (h.1, (tt, then_expr d (token.Method m ∷ (expr_tokens p ++ (expr_tokens b ++ (token.Semicolon ∷ [])))) h.2 (tt, last)))))))
stmt_again (Stmt-F.Now v) = stmt_spelled_at (Stmt-F.Now v) (roll-Stmt (Stmt-F.Now v)) refl (λ n f. (tt, (f, (tt, tt))))
stmt_again (Stmt-F.Random v) = stmt_spelled_at (Stmt-F.Random v) (roll-Stmt (Stmt-F.Random v)) refl (λ n f. (tt, (f, (tt, tt))))
stmt_again (Stmt-F.Reply s b) = stmt_spelled_at (Stmt-F.Reply s b) (roll-Stmt (Stmt-F.Reply s b)) refl
    (λ n f.
    let h = and_parts (expr_within s 32) (expr_within b 32) f in
    (tt, then_expr s (expr_tokens b ++ (token.Semicolon ∷ [])) h.0 (then_end b h.1)))
stmt_again (Stmt-F.If x b None) = stmt_spelled_at (Stmt-F.If x b.0 None) (roll-Stmt (Stmt-F.If x b.0 None)) refl
    (λ n f.
    let h = conjuncts_of_three (expr_within x 32) (block_fits b.0 n) true f in
    (tt, then_expr x (block_tokens b.0 ++ []) h.0 (all_append (block_tokens b.0) [] (b.1.all n h.1) tt)))
stmt_again (Stmt-F.If x b (Some c)) = stmt_spelled_at (Stmt-F.If x b.0 (Some c.0)) (roll-Stmt (Stmt-F.If x b.0 (Some c.0))) refl
    (λ n f.
    let h = conjuncts_of_three (expr_within x 32) (block_fits b.0 n) (block_fits c.0 n) f in
    let last : AreSpelled (block_tokens b.0 ++ (token.Else ∷ block_tokens c.0)) = all_append (block_tokens b.0) (token.Else ∷ block_tokens c.0) (b.1.all n h.1) (tt, c.1.all n h.2) in
    (tt, then_expr x (block_tokens b.0 ++ (token.Else ∷ block_tokens c.0)) h.0 last))

abbrev bares : List S → List Stmt
bares ss = map (λ s. s.0) ss

stmts_spelled : (ss : List S) (n : ℕ) → all_fit (map stmt_fits (bares ss)) n ≡ true → AreSpelled (joined (map stmt_tokens (bares ss)))
stmts_spelled [] n f = tt
stmts_spelled (s ∷ ss) n f =
    let k = and_parts (stmt_fits s.0 n) (all_fit (map stmt_fits (bares ss)) n) f in
    all_append (stmt_tokens s.0) (joined (map stmt_tokens (bares ss))) (s.1.all n k.0) (stmts_spelled ss n k.1)

block_spelled_at : (ss : List S) (n : ℕ) → block_fits (block_of (bares ss)) n ≡ true → AreSpelled (block_tokens (block_of (bares ss)))
block_spelled_at ss zero f = absurd (let k : false ≡ true = sym (block_layer (bares ss)).none ∙ f in cc)
block_spelled_at ss (suc n) f =
    let l = block_layer (bares ss) in
    subst AreSpelled (sym l.spells) (tt, all_append (joined (map stmt_tokens (bares ss))) (token.Close ∷ []) (stmts_spelled ss n (sym (l.fits n) ∙ f)) (tt, tt))

block_spelled : (b : Block) → IsSpelledBlock b
block_spelled = ind-Block IsSpelledStmt IsSpelledBlock
    (λ x y is. subst (λ x. IsSpelledStmt (roll-Stmt x)) is (stmt_again y))
    (λ x y is. subst (λ (x : Block-F Stmt Block). IsSpelledBlock (roll-Block x)) is (record { all = block_spelled_at y.stmts }))

-- ---- routes

visible_literal : (b : ℕ) → is_visible b ≡ true → is_literal_byte b ≡ true
visible_literal b h = grind (arith, nat_tests)

all_literal : (text : List ℕ) → list_all is_visible text ≡ true → list_all is_literal_byte text ≡ true
all_literal [] h = refl
all_literal (b ∷ bs) h =
    let k = and_parts (is_visible b) (list_all is_visible bs) h in
    and_from (is_literal_byte b) (list_all is_literal_byte bs) (visible_literal b k.0) (all_literal bs k.1)

shorter : (n : ℕ) → nat_le n 1024 ≡ true → nat_le n 65536 ≡ true
shorter n h = grind (arith, nat_tests)

path_literal : (text : List ℕ) → is_path text ≡ true → is_literal text ≡ true
path_literal text h =
    let k = conjuncts_of_three (starts_with nat_eq text (47 ∷ [])) (nat_le (length text) 1024) (list_all is_visible text) h in
    and_from (nat_le (length text) 65536) (list_all is_literal_byte text) (shorter (length text) k.1) (all_literal text k.2)

pub fits_spelled : (rs : List Route) → routes_fit rs ≡ true → AreSpelled (program_tokens rs)
fits_spelled [] f = tt
fits_spelled (r ∷ rs) f =
    let k = conjuncts_of_three (is_path r.pattern) (block_fits r.block 32) (routes_fit rs) f in
    all_append (route_tokens r) (program_tokens rs) (tt, (tt, (path_literal r.pattern k.0, (block_spelled r.block).all 32 k.1))) (fits_spelled rs k.2)
