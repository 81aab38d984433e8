-- The tokens of a tree, and whether it fits, by the form at its root.
use Rattle.std.proofs.Common.{◌≡◌, ℕ, suc, ◌-◌, false, List, [], ◌∷◌, ◌++◌, map, refl, sym, ap, ◌∙◌, arith}
use Rattle.std.specs.Prelude.{nat_eq}
use Rattle.std.proofs.lemmas.Bool.Decides.{nat_tests}
use Rattle.lang_tokens.specs.declared.token.Token.{Token}
use Rattle.lang_tokens.specs.declared.token.Token.TheVariants as token
use Rattle.lang_tree.specs.Depths.{Fits, nested, expr_parts_fit, expr_within, stmt_parts_fit, all_fit, block_parts_fit, stmt_fits, block_fits}
use Rattle.lang_tree.specs.declared.expr.Expr.{Expr, roll-Expr, map-Expr}
use Rattle.lang_tree.specs.declared.expr.Expr.TheOpen.{Expr-F}
use Rattle.lang_tree.specs.declared.expr.Expr.TheFolds.{fold-roll-Expr}
use Rattle.lang_tree.specs.declared.stmt.Stmt.{Stmt, roll-Stmt, map-Stmt}
use Rattle.lang_tree.specs.declared.stmt.Stmt.TheOpen.{Stmt-F}
use Rattle.lang_tree.specs.declared.stmt.Stmt.TheFolds.{fold-roll-Stmt, fold-roll-Block}
use Rattle.lang_tree.specs.declared.stmt.Block.{Block, roll-Block}
use Rattle.lang_grammar.specs.Grammar.{expr_form, expr_tokens, stmt_form, joined, block_form, stmt_tokens, block_tokens}

pub nested_more : (f : Fits) (n : ℕ) → nested f (suc n) ≡ f n
nested_more f n =
    let less : suc n - 1 ≡ n = omega arith in
    let more : nat_eq (suc n) 0 ≡ false = grind (arith, nat_tests) in
    rw (more, less) refl

abbrev pub expr_layer_tokens : Expr-F Expr → List Token
expr_layer_tokens x = expr_form (map-Expr Expr (List Token) expr_tokens x)

abbrev pub expr_layer_fits : Expr-F Expr → Fits
expr_layer_fits x = expr_parts_fit (map-Expr Expr Fits expr_within x)

pub record ExprLayer (x : Expr-F Expr) (e : Expr) : Type 0 where
  pub spells : expr_tokens e ≡ expr_layer_tokens x
  pub fits : (n : ℕ) → expr_within e (suc n) ≡ expr_layer_fits x n
  pub none : expr_within e 0 ≡ false

pub expr_layer : (x : Expr-F Expr) (e : Expr) → roll-Expr x ≡ e → ExprLayer x e
expr_layer x e is =
    let within : expr_within e ≡ nested (expr_layer_fits x) = ap expr_within (sym is) ∙ fold-roll-Expr Fits (λ y. nested (expr_parts_fit y)) x in
    record {
      spells = ap expr_tokens (sym is) ∙ fold-roll-Expr (List Token) expr_form x;
      fits = λ n. ap (λ (f : Fits). f (suc n)) within ∙ nested_more (expr_layer_fits x) n;
      none = ap (λ (f : Fits). f 0) within;
    }

abbrev pub stmt_layer_tokens : Stmt-F Stmt Block → List Token
stmt_layer_tokens x = stmt_form (map-Stmt Stmt Block (List Token) (List Token) stmt_tokens block_tokens x)

abbrev pub stmt_layer_fits : Stmt-F Stmt Block → Fits
stmt_layer_fits x = stmt_parts_fit (map-Stmt Stmt Block Fits Fits stmt_fits block_fits x)

pub record StmtLayer (x : Stmt-F Stmt Block) (s : Stmt) : Type 0 where
  pub spells : stmt_tokens s ≡ stmt_layer_tokens x
  pub fits : (n : ℕ) → stmt_fits s n ≡ stmt_layer_fits x n

pub stmt_layer : (x : Stmt-F Stmt Block) (s : Stmt) → roll-Stmt x ≡ s → StmtLayer x s
stmt_layer x s is = record {
  spells = ap stmt_tokens (sym is) ∙ fold-roll-Stmt (List Token) (List Token) stmt_form block_form x;
  fits = λ n. ap (λ (f : Fits). f n) (ap stmt_fits (sym is) ∙ fold-roll-Stmt Fits Fits stmt_parts_fit block_parts_fit x);
}

abbrev pub block_of : List Stmt → Block
block_of ss = record { stmts = ss }

pub record BlockLayer (ss : List Stmt) : Type 0 where
  pub spells : block_tokens (block_of ss) ≡ token.Open ∷ (joined (map stmt_tokens ss) ++ (token.Close ∷ []))
  pub fits : (n : ℕ) → block_fits (block_of ss) (suc n) ≡ all_fit (map stmt_fits ss) n
  pub none : block_fits (block_of ss) 0 ≡ false

rolls_block : (ss : List Stmt) → roll-Block (record { stmts = ss }) ≡ block_of ss
rolls_block ss = refl

pub block_layer : (ss : List Stmt) → BlockLayer ss
block_layer ss =
    let within : block_fits (block_of ss) ≡ nested (all_fit (map stmt_fits ss)) = ap block_fits (sym (rolls_block ss)) ∙ fold-roll-Block Fits Fits stmt_parts_fit block_parts_fit (record { stmts = ss }) in
    record {
      spells = ap block_tokens (sym (rolls_block ss)) ∙ fold-roll-Block (List Token) (List Token) stmt_form block_form (record { stmts = ss });
      fits = λ n. ap (λ (f : Fits). f (suc n)) within ∙ nested_more (all_fit (map stmt_fits ss)) n;
      none = ap (λ (f : Fits). f 0) within;
    }
