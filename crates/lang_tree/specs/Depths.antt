-- Whether the parts of a program are of their forms, and nest no deeper than they may.
use Rattle.std.specs.Prelude.{ℕ, ℤ, pos, negsuc, ◌-◌, if◌then◌else◌, Bool, true, false, ◌&&◌, List, [], ◌∷◌, Option, Some, None, nat_le, nat_eq}
use Rattle.lang_tree.specs.Forms.{is_literal, is_path, is_word}
use Rattle.lang_tree.specs.declared.expr.Expr.{Expr}
use Rattle.lang_tree.specs.declared.expr.Expr.TheOpen.{Expr-F}
use Rattle.lang_tree.specs.declared.expr.Expr.TheFolds.{fold-Expr}
use Rattle.lang_tree.specs.declared.stmt.Stmt.{Stmt}
use Rattle.lang_tree.specs.declared.stmt.Stmt.TheOpen.{Stmt-F, Block-F}
use Rattle.lang_tree.specs.declared.stmt.Stmt.TheFolds.{fold-Stmt, fold-Block}
use Rattle.lang_tree.specs.declared.stmt.Block.{Block}
use Rattle.lang_tree.specs.declared.program.Route.{Route}

-- whether something is of its form, where so many levels are left to it
abbrev pub Fits : Type 0
Fits = ℕ → Bool

-- on a level of its own
abbrev pub nested : Fits → Fits
nested f most = if nat_eq most 0 then false else f (most - 1)

abbrev pub is_natural : ℤ → Bool
is_natural (pos n) = true
is_natural (negsuc n) = false

abbrev pub expr_parts_fit : Expr-F Fits → Fits
expr_parts_fit (Expr-F.Integer n) most = is_natural n
expr_parts_fit (Expr-F.Str text) most = is_literal text
expr_parts_fit Expr-F.Nothing most = true
expr_parts_fit Expr-F.Body most = true
expr_parts_fit Expr-F.Who most = true
expr_parts_fit (Expr-F.Var name) most = is_word name
expr_parts_fit (Expr-F.Path n) most = nat_le 1 n && nat_le n 32
expr_parts_fit (Expr-F.Part text by n) most = text most && by most && n most
expr_parts_fit (Expr-F.Number e) most = e most
expr_parts_fit (Expr-F.AsText e) most = e most
expr_parts_fit (Expr-F.Pair left op right) most = left most && right most

abbrev pub expr_within : Expr → Fits
expr_within = fold-Expr Fits (λ e. nested (expr_parts_fit e))

abbrev pub expr_fits : Expr → Bool
expr_fits e = expr_within e 32

abbrev pub maybe_fits : Option Fits → Fits
maybe_fits None most = true
maybe_fits (Some f) most = f most

-- a block in a statement stands as deep as the statement, and is nested by itself
abbrev pub stmt_parts_fit : Stmt-F Fits Fits → Fits
stmt_parts_fit (Stmt-F.Let var value) most = is_word var && expr_fits value
stmt_parts_fit (Stmt-F.Get var table key) most = is_word var && is_word table && expr_fits key
stmt_parts_fit (Stmt-F.Put table key value) most = is_word table && expr_fits key && expr_fits value
stmt_parts_fit (Stmt-F.Drop table key) most = is_word table && expr_fits key
stmt_parts_fit (Stmt-F.Each key text table prefix block) most =
    is_word key && is_word text && is_word table && expr_fits prefix && block most
stmt_parts_fit (Stmt-F.If test first other) most = expr_fits test && first most && maybe_fits other most
stmt_parts_fit (Stmt-F.Call status answer dest method path body) most =
    is_word status && is_word answer && expr_fits dest && expr_fits path && expr_fits body
stmt_parts_fit (Stmt-F.Now var) most = is_word var
stmt_parts_fit (Stmt-F.Random var) most = is_word var
stmt_parts_fit (Stmt-F.Reply status body) most = expr_fits status && expr_fits body

abbrev pub all_fit : List Fits → Fits
all_fit [] most = true
all_fit (f ∷ fs) most = f most && all_fit fs most

abbrev pub block_parts_fit : Block-F Fits Fits → Fits
block_parts_fit b = nested (all_fit b.stmts)

abbrev pub stmt_fits : Stmt → Fits
stmt_fits = fold-Stmt Fits Fits stmt_parts_fit block_parts_fit

abbrev pub block_fits : Block → Fits
block_fits = fold-Block Fits Fits stmt_parts_fit block_parts_fit

abbrev pub other_fits : Option Block → Fits
other_fits None most = true
other_fits (Some b) most = block_fits b most

abbrev pub routes_fit : List Route → Bool
routes_fit [] = true
routes_fit (r ∷ rs) = is_path r.pattern && block_fits r.block 32 && routes_fit rs
