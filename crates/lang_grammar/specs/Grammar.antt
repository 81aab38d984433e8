-- The grammar: the one list of tokens that a program has.
use Rattle.std.specs.Prelude.{ℕ, ℤ, pos, negsuc, List, [], ◌∷◌, ◌++◌, Option, Some, None, nat_le, if◌then◌else◌}
use Rattle.lang_tokens.specs.declared.token.Token.{Token}
use Rattle.lang_tokens.specs.declared.token.Token.TheVariants as token
use Rattle.lang_tree.specs.declared.expr.Op.{Op}
use Rattle.lang_tree.specs.declared.expr.Op.TheVariants as op
use Rattle.lang_tree.specs.declared.expr.Expr.{Expr}
use Rattle.lang_tree.specs.declared.expr.Expr.TheOpen.{Expr-F}
use Rattle.lang_tree.specs.declared.expr.Expr.TheFolds.{fold-Expr}
use Rattle.lang_tree.specs.declared.stmt.Stmt.{Stmt}
use Rattle.lang_tree.specs.declared.stmt.Stmt.TheOpen.{Stmt-F, Block-F}
use Rattle.lang_tree.specs.declared.stmt.Stmt.TheFolds.{fold-Stmt, fold-Block}
use Rattle.lang_tree.specs.declared.stmt.Block.{Block}
use Rattle.lang_tree.specs.declared.program.Route.{Route}

-- op = "+" | "-" | "*" | "=" | "<" | "++"
abbrev pub op_token : Op → Token
op_token op.Add = token.Plus
op_token op.Sub = token.Minus
op_token op.Mul = token.Star
op_token op.Equal = token.Equals
op_token op.Less = token.Less
op_token op.Join = token.Join

-- the integer of `path`; a number that no program has there has a token that no text has
abbrev pub segment : ℕ → ℤ
segment n = if nat_le n 32 then pos n else negsuc 0

-- expr = integer | string | "nothing" | "body" | "who" | var | "path" "(" integer ")"
--      | "part" "(" expr "," expr "," expr ")" | "number" "(" expr ")" | "text" "(" expr ")" | "(" expr op expr ")"
abbrev pub expr_form : Expr-F (List Token) → List Token
expr_form (Expr-F.Integer n) = token.Integer n ∷ []
expr_form (Expr-F.Str text) = token.Str text ∷ []
expr_form Expr-F.Nothing = token.Nothing ∷ []
expr_form Expr-F.Body = token.Body ∷ []
expr_form Expr-F.Who = token.Who ∷ []
expr_form (Expr-F.Var name) = token.Word name ∷ []
expr_form (Expr-F.Path n) = token.Path ∷ (token.Left ∷ (token.Integer (segment n) ∷ (token.Right ∷ [])))
expr_form (Expr-F.Part text by n) = token.Part ∷ (token.Left ∷ (text ++ (token.Comma ∷ (by ++ (token.Comma ∷ (n ++ (token.Right ∷ [])))))))
expr_form (Expr-F.Number e) = token.Number ∷ (token.Left ∷ (e ++ (token.Right ∷ [])))
expr_form (Expr-F.AsText e) = token.AsText ∷ (token.Left ∷ (e ++ (token.Right ∷ [])))
expr_form (Expr-F.Pair left o right) = token.Left ∷ (left ++ (op_token o ∷ (right ++ (token.Right ∷ []))))

abbrev pub expr_tokens : Expr → List Token
expr_tokens = fold-Expr (List Token) expr_form

-- [ "else" block ]
abbrev pub else_form : Option (List Token) → List Token
else_form None = []
else_form (Some block) = token.Else ∷ block

-- stmt = "let" var "=" expr ";" | "get" var "=" table expr ";" | "put" table expr "=" expr ";" | "drop" table expr ";"
--      | "each" var "," var "in" table expr block | "if" expr block [ "else" block ]
--      | "call" var "," var "=" expr METHOD expr expr ";" | "now" var ";" | "random" var ";" | "reply" expr expr ";"
abbrev pub stmt_form : Stmt-F (List Token) (List Token) → List Token
stmt_form (Stmt-F.Let var value) = token.Let ∷ (token.Word var ∷ (token.Equals ∷ (expr_tokens value ++ (token.Semicolon ∷ []))))
stmt_form (Stmt-F.Get var table key) = token.Get ∷ (token.Word var ∷ (token.Equals ∷ (token.Word table ∷ (expr_tokens key ++ (token.Semicolon ∷ [])))))
stmt_form (Stmt-F.Put table key value) = token.Put ∷ (token.Word table ∷ (expr_tokens key ++ (token.Equals ∷ (expr_tokens value ++ (token.Semicolon ∷ [])))))
stmt_form (Stmt-F.Drop table key) = token.Drop ∷ (token.Word table ∷ (expr_tokens key ++ (token.Semicolon ∷ [])))
stmt_form (Stmt-F.Each key text table prefix block) =
    token.Each ∷ (token.Word key ∷ (token.Comma ∷ (token.Word text ∷ (token.In ∷ (token.Word table ∷ (expr_tokens prefix ++ block))))))
stmt_form (Stmt-F.If test first other) = token.If ∷ (expr_tokens test ++ (first ++ else_form other))
stmt_form (Stmt-F.Call status answer dest method path body) =
    token.Call ∷ (token.Word status ∷ (token.Comma ∷ (token.Word answer ∷ (token.Equals
    ∷ (expr_tokens dest ++ (token.Method method ∷ (expr_tokens path ++ (expr_tokens body ++ (token.Semicolon ∷ [])))))))))
stmt_form (Stmt-F.Now var) = token.Now ∷ (token.Word var ∷ (token.Semicolon ∷ []))
stmt_form (Stmt-F.Random var) = token.Random ∷ (token.Word var ∷ (token.Semicolon ∷ []))
stmt_form (Stmt-F.Reply status body) = token.Reply ∷ (expr_tokens status ++ (expr_tokens body ++ (token.Semicolon ∷ [])))

-- one behind the other
abbrev pub joined : List (List Token) → List Token
joined [] = []
joined (ts ∷ tss) = ts ++ joined tss

-- block = "{" { stmt } "}"
abbrev pub block_form : Block-F (List Token) (List Token) → List Token
block_form b = token.Open ∷ (joined b.stmts ++ (token.Close ∷ []))

abbrev pub stmt_tokens : Stmt → List Token
stmt_tokens = fold-Stmt (List Token) (List Token) stmt_form block_form

abbrev pub block_tokens : Block → List Token
block_tokens = fold-Block (List Token) (List Token) stmt_form block_form

abbrev pub other_tokens : Option Block → List Token
other_tokens None = []
other_tokens (Some b) = token.Else ∷ block_tokens b

-- route = "route" METHOD string block
abbrev pub route_tokens : Route → List Token
route_tokens r = token.Route ∷ (token.Method r.method ∷ (token.Str r.pattern ∷ block_tokens r.block))

-- program = { route }
abbrev pub program_tokens : List Route → List Token
program_tokens [] = []
program_tokens (r ∷ rs) = route_tokens r ++ program_tokens rs
