-- Reading tokens from left to right: what is read and the tokens behind it, or where reading stops and why. Where a
-- part may be of several forms, its first token decides.
use Rattle.std.specs.Prelude.{◌≡◌, ℕ, ℤ, zero, suc, pos, negsuc, Bool, true, false, ◌&&◌, List, [], ◌∷◌, length, Option, Some, None, Result, Ok, Err, nat_le, if◌then◌else◌}
use Rattle.lang_reader.specs.Reading.{◌>>=◌}
use Rattle.lang_tokens.specs.declared.token.Token.{Token}
use Rattle.lang_tokens.specs.declared.token.Token.TheVariants as token
use Rattle.lang_tree.specs.Forms.{is_path}
use Rattle.lang_tree.specs.declared.method.Method.{Method}
use Rattle.lang_tree.specs.declared.expr.Op.{Op}
use Rattle.lang_tree.specs.declared.expr.Op.TheVariants as op
use Rattle.lang_tree.specs.declared.expr.Expr.{Expr}
use Rattle.lang_tree.specs.declared.expr.Expr.TheVariants as expr
use Rattle.lang_tree.specs.declared.stmt.Stmt.{Stmt}
use Rattle.lang_tree.specs.declared.stmt.Stmt.TheVariants as stmt
use Rattle.lang_tree.specs.declared.stmt.Block.{Block}
use Rattle.lang_tree.specs.declared.program.Route.{Route}
use Rattle.lang_reader.specs.declared.stop.Cause.{Cause}
use Rattle.lang_reader.specs.declared.stop.Cause.TheVariants as cause
use Rattle.lang_reader.specs.declared.stop.Stop.{Stop}
use Rattle.lang_reader.specs.declared.stop.ReadFailed.{ReadFailed}
use Rattle.lang_reader.specs.declared.stop.ReadFailed.TheVariants as failed

-- what a function answered is what reading gives, unless memory ran out
abbrev pub Fails : {Y : Type 0} → ReadFailed → Result Y Stop → Type 0
Fails failed.NoMemory read = Unit {0}
Fails (failed.At s) read = read ≡ Err s

abbrev pub ReadsAs : {X Y : Type 0} → (X → Y) → Result X ReadFailed → Result Y Stop → Type 0
ReadsAs view (Ok x) read = read ≡ Ok (view x)
ReadsAs view (Err e) read = Fails e read

-- something read, and the tokens behind it
abbrev pub Read : Type 0 → Type 0
Read A = Result (A × List Token) Stop

abbrev pub stop : Cause → List Token → Stop
stop why ts = record { cause = why; left = length ts }

-- why the first token doesn't fit, or the end
abbrev pub misfit : List Token → Cause
misfit (token.BadNumber ∷ ts) = cause.BadNumber
misfit (token.BadString ∷ ts) = cause.BadString
misfit _ = cause.Unexpected

abbrev pub refused : List Token → Stop
refused ts = stop (misfit ts) ts

-- whether an expression may begin with this token
abbrev pub begins_expr : Token → Bool
begins_expr (token.Integer n) = true
begins_expr (token.Str text) = true
begins_expr (token.Word name) = true
begins_expr token.Nothing = true
begins_expr token.Body = true
begins_expr token.Who = true
begins_expr token.Path = true
begins_expr token.Part = true
begins_expr token.Number = true
begins_expr token.AsText = true
begins_expr token.Left = true
begins_expr _ = false

-- where no level is left for an expression
abbrev pub deep_expr : List Token → Stop
deep_expr [] = refused []
deep_expr (t ∷ ts) = if begins_expr t then stop cause.TooDeep (t ∷ ts) else refused (t ∷ ts)

-- where no level is left for a block
abbrev pub deep_block : List Token → Stop
deep_block (token.Open ∷ ts) = stop cause.TooDeep (token.Open ∷ ts)
deep_block ts = refused ts

-- ---- single tokens

abbrev pub word_at : List Token → Read (List ℕ)
word_at (token.Word name ∷ ts) = Ok (name, ts)
word_at ts = Err (refused ts)

abbrev pub method_at : List Token → Read Method
method_at (token.Method m ∷ ts) = Ok (m, ts)
method_at ts = Err (refused ts)

abbrev pub op_at : List Token → Read Op
op_at (token.Plus ∷ ts) = Ok (op.Add, ts)
op_at (token.Minus ∷ ts) = Ok (op.Sub, ts)
op_at (token.Star ∷ ts) = Ok (op.Mul, ts)
op_at (token.Equals ∷ ts) = Ok (op.Equal, ts)
op_at (token.Less ∷ ts) = Ok (op.Less, ts)
op_at (token.Join ∷ ts) = Ok (op.Join, ts)
op_at ts = Err (refused ts)

abbrev pub equals_at : List Token → Result (List Token) Stop
equals_at (token.Equals ∷ ts) = Ok ts
equals_at ts = Err (refused ts)

abbrev pub semicolon_at : List Token → Result (List Token) Stop
semicolon_at (token.Semicolon ∷ ts) = Ok ts
semicolon_at ts = Err (refused ts)

abbrev pub comma_at : List Token → Result (List Token) Stop
comma_at (token.Comma ∷ ts) = Ok ts
comma_at ts = Err (refused ts)

abbrev pub in_at : List Token → Result (List Token) Stop
in_at (token.In ∷ ts) = Ok ts
in_at ts = Err (refused ts)

abbrev pub left_at : List Token → Result (List Token) Stop
left_at (token.Left ∷ ts) = Ok ts
left_at ts = Err (refused ts)

abbrev pub right_at : List Token → Result (List Token) Stop
right_at (token.Right ∷ ts) = Ok ts
right_at ts = Err (refused ts)

-- the integer of `path`, from 1 to 32
abbrev pub segment_from : ℤ → List Token → List Token → Read ℕ
segment_from (pos n) ts whole = if nat_le 1 n && nat_le n 32 then Ok (n, ts) else Err (stop cause.BadNumber whole)
segment_from (negsuc n) ts whole = Err (stop cause.BadNumber whole)

abbrev pub segment_at : List Token → Read ℕ
segment_at (token.Integer n ∷ ts) = segment_from n ts (token.Integer n ∷ ts)
segment_at ts = Err (refused ts)

-- a string that is a path
abbrev pub pattern_at : List Token → Read (List ℕ)
pattern_at (token.Str text ∷ ts) = if is_path text then Ok (text, ts) else Err (stop cause.BadPattern (token.Str text ∷ ts))
pattern_at ts = Err (refused ts)

-- ---- expressions, by how their operands are read

unfoldable pub path_in : List Token → Read Expr
path_in ts = do
  rest ← left_at ts
  n ← segment_at rest
  after ← right_at n.1
  Ok (expr.Path n.0, after)

unfoldable pub part_in : (List Token → Read Expr) → List Token → Read Expr
part_in operand ts = do
  rest ← left_at ts
  text ← operand rest
  rest2 ← comma_at text.1
  by ← operand rest2
  rest3 ← comma_at by.1
  n ← operand rest3
  after ← right_at n.1
  Ok (expr.Part text.0 by.0 n.0, after)

unfoldable pub number_in : (List Token → Read Expr) → List Token → Read Expr
number_in operand ts = do
  rest ← left_at ts
  e ← operand rest
  after ← right_at e.1
  Ok (expr.Number e.0, after)

unfoldable pub text_in : (List Token → Read Expr) → List Token → Read Expr
text_in operand ts = do
  rest ← left_at ts
  e ← operand rest
  after ← right_at e.1
  Ok (expr.AsText e.0, after)

unfoldable pub pair_in : (List Token → Read Expr) → List Token → Read Expr
pair_in operand ts = do
  l ← operand ts
  o ← op_at l.1
  r ← operand o.1
  after ← right_at r.1
  Ok (expr.Pair l.0 o.0 r.0, after)

unfoldable pub expr_in : (List Token → Read Expr) → List Token → Read Expr
expr_in operand (token.Integer n ∷ ts) = Ok (expr.Integer n, ts)
expr_in operand (token.Str text ∷ ts) = Ok (expr.Str text, ts)
expr_in operand (token.Word name ∷ ts) = Ok (expr.Var name, ts)
expr_in operand (token.Nothing ∷ ts) = Ok (expr.Nothing, ts)
expr_in operand (token.Body ∷ ts) = Ok (expr.Body, ts)
expr_in operand (token.Who ∷ ts) = Ok (expr.Who, ts)
expr_in operand (token.Path ∷ ts) = path_in ts
expr_in operand (token.Part ∷ ts) = part_in operand ts
expr_in operand (token.Number ∷ ts) = number_in operand ts
expr_in operand (token.AsText ∷ ts) = text_in operand ts
expr_in operand (token.Left ∷ ts) = pair_in operand ts
expr_in operand ts = Err (refused ts)

-- an expression of at most so many levels
unfoldable pub expr_at : ℕ → List Token → Read Expr
expr_at zero ts = Err (deep_expr ts)
expr_at (suc n) ts = expr_in (expr_at n) ts

-- ---- statements, by how their expressions and their blocks are read

unfoldable pub let_in : (List Token → Read Expr) → List Token → Read Stmt
let_in value ts = do
  v ← word_at ts
  rest ← equals_at v.1
  x ← value rest
  after ← semicolon_at x.1
  Ok (stmt.Let v.0 x.0, after)

unfoldable pub get_in : (List Token → Read Expr) → List Token → Read Stmt
get_in value ts = do
  v ← word_at ts
  rest ← equals_at v.1
  t ← word_at rest
  k ← value t.1
  after ← semicolon_at k.1
  Ok (stmt.Get v.0 t.0 k.0, after)

unfoldable pub put_in : (List Token → Read Expr) → List Token → Read Stmt
put_in value ts = do
  t ← word_at ts
  k ← value t.1
  rest ← equals_at k.1
  x ← value rest
  after ← semicolon_at x.1
  Ok (stmt.Put t.0 k.0 x.0, after)

unfoldable pub drop_in : (List Token → Read Expr) → List Token → Read Stmt
drop_in value ts = do
  t ← word_at ts
  k ← value t.1
  after ← semicolon_at k.1
  Ok (stmt.Drop t.0 k.0, after)

unfoldable pub each_in : (List Token → Read Expr) → (List Token → Read Block) → List Token → Read Stmt
each_in value inner ts = do
  k ← word_at ts
  rest ← comma_at k.1
  x ← word_at rest
  rest2 ← in_at x.1
  t ← word_at rest2
  p ← value t.1
  b ← inner p.1
  Ok (stmt.Each k.0 x.0 t.0 p.0 b.0, b.1)

unfoldable pub else_in : (List Token → Read Block) → List Token → Read (Option Block)
else_in inner (token.Else ∷ ts) = do
  b ← inner ts
  Ok (Some b.0, b.1)
else_in inner ts = Ok (None, ts)

unfoldable pub if_in : (List Token → Read Expr) → (List Token → Read Block) → List Token → Read Stmt
if_in value inner ts = do
  x ← value ts
  b ← inner x.1
  o ← else_in inner b.1
  Ok (stmt.If x.0 b.0 o.0, o.1)

unfoldable pub call_in : (List Token → Read Expr) → List Token → Read Stmt
call_in value ts = do
  s ← word_at ts
  rest ← comma_at s.1
  a ← word_at rest
  rest2 ← equals_at a.1
  d ← value rest2
  m ← method_at d.1
  p ← value m.1
  b ← value p.1
  after ← semicolon_at b.1
  Ok (stmt.Call s.0 a.0 d.0 m.0 p.0 b.0, after)

unfoldable pub now_in : List Token → Read Stmt
now_in ts = do
  v ← word_at ts
  after ← semicolon_at v.1
  Ok (stmt.Now v.0, after)

unfoldable pub random_in : List Token → Read Stmt
random_in ts = do
  v ← word_at ts
  after ← semicolon_at v.1
  Ok (stmt.Random v.0, after)

unfoldable pub reply_in : (List Token → Read Expr) → List Token → Read Stmt
reply_in value ts = do
  s ← value ts
  b ← value s.1
  after ← semicolon_at b.1
  Ok (stmt.Reply s.0 b.0, after)

unfoldable pub stmt_in : (List Token → Read Expr) → (List Token → Read Block) → List Token → Read Stmt
stmt_in value inner (token.Let ∷ ts) = let_in value ts
stmt_in value inner (token.Get ∷ ts) = get_in value ts
stmt_in value inner (token.Put ∷ ts) = put_in value ts
stmt_in value inner (token.Drop ∷ ts) = drop_in value ts
stmt_in value inner (token.Each ∷ ts) = each_in value inner ts
stmt_in value inner (token.If ∷ ts) = if_in value inner ts
stmt_in value inner (token.Call ∷ ts) = call_in value ts
stmt_in value inner (token.Now ∷ ts) = now_in ts
stmt_in value inner (token.Random ∷ ts) = random_in ts
stmt_in value inner (token.Reply ∷ ts) = reply_in value ts
stmt_in value inner ts = Err (refused ts)

-- ---- blocks and routes

abbrev pub close_at : List Token → Option (List Token)
close_at (token.Close ∷ ts) = Some ts
close_at ts = None

-- statements up to the end of their block, at most so many
unfoldable pub stmts_in : ℕ → (List Token → Read Stmt) → List Token → Read (List Stmt)
stmts_in zero one ts = Err (refused ts)
stmts_in (suc n) one (token.Close ∷ ts) = Ok ([], ts)
stmts_in (suc n) one ts = do
  s ← one ts
  more ← stmts_in n one s.1
  Ok (s.0 ∷ more.0, more.1)

-- more statements or routes than a text of 65,536 bytes has tokens
abbrev pub most : ℕ
most = 65537

-- a block, by how the blocks in it are read
unfoldable pub block_in : (List Token → Read Block) → List Token → Read Block
block_in inner (token.Open ∷ ts) = do
  ss ← stmts_in most (stmt_in (expr_at 32) inner) ts
  Ok (record { stmts = ss.0 }, ss.1)
block_in inner ts = Err (refused ts)

-- a block of at most so many levels
unfoldable pub block_at : ℕ → List Token → Read Block
block_at zero ts = Err (deep_block ts)
block_at (suc n) ts = block_in (block_at n) ts

unfoldable pub route_in : List Token → Read Route
route_in ts = do
  m ← method_at ts
  p ← pattern_at m.1
  b ← block_at 32 p.1
  Ok (record { method = m.0; pattern = p.0; block = b.0 }, b.1)

unfoldable pub route_at : List Token → Read Route
route_at (token.Route ∷ ts) = route_in ts
route_at ts = Err (refused ts)

-- routes up to the end, at most so many
unfoldable pub routes_in : ℕ → List Token → Result (List Route) Stop
routes_in zero ts = Err (refused ts)
routes_in (suc n) [] = Ok []
routes_in (suc n) ts = do
  r ← route_at ts
  more ← routes_in n r.1
  Ok (r.0 ∷ more)

abbrev pub program_of : List Token → Result (List Route) Stop
program_of ts = routes_in most ts
