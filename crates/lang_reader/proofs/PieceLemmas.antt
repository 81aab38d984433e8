-- Forms, by the pieces that are read of them.
use Rattle.std.proofs.Common.{◌≡◌, List, Result, Ok, Err, refl}
use Rattle.lang_tokens.specs.declared.token.Token.{Token}
use Rattle.lang_tree.specs.declared.expr.Expr.{Expr}
use Rattle.lang_tree.specs.declared.expr.Expr.TheVariants as expr
use Rattle.lang_tree.specs.declared.stmt.Stmt.TheVariants as stmt
use Rattle.lang_tree.specs.declared.stmt.Block.{Block}
use Rattle.lang_reader.specs.declared.stop.Stop.{Stop}
use Rattle.lang_reader.specs.Pieces.{in_turn, with_mark}
use Rattle.lang_reader.specs.Reading.{◌>>=◌}
use Rattle.lang_reader.specs.Readers.{Read, call_in, comma_at, drop_in, each_in, else_in, equals_at, get_in, if_in, in_at, left_at, let_in, method_at, number_in, op_at, pair_in, part_in, put_in, reply_in, right_at, semicolon_at, text_in, word_at}

abbrev Reads : Type 0 → Type 0
Reads A = List Token → Read A

-- steps may be grouped
bind_bind : {A B C : Type 0} (r : Result A Stop) (f : A → Result B Stop) (g : B → Result C Stop) → ((r >>= f) >>= g) ≡ (r >>= λ x. f x >>= g)
bind_bind (Ok x) f g = refl
bind_bind (Err e) f g = refl

-- ---- expressions

pub part_pieces : (operand : Reads Expr) (ts : List Token)
    → part_in operand ts ≡ (left_at ts >>= λ rest. in_turn (with_mark operand comma_at) (with_mark operand comma_at) rest >>= λ x. with_mark operand right_at x.1 >>= λ n. Ok (expr.Part x.0.0 x.0.1 n.0, n.1))
unfolding part_in in_turn with_mark
part_pieces operand ts = simp bind_bind

pub number_pieces : (operand : Reads Expr) (ts : List Token)
    → number_in operand ts ≡ (left_at ts >>= λ rest. with_mark operand right_at rest >>= λ e. Ok (expr.Number e.0, e.1))
unfolding number_in with_mark
number_pieces operand ts = simp bind_bind

pub text_pieces : (operand : Reads Expr) (ts : List Token)
    → text_in operand ts ≡ (left_at ts >>= λ rest. with_mark operand right_at rest >>= λ e. Ok (expr.AsText e.0, e.1))
unfolding text_in with_mark
text_pieces operand ts = simp bind_bind

pub pair_pieces : (operand : Reads Expr) (ts : List Token)
    → pair_in operand ts ≡ (in_turn operand op_at ts >>= λ l. with_mark operand right_at l.1 >>= λ r. Ok (expr.Pair l.0.0 l.0.1 r.0, r.1))
unfolding pair_in in_turn with_mark
pair_pieces operand ts = simp bind_bind

-- ---- statements

pub let_pieces : (value : Reads Expr) (ts : List Token)
    → let_in value ts ≡ (with_mark word_at equals_at ts >>= λ v. with_mark value semicolon_at v.1 >>= λ x. Ok (stmt.Let v.0 x.0, x.1))
unfolding let_in with_mark
let_pieces value ts = simp bind_bind

pub get_pieces : (value : Reads Expr) (ts : List Token)
    → get_in value ts ≡ (with_mark word_at equals_at ts >>= λ v. in_turn word_at (with_mark value semicolon_at) v.1 >>= λ r. Ok (stmt.Get v.0 r.0.0 r.0.1, r.1))
unfolding get_in in_turn with_mark
get_pieces value ts = simp bind_bind

pub put_pieces : (value : Reads Expr) (ts : List Token)
    → put_in value ts ≡ (with_mark (in_turn word_at value) equals_at ts >>= λ r. with_mark value semicolon_at r.1 >>= λ x. Ok (stmt.Put r.0.0 r.0.1 x.0, x.1))
unfolding put_in in_turn with_mark
put_pieces value ts = simp bind_bind

pub drop_pieces : (value : Reads Expr) (ts : List Token)
    → drop_in value ts ≡ (in_turn word_at (with_mark value semicolon_at) ts >>= λ r. Ok (stmt.Drop r.0.0 r.0.1, r.1))
unfolding drop_in in_turn with_mark
drop_pieces value ts = simp bind_bind

pub call_pieces : (value : Reads Expr) (ts : List Token)
    → call_in value ts ≡ (in_turn (with_mark word_at comma_at) (with_mark word_at equals_at) ts >>= λ w. in_turn value method_at w.1 >>= λ d. in_turn value (with_mark value semicolon_at) d.1 >>= λ s.
    Ok (stmt.Call w.0.0 w.0.1 d.0.0 d.0.1 s.0.0 s.0.1, s.1))
unfolding call_in in_turn with_mark
call_pieces value ts = simp bind_bind

pub reply_pieces : (value : Reads Expr) (ts : List Token)
    → reply_in value ts ≡ (in_turn value (with_mark value semicolon_at) ts >>= λ x. Ok (stmt.Reply x.0.0 x.0.1, x.1))
unfolding reply_in in_turn with_mark
reply_pieces value ts = simp bind_bind

pub each_pieces : (value : Reads Expr) (inner : Reads Block) (ts : List Token)
    → each_in value inner ts ≡ (in_turn (in_turn (with_mark word_at comma_at) (with_mark word_at in_at)) (in_turn word_at value) ts >>= λ h. inner h.1 >>= λ b.
    Ok (stmt.Each h.0.0.0 h.0.0.1 h.0.1.0 h.0.1.1 b.0, b.1))
unfolding each_in in_turn with_mark
each_pieces value inner ts = simp bind_bind

pub if_pieces : (value : Reads Expr) (inner : Reads Block) (ts : List Token)
    → if_in value inner ts ≡ (value ts >>= λ x. in_turn inner (else_in inner) x.1 >>= λ b. Ok (stmt.If x.0 b.0.0 b.0.1, b.1))
unfolding if_in in_turn
if_pieces value inner ts = simp bind_bind
