-- An expression that is spelled so is read.
use Rattle.std.proofs.Common.{◌≡◌, ℕ, ℤ, pos, zero, suc, true, false, List, [], ◌∷◌, ◌++◌, Result, Ok, refl, sym, ap, subst, ◌∙◌, append_assoc}
use Rattle.std.specs.Prelude.{nat_le, ◌&&◌}
use Rattle.lang_tokens.specs.declared.token.Token.{Token}
use Rattle.lang_tokens.specs.declared.token.Token.TheVariants as token
use Rattle.lang_tree.specs.Depths.{expr_within}
use Rattle.lang_tree.specs.declared.expr.Op.{Op}
use Rattle.lang_tree.specs.declared.expr.Op.TheVariants as op
use Rattle.lang_tree.specs.declared.expr.Expr.{Expr, roll-Expr, map-Expr}
use Rattle.lang_tree.specs.declared.expr.Expr.TheVariants as expr
use Rattle.lang_tree.specs.declared.expr.Expr.TheVariants.{rolls-Integer, rolls-Str, rolls-Nothing, rolls-Body, rolls-Who, rolls-Var, rolls-Path, rolls-Part, rolls-Number, rolls-AsText, rolls-Pair}
use Rattle.lang_tree.specs.declared.expr.Expr.TheOpen.{Expr-F}
use Rattle.lang_tree.specs.declared.expr.Expr.TheFolds.{ind-Expr}
use Rattle.lang_reader.specs.declared.stop.Stop.{Stop}
use Rattle.lang_grammar.specs.Grammar.{expr_tokens, op_token, segment}
use Rattle.lang_reader.specs.Reading.{◌>>=◌}
use Rattle.lang_reader.specs.Readers.{expr_at, expr_in, number_in, op_at, pair_in, part_in, path_in, right_at, segment_at, text_in}
use Rattle.std.proofs.lemmas.Bool.{and_parts}
use Rattle.handler_lang.proofs.Conjuncts.{conjuncts_of_three}
use Rattle.lang_grammar.proofs.Layers.{expr_layer, expr_layer_fits, expr_layer_tokens}

pub record IsReadAgain (e : Expr) : Type 0 where
  pub at : (n : ℕ) (rest : List Token) → expr_within e n ≡ true → expr_at n (expr_tokens e ++ rest) ≡ Ok (e, rest)

again_at : (x : Expr-F Expr) (e : Expr) → roll-Expr x ≡ e → ((n : ℕ) (rest : List Token) → expr_layer_fits x n ≡ true → expr_in (expr_at n) (expr_layer_tokens x ++ rest) ≡ Ok (e, rest)) → IsReadAgain e
unfolding expr_at
again_at x e is reads = record { at = go } where
  go : (n : ℕ) (rest : List Token) → expr_within e n ≡ true → expr_at n (expr_tokens e ++ rest) ≡ Ok (e, rest)
  go zero rest fits = absurd (let k : false ≡ true = sym (expr_layer x e is).none ∙ fits in cc)
  go (suc n) rest fits = ap (λ (t : List Token). expr_in (expr_at n) (t ++ rest)) (expr_layer x e is).spells ∙ reads n rest (sym ((expr_layer x e is).fits n) ∙ fits)

pub then_ok : {A B : Type 0} (r : Result A Stop) (f : A → Result B Stop) (x : A) (y : Result B Stop) → r ≡ Ok x → f x ≡ y → (r >>= f) ≡ y
then_ok {A = A} r f x y e h = ap (λ (s : Result A Stop). s >>= f) e ∙ h

segment_read : (k : ℕ) (rest : List Token) → nat_le 1 k && nat_le k 32 ≡ true → segment_at (token.Integer (pos k) ∷ rest) ≡ Ok (k, rest)
segment_read k rest fits = rw fits refl

segment_is : (k : ℕ) → nat_le k 32 ≡ true → segment k ≡ pos k
segment_is k small = rw small refl

path_read : (k : ℕ) (rest : List Token) → nat_le 1 k && nat_le k 32 ≡ true → path_in (token.Left ∷ (token.Integer (pos k) ∷ (token.Right ∷ rest))) ≡ Ok (expr.Path k, rest)
unfolding path_in
path_read k rest fits = then_ok (segment_at (token.Integer (pos k) ∷ (token.Right ∷ rest))) (λ n. right_at n.1 >>= λ after. Ok (expr.Path n.0, after)) (k, token.Right ∷ rest) (Ok (expr.Path k, rest)) (segment_read k (token.Right ∷ rest) fits) refl

path_again : (k : ℕ) (rest : List Token) → nat_le 1 k && nat_le k 32 ≡ true → path_in (token.Left ∷ (token.Integer (segment k) ∷ (token.Right ∷ rest))) ≡ Ok (expr.Path k, rest)
path_again k rest fits =
    ap (λ (z : ℤ). path_in (token.Left ∷ (token.Integer z ∷ (token.Right ∷ rest)))) (segment_is k (and_parts (nat_le 1 k) (nat_le k 32) fits).1) ∙ path_read k rest fits

number_again : (n : ℕ) (e : Expr) (rest : List Token) → IsReadAgain e → expr_within e n ≡ true → number_in (expr_at n) (token.Left ∷ (expr_tokens e ++ (token.Right ∷ rest))) ≡ Ok (expr.Number e, rest)
unfolding number_in
number_again n e rest a fits = rw (a.at n (token.Right ∷ rest) fits, number_in, ◌>>=◌) refl

text_again : (n : ℕ) (e : Expr) (rest : List Token) → IsReadAgain e → expr_within e n ≡ true → text_in (expr_at n) (token.Left ∷ (expr_tokens e ++ (token.Right ∷ rest))) ≡ Ok (expr.AsText e, rest)
unfolding text_in
text_again n e rest a fits = rw (a.at n (token.Right ∷ rest) fits, text_in, ◌>>=◌) refl

op_again : (o : Op) (rest : List Token) → op_at (op_token o ∷ rest) ≡ Ok (o, rest)
op_again op.Add rest = refl
op_again op.Sub rest = refl
op_again op.Mul rest = refl
op_again op.Equal rest = refl
op_again op.Less rest = refl
op_again op.Join rest = refl

pair_again : (n : ℕ) (l : Expr) (o : Op) (r : Expr) (rest : List Token) → IsReadAgain l → IsReadAgain r → expr_within l n ≡ true → expr_within r n ≡ true
    → pair_in (expr_at n) (expr_tokens l ++ (op_token o ∷ (expr_tokens r ++ (token.Right ∷ rest)))) ≡ Ok (expr.Pair l o r, rest)
unfolding pair_in
pair_again n l o r rest al ar lf rf =
    rw (al.at n (op_token o ∷ (expr_tokens r ++ (token.Right ∷ rest))) lf, op_again o (expr_tokens r ++ (token.Right ∷ rest)), ar.at n (token.Right ∷ rest) rf, pair_in, ◌>>=◌) refl

part_again : (n : ℕ) (a b c : Expr) (rest : List Token) → IsReadAgain a → IsReadAgain b → IsReadAgain c → expr_within a n ≡ true → expr_within b n ≡ true → expr_within c n ≡ true
    → part_in (expr_at n) (token.Left ∷ (expr_tokens a ++ (token.Comma ∷ (expr_tokens b ++ (token.Comma ∷ (expr_tokens c ++ (token.Right ∷ rest))))))) ≡ Ok (expr.Part a b c, rest)
unfolding part_in
part_again n a b c rest ra rb rc af bf cf =
    rw (ra.at n (token.Comma ∷ (expr_tokens b ++ (token.Comma ∷ (expr_tokens c ++ (token.Right ∷ rest))))) af, rb.at n (token.Comma ∷ (expr_tokens c ++ (token.Right ∷ rest))) bf, rc.at n (token.Right ∷ rest) cf, part_in, ◌>>=◌) refl

one_more : (e rest : List Token) → (token.Left ∷ (e ++ (token.Right ∷ []))) ++ rest ≡ token.Left ∷ (e ++ (token.Right ∷ rest))
one_more e rest = simp append_assoc

pair_more : (l : List Token) (o : Token) (r rest : List Token) → (l ++ (o ∷ (r ++ (token.Right ∷ [])))) ++ rest ≡ l ++ (o ∷ (r ++ (token.Right ∷ rest)))
pair_more l o r rest = simp append_assoc

part_more : (a b c rest : List Token) → (token.Left ∷ (a ++ (token.Comma ∷ (b ++ (token.Comma ∷ (c ++ (token.Right ∷ []))))))) ++ rest ≡ token.Left ∷ (a ++ (token.Comma ∷ (b ++ (token.Comma ∷ (c ++ (token.Right ∷ rest))))))
part_more a b c rest = simp append_assoc

again : (y : Expr-F ((e : Expr) × IsReadAgain e)) → IsReadAgain (roll-Expr (map-Expr ((e : Expr) × IsReadAgain e) Expr (λ p. p.0) y))
unfolding expr_in
again (Expr-F.Integer k) = again_at (Expr-F.Integer k) (roll-Expr (Expr-F.Integer k)) refl (λ n rest f. ap (λ (v : Expr). Ok (v, rest)) (sym (rolls-Integer k)))
again (Expr-F.Str t) = again_at (Expr-F.Str t) (roll-Expr (Expr-F.Str t)) refl (λ n rest f. ap (λ (v : Expr). Ok (v, rest)) (sym (rolls-Str t)))
again (Expr-F.Var w) = again_at (Expr-F.Var w) (roll-Expr (Expr-F.Var w)) refl (λ n rest f. ap (λ (v : Expr). Ok (v, rest)) (sym (rolls-Var w)))
again Expr-F.Nothing = again_at Expr-F.Nothing (roll-Expr Expr-F.Nothing) refl (λ n rest f. ap (λ (v : Expr). Ok (v, rest)) (sym rolls-Nothing))
again Expr-F.Body = again_at Expr-F.Body (roll-Expr Expr-F.Body) refl (λ n rest f. ap (λ (v : Expr). Ok (v, rest)) (sym rolls-Body))
again Expr-F.Who = again_at Expr-F.Who (roll-Expr Expr-F.Who) refl (λ n rest f. ap (λ (v : Expr). Ok (v, rest)) (sym rolls-Who))
again (Expr-F.Path k) = again_at (Expr-F.Path k) (roll-Expr (Expr-F.Path k)) refl (λ n rest f. path_again k rest f ∙ ap (λ (v : Expr). Ok (v, rest)) (sym (rolls-Path k)))
again (Expr-F.Number e) = again_at (Expr-F.Number e.0) (roll-Expr (Expr-F.Number e.0)) refl
    (λ n rest f. ap (number_in (expr_at n)) (one_more (expr_tokens e.0) rest) ∙ number_again n e.0 rest e.1 f ∙ ap (λ (v : Expr). Ok (v, rest)) (sym (rolls-Number e.0)))
again (Expr-F.AsText e) = again_at (Expr-F.AsText e.0) (roll-Expr (Expr-F.AsText e.0)) refl
    (λ n rest f. ap (text_in (expr_at n)) (one_more (expr_tokens e.0) rest) ∙ text_again n e.0 rest e.1 f ∙ ap (λ (v : Expr). Ok (v, rest)) (sym (rolls-AsText e.0)))
again (Expr-F.Pair l o r) = again_at (Expr-F.Pair l.0 o r.0) (roll-Expr (Expr-F.Pair l.0 o r.0)) refl
    (λ n rest f.
    let k = and_parts (expr_within l.0 n) (expr_within r.0 n) f in
    ap (pair_in (expr_at n)) (pair_more (expr_tokens l.0) (op_token o) (expr_tokens r.0) rest)
    ∙ pair_again n l.0 o r.0 rest l.1 r.1 k.0 k.1
    ∙ ap (λ (v : Expr). Ok (v, rest)) (sym (rolls-Pair l.0 o r.0)))
again (Expr-F.Part a b c) = again_at (Expr-F.Part a.0 b.0 c.0) (roll-Expr (Expr-F.Part a.0 b.0 c.0)) refl
    (λ n rest f.
    let k = conjuncts_of_three (expr_within a.0 n) (expr_within b.0 n) (expr_within c.0 n) f in
    ap (part_in (expr_at n)) (part_more (expr_tokens a.0) (expr_tokens b.0) (expr_tokens c.0) rest)
    ∙ part_again n a.0 b.0 c.0 rest a.1 b.1 c.1 k.0 k.1 k.2
    ∙ ap (λ (v : Expr). Ok (v, rest)) (sym (rolls-Part a.0 b.0 c.0)))

pub expr_again : (e : Expr) → IsReadAgain e
expr_again = ind-Expr IsReadAgain (λ x y is. subst (λ x. IsReadAgain (roll-Expr x)) is (again y))
