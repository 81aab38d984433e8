-- The laws of reading an expression, form by form.
use Rattle.std.proofs.Common.{◌≡◌, ℕ, zero, suc, Bool, true, false, List, [], ◌∷◌, ◌++◌, length, Ok, Err, refl, ap, ◌∙◌, append_assoc}
use Rattle.std.specs.Prelude.{◌&&◌, if◌then◌else◌}
use Rattle.lang_reader.specs.Reading.{gives}
use Rattle.lang_reader.proofs.Laws.{Completes, laws_end, laws_head, laws_one, laws_stop, reads_bound, reads_given, reads_marked}
use Rattle.lang_tokens.specs.declared.token.Token.{Token}
use Rattle.lang_tokens.specs.declared.token.Token.TheVariants as token
use Rattle.lang_tokens.proofs.KeptLemmas.{AreKept}
use Rattle.lang_tree.specs.Depths.{expr_within}
use Rattle.lang_tree.specs.declared.expr.Op.{Op}
use Rattle.lang_tree.specs.declared.expr.Expr.{Expr, roll-Expr}
use Rattle.lang_tree.specs.declared.expr.Expr.TheVariants as expr
use Rattle.lang_tree.specs.declared.expr.Expr.TheVariants.{rolls-Integer, rolls-Str, rolls-Nothing, rolls-Body, rolls-Who, rolls-Var, rolls-Path, rolls-Part, rolls-Number, rolls-AsText, rolls-Pair}
use Rattle.lang_tree.specs.declared.expr.Expr.TheOpen.{Expr-F}
use Rattle.lang_grammar.specs.Grammar.{expr_tokens, op_token}
use Rattle.lang_grammar.proofs.Layers.{expr_layer, expr_layer_fits, expr_layer_tokens}
use Rattle.lang_reader.specs.declared.stop.Cause.TheVariants as cause
use Rattle.lang_reader.specs.declared.stop.Stop.{Stop}
use Rattle.lang_reader.specs.Readers.{begins_expr, expr_at, expr_in, number_in, pair_in, part_in, path_in, refused, stop, text_in}
use Rattle.std.proofs.lemmas.Bool.{and_from}
use Rattle.handler_lang.proofs.TokenLaws.{At, Reads, by_tokens, comma_mark, kept_behind, laws_refused, left_mark, op_reads, refused_at, refused_is, right_mark, segment_reads, there_is}

-- it fits where so many levels are left
abbrev pub ExprFits : ℕ → Expr → Type 0
ExprFits n e = expr_within e n ≡ true

abbrev ReadsAt : ℕ → Type 0
ReadsAt n = Reads [] (expr_at n) expr_tokens (ExprFits n)

-- an expression of this form
made : {Holds : Expr → Type 0} {front : List Token} (x : Expr-F Expr) {e : Expr} → roll-Expr x ≡ e → expr_layer_tokens x ≡ front → Holds e → Reads front (gives e) expr_tokens Holds
made x is spells holds = reads_given ((expr_layer x _ is).spells ∙ spells) holds

fits : (x : Expr-F Expr) {e : Expr} (n : ℕ) → roll-Expr x ≡ e → expr_layer_fits x n ≡ true → ExprFits (suc n) e
fits x n is f = (expr_layer x _ is).fits n ∙ f

path_reads : (n : ℕ) → Reads (token.Path ∷ []) path_in expr_tokens (ExprFits (suc n))
unfolding path_in
path_reads n =
    reads_marked left_mark
    (reads_bound segment_reads (λ k.
    reads_marked right_mark
    (made (Expr-F.Path k) (rolls-Path k) refl (λ kf. fits (Expr-F.Path k) n (rolls-Path k) kf))))

one_regroup : (t : Token) (es : List Token) → t ∷ (token.Left ∷ (es ++ (token.Right ∷ []))) ≡ (((t ∷ []) ++ (token.Left ∷ [])) ++ es) ++ (token.Right ∷ [])
one_regroup t es = simp append_assoc

number_reads : (n : ℕ) → ReadsAt n → Reads (token.Number ∷ []) (number_in (expr_at n)) expr_tokens (ExprFits (suc n))
unfolding number_in
number_reads n inner =
    reads_marked left_mark
    (reads_bound inner (λ e.
    reads_marked right_mark
    (made (Expr-F.Number e) (rolls-Number e) (one_regroup token.Number (expr_tokens e)) (λ ef. fits (Expr-F.Number e) n (rolls-Number e) ef))))

text_reads : (n : ℕ) → ReadsAt n → Reads (token.AsText ∷ []) (text_in (expr_at n)) expr_tokens (ExprFits (suc n))
unfolding text_in
text_reads n inner =
    reads_marked left_mark
    (reads_bound inner (λ e.
    reads_marked right_mark
    (made (Expr-F.AsText e) (rolls-AsText e) (one_regroup token.AsText (expr_tokens e)) (λ ef. fits (Expr-F.AsText e) n (rolls-AsText e) ef))))

pair_regroup : (ls rs : List Token) (o : Op) → token.Left ∷ (ls ++ (op_token o ∷ (rs ++ (token.Right ∷ [])))) ≡ ((((token.Left ∷ []) ++ ls) ++ (op_token o ∷ [])) ++ rs) ++ (token.Right ∷ [])
pair_regroup ls rs o = simp append_assoc

pair_reads : (n : ℕ) → ReadsAt n → Reads (token.Left ∷ []) (pair_in (expr_at n)) expr_tokens (ExprFits (suc n))
unfolding pair_in
pair_reads n inner =
    reads_bound inner (λ l.
    reads_bound op_reads (λ o.
    reads_bound inner (λ r.
    reads_marked right_mark
    (made (Expr-F.Pair l o r) (rolls-Pair l o r) (pair_regroup (expr_tokens l) (expr_tokens r) o)
    (λ rf of lf. fits (Expr-F.Pair l o r) n (rolls-Pair l o r) (and_from (expr_within l n) (expr_within r n) lf rf))))))

part_regroup : (a b c : List Token) → token.Part ∷ (token.Left ∷ (a ++ (token.Comma ∷ (b ++ (token.Comma ∷ (c ++ (token.Right ∷ [])))))))
    ≡ (((((((token.Part ∷ []) ++ (token.Left ∷ [])) ++ a) ++ (token.Comma ∷ [])) ++ b) ++ (token.Comma ∷ [])) ++ c) ++ (token.Right ∷ [])
part_regroup a b c = simp append_assoc

part_reads : (n : ℕ) → ReadsAt n → Reads (token.Part ∷ []) (part_in (expr_at n)) expr_tokens (ExprFits (suc n))
unfolding part_in
part_reads n inner =
    reads_marked left_mark
    (reads_bound inner (λ a.
    reads_marked comma_mark
    (reads_bound inner (λ b.
    reads_marked comma_mark
    (reads_bound inner (λ c.
    reads_marked right_mark
    (made (Expr-F.Part a b c) (rolls-Part a b c) (part_regroup (expr_tokens a) (expr_tokens b) (expr_tokens c))
    (λ cf bf af. fits (Expr-F.Part a b c) n (rolls-Part a b c) (and_from (expr_within a n && expr_within b n) (expr_within c n) (and_from (expr_within a n) (expr_within b n) af bf) cf)))))))))

-- ---- any expression

some_expr : Completes [] expr_tokens
some_expr = there_is expr.Nothing expr_tokens

-- an expression of one token
leaf : (n : ℕ) (t : Token) (x : Expr-F Expr) (e : Expr) → roll-Expr x ≡ e → expr_layer_tokens x ≡ t ∷ [] → ((ts : List Token) → expr_in (expr_at n) (t ∷ ts) ≡ Ok (e, ts)) → ((ts : List Token) → AreKept (t ∷ ts) → expr_layer_fits x n ≡ true) → (ts : List Token) → At (expr_in (expr_at n)) expr_tokens (ExprFits (suc n)) (t ∷ ts)
leaf n t x e is spells takes fit ts = laws_one t e takes ((expr_layer x e is).spells ∙ spells) (λ us kept. (fits x n is (fit us kept), kept.1)) ts

any_reads : (n : ℕ) → ReadsAt n → (ts : List Token) → At (expr_in (expr_at n)) expr_tokens (ExprFits (suc n)) ts
unfolding expr_in
any_reads n inner [] = laws_end (refused []) some_expr refl refl
any_reads n inner (token.Integer k ∷ ts) = leaf n (token.Integer k) (Expr-F.Integer k) (expr.Integer k) (rolls-Integer k) refl (λ us. refl) (λ us kept. kept.0) ts
any_reads n inner (token.Str text ∷ ts) = leaf n (token.Str text) (Expr-F.Str text) (expr.Str text) (rolls-Str text) refl (λ us. refl) (λ us kept. kept.0) ts
any_reads n inner (token.Word w ∷ ts) = leaf n (token.Word w) (Expr-F.Var w) (expr.Var w) (rolls-Var w) refl (λ us. refl) (λ us kept. kept.0) ts
any_reads n inner (token.Nothing ∷ ts) = leaf n token.Nothing Expr-F.Nothing expr.Nothing rolls-Nothing refl (λ us. refl) (λ us kept. refl) ts
any_reads n inner (token.Body ∷ ts) = leaf n token.Body Expr-F.Body expr.Body rolls-Body refl (λ us. refl) (λ us kept. refl) ts
any_reads n inner (token.Who ∷ ts) = leaf n token.Who Expr-F.Who expr.Who rolls-Who refl (λ us. refl) (λ us kept. refl) ts
any_reads n inner (token.Path ∷ ts) = laws_head token.Path (λ us. refl) (kept_behind token.Path) (path_reads n) ts
any_reads n inner (token.Part ∷ ts) = laws_head token.Part (λ us. refl) (kept_behind token.Part) (part_reads n inner) ts
any_reads n inner (token.Number ∷ ts) = laws_head token.Number (λ us. refl) (kept_behind token.Number) (number_reads n inner) ts
any_reads n inner (token.AsText ∷ ts) = laws_head token.AsText (λ us. refl) (kept_behind token.AsText) (text_reads n inner) ts
any_reads n inner (token.Left ∷ ts) = laws_head token.Left (λ us. refl) (kept_behind token.Left) (pair_reads n inner) ts
any_reads n inner (t ∷ ts) = laws_refused t some_expr (λ us. refl) ts

-- where no level is left
abbrev deep_at : Token → Stop
deep_at t = if begins_expr t then stop cause.TooDeep [] else refused_at t

deep_is : (t : Token) (ts : List Token) (b : Bool) → (if b then stop cause.TooDeep (t ∷ ts) else refused (t ∷ ts)) ≡ by_tokens.moved (if b then stop cause.TooDeep [] else refused_at t) (suc (length ts))
deep_is t ts true = refl
deep_is t ts false = refused_is t ts

too_deep : (ts : List Token) → At (expr_at zero) expr_tokens (ExprFits zero) ts
unfolding expr_at
too_deep [] = laws_end (refused []) some_expr refl refl
too_deep (t ∷ ts) = laws_stop t (deep_at t) some_expr (λ us. ap (λ s. Err s) (deep_is t us (begins_expr t))) ts

pub expr_reads : (n : ℕ) → ReadsAt n
unfolding expr_at
expr_reads zero = record { at = too_deep; some = some_expr }
expr_reads (suc n) = record { at = any_reads n (expr_reads n); some = some_expr }
