-- Programs that are kept as texts.
use Rattle.std.proofs.Common.{◌≡◌, ◌∙◌, ◌≤◌, ℕ, Bool, true, false, List, length, Option, Some, None, Ok, refl, sym, ap, subst, arith}
use Rattle.std.specs.Prelude.{is_some, if◌then◌else◌}
use Rattle.std.specs.List.{list_all}
use Rattle.std.proofs.lemmas.Bool.{cond-true}
use Rattle.std.proofs.lemmas.Bool.Decides.{nat_tests}
use Rattle.handler_lang.specs.HandedOn.{lex, tokens}
use Rattle.handler_lang.specs.HandedOn.{is_held}
use Rattle.lang_tree.specs.Depths.{routes_fit}
use Rattle.lang_tree.specs.declared.program.Route.{Route}
use Rattle.handler_lang.specs.HandedOn.{program_tokens}
use Rattle.handler_lang.specs.HandedOn.{text_of}
use Rattle.handler_lang.specs.HandedOn.{most, program_of}
use Rattle.handler_lang.specs.Spelled.{Spells}
use Rattle.handler_lang.proofs.AgainStmts.{routes_again, routes_count}
use Rattle.handler_lang.proofs.Spelled.{printed_spells}
use Rattle.lang_programs.specs.Printed.{IsKept, fitting, is_long, kept_program, program_in, routes_or_none}

-- a text that isn't long is read as what it spells
spelled_is_read : (text : List ℕ) (p : List Route) → Spells text p → routes_fit p ≡ true → is_long text ≡ false → program_of (tokens (lex text)) ≡ Ok p
spelled_is_read text p spells fits short =
    let few : length (program_tokens p) ≤ 65536 = let same = ap length spells in grind (arith, nat_tests) in
    ap program_of spells ∙ routes_again p most (omega (arith, routes_count p, few)) fits few

-- a text that is kept alone is read back
pub read_back : (text : List ℕ) → IsKept None text (kept_program None text) → program_of (tokens (lex text)) ≡ Ok (kept_program None text)
read_back text kept = spelled_is_read text (kept_program None text) kept.spells kept.fits (sym kept.beside)

-- a printed text that isn't long is read as the program
pub printed_is_read : (p : List Route) → list_all is_held (program_tokens p) ≡ true → routes_fit p ≡ true → is_long (text_of p) ≡ false → program_in (text_of p) ≡ Some p
printed_is_read p held fits short = ap fitting (spelled_is_read (text_of p) p (printed_spells p fits held) fits short) ∙ cond-true (routes_fit p) (Some p) None fits

-- what is kept of a program
module _ (text : List ℕ) (p : List Route) (printed : text ≡ text_of p) (held : list_all is_held (program_tokens p) ≡ true) (fits : routes_fit p ≡ true) where
  spells : Spells text p
  spells = ap (λ (t : List ℕ). tokens (lex t)) printed ∙ printed_spells p fits held

  record IsKeptAs (tree : Option (List Route)) : Type 0 where
    pub program : kept_program tree text ≡ p
    pub kept : IsKept tree text (kept_program tree text)

  keeps : (tree : Option (List Route)) → kept_program tree text ≡ p → is_some tree ≡ is_long text → IsKeptAs tree
  keeps tree same told = record {
    program = same;
    kept = subst (λ (q : List Route). IsKept tree text q) (sym same) (record { prints = printed; spells = spells; fits = fits; beside = told });
  }

  keeps_by : (long : Bool) → is_long text ≡ long → IsKeptAs (if long then Some p else None)
  keeps_by true long = keeps (Some p) refl (sym long)
  keeps_by false long = keeps None (ap routes_or_none (spelled_is_read text p spells fits long)) (sym long)

  kept_as : (tree : Option (List Route)) → tree ≡ (if is_long text then Some p else None) → IsKeptAs tree
  kept_as tree is = subst (λ (t : Option (List Route)). IsKeptAs t) (sym is) (keeps_by (is_long text) refl)

  pub kept_is : (tree : Option (List Route)) → tree ≡ (if is_long text then Some p else None) → kept_program tree text ≡ p
  kept_is tree is = (kept_as tree is).program

  pub kept_so : (tree : Option (List Route)) → tree ≡ (if is_long text then Some p else None) → IsKept tree text (kept_program tree text)
  kept_so tree is = (kept_as tree is).kept

-- texts and trees that keep the same program are the same
trees_same : (t u : Option (List Route)) (x : List ℕ) → is_some t ≡ is_some u → kept_program t x ≡ kept_program u x → t ≡ u
trees_same None None x both same = refl
trees_same None (Some q) x both same = absurd cc
trees_same (Some p) None x both same = absurd cc
trees_same (Some p) (Some q) x both same = ap (λ (r : List Route). Some r) same

module _ (t u : Option (List Route)) (x y : List ℕ) (left : IsKept t x (kept_program t x)) (right : IsKept u y (kept_program u y)) (same : kept_program t x ≡ kept_program u y) where
  pub same_kept_text : x ≡ y
  same_kept_text = left.prints ∙ ap text_of same ∙ sym right.prints

  pub same_kept_tree : t ≡ u
  same_kept_tree = trees_same t u x (left.beside ∙ ap is_long same_kept_text ∙ sym right.beside) (same ∙ ap (kept_program u) (sym same_kept_text))
