-- Programs that are printed alike, and services that are set up as they should be.
use Rattle.std.proofs.Common.{◌≡◌, ◌↔◌, ℕ, zero, suc, ◌+◌, ◌≤◌, Bool, true, IsTrue, List, [], ◌∷◌, Some, Result, Ok, Err, IfOk, length, map, slice_get, take, sym, ap, ◌∙◌, subst, arith}
use Rattle.std.specs.List.{list_all}
use Rattle.lang_base.specs.declared.memory.NoMemory.{NoMemory}
use Rattle.lang_tokens.specs.Lexing.{lex, tokens}
use Rattle.lang_tokens.specs.Spelling.{is_held}
use Rattle.lang_tree.specs.Depths.{routes_fit}
use Rattle.lang_tree.specs.declared.program.Route.{Route}
use Rattle.lang_grammar.specs.Grammar.{program_tokens}
use Rattle.lang_grammar.specs.Printing.{text_of}
use Rattle.lang_reader.specs.Readers.{most, program_of}
use Rattle.service_events.specs.State.{Kept}
use Rattle.world_file.specs.declared.setup.Setup.{Setup}
use Rattle.node_run.specs.SetSo.{IsShort, set_by, set_of}
use Rattle.handler_lang.proofs.AgainStmts.{routes_again, routes_count}
use Rattle.handler_lang.proofs.Spelled.{printed_spells}

-- few tokens are read back as the program that they are
read_back : (rs : List Route) → routes_fit rs ≡ true → length (program_tokens rs) ≤ 65536 → program_of (program_tokens rs) ≡ Ok rs
read_back rs fit few = routes_again rs most (omega (arith, routes_count rs, few)) fit few

-- ---- programs that are printed

-- a program that fits, and its text
pub record IsPrinted (program : List Route) (text : List ℕ) : Type 0 where
  pub fit : routes_fit program ≡ true
  pub held : list_all is_held (program_tokens program) ≡ true
  pub is : text ≡ text_of program

spelt : (p : List Route) (text : List ℕ) → IsPrinted p text → tokens (lex text) ≡ program_tokens p
spelt p text printed = ap (λ t. tokens (lex t)) printed.is ∙ printed_spells p printed.fit printed.held

-- a text with few tokens is that of one program
one_program : (p q : List Route) (text : List ℕ) → IsPrinted p text → IsPrinted q text → length (tokens (lex text)) ≤ 65536 → p ≡ q
one_program p q text left right few =
    let p_spelt = spelt p text left in
    let q_spelt = spelt q text right in
    let p_few : length (program_tokens p) ≤ 65536 = subst (λ ts. length ts ≤ 65536) p_spelt few in
    let q_few : length (program_tokens q) ≤ 65536 = subst (λ ts. length ts ≤ 65536) q_spelt few in
    let p_read : program_of (tokens (lex text)) ≡ Ok p = ap program_of p_spelt ∙ read_back p left.fit p_few in
    let q_read : program_of (tokens (lex text)) ≡ Ok q = ap program_of q_spelt ∙ read_back q right.fit q_few in
    let e = sym p_read ∙ q_read in cc

-- what is printed of a program's routes
pub printed : (p routes : List Route) (text : List ℕ) → routes ≡ p → routes_fit p ≡ true → list_all is_held (program_tokens routes) ≡ true → text ≡ text_of routes → IsPrinted p text
printed p routes text same fit held is = record {
  fit = fit;
  held = subst (λ rs. list_all is_held (program_tokens rs) ≡ true) same held;
  is = is ∙ ap text_of same;
}

-- programs are equal and short exactly where their texts are equal with few tokens
pub same_printed : (p q : List Route) (s t : List ℕ) (r : Result Bool NoMemory) → IsPrinted p s → IsPrinted q t
    → IfOk r (λ same. IsTrue same ↔ ((s ≡ t) × (length (tokens (lex s)) ≤ 65536))) → IfOk r (λ same. IsTrue same ↔ ((p ≡ q) × IsShort p))
same_printed p q s t (Err why) left right tells = tt
same_printed p q s t (Ok same) left right tells = (λ yes. there (tells.0 yes), λ equal. tells.1 (back equal))
  where
    there : (s ≡ t) × (length (tokens (lex s)) ≤ 65536) → (p ≡ q) × IsShort p
    there h = (one_program p q s left (subst (IsPrinted q) (sym h.0) right) h.1, subst (λ ts. length ts ≤ 65536) (spelt p s left) h.1)

    back : (p ≡ q) × IsShort p → (s ≡ t) × (length (tokens (lex s)) ≤ 65536)
    back h = (left.is ∙ (ap text_of h.0 ∙ sym right.is), subst (λ ts. length ts ≤ 65536) (sym (spelt p s left)) h.1)

-- ---- services that are set up as they should be

sets_suc : (services : List Kept) (setups : List Setup) (i : ℕ) (s : Kept) (setup : Setup) → slice_get services i ≡ Some s → slice_get setups i ≡ Some setup
    → map set_of (take i services) ≡ map set_by (take i setups) → set_of s ≡ set_by setup → map set_of (take (suc i) services) ≡ map set_by (take (suc i) setups)
sets_suc [] setups i s setup here there same one = cc
sets_suc (x ∷ xs) [] i s setup here there same one = cc
sets_suc (x ∷ xs) (y ∷ ys) zero s setup here there same one = cc
sets_suc (x ∷ xs) (y ∷ ys) (suc i) s setup here there same one =
    let first : set_of x ≡ set_by y = cc in
    let before : map set_of (take i xs) ≡ map set_by (take i ys) = cc in
    let more = sets_suc xs ys i s setup here there before one in cc

-- one service more is set up as it should be
pub sets_more : (services : List Kept) (setups : List Setup) (i : ℕ) (s : Kept) (setup : Setup) → slice_get services i ≡ Some s → slice_get setups i ≡ Some setup
    → map set_of (take i services) ≡ map set_by (take i setups) → set_of s ≡ set_by setup → map set_of (take (i + 1) services) ≡ map set_by (take (i + 1) setups)
sets_more services setups i s setup here there same one =
    let P : ℕ → Type 0 = λ n. map set_of (take n services) ≡ map set_by (take n setups) in
    let next : suc i ≡ i + 1 = omega arith in
    subst P next (sets_suc services setups i s setup here there same one)
