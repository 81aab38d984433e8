-- The laws of readers of a single token.
use Rattle.std.proofs.Common.{◌≡◌, ℕ, pos, negsuc, suc, Bool, true, false, List, [], ◌∷◌, length, Result, Ok, Err, refl, sym, ap, subst, ◌∙◌, inl, inr, ◌⊎◌}
use Rattle.std.specs.Prelude.{nat_le, ◌&&◌}
use Rattle.lang_reader.specs.Reading.{Reader}
use Rattle.lang_reader.proofs.Laws.{Stopping, Completes, IsMark, LawsAt, Stops, StopsFirst, err_is, laws_end, laws_one, laws_stop, ok_is}
use Rattle.lang_reader.proofs.Laws as laws
use Rattle.lang_tokens.specs.declared.token.Token.{Token}
use Rattle.lang_tokens.specs.declared.token.Token.TheVariants as token
use Rattle.lang_tokens.proofs.KeptLemmas.{AreKept}
use Rattle.lang_grammar.specs.Grammar.{op_token, segment}
use Rattle.lang_tree.specs.Forms.{is_path, is_word}
use Rattle.lang_tree.specs.declared.method.Method.{Method}
use Rattle.lang_tree.specs.declared.method.Method.TheVariants as methods
use Rattle.lang_tree.specs.declared.expr.Op.{Op}
use Rattle.lang_tree.specs.declared.expr.Op.TheVariants as op
use Rattle.lang_reader.specs.declared.stop.Cause.TheVariants as cause
use Rattle.lang_reader.specs.declared.stop.Stop.{Stop}
use Rattle.lang_reader.specs.Readers.{comma_at, equals_at, in_at, left_at, method_at, misfit, op_at, pattern_at, refused, right_at, segment_at, semicolon_at, stop, word_at}
use Rattle.std.proofs.lemmas.Bool.{and_parts}

-- a stop is moved to where another number of tokens is left
abbrev pub by_tokens : Stopping Stop
by_tokens = record { left = λ s. s.left; moved = λ s n. record { cause = s.cause; left = n }; leaves = λ s n. refl; moves = λ s m n. refl }

abbrev pub Reads : {B : Type 0} → List Token → Reader Token Stop B → (B → List Token) → (B → Type 0) → Type 0
Reads front read all Holds = laws.Reads by_tokens AreKept front read all Holds

abbrev pub At : {B : Type 0} → Reader Token Stop B → (B → List Token) → (B → Type 0) → List Token → Type 0
At read all Holds ts = LawsAt by_tokens AreKept [] read all Holds ts

abbrev pub Marks : (List Token → Result (List Token) Stop) → Token → Type 0
Marks m t = IsMark by_tokens AreKept m t

pub kept_behind : (t : Token) (ts : List Token) → AreKept (t ∷ ts) → AreKept ts
kept_behind t ts kept = kept.1

same_misfit : (t : Token) (ts : List Token) → misfit (t ∷ ts) ≡ misfit (t ∷ [])
same_misfit token.BadNumber ts = refl
same_misfit token.BadString ts = refl
same_misfit _ ts = refl

-- the stop at a token that doesn't fit, whatever stands behind it
abbrev pub refused_at : Token → Stop
refused_at t = stop (misfit (t ∷ [])) []

pub refused_is : (t : Token) (ts : List Token) → refused (t ∷ ts) ≡ by_tokens.moved (refused_at t) (suc (length ts))
refused_is t ts = rw (same_misfit t ts) refl

pub laws_refused : {B : Type 0} {read : Reader Token Stop B} {all : B → List Token} {Holds : B → Type 0} (t : Token) → Completes [] all → ((ts : List Token) → read (t ∷ ts) ≡ Err (refused (t ∷ ts))) → (ts : List Token) → At read all Holds (t ∷ ts)
laws_refused t some stops ts = laws_stop t (refused_at t) some (λ us. stops us ∙ ap (λ s. Err s) (refused_is t us)) ts

-- something that is spelled so at all
pub there_is : {B : Type 0} (x : B) (all : B → List Token) → Completes [] all
there_is x all = record { more = all x; whole = x; spelled = refl }

abbrev pub Always : {A : Type 0} → A → Type 0
Always x = Unit {0}

-- ---- words, methods, operators

abbrev pub word_spells : List ℕ → List Token
word_spells w = token.Word w ∷ []

abbrev pub IsWord : List ℕ → Type 0
IsWord w = is_word w ≡ true

pub word_reads : Reads [] word_at word_spells IsWord
word_reads = record { at = go; some = some } where
  some : Completes [] word_spells
  some = there_is (97 ∷ []) word_spells

  go : (ts : List Token) → At word_at word_spells IsWord ts
  go [] = laws_end (refused []) some refl refl
  go (token.Word w ∷ ts) = laws_one (token.Word w) w (λ us. refl) refl (λ us kept. kept) ts
  go (t ∷ ts) = laws_refused t some (λ us. refl) ts

abbrev pub method_spells : Method → List Token
method_spells m = token.Method m ∷ []

pub method_reads : Reads [] method_at method_spells Always
method_reads = record { at = go; some = some } where
  some : Completes [] method_spells
  some = there_is methods.Get method_spells

  go : (ts : List Token) → At method_at method_spells Always ts
  go [] = laws_end (refused []) some refl refl
  go (token.Method m ∷ ts) = laws_one (token.Method m) m (λ us. refl) refl (λ us kept. kept) ts
  go (t ∷ ts) = laws_refused t some (λ us. refl) ts

abbrev pub op_spells : Op → List Token
op_spells o = op_token o ∷ []

pub op_reads : Reads [] op_at op_spells Always
op_reads = record { at = go; some = some } where
  some : Completes [] op_spells
  some = there_is op.Add op_spells

  go : (ts : List Token) → At op_at op_spells Always ts
  go [] = laws_end (refused []) some refl refl
  go (token.Plus ∷ ts) = laws_one token.Plus op.Add (λ us. refl) refl (λ us kept. kept) ts
  go (token.Minus ∷ ts) = laws_one token.Minus op.Sub (λ us. refl) refl (λ us kept. kept) ts
  go (token.Star ∷ ts) = laws_one token.Star op.Mul (λ us. refl) refl (λ us kept. kept) ts
  go (token.Equals ∷ ts) = laws_one token.Equals op.Equal (λ us. refl) refl (λ us kept. kept) ts
  go (token.Less ∷ ts) = laws_one token.Less op.Less (λ us. refl) refl (λ us kept. kept) ts
  go (token.Join ∷ ts) = laws_one token.Join op.Join (λ us. refl) refl (λ us kept. kept) ts
  go (t ∷ ts) = laws_refused t some (λ us. refl) ts

-- ---- the integer of `path`, and patterns

abbrev pub segment_spells : ℕ → List Token
segment_spells n = token.Integer (segment n) ∷ []

abbrev pub IsSegment : ℕ → Type 0
IsSegment n = nat_le 1 n && nat_le n 32 ≡ true

some_segment : Completes [] segment_spells
some_segment = there_is 1 segment_spells

segment_laws : (k : ℕ) (b : Bool) → nat_le 1 k && nat_le k 32 ≡ b → (ts : List Token) → At segment_at segment_spells IsSegment (token.Integer (pos k) ∷ ts)
segment_laws k true fits ts =
    let small : nat_le k 32 ≡ true = (and_parts (nat_le 1 k) (nat_le k 32) fits).1 in
    let is : segment_spells k ≡ token.Integer (pos k) ∷ [] = rw small refl in
    laws_one (token.Integer (pos k)) k (λ us. rw fits refl) is (λ us kept. (fits, kept.1)) ts
segment_laws k false fits ts = laws_stop (token.Integer (pos k)) (stop cause.BadNumber []) some_segment (λ us. rw fits refl) ts

pub segment_reads : Reads [] segment_at segment_spells IsSegment
segment_reads = record { at = go; some = some_segment } where
  go : (ts : List Token) → At segment_at segment_spells IsSegment ts
  go [] = laws_end (refused []) some_segment refl refl
  go (token.Integer (pos k) ∷ ts) = segment_laws k (nat_le 1 k && nat_le k 32) refl ts
  go (token.Integer (negsuc k) ∷ ts) = laws_stop (token.Integer (negsuc k)) (stop cause.BadNumber []) some_segment (λ us. refl) ts
  go (t ∷ ts) = laws_refused t some_segment (λ us. refl) ts

abbrev pub pattern_spells : List ℕ → List Token
pattern_spells text = token.Str text ∷ []

abbrev pub IsPattern : List ℕ → Type 0
IsPattern text = is_path text ≡ true

some_pattern : Completes [] pattern_spells
some_pattern = there_is (47 ∷ []) pattern_spells

pattern_laws : (text : List ℕ) (b : Bool) → is_path text ≡ b → (ts : List Token) → At pattern_at pattern_spells IsPattern (token.Str text ∷ ts)
pattern_laws text true fits ts = laws_one (token.Str text) text (λ us. rw fits refl) refl (λ us kept. (fits, kept.1)) ts
pattern_laws text false fits ts = laws_stop (token.Str text) (stop cause.BadPattern []) some_pattern (λ us. rw fits refl) ts

pub pattern_reads : Reads [] pattern_at pattern_spells IsPattern
pattern_reads = record { at = go; some = some_pattern } where
  go : (ts : List Token) → At pattern_at pattern_spells IsPattern ts
  go [] = laws_end (refused []) some_pattern refl refl
  go (token.Str text ∷ ts) = pattern_laws text (is_path text) refl ts
  go (t ∷ ts) = laws_refused t some_pattern (λ us. refl) ts

-- ---- marks

abbrev Stays : (List Token → Result (List Token) Stop) → List Token → Stop → Type 0
Stays m ts s = StopsFirst by_tokens m ts s × (s.left ≡ length ts)

mark_ends : (m : List Token → Result (List Token) Stop) (s : Stop) → m [] ≡ Err (refused []) → m [] ≡ Err s → Stays m [] s
mark_ends m s ends h = subst (λ z. Stays m [] z) (err_is {A = List Token} (refused []) s (sym ends ∙ h)) (inl refl, refl)

mark_refused : (m : List Token → Result (List Token) Stop) (t : Token) (ts : List Token) (s : Stop) → ((us : List Token) → m (t ∷ us) ≡ Err (refused (t ∷ us))) → m (t ∷ ts) ≡ Err s → Stays m (t ∷ ts) s
mark_refused m t ts s stops h =
    let this : Stops by_tokens m (t ∷ ts) (refused (t ∷ ts)) = record { front = []; first = t; back = ts; is = refl; left = refl; always = λ more. stops more ∙ ap (λ z. Err z) (refused_is t more ∙ ap (λ c. record { cause = c; left = suc (length more) }) (sym (same_misfit t ts))) } in
    subst (λ z. Stays m (t ∷ ts) z) (err_is {A = List Token} (refused (t ∷ ts)) s (sym (stops ts) ∙ h)) (inr this, refl)

-- a reader that takes this token, and refuses the end and each other, is its mark
marks_of : (m : List Token → Result (List Token) Stop) (t : Token) → ((ts : List Token) → m (t ∷ ts) ≡ Ok ts) → m [] ≡ Err (refused [])
    → ((u : Token) → (u ≡ t) ⊎ ((ts : List Token) → m (u ∷ ts) ≡ Err (refused (u ∷ ts)))) → Marks m t
marks_of m t takes ends others = record { here = takes; took = good; stopped = bad; kept = kept_behind t } where
  good_at : (u : Token) (ts rest : List Token) → (u ≡ t) ⊎ ((us : List Token) → m (u ∷ us) ≡ Err (refused (u ∷ us))) → m (u ∷ ts) ≡ Ok rest → u ∷ ts ≡ t ∷ rest
  good_at u ts rest (inl is) h =
      let e : ts ≡ rest = ok_is {E = Stop} ts rest (sym (takes ts) ∙ ap (λ v. m (v ∷ ts)) (sym is) ∙ h) in
      ap (λ v. v ∷ ts) is ∙ ap (λ us. t ∷ us) e
  good_at u ts rest (inr stops) h = let e = sym (stops ts) ∙ h in absurd cc

  good : (ts rest : List Token) → m ts ≡ Ok rest → ts ≡ t ∷ rest
  good [] rest h = let e = sym ends ∙ h in absurd cc
  good (u ∷ ts) rest h = good_at u ts rest (others u) h

  bad_at : (u : Token) (ts : List Token) (s : Stop) → (u ≡ t) ⊎ ((us : List Token) → m (u ∷ us) ≡ Err (refused (u ∷ us))) → m (u ∷ ts) ≡ Err s → Stays m (u ∷ ts) s
  bad_at u ts s (inl is) h = let e = sym (takes ts) ∙ ap (λ v. m (v ∷ ts)) (sym is) ∙ h in absurd cc
  bad_at u ts s (inr stops) h = mark_refused m u ts s stops h

  bad : (ts : List Token) (s : Stop) → m ts ≡ Err s → Stays m ts s
  bad [] s h = mark_ends m s ends h
  bad (u ∷ ts) s h = bad_at u ts s (others u) h

pub equals_mark : Marks equals_at token.Equals
equals_mark = marks_of equals_at token.Equals (λ ts. refl) refl others where
  others : (u : Token) → (u ≡ token.Equals) ⊎ ((ts : List Token) → equals_at (u ∷ ts) ≡ Err (refused (u ∷ ts)))
  others token.Equals = inl refl
  others u = inr (λ ts. refl)

pub semicolon_mark : Marks semicolon_at token.Semicolon
semicolon_mark = marks_of semicolon_at token.Semicolon (λ ts. refl) refl others where
  others : (u : Token) → (u ≡ token.Semicolon) ⊎ ((ts : List Token) → semicolon_at (u ∷ ts) ≡ Err (refused (u ∷ ts)))
  others token.Semicolon = inl refl
  others u = inr (λ ts. refl)

pub comma_mark : Marks comma_at token.Comma
comma_mark = marks_of comma_at token.Comma (λ ts. refl) refl others where
  others : (u : Token) → (u ≡ token.Comma) ⊎ ((ts : List Token) → comma_at (u ∷ ts) ≡ Err (refused (u ∷ ts)))
  others token.Comma = inl refl
  others u = inr (λ ts. refl)

pub in_mark : Marks in_at token.In
in_mark = marks_of in_at token.In (λ ts. refl) refl others where
  others : (u : Token) → (u ≡ token.In) ⊎ ((ts : List Token) → in_at (u ∷ ts) ≡ Err (refused (u ∷ ts)))
  others token.In = inl refl
  others u = inr (λ ts. refl)

pub left_mark : Marks left_at token.Left
left_mark = marks_of left_at token.Left (λ ts. refl) refl others where
  others : (u : Token) → (u ≡ token.Left) ⊎ ((ts : List Token) → left_at (u ∷ ts) ≡ Err (refused (u ∷ ts)))
  others token.Left = inl refl
  others u = inr (λ ts. refl)

pub right_mark : Marks right_at token.Right
right_mark = marks_of right_at token.Right (λ ts. refl) refl others where
  others : (u : Token) → (u ≡ token.Right) ⊎ ((ts : List Token) → right_at (u ∷ ts) ≡ Err (refused (u ∷ ts)))
  others token.Right = inl refl
  others u = inr (λ ts. refl)
