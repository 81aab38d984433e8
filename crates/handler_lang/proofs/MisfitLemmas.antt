-- Refusals of texts stand at their first misfit.
use Rattle.std.proofs.Common.{◌≡◌, ℕ, suc, ◌-◌, ◌≤◌, Bool, true, false, cond, List, [], ◌∷◌, ◌++◌, length, drop, Result, Ok, Err, refl, sym, ap, subst, ◌∙◌, inl, inr, arith}
use Rattle.std.specs.Prelude.{nat_lt}
use Rattle.std.proofs.lemmas.Bool.Decides.{nat_tests}
use Rattle.std.proofs.lemmas.List.{drop_all, length-append, length-map}
use Rattle.lang_tokens.specs.declared.token.Token.{Token}
use Rattle.lang_tokens.specs.Lexing.{lex, start_of, places, token_of, tokens}
use Rattle.lang_tree.specs.declared.program.Route.{Route}
use Rattle.lang_reader.specs.declared.stop.Cause.{Cause}
use Rattle.lang_reader.specs.declared.stop.Cause.TheVariants as cause
use Rattle.lang_reader.specs.declared.stop.Stop.{Stop}
use Rattle.lang_reader.specs.Readers.{most, program_of}
use Rattle.lang_grammar.specs.Grammar.{program_tokens}
use Rattle.handler_lang.specs.declared.refused.ProgramRefused.{ProgramRefused}
use Rattle.handler_lang.specs.declared.refused.ProgramRefused.TheVariants as refusal
use Rattle.handler_lang.specs.Misfits.{BeginsProgram, StandsFirst, place_at}
use Rattle.handler_lang.specs.Reading.{Answers, first_or, place_left, placed, read_of, refusal_at}
use Rattle.handler_lang.proofs.StmtLaws.{routes_begun, routes_refuse}
use Rattle.handler_lang.proofs.TokenLaws.{by_tokens}
use Rattle.lang_reader.proofs.Laws.{Begun, StopsFirst}

abbrev refusing : ProgramRefused → Result (List Route) ProgramRefused
refusing r = Err r

refused_is : (r q : ProgramRefused) → refusing r ≡ refusing q → r ≡ q
refused_is r q e = cc

record IsSameRefusal (c d : Cause) (a b : ℕ) : Type 0 where
  why : c ≡ d
  at : a ≡ b

same_refusal : (c d : Cause) (a b : ℕ) → refusal_at c a ≡ refusal_at d b → IsSameRefusal c d a b
same_refusal cause.Unexpected cause.Unexpected a b e = record { why = refl; at = cc }
same_refusal cause.Unexpected cause.BadString a b e = absurd cc
same_refusal cause.Unexpected cause.BadNumber a b e = absurd cc
same_refusal cause.Unexpected cause.BadPattern a b e = absurd cc
same_refusal cause.Unexpected cause.TooDeep a b e = absurd cc
same_refusal cause.BadString cause.Unexpected a b e = absurd cc
same_refusal cause.BadString cause.BadString a b e = record { why = refl; at = cc }
same_refusal cause.BadString cause.BadNumber a b e = absurd cc
same_refusal cause.BadString cause.BadPattern a b e = absurd cc
same_refusal cause.BadString cause.TooDeep a b e = absurd cc
same_refusal cause.BadNumber cause.Unexpected a b e = absurd cc
same_refusal cause.BadNumber cause.BadString a b e = absurd cc
same_refusal cause.BadNumber cause.BadNumber a b e = record { why = refl; at = cc }
same_refusal cause.BadNumber cause.BadPattern a b e = absurd cc
same_refusal cause.BadNumber cause.TooDeep a b e = absurd cc
same_refusal cause.BadPattern cause.Unexpected a b e = absurd cc
same_refusal cause.BadPattern cause.BadString a b e = absurd cc
same_refusal cause.BadPattern cause.BadNumber a b e = absurd cc
same_refusal cause.BadPattern cause.BadPattern a b e = record { why = refl; at = cc }
same_refusal cause.BadPattern cause.TooDeep a b e = absurd cc
same_refusal cause.TooDeep cause.Unexpected a b e = absurd cc
same_refusal cause.TooDeep cause.BadString a b e = absurd cc
same_refusal cause.TooDeep cause.BadNumber a b e = absurd cc
same_refusal cause.TooDeep cause.BadPattern a b e = absurd cc
same_refusal cause.TooDeep cause.TooDeep a b e = record { why = refl; at = cc }

not_too_long : (n : ℕ) (why : Cause) (at : ℕ) (X : Type 0) → refusal.TooLong n ≡ refusal_at why at → X
not_too_long n cause.Unexpected at X e = absurd cc
not_too_long n cause.BadString at X e = absurd cc
not_too_long n cause.BadNumber at X e = absurd cc
not_too_long n cause.BadPattern at X e = absurd cc
not_too_long n cause.TooDeep at X e = absurd cc

read_answered : (why : Cause) (at : ℕ) (read : Result (List Route) ProgramRefused) → Answers (Err (refusal_at why at)) read → read ≡ Err (refusal_at why at)
read_answered cause.Unexpected at read a = a
read_answered cause.BadString at read a = a
read_answered cause.BadNumber at read a = a
read_answered cause.BadPattern at read a = a
read_answered cause.TooDeep at read a = a

as_many : (text : List ℕ) → length (places (lex text)) ≡ length (tokens (lex text))
as_many text = length-map (lex text) start_of ∙ sym (length-map (lex text) token_of)

at_the_end : (total : ℕ) (ats : List ℕ) → place_left total ats 0 ≡ total
at_the_end total ats = ap (first_or total) (drop_all (length ats - 0) ats (omega arith))

short_read : (text : List ℕ) → length text ≤ 65536 → read_of text ≡ placed (length text) (places (lex text)) (program_of (tokens (lex text)))
short_read text small = let short : nat_lt 65536 (length text) ≡ false = grind (arith, nat_tests) in rw short refl

refused_at : (other : List ℕ) (front more : List Token) (first : Token) (why : Cause) → length other ≤ 65536 → tokens (lex other) ≡ front ++ (first ∷ more)
    → program_of (front ++ (first ∷ more)) ≡ Err (record { cause = why; left = suc (length more) }) → read_of other ≡ Err (refusal_at why (place_at other (length front)))
refused_at other front more first why small same stops =
    let count : length (places (lex other)) - suc (length more) ≡ length front = omega (arith, as_many other, ap length same, length-append front (first ∷ more)) in
    short_read other small
    ∙ ap (placed (length other) (places (lex other))) (ap program_of same ∙ stops)
    ∙ ap (λ (n : ℕ). refusing (refusal_at why (first_or (length other) (drop n (places (lex other)))))) count

misfit_by : (text : List ℕ) (s : Stop) → StopsFirst by_tokens program_of (tokens (lex text)) s → StandsFirst text s.cause (place_left (length text) (places (lex text)) s.left)
misfit_by text s (inl e) = inl (ap (place_left (length text) (places (lex text))) e ∙ at_the_end (length text) (places (lex text)))
misfit_by text s (inr a) = inr (record {
  front = a.front;
  first = a.first;
  back = a.back;
  is = a.is;
  always = λ other more small same. refused_at other a.front more a.first s.cause small same (a.always more);
})

begins_by : (text : List ℕ) (s : Stop) → Begun by_tokens [] program_tokens (tokens (lex text)) s → BeginsProgram text (place_left (length text) (places (lex text)) s.left)
begins_by text s b =
    let count : length (places (lex text)) - s.left ≡ length b.begun = omega (arith, as_many text, ap length b.is, length-append b.begun b.back, b.left) in
    record {
      front = b.begun;
      back = b.back;
      more = b.more;
      whole = b.whole;
      is = b.is;
      place = ap (λ (n : ℕ). first_or (length text) (drop n (places (lex text)))) count;
      spelled = b.spelled;
    }

-- where reading the tokens of a refused text stops
record IsStopped (text : List ℕ) (why : Cause) (at : ℕ) : Type 0 where
  stop : Stop
  stops : program_of (tokens (lex text)) ≡ Err stop
  why_is : stop.cause ≡ why
  at_is : place_left (length text) (places (lex text)) stop.left ≡ at

stopped : (text : List ℕ) (why : Cause) (at : ℕ) (r : Result (List Route) Stop) → program_of (tokens (lex text)) ≡ r → placed (length text) (places (lex text)) r ≡ Err (refusal_at why at) → IsStopped text why at
stopped text why at (Ok rs) e h = absurd cc
stopped text why at (Err s) e h =
    let same = same_refusal s.cause why (place_left (length text) (places (lex text)) s.left) at (refused_is (refusal_at s.cause (place_left (length text) (places (lex text)) s.left)) (refusal_at why at) h) in
    record { stop = s; stops = e; why_is = same.why; at_is = same.at }

stopped_by : (text : List ℕ) (why : Cause) (at : ℕ) (b : Bool) → cond b (Err (refusal.TooLong 65536)) (placed (length text) (places (lex text)) (program_of (tokens (lex text)))) ≡ Err (refusal_at why at) → IsStopped text why at
stopped_by text why at true h = not_too_long 65536 why at (IsStopped text why at) (refused_is (refusal.TooLong 65536) (refusal_at why at) h)
stopped_by text why at false h = stopped text why at (program_of (tokens (lex text))) refl h

answer_stopped : (answer : Result (List Route) ProgramRefused) (text : List ℕ) (why : Cause) (at : ℕ) → Answers answer (read_of text) → answer ≡ Err (refusal_at why at) → IsStopped text why at
answer_stopped answer text why at a e =
    stopped_by text why at (nat_lt 65536 (length text)) (read_answered why at (read_of text) (subst (λ (r : Result (List Route) ProgramRefused). Answers r (read_of text)) e a))

-- a refusal stands at the first misfit, whatever stands behind it
pub first_misfit : (answer : Result (List Route) ProgramRefused) (text : List ℕ) (why : Cause) (at : ℕ) → Answers answer (read_of text) → answer ≡ Err (refusal_at why at) → StandsFirst text why at
first_misfit answer text why at a e =
    let i = answer_stopped answer text why at a e in
    subst (λ (n : ℕ). StandsFirst text why n) i.at_is
    (subst (λ (c : Cause). StandsFirst text c (place_left (length text) (places (lex text)) i.stop.left)) i.why_is
    (misfit_by text i.stop (routes_refuse most (tokens (lex text)) i.stop i.stops)))

-- what stands before a refusal begins a program
pub begun_before : (answer : Result (List Route) ProgramRefused) (text : List ℕ) (why : Cause) (at : ℕ) → Answers answer (read_of text) → answer ≡ Err (refusal_at why at) → BeginsProgram text at
begun_before answer text why at a e =
    let i = answer_stopped answer text why at a e in
    subst (λ (n : ℕ). BeginsProgram text n) i.at_is (begins_by text i.stop (routes_begun most (tokens (lex text)) i.stop i.stops))
