-- Each text whose lines say what a dump keeps is read as that.
use Rattle.std.proofs.Common.{◌≡◌, ◌⊎◌, inl, inr, ℕ, suc, ◌+◌, ◌≤◌, Bool, true, false, cond, not, List, [], ◌∷◌, ◌++◌, Option, Some, None, Result, Ok, Err, nat_eq, nat_lt, length, map, refl, sym, ap, ◌∙◌, subst, append_assoc, append-nil, length-append, eq-eqb, eqb-true, ◌&&◌, ◌||◌, arith}
use Rattle.std.specs.List.{AllByRecursion, Contains, flat_map, list_any}
use Rattle.std.specs.Cmp.Lexicographic.{same_text as text_is}
use Rattle.std.specs.declared.cmp.Ordering.{Ordering}
use Rattle.std.proofs.lemmas.Bool.{and_parts}
use Rattle.std.proofs.lemmas.Bool.Decides.{nat_tests}
use Rattle.std.proofs.lemmas.Grind.{flat_map-append}
use Rattle.std.proofs.lemmas.List.{map-append}
use Rattle.lang_base.specs.Texts.{same_text}
use Rattle.lang_core.specs.HandedOn.{Route}
use Rattle.lang_core.specs.Origins.{is_call}
use Rattle.lang_core.specs.Places.{IsOrdered, by_order}
use Rattle.lang_core.specs.Rows.{cell_place}
use Rattle.lang_core.specs.declared.cells.Cell.{Cell}
use Rattle.lang_core.specs.declared.ids.Origin.{Origin}
use Rattle.lang_core.specs.declared.ids.Origin.TheVariants.{Outside, Call as FromCall}
use Rattle.lang_core.specs.declared.request.Response.{Response}
use Rattle.lang_core.specs.declared.setting.Setting.{Setting}
use Rattle.lang_core.specs.declared.trace.CallMade.{CallMade}
use Rattle.dump_tables.specs.Kept.{AreApart, AreKept, IsKept, IsSent, IsUnder, IsWhole, call_behind, calls_behind, numbers_of, service_name}
use Rattle.dump_tables.specs.Indexed.{has_number}
use Rattle.dump_tables.specs.Programs.{later_at}
use Rattle.dump_tables.specs.declared.dump.DumpEntry.{DumpEntry}
use Rattle.dump_tables.specs.declared.dump.DumpService.{DumpService}
use Rattle.dump_tables.specs.declared.programs.DumpPrograms.{DumpPrograms}
use Rattle.dump_words.specs.Lines.{Read, line_at}
use Rattle.dump_words.specs.declared.line.Line.{Line}
use Rattle.dump_words.specs.declared.line.Line.TheVariants.{Service, Peers, Program, Entry, Under, Call, Answer, Reply, Row, End}
use Rattle.dump_reader.specs.Alone.{not_among}
use Rattle.dump_reader.specs.Reading.{Next, Stepped, all_answered, and_then, at_end, call_of, comes_from, head_by, is_behind, is_entered, is_kept, is_named, lines_of, read_of, staying, step, step_read, under_it, with_lines}
use Rattle.dump_reader.specs.Spelled.{Spells, call_line, call_lines, dump_lines, entry_line, entry_lines, head_lines, says, service_lines, under_lines}
use Rattle.dump_reader.specs.declared.refused.DumpRefused.{DumpRefused}
use Rattle.dump_reader.specs.declared.refused.DumpRefused.TheVariants as refusal
use Rattle.dump_reader.specs.declared.stage.Running.{Running}
use Rattle.dump_reader.specs.declared.stage.Stage.{Stage}
use Rattle.dump_reader.specs.declared.stage.Stage.TheVariants.{Between, Named, Headed, Within, Runs}
use Rattle.dump_reader.proofs.KeptLemmas.{AreOthers}

-- ---- tests that fail

either : (a b : Bool) → (a || b) ≡ true → (a ≡ true) ⊎ (b ≡ true)
either true b h = inl refl
either false b h = inr h

no_by : (b : Bool) → ¬ (b ≡ true) → b ≡ false
no_by true fails = absurd (fails refl)
no_by false fails = refl

neither : (a b : Bool) → a ≡ false → b ≡ false → (a || b) ≡ false
neither true b h k = absurd cc
neither false b h k = k

same_is : (a b : List ℕ) → same_text a b ≡ true → a ≡ b
same_is a b h = text_is a b (sym h)

others_none : {X Y : Type 0} (test : X → Bool) (f : X → Y) (y : Y) → ((x : X) → test x ≡ true → f x ≡ y) → (xs : List X) → AreOthers y (map f xs) → list_any test xs ≡ false
others_none test f y so [] others = refl
others_none test f y so (x ∷ xs) others =
    neither (test x) (list_any test xs) (no_by (test x) (λ yes. others.0 (so x yes))) (others_none test f y so xs others.1)

all_mid : {X : Type 0} (P : X → Type 0) (xs : List X) (y : X) (ys : List X) → AllByRecursion P (xs ++ y ∷ ys) → P y
all_mid P [] y ys all = all.0
all_mid P (x ∷ xs) y ys all = all_mid P xs y ys all.1

all_left : {X : Type 0} (P : X → Type 0) (xs ys : List X) → AllByRecursion P (xs ++ ys) → AllByRecursion P xs
all_left P [] ys all = tt
all_left P (x ∷ xs) ys all = (all.0, all_left P xs ys all.1)

all_right : {X : Type 0} (P : X → Type 0) (xs ys : List X) → AllByRecursion P (xs ++ ys) → AllByRecursion P ys
all_right P [] ys all = all
all_right P (x ∷ xs) ys all = all_right P xs ys all.1

apart_before : {X : Type 0} (xs : List X) (y : X) (ys : List X) → AreApart (xs ++ y ∷ ys) → AreOthers y xs
apart_before [] y ys apart = tt
apart_before (x ∷ xs) y ys apart = (all_mid (λ z. ¬ (x ≡ z)) xs y ys apart.0, apart_before xs y ys apart.1)

name_free : (me : List ℕ) (services : List DumpService) → AreOthers me (map service_name services) → is_named me services ≡ false
name_free me services others = others_none (λ s. same_text s.setting.me me) service_name me (λ s yes. same_is s.setting.me me yes) services others

among_so : (me : List ℕ) (peers : List (List ℕ)) → list_any (same_text me) peers ≡ true → Contains peers me
among_so me [] h = absurd cc
among_so me (p ∷ peers) h = elim (either (same_text me p) (list_any (same_text me) peers) h) [
  | inl here ↦ (0, omega arith, sym (same_is me p here))
  | inr later ↦ (let there = among_so me peers later in (suc there.0, (let within = there.1 in omega (arith, within)), there.2))
]

alone_same : (me : List ℕ) (peers : List (List ℕ)) (a b : ¬ (Contains peers me)) → a ≡ b
alone_same me peers a b =
    let same : (c : Contains peers me) → a c ≡ b c = λ c. absurd (a c) in
    λ i c. same c i

-- the head of a service that is none of these peers
pub head_free : (me : List ℕ) (peers : List (List ℕ)) (n : ℕ) (b : Bool) (is : list_any (same_text me) peers ≡ b) (alone : ¬ (Contains peers me))
    → head_by me peers n b is ≡ Ok (Headed (record { me = me; peers = peers; alone = alone }))
head_free me peers n true is alone = absurd (alone (among_so me peers is))
head_free me peers n false is alone =
    ap (λ (x : ¬ (Contains peers me)). Ok (Headed (record { me = me; peers = peers; alone = x }))) (alone_same me peers (not_among me peers is) alone)

number_free : (n : ℕ) (ns : List ℕ) → AreOthers n ns → list_any (nat_eq n) ns ≡ false
number_free n [] others = refl
number_free n (m ∷ ns) others =
    neither (nat_eq n m) (list_any (nat_eq n) ns) (no_by (nat_eq n m) (λ yes. others.0 (sym (eqb-true n m yes)))) (number_free n ns others.1)

numbers_free : (n : ℕ) (entries : List DumpEntry) → AreOthers n (numbers_of entries) → list_any (has_number n) entries ≡ false
numbers_free n [] others = refl
numbers_free n (e ∷ entries) others =
    neither (has_number n e) (list_any (has_number n) entries) (number_free n e.numbers (all_left (λ x. ¬ (x ≡ n)) e.numbers (numbers_of entries) others))
    (numbers_free n entries (all_right (λ x. ¬ (x ≡ n)) e.numbers (numbers_of entries) others))

not_call : (caller : List ℕ) (number : ℕ) (o : Origin) → AreOthers (caller, number) (call_behind o) → is_call caller number o ≡ false
not_call caller number Outside others = refl
not_call caller number (FromCall c n) others =
    no_by (same_text c caller && nat_eq n number)
    (λ yes.
    let parts = and_parts (same_text c caller) (nat_eq n number) yes in
    let one = same_is c caller parts.0 in
    let two = eqb-true n number parts.1 in
    others.0 (λ i. (one i, two i)))

-- an entry of this origin isn't told yet
from_other : (o : Origin) (e : DumpEntry) (entries : List DumpEntry) (todo : List (List ℕ × ℕ)) → AreApart (calls_behind (e ∷ entries) ++ (call_behind o ++ todo)) → comes_from o e ≡ false
from_other Outside e entries todo apart = refl
from_other (FromCall c n) e entries todo apart =
    not_call c n e.origin (all_left (λ x. ¬ (x ≡ (c, n))) (call_behind e.origin) (calls_behind entries) (apart_before (calls_behind (e ∷ entries)) (c, n) todo apart))

apart_right : {X : Type 0} (xs ys : List X) → AreApart (xs ++ ys) → AreApart ys
apart_right [] ys apart = apart
apart_right (x ∷ xs) ys apart = apart_right xs ys apart.1

entry_free : (e : DumpEntry) (done : List DumpEntry) (todo : List (List ℕ × ℕ)) → AreOthers e.id (map (λ x. x.id) done) → AreApart (calls_behind done ++ (call_behind e.origin ++ todo))
    → is_entered (entry_line e) done ≡ false
entry_free e [] todo ids callers = refl
entry_free e (d ∷ done) todo ids callers =
    let rest : AreApart (calls_behind done ++ (call_behind e.origin ++ todo)) =
    apart_right (call_behind d.origin) (calls_behind done ++ (call_behind e.origin ++ todo))
    (subst AreApart (append_assoc (call_behind d.origin) (calls_behind done) (call_behind e.origin ++ todo)) callers) in
    neither (nat_eq d.id e.id || comes_from e.origin d) (is_entered (entry_line e) done)
    (neither (nat_eq d.id e.id) (comes_from e.origin d) (no_by (nat_eq d.id e.id) (λ yes. ids.0 (eqb-true d.id e.id yes))) (from_other e.origin d done todo callers))
    (entry_free e done todo ids.1 rest)

behind_so : (done : List Cell) (c : Cell) (todo : List Cell) → IsOrdered cell_place (done ++ c ∷ todo) → is_behind done c ≡ true
behind_so [] c todo o = refl
behind_so (r ∷ []) c todo o = ap (λ (x : Ordering). by_order x true false false) o.0.0
behind_so (r ∷ s ∷ done) c todo o = behind_so (s ∷ done) c todo o.1

-- ---- lines that lead on

and_same : {X Y : Type 0} (r : Result X DumpRefused) (f g : X → Result Y DumpRefused) → ((x : X) → f x ≡ g x) → and_then r f ≡ and_then r g
and_same (Err why) f g same = refl
and_same (Ok x) f g same = same x

-- what comes of lines that were read
abbrev with_reads : List DumpService → Stage → ℕ → List Read → Result (List DumpService) DumpRefused
with_reads services stage n [] = at_end services stage n
with_reads services stage n (read ∷ reads) = and_then (step_read services stage n read) (λ next. with_reads next.0 next.1 (n + 1) reads)

lines_read : (lines : List (List ℕ)) (services : List DumpService) (stage : Stage) (n : ℕ) → with_lines services stage n lines ≡ with_reads services stage n (map line_at lines)
lines_read [] services stage n = refl
lines_read (line ∷ lines) services stage n =
    and_same (step_read services stage n (line_at line)) (λ next. with_lines next.0 next.1 (n + 1) lines) (λ next. with_reads next.0 next.1 (n + 1) (map line_at lines))
    (λ next. lines_read lines next.0 next.1 (n + 1))

-- these lines lead from here to there, whatever stands behind them
abbrev Leads : List DumpService → Stage → List Line → List DumpService → Stage → Type 0
Leads services stage lines to there =
    (n : ℕ) (rest : List Read) (out : Result (List DumpService) DumpRefused) → ((m : ℕ) → with_reads to there m rest ≡ out) → with_reads services stage n (map says lines ++ rest) ≡ out

no_lines : (services : List DumpService) (stage : Stage) → Leads services stage [] services stage
no_lines services stage n rest out later = later n

one_line : (services : List DumpService) (stage : Stage) (line : Line) (to : List DumpService) (there : Stage) → ((n : ℕ) → step services stage n line ≡ Ok (to, there)) → Leads services stage (line ∷ []) to there
one_line services stage line to there is n rest out later =
    ap (λ (s : Stepped). and_then s (λ next. with_reads next.0 next.1 (n + 1) rest)) (is n) ∙ later (n + 1)

then_lines : (services : List DumpService) (stage : Stage) (front : List Line) (to : List DumpService) (there : Stage) (back : List Line) (last : List DumpService) (end : Stage)
    → Leads services stage front to there → Leads to there back last end → Leads services stage (front ++ back) last end
then_lines services stage front to there back last end first second n rest out later =
    ap (λ (reads : List Read). with_reads services stage n reads) (ap (λ (reads : List Read). reads ++ rest) (map-append says front back) ∙ append_assoc (map says front) (map says back) rest)
    ∙ first n (map says back ++ rest) out (λ m. second m rest out later)

passes : (b : Bool) (why : DumpRefused) (more : Next) → b ≡ false → cond b (Err why) more ≡ more
passes true why more h = absurd cc
passes false why more h = refl

not_so : (b : Bool) → b ≡ true → not b ≡ false
not_so true h = refl
not_so false h = absurd cc

-- ---- the calls of an entry

-- an entry, of which these calls are told so far
abbrev part : DumpEntry → List ℕ → List CallMade → List Response → DumpEntry
part e ns cs rs = record {
  id = e.id;
  origin = e.origin;
  version = e.version;
  wanted = e.wanted;
  struck = e.struck;
  inputs = e.inputs;
  request = e.request;
  under = e.under;
  program = e.program;
  numbers = ns;
  calls = cs;
  answers = rs;
  reply = None;
}

abbrev at_part : Setting → DumpPrograms → List DumpEntry → DumpEntry → List ℕ → List CallMade → List Response → Stage
at_part setting programs done e ns cs rs = Runs (record { setting = setting; programs = programs; entries = done; entry = part e ns cs rs })

call_again : (me : List ℕ) (chain : List (List ℕ)) (n : ℕ) (c : CallMade) → IsSent me chain c → call_of me chain (call_line n c) ≡ c
call_again me chain n c sent =
    λ i. record { dest = c.dest; request = record { method = c.request.method; path = c.request.path; body = c.request.body; who = sym sent.0 i; chain = sym sent.1 i } }

call_step : (services : List DumpService) (setting : Setting) (programs : DumpPrograms) (done : List DumpEntry) (e : DumpEntry) (ns : List ℕ) (cs : List CallMade) (rs : List Response) (n : ℕ) (c : CallMade) (line : ℕ)
    → length rs ≡ length ns → AreOthers n (numbers_of done) → AreOthers n ns → IsSent setting.me e.request.chain c
    → step services (at_part setting programs done e ns cs rs) line (Call (call_line n c)) ≡ Ok (services, at_part setting programs done e (ns ++ n ∷ []) (cs ++ c ∷ []) rs)
call_step services setting programs done e ns cs rs n c line all others own sent =
    let here = part e ns cs rs in
    let twice = list_any (has_number n) done || has_number n here in
    let next : Next = Ok (at_part setting programs done e (ns ++ n ∷ []) (cs ++ call_of setting.me e.request.chain (call_line n c) ∷ []) rs) in
    ap (staying services)
    (passes (not (all_answered here)) (refusal.Shape line) (cond twice (Err (refusal.Twice line)) next) (not_so (all_answered here) (eq-eqb (length ns) (length rs) (sym all)))
    ∙ passes twice (refusal.Twice line) next (neither (list_any (has_number n) done) (has_number n here) (numbers_free n done others) (number_free n ns own)))
    ∙ ap (λ (call : CallMade). Ok (services, at_part setting programs done e (ns ++ n ∷ []) (cs ++ call ∷ []) rs)) (call_again setting.me e.request.chain n c sent)

answer_step : (services : List DumpService) (setting : Setting) (programs : DumpPrograms) (done : List DumpEntry) (e : DumpEntry) (ns : List ℕ) (cs : List CallMade) (rs : List Response) (r : Response) (line : ℕ)
    → suc (length rs) ≡ length ns → step services (at_part setting programs done e ns cs rs) line (Answer r) ≡ Ok (services, at_part setting programs done e ns cs (rs ++ r ∷ []))
answer_step services setting programs done e ns cs rs r line lacks =
    let some : nat_eq (length ns) (length rs) ≡ false = no_by (nat_eq (length ns) (length rs)) (λ yes. absurd (omega (arith, lacks, eqb-true (length ns) (length rs) yes))) in
    ap (staying services) (passes (all_answered (part e ns cs rs)) (refusal.Shape line) (Ok (at_part setting programs done e ns cs (rs ++ r ∷ []))) some)

same_part : (setting : Setting) (programs : DumpPrograms) (done : List DumpEntry) (e : DumpEntry) (ns ms : List ℕ) (cs ds : List CallMade) (rs qs : List Response) → ns ≡ ms → cs ≡ ds → rs ≡ qs
    → at_part setting programs done e ns cs rs ≡ at_part setting programs done e ms ds qs
same_part setting programs done e ns ms cs ds rs qs a b c = λ i. at_part setting programs done e (a i) (b i) (c i)

-- the calls that are still to be told, behind those that are
calls_lead : (services : List DumpService) (setting : Setting) (programs : DumpPrograms) (done : List DumpEntry) (e : DumpEntry) (todo : List ℕ) (ns0 : List ℕ) (cs0 : List CallMade) (rs0 : List Response) (ns : List ℕ) (cs : List CallMade) (rs : List Response)
    → length rs0 ≡ length ns0 → length cs ≡ length ns → length rs ≡ length ns → AllByRecursion (IsSent setting.me e.request.chain) cs → AreApart ((numbers_of done ++ ns0) ++ (ns ++ todo))
    → Leads services (at_part setting programs done e ns0 cs0 rs0) (call_lines ns cs rs) services (at_part setting programs done e (ns0 ++ ns) (cs0 ++ cs) (rs0 ++ rs))
calls_lead services setting programs done e todo ns0 cs0 rs0 [] [] [] so a b sent apart =
    let L : Stage → Type 0 = λ s. Leads services (at_part setting programs done e ns0 cs0 rs0) [] services s in
    subst L (same_part setting programs done e ns0 (ns0 ++ []) cs0 (cs0 ++ []) rs0 (rs0 ++ []) (sym (append-nil ns0)) (sym (append-nil cs0)) (sym (append-nil rs0))) (no_lines services (at_part setting programs done e ns0 cs0 rs0))
calls_lead services setting programs done e todo ns0 cs0 rs0 [] (c ∷ cs) rs so a b sent apart = absurd (omega (arith, a))
calls_lead services setting programs done e todo ns0 cs0 rs0 [] [] (r ∷ rs) so a b sent apart = absurd (omega (arith, b))
calls_lead services setting programs done e todo ns0 cs0 rs0 (n ∷ ns) [] rs so a b sent apart = absurd (omega (arith, a))
calls_lead services setting programs done e todo ns0 cs0 rs0 (n ∷ ns) (c ∷ cs) [] so a b sent apart = absurd (omega (arith, b))
calls_lead services setting programs done e todo ns0 cs0 rs0 (n ∷ ns) (c ∷ cs) (r ∷ rs) so a b sent apart =
    let ns1 = ns0 ++ n ∷ [] in
    let cs1 = cs0 ++ c ∷ [] in
    let rs1 = rs0 ++ r ∷ [] in
    let x : length cs ≡ length ns = omega (arith, a) in
    let y : length rs ≡ length ns = omega (arith, b) in
    let so1 : length rs1 ≡ length ns1 = omega (arith, so, length-append rs0 (r ∷ []), length-append ns0 (n ∷ [])) in
    let lacks : suc (length rs0) ≡ length ns1 = omega (arith, so, length-append ns0 (n ∷ [])) in
    let others = apart_before (numbers_of done ++ ns0) n (ns ++ todo) apart in
    let apart1 : AreApart ((numbers_of done ++ ns1) ++ (ns ++ todo)) =
    subst AreApart (sym (append_assoc (numbers_of done ++ ns0) (n ∷ []) (ns ++ todo)) ∙ ap (λ (front : List ℕ). front ++ (ns ++ todo)) (append_assoc (numbers_of done) ns0 (n ∷ []))) apart in
    let from = at_part setting programs done e ns0 cs0 rs0 in
    let made = at_part setting programs done e ns1 cs1 rs0 in
    let told = at_part setting programs done e ns1 cs1 rs1 in
    let end = at_part setting programs done e (ns1 ++ ns) (cs1 ++ cs) (rs1 ++ rs) in
    let first = one_line services from (Call (call_line n c)) services made
    (λ line. call_step services setting programs done e ns0 cs0 rs0 n c line so (all_left (λ z. ¬ (z ≡ n)) (numbers_of done) ns0 others) (all_right (λ z. ¬ (z ≡ n)) (numbers_of done) ns0 others) sent.0) in
    let second = one_line services made (Answer r) services told (λ line. answer_step services setting programs done e ns1 cs1 rs0 r line lacks) in
    let rest = calls_lead services setting programs done e todo ns1 cs1 rs1 ns cs rs so1 x y sent.1 apart1 in
    let L : Stage → Type 0 = λ s. Leads services from (Call (call_line n c) ∷ Answer r ∷ call_lines ns cs rs) services s in
    subst L
    (same_part setting programs done e (ns1 ++ ns) (ns0 ++ n ∷ ns) (cs1 ++ cs) (cs0 ++ c ∷ cs) (rs1 ++ rs) (rs0 ++ r ∷ rs) (append_assoc ns0 (n ∷ []) ns) (append_assoc cs0 (c ∷ []) cs) (append_assoc rs0 (r ∷ []) rs))
    (then_lines services from (Call (call_line n c) ∷ []) services made (Answer r ∷ call_lines ns cs rs) services end first
    (then_lines services made (Answer r ∷ []) services told (call_lines ns cs rs) services end second rest))

-- ---- entries

abbrev within : Setting → DumpPrograms → List DumpEntry → List Cell → Stage
within setting programs entries rows = Within (record { setting = setting; programs = programs; entries = entries; rows = rows })

-- an entry behind its line
abbrev bare : DumpEntry → ℕ → List Route → DumpEntry
bare e under program = record {
  id = e.id;
  origin = e.origin;
  version = e.version;
  wanted = e.wanted;
  struck = e.struck;
  inputs = e.inputs;
  request = e.request;
  under = under;
  program = program;
  numbers = [];
  calls = [];
  answers = [];
  reply = None;
}

abbrev begun : Setting → DumpPrograms → List DumpEntry → DumpEntry → Running
begun setting programs done e = record { setting = setting; programs = programs; entries = done; entry = bare e 1 programs.first }

under_by : (services : List DumpService) (setting : Setting) (programs : DumpPrograms) (done : List DumpEntry) (e : DumpEntry) (b : Bool) → nat_eq e.under 1 ≡ b
    → cond b (Some programs.first) (later_at e.under programs.later) ≡ Some e.program
    → Leads services (Runs (begun setting programs done e)) (cond b [] (Under e.under ∷ [])) services (at_part setting programs done e [] [] [])
under_by services setting programs done e true is under =
    let number : 1 ≡ e.under = sym (eqb-true e.under 1 is) in
    let program : programs.first ≡ e.program = cc in
    let from : Stage = Runs (begun setting programs done e) in
    let same : from ≡ at_part setting programs done e [] [] [] = λ i. Runs (record { setting = setting; programs = programs; entries = done; entry = bare e (number i) (program i) }) in
    let L : Stage → Type 0 = λ s. Leads services from [] services s in
    subst L same (no_lines services from)
under_by services setting programs done e false is under =
    one_line services (Runs (begun setting programs done e)) (Under e.under) services (at_part setting programs done e [] [] [])
    (λ line. ap (λ (found : Option (List Route)). staying services (under_it (begun setting programs done e) line e.under found)) under)

entry_step : (services : List DumpService) (setting : Setting) (programs : DumpPrograms) (done : List DumpEntry) (e : DumpEntry) (line : ℕ) → is_entered (entry_line e) done ≡ false
    → step services (within setting programs done []) line (Entry (entry_line e)) ≡ Ok (services, Runs (begun setting programs done e))
entry_step services setting programs done e line free =
    ap (staying services) (passes (is_entered (entry_line e) done) (refusal.Twice line) (Ok (Runs (begun setting programs done e))) free)

reply_step : (services : List DumpService) (setting : Setting) (programs : DumpPrograms) (done : List DumpEntry) (e : DumpEntry) (line : ℕ) → length e.answers ≡ length e.numbers
    → step services (at_part setting programs done e e.numbers e.calls e.answers) line (Reply e.reply) ≡ Ok (services, within setting programs (done ++ e ∷ []) [])
reply_step services setting programs done e line all =
    let here = part e e.numbers e.calls e.answers in
    ap (staying services) (passes (not (all_answered here)) (refusal.Shape line) (Ok (within setting programs (done ++ e ∷ []) [])) (not_so (all_answered here) (eq-eqb (length e.numbers) (length e.answers) (sym all))))

entry_lead : (services : List DumpService) (setting : Setting) (programs : DumpPrograms) (done : List DumpEntry) (e : DumpEntry) (todo : List ℕ) (later : List (List ℕ × ℕ)) → IsWhole setting.me e
    → IsUnder programs e → AreOthers e.id (map (λ x. x.id) done) → AreApart (calls_behind done ++ (call_behind e.origin ++ later)) → AreApart (numbers_of done ++ (e.numbers ++ todo))
    → Leads services (within setting programs done []) (entry_lines e) services (within setting programs (done ++ e ∷ []) [])
entry_lead services setting programs done e todo later whole under ids callers numbers =
    let apart : AreApart ((numbers_of done ++ []) ++ (e.numbers ++ todo)) = subst AreApart (ap (λ (front : List ℕ). front ++ (e.numbers ++ todo)) (sym (append-nil (numbers_of done)))) numbers in
    let calls = call_lines e.numbers e.calls e.answers in
    let from = within setting programs done [] in
    let entered : Stage = Runs (begun setting programs done e) in
    let ready = at_part setting programs done e [] [] [] in
    let told = at_part setting programs done e e.numbers e.calls e.answers in
    let end = within setting programs (done ++ e ∷ []) [] in
    let first = one_line services from (Entry (entry_line e)) services entered (λ line. entry_step services setting programs done e line (entry_free e done later ids callers)) in
    let second = under_by services setting programs done e (nat_eq e.under 1) refl under in
    let third = calls_lead services setting programs done e todo [] [] [] e.numbers e.calls e.answers refl whole.named whole.answered whole.sent apart in
    let fourth = one_line services told (Reply e.reply) services end (λ line. reply_step services setting programs done e line whole.answered) in
    then_lines services from (Entry (entry_line e) ∷ (under_lines e.under ++ calls)) services told (Reply e.reply ∷ []) services end
    (then_lines services from (Entry (entry_line e) ∷ []) services entered (under_lines e.under ++ calls) services told first
    (then_lines services entered (under_lines e.under) services ready calls services told second third)) fourth

entries_lead : (services : List DumpService) (setting : Setting) (programs : DumpPrograms) (done todo : List DumpEntry) → AllByRecursion (IsWhole setting.me) todo → AllByRecursion (IsUnder programs) todo → AreApart (map (λ x. x.id) (done ++ todo))
    → AreApart (calls_behind (done ++ todo)) → AreApart (numbers_of (done ++ todo)) → Leads services (within setting programs done []) (flat_map entry_lines todo) services (within setting programs (done ++ todo) [])
entries_lead services setting programs done [] whole under ids callers numbers =
    let L : List DumpEntry → Type 0 = λ es. Leads services (within setting programs done []) [] services (within setting programs es []) in
    subst L (sym (append-nil done)) (no_lines services (within setting programs done []))
entries_lead services setting programs done (e ∷ todo) whole under ids callers numbers =
    let again : (done ++ e ∷ []) ++ todo ≡ done ++ e ∷ todo = append_assoc done (e ∷ []) todo in
    let own = apart_before (map (λ x. x.id) done) e.id (map (λ x. x.id) todo) (subst AreApart (map-append (λ x. x.id) done (e ∷ todo)) ids) in
    let callers_here = subst AreApart (flat_map-append (λ x. call_behind x.origin) done (e ∷ todo)) callers in
    let numbers_here = subst AreApart (flat_map-append (λ x. x.numbers) done (e ∷ todo)) numbers in
    let from = within setting programs done [] in
    let next = within setting programs (done ++ e ∷ []) [] in
    let first = entry_lead services setting programs done e (numbers_of todo) (calls_behind todo) whole.0 under.0 own callers_here numbers_here in
    let rest = entries_lead services setting programs (done ++ e ∷ []) todo whole.1 under.1 (subst (λ (es : List DumpEntry). AreApart (map (λ x. x.id) es)) (sym again) ids)
    (subst (λ (es : List DumpEntry). AreApart (calls_behind es)) (sym again) callers) (subst (λ (es : List DumpEntry). AreApart (numbers_of es)) (sym again) numbers) in
    let L : List DumpEntry → Type 0 = λ es. Leads services from (entry_lines e ++ flat_map entry_lines todo) services (within setting programs es []) in
    subst L again (then_lines services from (entry_lines e) services next (flat_map entry_lines todo) services (within setting programs ((done ++ e ∷ []) ++ todo) []) first rest)

-- ---- rows

row_by : (b twice : Bool) (line : ℕ) (next : Next) → b ≡ true → cond b next (cond twice (Err (refusal.Twice line)) (Err (refusal.Rows line))) ≡ next
row_by true twice line next h = refl
row_by false twice line next h = absurd cc

rows_lead : (services : List DumpService) (setting : Setting) (programs : DumpPrograms) (entries : List DumpEntry) (done todo : List Cell) → IsOrdered cell_place (done ++ todo)
    → Leads services (within setting programs entries done) (map Row todo) services (within setting programs entries (done ++ todo))
rows_lead services setting programs entries done [] ordered =
    let L : List Cell → Type 0 = λ rows. Leads services (within setting programs entries done) [] services (within setting programs entries rows) in
    subst L (sym (append-nil done)) (no_lines services (within setting programs entries done))
rows_lead services setting programs entries done (c ∷ todo) ordered =
    let again : (done ++ c ∷ []) ++ todo ≡ done ++ c ∷ todo = append_assoc done (c ∷ []) todo in
    let from = within setting programs entries done in
    let next = within setting programs entries (done ++ c ∷ []) in
    let first = one_line services from (Row c) services next
    (λ line. ap (staying services) (row_by (is_behind done c) (is_kept c done) line (Ok next) (behind_so done c todo ordered))) in
    let rest = rows_lead services setting programs entries (done ++ c ∷ []) todo (subst (IsOrdered cell_place) (sym again) ordered) in
    let L : List Cell → Type 0 = λ rows. Leads services from (Row c ∷ map Row todo) services (within setting programs entries rows) in
    subst L again (then_lines services from (Row c ∷ []) services next (map Row todo) services (within setting programs entries ((done ++ c ∷ []) ++ todo)) first rest)

-- ---- services

setting_again : (s : Setting) → s.weight ≡ 0 → ◌≡◌ {A = Setting} (record { me = s.me; peers = s.peers; program = s.program; weight = 0; alone = s.alone }) s
setting_again s h = λ i. record { me = s.me; peers = s.peers; program = s.program; weight = sym h i; alone = s.alone }

-- the programs that are still to be told, behind those that are
programs_lead : (services : List DumpService) (setting : Setting) (first : List Route) (done todo : List (List Route))
    → Leads services (within setting (record { first = first; later = done }) [] []) (map Program todo) services (within setting (record { first = first; later = done ++ todo }) [] [])
programs_lead services setting first done [] =
    let from = within setting (record { first = first; later = done }) [] [] in
    let L : List (List Route) → Type 0 = λ later. Leads services from [] services (within setting (record { first = first; later = later }) [] []) in
    subst L (sym (append-nil done)) (no_lines services from)
programs_lead services setting first done (p ∷ todo) =
    let again : (done ++ p ∷ []) ++ todo ≡ done ++ p ∷ todo = append_assoc done (p ∷ []) todo in
    let from = within setting (record { first = first; later = done }) [] [] in
    let next = within setting (record { first = first; later = done ++ p ∷ [] }) [] [] in
    let this = one_line services from (Program p) services next (λ line. refl) in
    let rest = programs_lead services setting first (done ++ p ∷ []) todo in
    let L : List (List Route) → Type 0 = λ later. Leads services from (Program p ∷ map Program todo) services (within setting (record { first = first; later = later }) [] []) in
    subst L again (then_lines services from (Program p ∷ []) services next (map Program todo) services (within setting (record { first = first; later = (done ++ p ∷ []) ++ todo }) [] []) this rest)

head_lead : (services : List DumpService) (s : Setting) (programs : DumpPrograms) → s.weight ≡ 0 → programs.first ≡ s.program → AreOthers s.me (map service_name services)
    → Leads services Between (head_lines s programs) services (within s programs [] [])
head_lead services s programs weight own others =
    let head : Stage = Headed (record { me = s.me; peers = s.peers; alone = s.alone }) in
    let one = within s (record { first = s.program; later = [] }) [] [] in
    let end = within s (record { first = s.program; later = programs.later }) [] [] in
    let later = map Program programs.later in
    let first = one_line services Between (Service s.me) services (Named s.me)
    (λ line. ap (staying services) (passes (is_named s.me services) (refusal.Twice line) (Ok (Named s.me)) (name_free s.me services others))) in
    let second = one_line services (Named s.me) (Peers s.peers) services head
    (λ line. ap (staying services) (head_free s.me s.peers line (list_any (same_text s.me) s.peers) refl s.alone)) in
    let third = one_line services head (Program s.program) services one
    (λ line. ap (λ (x : Setting). Ok (services, within x (record { first = s.program; later = [] }) [] [])) (setting_again s weight)) in
    let fourth = programs_lead services s s.program [] programs.later in
    let L : List Route → Type 0 = λ first. Leads services Between (head_lines s programs) services (within s (record { first = first; later = programs.later }) [] []) in
    subst L (sym own)
    (then_lines services Between (Service s.me ∷ []) services (Named s.me) (Peers s.peers ∷ Program s.program ∷ later) services end first
    (then_lines services (Named s.me) (Peers s.peers ∷ []) services head (Program s.program ∷ later) services end second
    (then_lines services head (Program s.program ∷ []) services one later services end third fourth)))

service_lead : (services : List DumpService) (s : DumpService) → IsKept s → AreOthers s.setting.me (map service_name services)
    → Leads services Between (service_lines s) (services ++ s ∷ []) Between
service_lead services s kept others =
    let entries = flat_map entry_lines s.entries in
    let rows = map Row s.rows in
    let front = head_lines s.setting s.programs in
    let head = within s.setting s.programs [] [] in
    let told = within s.setting s.programs s.entries [] in
    let first = head_lead services s.setting s.programs kept.weight kept.first others in
    let second = entries_lead services s.setting s.programs [] s.entries kept.entries kept.under kept.ids kept.callers kept.numbers in
    let third = rows_lead services s.setting s.programs s.entries [] s.rows kept.rows in
    let fourth = one_line services (Within s) End (services ++ s ∷ []) Between (λ line. refl) in
    then_lines services Between (front ++ (entries ++ rows)) services (Within s) (End ∷ []) (services ++ s ∷ []) Between
    (then_lines services Between front services head (entries ++ rows) services (Within s) first (then_lines services head entries services told rows services (Within s) second third)) fourth

services_lead : (before todo : List DumpService) → AllByRecursion IsKept todo → AreApart (map service_name (before ++ todo)) → Leads before Between (dump_lines todo) (before ++ todo) Between
services_lead before [] kept apart =
    let L : List DumpService → Type 0 = λ ss. Leads before Between [] ss Between in
    subst L (sym (append-nil before)) (no_lines before Between)
services_lead before (s ∷ todo) kept apart =
    let again : (before ++ s ∷ []) ++ todo ≡ before ++ s ∷ todo = append_assoc before (s ∷ []) todo in
    let others = apart_before (map service_name before) s.setting.me (map service_name todo) (subst AreApart (map-append service_name before (s ∷ todo)) apart) in
    let first = service_lead before s kept.0 others in
    let rest = services_lead (before ++ s ∷ []) todo kept.1 (subst (λ (ss : List DumpService). AreApart (map service_name ss)) (sym again) apart) in
    let L : List DumpService → Type 0 = λ ss. Leads before Between (service_lines s ++ dump_lines todo) ss Between in
    subst L again (then_lines before Between (service_lines s) (before ++ s ∷ []) Between (dump_lines todo) ((before ++ s ∷ []) ++ todo) Between first rest)

-- ---- whole texts

short_so : (b : Bool) (read : Result (List DumpService) DumpRefused) → b ≡ false → cond b (Err refusal.TooLong) read ≡ read
short_so true read h = absurd cc
short_so false read h = refl

only_by : (b : Bool) (lines : List (List ℕ)) (services : List DumpService) → b ≡ false → AreKept services → map line_at lines ≡ map says (dump_lines services)
    → cond b (Err refusal.TooLong) (with_lines [] Between 1 lines) ≡ Ok services
only_by b lines services short kept spells =
    let reads : map line_at lines ≡ map says (dump_lines services) ++ [] = spells ∙ sym (append-nil (map says (dump_lines services))) in
    short_so b (with_lines [] Between 1 lines) short
    ∙ lines_read lines [] Between 1
    ∙ ap (λ (rs : List Read). with_reads [] Between 1 rs) reads
    ∙ services_lead [] services kept.each kept.names 1 [] (Ok services) (λ m. refl)

not_below : (m n : ℕ) → n ≤ m → nat_lt m n ≡ false
not_below m n few = grind (arith, nat_tests)

pub read_only : (text : List ℕ) (services : List DumpService) → AreKept services → Spells text services → length text ≤ 67108864 → read_of text ≡ Ok services
read_only text services kept spells short =
    only_by (nat_lt 67108864 (length text)) (lines_of text) services (not_below 67108864 (length text) short) kept spells
