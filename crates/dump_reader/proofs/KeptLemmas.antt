-- What is read is told once and whole.
use Rattle.std.proofs.Common.{◌≡◌, ℕ, Bool, true, false, cond, not, List, [], ◌∷◌, ◌++◌, Option, Some, None, Ok, Err, nat_eq, ◌+◌, length, map, refl, sym, ap, ◌∙◌, subst, append_assoc, append-nil, eq-eqb, ◌&&◌, ◌||◌}
use Rattle.std.specs.List.{AllByRecursion, list_any}
use Rattle.std.specs.Cmp.Lexicographic.{nat_list_eq_equiv}
use Rattle.std.proofs.lemmas.Bool.{and_from, and_parts}
use Rattle.lang_base.specs.Texts.{same_text}
use Rattle.lang_core.specs.HandedOn.{Route}
use Rattle.lang_core.specs.Origins.{is_call}
use Rattle.lang_core.specs.declared.cells.Cell.{Cell}
use Rattle.lang_core.specs.declared.ids.Origin.{Origin}
use Rattle.lang_core.specs.declared.ids.Origin.TheVariants.{Outside, Call as FromCall}
use Rattle.lang_core.specs.declared.request.Response.{Response}
use Rattle.dump_tables.specs.Kept.{AreApart, AreKept, IsKept, IsSent, IsUnder, IsWhole, call_behind, calls_behind, numbers_of, service_name}
use Rattle.dump_tables.specs.Indexed.{has_number}
use Rattle.dump_tables.specs.Programs.{later_at, with_later}
use Rattle.dump_tables.specs.declared.dump.DumpEntry.{DumpEntry}
use Rattle.dump_tables.specs.declared.dump.DumpService.{DumpService}
use Rattle.dump_words.specs.Lines.{line_at}
use Rattle.dump_words.specs.declared.line.CallLine.{CallLine}
use Rattle.dump_words.specs.declared.line.EntryLine.{EntryLine}
use Rattle.dump_words.specs.declared.line.Line.{Line}
use Rattle.dump_words.specs.declared.line.Line.TheVariants.{Service, Peers, Program, Entry, Under, Call, Answer, Reply, Row, End}
use Rattle.dump_reader.specs.Reading.{Next, Stepped, all_answered, begun, call_of, comes_from, consuming, entry_of, head_by, head_of, headed, is_bare, is_behind, is_empty, is_entered, is_kept, is_named, prepared, put_under, replying, run_on, running_as, service_of, staying, step, under_it, with_answer, with_call, with_entry, with_lines, with_made, with_next_program, with_reply, with_row, with_under}
use Rattle.dump_reader.specs.declared.refused.DumpRefused.TheVariants as refusal
use Rattle.dump_reader.specs.declared.stage.Head.{Head}
use Rattle.dump_reader.specs.declared.stage.Running.{Running}
use Rattle.dump_reader.specs.declared.stage.Stage.{Stage}
use Rattle.dump_reader.specs.declared.stage.Stage.TheVariants.{Between, Named, Headed, Within, Runs}
use Rattle.dump_reader.proofs.RowLemmas.{ordered_more}
use Rattle.dump_reader.proofs.SpelledLemmas.{Fits, StageFits, all_are, flat_more, none_so as no_items, not_first, read_on, step_adds, unless, where_so}

-- ---- lists

pub both_no : (a b : Bool) → (a || b) ≡ false → (a ≡ false) × (b ≡ false)
both_no true b h = absurd cc
both_no false b h = (refl, h)

pub yes_no : (b : Bool) → b ≡ true → b ≡ false → ⊥
yes_no true is isnt = absurd cc
yes_no false is isnt = absurd cc

pub all_push : {X : Type 0} (P : X → Type 0) (xs : List X) (y : X) → AllByRecursion P xs → P y → AllByRecursion P (xs ++ y ∷ [])
all_push P [] y all here = (here, tt)
all_push P (x ∷ xs) y all here = (all.0, all_push P xs y all.1 here)

all_both : {X : Type 0} (P : X → Type 0) (xs ys : List X) → AllByRecursion P xs → AllByRecursion P ys → AllByRecursion P (xs ++ ys)
all_both P [] ys one two = two
all_both P (x ∷ xs) ys one two = (one.0, all_both P xs ys one.1 two)

-- none of these is this
abbrev pub AreOthers : {X : Type 0} → X → List X → Type 0
AreOthers y xs = AllByRecursion (λ x. ¬ (x ≡ y)) xs

apart_push : {X : Type 0} (xs : List X) (y : X) → AreApart xs → AreOthers y xs → AreApart (xs ++ y ∷ [])
apart_push [] y apart others = (tt, tt)
apart_push (x ∷ xs) y apart others = (all_push (λ z. ¬ (x ≡ z)) xs y apart.0 others.0, apart_push xs y apart.1 others.1)

pub map_push : {X Y : Type 0} (f : X → Y) (xs : List X) (x : X) → map f (xs ++ x ∷ []) ≡ map f xs ++ f x ∷ []
map_push f [] x = refl
map_push f (y ∷ xs) x = ap (λ rest. f y ∷ rest) (map_push f xs x)

-- where no test holds
none_so : {X Y : Type 0} (test : X → Bool) (f : X → Y) (y : Y) → ((x : X) → f x ≡ y → test x ≡ true) → (xs : List X) → list_any test xs ≡ false → AreOthers y (map f xs)
none_so test f y so [] h = tt
none_so test f y so (x ∷ xs) h =
    let parts = both_no (test x) (list_any test xs) h in
    (λ e. yes_no (test x) (so x e) parts.0, none_so test f y so xs parts.1)

text_same : (a b : List ℕ) → a ≡ b → same_text a b ≡ true
text_same a b e = ap (λ x. same_text x b) e ∙ nat_list_eq_equiv.refl b

-- ---- services, entries and calls that aren't told yet

named_others : (name : List ℕ) (services : List DumpService) → is_named name services ≡ false → AreOthers name (map service_name services)
named_others name services h = none_so (λ s. same_text s.setting.me name) service_name name (λ s e. text_same s.setting.me name e) services h

id_others : (line : EntryLine) (entries : List DumpEntry) → is_entered line entries ≡ false → AreOthers line.id (map (λ e. e.id) entries)
id_others line [] h = tt
id_others line (e ∷ entries) h =
    let parts = both_no (nat_eq e.id line.id || comes_from line.origin e) (is_entered line entries) h in
    (λ is. yes_no (nat_eq e.id line.id) (eq-eqb e.id line.id is) (both_no (nat_eq e.id line.id) (comes_from line.origin e) parts.0).0, id_others line entries parts.1)

not_behind : (caller : List ℕ) (number : ℕ) (o : Origin) → is_call caller number o ≡ false → AreOthers (caller, number) (call_behind o)
not_behind caller number Outside h = tt
not_behind caller number (FromCall c n) h = (
  λ e. yes_no (same_text c caller && nat_eq n number)
      (and_from (same_text c caller) (nat_eq n number) (text_same c caller (ap (λ p. p.0) e)) (eq-eqb n number (ap (λ p. p.1) e))) h,
  tt,
)

none_behind : (line : EntryLine) (caller : List ℕ) (number : ℕ) → line.origin ≡ FromCall caller number → (entries : List DumpEntry) → is_entered line entries ≡ false
    → AreOthers (caller, number) (calls_behind entries)
none_behind line caller number is [] h = tt
none_behind line caller number is (e ∷ entries) h =
    let parts = both_no (nat_eq e.id line.id || comes_from line.origin e) (is_entered line entries) h in
    let other = (both_no (nat_eq e.id line.id) (comes_from line.origin e) parts.0).1 in
    all_both (λ x. ¬ (x ≡ (caller, number))) (call_behind e.origin) (calls_behind entries)
    (not_behind caller number e.origin (ap (λ (o : Origin). comes_from o e) (sym is) ∙ other)) (none_behind line caller number is entries parts.1)

callers_push : (line : EntryLine) (o : Origin) → line.origin ≡ o → (entries : List DumpEntry) → is_entered line entries ≡ false → AreApart (calls_behind entries)
    → AreApart (calls_behind entries ++ call_behind o)
callers_push line Outside is entries h apart = subst AreApart (sym (append-nil (calls_behind entries))) apart
callers_push line (FromCall caller number) is entries h apart =
    apart_push (calls_behind entries) (caller, number) apart (none_behind line caller number is entries h)

not_among : (n : ℕ) (ns : List ℕ) → list_any (nat_eq n) ns ≡ false → AreOthers n ns
not_among n [] h = tt
not_among n (m ∷ ns) h =
    let parts = both_no (nat_eq n m) (list_any (nat_eq n) ns) h in
    (λ e. yes_no (nat_eq n m) (eq-eqb n m (sym e)) parts.0, not_among n ns parts.1)

none_numbered : (n : ℕ) (entries : List DumpEntry) → list_any (has_number n) entries ≡ false → AreOthers n (numbers_of entries)
none_numbered n [] h = tt
none_numbered n (e ∷ entries) h =
    let parts = both_no (has_number n e) (list_any (has_number n) entries) h in
    all_both (λ x. ¬ (x ≡ n)) e.numbers (numbers_of entries) (not_among n e.numbers parts.0) (none_numbered n entries parts.1)

-- ---- what the lines so far keep

-- a service of this name may follow these
abbrev pub IsNew : List DumpService → List ℕ → Type 0
IsNew services me = AreApart (map service_name services ++ me ∷ [])

-- what is kept while an entry's lines go on
record RunKept (r : Running) : Type 0 where
  weight : r.setting.weight ≡ 0
  first : r.programs.first ≡ r.setting.program
  ids : AreApart (map (λ e. e.id) r.entries ++ r.entry.id ∷ [])
  callers : AreApart (calls_behind r.entries ++ call_behind r.entry.origin)
  numbers : AreApart (numbers_of r.entries ++ r.entry.numbers)
  entries : AllByRecursion (IsWhole r.setting.me) r.entries
  under : AllByRecursion (IsUnder r.programs) r.entries
  own : IsUnder r.programs r.entry
  sent : AllByRecursion (IsSent r.setting.me r.entry.request.chain) r.entry.calls

abbrev StageKept : List DumpService → Stage → Type 0
StageKept services Between = Unit {0}
StageKept services (Named me) = IsNew services me
StageKept services (Headed h) = IsNew services h.me
StageKept services (Within s) = IsNew services s.setting.me × IsKept s
StageKept services (Runs r) = IsNew services r.setting.me × RunKept r

kept_it : (services : List DumpService) (this next : Stage) → StageKept services this → ◌≡◌ {A = Next} (Ok this) (Ok next) → StageKept services next
kept_it services this next kept h =
    let same : this ≡ next = cc in
    let K : Stage → Type 0 = λ x. StageKept services x in
    subst K same kept

begun_kept : (services : List DumpService) (n : ℕ) (line : Line) (next : Stage) → AreKept services → begun services n line ≡ Ok next → StageKept services next
begun_kept services n (Service name) next kept h =
    let first = unless (is_named name services) (refusal.Twice n) (Ok (Named name)) next h in
    kept_it services (Named name) next (apart_push (map service_name services) name kept.names (named_others name services first.0)) first.1
begun_kept services n (Peers x) next kept h = absurd cc
begun_kept services n (Program x) next kept h = absurd cc
begun_kept services n (Entry x) next kept h = absurd cc
begun_kept services n (Under x) next kept h = absurd cc
begun_kept services n (Call x) next kept h = absurd cc
begun_kept services n (Answer x) next kept h = absurd cc
begun_kept services n (Reply x) next kept h = absurd cc
begun_kept services n (Row x) next kept h = absurd cc
begun_kept services n End next kept h = absurd cc

head_kept : (services : List DumpService) (me : List ℕ) (peers : List (List ℕ)) (n : ℕ) (b : Bool) (is : list_any (same_text me) peers ≡ b) (next : Stage) → IsNew services me → head_by me peers n b is ≡ Ok next
    → StageKept services next
head_kept services me peers n true is next new h = absurd cc
head_kept services me peers n false is next new h = kept_it services (Headed (head_of me peers is)) next new h

headed_kept : (services : List DumpService) (me : List ℕ) (n : ℕ) (line : Line) (next : Stage) → IsNew services me → headed me n line ≡ Ok next → StageKept services next
headed_kept services me n (Peers peers) next new h = head_kept services me peers n (list_any (same_text me) peers) refl next new h
headed_kept services me n (Service x) next new h = absurd cc
headed_kept services me n (Program x) next new h = absurd cc
headed_kept services me n (Entry x) next new h = absurd cc
headed_kept services me n (Under x) next new h = absurd cc
headed_kept services me n (Call x) next new h = absurd cc
headed_kept services me n (Answer x) next new h = absurd cc
headed_kept services me n (Reply x) next new h = absurd cc
headed_kept services me n (Row x) next new h = absurd cc
headed_kept services me n End next new h = absurd cc

prepared_kept : (services : List DumpService) (head : Head) (n : ℕ) (line : Line) (next : Stage) → IsNew services head.me → prepared head n line ≡ Ok next → StageKept services next
prepared_kept services head n (Program program) next new h =
    kept_it services (Within (service_of head program)) next (new, record { weight = refl; first = refl; ids = tt; callers = tt; numbers = tt; rows = tt; entries = tt; under = tt }) h
prepared_kept services head n (Service x) next new h = absurd cc
prepared_kept services head n (Peers x) next new h = absurd cc
prepared_kept services head n (Entry x) next new h = absurd cc
prepared_kept services head n (Under x) next new h = absurd cc
prepared_kept services head n (Call x) next new h = absurd cc
prepared_kept services head n (Answer x) next new h = absurd cc
prepared_kept services head n (Reply x) next new h = absurd cc
prepared_kept services head n (Row x) next new h = absurd cc
prepared_kept services head n End next new h = absurd cc

program_kept : (services : List DumpService) (s : DumpService) (n : ℕ) (program : List Route) (next : Stage) → IsNew services s.setting.me → IsKept s
    → with_next_program s n program ≡ Ok next → StageKept services next
program_kept services s n program next new kept h =
    let programs = with_later s.programs program in
    let first = where_so (is_empty s) (Ok (Within (record { setting = s.setting; programs = programs; entries = s.entries; rows = s.rows }))) (refusal.Shape n) next h in
    let none = no_items s.entries (and_parts (nat_eq (length s.entries) 0) (nat_eq (length s.rows) 0) first.0).0 in
    let U : List DumpEntry → Type 0 = λ es. AllByRecursion (IsUnder programs) es in
    kept_it services (Within (record { setting = s.setting; programs = programs; entries = s.entries; rows = s.rows })) next (
      new,
      record {
        weight = kept.weight;
        first = kept.first;
        ids = kept.ids;
        callers = kept.callers;
        numbers = kept.numbers;
        rows = kept.rows;
        entries = kept.entries;
        under = subst U (sym none) tt;
      },
    ) first.1

entry_kept : (services : List DumpService) (s : DumpService) (n : ℕ) (line : EntryLine) (next : Stage) → IsNew services s.setting.me → IsKept s → with_entry s n line ≡ Ok next
    → StageKept services next
entry_kept services s n line next new kept h =
    let r : Running = record { setting = s.setting; programs = s.programs; entries = s.entries; entry = entry_of s.programs.first line } in
    let first = unless (not (nat_eq (length s.rows) 0)) (refusal.Shape n) (cond (is_entered line s.entries) (Err (refusal.Twice n)) (Ok (Runs r))) next h in
    let second = unless (is_entered line s.entries) (refusal.Twice n) (Ok (Runs r)) next first.1 in
    kept_it services (Runs r) next (
      new,
      record {
        weight = kept.weight;
        ids = apart_push (map (λ e. e.id) s.entries) line.id kept.ids (id_others line s.entries second.0);
        callers = callers_push line line.origin refl s.entries second.0 kept.callers;
        numbers = subst AreApart (sym (append-nil (numbers_of s.entries))) kept.numbers;
        first = kept.first;
        entries = kept.entries;
        under = kept.under;
        own = refl;
        sent = tt;
      },
    ) second.1

row_kept : (services : List DumpService) (b twice : Bool) (s : DumpService) (n : ℕ) (c : Cell) (next : Stage) → is_behind s.rows c ≡ b → IsNew services s.setting.me → IsKept s
    → cond b (Ok (Within (record { setting = s.setting; programs = s.programs; entries = s.entries; rows = s.rows ++ c ∷ [] }))) (cond twice (Err (refusal.Twice n)) (Err (refusal.Rows n))) ≡ Ok next
    → StageKept services next
row_kept services true twice s n c next behind new kept h =
    kept_it services (Within (record { setting = s.setting; programs = s.programs; entries = s.entries; rows = s.rows ++ c ∷ [] })) next (
      new,
      record {
        weight = kept.weight;
        ids = kept.ids;
        callers = kept.callers;
        numbers = kept.numbers;
        rows = ordered_more s.rows c kept.rows behind;
        first = kept.first;
        entries = kept.entries;
        under = kept.under;
      },
    ) h
row_kept services false true s n c next behind new kept h = absurd cc
row_kept services false false s n c next behind new kept h = absurd cc

under_so : (services : List DumpService) (r : Running) (n number : ℕ) (found : Option (List Route)) (next : Stage) → later_at number r.programs.later ≡ found → IsNew services r.setting.me → RunKept r
    → under_it r n number found ≡ Ok next → StageKept services next
under_so services r n number None next is new kept h = absurd cc
under_so services r n number (Some program) next is new kept h =
    let other = not_first number r.programs.later program is in
    kept_it services (running_as r (put_under r.entry number program)) next (
      new,
      record {
        weight = kept.weight;
        first = kept.first;
        ids = kept.ids;
        callers = kept.callers;
        numbers = kept.numbers;
        entries = kept.entries;
        under = kept.under;
        own = ap (λ (b : Bool). cond b (Some r.programs.first) (later_at number r.programs.later)) other ∙ is;
        sent = kept.sent;
      },
    ) h

under_kept : (services : List DumpService) (r : Running) (n number : ℕ) (next : Stage) → IsNew services r.setting.me → RunKept r → with_under r n number ≡ Ok next → StageKept services next
under_kept services r n number next new kept h =
    let found = later_at number r.programs.later in
    under_so services r n number found next refl new kept (where_so (is_bare r.entry) (under_it r n number found) (refusal.Shape n) next h).1

call_kept : (services : List DumpService) (r : Running) (n : ℕ) (c : CallLine) (next : Stage) → IsNew services r.setting.me → RunKept r → with_call r n c ≡ Ok next → StageKept services next
call_kept services r n c next new kept h =
    let e = r.entry in
    let call = call_of r.setting.me e.request.chain c in
    let made = with_made e c.number call in
    let others = list_any (has_number c.number) r.entries in
    let twice = others || has_number c.number e in
    let first = unless (not (all_answered e)) (refusal.Shape n) (cond twice (Err (refusal.Twice n)) (Ok (running_as r made))) next h in
    let second = unless twice (refusal.Twice n) (Ok (running_as r made)) next first.1 in
    let free = both_no others (has_number c.number e) second.0 in
    let front = numbers_of r.entries ++ e.numbers in
    let none = all_both (λ x. ¬ (x ≡ c.number)) (numbers_of r.entries) e.numbers (none_numbered c.number r.entries free.0) (not_among c.number e.numbers free.1) in
    kept_it services (running_as r made) next (
      new,
      record {
        weight = kept.weight;
        ids = kept.ids;
        callers = kept.callers;
        numbers = subst AreApart (append_assoc (numbers_of r.entries) e.numbers (c.number ∷ [])) (apart_push front c.number kept.numbers none);
        first = kept.first;
        entries = kept.entries;
        under = kept.under;
        own = kept.own;
        sent = all_push (IsSent r.setting.me e.request.chain) e.calls call kept.sent (refl, refl);
      },
    ) second.1

answer_kept : (services : List DumpService) (r : Running) (n : ℕ) (answer : Response) (next : Stage) → IsNew services r.setting.me → RunKept r → with_answer r n answer ≡ Ok next → StageKept services next
answer_kept services r n answer next new kept h =
    let more = consuming r.entry answer in
    let first = unless (all_answered r.entry) (refusal.Shape n) (Ok (running_as r more)) next h in
    kept_it services (running_as r more) next (
      new,
      record {
        weight = kept.weight;
        ids = kept.ids;
        callers = kept.callers;
        numbers = kept.numbers;
        first = kept.first;
        entries = kept.entries;
        under = kept.under;
        own = kept.own;
        sent = kept.sent;
      },
    ) first.1

reply_kept : (services : List DumpService) (r : Running) (n : ℕ) (reply : Option Response) (next : Stage) → IsNew services r.setting.me → RunKept r → Fits r.entry → with_reply r n reply ≡ Ok next
    → StageKept services next
reply_kept services r n reply next new kept fits h =
    let e = replying r.entry reply in
    let s : DumpService = record { setting = r.setting; programs = r.programs; entries = r.entries ++ e ∷ []; rows = [] } in
    let first = unless (not (all_answered r.entry)) (refusal.Shape n) (Ok (Within s)) next h in
    kept_it services (Within s) next (
      new,
      record {
        weight = kept.weight;
        ids = subst AreApart (sym (map_push (λ x. x.id) r.entries e)) kept.ids;
        callers = subst AreApart (sym (flat_more (λ x. call_behind x.origin) r.entries e)) kept.callers;
        numbers = subst AreApart (sym (flat_more (λ x. x.numbers) r.entries e)) kept.numbers;
        rows = tt;
        first = kept.first;
        under = all_push (IsUnder r.programs) r.entries e kept.under kept.own;
        entries = all_push (IsWhole r.setting.me) r.entries e kept.entries (record { named = fits.named; answered = all_are r.entry first.0; sent = kept.sent });
      },
    ) first.1

run_kept : (services : List DumpService) (r : Running) (n : ℕ) (line : Line) (next : Stage) → IsNew services r.setting.me → RunKept r → Fits r.entry → run_on r n line ≡ Ok next
    → StageKept services next
run_kept services r n (Under number) next new kept fits h = under_kept services r n number next new kept h
run_kept services r n (Call c) next new kept fits h = call_kept services r n c next new kept h
run_kept services r n (Answer answer) next new kept fits h = answer_kept services r n answer next new kept h
run_kept services r n (Reply reply) next new kept fits h = reply_kept services r n reply next new kept fits h
run_kept services r n (Service x) next new kept fits h = absurd cc
run_kept services r n (Peers x) next new kept fits h = absurd cc
run_kept services r n (Program x) next new kept fits h = absurd cc
run_kept services r n (Entry x) next new kept fits h = absurd cc
run_kept services r n (Row x) next new kept fits h = absurd cc
run_kept services r n End next new kept fits h = absurd cc

-- ---- whole texts

record KeptOn (next : List DumpService × Stage) : Type 0 where
  services : AreKept next.0
  stage : StageKept next.0 next.1

stayed : (services : List DumpService) (step : Next) (next : List DumpService × Stage) → AreKept services → ((to : Stage) → step ≡ Ok to → StageKept services to)
    → staying services step ≡ Ok next → KeptOn next
stayed services (Err why) next kept stage h = absurd cc
stayed services (Ok to) next kept stage h =
    let same : ◌≡◌ {A = List DumpService × Stage} (services, to) next = cc in
    let K : List DumpService × Stage → Type 0 = λ x. KeptOn x in
    subst K same (record { services = kept; stage = stage to refl })

ended_kept : (services : List DumpService) (s : DumpService) (next : List DumpService × Stage) → AreKept services → IsNew services s.setting.me → IsKept s
    → ◌≡◌ {A = Stepped} (Ok (services ++ s ∷ [], Between)) (Ok next) → KeptOn next
ended_kept services s next kept new here h =
    let same : ◌≡◌ {A = List DumpService × Stage} (services ++ s ∷ [], Between) next = cc in
    let K : List DumpService × Stage → Type 0 = λ x. KeptOn x in
    subst K same (record {
      services = record { names = subst AreApart (sym (map_push service_name services s)) new; each = all_push IsKept services s kept.each here };
      stage = tt;
    })

step_kept : (services : List DumpService) (stage : Stage) (n : ℕ) (line : Line) (next : List DumpService × Stage) → AreKept services → StageKept services stage → StageFits stage
    → step services stage n line ≡ Ok next → KeptOn next
step_kept services Between n line next kept here fits h = stayed services (begun services n line) next kept (λ to e. begun_kept services n line to kept e) h
step_kept services (Named me) n line next kept here fits h = stayed services (headed me n line) next kept (λ to e. headed_kept services me n line to here e) h
step_kept services (Headed head) n line next kept here fits h =
    stayed services (prepared head n line) next kept (λ to e. prepared_kept services head n line to here e) h
step_kept services (Within s) n (Program program) next kept here fits h =
    stayed services (with_next_program s n program) next kept (λ to e. program_kept services s n program to here.0 here.1 e) h
step_kept services (Within s) n (Entry line) next kept here fits h =
    stayed services (with_entry s n line) next kept (λ to e. entry_kept services s n line to here.0 here.1 e) h
step_kept services (Within s) n (Row c) next kept here fits h =
    stayed services (with_row s n c) next kept (λ to e. row_kept services (is_behind s.rows c) (is_kept c s.rows) s n c to refl here.0 here.1 e) h
step_kept services (Within s) n End next kept here fits h = ended_kept services s next kept here.0 here.1 h
step_kept services (Within s) n (Service x) next kept here fits h = absurd cc
step_kept services (Within s) n (Peers x) next kept here fits h = absurd cc
step_kept services (Within s) n (Under x) next kept here fits h = absurd cc
step_kept services (Within s) n (Call x) next kept here fits h = absurd cc
step_kept services (Within s) n (Answer x) next kept here fits h = absurd cc
step_kept services (Within s) n (Reply x) next kept here fits h = absurd cc
step_kept services (Runs r) n line next kept here fits h =
    stayed services (run_on r n line) next kept (λ to e. run_kept services r n line to here.0 here.1 fits e) h

ended_so : (services : List DumpService) (stage : Stage) (n : ℕ) (out : List DumpService) → AreKept services → with_lines services stage n [] ≡ Ok out → AreKept out
ended_so services Between n out kept h = let same : services ≡ out = cc in subst AreKept same kept
ended_so services (Named me) n out kept h = absurd cc
ended_so services (Headed head) n out kept h = absurd cc
ended_so services (Within s) n out kept h = absurd cc
ended_so services (Runs r) n out kept h = absurd cc

all_kept : (lines : List (List ℕ)) (services : List DumpService) (stage : Stage) (n : ℕ) (out : List DumpService) → AreKept services → StageKept services stage → StageFits stage
    → with_lines services stage n lines ≡ Ok out → AreKept out
all_kept [] services stage n out kept here fits h = ended_so services stage n out kept h
all_kept (line ∷ lines) services stage n out kept here fits h =
    let on = read_on services stage n (line_at line) out (λ next. with_lines next.0 next.1 (n + 1) lines) h in
    let now = step_kept services stage n on.line on.next kept here fits on.steps in
    all_kept lines on.next.0 on.next.1 (n + 1) out now.services now.stage (step_adds services stage n on.line on.next fits on.steps).fits on.later

-- what these lines say is kept
pub lines_kept : (lines : List (List ℕ)) (out : List DumpService) → with_lines [] Between 1 lines ≡ Ok out → AreKept out
lines_kept lines out h = all_kept lines [] Between 1 out (record { names = tt; each = tt }) tt tt h
