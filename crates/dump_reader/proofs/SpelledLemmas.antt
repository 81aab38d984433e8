-- What is read is what the lines say.
use Rattle.std.proofs.Common.{◌≡◌, ◌⊎◌, ℕ, ◌+◌, ◌-◌, suc, Bool, true, false, cond, not, List, [], ◌∷◌, ◌++◌, Option, Some, None, Result, Ok, Err, nat_eq, nat_lt, slice_get, length, map, inl, inr, refl, sym, ap, ◌∙◌, subst, append_assoc, append-nil, length-append, eq-eqb, eqb-true, ◌||◌, arith}
use Rattle.std.specs.List.{flat_map, list_any}
use Rattle.std.proofs.lemmas.Bool.{and_parts}
use Rattle.std.proofs.lemmas.List.{map-append}
use Rattle.lang_base.specs.Texts.{same_text}
use Rattle.lang_core.specs.HandedOn.{Route}
use Rattle.lang_core.specs.declared.cells.Cell.{Cell}
use Rattle.lang_core.specs.declared.request.Response.{Response}
use Rattle.lang_core.specs.declared.trace.CallMade.{CallMade}
use Rattle.dump_tables.specs.Indexed.{has_number}
use Rattle.dump_tables.specs.Programs.{later_at, with_later}
use Rattle.dump_tables.specs.declared.dump.DumpEntry.{DumpEntry}
use Rattle.dump_tables.specs.declared.dump.DumpService.{DumpService}
use Rattle.dump_words.specs.Lines.{Read, line_at}
use Rattle.dump_words.specs.declared.line.CallLine.{CallLine}
use Rattle.dump_words.specs.declared.line.EntryLine.{EntryLine}
use Rattle.dump_words.specs.declared.line.Line.{Line}
use Rattle.dump_words.specs.declared.line.Line.TheVariants.{Service, Peers, Program, Entry, Under, Call, Answer, Reply, Row, End}
use Rattle.dump_reader.specs.Reading.{Next, Stepped, all_answered, and_then, at_end, begun, call_of, consuming, entry_of, head_by, head_of, headed, is_bare, is_behind, is_empty, is_entered, is_kept, is_named, lines_of, prepared, put_under, read_of, replying, run_on, running_as, service_of, staying, step, step_read, under_it, with_answer, with_call, with_entry, with_lines, with_made, with_next_program, with_reply, with_row, with_under}
use Rattle.dump_reader.specs.Spelled.{Spells, begun_lines, call_line, call_lines, dump_lines, entry_line, entry_lines, head_lines, inner_lines, says, service_lines, under_lines}
use Rattle.dump_reader.specs.declared.refused.DumpRefused.{DumpRefused}
use Rattle.dump_reader.specs.declared.refused.DumpRefused.TheVariants as refusal
use Rattle.dump_reader.specs.declared.stage.Head.{Head}
use Rattle.dump_reader.specs.declared.stage.Running.{Running}
use Rattle.dump_reader.specs.declared.stage.Stage.{Stage}
use Rattle.dump_reader.specs.declared.stage.Stage.TheVariants.{Between, Named, Headed, Within, Runs}

-- ---- the lines of what isn't ended yet

abbrev pub stage_lines : Stage → List Line
stage_lines Between = []
stage_lines (Named me) = Service me ∷ []
stage_lines (Headed h) = Service h.me ∷ Peers h.peers ∷ []
stage_lines (Within s) = inner_lines s
stage_lines (Runs r) = head_lines r.setting r.programs ++ (flat_map entry_lines r.entries ++ begun_lines r.entry)

-- each call has its name, and its answer but for the last
pub record Fits (e : DumpEntry) : Type 0 where
  pub named : length e.calls ≡ length e.numbers
  pub answered : (length e.answers ≡ length e.numbers) ⊎ (suc (length e.answers) ≡ length e.numbers)

abbrev pub StageFits : Stage → Type 0
StageFits (Runs r) = Fits r.entry
StageFits stage = Unit {0}

pub un_not : (b : Bool) → not b ≡ false → b ≡ true
un_not true h = refl
un_not false h = absurd cc

both_ways : (m n : ℕ) → m ≡ n → nat_eq m n ≡ false → ⊥
both_ways m n same differ = let yes : nat_eq m n ≡ true = eq-eqb m n same in let no : true ≡ false = sym yes ∙ differ in cc

-- ---- one more

pub call_more : (ns : List ℕ) (cs : List CallMade) (rs : List Response) (n : ℕ) (c : CallMade) → length cs ≡ length ns → length rs ≡ length ns
    → call_lines (ns ++ n ∷ []) (cs ++ c ∷ []) rs ≡ call_lines ns cs rs ++ Call (call_line n c) ∷ []
call_more [] [] [] n c a b = refl
call_more [] (d ∷ cs) rs n c a b = absurd (omega (arith, a))
call_more [] [] (r ∷ rs) n c a b = absurd (omega (arith, b))
call_more (m ∷ ns) [] rs n c a b = absurd (omega (arith, a))
call_more (m ∷ ns) (d ∷ cs) [] n c a b = absurd (omega (arith, b))
call_more (m ∷ ns) (d ∷ cs) (r ∷ rs) n c a b =
    let x : length cs ≡ length ns = omega (arith, a) in
    let y : length rs ≡ length ns = omega (arith, b) in
    ap (λ (lines : List Line). Call (call_line m d) ∷ Answer r ∷ lines) (call_more ns cs rs n c x y)

pub answer_more : (ns : List ℕ) (cs : List CallMade) (rs : List Response) (r : Response) → length cs ≡ length ns → suc (length rs) ≡ length ns
    → call_lines ns cs (rs ++ r ∷ []) ≡ call_lines ns cs rs ++ Answer r ∷ []
answer_more [] cs rs r a b = absurd (omega (arith, b))
answer_more (m ∷ ns) [] rs r a b = absurd (omega (arith, a))
answer_more (m ∷ []) (d ∷ []) [] r a b = refl
answer_more (m ∷ []) (d ∷ e ∷ cs) [] r a b = absurd (omega (arith, a))
answer_more (m ∷ n ∷ ns) (d ∷ cs) [] r a b = absurd (omega (arith, b))
answer_more (m ∷ ns) (d ∷ cs) (s ∷ rs) r a b =
    let x : length cs ≡ length ns = omega (arith, a) in
    let y : suc (length rs) ≡ length ns = omega (arith, b) in
    ap (λ (lines : List Line). Call (call_line m d) ∷ Answer s ∷ lines) (answer_more ns cs rs r x y)

pub rows_more : (rows : List Cell) (c : Cell) → map Row (rows ++ c ∷ []) ≡ map Row rows ++ Row c ∷ []
rows_more [] c = refl
rows_more (r ∷ rows) c = ap (λ (lines : List Line). Row r ∷ lines) (rows_more rows c)

pub flat_more : {X Y : Type 0} (f : X → List Y) (xs : List X) (x : X) → flat_map f (xs ++ x ∷ []) ≡ flat_map f xs ++ f x
flat_more f [] x = append-nil (f x)
flat_more f (y ∷ xs) x = ap (λ rest. f y ++ rest) (flat_more f xs x) ∙ sym (append_assoc (f y) (flat_map f xs) (f x))

-- two fronts and one more line
two_more : (a b c : List Line) (line : Line) → a ++ (b ++ (c ++ line ∷ [])) ≡ (a ++ (b ++ c)) ++ line ∷ []
two_more a b c line = ap (λ rest. a ++ rest) (sym (append_assoc b c (line ∷ []))) ∙ sym (append_assoc a (b ++ c) (line ∷ []))

-- ---- what a line adds

record Adds (stage : Stage) (line : Line) (next : Stage) : Type 0 where
  lines : stage_lines next ≡ stage_lines stage ++ line ∷ []
  fits : StageFits next

pub unless : (b : Bool) (why : DumpRefused) (more : Next) (next : Stage) → cond b (Err why) more ≡ Ok next → (b ≡ false) × (more ≡ Ok next)
unless true why more next h = absurd cc
unless false why more next h = (refl, h)

adds_it : (stage : Stage) (line : Line) (this next : Stage) → Adds stage line this → ◌≡◌ {A = Next} (Ok this) (Ok next) → Adds stage line next
adds_it stage line this next a h =
    let same : this ≡ next = cc in
    let A : Stage → Type 0 = λ x. Adds stage line x in
    subst A same a

begun_adds : (services : List DumpService) (n : ℕ) (line : Line) (next : Stage) → begun services n line ≡ Ok next → Adds Between line next
begun_adds services n (Service name) next h =
    adds_it Between (Service name) (Named name) next (record { lines = refl; fits = tt }) (unless (is_named name services) (refusal.Twice n) (Ok (Named name)) next h).1
begun_adds services n (Peers x) next h = absurd cc
begun_adds services n (Program x) next h = absurd cc
begun_adds services n (Entry x) next h = absurd cc
begun_adds services n (Under x) next h = absurd cc
begun_adds services n (Call x) next h = absurd cc
begun_adds services n (Answer x) next h = absurd cc
begun_adds services n (Reply x) next h = absurd cc
begun_adds services n (Row x) next h = absurd cc
begun_adds services n End next h = absurd cc

head_adds : (me : List ℕ) (peers : List (List ℕ)) (n : ℕ) (b : Bool) (is : list_any (same_text me) peers ≡ b) (next : Stage) → head_by me peers n b is ≡ Ok next → Adds (Named me) (Peers peers) next
head_adds me peers n true is next h = absurd cc
head_adds me peers n false is next h = adds_it (Named me) (Peers peers) (Headed (head_of me peers is)) next (record { lines = refl; fits = tt }) h

headed_adds : (me : List ℕ) (n : ℕ) (line : Line) (next : Stage) → headed me n line ≡ Ok next → Adds (Named me) line next
headed_adds me n (Peers peers) next h = head_adds me peers n (list_any (same_text me) peers) refl next h
headed_adds me n (Service x) next h = absurd cc
headed_adds me n (Program x) next h = absurd cc
headed_adds me n (Entry x) next h = absurd cc
headed_adds me n (Under x) next h = absurd cc
headed_adds me n (Call x) next h = absurd cc
headed_adds me n (Answer x) next h = absurd cc
headed_adds me n (Reply x) next h = absurd cc
headed_adds me n (Row x) next h = absurd cc
headed_adds me n End next h = absurd cc

prepared_adds : (h : Head) (n : ℕ) (line : Line) (next : Stage) → prepared h n line ≡ Ok next → Adds (Headed h) line next
prepared_adds head n (Program program) next h =
    adds_it (Headed head) (Program program) (Within (service_of head program)) next (record { lines = refl; fits = tt }) h
prepared_adds head n (Service x) next h = absurd cc
prepared_adds head n (Peers x) next h = absurd cc
prepared_adds head n (Entry x) next h = absurd cc
prepared_adds head n (Under x) next h = absurd cc
prepared_adds head n (Call x) next h = absurd cc
prepared_adds head n (Answer x) next h = absurd cc
prepared_adds head n (Reply x) next h = absurd cc
prepared_adds head n (Row x) next h = absurd cc
prepared_adds head n End next h = absurd cc

pub none_so : {X : Type 0} (xs : List X) → nat_eq (length xs) 0 ≡ true → xs ≡ []
none_so [] h = refl
none_so (x ∷ xs) h = absurd (omega (arith, eqb-true (length (x ∷ xs)) 0 h))

pub where_so : (b : Bool) (this : Next) (why : DumpRefused) (next : Stage) → cond b this (Err why) ≡ Ok next → (b ≡ true) × (this ≡ Ok next)
where_so true this why next h = (refl, h)
where_so false this why next h = absurd cc

-- one program more
head_more : (s : DumpService) (program : List Route) → head_lines s.setting (with_later s.programs program) ≡ head_lines s.setting s.programs ++ Program program ∷ []
head_more s program =
    ap (λ (programs : List Line). Service s.setting.me ∷ Peers s.setting.peers ∷ Program s.setting.program ∷ programs) (map-append Program s.programs.later (program ∷ []))

program_adds : (s : DumpService) (n : ℕ) (program : List Route) (next : Stage) → with_next_program s n program ≡ Ok next → Adds (Within s) (Program program) next
program_adds s n program next h =
    let more : DumpService = record { setting = s.setting; programs = with_later s.programs program; entries = s.entries; rows = s.rows } in
    let first = where_so (is_empty s) (Ok (Within more)) (refusal.Shape n) next h in
    let parts = and_parts (nat_eq (length s.entries) 0) (nat_eq (length s.rows) 0) first.0 in
    let front = head_lines s.setting s.programs in
    let front_now = head_lines s.setting more.programs in
    let told = flat_map entry_lines s.entries ++ map Row s.rows in
    let none : told ≡ [] = ap (λ (es : List DumpEntry). flat_map entry_lines es ++ map Row s.rows) (none_so s.entries parts.0) ∙ ap (λ (rows : List Cell). map Row rows) (none_so s.rows parts.1) in
    adds_it (Within s) (Program program) (Within more) next
    (record {
      lines = ap (λ (rest : List Line). front_now ++ rest) none
          ∙ append-nil front_now
          ∙ head_more s program
          ∙ ap (λ (lines : List Line). lines ++ Program program ∷ []) (sym (append-nil front))
          ∙ ap (λ (rest : List Line). (front ++ rest) ++ Program program ∷ []) (sym none);
      fits = tt;
    }) first.1

entry_adds : (s : DumpService) (n : ℕ) (line : EntryLine) (next : Stage) → with_entry s n line ≡ Ok next → Adds (Within s) (Entry line) next
entry_adds s n line next h =
    let r : Running = record { setting = s.setting; programs = s.programs; entries = s.entries; entry = entry_of s.programs.first line } in
    let first = unless (not (nat_eq (length s.rows) 0)) (refusal.Shape n) (cond (is_entered line s.entries) (Err (refusal.Twice n)) (Ok (Runs r))) next h in
    let second = unless (is_entered line s.entries) (refusal.Twice n) (Ok (Runs r)) next first.1 in
    let none = none_so s.rows (un_not (nat_eq (length s.rows) 0) first.0) in
    let front = head_lines s.setting s.programs in
    let entries = flat_map entry_lines s.entries in
    adds_it (Within s) (Entry line) (Runs r) next
    (record {
      lines = two_more front entries [] (Entry line)
          ∙ ap (λ (rows : List Cell). (front ++ (entries ++ map Row rows)) ++ Entry line ∷ []) (sym none);
      fits = record { named = refl; answered = inl refl };
    }) second.1

behind_adds : (s : DumpService) (c : Cell) → Adds (Within s) (Row c) (Within (record { setting = s.setting; programs = s.programs; entries = s.entries; rows = s.rows ++ c ∷ [] }))
behind_adds s c =
    let front = head_lines s.setting s.programs in
    let entries = flat_map entry_lines s.entries in
    record {
      lines = ap (λ (rows : List Line). front ++ (entries ++ rows)) (rows_more s.rows c) ∙ two_more front entries (map Row s.rows) (Row c);
      fits = tt;
    }

row_by : (b twice : Bool) (s : DumpService) (n : ℕ) (c : Cell) (next : Stage)
    → cond b (Ok (Within (record { setting = s.setting; programs = s.programs; entries = s.entries; rows = s.rows ++ c ∷ [] }))) (cond twice (Err (refusal.Twice n)) (Err (refusal.Rows n))) ≡ Ok next
    → Adds (Within s) (Row c) next
row_by true twice s n c next h =
    adds_it (Within s) (Row c) (Within (record { setting = s.setting; programs = s.programs; entries = s.entries; rows = s.rows ++ c ∷ [] })) next (behind_adds s c) h
row_by false true s n c next h = absurd cc
row_by false false s n c next h = absurd cc

pub all_are : (e : DumpEntry) → not (all_answered e) ≡ false → length e.answers ≡ length e.numbers
all_are e h = sym (eqb-true (length e.numbers) (length e.answers) (un_not (all_answered e) h))

one_lacks : (e : DumpEntry) → Fits e → all_answered e ≡ false → suc (length e.answers) ≡ length e.numbers
one_lacks e fits h = elim fits.answered [
  | inl same ↦ absurd (both_ways (length e.numbers) (length e.answers) (sym same) h)
  | inr lacks ↦ lacks
]

-- the program of an entry of which no call is told
no_call_lines : (cs : List CallMade) (rs : List Response) → call_lines [] cs rs ≡ []
no_call_lines [] [] = refl
no_call_lines [] (r ∷ rs) = refl
no_call_lines (c ∷ cs) [] = refl
no_call_lines (c ∷ cs) (r ∷ rs) = refl

not_none : (b : Bool) (o : Option (List Route)) (program : List Route) → cond b None o ≡ Some program → b ≡ false
not_none true o program h = absurd cc
not_none false o program h = refl

not_one : (number : ℕ) (b : Bool) → nat_eq number 1 ≡ b → nat_lt number 2 ≡ false → b ≡ false
not_one number true is few = (let small : nat_lt number 2 ≡ true = ap (λ n. nat_lt n 2) (eqb-true number 1 is) in sym small ∙ few)
not_one number false is few = refl

-- a program that is found behind the first has another number
pub not_first : (number : ℕ) (later : List (List Route)) (program : List Route) → later_at number later ≡ Some program → nat_eq number 1 ≡ false
not_first number later program h = not_one number (nat_eq number 1) refl (not_none (nat_lt number 2) (slice_get later (number - 2)) program h)

under_so : (r : Running) (n number : ℕ) (found : Option (List Route)) (next : Stage) → later_at number r.programs.later ≡ found → Fits r.entry → is_bare r.entry ≡ true
    → under_it r n number found ≡ Ok next → Adds (Runs r) (Under number) next
under_so r n number None next is fits bare h = absurd cc
under_so r n number (Some program) next is fits bare h =
    let e = r.entry in
    let parts = and_parts (nat_eq e.under 1) (nat_eq (length e.numbers) 0) bare in
    let calls = call_lines e.numbers e.calls e.answers in
    let none : calls ≡ [] = ap (λ (ns : List ℕ). call_lines ns e.calls e.answers) (none_so e.numbers parts.1) ∙ no_call_lines e.calls e.answers in
    let other : under_lines number ≡ Under number ∷ [] = ap (λ (b : Bool). cond b [] (Under number ∷ [])) (not_first number r.programs.later program is) in
    let first : under_lines e.under ≡ [] = ap (λ (b : Bool). cond b [] (Under e.under ∷ [])) parts.0 in
    let front = head_lines r.setting r.programs in
    let entries = flat_map entry_lines r.entries in
    adds_it (Runs r) (Under number) (running_as r (put_under e number program)) next
    (record {
      lines = ap (λ (under : List Line). front ++ (entries ++ (Entry (entry_line e) ∷ (under ++ calls)))) other
          ∙ ap (λ (rest : List Line). front ++ (entries ++ (Entry (entry_line e) ∷ Under number ∷ rest))) none
          ∙ two_more front entries (Entry (entry_line e) ∷ []) (Under number)
          ∙ ap (λ (rest : List Line). (front ++ (entries ++ (Entry (entry_line e) ∷ rest))) ++ Under number ∷ []) (sym none)
          ∙ ap (λ (under : List Line). (front ++ (entries ++ (Entry (entry_line e) ∷ (under ++ calls)))) ++ Under number ∷ []) (sym first);
      fits = record { named = fits.named; answered = fits.answered };
    }) h

under_adds : (r : Running) (n number : ℕ) (next : Stage) → Fits r.entry → with_under r n number ≡ Ok next → Adds (Runs r) (Under number) next
under_adds r n number next fits h =
    let found = later_at number r.programs.later in
    let first = where_so (is_bare r.entry) (under_it r n number found) (refusal.Shape n) next h in
    under_so r n number found next refl fits first.0 first.1

-- with a line behind the calls of an entry
behind_under : (under calls more : List Line) (line : Line) → more ≡ calls ++ line ∷ [] → under ++ more ≡ (under ++ calls) ++ line ∷ []
behind_under under calls more line is = ap (λ (rest : List Line). under ++ rest) is ∙ sym (append_assoc under calls (line ∷ []))

call_adds : (r : Running) (n : ℕ) (c : CallLine) (next : Stage) → Fits r.entry → with_call r n c ≡ Ok next → Adds (Runs r) (Call c) next
call_adds r n c next fits h =
    let e = r.entry in
    let call = call_of r.setting.me e.request.chain c in
    let made = with_made e c.number call in
    let twice = list_any (has_number c.number) r.entries || has_number c.number e in
    let first = unless (not (all_answered e)) (refusal.Shape n) (cond twice (Err (refusal.Twice n)) (Ok (running_as r made))) next h in
    let second = unless twice (refusal.Twice n) (Ok (running_as r made)) next first.1 in
    let all = all_are e first.0 in
    let front = head_lines r.setting r.programs in
    let entries = flat_map entry_lines r.entries in
    adds_it (Runs r) (Call c) (running_as r made) next
    (record {
      lines = ap (λ (calls : List Line). front ++ (entries ++ (Entry (entry_line e) ∷ calls)))
          (behind_under (under_lines e.under) (call_lines e.numbers e.calls e.answers) (call_lines made.numbers made.calls e.answers) (Call c) (call_more e.numbers e.calls e.answers c.number call fits.named all))
          ∙ two_more front entries (begun_lines e) (Call c);
      fits = record {
        named = omega (arith, fits.named, length-append e.calls (call ∷ []), length-append e.numbers (c.number ∷ []));
        answered = inr (omega (arith, all, length-append e.numbers (c.number ∷ [])));
      };
    }) second.1

answer_adds : (r : Running) (n : ℕ) (answer : Response) (next : Stage) → Fits r.entry → with_answer r n answer ≡ Ok next → Adds (Runs r) (Answer answer) next
answer_adds r n answer next fits h =
    let e = r.entry in
    let more = consuming e answer in
    let first = unless (all_answered e) (refusal.Shape n) (Ok (running_as r more)) next h in
    let lacks = one_lacks e fits first.0 in
    let front = head_lines r.setting r.programs in
    let entries = flat_map entry_lines r.entries in
    adds_it (Runs r) (Answer answer) (running_as r more) next
    (record {
      lines = ap (λ (calls : List Line). front ++ (entries ++ (Entry (entry_line e) ∷ calls)))
          (behind_under (under_lines e.under) (call_lines e.numbers e.calls e.answers) (call_lines e.numbers e.calls more.answers) (Answer answer) (answer_more e.numbers e.calls e.answers answer fits.named lacks))
          ∙ two_more front entries (begun_lines e) (Answer answer);
      fits = record { named = fits.named; answered = inl (omega (arith, lacks, length-append e.answers (answer ∷ []))) };
    }) first.1

reply_adds : (r : Running) (n : ℕ) (reply : Option Response) (next : Stage) → with_reply r n reply ≡ Ok next → Adds (Runs r) (Reply reply) next
reply_adds r n reply next h =
    let e = replying r.entry reply in
    let s : DumpService = record { setting = r.setting; programs = r.programs; entries = r.entries ++ e ∷ []; rows = [] } in
    let first = unless (not (all_answered r.entry)) (refusal.Shape n) (Ok (Within s)) next h in
    let front = head_lines r.setting r.programs in
    let entries = flat_map entry_lines r.entries in
    adds_it (Runs r) (Reply reply) (Within s) next
    (record {
      lines = ap (λ (rest : List Line). front ++ rest) (append-nil (flat_map entry_lines (r.entries ++ e ∷ [])) ∙ flat_more entry_lines r.entries e)
          ∙ two_more front entries (begun_lines r.entry) (Reply reply);
      fits = tt;
    }) first.1

run_adds : (r : Running) (n : ℕ) (line : Line) (next : Stage) → Fits r.entry → run_on r n line ≡ Ok next → Adds (Runs r) line next
run_adds r n (Under number) next fits h = under_adds r n number next fits h
run_adds r n (Call c) next fits h = call_adds r n c next fits h
run_adds r n (Answer answer) next fits h = answer_adds r n answer next fits h
run_adds r n (Reply reply) next fits h = reply_adds r n reply next h
run_adds r n (Service x) next fits h = absurd cc
run_adds r n (Peers x) next fits h = absurd cc
run_adds r n (Program x) next fits h = absurd cc
run_adds r n (Entry x) next fits h = absurd cc
run_adds r n (Row x) next fits h = absurd cc
run_adds r n End next fits h = absurd cc

-- ---- what a line adds to all

pub record AddsTo (services : List DumpService) (stage : Stage) (line : Line) (next : List DumpService × Stage) : Type 0 where
  pub lines : dump_lines next.0 ++ stage_lines next.1 ≡ (dump_lines services ++ stage_lines stage) ++ line ∷ []
  pub fits : StageFits next.1

stayed : (services : List DumpService) (stage : Stage) (line : Line) (step : Next) (next : List DumpService × Stage)
    → ((to : Stage) → step ≡ Ok to → Adds stage line to) → staying services step ≡ Ok next → AddsTo services stage line next
stayed services stage line (Err why) next adds h = absurd cc
stayed services stage line (Ok to) next adds h =
    let a = adds to refl in
    let same : ◌≡◌ {A = List DumpService × Stage} (services, to) next = cc in
    let A : List DumpService × Stage → Type 0 = λ x. AddsTo services stage line x in
    subst A same (record { lines = ap (λ (rest : List Line). dump_lines services ++ rest) a.lines ∙ sym (append_assoc (dump_lines services) (stage_lines stage) (line ∷ [])); fits = a.fits })

ends_it : (services : List DumpService) (s : DumpService) (next : List DumpService × Stage) → ◌≡◌ {A = Stepped} (Ok (services ++ s ∷ [], Between)) (Ok next) → AddsTo services (Within s) End next
ends_it services s next h =
    let same : ◌≡◌ {A = List DumpService × Stage} (services ++ s ∷ [], Between) next = cc in
    let A : List DumpService × Stage → Type 0 = λ x. AddsTo services (Within s) End x in
    subst A same (record {
      lines = append-nil (dump_lines (services ++ s ∷ [])) ∙ flat_more service_lines services s ∙ sym (append_assoc (dump_lines services) (inner_lines s) (End ∷ []));
      fits = tt;
    })

pub step_adds : (services : List DumpService) (stage : Stage) (n : ℕ) (line : Line) (next : List DumpService × Stage) → StageFits stage
    → step services stage n line ≡ Ok next → AddsTo services stage line next
step_adds services Between n line next fits h = stayed services Between line (begun services n line) next (λ to e. begun_adds services n line to e) h
step_adds services (Named me) n line next fits h = stayed services (Named me) line (headed me n line) next (λ to e. headed_adds me n line to e) h
step_adds services (Headed head) n line next fits h = stayed services (Headed head) line (prepared head n line) next (λ to e. prepared_adds head n line to e) h
step_adds services (Within s) n (Program program) next fits h =
    stayed services (Within s) (Program program) (with_next_program s n program) next (λ to e. program_adds s n program to e) h
step_adds services (Within s) n (Entry line) next fits h = stayed services (Within s) (Entry line) (with_entry s n line) next (λ to e. entry_adds s n line to e) h
step_adds services (Within s) n (Row c) next fits h =
    stayed services (Within s) (Row c) (with_row s n c) next (λ to e. row_by (is_behind s.rows c) (is_kept c s.rows) s n c to e) h
step_adds services (Within s) n End next fits h = ends_it services s next h
step_adds services (Within s) n (Service x) next fits h = absurd cc
step_adds services (Within s) n (Peers x) next fits h = absurd cc
step_adds services (Within s) n (Under x) next fits h = absurd cc
step_adds services (Within s) n (Call x) next fits h = absurd cc
step_adds services (Within s) n (Answer x) next fits h = absurd cc
step_adds services (Within s) n (Reply x) next fits h = absurd cc
step_adds services (Runs r) n line next fits h = stayed services (Runs r) line (run_on r n line) next (λ to e. run_adds r n line to fits e) h

-- ---- whole texts

-- it was read, and went on
pub record WentOn (services : List DumpService) (stage : Stage) (n : ℕ) (read : Read) (out : List DumpService) (rest : List DumpService × Stage → Result (List DumpService) DumpRefused) : Type 0 where
  pub line : Line
  pub says : read ≡ Ok line
  pub next : List DumpService × Stage
  pub steps : step services stage n line ≡ Ok next
  pub later : rest next ≡ Ok out

went_on : (services : List DumpService) (stage : Stage) (n : ℕ) (line : Line) (stepped : Stepped) (out : List DumpService) (rest : List DumpService × Stage → Result (List DumpService) DumpRefused)
    → step services stage n line ≡ stepped → and_then stepped rest ≡ Ok out → WentOn services stage n (Ok line) out rest
went_on services stage n line (Err why) out rest is h = absurd cc
went_on services stage n line (Ok next) out rest is h = record { line = line; says = refl; next = next; steps = is; later = h }

pub read_on : (services : List DumpService) (stage : Stage) (n : ℕ) (read : Read) (out : List DumpService) (rest : List DumpService × Stage → Result (List DumpService) DumpRefused)
    → and_then (step_read services stage n read) rest ≡ Ok out → WentOn services stage n read out rest
read_on services stage n (Err why) out rest h = absurd cc
read_on services stage n (Ok line) out rest h = went_on services stage n line (step services stage n line) out rest refl h

said_more : (front : List Line) (line : Line) → map says (front ++ line ∷ []) ≡ map says front ++ says line ∷ []
said_more [] line = refl
said_more (l ∷ front) line = ap (λ (rest : List Read). says l ∷ rest) (said_more front line)

ended_so : (services : List DumpService) (stage : Stage) (n : ℕ) (out : List DumpService) → at_end services stage n ≡ Ok out → dump_lines out ≡ dump_lines services ++ stage_lines stage
ended_so services Between n out h =
    let same : services ≡ out = cc in
    ap dump_lines (sym same) ∙ sym (append-nil (dump_lines services))
ended_so services (Named me) n out h = absurd cc
ended_so services (Headed head) n out h = absurd cc
ended_so services (Within s) n out h = absurd cc
ended_so services (Runs r) n out h = absurd cc

all_said : (lines : List (List ℕ)) (services : List DumpService) (stage : Stage) (n : ℕ) (out : List DumpService) → StageFits stage
    → with_lines services stage n lines ≡ Ok out → map says (dump_lines out) ≡ map says (dump_lines services ++ stage_lines stage) ++ map line_at lines
all_said [] services stage n out fits h =
    ap (map says) (ended_so services stage n out h) ∙ sym (append-nil (map says (dump_lines services ++ stage_lines stage)))
all_said (line ∷ lines) services stage n out fits h =
    let on = read_on services stage n (line_at line) out (λ next. with_lines next.0 next.1 (n + 1) lines) h in
    let adds = step_adds services stage n on.line on.next fits on.steps in
    let front = dump_lines services ++ stage_lines stage in
    all_said lines on.next.0 on.next.1 (n + 1) out adds.fits on.later
    ∙ ap (λ (ls : List Line). map says ls ++ map line_at lines) adds.lines
    ∙ ap (λ (rs : List Read). rs ++ map line_at lines) (said_more front on.line)
    ∙ append_assoc (map says front) (says on.line ∷ []) (map line_at lines)
    ∙ ap (λ (r : Read). map says front ++ (r ∷ map line_at lines)) (sym on.says)

pub not_long : (b : Bool) (lines : List (List ℕ)) (out : List DumpService) → cond b (Err refusal.TooLong) (with_lines [] Between 1 lines) ≡ Ok out → with_lines [] Between 1 lines ≡ Ok out
not_long true lines out h = absurd cc
not_long false lines out h = h

said_by : (b : Bool) (lines : List (List ℕ)) (out : List DumpService) → cond b (Err refusal.TooLong) (with_lines [] Between 1 lines) ≡ Ok out → map line_at lines ≡ map says (dump_lines out)
said_by b lines out h = sym (all_said lines [] Between 1 out tt (not_long b lines out h))

-- what is read is what the lines say
pub read_spells : (text : List ℕ) (out : List DumpService) → read_of text ≡ Ok out → Spells text out
read_spells text out h = said_by (nat_lt 67108864 (length text)) (lines_of text) out h
