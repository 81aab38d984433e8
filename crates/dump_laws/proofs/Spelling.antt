-- The dump of services spells what it says of them: line after line.
use Rattle.std.proofs.Common.{◌≡◌, ℕ, ◌+◌, ◌<◌, Bool, true, false, cond, List, [], ◌∷◌, ◌++◌, Option, Some, None, Ok, codes, decimal, get_or, length, map, nat_eq, ltb, ◌==◌, refl, sym, ap, ◌∙◌, subst, append_assoc, append-nil, arith, length-append}
use Rattle.std.specs.List.{AllByRecursion, flat_map, list_all, position, zip}
use Rattle.std.specs.Prelude.{IfSome}
use Rattle.std.specs.Str.{IsUtf8}
use Rattle.std.proofs.Math.Seq.{take-append_seam, drop-append-add, get_or-append_seam}
use Rattle.std.proofs.lemmas.Bool.Decides.{nat_tests}
use Rattle.std.proofs.lemmas.Str.{IsUtf8-take, IsUtf8-drop, IsCharBoundary-before_ascii, IsCharBoundary-after_ascii, is_utf8-from_IsUtf8}
use Rattle.lang_tree.specs.Methods.{method_word}
use Rattle.lang_core.specs.HandedOn.{Route}
use Rattle.lang_core.specs.declared.cells.Cell.{Cell}
use Rattle.lang_core.specs.declared.inputs.Inputs.{Inputs}
use Rattle.lang_core.specs.declared.request.Request.{Request}
use Rattle.lang_core.specs.declared.request.Response.{Response}
use Rattle.lang_core.specs.declared.trace.CallMade.{CallMade}
use Rattle.lang_grammar.specs.Printing.{text_of}
use Rattle.handler_lang.proofs.Spelled.{read_again}
use Rattle.report_text.specs.Reports as report
use Rattle.report_text.specs.Reports.{escaped_key}
use Rattle.request_log.specs.Records.{Record, record_of, recorded_calls}
use Rattle.request_log.specs.declared.entry.Entry.{Entry}
use Rattle.local_repair.specs.Current.{Consumed, rows_after}
use Rattle.service_events.specs.State.{Kept, answers, base, me, unfolded}
use Rattle.dump_lines.specs.Dumps as dump
use Rattle.dump_lines.specs.Dumps.{digit_of, dump_text, names_text, origin_text}
use Rattle.dump_words.specs.Lines.{line_at}
use Rattle.dump_words.specs.declared.line.Line.{Line}
use Rattle.dump_words.specs.declared.line.Line.TheVariants.{Service, Peers, Program, Entry as OfEntry, Under, Call, Answer, Reply, Row, End}
use Rattle.dump_reader.specs.Reading.{lines_of}
use Rattle.dump_reader.specs.Spelled as spelled
use Rattle.dump_reader.specs.Spelled.{Spells, dump_lines, says}
use Rattle.dump_reader.proofs.LineLemmas.{line_found}
use Rattle.dump_laws.specs.Dumped.{brought_programs, dumped, dumped_all, dumped_entry, reply_in}
use Rattle.dump_laws.specs.Forms.{IsCallMade, IsCell, IsDumpEntry, IsDumpService, IsFromOne, IsNumber, IsProgram, IsResponse}
use Rattle.dump_laws.proofs.Programs.{programs_are}
use Rattle.dump_laws.proofs.Words.{first_at, lacks}
use Rattle.dump_laws.proofs.Lines.{IsLine, answer_is, asked_words, call_is, call_words, end_is, entry_is, entry_words, none_is, peers_are, program_is, reply_is, row_is, service_is, table_plain, under_is}

-- ---- one line after another

-- the lines of a text say these
abbrev Reads : List ℕ → List Line → Type 0
Reads text lines = map line_at (lines_of text) ≡ map says lines

-- a text is whole lines that say these, whatever stands behind it
abbrev pub Tells : List ℕ → List Line → Type 0
Tells text lines = (rest : List ℕ) (more : List Line) → (IsUtf8 rest → Reads rest more) → IsUtf8 (text ++ rest) → Reads (text ++ rest) (lines ++ more)

lines_more : (bare rest : List ℕ) → list_all (lacks 10) bare ≡ true → lines_of (bare ++ 10 ∷ rest) ≡ bare ∷ lines_of rest
lines_more bare rest clean =
    let at = first_at 10 bare rest refl clean in
    let inside : ltb (length bare) (length (bare ++ 10 ∷ rest)) ≡ true = grind (arith, nat_tests, length-append) in
    let found : position (λ b. b == 10) (bare ++ 10 ∷ rest) ≡ Some (length bare) = rw (at, inside) refl in
    line_found (bare ++ 10 ∷ rest) (length bare) found ∙ rw (take-append_seam bare (10 ∷ rest), drop-append-add bare (10 ∷ rest) 1) refl

-- text before a line feed is text, and so is what stands behind it
feed_within : (bare rest : List ℕ) → length bare < length (bare ++ 10 ∷ rest)
feed_within bare rest = omega (arith, length-append bare (10 ∷ rest))

feed_small : (bare rest : List ℕ) → get_or (bare ++ 10 ∷ rest) (length bare) 0 < 128
feed_small bare rest = rw (get_or-append_seam bare 10 rest 0) (omega arith)

line_utf8 : (bare rest : List ℕ) → IsUtf8 (bare ++ 10 ∷ rest) → IsUtf8 bare
line_utf8 bare rest is =
    let whole = bare ++ 10 ∷ rest in
    subst IsUtf8 (take-append_seam bare (10 ∷ rest)) (IsUtf8-take whole (length bare) is (IsCharBoundary-before_ascii whole (length bare) (feed_within bare rest) (feed_small bare rest)))

rest_utf8 : (bare rest : List ℕ) → IsUtf8 (bare ++ 10 ∷ rest) → IsUtf8 rest
rest_utf8 bare rest is =
    let whole = bare ++ 10 ∷ rest in
    subst IsUtf8 (drop-append-add bare (10 ∷ rest) 1) (IsUtf8-drop whole (length bare + 1) is (IsCharBoundary-after_ascii whole (length bare) is (feed_within bare rest) (feed_small bare rest)))

line_says : (bare : List ℕ) (line : Line) → IsLine bare line → IsUtf8 bare → line_at bare ≡ Ok line
unfolding line_at
line_says bare line is utf8 = rw (is_utf8-from_IsUtf8 bare utf8) is.says

one_line : (bare : List ℕ) (line : Line) → IsLine bare line → (rest : List ℕ) (more : List Line) → (IsUtf8 rest → Reads rest more) → IsUtf8 (bare ++ 10 ∷ rest) → Reads (bare ++ 10 ∷ rest) (line ∷ more)
one_line bare line is rest more reads utf8 =
    let first : line_at bare ≡ says line = line_says bare line is (line_utf8 bare rest utf8) in
    ap (map line_at) (lines_more bare rest is.one)
    ∙ ap (λ r. r ∷ map line_at (lines_of rest)) first
    ∙ ap (λ rs. says line ∷ rs) (reads (rest_utf8 bare rest utf8))

-- what is told of two texts
pub tells_both : (a b : List ℕ) (ls ms : List Line) → Tells a ls → Tells b ms → Tells (a ++ b) (ls ++ ms)
tells_both a b ls ms first second rest more reads utf8 =
    let U : List ℕ → Type 0 = IsUtf8 in
    let whole : IsUtf8 (a ++ (b ++ rest)) = subst U (append_assoc a b rest) utf8 in
    let inner : IsUtf8 (b ++ rest) → Reads (b ++ rest) (ms ++ more) = second rest more reads in
    ap (λ t. map line_at (lines_of t)) (append_assoc a b rest)
    ∙ first (b ++ rest) (ms ++ more) inner whole
    ∙ ap (map says) (sym (append_assoc ls ms more))

tells_none : Tells [] []
tells_none rest more reads utf8 = reads utf8

-- a text that comes to this line, and then what stands behind
pub tells_line : (text bare : List ℕ) (line : Line) → ((rest : List ℕ) → text ++ rest ≡ bare ++ 10 ∷ rest) → IsLine bare line → Tells text (line ∷ [])
tells_line text bare line ends is rest more reads utf8 =
    let U : List ℕ → Type 0 = IsUtf8 in
    ap (λ t. map line_at (lines_of t)) (ends rest) ∙ one_line bare line is rest more reads (subst U (ends rest) utf8)

tells_all : {X Y : Type 0} (f : X → List ℕ) (g : Y → List Line) (h : X → Y) (P : Y → Type 0) → ((x : X) → P (h x) → Tells (f x) (g (h x))) → (xs : List X) → AllByRecursion P (map h xs) → Tells (flat_map f xs) (flat_map g (map h xs))
tells_all f g h P each [] all = tells_none
tells_all f g h P each (x ∷ xs) all = tells_both (f x) (flat_map f xs) (g (h x)) (flat_map g (map h xs)) (each x all.0) (tells_all f g h P each xs all.1)

-- ---- lines as they are written

-- one piece more before a line
more_before : (a text bare rest : List ℕ) → text ++ rest ≡ bare ++ 10 ∷ rest → (a ++ text) ++ rest ≡ (a ++ bare) ++ 10 ∷ rest
more_before a text bare rest is = append_assoc a text rest ∙ ap (λ t. a ++ t) is ∙ sym (append_assoc a bare (10 ∷ rest))

-- the last piece
last_before : (a rest : List ℕ) → (a ++ codes "\n") ++ rest ≡ a ++ 10 ∷ rest
last_before a rest = append_assoc a (codes "\n") rest

answer_tells : (r : Response) → IsResponse r → Tells (dump.answer_line r) (Answer r ∷ [])
answer_tells r is =
    let text = report.response_text r in
    tells_line (dump.answer_line r) (codes "answer " ++ text) (Answer r) (λ rest. more_before (codes "answer ") (text ++ codes "\n") text rest (last_before text rest)) (answer_is r is)

reply_tells : (made : Option Record) → IfSome (reply_in made) IsResponse → Tells (dump.reply_line made) (Reply (reply_in made) ∷ [])
reply_tells None is = tells_line (codes "reply none\n") (codes "reply none") (Reply None) (λ rest. refl) none_is
reply_tells (Some r) is =
    let text = report.response_text r.response in
    tells_line (dump.reply_line (Some r)) (codes "reply " ++ text) (Reply (Some r.response)) (λ rest. more_before (codes "reply ") (text ++ codes "\n") text rest (last_before text rest)) (reply_is r.response is)

abbrev entry_pieces : Entry → List ℕ
entry_pieces e =
    codes "entry " ++ (decimal e.id ++ (codes " " ++ (origin_text e.origin ++ (dump.standing_text e ++ (dump.inputs_text e.inputs ++ dump.request_text e.request)))))

entry_ends : (e : Entry) (rest : List ℕ) → dump.entry_line e ++ rest ≡ entry_pieces e ++ 10 ∷ rest
entry_ends e rest =
    more_before (codes "entry ") _ _ rest
    (more_before (decimal e.id) _ _ rest
    (more_before (codes " ") _ _ rest
    (more_before (origin_text e.origin) _ _ rest
    (more_before (dump.standing_text e) _ _ rest
    (more_before (dump.inputs_text e.inputs) _ _ rest (last_before (dump.request_text e.request) rest))))))

standing_flat : (e : Entry) (rest : List ℕ) → dump.standing_text e ++ rest ≡ 32 ∷ (decimal e.version ++ 32 ∷ (digit_of e.wanted ++ 32 ∷ (digit_of e.struck ++ rest)))
standing_flat e rest =
    ap (λ t. 32 ∷ t)
    (append_assoc (decimal e.version) (32 ∷ (digit_of e.wanted ++ 32 ∷ digit_of e.struck)) rest
    ∙ ap (λ t. decimal e.version ++ 32 ∷ t) (append_assoc (digit_of e.wanted) (32 ∷ digit_of e.struck) rest))

-- numbers, each behind a space, and then what stands behind them
abbrev numbered : List ℕ → List ℕ → List ℕ
numbered [] rest = rest
numbered (n ∷ ns) rest = 32 ∷ (decimal n ++ numbered ns rest)

numbers_flat : (ns rest : List ℕ) → flat_map dump.number_behind ns ++ rest ≡ numbered ns rest
numbers_flat [] rest = refl
numbers_flat (n ∷ ns) rest = ap (λ t. 32 ∷ t) (append_assoc (decimal n) (flat_map dump.number_behind ns) rest ∙ ap (λ t. decimal n ++ t) (numbers_flat ns rest))

request_flat : (q : Request) → dump.request_text q ≡ 32 ∷ asked_words q
request_flat q = ap (λ t. 32 ∷ t) (append_assoc (method_word q.method) (32 ∷ q.path) (32 ∷ (q.who ++ 32 ∷ (names_text q.chain ++ report.body_behind q.body))))

abbrev drawn : Inputs → List ℕ
drawn i = i.moment ∷ i.w1 ∷ i.w2 ∷ i.w3 ∷ i.w4 ∷ i.w5 ∷ i.w6 ∷ i.w7 ∷ i.w8 ∷ []

entry_flat : (consumed : Consumed) (e : Entry) → entry_pieces e ≡ codes "entry " ++ entry_words (dumped_entry consumed e)
entry_flat consumed e =
    let i = e.inputs in
    ap (λ t. codes "entry " ++ (decimal e.id ++ (32 ∷ (origin_text e.origin ++ t))))
    (standing_flat e (dump.inputs_text i ++ dump.request_text e.request)
    ∙ ap (λ t. 32 ∷ (decimal e.version ++ 32 ∷ (digit_of e.wanted ++ 32 ∷ (digit_of e.struck ++ t))))
    (numbers_flat (drawn i) (dump.request_text e.request) ∙ ap (numbered (drawn i)) (request_flat e.request)))

entry_line_tells : (consumed : Consumed) (e : Entry) → IsDumpEntry (dumped_entry consumed e) → Tells (dump.entry_line e) (OfEntry (spelled.entry_line (dumped_entry consumed e)) ∷ [])
entry_line_tells consumed e is =
    let d = dumped_entry consumed e in
    let L : List ℕ → Type 0 = λ t. IsLine t (OfEntry (spelled.entry_line d)) in
    tells_line (dump.entry_line e) (entry_pieces e) (OfEntry (spelled.entry_line d)) (entry_ends e) (subst L (sym (entry_flat consumed e)) (entry_is d is))

abbrev call_pieces : ℕ → CallMade → List ℕ
call_pieces n c = codes "call " ++ (decimal n ++ (codes " " ++ (c.dest ++ (codes " " ++ (report.asked_text c.request ++ report.body_behind c.request.body)))))

call_ends : (n : ℕ) (c : CallMade) (rest : List ℕ) → dump.call_line n c ++ rest ≡ call_pieces n c ++ 10 ∷ rest
call_ends n c rest =
    more_before (codes "call ") _ _ rest
    (more_before (decimal n) _ _ rest
    (more_before (codes " ") _ _ rest
    (more_before c.dest _ _ rest
    (more_before (codes " ") _ _ rest
    (more_before (report.asked_text c.request) _ _ rest (last_before (report.body_behind c.request.body) rest))))))

call_flat : (n : ℕ) (c : CallMade) → call_pieces n c ≡ codes "call " ++ call_words n c
call_flat n c =
    let q = c.request in
    ap (λ t. codes "call " ++ (decimal n ++ (32 ∷ (c.dest ++ (32 ∷ t))))) (append_assoc (method_word q.method) (32 ∷ q.path) (report.body_behind q.body))

call_tells : (n : ℕ) (c : CallMade) → IsFromOne n → IsCallMade c → Tells (dump.call_line n c) (Call (spelled.call_line n c) ∷ [])
call_tells n c one is =
    let L : List ℕ → Type 0 = λ t. IsLine t (Call (spelled.call_line n c)) in
    tells_line (dump.call_line n c) (call_pieces n c) (Call (spelled.call_line n c)) (call_ends n c) (subst L (sym (call_flat n c)) (call_is n c one is))

row_ends : (c : Cell) (rest : List ℕ) → dump.row_line c ++ rest ≡ (codes "row " ++ (escaped_key c.table ++ (codes " " ++ (escaped_key c.key ++ report.body_behind c.text)))) ++ 10 ∷ rest
row_ends c rest =
    more_before (codes "row ") _ _ rest
    (more_before (escaped_key c.table) _ _ rest
    (more_before (codes " ") _ _ rest (more_before (escaped_key c.key) _ _ rest (last_before (report.body_behind c.text) rest))))

row_tells : (c : Cell) → IsCell c → Tells (dump.row_line c) (Row c ∷ [])
row_tells c is =
    let bare : List ℕ → List ℕ = λ t. codes "row " ++ (t ++ (32 ∷ (escaped_key c.key ++ report.body_behind c.text))) in
    let L : List ℕ → Type 0 = λ t. IsLine (bare t) (Row c) in
    tells_line (dump.row_line c) (bare (escaped_key c.table)) (Row c) (row_ends c) (subst L (sym (table_plain c.table is.table)) (row_is c is))

-- ---- entries, services and all of them

calls_tell : (consumed : Consumed) (ns : List ℕ) (cs : List CallMade) → AllByRecursion IsFromOne ns → AllByRecursion IsCallMade cs → AllByRecursion IsResponse (map consumed ns)
    → Tells (flat_map (dump.call_lines consumed) (zip ns cs)) (spelled.call_lines ns cs (map consumed ns))
calls_tell consumed [] cs ones are answers = tells_none
calls_tell consumed (n ∷ ns) [] ones are answers = tells_none
calls_tell consumed (n ∷ ns) (c ∷ cs) ones are answers =
    tells_both (dump.call_lines consumed (n, c)) (flat_map (dump.call_lines consumed) (zip ns cs)) (Call (spelled.call_line n c) ∷ Answer (consumed n) ∷ []) (spelled.call_lines ns cs (map consumed ns))
    (tells_both (dump.call_line n c) (dump.answer_line (consumed n)) (Call (spelled.call_line n c) ∷ []) (Answer (consumed n) ∷ []) (call_tells n c ones.0 are.0) (answer_tells (consumed n) answers.0))
    (calls_tell consumed ns cs ones.1 are.1 answers.1)

under_tells : (number : ℕ) (b : Bool) → IsNumber number → Tells (cond b [] (codes "under " ++ (decimal number ++ codes "\n"))) (cond b [] (Under number ∷ []))
under_tells number true is = tells_none
under_tells number false is =
    let word = decimal number in
    tells_line (codes "under " ++ (word ++ codes "\n")) (codes "under " ++ word) (Under number) (λ rest. more_before (codes "under ") (word ++ codes "\n") word rest (last_before word rest)) (under_is number is)

entry_tells : (consumed : Consumed) (e : Entry) → IsDumpEntry (dumped_entry consumed e) → Tells (dump.entry_lines consumed e) (spelled.entry_lines (dumped_entry consumed e))
entry_tells consumed e is =
    let d = dumped_entry consumed e in
    let calls = flat_map (dump.call_lines consumed) (zip e.slots (recorded_calls (record_of e))) in
    let told = spelled.call_lines d.numbers d.calls d.answers in
    let under = spelled.under_lines d.under in
    let all : Tells (dump.entry_lines consumed e) (OfEntry (spelled.entry_line d) ∷ (under ++ (told ++ Reply d.reply ∷ []))) =
    tells_both (dump.entry_line e) (dump.under_line d.under ++ (calls ++ dump.reply_line (record_of e))) (OfEntry (spelled.entry_line d) ∷ []) (under ++ (told ++ Reply d.reply ∷ []))
    (entry_line_tells consumed e is)
    (tells_both (dump.under_line d.under) (calls ++ dump.reply_line (record_of e)) under (told ++ Reply d.reply ∷ []) (under_tells d.under (nat_eq d.under 1) is.under)
    (tells_both calls (dump.reply_line (record_of e)) told (Reply d.reply ∷ [])
    (calls_tell consumed e.slots (recorded_calls (record_of e)) is.numbers is.calls is.answers) (reply_tells (record_of e) is.reply))) in
    let T : List Line → Type 0 = λ lines. Tells (dump.entry_lines consumed e) (OfEntry (spelled.entry_line d) ∷ lines) in
    subst T (sym (append_assoc under told (Reply d.reply ∷ []))) all

rows_tell : (rows : List Cell) → AllByRecursion IsCell rows → Tells (flat_map dump.row_line rows) (map Row rows)
rows_tell [] are = tells_none
rows_tell (c ∷ rows) are = tells_both (dump.row_line c) (flat_map dump.row_line rows) (Row c ∷ []) (map Row rows) (row_tells c are.0) (rows_tell rows are.1)

-- a line that is made of two pieces, and others behind it
line_then : (a b rest : List ℕ) → a ++ (b ++ 10 ∷ rest) ≡ ((a ++ b) ++ codes "\n") ++ rest
line_then a b rest = sym (append_assoc a b (10 ∷ rest)) ∙ sym (append_assoc (a ++ b) (codes "\n") rest)

whole_line : (bare : List ℕ) (line : Line) → IsLine bare line → Tells (bare ++ codes "\n") (line ∷ [])
whole_line bare line is = tells_line (bare ++ codes "\n") bare line (last_before bare) is

program_tells : (p : List Route) → IsProgram p → Tells (dump.program_line p) (Program p ∷ [])
program_tells p is =
    let text = report.body_behind (text_of p) in
    tells_line (dump.program_line p) (codes "program" ++ text) (Program p) (λ rest. more_before (codes "program") (text ++ codes "\n") text rest (last_before text rest))
    (program_is p (read_again p is.formed is.held is.short))

programs_tell : (ps : List (List Route)) → AllByRecursion IsProgram ps → Tells (flat_map dump.program_line ps) (map Program ps)
programs_tell [] are = tells_none
programs_tell (p ∷ ps) are = tells_both (dump.program_line p) (flat_map dump.program_line ps) (Program p ∷ []) (map Program ps) (program_tells p are.0) (programs_tell ps are.1)

head_tells : (s : Kept) → IsDumpService (dumped s) → Tells (dump.head_lines s) (spelled.head_lines (dumped s).setting (dumped s).programs)
head_tells s is =
    let name = codes "service " ++ me s in
    let peers = codes "peers " ++ names_text s.setting.peers in
    let all = s.setting.program ∷ brought_programs s in
    let text = flat_map dump.program_line all in
    let same : dump.head_lines s ≡ (name ++ codes "\n") ++ ((peers ++ codes "\n") ++ text) =
    ap (λ (ps : List (List Route)). codes "service " ++ (me s ++ 10 ∷ (codes "peers " ++ (names_text s.setting.peers ++ 10 ∷ flat_map dump.program_line ps)))) (programs_are s)
    ∙ ap (λ t. codes "service " ++ (me s ++ 10 ∷ t)) (line_then (codes "peers ") (names_text s.setting.peers) text)
    ∙ line_then (codes "service ") (me s) ((peers ++ codes "\n") ++ text) in
    let T : List ℕ → Type 0 = λ t. Tells t (spelled.head_lines (dumped s).setting (dumped s).programs) in
    subst T (sym same)
    (tells_both (name ++ codes "\n") ((peers ++ codes "\n") ++ text) (Service (me s) ∷ []) (Peers s.setting.peers ∷ map Program all) (whole_line name (Service (me s)) (service_is (me s) is.setting.me))
    (tells_both (peers ++ codes "\n") text (Peers s.setting.peers ∷ []) (map Program all) (whole_line peers (Peers s.setting.peers) (peers_are s.setting.peers is.setting.peers))
    (programs_tell all (is.setting.program, is.later))))

service_tells : (s : Kept) → IsDumpService (dumped s) → Tells (dump.service_lines s) (spelled.service_lines (dumped s))
service_tells s is =
    let d = dumped s in
    let entries = flat_map (dump.entry_lines (answers s)) s.entries in
    let rows = rows_after (base s) (unfolded s) in
    let entry_lines = flat_map spelled.entry_lines d.entries in
    let head = spelled.head_lines d.setting d.programs in
    let all : Tells (dump.service_lines s) (head ++ (entry_lines ++ (map Row rows ++ End ∷ []))) =
    tells_both (dump.head_lines s) (entries ++ (flat_map dump.row_line rows ++ codes "end\n")) head (entry_lines ++ (map Row rows ++ End ∷ [])) (head_tells s is)
    (tells_both entries (flat_map dump.row_line rows ++ codes "end\n") entry_lines (map Row rows ++ End ∷ [])
    (tells_all (dump.entry_lines (answers s)) spelled.entry_lines (dumped_entry (answers s)) IsDumpEntry (entry_tells (answers s)) s.entries is.entries)
    (tells_both (flat_map dump.row_line rows) (codes "end\n") (map Row rows) (End ∷ []) (rows_tell rows is.rows) (whole_line (codes "end") End end_is))) in
    let same : head ++ (entry_lines ++ (map Row rows ++ End ∷ [])) ≡ (head ++ (entry_lines ++ map Row rows)) ++ End ∷ [] =
    ap (λ ls. head ++ ls) (sym (append_assoc entry_lines (map Row rows) (End ∷ []))) ∙ sym (append_assoc head (entry_lines ++ map Row rows) (End ∷ [])) in
    let T : List Line → Type 0 = Tells (dump.service_lines s) in
    subst T same all

-- the dump of services says what it is said to say of them, line by line, and nothing else
pub dump_spells : (services : List Kept) → AllByRecursion IsDumpService (dumped_all services) → IsUtf8 (dump_text services) → Spells (dump_text services) (dumped_all services)
dump_spells services are utf8 =
    let text = dump_text services in
    let lines = dump_lines (dumped_all services) in
    let told = tells_all dump.service_lines spelled.service_lines dumped IsDumpService service_tells services are in
    let U : List ℕ → Type 0 = IsUtf8 in
    ap (λ t. map line_at (lines_of t)) (sym (append-nil text))
    ∙ told [] [] (λ empty. refl) (subst U (sym (append-nil text)) utf8)
    ∙ ap (map says) (append-nil lines)
