-- Each line as it is written says what it was written of.
use Rattle.std.proofs.Common.{◌≡◌, ℕ, ◌<◌, ◌^◌, true, false, cond, List, [], ◌∷◌, ◌++◌, Option, Some, None, Ok, codes, decimal, length, refl, sym, ap, ◌∙◌, arith}
use Rattle.std.specs.Char.{is_ascii_digit}
use Rattle.std.specs.List.{list_all}
use Rattle.std.proofs.lemmas.Bool.{and_parts}
use Rattle.std.proofs.lemmas.Bool.Decides.{nat_tests}
use Rattle.std.proofs.lemmas.Fmt.{decimal_nonempty}
use Rattle.lang_tree.specs.Forms.{is_word, is_word_byte}
use Rattle.lang_tree.specs.Methods.{method_word}
use Rattle.lang_tree.specs.declared.program.Route.{Route}
use Rattle.lang_core.specs.Names.{is_name}
use Rattle.lang_core.specs.declared.cells.Cell.{Cell}
use Rattle.lang_core.specs.declared.ids.Origin.{Origin}
use Rattle.lang_core.specs.declared.inputs.Inputs.{Inputs}
use Rattle.lang_core.specs.declared.request.Request.{Request}
use Rattle.lang_core.specs.declared.request.Response.{Response}
use Rattle.lang_core.specs.declared.trace.CallMade.{CallMade}
use Rattle.lang_grammar.specs.Printing.{text_of}
use Rattle.request_names.specs.Numbers.{number_of}
use Rattle.handler_lang.specs.Reading.{read_of}
use Rattle.report_text.specs.Reports as report
use Rattle.report_text.specs.Reports.{escaped_key, key_byte}
use Rattle.dump_lines.specs.Dumps.{digit_of, names_text, origin_text}
use Rattle.dump_tables.specs.declared.dump.DumpEntry.{DumpEntry}
use Rattle.dump_words.specs.Lines.{answer_at, call_at, call_of, cut_call, cut_inputs, cut_request, cut_standing, entry_at, entry_of, is_none, peers_at, program_at, program_of, programmed, reply_at, request_at, request_of, response_at, row_at, row_of, service_at, shaped, under_at, words_at}
use Rattle.dump_words.specs.Parts.{alone, at_end, body_behind, cut_at, in_u16, key_part, name_part, names_part, origin_part, path_part, table_part, who_part, with_part, with_word}
use Rattle.dump_words.specs.declared.line.Line.{Line}
use Rattle.dump_words.specs.declared.line.Line.TheVariants.{Service, Peers, Program, Entry, Under, Call, Answer, Reply, Row, End}
use Rattle.dump_reader.specs.Spelled.{call_line, entry_line}
use Rattle.dump_laws.specs.Forms.{AreInputs, IsCallMade, IsCell, IsDumpEntry, IsFromOne, IsNumber, IsRequest, IsResponse}
use Rattle.dump_laws.proofs.Words.{all_both, all_next, cut_last, cut_word, digits, digits_lack_feeds, digits_lack_spaces, lacks, last_word, number_reads, one_word, part_is, status_reads}
use Rattle.dump_laws.proofs.Texts.{behind, behind_one_line, body_behind_reads, cut_before, key_one_line, key_one_word, key_part_reads, text_reads, word_before}
use Rattle.dump_laws.proofs.Names.{flag_word, method_is_word, name_reads, name_word, names_read, names_word, origin_reads, origin_word, other_text, path_reads, path_word, table_bytes, table_reads, table_word, who_reads, who_word}
use Rattle.dump_laws.proofs.Parts.{call_cut, eight, inputs_cut, request_cut, standing_cut}

-- a line, without its line feed, that says this
pub record IsLine (bare : List ℕ) (line : Line) : Type 0 where
  pub one : list_all (lacks 10) bare ≡ true
  pub says : words_at (cut_at 32 bare).0 (cut_at 32 bare).1 ≡ Ok line

-- what stands behind a cut
abbrev Rest : Type 0
Rest = Option (List ℕ)

-- a line with words behind its first, with a text behind it, and with nothing
by_word : (word rest : List ℕ) (line : Line) → list_all (lacks 32) word ≡ true → words_at word (Some rest) ≡ Ok line → words_at (cut_at 32 (word ++ 32 ∷ rest)).0 (cut_at 32 (word ++ 32 ∷ rest)).1 ≡ Ok line
by_word word rest line clean is = ap (λ (c : List ℕ × Rest). words_at c.0 c.1) (cut_word 32 word rest refl clean) ∙ is

by_text : (word text : List ℕ) (line : Line) → list_all (lacks 32) word ≡ true → words_at word (behind text) ≡ Ok line
    → words_at (cut_at 32 (word ++ report.body_behind text)).0 (cut_at 32 (word ++ report.body_behind text)).1 ≡ Ok line
by_text word text line clean is = ap (λ (c : List ℕ × Rest). words_at c.0 c.1) (cut_before word text clean) ∙ is

alone_is : (word : List ℕ) → list_all (lacks 32) word ≡ true → alone (Some word) ≡ Some word
alone_is word clean = last_word word (λ word rest. at_end rest (Some word)) clean

-- ---- `service`, `peers` and `program`

service_words : (rest : Rest) → words_at (codes "service") rest ≡ shaped (service_at rest)
unfolding words_at
service_words rest = refl

pub service_is : (me : List ℕ) → is_name me ≡ true → IsLine (codes "service " ++ me) (Service me)
service_is me is =
    let clean = name_word me is in
    let read : service_at (Some me) ≡ Some (Service me) =
    part_is (alone (Some me)) me (λ word. with_part (name_part word) (λ name. Some (Service name))) (alone_is me clean.spaceless)
    ∙ part_is (name_part me) me (λ name. Some (Service name)) (name_reads me is) in
    record {
      one = all_both (lacks 10) (codes "service ") me refl clean.feedless;
      says = by_word (codes "service") me (Service me) refl (service_words (Some me) ∙ ap shaped read);
    }

peers_words : (rest : Rest) → words_at (codes "peers") rest ≡ shaped (peers_at rest)
unfolding words_at
peers_words rest = refl

pub peers_are : (peers : List (List ℕ)) → list_all is_name peers ≡ true → IsLine (codes "peers " ++ names_text peers) (Peers peers)
peers_are peers are =
    let clean = names_word peers are in
    let word = names_text peers in
    let read : peers_at (Some word) ≡ Some (Peers peers) =
    part_is (alone (Some word)) word (λ word. with_part (names_part word) (λ names. Some (Peers names))) (alone_is word clean.spaceless)
    ∙ part_is (names_part word) peers (λ names. Some (Peers names)) (names_read peers are) in
    record {
      one = all_both (lacks 10) (codes "peers ") word refl clean.feedless;
      says = by_word (codes "peers") word (Peers peers) refl (peers_words (Some word) ∙ ap shaped read);
    }

program_words : (rest : Rest) → words_at (codes "program") rest ≡ program_at rest
unfolding words_at
program_words rest = refl

pub program_is : (program : List Route) → read_of (text_of program) ≡ Ok program → IsLine (codes "program" ++ report.body_behind (text_of program)) (Program program)
program_is program is =
    let text = text_of program in
    record {
      one = all_both (lacks 10) (codes "program") (report.body_behind text) refl (behind_one_line text);
      says = by_text (codes "program") text (Program program) refl (program_words (behind text) ∙ ap program_of (text_reads text) ∙ ap programmed is);
    }

-- ---- `entry`

-- ` METHOD PATH WHO CHAIN BODY` behind its first space
abbrev pub asked_words : Request → List ℕ
asked_words q = method_word q.method ++ 32 ∷ (q.path ++ 32 ∷ (q.who ++ 32 ∷ (names_text q.chain ++ report.body_behind q.body)))

request_is : (q : Request) → IsRequest q → request_at (Some (asked_words q)) ≡ Some q
request_is q is =
    let path = path_word q.path is.path in
    let who = who_word q.who is.who in
    let chain = names_word q.chain is.chain in
    part_is (cut_request (Some (asked_words q))) (q.method, q.path, q.who, names_text q.chain, behind q.body)
    (λ p. request_of p.0 (path_part p.1) (who_part p.2) (names_part p.3) (body_behind p.4))
    (request_cut q.method q.path q.who (names_text q.chain) q.body path.spaceless who.spaceless chain.spaceless)
    ∙ ap (λ p. request_of q.method p (who_part q.who) (names_part (names_text q.chain)) (body_behind (behind q.body))) (path_reads q.path is.path)
    ∙ ap (λ p. request_of q.method (Some q.path) p (names_part (names_text q.chain)) (body_behind (behind q.body))) (who_reads q.who is.who)
    ∙ ap (λ (p : Option (List (List ℕ))). request_of q.method (Some q.path) (Some q.who) p (body_behind (behind q.body))) (names_read q.chain is.chain)
    ∙ ap (λ p. request_of q.method (Some q.path) (Some q.who) (Some q.chain) p) (body_behind_reads q.body is.body)

-- what stands behind `entry `
abbrev pub entry_words : DumpEntry → List ℕ
entry_words e =
    decimal e.id ++ 32 ∷ (origin_text e.origin ++ 32 ∷ (decimal e.version ++ 32 ∷ (digit_of e.wanted ++ 32 ∷ (digit_of e.struck
    ++ 32 ∷ (decimal e.inputs.moment ++ 32 ∷ eight e.inputs (asked_words e.request))))))

entry_read : (e : DumpEntry) → IsDumpEntry e → entry_at (Some (entry_words e)) ≡ Some (Entry (entry_line e))
unfolding entry_at
entry_read e is =
    let asked = asked_words e.request in
    let drawn = decimal e.inputs.moment ++ 32 ∷ eight e.inputs asked in
    let origin = origin_text e.origin in
    part_is (cut_standing (Some (entry_words e))) (e.id, origin, e.version, e.wanted, e.struck, Some drawn)
    (λ s. with_part (cut_inputs s.5) (λ i. entry_of s.0 s.2 s.3 s.4 i.0 (origin_part s.1) (request_at i.1)))
    (standing_cut e.id origin e.version e.wanted e.struck drawn is.id (origin_word e.origin is.origin).spaceless is.version)
    ∙ part_is (cut_inputs (Some drawn)) (e.inputs, Some asked) (λ i. entry_of e.id e.version e.wanted e.struck i.0 (origin_part origin) (request_at i.1)) (inputs_cut e.inputs asked is.inputs)
    ∙ ap (λ (o : Option Origin). entry_of e.id e.version e.wanted e.struck e.inputs o (request_at (Some asked))) (origin_reads e.origin is.origin)
    ∙ ap (λ (q : Option Request). entry_of e.id e.version e.wanted e.struck e.inputs (Some e.origin) q) (request_is e.request is.request)

entry_said : (rest : Rest) → words_at (codes "entry") rest ≡ shaped (entry_at rest)
unfolding words_at
entry_said rest = refl

-- a word, a space and more
spaced : (word rest : List ℕ) → list_all (lacks 10) word ≡ true → list_all (lacks 10) rest ≡ true → list_all (lacks 10) (word ++ 32 ∷ rest) ≡ true
spaced word rest a b = all_both (lacks 10) word (32 ∷ rest) a (all_next (lacks 10) 32 rest refl b)

asked_one_line : (q : Request) → IsRequest q → list_all (lacks 10) (asked_words q) ≡ true
asked_one_line q is =
    spaced (method_word q.method) _ (method_is_word q.method).feedless
    (spaced q.path _ (path_word q.path is.path).feedless
    (spaced q.who _ (who_word q.who is.who).feedless
    (all_both (lacks 10) (names_text q.chain) (report.body_behind q.body) (names_word q.chain is.chain).feedless (behind_one_line q.body))))

eight_one_line : (i : Inputs) (rest : List ℕ) → AreInputs i → list_all (lacks 10) rest ≡ true → list_all (lacks 10) (eight i rest) ≡ true
eight_one_line i rest are clean =
    spaced (decimal i.w1) _ (digits_lack_feeds i.w1 are.w1)
    (spaced (decimal i.w2) _ (digits_lack_feeds i.w2 are.w2)
    (spaced (decimal i.w3) _ (digits_lack_feeds i.w3 are.w3)
    (spaced (decimal i.w4) _ (digits_lack_feeds i.w4 are.w4)
    (spaced (decimal i.w5) _ (digits_lack_feeds i.w5 are.w5)
    (spaced (decimal i.w6) _ (digits_lack_feeds i.w6 are.w6)
    (spaced (decimal i.w7) _ (digits_lack_feeds i.w7 are.w7)
    (spaced (decimal i.w8) rest (digits_lack_feeds i.w8 are.w8) clean)))))))

entry_one_line : (e : DumpEntry) → IsDumpEntry e → list_all (lacks 10) (entry_words e) ≡ true
entry_one_line e is =
    spaced (decimal e.id) _ (digits_lack_feeds e.id is.id.1)
    (spaced (origin_text e.origin) _ (origin_word e.origin is.origin).feedless
    (spaced (decimal e.version) _ (digits_lack_feeds e.version is.version)
    (spaced (digit_of e.wanted) _ (flag_word e.wanted).feedless
    (spaced (digit_of e.struck) _ (flag_word e.struck).feedless
    (spaced (decimal e.inputs.moment) _ (digits_lack_feeds e.inputs.moment (omega (arith, e.inputs.in_range)))
    (eight_one_line e.inputs (asked_words e.request) is.inputs (asked_one_line e.request is.request)))))))

pub entry_is : (e : DumpEntry) → IsDumpEntry e → IsLine (codes "entry " ++ entry_words e) (Entry (entry_line e))
entry_is e is = record {
  one = all_both (lacks 10) (codes "entry ") (entry_words e) refl (entry_one_line e is);
  says = by_word (codes "entry") (entry_words e) (Entry (entry_line e)) refl (entry_said (Some (entry_words e)) ∙ ap shaped (entry_read e is));
}

-- ---- `under`

under_words : (rest : Rest) → words_at (codes "under") rest ≡ shaped (under_at rest)
unfolding words_at
under_words rest = refl

pub under_is : (number : ℕ) → IsNumber number → IsLine (codes "under " ++ decimal number) (Under number)
under_is number is =
    let word = decimal number in
    let read : under_at (Some word) ≡ Some (Under number) =
    part_is (alone (Some word)) word (λ word. with_part (number_of word) (λ n. Some (Under n))) (alone_is word (digits_lack_spaces number is))
    ∙ part_is (number_of word) number (λ n. Some (Under n)) (number_reads number is) in
    record {
      one = all_both (lacks 10) (codes "under ") word refl (digits_lack_feeds number is);
      says = by_word (codes "under") word (Under number) refl (under_words (Some word) ∙ ap shaped read);
    }

-- ---- `call`

abbrev pub call_words : ℕ → CallMade → List ℕ
call_words number c = decimal number ++ 32 ∷ (c.dest ++ 32 ∷ (method_word c.request.method ++ 32 ∷ (c.request.path ++ report.body_behind c.request.body)))

call_read : (number : ℕ) (c : CallMade) → IsFromOne number → IsCallMade c → call_at (Some (call_words number c)) ≡ Some (Call (call_line number c))
unfolding call_at
call_read number c one is =
    let dest = name_word c.dest is.dest in
    let path = path_word c.request.path is.path in
    let method = c.request.method in
    part_is (cut_call (Some (call_words number c))) (number, c.dest, method, c.request.path, behind c.request.body)
    (λ p. call_of p.0 p.2 (name_part p.1) (path_part p.3) (body_behind p.4))
    (call_cut number c.dest method c.request.path c.request.body one dest.spaceless path.spaceless)
    ∙ ap (λ p. call_of number method p (path_part c.request.path) (body_behind (behind c.request.body))) (name_reads c.dest is.dest)
    ∙ ap (λ p. call_of number method (Some c.dest) p (body_behind (behind c.request.body))) (path_reads c.request.path is.path)
    ∙ ap (λ p. call_of number method (Some c.dest) (Some c.request.path) p) (body_behind_reads c.request.body is.body)

call_said : (rest : Rest) → words_at (codes "call") rest ≡ shaped (call_at rest)
unfolding words_at
call_said rest = refl

call_one_line : (number : ℕ) (c : CallMade) → IsFromOne number → IsCallMade c → list_all (lacks 10) (call_words number c) ≡ true
call_one_line number c one is =
    spaced (decimal number) _ (digits_lack_feeds number one.1)
    (spaced c.dest _ (name_word c.dest is.dest).feedless
    (spaced (method_word c.request.method) _ (method_is_word c.request.method).feedless
    (all_both (lacks 10) c.request.path (report.body_behind c.request.body) (path_word c.request.path is.path).feedless (behind_one_line c.request.body))))

pub call_is : (number : ℕ) (c : CallMade) → IsFromOne number → IsCallMade c → IsLine (codes "call " ++ call_words number c) (Call (call_line number c))
call_is number c one is = record {
  one = all_both (lacks 10) (codes "call ") (call_words number c) refl (call_one_line number c one is);
  says = by_word (codes "call") (call_words number c) (Call (call_line number c)) refl (call_said (Some (call_words number c)) ∙ ap shaped (call_read number c one is));
}

-- ---- `answer` and `reply`

abbrev after_status : List ℕ → Rest → Option Response
after_status word rest = with_part (in_u16 (number_of word)) (λ status. with_part (body_behind rest) (λ body. Some (record { status = status; body = body })))

response_is : (r : Response) → IsResponse r → response_at (Some (report.response_text r)) ≡ Some r
response_is r is =
    let small : r.status < 2 ^ 64 = omega (arith, is.status) in
    word_before (decimal r.status) r.body after_status (digits_lack_spaces r.status small)
    ∙ part_is (in_u16 (number_of (decimal r.status))) r.status (λ status. with_part (body_behind (behind r.body)) (λ body. Some (record { status = status; body = body }))) (status_reads r.status is.status)
    ∙ part_is (body_behind (behind r.body)) r.body (λ body. Some (record { status = r.status; body = body })) (body_behind_reads r.body is.body)

response_one_line : (r : Response) → IsResponse r → list_all (lacks 10) (report.response_text r) ≡ true
response_one_line r is =
    let small : r.status < 2 ^ 64 = omega (arith, is.status) in
    all_both (lacks 10) (decimal r.status) (report.body_behind r.body) (digits_lack_feeds r.status small) (behind_one_line r.body)

answer_said : (rest : Rest) → words_at (codes "answer") rest ≡ shaped (answer_at rest)
unfolding words_at
answer_said rest = refl

pub answer_is : (r : Response) → IsResponse r → IsLine (codes "answer " ++ report.response_text r) (Answer r)
answer_is r is =
    let text = report.response_text r in
    record {
      one = all_both (lacks 10) (codes "answer ") text refl (response_one_line r is);
      says = by_word (codes "answer") text (Answer r) refl (answer_said (Some text) ∙ ap shaped (ap (λ (o : Option Response). with_part o (λ x. Some (Answer x))) (response_is r is)));
    }

reply_said : (rest : Rest) → words_at (codes "reply") rest ≡ shaped (reply_at rest)
unfolding words_at
reply_said rest = refl

pub none_is : IsLine (codes "reply none") (Reply None)
none_is = record { one = refl; says = by_word (codes "reply") (codes "none") (Reply None) refl (reply_said (Some (codes "none"))) }

-- a number isn't `none`
no_none : (ds rest : List ℕ) → list_all is_ascii_digit ds ≡ true → 0 < length ds → ¬ (ds ++ rest ≡ codes "none")
no_none [] rest all some e = absurd (omega (arith, some))
no_none (d ∷ ds) rest all some e =
    let first = (and_parts (is_ascii_digit d) (list_all is_ascii_digit ds) all).0 in
    let same : d ≡ 110 = cc in
    let digit : is_ascii_digit 110 ≡ true = ap is_ascii_digit (sym same) ∙ first in
    cc

pub reply_is : (r : Response) → IsResponse r → IsLine (codes "reply " ++ report.response_text r) (Reply (Some r))
reply_is r is =
    let text = report.response_text r in
    let small : r.status < 2 ^ 64 = omega (arith, is.status) in
    let other : is_none (Some text) ≡ false = other_text text (codes "none") (no_none (decimal r.status) (report.body_behind r.body) (digits r.status small) (decimal_nonempty r.status small)) in
    let read : reply_at (Some text) ≡ Some (Reply (Some r)) =
    ap (λ b. cond b (Some (Reply None)) (with_part (response_at (Some text)) (λ x. Some (Reply (Some x))))) other ∙ ap (λ (o : Option Response). with_part o (λ x. Some (Reply (Some x)))) (response_is r is) in
    record {
      one = all_both (lacks 10) (codes "reply ") text refl (response_one_line r is);
      says = by_word (codes "reply") text (Reply (Some r)) refl (reply_said (Some text) ∙ ap shaped read);
    }

-- ---- `row` and `end`

plain_byte : (b : ℕ) → is_word_byte b ≡ true → key_byte b ≡ b ∷ []
plain_byte b is = grind (arith, nat_tests)

plain_bytes : (bs : List ℕ) → list_all is_word_byte bs ≡ true → escaped_key bs ≡ bs
plain_bytes [] all = refl
plain_bytes (b ∷ bs) all =
    let both = and_parts (is_word_byte b) (list_all is_word_byte bs) all in
    rw (plain_byte b both.0, plain_bytes bs both.1) refl

pub table_plain : (table : List ℕ) → is_word table ≡ true → escaped_key table ≡ table
table_plain table is = plain_bytes table (table_bytes table is)

abbrev pub row_words : Cell → List ℕ
row_words c = c.table ++ 32 ∷ (escaped_key c.key ++ report.body_behind c.text)

abbrev after_key : List ℕ → List ℕ → Rest → Option Line
after_key table key rest = row_of (table_part table) (key_part key) (body_behind rest)

abbrev after_table : List ℕ → Rest → Option Line
after_table table rest = with_word rest (after_key table)

row_read : (c : Cell) → IsCell c → row_at (Some (row_words c)) ≡ Some (Row c)
unfolding row_at
row_read c is =
    let table = table_word c.table is.table in
    one_word c.table (escaped_key c.key ++ report.body_behind c.text) after_table table.spaceless
    ∙ word_before (escaped_key c.key) c.text (after_key c.table) (key_one_word c.key)
    ∙ ap (λ p. row_of p (key_part (escaped_key c.key)) (body_behind (behind c.text))) (table_reads c.table is.table)
    ∙ ap (λ p. row_of (Some c.table) p (body_behind (behind c.text))) (key_part_reads c.key is.some is.key)
    ∙ ap (λ p. row_of (Some c.table) (Some c.key) p) (body_behind_reads c.text is.text)

row_said : (rest : Rest) → words_at (codes "row") rest ≡ shaped (row_at rest)
unfolding words_at
row_said rest = refl

pub row_is : (c : Cell) → IsCell c → IsLine (codes "row " ++ row_words c) (Row c)
row_is c is = record {
  one = all_both (lacks 10) (codes "row ") (row_words c) refl
      (spaced c.table _ (table_word c.table is.table).feedless (all_both (lacks 10) (escaped_key c.key) (report.body_behind c.text) (key_one_line c.key) (behind_one_line c.text)));
  says = by_word (codes "row") (row_words c) (Row c) refl (row_said (Some (row_words c)) ∙ ap shaped (row_read c is));
}

end_said : (rest : Rest) → words_at (codes "end") rest ≡ shaped (at_end rest (Some End))
unfolding words_at
end_said rest = refl

pub end_is : IsLine (codes "end") End
end_is = record { one = refl; says = ap (λ (c : List ℕ × Rest). words_at c.0 c.1) (cut_last 32 (codes "end") refl) ∙ end_said None }
