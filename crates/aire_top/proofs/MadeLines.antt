-- Each line of a script that is made is read, as a request, a cancellation or the settling.
use Rattle.std.proofs.Common.{◌≡◌, ℕ, ◌<◌, ◌≤◌, ◌^◌, Bool, true, false, not, ◌&&◌, List, [], ◌∷◌, ◌++◌, Option, Some, None, Ok, codes, decimal, get_or, length, zero, suc, nat_eq, nat_le, nat_lt, ltb, ◌==◌, refl, sym, ap, ◌∙◌, append_assoc, arith, length-append}
use Rattle.std.specs.Char.{is_ascii_digit}
use Rattle.std.specs.List.{list_all, position, position_or_len}
use Rattle.std.specs.Str.{IsUtf8}
use Rattle.std.proofs.Math.Seq.{take-append_seam, drop-append-add}
use Rattle.std.proofs.lemmas.Bool.{and_parts}
use Rattle.std.proofs.lemmas.Bool.Decides.{nat_tests}
use Rattle.std.proofs.lemmas.Fmt.{digits_decimal, length-decimal-le}
use Rattle.std.proofs.lemmas.List.Folds.{list_all-append}
use Rattle.std.proofs.lemmas.Str.{IsUtf8-from_ascii}
use Rattle.lang_base.specs.Characters.{is_visible}
use Rattle.lang_tree.specs.Methods.{method_named}
use Rattle.lang_tree.specs.declared.method.Method.{Method}
use Rattle.lang_tree.specs.declared.method.Method.TheVariants.{Get, Post, Put}
use Rattle.lang_core.specs.Names.{is_name, is_who}
use Rattle.lang_core.specs.declared.request.Request.{Request}
use Rattle.request_names.proofs.IdLemmas.{read_decimal}
use Rattle.request_names.proofs.Parsed.{own}
use Rattle.journal_rows.specs.declared.orders.Command.TheVariants.{Cancel}
use Rattle.report_text.specs.Escapes.{byte_before, unescaped}
use Rattle.world_events.specs.declared.event.Event.TheVariants as event
use Rattle.script_lines.specs.Lines.{asked, asking_at, at_end, body_of, cut_at, entry_order_at, is_asked_path, is_passed_over, line_at, number_at, numbered, numbered_at, order_of, order_parts, order_with, request_of, rest_or_empty, shaped, short_enough, where_good, with_part, with_word, words_at}
use Rattle.script_lines.specs.declared.line.Line.{Line}
use Rattle.script_lines.specs.declared.line.Line.TheVariants.{Ask, Event, Settle}
use Rattle.script_lines.proofs.Outcomes.{line_at-words}
use Rattle.script_run.specs.Plays.{lines_of}
use Rattle.script_run.proofs.PlayLaws.{line_found}

-- ---- bytes

all_weaker : (p q : ℕ → Bool) → ((b : ℕ) → p b ≡ true → q b ≡ true) → (bs : List ℕ) → list_all p bs ≡ true → list_all q bs ≡ true
all_weaker p q weaker [] all = refl
all_weaker p q weaker (b ∷ bs) all =
    let both = and_parts (p b) (list_all p bs) all in
    rw (weaker b both.0, all_weaker p q weaker bs both.1) refl

abbrev pub lacks : ℕ → ℕ → Bool
lacks sep b = not (b == sep)

-- a space or a visible byte
abbrev pub is_line_byte : ℕ → Bool
is_line_byte b = nat_le 32 b && nat_le b 126

digit_lacks_space : (b : ℕ) → is_ascii_digit b ≡ true → lacks 32 b ≡ true
digit_lacks_space b is = grind (arith, nat_tests)

digit_lacks_backslash : (b : ℕ) → is_ascii_digit b ≡ true → lacks 92 b ≡ true
digit_lacks_backslash b is = grind (arith, nat_tests)

digit_visible : (b : ℕ) → is_ascii_digit b ≡ true → is_visible b ≡ true
digit_visible b is = grind (arith, nat_tests)

digit_in_line : (b : ℕ) → is_ascii_digit b ≡ true → is_line_byte b ≡ true
digit_in_line b is = grind (arith, nat_tests)

in_line_no_feed : (b : ℕ) → is_line_byte b ≡ true → lacks 10 b ≡ true
in_line_no_feed b is = grind (arith, nat_tests)

in_line_small : (b : ℕ) → is_line_byte b ≡ true → b < 128
in_line_small b is = grind (arith, nat_tests)

pub digits : (n : ℕ) → n < 2 ^ 64 → list_all is_ascii_digit (decimal n) ≡ true
digits n small = digits_decimal own n small

pub digits_in_line : (n : ℕ) → n < 2 ^ 64 → list_all is_line_byte (decimal n) ≡ true
digits_in_line n small = all_weaker is_ascii_digit is_line_byte digit_in_line (decimal n) (digits n small)

digits_visible : (n : ℕ) → n < 2 ^ 64 → list_all is_visible (decimal n) ≡ true
digits_visible n small = all_weaker is_ascii_digit is_visible digit_visible (decimal n) (digits n small)

digits_lack_spaces : (n : ℕ) → n < 2 ^ 64 → list_all (lacks 32) (decimal n) ≡ true
digits_lack_spaces n small = all_weaker is_ascii_digit (lacks 32) digit_lacks_space (decimal n) (digits n small)

pub digits_few : (n : ℕ) → n < 2 ^ 64 → length (decimal n) ≤ 20
digits_few n small = length-decimal-le 20 n (omega arith) (omega (arith, small)) small

all_small : (bs : List ℕ) → list_all is_line_byte bs ≡ true → (i : ℕ) → get_or bs i 0 < 128
all_small [] all i = omega arith
all_small (b ∷ bs) all zero = in_line_small b (and_parts (is_line_byte b) (list_all is_line_byte bs) all).0
all_small (b ∷ bs) all (suc i) = all_small bs (and_parts (is_line_byte b) (list_all is_line_byte bs) all).1 i

is_text : (bs : List ℕ) → list_all is_line_byte bs ≡ true → IsUtf8 bs
is_text bs all = IsUtf8-from_ascii bs (all_small bs all)

-- ---- words

first_at : (sep : ℕ) (word rest : List ℕ) → (sep == sep) ≡ true → list_all (lacks sep) word ≡ true → position_or_len (λ b. b == sep) (word ++ sep ∷ rest) ≡ length word
first_at sep [] rest same all = rw same refl
first_at sep (b ∷ bs) rest same all =
    let both = and_parts (lacks sep b) (list_all (lacks sep) bs) all in
    let other : (b == sep) ≡ false = grind (arith, nat_tests, both.0) in
    rw (other, first_at sep bs rest same both.1) (omega arith)

none_at : (sep : ℕ) (word : List ℕ) → list_all (lacks sep) word ≡ true → position_or_len (λ b. b == sep) word ≡ length word
none_at sep [] all = refl
none_at sep (b ∷ bs) all =
    let both = and_parts (lacks sep b) (list_all (lacks sep) bs) all in
    let other : (b == sep) ≡ false = grind (arith, nat_tests, both.0) in
    rw (other, none_at sep bs both.1) (omega arith)

cut_word : (sep : ℕ) (word rest : List ℕ) → (sep == sep) ≡ true → list_all (lacks sep) word ≡ true → cut_at sep (word ++ sep ∷ rest) ≡ (word, Some rest)
cut_word sep word rest same all =
    let at = first_at sep word rest same all in
    let inside : nat_lt (length word) (length (word ++ sep ∷ rest)) ≡ true = grind (arith, nat_tests, length-append) in
    rw (at, inside, take-append_seam word (sep ∷ rest), drop-append-add word (sep ∷ rest) 1) refl

cut_last : (sep : ℕ) (word : List ℕ) → list_all (lacks sep) word ≡ true → cut_at sep word ≡ (word, None)
cut_last sep word all =
    let outside : nat_lt (length word) (length word) ≡ false = grind (arith, nat_tests) in
    rw (none_at sep word all, outside) refl

one_word : {X : Type 0} (word rest : List ℕ) (next : List ℕ → Option (List ℕ) → Option X) → list_all (lacks 32) word ≡ true → with_word (Some (word ++ 32 ∷ rest)) next ≡ next word (Some rest)
one_word word rest next clean = ap (λ (c : List ℕ × Option (List ℕ)). next c.0 c.1) (cut_word 32 word rest refl clean)

last_word : {X : Type 0} (word : List ℕ) (next : List ℕ → Option (List ℕ) → Option X) → list_all (lacks 32) word ≡ true → with_word (Some word) next ≡ next word None
last_word word next clean = ap (λ (c : List ℕ × Option (List ℕ)). next c.0 c.1) (cut_last 32 word clean)

-- ---- what is asked

abbrev Asked : Type 0
Asked = Method × List ℕ × List ℕ

abbrev after_path : Method → List ℕ → Option (List ℕ) → Option Asked
after_path method path rest = where_good (is_asked_path path) (with_part (body_of (rest_or_empty rest)) (λ body. Some (method, path, body)))

abbrev after_method : Option (List ℕ) → Method → Option Asked
after_method rest method = with_word rest (after_path method)

abbrev after_word : List ℕ → Option (List ℕ) → Option Asked
after_word word rest = with_part (method_named word) (after_method rest)

-- `METHOD PATH BODY`, with a body that stands for itself
asked_with : (word path body : List ℕ) (method : Method) → list_all (lacks 32) word ≡ true → list_all (lacks 32) path ≡ true → method_named word ≡ Some method → is_asked_path path ≡ true → body_of body ≡ Some body
    → asked (Some (word ++ 32 ∷ (path ++ 32 ∷ body))) ≡ Some (method, path, body)
unfolding asked
asked_with word path body method first second named good is =
    one_word word (path ++ 32 ∷ body) after_word first
    ∙ ap (λ (m : Option Method). with_part m (after_method (Some (path ++ 32 ∷ body)))) named
    ∙ one_word path body (after_path method) second
    ∙ ap (λ (ok : Bool). where_good ok (with_part (body_of body) (λ b. Some (method, path, b)))) good
    ∙ ap (λ (o : Option (List ℕ)). with_part o (λ b. Some (method, path, b))) is

-- `METHOD PATH`
asked_without : (word path : List ℕ) (method : Method) → list_all (lacks 32) word ≡ true → list_all (lacks 32) path ≡ true → method_named word ≡ Some method → is_asked_path path ≡ true → asked (Some (word ++ 32 ∷ path)) ≡ Some (method, path, [])
unfolding asked
asked_without word path method first second named good =
    one_word word path after_word first
    ∙ ap (λ (m : Option Method). with_part m (after_method (Some path))) named
    ∙ last_word path (after_path method) second
    ∙ ap (λ (ok : Bool). where_good ok (Some (method, path, []))) good

abbrev after_who : (List ℕ → Request → Line) → List ℕ → List ℕ → Option (List ℕ) → Option Line
after_who line service who rest = where_good (is_name service && is_who who) (with_part (asked rest) (λ asked. Some (line service (request_of who asked))))

abbrev after_service : (List ℕ → Request → Line) → List ℕ → Option (List ℕ) → Option Line
after_service line service rest = with_word rest (after_who line service)

asking : (line : List ℕ → Request → Line) (service who rest : List ℕ) (a : Asked) → list_all (lacks 32) service ≡ true → list_all (lacks 32) who ≡ true → (is_name service && is_who who) ≡ true → asked (Some rest) ≡ Some a
    → asking_at line (Some (service ++ 32 ∷ (who ++ 32 ∷ rest))) ≡ Some (line service (request_of who a))
unfolding asking_at
asking line service who rest a first second named is =
    one_word service (who ++ 32 ∷ rest) (after_service line) first
    ∙ one_word who rest (after_who line service) second
    ∙ ap (λ (ok : Bool). where_good ok (with_part (asked (Some rest)) (λ x. Some (line service (request_of who x))))) named
    ∙ ap (λ (o : Option Asked). with_part o (λ x. Some (line service (request_of who x)))) is

-- ---- lines

words_of_line : (word rest : List ℕ) → is_passed_over (word ++ 32 ∷ rest) ≡ false → list_all is_line_byte (word ++ 32 ∷ rest) ≡ true → list_all (lacks 32) word ≡ true → line_at (word ++ 32 ∷ rest) ≡ words_at word (Some rest)
words_of_line word rest some bytes clean =
    line_at-words (word ++ 32 ∷ rest) some (is_text (word ++ 32 ∷ rest) bytes)
    ∙ ap (λ (c : List ℕ × Option (List ℕ)). words_at c.0 c.1) (cut_word 32 word rest refl clean)

ask_words : (rest : Option (List ℕ)) → words_at (codes "ask") rest ≡ shaped (asking_at Ask rest)
unfolding words_at
ask_words rest = refl

-- `ask S ann METHOD PATH BODY`
ask_reads : (service rest : List ℕ) (a : Asked) → list_all is_line_byte (codes "ask " ++ (service ++ 32 ∷ (codes "ann " ++ rest))) ≡ true → list_all (lacks 32) service ≡ true → (is_name service && is_who (codes "ann")) ≡ true → asked (Some rest) ≡ Some a
    → line_at (codes "ask " ++ (service ++ 32 ∷ (codes "ann " ++ rest))) ≡ Ok (Ask service (request_of (codes "ann") a))
ask_reads service rest a bytes clean named is =
    words_of_line (codes "ask") (service ++ 32 ∷ (codes "ann " ++ rest)) refl bytes refl
    ∙ ask_words (Some (service ++ 32 ∷ (codes "ann " ++ rest)))
    ∙ ap shaped (asking Ask service (codes "ann") rest a clean refl named is)

-- ---- the token

pub token_reads : line_at (codes "ask oauth ann PUT /token/ann k1") ≡ Ok (Ask (codes "oauth") (request_of (codes "ann") (Put, codes "/token/ann", codes "k1")))
token_reads =
    ask_reads (codes "oauth") (codes "PUT /token/ann k1") (Put, codes "/token/ann", codes "k1") refl refl refl
    (asked_with (codes "PUT") (codes "/token/ann") (codes "k1") Put refl refl refl (unfold is_asked_path in refl) refl)

-- ---- posts and looks

plain_body : (text : List ℕ) → list_all (lacks 92) text ≡ true → unescaped text ≡ Some text
plain_body [] all = refl
plain_body (b ∷ bs) all =
    let both = and_parts (lacks 92 b) (list_all (lacks 92) bs) all in
    let other : (b == 92) ≡ false = grind (arith, nat_tests, both.0) in
    rw other (ap (byte_before (Some b)) (plain_body bs both.1))

number_body : (n : ℕ) → n < 2 ^ 64 → body_of (98 ∷ decimal n) ≡ Some (98 ∷ decimal n)
number_body n small =
    let plain = plain_body (98 ∷ decimal n) (all_weaker is_ascii_digit (lacks 92) digit_lacks_backslash (decimal n) (digits n small)) in
    let few = digits_few n small in
    let short : nat_le (length (98 ∷ decimal n)) 65536 ≡ true = grind (arith, nat_tests, few) in
    ap short_enough plain ∙ rw short refl

post_path : (key : ℕ) → key < 2 ^ 64 → is_asked_path (codes "/post/ann/k1/q" ++ decimal key) ≡ true
unfolding is_asked_path
post_path key small =
    let few = digits_few key small in
    let short : nat_le (length (codes "/post/ann/k1/q" ++ decimal key)) 1024 ≡ true = grind (arith, nat_tests, few) in
    rw (short, digits_visible key small) refl

look_path : (key : ℕ) → key < 2 ^ 64 → is_asked_path (codes "/show/q" ++ decimal key) ≡ true
unfolding is_asked_path
look_path key small =
    let few = digits_few key small in
    let short : nat_le (length (codes "/show/q" ++ decimal key)) 1024 ≡ true = grind (arith, nat_tests, few) in
    rw (short, digits_visible key small) refl

-- without its line feed
abbrev pub post_text : ℕ → ℕ → List ℕ
post_text number key = codes "ask askbot ann POST /post/ann/k1/q" ++ (decimal key ++ (codes " b" ++ decimal number))

abbrev pub look_text : ℕ → List ℕ
look_text key = codes "ask askbot ann GET /show/q" ++ decimal key

pub post_bytes : (number key : ℕ) → number < 2 ^ 64 → key < 2 ^ 64 → list_all is_line_byte (post_text number key) ≡ true
post_bytes number key small low =
    list_all-append is_line_byte (decimal key) (codes " b" ++ decimal number) ∙ rw (digits_in_line key low, digits_in_line number small) refl

pub look_bytes : (key : ℕ) → key < 2 ^ 64 → list_all is_line_byte (look_text key) ≡ true
look_bytes key low = digits_in_line key low

abbrev post_asked : ℕ → ℕ → Asked
post_asked number key = (Post, codes "/post/ann/k1/q" ++ decimal key, 98 ∷ decimal number)

pub post_reads : (number key : ℕ) → number < 2 ^ 64 → key < 2 ^ 64 → line_at (post_text number key) ≡ Ok (Ask (codes "askbot") (request_of (codes "ann") (post_asked number key)))
post_reads number key small low =
    let path = codes "/post/ann/k1/q" ++ decimal key in
    let rest = codes "POST" ++ 32 ∷ (path ++ 32 ∷ (98 ∷ decimal number)) in
    let same : post_text number key ≡ codes "ask " ++ (codes "askbot" ++ 32 ∷ (codes "ann " ++ rest)) =
    ap (λ (x : List ℕ). codes "ask askbot ann POST " ++ x) (sym (append_assoc (codes "/post/ann/k1/q") (decimal key) (32 ∷ (98 ∷ decimal number)))) in
    let bytes = ap (list_all is_line_byte) (sym same) ∙ post_bytes number key small low in
    ap line_at same
    ∙ ask_reads (codes "askbot") rest (post_asked number key) bytes refl refl
    (asked_with (codes "POST") path (98 ∷ decimal number) Post refl (digits_lack_spaces key low) refl (post_path key low) (number_body number small))

pub look_reads : (key : ℕ) → key < 2 ^ 64 → line_at (look_text key) ≡ Ok (Ask (codes "askbot") (request_of (codes "ann") (Get, codes "/show/q" ++ decimal key, [])))
look_reads key low =
    let path = codes "/show/q" ++ decimal key in
    ask_reads (codes "askbot") (codes "GET" ++ 32 ∷ path) (Get, path, []) (look_bytes key low) refl refl
    (asked_without (codes "GET") path Get refl (digits_lack_spaces key low) refl (look_path key low))

-- ---- cancellations

abbrev OrderParts : Type 0
OrderParts = List ℕ × List ℕ × List ℕ × Option (List ℕ)

abbrev with_user : List ℕ → List ℕ → List ℕ → Option (List ℕ) → Option OrderParts
with_user about token who rest = Some (about, token, who, rest)

abbrev with_token : List ℕ → List ℕ → Option (List ℕ) → Option OrderParts
with_token about token rest = with_word rest (with_user about token)

abbrev with_about : List ℕ → Option (List ℕ) → Option OrderParts
with_about about rest = with_word rest (with_token about)

parts_are : (about token who : List ℕ) → list_all (lacks 32) about ≡ true → list_all (lacks 32) token ≡ true → list_all (lacks 32) who ≡ true → order_parts (Some (about ++ 32 ∷ (token ++ 32 ∷ who))) ≡ Some (about, token, who, None)
unfolding order_parts
parts_are about token who first second third =
    one_word about (token ++ 32 ∷ who) with_about first ∙ one_word token who (with_token about) second ∙ last_word who (with_user about token) third

abbrev about_askbot : ℕ → List ℕ
about_askbot number = codes "askbot" ++ 47 ∷ decimal number

numbered_is : (number : ℕ) → 0 < number → number < 2 ^ 64 → numbered (about_askbot number) ≡ Some (codes "askbot", number)
numbered_is number from_one small =
    ap numbered_at (cut_word 47 (codes "askbot") (decimal number) refl refl)
    ∙ ap (λ (o : Option ℕ). with_part o (λ n. Some (codes "askbot", n))) (read_decimal number from_one small)

token_good : (number : ℕ) → number < 2 ^ 64 → is_who (116 ∷ decimal number) ≡ true
token_good number small =
    let few = digits_few number small in
    let some : nat_eq (length (116 ∷ decimal number)) 0 ≡ false = grind (arith, nat_tests) in
    let short : nat_le (length (116 ∷ decimal number)) 64 ≡ true = grind (arith, nat_tests, few) in
    rw (some, short, digits_visible number small) refl

abbrev order_text : ℕ → List ℕ
order_text number = about_askbot number ++ 32 ∷ ((116 ∷ decimal number) ++ 32 ∷ codes "root")

abbrev order_line : ℕ → Line
order_line number = Event (event.Order (codes "askbot") (Cancel number) (116 ∷ decimal number) (codes "root"))

order_is : (number : ℕ) → 0 < number → number < 2 ^ 64 → entry_order_at Cancel (Some (order_text number)) ≡ Some (order_line number)
unfolding entry_order_at
order_is number from_one small =
    let token = 116 ∷ decimal number in
    ap (λ (p : Option OrderParts). with_part p (λ o. at_end o.3 (with_part (numbered o.0) (λ about. order_with about.0 (Cancel about.1) o.1 o.2))))
    (parts_are (about_askbot number) token (codes "root") (digits_lack_spaces number small) (digits_lack_spaces number small) refl)
    ∙ ap (λ (x : Option (List ℕ × ℕ)). with_part x (λ about. order_with about.0 (Cancel about.1) token (codes "root"))) (numbered_is number from_one small)
    ∙ ap (λ (ok : Bool). order_of (Some (codes "askbot")) (Cancel number) (where_good ok (Some token)) (Some (codes "root"))) (token_good number small)

abbrev pub cancel_text : ℕ → List ℕ
cancel_text number = codes "cancel askbot/" ++ (decimal number ++ (codes " t" ++ (decimal number ++ codes " root")))

pub cancel_bytes : (number : ℕ) → number < 2 ^ 64 → list_all is_line_byte (cancel_text number) ≡ true
cancel_bytes number small =
    let second : list_all is_line_byte (decimal number ++ codes " root") ≡ true =
    list_all-append is_line_byte (decimal number) (codes " root") ∙ rw (digits_in_line number small) refl in
    list_all-append is_line_byte (decimal number) (codes " t" ++ (decimal number ++ codes " root")) ∙ rw (digits_in_line number small, second) refl

cancel_words : (rest : Option (List ℕ)) → words_at (codes "cancel") rest ≡ shaped (entry_order_at Cancel rest)
unfolding words_at
cancel_words rest = refl

pub cancel_reads : (number : ℕ) → 0 < number → number < 2 ^ 64 → line_at (cancel_text number) ≡ Ok (order_line number)
cancel_reads number from_one small =
    let same : cancel_text number ≡ codes "cancel" ++ 32 ∷ order_text number =
    ap (λ (x : List ℕ). codes "cancel " ++ x) (sym (append_assoc (codes "askbot/") (decimal number) (codes " t" ++ (decimal number ++ codes " root")))) in
    let bytes = ap (list_all is_line_byte) (sym same) ∙ cancel_bytes number small in
    ap line_at same
    ∙ words_of_line (codes "cancel") (order_text number) refl bytes refl
    ∙ cancel_words (Some (order_text number))
    ∙ ap shaped (order_is number from_one small)

-- ---- the settling

settle_words : words_at (codes "settle") (Some (codes "64")) ≡ Ok (Settle 64)
unfolding words_at number_at
settle_words = refl

pub settle_reads : line_at (codes "settle 64") ≡ Ok (Settle 64)
settle_reads = words_of_line (codes "settle") (codes "64") refl refl refl ∙ settle_words

-- ---- a line and what stands behind it

pub lines_more : (line rest : List ℕ) → list_all is_line_byte line ≡ true → lines_of (line ++ 10 ∷ rest) ≡ line ∷ lines_of rest
lines_more line rest bytes =
    let at = first_at 10 line rest refl (all_weaker is_line_byte (lacks 10) in_line_no_feed line bytes) in
    let inside : ltb (length line) (length (line ++ 10 ∷ rest)) ≡ true = grind (arith, nat_tests, length-append) in
    let found : position (λ b. b == 10) (line ++ 10 ∷ rest) ≡ Some (length line) = rw (at, inside) refl in
    line_found (line ++ 10 ∷ rest) (length line) found ∙ rw (take-append_seam line (10 ∷ rest), drop-append-add line (10 ∷ rest) 1) refl
