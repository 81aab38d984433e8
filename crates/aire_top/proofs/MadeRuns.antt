-- No line of a script that is made is refused, in a world whose services have the names of those of `@posts`.
use Rattle.std.proofs.Common.{◌≡◌, ◌⊎◌, ℕ, zero, suc, ◌+◌, ◌*◌, ◌/◌, ◌%◌, ◌<◌, ◌≤◌, ◌^◌, Bool, true, false, List, [], ◌∷◌, ◌++◌, Ok, Err, None, IsOk, length, map, codes, decimal, if◌then◌else◌, nat_eq, inl, inr, refl, sym, ap, ◌∙◌, subst, append_assoc, arith, length-append}
use Rattle.std.specs.List.{list_all, list_any}
use Rattle.std.proofs.lemmas.Bool.Decides.{nat_tests}
use Rattle.lang_base.specs.Texts.{same_text}
use Rattle.lang_core.specs.declared.request.Request.{Request}
use Rattle.recorded_inputs.specs.Drawing.{next_word}
use Rattle.service_events.specs.State.{me}
use Rattle.world_events.specs.Ends.{IsThere}
use Rattle.world_events.specs.Events.{Answer, after_events, answer_to}
use Rattle.world_events.specs.Worlds.{World}
use Rattle.world_events.specs.declared.event.Event.{Event}
use Rattle.world_events.specs.declared.event.Event.TheVariants.{Order}
use Rattle.script_run.specs.HandedOn.{IsAsking}
use Rattle.script_lines.specs.Lines.{Read, line_at}
use Rattle.script_lines.specs.declared.line.Line.TheVariants.{Ask, Event as One, Settle}
use Rattle.script_make.specs.Making.{ask_line, ask_lines, cancel_line, cancel_lines, made_script}
use Rattle.script_run.specs.Plays.{AreEventsFor, GoesOn, IsRunOf, Played, Plays, RunsIfLong, SaysFor, is_long, lines_of}
use Rattle.script_run.specs.Told.{LineAnswer, events_said, last_line, said_of}
use Rattle.aire_top.proofs.MadeLines.{cancel_bytes, cancel_reads, cancel_text, digits_few, is_line_byte, lines_more, look_bytes, look_reads, look_text, post_bytes, post_reads, post_text, settle_reads, token_reads}
use Rattle.aire_top.proofs.NamesKept.{asking_names, begun_ok, ordered_names, ordered_ok, there_among}

-- ---- lines that aren't refused

abbrev IsNamed : List (List ℕ) → List ℕ → Type 0
IsNamed names service = list_any (λ name. same_text name service) names ≡ true

-- a request or an order at one of these services, or a settling behind which no line stands
abbrev IsGoodLine : List (List ℕ) → Read → List (List ℕ) → Type 0
IsGoodLine names (Ok (Ask service q)) rest = IsNamed names service
IsGoodLine names (Ok (One (Order service command token who))) rest = IsNamed names service
IsGoodLine names (Ok (Settle n)) rest = rest ≡ []
IsGoodLine names other rest = ⊥

abbrev AreGood : List (List ℕ) → List (List ℕ) → Type 0
AreGood names [] = Unit {0}
AreGood names (line ∷ lines) = IsGoodLine names (line_at line) lines × AreGood names lines

-- ---- they are done

said_ok : (e : Event) (a : Answer) (text : List ℕ) → IsOk a → IsOk (said_of e a text)
said_ok e (Ok h) text ok = refl
said_ok e (Err why) text ok = cc

asked_ok : (w : World) (service : List ℕ) (q : Request) (events : List Event) → IsThere w.services service → IsAsking w service q events → IsOk (events_said w events)
asked_ok w service q [] there are = absurd are
asked_ok w service q (e ∷ events) there are =
    let O : Event → Type 0 = λ d. IsOk (answer_to w d) in
    said_ok e (answer_to w e) (last_line w (e ∷ events)) (subst O (sym are.0) (begun_ok w service q there))

there : (names : List (List ℕ)) (w : World) (service : List ℕ) → map me w.services ≡ names → IsNamed names service → IsThere w.services service
there names w service is named = let N : List (List ℕ) → Type 0 = λ ns. IsNamed ns service in there_among service w.services (subst N (sym is) named)

-- nothing that the line names is lacking, and it is the last, or the names are as before
abbrev IsDone : List (List ℕ) → World → List Event → LineAnswer → List (List ℕ) → Type 0
IsDone names w events said rest = IsOk said × ((rest ≡ []) ⊎ (map me (after_events w events).services ≡ names))

line_done : (names : List (List ℕ)) (w : World) (r : Read) (rest : List (List ℕ)) (events : List Event) (said : LineAnswer) → map me w.services ≡ names → IsGoodLine names r rest → AreEventsFor w r events → SaysFor w r events said
    → IsDone names w events said rest
line_done names w (Ok (Ask service q)) rest events said is good are says =
    let O : LineAnswer → Type 0 = λ a. IsOk a in
    (subst O (sym says) (asked_ok w service q events (there names w service is good) are), inr (asking_names w service q events are ∙ is))
line_done names w (Ok (One (Order service command token who))) rest events said is good are says =
    let order = Order service command token who in
    let O : LineAnswer → Type 0 = λ a. IsOk a in
    let K : List Event → Type 0 = λ es. map me (after_events w es).services ≡ names in
    let told : said ≡ events_said w (order ∷ []) = says ∙ ap (events_said w) are in (
      subst O (sym told) (said_ok order (answer_to w order) (last_line w (order ∷ [])) (ordered_ok w service command token who (there names w service is good))),
      inr (subst K (sym are) (ordered_names w service command token who ∙ is)),
    )
line_done names w (Ok (Settle n)) rest events said is good are says =
    let O : LineAnswer → Type 0 = λ a. IsOk a in (subst O (sym says.2) refl, inl good)
line_done names w r rest events said is good are says = absurd good

goes_unrefused : (n : ℕ) (w : World) (events : List Event) (said : LineAnswer) (Rest : World → Played → Type 0) (p : Played) → IsOk said → ((r : Played) → Rest (after_events w events) r → r.refused ≡ None)
    → GoesOn n w events said Rest p → p.refused ≡ None
goes_unrefused n w events (Ok said) Rest p ok more goes = ap (λ (x : Played). x.refused) goes.2 ∙ more goes.0 goes.1
goes_unrefused n w events (Err fault) Rest p ok more goes = cc

last_unrefused : (n : ℕ) (w : World) (lines : List (List ℕ)) (p : Played) → lines ≡ [] → Plays n w lines p → p.refused ≡ None
last_unrefused n w lines p none plays =
    let P : List (List ℕ) → Type 0 = λ ls. Plays n w ls p in
    let last = subst P none plays in ap (λ (x : Played). x.refused) last

more_unrefused : (names : List (List ℕ)) (lines : List (List ℕ)) (n : ℕ) (w : World) (p : Played) → ((is : map me w.services ≡ names) → Plays n w lines p → p.refused ≡ None)
    → (lines ≡ []) ⊎ (map me w.services ≡ names) → Plays n w lines p → p.refused ≡ None
more_unrefused names lines n w p more (inl none) plays = last_unrefused n w lines p none plays
more_unrefused names lines n w p more (inr is) plays = more is plays

unrefused : (names lines : List (List ℕ)) (n : ℕ) (w : World) (p : Played) → map me w.services ≡ names → AreGood names lines → Plays n w lines p → p.refused ≡ None
unrefused names [] n w p is good plays = ap (λ (x : Played). x.refused) plays
unrefused names (line ∷ lines) n w p is good plays =
    let done = line_done names w (line_at line) lines plays.0 plays.2 is good.0 plays.1 plays.3 in
    let next = after_events w plays.0 in
    goes_unrefused n w plays.0 plays.2 (λ now rest. Plays (n + 1) now lines rest) p done.0
    (λ r more. more_unrefused names lines (n + 1) next r (λ same. unrefused names lines (n + 1) next r same good.1) done.1 more)
    plays.4

-- ---- the lines of a script that is made

-- the names of the services of `@posts`
abbrev pub posts_names : List (List ℕ)
posts_names = codes "oauth" ∷ codes "askbot" ∷ codes "dpaste" ∷ []

good_more : (line rest : List ℕ) → list_all is_line_byte line ≡ true → IsGoodLine posts_names (line_at line) (lines_of rest) → AreGood posts_names (lines_of rest) → AreGood posts_names (lines_of (line ++ 10 ∷ rest))
good_more line rest bytes good more = subst (AreGood posts_names) (sym (lines_more line rest bytes)) (good, more)

reads_good : (line : List ℕ) (r : Read) (rest : List (List ℕ)) → line_at line ≡ r → IsGoodLine posts_names r rest → IsGoodLine posts_names (line_at line) rest
reads_good line r rest is good = let G : Read → Type 0 = λ x. IsGoodLine posts_names x rest in subst G (sym is) good

key_small : (drawn : ℕ) → drawn / 2 % 50 < 2 ^ 64
key_small drawn = omega arith

post_then : (number key : ℕ) (rest : List ℕ)
    → (codes "ask askbot ann POST /post/ann/k1/q" ++ (decimal key ++ (codes " b" ++ (decimal number ++ codes "\n")))) ++ rest ≡ post_text number key ++ 10 ∷ rest
post_then number key rest =
    let front : List ℕ → List ℕ = λ x. codes "ask askbot ann POST /post/ann/k1/q" ++ x in
    let body : List ℕ → List ℕ = λ x. codes " b" ++ x in
    ap front (append_assoc (decimal key) (codes " b" ++ (decimal number ++ codes "\n")) rest)
    ∙ ap (λ (x : List ℕ). front (decimal key ++ body x)) (append_assoc (decimal number) (codes "\n") rest)
    ∙ ap front (sym (append_assoc (decimal key) (codes " b" ++ decimal number) (10 ∷ rest)))

look_then : (key : ℕ) (rest : List ℕ) → (codes "ask askbot ann GET /show/q" ++ (decimal key ++ codes "\n")) ++ rest ≡ look_text key ++ 10 ∷ rest
look_then key rest =
    let front : List ℕ → List ℕ = λ x. codes "ask askbot ann GET /show/q" ++ x in
    ap front (append_assoc (decimal key) (codes "\n") rest)

cancel_then : (number : ℕ) (rest : List ℕ) → (codes "cancel askbot/" ++ (decimal number ++ (codes " t" ++ (decimal number ++ codes " root\n")))) ++ rest ≡ cancel_text number ++ 10 ∷ rest
cancel_then number rest =
    let front : List ℕ → List ℕ = λ x. codes "cancel askbot/" ++ x in
    let token : List ℕ → List ℕ = λ x. codes " t" ++ x in
    ap front (append_assoc (decimal number) (codes " t" ++ (decimal number ++ codes " root\n")) rest)
    ∙ ap (λ (x : List ℕ). front (decimal number ++ token x)) (append_assoc (decimal number) (codes " root\n") rest ∙ sym (append_assoc (decimal number) (codes " root") (10 ∷ rest)))
    ∙ ap front (sym (append_assoc (decimal number) (codes " t" ++ (decimal number ++ codes " root")) (10 ∷ rest)))

-- a text of which the lines are good
abbrev HasGood : List ℕ → Type 0
HasGood text = AreGood posts_names (lines_of text)

post_good : (number key : ℕ) (rest : List ℕ) → number < 2 ^ 64 → key < 2 ^ 64 → HasGood rest
    → HasGood ((codes "ask askbot ann POST /post/ann/k1/q" ++ (decimal key ++ (codes " b" ++ (decimal number ++ codes "\n")))) ++ rest)
post_good number key rest small low good =
    subst HasGood (sym (post_then number key rest))
    (good_more (post_text number key) rest (post_bytes number key small low) (reads_good (post_text number key) _ (lines_of rest) (post_reads number key small low) refl) good)

look_good : (key : ℕ) (rest : List ℕ) → key < 2 ^ 64 → HasGood rest → HasGood ((codes "ask askbot ann GET /show/q" ++ (decimal key ++ codes "\n")) ++ rest)
look_good key rest low good =
    subst HasGood (sym (look_then key rest))
    (good_more (look_text key) rest (look_bytes key low) (reads_good (look_text key) _ (lines_of rest) (look_reads key low) refl) good)

ask_by : (posts : Bool) (number key : ℕ) (rest : List ℕ) → number < 2 ^ 64 → key < 2 ^ 64 → HasGood rest
    → HasGood ((if posts then codes "ask askbot ann POST /post/ann/k1/q" ++ (decimal key ++ (codes " b" ++ (decimal number ++ codes "\n"))) else codes "ask askbot ann GET /show/q" ++ (decimal key ++ codes "\n")) ++ rest)
ask_by true number key rest small low good = post_good number key rest small low good
ask_by false number key rest small low good = look_good key rest low good

asks_good : (more number word : ℕ) (rest : List ℕ) → number + more < 2 ^ 64 → HasGood rest → HasGood (ask_lines more number word ++ rest)
asks_good zero number word rest small good = good
asks_good (suc more) number word rest small good =
    let drawn = next_word word in
    let behind = ask_lines more (number + 1) drawn in
    subst HasGood (sym (append_assoc (ask_line number drawn) behind rest))
    (ask_by (nat_eq (drawn % 2) 1) number (drawn / 2 % 50) (behind ++ rest) (omega (arith, small)) (key_small drawn)
    (asks_good more (number + 1) drawn rest (omega (arith, small)) good))

cancel_by : (cancels : Bool) (number : ℕ) (rest : List ℕ) → 0 < number → number < 2 ^ 64 → HasGood rest
    → HasGood ((if cancels then codes "cancel askbot/" ++ (decimal number ++ (codes " t" ++ (decimal number ++ codes " root\n"))) else []) ++ rest)
cancel_by true number rest from_one small good =
    subst HasGood (sym (cancel_then number rest))
    (good_more (cancel_text number) rest (cancel_bytes number small) (reads_good (cancel_text number) _ (lines_of rest) (cancel_reads number from_one small) refl) good)
cancel_by false number rest from_one small good = good

cancels_good : (more number word : ℕ) (rest : List ℕ) → 0 < number → number + more < 2 ^ 64 → HasGood rest → HasGood (cancel_lines more number word ++ rest)
cancels_good zero number word rest from_one small good = good
cancels_good (suc more) number word rest from_one small good =
    let drawn = next_word word in
    let behind = cancel_lines more (number + 1) drawn in
    subst HasGood (sym (append_assoc (cancel_line number drawn) behind rest))
    (cancel_by (nat_eq (drawn % 9) 0) number (behind ++ rest) from_one (omega (arith, small))
    (cancels_good more (number + 1) drawn rest (omega arith) (omega (arith, small)) good))

settle_good : HasGood (codes "settle 64\n")
settle_good = good_more (codes "settle 64") [] refl (reads_good (codes "settle 64") _ [] settle_reads refl) tt

made_good : (seed n : ℕ) → n ≤ 50000 → HasGood (made_script seed n)
made_good seed n most =
    let x = seed % 65537 in
    let cancels = cancel_lines n 1 x ++ codes "settle 64\n" in
    good_more (codes "ask oauth ann PUT /token/ann k1") (ask_lines n 1 x ++ cancels) refl
    (reads_good (codes "ask oauth ann PUT /token/ann k1") _ (lines_of (ask_lines n 1 x ++ cancels)) token_reads refl)
    (asks_good n 1 x cancels (omega (arith, most)) (cancels_good n 1 x (codes "settle 64\n") (omega arith) (omega (arith, most)) settle_good))

-- ---- they are short enough

ask_short : (posts : Bool) (number key : ℕ) → number < 2 ^ 64 → key < 2 ^ 64
    → length (if posts then codes "ask askbot ann POST /post/ann/k1/q" ++ (decimal key ++ (codes " b" ++ (decimal number ++ codes "\n"))) else codes "ask askbot ann GET /show/q" ++ (decimal key ++ codes "\n")) ≤ 80
ask_short true number key small low =
    let a = digits_few number small in
    let b = digits_few key low in
    let inner : length (decimal number ++ codes "\n") ≡ length (decimal number) + 1 = length-append (decimal number) (codes "\n") in
    let outer : length (decimal key ++ (codes " b" ++ (decimal number ++ codes "\n"))) ≡ length (decimal key) + length (codes " b" ++ (decimal number ++ codes "\n")) =
    length-append (decimal key) (codes " b" ++ (decimal number ++ codes "\n")) in
    omega (arith, a, b, inner, outer)
ask_short false number key small low =
    let b = digits_few key low in
    let whole : length (decimal key ++ codes "\n") ≡ length (decimal key) + 1 = length-append (decimal key) (codes "\n") in
    omega (arith, b, whole)

asks_short : (more number word : ℕ) → number + more < 2 ^ 64 → length (ask_lines more number word) ≤ 80 * more
asks_short zero number word small = omega arith
asks_short (suc more) number word small =
    let drawn = next_word word in
    let one : length (ask_line number drawn) ≤ 80 = ask_short (nat_eq (drawn % 2) 1) number (drawn / 2 % 50) (omega (arith, small)) (key_small drawn) in
    let rest = asks_short more (number + 1) drawn (omega (arith, small)) in
    let both : length (ask_line number drawn ++ ask_lines more (number + 1) drawn) ≡ length (ask_line number drawn) + length (ask_lines more (number + 1) drawn) =
    length-append (ask_line number drawn) (ask_lines more (number + 1) drawn) in
    omega (arith, one, rest, both)

cancel_short : (cancels : Bool) (number : ℕ) → number < 2 ^ 64
    → length (if cancels then codes "cancel askbot/" ++ (decimal number ++ (codes " t" ++ (decimal number ++ codes " root\n"))) else []) ≤ 80
cancel_short true number small =
    let a = digits_few number small in
    let inner : length (decimal number ++ codes " root\n") ≡ length (decimal number) + 6 = length-append (decimal number) (codes " root\n") in
    let outer : length (decimal number ++ (codes " t" ++ (decimal number ++ codes " root\n"))) ≡ length (decimal number) + length (codes " t" ++ (decimal number ++ codes " root\n")) =
    length-append (decimal number) (codes " t" ++ (decimal number ++ codes " root\n")) in
    omega (arith, a, inner, outer)
cancel_short false number small = omega arith

cancels_short : (more number word : ℕ) → number + more < 2 ^ 64 → length (cancel_lines more number word) ≤ 80 * more
cancels_short zero number word small = omega arith
cancels_short (suc more) number word small =
    let drawn = next_word word in
    let one : length (cancel_line number drawn) ≤ 80 = cancel_short (nat_eq (drawn % 9) 0) number (omega (arith, small)) in
    let rest = cancels_short more (number + 1) drawn (omega (arith, small)) in
    let both : length (cancel_line number drawn ++ cancel_lines more (number + 1) drawn) ≡ length (cancel_line number drawn) + length (cancel_lines more (number + 1) drawn) =
    length-append (cancel_line number drawn) (cancel_lines more (number + 1) drawn) in
    omega (arith, one, rest, both)

made_short : (seed n : ℕ) → n ≤ 50000 → is_long (made_script seed n) ≡ false
made_short seed n most =
    let x = seed % 65537 in
    let asks = asks_short n 1 x (omega (arith, most)) in
    let cancels = cancels_short n 1 x (omega (arith, most)) in
    let inner : length (cancel_lines n 1 x ++ codes "settle 64\n") ≡ length (cancel_lines n 1 x) + 10 = length-append (cancel_lines n 1 x) (codes "settle 64\n") in
    let outer : length (ask_lines n 1 x ++ (cancel_lines n 1 x ++ codes "settle 64\n")) ≡ length (ask_lines n 1 x) + length (cancel_lines n 1 x ++ codes "settle 64\n") =
    length-append (ask_lines n 1 x) (cancel_lines n 1 x ++ codes "settle 64\n") in
    let whole : length (made_script seed n) ≤ 8000100 = omega (arith, most, asks, cancels, inner, outer) in
    grind (arith, nat_tests, whole)

-- ---- a run

pub made_unrefused : (seed n : ℕ) (w : World) (p : Played) → n ≤ 50000 → map me w.services ≡ posts_names → IsRunOf w (made_script seed n) p → p.refused ≡ None
made_unrefused seed n w p most is run =
    let R : Bool → Type 0 = λ long. RunsIfLong long w (made_script seed n) p in
    unrefused posts_names (lines_of (made_script seed n)) 1 w p is (made_good seed n most) (subst R (made_short seed n most) run)
