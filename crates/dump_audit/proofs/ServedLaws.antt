-- Calls that are served and entries that are called for, as tests and as relations of histories.
use Rattle.std.proofs.Common.{◌≡◌, ℕ, Bool, true, false, cond, ◌&&◌, ◌||◌, nat_eq, List, [], ◌∷◌, Option, Some, None, IsSomeAnd, length, map, filter, ◌⊎◌, inl, inr, refl, sym, ap, subst, eqb-true, eq-eqb, arith}
use Rattle.std.specs.List.{Any, list_any}
use Rattle.std.specs.Option.{is_some, option_map}
use Rattle.std.proofs.lemmas.Bool.{and_from, and_parts}
use Rattle.lang_base.specs.Equal.{equal}
use Rattle.lang_base.specs.Texts.{same_text}
use Rattle.lang_base.proofs.EqualLemmas.{equal-true, equal-same}
use Rattle.lang_core.specs.Origins.{is_call}
use Rattle.lang_core.specs.contracts.request.Request as request
use Rattle.lang_core.specs.contracts.trace.CallMade as call_made
use Rattle.lang_core.specs.declared.ids.Origin.{Origin}
use Rattle.lang_core.specs.declared.ids.Origin.TheVariants.{Outside, Call}
use Rattle.lang_core.specs.declared.request.Response.{Response}
use Rattle.lang_core.specs.declared.trace.CallMade.{CallMade}
use Rattle.execution.specs.Executions.{Act, Deed, History}
use Rattle.execution.specs.Together.{AreServed, CallsAreServed, IsAmong, IsCalledFor, IsOne, IsServed, Makes, Serves, WantedIsCalledFor, comes_from, history_in}
use Rattle.dump_tables.specs.declared.dump.DumpEntry.{DumpEntry}
use Rattle.dump_tables.specs.declared.dump.DumpService.{DumpService}
use Rattle.dump_audit.specs.Histories.{act_of, deed, histories_of, history_of}
use Rattle.dump_audit.specs.Judging.{all_served, is_alive, is_among, is_answered, is_called_for, is_made, is_made_by, is_response, is_served, is_served_by, makes, serves, serves_alone, service_in}
use Rattle.dump_audit.proofs.Firsts.{any_cases, any_here, any_none, any_there}
use Rattle.dump_audit.proofs.ReplayLaws.{is_told_so, told_is}

-- ---- services and entries, as histories and their requests

found_by : (b : Bool) (s : DumpService) (here : Option DumpService) (there : Option History) → there ≡ option_map history_of here
    → cond b (Some (history_of s)) there ≡ option_map history_of (cond b (Some s) here)
found_by true s here there e = refl
found_by false s here there e = e

history_found : (name : List ℕ) (world : List DumpService) → history_in name (histories_of world) ≡ option_map history_of (service_in name world)
history_found name [] = refl
history_found name (s ∷ world) =
    found_by (same_text s.setting.me name) s (service_in name world) (history_in name (histories_of world)) (history_found name world)

kept_by : (b : Bool) (e : DumpEntry) (here : List DumpEntry) (there : List Act) → there ≡ map act_of here
    → cond b (act_of e ∷ there) there ≡ map act_of (cond b (e ∷ here) here)
kept_by true e here there is = ap (λ (acts : List Act). act_of e ∷ acts) is
kept_by false e here there is = is

acts_kept : (caller : List ℕ) (n : ℕ) (entries : List DumpEntry)
    → filter (comes_from caller n) (map act_of entries) ≡ map act_of (filter (λ e. is_call caller n e.origin) entries)
acts_kept caller n [] = refl
acts_kept caller n (e ∷ entries) =
    kept_by (is_call caller n e.origin) e (filter (λ x. is_call caller n x.origin) entries) (filter (comes_from caller n) (map act_of entries)) (acts_kept caller n entries)

-- ---- one entry serves a call

answers_so : (calls : List CallMade) (reply : Option Response) (answer : Response) → reply ≡ Some answer
    → IsSomeAnd (option_map (deed calls) reply) (λ (d : Deed). d.response ≡ answer)
answers_so calls reply answer e = subst (λ (o : Option Response). IsSomeAnd (option_map (deed calls) o) (λ (d : Deed). d.response ≡ answer)) (sym e) refl

so_answered : (calls : List CallMade) (reply : Option Response) (answer : Response)
    → IsSomeAnd (option_map (deed calls) reply) (λ (d : Deed). d.response ≡ answer) → reply ≡ Some answer
so_answered calls None answer h = absurd h
so_answered calls (Some r) answer h = ap Some h

serves_it : (call : CallMade) (answer : Response) (e : DumpEntry) → serves call answer e ≡ true → Serves call answer (act_of e)
serves_it call answer e h =
    let parts = and_parts e.wanted (equal request.the_row.coded e.request call.request && is_response e.reply answer) h in
    let more = and_parts (equal request.the_row.coded e.request call.request) (is_response e.reply answer) parts.1 in
    record {
      wanted = parts.0;
      request = equal-true request.the_row.coded e.request call.request more.0;
      response = answers_so e.calls e.reply answer (told_is e.reply answer more.1);
    }

it_serves : (call : CallMade) (answer : Response) (e : DumpEntry) → Serves call answer (act_of e) → serves call answer e ≡ true
it_serves call answer e s =
    and_from e.wanted (equal request.the_row.coded e.request call.request && is_response e.reply answer) s.wanted
    (and_from (equal request.the_row.coded e.request call.request) (is_response e.reply answer)
    (equal-same request.the_row.coded e.request call.request s.request)
    (is_told_so e.reply answer (so_answered e.calls e.reply answer s.response)))

one_serves : (call : CallMade) (answer : Response) (entries : List DumpEntry) → serves_alone call answer entries ≡ true
    → IsOne (Serves call answer) (map act_of entries)
one_serves call answer [] h = absurd cc
one_serves call answer (e ∷ []) h = serves_it call answer e h
one_serves call answer (e ∷ f ∷ entries) h = absurd cc

serves_one : (call : CallMade) (answer : Response) (entries : List DumpEntry) → IsOne (Serves call answer) (map act_of entries)
    → serves_alone call answer entries ≡ true
serves_one call answer [] h = absurd h
serves_one call answer (e ∷ []) h = it_serves call answer e h
serves_one call answer (e ∷ f ∷ entries) h = absurd h

-- a history has exactly one request of this call, and that serves it
abbrev ServesAlone : List ℕ → ℕ → CallMade → Response → History → Type 0
ServesAlone caller n call answer h = IsOne (Serves call answer) (filter (comes_from caller n) h.acts)

served_by : (o : Option DumpService) (caller : List ℕ) (n : ℕ) (call : CallMade) (answer : Response) → is_served_by o caller n call answer ≡ true
    → IsSomeAnd (option_map history_of o) (ServesAlone caller n call answer)
served_by None caller n call answer h = absurd cc
served_by (Some s) caller n call answer h =
    subst (IsOne (Serves call answer)) (sym (acts_kept caller n s.entries)) (one_serves call answer (filter (λ e. is_call caller n e.origin) s.entries) h)

by_served : (o : Option DumpService) (caller : List ℕ) (n : ℕ) (call : CallMade) (answer : Response)
    → IsSomeAnd (option_map history_of o) (ServesAlone caller n call answer) → is_served_by o caller n call answer ≡ true
by_served None caller n call answer h = absurd h
by_served (Some s) caller n call answer h =
    serves_one call answer (filter (λ e. is_call caller n e.origin) s.entries) (subst (IsOne (Serves call answer)) (acts_kept caller n s.entries) h)

served_it : (world : List DumpService) (caller : List ℕ) (n : ℕ) (call : CallMade) (answer : Response) → is_served world caller n call answer ≡ true
    → IsServed (histories_of world) caller n call answer
served_it world caller n call answer h =
    subst (λ (o : Option History). IsSomeAnd o (ServesAlone caller n call answer)) (sym (history_found call.dest world)) (served_by (service_in call.dest world) caller n call answer h)

it_served : (world : List DumpService) (caller : List ℕ) (n : ℕ) (call : CallMade) (answer : Response) → IsServed (histories_of world) caller n call answer
    → is_served world caller n call answer ≡ true
it_served world caller n call answer h =
    by_served (service_in call.dest world) caller n call answer (subst (λ (o : Option History). IsSomeAnd o (ServesAlone caller n call answer)) (history_found call.dest world) h)

-- ---- all calls of an entry

none_left : (m n : ℕ) → (nat_eq m 0 && nat_eq n 0) ≡ true → (m ≡ 0) × (n ≡ 0)
none_left m n h = let parts = and_parts (nat_eq m 0) (nat_eq n 0) h in (eqb-true m 0 parts.0, eqb-true n 0 parts.1)

all_are : (world : List DumpService) (caller : List ℕ) (cs : List CallMade) (ns : List ℕ) (rs : List Response) → all_served world caller cs ns rs ≡ true
    → AreServed (histories_of world) caller ns cs rs
all_are world caller [] [] [] h = tt
all_are world caller [] [] (r ∷ rs) h = absurd (omega (arith, (none_left 0 (length (r ∷ rs)) h).1))
all_are world caller [] (n ∷ ns) rs h = absurd (omega (arith, (none_left (length (n ∷ ns)) (length rs) h).0))
all_are world caller (c ∷ cs) [] rs h = absurd cc
all_are world caller (c ∷ cs) (n ∷ ns) [] h = absurd cc
all_are world caller (c ∷ cs) (n ∷ ns) (r ∷ rs) h =
    let parts = and_parts (is_served world caller n c r) (all_served world caller cs ns rs) h in
    (served_it world caller n c r parts.0, all_are world caller cs ns rs parts.1)

are_all : (world : List DumpService) (caller : List ℕ) (cs : List CallMade) (ns : List ℕ) (rs : List Response) → AreServed (histories_of world) caller ns cs rs
    → all_served world caller cs ns rs ≡ true
are_all world caller [] [] [] h = refl
are_all world caller [] [] (r ∷ rs) h = absurd h
are_all world caller [] (n ∷ ns) rs h = absurd h
are_all world caller (c ∷ cs) [] rs h = absurd h
are_all world caller (c ∷ cs) (n ∷ ns) [] h = absurd h
are_all world caller (c ∷ cs) (n ∷ ns) (r ∷ rs) h =
    and_from (is_served world caller n c r) (all_served world caller cs ns rs) (it_served world caller n c r h.0) (are_all world caller cs ns rs h.1)

ran_and : (calls : List CallMade) (reply : Option Response) (P : Deed → Type 0) → is_some reply ≡ true → ((r : Response) → P (deed calls r))
    → IsSomeAnd (option_map (deed calls) reply) P
ran_and calls None P ran p = absurd cc
ran_and calls (Some r) P ran p = p r

and_ran : (calls : List CallMade) (reply : Option Response) (P : Deed → Type 0) (Q : Type 0) → ((r : Response) → P (deed calls r) → Q)
    → IsSomeAnd (option_map (deed calls) reply) P → (is_some reply ≡ true) × Q
and_ran calls None P Q q h = absurd h
and_ran calls (Some r) P Q q h = (refl, q r h)

if_true : (b c : Bool) → cond b c true ≡ true → b ≡ true → c ≡ true
if_true true c h is = h
if_true false c h is = absurd cc

true_if : (b c : Bool) → (b ≡ true → c ≡ true) → cond b c true ≡ true
true_if true c h = h refl
true_if false c h = refl

pub answered_it : (world : List DumpService) (s : DumpService) (e : DumpEntry) → is_answered world s.setting.me e ≡ true
    → CallsAreServed (histories_of world) (history_of s) (act_of e)
answered_it world s e h alive =
    let all = all_served world s.setting.me e.calls e.numbers e.answers in
    let parts = and_parts (is_some e.reply) all (if_true (is_alive e) (is_some e.reply && all) h alive) in
    ran_and e.calls e.reply (λ (d : Deed). AreServed (histories_of world) s.setting.me e.numbers d.calls e.answers) parts.0
    (λ r. all_are world s.setting.me e.calls e.numbers e.answers parts.1)

pub it_answered : (world : List DumpService) (s : DumpService) (e : DumpEntry) → CallsAreServed (histories_of world) (history_of s) (act_of e)
    → is_answered world s.setting.me e ≡ true
it_answered world s e h =
    let all = all_served world s.setting.me e.calls e.numbers e.answers in
    true_if (is_alive e) (is_some e.reply && all)
    (λ alive.
    let both = and_ran e.calls e.reply (λ (d : Deed). AreServed (histories_of world) s.setting.me e.numbers d.calls e.answers) (all ≡ true)
    (λ r served. are_all world s.setting.me e.calls e.numbers e.answers served) (h alive) in
    and_from (is_some e.reply) all both.0 both.1)

-- ---- an entry that is called for

among_by : (here later : Bool) → cond here true later ≡ true → (here ≡ true) ⊎ (later ≡ true)
among_by true later h = inl refl
among_by false later h = inr h

among_it : (n : ℕ) (call : CallMade) (cs : List CallMade) (ns : List ℕ) → is_among n call cs ns ≡ true → IsAmong n call ns cs
among_it n call [] ns h = absurd cc
among_it n call (c ∷ cs) [] h = absurd cc
among_it n call (c ∷ cs) (m ∷ ns) h = elim (among_by (nat_eq m n && equal call_made.the_row.coded c call) (is_among n call cs ns) h) [
  | inl here ↦ (let parts = and_parts (nat_eq m n) (equal call_made.the_row.coded c call) here in
      inl (eqb-true m n parts.0, equal-true call_made.the_row.coded c call parts.1))
  | inr later ↦ inr (among_it n call cs ns later)
]

or_later : (here later : Bool) → later ≡ true → cond here true later ≡ true
or_later true later h = refl
or_later false later h = h

it_among : (n : ℕ) (call : CallMade) (cs : List CallMade) (ns : List ℕ) → IsAmong n call ns cs → is_among n call cs ns ≡ true
it_among n call [] [] h = absurd h
it_among n call [] (m ∷ ns) h = absurd h
it_among n call (c ∷ cs) [] h = absurd h
it_among n call (c ∷ cs) (m ∷ ns) h = elim h [
  | inl is ↦ ap (λ (b : Bool). cond b true (is_among n call cs ns))
      (and_from (nat_eq m n) (equal call_made.the_row.coded c call) (eq-eqb m n is.0) (equal-same call_made.the_row.coded c call is.1))
  | inr later ↦ or_later (nat_eq m n && equal call_made.the_row.coded c call) (is_among n call cs ns) (it_among n call cs ns later)
]

makes_it : (n : ℕ) (call : CallMade) (e : DumpEntry) → makes n call e ≡ true → Makes n call (act_of e)
makes_it n call e h =
    let parts = and_parts (is_alive e) (is_some e.reply && is_among n call e.calls e.numbers) h in
    let more = and_parts (is_some e.reply) (is_among n call e.calls e.numbers) parts.1 in
    record {
      survives = parts.0;
      makes = ran_and e.calls e.reply (λ (d : Deed). IsAmong n call e.numbers d.calls) more.0 (λ r. among_it n call e.calls e.numbers more.1);
    }

it_makes : (n : ℕ) (call : CallMade) (e : DumpEntry) → Makes n call (act_of e) → makes n call e ≡ true
it_makes n call e m =
    let both = and_ran e.calls e.reply (λ (d : Deed). IsAmong n call e.numbers d.calls) (is_among n call e.calls e.numbers ≡ true)
    (λ r among. it_among n call e.calls e.numbers among) m.makes in
    and_from (is_alive e) (is_some e.reply && is_among n call e.calls e.numbers) m.survives
    (and_from (is_some e.reply) (is_among n call e.calls e.numbers) both.0 both.1)

either : (a b : Bool) → (a || b) ≡ true → (a ≡ true) ⊎ (b ≡ true)
either true b h = inl refl
either false b h = inr h

any_makes : (n : ℕ) (call : CallMade) (entries : List DumpEntry) → list_any (makes n call) entries ≡ true → Any (Makes n call) (map act_of entries)
any_makes n call [] h = absurd cc
any_makes n call (e ∷ entries) h = elim (either (makes n call e) (list_any (makes n call) entries) h) [
  | inl here ↦ any_here (Makes n call) (act_of e) (map act_of entries) (makes_it n call e here)
  | inr later ↦ any_there (Makes n call) (act_of e) (map act_of entries) (any_makes n call entries later)
]

or_here : (a b : Bool) → a ≡ true → (a || b) ≡ true
or_here true b h = refl
or_here false b h = absurd cc

or_there : (a b : Bool) → b ≡ true → (a || b) ≡ true
or_there true b h = refl
or_there false b h = h

makes_any : (n : ℕ) (call : CallMade) (entries : List DumpEntry) → Any (Makes n call) (map act_of entries) → list_any (makes n call) entries ≡ true
makes_any n call [] h = absurd (any_none (Makes n call) h)
makes_any n call (e ∷ entries) h = elim (any_cases (Makes n call) (act_of e) (map act_of entries) h) [
  | inl here ↦ or_here (makes n call e) (list_any (makes n call) entries) (it_makes n call e here)
  | inr later ↦ or_there (makes n call e) (list_any (makes n call) entries) (makes_any n call entries later)
]

made_by : (o : Option DumpService) (n : ℕ) (call : CallMade) → is_made_by o n call ≡ true → IsSomeAnd (option_map history_of o) (λ (h : History). Any (Makes n call) h.acts)
made_by None n call h = absurd cc
made_by (Some s) n call h = any_makes n call s.entries h

by_made : (o : Option DumpService) (n : ℕ) (call : CallMade) → IsSomeAnd (option_map history_of o) (λ (h : History). Any (Makes n call) h.acts) → is_made_by o n call ≡ true
by_made None n call h = absurd h
by_made (Some s) n call h = makes_any n call s.entries h

-- the call of an entry at the service of this name
abbrev call_to : List ℕ → DumpEntry → CallMade
call_to me e = record { dest = me; request = e.request }

made_it : (world : List DumpService) (me : List ℕ) (e : DumpEntry) (o : Origin) → is_made world me e o ≡ true → IsCalledFor (histories_of world) me (act_of e) o
made_it world me e Outside h = tt
made_it world me e (Call caller n) h =
    subst (λ (o : Option History). IsSomeAnd o (λ (x : History). Any (Makes n (call_to me e)) x.acts)) (sym (history_found caller world)) (made_by (service_in caller world) n (call_to me e) h)

it_made : (world : List DumpService) (me : List ℕ) (e : DumpEntry) (o : Origin) → IsCalledFor (histories_of world) me (act_of e) o → is_made world me e o ≡ true
it_made world me e Outside h = refl
it_made world me e (Call caller n) h =
    by_made (service_in caller world) n (call_to me e) (subst (λ (o : Option History). IsSomeAnd o (λ (x : History). Any (Makes n (call_to me e)) x.acts)) (history_found caller world) h)

pub called_it : (world : List DumpService) (s : DumpService) (e : DumpEntry) → is_called_for world s.setting.me e ≡ true
    → WantedIsCalledFor (histories_of world) (history_of s) (act_of e)
called_it world s e h wanted = made_it world s.setting.me e e.origin (if_true e.wanted (is_made world s.setting.me e e.origin) h wanted)

pub it_called : (world : List DumpService) (s : DumpService) (e : DumpEntry) → WantedIsCalledFor (histories_of world) (history_of s) (act_of e)
    → is_called_for world s.setting.me e ≡ true
it_called world s e h =
    true_if e.wanted (is_made world s.setting.me e e.origin) (λ wanted. it_made world s.setting.me e e.origin (h wanted))
