-- What follows for a whole run.
use Rattle.std.specs.Option.{ForSome}
use Rattle.std.proofs.Common.{◌≡◌, ◌⊎◌, ℕ, ◌<◌, ◌≤◌, Bool, true, false, inl, inr, List, [], ◌∷◌, ◌++◌, Option, Some, None, Result, Ok, Err, length, codes, refl, ap, sym, subst, ◌∙◌, append_assoc, arith, rules, tests}
use Rattle.std.proofs.lemmas.List.{append-nil}
use Rattle.io_edge.specs.Edge.{ReadFails, Reads, WriteFails, Writes, Wrote, WroteFront}
use Rattle.io_edge.specs.Files.{LoadFails, Loads}
use Rattle.io_edge.proofs.Pieces.{front_whole, wrote_more}
use Rattle.command_ends.specs.Ends.{EndsWith, lacking_line, unread_line, usage_line}
use Rattle.journal_rows.specs.declared.verdict.Verdict.{Verdict}
use Rattle.world_events.specs.Live.{IsLiveWorld}
use Rattle.world_events.specs.Sound.{IsSound}
use Rattle.world_events.specs.Worlds.{World}
use Rattle.script_run.specs.Plays.{IsRunOf, Played, is_long, refused_at}
use Rattle.script_run.specs.Stops.{DoesAll, StopsEarly, StopsInLine}
use Rattle.script_run.proofs.PlayLaws.{early_front, long_run, one_run}
use Rattle.world_file.specs.Numbers.{refusal_text}
use Rattle.world_file.specs.declared.setup.Setup.{Setup}
use Rattle.aire_top.specs.Causes.{what_of}
use Rattle.aire_top.specs.Closings.{Closes, ClosesWorldless, IsGot, RunsIn}
use Rattle.aire_top.specs.Endings.{Answer, Asked, ByScript, IsGoodRun, LacksInScript, LacksMemory, Outside, RunEnds, ScriptEnds, Untouched, nothing, outside, refused_line, standing, world_line}
use Rattle.aire_top.specs.Top.{Is, WorldOrRefusal, Words, fitting, fresh, is_input, misfit, script_told, script_word, words_of, world_path, world_told, world_word}
use Rattle.aire_top.specs.declared.loading.NoWorld.{NoWorld}
use Rattle.aire_top.specs.declared.loading.NoWorld.TheVariants.{NoMemory, Failed as LoadFailed, TooLong, Refused}

-- ---- last lines

fails_since : (a b c : Writes) → a.faults ≤ b.faults → WriteFails b c → WriteFails a c
fails_since a b c h r = λ small. omega (arith, h, r small)

fails_until : (a b c : Writes) → b.faults ≤ c.faults → WriteFails a b → WriteFails a c
fails_until a b c h r = λ small. omega (arith, h, r (omega (arith, h, small)))

or_since : (front line : List ℕ) (a b c : Writes) → a.faults ≤ b.faults → (front ≡ line) ⊎ WriteFails b c → (front ≡ line) ⊎ WriteFails a c
or_since front line a b c h (inl whole) = inl whole
or_since front line a b c h (inr fails) = inr (fails_since a b c h fails)

-- a text was written, and then a last line
pub ends_behind : (a b c : Writes) (text line : List ℕ) → Wrote a b text → a.faults ≤ b.faults → EndsWith b c [] line → EndsWith a c text line
ends_behind a b c text line f h e = record {
  front = e.front;
  of_line = e.of_line;
  wrote = wrote_more a b c text e.front f e.wrote;
  whole = or_since e.front line a b c h e.whole;
}

front_of_nothing : (front rest : List ℕ) → [] ≡ front ++ rest → front ≡ []
front_of_nothing [] rest e = refl
front_of_nothing (x ∷ front) rest e = cc

-- a text was written, and then nothing
nothing_more : (a b c : Writes) (text : List ℕ) → Wrote a b text → EndsWith b c [] [] → Wrote a c text
nothing_more a b c text f e =
    let none = front_of_nothing e.front e.of_line.0 e.of_line.1 in
    let W : List ℕ → Type 0 = λ x. Wrote a c x in
    subst W (ap (λ (x : List ℕ). text ++ x) none ∙ append-nil text) (wrote_more a b c text e.front f e.wrote)

-- nothing is written
pub ends_now : (a : Writes) → EndsWith a a [] []
ends_now a = record { front = []; of_line = ([], refl); wrote = λ all told. told ∙ ap Some (sym (append-nil all)); whole = inl refl }

-- ---- a script in a world

-- memory is wanting when some of what the script prints is written
lacks_behind : (start : World) (script : List ℕ) (p : Played) (a b c : Writes) (ans : Answer) → IsRunOf start script p → WroteFront a b (p.said).text → a.faults ≤ b.faults → LacksMemory b c ans
    → LacksInScript start script a c ans
lacks_behind start script p a b c ans run f h lacks = record {
  p = p;
  run = run;
  answered = lacks.answered;
  front = f.0;
  of_script = f.1;
  ends = ends_behind a b c f.0 lacking_line f.2 h lacks.ends;
}

-- all lines are done
pub all_done : (start : World) (script : List ℕ) (world : World) (a b : Writes) (ans : Answer) → IsSound start → IsLiveWorld start → DoesAll start script None world a b
    → ans ≡ standing 0 world → ScriptEnds start script a b ans
all_done start script world a b ans sound live does good =
    inl (record {
      p = does.p;
      run = does.run;
      not_refused = does.ends;
      answered = good ∙ ap (standing 0) does.same_world;
      wrote = does.wrote;
      told = does.told sound live;
    })

-- a line is refused
pub at_line : (start : World) (script : List ℕ) (line number : ℕ) (world : World) (a b c : Writes) (ans : Answer) → IsSound start → IsLiveWorld start → DoesAll start script (Some (line, number)) world a b
    → a.faults ≤ b.faults → Closes b c (standing 3 world) (refused_line line number) ans → ScriptEnds start script a c ans
at_line start script line number world a b c ans sound live does h (inl good) =
    inr (inl (record {
      p = does.p;
      run = does.run;
      line = line;
      number = number;
      at_line = does.ends;
      answered = good.0 ∙ ap (standing 3) does.same_world;
      ends = ends_behind a b c _ _ does.wrote h good.1;
      told = does.told sound live;
    }))
at_line start script line number world a b c ans sound live does h (inr lacks) =
    inr (inr (inr (lacks_behind start script does.p a b c ans does.run (front_whole a b _ does.wrote) h lacks)))

-- a write failed in a line
pub cut_short : (start : World) (script : List ℕ) (world : World) (a b : Writes) (ans : Answer) → IsSound start → IsLiveWorld start → StopsInLine start script world a b → WriteFails a b
    → ans ≡ standing 5 world → ScriptEnds start script a b ans
cut_short start script world a b ans sound live stops fails good =
    inr (inr (inl (record { world = world; answered = good; in_line = stops; fault = fails; told = stops.told sound live })))

-- memory was wanting
pub lacked : (start : World) (script : List ℕ) (world : World) (a b c : Writes) (ans : Answer) → StopsEarly start script world a b → a.faults ≤ b.faults → LacksMemory b c ans → ScriptEnds start script a c ans
lacked start script world a b c ans early h lacks =
    let f = early_front start script world a b early in
    inr (inr (inr (lacks_behind start script f.0 a b c ans f.1 f.2 h lacks)))

-- ---- a script that a word names

-- a script that isn't too long
pub in_script : (setups : List Setup) (word : List ℕ) (before now : Outside) (world : World) (bytes script : List ℕ) (ans : Answer) → IsGot word before.loads now.loads before.reads now.reads script → world ≡ fresh setups → bytes ≡ script
    → ScriptEnds world bytes before.writes now.writes ans → RunsIn setups word before now ans
in_script setups word before now world bytes script ans got start same ends =
    let W : World → Type 0 = λ w. ScriptEnds w bytes before.writes now.writes ans in
    let B : List ℕ → Type 0 = λ b. ScriptEnds (fresh setups) b before.writes now.writes ans in
    inl (record { script = script; got = got; ended = subst B same (subst W start ends) })

is_longer : (script : List ℕ) → 16777216 < length script → is_long script ≡ true
is_longer script long = search (tests, rules)

-- a script that is too long
pub too_long : (setups : List Setup) (word : List ℕ) (before now : Outside) (world : World) (ans : Answer) → world ≡ fresh setups
    → ((script : List ℕ) × IsGot word before.loads now.loads before.reads now.reads script × (16777216 < length script)) → Closes before.writes now.writes (standing 3 world) (refused_line 0 7) ans
    → RunsIn setups word before now ans
too_long setups word before now world ans is got (inl good) =
    inl (record {
      script = got.0;
      got = got.1;
      ended = inr (inl (record {
        p = refused_at 0 7 (fresh setups);
        run = long_run (fresh setups) got.0 (is_longer got.0 got.2);
        line = 0;
        number = 7;
        at_line = refl;
        answered = good.0 ∙ ap (standing 3) is;
        ends = good.1;
        told = λ _. tt;
      }));
    })
too_long setups word before now world ans is got (inr lacks) = inr (inr lacks)

-- ---- a run of the program

asked_more : (a b c : Loads) (xs ys : List (List ℕ)) → Asked a b xs → Asked b c ys → Asked a c (xs ++ ys)
asked_more a b c xs ys first second = second ∙ ap (λ (x : List (List ℕ)). x ++ ys) first ∙ append_assoc a.asked xs ys

loads_since : (a b c : Loads) → a.faults ≤ b.faults → LoadFails b c → LoadFails a c
loads_since a b c h r = λ small. omega (arith, h, r small)

script_since : (input : Bool) (a b c : Loads) (reads now : Reads) → a.faults ≤ b.faults → ByScript input (ReadFails reads now) (LoadFails b c × Untouched reads now) → ByScript input (ReadFails reads now) (LoadFails a c × Untouched reads now)
script_since true a b c reads now h fails = fails
script_since false a b c reads now h fails = (loads_since a b c h fails.0, fails.1)

-- the world stands, and a script is run in it, or can't be read
pub in_world : (world script : List ℕ) (setups : List Setup) (loads mid : Loads) (reads : Reads) (writes : Writes) (now : Outside) (ans : Answer) → Is (world_told loads.files world) (Ok setups) → mid.files ≡ loads.files → Asked loads mid (world_path world)
    → loads.faults ≤ mid.faults → RunsIn setups script (outside mid reads writes) now ans → RunEnds (fitting world script) (outside loads reads writes) now ans
in_world world script setups loads mid reads writes now ans stands same asked h (inl run) =
    let T : Option (List ℕ → Option (List ℕ)) → Type 0 = λ files. Is (script_told files reads.left script) run.script in
    inl (record {
      fit = refl;
      setups = setups;
      world = stands;
      script = run.script;
      of_word = subst T same run.got.of_word;
      asked = asked_more loads mid now.loads _ _ asked run.got.asked;
      beside = run.got.beside;
      read = run.got.read;
      ended = run.ended;
    })
in_world world script setups loads mid reads writes now ans stands same asked h (inr (inl (lost, inl good))) =
    inr (inr (inr (inl (record {
      fit = refl;
      answered = good.0;
      ends = good.1;
      cause = inr (record {
        setups = setups;
        world = stands;
        asked = asked_more loads mid now.loads _ _ asked lost.asked;
        fault = script_since (is_input script) loads mid now.loads reads now.reads h lost.fault;
      });
    }))))
in_world world script setups loads mid reads writes now ans stands same asked h (inr (inl (lost, inr lacks))) = inr (inr (inr (inr lacks)))
in_world world script setups loads mid reads writes now ans stands same asked h (inr (inr lacks)) = inr (inr (inr (inr lacks)))

world_refused : (world script what : List ℕ) (loads mid : Loads) (reads : Reads) (writes now : Writes) (ans : Answer) → Is (world_told loads.files world) (Err what) → Asked loads mid (world_path world) → Closes writes now (nothing 3) (world_line what) ans
    → RunEnds (fitting world script) (outside loads reads writes) (outside mid reads now) ans
world_refused world script what loads mid reads writes now ans is asked (inl good) =
    inr (inr (inl (record { fit = refl; what = what; refused = is; answered = good.0; ends = good.1; asked = asked; input = refl })))
world_refused world script what loads mid reads writes now ans is asked (inr lacks) = inr (inr (inr (inr lacks)))

world_unread : (world script : List ℕ) (loads mid : Loads) (reads : Reads) (writes now : Writes) (ans : Answer) → LoadFails loads mid → Asked loads mid (world_path world) → Closes writes now (nothing 4) unread_line ans
    → RunEnds (fitting world script) (outside loads reads writes) (outside mid reads now) ans
world_unread world script loads mid reads writes now ans fails asked (inl good) =
    inr (inr (inr (inl (record { fit = refl; answered = good.0; ends = good.1; cause = inl (record { asked = asked; input = refl; fault = fails }) }))))
world_unread world script loads mid reads writes now ans fails asked (inr lacks) = inr (inr (inr (inr lacks)))

abbrev pub IsFor : Type 0 → NoWorld → NoWorld → Type 0
IsFor X why other = ◌≡◌ {A = Result X NoWorld} (Err why) (Err other)

-- no world stands
pub no_world : {X : Type 0} (why : NoWorld) (world script : List ℕ) (loads mid : Loads) (reads : Reads) (writes now : Writes) (ans : Answer) → ForSome (what_of why) (λ what. Is (world_told loads.files world) (Err what))
    → (¬ (IsFor X why NoMemory) → Asked loads mid (world_path world)) → (IsFor X why LoadFailed → LoadFails loads mid) → ClosesWorldless why writes now ans → RunEnds (fitting world script) (outside loads reads writes) (outside mid reads now) ans
no_world NoMemory world script loads mid reads writes now ans is asked fails ends = inr (inr (inr (inr ends)))
no_world LoadFailed world script loads mid reads writes now ans is asked fails ends = world_unread world script loads mid reads writes now ans (fails refl) (asked (λ e. cc)) ends
no_world TooLong world script loads mid reads writes now ans is asked fails ends = world_refused world script (codes "8") loads mid reads writes now ans (is (codes "8") refl) (asked (λ e. cc)) ends
no_world (Refused why) world script loads mid reads writes now ans is asked fails ends =
    world_refused world script (refusal_text why) loads mid reads writes now ans (is (refusal_text why) refl) (asked (λ e. cc)) ends

-- the words don't fit
pub not_fitting : (words : Words) (place : ℕ) (loads : Loads) (reads : Reads) (writes now : Writes) (ans : Answer) → words.misfit ≡ Some place → Closes writes now (nothing 2) (usage_line place) ans → RunEnds words (outside loads reads writes) (outside loads reads now) ans
not_fitting words place loads reads writes now ans at (inl good) =
    inr (inl (record { place = place; at_word = at; answered = good.0; ends = good.1; asked = sym (append-nil loads.asked); input = refl }))
not_fitting words place loads reads writes now ans at (inr lacks) = inr (inr (inr (inr lacks)))

pub words_fit : (words : List (List ℕ)) (world script : List ℕ) → misfit words ≡ None → world_word words ≡ world → script_word words ≡ script → words_of words ≡ fitting world script
words_fit words world script fit w s =
    ap (λ (o : Option ℕ). record { misfit = o; world = world_word words; script = script_word words }) fit
    ∙ ap (λ (x : List ℕ). record { misfit = None; world = x; script = script_word words }) w
    ∙ ap (λ (x : List ℕ). record { misfit = None; world = world; script = x }) s

pub run_fits : (words : List (List ℕ)) (world script : List ℕ) (before now : Outside) (ans : Answer) → misfit words ≡ None → world_word words ≡ world → script_word words ≡ script → RunEnds (fitting world script) before now ans → RunEnds (words_of words) before now ans
run_fits words world script before now ans fit w s ends =
    let P : Words → Type 0 = λ x. RunEnds x before now ans in
    subst P (sym (words_fit words world script fit w s)) ends

-- ---- a good run ends well

pub some_none : {X : Type 0} (o : Option X) (x : X) → o ≡ None → o ≡ Some x → ⊥
some_none o x a b = let e : None ≡ Some x = sym a ∙ b in cc

neither : (input : Bool) (a c : Loads) (reads now : Reads) → ¬ (LoadFails a c) → ¬ (ReadFails reads now) → ByScript input (ReadFails reads now) (LoadFails a c × Untouched reads now) → ⊥
neither true a c reads now loads rest fails = rest fails
neither false a c reads now loads rest fails = loads fails.0

same_setups : (a b : List Setup) (x y : WorldOrRefusal) → x ≡ Ok a → y ≡ Ok b → Some x ≡ Some y → a ≡ b
same_setups a b x y is other e = let same : x ≡ y = cc in cc

pub stands_refused : (a : List Setup) (what : List ℕ) (x y : WorldOrRefusal) → x ≡ Ok a → y ≡ Err what → Some x ≡ Some y → ⊥
stands_refused a what x y is other e = let same : x ≡ y = cc in cc

script_well : (start : World) (script : List ℕ) (before now : Writes) (ans : Answer) (p : Played) → IsRunOf start script p → p.refused ≡ None → ¬ (WriteFails before now) → ScriptEnds start script before now ans → (ans.status ≡ 0) ⊎ (ans.status ≡ 6)
script_well start script before now ans p run lines writes (inl done) = inl (ap (λ (x : Answer). x.status) done.answered)
script_well start script before now ans p run lines writes (inr (inl at)) =
    let same = one_run start script p at.p run at.run in
    absurd (some_none _ _ (sym (ap (λ (x : Played). x.refused) same) ∙ lines) at.at_line)
script_well start script before now ans p run lines writes (inr (inr (inl cut))) = absurd (writes cut.fault)
script_well start script before now ans p run lines writes (inr (inr (inr lacks))) = inr (ap (λ (x : Answer). x.status) lacks.answered)

pub ends_well : (words : Words) (before now : Outside) (ans : Answer) → IsGoodRun words before now → RunEnds words before now ans → (ans.status ≡ 0) ⊎ (ans.status ≡ 6)
ends_well words before now ans good (inl run) =
    let setups = same_setups good.setups run.setups (Ok good.setups) (Ok run.setups) refl refl (run.world (Some (Ok good.setups)) good.world) in
    let script : good.script ≡ run.script = let e = run.of_word (Some good.script) good.of_word in cc in
    let P : List Setup → Type 0 = λ s. IsRunOf (fresh s) good.script good.p in
    let Q : List ℕ → Type 0 = λ s. IsRunOf (fresh run.setups) s good.p in
    script_well (fresh run.setups) run.script before.writes now.writes ans good.p (subst Q script (subst P setups good.run)) good.lines good.writes run.ended
ends_well words before now ans good (inr (inl misused)) = absurd (some_none words.misfit misused.place good.fit misused.at_word)
ends_well words before now ans good (inr (inr (inl none))) = absurd (stands_refused good.setups none.what (Ok good.setups) (Err none.what) refl refl (none.refused (Some (Ok good.setups)) good.world))
ends_well words before now ans good (inr (inr (inr (inl unread)))) =
    elim unread.cause as (λ _. (ans.status ≡ 0) ⊎ (ans.status ≡ 6)) [
      | inl lost ↦ absurd (good.loads lost.fault)
      | inr lost ↦ absurd (neither (is_input words.script) before.loads now.loads before.reads now.reads good.loads good.reads lost.fault)
    ]
ends_well words before now ans good (inr (inr (inr (inr lacks)))) = inr (ap (λ (x : Answer). x.status) lacks.answered)

-- the verdict that is told
pub verdict_told : (v w : Verdict) → Some v ≡ Some w → v ≡ w
verdict_told v w e = cc
