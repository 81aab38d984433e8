-- What is known of a script that is loaded.
use Rattle.std.specs.Option.{ForSome}
use Rattle.std.proofs.Common.{◌≡◌, ℕ, zero, suc, ◌<◌, ◌≤◌, Bool, true, false, cond, List, [], ◌∷◌, length, Option, Some, None, option_map, Result, Ok, Err, IfOk, OnOk, refl, ap, sym, subst, ◌∙◌, arith}
use Rattle.std.proofs.lemmas.List.{append-nil}
use Rattle.io_edge.specs.Edge.{IsAtEnd, ReadFails, Reads}
use Rattle.io_edge.specs.Files.{AskedFor, IsFile, IsLonger, LoadFails, Loads}
use Rattle.io_edge.specs.declared.whole.ReadRefused.{ReadRefused}
use Rattle.io_edge.specs.declared.whole.ReadRefused.TheVariants.{NoMemory, Fault, TooLong}
use Rattle.aire_top.specs.Closings.{IsGot, IsNotGot}
use Rattle.aire_top.specs.Endings.{Asked, ByScript, Untouched}
use Rattle.aire_top.specs.Top.{Is, file_told, is_input}

-- ---- a script that isn't told may be any, and one may be longer than this

some_longer : (n : ℕ) → (xs : List ℕ) × (n < length xs)
some_longer zero = (0 ∷ [], omega arith)
some_longer (suc n) = let more = some_longer n in (0 ∷ more.0, omega (arith, more.1))

longer_input : (left : Option (List ℕ)) (limit : ℕ) → ForSome left (λ all. limit < length all) → (script : List ℕ) × ForSome left (λ all. script ≡ all) × (limit < length script)
longer_input None limit h = let some = some_longer limit in (some.0, (λ all e. cc), some.1)
longer_input (Some all) limit h = (all, (λ other e. cc), h all refl)

longer_file : (files : Option (List ℕ → Option (List ℕ))) (path : List ℕ) (limit : ℕ) → ForSome files (λ at. (bytes : List ℕ) × (at path ≡ Some bytes) × (limit < length bytes))
    → (script : List ℕ) × ForSome files (λ at. at path ≡ Some script) × (limit < length script)
longer_file None path limit h = let some = some_longer limit in (some.0, (λ at e. cc), some.1)
longer_file (Some at) path limit h =
    let long = h at refl in
    (long.0, (λ other e. let same : at ≡ other = cc in ap (λ (f : List ℕ → Option (List ℕ)). f path) (sym same) ∙ long.1), long.2)

-- ---- a script as it is told

input_is : (left : Option (List ℕ)) (script : List ℕ) → ForSome left (λ all. script ≡ all) → Is (option_map Some left) script
input_is None script h = λ there e. cc
input_is (Some all) script h = λ there e. let same = h all refl in let told : Some all ≡ there = cc in sym told ∙ ap Some (sym same)

file_is : (files : Option (List ℕ → Option (List ℕ))) (path script : List ℕ) → ForSome files (λ at. at path ≡ Some script) → Is (file_told files path) script
file_is None path script h = λ there e. cc
file_is (Some at) path script h = λ there e. let stands = h at refl in let told : at path ≡ there = cc in sym told ∙ stands

true_false : (b : Bool) → b ≡ true → b ≡ false → ⊥
true_false b t f = cc

-- ---- the input

got_input : (word : List ℕ) (loads : Loads) (reads now : Reads) (script : List ℕ) → is_input word ≡ true → ForSome reads.left (λ all. script ≡ all) → (length script ≤ 16777216 → IsAtEnd now) → IsGot word loads loads reads now script
got_input word loads reads now script is all end =
    let T : Bool → Type 0 = λ b. Is (cond b (option_map Some reads.left) (file_told loads.files word)) script in
    let A : Bool → Type 0 = λ b. Asked loads loads (cond b [] (word ∷ [])) in
    record {
      of_word = subst T (sym is) (input_is reads.left script all);
      asked = subst A (sym is) (sym (append-nil loads.asked));
      beside = λ file. absurd (true_false (is_input word) is file);
      read = λ _ short. end short;
    }

pub input_got : (word : List ℕ) (loads : Loads) (reads now : Reads) (r : Result (List ℕ) ReadRefused) → is_input word ≡ true → IfOk r (λ script. ForSome reads.left (λ all. script ≡ all)) → OnOk r (IsAtEnd now) → IfOk r (λ script. IsGot word loads loads reads now script)
input_got word loads reads now (Ok script) is all end = got_input word loads reads now script is all (λ _. end)
input_got word loads reads now (Err why) is all end = tt

pub input_long : (word : List ℕ) (loads : Loads) (reads now : Reads) → is_input word ≡ true → ForSome reads.left (λ all. 16777216 < length all) → (script : List ℕ) × IsGot word loads loads reads now script × (16777216 < length script)
input_long word loads reads now is long =
    let some = longer_input reads.left 16777216 long in
    (some.0, got_input word loads reads now some.0 is some.1 (λ short. absurd (omega (arith, short, some.2))), some.2)

pub input_lost : (word : List ℕ) (loads : Loads) (reads now : Reads) → is_input word ≡ true → ReadFails reads now → IsNotGot word loads loads reads now
input_lost word loads reads now is fails =
    let F : Bool → Type 0 = λ b. ByScript b (ReadFails reads now) (LoadFails loads loads × Untouched reads now) in
    let A : Bool → Type 0 = λ b. Asked loads loads (cond b [] (word ∷ [])) in
    record { asked = subst A (sym is) (sym (append-nil loads.asked)); fault = subst F (sym is) fails }

-- ---- a file

got_file : (word : List ℕ) (loads now : Loads) (reads : Reads) (script : List ℕ) → is_input word ≡ false → IsFile loads word script → AskedFor loads now word → IsGot word loads now reads reads script
got_file word loads now reads script is file asked =
    let T : Bool → Type 0 = λ b. Is (cond b (option_map Some reads.left) (file_told loads.files word)) script in
    let A : Bool → Type 0 = λ b. Asked loads now (cond b [] (word ∷ [])) in
    record {
      of_word = subst T (sym is) (file_is loads.files word script file);
      asked = subst A (sym is) asked;
      beside = λ _. refl;
      read = λ input _. absurd (true_false (is_input word) input is);
    }

pub file_got : (word : List ℕ) (loads now : Loads) (reads : Reads) (r : Result (List ℕ) ReadRefused) → is_input word ≡ false → IfOk r (λ script. IsFile loads word script) → (¬ (r ≡ Err NoMemory) → AskedFor loads now word) → IfOk r (λ script. IsGot word loads now reads reads script)
file_got word loads now reads (Ok script) is file asked = got_file word loads now reads script is file (asked (λ e. cc))
file_got word loads now reads (Err why) is file asked = tt

pub file_long : (word : List ℕ) (loads now : Loads) (reads : Reads) (r : Result (List ℕ) ReadRefused) → is_input word ≡ false → r ≡ Err TooLong → (r ≡ Err TooLong → IsLonger loads word 16777216) → (¬ (r ≡ Err NoMemory) → AskedFor loads now word)
    → (script : List ℕ) × IsGot word loads now reads reads script × (16777216 < length script)
file_long word loads now reads r is e long asked =
    let some = longer_file loads.files word 16777216 (long e) in
    let by : AskedFor loads now word = asked (λ other. let none : ◌≡◌ {A = Result (List ℕ) ReadRefused} (Err TooLong) (Err NoMemory) = sym e ∙ other in cc) in
    (some.0, got_file word loads now reads some.0 is some.1 by, some.2)

pub file_lost : (word : List ℕ) (loads now : Loads) (reads : Reads) (r : Result (List ℕ) ReadRefused) → is_input word ≡ false → r ≡ Err Fault → (r ≡ Err Fault → LoadFails loads now) → (¬ (r ≡ Err NoMemory) → AskedFor loads now word)
    → IsNotGot word loads now reads reads
file_lost word loads now reads r is e fails asked =
    let by : AskedFor loads now word = asked (λ other. let none : ◌≡◌ {A = Result (List ℕ) ReadRefused} (Err Fault) (Err NoMemory) = sym e ∙ other in cc) in
    let F : Bool → Type 0 = λ b. ByScript b (ReadFails reads reads) (LoadFails loads now × Untouched reads reads) in
    let A : Bool → Type 0 = λ b. Asked loads now (cond b [] (word ∷ [])) in
    record { asked = subst A (sym is) by; fault = subst F (sym is) (fails e, refl) }
