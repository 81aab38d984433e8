-- Several words as they are written are cut and read together.
use Rattle.std.proofs.Common.{◌≡◌, ℕ, ◌≤◌, Bool, List, ◌∷◌, ◌++◌, Option, Some, decimal, min, ap, ◌∙◌, subst, true, arith}
use denote.Struct.Props.{props}
use Rattle.std.specs.List.{list_all}
use Rattle.lang_tree.specs.Methods.{method_named, method_word}
use Rattle.lang_tree.specs.declared.method.Method.{Method}
use Rattle.lang_core.specs.declared.inputs.Inputs.{Inputs}
use Rattle.request_names.specs.Numbers.{number_of}
use Rattle.report_text.specs.Reports as report
use Rattle.dump_lines.specs.Dumps.{digit_of}
use Rattle.dump_words.specs.Lines.{cut_asked, cut_call, cut_four, cut_inputs, cut_number, cut_request, cut_standing, cut_two, inputs_of}
use Rattle.dump_words.specs.Parts.{flag_part, from_one, moment_of, with_part, with_word}
use Rattle.dump_laws.specs.Forms.{AreInputs, IsFromOne, IsNumber}
use Rattle.dump_laws.proofs.Words.{digits_lack_spaces, from_one_reads, lacks, moment_reads, number_reads, one_word, part_is}
use Rattle.dump_laws.proofs.Texts.{behind, word_before}
use Rattle.dump_laws.proofs.Names.{flag_reads, flag_word, method_is_word, method_reads}

-- what stands behind a cut
abbrev Rest : Type 0
Rest = Option (List ℕ)

-- ---- numbers

pub number_cut : (n : ℕ) (rest : List ℕ) → IsNumber n → cut_number (Some (decimal n ++ 32 ∷ rest)) ≡ Some (n, Some rest)
number_cut n rest small =
    one_word (decimal n) rest (λ word rest. with_part (number_of word) (λ m. Some (m, rest))) (digits_lack_spaces n small)
    ∙ part_is (number_of (decimal n)) n (λ m. Some (m, Some rest)) (number_reads n small)

pub two_cut : (a b : ℕ) (rest : List ℕ) → IsNumber a → IsNumber b → cut_two (Some (decimal a ++ 32 ∷ (decimal b ++ 32 ∷ rest))) ≡ Some (a, b, Some rest)
unfolding cut_two
two_cut a b rest p q =
    let next : List ℕ = decimal b ++ 32 ∷ rest in
    let second : (ℕ × Rest) → Option (ℕ × ℕ × Rest) = λ x. with_part (cut_number x.1) (λ y. Some (x.0, y.0, y.1)) in
    let third : (ℕ × Rest) → Option (ℕ × ℕ × Rest) = λ y. Some (a, y.0, y.1) in
    part_is (cut_number (Some (decimal a ++ 32 ∷ next))) (a, Some next) second (number_cut a next p)
    ∙ part_is (cut_number (Some next)) (b, Some rest) third (number_cut b rest q)

pub four_cut : (a b c d : ℕ) (rest : List ℕ) → IsNumber a → IsNumber b → IsNumber c → IsNumber d
    → cut_four (Some (decimal a ++ 32 ∷ (decimal b ++ 32 ∷ (decimal c ++ 32 ∷ (decimal d ++ 32 ∷ rest))))) ≡ Some (a, b, c, d, Some rest)
unfolding cut_four
four_cut a b c d rest p q r s =
    let next : List ℕ = decimal c ++ 32 ∷ (decimal d ++ 32 ∷ rest) in
    let second : (ℕ × ℕ × Rest) → Option (ℕ × ℕ × ℕ × ℕ × Rest) = λ x. with_part (cut_two x.2) (λ y. Some (x.0, x.1, y.0, y.1, y.2)) in
    let third : (ℕ × ℕ × Rest) → Option (ℕ × ℕ × ℕ × ℕ × Rest) = λ y. Some (a, b, y.0, y.1, y.2) in
    part_is (cut_two (Some (decimal a ++ 32 ∷ (decimal b ++ 32 ∷ next)))) (a, b, Some next) second (two_cut a b next p q)
    ∙ part_is (cut_two (Some next)) (c, d, Some rest) third (two_cut c d rest r s)

-- ---- the clock and the random words

-- a moment, and behind it eight words
abbrev pub eight : Inputs → List ℕ → List ℕ
eight i rest =
    decimal i.w1 ++ 32 ∷ (decimal i.w2 ++ 32 ∷ (decimal i.w3 ++ 32 ∷ (decimal i.w4 ++ 32 ∷ (decimal i.w5 ++ 32 ∷ (decimal i.w6 ++ 32 ∷ (decimal i.w7 ++ 32 ∷ (decimal i.w8 ++ 32 ∷ rest)))))))

abbrev Numbers : Type 0
Numbers = ℕ × ℕ × ℕ × ℕ × Rest

bound_prop : (m n : ℕ) → IsProp (m ≤ n)
bound_prop m n = hlevel props

same_bound : (m n : ℕ) (p q : m ≤ n) → p ≡ q
same_bound m n p q = bound_prop m n p q

abbrev inputs_with : (i : Inputs) (m : ℕ) (in_range : m ≤ 9223372036854775807) → Inputs
inputs_with i m bound = record { moment = m; w1 = i.w1; w2 = i.w2; w3 = i.w3; w4 = i.w4; w5 = i.w5; w6 = i.w6; w7 = i.w7; w8 = i.w8; in_range = bound }

inputs_moved : (i : Inputs) (m : ℕ) (is : i.moment ≡ m) (bound : m ≤ 9223372036854775807) → inputs_with i m bound ≡ i
inputs_moved i m is = subst (λ n. (bound : n ≤ 9223372036854775807) → inputs_with i n bound ≡ i) is (λ bound. ap (λ b. inputs_with i i.moment b) (same_bound i.moment 9223372036854775807 bound i.in_range))

pub inputs_back : (i : Inputs) → inputs_of i.moment i.w1 i.w2 i.w3 i.w4 i.w5 i.w6 i.w7 i.w8 ≡ i
inputs_back i = inputs_moved i (min i.moment 9223372036854775807) (omega (arith, i.in_range)) _

pub inputs_cut : (i : Inputs) (rest : List ℕ) → AreInputs i → cut_inputs (Some (decimal i.moment ++ 32 ∷ eight i rest)) ≡ Some (i, Some rest)
unfolding cut_inputs
inputs_cut i rest are =
    let later : List ℕ = decimal i.w5 ++ 32 ∷ (decimal i.w6 ++ 32 ∷ (decimal i.w7 ++ 32 ∷ (decimal i.w8 ++ 32 ∷ rest))) in
    let fourth : ℕ → Numbers → Numbers → Option (Inputs × Rest) = λ m a b. Some (inputs_of m a.0 a.1 a.2 a.3 b.0 b.1 b.2 b.3, b.4) in
    let third : ℕ → Numbers → Option (Inputs × Rest) = λ m a. with_part (cut_four a.4) (fourth m a) in
    let second : Rest → ℕ → Option (Inputs × Rest) = λ rest m. with_part (cut_four rest) (third m) in
    let small : IsNumber i.moment = omega (arith, i.in_range) in
    one_word (decimal i.moment) (eight i rest) (λ word rest. with_part (moment_of (number_of word)) (second rest)) (digits_lack_spaces i.moment small)
    ∙ part_is (moment_of (number_of (decimal i.moment))) i.moment (second (Some (eight i rest))) (moment_reads i.moment i.in_range)
    ∙ part_is (cut_four (Some (eight i rest))) (i.w1, i.w2, i.w3, i.w4, Some later) (third i.moment) (four_cut i.w1 i.w2 i.w3 i.w4 later are.w1 are.w2 are.w3 are.w4)
    ∙ part_is (cut_four (Some later)) (i.w5, i.w6, i.w7, i.w8, Some rest) (fourth i.moment (i.w1, i.w2, i.w3, i.w4, Some later)) (four_cut i.w5 i.w6 i.w7 i.w8 rest are.w5 are.w6 are.w7 are.w8)
    ∙ ap (λ (j : Inputs). Some (j, Some rest)) (inputs_back i)

-- ---- an entry's number, origin, version and standing

abbrev Standing : Type 0
Standing = ℕ × List ℕ × ℕ × Bool × Bool × Rest

abbrev struck_next : ℕ → List ℕ → ℕ → Bool → List ℕ → Rest → Option Standing
struck_next id origin version wanted word rest = with_part (flag_part word) (λ struck. Some (id, origin, version, wanted, struck, rest))

abbrev wanted_next : ℕ → List ℕ → ℕ → List ℕ → Rest → Option Standing
wanted_next id origin version word rest = with_part (flag_part word) (λ wanted. with_word rest (struck_next id origin version wanted))

abbrev version_next : ℕ → List ℕ → (ℕ × Rest) → Option Standing
version_next id origin version = with_word version.1 (wanted_next id origin version.0)

abbrev origin_next : ℕ → List ℕ → Rest → Option Standing
origin_next id origin rest = with_part (cut_number rest) (version_next id origin)

abbrev id_next : List ℕ → Rest → Option Standing
id_next word rest = with_part (from_one (number_of word)) (λ id. with_word rest (origin_next id))

pub standing_cut : (id : ℕ) (origin : List ℕ) (version : ℕ) (wanted struck : Bool) (rest : List ℕ) → IsFromOne id → list_all (lacks 32) origin ≡ true → IsNumber version
    → cut_standing (Some (decimal id ++ 32 ∷ (origin ++ 32 ∷ (decimal version ++ 32 ∷ (digit_of wanted ++ 32 ∷ (digit_of struck ++ 32 ∷ rest)))))) ≡ Some (id, origin, version, wanted, struck, Some rest)
unfolding cut_standing
standing_cut id origin version wanted struck rest one clean small =
    let fifth : List ℕ = digit_of struck ++ 32 ∷ rest in
    let fourth : List ℕ = digit_of wanted ++ 32 ∷ fifth in
    let third : List ℕ = decimal version ++ 32 ∷ fourth in
    let second : List ℕ = origin ++ 32 ∷ third in
    one_word (decimal id) second id_next (digits_lack_spaces id one.1)
    ∙ part_is (from_one (number_of (decimal id))) id (λ n. with_word (Some second) (origin_next n)) (from_one_reads id one)
    ∙ one_word origin third (origin_next id) clean
    ∙ part_is (cut_number (Some third)) (version, Some fourth) (version_next id origin) (number_cut version fourth small)
    ∙ one_word (digit_of wanted) fifth (wanted_next id origin version) (flag_word wanted).spaceless
    ∙ part_is (flag_part (digit_of wanted)) wanted (λ w. with_word (Some fifth) (struck_next id origin version w)) (flag_reads wanted)
    ∙ one_word (digit_of struck) rest (struck_next id origin version wanted) (flag_word struck).spaceless
    ∙ part_is (flag_part (digit_of struck)) struck (λ s. Some (id, origin, version, wanted, s, Some rest)) (flag_reads struck)

-- ---- what is asked

abbrev Asked : Type 0
Asked = Method × List ℕ × Rest

abbrev path_next : Method → List ℕ → Rest → Option Asked
path_next method path rest = Some (method, path, rest)

abbrev method_next : List ℕ → Rest → Option Asked
method_next word rest = with_part (method_named word) (λ method. with_word rest (path_next method))

-- with words behind it
pub asked_cut : (m : Method) (path rest : List ℕ) → list_all (lacks 32) path ≡ true → cut_asked (Some (method_word m ++ 32 ∷ (path ++ 32 ∷ rest))) ≡ Some (m, path, Some rest)
asked_cut m path rest clean =
    one_word (method_word m) (path ++ 32 ∷ rest) method_next (method_is_word m).spaceless
    ∙ part_is (method_named (method_word m)) m (λ n. with_word (Some (path ++ 32 ∷ rest)) (path_next n)) (method_reads m)
    ∙ one_word path rest (path_next m) clean

-- with a text behind it
pub asked_before : (m : Method) (path text : List ℕ) → list_all (lacks 32) path ≡ true → cut_asked (Some (method_word m ++ 32 ∷ (path ++ report.body_behind text))) ≡ Some (m, path, behind text)
asked_before m path text clean =
    one_word (method_word m) (path ++ report.body_behind text) method_next (method_is_word m).spaceless
    ∙ part_is (method_named (method_word m)) m (λ n. with_word (Some (path ++ report.body_behind text)) (path_next n)) (method_reads m)
    ∙ word_before path text (path_next m) clean

abbrev Requested : Type 0
Requested = Method × List ℕ × List ℕ × List ℕ × Rest

abbrev chain_next : Asked → List ℕ → List ℕ → Rest → Option Requested
chain_next asked who chain rest = Some (asked.0, asked.1, who, chain, rest)

abbrev who_next : Asked → List ℕ → Rest → Option Requested
who_next asked who rest = with_word rest (chain_next asked who)

abbrev asked_next : Asked → Option Requested
asked_next asked = with_word asked.2 (who_next asked)

pub request_cut : (m : Method) (path who chain text : List ℕ) → list_all (lacks 32) path ≡ true → list_all (lacks 32) who ≡ true → list_all (lacks 32) chain ≡ true
    → cut_request (Some (method_word m ++ 32 ∷ (path ++ 32 ∷ (who ++ 32 ∷ (chain ++ report.body_behind text))))) ≡ Some (m, path, who, chain, behind text)
unfolding cut_request
request_cut m path who chain text p q r =
    let third : List ℕ = chain ++ report.body_behind text in
    let second : List ℕ = who ++ 32 ∷ third in
    part_is (cut_asked (Some (method_word m ++ 32 ∷ (path ++ 32 ∷ second)))) (m, path, Some second) asked_next (asked_cut m path second p)
    ∙ one_word who third (who_next (m, path, Some second)) q
    ∙ word_before chain text (chain_next (m, path, Some second) who) r

-- ---- a call

abbrev Called : Type 0
Called = ℕ × List ℕ × Method × List ℕ × Rest

abbrev call_asked : ℕ → List ℕ → Asked → Option Called
call_asked number dest asked = Some (number, dest, asked.0, asked.1, asked.2)

abbrev dest_next : ℕ → List ℕ → Rest → Option Called
dest_next number dest rest = with_part (cut_asked rest) (call_asked number dest)

abbrev call_next : List ℕ → Rest → Option Called
call_next word rest = with_part (from_one (number_of word)) (λ number. with_word rest (dest_next number))

pub call_cut : (number : ℕ) (dest : List ℕ) (m : Method) (path text : List ℕ) → IsFromOne number → list_all (lacks 32) dest ≡ true → list_all (lacks 32) path ≡ true
    → cut_call (Some (decimal number ++ 32 ∷ (dest ++ 32 ∷ (method_word m ++ 32 ∷ (path ++ report.body_behind text))))) ≡ Some (number, dest, m, path, behind text)
unfolding cut_call
call_cut number dest m path text one p q =
    let third : List ℕ = method_word m ++ 32 ∷ (path ++ report.body_behind text) in
    let second : List ℕ = dest ++ 32 ∷ third in
    one_word (decimal number) second call_next (digits_lack_spaces number one.1)
    ∙ part_is (from_one (number_of (decimal number))) number (λ n. with_word (Some second) (dest_next n)) (from_one_reads number one)
    ∙ one_word dest third (dest_next number) p
    ∙ part_is (cut_asked (Some third)) (m, path, behind text) (call_asked number dest) (asked_before m path text q)
