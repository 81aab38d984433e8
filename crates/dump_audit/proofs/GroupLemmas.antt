-- The first fault of groups of services, one behind another, is that of all services.
use Rattle.std.proofs.Common.{◌≡◌, ℕ, zero, suc, ◌+◌, ◌-◌, ◌*◌, ◌/◌, ◌%◌, ◌<◌, ◌≤◌, min, List, [], ◌∷◌, ◌++◌, Option, Some, None, Ok, length, take, drop, drop_of_length-le, slice_index_or, refl, sym, ap, ◌∙◌, subst, arith}
use Rattle.std.specs.Fork.{slice_chunk}
use Rattle.std.proofs.lemmas.List.{drop-drop, take-append-drop}
use Rattle.std.proofs.Math.Nat.{add-mul, div-add-mod, lt-div-mul-add, mod-lt, mul-le-mul_right, mul_comm, one-mul}
use Rattle.dump_tables.specs.declared.dump.DumpService.{DumpService}
use Rattle.dump_audit.specs.Groups.{EachOutcome, IsOutcome, Outcome}
use Rattle.dump_audit.specs.Judging.{Found, first_in, found_in, replay_fault}
use Rattle.dump_audit.specs.declared.judged.Judged.{Judged}

-- the first of two, if there is one
abbrev pub or_else : Option Judged → Option Judged → Option Judged
or_else None later = later
or_else (Some found) later = Some found

found_both : (me : List ℕ) (found : Found) (front later : Option Judged) → found_in me found (or_else front later) ≡ or_else (found_in me found front) later
found_both me None front later = refl
found_both me (Some f) front later = refl

first_both : (kind : DumpService → Found) (front back : List DumpService) → first_in kind (front ++ back) ≡ or_else (first_in kind front) (first_in kind back)
first_both kind [] back = refl
first_both kind (s ∷ front) back =
    ap (found_in s.setting.me (kind s)) (first_both kind front back) ∙ found_both s.setting.me (kind s) (first_in kind front) (first_in kind back)

-- a group, and the services behind it
pub first_group : (kind : DumpService → Found) (size n : ℕ) (world : List DumpService)
    → first_in kind (drop (n * size) world) ≡ or_else (first_in kind (slice_chunk world size n)) (first_in kind (drop (n * size + size) world))
first_group kind size n world =
    let rest = drop (n * size) world in
    ap (first_in kind) (sym (take-append-drop size rest)) ∙ first_both kind (take size rest) (drop size rest)
    ∙ ap (λ (services : List DumpService). or_else (first_in kind (take size rest)) (first_in kind services)) (drop-drop size (n * size) world)

-- behind all services is no fault
pub first_beyond : (kind : DumpService → Found) (n : ℕ) (world : List DumpService) → length world ≤ n → first_in kind (drop n world) ≡ None
first_beyond kind n world few = ap (first_in kind) (drop_of_length-le world few)

-- groups of this size are no more than the workers
pub few_groups : (services workers : ℕ) → 0 < workers → services ≤ workers * ((services - 1) / workers + 1)
few_groups services workers some =
    let below : services - 1 < (services - 1) / workers * workers + workers = lt-div-mul-add some in
    let by : workers * ((services - 1) / workers + 1) ≡ (services - 1) / workers * workers + workers =
    mul_comm workers ((services - 1) / workers + 1) ∙ add-mul ((services - 1) / workers) 1 workers ∙ ap (λ k. (services - 1) / workers * workers + k) (one-mul workers) in
    omega (arith, below, by)

-- the chunks of a list, by their count, cover it
pub chunks_cover : (len size count : ℕ) → 0 < size → count ≡ len / size + min 1 (len % size) → len ≤ count * size
chunks_cover len size count some is =
    let whole : size * (len / size) + len % size ≡ len = div-add-mod len size in
    let rest : len % size < size = mod-lt len some in
    let turned : size * (len / size) ≡ len / size * size = mul_comm size (len / size) in
    let by : count * size ≡ len / size * size + min 1 (len % size) * size = ap (λ n. n * size) is ∙ add-mul (len / size) (min 1 (len % size)) size in
    rest_by (len % size) rest by whole turned
  where
    rest_by : (r : ℕ) → r < size → count * size ≡ len / size * size + min 1 r * size → size * (len / size) + r ≡ len → size * (len / size) ≡ len / size * size → len ≤ count * size
    rest_by zero lt by whole turned = omega (arith, by, whole, turned)
    rest_by (suc r) lt by whole turned =
        let one : min 1 (suc r) * size ≡ size = one_times size (min 1 (suc r)) (omega arith) in
        omega (arith, lt, by, whole, turned, one)
      where
        one_times : (n m : ℕ) → m ≡ 1 → m * n ≡ n
        one_times n m is = ap (λ k. k * n) is ∙ one-mul n

-- ---- outcomes, one after another

outcome_is : (group : List DumpService) (outcome : Outcome) (found : Option Judged) → IsOutcome group outcome → outcome ≡ Ok found → found ≡ first_in replay_fault group
outcome_is group outcome found it is = subst (IsOutcome group) is it

-- a group without a fault is passed over
pub group_passed : (size n : ℕ) (world : List DumpService) (outcomes : List Outcome) (outcome : Outcome) → EachOutcome size world outcomes → n < length outcomes → outcome ≡ slice_index_or outcomes n outcome
    → outcome ≡ Ok None → first_in replay_fault (drop ((n + 1) * size) world) ≡ first_in replay_fault (drop (n * size) world)
group_passed size n world outcomes outcome each within read none =
    let here : None ≡ first_in replay_fault (slice_chunk world size n) = outcome_is (slice_chunk world size n) (slice_index_or outcomes n outcome) None (each n outcome within) (sym read ∙ none) in
    let next : n * size + size ≡ (n + 1) * size = sym (add-mul n 1 size ∙ ap (λ k. n * size + k) (one-mul size)) in
    sym (first_group replay_fault size n world
    ∙ ap (λ (front : Option Judged). or_else front (first_in replay_fault (drop (n * size + size) world))) (sym here)
    ∙ ap (λ k. first_in replay_fault (drop k world)) next)

-- a group's fault is the first
pub group_found : (size n : ℕ) (world : List DumpService) (outcomes : List Outcome) (outcome : Outcome) (found : Judged) → EachOutcome size world outcomes → n < length outcomes
    → outcome ≡ slice_index_or outcomes n outcome → outcome ≡ Ok (Some found) → Some found ≡ first_in replay_fault (drop (n * size) world)
group_found size n world outcomes outcome found each within read is =
    let here : Some found ≡ first_in replay_fault (slice_chunk world size n) = outcome_is (slice_chunk world size n) (slice_index_or outcomes n outcome) (Some found) (each n outcome within) (sym read ∙ is) in
    sym (first_group replay_fault size n world ∙ ap (λ (front : Option Judged). or_else front (first_in replay_fault (drop (n * size + size) world))) (sym here))

-- no group has one
pub no_group : (size n : ℕ) (world : List DumpService) (outcomes : List Outcome) → length world ≤ length outcomes * size → length outcomes ≤ n → None ≡ first_in replay_fault (drop (n * size) world)
no_group size n world outcomes whole all =
    let more : length outcomes * size ≤ n * size = mul-le-mul_right size all in
    sym (first_beyond replay_fault (n * size) world (omega (arith, whole, more)))
