-- How serving ends, by how the run did, and what follows.
use Rattle.std.proofs.Common.{◌≡◌, ◌⊎◌, ◌∙◌, inl, inr, ℕ, ◌+◌, ◌<◌, ◌≤◌, List, [], ◌∷◌, ◌++◌, All, Some, None, length, take, get_or, flat_map, refl, sym, ap, subst, add-one, append-nil, append_assoc, arith, take-suc}
use Rattle.std.proofs.lemmas.List.Concat.{flat_map-append}
use Rattle.io_edge.specs.Edge.{Rose, WriteFails, Writes}
use Rattle.command_ends.specs.Ends.{StatusOf}
use Rattle.journal_rows.specs.declared.verdict.Verdict.{Verdict}
use Rattle.journal_rows.specs.declared.verdict.Verdict.TheVariants.{Legal, Forged, Unsettled}
use Rattle.report_text.specs.Reports.{IsVerdictOver}
use Rattle.service_events.specs.Allowed.{IsAllowed}
use Rattle.service_events.specs.State.{Kept}
use Rattle.world_agreement.specs.Legal.{AreLegal}
use Rattle.world_file.specs.declared.setup.Setup.{Setup}
use Rattle.node_run.specs.HandedOn.{Agrees, IsWhole, Receipt, SamePlace}
use Rattle.node_run.specs.Ends.{IsGoodEnd}
use Rattle.node_run.specs.Stopping.{IsOfOne}
use Rattle.node_run.specs.declared.refused.RunRefused.{RunRefused}
use Rattle.node_run.specs.declared.refused.RunRefused.TheVariants.{NoMemory, DoorFault, NotStarted, Differs, Twice}
use Rattle.aire_top.specs.Commands.{IsDone}
use Rattle.aire_top.specs.Ended.{Ending, Faults, Whose, ending, whose}
use Rattle.aire_top.specs.Endings.{Answer}
use Rattle.aire_top.specs.Serves.{EndsRefused, HasServed, IsLacking, ServeEnds, end_text}
use Rattle.aire_top.proofs.Runs.{some_none}

-- ---- what is written

-- a line more
pub line_more : {X : Type 0} (f : X → List ℕ) (before now next : List ℕ) (xs : List X) (i : ℕ) (x : X) → i < length xs → x ≡ get_or xs i x → now ≡ before ++ flat_map f (take i xs) → next ≡ now ++ f x
    → next ≡ before ++ flat_map f (take (i + 1) xs)
line_more f before now next xs i x within is sofar more =
    let one : take (i + 1) xs ≡ take i xs ++ x ∷ [] = rw (add-one, take-suc xs i x within) (ap (λ y. take i xs ++ y ∷ []) (sym is)) in
    more ∙ rw (sofar, one, flat_map-append f (take i xs) (x ∷ []), append-nil (f x)) (append_assoc before (flat_map f (take i xs)) (f x))

-- ---- a run that ended well

-- its verdict is of one of its services
pub verdict_within : (setups : List Setup) (services : List Kept) (receipts : List Receipt) (v : Verdict) → IsGoodEnd setups services receipts v → IsVerdictOver (length services) v
verdict_within setups services receipts Legal good = tt
verdict_within setups services receipts (Forged at index) good = ((good.judged).service).0
verdict_within setups services receipts (Unsettled at what) good = (((good.judged).first).service).0

-- all of it is written, or a write failed
pub told_ends : (setups : List Setup) (services : List Kept) (receipts : List Receipt) (verdict : Verdict) (service console : List ℕ) → IsGoodEnd setups services receipts verdict → IsOfOne setups service console
    → (before now : Writes) (status : ℕ) (e : Ending) → e ≡ ending status services (Some verdict) receipts (Some (whose service console)) → StatusOf before now (end_text services receipts verdict) status
    → HasServed setups before now e ⊎ IsLacking before now e
told_ends setups services receipts verdict service console good asked before now status e is prints = inl (record {
  status = status;
  services = services;
  receipts = receipts;
  verdict = verdict;
  last = whose service console;
  good = good;
  asked = asked;
  answered = is;
  prints = prints;
})

-- that is how serving ends
pub well_ends : (setups : List Setup) (earlier later : Faults) (before now : Writes) (e : Ending) → HasServed setups before now e ⊎ IsLacking before now e → ServeEnds setups earlier later before now e
well_ends setups earlier later before now e (inl has) = inl has
well_ends setups earlier later before now e (inr lacks) = inr (inr (inr (inr (inr lacks))))

-- ---- a run that didn't

-- a count that rose later rose
pub rose_since : (a b c : ℕ) → a ≤ b → Rose b c → Rose a c
rose_since a b c more rose = λ small. omega (arith, more, rose small)

-- what is known of each refusal
pub record Caused (earlier later : Faults) (why : RunRefused) : Type 0 where
  pub door : why ≡ DoorFault → Rose earlier.doors later.doors
  pub started : why ≡ NotStarted → Rose earlier.starts later.starts
  pub differs : (r : Receipt) (services : _) → why ≡ Differs r services → ¬ (Agrees services.items r)
  pub twice : (r t : Receipt) (services : _) → why ≡ Twice r t services → SamePlace r t × (Agrees services.items r × Agrees services.items t)

pub refused_ends : (setups : List Setup) (earlier later : Faults) (before now : Writes) (why : RunRefused) (e : Ending) → Caused earlier later why → EndsRefused why before now e → ServeEnds setups earlier later before now e
refused_ends setups earlier later before now NoMemory e caused lacks = inr (inr (inr (inr (inr lacks))))
refused_ends setups earlier later before now DoorFault e caused ends = inr (inl (record { answered = ends.0; rose = caused.door refl; ends = ends.1 }))
refused_ends setups earlier later before now NotStarted e caused ends = inr (inr (inl (record { answered = ends.0; rose = caused.started refl; ends = ends.1 })))
refused_ends setups earlier later before now (Differs receipt services) e caused (inl ends) =
    inr (inr (inr (inl (record { services = services.items; receipt = receipt; differs = caused.differs receipt services refl; answered = ends.0; ends = ends.1 }))))
refused_ends setups earlier later before now (Differs receipt services) e caused (inr lacks) = inr (inr (inr (inr (inr lacks))))
refused_ends setups earlier later before now (Twice first second services) e caused (inl ends) =
    let twice = caused.twice first second services refl in
    inr (inr (inr (inr (inl (record {
      services = services.items;
      first = first;
      second = second;
      twice = twice.0;
      agree = twice.1;
      answered = ends.0;
      ends = ends.1;
    })))))
refused_ends setups earlier later before now (Twice first second services) e caused (inr lacks) = inr (inr (inr (inr (inr lacks))))

-- ---- what follows

same_some : {X : Type 0} (x y : X) → Some x ≡ Some y → x ≡ y
same_some x y e = cc

-- the run ended well, or there is no verdict, and nobody asked to stop
abbrev WellOrNot : List Setup → Writes → Writes → Ending → Type 0
WellOrNot setups before now e = HasServed setups before now e ⊎ ((e.verdict ≡ None) × (e.last ≡ None))

none_of : (setups : List Setup) (before now : Writes) (e : Ending) (status : ℕ) (services : List Kept) (receipts : List Receipt) → e ≡ ending status services None receipts None → WellOrNot setups before now e
none_of setups before now e status services receipts is = inr (ap (λ (x : Ending). x.verdict) is, ap (λ (x : Ending). x.last) is)

lacking_none : (setups : List Setup) (before now : Writes) (e : Ending) → IsLacking before now e → WellOrNot setups before now e
lacking_none setups before now e lacks = inr (ap (λ (x : Ending). x.verdict) lacks.1 ∙ ap (λ (a : Answer). a.verdict) lacks.2.answered, ap (λ (x : Ending). x.last) lacks.1)

well_or_not : (setups : List Setup) (earlier later : Faults) (before now : Writes) (e : Ending) → ServeEnds setups earlier later before now e → WellOrNot setups before now e
well_or_not setups earlier later before now e (inl has) = inl has
well_or_not setups earlier later before now e (inr (inl door)) = none_of setups before now e _ _ _ door.answered
well_or_not setups earlier later before now e (inr (inr (inl worker))) = none_of setups before now e _ _ _ worker.answered
well_or_not setups earlier later before now e (inr (inr (inr (inl differing)))) = none_of setups before now e _ _ _ differing.answered
well_or_not setups earlier later before now e (inr (inr (inr (inr (inl twice))))) = none_of setups before now e _ _ _ twice.answered
well_or_not setups earlier later before now e (inr (inr (inr (inr (inr lacks))))) = lacking_none setups before now e lacks

legal_by : (setups : List Setup) (before now : Writes) (e : Ending) → WellOrNot setups before now e → e.verdict ≡ Some Legal → AreLegal e.services
legal_by setups before now e (inl has) is =
    let legal : has.verdict ≡ Legal = same_some _ _ (sym (ap (λ (x : Ending). x.verdict) has.answered) ∙ is) in
    let P : List Kept → Type 0 = AreLegal in
    subst P (sym (ap (λ (x : Ending). x.services) has.answered)) (has.good.legal legal)
legal_by setups before now e (inr none) is = absurd (some_none e.verdict Legal none.0 is)

allowed_by : (setups : List Setup) (before now : Writes) (e : Ending) → WellOrNot setups before now e → (v : Verdict) → e.verdict ≡ Some v → All IsAllowed e.services
allowed_by setups before now e (inl has) v is =
    let P : List Kept → Type 0 = λ services. All IsAllowed services in
    subst P (sym (ap (λ (x : Ending). x.services) has.answered)) has.good.allowed
allowed_by setups before now e (inr none) v is = absurd (some_none e.verdict v none.0 is)

whole_by : (setups : List Setup) (before now : Writes) (e : Ending) → WellOrNot setups before now e → (w : Whose) → e.last ≡ Some w → IsWhole e.services e.receipts
whole_by setups before now e (inl has) w is = let P : Ending → Type 0 = λ x. IsWhole x.services x.receipts in subst P (sym has.answered) has.good.whole
whole_by setups before now e (inr none) w is = absurd (some_none e.last w none.1 is)

-- a Legal verdict says that the services are one legal execution
pub ends_legal : (setups : List Setup) (earlier later : Faults) (before now : Writes) (e : Ending) → ServeEnds setups earlier later before now e → e.verdict ≡ Some Legal → AreLegal e.services
ends_legal setups earlier later before now e ends = legal_by setups before now e (well_or_not setups earlier later before now e ends)

-- whatever the verdict, each repair was allowed
pub ends_allowed : (setups : List Setup) (earlier later : Faults) (before now : Writes) (e : Ending) → ServeEnds setups earlier later before now e → (v : Verdict) → e.verdict ≡ Some v → All IsAllowed e.services
ends_allowed setups earlier later before now e ends = allowed_by setups before now e (well_or_not setups earlier later before now e ends)

-- where an operator asked to stop, receipts and live answers are one to one
pub ends_whole : (setups : List Setup) (earlier later : Faults) (before now : Writes) (e : Ending) → ServeEnds setups earlier later before now e → (w : Whose) → e.last ≡ Some w → IsWhole e.services e.receipts
ends_whole setups earlier later before now e ends = whole_by setups before now e (well_or_not setups earlier later before now e ends)

served_well : (before now : Writes) (text : List ℕ) (status : ℕ) → ¬ (WriteFails before now) → StatusOf before now text status → status ≡ 0
served_well before now text status writes (inl whole) = whole.0
served_well before now text status writes (inr short) = absurd (writes (short.1).1)

-- where no count rose, all is done, or memory is wanting, or receipts differ
pub ends_well : (setups : List Setup) (earlier later : Faults) (before now : Writes) (e : Ending) → ServeEnds setups earlier later before now e → ¬ (Rose earlier.doors later.doors) → ¬ (Rose earlier.starts later.starts) → ¬ (WriteFails before now) → IsDone e.status ⊎ (e.status ≡ 9)
ends_well setups earlier later before now e (inl has) doors starts writes = inl (inl (ap (λ (x : Ending). x.status) has.answered ∙ served_well before now _ _ writes has.prints))
ends_well setups earlier later before now e (inr (inl door)) doors starts writes = absurd (doors door.rose)
ends_well setups earlier later before now e (inr (inr (inl worker))) doors starts writes = absurd (starts worker.rose)
ends_well setups earlier later before now e (inr (inr (inr (inl differing)))) doors starts writes = inr (ap (λ (x : Ending). x.status) differing.answered)
ends_well setups earlier later before now e (inr (inr (inr (inr (inl twice))))) doors starts writes = inr (ap (λ (x : Ending). x.status) twice.answered)
ends_well setups earlier later before now e (inr (inr (inr (inr (inr lacks))))) doors starts writes = inl (inr (ap (λ (x : Ending). x.status) lacks.1 ∙ ap (λ (a : Answer). a.status) lacks.2.answered))
