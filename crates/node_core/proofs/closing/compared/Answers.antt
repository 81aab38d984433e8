use Rattle.std.proofs.Common.{◌≡◌, ◌+◌, ◌<◌, ◌≤◌, ℕ, List, Some, Result, Err, length, slice_get, refl, sym, ap, ◌∙◌, subst, arith}
use Rattle.std.proofs.lemmas.Option.{slice_get_read}
use Rattle.service_events.specs.State.{Kept}
use Rattle.node_core.proofs.WholeLemmas.{noted, whole}
use Rattle.node_core.specs.Closings.{all_told_since, AgreesSince, AllAgreeSince, AreAmong, AreApart, IsAmong, IsFirstToDiffer, SamePlace}
use Rattle.node_core.specs.declared.closing.CloseRefused.{CloseRefused}
use Rattle.node_core.specs.declared.closing.Closed.{Closed}
use Rattle.node_core.specs.declared.closing.CloseRefused.TheVariants as refusals
use Rattle.node_core.specs.declared.orders.OrderNote.{OrderNote}
use Rattle.node_core.specs.declared.receipt.Receipt.{Receipt}
use Rattle.node_core.proofs.closing.compared.Goals as goal

abbrev DiffersSo : List ℕ → List Receipt → Result Closed CloseRefused → Type 0
DiffersSo since found (Err (refusals.Differs r kept)) = (¬ AgreesSince since kept.items r) × IsAmong r found
DiffersSo since found result = Unit {0}

abbrev IsFirstSo : List ℕ → List Receipt → Result Closed CloseRefused → Type 0
IsFirstSo since found (Err (refusals.Differs r kept)) = IsFirstToDiffer since kept.items r found
IsFirstSo since found result = Unit {0}

abbrev IsCountedSo : List ℕ → List Receipt → List OrderNote → Result Closed CloseRefused → Type 0
IsCountedSo since found orders (Err (refusals.Differs r kept)) = length found + length orders ≡ all_told_since kept.items since
IsCountedSo since found orders (Err (refusals.Twice r t kept)) = length found + length orders ≡ all_told_since kept.items since
IsCountedSo since found orders result = Unit {0}

abbrev IsTwiceSo : List ℕ → List Receipt → Result Closed CloseRefused → Type 0
IsTwiceSo since found (Err (refusals.Twice r t kept)) = SamePlace r t × (AreAmong r t found × AllAgreeSince since kept.items found)
IsTwiceSo since found result = Unit {0}

pub first_differing-requires : goal.first_differing-requires
first_differing-requires c =
    subst (λ (services : List Kept). length services ≤ length c.args.since.now) (sym c.deref.ensures.value)
    (omega (arith, c.args.services.ok.0, c.requires.reach))

pub returns-in-Some-clause-differs : goal.returns-in-Some-clause-differs
returns-in-Some-clause-differs c r kept same =
    let found = c.args.found.items in
    let at = c.in-Some.at in
    let receipt = c.swap_remove-receipt.result in
    let value = c.deref-2.ensures.value in
    let within : at < length found = subst (λ xs. at < length xs) value c.in-Some.ensures.some.0 in
    let read : slice_get found at ≡ Some receipt = slice_get_read found (length found) at receipt refl within c.swap_remove-receipt.ensures.value in
    let no = c.in-Some.ensures.some.1 receipt (ap (λ xs. slice_get xs at) value ∙ read) in
    let among : IsAmong receipt found = record { at = at; there = read } in
    subst (DiffersSo c.args.since.now found) same (subst (λ xs. ¬ AgreesSince c.args.since.now xs receipt) c.deref.ensures.value no, among)

pub returns-in-Some-clause-first : goal.returns-in-Some-clause-first
returns-in-Some-clause-first c r kept same =
    let found = c.args.found.items in
    let at = c.in-Some.at in
    let receipt = c.swap_remove-receipt.result in
    let value = c.deref-2.ensures.value in
    let within : at < length found = subst (λ xs. at < length xs) value c.in-Some.ensures.some.0 in
    let read : slice_get found at ≡ Some receipt = slice_get_read found (length found) at receipt refl within c.swap_remove-receipt.ensures.value in
    let no = c.in-Some.ensures.some.1 receipt (ap (λ xs. slice_get xs at) value ∙ read) in
    let first : IsFirstToDiffer c.args.since.now c.args.services.items receipt found =
    record {
      at = at;
      there = read;
      differs = subst (λ xs. ¬ AgreesSince c.args.since.now xs receipt) c.deref.ensures.value no;
      before = λ k t less there. subst (λ xs. AgreesSince c.args.since.now xs t) c.deref.ensures.value
          (c.in-Some.ensures.first k t less (ap (λ xs. slice_get xs k) value ∙ there));
    } in
    subst (IsFirstSo c.args.since.now found) same first

pub returns-in-Some-clause-counted : goal.returns-in-Some-clause-counted
returns-in-Some-clause-counted c r kept same = subst (IsCountedSo c.args.since.now c.args.found.items c.args.orders.items) same c.requires.many

pub returns-in-Some-twice-clause-both_counted : goal.returns-in-Some-twice-clause-both_counted
returns-in-Some-twice-clause-both_counted c r t kept same = subst (IsCountedSo c.args.since.now c.args.found.items c.args.orders.items) same c.requires.many

pub returns-in-Some-twice-clause-twice : goal.returns-in-Some-twice-clause-twice
returns-in-Some-twice-clause-twice c r t kept same =
    let found = c.args.found.items in
    let at = c.in-Some-twice.at in
    let other = c.in-Some-twice.other in
    let first = c.swap_remove-first.result in
    let second = c.swap_remove-second.result in
    let two = rw c.in-Some-twice.is at c.in_ok-twice.ensures.some in
    let value = c.deref-3.ensures.value in
    let within : other < length found = subst (λ xs. other < length xs) value two.1 in
    let read : slice_get found other ≡ Some second = slice_get_read found (length found) other second refl within c.swap_remove-second.ensures.value in
    let kept = c.swap_remove-second.ensures.by_index.1 at first (λ e. absurd (omega (arith, e, two.0))) (omega (arith, two.0, within, c.args.found.ok.0)) in
    let here : slice_get found at ≡ Some first =
    slice_get_read found (length found) at first refl (omega (arith, two.0, within)) (c.swap_remove-first.ensures.value ∙ kept) in
    let none = c.in_default.ensures.none in
    let agree : AllAgreeSince c.args.since.now c.args.services.items found =
    λ k u there. subst (λ xs. AgreesSince c.args.since.now xs u) c.deref.ensures.value (none k u (ap (λ xs. slice_get xs k) c.deref-2.ensures.value ∙ there)) in
    let place : SamePlace first second = two.2 first second (ap (λ xs. slice_get xs at) value ∙ here) (ap (λ xs. slice_get xs other) value ∙ read) in
    let among : AreAmong first second found = record { at = at; other = other; before = two.0; here = here; there = read } in
    subst (IsTwiceSo c.args.since.now found) same (place, (among, agree))

pub returns-clause-whole : goal.returns-clause-whole
returns-clause-whole c =
    let found = c.args.found.items in
    let none = c.in_default.ensures.none in
    let agree : AllAgreeSince c.args.since.now c.args.services.items found =
    λ k u there. subst (λ xs. AgreesSince c.args.since.now xs u) c.deref.ensures.value (none k u (ap (λ xs. slice_get xs k) c.deref-2.ensures.value ∙ there)) in
    let apart : AreApart found = subst AreApart c.deref-3.ensures.value (rw c.in_default-twice.is at c.in_ok-twice.ensures.none) in
    whole c.args.since.now c.args.services.items found c.args.orders.items agree apart c.requires.stand c.requires.apart c.requires.many

pub returns-clause-noted : goal.returns-clause-noted
returns-clause-noted c =
    let found = c.args.found.items in
    let none = c.in_default.ensures.none in
    let agree : AllAgreeSince c.args.since.now c.args.services.items found =
    λ k u there. subst (λ xs. AgreesSince c.args.since.now xs u) c.deref.ensures.value (none k u (ap (λ xs. slice_get xs k) c.deref-2.ensures.value ∙ there)) in
    let apart : AreApart found = subst AreApart c.deref-3.ensures.value (rw c.in_default-twice.is at c.in_ok-twice.ensures.none) in
    noted c.args.since.now c.args.services.items found c.args.orders.items agree apart c.requires.stand c.requires.apart c.requires.many
