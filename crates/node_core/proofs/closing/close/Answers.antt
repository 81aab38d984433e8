use Rattle.std.proofs.Common.{ℕ, List, sym, ap, ap₂, arith, ◌≡◌, ◌+◌, ◌≤◌, ◌∙◌, IfOk, length, subst, vec_len}
use Rattle.std.proofs.lemmas.Result.{IfOk-weaker}
use Rattle.std.specs.List.{flat_map}
use Rattle.service_events.specs.State.{Kept}
use Rattle.node_core.specs.Closings.{all_told_since, AgreesSince, AllAgreeSince, AllStandSince, AreNoted, AreAmong, IsAmong, IsFirstToDiffer, IsWholeSince, OrdersApart, SamePlace}
use Rattle.node_core.specs.declared.closing.Closed.{Closed}
use Rattle.node_core.proofs.closing.close.Goals as goal

-- all shares are back, so their amounts are the books' totals, which are equal
pub compared-requires-clause-many : goal.compared-requires-clause-many
compared-requires-clause-many g c =
    let rows = c.audit.ensures.whole (c.in_ok-all_rows.ensures.parts ∙ c.requires.nodes) in
    let receipts = c.audit-2.ensures.whole (c.in_ok-all_receipts.ensures.parts ∙ c.requires.passes) in
    let equal = c.into_inner-rows.result.equal in
    let since = ap (all_told_since c.in_ok-all_rows.services.items) (c.deref.ensures.value ∙ sym c.deref-5.ensures.value) in
    let told = c.in_ok-all_rows.ensures.amount in
    let kept = c.in_ok-all_receipts.ensures.amount in
    omega (arith, c.in_ok-all_receipts.found.ok.0, c.in_ok-all_receipts.orders.ok.0, rows, receipts, equal, since, told, kept)

pub compared-requires-clause-reach : goal.compared-requires-clause-reach
compared-requires-clause-reach g c =
    subst (λ (since : List ℕ). vec_len c.in_ok-all_rows.services ≤ length since) (c.deref.ensures.value ∙ sym c.deref-5.ensures.value)
    c.in_ok-all_rows.ensures.reach

pub are_noted-requires : goal.are_noted-requires
are_noted-requires g c =
    let services = ap length c.deref-2.ensures.value in
    let since = ap length (c.deref.ensures.value ∙ sym c.deref-3.ensures.value) in
    omega (arith, services, since, c.in_ok-all_rows.services.ok.0, c.in_ok-all_rows.ensures.reach)

pub compared-requires-clause-stand : goal.compared-requires-clause-stand
compared-requires-clause-stand g c =
    let stand = (c.are_noted.ensures c.if-not-are_noted.false).0 in
    let since = subst (λ (xs : List ℕ). AllStandSince xs c.deref-2.result.now c.deref-4.result.now) (c.deref-3.ensures.value ∙ sym c.deref-5.ensures.value) stand in
    let services = subst (λ (xs : List Kept). AllStandSince c.deref-5.result.now xs c.deref-4.result.now) c.deref-2.ensures.value since in
    subst (AllStandSince c.deref-5.result.now c.in_ok-all_rows.services.items) c.deref-4.ensures.value services

pub compared-requires-clause-apart : goal.compared-requires-clause-apart
compared-requires-clause-apart g c = subst OrdersApart c.deref-4.ensures.value (c.are_noted.ensures c.if-not-are_noted.false).1

pub returns-clause-whole : goal.returns-clause-whole
returns-clause-whole g c =
    subst (λ (since : List ℕ). IfOk c.compared.result (λ (k : Closed). IsWholeSince since k.services.items k.receipts.items)) c.deref-5.ensures.value
    c.compared.ensures.whole

pub returns-clause-len : goal.returns-clause-len
returns-clause-len g c =
    IfOk-weaker c.compared.result (λ (k : Closed). vec_len k.services ≡ vec_len c.in_ok-all_rows.services) (λ (k : Closed). vec_len k.services ≡ vec_len c.args.nodes.nodes)
    (λ k same. same ∙ c.in_ok-all_rows.ensures.len) c.compared.ensures.len

pub returns-clause-receipts : goal.returns-clause-receipts
returns-clause-receipts g c =
    IfOk-weaker c.compared.result (λ (k : Closed). k.receipts.items ≡ c.in_ok-all_receipts.found.items) (λ (k : Closed). k.receipts.items ≡ flat_map (λ p. p.receipts.items) c.args.passes.items)
    (λ k same. same ∙ c.in_ok-all_receipts.ensures.receipts) c.compared.ensures.receipts

pub returns-clause-noted : goal.returns-clause-noted
returns-clause-noted g c =
    subst (λ (since : List ℕ). IfOk c.compared.result (λ (k : Closed). AreNoted since k.services.items k.orders.items)) c.deref-5.ensures.value
    c.compared.ensures.noted

pub returns-clause-orders : goal.returns-clause-orders
returns-clause-orders g c =
    IfOk-weaker c.compared.result (λ (k : Closed). k.orders.items ≡ c.in_ok-all_receipts.orders.items) (λ (k : Closed). k.orders.items ≡ flat_map (λ p. p.notes.orders) c.args.passes.items)
    (λ k same. same ∙ c.in_ok-all_receipts.ensures.orders) c.compared.ensures.orders

pub returns-clause-differs : goal.returns-clause-differs
returns-clause-differs g c r kept is =
    subst (λ (since : List ℕ). ¬ AgreesSince since kept.items r) c.deref-5.ensures.value (c.compared.ensures.differs r kept is).0

pub returns-clause-among : goal.returns-clause-among
returns-clause-among g c r kept is = subst (IsAmong r) c.in_ok-all_receipts.ensures.receipts (c.compared.ensures.differs r kept is).1

pub returns-clause-first : goal.returns-clause-first
returns-clause-first g c r kept is =
    subst (λ (since : List ℕ). IsFirstToDiffer since kept.items r (flat_map (λ p. p.receipts.items) c.args.passes.items)) c.deref-5.ensures.value
    (subst (IsFirstToDiffer c.deref-5.result.now kept.items r) c.in_ok-all_receipts.ensures.receipts (c.compared.ensures.first r kept is))

pub returns-clause-counted : goal.returns-clause-counted
returns-clause-counted g c r kept is =
    sym (ap₂ (λ (m n : ℕ). m + n) (ap length c.in_ok-all_receipts.ensures.receipts) (ap length c.in_ok-all_receipts.ensures.orders))
    ∙ c.compared.ensures.counted r kept is ∙ ap (all_told_since kept.items) c.deref-5.ensures.value

pub returns-clause-both_counted : goal.returns-clause-both_counted
returns-clause-both_counted g c r t kept is =
    sym (ap₂ (λ (m n : ℕ). m + n) (ap length c.in_ok-all_receipts.ensures.receipts) (ap length c.in_ok-all_receipts.ensures.orders))
    ∙ c.compared.ensures.both_counted r t kept is ∙ ap (all_told_since kept.items) c.deref-5.ensures.value

pub returns-clause-twice : goal.returns-clause-twice
returns-clause-twice g c r t kept is =
    let two = c.compared.ensures.twice r t kept is in
    let among = two.1.0 in
    subst (λ (since : List ℕ). SamePlace r t × (AgreesSince since kept.items r × AgreesSince since kept.items t)) c.deref-5.ensures.value
    (two.0, (two.1.1 among.at r among.here, two.1.1 among.other t among.there))

pub returns-clause-two : goal.returns-clause-two
returns-clause-two g c r t kept is =
    let two = c.compared.ensures.twice r t kept is in
    subst (λ (since : List ℕ). AreAmong r t (flat_map (λ p. p.receipts.items) c.args.passes.items)
    × AllAgreeSince since kept.items (flat_map (λ p. p.receipts.items) c.args.passes.items)) c.deref-5.ensures.value
    (subst (λ xs. AreAmong r t xs × AllAgreeSince c.deref-5.result.now kept.items xs) c.in_ok-all_receipts.ensures.receipts two.1)
