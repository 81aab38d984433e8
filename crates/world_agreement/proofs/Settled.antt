-- A call whose last version is acknowledged: the service that it goes to took that version last.
use Rattle.std.proofs.Common.{◌≡◌, ℕ, ◌<◌, ◌≤◌, List, Option, Some, None, IsSomeAnd, IfSome, All, Contains, option_map, inl, inr, subst, sym, ap, refl, arith, ◌∙◌}
use Rattle.std.proofs.lemmas.List.Elements.{All-contains}
use Rattle.lang_core.specs.declared.ids.Origin.TheVariants.{Call}
use Rattle.journal_rows.specs.Words.{last_sent, seen_acked, last_seen, last_noted, last_taken, version_in, taken_version}
use Rattle.journal_rows.specs.declared.callee.TookRow.{TookRow}
use Rattle.journal_rows.specs.declared.caller.AckHow.{AckHow}
use Rattle.journal_rows.specs.declared.caller.AckHow.TheVariants.{WithAnswer, ToPost}
use Rattle.journal_rows.specs.declared.caller.SentRow.{SentRow}
use Rattle.journal_rows.specs.declared.row.Row.{Row}
use Rattle.journal_rows.specs.declared.row.Row.TheVariants.{Took, SawAck}
use Rattle.call_registers.specs.Registers.{has_number, register}
use Rattle.call_registers.specs.declared.register.Register.{Register}
use Rattle.service_events.specs.State.{Kept, me}
use Rattle.service_events.specs.Fits.{Fits, sent_by, HasSeen}
use Rattle.service_events.specs.Calls.{seen_answer}
use Rattle.service_events.proofs.SearchLemmas.{found_all}
use Rattle.world_agreement.specs.Partners.{has_name, service_of, NamesDiffer, JournalOf, JournalOfDest, HasSent, HasAcknowledged, HasPartner, IsJoined}
use Rattle.world_agreement.specs.Quiet.{IsQuiet, AreQuiet}
use Rattle.world_agreement.proofs.ListLemmas.{some_out}
use Rattle.world_agreement.proofs.SentFacts.{IsSentBefore, sent_before, sent_positive, AckedFrom, acked_from}
use Rattle.world_agreement.proofs.TakenFacts.{taken_from, answered_taken, acked_within, acknowledged_taken}

-- services that fit their journals and are joined, under different names
pub record AreTogether (services : List Kept) : Type 0 where
  pub fits : All Fits services
  pub differ : NamesDiffer services
  pub joined : IsJoined services

-- and nothing of them is outstanding
pub record AreAtRest (services : List Kept) : Type 0 where
  pub together : AreTogether services
  pub quiet : AreQuiet services

-- an acknowledgement speaks of a version that was taken
pub taken_by : (c : List ℕ) (n version : ℕ) (how : AckHow) (t : Kept) → Fits t → HasAcknowledged c n version how t.journal → version ≤ taken_version c n t.journal
taken_by c n version (WithAnswer v) t fits h =
    let row = h.1 in
    answered_taken c n
    (record { id = row.0; origin = Call c n; answer_version = v; version = version; response = h.0; live = row.1 }) t.journal refl fits.taken row.2
taken_by c n version ToPost t fits h =
    let a = acked_within c n version t.journal h in
    let b = acknowledged_taken c n t.journal fits.taken in
    omega (arith, a, b)

pub took_some : (last : Option TookRow) → 0 < version_in last → (t : TookRow) × (last ≡ Some t)
took_some None h = absurd (omega (arith, h))
took_some (Some t) h = (t, refl)

how_acked : (n k v : ℕ) (journal : List Row) → AckedFrom n journal k → k ≡ v → 0 < v
    → (how : AckHow) × Contains journal (SawAck (record { number = n; version = v; how = how }))
how_acked n k v journal (inl none) is more = absurd (omega (arith, none, is, more))
how_acked n k v journal (inr saw) is more =
    (saw.0, subst (λ x. Contains journal (SawAck (record { number = n; version = x; how = saw.0 }))) is saw.1)

module _ (services : List Kept) (h : AreTogether services) where
  pub fits_of : (name : List ℕ) (s : Kept) → service_of name services ≡ Some s → Fits s
  fits_of name s here = found_all Fits (has_name name) services s h.fits here

  -- the partner of a row
  pub partner : (name : List ℕ) (s : Kept) → service_of name services ≡ Some s → (row : Row) → Contains s.journal row → HasPartner services s row
  partner name s here row at =
      All-contains (HasPartner services s) s.journal row (found_all (λ x. All (HasPartner services x) x.journal) (has_name name) services s h.joined here) at

  pub in_journal : (name : List ℕ) (s : Kept) → service_of name services ≡ Some s → (P : List Row → Type 0) → JournalOf services name P → P s.journal
  in_journal name s here P has = subst (λ o. IsSomeAnd o (λ (x : Kept). P x.journal)) here has

  module _ (s : Kept) (here : service_of (me s) services ≡ Some s) (n : ℕ) (r : Register) (found : register n s.registers ≡ Some r) where
    pub last_is : last_sent n s.journal ≡ Some (sent_by r)
    last_is = sym ((fits_of (me s) s here).sent.registers n) ∙ ap (option_map sent_by) found

    pub version_positive : 0 < r.version
    version_positive = subst (λ o. IfSome o (λ x. 0 < x.version)) last_is (sent_positive n s.journal (fits_of (me s) s here).sent.rows)

    pub has_seen : HasSeen (seen_acked n s.journal) (option_map seen_answer (last_seen n s.journal)) (last_noted n s.journal) r
    has_seen =
        subst (λ o. IfSome o (HasSeen (seen_acked n s.journal) (option_map seen_answer (last_seen n s.journal)) (last_noted n s.journal))) found
        ((fits_of (me s) s here).seen.registers n)

    -- the journal of the service to which its call was sent
    pub at_dest : (P : List Row → Type 0) → JournalOfDest services s n P → (t : Kept) × (service_of r.dest services ≡ Some t) × P t.journal
    at_dest P has =
        some_out (service_of r.dest services) (λ t. P t.journal) (subst (λ o. IsSomeAnd o (λ sent. JournalOf services sent.dest P)) last_is has)

    -- what the callee took last was sent
    pub taken_sent : (t : Kept) → service_of r.dest services ≡ Some t → (last : TookRow) → last_taken (me s) n t.journal ≡ Some last
        → IsSentBefore (record { number = n; dest = me t; version = last.version; desired = last.desired }) (sent_by r)
    taken_sent t there last took =
        let row = subst (λ o. IfSome o (λ x. ((x.caller ≡ me s) × (x.number ≡ n)) × Contains t.journal (Took x))) took (taken_from (me s) n t.journal) in
        let At : List ℕ → ℕ → Type 0 = λ c m. JournalOf services c (HasSent (me t) m last.version last.desired) in
        let Of : List ℕ → Type 0 = λ c. At c n in
        let of_caller = subst Of row.0.0 (subst (At last.caller) row.0.1 (partner r.dest t there (Took last) row.1)) in
        let sent_row = in_journal (me s) s here (HasSent (me t) n last.version last.desired) of_caller in
        let sent : SentRow = record { number = n; dest = me t; version = last.version; desired = last.desired } in
        subst (λ o. IsSomeAnd o (IsSentBefore sent)) last_is (sent_before sent s.journal (fits_of (me s) s here).sent.rows sent_row)

-- where nothing is outstanding
module _ (services : List Kept) (h : AreAtRest services) where
  pub quiet_of : (name : List ℕ) (s : Kept) → service_of name services ≡ Some s → IsQuiet s
  quiet_of name s here = found_all IsQuiet (has_name name) services s h.quiet here

  module _ (s : Kept) (here : service_of (me s) services ≡ Some s) (n : ℕ) (r : Register) (found : register n s.registers ≡ Some r) where
    acked_is : seen_acked n s.journal ≡ r.version
    acked_is =
        sym (has_seen services h.together s here n r found).acked
        ∙ found_all (λ (x : Register). x.acked ≡ x.version) (has_number n) s.registers r (quiet_of (me s) s here).acknowledged found

    pub record Settled : Type 0 where
      pub callee : Kept
      pub there : service_of r.dest services ≡ Some callee
      pub how : AckHow
      pub saw : Contains s.journal (SawAck (record { number = n; version = r.version; how = how }))
      pub acknowledged : HasAcknowledged (me s) n r.version how callee.journal
      pub last : TookRow
      pub taken : last_taken (me s) n callee.journal ≡ Some last
      pub version : last.version ≡ r.version
      pub desired : last.desired ≡ r.desired

    pub settled : Settled
    settled =
        let positive = version_positive services h.together s here n r found in
        let saw = how_acked n (seen_acked n s.journal) r.version s.journal (acked_from n s.journal) acked_is positive in
        let dest = at_dest services h.together s here n r found (HasAcknowledged (me s) n r.version saw.0) (partner services h.together (me s) s here (SawAck (record { number = n; version = r.version; how = saw.0 })) saw.1) in
        let above : r.version ≤ taken_version (me s) n (dest.0).journal = taken_by (me s) n r.version saw.0 dest.0 (fits_of services h.together r.dest dest.0 dest.1) dest.2 in
        let took = took_some (last_taken (me s) n (dest.0).journal) (omega (arith, above, positive)) in
        let before = taken_sent services h.together s here n r found dest.0 dest.1 took.0 took.1 in
        let below = before.version in
        let least = subst (λ o. r.version ≤ version_in o) took.1 above in
        let same : (took.0).version ≡ r.version = omega (arith, below, least) in
        record {
          callee = dest.0;
          there = dest.1;
          how = saw.0;
          saw = saw.1;
          acknowledged = dest.2;
          last = took.0;
          taken = took.1;
          version = same;
          desired = before.desired same;
        }
