-- A verdict is answered exactly where it should be.
use Rattle.std.proofs.Common.{◌≡◌, ℕ, ◌↔◌, List, refl}
use Rattle.std.proofs.lemmas.List.Elements.{All-weaker}
use Rattle.journal_rows.specs.declared.verdict.Outstanding.{Outstanding}
use Rattle.journal_rows.specs.declared.verdict.Verdict.{Verdict}
use Rattle.journal_rows.specs.declared.verdict.Verdict.TheVariants.{Legal, Forged, Unsettled}
use Rattle.service_events.specs.State.{Kept}
use Rattle.world_agreement.specs.Partners.{IsJoined}
use Rattle.world_agreement.specs.Quiet.{IsQuiet, AreQuiet}
use Rattle.world_audit.specs.Verdicts.{NoneOf, IsJoinedIn, IsForged, IsUnsettled, IsVerdict, NoneIn, SaysForged, SaysUnsettled, kind_of}
use Rattle.world_audit.specs.declared.outstanding.OutstandingKind.{OutstandingKind}
use Rattle.world_audit.specs.declared.outstanding.OutstandingKind.TheVariants.{Flights, Entries, Calls, Fetches, Answers}
use Rattle.world_audit.proofs.FirstLemmas.{not_all}

-- quiet is that nothing of any kind is outstanding
pub all_quiet : (services : List Kept) → NoneIn Flights services → NoneIn Entries services → NoneIn Calls services → NoneIn Fetches services → NoneIn Answers services
    → AreQuiet services
all_quiet services flights entries calls fetches answers k d l =
    record { landed = flights k d l; current = entries k d l; acknowledged = calls k d l; fetched = fetches k d l; given = answers k d l }

done_of : (kind : OutstandingKind) (s : Kept) → IsQuiet s → NoneOf kind s
done_of Flights s q = q.landed
done_of Entries s q = q.current
done_of Calls s q = q.acknowledged
done_of Fetches s q = q.fetched
done_of Answers s q = q.given

not_joined : (services : List Kept) (at index : ℕ) → IsForged services at index → ¬ (IsJoined services)
not_joined services at index f joined = not_all (IsJoinedIn services) services at f.service joined

not_quiet : (services : List Kept) (at : ℕ) (what : Outstanding) → IsUnsettled services at what → ¬ (AreQuiet services)
not_quiet services at what u quiet =
    let kind = kind_of what in
    not_all (NoneOf kind) services at (u.first).service (All-weaker IsQuiet (NoneOf kind) (done_of kind) services quiet)

pub legal_exactly : (services : List Kept) (v : Verdict) → IsVerdict services v → (v ≡ Legal) ↔ (IsJoined services × AreQuiet services)
legal_exactly services Legal h = (λ _. h, λ _. refl)
legal_exactly services (Forged at index) h = (λ e. absurd (let no : ⊥ = cc in no), λ j. absurd (not_joined services at index h j.0))
legal_exactly services (Unsettled at what) h = (λ e. absurd (let no : ⊥ = cc in no), λ j. absurd (not_quiet services at what h j.1))

pub forged_exactly : (services : List Kept) (v : Verdict) → IsVerdict services v → SaysForged v ↔ (¬ (IsJoined services))
forged_exactly services Legal h = (λ no. absurd no, λ j. absurd (j h.0))
forged_exactly services (Forged at index) h = (λ _. not_joined services at index h, λ _. tt)
forged_exactly services (Unsettled at what) h = (λ no. absurd no, λ j. absurd (j h.joined))

pub unsettled_exactly : (services : List Kept) (v : Verdict) → IsVerdict services v → SaysUnsettled v ↔ (IsJoined services × (¬ (AreQuiet services)))
unsettled_exactly services Legal h = (λ no. absurd no, λ j. absurd (j.1 h.1))
unsettled_exactly services (Forged at index) h = (λ no. absurd no, λ j. absurd (not_joined services at index h j.0))
unsettled_exactly services (Unsettled at what) h = (λ _. (h.joined, not_quiet services at what h), λ _. tt)
