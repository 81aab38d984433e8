-- A service at its start.
use Rattle.std.proofs.Common.{◌≡◌, ◌∙◌, ◌≤◌, List, [], length, sym, ap, subst, arith}
use Rattle.std.proofs.lemmas.List.Elements.{All-nil}
use Rattle.authorise_rules.specs.Given.{GivenRules}
use Rattle.request_log.specs.Folded.{whole}
use Rattle.request_log.specs.declared.entry.Entry.{Entry}
use Rattle.request_log.specs.declared.folded.Folded.{Folded}
use Rattle.flights.specs.declared.flight.Flight.{Flight}
use Rattle.service_events.specs.State.{fresh, in_all, Kept}
use Rattle.service_events.specs.Ages.{IsNotedAt}
use Rattle.service_events.specs.Allowed.{IsAllowed}
use Rattle.service_events.specs.Fits.{Fits}
use Rattle.service_events.proofs.StartLaw.{fits_start, allowed_start}
use Rattle.service_parts.proofs.AgeLaws.{AgesOf}
use Rattle.service_parts.proofs.AgeLemmas.{IsAged, IsMarked}
use Rattle.service_parts.specs.Parts.{kept}
use Rattle.service_parts.specs.Rooms.{aloft}
use Rattle.service_parts.specs.Services.{IsService}
use Rattle.service_parts.specs.declared.parts.Parts.{Parts}

none_in_all : (folded : List Folded) (entries : List Entry) → folded ≡ [] → entries ≡ [] → whole folded entries ≡ []
none_in_all folded entries none empty = ap (λ (fs : List Folded). whole fs entries) none ∙ empty

none_folded : (folded : List Folded) → folded ≡ [] → length folded ≡ 0
none_folded folded none = ap length none

-- parts without entries, base rows, flights, rows, registers and replies keep what a fresh service does
pub starts : (p : Parts) (rules : GivenRules) → p.began ≡ rules → p.rules ≡ rules → p.newest ≡ record { number = 1; program = p.setting.program } → p.repairer.folded ≡ [] → p.repairer.base ≡ [] → p.repairer.entries ≡ [] → p.flights.list ≡ [] → p.journal.rows ≡ [] → p.registers.list ≡ []
    → p.replies.list ≡ [] → kept p ≡ fresh p.setting rules
starts p rules began ruled newest folded base entries flights journal registers replies =
    let all = none_in_all p.repairer.folded p.repairer.entries folded entries in
    let horizon = none_folded p.repairer.folded folded in
    (λ i. record {
      setting = p.setting;
      began = began i;
      rules = ruled i;
      newest = newest i;
      entries = all i;
      horizon = horizon i;
      base = base i;
      flights = flights i;
      journal = journal i;
      registers = registers i;
      replies = replies i;
    })

-- and are a service
pub new_service : (p : Parts) (rules : GivenRules) → p.began ≡ rules → p.rules ≡ rules → p.newest ≡ record { number = 1; program = p.setting.program } → p.repairer.folded ≡ [] → p.repairer.base ≡ [] → p.repairer.entries ≡ [] → p.flights.list ≡ [] → p.journal.rows ≡ [] → p.registers.list ≡ []
    → p.replies.list ≡ [] → IsService p
new_service p rules began ruled newest folded base entries flights journal registers replies =
    let same = starts p rules began ruled newest folded base entries flights journal registers replies in
    let none : in_all (fresh p.setting rules) ≤ 100000 = omega arith in
    let least : 0 ≤ p.journal.spare = omega arith in
    record {
      fits = subst Fits (sym same) (fits_start p.setting rules);
      allowed = subst IsAllowed (sym same) (allowed_start p.setting rules);
      ages = subst AgesOf (sym same) (record { calls = All-nil (IsAged []); replies = All-nil (IsMarked []); fetches = All-nil (IsNotedAt []) });
      few = subst (λ (s : Kept). in_all s ≤ 100000) (sym same) none;
      room = (let R : List Flight → Type 0 = λ fs. aloft fs ≤ p.journal.spare in subst R (sym flights) least);
    }
