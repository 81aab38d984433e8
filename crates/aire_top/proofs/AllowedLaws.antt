-- That repairs were allowed is shown in one way alone, so that it follows where no more than that it follows is known.
use Rattle.std.proofs.Common.{◌≡◌, ℕ, Bool, true, false, List, [], ◌∷◌, ◌++◌, Option, Some, None, IsSomeAnd, All, refl, slice_index_or}
use Rattle.std.proofs.Math.Logic.{∥∥₁_elim}
use Rattle.std.specs.Coded.{Coded, Coded-set, Unit-prop, ×_prop, Π_prop, →_prop, code_by, coded×, coded_bool, coded_ℕ}
use Rattle.authorise_rules.specs.Deciding.{Question, decision}
use Rattle.authorise_rules.specs.declared.asked.Decision.{Decision}
use Rattle.authorise_rules.specs.declared.asked.Decision.TheVariants.{Allow, Deny}
use Rattle.authorise_rules.specs.Given.{GivenRules}
use Rattle.authorise_rules.specs.declared.rule.Rule.{Rule}
use Rattle.journal_rows.specs.Programs.{rules_now}
use Rattle.journal_rows.specs.declared.callee.TookHow.{TookHow}
use Rattle.journal_rows.specs.declared.callee.TookHow.TheVariants.{Live, Message}
use Rattle.journal_rows.specs.declared.caller.SawHow.{SawHow}
use Rattle.journal_rows.specs.declared.caller.SawHow.TheVariants.{Live as SeenLive, Fetch as Fetched}
use Rattle.journal_rows.specs.declared.row.Row.{Row}
use Rattle.journal_rows.specs.declared.row.Row.TheVariants.{Asked, Took, Acked, Answered, WasConfirmed, Sent, SawAck, Noted, SawAnswer, Confirmed, Ordered}
use Rattle.service_events.specs.Allowed.{AllowedOn, AllowedThen, Allows, AllowsSeen, AllowsTook, IsAllowed}
use Rattle.service_events.specs.Fits.{EachAfter}
use Rattle.service_events.specs.State.{Kept}

-- ---- a decision

abbrev as_pair : Decision → Bool × ℕ
as_pair (Allow rule) = (true, rule)
as_pair (Deny rule) = (false, rule)

abbrev of_pair : Bool × ℕ → Decision
of_pair (true, rule) = Allow rule
of_pair (false, rule) = Deny rule

same_decision : (d : Decision) → of_pair (as_pair d) ≡ d
same_decision (Allow rule) = refl
same_decision (Deny rule) = refl

abbrev decision_code : Coded Decision
decision_code = code_by (Bool × ℕ) (coded× coded_bool coded_ℕ) as_pair of_pair same_decision

-- ---- a row

allows_prop : (rules : List Rule) (q : Question) (rule : ℕ) → IsProp (Allows rules q rule)
allows_prop rules q rule = Coded-set decision_code (decision rules q) (Allow rule)

took_prop : (how : TookHow) (rules : List Rule) (q : Question) (rule : ℕ) → IsProp (AllowsTook how rules q rule)
took_prop Live rules q rule = Coded-set coded_ℕ rule 0
took_prop Message rules q rule = allows_prop rules q rule

noted_prop : (rules : List Rule) (asked : Option Question) (rule : ℕ) → IsProp (IsSomeAnd asked (λ q. Allows rules q rule))
noted_prop rules None rule = λ x y. absurd x
noted_prop rules (Some q) rule = allows_prop rules q rule

seen_prop : (how : SawHow) (rule : ℕ) → IsProp (AllowsSeen how rule)
seen_prop SeenLive rule = Coded-set coded_ℕ rule 0
seen_prop Fetched rule = Unit-prop

row_prop : (rules : List Rule) (before : List Row) (row : Row) → IsProp (AllowedOn rules before row)
row_prop rules before (Asked a) = Unit-prop
row_prop rules before (Took t) = took_prop t.how rules _ t.rule
row_prop rules before (Acked a) = Unit-prop
row_prop rules before (Answered a) = Unit-prop
row_prop rules before (WasConfirmed c) = Unit-prop
row_prop rules before (Sent s) = Unit-prop
row_prop rules before (SawAck a) = Unit-prop
row_prop rules before (Noted n) = noted_prop rules _ n.rule
row_prop rules before (SawAnswer a) = seen_prop a.how a.rule
row_prop rules before (Confirmed c) = Unit-prop
row_prop rules before (Ordered o) = allows_prop rules _ o.rule

-- ---- a journal, and all of them

rows_prop : (began : GivenRules) (before journal : List Row) → IsProp (EachAfter (AllowedThen began) before journal)
rows_prop began before [] = Unit-prop
rows_prop began before (row ∷ rows) = ×_prop (row_prop (rules_now began before).rules before row) (rows_prop began (before ++ row ∷ []) rows)

services_prop : (services : List Kept) → IsProp (All IsAllowed services)
services_prop services = Π_prop (λ k. Π_prop (λ d. →_prop (rows_prop (slice_index_or services k d).began [] (slice_index_or services k d).journal)))

-- where services are shown to be allowed of whatever joins them, and something does
pub allowed_where : {Joined : Type 0} (services : List Kept) → ∥ Joined ∥₁ → (Joined → All IsAllowed services) → All IsAllowed services
allowed_where services joined allowed = ∥∥₁_elim joined (services_prop services) allowed

-- the same of what can't be
pub never_where : {Joined Is : Type 0} → ∥ Joined ∥₁ → (Joined → ¬ Is) → ¬ Is
never_where {Joined} {Is} joined never = λ is. ∥∥₁_elim joined (λ x y. absurd x) (λ j. never j is)
