-- Joined services are timely: none holds an answer to a later version of a call than its register's.
use Rattle.std.proofs.Common.{◌≡◌, ℕ, ◌≤◌, List, Option, Some, None, IfSome, All, Contains, option_map, subst, sym, refl, arith}
use Rattle.lang_core.specs.declared.ids.Origin.TheVariants.{Call}
use Rattle.journal_rows.specs.Words.{last_seen, last_taken, version_in}
use Rattle.journal_rows.specs.declared.callee.TookRow.{TookRow}
use Rattle.journal_rows.specs.declared.caller.SawAnswerRow.{SawAnswerRow}
use Rattle.journal_rows.specs.declared.row.Row.TheVariants.{SawAnswer}
use Rattle.call_registers.specs.Registers.{register, IsTimely}
use Rattle.call_registers.specs.declared.register.Register.{Register}
use Rattle.service_events.specs.State.{Kept, me}
use Rattle.service_events.specs.Fits.{Fits}
use Rattle.service_events.specs.Calls.{seen_answer}
use Rattle.world_agreement.specs.Partners.{service_of, NamesDiffer, JournalOfDest, HasAnswered, IsJoined}
use Rattle.world_agreement.proofs.ListLemmas.{all_from}
use Rattle.world_agreement.proofs.NameLemmas.{found_by_name}
use Rattle.world_agreement.proofs.SentFacts.{seen_from}
use Rattle.world_agreement.proofs.TakenFacts.{answered_taken}
use Rattle.world_agreement.proofs.Settled.{AreTogether, fits_of, partner, has_seen, at_dest, taken_sent}

module _ (services : List Kept) (h : AreTogether services) (s : Kept) (here : service_of (me s) services ≡ Some s) where
  module _ (n : ℕ) (r : Register) (found : register n s.registers ≡ Some r) where
    -- a version that was taken is at most the register's
    at_most : (t : Kept) → service_of r.dest services ≡ Some t → (o : Option TookRow) → last_taken (me s) n t.journal ≡ o → version_in o ≤ r.version
    at_most t there None took = omega arith
    at_most t there (Some last) took = (taken_sent services h s here n r found t there last took).version

    seen_on_time : (a : SawAnswerRow) → a.number ≡ n → Contains s.journal (SawAnswer a) → a.version ≤ r.version
    seen_on_time a of has =
        let At : ℕ → Type 0 = λ m. JournalOfDest services s m (HasAnswered (me s) m a.answer_version a.version a.response) in
        let dest = at_dest services h s here n r found (HasAnswered (me s) n a.answer_version a.version a.response)
        (subst At of (partner services h (me s) s here (SawAnswer a) has)) in
        let t = dest.0 in
        let row = dest.2 in
        let fits = fits_of services h r.dest t dest.1 in
        let taken = answered_taken (me s) n
        (record { id = row.0; origin = Call (me s) n; answer_version = a.answer_version; version = a.version; response = a.response; live = row.1 }) t.journal refl
        fits.taken row.2 in
        let most = at_most t dest.1 (last_taken (me s) n t.journal) refl in
        omega (arith, taken, most)

    on_time_by : (o : Option SawAnswerRow) → IfSome o (λ a. (a.number ≡ n) × Contains s.journal (SawAnswer a)) → IfSome (option_map seen_answer o) (λ a. a.version ≤ r.version)
    on_time_by None from = tt
    on_time_by (Some a) from = seen_on_time a from.0 from.1

    on_time : IfSome r.answer (λ a. a.version ≤ r.version)
    on_time =
        subst (λ o. IfSome o (λ a. a.version ≤ r.version)) (sym (has_seen services h s here n r found).answer) (on_time_by (last_seen n s.journal) (seen_from n s.journal))

  each_on_time : (n : ℕ) (o : Option Register) → register n s.registers ≡ o → IfSome o (λ r. IfSome r.answer (λ a. a.version ≤ r.version))
  each_on_time n None is = tt
  each_on_time n (Some r) is = on_time n r is

  timely : IsTimely s.registers
  timely n = each_on_time n (register n s.registers) refl

pub joined_timely : (services : List Kept) → All Fits services → NamesDiffer services → IsJoined services → All (λ (s : Kept). IsTimely s.registers) services
joined_timely services fits differ joined =
    all_from (λ (s : Kept). IsTimely s.registers) services
    (λ s has. timely services (record { fits = fits; differ = differ; joined = joined }) s (found_by_name services differ s has))
