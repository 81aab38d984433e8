-- What searches of a dump find, for the tests of calls and of callers.
use Rattle.std.proofs.Common.{◌≡◌, ◌⊎◌, inl, inr, ℕ, Bool, true, false, cond, ◌||◌, ◌&&◌, List, [], ◌∷◌, Option, Some, None, nat_eq, refl, ap, ◌∙◌}
use Rattle.std.specs.Cmp.{nat_eq_equiv}
use Rattle.std.specs.List.{list_any}
use Rattle.std.specs.Option.{is_some}
use Rattle.std.proofs.lemmas.Bool.{and_parts}
use Rattle.std.proofs.lemmas.List.Elements.{All-contains, All-from_recursion}
use Rattle.std.proofs.Math.Bool.{Bool-set}
use Rattle.std.proofs.Math.Logic.{∥∥₁_elim}
use Rattle.lang_base.specs.Equal.{equal}
use Rattle.lang_base.specs.Texts.{same_text}
use Rattle.lang_core.specs.Origins.{is_call}
use Rattle.lang_core.specs.contracts.trace.CallMade as call_made
use Rattle.lang_core.specs.declared.request.Response.{Response}
use Rattle.lang_core.specs.declared.trace.CallMade.{CallMade}
use Rattle.dump_tables.specs.Found.{IsOneOf}
use Rattle.dump_tables.specs.Kept.{AreKept, IsKept}
use Rattle.dump_tables.specs.Indexed.{has_number}
use Rattle.dump_tables.specs.declared.dump.DumpEntry.{DumpEntry}
use Rattle.dump_tables.specs.declared.dump.DumpService.{DumpService}
use Rattle.dump_audit.specs.Judging.{is_alive, is_among, is_made_by, is_served, is_served_by, makes, serves, serves_alone, service_in}
use Rattle.dump_audit.proofs.OneLemmas.{is_found, none_any, none_kept, one_any, one_caller, one_kept, one_name, one_number}

-- a service has this name
abbrev pub has_name : List ℕ → DumpService → Bool
has_name name s = same_text s.setting.me name

service_is : (name : List ℕ) (world : List DumpService) (found : Option DumpService) → AreKept world → IsOneOf (has_name name) world found → service_in name world ≡ found
service_is name world found kept one = is_found (has_name name) world found (one_name name world kept.names) one

kept_there : (name : List ℕ) (world : List DumpService) (s : DumpService) → AreKept world → IsOneOf (has_name name) world (Some s) → IsKept s
kept_there name world s kept one = All-contains IsKept world s (All-from_recursion IsKept world kept.each) one.0

-- ---- calls

module _ (caller : List ℕ) (number : ℕ) (call : CallMade) (answer : Response) where
  abbrev by_service : Option DumpService → Bool
  by_service o = is_served_by o caller number call answer

  pub served_nowhere : (world : List DumpService) → ∥ AreKept world ∥₁ → IsOneOf (has_name call.dest) world None → is_served world caller number call answer ≡ false
  served_nowhere world kept none = ∥∥₁_elim kept (Bool-set _ _) (λ k. ap by_service (service_is call.dest world None k none))

  pub served_by_none : (world : List DumpService) (s : DumpService) → ∥ AreKept world ∥₁ → IsOneOf (has_name call.dest) world (Some s)
      → IsOneOf (λ e. is_call caller number e.origin) s.entries None → is_served world caller number call answer ≡ false
  served_by_none world s kept there none = ∥∥₁_elim kept (Bool-set _ _)
      (λ k. ap by_service (service_is call.dest world (Some s) k there) ∙ ap (serves_alone call answer) (none_kept (λ (e : DumpEntry). is_call caller number e.origin) s.entries none))

  pub served_by_one : (world : List DumpService) (s : DumpService) (e : DumpEntry) → ∥ AreKept world ∥₁ → IsOneOf (has_name call.dest) world (Some s)
      → IsOneOf (λ e. is_call caller number e.origin) s.entries (Some e) → is_served world caller number call answer ≡ serves call answer e
  served_by_one world s e kept there one = ∥∥₁_elim kept (Bool-set _ _)
      (λ k. ap by_service (service_is call.dest world (Some s) k there)
      ∙ ap (serves_alone call answer) (one_kept (λ (x : DumpEntry). is_call caller number x.origin) s.entries e (one_caller caller number s.entries (kept_there call.dest world s k there).callers) one))

-- ---- callers

among_by : (b c rest here : Bool) → (b ≡ true → here ≡ true) → cond (b && c) true rest ≡ true → (here ≡ true) ⊎ (rest ≡ true)
among_by true true rest here so h = inl (so refl)
among_by true false rest here so h = inr h
among_by false c rest here so h = inr h

or_either : (a b : Bool) → (a ≡ true) ⊎ (b ≡ true) → (a || b) ≡ true
or_either true b h = refl
or_either false b (inl h) = absurd cc
or_either false b (inr h) = h

either_later : (here rest later : Bool) → (rest ≡ true → later ≡ true) → (here ≡ true) ⊎ (rest ≡ true) → (here ≡ true) ⊎ (later ≡ true)
either_later here rest later so (inl first) = inl first
either_later here rest later so (inr behind) = inr (so behind)

among_numbers : (number : ℕ) (call : CallMade) (cs : List CallMade) (ns : List ℕ) → is_among number call cs ns ≡ true → list_any (nat_eq number) ns ≡ true
among_numbers number call (c ∷ cs) (n ∷ ns) h =
    or_either (nat_eq number n) (list_any (nat_eq number) ns)
    (either_later (nat_eq number n) (is_among number call cs ns) (list_any (nat_eq number) ns) (λ there. among_numbers number call cs ns there)
    (among_by (nat_eq n number) (equal call_made.the_row.coded c call) (is_among number call cs ns) (nat_eq number n) (λ e. nat_eq_equiv.symm number n ∙ e) h))
among_numbers number call [] [] h = absurd cc
among_numbers number call [] (n ∷ ns) h = absurd cc
among_numbers number call (c ∷ cs) [] h = absurd cc

makes_so : (number : ℕ) (call : CallMade) (e : DumpEntry) → makes number call e ≡ true → has_number number e ≡ true
makes_so number call e h =
    among_numbers number call e.calls e.numbers (and_parts (is_some e.reply) (is_among number call e.calls e.numbers) (and_parts (is_alive e) (is_some e.reply && is_among number call e.calls e.numbers) h).1).1

module _ (caller : List ℕ) (number : ℕ) (call : CallMade) where
  abbrev by_caller : Option DumpService → Bool
  by_caller o = is_made_by o number call

  pub made_nowhere : (world : List DumpService) → ∥ AreKept world ∥₁ → IsOneOf (has_name caller) world None → is_made_by (service_in caller world) number call ≡ false
  made_nowhere world kept none = ∥∥₁_elim kept (Bool-set _ _) (λ k. ap by_caller (service_is caller world None k none))

  pub made_by_none : (world : List DumpService) (s : DumpService) → ∥ AreKept world ∥₁ → IsOneOf (has_name caller) world (Some s)
      → IsOneOf (has_number number) s.entries None → is_made_by (service_in caller world) number call ≡ false
  made_by_none world s kept there none = ∥∥₁_elim kept (Bool-set _ _)
      (λ k. ap by_caller (service_is caller world (Some s) k there) ∙ none_any (has_number number) (makes number call) (λ x h. makes_so number call x h) s.entries none)

  pub made_by_one : (world : List DumpService) (s : DumpService) (e : DumpEntry) → ∥ AreKept world ∥₁ → IsOneOf (has_name caller) world (Some s)
      → IsOneOf (has_number number) s.entries (Some e) → is_made_by (service_in caller world) number call ≡ makes number call e
  made_by_one world s e kept there one = ∥∥₁_elim kept (Bool-set _ _)
      (λ k. ap by_caller (service_is caller world (Some s) k there)
      ∙ one_any (has_number number) (makes number call) (λ x h. makes_so number call x h) s.entries e (one_number number s.entries (kept_there caller world s k there).numbers) one)
