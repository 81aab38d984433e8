-- What searches of a dump by its indexes find, as what walks over its histories would.
use Rattle.std.proofs.Common.{◌≡◌, ℕ, Bool, true, false, cond, List, [], ◌∷◌, Option, Some, None, Bor, IfSome, find, map, nat_eq, refl, sym, ap, ◌∙◌}
use Rattle.std.specs.List.{list_any}
use Rattle.std.specs.Option.{option_copied, option_map}
use Rattle.std.proofs.lemmas.List.Elements.{All-contains, All-from_recursion}
use Rattle.std.proofs.Math.Bool.{Bool-set}
use Rattle.std.proofs.Math.Logic.{∥∥₁_elim, ∥∥₁_map}
use Rattle.lang_base.specs.Texts.{same_text}
use Rattle.lang_core.specs.Origins.{is_call}
use Rattle.execution.specs.Executions.{Act, History}
use Rattle.execution.specs.Together.{comes_from, history_in, name_of}
use Rattle.dump_tables.specs.Found.{IsOneOf}
use Rattle.dump_tables.specs.Indexed.{has_number}
use Rattle.dump_tables.specs.Kept.{AreKept, IsKept}
use Rattle.dump_tables.specs.declared.dump.DumpEntry.{DumpEntry}
use Rattle.dump_tables.specs.declared.dump.DumpService.{DumpService}
use Rattle.dump_audit.specs.Histories.{act_of, histories_of, history_of}
use Rattle.dump_audit.proofs.OneLemmas.{OfOne, is_found, one_caller, one_id, one_name, one_number}
use Rattle.one_order.specs.Roots.{made_in}
use Rattle.one_world.specs.Trees.{act_in, callee_in}

-- that a test holds of one at most is known or not, and nothing more
pub of_one_only : {X : Type 0} (p : X → Bool) (xs : List X) (a b : OfOne p xs) → a ≡ b
of_one_only p [] a b = refl
of_one_only p (x ∷ xs) a b = λ i. ((λ yes. Bool-set _ _ (a.0 yes) (b.0 yes) i), of_one_only p xs a.1 b.1 i)

found_by : {X Y : Type 0} (f : X → Y) (b : Bool) (x : X) (o : Option X) (q : Option Y) → option_map f o ≡ q
    → option_map f (cond b (Some x) o) ≡ cond b (Some (f x)) q
found_by f true x o q e = refl
found_by f false x o q e = e

find_map : {X Y : Type 0} (f : X → Y) (p : Y → Bool) (xs : List X) → option_map f (find (λ x. p (f x)) xs) ≡ find p (map f xs)
find_map f p [] = refl
find_map f p (x ∷ xs) = found_by f (p (f x)) x (find (λ y. p (f y)) xs) (find p (map f xs)) (find_map f p xs)

abbrev has_name : List ℕ → DumpService → Bool
has_name name s = same_text s.setting.me name

pub service_found : (name : List ℕ) (world : List DumpService) (found : Option DumpService) → ∥ AreKept world ∥₁ → IsOneOf (has_name name) world found
    → option_map history_of found ≡ history_in name (histories_of world)
service_found name world found kept one =
    let alone : OfOne (has_name name) world = ∥∥₁_elim kept (of_one_only (has_name name) world) (λ k. one_name name world k.names) in
    ap (option_map history_of) (sym (is_found (has_name name) world found alone one)) ∙ find_map history_of (λ (h : History). same_text (name_of h) name) world

-- a service that is found keeps what each of them keeps
kept_found : (name : List ℕ) (world : List DumpService) (s : DumpService) → ∥ AreKept world ∥₁ → IsOneOf (has_name name) world (Some s) → ∥ IsKept s ∥₁
kept_found name world s kept one =
    ∥∥₁_map kept (λ k. All-contains IsKept world s (All-from_recursion IsKept world k.each) one.0)

pub service_kept : (name : List ℕ) (world : List DumpService) (found : Option (Bor DumpService)) → ∥ AreKept world ∥₁ → IsOneOf (has_name name) world (option_copied found)
    → IfSome found (λ s. ∥ IsKept s.now ∥₁)
service_kept name world None kept one = tt
service_kept name world (Some s) kept one = kept_found name world s.now kept one

abbrev is_of : List ℕ → ℕ → DumpEntry → Bool
is_of caller number e = is_call caller number e.origin

pub callee_found : (caller : List ℕ) (number : ℕ) (s : DumpService) (found : Option DumpEntry) → ∥ IsKept s ∥₁ → IsOneOf (is_of caller number) s.entries found
    → option_map act_of found ≡ callee_in caller number (map act_of s.entries)
callee_found caller number s found kept one =
    let alone : OfOne (is_of caller number) s.entries =
    ∥∥₁_elim kept (of_one_only (is_of caller number) s.entries) (λ k. one_caller caller number s.entries k.callers) in
    ap (option_map act_of) (sym (is_found (is_of caller number) s.entries found alone one)) ∙ find_map act_of (comes_from caller number) s.entries

abbrev has_id : ℕ → DumpEntry → Bool
has_id id e = nat_eq e.id id

pub entry_found : (id : ℕ) (s : DumpService) (found : Option DumpEntry) → ∥ IsKept s ∥₁ → IsOneOf (has_id id) s.entries found
    → option_map act_of found ≡ act_in id (map act_of s.entries)
entry_found id s found kept one =
    let alone : OfOne (has_id id) s.entries = ∥∥₁_elim kept (of_one_only (has_id id) s.entries) (λ k. one_id id s.entries k.ids) in
    ap (option_map act_of) (sym (is_found (has_id id) s.entries found alone one)) ∙ find_map act_of (λ (a : Act). nat_eq a.id id) s.entries

pub number_found : (number : ℕ) (s : DumpService) (found : Option DumpEntry) → ∥ IsKept s ∥₁ → IsOneOf (has_number number) s.entries found
    → option_map act_of found ≡ made_in number (map act_of s.entries)
number_found number s found kept one =
    let alone : OfOne (has_number number) s.entries = ∥∥₁_elim kept (of_one_only (has_number number) s.entries) (λ k. one_number number s.entries k.numbers) in
    ap (option_map act_of) (sym (is_found (has_number number) s.entries found alone one)) ∙ find_map act_of (λ (a : Act). list_any (nat_eq number) a.numbers) s.entries
