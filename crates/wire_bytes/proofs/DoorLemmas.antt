-- The notifier of a door is of its field's form exactly where the door is one.
use Rattle.std.proofs.Common.{◌≡◌, ℕ, ◌+◌, ◌-◌, Bool, true, false, List, ◌++◌, length, drop, codes, nat_eq, nat_le, refl, ◌∙◌, arith, length-append}
use Rattle.std.specs.List.{list_all, ends_with}
use Rattle.std.proofs.Math.Bool.{and-true}
use Rattle.std.proofs.Math.Seq.{drop-append-add}
use Rattle.std.proofs.lemmas.Bool.Decides.{nat_tests}
use Rattle.std.proofs.lemmas.List.Folds.{list_all-append}
use Rattle.std.proofs.lemmas.Slice.Eq.{bytes_eq-Decides}
use Rattle.lang_base.specs.Characters.{is_visible}
use Rattle.wire_fields.specs.Forms.{is_notifier}
use Rattle.wire_bytes.specs.Doors.{is_door, notifier_of}

-- what stands behind a door
abbrev behind : List ℕ
behind = codes "/aire/notify"

last_drop : (front last : List ℕ) → drop (length (front ++ last) - length last) (front ++ last) ≡ last
last_drop front last =
    let at : length (front ++ last) - length last ≡ length front + 0 = omega (arith, length-append front last) in
    rw at (drop-append-add front last 0)

ends : (front last : List ℕ) → ends_with nat_eq (front ++ last) last ≡ true
ends front last = rw (last_drop front last) ((bytes_eq-Decides last last).1 refl)

ended : (door : List ℕ) → ends_with nat_eq (notifier_of door) behind ≡ true
ended door = ends (codes "http://" ++ door) behind

long : (door : List ℕ) → length (notifier_of door) ≡ 19 + length door
long door = omega (arith, length-append door behind)

at_least : (n : ℕ) (b : Bool) → nat_le 1 n ≡ b → nat_le 20 (19 + n) ≡ b
at_least n true is = grind (arith, nat_tests)
at_least n false is = grind (arith, nat_tests)

at_most : (n : ℕ) (b : Bool) → nat_le n 64 ≡ b → nat_le (19 + n) 83 ≡ b
at_most n true is = grind (arith, nat_tests)
at_most n false is = grind (arith, nat_tests)

pub all_visible : (door : List ℕ) → list_all is_visible (notifier_of door) ≡ list_all is_visible door
all_visible door = list_all-append is_visible door behind ∙ and-true (list_all is_visible door)

pub notifier_form : (door : List ℕ) → is_notifier (notifier_of door) ≡ is_door door
notifier_form door =
    rw (ended door, long door, at_least (length door) (nat_le 1 (length door)) refl, at_most (length door) (nat_le (length door) 64) refl, all_visible door) refl
