-- Bytes without a head's end.
use Rattle.std.proofs.Common.{◌≡◌, ℕ, ◌<◌, ◌≤◌, ◌⊎◌, Bool, true, false, ◌||◌, List, [], ◌∷◌, ◌++◌, Some, length, take, refl, sym, subst, ap, ◌∙◌, arith, inl, inr, length-append}
use Rattle.std.proofs.Math.Seq.{take-nil}
use Rattle.std.proofs.lemmas.Bool.{cases_lt}
use Rattle.std.proofs.lemmas.List.{append-nil, take_all, take-append-le, drop_at}
use Rattle.io_edge.specs.Edge.{Reads, Took, IsAtEnd}
use Rattle.std.specs.List.{list_any}
use Rattle.std.proofs.lemmas.List.Folds.{list_any-append}
use Rattle.http_front.specs.Ends.{ends_head, is_of_line}
use Rattle.http_front.specs.Reading.{HasNoHead, NeverEnds}
use Rattle.http_front.proofs.HeadEnds.{one_more}
use Rattle.http_front.specs.declared.message.FrontRefused.TheVariants.{Cut, HeadTooLong}

abbrev pub Unended : List ℕ → Type 0
Unended bytes = (n : ℕ) → n ≤ length bytes → ends_head (take n bytes) ≡ false

none_ended : (n : ℕ) → ends_head (take n []) ≡ false
unfolding ends_head
none_ended n = rw (take-nil {A = ℕ} n) refl

-- no bytes end a head
pub nothing_ended : (bytes : List ℕ) → bytes ≡ [] → Unended bytes
nothing_ended bytes none = λ n within. rw none (none_ended n)

never_at : (bytes : List ℕ) → Unended bytes → (n : ℕ) → (n < length bytes) ⊎ (length bytes ≤ n) → ends_head (take n bytes) ≡ false
never_at bytes unended n (inl few) = unended n (omega arith)
never_at bytes unended n (inr all) =
    rw (take_all n bytes all) (rw (take_all (length bytes) bytes (omega arith)) at (unended (length bytes) (omega arith)))

-- bytes that aren't more never end one
pub never_ends : (bytes : List ℕ) → Unended bytes → NeverEnds bytes
never_ends bytes unended = λ n within. never_at bytes unended n (cases_lt n (length bytes))

-- a front that ends none, of 16,384 bytes
pub never_ends_front : (front rest : List ℕ) → length front ≡ 16384 → Unended front → NeverEnds (front ++ rest)
never_ends_front front rest full unended = λ n within.
    let inside : n ≤ length front = omega arith in
    rw (take-append-le n front rest inside) (unended n inside)

-- the source ended
pub cut_short : (before mid now : Reads) (head : List ℕ) (n : ℕ) → Took before mid head → Took mid now [] → IsAtEnd now → length head < 16384 → Unended head → n ≡ length head
    → (all : List ℕ) → before.left ≡ Some all → (rest : List ℕ) × (now.left ≡ Some rest) × HasNoHead all (Cut n) rest
cut_short before mid now head n took nothing ended few unended is = λ all told.
    let first = took all told in
    let second = nothing first.0 first.1 in
    let none : second.0 ≡ [] = ended second.0 second.1 in
    let same : all ≡ head = first.2 ∙ ap (λ (rest : List ℕ). head ++ rest) (second.2 ∙ none) ∙ append-nil head in (
      second.0,
      second.1,
      subst (λ (bytes : List ℕ). HasNoHead bytes (Cut n) second.0) (sym same) (never_ends head unended, inl (few, ap Cut is, none)),
    )

-- there is no end within the limit
pub too_long : (before now : Reads) (head : List ℕ) → Took before now head → length head ≡ 16384 → Unended head
    → (all : List ℕ) → before.left ≡ Some all → (rest : List ℕ) × (now.left ≡ Some rest) × HasNoHead all HeadTooLong rest
too_long before now head took full unended = λ all told.
    let first = took all told in
    let rest = first.0 in (
      rest,
      first.1,
      subst (λ (bytes : List ℕ). HasNoHead bytes HeadTooLong rest) (sym first.2) (
        never_ends_front head rest full unended,
        inr (omega (arith, length-append head rest), refl, sym (drop_at head rest 16384 full)),
      ),
    )

-- ---- one byte more

or_nothing : (b : Bool) → (b || false) ≡ b
or_nothing true = refl
or_nothing false = refl

-- whether a line has begun
pub begun_more : (begun now : Bool) (byte : ℕ) (head bytes : List ℕ) → begun ≡ list_any is_of_line head → now ≡ (begun || is_of_line byte) → bytes ≡ head ++ byte ∷ []
    → now ≡ list_any is_of_line bytes
begun_more begun now byte head bytes was is more =
    let here : list_any is_of_line (byte ∷ []) ≡ is_of_line byte = or_nothing (is_of_line byte) in
    let whole : list_any is_of_line bytes ≡ (list_any is_of_line head || is_of_line byte) =
    ap (list_any is_of_line) more ∙ list_any-append is_of_line head (byte ∷ []) ∙ ap (λ (b : Bool). list_any is_of_line head || b) here in
    is ∙ ap (λ (b : Bool). b || is_of_line byte) was ∙ sym whole

-- none of the bytes before it, nor this one, ends a head
pub unended_more : (head : List ℕ) (byte : ℕ) (bytes : List ℕ) → bytes ≡ head ++ byte ∷ [] → Unended head → ends_head bytes ≡ false → Unended bytes
unended_more head byte bytes more unended quiet =
    let now : ends_head (head ++ byte ∷ []) ≡ false = ap ends_head (sym more) ∙ quiet in
    let P : List ℕ → Type 0 = λ xs. Unended xs in
    subst P (sym more) (one_more head byte unended now)
