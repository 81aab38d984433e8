-- The texts of refusals are of their form and read back.
use Rattle.std.proofs.Common.{◌≡◌, ℕ, ◌<◌, ◌^◌, Bool, true, false, cond, List, [], ◌∷◌, ◌++◌, Option, Some, None, IsSome, is_some, find, length, decimal, nat_lt, ◌==◌, refl, sym, subst, arith, length-append}
use Rattle.std.specs.List.{list_all}
use Rattle.std.specs.Str.{is_utf8}
use Rattle.std.proofs.Math.Seq.{take-append_seam, drop-append-add}
use Rattle.std.proofs.lemmas.Bool.Decides.{nat_tests}
use Rattle.std.proofs.lemmas.Slice.Eq.{bytes_eq-Decides}
use Rattle.std.proofs.lemmas.Str.{IsAscii-append}
use Rattle.std.proofs.lemmas.Str.Ascii.{IsAscii-cons}
use Rattle.lang_base.specs.Characters.{is_lower}
use Rattle.repair_messages.specs.Refusals.{has_number, is_spelled, said_words, word_said, word_status, word_text}
use Rattle.repair_messages.specs.declared.refusals.RefusalWord.{RefusalWord}
use Rattle.repair_messages.specs.declared.refusals.RefusalWord.TheVariants.{NoMemory, Full, NotYet, Gone, NoFlight, Denied, Unknown, Foreign, NoSuchRequest, NotHeld, NotOutside, TooOld, NotQuiet, NoSuchProgram}
use Rattle.wire_fields.specs.Unread.{is_spelled as is_unread, unread_text, unread_word, unread_words}
use Rattle.wire_fields.specs.Words.{alone, cut_space, lone_status, numbered, numbered_status, refusal_of, refusal_text, unread_or}
use Rattle.wire_fields.specs.declared.unread.UnreadWord.{UnreadWord}
use Rattle.wire_fields.specs.declared.unread.UnreadWord.TheVariants.{Head, HeadTooLong, Length, Text, Body, Coding, Method, Missing, Bad, Kind, Seal}
use Rattle.wire_fields.proofs.SpeltLemmas.{ascii_by, decimal_ascii, number_back, place_nowhere, place_past, utf8_of_ascii}

-- what is found passes
found_passes : {X : Type 0} (p : X → Bool) (xs : List X) (x : X) → find p xs ≡ Some x → p x ≡ true
found_passes p [] x is = absurd (cc is)
found_passes p (y ∷ ys) x is = by (p y) refl is (found_passes p ys x)
  where
    by : (b : Bool) → p y ≡ b → cond b (Some y) (find p ys) ≡ Some x → (find p ys ≡ Some x → p x ≡ true) → p x ≡ true
    by true passes first later = let same : y ≡ x = cc in subst (λ z. p z ≡ true) same passes
    by false fails others later = later others

-- the word that is found is spelled so
pub said_spelled : (text : List ℕ) (word : RefusalWord) → word_said text ≡ Some word → text ≡ word_text word
unfolding word_said
said_spelled text word is = sym ((bytes_eq-Decides (word_text word) text).0 (found_passes (is_spelled text) said_words word is))

unread_spelled : (text : List ℕ) (word : UnreadWord) → unread_word text ≡ Some word → text ≡ unread_text word
unfolding unread_word
unread_spelled text word is = sym ((bytes_eq-Decides (unread_text word) text).0 (found_passes (is_unread text) unread_words word is))

abbrev pub Lower : List ℕ → Type 0
Lower word = list_all is_lower word ≡ true

abbrev pub Lone : List ℕ → Type 0
Lone word = Lower word × (is_some (numbered_status word) ≡ false)

unread_lone : (word : UnreadWord) → Lone (unread_text word)
unfolding numbered_status word_said
unread_lone Head = (refl, refl)
unread_lone HeadTooLong = (refl, refl)
unread_lone Length = (refl, refl)
unread_lone Text = (refl, refl)
unread_lone Body = (refl, refl)
unread_lone Coding = (refl, refl)
unread_lone Method = (refl, refl)
unread_lone Missing = (refl, refl)
unread_lone Bad = (refl, refl)
unread_lone Kind = (refl, refl)
unread_lone Seal = (refl, refl)

lower_word : (word : RefusalWord) → Lower (word_text word)
lower_word NoMemory = refl
lower_word Full = refl
lower_word NotYet = refl
lower_word Gone = refl
lower_word NoFlight = refl
lower_word Denied = refl
lower_word Unknown = refl
lower_word Foreign = refl
lower_word NoSuchRequest = refl
lower_word NotHeld = refl
lower_word NotOutside = refl
lower_word TooOld = refl
lower_word NotQuiet = refl
lower_word NoSuchProgram = refl

unnumbered : (text : List ℕ) (word : RefusalWord) (b : Bool) → word_said text ≡ Some word → has_number word ≡ b
    → IsSome (cond b None (Some (word_status word))) → is_some (numbered_status text) ≡ false
unfolding numbered_status
unnumbered text word true said has some = absurd (cc some)
unnumbered text word false said has some = rw (said, has) refl

pub lone_word : (word : List ℕ) → IsSome (lone_status word) → Lone word
unfolding lone_status
lone_word text some = by (unread_word text) refl (word_said text) refl some
  where
    by : (u : Option UnreadWord) → unread_word text ≡ u → (o : Option RefusalWord) → word_said text ≡ o → IsSome (unread_or u (alone o)) → Lone text
    by (Some word) is o said some = subst Lone (sym (unread_spelled text word is)) (unread_lone word)
    by None is None said some = absurd (cc some)
    by None is (Some word) said some = (subst Lower (sym (said_spelled text word said)) (lower_word word), unnumbered text word (has_number word) said refl some)

pub numbered_word : (word : List ℕ) → IsSome (numbered_status word) → Lower word
unfolding numbered_status
numbered_word text some = by (word_said text) refl some
  where
    by : (o : Option RefusalWord) → word_said text ≡ o → IsSome (numbered o) → Lower text
    by None said some = absurd (cc some)
    by (Some word) said some = subst Lower (sym (said_spelled text word said)) (lower_word word)

lower_small : (b : ℕ) → is_lower b ≡ true → b < 128
lower_small b is = grind (arith, nat_tests)

no_space : (b : ℕ) → is_lower b ≡ true → (b == 32) ≡ false
no_space b is = grind (arith, nat_tests)

-- ---- a word that stands alone

uncut : (word : List ℕ) → list_all is_lower word ≡ true → cut_space word ≡ None
uncut word all =
    let at = place_nowhere is_lower 32 no_space word all in
    let outside : nat_lt (length word) (length word) ≡ false = grind (arith, nat_tests) in
    rw (at, outside) refl

pub lone_text : (word : List ℕ) (n : ℕ) → IsSome (lone_status word) → refusal_text word n ≡ word
lone_text word n is = rw (lone_word word is).1 refl

pub lone_back : (word : List ℕ) → IsSome (lone_status word) → refusal_of word ≡ Some (word, 0)
lone_back word is = rw (uncut word (lone_word word is).0, is) refl

pub lone_utf8 : (word : List ℕ) → IsSome (lone_status word) → is_utf8 word ≡ true
lone_utf8 word is = utf8_of_ascii word (ascii_by is_lower lower_small word (lone_word word is).0)

-- ---- a word with a number

cut : (word digits : List ℕ) → list_all is_lower word ≡ true → cut_space (word ++ 32 ∷ digits) ≡ Some (word, digits)
cut word digits all =
    let at = place_past is_lower 32 no_space word digits all refl in
    let inside : nat_lt (length word) (length (word ++ 32 ∷ digits)) ≡ true = grind (arith, nat_tests, length-append) in
    rw (at, inside, take-append_seam word (32 ∷ digits), drop-append-add word (32 ∷ digits) 1) refl

pub numbered_text : (word : List ℕ) (n : ℕ) → IsSome (numbered_status word) → refusal_text word n ≡ word ++ 32 ∷ decimal n
numbered_text word n is = rw is refl

pub numbered_back : (word : List ℕ) (n : ℕ) → IsSome (numbered_status word) → n < 2 ^ 64 → refusal_of (word ++ 32 ∷ decimal n) ≡ Some (word, n)
numbered_back word n is small = rw (cut word (decimal n) (numbered_word word is), is, number_back n small) refl

pub numbered_utf8 : (word : List ℕ) (n : ℕ) → IsSome (numbered_status word) → n < 2 ^ 64 → is_utf8 (word ++ 32 ∷ decimal n) ≡ true
numbered_utf8 word n is small =
    utf8_of_ascii (word ++ 32 ∷ decimal n)
    (IsAscii-append word (32 ∷ decimal n) (ascii_by is_lower lower_small word (numbered_word word is))
    (IsAscii-cons 32 (decimal n) (omega arith) (decimal_ascii n small)))
