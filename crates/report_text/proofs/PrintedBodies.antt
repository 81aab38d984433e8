-- A body as it is printed stands for what it was printed of.
use Rattle.std.proofs.Common.{◌≡◌, ℕ, Bool, true, false, List, [], ◌∷◌, ◌++◌, Option, Some, Result, Ok, Err, IfOk, nat_eq, ◌==◌, arith, refl, sym, ap, ◌∙◌, eqb-true}
use Rattle.std.specs.List.{flat_map}
use Rattle.std.proofs.lemmas.Bool.Decides.{nat_tests}
use Rattle.lang_base.specs.declared.memory.NoMemory.{NoMemory}
use Rattle.report_text.specs.Reports.{body_byte, escaped_body}
use Rattle.report_text.specs.Escapes.{byte_before, unescaped, unescaped_from}

not_slash : (b : ℕ) → nat_eq b 92 ≡ false → (b == 92) ≡ false
not_slash b h = grind (arith, nat_tests)

-- a byte as it is printed, and others behind it
byte_back : (slash feed return : Bool) (b : ℕ) (rest text : List ℕ) → nat_eq b 92 ≡ slash → nat_eq b 10 ≡ feed → nat_eq b 13 ≡ return
    → unescaped_from rest false ≡ Some text → unescaped_from (body_byte b ++ rest) false ≡ Some (b ∷ text)
byte_back true feed return b rest text s f r h = rw s (ap (byte_before (Some 92)) h ∙ ap (λ n. Some (n ∷ text)) (sym (eqb-true b 92 s)))
byte_back false true return b rest text s f r h = rw (s, f) (ap (byte_before (Some 10)) h ∙ ap (λ n. Some (n ∷ text)) (sym (eqb-true b 10 f)))
byte_back false false true b rest text s f r h = rw (s, f, r) (ap (byte_before (Some 13)) h ∙ ap (λ n. Some (n ∷ text)) (sym (eqb-true b 13 r)))
byte_back false false false b rest text s f r h = let other : (b == 92) ≡ false = not_slash b s in rw (s, f, r, other) (ap (byte_before (Some b)) h)

printed_from : (text : List ℕ) → unescaped_from (flat_map body_byte text) false ≡ Some text
printed_from [] = refl
printed_from (b ∷ text) = byte_back (nat_eq b 92) (nat_eq b 10) (nat_eq b 13) b (flat_map body_byte text) text refl refl refl (printed_from text)

pub reads_back : (r : Result (Option (List ℕ)) NoMemory) (body : List ℕ) → IfOk r (λ read. read ≡ unescaped body) → (text : List ℕ) → body ≡ escaped_body text → IfOk r (λ read. read ≡ Some text)
reads_back (Ok read) body is text e = is ∙ ap unescaped e ∙ printed_from text
reads_back (Err why) body is text e = tt
