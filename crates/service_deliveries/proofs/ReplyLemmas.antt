-- Replies that are changed where there is one, and a reply that is changed twice.
use Rattle.std.proofs.Common.{◌≡◌, ap, refl, sym, ℕ, ◌∙◌, Bool, true, false, cond, List, [], ◌∷◌, Option, Some, None, is_some, Bor}
use Rattle.std.specs.Option.{option_copied}
use Rattle.call_registers.specs.Replies.{has_entry, reply, at_entry, made_due, with_taken}
use Rattle.call_registers.specs.declared.reply.Reply.{Reply}
use Rattle.service_parts.proofs.ReplyLemmas.{unchanged}

copied_some : (found : Option (Bor Reply)) → is_some found ≡ is_some (option_copied found)
copied_some None = refl
copied_some (Some p) = refl

-- a change of a reply that was not found changes nothing
pub not_found : (found : Option (Bor Reply)) (there : Bool) (id : ℕ) (f : Reply → Reply) (ps : List Reply) → option_copied found ≡ reply id ps → there ≡ is_some found
    → there ≡ false → ps ≡ at_entry id f ps
not_found found there id f ps get test absent = unchanged there id f ps (test ∙ copied_some found ∙ ap is_some get) absent

twice_if : (b : Bool) (id since version : ℕ) (wanted : Bool) (p : Reply) (ps : List Reply) → b ≡ has_entry id p
    → at_entry id (made_due since) (at_entry id (with_taken version wanted) ps) ≡ at_entry id (λ p. made_due since (with_taken version wanted p)) ps
    → at_entry id (made_due since) (cond b (with_taken version wanted p ∷ ps) (p ∷ at_entry id (with_taken version wanted) ps))
    ≡ cond b (made_due since (with_taken version wanted p) ∷ ps) (p ∷ at_entry id (λ p. made_due since (with_taken version wanted p)) ps)
twice_if true id since version wanted p ps is rest = rw (sym is) refl
twice_if false id since version wanted p ps is rest = rw (sym is) (ap (λ l. p ∷ l) rest)

-- taken first and due then, it is both
pub taken_and_due : (id since version : ℕ) (wanted : Bool) (ps : List Reply)
    → at_entry id (made_due since) (at_entry id (with_taken version wanted) ps) ≡ at_entry id (λ p. made_due since (with_taken version wanted p)) ps
taken_and_due id since version wanted [] = refl
taken_and_due id since version wanted (p ∷ ps) = twice_if (has_entry id p) id since version wanted p ps refl (taken_and_due id since version wanted ps)
