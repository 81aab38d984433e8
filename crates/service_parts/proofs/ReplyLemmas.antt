-- A reply that isn't there.
use Rattle.std.proofs.Common.{◌≡◌, ◌∙◌, sym, ap, refl, ℕ, Bool, true, false, cond, List, [], ◌∷◌, Option, Some, None, is_some}
use Rattle.call_registers.specs.Changes.{change as change_first}
use Rattle.call_registers.specs.Replies.{has_entry, reply, at_entry}
use Rattle.call_registers.specs.declared.reply.Reply.{Reply}

none_first : (b : Bool) (p : Reply) (o : Option Reply) → cond b (Some p) o ≡ None → (b ≡ false) × (o ≡ None)
none_first true p o h = cc
none_first false p o h = (refl, h)

skipped : (b : Bool) (xs ys : List Reply) → b ≡ false → cond b xs ys ≡ ys
skipped true xs ys h = cc
skipped false xs ys h = refl

absent_same : (id : ℕ) (f : Reply → Reply) (ps : List Reply) → reply id ps ≡ None → ps ≡ at_entry id f ps
absent_same id f [] h = refl
absent_same id f (p ∷ ps) h =
    let a = none_first (has_entry id p) p (reply id ps) h in
    ap (λ l. p ∷ l) (absent_same id f ps a.1) ∙ sym (skipped (has_entry id p) (f p ∷ ps) (p ∷ change_first (has_entry id) f ps) a.0)

no_some : (o : Option Reply) → is_some o ≡ false → o ≡ None
no_some None h = refl
no_some (Some p) h = cc

-- a change of a reply that isn't there changes nothing
pub unchanged : (there : Bool) (id : ℕ) (f : Reply → Reply) (ps : List Reply) → there ≡ is_some (reply id ps) → there ≡ false → ps ≡ at_entry id f ps
unchanged there id f ps h e = absent_same id f ps (no_some (reply id ps) (sym h ∙ e))
