-- Refusals that a peer has to tell apart have words of their own, and these stand in the table.
use Rattle.std.proofs.Common.{◌≡◌, ℕ, List, Option, Some, None, IsSome, cond, codes, refl, sym, subst, ap, ◌∙◌}
use Rattle.lang_base.specs.Texts.{same_text}
use Rattle.http_front.specs.declared.header.AireHeader.TheVariants.{From}
use Rattle.http_front.specs.declared.message.FrontRefused.{FrontRefused}
use Rattle.http_front.specs.declared.message.FrontRefused.TheVariants as front
use Rattle.wire_fields.specs.declared.refused.WireRefused.{WireRefused}
use Rattle.wire_fields.specs.declared.refused.WireRefused.TheVariants as wire
use Rattle.wire_words.specs.Words.{IsFrontWord, IsWireWord, front_word, of_any_field, wire_word}

-- ---- why no HTTP message was read

front_named : List ℕ → Option FrontRefused
front_named word =
    cond (same_text word (codes "nomemory")) (Some front.NoMemory)
    (cond (same_text word (codes "head")) (Some front.BadHead)
    (cond (same_text word (codes "headlong")) (Some front.HeadTooLong)
    (cond (same_text word (codes "body")) (Some front.BodyTooLong)
    (cond (same_text word (codes "coding")) (Some front.Coding)
    (cond (same_text word (codes "length")) (Some front.BadLength)
    (cond (same_text word (codes "text")) (Some front.NotText)
    (cond (same_text word (codes "method")) (Some front.Method) None)))))))

front_named_if : Option (List ℕ) → Option FrontRefused
front_named_if None = None
front_named_if (Some word) = front_named word

front_back : (why : FrontRefused) → IsSome (front_word why) → front_named_if (front_word why) ≡ Some why
unfolding front_named front_named_if
front_back front.NoMemory some = refl
front_back front.ReadFault some = absurd (cc some)
front_back (front.Cut n) some = absurd (cc some)
front_back front.BadHead some = refl
front_back front.HeadTooLong some = refl
front_back front.BodyTooLong some = refl
front_back front.Coding some = refl
front_back front.BadLength some = refl
front_back front.NotText some = refl
front_back front.Method some = refl

pub front_apart : (why : FrontRefused) → IsFrontWord why
front_apart why = λ other some same.
    let it : ◌≡◌ {A = Option FrontRefused} (Some other) (Some why) =
    sym (front_back other (subst (λ (word : Option (List ℕ)). IsSome word) (sym same) some)) ∙ ap front_named_if same ∙ front_back why some in
    cc

-- ---- why one is no message between services

wire_named : List ℕ → Option WireRefused
wire_named word =
    cond (same_text word (codes "nomemory")) (Some wire.NoMemory)
    (cond (same_text word (codes "missing")) (Some (wire.MissingHeader From))
    (cond (same_text word (codes "bad")) (Some (wire.BadHeader From))
    (cond (same_text word (codes "kind")) (Some wire.UnknownKind)
    (cond (same_text word (codes "seal")) (Some wire.Seal) None))))

wire_back : (why : WireRefused) → wire_named (wire_word why) ≡ Some (of_any_field why)
unfolding wire_named
wire_back wire.NoMemory = refl
wire_back (wire.MissingHeader header) = refl
wire_back (wire.BadHeader header) = refl
wire_back wire.UnknownKind = refl
wire_back wire.Seal = refl

pub wire_apart : (why : WireRefused) → IsWireWord why
wire_apart why = λ other same.
    let it : ◌≡◌ {A = Option WireRefused} (Some (of_any_field other)) (Some (of_any_field why)) =
    sym (wire_back other) ∙ ap wire_named same ∙ wire_back why in
    cc
