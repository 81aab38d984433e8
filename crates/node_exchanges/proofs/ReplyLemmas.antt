-- What is said on a connection where nothing is heard.
use Rattle.std.proofs.Common.{◌≡◌, ℕ, List, [], Option, Some, None, refl, sym, ap, ◌∙◌, subst}
use Rattle.std.proofs.lemmas.List.{append-nil}
use Rattle.io_edge.specs.Edge.{Writes, Wrote}
use Rattle.http_front.specs.declared.message.FrontRefused.{FrontRefused}
use Rattle.wire_fields.specs.declared.refused.WireRefused.{WireRefused}
use Rattle.wire_replies.specs.declared.replies.Outgoing.TheVariants as replies
use Rattle.wire_words.specs.Words.{front_word, wire_word}
use Rattle.wire_bytes.specs.declared.hearing.Unheard.TheVariants as unheard
use Rattle.node_exchanges.specs.Replies.{IsCutShort, IsRefusedSo, SaysIt, instead, refusal_bytes}
use Rattle.node_exchanges.specs.declared.served.Served.{Served}
use Rattle.node_exchanges.specs.declared.served.Served.TheVariants as served

pub wrote_nothing : (before now : Writes) → now ≡ before → Wrote before now []
wrote_nothing before now same all is = ap (λ (w : Writes). w.written) same ∙ is ∙ ap Some (sym (append-nil all))

-- where there is no word, nothing is written
pub front_silent : (why : FrontRefused) (before now : Writes) → front_word why ≡ None → now ≡ before
    → IsRefusedSo (unheard.Front why) before now (served.FrontRefused why)
front_silent why before now none same =
    (refl, subst (λ (w : Option (List ℕ)). Wrote before now (refusal_bytes w)) (sym none) (wrote_nothing before now same))

module _ (me secret word : List ℕ) (before now : Writes) where
  abbrev Says : Served → Type 0
  Says said = SaysIt me secret None (replies.Refused word 0) before now said

  pub front_said : (why : FrontRefused) (said : Served) → front_word why ≡ Some word → Says said
      → IsRefusedSo (unheard.Front why) before now (instead said (served.FrontRefused why))
  front_said why (served.Said response) is says = (refl, subst (λ (w : Option (List ℕ)). Wrote before now (refusal_bytes w)) (sym is) says.1)
  front_said why served.WriteFault is says = subst (λ (w : Option (List ℕ)). IsCutShort before now (refusal_bytes w)) (sym is) says
  front_said why served.NoMemory is says = says
  front_said why (served.Committed index) is says = absurd says
  front_said why (served.Console asked) is says = absurd says
  front_said why (served.FrontRefused other) is says = absurd says
  front_said why (served.WireRefused other) is says = absurd says
  front_said why served.Gone is says = absurd says

  pub wire_said : (why : WireRefused) (said : Served) → word ≡ wire_word why → Says said
      → IsRefusedSo (unheard.Wire why) before now (instead said (served.WireRefused why))
  wire_said why (served.Said response) is says = (refl, subst (λ (w : List ℕ). Wrote before now (refusal_bytes (Some w))) is says.1)
  wire_said why served.WriteFault is says = subst (λ (w : List ℕ). IsCutShort before now (refusal_bytes (Some w))) is says
  wire_said why served.NoMemory is says = says
  wire_said why (served.Committed index) is says = absurd says
  wire_said why (served.Console asked) is says = absurd says
  wire_said why (served.FrontRefused other) is says = absurd says
  wire_said why (served.WireRefused other) is says = absurd says
  wire_said why served.Gone is says = absurd says
