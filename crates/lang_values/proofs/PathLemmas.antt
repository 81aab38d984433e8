-- Paths without their first slash, and the pieces of a path as values.
use Rattle.std.proofs.Common.{◌≡◌, ◌∙◌, ◌≢◌, ℕ, Bool, true, false, cond, Option, Some, None, option_map, List, [], ◌∷◌, map, eqb, refl, sym, ap, arith}
use Rattle.std.specs.Prelude.{slice_get}
use Rattle.std.proofs.lemmas.Option.{slice_get-map}
use Rattle.lang_core.specs.declared.value.Value.TheVariants.{Str, Nothing}
use Rattle.lang_values.specs.Paths.{past_slash}
use Rattle.lang_values.specs.Values.{text_or_nothing}

by_test : (t : Bool) (b : ℕ) (bs : List ℕ) → eqb b 47 ≡ t → ((rest : List ℕ) → b ∷ bs ≢ 47 ∷ rest) → cond t bs (b ∷ bs) ≡ b ∷ bs
by_test true b bs e h = absurd (h bs (grind arith))
by_test false b bs e h = refl

pub past_slash_none : (path : List ℕ) → ((rest : List ℕ) → path ≢ 47 ∷ rest) → path ≡ past_slash path
past_slash_none [] h = refl
past_slash_none (b ∷ bs) h = sym (by_test (eqb b 47) b bs refl h)

pub past_slash_some : (path rest : List ℕ) → path ≡ 47 ∷ rest → rest ≡ past_slash path
past_slash_some path rest e = rw e refl

-- a piece of a path as the value of `path`, where pieces are seen as their texts

pub segment_missing : {X : Type 0} (text : X → List ℕ) (segments : List X) (k : ℕ) → None ≡ slice_get segments k → Nothing ≡ text_or_nothing (slice_get (map text segments) k)
segment_missing {X} text segments k h = ap (λ (o : Option X). text_or_nothing (option_map text o)) h ∙ ap text_or_nothing (sym (slice_get-map text segments k))

pub segment_there : {X : Type 0} (text : X → List ℕ) (segments : List X) (k : ℕ) (x : X) → Some x ≡ slice_get segments k → Str (text x) ≡ text_or_nothing (slice_get (map text segments) k)
segment_there {X} text segments k x h = ap (λ (o : Option X). text_or_nothing (option_map text o)) h ∙ ap text_or_nothing (sym (slice_get-map text segments k))
