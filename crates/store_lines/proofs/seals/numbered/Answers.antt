use Rattle.std.proofs.Common.{◌≡◌, ◌++◌, ◌∙◌, ap, List, ℕ}
use Rattle.std.specs.Prelude.{codes, decimal}
use Rattle.std.proofs.lemmas.List.{append_assoc}
use Rattle.sqlite_disk.specs.Digest.{digest}
use Rattle.store_lines.specs.Seals.{letters}
use Rattle.store_lines.proofs.seals.numbered.Goals as goal

pub returns : goal.returns
returns c =
    let text = c.args.text.now in
    let front : c.extend_from_slice.new.self.items ≡ (decimal c.args.at ++ codes " ") ++ text = c.in_ok-extend_from_slice.ensures.items ∙ ap (λ (l : List ℕ). l ++ text) c.in_ok-line.ensures in
    let spaced : c.extend_from_slice-2.new.self.items ≡ ((decimal c.args.at ++ codes " ") ++ text) ++ codes " " = c.in_ok-extend_from_slice-2.ensures.items ∙ ap (λ (l : List ℕ). l ++ codes " ") front in
    let seal : c.letters_of.result ≡ letters c.args.first (digest c.args.at text) = c.letters_of.ensures ∙ ap (λ (n : ℕ). letters c.args.first n) c.digest_of.ensures.value in
    c.in_ok-extend_from_slice-3.ensures.items
    ∙ ap (λ (l : List ℕ). l ++ c.letters_of.result) spaced
    ∙ ap (λ (l : List ℕ). (((decimal c.args.at ++ codes " ") ++ text) ++ codes " ") ++ l) seal
    ∙ append_assoc ((decimal c.args.at ++ codes " ") ++ text) (codes " ") (letters c.args.first (digest c.args.at text))
    ∙ append_assoc (decimal c.args.at ++ codes " ") text (codes " " ++ letters c.args.first (digest c.args.at text))
    ∙ append_assoc (decimal c.args.at) (codes " ") (text ++ (codes " " ++ letters c.args.first (digest c.args.at text)))
