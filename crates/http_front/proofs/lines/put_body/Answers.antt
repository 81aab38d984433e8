use Rattle.std.proofs.Common.{◌≡◌, ◌++◌, ◌∷◌, [], ◌∙◌, ap, List, ℕ, append_assoc}
use Rattle.std.specs.Prelude.{codes, decimal}
use Rattle.http_front.specs.Writing.{with_body}
use Rattle.http_front.proofs.TextLemmas.{on_ok}
use Rattle.http_front.proofs.lines.put_body.Goals as goal

last_text : (start number body : List ℕ)
    → (start ++ (codes "Content-Length: " ++ (number ++ codes "\r\nConnection: close\r\n\r\n"))) ++ body
    ≡ start ++ with_body ((codes "Content-Length", number) ∷ (codes "Connection", codes "close") ∷ []) body
last_text start number body = simp append_assoc

pub returns : goal.returns
returns c =
    let start = c.args.text.now.items in
    let body = c.args.body.now in
    let last = c.as_bytes.ensures.value ∙ c.in_ok-last.ensures.ok in
    let first = c.in_ok-put.ensures ∙ ap (λ (t : List ℕ). start ++ t) last in
    on_ok c.put-2.result
    (λ whole. whole ∙ ap (λ (t : List ℕ). c.put.new.text.items ++ t) c.as_bytes-2.ensures ∙ ap (λ (t : List ℕ). t ++ body) first
    ∙ last_text start (decimal c.len-length.result) body
    ∙ ap (λ (n : ℕ). start ++ with_body ((codes "Content-Length", decimal n) ∷ (codes "Connection", codes "close") ∷ []) body) c.len-length.ensures)
    c.put-2.ensures
