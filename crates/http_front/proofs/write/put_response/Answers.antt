use Rattle.std.proofs.Common.{◌++◌, ◌∷◌, ◌∙◌, ap, List, ℕ}
use Rattle.std.specs.Prelude.{codes, decimal}
use Rattle.std.specs.List.{flat_map}
use Rattle.http_front.specs.Writing.{Line, aire_lines, field_line, last_lines, phrase, type_line}
use Rattle.http_front.proofs.TextLemmas.{on_ok, joined_in_four, regroup_five, three_groups_one}
use Rattle.http_front.proofs.write.put_response.Goals as goal

pub returns : goal.returns
returns c =
    let r = c.args.response.now in
    let start = c.args.text.now.items in
    let line = codes "HTTP/1.1 " ++ (decimal r.status ++ (codes " " ++ (phrase r.status ++ codes "\r\n"))) in
    let aire : List Line = aire_lines r.head in
    let kind : Line = type_line r.head in
    let last : List Line = last_lines r.body in
    let tail : List ℕ = codes "\r\n" ++ r.body in
    let groups = three_groups_one field_line aire kind last tail in
    on_ok c.put_body.result
    (λ put. joined_in_four start c.put_status_line.new.text.items c.put_aire.new.text.items c.put_type.new.text.items c.put_body.new.text.items
    line (flat_map field_line aire) (field_line kind) (flat_map field_line last ++ tail)
    c.in_ok-put_status_line.ensures c.in_ok-put_aire.ensures c.in_ok-put_type.ensures put
    ∙ ap (λ (t : List ℕ). start ++ (line ++ t)) groups
    ∙ ap (λ (t : List ℕ). start ++ t) (regroup_five (codes "HTTP/1.1 ") (decimal r.status) (codes " ") (phrase r.status) (codes "\r\n") (flat_map field_line (aire ++ (kind ∷ last)) ++ tail)))
    c.put_body.ensures
