use Rattle.std.proofs.Common.{◌++◌, ◌∙◌, ap, List, ℕ}
use Rattle.std.specs.Prelude.{codes}
use Rattle.std.specs.List.{flat_map}
use Rattle.lang_tree.specs.Methods.{method_word}
use Rattle.http_front.specs.Writing.{Line, aire_lines, field_line, first_of, last_lines}
use Rattle.http_front.proofs.TextLemmas.{on_ok, joined_in_four, regroup_four_pieces, three_groups}
use Rattle.http_front.proofs.write.put_request.Goals as goal

pub returns : goal.returns
returns c =
    let r = c.args.request.now in
    let start = c.args.text.now.items in
    let line = method_word r.method ++ (codes " " ++ (r.path ++ codes " HTTP/1.1\r\n")) in
    let host : List Line = first_of r.head (codes "Host") in
    let aire : List Line = aire_lines r.head in
    let last : List Line = last_lines r.body in
    let tail : List ℕ = codes "\r\n" ++ r.body in
    let groups = three_groups field_line host aire last tail in
    on_ok c.put_body.result
    (λ put. joined_in_four start c.put_request_line.new.text.items c.put_first.new.text.items c.put_aire.new.text.items c.put_body.new.text.items
    line (flat_map field_line host) (flat_map field_line aire) (flat_map field_line last ++ tail)
    c.in_ok-put_request_line.ensures c.in_ok-put_first.ensures c.in_ok-put_aire.ensures put
    ∙ ap (λ (t : List ℕ). start ++ (line ++ t)) groups
    ∙ ap (λ (t : List ℕ). start ++ t) (regroup_four_pieces (method_word r.method) (codes " ") r.path (codes " HTTP/1.1\r\n") (flat_map field_line (host ++ (aire ++ last)) ++ tail)))
    c.put_body.ensures
