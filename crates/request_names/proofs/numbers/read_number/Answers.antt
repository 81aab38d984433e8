use Rattle.std.proofs.Common.{◌≡◌, ◌∙◌, true}
use Rattle.std.specs.Char.{is_ascii_digit}
use Rattle.std.specs.List.{list_all}
use Rattle.request_names.specs.Numbers.{begins_well}
use Rattle.request_names.proofs.Parsed.{parsed}
use Rattle.request_names.proofs.numbers.read_number.Goals as goal

pub returns : goal.returns
returns c =
    let digits : list_all is_ascii_digit c.args.text.now ≡ true = cc in
    let well : begins_well c.args.text.now ≡ true = cc in
    c.ok.ensures.value ∙ parsed c.args.text.now _ c.parse.ensures.value.0 digits well
