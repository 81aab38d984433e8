use Rattle.std.proofs.Common.{ap, ◌∙◌}
use Rattle.http_header.specs.FieldName.{is_field_name}
use Rattle.wire_fields.proofs.HeaderNames.{named}
use Rattle.wire_fields.proofs.heads.put_value.Goals as goal

pub append-requires : goal.append-requires
append-requires c = ap is_field_name c.spelling.ensures ∙ named c.args.header
