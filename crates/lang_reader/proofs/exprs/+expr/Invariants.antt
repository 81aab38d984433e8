use Rattle.std.proofs.Common.{◌+◌, ◌*◌}
use Rattle.lang_reader.proofs.exprs.+expr.Given as goal

abbrev pub decreases-expr : goal.decreases-expr
decreases-expr l = 5 * l.levels

abbrev pub decreases-before_comma : goal.decreases-before_comma
decreases-before_comma l = 5 * l.levels + 1

abbrev pub decreases-before_right : goal.decreases-before_right
decreases-before_right l = 5 * l.levels + 1

abbrev pub decreases-before_op : goal.decreases-before_op
decreases-before_op l = 5 * l.levels + 1

abbrev pub decreases-texts : goal.decreases-texts
decreases-texts l = 5 * l.levels + 2

abbrev pub decreases-number : goal.decreases-number
decreases-number l = 5 * l.levels + 2

abbrev pub decreases-as_text : goal.decreases-as_text
decreases-as_text l = 5 * l.levels + 2

abbrev pub decreases-pair : goal.decreases-pair
decreases-pair l = 5 * l.levels + 2

abbrev pub decreases-part : goal.decreases-part
decreases-part l = 5 * l.levels + 3

abbrev pub decreases-any_expr : goal.decreases-any_expr
decreases-any_expr l = 5 * l.levels + 4
