use Rattle.std.proofs.Common.{◌≡◌, ◌++◌, drop, map}
use Rattle.lang_grammar.specs.Grammar.{joined, stmt_tokens}
use Rattle.lang_grammar.proofs.stmts.+put.Given as goal

abbrev pub invariant-put_stmts-loop-stmt : goal.invariant-put_stmts-loop-stmt
invariant-put_stmts-loop-stmt l =
    l.out.items ++ joined (map stmt_tokens (drop l.stmt-index l.stmts)) ≡ l.fn.out.items ++ joined (map stmt_tokens l.fn.stmts)
