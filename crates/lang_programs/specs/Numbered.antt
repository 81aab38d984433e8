-- Programs by their numbers at a service.
use Rattle.std.specs.Prelude.{ℕ, List, refl}
use Rattle.std.specs.Coded.{Coded, coded_ℕ, code_by, coded×, coded_list}
use Rattle.lang_tree.specs.contracts.program.Route as route
use Rattle.lang_tree.specs.contracts.stmt.Block as block
use Rattle.lang_tree.specs.declared.program.Route.{Route}
use Rattle.lang_tree.specs.declared.stmt.Block.{Block}

-- a program, and the number that it has at a service, from 1
pub record Numbered : Type 0 where
  pub number : ℕ
  pub program : List Route

-- by which a proof tells two of them apart
abbrev pub numbered_code : Coded Numbered
numbered_code =
    code_by (ℕ × List Route) (coded× coded_ℕ (coded_list route.the_row.coded))
    (λ n. (n.number, n.program)) (λ p. record { number = p.0; program = p.1 }) (λ _. refl)

-- by which a proof tells two handlers apart
abbrev pub block_code : Coded Block
block_code = block.the_row.coded
