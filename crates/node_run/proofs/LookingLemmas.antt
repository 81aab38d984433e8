-- What an operator is told who asks for the verdict.
use Rattle.std.proofs.Common.{ℕ, List}
use Rattle.io_edge.specs.Edge.{Writes}
use Rattle.world_file.specs.declared.setup.Setup.{Setup}
use Rattle.node_workers.specs.HandedOn.{Served}
use Rattle.node_workers.specs.Written.{IsTextSo}
use Rattle.node_workers.specs.HandedOn as served
use Rattle.node_run.specs.Looking.{IsLiveVerdict, IsVerdictTold}

-- the line is written, or its write fails, or memory is wanting for that
pub verdict_told : (setups : List Setup) (before now : Writes) (line : List ℕ) (answer : Served) → IsLiveVerdict setups line → IsTextSo line before now answer
    → IsVerdictTold setups before now answer
verdict_told setups before now line served.NoMemory live says = says
verdict_told setups before now line answer live says = (line, live, says)
