-- Why a file isn't loaded, by why it couldn't be opened or read.
use Rattle.io_edge.specs.declared.files.LoadRefused.{LoadRefused}
use Rattle.io_edge.specs.declared.files.LoadRefused.TheVariants.{NoMemory, Failed, TooLong}
use Rattle.io_edge.specs.declared.whole.ReadRefused.{ReadRefused}
use Rattle.io_edge.specs.declared.whole.ReadRefused.TheVariants.{NoMemory as LacksMemory, Fault, TooLong as IsTooLong}

-- want of memory stays that, and so does a length over the limit
abbrev pub load_refusal : ReadRefused → LoadRefused
load_refusal LacksMemory = NoMemory
load_refusal Fault = Failed
load_refusal IsTooLong = TooLong
