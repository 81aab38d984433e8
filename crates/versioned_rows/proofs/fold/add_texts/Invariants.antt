use Rattle.std.proofs.Common.{◌≡◌, ◌++◌, map, take}
use Rattle.lang_core.specs.declared.writes.Write.{Write}
use Rattle.versioned_rows.proofs.fold.add_texts.Given as goal

abbrev pub invariant-loop-write : goal.invariant-loop-write
invariant-loop-write l = l.texts.items ≡ l.initial.texts.items ++ map (λ (w : Write). w.text) (take l.write-index l.writes)
