-- The text of a design.
use Rattle.std.specs.Prelude.{ℕ, List, ◌++◌}
use Rattle.xls_gen.specs.Design.ProcText.{procs_text}
use Rattle.xls_gen.specs.Design.TopText.{top_text}

-- the design with k procs, from a seed
abbrev pub design_text : ℕ → ℕ → List ℕ
design_text seed k = procs_text seed k ++ top_text seed k
