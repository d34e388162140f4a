-- Facts that depend on why a file was not loaded.
use Rattle.std.specs.Prelude.{ℕ}
use Rattle.xb_io.specs.declared.files.LoadError.{LoadError}
use Rattle.xb_io.specs.declared.files.LoadError.TheVariants.{OutOfMemory, TooBig, Failed}

-- the fact, where the error is a fault of the outside
abbrev pub IfFailed : LoadError → Type 0 → Type 0
IfFailed OutOfMemory fact = Unit {0}
IfFailed (TooBig found) fact = Unit {0}
IfFailed Failed fact = fact

-- the fact, where the error is another one
abbrev pub UnlessFailed : LoadError → Type 0 → Type 0
UnlessFailed OutOfMemory fact = fact
UnlessFailed (TooBig found) fact = fact
UnlessFailed Failed fact = Unit {0}

-- the fact of the number found, where the error is a file past the limit
abbrev pub IfTooBig : LoadError → (ℕ → Type 0) → Type 0
IfTooBig OutOfMemory fact = Unit {0}
IfTooBig (TooBig found) fact = fact found
IfTooBig Failed fact = Unit {0}
