-- What is printed of an error.
use Rattle.std.specs.Prelude.{ℕ, List, ◌++◌, codes, decimal}
use Rattle.xb_io.specs.declared.files.LoadError.{LoadError}
use Rattle.xb_io.specs.declared.files.LoadError.TheVariants.{OutOfMemory, TooBig, Failed}

-- what is printed of an error
abbrev pub load_error_text : LoadError → List ℕ
load_error_text OutOfMemory = codes "out of memory"
load_error_text (TooBig found) = codes "a file of " ++ decimal found ++ codes " bytes or more"
load_error_text Failed = codes "cannot read"
