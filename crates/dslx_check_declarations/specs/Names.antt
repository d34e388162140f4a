-- Names in lists.
use Rattle.std.specs.Prelude.{ℕ, List, ◌≡◌, is_some}
use Rattle.base.specs.NameTable.Found.{found}
use Rattle.dslx_meaning.specs.Lists.{is_in}
use Rattle.dslx_check_declarations.specs.declared.names.NamesBefore.{NamesBefore}

-- the names that are kept are these
abbrev pub AreBefore : NamesBefore → List (List ℕ) → Type 0
AreBefore names before = (name : List ℕ) → is_some (found names.table name) ≡ is_in name before
