-- What a table has for a name.
use Rattle.std.specs.Prelude.{ℕ, List, Option, Some, None}
use Rattle.std.specs.Str.{bytes_eq}
use Rattle.std.specs.HashMap.{get_by}
use Rattle.base.specs.declared.name_table.table.Table.{Table}

abbrev pub found : {V : Type 0} → Table V → List ℕ → Option V
found table name = get_by (λ k. bytes_eq name k.now) table.entries

-- the first of the two, if it is there
abbrev pub or_else : {X : Type 0} → Option X → Option X → Option X
or_else None o = o
or_else (Some x) o = Some x
