-- The changes that steps make to where the machine stands.
use Rattle.std.specs.Prelude.{ℕ, zero, suc, List, [], ◌∷◌, ◌++◌, drop, Option, Some, None}
use Rattle.dslx_meaning.specs.Environment.{Given}
use Rattle.dslx_meaning.specs.declared.ty.DslxType.{DslxType}
use Rattle.dslx_meaning.specs.declared.value.DslxValue.{DslxValue}
use Rattle.dslx_meaning.specs.Names.ConstMachine.Tasks.{ConstTask, ConstState, Finding, ValueFound, TypeFound, CountFound, Returns}

-- the value that was found, if it is one
abbrev pub value_in : Finding → Option DslxValue
value_in (ValueFound v) = v
value_in _ = None

abbrev pub type_in : Finding → Option DslxType
type_in (TypeFound t) = t
type_in _ = None

abbrev pub count_in_finding : Finding → Option ℕ
count_in_finding (CountFound n) = n
count_in_finding _ = None

-- this is found
abbrev pub finds : Finding → ConstState → ConstState
finds f run = record run { found = f }

abbrev pub finds_value : Option DslxValue → ConstState → ConstState
finds_value v run = finds (ValueFound v) run

abbrev pub finds_type : Option DslxType → ConstState → ConstState
finds_type t run = finds (TypeFound t) run

abbrev pub finds_count : Option ℕ → ConstState → ConstState
finds_count n run = finds (CountFound n) run

-- what was found is used up
abbrev pub without_finding : ConstState → ConstState
without_finding run = finds_value None run

-- with these things to be done first
abbrev pub doing : List ConstTask → ConstState → ConstState
doing more run = record run { todo = more ++ run.todo }

-- these things are done at an item, where only items are in scope and a chain of uses may go through so many others
abbrev pub at_item : ℕ → List ConstTask → ConstState → ConstState
at_item n more run = record run { todo = more ++ Returns run.bound run.left ∷ run.todo; bound = []; left = n }

-- back in a scope
abbrev pub back_at : List Given → ℕ → ConstState → ConstState
back_at bound n run = record run { bound = bound; left = n }

abbrev pub forgetting : ℕ → ConstState → ConstState
forgetting k run = record run { bound = drop k run.bound }

abbrev pub binding : List ℕ → DslxValue → ConstState → ConstState
binding name v run = record run { bound = record { name = name; value = v } ∷ run.bound }

-- all these, the last one first
abbrev pub binding_all : List Given → ConstState → ConstState
binding_all names run = record run { bound = names ++ run.bound }

-- one less, if there is one
abbrev pub one_less : ℕ → Option ℕ
one_less zero = None
one_less (suc n) = Some n
