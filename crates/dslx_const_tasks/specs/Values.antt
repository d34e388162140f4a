-- The values that are kept of the items of a text, by names.
use Rattle.std.specs.Prelude.{ℕ, List, [], ◌∷◌, ◌+◌, Bool, false, Option, Some, None, slice_get, if◌then◌else◌}
use Rattle.std.specs.Str.{bytes_eq}
use Rattle.dslx_tree.specs.declared.item.Member.{Member}
use Rattle.dslx_meaning.specs.Items.{as_enum, item_named}
use Rattle.dslx_meaning.specs.Lists.{and_then}
use Rattle.dslx_meaning.specs.declared.value.DslxValue.{DslxValue}
use Rattle.dslx_check_items.specs.Items.{item_number}
use Rattle.dslx_meaning.specs.Names.ConstMachine.Kept.{KeptValues}
use Rattle.dslx_const_tasks.specs.declared.kept.Kept.{Kept}

-- what stands at a place, if there is such a place and something stands there
abbrev pub at_place : {A : Type 0} → List (Option A) → ℕ → Option A
at_place places n = and_then (slice_get places n) (λ a. a)

-- the number of the first member of a name, where they are numbered from here on
abbrev pub member_from : ℕ → List ℕ → List Member → Option ℕ
member_from k name [] = None
member_from k name (m ∷ ms) = if bytes_eq name m.name.name then Some k else member_from (k + 1) name ms

abbrev pub member_number : List ℕ → List Member → Option ℕ
member_number name members = member_from 0 name members

-- the value of a constant
abbrev pub constant_kept : Kept → List ℕ → Option DslxValue
constant_kept kept name = and_then (item_number name kept.items.text.now.items) (at_place kept.constants.items)

-- the value of a member of an enum, by numbers and by names
abbrev pub member_at : Kept → ℕ → ℕ → Option DslxValue
member_at kept i k = and_then (slice_get kept.members.items i) (λ ms. at_place ms.items k)

abbrev pub member_kept : Kept → List ℕ → List ℕ → Option DslxValue
member_kept kept e a =
    and_then (item_number e kept.items.text.now.items)
    (λ i. and_then (as_enum (item_named e kept.items.text.now.items)) (λ x. and_then (member_number a x.members) (member_at kept i)))

abbrev pub is_so : Option Bool → Bool
is_so None = false
is_so (Some b) = b

-- whether an item is hidden, by its number and by a name, which means the first item of it
abbrev pub hidden_at : Kept → ℕ → Bool
hidden_at kept i = is_so (slice_get kept.hidden.items i)

abbrev pub hides_name : Kept → List ℕ → Bool
hides_name kept name = is_so (and_then (item_number name kept.items.text.now.items) (slice_get kept.hidden.items))

abbrev pub values_kept : Kept → KeptValues
values_kept kept = record { constant = constant_kept kept; member = member_kept kept; hides = hides_name kept }
