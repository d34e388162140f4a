-- What operands infer.
use Rattle.std.specs.Prelude.{ℕ, List, [], nat_lt, length, map, if◌then◌else◌}
use Rattle.dslx_tree.specs.declared.item.Function.{Function}
use Rattle.dslx_meaning.specs.Inference.{Inferred}
use Rattle.dslx_meaning.specs.Items.{inferred_from}
use Rattle.dslx_meaning.specs.Values.{type_of_value}
use Rattle.dslx_meaning.specs.declared.value.DslxValue.{DslxValue}

-- what operands infer where so many parametric arguments are given
abbrev pub inferred_past : ℕ → Function → List DslxValue → List Inferred
inferred_past n f vs = if nat_lt n (length f.parametrics) then inferred_from f.arguments (map type_of_value vs) else []
