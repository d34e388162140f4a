-- Keys of instances, and what of a key is hashed.
use Rattle.std.specs.Prelude.{ℕ, List, ◌++◌, ◌&&◌, Bool, Option, Some, None, length}
use Rattle.std.specs.List.{flat_map}
use Rattle.std.specs.Hash.{HashWrites, str, u128}
use Rattle.std.specs.Str.{bytes_eq}
use Rattle.dslx_meaning.specs.Lists.{pairwise}
use Rattle.dslx_meaning.specs.Values.{bits_of}
use Rattle.dslx_meaning.specs.declared.value.SignedWord.{SignedWord}
use Rattle.dslx_meaning.specs.declared.value.DslxValue.{DslxValue}
use Rattle.dslx_core.specs.declared.design.Function as core
use Rattle.dslx_meaning.specs.Rules.EqualValues.{equal_value}
use Rattle.dslx_core.specs.declared.lowering.instance.CoreInstance.{CoreInstance}
use Rattle.dslx_core.specs.declared.lowering.instance.LoweredFunction.{LoweredFunction}
use Rattle.dslx_instance.specs.declared.table.key.InstanceKey.{InstanceKey}
use Rattle.dslx_instance.specs.declared.table.key.SoughtKey.{SoughtKey}

abbrev pub same_key : InstanceKey → InstanceKey → Bool
same_key a b = bytes_eq a.name b.name && pairwise equal_value a.parametric_args b.parametric_args

-- what is looked for, without references
abbrev pub key_sought : SoughtKey → InstanceKey
key_sought q = record { name = q.name.now; parametric_args = q.parametric_args.now }

-- an instance, by its key and its function
abbrev pub instance_of : InstanceKey × LoweredFunction → CoreInstance
instance_of e = record { name = e.0.name; parametric_args = e.0.parametric_args; function = e.1 }

-- what a lowered function is in a checked text
abbrev pub function_made : LoweredFunction → core.Function
function_made f = record { arity = length f.arguments; body = f.body }

-- the word of bits; 0 of any other value
abbrev pub word_of_bits : Option SignedWord → ℕ
word_of_bits None = 0
word_of_bits (Some b) = b.word.value

abbrev pub word_in : DslxValue → ℕ
word_in v = word_of_bits (bits_of v)

-- what is hashed of a name and parametric arguments
abbrev pub fed_of : List ℕ → List DslxValue → HashWrites
fed_of name parametric_args = str name ++ flat_map (λ v. u128 (word_in v)) parametric_args
