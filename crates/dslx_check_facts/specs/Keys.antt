-- Keys of instances and of parts of other declarations: which are one, and what of a key is hashed.
use Rattle.std.specs.Prelude.{ℕ, List, [], ◌∷◌, ◌++◌, ◌==◌, ◌&&◌, ◌≤◌, ◌≡◌, Bool, true, false, Option, Some, None, slice_get}
use Rattle.std.specs.List.{flat_map}
use Rattle.std.specs.Hash.{HashWrites, u32, u128}
use Rattle.dslx_meaning.specs.Lists.{pairwise}
use Rattle.dslx_meaning.specs.Types.{same_bool}
use Rattle.dslx_meaning.specs.declared.value.DslxValue.{DslxValue, out-DslxValue}
use Rattle.dslx_meaning.specs.declared.value.DslxValue.TheOpen.{DslxValue-F}
use Rattle.dslx_meaning.specs.Rules.EqualValues.{equal_value}
use Rattle.dslx_check_facts.specs.declared.instances.InstanceKey.{InstanceKey}
use Rattle.dslx_check_facts.specs.declared.prefixes.Prefix.{Prefix}
use Rattle.dslx_check_facts.specs.declared.asked.ForeignKey.{ForeignKey}
use Rattle.dslx_check_facts.specs.declared.asked.ForeignPart.{ForeignPart}
use Rattle.dslx_check_facts.specs.declared.asked.ForeignPart.TheVariants.{Parameter, Default, Signature}

-- the word of bits and of an enum; 0 of any other value
abbrev pub word_of : DslxValue-F DslxValue → ℕ
word_of (DslxValue-F.Bits s w) = w.value
word_of (DslxValue-F.Enum name s w) = w.value
word_of _ = 0

abbrev pub word_in : DslxValue → ℕ
word_in v = word_of (out-DslxValue v)

-- ---- instances

-- one item, and equal values in order
abbrev pub same_instance_key : InstanceKey → InstanceKey → Bool
same_instance_key a b = a.item == b.item && pairwise equal_value a.parametric_args b.parametric_args

abbrev pub fed_by_instance : InstanceKey → HashWrites
fed_by_instance k = u32 k.item ++ flat_map (λ v. u128 (word_in v)) k.parametric_args

-- ---- prefixes of parametrics

abbrev pub same_value_if : Option DslxValue → Option DslxValue → Bool
same_value_if None None = true
same_value_if (Some v) (Some u) = equal_value v u
same_value_if _ _ = false

-- one prefix before, and equal values behind it, or none
abbrev pub same_prefix : Prefix → Prefix → Bool
same_prefix a b = a.before == b.before && same_value_if a.last b.last

abbrev pub word_if : Option DslxValue → ℕ
word_if None = 0
word_if (Some v) = word_in v

abbrev pub fed_by_prefix : Prefix → HashWrites
fed_by_prefix p = u32 p.before ++ u128 (word_if p.last)

-- ---- the values of prefixes

-- the values of the prefix of a number, the last one first, and of no other
abbrev pub values_or_none : Option (List (Option DslxValue)) → List (Option DslxValue)
values_or_none None = []
values_or_none (Some vs) = vs

abbrev pub list_or_none : List (List (Option DslxValue)) → ℕ → List (Option DslxValue)
list_or_none lists n = values_or_none (slice_get lists n)

-- each prefix behind those before it; the first is that of no parametrics
abbrev pub lists_from : List (List (Option DslxValue)) → List Prefix → List (List (Option DslxValue))
lists_from lists [] = lists
lists_from lists (p ∷ ps) = lists_from (lists ++ (p.last ∷ list_or_none lists p.before) ∷ []) ps

abbrev pub lists_of : List Prefix → List (List (Option DslxValue))
lists_of ps = lists_from ([] ∷ []) ps

-- each prefix is of those before it: the one of no parametrics, which has no entry, and the entries
abbrev pub AreEarlier : List Prefix → Type 0
AreEarlier ps = (k : ℕ) (p : Prefix) → slice_get ps k ≡ Some p → p.before ≤ k

-- ---- parts of other declarations

abbrev pub same_part : ForeignPart → ForeignPart → Bool
same_part Parameter Parameter = true
same_part Default Default = true
same_part Signature Signature = true
same_part _ _ = false

abbrev pub same_foreign : ForeignKey → ForeignKey → Bool
same_foreign a b = same_part a.part b.part && (a.item == b.item && (a.prefix == b.prefix && same_bool a.is_refused b.is_refused))

abbrev pub fed_by_foreign : ForeignKey → HashWrites
fed_by_foreign k = u32 k.item ++ u32 k.prefix
