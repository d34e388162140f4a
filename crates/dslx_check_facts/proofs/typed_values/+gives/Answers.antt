use Rattle.std.proofs.Common.{◌≡◌, ◌∙◌, ◌++◌, ◌+◌, ◌<◌, ℕ, List, [], ◌∷◌, map, take, length, get_or, arith, refl, sym, ap, subst}
use Rattle.std.proofs.lemmas.List.{map-append}
use Rattle.dslx_meaning.specs.Values.{array_type, type_of_value}
use Rattle.dslx_meaning.specs.declared.ty.DslxType.{DslxType}
use Rattle.dslx_meaning.specs.declared.ty.DslxType as ty
use Rattle.dslx_meaning.specs.declared.value.DslxValue.{DslxValue}
use Rattle.dslx_check_rules.specs.Interned.{row_type, type_at, types_in}
use Rattle.dslx_check_rules.specs.declared.table.row.TypeRow.TheVariants as row
use Rattle.dslx_check_facts.specs.Inner.TypedValues.{RowIs}
use Rattle.dslx_check_facts.specs.Known.{item_names}
use Rattle.dslx_check_facts.proofs.OnTypedValues.{array_typed, bits_row, bits_typed, enum_row, enum_typed, row_is, some_elements, struct_typed, take_all, token_typed, tuple_typed, types_next}
use Rattle.dslx_check_facts.proofs.typed_values.+gives.Goals as goal

pub gives_type-returns-in-Some : goal.gives_type-returns-in-Some
gives_type-returns-in-Some t c = record { is = λ so later p. c.in-Some.ensures.is (item_names c.args.f.now) later p ∙ c.gives_row.ensures so later p }

pub gives_row-returns-in-Bits : goal.gives_row-returns-in-Bits
gives_row-returns-in-Bits t c = λ so.
    row_is c.args.f.now c.args.types.now c.args.row.now _ c.args.value.now _ c.in-Bits.is (bits_typed c.in-Bits.signed c.in-Bits.word)
    (bits_row c.args.f.now c.args.types.now c.args.row.now c.kind_of.result c.in-Bits.signed _ c.kind_of.ensures (c.is_bits.ensures so))

pub gives_row-returns-in-Tuple : goal.gives_row-returns-in-Tuple
gives_row-returns-in-Tuple t c = λ so.
    row_is c.args.f.now c.args.types.now c.args.row.now _ c.args.value.now _ c.in-Tuple.is (tuple_typed c.in-Tuple.parts ∙ sym (ap (λ l. ty.Tuple (map type_of_value l)) c.as_slice.ensures)) (c.gives_tuple.ensures so)

pub gives_row-returns-in-Array : goal.gives_row-returns-in-Array
gives_row-returns-in-Array t c = λ so.
    row_is c.args.f.now c.args.types.now c.args.row.now _ c.args.value.now _ c.in-Array.is (array_typed c.in-Array.parts ∙ sym (ap (λ l. array_type (map type_of_value l)) c.as_slice-in-Array.ensures)) (c.gives_array.ensures so)

pub gives_row-returns-in-Struct : goal.gives_row-returns-in-Struct
gives_row-returns-in-Struct t c = λ so.
    row_is c.args.f.now c.args.types.now c.args.row.now _ c.args.value.now _ c.in-Struct.is
    (struct_typed c.in-Struct.name c.in-Struct.fields c.in-Struct.parts ∙ sym (λ i. ty.Struct c.in-Struct.name (c.as_slice-names.ensures i) (map type_of_value (c.as_slice-values.ensures i)))) (c.gives_struct.ensures so)

pub gives_row-returns-in-Enum : goal.gives_row-returns-in-Enum
gives_row-returns-in-Enum t c = λ so.
    row_is c.args.f.now c.args.types.now c.args.row.now _ c.args.value.now _ c.in-Enum.is (enum_typed c.in-Enum.name c.in-Enum.signed c.in-Enum.word)
    (enum_row c.args.f.now c.args.types.now c.args.row.now c.kind_of-in-Enum.result c.in-Enum.name c.in-Enum.signed _ c.kind_of-in-Enum.ensures (c.is_enum.ensures so c.args.types.now))

pub gives_row-returns-in-Token : goal.gives_row-returns-in-Token
gives_row-returns-in-Token t c = λ so.
    row_is c.args.f.now c.args.types.now c.args.row.now _ c.args.value.now _ c.in-Token.is token_typed (λ later p. ap (row_type (item_names c.args.f.now) (types_in (item_names c.args.f.now) later)) (c.is_token.ensures so))

pub gives_tuple-returns-in-Tuple : goal.gives_tuple-returns-in-Tuple
gives_tuple-returns-in-Tuple t c = λ so later p.
    let names = item_names c.args.f.now in
    ap (row_type names (types_in names later)) c.in-Tuple.is ∙ ap ty.Tuple (ap (map (type_at names later)) (sym c.as_slice.ensures) ∙ c.give_types.ensures so later p)

pub gives_array-returns-in-len1-up : goal.gives_array-returns-in-len1-up
gives_array-returns-in-len1-up t c = λ so.
    subst (RowIs c.args.f.now c.args.types.now c.args.row.now)
    (sym (some_elements c.args.elements.now c.first-item.result (omega arith) ∙ ap (λ (x : DslxValue). ty.Array (type_of_value x) (length c.args.elements.now)) (sym c.first-item.is))) (c.gives_repeated.ensures so)

pub gives_repeated-returns-then-size-count : goal.gives_repeated-returns-then-size-count
gives_repeated-returns-then-size-count t c = λ so later p.
    let names = item_names c.args.f.now in
    ap (row_type names (types_in names later)) c.in-Array.is ∙ (λ i. ty.Array (c.gives_type.ensures.is so later p i) (c.if-size-count.true i))

pub gives_struct-returns-then-is_structure : goal.gives_struct-returns-then-is_structure
gives_struct-returns-then-is_structure t c = λ so later p.
    let names = item_names c.args.f.now in
    let named = c.is_structure.ensures c.if-is_structure.true in
    ap (row_type names (types_in names later)) c.in-Struct.is ∙ (λ i. ty.Struct (named.called i) (named.fields_are i) ((ap (map (type_at names later)) (sym c.as_slice.ensures) ∙ c.give_types.ensures so later p) i))

pub give_types-values-init : goal.give_types-values-init
give_types-values-init t c = search

pub give_types-values-preserved : goal.give_types-values-preserved
give_types-values-preserved t c = (
  c.values.invariant.0,
  λ later p. types_next (item_names c.args.f.now) later c.args.parts.now c.args.values.now c.values.i _ _ c.values.invariant.0 c.values-test.true (c.gives_type.ensures.is c.if-not-gives_type.false later p ∙ ap type_of_value c.index-values-i.is) (c.values.invariant.1 later p),
)

pub give_types-returns : goal.give_types-returns
give_types-returns t c = λ so later p.
    let names = item_names c.args.f.now in
    ap (map (type_at names later)) (sym (take_all c.args.parts.now c.values.i (omega (arith, c.values-test.false, c.if-parts-values.false)))) ∙ c.values.invariant.1 later p ∙ ap (map type_of_value) (take_all c.args.values.now c.values.i c.values-test.false)
