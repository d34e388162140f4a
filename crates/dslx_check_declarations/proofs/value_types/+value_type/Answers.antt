use Rattle.std.proofs.Common.{◌≡◌, ◌∙◌, ◌++◌, ◌+◌, ◌<◌, ℕ, List, [], ◌∷◌, map, take, length, get_or, arith, refl, sym, ap, subst}
use Rattle.std.proofs.lemmas.List.{map-append}
use Rattle.std.proofs.lemmas.Result.{IfOk-weaker}
use Rattle.dslx_meaning.specs.Values.{array_type, type_of_value}
use Rattle.dslx_meaning.specs.declared.value.DslxValue.{DslxValue}
use Rattle.dslx_meaning.specs.declared.ty.DslxType.{DslxType}
use Rattle.dslx_meaning.specs.declared.ty.DslxType as ty
use Rattle.dslx_check_rules.specs.Interned.{HasRow, type_at}
use Rattle.dslx_check_rules.specs.declared.table.row.TypeId.{TypeId}
use Rattle.dslx_check_rules.specs.declared.table.row.TypeRow.TheVariants as row
use Rattle.dslx_check_facts.specs.Known.{item_names}
use Rattle.dslx_check_declarations.specs.Types.{AreTypesOf, IsTypeOf, IsTypeThere}
use Rattle.dslx_check_declarations.proofs.Lemmas.Listed.{take_all, take_next}
use Rattle.dslx_check_declarations.proofs.OnValueTypes.{array_typed, bits_typed, enum_typed, no_elements, no_types, over_type, over_types, some_elements, struct_over, struct_typed, token_typed, tuple_typed, type_as, type_there, types_next}
use Rattle.dslx_check_declarations.proofs.value_types.+value_type.Goals as goal

pub value_type-returns-in-Bits : goal.value_type-returns-in-Bits
value_type-returns-in-Bits t c = IfOk-weaker c.bits_type.result _ _ (λ t h. type_as c.args.value.now _ c.in-Bits.is (bits_typed c.in-Bits.signed c.in-Bits.word) (h (item_names c.args.f.now))) c.bits_type.ensures

pub value_type-returns-in-Tuple : goal.value_type-returns-in-Tuple
value_type-returns-in-Tuple t c = IfOk-weaker c.tuple_type.result _ _
    (λ t h. type_as c.args.value.now _ c.in-Tuple.is (tuple_typed c.in-Tuple.parts ∙ sym (ap (λ l. ty.Tuple (map type_of_value l)) c.as_slice-items.ensures)) h) c.tuple_type.ensures

pub value_type-returns-in-Array : goal.value_type-returns-in-Array
value_type-returns-in-Array t c = IfOk-weaker c.elements_type.result _ _
    (λ t h. type_as c.args.value.now _ c.in-Array.is (array_typed c.in-Array.parts ∙ sym (ap (λ l. array_type (map type_of_value l)) c.as_slice-elements.ensures)) h) c.elements_type.ensures

pub value_type-returns-in-Struct : goal.value_type-returns-in-Struct
value_type-returns-in-Struct t c = IfOk-weaker c.struct_type.result _ _
    (λ t h. type_as c.args.value.now _ c.in-Struct.is
    (struct_typed c.in-Struct.name c.in-Struct.fields c.in-Struct.parts ∙ sym (λ i. ty.Struct c.in-Struct.name (c.as_slice-names.ensures i) (map type_of_value (c.as_slice-values.ensures i)))) h) c.struct_type.ensures

pub value_type-returns-in-Enum : goal.value_type-returns-in-Enum
value_type-returns-in-Enum t c = IfOk-weaker c.enum_type.result _ _ (λ t h. type_as c.args.value.now _ c.in-Enum.is (enum_typed c.in-Enum.name c.in-Enum.signed c.in-Enum.word) (type_there _ h)) c.enum_type.ensures

pub value_type-returns-in-Token : goal.value_type-returns-in-Token
value_type-returns-in-Token t c = IfOk-weaker c.token_type.result _ _ (λ t h. type_as c.args.value.now _ c.in-Token.is token_typed (h (item_names c.args.f.now))) c.token_type.ensures

pub elements_type-returns-in-empty : goal.elements_type-returns-in-empty
elements_type-returns-in-empty t c = IfOk-weaker c.unit_type.result _ _
    (λ t h. subst (IsTypeOf (item_names c.args.f.now) c.args.types.now c.unit_type.new.types t) (sym (no_elements c.args.elements.now (omega arith))) (h (item_names c.args.f.now))) c.unit_type.ensures

pub elements_type-returns-in-len1-up : goal.elements_type-returns-in-len1-up
elements_type-returns-in-len1-up t c = IfOk-weaker c.repeated_type.result _ _
    (λ t h. subst (IsTypeOf (item_names c.args.f.now) c.args.types.now c.repeated_type.new.types t) (sym (some_elements c.args.elements.now c.first-item.result (omega arith) ∙ ap (λ (x : DslxValue). ty.Array (type_of_value x) (length c.args.elements.now)) (sym c.first-item.is))) h) c.repeated_type.ensures

pub value_types-values-init : goal.value_types-values-init
value_types-values-init t c = subst (λ (l : List TypeId). AreTypesOf (item_names c.args.f.now) c.args.types.now c.args.types.now l []) (sym c.new-all.ensures.items) no_types

pub value_types-values-preserved : goal.value_types-values-preserved
value_types-values-preserved t c =
    let values = c.args.values.now in
    let x = c.value-item.result in
    let i = c.values.value-index in
    let names = item_names c.args.f.now in
    subst (λ (l : List TypeId). AreTypesOf names c.args.types.now c.value_type.new.types l (map type_of_value (take (i + 1) values))) (sym c.in_ok-push.ensures.items)
    (subst (λ (us : List DslxType). AreTypesOf names c.args.types.now c.value_type.new.types (c.values.all.items ++ c.in_ok-ty.ty ∷ []) us)
    (sym (ap (map type_of_value) (take_next values i x (omega arith) c.value-item.is) ∙ map-append type_of_value (take i values) (x ∷ [])))
    (types_next c.values.invariant c.in_ok-ty.ensures))

pub value_types-returns : goal.value_types-returns
value_types-returns t c = subst (λ (vs : List DslxValue). AreTypesOf (item_names c.args.f.now) c.args.types.now c.values.types c.values.all.items (map type_of_value vs))
    (take_all c.args.values.now c.values.value-index (omega arith)) c.values.invariant

pub tuple_type-tuple-requires : goal.tuple_type-tuple-requires
tuple_type-tuple-requires t c = subst (λ (l : List TypeId). (k : ℕ) → (d : TypeId) → k < length l → HasRow c.value_types.new.types (get_or l k d)) (sym c.from_vec.ensures) c.in_ok-all.ensures.there

pub tuple_type-returns : goal.tuple_type-returns
tuple_type-returns t c = over_types ty.Tuple (row.Tuple _) (subst (λ (l : List TypeId). AreTypesOf (item_names c.args.f.now) c.args.types.now c.value_types.new.types l (map type_of_value c.args.parts.now)) (sym c.from_vec.ensures) c.in_ok-all.ensures) refl c.in_ok-ty.ensures.rows (c.in_ok-ty.ensures.is (item_names c.args.f.now)) c.in_ok-ty.ensures.there c.in_ok-ty.ensures.grows

pub repeated_type-array-requires : goal.repeated_type-array-requires
repeated_type-array-requires t c = c.in_ok-part.ensures.there

pub repeated_type-returns : goal.repeated_type-returns
repeated_type-returns t c = over_type (λ t. ty.Array t c.args.count) (row.Array _ _) c.in_ok-part.ensures refl c.in_ok-ty.ensures.rows (c.in_ok-ty.ensures.is (item_names c.args.f.now)) c.in_ok-ty.ensures.there c.in_ok-ty.ensures.grows

pub struct_type-returns : goal.struct_type-returns
struct_type-returns t c = IfOk-weaker c.struct_there.result _ _
    (λ t h. struct_over c.args.name.now c.args.fields.now c.in_ok-all.ensures
    (subst (λ (l : List TypeId). IsTypeThere (item_names c.args.f.now) c.value_types.new.types t (λ later. ty.Struct c.args.name.now c.args.fields.now (map (type_at (item_names c.args.f.now) later) l))) c.as_slice.ensures.value h))
    c.struct_there.ensures
