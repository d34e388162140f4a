use Rattle.std.proofs.Common.{◌∙◌, ◌+◌, ◌++◌, [], ◌∷◌, ◌≡◌, sym, ap, subst, take, map, Some}
use Rattle.std.proofs.lemmas.List.{take_all, take_more}
use Rattle.std.proofs.lemmas.Result.{IfOk-weaker}
use Rattle.xb_value.specs.declared.ty.Ty as ty
use Rattle.xb_value.specs.declared.value.Value as value
use Rattle.dslx_core.specs.Types.Typing.{elements_alike, value_type}
use Rattle.ir_lower.proofs.OnTypes.OnLiterals.{array_typed, bits_typed, tuple_typed, types_more}
use Rattle.ir_lower.proofs.types.literals.+value_type.Goals as goal

pub value_type-returns-in-Bits : goal.value_type-returns-in-Bits
value_type-returns-in-Bits t c =
    ap value_type c.in-Bits.is ∙ (bits_typed c.in-Bits.bits c.width.ensures.is_word ∙ ap (λ w. Some (ty.Bits w)) (sym (c.from.ensures ∙ c.width.ensures.width)))

pub value_type-returns-in-Tuple : goal.value_type-returns-in-Tuple
value_type-returns-in-Tuple t c =
    IfOk-weaker c.tuple_value_type.result _ _ (λ u h. ap value_type (c.in-Tuple.is ∙ ap value.Tuple (sym c.as_slice.ensures)) ∙ h) c.tuple_value_type.ensures

pub value_type-returns-in-Array : goal.value_type-returns-in-Array
value_type-returns-in-Array t c =
    IfOk-weaker c.array_value_type.result _ _ (λ u h. ap value_type (c.in-Array.is ∙ ap value.Array (sym c.as_slice-in-Array.ensures)) ∙ h) c.array_value_type.ensures

pub tuple_value_type-returns : goal.tuple_value_type-returns
tuple_value_type-returns t c =
    tuple_typed c.args.values.now c.in_ok-types.types.items c.in_ok-types.ensures ∙ ap (λ ts. Some (ty.Tuple ts)) (sym c.from_vec.ensures)

pub array_value_type-returns : goal.array_value_type-returns
array_value_type-returns t c =
    IfOk-weaker c.array_type.result _ _
    (λ u h. array_typed c.args.values.now c.in_ok-types.types.items u c.in_ok-types.ensures (subst (λ ts. elements_alike (map Some ts) ≡ Some u) c.as_slice.ensures.value h))
    c.array_type.ensures

pub value_types-values-preserved : goal.value_types-values-preserved
value_types-values-preserved t c =
    subst (λ ts. map value_type (take (c.values.value-index + 1) c.args.values.now) ≡ map Some ts) (sym c.in_ok-push.ensures.items)
    (types_more (take c.values.value-index c.args.values.now) (take (c.values.value-index + 1) c.args.values.now) c.value-item.result c.values.types.items _
    (take_more c.args.values.now c.values.value-index c.value-item.result c.values-test.true ∙ ap (λ x. take c.values.value-index c.args.values.now ++ x ∷ []) (sym c.value-item.is)) c.values.invariant c.in_ok-value_type.ensures)

pub value_types-returns : goal.value_types-returns
value_types-returns t c = ap (map value_type) (sym (take_all c.values.value-index c.args.values.now c.values-test.false)) ∙ c.values.invariant
