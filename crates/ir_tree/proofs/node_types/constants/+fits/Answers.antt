use Rattle.std.proofs.Common.{◌≡◌, length, map, sym, ap, ◌∙◌, arith, false, drop, true, get_or, refl, List, [], ◌∷◌}
use Rattle.ir_tree.specs.declared.constant.Constant.{Constant}
use Rattle.std.specs.Prelude.{nat_eq}
use Rattle.std.specs.List.{list_all}
use Rattle.std.proofs.lemmas.Bool.Decides.{nat_tests}
use Rattle.std.proofs.lemmas.Grind.{common_steps}
use Rattle.std.proofs.lemmas.List.{length-map}
use Rattle.ir_tree.specs.Types.{bounded, arrays_of}
use Rattle.ir_tree.specs.NodeTypes.Constants.{each_fits, constant_fits, base_of}
use Rattle.ir_tree.specs.NodeTypes.Inner.Scaled.{own_fits}
use Rattle.ir_tree.proofs.Lemmas.NodeTypes.ConstantCases.{each_fits-lengths, base_case, array_case, array_number, array_tuple, array_short, rest_is, number-Bits, number-Token, number-Tuple, tuple-Bits, tuple-Token, tuple-Tuple, array-base}
use Rattle.ir_tree.proofs.node_types.constants.+fits.Goals as goal

pub each_fits-returns-then-parts-types : goal.each_fits-returns-then-parts-types
each_fits-returns-then-parts-types t c =
    sym (each_fits-lengths (map own_fits c.args.types.now) c.args.parts.now (λ e. omega (arith, length-map c.args.types.now own_fits, e, c.if-parts-types.true)))

pub fits-returns-in-Bits : goal.fits-returns-in-Bits
fits-returns-in-Bits t c =
    base_case c.args.sizes.now c.args.ty.now _ c.args.constant.now _ c.number_fits.result c.in-empty.len_below c.in-Bits.is c.in-Number.is
    (number-Bits c.in-Bits.width c.in-Bits.field-1 c.in-Number.number ∙ sym c.number_fits.ensures)

pub fits-returns-in-Token : goal.fits-returns-in-Token
fits-returns-in-Token t c =
    base_case c.args.sizes.now c.args.ty.now _ c.args.constant.now _ false c.in-empty.len_below c.in-Token.is c.in-Number.is
    (number-Token c.in-Token.field-0 c.in-Number.number)

pub fits-returns-in-Tuple-ty : goal.fits-returns-in-Tuple-ty
fits-returns-in-Tuple-ty t c =
    base_case c.args.sizes.now c.args.ty.now _ c.args.constant.now _ false c.in-empty.len_below c.in-Tuple-ty.is c.in-Number.is
    (number-Tuple c.in-Tuple-ty.field-0 c.in-Tuple-ty.field-1 c.in-Number.number)

pub fits-returns-in-Bits-ty : goal.fits-returns-in-Bits-ty
fits-returns-in-Bits-ty t c =
    base_case c.args.sizes.now c.args.ty.now _ c.args.constant.now _ false c.in-empty.len_below c.in-Bits-ty.is c.in-Tuple.is
    (tuple-Bits c.in-Bits-ty.field-0 c.in-Bits-ty.field-1 c.in-Tuple.parts)

none : (cs : List Constant) → each_fits [] cs ≡ nat_eq (length cs) 0
none [] = refl
none (c ∷ cs) = grind (arith, nat_tests)

pub fits-returns-in-Token-ty : goal.fits-returns-in-Token-ty
fits-returns-in-Token-ty t c =
    base_case c.args.sizes.now c.args.ty.now _ c.args.constant.now _ c.is_empty.result c.in-empty.len_below c.in-Token-ty.is c.in-Tuple.is
    (tuple-Token c.in-Token-ty.field-0 c.in-Tuple.parts ∙ ap (each_fits []) (sym c.as_slice.ensures) ∙ none c.as_slice.result.now ∙ sym c.is_empty.ensures)

pub fits-returns-in-Tuple-ty-2 : goal.fits-returns-in-Tuple-ty-2
fits-returns-in-Tuple-ty-2 t c =
    base_case c.args.sizes.now c.args.ty.now _ c.args.constant.now _ c.each_fits.result c.in-empty.len_below c.in-Tuple-ty-2.is c.in-Tuple.is
    (tuple-Tuple c.in-Tuple-ty-2.types c.in-Tuple-ty-2.field-1 c.in-Tuple.parts
    ∙ ap (λ ts. each_fits (map own_fits ts) c.in-Tuple.parts) (sym c.as_slice-in-Tuple-ty-2-2.ensures)
    ∙ ap (each_fits (map own_fits c.as_slice-in-Tuple-ty-2-2.result.now)) (sym c.as_slice-in-Tuple-ty-2.ensures)
    ∙ sym c.each_fits.ensures)

pub fits-returns-in-Array : goal.fits-returns-in-Array
fits-returns-in-Array t c =
    base_case c.args.sizes.now c.args.ty.now _ c.args.constant.now _ false c.in-empty.len_below refl c.in-Array.is
    (array-base c.args.ty.now c.in-Array.field-0)

pub fits-returns-then-len-bounded : goal.fits-returns-then-len-bounded
fits-returns-then-len-bounded t c =
    let same : nat_eq (length c.in-Array-constant.parts) (bounded (get_or c.args.sizes.now 0 0)) ≡ true = grind (arith, nat_tests, common_steps) in
    array_case c.args.sizes.now c.args.ty.now c.args.constant.now c.in-Array-constant.parts c.all_fit.result c.in-len1-up.len_at_least c.in-Array-constant.is same
    (c.all_fit.ensures
    ∙ ap (λ ns. list_all (constant_fits (arrays_of ns (base_of c.args.ty.now))) c.as_slice-then-len-bounded.result.now) (rest_is c.args.sizes.now)
    ∙ ap (list_all (constant_fits (arrays_of (drop 1 c.args.sizes.now) (base_of c.args.ty.now)))) c.as_slice-then-len-bounded.ensures)

pub fits-returns-in-Number-constant : goal.fits-returns-in-Number-constant
fits-returns-in-Number-constant t c = array_number c.args.sizes.now c.args.ty.now c.args.constant.now c.in-Number-constant.field-0 c.in-len1-up.len_at_least c.in-Number-constant.is

pub fits-returns-in-Tuple-constant : goal.fits-returns-in-Tuple-constant
fits-returns-in-Tuple-constant t c = array_tuple c.args.sizes.now c.args.ty.now c.args.constant.now c.in-Tuple-constant.field-0 c.in-len1-up.len_at_least c.in-Tuple-constant.is

pub fits-returns-else-len-bounded : goal.fits-returns-else-len-bounded
fits-returns-else-len-bounded t c =
    let test : nat_eq c.len.result c.bounded.result ≡ false = grind (arith, nat_tests) in
    let other : nat_eq (length c.in-Array-constant.parts) (bounded (get_or c.args.sizes.now 0 0)) ≡ false = grind (arith, nat_tests, common_steps) in
    test ∙ array_short c.args.sizes.now c.args.ty.now c.args.constant.now c.in-Array-constant.parts c.in-len1-up.len_at_least c.in-Array-constant.is other
