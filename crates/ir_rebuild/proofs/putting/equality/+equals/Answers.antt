use Rattle.std.proofs.Common.{◌≡◌, ℕ, ◌<◌, ◌^◌, length, sym, ap, ◌∙◌, arith}
use Rattle.std.proofs.lemmas.Result.{IfOk-weaker}
use Rattle.xb_value.specs.declared.value.Value as value
use Rattle.ir_tree.specs.Types.{bounded}
use Rattle.ir_rebuild.specs.Putting.Types.{ir_type_of}
use Rattle.ir_rebuild.proofs.Lemmas.Putting.Types.{size_is}
use Rattle.ir_rebuild.proofs.OnPutting.OnTests.{parts_step, parts_last, elements_step, elements_last, number_equals, tuple_equals, array_equals}
use Rattle.ir_rebuild.proofs.putting.equality.+equals.Goals as goal

below : (i n : ℕ) → i < n → bounded n ≡ n → i < 2 ^ 64
below i n less whole = omega (arith, less, whole)

pub equal_elements-elements-preserved : goal.equal_elements-elements-preserved
equal_elements-elements-preserved t c = λ u built h p.
    elements_step c.args.nodes.now c.elements.nodes c.number-in-elements.new.self c.index.new.self c.equals.new.nodes c.binary.new.self c.args.wanted.now c.elements.i c.index-wanted-i.result c.args.array c.elements.equal c.in_ok-index.index c.in_ok-element.element c.in_ok-other.other c.in_ok-equal-2.equal
    c.elements-test.true (below c.elements.i (length c.args.wanted.now) c.elements-test.true (size_is (length c.args.wanted.now) (ir_type_of u) h.within)) c.index-wanted-i.is c.elements.invariant
    c.in_ok-index.ensures c.in_ok-element.ensures c.in_ok-other.ensures c.in_ok-equal-2.ensures u built h p

pub equal_elements-returns : goal.equal_elements-returns
equal_elements-returns t c = elements_last c.args.nodes.now c.elements.nodes c.args.wanted.now c.elements.i c.args.array c.elements.equal (omega (arith, c.elements-test.false, c.elements.auto.i-end)) c.elements.invariant

pub equal_parts-parts-preserved : goal.equal_parts-parts-preserved
equal_parts-parts-preserved t c =
    parts_step c.args.nodes.now c.parts.nodes c.element.new.self c.equals.new.nodes c.binary.new.self c.args.wanted.now c.parts.i c.index-wanted-i.result c.args.tuple c.parts.equal c.in_ok-part.part c.in_ok-other.other c.in_ok-equal-2.equal
    c.parts-test.true c.index-wanted-i.is c.parts.invariant c.in_ok-part.ensures c.in_ok-other.ensures c.in_ok-equal-2.ensures

pub equal_parts-returns : goal.equal_parts-returns
equal_parts-returns t c = parts_last c.args.nodes.now c.parts.nodes c.args.wanted.now c.parts.i c.args.tuple c.parts.equal (omega (arith, c.parts-test.false, c.parts.auto.i-end)) c.parts.invariant

pub equals-returns-in_ok-number-in-Bits : goal.equals-returns-in_ok-number-in-Bits
equals-returns-in_ok-number-in-Bits t c =
    IfOk-weaker c.compare.result _ _
    (λ o call. number_equals c.args.nodes.now c.number.new.self c.compare.new.self c.args.a c.in_ok-number-in-Bits.number o c.in-Bits.bits c.args.wanted.now c.from.result c.value.result c.in-Bits.is (c.from.ensures ∙ c.width.ensures.width) c.value.ensures.value c.in_ok-number-in-Bits.ensures call)
    c.compare.ensures

pub equals-returns-in-Tuple : goal.equals-returns-in-Tuple
equals-returns-in-Tuple t c =
    IfOk-weaker c.equal_parts.result _ _
    (λ o call. tuple_equals c.args.nodes.now c.equal_parts.new.nodes c.args.a o c.args.wanted.now c.as_slice.result.now (c.in-Tuple.is ∙ ap value.Tuple (sym c.as_slice.ensures)) call)
    c.equal_parts.ensures

pub equals-returns-in-Array : goal.equals-returns-in-Array
equals-returns-in-Array t c =
    IfOk-weaker c.equal_elements.result _ _
    (λ o call. array_equals c.args.nodes.now c.equal_elements.new.nodes c.args.a o c.args.wanted.now c.as_slice-in-Array.result.now (c.in-Array.is ∙ ap value.Array (sym c.as_slice-in-Array.ensures)) call)
    c.equal_elements.ensures
