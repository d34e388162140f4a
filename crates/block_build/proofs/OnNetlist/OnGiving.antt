-- The wires of operations on numbers give their results.
use Rattle.std.proofs.Common.{◌≡◌, ℕ, suc, ◌+◌, ◌-◌, ◌<◌, ◌≤◌, ◌^◌, List, [], ◌∷◌, map, refl, ap, ◌∙◌, subst}
use Rattle.xb_bits.specs.Word.{word}
use Rattle.xb_bits.specs.Operations as bits
use Rattle.xb_value.specs.Flat.{joined}
use Rattle.delay_model.specs.declared.op.Binary.{Binary}
use Rattle.delay_model.specs.declared.op.Unary.TheVariants as operation
use Rattle.delay_model.specs.declared.op.Compare.{Compare}
use Rattle.delay_model.specs.declared.op.Shift.{Shift}
use Rattle.delay_model.specs.declared.op.Reduce.{Reduce}
use Rattle.delay_model.specs.declared.op.Extend.TheVariants as extend
use Rattle.ir_tree.specs.Operations.{binary_word, unary_word, holds, bit, shift_word, reduce_word, extend_word}
use Rattle.vlog_tree.specs.declared.expression.Atom.{Atom}
use Rattle.vlog_tree.specs.declared.expression.Simple.TheVariants as simple
use Rattle.vlog_tree.specs.declared.expression.Unary.TheVariants as unary
use Rattle.vlog_tree.specs.Value.{Values, atom_value}
use Rattle.block_build.specs.Netlist.Wires.{AreWired}
use Rattle.block_build.specs.Netlist.Gates.{net}
use Rattle.block_build.specs.Netlist.Leaves.{nets}
use Rattle.block_build.specs.Netlist.Operators.{binary_wires, binary_net, compare_gate, SignalsCarry, shift_gate, SignalCarries, unary_gate, reduce_gate, part_of, simple_gate, fitted, dyn_slice_wires, sign_wires, bit_wires}
use Rattle.block_build.specs.Netlist.Results.{GivesOne, GivesTwo}
use Rattle.block_build.proofs.OnNetlist.OnOperators.{binary_carries, compare_carries, shift_carries, reduce_carries, part_carries, dyn_slice_carries, zero_extended, sign_extended, reversed_carries, joined_is}

pub binary_given : (v : Values) (o : Binary) (width k : ℕ) (a b zeros ones : Atom) → AreWired v k (binary_wires o width k a b zeros ones) → atom_value v zeros ≡ word width 0 → atom_value v ones ≡ word width (2 ^ width - 1)
    → GivesTwo v width width (binary_word o) a b (net (binary_net o k))
binary_given v o width k a b zeros ones h z n x y i j e f = binary_carries v o width k a b zeros ones x y h e f i.fits z n

pub complement_given : (v : Values) (width k : ℕ) (a : Atom) → AreWired v k (unary_gate width unary.Complement a ∷ []) → GivesOne v width (unary_word operation.Not) a (net k)
complement_given v width k a h x i e = h.0 ∙ ap bits.not e

pub negation_given : (v : Values) (width k : ℕ) (a : Atom) → AreWired v k (unary_gate width unary.Negate a ∷ []) → GivesOne v width (unary_word operation.Neg) a (net k)
negation_given v width k a h x i e = h.0 ∙ ap bits.neg e

pub reverse_given : (v : Values) (width s k r : ℕ) → AreWired v k (bit_wires width s 0 width) → AreWired v r (simple_gate width (simple.Concat (nets k width)) ∷ []) → GivesOne v width (unary_word operation.Reverse) (net s) (net r)
reverse_given v width s k r h c x i e = reversed_carries v width s k r x h c e i.fits i.word.in_range

pub comparison_given : (v : Values) (o : Compare) (width k : ℕ) (a b : Atom) (s t : ℕ) → AreWired v k (compare_gate o a b s t ∷ []) → SignalsCarry v o s t (atom_value v a) (atom_value v b)
    → GivesTwo v width width (λ x y. bit (holds o x y)) a b (net k)
comparison_given v o width k a b s t h c x y i j e f = compare_carries v o k a b s t x y h e f (subst (λ z. SignalsCarry v o s t z y) e (subst (SignalsCarry v o s t (atom_value v a)) f c))

pub shift_given : (v : Values) (o : Shift) (width u k : ℕ) (a amount : Atom) (s : ℕ) → AreWired v k (shift_gate o width a amount s ∷ []) → SignalCarries v o s (atom_value v a)
    → GivesTwo v width u (shift_word o) a amount (net k)
shift_given v o width u k a amount s h c x y i j e f = shift_carries v o width k a amount s x y h e f (subst (SignalCarries v o s) e c)

pub reduction_given : (v : Values) (o : Reduce) (width k : ℕ) (a : Atom) → AreWired v k (reduce_gate o a ∷ []) → GivesOne v width (reduce_word o) a (net k)
reduction_given v o width k a h x i e = reduce_carries v o k a x h e

pub slice_given : (v : Values) (all start width s k : ℕ) → AreWired v k (simple_gate width (part_of all s start width) ∷ []) → 1 ≤ width → start + width ≤ all
    → GivesOne v all (λ x. bits.slice x start width) (net s) (net k)
slice_given v all start width s k h some fit x i e = h.0 ∙ part_carries v all s start width x e i.fits i.word.in_range some fit

pub dyn_slice_given : (v : Values) (all u width k : ℕ) (a start zeros : Atom) → AreWired v k (dyn_slice_wires all width k a start zeros) → 1 ≤ width → (all < width → atom_value v zeros ≡ word (width - all) 0)
    → GivesTwo v all u (λ x y. bits.dyn_slice x y width) a start (net (suc k))
dyn_slice_given v all u width k a start zeros h some z x y i j e f = dyn_slice_carries v all width k a start zeros x y h e f i.fits i.word.in_range some z

pub zero_extension_given : (v : Values) (all width s k : ℕ) (zeros : Atom) → AreWired v k (simple_gate width (fitted all width s zeros) ∷ []) → 1 ≤ width → all ≤ width → (all < width → atom_value v zeros ≡ word (width - all) 0)
    → GivesOne v all (λ x. extend_word extend.Zero x width) (net s) (net k)
zero_extension_given v all width s k zeros h some longer z x i e = h.0 ∙ zero_extended v all width s zeros x e i.fits i.word.in_range some longer z

pub sign_extension_given : (v : Values) (all width s k : ℕ) (zeros ones : Atom) → AreWired v k (sign_wires all width k s zeros ones) → 1 ≤ all → all ≤ width
    → atom_value v zeros ≡ word (width - all) 0 → atom_value v ones ≡ word (width - all) (2 ^ (width - all) - 1) → GivesOne v all (λ x. extend_word extend.Sign x width) (net s) (net (suc k))
sign_extension_given v all width s k zeros ones h some longer z n x i e = sign_extended v all width k s zeros ones x h e i.fits i.word.in_range some longer z n

pub concat_given : (v : Values) (width k : ℕ) (atoms : List Atom) → AreWired v k (simple_gate width (simple.Concat atoms) ∷ []) → v k ≡ joined (map (atom_value v) atoms)
concat_given v width k atoms h = h.0 ∙ joined_is v atoms (map (atom_value v) atoms) refl
