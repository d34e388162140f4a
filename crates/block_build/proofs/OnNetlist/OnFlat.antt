-- The flat word of a value is that of its numbers, and what is sent of it.
use Rattle.std.proofs.Common.{◌≡◌, ℕ, ◌+◌, ◌*◌, ◌≤◌, ◌^◌, List, [], ◌∷◌, ◌++◌, map, refl, sym, ap, ap₂, ◌∙◌, arith, Bool, true}
use Rattle.std.specs.Prelude.{nat_le, ◌&&◌}
use Rattle.std.proofs.Math.Nat.{mul_assoc, add-mul}
use Rattle.std.proofs.lemmas.Bool.Decides.{nat_tests}
use Rattle.std.proofs.lemmas.Nat.{pow-add}
use Rattle.xb_bits.specs.Word.{Word, word}
use Rattle.xb_bits.specs.Operations as bits
use Rattle.xb_value.specs.declared.ty.Ty.{Ty}
use Rattle.xb_value.specs.declared.value.Value.{Value}
use Rattle.xb_value.specs.Flat.{flat_of, joined}
use Rattle.xb_value.specs.Typing.{IsOfType}
use Rattle.xb_value.specs.Width.{width_of}
use Rattle.xb_value.proofs.Lemmas.Flat.{as_wide}
use Rattle.xb_value.proofs.Lemmas.Types.{EachHas}
use Rattle.xb_value.proofs.Lemmas.Values.{flat_of-Bits, flat_of-Tuple, flat_of-Array, value_induction}
use Rattle.ir_tree.specs.Activations.{sent, word_where}
use Rattle.vlog_tree.specs.declared.expression.Atom.{Atom}
use Rattle.vlog_tree.specs.declared.expression.Simple.TheVariants as simple
use Rattle.vlog_tree.specs.Value.{Values}
use Rattle.block_build.specs.Netlist.Wires.{AreWired}
use Rattle.block_build.specs.Netlist.Leaves.{all_leaves, leaves_of, ShowsValue}
use Rattle.block_build.specs.Netlist.Operators.{simple_gate}
use Rattle.block_build.proofs.OnNetlist.OnLeaves.{leaves-Bits, leaves-Tuple, leaves-Array}
use Rattle.block_build.proofs.OnNetlist.OnOperators.{joined_is}

-- side by side, in any order
nothing_left : (x : Word) → bits.concat (word 0 0) x ≡ x
nothing_left x =
    let wide : 0 + x.width ≡ x.width = omega arith in
    let none : 0 * 2 ^ x.width + x.value ≡ x.value = omega arith in
    ap₂ word wide none

concat_assoc : (x y z : Word) → bits.concat x (bits.concat y z) ≡ bits.concat (bits.concat x y) z
concat_assoc x y z =
    let wide : x.width + (y.width + z.width) ≡ x.width + y.width + z.width = omega arith in
    let high : x.value * 2 ^ (y.width + z.width) ≡ x.value * 2 ^ y.width * 2 ^ z.width = ap (λ p. x.value * p) (pow-add 2 y.width z.width) ∙ sym (mul_assoc x.value (2 ^ y.width) (2 ^ z.width)) in
    let both : (x.value * 2 ^ y.width + y.value) * 2 ^ z.width ≡ x.value * 2 ^ y.width * 2 ^ z.width + y.value * 2 ^ z.width = add-mul (x.value * 2 ^ y.width) y.value (2 ^ z.width) in
    ap₂ word wide (omega (arith, high, both))

joined-append : (xs ys : List Word) → joined (xs ++ ys) ≡ bits.concat (joined xs) (joined ys)
joined-append [] ys = sym (nothing_left (joined ys))
joined-append (x ∷ xs) ys = ap (bits.concat x) (joined-append xs ys) ∙ concat_assoc x (joined xs) (joined ys)

one_alone : (x : Word) → joined (x ∷ []) ≡ x
one_alone x =
    let wide : x.width + 0 ≡ x.width = omega arith in
    let low : x.value * 2 ^ 0 + 0 ≡ x.value = omega arith in
    ap₂ word wide low

-- a flat word is its numbers side by side
abbrev IsFlat : Value → Type 0
IsFlat value = flat_of value ≡ joined (leaves_of value)

parts_flat : (vs : List Value) → EachHas IsFlat vs → joined (map flat_of vs) ≡ joined (all_leaves (map leaves_of vs))
parts_flat [] each = refl
parts_flat (x ∷ vs) each = ap₂ bits.concat each.0 (parts_flat vs each.1) ∙ sym (joined-append (leaves_of x) (all_leaves (map leaves_of vs)))

pub flat_is_joined : (value : Value) → IsFlat value
flat_is_joined = value_induction IsFlat
    (λ x. flat_of-Bits x ∙ sym (one_alone x) ∙ ap joined (sym (leaves-Bits x)))
    (λ vs each. flat_of-Tuple vs ∙ parts_flat vs each ∙ ap joined (sym (leaves-Tuple vs)))
    (λ vs each. flat_of-Array vs ∙ parts_flat vs each ∙ ap joined (sym (leaves-Array vs)))

both_le : (m n p q : ℕ) → m ≤ n → p ≤ q → (nat_le m n && nat_le p q) ≡ true
both_le m n p q h k = go (nat_le m n) (nat_le p q) (grind (arith, nat_tests)) (grind (arith, nat_tests))
  where
    go : (s t : Bool) → s ≡ true → t ≡ true → (s && t) ≡ true
    go s t e f = rw (e, f)

-- the wire of what is sent
pub sent_word_is_carried : (v : Values) (width k : ℕ) (t : Ty) (atoms : List Atom) (value : Value) → AreWired v k (simple_gate width (simple.Concat atoms) ∷ []) → IsOfType t value → 1 ≤ width_of t → width_of t ≤ 128
    → ShowsValue v atoms value → v k ≡ sent value
sent_word_is_carried v width k t atoms value h of some most shown =
    let wide = as_wide t value of in
    h.0 ∙ joined_is v atoms (leaves_of value) shown ∙ sym (flat_is_joined value)
    ∙ sym (ap (λ b. word_where b (flat_of value)) (both_le 1 (flat_of value).width (flat_of value).width 128 (omega (arith, wide, some)) (omega (arith, wide, most))))
