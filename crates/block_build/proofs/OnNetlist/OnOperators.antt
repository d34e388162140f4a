-- What the wires of operations on numbers carry.
use Rattle.std.proofs.Common.{◌≡◌, ℕ, zero, suc, ◌+◌, ◌*◌, ◌-◌, ◌/◌, ◌%◌, ◌<◌, ◌≤◌, ◌^◌, List, [], ◌∷◌, map, min, refl, sym, ap, ap₂, ◌∙◌, subst, arith, cond, true, false, Bool, nat_lt, pos, negsuc}
use Rattle.std.specs.Prelude.{not, ◌==◌}
use Rattle.std.specs.declared.cmp.Ordering.{Ordering}
use Rattle.std.specs.declared.cmp.Ordering.TheVariants.{Less, Equal, Greater}
use Rattle.std.specs.Int.{bit_at}
use Rattle.std.proofs.Math.Nat.{mod-eq_of_lt, div-eq_of_lt, div-one}
use Rattle.std.proofs.Math.Pow.{pow_mono}
use Rattle.std.proofs.lemmas.Nat.{pow_pos, pow-add, shr-shr, shr_le, div_below, le-div}
use Rattle.std.proofs.lemmas.Bool.Decides.{nat_tests}
use Rattle.xb_bits.specs.Word.{Word, word}
use Rattle.xb_bits.specs.Operations as op
use Rattle.xb_bits.specs.Sign.{signed_bits}
use Rattle.xb_bits.specs.BitPositions.{reversed_bits}
use Rattle.xb_value.specs.Flat.{joined}
use Rattle.delay_model.specs.declared.op.Binary.{Binary}
use Rattle.delay_model.specs.declared.op.Binary.TheVariants as operation
use Rattle.delay_model.specs.declared.op.Compare.{Compare}
use Rattle.delay_model.specs.declared.op.Compare.TheVariants as compare
use Rattle.delay_model.specs.declared.op.Shift.{Shift}
use Rattle.delay_model.specs.declared.op.Shift.TheVariants as shift
use Rattle.delay_model.specs.declared.op.Reduce.{Reduce}
use Rattle.delay_model.specs.declared.op.Reduce.TheVariants as reduce
use Rattle.ir_tree.specs.Operations as ir
use Rattle.vlog_tree.specs.declared.expression.Atom.{Atom}
use Rattle.vlog_tree.specs.declared.expression.Binary.TheVariants as binary
use Rattle.vlog_tree.specs.declared.expression.Order.{Order}
use Rattle.vlog_tree.specs.declared.expression.Order.TheVariants as order
use Rattle.vlog_tree.specs.declared.expression.Simple.TheVariants as simple
use Rattle.vlog_tree.specs.Value.{Values, bit, holds, atom_value, binary_value, joined_value, simple_value}
use Rattle.block_build.specs.Netlist.Wires.{AreWired}
use Rattle.block_build.specs.Netlist.Gates.{net}
use Rattle.block_build.specs.Netlist.Leaves.{nets}
use Rattle.block_build.specs.Netlist.Operators.{binary_wires, binary_net, compare_gate, SignalsCarry, shift_gate, SignalCarries, reduce_gate, part_of, simple_gate, fitted, dyn_slice_wires, sign_wires, bit_wires}
use Rattle.block_build.proofs.OnNetlist.OnGates.{choice, operated}

-- ---- two numbers of one width

divided_is : (t : Bool) (w q : ℕ) (x : Word) → x.width ≡ w
    → cond (not t) (cond t (word x.width 0) (word x.width (cond t (2 ^ x.width - 1) q))) (word w (2 ^ w - 1)) ≡ word x.width (cond t (2 ^ x.width - 1) q)
divided_is true w q x e = ap (λ n. word n (2 ^ n - 1)) (sym e)
divided_is false w q x e = refl

left_is : (t : Bool) (w r : ℕ) (x : Word) → x.width ≡ w → cond (not t) (word x.width (cond t 0 r)) (word w 0) ≡ word x.width (cond t 0 r)
left_is true w r x e = ap (λ n. word n 0) (sym e)
left_is false w r x e = refl

pub binary_carries : (v : Values) (o : Binary) (width k : ℕ) (a b zeros ones : Atom) (x y : Word) → AreWired v k (binary_wires o width k a b zeros ones)
    → atom_value v a ≡ x → atom_value v b ≡ y → x.width ≡ width → atom_value v zeros ≡ word width 0 → atom_value v ones ≡ word width (2 ^ width - 1)
    → v (binary_net o k) ≡ ir.binary_word o x y
binary_carries v operation.Add width k a b zeros ones x y h e f w z n = operated binary.Add (v k) _ _ x y h.0 e f
binary_carries v operation.Sub width k a b zeros ones x y h e f w z n = operated binary.Subtract (v k) _ _ x y h.0 e f
binary_carries v operation.Umul width k a b zeros ones x y h e f w z n = operated binary.Multiply (v k) _ _ x y h.0 e f
binary_carries v operation.Udiv width k a b zeros ones x y h e f w z n =
    let some = operated binary.NotEqual (v k) _ _ y (word width 0) h.0 f z in
    choice (v (suc k)) (v k) (binary_value binary.Divide (atom_value v a) (atom_value v b)) (atom_value v ones) (not (y.value == 0)) h.1.0 some
    ∙ ap (λ q. cond (not (y.value == 0)) q (atom_value v ones)) (operated binary.Divide (binary_value binary.Divide (atom_value v a) (atom_value v b)) _ _ x y refl e f)
    ∙ ap (λ q. cond (not (y.value == 0)) (binary_value binary.Divide x y) q) n
    ∙ divided_is (y.value == 0) width (x.value / y.value) x w
binary_carries v operation.Umod width k a b zeros ones x y h e f w z n =
    let some = operated binary.NotEqual (v k) _ _ y (word width 0) h.0 f z in
    choice (v (suc k)) (v k) (binary_value binary.Remainder (atom_value v a) (atom_value v b)) (atom_value v zeros) (not (y.value == 0)) h.1.0 some
    ∙ ap (λ q. cond (not (y.value == 0)) q (atom_value v zeros)) (operated binary.Remainder (binary_value binary.Remainder (atom_value v a) (atom_value v b)) _ _ x y refl e f)
    ∙ ap (λ q. cond (not (y.value == 0)) (binary_value binary.Remainder x y) q) z
    ∙ left_is (y.value == 0) width (x.value % y.value) x w
binary_carries v operation.And width k a b zeros ones x y h e f w z n = operated binary.And (v k) _ _ x y h.0 e f
binary_carries v operation.Or width k a b zeros ones x y h e f w z n = operated binary.Or (v k) _ _ x y h.0 e f
binary_carries v operation.Xor width k a b zeros ones x y h e f w z n = operated binary.Xor (v k) _ _ x y h.0 e f

-- ---- comparisons

pub less_is : (o : Ordering) → holds order.Less o ≡ ir.is_less o
less_is Less = refl
less_is Equal = refl
less_is Greater = refl

pub not_greater_is : (o : Ordering) → holds order.LessOrEqual o ≡ not (ir.is_greater o)
not_greater_is Less = refl
not_greater_is Equal = refl
not_greater_is Greater = refl

pub greater_is : (o : Ordering) → holds order.Greater o ≡ ir.is_greater o
greater_is Less = refl
greater_is Equal = refl
greater_is Greater = refl

pub not_less_is : (o : Ordering) → holds order.GreaterOrEqual o ≡ not (ir.is_less o)
not_less_is Less = refl
not_less_is Equal = refl
not_less_is Greater = refl

equal_by : (l e : Bool) → (l ≡ true → e ≡ false) → e ≡ ir.is_equal (cond l Less (cond e Equal Greater))
equal_by true e h = h refl
equal_by false true h = refl
equal_by false false h = refl

less_apart : (m n : ℕ) → nat_lt m n ≡ true → (m == n) ≡ false
less_apart m n h = grind (arith, nat_tests)

pub equal_is : (x y : Word) → (x.value == y.value) ≡ ir.is_equal (op.cmp_u x y)
equal_is x y = equal_by (nat_lt x.value y.value) (x.value == y.value) (less_apart x.value y.value)

signed_is : (v : Values) (o : Order) (s t : ℕ) (x y u : Word) → u ≡ bit (holds o (op.cmp_s (v s) (v t))) → v s ≡ x → v t ≡ y → u ≡ bit (holds o (op.cmp_s x y))
signed_is v o s t x y u h e f = h ∙ ap (λ z. bit (holds o (op.cmp_s z (v t)))) e ∙ ap (λ z. bit (holds o (op.cmp_s x z))) f

pub compare_carries : (v : Values) (o : Compare) (k : ℕ) (a b : Atom) (s t : ℕ) (x y : Word) → AreWired v k (compare_gate o a b s t ∷ [])
    → atom_value v a ≡ x → atom_value v b ≡ y → SignalsCarry v o s t x y → v k ≡ ir.bit (ir.holds o x y)
compare_carries v compare.Eq k a b s t x y h e f c = operated binary.Equal (v k) _ _ x y h.0 e f ∙ ap bit (equal_is x y)
compare_carries v compare.Ne k a b s t x y h e f c = operated binary.NotEqual (v k) _ _ x y h.0 e f ∙ ap (λ q. bit (not q)) (equal_is x y)
compare_carries v compare.Ult k a b s t x y h e f c = operated (binary.Ordered order.Less) (v k) _ _ x y h.0 e f ∙ ap bit (less_is (op.cmp_u x y))
compare_carries v compare.Ule k a b s t x y h e f c = operated (binary.Ordered order.LessOrEqual) (v k) _ _ x y h.0 e f ∙ ap bit (not_greater_is (op.cmp_u x y))
compare_carries v compare.Ugt k a b s t x y h e f c = operated (binary.Ordered order.Greater) (v k) _ _ x y h.0 e f ∙ ap bit (greater_is (op.cmp_u x y))
compare_carries v compare.Uge k a b s t x y h e f c = operated (binary.Ordered order.GreaterOrEqual) (v k) _ _ x y h.0 e f ∙ ap bit (not_less_is (op.cmp_u x y))
compare_carries v compare.Slt k a b s t x y h e f c = signed_is v order.Less s t x y (v k) h.0 c.0 c.1 ∙ ap bit (less_is (op.cmp_s x y))
compare_carries v compare.Sle k a b s t x y h e f c = signed_is v order.LessOrEqual s t x y (v k) h.0 c.0 c.1 ∙ ap bit (not_greater_is (op.cmp_s x y))
compare_carries v compare.Sgt k a b s t x y h e f c = signed_is v order.Greater s t x y (v k) h.0 c.0 c.1 ∙ ap bit (greater_is (op.cmp_s x y))
compare_carries v compare.Sge k a b s t x y h e f c = signed_is v order.GreaterOrEqual s t x y (v k) h.0 c.0 c.1 ∙ ap bit (not_less_is (op.cmp_s x y))

-- ---- shifts, one bit of all bits

pub shift_carries : (v : Values) (o : Shift) (width k : ℕ) (a amount : Atom) (s : ℕ) (x y : Word) → AreWired v k (shift_gate o width a amount s ∷ [])
    → atom_value v a ≡ x → atom_value v amount ≡ y → SignalCarries v o s x → v k ≡ ir.shift_word o x y
shift_carries v shift.Shll width k a amount s x y h e f c = operated binary.ShiftLeft (v k) _ _ x y h.0 e f
shift_carries v shift.Shrl width k a amount s x y h e f c = operated binary.ShiftRight (v k) _ _ x y h.0 e f
shift_carries v shift.Shra width k a amount s x y h e f c = h.0 ∙ ap (λ z. op.shra z (atom_value v amount)) c ∙ ap (op.shra x) f

pub reduce_carries : (v : Values) (o : Reduce) (k : ℕ) (a : Atom) (x : Word) → AreWired v k (reduce_gate o a ∷ []) → atom_value v a ≡ x → v k ≡ ir.reduce_word o x
reduce_carries v reduce.And k a x h e = h.0 ∙ ap op.and_reduce e
reduce_carries v reduce.Or k a x h e = h.0 ∙ ap op.or_reduce e
reduce_carries v reduce.Xor k a x h e = h.0 ∙ ap op.xor_reduce e

-- ---- parts of a number

over_one : (n : ℕ) → n / 2 ^ 0 ≡ n
over_one n = div-one n

whole_bit : (x : Word) (low width : ℕ) → x.width ≡ 1 → low ≡ 0 → width ≡ 1 → x.value < 2 → x ≡ op.slice x low width
whole_bit x low width e l w r =
    let quotient : x.value / 2 ^ low ≡ x.value = ap (λ i. x.value / 2 ^ i) l ∙ over_one x.value in
    let rest : x.value / 2 ^ low % 2 ^ width ≡ x.value = ap (λ n. n % 2 ^ width) quotient ∙ ap (λ i. x.value % 2 ^ i) w ∙ mod-eq_of_lt r in
    ap₂ word (e ∙ sym w) (sym rest)

pub part_carries : (v : Values) (all s low width : ℕ) (x : Word) → v s ≡ x → x.width ≡ all → x.value < 2 ^ x.width → 1 ≤ width → low + width ≤ all
    → simple_value v (part_of all s low width) ≡ op.slice x low width
part_carries v all s low width x e w r some fit = go (all == 1) refl
  where
    one_is : (m : ℕ) → (m == 1) ≡ true → m ≡ 1
    one_is m h = grind (arith, nat_tests)

    go : (t : Bool) → (all == 1) ≡ t → simple_value v (cond t (simple.Atom (net s)) (simple.Slice (record { 0 = s }) (low + width - 1) low)) ≡ op.slice x low width
    go true h =
        let one : all ≡ 1 = one_is all h in
        let bits : x.width ≡ 1 = w ∙ one in
        e ∙ whole_bit x low width bits (omega arith) (omega arith) (subst (λ n. x.value < 2 ^ n) bits r)
    go false h =
        let wide : low + width - 1 + 1 - low ≡ width = omega arith in
        ap (λ z. op.slice z low (low + width - 1 + 1 - low)) e ∙ ap (op.slice x low) wide

-- ---- the low bits of a number, or it below zeros

below_wide : (x : Word) (width : ℕ) → x.value < 2 ^ x.width → x.width ≤ width → x.value < 2 ^ width
below_wide x width r l = let more : 2 ^ x.width ≤ 2 ^ width = pow_mono l in omega arith

padded : (v : Values) (s : ℕ) (pad : Atom) (x : Word) (width n : ℕ) → v s ≡ x → x.width ≤ width → atom_value v pad ≡ word (width - x.width) n
    → joined_value v (pad ∷ net s ∷ []) ≡ word width (n * 2 ^ x.width + x.value)
padded v s pad x width n e l f =
    let wide : width - x.width + (x.width + 0) ≡ width = omega arith in
    let same : x.width + 0 ≡ x.width = omega arith in
    let low : x.value * 2 ^ 0 + 0 ≡ x.value = omega arith in
    ap (λ z. op.concat z (op.concat (v s) (word 0 0))) f ∙ ap (λ z. op.concat (word (width - x.width) n) (op.concat z (word 0 0))) e
    ∙ ap₂ word wide (ap₂ (λ i m. n * 2 ^ i + m) same low)

pub fitted_carries : (v : Values) (all width s : ℕ) (zeros : Atom) (x : Word) → v s ≡ x → x.width ≡ all → x.value < 2 ^ x.width → 1 ≤ width
    → (all < width → atom_value v zeros ≡ word (width - all) 0) → simple_value v (fitted all width s zeros) ≡ word width (x.value % 2 ^ width)
fitted_carries v all width s zeros x e w r some z = go (nat_lt width all) (all == width) refl refl
  where
    same_is : (m n : ℕ) → (m == n) ≡ true → m ≡ n
    same_is m n h = grind (arith, nat_tests)

    longer_is : (m n : ℕ) → nat_lt n m ≡ false → (m == n) ≡ false → m < n
    longer_is m n h g = grind (arith, nat_tests)

    go : (t u : Bool) → nat_lt width all ≡ t → (all == width) ≡ u
        → simple_value v (cond t (simple.Slice (record { 0 = s }) (width - 1) 0) (cond u (simple.Atom (net s)) (simple.Concat (zeros ∷ net s ∷ [])))) ≡ word width (x.value % 2 ^ width)
    go true u h g =
        let wide : width - 1 + 1 - 0 ≡ width = omega arith in
        ap (λ y. op.slice y 0 (width - 1 + 1 - 0)) e ∙ ap (op.slice x 0) wide ∙ ap (λ n. word width (n % 2 ^ width)) (over_one x.value)
    go false true h g =
        let same : x.width ≡ width = w ∙ same_is all width g in
        e ∙ ap₂ word same (sym (mod-eq_of_lt (below_wide x width r (omega (arith, same)))))
    go false false h g =
        let longer : all < width = longer_is all width h g in
        let l : x.width ≤ width = omega (arith, w, longer) in
        let none : 0 * 2 ^ x.width + x.value ≡ x.value = omega arith in
        padded v s zeros x width 0 e l (z longer ∙ ap (λ n. word (width - n) 0) (sym w))
        ∙ ap (word width) (none ∙ sym (mod-eq_of_lt (below_wide x width r l)))

pub dyn_slice_carries : (v : Values) (all width k : ℕ) (a start zeros : Atom) (x y : Word) → AreWired v k (dyn_slice_wires all width k a start zeros)
    → atom_value v a ≡ x → atom_value v start ≡ y → x.width ≡ all → x.value < 2 ^ x.width → 1 ≤ width → (all < width → atom_value v zeros ≡ word (width - all) 0)
    → v (suc k) ≡ op.dyn_slice x y width
dyn_slice_carries v all width k a start zeros x y h e f w r some z =
    let shifted = operated binary.ShiftRight (v k) _ _ x y h.0 e f in
    let less : x.value / 2 ^ min y.value x.width ≤ x.value = shr_le x.value (min y.value x.width) in
    h.1.0 ∙ fitted_carries v all width k zeros (op.shrl x y) shifted w (omega (arith, less, r)) some z

pub zero_extended : (v : Values) (all width s : ℕ) (zeros : Atom) (x : Word) → v s ≡ x → x.width ≡ all → x.value < 2 ^ x.width → 1 ≤ width → all ≤ width
    → (all < width → atom_value v zeros ≡ word (width - all) 0) → simple_value v (fitted all width s zeros) ≡ op.zext x width
zero_extended v all width s zeros x e w r some l z =
    fitted_carries v all width s zeros x e w r some z ∙ ap (word width) (mod-eq_of_lt (below_wide x width r (omega (arith, w, l))))

-- ---- a number below copies of its highest bit

high_bit : (a w : ℕ) → 1 ≤ w → a < 2 ^ w → (l : Bool) → nat_lt a (2 ^ (w - 1)) ≡ l → word 1 (a / 2 ^ (w - 1) % 2 ^ 1) ≡ bit (not l)
high_bit a w some r l h = go l h
  where
    twice : 2 ^ w ≡ 2 * 2 ^ (w - 1)
    twice = let e : w ≡ 1 + (w - 1) = omega arith in ap (λ n. 2 ^ n) e ∙ pow-add 2 1 (w - 1)

    small : nat_lt a (2 ^ (w - 1)) ≡ true → a < 2 ^ (w - 1)
    small g = grind (arith, nat_tests)

    large : nat_lt a (2 ^ (w - 1)) ≡ false → 2 ^ (w - 1) ≤ a
    large g = grind (arith, nat_tests)

    go : (l : Bool) → nat_lt a (2 ^ (w - 1)) ≡ l → word 1 (a / 2 ^ (w - 1) % 2 ^ 1) ≡ bit (not l)
    go true g = ap (λ n. word 1 (n % 2 ^ 1)) (div-eq_of_lt (small g))
    go false g =
        let more : 1 * 2 ^ (w - 1) ≤ a = let q = large g in omega arith in
        let least : 1 ≤ a / 2 ^ (w - 1) = le-div 1 a (2 ^ (w - 1)) (pow_pos (w - 1)) more in
        let most : a / 2 ^ (w - 1) < 2 = div_below a (2 ^ (w - 1)) 2 (pow_pos (w - 1)) (subst (λ n. a < n) twice r) in
        let one : a / 2 ^ (w - 1) ≡ 1 = omega arith in
        ap (λ n. word 1 (n % 2 ^ 1)) one

-- all ones above a number are what its negative value has there
ones_above : (a p q : ℕ) → a < q → 1 ≤ p → (p - 1) * q + a ≡ p * q - suc (q - suc a)
ones_above a zero q r some = absurd (omega arith)
ones_above a (suc p) q r some =
    let one : suc p - 1 ≡ p = omega arith in
    let more : suc p * q ≡ p * q + q = omega arith in
    ap (λ n. n * q + a) one ∙ (let e : p * q + a ≡ suc p * q - suc (q - suc a) = omega (arith, more, r) in e)

pub sign_extended : (v : Values) (all width k s : ℕ) (zeros ones : Atom) (x : Word) → AreWired v k (sign_wires all width k s zeros ones)
    → v s ≡ x → x.width ≡ all → x.value < 2 ^ x.width → 1 ≤ all → all ≤ width → atom_value v zeros ≡ word (width - all) 0 → atom_value v ones ≡ word (width - all) (2 ^ (width - all) - 1)
    → v (suc k) ≡ op.sext x width
sign_extended v all width k s zeros ones x h e w r some l z n = by (nat_lt x.value (2 ^ (x.width - 1))) refl
  where
    longer : x.width ≤ width
    longer = omega (arith, w, l)

    first : v k ≡ op.slice x (all - 1) 1
    first = h.0 ∙ part_carries v all s (all - 1) 1 x e w r (omega arith) (omega arith)

    sign : (t : Bool) → nat_lt x.value (2 ^ (x.width - 1)) ≡ t → v k ≡ bit (not t)
    sign t g = first ∙ ap (λ m. op.slice x (m - 1) 1) (sym w) ∙ high_bit x.value x.width (omega (arith, w, some)) r t g

    below : joined_value v (zeros ∷ net s ∷ []) ≡ word width (0 * 2 ^ x.width + x.value)
    below = padded v s zeros x width 0 e longer (z ∙ ap (λ m. word (width - m) 0) (sym w))

    above : joined_value v (ones ∷ net s ∷ []) ≡ word width ((2 ^ (width - x.width) - 1) * 2 ^ x.width + x.value)
    above = padded v s ones x width (2 ^ (width - x.width) - 1) e longer (n ∙ ap (λ m. word (width - m) (2 ^ (width - m) - 1)) (sym w))

    power : 2 ^ (width - x.width) * 2 ^ x.width ≡ 2 ^ width
    power = sym (pow-add 2 (width - x.width) x.width) ∙ (let m : width - x.width + x.width ≡ width = omega (arith, longer) in ap (λ i. 2 ^ i) m)

    chosen : (t : Bool) → nat_lt x.value (2 ^ (x.width - 1)) ≡ t → v (suc k) ≡ cond (not t) (joined_value v (ones ∷ net s ∷ [])) (joined_value v (zeros ∷ net s ∷ []))
    chosen t g = choice (v (suc k)) (v k) (joined_value v (ones ∷ net s ∷ [])) (joined_value v (zeros ∷ net s ∷ [])) (not t) h.1.0 (sign t g)

    by : (t : Bool) → nat_lt x.value (2 ^ (x.width - 1)) ≡ t → v (suc k) ≡ op.sext x width
    by true g =
        let none : 0 * 2 ^ x.width + x.value ≡ x.value = omega arith in
        chosen true g ∙ below ∙ ap (word width) (none ∙ sym (ap (λ t. signed_bits width (cond t (pos x.value) (negsuc (2 ^ x.width - suc x.value)))) g))
    by false g =
        chosen false g ∙ above
        ∙ ap (word width) (ones_above x.value (2 ^ (width - x.width)) (2 ^ x.width) r (pow_pos (width - x.width))
        ∙ ap (λ m. m - suc (2 ^ x.width - suc x.value)) power
        ∙ sym (ap (λ t. signed_bits width (cond t (pos x.value) (negsuc (2 ^ x.width - suc x.value)))) g))

-- ---- bits in the other order

pub bits_are_joined : (v : Values) (all s i n k : ℕ) (x : Word) → AreWired v k (bit_wires all s i n) → v s ≡ x → x.width ≡ all → x.value < 2 ^ x.width → i + n ≤ all
    → joined_value v (nets k n) ≡ word n (reversed_bits n (x.value / 2 ^ i))
unfolding reversed_bits
bits_are_joined v all s i zero k x h e w r l = refl
bits_are_joined v all s i (suc n) k x h e w r l =
    let here : v k ≡ op.slice x i 1 = h.0 ∙ part_carries v all s i 1 x e w r (omega arith) (omega arith) in
    let rest = bits_are_joined v all s (suc i) n (suc k) x h.1 e w r (omega arith) in
    let one : 1 + n ≡ suc n = omega arith in
    let next : x.value / 2 ^ suc i ≡ x.value / 2 ^ i / 2 = (let m : suc i ≡ i + 1 = omega arith in ap (λ j. x.value / 2 ^ j) m) ∙ sym (shr-shr x.value i 1) in
    let low : x.value / 2 ^ i % 2 ≡ bit_at (x.value / 2 ^ i) 0 = ap (λ m. m % 2) (sym (over_one (x.value / 2 ^ i))) in
    ap (λ z. op.concat z (joined_value v (nets (suc k) n))) here
    ∙ ap (op.concat (op.slice x i 1)) rest
    ∙ ap₂ word one (ap₂ (λ b m. b * 2 ^ n + reversed_bits n m) low next)

pub reversed_carries : (v : Values) (all s k r : ℕ) (x : Word) → AreWired v k (bit_wires all s 0 all) → AreWired v r (simple_gate all (simple.Concat (nets k all)) ∷ [])
    → v s ≡ x → x.width ≡ all → x.value < 2 ^ x.width → v r ≡ op.rev x
reversed_carries v all s k r x h c e w range =
    c.0 ∙ bits_are_joined v all s 0 all k x h e w range (omega arith)
    ∙ ap (λ m. word all (reversed_bits all m)) (over_one x.value)
    ∙ ap (λ m. word m (reversed_bits m x.value)) (sym w)

-- ---- numbers side by side

pub joined_is : (v : Values) (atoms : List Atom) (xs : List Word) → map (atom_value v) atoms ≡ xs → joined_value v atoms ≡ joined xs
joined_is v atoms xs e = go atoms ∙ ap joined e
  where
    go : (atoms : List Atom) → joined_value v atoms ≡ joined (map (atom_value v) atoms)
    go [] = refl
    go (a ∷ rest) = ap (op.concat (atom_value v a)) (go rest)
