-- Wires that fit carry numbers of their widths.
use Rattle.std.proofs.Common.{◌≡◌, ℕ, suc, ◌+◌, ◌*◌, ◌-◌, ◌/◌, ◌%◌, ◌<◌, ◌≤◌, ◌^◌, List, [], ◌∷◌, ◌++◌, length, min, refl, sym, ap, ap₂, ◌∙◌, subst, arith, cond, true, false, Bool, nat_lt, lit<, inl, inr, pos, negsuc, ◌&&◌}
use Rattle.std.specs.Prelude.{◌==◌, not, nat_le, flat_map, ◌⊎◌, count_ones}
use Rattle.std.specs.List.{AllByRecursion}
use Rattle.std.specs.Int.{int_shr}
use Rattle.std.proofs.lemmas.Bool.{and_parts, eqb-true, cases_lt}
use Rattle.std.proofs.lemmas.Nat.{pow_pos, pow-add, mod_below, shr_le, and_le_l, or_lt, xor_lt, mul-add-lt}
use Rattle.std.proofs.Math.Nat.{div-le_self, mod-le}
use Rattle.xb_bits.specs.Word.{Word, word}
use Rattle.xb_bits.specs.Sign.{signed_bits}
use Rattle.vlog_tree.specs.declared.expression.Atom.{Atom}
use Rattle.vlog_tree.specs.declared.expression.Atom.TheVariants as atom
use Rattle.vlog_tree.specs.declared.expression.Binary.{Binary}
use Rattle.vlog_tree.specs.declared.expression.Binary.TheVariants as binary
use Rattle.vlog_tree.specs.declared.expression.Unary.{Unary}
use Rattle.vlog_tree.specs.declared.expression.Unary.TheVariants as unary
use Rattle.vlog_tree.specs.declared.expression.Simple.{Simple}
use Rattle.vlog_tree.specs.declared.expression.Simple.TheVariants as simple
use Rattle.vlog_tree.specs.declared.expression.Expr.{Expr}
use Rattle.vlog_tree.specs.declared.expression.Expr.TheVariants as expr
use Rattle.vlog_tree.specs.Forms.{Widths, atom_width, joined_width, binary_fits, unary_fits, simple_fits, fits, atom_reads, simple_reads, reads, atom_literals, simple_literals, literals}
use Rattle.vlog_tree.specs.Value.{Values, bit, atom_value, binary_value, unary_value, joined_value, simple_value, expr_value}
use Rattle.vlog_tree.proofs.Lemmas.Fitting.{widths_by, atom_wide, expr_wide}
use Rattle.block_build.specs.Netlist.Wires.{Wire, AreWired, ReadEarlier}
use Rattle.block_build.specs.Netlist.Order.{AreSized, WidthsFit, HaveSmallLiterals, CarriesWord}

-- ---- lists

front : {A : Type 0} (P : A → Type 0) (xs ys : List A) → AllByRecursion P (xs ++ ys) → AllByRecursion P xs
front P [] ys h = tt
front P (x ∷ xs) ys h = (h.0, front P xs ys h.1)

rest : {A : Type 0} (P : A → Type 0) (xs ys : List A) → AllByRecursion P (xs ++ ys) → AllByRecursion P ys
rest P [] ys h = h
rest P (x ∷ xs) ys h = rest P xs ys h.1

each : {A : Type 0} (P Q : A → Type 0) → ((x : A) → P x → Q x) → (xs : List A) → AllByRecursion P xs → AllByRecursion Q xs
each P Q f [] h = tt
each P Q f (x ∷ xs) h = (f x h.0, each P Q f xs h.1)

-- ---- what fits by widths that agree on what is read

abbrev Agree : Widths → Widths → List ℕ → Type 0
Agree f g = AllByRecursion (λ s. f s ≡ g s)

atom_same : (f g : Widths) (a : Atom) → Agree f g (atom_reads a) → atom_width f a ≡ atom_width g a
atom_same f g (atom.Signal s) h = h.0
atom_same f g (atom.Literal l) h = refl

joined_same : (f g : Widths) (atoms : List Atom) → Agree f g (flat_map atom_reads atoms) → joined_width f atoms ≡ joined_width g atoms
joined_same f g [] h = refl
joined_same f g (a ∷ atoms) h =
    ap₂ (λ m n. m + n) (atom_same f g a (front (λ s. f s ≡ g s) (atom_reads a) (flat_map atom_reads atoms) h)) (joined_same f g atoms (rest (λ s. f s ≡ g s) (atom_reads a) (flat_map atom_reads atoms) h))

simple_same : (f g : Widths) (w : ℕ) (x : Simple) → Agree f g (simple_reads x) → simple_fits f w x ≡ simple_fits g w x
simple_same f g w (simple.Atom a) h = ap (λ n. n == w) (atom_same f g a h)
simple_same f g w (simple.Binary operator a b) h =
    ap₂ (binary_fits w operator) (atom_same f g a (front (λ s. f s ≡ g s) (atom_reads a) (atom_reads b) h)) (atom_same f g b (rest (λ s. f s ≡ g s) (atom_reads a) (atom_reads b) h))
simple_same f g w (simple.Unary operator a) h = ap (unary_fits w operator) (atom_same f g a h)
simple_same f g w (simple.Slice s high low) h = ap (λ n. nat_lt 1 n && (nat_le low high && (nat_lt high n && (w == high + 1 - low)))) h.0
simple_same f g w (simple.Concat atoms) h = ap (λ n. n == w) (joined_same f g atoms h)

fits_same : (f g : Widths) (w : ℕ) (x : Expr) → Agree f g (reads x) → fits f w x ≡ fits g w x
fits_same f g w (expr.Simple x) h = simple_same f g w x h
fits_same f g w (expr.SignedOrder o a b) h = ap₂ (λ m n. (m == n) && (w == 1)) h.0 h.1.0
fits_same f g w (expr.SignedShift a k) h = ap (λ n. n == w) h.0
fits_same f g w (expr.Choice c a b) h =
    let both = rest (λ s. f s ≡ g s) (atom_reads c) (simple_reads a ++ simple_reads b) h in
    ap₂ (λ m t. (m == 1) && t) (atom_same f g c (front (λ s. f s ≡ g s) (atom_reads c) (simple_reads a ++ simple_reads b) h))
    (ap₂ (λ s t. s && t) (simple_same f g w a (front (λ s. f s ≡ g s) (simple_reads a) (simple_reads b) both)) (simple_same f g w b (rest (λ s. f s ≡ g s) (simple_reads a) (simple_reads b) both)))

-- ---- ranges

abbrev InRange : Word → Type 0
InRange x = x.value < 2 ^ x.width

abbrev SignalsInRange : Values → List ℕ → Type 0
SignalsInRange v = AllByRecursion (λ s. InRange (v s))

abbrev AreSmall : List ℕ → Type 0
AreSmall = AllByRecursion (λ w. w ≤ 128)

atom_ranges : (v : Values) (a : Atom) → SignalsInRange v (atom_reads a) → AreSmall (atom_literals a) → InRange (atom_value v a)
atom_ranges v (atom.Signal s) h l = h.0
atom_ranges v (atom.Literal literal) h l = literal.in_range l.0

bit_ranges : (b : Bool) → InRange (bit b)
bit_ranges true = lit< tt
bit_ranges false = lit< tt

one_bit : (b : Bool) → cond b 1 0 < 2 ^ 1
one_bit true = lit< tt
one_bit false = lit< tt

other_bit : (b : Bool) → cond b 0 1 < 2 ^ 1
other_bit true = lit< tt
other_bit false = lit< tt

same_width : (a w b : ℕ) → ((a == w) && (b == w)) ≡ true → b ≡ a
same_width a w b h = let parts = and_parts (a == w) (b == w) h in eqb-true b w parts.1 ∙ sym (eqb-true a w parts.0)

divided : (t : Bool) (x : Word) (q : ℕ) → InRange x → q ≤ x.value → InRange (cond t (word x.width 0) (word x.width (cond t (2 ^ x.width - 1) q)))
divided true x q h l = pow_pos x.width
divided false x q h l = omega (arith, h, l)

left_over : (t : Bool) (x : Word) (r : ℕ) → InRange x → r ≤ x.value → cond t 0 r < 2 ^ x.width
left_over true x r h l = pow_pos x.width
left_over false x r h l = omega (arith, h, l)

binary_ranges : (w : ℕ) (operator : Binary) (a b : Word) → binary_fits w operator a.width b.width ≡ true → InRange a → InRange b → InRange (binary_value operator a b)
binary_ranges w binary.Add a b f h k = mod_below (a.value + b.value) (2 ^ a.width) (pow_pos a.width)
binary_ranges w binary.Subtract a b f h k = mod_below (a.value + (2 ^ a.width - b.value)) (2 ^ a.width) (pow_pos a.width)
binary_ranges w binary.Multiply a b f h k = mod_below (a.value * b.value) (2 ^ a.width) (pow_pos a.width)
binary_ranges w binary.Divide a b f h k = divided (b.value == 0) a (a.value / b.value) h (div-le_self a.value b.value)
binary_ranges w binary.Remainder a b f h k = left_over (b.value == 0) a (a.value % b.value) h (mod-le a.value b.value)
binary_ranges w binary.And a b f h k = omega (arith, h, and_le_l a.value b.value)
binary_ranges w binary.Or a b f h k = or_lt a.width a.value b.value h (subst (λ n. b.value < 2 ^ n) (same_width a.width w b.width f) k)
binary_ranges w binary.Xor a b f h k = xor_lt a.width a.value b.value h (subst (λ n. b.value < 2 ^ n) (same_width a.width w b.width f) k)
binary_ranges w binary.Equal a b f h k = bit_ranges (a.value == b.value)
binary_ranges w binary.NotEqual a b f h k = bit_ranges (not (a.value == b.value))
binary_ranges w (binary.Ordered o) a b f h k = bit_ranges _
binary_ranges w binary.ShiftLeft a b f h k = mod_below (a.value * 2 ^ min b.value a.width) (2 ^ a.width) (pow_pos a.width)
binary_ranges w binary.ShiftRight a b f h k = omega (arith, h, shr_le a.value (min b.value a.width))

unary_ranges : (operator : Unary) (a : Word) → InRange (unary_value operator a)
unary_ranges unary.Negate a = mod_below (2 ^ a.width - a.value) (2 ^ a.width) (pow_pos a.width)
unary_ranges unary.Complement a = let p = pow_pos a.width in omega (arith, p)
unary_ranges unary.AllOnes a = one_bit (a.value == 2 ^ a.width - 1)
unary_ranges unary.SomeOne a = other_bit (a.value == 0)
unary_ranges unary.Parity a = mod_below (count_ones a.value) 2 (lit< tt)

joined_ranges : (v : Values) (atoms : List Atom) → SignalsInRange v (flat_map atom_reads atoms) → AreSmall (flat_map atom_literals atoms) → InRange (joined_value v atoms)
joined_ranges v [] h l = lit< tt
joined_ranges v (a ∷ atoms) h l =
    let x = atom_value v a in
    let low = joined_value v atoms in
    let first = atom_ranges v a (front (λ s. InRange (v s)) (atom_reads a) (flat_map atom_reads atoms) h) (front (λ w. w ≤ 128) (atom_literals a) (flat_map atom_literals atoms) l) in
    let later = joined_ranges v atoms (rest (λ s. InRange (v s)) (atom_reads a) (flat_map atom_reads atoms) h) (rest (λ w. w ≤ 128) (atom_literals a) (flat_map atom_literals atoms) l) in
    let order : low.width + x.width ≡ x.width + low.width = omega arith in
    subst (λ m. x.value * 2 ^ low.width + low.value < m) (sym (pow-add 2 low.width x.width) ∙ ap (λ n. 2 ^ n) order) (mul-add-lt x.value (2 ^ low.width) low.value (2 ^ x.width) first later)

simple_ranges : (v : Values) (w : ℕ) (x : Simple) → simple_fits (widths_by v) w x ≡ true → SignalsInRange v (simple_reads x) → AreSmall (simple_literals x) → InRange (simple_value v x)
simple_ranges v w (simple.Atom a) f h l = atom_ranges v a h l
simple_ranges v w (simple.Binary operator a b) f h l =
    binary_ranges w operator (atom_value v a) (atom_value v b) (rw (atom_wide v a, atom_wide v b) f)
    (atom_ranges v a (front (λ s. InRange (v s)) (atom_reads a) (atom_reads b) h) (front (λ n. n ≤ 128) (atom_literals a) (atom_literals b) l))
    (atom_ranges v b (rest (λ s. InRange (v s)) (atom_reads a) (atom_reads b) h) (rest (λ n. n ≤ 128) (atom_literals a) (atom_literals b) l))
simple_ranges v w (simple.Unary operator a) f h l = unary_ranges operator (atom_value v a)
simple_ranges v w (simple.Slice s high low) f h l = mod_below ((v s.0).value / 2 ^ low) (2 ^ (high + 1 - low)) (pow_pos (high + 1 - low))
simple_ranges v w (simple.Concat atoms) f h l = joined_ranges v atoms h l

-- a number shifted with its sign
signed_ranges : (w a k : ℕ) → a < 2 ^ w → (t : Bool) → signed_bits w (int_shr (cond t (pos a) (negsuc (2 ^ w - suc a))) k) < 2 ^ w
signed_ranges w a k h true = omega (arith, h, shr_le a k)
signed_ranges w a k h false = let p = pow_pos w in omega (arith, p)

either : (t : Bool) (x y : Word) → InRange x → InRange y → InRange (cond t x y)
either true x y h k = h
either false x y h k = k

expr_ranges : (v : Values) (w : ℕ) (x : Expr) → fits (widths_by v) w x ≡ true → SignalsInRange v (reads x) → AreSmall (literals x) → InRange (expr_value v x)
expr_ranges v w (expr.Simple x) f h l = simple_ranges v w x f h l
expr_ranges v w (expr.SignedOrder o a b) f h l = bit_ranges _
expr_ranges v w (expr.SignedShift a k) f h l = signed_ranges (v a.0).width (v a.0).value (min (atom_value v k).value (v a.0).width) h.0 (nat_lt (v a.0).value (2 ^ ((v a.0).width - 1)))
expr_ranges v w (expr.Choice c a b) f h l =
    let both = rest (λ s. InRange (v s)) (atom_reads c) (simple_reads a ++ simple_reads b) h in
    let small = rest (λ n. n ≤ 128) (atom_literals c) (simple_literals a ++ simple_literals b) l in
    let one = simple_fits (widths_by v) w a in
    let other = simple_fits (widths_by v) w b in
    let branches = (and_parts (atom_width (widths_by v) c == 1) (one && other) f).1 in
    either ((atom_value v c).value == 0) (simple_value v b) (simple_value v a)
    (simple_ranges v w b (and_parts one other branches).1 (rest (λ s. InRange (v s)) (simple_reads a) (simple_reads b) both) (rest (λ n. n ≤ 128) (simple_literals a) (simple_literals b) small))
    (simple_ranges v w a (and_parts one other branches).0 (front (λ s. InRange (v s)) (simple_reads a) (simple_reads b) both) (front (λ n. n ≤ 128) (simple_literals a) (simple_literals b) small))

-- ---- wires

one_carries : (widths : Widths) (v : Values) (n : ℕ) (wire : Wire) → widths n ≡ wire.width → AllByRecursion (λ s. s < n) (reads wire.driver) → fits widths wire.width wire.driver ≡ true → AreSmall (literals wire.driver)
    → ((s : ℕ) → s < n → CarriesWord widths v s) → v n ≡ expr_value v wire.driver → CarriesWord widths v n
one_carries widths v n wire sized order fit small before is =
    let agree = each (λ s. s < n) (λ s. widths_by v s ≡ widths s) (λ s l. (before s l).0) (reads wire.driver) order in
    let ranges = each (λ s. s < n) (λ s. InRange (v s)) (λ s l. let b = before s l in subst (λ k. (v s).value < 2 ^ k) (sym b.0) b.1) (reads wire.driver) order in
    let fit' = fits_same (widths_by v) widths wire.width wire.driver agree ∙ fit in
    let wide : (v n).width ≡ widths n = ap (λ (x : Word). x.width) is ∙ expr_wide v wire.width wire.driver fit' ∙ sym sized in
    (wide, subst (λ k. (v n).value < 2 ^ k) wide (subst InRange (sym is) (expr_ranges v wire.width wire.driver fit' ranges small)))

pub wires_carry_their_words : (widths : Widths) (v : Values) (wires : List Wire) (n : ℕ) → AreSized widths n wires → ReadEarlier n wires → WidthsFit widths wires → HaveSmallLiterals wires → ((s : ℕ) → s < n → CarriesWord widths v s) → AreWired v n wires
    → (s : ℕ) → s < n + length wires → CarriesWord widths v s
wires_carry_their_words widths v [] n sized order fit small before wired s l = before s (omega (arith, l))
wires_carry_their_words widths v (wire ∷ wires) n sized order fit small before wired s l =
    wires_carry_their_words widths v wires (suc n) sized.1 order.1 fit.1 small.1 (λ k m. upto k (cases_lt k n) m) wired.1 s (omega (arith, l))
  where
    upto : (k : ℕ) → (k < n) ⊎ (n ≤ k) → k < suc n → CarriesWord widths v k
    upto k (inl x) m = before k x
    upto k (inr x) m = let same : n ≡ k = omega (arith, x, m) in subst (CarriesWord widths v) same (one_carries widths v n wire sized.0 order.0 fit.0 small.0 before wired.0)
