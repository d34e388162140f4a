-- What an expression is worth that fits, where what it reads are numbers of their widths.
use Rattle.std.proofs.Common.{◌≡◌, ◌≢◌, ℕ, ◌+◌, ◌-◌, ◌<◌, ◌≤◌, ◌^◌, List, [], ◌∷◌, ◌++◌, length, refl, sym, ap, ap₂, ◌∙◌, subst, ◌⊎◌, inl, inr, true, nat_lt, ◌&&◌, arith}
use Rattle.std.specs.Prelude.{◌==◌, if◌then◌else◌, nat_le, flat_map}
use Rattle.std.specs.List.{AllByRecursion}
use Rattle.std.proofs.lemmas.Bool.{cases_eq, cases_lt, eq-eqb, ne_eqb}
use Rattle.std.proofs.lemmas.Nat.{pow_pos}
use Rattle.xb_bits.specs.Word.{Word, word}
use Rattle.vlog_tree.specs.declared.expression.Atom.{Atom}
use Rattle.vlog_tree.specs.declared.expression.Atom.TheVariants as atom
use Rattle.vlog_tree.specs.declared.expression.Expr.{Expr}
use Rattle.vlog_tree.specs.declared.expression.Expr.TheVariants as expr
use Rattle.vlog_tree.specs.declared.expression.Simple.{Simple}
use Rattle.vlog_tree.specs.declared.expression.Simple.TheVariants as simple
use Rattle.vlog_tree.specs.Forms.{Widths, atom_width, joined_width, binary_fits, unary_fits, simple_fits, fits, atom_reads, simple_reads, reads, atom_literals, simple_literals, literals}
use Rattle.vlog_tree.specs.Sound.{IsKnownAtom, IsKnownSimple, IsKnown}
use Rattle.vlog_tree.specs.Value.{Values, expr_value}
use Rattle.vlog_tree.proofs.Lemmas.Settling.{each_prefix, each_back, each_other, expr_same}
use Rattle.block_build.specs.Netlist.Order.{AreSized, WidthsFit, HaveSmallLiterals, CarriesWord}
use Rattle.block_build.specs.Netlist.Wires.{Wire, AreWired, ReadEarlier}

-- the law of wires, which is proved of wires in an order
abbrev pub WiresCarry : Type 0
WiresCarry =
    (widths : Widths) (values : Values) (wires : List Wire) (n : ℕ) → AreSized widths n wires → ReadEarlier n wires → WidthsFit widths wires → HaveSmallLiterals wires
    → ((s : ℕ) → s < n → CarriesWord widths values s) → AreWired values n wires → (s : ℕ) → s < n + length wires → CarriesWord widths values s

-- ---- what is known of an expression

abbrev IsSmall : ℕ → Type 0
IsSmall w = w ≤ 128

both : {A : Type 0} (P : A → Type 0) (xs ys : List A) → AllByRecursion P xs → AllByRecursion P ys → AllByRecursion P (xs ++ ys)
both P [] ys h k = k
both P (x ∷ xs) ys h k = (h.0, both P xs ys h.1 k)

atom_reads_known : (n : ℕ) (a : Atom) → IsKnownAtom n a → AllByRecursion (λ s. s < n) (atom_reads a)
atom_reads_known n (atom.Signal s) h = (h, tt)
atom_reads_known n (atom.Literal l) h = tt

atoms_read_known : (n : ℕ) (atoms : List Atom) → AllByRecursion (IsKnownAtom n) atoms → AllByRecursion (λ s. s < n) (flat_map atom_reads atoms)
atoms_read_known n [] h = tt
atoms_read_known n (a ∷ atoms) h = both (λ s. s < n) (atom_reads a) (flat_map atom_reads atoms) (atom_reads_known n a h.0) (atoms_read_known n atoms h.1)

simple_reads_known : (n : ℕ) (x : Simple) → IsKnownSimple n x → AllByRecursion (λ s. s < n) (simple_reads x)
simple_reads_known n (simple.Atom a) h = atom_reads_known n a h
simple_reads_known n (simple.Binary operator a b) h = both (λ s. s < n) (atom_reads a) (atom_reads b) (atom_reads_known n a h.0) (atom_reads_known n b h.1)
simple_reads_known n (simple.Unary operator a) h = atom_reads_known n a h
simple_reads_known n (simple.Slice s high low) h = (h, tt)
simple_reads_known n (simple.Concat atoms) h = atoms_read_known n atoms h

pub reads_known : (n : ℕ) (x : Expr) → IsKnown n x → AllByRecursion (λ s. s < n) (reads x)
reads_known n (expr.Simple x) h = simple_reads_known n x h
reads_known n (expr.SignedOrder order a b) h = (h.0, (h.1, tt))
reads_known n (expr.SignedShift a k) h = (h.0, atom_reads_known n k h.1)
reads_known n (expr.Choice c a b) h =
    both (λ s. s < n) (atom_reads c) (simple_reads a ++ simple_reads b) (atom_reads_known n c h.0)
    (both (λ s. s < n) (simple_reads a) (simple_reads b) (simple_reads_known n a h.1) (simple_reads_known n b h.2))

atom_literals_small : (n : ℕ) (a : Atom) → IsKnownAtom n a → AllByRecursion IsSmall (atom_literals a)
atom_literals_small n (atom.Signal s) h = tt
atom_literals_small n (atom.Literal l) h = (h, tt)

atoms_literals_small : (n : ℕ) (atoms : List Atom) → AllByRecursion (IsKnownAtom n) atoms → AllByRecursion IsSmall (flat_map atom_literals atoms)
atoms_literals_small n [] h = tt
atoms_literals_small n (a ∷ atoms) h = both IsSmall (atom_literals a) (flat_map atom_literals atoms) (atom_literals_small n a h.0) (atoms_literals_small n atoms h.1)

simple_literals_small : (n : ℕ) (x : Simple) → IsKnownSimple n x → AllByRecursion IsSmall (simple_literals x)
simple_literals_small n (simple.Atom a) h = atom_literals_small n a h
simple_literals_small n (simple.Binary operator a b) h = both IsSmall (atom_literals a) (atom_literals b) (atom_literals_small n a h.0) (atom_literals_small n b h.1)
simple_literals_small n (simple.Unary operator a) h = atom_literals_small n a h
simple_literals_small n (simple.Slice s high low) h = tt
simple_literals_small n (simple.Concat atoms) h = atoms_literals_small n atoms h

pub literals_small : (n : ℕ) (x : Expr) → IsKnown n x → AllByRecursion IsSmall (literals x)
literals_small n (expr.Simple x) h = simple_literals_small n x h
literals_small n (expr.SignedOrder order a b) h = tt
literals_small n (expr.SignedShift a k) h = atom_literals_small n k h.1
literals_small n (expr.Choice c a b) h =
    both IsSmall (atom_literals c) (simple_literals a ++ simple_literals b) (atom_literals_small n c h.0)
    (both IsSmall (simple_literals a) (simple_literals b) (simple_literals_small n a h.1) (simple_literals_small n b h.2))

-- ---- what fits by widths that agree on what is read

abbrev AgreeOn : Widths → Widths → List ℕ → Type 0
AgreeOn f g = AllByRecursion (λ s. f s ≡ g s)

atom_alike : (f g : Widths) (a : Atom) → AgreeOn f g (atom_reads a) → atom_width f a ≡ atom_width g a
atom_alike f g (atom.Signal s) h = h.0
atom_alike f g (atom.Literal l) h = refl

joined_alike : (f g : Widths) (atoms : List Atom) → AgreeOn f g (flat_map atom_reads atoms) → joined_width f atoms ≡ joined_width g atoms
joined_alike f g [] h = refl
joined_alike f g (a ∷ atoms) h =
    ap₂ (λ m n. m + n) (atom_alike f g a (each_prefix (λ s. f s ≡ g s) (atom_reads a) (flat_map atom_reads atoms) h)) (joined_alike f g atoms (each_back (λ s. f s ≡ g s) (atom_reads a) (flat_map atom_reads atoms) h))

simple_alike : (f g : Widths) (w : ℕ) (x : Simple) → AgreeOn f g (simple_reads x) → simple_fits f w x ≡ simple_fits g w x
simple_alike f g w (simple.Atom a) h = ap (λ n. n == w) (atom_alike f g a h)
simple_alike f g w (simple.Binary operator a b) h =
    ap₂ (binary_fits w operator) (atom_alike f g a (each_prefix (λ s. f s ≡ g s) (atom_reads a) (atom_reads b) h)) (atom_alike f g b (each_back (λ s. f s ≡ g s) (atom_reads a) (atom_reads b) h))
simple_alike f g w (simple.Unary operator a) h = ap (unary_fits w operator) (atom_alike f g a h)
simple_alike f g w (simple.Slice s high low) h = ap (λ n. nat_lt 1 n && (nat_le low high && (nat_lt high n && (w == high + 1 - low)))) h.0
simple_alike f g w (simple.Concat atoms) h = ap (λ n. n == w) (joined_alike f g atoms h)

fits_alike : (f g : Widths) (w : ℕ) (x : Expr) → AgreeOn f g (reads x) → fits f w x ≡ fits g w x
fits_alike f g w (expr.Simple x) h = simple_alike f g w x h
fits_alike f g w (expr.SignedOrder o a b) h = ap₂ (λ m n. (m == n) && (w == 1)) h.0 h.1.0
fits_alike f g w (expr.SignedShift a k) h = ap (λ n. n == w) h.0
fits_alike f g w (expr.Choice c a b) h =
    let two = each_back (λ s. f s ≡ g s) (atom_reads c) (simple_reads a ++ simple_reads b) h in
    ap₂ (λ m t. (m == 1) && t) (atom_alike f g c (each_prefix (λ s. f s ≡ g s) (atom_reads c) (simple_reads a ++ simple_reads b) h))
    (ap₂ (λ s t. s && t) (simple_alike f g w a (each_prefix (λ s. f s ≡ g s) (simple_reads a) (simple_reads b) two)) (simple_alike f g w b (each_back (λ s. f s ≡ g s) (simple_reads a) (simple_reads b) two)))

-- ---- one that stands alone behind all signals

-- it carries one, or doesn't
pub carries_or_not : (f : Widths) (v : Values) (s : ℕ) → CarriesWord f v s ⊎ (CarriesWord f v s → ⊥)
carries_or_not f v s = wide (cases_eq (v s).width (f s))
  where
    ranged : (v s).width ≡ f s → ((v s).value < 2 ^ f s) ⊎ (2 ^ f s ≤ (v s).value) → CarriesWord f v s ⊎ (CarriesWord f v s → ⊥)
    ranged e (inl l) = inl (e, l)
    ranged e (inr g) = inr (λ h. absurd (omega (arith, h.1, g)))

    wide : ((v s).width ≡ f s) ⊎ ((v s).width ≢ f s) → CarriesWord f v s ⊎ (CarriesWord f v s → ⊥)
    wide (inl e) = ranged e (cases_lt (v s).value (2 ^ f s))
    wide (inr ne) = inr (λ h. ne h.0)

-- the number that stands there, or 0 where that is none of its width
abbrev kept_or_zero : {C : Type 0} → C ⊎ (C → ⊥) → Word → ℕ → Word
kept_or_zero (inl p) x w = x
kept_or_zero (inr q) x w = word w 0

kept_there : {C : Type 0} (d : C ⊎ (C → ⊥)) (x : Word) (w : ℕ) → C → kept_or_zero d x w ≡ x
kept_there (inl p) x w c = refl
kept_there (inr q) x w c = absurd (q c)

abbrev IsOfWidth : ℕ → Word → Type 0
IsOfWidth w x = (x.width ≡ w) × (x.value < 2 ^ w)

kept_fits : (f : Widths) (v : Values) (s : ℕ) (d : CarriesWord f v s ⊎ (CarriesWord f v s → ⊥)) → IsOfWidth (f s) (kept_or_zero d (v s) (f s))
kept_fits f v s (inl p) = p
kept_fits f v s (inr q) = (refl, pow_pos (f s))

-- all signals below n as they stand or 0, and the value of the expression at n
abbrev with_worth : Widths → Values → ℕ → Word → Values
with_worth f v n x s = if n == s then x else kept_or_zero (carries_or_not f v s) (v s) (f s)

abbrev with_width : Widths → ℕ → ℕ → Widths
with_width f n w s = if n == s then w else f s

worth_there : (f : Widths) (v : Values) (n : ℕ) (x : Word) → with_worth f v n x n ≡ x
worth_there f v n x = ap (λ b. if b then x else kept_or_zero (carries_or_not f v n) (v n) (f n)) (eq-eqb n n refl)

width_there : (f : Widths) (n w : ℕ) → with_width f n w n ≡ w
width_there f n w = ap (λ b. if b then w else f n) (eq-eqb n n refl)

worth_before : (f : Widths) (v : Values) (n : ℕ) (x : Word) (s : ℕ) → s < n → with_worth f v n x s ≡ kept_or_zero (carries_or_not f v s) (v s) (f s)
worth_before f v n x s l = ap (λ b. if b then x else kept_or_zero (carries_or_not f v s) (v s) (f s)) (ne_eqb n s (λ e. absurd (omega (arith, l, e))))

width_before : (f : Widths) (n w s : ℕ) → s < n → with_width f n w s ≡ f s
width_before f n w s l = ap (λ b. if b then w else f s) (ne_eqb n s (λ e. absurd (omega (arith, l, e))))

signal_fits : (f : Widths) (v : Values) (n w : ℕ) (x : Word) (s : ℕ) → s < n → CarriesWord (with_width f n w) (with_worth f v n x) s
signal_fits f v n w x s l =
    subst (λ k. IsOfWidth k (with_worth f v n x s)) (sym (width_before f n w s l))
    (subst (IsOfWidth (f s)) (sym (worth_before f v n x s l)) (kept_fits f v s (carries_or_not f v s)))

read_alike : (f : Widths) (v : Values) (n : ℕ) (x : Word) (xs : List ℕ) → AllByRecursion (λ s. s < n) xs → AllByRecursion (CarriesWord f v) xs → AllByRecursion (λ s. v s ≡ with_worth f v n x s) xs
read_alike f v n x [] below carried = tt
read_alike f v n x (s ∷ xs) below carried =
    (sym (worth_before f v n x s below.0 ∙ kept_there (carries_or_not f v s) (v s) (f s) carried.0), read_alike f v n x xs below.1 carried.1)

-- an expression that fits a width is worth a number of it, where it reads such
pub worth_fits : WiresCarry → (f : Widths) (v : Values) (n w : ℕ) (x : Expr) → IsKnown n x → fits f w x ≡ true → AllByRecursion (CarriesWord f v) (reads x) → IsOfWidth w (expr_value v x)
worth_fits law f v n w x known fit carried =
    let below = reads_known n x known in
    let value = expr_value v x in
    let f' = with_width f n w in
    let v' = with_worth f v n value in
    let wire : Wire = record { width = w; driver = x } in
    let fit' = fits_alike f' f w x (each_other (λ s. s < n) (λ s. f' s ≡ f s) (λ s l. width_before f n w s l) (reads x) below) ∙ fit in
    let same = expr_same v v' x (read_alike f v n value (reads x) below carried) in
    let wired : v' n ≡ expr_value v' x = worth_there f v n value ∙ same in
    let there = law f' v' (wire ∷ []) n (width_there f n w, tt) (below, tt) (fit', tt) (literals_small n x known, tt) (λ s l. signal_fits f v n w value s l) (wired, tt) n (omega arith) in
    subst (λ k. IsOfWidth k value) (width_there f n w) (subst (IsOfWidth (f' n)) (worth_there f v n value) there)
