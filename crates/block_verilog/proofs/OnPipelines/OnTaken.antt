-- Registers that take what stands on signals, one part behind another.
use Rattle.std.proofs.Common.{◌≡◌, ℕ, zero, suc, ◌+◌, ◌<◌, ◌≤◌, List, [], ◌∷◌, ◌++◌, length, map, Some, refl, sym, ap, ap₂, ◌∙◌, subst, arith}
use Rattle.std.specs.Prelude.{slice_get}
use Rattle.xb_bits.specs.Word.{Word}
use Rattle.vlog_tree.specs.declared.expression.Atom.{Atom}
use Rattle.vlog_tree.specs.Value.{Values, atom_value}
use Rattle.block_build.specs.Netlist.Gates.{net}
use Rattle.block_build.specs.Netlist.Leaves.{nets}
use Rattle.block_build.specs.Netlist.Registers.{AreTaken}
use Rattle.block_build.specs.Netlist.Wires.{Wire, AreWired}

-- ---- parts of lists

pub taken_parts : (v next : Values) (k : ℕ) (xs ys : List Atom) → AreTaken v next k (xs ++ ys) → AreTaken v next k xs × AreTaken v next (k + length xs) ys
taken_parts v next k [] ys h = let e : k ≡ k + 0 = omega arith in (tt, subst (λ n. AreTaken v next n ys) e h)
taken_parts v next k (x ∷ xs) ys h =
    let e : suc k + length xs ≡ k + suc (length xs) = omega arith in
    let rest = taken_parts v next (suc k) xs ys h.1 in
    ((h.0, rest.0), subst (λ n. AreTaken v next n ys) e rest.1)

pub taken_at : (v next : Values) (k : ℕ) (xs : List Atom) (i : ℕ) (a : Atom) → AreTaken v next k xs → slice_get xs i ≡ Some a → next (k + i) ≡ atom_value v a
taken_at v next k [] i a h e = absurd (cc)
taken_at v next k (x ∷ xs) zero a h e =
    let same : x ≡ a = cc in
    let at : k + 0 ≡ k = omega arith in
    ap next at ∙ h.0 ∙ ap (atom_value v) same
taken_at v next k (x ∷ xs) (suc i) a h e = let at : k + suc i ≡ suc k + i = omega arith in ap next at ∙ taken_at v next (suc k) xs i a h.1 e

pub wired_parts : (v : Values) (k : ℕ) (xs ys : List Wire) → AreWired v k (xs ++ ys) → AreWired v k xs × AreWired v (k + length xs) ys
wired_parts v k [] ys h = let e : k ≡ k + 0 = omega arith in (tt, subst (λ n. AreWired v n ys) e h)
wired_parts v k (x ∷ xs) ys h =
    let e : suc k + length xs ≡ k + suc (length xs) = omega arith in
    let rest = wired_parts v (suc k) xs ys h.1 in
    ((h.0, rest.0), subst (λ n. AreWired v n ys) e rest.1)

-- ---- signals one behind another

pub nets_long : (k n : ℕ) → length (nets k n) ≡ n
nets_long k zero = refl
nets_long k (suc n) = ap suc (nets_long (suc k) n)

pub nets_at : (k n i : ℕ) → i < n → slice_get (nets k n) i ≡ Some (net (k + i))
nets_at k zero i l = absurd (omega (arith, l))
nets_at k (suc n) zero l = let at : k ≡ k + 0 = omega arith in ap (λ j. Some (net j)) at
nets_at k (suc n) (suc i) l = let at : suc k + i ≡ k + suc i = omega arith in nets_at (suc k) n i (omega (arith, l)) ∙ ap (λ j. Some (net j)) at

-- registers from one on take what so many wires from one on carry
abbrev pub TakeWires : Values → Values → ℕ → ℕ → ℕ → Type 0
TakeWires v next r a n = (y : ℕ) → y < n → next (r + y) ≡ v (a + y)

pub wires_taken : (v next : Values) (r a n : ℕ) → AreTaken v next r (nets a n) → TakeWires v next r a n
wires_taken v next r a n h = λ y l. taken_at v next r (nets a n) y (net (a + y)) h (nets_at a n y l)

pub wires_within : (v next : Values) (r a n from count : ℕ) → TakeWires v next r a n → from + count ≤ n → TakeWires v next (r + from) (a + from) count
wires_within v next r a n from count h l = λ y m.
    let here : r + from + y ≡ r + (from + y) = omega arith in
    let there : a + (from + y) ≡ a + from + y = omega arith in
    ap next here ∙ h (from + y) (omega (arith, l, m)) ∙ ap v there

pub wires_map : (v next : Values) (r a n : ℕ) → TakeWires v next r a n → map (atom_value next) (nets r n) ≡ map (atom_value v) (nets a n)
wires_map v next r a zero h = refl
wires_map v next r a (suc n) h =
    let here : r + 0 ≡ r = omega arith in
    let there : a + 0 ≡ a = omega arith in
    let own : next r ≡ v a = ap next (sym here) ∙ h 0 (omega arith) ∙ ap v there in
    ap₂ (λ (x : Word) xs. x ∷ xs) own
    (wires_map v next (suc r) (suc a) n
    (λ y l.
    let one : suc r + y ≡ r + suc y = omega arith in
    let two : a + suc y ≡ suc a + y = omega arith in
    ap next one ∙ h (suc y) (omega (arith, l)) ∙ ap v two))
