-- Registers one behind another.
use Rattle.std.proofs.Common.{◌≡◌, ℕ, zero, suc, ◌+◌, ◌-◌, ◌<◌, ◌≤◌, ◌^◌, max, true, false, cond, eqb, List, [], ◌∷◌, ◌++◌, length, drop, get_or, replicate, refl, sym, ap, ap₂, ◌∙◌, subst, arith}
use Rattle.std.proofs.Math.Seq.{drop-cons}
use Rattle.std.proofs.lemmas.Bool.Decides.{nat_tests}
use Rattle.std.proofs.lemmas.List.{append_assoc, append-nil, length-append, replicate_more, drop_all}
use Rattle.std.proofs.lemmas.Nat.{leading_length}
use Rattle.std.specs.Int.Count.{count_leading_zeros}
use Rattle.vlog_tree.specs.declared.expression.Atom.{Atom}
use Rattle.vlog_tree.specs.declared.module.Set.{Set}
use Rattle.vlog_tree.specs.Meaning.{taken_by}
use Rattle.vlog_tree.specs.Value.{Values, atom_value}
use Rattle.block_build.specs.declared.netlist.fifos.Fifo.{Fifo}
use Rattle.block_build.specs.declared.netlist.registers.Register.{Register}
use Rattle.block_build.specs.declared.netlist.registers.RegisterList.{RegisterList}
use Rattle.block_build.specs.Netlist.Gates.{net}
use Rattle.block_build.specs.Netlist.Registers.{next_register, Lays, zero_register, count_bits, laid_fifo, AreTaken, sets_from}

pub nothing_laid : (a : RegisterList) → Lays a a []
nothing_laid a = record { first = refl; laid = sym (append-nil a.registers.items) }

-- some registers and some more
pub lays_both : (a b c : RegisterList) (xs ys : List Register) → Lays a b xs → Lays b c ys → Lays a c (xs ++ ys)
lays_both a b c xs ys p q = record { first = q.first ∙ p.first; laid = q.laid ∙ ap (λ zs. zs ++ ys) p.laid ∙ append_assoc a.registers.items xs ys }

-- the number behind
pub register_behind : (a b : RegisterList) (xs : List Register) → Lays a b xs → next_register b ≡ next_register a + length xs
register_behind a b xs p =
    ap (λ k. k + length b.registers.items) p.first
    ∙ ap (λ ys. a.first + length ys) p.laid
    ∙ ap (λ k. a.first + k) (length-append a.registers.items xs)
    ∙ here a.first (length a.registers.items) (length xs)
  where
    here : (x y z : ℕ) → x + (y + z) ≡ x + y + z
    here x y z = omega arith

pub zeros_more : (a b c : RegisterList) (i width : ℕ) → Lays a b (replicate i (zero_register width)) → Lays b c (zero_register width ∷ []) → Lays a c (replicate (i + 1) (zero_register width))
zeros_more a b c i width p q = subst (Lays a c) (replicate_more i (zero_register width)) (lays_both a b c (replicate i (zero_register width)) (zero_register width ∷ []) p q)

pub record LaidFifo (a c : RegisterList) (depth width : ℕ) (fifo : Fifo) : Type 0 where
  pub fifo_is : fifo ≡ laid_fifo depth width (next_register a)
  pub lays : Lays a c (zero_register (count_bits depth) ∷ replicate depth (zero_register width))

pub fifo_laid : (a b c : RegisterList) (depth width bits count slots : ℕ) (zeros : Atom) → bits ≡ count_bits depth → Lays a b (record { width = bits; reset = zeros } ∷ []) → zeros ≡ (zero_register bits).reset → count ≡ next_register a
    → slots ≡ next_register b → Lays b c (replicate depth (zero_register width)) → LaidFifo a c depth width (record { depth = depth; width = width; count_width = bits; count = net count; slots = slots })
fifo_laid a b c depth width bits count slots zeros bits_is p zeros_is count_is slots_is q =
    let whole = subst (λ n. Lays a b (zero_register n ∷ [])) bits_is (subst (λ t. Lays a b (record { width = bits; reset = t } ∷ [])) zeros_is p) in
    let behind : slots ≡ suc (next_register a) = slots_is ∙ register_behind a b (zero_register (count_bits depth) ∷ []) whole ∙ one (next_register a) in
    record {
      fifo_is = λ i. record { depth = depth; width = width; count_width = bits_is i; count = net (count_is i); slots = behind i };
      lays = lays_both a b c (zero_register (count_bits depth) ∷ []) (replicate depth (zero_register width)) whole q;
    }
  where
    one : (n : ℕ) → n + 1 ≡ suc n
    one n = omega arith

-- a count is wide enough
pub count_fits : (depth : ℕ) → depth < 2 ^ 32 → depth < 2 ^ count_bits depth
count_fits depth small =
    let long = leading_length 32 depth small in
    let bits : count_bits depth ≡ max long.0 1 = ap (λ n. max n 1) (digits (count_leading_zeros 32 depth) long.0 long.1) in
    subst (λ n. depth < 2 ^ n) (sym bits) (wider long.0 long.2)
  where
    digits : (z m : ℕ) → z + m ≡ 32 → 32 - z ≡ m
    digits z m e = omega (arith, e)

    wider : (m : ℕ) → depth < 2 ^ m → depth < 2 ^ max m 1
    wider zero l = omega (arith, l)
    wider (suc m) l = let e : suc m ≡ max (suc m) 1 = omega arith in subst (λ n. depth < 2 ^ n) e l

-- ---- what they hold

pub taken_append : (v next : Values) (k : ℕ) (xs ys : List Atom) → AreTaken v next k (xs ++ ys) → AreTaken v next k xs × AreTaken v next (k + length xs) ys
taken_append v next k [] ys h = let e : k ≡ k + 0 = omega arith in (tt, subst (λ n. AreTaken v next n ys) e h)
taken_append v next k (x ∷ xs) ys h =
    let e : suc k + length xs ≡ k + suc (length xs) = omega arith in
    let rest = taken_append v next (suc k) xs ys h.1 in
    ((h.0, rest.0), subst (λ n. AreTaken v next n ys) e rest.1)

-- ---- the sets of a module

apart : (m n : ℕ) → n < m → eqb m n ≡ false
apart m n l = grind (arith, nat_tests)

same : (n : ℕ) → eqb n n ≡ true
same n = grind (arith, nat_tests)

-- registers before the first keep what they hold
taken_before : (v held : Values) (k : ℕ) (nexts : List Atom) (r : ℕ) → r < k → taken_by (sets_from k nexts) v held r ≡ held r
taken_before v held k [] r l = refl
taken_before v held k (a ∷ nexts) r l =
    taken_before v (λ s. cond (eqb k s) (atom_value v a) (held s)) (suc k) nexts r (omega (arith, l)) ∙ ap (λ t. cond t (atom_value v a) (held r)) (apart k r l)

pub sets_are_taken : (v held : Values) (k : ℕ) (nexts : List Atom) → AreTaken v (taken_by (sets_from k nexts) v held) k nexts
sets_are_taken v held k [] = tt
sets_are_taken v held k (a ∷ nexts) = (
  taken_before v (λ s. cond (eqb k s) (atom_value v a) (held s)) (suc k) nexts k (omega arith) ∙ ap (λ t. cond t (atom_value v a) (held k)) (same k),
  sets_are_taken v (λ s. cond (eqb k s) (atom_value v a) (held s)) (suc k) nexts,
)

-- what is put so far, and what is left
pub sets_more : (first i number : ℕ) (values : List Atom) (a : Atom) (old new : List Set) → i < length values → a ≡ get_or values i a → number ≡ first + i → new ≡ old ++ record { target = record { 0 = number }; value = a } ∷ []
    → old ++ sets_from (first + i) (drop i values) ≡ sets_from first values → new ++ sets_from (first + (i + 1)) (drop (i + 1) values) ≡ sets_from first values
sets_more first i number values a old new l a_is number_is grown before =
    let one : suc i ≡ i + 1 = omega arith in
    let next : first + (i + 1) ≡ suc (first + i) = omega arith in
    let left : drop i values ≡ a ∷ drop (i + 1) values = drop-cons values i a l ∙ ap (λ x. x ∷ drop (suc i) values) (sym a_is) ∙ ap (λ n. a ∷ drop n values) one in
    ap₂ (λ xs k. xs ++ sets_from k (drop (i + 1) values)) grown next
    ∙ append_assoc old (record { target = record { 0 = number }; value = a } ∷ []) (sets_from (suc (first + i)) (drop (i + 1) values))
    ∙ ap (λ n. old ++ record { target = record { 0 = n }; value = a } ∷ sets_from (suc (first + i)) (drop (i + 1) values)) number_is
    ∙ ap (λ xs. old ++ sets_from (first + i) xs) (sym left)
    ∙ before

pub sets_begun : (first : ℕ) (values : List Atom) (sets : List Set) → sets ≡ [] → sets ++ sets_from (first + 0) (drop 0 values) ≡ sets_from first values
sets_begun first values sets e = let none : first + 0 ≡ first = omega arith in ap₂ (λ xs k. xs ++ sets_from k values) e none

pub sets_done : (first i : ℕ) (values : List Atom) (sets : List Set) → length values ≤ i → sets ++ sets_from (first + i) (drop i values) ≡ sets_from first values → sets ≡ sets_from first values
sets_done first i values sets l h = sym (append-nil sets) ∙ ap (λ xs. sets ++ sets_from (first + i) xs) (sym (drop_all i values l)) ∙ h
