-- What a list of wires promises when wires are put behind it.
use Rattle.std.proofs.Common.{◌≡◌, ℕ, suc, ◌+◌, ◌<◌, ◌≤◌, ◌^◌, List, [], ◌∷◌, ◌++◌, length, sym, ap, ap₂, ◌∙◌, subst, refl, arith, cond, true, nat_lt, max, min, Result, Ok, Err}
use Rattle.std.specs.Prelude.{IfOk, OnOk}
use Rattle.std.proofs.lemmas.Bool.Decides.{nat_tests}
use Rattle.std.proofs.lemmas.List.{append_assoc, append-nil, length-append}
use Rattle.std.proofs.lemmas.Nat.{pow_pos}
use Rattle.xb_bits.specs.Word.{word}
use Rattle.vlog_tree.specs.declared.expression.Atom.{Atom}
use Rattle.vlog_tree.specs.declared.expression.Expr.TheVariants as expr
use Rattle.vlog_tree.specs.declared.expression.Simple.TheVariants as simple
use Rattle.vlog_tree.specs.declared.signal.Signal.{Signal}
use Rattle.vlog_tree.specs.Value.{Values, atom_value}
use Rattle.block_build.specs.declared.netlist.wires.WireList.{WireList}
use Rattle.block_build.specs.Netlist.Added.{Carries, next_number, AddsWires, Puts, PutsNet}
use Rattle.block_build.specs.Netlist.Gates.{net}
use Rattle.block_build.specs.Netlist.Literals.{literal_atom}
use Rattle.block_build.specs.Netlist.Wires.{Wire, AreWired}

-- wires behind others
pub wired_behind : (v : Values) (n : ℕ) (xs ys : List Wire) → AreWired v n (xs ++ ys) → AreWired v n xs × AreWired v (n + length xs) ys
wired_behind v n [] ys h = let e : n ≡ n + 0 = omega arith in (tt, subst (λ k. AreWired v k ys) e h)
wired_behind v n (x ∷ xs) ys h =
    let e : suc n + length xs ≡ n + suc (length xs) = omega arith in
    let rest = wired_behind v (suc n) xs ys h.1 in
    ((h.0, rest.0), subst (λ k. AreWired v k ys) e rest.1)

pub wired_both : (v : Values) (n : ℕ) (xs ys : List Wire) → AreWired v n xs → AreWired v (n + length xs) ys → AreWired v n (xs ++ ys)
wired_both v n [] ys g h = let e : n + 0 ≡ n = omega arith in subst (λ k. AreWired v k ys) e h
wired_both v n (x ∷ xs) ys g h =
    let e : n + suc (length xs) ≡ suc n + length xs = omega arith in
    (g.0, wired_both v (suc n) xs ys g.1 (subst (λ k. AreWired v k ys) e h))

pub puts : (old new : WireList) (ws : List Wire) → new.first ≡ old.first → new.wires.items ≡ old.wires.items ++ ws → Puts old new ws
puts old new ws f p = record {
  first = f;
  put = p;
  wired = λ v h. wired_behind v old.first old.wires.items ws (subst (λ k. AreWired v k (old.wires.items ++ ws)) f (subst (AreWired v new.first) p h));
}

-- the number behind
pub number_behind : (old new : WireList) (ws : List Wire) → Puts old new ws → next_number new ≡ next_number old + length ws
number_behind old new ws p =
    ap (λ k. k + length new.wires.items) p.first
    ∙ ap (λ xs. old.first + length xs) p.put
    ∙ ap (λ k. old.first + k) (length-append old.wires.items ws)
    ∙ here old.first (length old.wires.items) (length ws)
  where
    here : (a b c : ℕ) → a + (b + c) ≡ a + b + c
    here a b c = omega arith

pub next_behind : (old new : WireList) (wire : Wire) → Puts old new (wire ∷ []) → next_number new ≡ suc (next_number old)
next_behind old new wire p = number_behind old new (wire ∷ []) p ∙ here (next_number old)
  where
    here : (a : ℕ) → a + 1 ≡ suc a
    here a = omega arith

-- some wires and some more
pub puts_both : (a b c : WireList) (xs ys : List Wire) → Puts a b xs → Puts b c ys → Puts a c (xs ++ ys)
puts_both a b c xs ys p q =
    puts a c (xs ++ ys) (q.first ∙ p.first) (q.put ∙ ap (λ zs. zs ++ ys) p.put ∙ append_assoc a.wires.items xs ys)

-- what one wire promises of its signal
pub gate_gives : (old new : WireList) (wire : Wire) (r : Atom) (P : Values → Atom → Type 0) → ((v : Values) (k : ℕ) → AreWired v k (wire ∷ []) → P v (net k)) → PutsNet old new wire r
    → AddsWires old new (λ v. P v r)
gate_gives old new wire r P f p v h =
    let both = p.puts.wired v h in
    (both.0, subst (P v) (sym p.number) (f v (next_number old) both.1))

pub gates_give : {E : Type 0} (o : Result Atom E) (old new : WireList) (wire : Wire) (P : Values → Atom → Type 0) → ((v : Values) (k : ℕ) → AreWired v k (wire ∷ []) → P v (net k))
    → IfOk o (PutsNet old new wire) → IfOk o (λ r. AddsWires old new (λ v. P v r))
gates_give (Ok r) old new wire P f p = gate_gives old new wire r P f p
gates_give (Err e) old new wire P f p = tt

-- what literals are worth
pub literal_value : (v : Values) (w n : ℕ) → 1 ≤ w → w ≤ 128 → n < 2 ^ w → atom_value v (literal_atom w n) ≡ word w n
literal_value v w n some most fits =
    let wide : max 1 w ≡ w = omega (arith, some) in
    let least : min (max 1 w) 128 ≡ w = omega (arith, some, most) in
    ap₂ word wide (ap (λ k. cond (nat_lt n (2 ^ k)) n 0) least ∙ ap (λ t. cond t n 0) (below (2 ^ w) n fits))
  where
    below : (m n : ℕ) → n < m → nat_lt n m ≡ true
    below m n l = grind (arith, nat_tests)

pub zeros_value : (v : Values) (w : ℕ) (a : Atom) → 1 ≤ w → w ≤ 128 → a ≡ literal_atom w 0 → atom_value v a ≡ word w 0
zeros_value v w a some most is = ap (atom_value v) is ∙ literal_value v w 0 some most (pow_pos w)

-- one promise and then another
pub adds_both : (a b c : WireList) (P Q : Values → Type 0) → AddsWires a b P → AddsWires b c Q → AddsWires a c (λ v. P v × Q v)
adds_both a b c P Q p q v h =
    let later = q v h in
    let sooner = p v later.0 in
    (sooner.0, (sooner.1, later.1))

-- what a wire gives behind what is promised before it
pub gates_after : {E : Type 0} (o : Result Atom E) (a b c : WireList) (y : Wire) (Q : Values → Type 0) (P : Values → Atom → Type 0) → AddsWires a b Q
    → ((v : Values) (k : ℕ) → Q v → AreWired v k (y ∷ []) → P v (net k)) → IfOk o (PutsNet b c y) → IfOk o (λ r. AddsWires a c (λ v. P v r))
gates_after (Ok r) a b c y Q P q f p = λ v h.
    let later = p.puts.wired v h in
    let sooner = q v later.0 in
    (sooner.0, subst (P v) (sym p.number) (f v (next_number b) sooner.1 later.1))
gates_after (Err e) a b c y Q P q f p = tt

-- two wires, the second of which reads the first
pub two_wired : (a b c : WireList) (x : Wire) (y : Atom → Wire) (s : Atom) → PutsNet a b x s → Puts b c (y s ∷ []) → (v : Values) → Carries v c
    → Carries v a × AreWired v (next_number a) (x ∷ y (net (next_number a)) ∷ [])
two_wired a b c x y s p q v h =
    let later = q.wired v h in
    let sooner = p.puts.wired v later.0 in
    let named = subst (λ t. AreWired v (next_number b) (y t ∷ [])) p.number later.1 in (
      sooner.0,
      wired_both v (next_number a) (x ∷ []) (y (net (next_number a)) ∷ []) sooner.1
          (subst (λ m. AreWired v m (y (net (next_number a)) ∷ [])) (number_behind a b (x ∷ []) p.puts) named),
    )

pub two_gates : {E : Type 0} (o : Result Atom E) (a b c : WireList) (x : Wire) (y : Atom → Wire) (s : Atom) (P : Values → Atom → Type 0) → PutsNet a b x s
    → ((v : Values) (k : ℕ) → AreWired v k (x ∷ y (net k) ∷ []) → P v (net (suc k))) → IfOk o (PutsNet b c (y s)) → IfOk o (λ r. AddsWires a c (λ v. P v r))
two_gates (Ok r) a b c x y s P p f q = λ v h.
    let both = two_wired a b c x y s p q.puts v h in
    (both.0, subst (P v) (sym (q.number ∙ ap net (next_behind a b x p.puts))) (f v (next_number a) both.1))
two_gates (Err e) a b c x y s P p f q = tt

-- a literal that is put on a wire
pub wires_named : {E : Type 0} (o : Result Signal E) (old new : WireList) (w : ℕ) (a : Atom) → IfOk o (λ s. s.0 ≡ next_number old)
    → OnOk o (Puts old new (record { width = w; driver = expr.Simple (simple.Atom a) } ∷ [])) → IfOk o (λ s. AddsWires old new (λ v. v s.0 ≡ atom_value v a))
wires_named (Ok s) old new w a n p = λ v h.
    let both = p.wired v h in
    (both.0, ap v n ∙ both.1.0)
wires_named (Err e) old new w a n p = tt

-- ---- wires one behind another

-- these are put, and this is the next number
pub record PutsTo (old new : WireList) (wires : List Wire) (n : ℕ) : Type 0 where
  pub puts : Puts old new wires
  pub next : next_number new ≡ n

pub puts_nothing : (a : WireList) → PutsTo a a [] (next_number a)
puts_nothing a = record { puts = puts a a [] refl (sym (append-nil a.wires.items)); next = refl }

-- one more
pub puts_more : (a b c : WireList) (ws : List Wire) (y : Wire) (r : Atom) (n : ℕ) → PutsTo a b ws n → PutsNet b c y r → (r ≡ net n) × PutsTo a c (ws ++ y ∷ []) (suc n)
puts_more a b c ws y r n p q = (
  q.number ∙ ap net p.next,
  record { puts = puts_both a b c ws (y ∷ []) p.puts q.puts; next = next_behind b c y q.puts ∙ ap suc p.next },
)
