-- What is put for operations on numbers gives their results.
use Rattle.std.proofs.Common.{◌≡◌, ℕ, zero, suc, ◌+◌, ◌-◌, ◌<◌, ◌≤◌, ◌^◌, List, [], ◌∷◌, ◌++◌, map, length, Result, Ok, Err, refl, sym, ap, ◌∙◌, subst, arith, cond, true, false, Bool, nat_lt, pos, negsuc}
use Rattle.std.specs.Prelude.{IfOk, ◌==◌}
use Rattle.std.proofs.lemmas.Nat.{pow_pos}
use Rattle.xb_bits.specs.Word.{Word, word}
use Rattle.xb_bits.specs.Operations as bits
use Rattle.xb_bits.specs.Sign.{signed_bits}
use Rattle.xb_value.specs.Flat.{joined}
use Rattle.net_core.specs.Behavior.{IsWordOf}
use Rattle.delay_model.specs.declared.op.Binary.TheVariants as operation
use Rattle.delay_model.specs.declared.op.Reduce.{Reduce}
use Rattle.delay_model.specs.declared.op.Unary.TheVariants as unaries
use Rattle.delay_model.specs.declared.op.Shift.{Shift}
use Rattle.delay_model.specs.declared.op.Shift.TheVariants as shift
use Rattle.delay_model.specs.declared.op.Extend.{Extend}
use Rattle.delay_model.specs.declared.op.Extend.TheVariants as extend
use Rattle.delay_model.specs.declared.op.Compare.{Compare}
use Rattle.ir_tree.specs.Operations.{binary_word, unary_word, shift_word, reduce_word, extend_word, holds, bit}
use Rattle.vlog_tree.specs.declared.expression.Atom.{Atom}
use Rattle.vlog_tree.specs.declared.expression.Binary.{Binary}
use Rattle.vlog_tree.specs.declared.expression.Binary.TheVariants as binary
use Rattle.vlog_tree.specs.declared.expression.Expr.TheVariants as expr
use Rattle.vlog_tree.specs.declared.expression.Order.{Order}
use Rattle.vlog_tree.specs.declared.expression.Simple.{Simple}
use Rattle.vlog_tree.specs.declared.expression.Simple.TheVariants as simple
use Rattle.vlog_tree.specs.declared.expression.Unary.{Unary}
use Rattle.vlog_tree.specs.declared.signal.Signal.{Signal}
use Rattle.vlog_tree.specs.Value as verilog
use Rattle.vlog_tree.specs.Value.{Values, atom_value, binary_value, unary_value, simple_value}
use Rattle.block_build.specs.declared.netlist.wires.WireList.{WireList}
use Rattle.block_build.specs.Netlist.Added.{next_number, AddsWires, Puts, PutsNet}
use Rattle.block_build.specs.Netlist.Literals.{literal_atom}
use Rattle.block_build.specs.Netlist.Gates.{net, binary_gate}
use Rattle.block_build.specs.Netlist.Leaves.{nets}
use Rattle.block_build.specs.Netlist.Operators.{divided_wires, part_of, simple_gate, unary_gate, fitted, bit_wires}
use Rattle.block_build.specs.Netlist.Results.{GivesOne, GivesTwo}
use Rattle.block_build.specs.Netlist.Wires.{AreWired}
use Rattle.block_build.proofs.OnNetlist.OnAdded.{literal_value, zeros_value, number_behind, next_behind, puts_both, two_wired, two_gates}
use Rattle.block_build.proofs.OnNetlist.OnGates.{operated}
use Rattle.block_build.proofs.OnNetlist.OnGiving.{binary_given, slice_given, dyn_slice_given, zero_extension_given, sign_extension_given, concat_given, reverse_given}

-- ---- two numbers

pub operation_given : (v : Values) (operator : Binary) (w width u k : ℕ) (a b : Atom) → AreWired v k (binary_gate w operator a b ∷ []) → GivesTwo v width u (binary_value operator) a b (net k)
operation_given v operator w width u k a b h x y i j e f = operated operator (v k) _ _ x y h.0 e f

-- how wide a number is
some_width : (w : ℕ) (x : Word) → IsWordOf w x → 1 ≤ w
some_width w x i = subst (λ n. 1 ≤ n) i.fits i.word.some_width

most_width : (w : ℕ) (x : Word) → IsWordOf w x → w ≤ 128
most_width w x i = subst (λ n. n ≤ 128) i.fits i.word.most_width

in_range : (w : ℕ) → 2 ^ w - 1 < 2 ^ w
in_range w = let some : 0 < 2 ^ w = pow_pos w in omega (arith, some)

pub quotient_given : (v : Values) (w k : ℕ) (a b zeros ones : Atom) → zeros ≡ literal_atom w 0 → (w ≤ 128 → ones ≡ literal_atom w (2 ^ w - 1))
    → AreWired v k (divided_wires w k binary.Divide a b zeros ones) → GivesTwo v w w (binary_word operation.Udiv) a b (net (suc k))
quotient_given v w k a b zeros ones z o h x y i j e f =
    let some = some_width w x i in
    let most = most_width w x i in
    binary_given v operation.Udiv w k a b zeros ones h (zeros_value v w zeros some most z) (ap (atom_value v) (o most) ∙ literal_value v w (2 ^ w - 1) some most (in_range w)) x y i j e f

pub remainder_given : (v : Values) (w k : ℕ) (a b zeros : Atom) → zeros ≡ literal_atom w 0
    → AreWired v k (divided_wires w k binary.Remainder a b zeros zeros) → GivesTwo v w w (binary_word operation.Umod) a b (net (suc k))
remainder_given v w k a b zeros z h x y i j e f =
    let some = some_width w x i in
    let most = most_width w x i in
    binary_given v operation.Umod w k a b zeros (literal_atom w (2 ^ w - 1)) h (zeros_value v w zeros some most z) (literal_value v w (2 ^ w - 1) some most (in_range w)) x y i j e f

-- ---- one number, whose signal has a name

pub named_given : (v : Values) (w s : ℕ) (f : Word → Word) (a r : Atom) → v s ≡ atom_value v a → GivesOne v w f (net s) r → GivesOne v w f a r
named_given v w s f a r e g x i h = g x i (e ∙ h)

pub zeros_above : (v : Values) (all width : ℕ) (zeros : Atom) → width ≤ 128 → zeros ≡ literal_atom (width - all) 0 → all < width → atom_value v zeros ≡ word (width - all) 0
zeros_above v all width zeros most z l = zeros_value v (width - all) zeros (omega (arith, l)) (omega (arith, most)) z

pub longer_given : (v : Values) (all width s k : ℕ) (zeros : Atom) → zeros ≡ literal_atom (width - all) 0 → AreWired v k (simple_gate width (fitted all width s zeros) ∷ [])
    → all ≤ width → width ≤ 128 → GivesOne v all (λ x. extend_word extend.Zero x width) (net s) (net k)
longer_given v all width s k zeros z h longer most x i e =
    let some = some_width all x i in
    zero_extension_given v all width s k zeros h (omega (arith, some, longer)) longer (zeros_above v all width zeros most z) x i e

-- a number made no longer is the same
same_bits : (w n : ℕ) (t : Bool) → n < 2 ^ w → signed_bits w (cond t (pos n) (negsuc (2 ^ w - suc n))) ≡ n
same_bits w n true l = refl
same_bits w n false l = omega (arith, l)

pub not_longer : (v : Values) (all width : ℕ) (a : Atom) → width ≤ all → all ≤ width → GivesOne v all (λ x. extend_word extend.Sign x width) a a
not_longer v all width a shorter longer x i e =
    let same : width ≡ x.width = (let f = i.fits in omega (arith, f, shorter, longer)) in
    e ∙ sym (ap (λ w. bits.sext x w) same ∙ ap (word x.width) (same_bits x.width x.value (nat_lt x.value (2 ^ (x.width - 1))) i.word.in_range))

-- ---- bits one by one

pub bit_wires_more : (all s i n : ℕ) → bit_wires all s i (suc n) ≡ bit_wires all s i n ++ simple_gate 1 (part_of all s (i + n) 1) ∷ []
bit_wires_more all s i zero = let e : i ≡ i + 0 = omega arith in ap (λ j. simple_gate 1 (part_of all s j 1) ∷ []) e
bit_wires_more all s i (suc n) =
    let e : suc i + n ≡ i + suc n = omega arith in
    ap (λ ws. simple_gate 1 (part_of all s i 1) ∷ ws) (bit_wires_more all s (suc i) n ∙ ap (λ j. bit_wires all s (suc i) n ++ simple_gate 1 (part_of all s j 1) ∷ []) e)

pub nets_more : (k n : ℕ) → nets k (suc n) ≡ nets k n ++ net (k + n) ∷ []
nets_more k zero = let e : k ≡ k + 0 = omega arith in ap (λ j. net j ∷ []) e
nets_more k (suc n) =
    let e : suc k + n ≡ k + suc n = omega arith in
    ap (λ xs. net k ∷ xs) (nets_more (suc k) n ∙ ap (λ j. nets (suc k) n ++ net j ∷ []) e)

length_bits : (all s i n : ℕ) → length (bit_wires all s i n) ≡ n
length_bits all s i zero = refl
length_bits all s i (suc n) = ap suc (length_bits all s (suc i) n)

pub bits_kept : (a b c : WireList) (old new : List Atom) (r : Atom) (y : Simple) (all s i : ℕ) → old ≡ nets (next_number a) i → Puts a b (bit_wires all s 0 i)
    → PutsNet b c (simple_gate 1 y) r → y ≡ part_of all s i 1 → new ≡ old ++ r ∷ [] → (new ≡ nets (next_number a) (i + 1)) × Puts a c (bit_wires all s 0 (i + 1))
bits_kept a b c old new r y all s i e p q is grown =
    let one : suc i ≡ i + 1 = omega arith in
    let none : i ≡ 0 + i = omega arith in
    let count : length (bit_wires all s 0 i) ≡ i = length_bits all s 0 i in
    let number : r ≡ net (next_number a + i) = q.number ∙ ap net (number_behind a b (bit_wires all s 0 i) p ∙ ap (λ n. next_number a + n) count) in
    let here = puts_both a b c (bit_wires all s 0 i) (simple_gate 1 y ∷ []) p q.puts in
    let there = subst (λ z. Puts a c (bit_wires all s 0 i ++ simple_gate 1 z ∷ [])) (is ∙ ap (λ n. part_of all s n 1) none) here in (
      subst (λ n. new ≡ nets (next_number a) n) one (grown ∙ ap (λ xs. xs ++ r ∷ []) e ∙ ap (λ t. nets (next_number a) i ++ t ∷ []) number ∙ sym (nets_more (next_number a) i)),
      subst (λ n. Puts a c (bit_wires all s 0 n)) one (subst (Puts a c) (sym (bit_wires_more all s 0 i)) there),
    )

-- ---- what the functions that put them promise

-- an operator between two numbers
pub operator_put : {E : Type 0} (o : Result Atom E) (a c : WireList) (g w u : ℕ) (x y : Atom) (operator : Binary) (f : Word → Word → Word)
    → ((p q : Word) → binary_value operator p q ≡ f p q) → IfOk o (PutsNet a c (binary_gate g operator x y)) → IfOk o (λ r. AddsWires a c (λ v. GivesTwo v w u f x y r))
operator_put (Ok r) a c g w u x y operator f same p = λ v h.
    let both = p.puts.wired v h in
    (both.0, λ m n i j d e. ap (atom_value v) p.number ∙ operation_given v operator g w u (next_number a) x y both.1 m n i j d e ∙ same m n)
operator_put (Err e) a c g w u x y operator f same p = tt

pub shift_put : {E : Type 0} (o : Result Atom E) (a c : WireList) (w : ℕ) (x y : Atom) (operator : Binary) (f : Word → Word → Word)
    → ((p q : Word) → binary_value operator p q ≡ f p q) → IfOk o (PutsNet a c (binary_gate w operator x y)) → IfOk o (λ r. AddsWires a c (λ v. (u : ℕ) → GivesTwo v w u f x y r))
shift_put (Ok r) a c w x y operator f same p = λ v h.
    let both = p.puts.wired v h in
    (both.0, λ u m n i j d e. ap (atom_value v) p.number ∙ operation_given v operator w w u (next_number a) x y both.1 m n i j d e ∙ same m n)
shift_put (Err e) a c w x y operator f same p = tt

pub reduce_put : {E : Type 0} (o : Result Atom E) (a c : WireList) (op : Reduce) (x : Atom) (operator : Unary)
    → ((p : Word) → unary_value operator p ≡ reduce_word op p) → IfOk o (PutsNet a c (unary_gate 1 operator x)) → IfOk o (λ r. AddsWires a c (λ v. (w : ℕ) → GivesOne v w (reduce_word op) x r))
reduce_put (Ok r) a c op x operator same p = λ v h.
    let both = p.puts.wired v h in
    (both.0, λ w m i d. ap (atom_value v) p.number ∙ both.1.0 ∙ ap (unary_value operator) d ∙ same m)
reduce_put (Err e) a c op x operator same p = tt

pub unary_put : {E : Type 0} (o : Result Atom E) (a c : WireList) (w : ℕ) (x : Atom) (operator : Unary) (f : Word → Word)
    → ((p : Word) → unary_value operator p ≡ f p) → IfOk o (PutsNet a c (unary_gate w operator x)) → IfOk o (λ r. AddsWires a c (λ v. GivesOne v w f x r))
unary_put (Ok r) a c w x operator f same p = λ v h.
    let both = p.puts.wired v h in
    (both.0, λ m i d. ap (atom_value v) p.number ∙ both.1.0 ∙ ap (unary_value operator) d ∙ same m)
unary_put (Err e) a c w x operator f same p = tt

pub reversed_put : {E : Type 0} (o : Result Atom E) (a b c d : WireList) (w : ℕ) (x : Atom) (s : Signal) (bits parts : List Atom) → AddsWires a b (λ v. v s.0 ≡ atom_value v x)
    → bits ≡ nets (next_number b) w → Puts b c (bit_wires w s.0 0 w) → parts ≡ bits → IfOk o (PutsNet c d (simple_gate w (simple.Concat parts)))
    → IfOk o (λ r. AddsWires a d (λ v. GivesOne v w (unary_word unaries.Reverse) x r))
reversed_put (Ok r) a b c d w x s bits parts p signals q is g = λ v h.
    let last = g.puts.wired v h in
    let second = q.wired v last.0 in
    let first = p v second.0 in (
      first.0,
      λ m i e.
          ap (atom_value v) g.number
          ∙ reverse_given v w s.0 (next_number b) (next_number c) second.1 (subst (λ xs. AreWired v (next_number c) (simple_gate w (simple.Concat xs) ∷ [])) (is ∙ signals) last.1) m i (first.1 ∙ e),
    )
reversed_put (Err e) a b c d w x s bits parts p signals q is g = tt

pub quotient_put : {E : Type 0} (o : Result Atom E) (a b c : WireList) (w : ℕ) (x y zeros ones some : Atom) → zeros ≡ literal_atom w 0 → (w ≤ 128 → ones ≡ literal_atom w (2 ^ w - 1))
    → PutsNet a b (binary_gate 1 binary.NotEqual y zeros) some → IfOk o (PutsNet b c (record { width = w; driver = expr.Choice some (simple.Binary binary.Divide x y) (simple.Atom ones) }))
    → IfOk o (λ r. AddsWires a c (λ v. GivesTwo v w w (binary_word operation.Udiv) x y r))
quotient_put o a b c w x y zeros ones some z n p q =
    two_gates o a b c (binary_gate 1 binary.NotEqual y zeros) (λ t. record { width = w; driver = expr.Choice t (simple.Binary binary.Divide x y) (simple.Atom ones) }) some
    (λ v r. GivesTwo v w w (binary_word operation.Udiv) x y r) p (λ v k h. quotient_given v w k x y zeros ones z n h) q

pub remainder_put : {E : Type 0} (o : Result Atom E) (a b c : WireList) (w : ℕ) (x y zeros some : Atom) → zeros ≡ literal_atom w 0
    → PutsNet a b (binary_gate 1 binary.NotEqual y zeros) some → IfOk o (PutsNet b c (record { width = w; driver = expr.Choice some (simple.Binary binary.Remainder x y) (simple.Atom zeros) }))
    → IfOk o (λ r. AddsWires a c (λ v. GivesTwo v w w (binary_word operation.Umod) x y r))
remainder_put o a b c w x y zeros some z p q =
    two_gates o a b c (binary_gate 1 binary.NotEqual y zeros) (λ t. record { width = w; driver = expr.Choice t (simple.Binary binary.Remainder x y) (simple.Atom zeros) }) some
    (λ v r. GivesTwo v w w (binary_word operation.Umod) x y r) p (λ v k h. remainder_given v w k x y zeros z h) q

pub signed_put : {E : Type 0} (o : Result Atom E) (a b c d : WireList) (ord : Order) (x y : Atom) (s t : Signal) → AddsWires a b (λ v. v s.0 ≡ atom_value v x) → AddsWires b c (λ v. v t.0 ≡ atom_value v y)
    → IfOk o (PutsNet c d (record { width = 1; driver = expr.SignedOrder ord s t }))
    → IfOk o (λ r. AddsWires a d (λ v. atom_value v r ≡ verilog.bit (verilog.holds ord (bits.cmp_s (atom_value v x) (atom_value v y)))))
signed_put (Ok r) a b c d ord x y s t p q g = λ v h.
    let last = g.puts.wired v h in
    let second = q v last.0 in
    let first = p v second.0 in
    (first.0, ap (atom_value v) g.number ∙ last.1.0 ∙ ap (λ z. verilog.bit (verilog.holds ord (bits.cmp_s z (v t.0)))) first.1 ∙ ap (λ z. verilog.bit (verilog.holds ord (bits.cmp_s (atom_value v x) z))) second.1)
signed_put (Err e) a b c d ord x y s t p q g = tt

pub signed_compared : {E : Type 0} (o : Result Atom E) (a d : WireList) (w : ℕ) (ord : Order) (op : Compare) (x y : Atom) → ((p q : Word) → verilog.holds ord (bits.cmp_s p q) ≡ holds op p q)
    → IfOk o (λ r. AddsWires a d (λ v. atom_value v r ≡ verilog.bit (verilog.holds ord (bits.cmp_s (atom_value v x) (atom_value v y)))))
    → IfOk o (λ r. AddsWires a d (λ v. GivesTwo v w w (λ m n. bit (holds op m n)) x y r))
signed_compared (Ok r) a d w ord op x y same p = λ v h.
    let both = p v h in
    (both.0, λ m n i j d e. both.1 ∙ ap (λ z. verilog.bit (verilog.holds ord (bits.cmp_s z (atom_value v y)))) d ∙ ap (λ z. verilog.bit (verilog.holds ord (bits.cmp_s m z))) e ∙ ap bit (same m n))
signed_compared (Err e) a d w ord op x y same p = tt

pub signed_shift_put : {E : Type 0} (o : Result Atom E) (a b c : WireList) (w : ℕ) (x amount : Atom) (s : Signal) → AddsWires a b (λ v. v s.0 ≡ atom_value v x)
    → IfOk o (PutsNet b c (record { width = w; driver = expr.SignedShift s amount })) → IfOk o (λ r. AddsWires a c (λ v. atom_value v r ≡ bits.shra (atom_value v x) (atom_value v amount)))
signed_shift_put (Ok r) a b c w x amount s p g = λ v h.
    let last = g.puts.wired v h in
    let first = p v last.0 in
    (first.0, ap (atom_value v) g.number ∙ last.1.0 ∙ ap (λ z. bits.shra z (atom_value v amount)) first.1)
signed_shift_put (Err e) a b c w x amount s p g = tt

pub signed_shifted : {E : Type 0} (o : Result Atom E) (a c : WireList) (w : ℕ) (op : Shift) (x amount : Atom) → op ≡ shift.Shra
    → IfOk o (λ r. AddsWires a c (λ v. atom_value v r ≡ bits.shra (atom_value v x) (atom_value v amount))) → IfOk o (λ r. AddsWires a c (λ v. (u : ℕ) → GivesTwo v w u (shift_word op) x amount r))
signed_shifted (Ok r) a c w op x amount is p = λ v h.
    let both = p v h in
    (both.0, λ u m n i j d e. both.1 ∙ ap (λ z. bits.shra z (atom_value v amount)) d ∙ ap (bits.shra m) e ∙ sym (ap (λ z. shift_word z m n) is))
signed_shifted (Err e) a c w op x amount is p = tt

pub joined_put : {E : Type 0} (o : Result Atom E) (a c : WireList) (w : ℕ) (parts atoms : List Atom) → parts ≡ atoms → IfOk o (PutsNet a c (simple_gate w (simple.Concat parts)))
    → IfOk o (λ r. AddsWires a c (λ v. atom_value v r ≡ joined (map (atom_value v) atoms)))
joined_put (Ok r) a c w parts atoms is p = λ v h.
    let both = p.puts.wired v h in
    (both.0, ap (atom_value v) p.number ∙ concat_given v w (next_number a) parts both.1 ∙ ap (λ xs. joined (map (atom_value v) xs)) is)
joined_put (Err e) a c w parts atoms is p = tt

pub slice_put : {E : Type 0} (o : Result Atom E) (a b c : WireList) (all low w : ℕ) (x : Atom) (s : Signal) (y : Simple) → (low + w < 2 ^ 64 → y ≡ part_of all s.0 low w) → all < 2 ^ 64
    → AddsWires a b (λ v. v s.0 ≡ atom_value v x) → IfOk o (PutsNet b c (simple_gate w y)) → IfOk o (λ r. AddsWires a c (λ v. 1 ≤ w → low + w ≤ all → GivesOne v all (λ m. bits.slice m low w) x r))
slice_put (Ok r) a b c all low w x s y is small p g = λ v h.
    let last = g.puts.wired v h in
    let first = p v last.0 in (
      first.0,
      λ some within.
          let same : y ≡ part_of all s.0 low w = is (omega (arith, small, within)) in
          named_given v all s.0 (λ m. bits.slice m low w) x r first.1
          (subst (GivesOne v all (λ m. bits.slice m low w) (net s.0)) (sym g.number)
          (slice_given v all low w s.0 (next_number b) (subst (λ z. AreWired v (next_number b) (simple_gate w z ∷ [])) same last.1) some within)),
    )
slice_put (Err e) a b c all low w x s y is small p g = tt

pub dyn_slice_put : {E : Type 0} (o : Result Atom E) (a b c : WireList) (all w : ℕ) (x start zeros : Atom) (s : Signal) (y : Simple) → s.0 ≡ next_number a
    → Puts a b (record { width = all; driver = expr.Simple (simple.Binary binary.ShiftRight x start) } ∷ []) → y ≡ fitted all w s.0 zeros → zeros ≡ literal_atom (w - all) 0
    → IfOk o (PutsNet b c (simple_gate w y)) → IfOk o (λ r. AddsWires a c (λ v. (u : ℕ) → 1 ≤ w → w ≤ 128 → GivesTwo v all u (λ m n. bits.dyn_slice m n w) x start r))
dyn_slice_put (Ok r) a b c all w x start zeros s y n p is z g = λ v h.
    let last = g.puts.wired v h in
    let first = p.wired v last.0 in
    let k = next_number a in
    let behind : next_number b ≡ suc k = next_behind a b (record { width = all; driver = expr.Simple (simple.Binary binary.ShiftRight x start) }) p in (
      first.0,
      λ u some most.
          subst (GivesTwo v all u (λ m n. bits.dyn_slice m n w) x start) (sym (g.number ∙ ap net behind))
          (dyn_slice_given v all u w k x start zeros (first.1.0, (ap v (sym behind) ∙ last.1.0 ∙ ap (simple_value v) (is ∙ ap (λ m. fitted all w m zeros) n), tt)) some (zeros_above v all w zeros most z)),
    )
dyn_slice_put (Err e) a b c all w x start zeros s y n p is z g = tt

pub longer_put : {E : Type 0} (o : Result Atom E) (a b c : WireList) (op : Extend) (all w : ℕ) (x zeros : Atom) (s : Signal) (y : Simple) → op ≡ extend.Zero → AddsWires a b (λ v. v s.0 ≡ atom_value v x)
    → y ≡ fitted all w s.0 zeros → zeros ≡ literal_atom (w - all) 0 → IfOk o (PutsNet b c (simple_gate w y)) → IfOk o (λ r. AddsWires a c (λ v. all ≤ w → w ≤ 128 → GivesOne v all (λ m. extend_word op m w) x r))
longer_put (Ok r) a b c op all w x zeros s y it p is z g = λ v h.
    let last = g.puts.wired v h in
    let first = p v last.0 in (
      first.0,
      λ longer most m i e.
          ap (atom_value v) g.number
          ∙ longer_given v all w s.0 (next_number b) zeros z (subst (λ q. AreWired v (next_number b) (simple_gate w q ∷ [])) is last.1) longer most m i (first.1 ∙ e)
          ∙ sym (ap (λ q. extend_word q m w) it),
    )
longer_put (Err e) a b c op all w x zeros s y it p is z g = tt

pub sign_extended_put : {E : Type 0} (o : Result Atom E) (a b c : WireList) (all w : ℕ) (s : Signal) (sign zeros ones : Atom) (x negative positive : Simple) → x ≡ part_of all s.0 (all - 1) 1
    → PutsNet a b (simple_gate 1 x) sign → negative ≡ simple.Concat (ones ∷ net s.0 ∷ []) → positive ≡ simple.Concat (zeros ∷ net s.0 ∷ []) → zeros ≡ literal_atom (w - all) 0
    → (w - all ≤ 128 → ones ≡ literal_atom (w - all) (2 ^ (w - all) - 1)) → all < w → IfOk o (PutsNet b c (record { width = w; driver = expr.Choice sign negative positive }))
    → IfOk o (λ r. AddsWires a c (λ v. all ≤ w → w ≤ 128 → GivesOne v all (λ m. extend_word extend.Sign m w) (net s.0) r))
sign_extended_put (Ok r) a b c all w s sign zeros ones x negative positive part p low high z n less g = λ v h.
    let k = next_number a in
    let both = two_wired a b c (simple_gate 1 x) (λ t. record { width = w; driver = expr.Choice t negative positive }) sign p g.puts v h in (
      both.0,
      λ longer most m i e.
          ap (atom_value v) (g.number ∙ ap net (next_behind a b (simple_gate 1 x) p.puts))
          ∙ sign_extension_given v all w s.0 k zeros ones (
            both.1.0 ∙ ap (simple_value v) part,
            (both.1.1.0 ∙ ap (λ q. cond ((v k).value == 0) (simple_value v positive) (simple_value v q)) low ∙ ap (λ q. cond ((v k).value == 0) (simple_value v q) (simple_value v (simple.Concat (ones ∷ net s.0 ∷ [])))) high, tt),
          )
          (some_width all m i) longer (zeros_value v (w - all) zeros (omega (arith, less)) (omega (arith, most)) z)
          (ap (atom_value v) (n (omega (arith, most))) ∙ literal_value v (w - all) (2 ^ (w - all) - 1) (omega (arith, less)) (omega (arith, most)) (in_range (w - all))) m i e,
    )
sign_extended_put (Err e) a b c all w s sign zeros ones x negative positive part p low high z n less g = tt

pub sign_extended_named : {E : Type 0} (o : Result Atom E) (a b c : WireList) (op : Extend) (all w : ℕ) (x : Atom) (s : Signal) → op ≡ extend.Sign → AddsWires a b (λ v. v s.0 ≡ atom_value v x)
    → IfOk o (λ r. AddsWires b c (λ v. all ≤ w → w ≤ 128 → GivesOne v all (λ m. extend_word extend.Sign m w) (net s.0) r)) → IfOk o (λ r. AddsWires a c (λ v. all ≤ w → w ≤ 128 → GivesOne v all (λ m. extend_word op m w) x r))
sign_extended_named (Ok r) a b c op all w x s it p g = λ v h.
    let last = g v h in
    let first = p v last.0 in
    (first.0, λ longer most m i e. last.1 longer most m i (first.1 ∙ e) ∙ sym (ap (λ q. extend_word q m w) it))
sign_extended_named (Err e) a b c op all w x s it p g = tt
