-- The signals of nodes that give a number show it.
use Rattle.std.proofs.Common.{◌≡◌, ℕ, ◌+◌, ◌≤◌, sum, List, [], ◌∷◌, ◌++◌, map, length, Bool, true, IsTrue, Result, Ok, Err, Some, refl, sym, ap, ap₂, ◌∙◌, subst, arith}
use Rattle.std.specs.Prelude.{IfOk, slice_get, nat_eq, nat_le}
use Rattle.std.specs.List.{AllByRecursion, list_all}
use Rattle.std.proofs.lemmas.Bool.Decides.{nat_tests}
use Rattle.std.proofs.lemmas.List.Sums.{sum_by-cons}
use Rattle.xb_bits.specs.Operations as bits
use Rattle.xb_value.specs.declared.ty.Ty as ty
use Rattle.xb_value.specs.declared.value.Value.{Value}
use Rattle.xb_value.specs.Flat.{joined}
use Rattle.xb_value.specs.Typing.{IsOfType}
use Rattle.xb_value.proofs.Lemmas.Typing.{bits_of_type}
use Rattle.delay_model.specs.declared.op.Op.TheVariants as op
use Rattle.delay_model.specs.declared.op.Binary.{Binary}
use Rattle.delay_model.specs.declared.op.Unary.{Unary}
use Rattle.delay_model.specs.declared.op.Compare.{Compare}
use Rattle.delay_model.specs.declared.op.Shift.{Shift}
use Rattle.delay_model.specs.declared.op.Reduce.{Reduce}
use Rattle.delay_model.specs.declared.op.Extend.{Extend}
use Rattle.delay_model.specs.declared.signature.Count.TheVariants.{Exactly, AtLeast}
use Rattle.delay_model.specs.Signatures.{is_met}
use Rattle.ir_tree.specs.declared.ir_type.IrType.{IrType, Bits}
use Rattle.ir_tree.specs.declared.ir_type.IrType.TheViews.{outs-Bits}
use Rattle.ir_tree.specs.declared.node.Operand.{Operand}
use Rattle.ir_tree.specs.NodeTypes.Types.{bits_width, width_there, is_bits, is_bits_of, is_bits_where}
use Rattle.ir_tree.specs.NodeValues.{operand_value}
use Rattle.ir_tree.specs.Operations.{binary_word, unary_word, shift_word, reduce_word, extend_word, holds, bit, plain_value, slice_value, dyn_slice_value, longer_value, of_one, of_two, on_word, on_words}
use Rattle.ir_tree.specs.Types.{ty_of, bounded}
use Rattle.ir_tree.proofs.Lemmas.NodeTypes.IrTypes.{ty_of-Bits}
use Rattle.ir_tree.specs.Rules.Fitting.{type_in, all_bits_of, all_bits, compare_fits, plain_fits, slice_fits, dynamic_fits, extend_fits}
use Rattle.ir_tree.proofs.Lemmas.Rules.Typed.Checked.{both_true}
use Rattle.ir_tree.proofs.Lemmas.Rules.Typed.Tests.{bits_is, nat_same}
use Rattle.vlog_tree.specs.declared.expression.Atom.{Atom}
use Rattle.vlog_tree.specs.Value.{Values, atom_value}
use Rattle.block_build.specs.declared.netlist.scopes.Number.{Number}
use Rattle.block_build.specs.declared.netlist.scopes.Scope.{Scope}
use Rattle.block_build.specs.declared.netlist.wires.WireList.{WireList}
use Rattle.block_build.specs.Netlist.Added.{AddsWires}
use Rattle.block_build.specs.Netlist.Leaves.{all_leaves, ShowsValue, first_or, total_width}
use Rattle.block_build.specs.Netlist.Pure.{scope_types, shown_in, operand_width, number_in, IsOperandShown, ShowsOperation}
use Rattle.block_build.specs.Netlist.Results.{GivesOne, GivesTwo, ShowWords}
use Rattle.block_build.proofs.OnNetlist.OnLeaves.{only_signal}
use Rattle.block_build.proofs.OnNetlist.OnResults.{binary_shown, unary_shown, compare_shown, shift_shown, reduce_shown, slice_shown, dyn_slice_shown, extend_shown, concat_shown}

-- ---- an operand that is a number

pub record IsNumber (v : Values) (scope : Scope) (s : Value) (values : List Value) (o : Operand) (w : ℕ) : Type 0 where
  pub width : operand_width scope o ≡ bounded w
  pub typed : IsOfType (ty.Bits (operand_width scope o)) (operand_value s values o)
  pub single : shown_in scope o ≡ first_or (shown_in scope o) ∷ []
  pub shows : ShowsValue v (first_or (shown_in scope o) ∷ []) (operand_value s values o)

pub is_number : (v : Values) (scope : Scope) (s : Value) (values : List Value) (o : Operand) (w : ℕ) → type_in (scope_types scope) o ≡ Bits w [] → IsOperandShown v scope s values o → IsNumber v scope s values o w
is_number v scope s values o w is read =
    let width : operand_width scope o ≡ bounded w = ap (λ t. bounded (bits_width t)) is ∙ ap (λ y. bounded (width_there y)) (outs-Bits w []) in
    let typed : IsOfType (ty.Bits (operand_width scope o)) (operand_value s values o) =
    subst (λ t. IsOfType t (operand_value s values o)) (ap ty_of is ∙ ty_of-Bits w [] ∙ ap ty.Bits (sym width)) read.typed in
    let single = only_signal v (operand_width scope o) (shown_in scope o) (operand_value s values o) typed read.shows in
    record { width = width; typed = typed; single = single; shows = subst (λ atoms. ShowsValue v atoms (operand_value s values o)) single read.shows }

pub bits_like : (t : IrType) (w : ℕ) → IsTrue (is_bits_of w t) → t ≡ Bits w []
bits_like t w h = let b = bits_is (nat_eq w) t h in b.is ∙ ap (λ n. Bits n []) (sym (nat_same w b.width b.test))

-- how wide a number of a type is
pub number_range : (t : IrType) (w : ℕ) (value : Value) → t ≡ Bits w [] → IsOfType (ty_of t) value → (1 ≤ w) × (w ≤ 128)
number_range t w value is typed =
    let b = bits_of_type (bounded w) value (subst (λ u. IsOfType u value) (ap ty_of is ∙ ty_of-Bits w []) typed) in
    let some = b.some_width in
    let most = b.most_width in
    (omega (arith, some), omega (arith, most))

-- ---- so many operands

pub record AreTwo (os : List Operand) : Type 0 where
  pub first : Operand
  pub second : Operand
  pub are : os ≡ first ∷ second ∷ []

pub one_of : (os : List Operand) → IsTrue (is_met (Exactly 1) (length os)) → (a : Operand) × (os ≡ a ∷ [])
one_of [] h = absurd (cc)
one_of (a ∷ []) h = (a, refl)
one_of (a ∷ b ∷ os) h = absurd (let one : length (a ∷ b ∷ os) ≡ 1 = grind (arith, nat_tests, h) in omega arith)

pub two_of : (os : List Operand) → IsTrue (is_met (Exactly 2) (length os)) → AreTwo os
two_of [] h = absurd (cc)
two_of (a ∷ []) h = absurd (let two : length (a ∷ []) ≡ 2 = grind (arith, nat_tests, h) in omega arith)
two_of (a ∷ b ∷ []) h = record { first = a; second = b; are = refl }
two_of (a ∷ b ∷ c ∷ os) h = absurd (let two : length (a ∷ b ∷ c ∷ os) ≡ 2 = grind (arith, nat_tests, h) in omega arith)

pub one_put : {E : Type 0} (o : Result (List Atom) E) (a c : WireList) (scope : Scope) (os : List Operand) (x : Number) (r : Atom) (G : Values → Number → Type 0) (fits : List Operand → IrType → Bool) (f : List Value → Value)
    → x ≡ number_in scope (slice_get os 0) → AddsWires a c (λ v. G v x) → IfOk o (λ own. own ≡ r ∷ [])
    → ((v : Values) (p : Operand) → G v (number_in scope (Some p)) → ShowsOperation v scope (Exactly 1) (p ∷ []) (fits (p ∷ [])) f (r ∷ []))
    → IfOk o (λ own. AddsWires a c (λ v. ShowsOperation v scope (Exactly 1) os (fits os) f own))
one_put (Ok own) a c scope os x r G fits f e gives is made = λ v h.
    let both = gives v h in (
      both.0,
      λ t s values shown fit typed.
          let one = one_of os (both_true (is_met (Exactly 1) (length os)) (fits os t) fit).0 in
          let there = subst (G v) (e ∙ ap (λ us. number_in scope (slice_get us 0)) one.1) both.1 in
          let claim = subst (λ us. ShowsOperation v scope (Exactly 1) us (fits us) f (r ∷ [])) (sym one.1) (made v one.0 there) in
          subst (λ atoms. ShowsOperation v scope (Exactly 1) os (fits os) f atoms) (sym is) claim t s values shown fit typed,
    )
one_put (Err z) a c scope os x r G fits f e gives is made = tt

pub two_put : {E : Type 0} (o : Result (List Atom) E) (a c : WireList) (scope : Scope) (os : List Operand) (x y : Number) (r : Atom) (G : Values → Number → Number → Type 0) (fits : List Operand → IrType → Bool) (f : List Value → Value)
    → x ≡ number_in scope (slice_get os 0) → y ≡ number_in scope (slice_get os 1) → AddsWires a c (λ v. G v x y) → IfOk o (λ own. own ≡ r ∷ [])
    → ((v : Values) (p q : Operand) → G v (number_in scope (Some p)) (number_in scope (Some q)) → ShowsOperation v scope (Exactly 2) (p ∷ q ∷ []) (fits (p ∷ q ∷ [])) f (r ∷ []))
    → IfOk o (λ own. AddsWires a c (λ v. ShowsOperation v scope (Exactly 2) os (fits os) f own))
two_put (Ok own) a c scope os x y r G fits f e k gives is made = λ v h.
    let both = gives v h in (
      both.0,
      λ t s values shown fit typed.
          let two = two_of os (both_true (is_met (Exactly 2) (length os)) (fits os t) fit).0 in
          let here = subst (λ z. G v z y) (e ∙ ap (λ us. number_in scope (slice_get us 0)) two.are) both.1 in
          let there = subst (G v (number_in scope (Some two.first))) (k ∙ ap (λ us. number_in scope (slice_get us 1)) two.are) here in
          let claim = subst (λ us. ShowsOperation v scope (Exactly 2) us (fits us) f (r ∷ [])) (sym two.are) (made v two.first two.second there) in
          subst (λ atoms. ShowsOperation v scope (Exactly 2) os (fits os) f atoms) (sym is) claim t s values shown fit typed,
    )
two_put (Err z) a c scope os x y r G fits f e k gives is made = tt

-- ---- each operation

pub binary_two : (v : Values) (scope : Scope) (o : Binary) (p q : Operand) (r : Atom) → GivesTwo v (operand_width scope p) (operand_width scope p) (binary_word o) (first_or (shown_in scope p)) (first_or (shown_in scope q)) r
    → ShowsOperation v scope (Exactly 2) (p ∷ q ∷ []) (plain_fits (op.Binary o) (scope_types scope) (p ∷ q ∷ [])) (plain_value (op.Binary o)) (r ∷ [])
binary_two v scope o p q r gives t s values shown fit typed =
    let both = both_true (is_met (Exactly 2) 2) (plain_fits (op.Binary o) (scope_types scope) (p ∷ q ∷ []) t) fit in
    let b = bits_is (λ w. all_bits_of w (scope_types scope) (p ∷ q ∷ [])) t both.1 in
    let first = both_true (is_bits_of b.width (type_in (scope_types scope) p)) (all_bits_of b.width (scope_types scope) (q ∷ [])) b.test in
    let second = both_true (is_bits_of b.width (type_in (scope_types scope) q)) true first.1 in
    let x = is_number v scope s values p b.width (bits_like _ b.width first.0) shown.0 in
    let y = is_number v scope s values q b.width (bits_like _ b.width second.0) shown.1.0 in
    binary_shown v o (operand_width scope p) (first_or (shown_in scope p)) (first_or (shown_in scope q)) r (operand_value s values p) (operand_value s values q) gives x.typed
    (subst (λ w. IsOfType (ty.Bits w) (operand_value s values q)) (y.width ∙ sym x.width) y.typed) x.shows y.shows

pub compare_two : (v : Values) (scope : Scope) (o : Compare) (p q : Operand) (r : Atom) → GivesTwo v (operand_width scope p) (operand_width scope p) (λ x y. bit (holds o x y)) (first_or (shown_in scope p)) (first_or (shown_in scope q)) r
    → ShowsOperation v scope (Exactly 2) (p ∷ q ∷ []) (plain_fits (op.Compare o) (scope_types scope) (p ∷ q ∷ [])) (plain_value (op.Compare o)) (r ∷ [])
compare_two v scope o p q r gives t s values shown fit typed =
    let both = both_true (is_met (Exactly 2) 2) (plain_fits (op.Compare o) (scope_types scope) (p ∷ q ∷ []) t) fit in
    let parts = both_true (compare_fits (scope_types scope) (p ∷ q ∷ [])) (is_bits_of 1 t) both.1 in
    let b = bits_is (λ w. all_bits_of w (scope_types scope) (q ∷ [])) (type_in (scope_types scope) p) parts.0 in
    let second = both_true (is_bits_of b.width (type_in (scope_types scope) q)) true b.test in
    let x = is_number v scope s values p b.width b.is shown.0 in
    let y = is_number v scope s values q b.width (bits_like _ b.width second.0) shown.1.0 in
    compare_shown v o (operand_width scope p) (first_or (shown_in scope p)) (first_or (shown_in scope q)) r (operand_value s values p) (operand_value s values q) gives x.typed
    (subst (λ w. IsOfType (ty.Bits w) (operand_value s values q)) (y.width ∙ sym x.width) y.typed) x.shows y.shows

pub shift_two : (v : Values) (scope : Scope) (o : Shift) (p q : Operand) (r : Atom) → ((u : ℕ) → GivesTwo v (operand_width scope p) u (shift_word o) (first_or (shown_in scope p)) (first_or (shown_in scope q)) r)
    → ShowsOperation v scope (Exactly 2) (p ∷ q ∷ []) (plain_fits (op.Shift o) (scope_types scope) (p ∷ q ∷ [])) (plain_value (op.Shift o)) (r ∷ [])
shift_two v scope o p q r gives t s values shown fit typed =
    let both = both_true (is_met (Exactly 2) 2) (plain_fits (op.Shift o) (scope_types scope) (p ∷ q ∷ []) t) fit in
    let parts = both_true (is_bits_where (λ w. is_bits_of w (type_in (scope_types scope) p)) t) (all_bits (scope_types scope) (q ∷ [])) both.1 in
    let b = bits_is (λ w. is_bits_of w (type_in (scope_types scope) p)) t parts.0 in
    let second = both_true (is_bits (type_in (scope_types scope) q)) true parts.1 in
    let c = bits_is (λ w. true) (type_in (scope_types scope) q) second.0 in
    let x = is_number v scope s values p b.width (bits_like _ b.width b.test) shown.0 in
    let y = is_number v scope s values q c.width c.is shown.1.0 in
    shift_shown v o (operand_width scope p) (operand_width scope q) (first_or (shown_in scope p)) (first_or (shown_in scope q)) r (operand_value s values p) (operand_value s values q)
    (gives (operand_width scope q)) x.typed y.typed x.shows y.shows

pub unary_one : (v : Values) (scope : Scope) (o : Unary) (p : Operand) (r : Atom) → GivesOne v (operand_width scope p) (unary_word o) (first_or (shown_in scope p)) r
    → ShowsOperation v scope (Exactly 1) (p ∷ []) (plain_fits (op.Unary o) (scope_types scope) (p ∷ [])) (plain_value (op.Unary o)) (r ∷ [])
unary_one v scope o p r gives t s values shown fit typed =
    let both = both_true (is_met (Exactly 1) 1) (plain_fits (op.Unary o) (scope_types scope) (p ∷ []) t) fit in
    let b = bits_is (λ w. all_bits_of w (scope_types scope) (p ∷ [])) t both.1 in
    let first = both_true (is_bits_of b.width (type_in (scope_types scope) p)) true b.test in
    let x = is_number v scope s values p b.width (bits_like _ b.width first.0) shown.0 in
    unary_shown v o (operand_width scope p) (first_or (shown_in scope p)) r (operand_value s values p) gives x.typed x.shows

pub reduce_one : (v : Values) (scope : Scope) (o : Reduce) (p : Operand) (r : Atom) → ((w : ℕ) → GivesOne v w (reduce_word o) (first_or (shown_in scope p)) r)
    → ShowsOperation v scope (Exactly 1) (p ∷ []) (plain_fits (op.Reduce o) (scope_types scope) (p ∷ [])) (plain_value (op.Reduce o)) (r ∷ [])
reduce_one v scope o p r gives t s values shown fit typed =
    let both = both_true (is_met (Exactly 1) 1) (plain_fits (op.Reduce o) (scope_types scope) (p ∷ []) t) fit in
    let parts = both_true (all_bits (scope_types scope) (p ∷ [])) (is_bits_of 1 t) both.1 in
    let first = both_true (is_bits (type_in (scope_types scope) p)) true parts.0 in
    let b = bits_is (λ w. true) (type_in (scope_types scope) p) first.0 in
    let x = is_number v scope s values p b.width b.is shown.0 in
    reduce_shown v o (operand_width scope p) (first_or (shown_in scope p)) r (operand_value s values p) (gives (operand_width scope p)) x.typed x.shows

same_bound : (n : ℕ) → n ≤ 128 → bounded n ≡ n
same_bound n h = omega (arith, h)

-- as wide as a number that there is
pub width_bound : (w n : ℕ) (value : Value) → IsOfType (ty.Bits w) value → w ≡ bounded n → (n ≡ w) × (w ≤ 128)
width_bound w n value typed e =
    let b = bits_of_type w value typed in
    let most = b.most_width in
    (omega (arith, most, e), most)

pub slice_one : (v : Values) (scope : Scope) (start width : ℕ) (p : Operand) (r : Atom)
    → (1 ≤ bounded width → bounded start + bounded width ≤ operand_width scope p → GivesOne v (operand_width scope p) (λ x. bits.slice x (bounded start) (bounded width)) (first_or (shown_in scope p)) r)
    → ShowsOperation v scope (Exactly 1) (p ∷ []) (slice_fits start width (scope_types scope) (p ∷ [])) (of_one (on_word (slice_value start width))) (r ∷ [])
slice_one v scope start width p r gives t s values shown fit typed =
    let both = both_true (is_met (Exactly 1) 1) (slice_fits start width (scope_types scope) (p ∷ []) t) fit in
    let parts = both_true (is_bits_of width t) (list_all (λ o. is_bits_where (nat_le (start + width)) (type_in (scope_types scope) o)) (p ∷ [])) both.1 in
    let first = both_true (is_bits_where (nat_le (start + width)) (type_in (scope_types scope) p)) true parts.1 in
    let b = bits_is (nat_le (start + width)) (type_in (scope_types scope) p) first.0 in
    let x = is_number v scope s values p b.width b.is shown.0 in
    let some = (number_range t width (of_one (on_word (slice_value start width)) (operand_value s values p ∷ [])) (bits_like t width parts.0) typed).0 in
    let wide = width_bound (operand_width scope p) b.width (operand_value s values p) x.typed x.width in
    let within : start + width ≤ operand_width scope p = subst (λ n. start + width ≤ n) wide.0 (below (start + width) b.width b.test) in
    let most = wide.1 in
    let from : bounded start ≡ start = same_bound start (omega (arith, within, most)) in
    let so_many : bounded width ≡ width = same_bound width (omega (arith, within, most)) in
    slice_shown v (operand_width scope p) start width (first_or (shown_in scope p)) r (operand_value s values p)
    (subst (λ n. GivesOne v (operand_width scope p) (λ y. bits.slice y n width) (first_or (shown_in scope p)) r) from
    (subst (λ n. GivesOne v (operand_width scope p) (λ y. bits.slice y (bounded start) n) (first_or (shown_in scope p)) r) so_many
    (gives (omega (arith, some, so_many)) (omega (arith, from, so_many, within)))))
    some within x.typed x.shows
  where
    below : (m n : ℕ) → IsTrue (nat_le m n) → m ≤ n
    below m n h = grind (arith, nat_tests, h)

pub dyn_slice_two : (v : Values) (scope : Scope) (width : ℕ) (p q : Operand) (r : Atom)
    → ((u : ℕ) → 1 ≤ bounded width → bounded width ≤ 128 → GivesTwo v (operand_width scope p) u (λ x y. bits.dyn_slice x y (bounded width)) (first_or (shown_in scope p)) (first_or (shown_in scope q)) r)
    → ShowsOperation v scope (Exactly 2) (p ∷ q ∷ []) (dynamic_fits width (scope_types scope) (p ∷ q ∷ [])) (of_two (on_words (dyn_slice_value width))) (r ∷ [])
dyn_slice_two v scope width p q r gives t s values shown fit typed =
    let both = both_true (is_met (Exactly 2) 2) (dynamic_fits width (scope_types scope) (p ∷ q ∷ []) t) fit in
    let parts = both_true (is_bits_of width t) (all_bits (scope_types scope) (p ∷ q ∷ [])) both.1 in
    let first = both_true (is_bits (type_in (scope_types scope) p)) (all_bits (scope_types scope) (q ∷ [])) parts.1 in
    let second = both_true (is_bits (type_in (scope_types scope) q)) true first.1 in
    let b = bits_is (λ w. true) (type_in (scope_types scope) p) first.0 in
    let c = bits_is (λ w. true) (type_in (scope_types scope) q) second.0 in
    let x = is_number v scope s values p b.width b.is shown.0 in
    let y = is_number v scope s values q c.width c.is shown.1.0 in
    let range = number_range t width (of_two (on_words (dyn_slice_value width)) (operand_value s values p ∷ operand_value s values q ∷ [])) (bits_like t width parts.0) typed in
    let some = range.0 in
    let most = range.1 in
    let same : bounded width ≡ width = same_bound width most in
    dyn_slice_shown v (operand_width scope p) (operand_width scope q) width (first_or (shown_in scope p)) (first_or (shown_in scope q)) r (operand_value s values p) (operand_value s values q)
    (subst (λ n. GivesTwo v (operand_width scope p) (operand_width scope q) (λ m k. bits.dyn_slice m k n) (first_or (shown_in scope p)) (first_or (shown_in scope q)) r) same
    (gives (operand_width scope q) (omega (arith, some, same)) (omega (arith, most, same))))
    some most x.typed y.typed x.shows y.shows

pub extend_one : (v : Values) (scope : Scope) (o : Extend) (width : ℕ) (p : Operand) (r : Atom)
    → (operand_width scope p ≤ bounded width → bounded width ≤ 128 → GivesOne v (operand_width scope p) (λ x. extend_word o x (bounded width)) (first_or (shown_in scope p)) r)
    → ShowsOperation v scope (Exactly 1) (p ∷ []) (extend_fits width (scope_types scope) (p ∷ [])) (longer_value (op.Extend o) width) (r ∷ [])
extend_one v scope o width p r gives t s values shown fit typed =
    let both = both_true (is_met (Exactly 1) 1) (extend_fits width (scope_types scope) (p ∷ []) t) fit in
    let parts = both_true (is_bits_of width t) (list_all (λ o. is_bits_where (λ w. nat_le w width) (type_in (scope_types scope) o)) (p ∷ [])) both.1 in
    let first = both_true (is_bits_where (λ w. nat_le w width) (type_in (scope_types scope) p)) true parts.1 in
    let b = bits_is (λ w. nat_le w width) (type_in (scope_types scope) p) first.0 in
    let x = is_number v scope s values p b.width b.is shown.0 in
    let most = (number_range t width (longer_value (op.Extend o) width (operand_value s values p ∷ [])) (bits_like t width parts.0) typed).1 in
    let wide = width_bound (operand_width scope p) b.width (operand_value s values p) x.typed x.width in
    let longer : operand_width scope p ≤ width = subst (λ n. n ≤ width) wide.0 (below b.width width b.test) in
    let same : bounded width ≡ width = same_bound width most in
    extend_shown v o (operand_width scope p) width (first_or (shown_in scope p)) r (operand_value s values p)
    (subst (λ n. GivesOne v (operand_width scope p) (λ y. extend_word o y n) (first_or (shown_in scope p)) r) same (gives (omega (arith, longer, same)) (omega (arith, most, same))))
    longer most x.typed x.shows
  where
    below : (m n : ℕ) → IsTrue (nat_le m n) → m ≤ n
    below m n h = grind (arith, nat_tests, h)

-- ---- numbers side by side

record AreNumbers (v : Values) (scope : Scope) (s : Value) (values : List Value) (os : List Operand) : Type 0 where
  shows : ShowWords v (map (operand_width scope) os) (all_leaves (map (shown_in scope) os)) (map (operand_value s values) os)
  width : total_width (map (operand_width scope) os) ≡ sum (map (λ o. bits_width (type_in (scope_types scope) o)) os)

are_numbers : (v : Values) (scope : Scope) (s : Value) (values : List Value) (os : List Operand) → IsTrue (all_bits (scope_types scope) os)
    → AllByRecursion (IsOperandShown v scope s values) os → AreNumbers v scope s values os
are_numbers v scope s values [] fit shown = record { shows = tt; width = refl }
are_numbers v scope s values (o ∷ os) fit shown =
    let both = both_true (is_bits (type_in (scope_types scope) o)) (all_bits (scope_types scope) os) fit in
    let b = bits_is (λ w. true) (type_in (scope_types scope) o) both.0 in
    let x = is_number v scope s values o b.width b.is shown.0 in
    let wide = width_bound (operand_width scope o) b.width (operand_value s values o) x.typed x.width in
    let rest = are_numbers v scope s values os both.1 shown.1 in
    let here : operand_width scope o ≡ bits_width (type_in (scope_types scope) o) = sym wide.0 ∙ sym (ap bits_width b.is ∙ ap width_there (outs-Bits b.width [])) in
    record {
      shows = subst (λ atoms. ShowWords v (map (operand_width scope) (o ∷ os)) (atoms ++ all_leaves (map (shown_in scope) os)) (map (operand_value s values) (o ∷ os))) (sym x.single) (x.typed, x.shows, rest.shows);
      width = ap₂ (λ m n. m + n) here rest.width ∙ sym (sum_by-cons (λ n. n) (bits_width (type_in (scope_types scope) o)) (map (λ o. bits_width (type_in (scope_types scope) o)) os));
    }

pub concat_put : {E : Type 0} (o : Result (List Atom) E) (a c : WireList) (scope : Scope) (os : List Operand) (shown : List (List Atom)) (atoms : List Atom) (r : Atom) → shown ≡ map (shown_in scope) os → atoms ≡ all_leaves shown
    → AddsWires a c (λ v. atom_value v r ≡ joined (map (atom_value v) atoms)) → IfOk o (λ own. own ≡ r ∷ [])
    → IfOk o (λ own. AddsWires a c (λ v. ShowsOperation v scope (AtLeast 1) os (plain_fits op.Concat (scope_types scope) os) (plain_value op.Concat) own))
concat_put (Ok own) a c scope os shown atoms r e k gives is = λ v h.
    let both = gives v h in (
      both.0,
      λ t s values shows fit typed.
          let parts = both_true (is_met (AtLeast 1) (length os)) (plain_fits op.Concat (scope_types scope) os t) fit in
          let numbers = both_true (all_bits (scope_types scope) os) (is_bits_where (λ w. nat_eq (sum (map (λ o. bits_width (type_in (scope_types scope) o)) os)) w) t) parts.1 in
          let b = bits_is (λ w. nat_eq (sum (map (λ o. bits_width (type_in (scope_types scope) o)) os)) w) t numbers.1 in
          let range = number_range t b.width (plain_value op.Concat (map (operand_value s values) os)) b.is typed in
          let some = range.0 in
          let most = range.1 in
          let all = are_numbers v scope s values os numbers.0 shows in
          let whole : total_width (map (operand_width scope) os) ≡ b.width = all.width ∙ nat_same _ b.width b.test in
          let same : atoms ≡ all_leaves (map (shown_in scope) os) = k ∙ ap all_leaves e in
          subst (λ result. ShowsValue v result (plain_value op.Concat (map (operand_value s values) os))) (sym is)
          (concat_shown v (map (operand_width scope) os) (all_leaves (map (shown_in scope) os)) r (map (operand_value s values) os) all.shows (omega (arith, whole, some)) (omega (arith, whole, most))
          (both.1 ∙ ap (λ xs. joined (map (atom_value v) xs)) same)),
    )
concat_put (Err z) a c scope os shown atoms r e k gives is = tt

-- ---- bounds of attributes

pub slice_bounded : (a c : WireList) (all low width start so_many : ℕ) (x r : Atom) → low ≡ bounded start → width ≡ bounded so_many
    → AddsWires a c (λ v. 1 ≤ width → low + width ≤ all → GivesOne v all (λ m. bits.slice m low width) x r)
    → AddsWires a c (λ v. 1 ≤ bounded so_many → bounded start + bounded so_many ≤ all → GivesOne v all (λ m. bits.slice m (bounded start) (bounded so_many)) x r)
slice_bounded a c all low width start so_many x r e f p =
    subst (λ n. AddsWires a c (λ v. 1 ≤ n → bounded start + n ≤ all → GivesOne v all (λ m. bits.slice m (bounded start) n) x r)) f
    (subst (λ n. AddsWires a c (λ v. 1 ≤ width → n + width ≤ all → GivesOne v all (λ m. bits.slice m n width) x r)) e p)

pub dyn_slice_bounded : (a c : WireList) (all width so_many : ℕ) (x y r : Atom) → width ≡ bounded so_many
    → AddsWires a c (λ v. (u : ℕ) → 1 ≤ width → width ≤ 128 → GivesTwo v all u (λ m n. bits.dyn_slice m n width) x y r)
    → AddsWires a c (λ v. (u : ℕ) → 1 ≤ bounded so_many → bounded so_many ≤ 128 → GivesTwo v all u (λ m n. bits.dyn_slice m n (bounded so_many)) x y r)
dyn_slice_bounded a c all width so_many x y r e p =
    subst (λ w. AddsWires a c (λ v. (u : ℕ) → 1 ≤ w → w ≤ 128 → GivesTwo v all u (λ m n. bits.dyn_slice m n w) x y r)) e p

pub extend_bounded : (a c : WireList) (o : Extend) (all width so_many : ℕ) (x r : Atom) → width ≡ bounded so_many
    → AddsWires a c (λ v. all ≤ width → width ≤ 128 → GivesOne v all (λ m. extend_word o m width) x r)
    → AddsWires a c (λ v. all ≤ bounded so_many → bounded so_many ≤ 128 → GivesOne v all (λ m. extend_word o m (bounded so_many)) x r)
extend_bounded a c o all width so_many x r e p =
    subst (λ w. AddsWires a c (λ v. all ≤ w → w ≤ 128 → GivesOne v all (λ m. extend_word o m w) x r)) e p
