-- What is put for the words of sites.
use Rattle.std.proofs.Common.{◌≡◌, ℕ, ◌-◌, ◌≤◌, ◌^◌, min, List, [], ◌++◌, map, Bool, true, ◌&&◌, Result, Ok, Err, Some, None, sym, ap, ◌∙◌, subst, arith}
use Rattle.std.specs.Prelude.{IfOk, slice_get, nat_le, if◌then◌else◌, option_map}
use Rattle.std.proofs.lemmas.Bool.Decides.{nat_tests}
use Rattle.xb_bits.specs.Word.{Word}
use Rattle.xb_value.specs.declared.ty.Ty.{Ty}
use Rattle.xb_value.specs.declared.value.Value.{Value}
use Rattle.xb_value.specs.Flat.{flat_of, joined}
use Rattle.xb_value.specs.Typing.{IsOfType}
use Rattle.xb_value.specs.Width.{width_of}
use Rattle.xb_value.proofs.Lemmas.Flat.{as_wide}
use Rattle.net_core.specs.Behavior.{IsWordOf}
use Rattle.ir_tree.specs.declared.ir_type.IrType.{IrType}
use Rattle.ir_tree.specs.declared.node.Operand.{Operand}
use Rattle.ir_tree.specs.declared.package.Channel.{Channel}
use Rattle.ir_tree.specs.Activations.{sent, word_where}
use Rattle.ir_tree.specs.NodeValues.{channel_type}
use Rattle.ir_tree.specs.Types.{ty_of}
use Rattle.ir_tree.specs.Rules.Fitting.{type_in}
use Rattle.vlog_tree.specs.declared.expression.Atom.{Atom}
use Rattle.vlog_tree.specs.Value.{Values, bit, atom_value}
use Rattle.block_build.specs.declared.netlist.scopes.Scope.{Scope}
use Rattle.block_build.specs.declared.netlist.wires.WireList.{WireList}
use Rattle.block_build.specs.Netlist.Added.{AddsWires}
use Rattle.block_build.specs.Netlist.Leaves.{AreSome, cut_into, leaf_widths, ShowsValue, total_width}
use Rattle.block_build.specs.Netlist.Pure.{scope_types, shown_in}
use Rattle.block_build.specs.Netlist.Words.{CutsWord, ShowsReceived, CarriesSent}
use Rattle.block_build.proofs.OnNetlist.OnChoices.{receive_shows}
use Rattle.block_build.proofs.OnNetlist.OnFlat.{flat_is_joined}
use Rattle.block_build.proofs.OnNetlist.OnLeaves.{leaves_are_some, total_is}

-- ---- a receive

pub cut_put : (a c : WireList) (t : IrType) (has all : ℕ) (on : Atom) (ws : List ℕ) (numbers : List Atom) → ws ≡ leaf_widths (ty_of t) → all ≡ min (width_of (ty_of t)) (2 ^ 64 - 1)
    → AddsWires a c (λ v. (b : Bool) (x : Word) → v has ≡ x → IsWordOf all x → total_width ws ≡ all → all ≤ all → AreSome ws → atom_value v on ≡ bit b → map (atom_value v) numbers ≡ [] ++ cut_into ws (if b then x.value else 0))
    → AddsWires a c (λ v. CutsWord v t has on numbers)
cut_put a c t has all on ws numbers is bound p = λ v h.
    let both = p v h in (
      both.0,
      λ b x widths carries of o.
          let most : width_of (ty_of t) ≤ 128 = subst (λ n. n ≤ 128) of.fits of.word.most_width in
          let same : width_of (ty_of t) ≡ all = omega (arith, most, bound) in
          let some = subst AreSome (sym is) (leaves_are_some (ty_of t) widths) in
          let whole : total_width ws ≡ all = ap total_width is ∙ total_is (ty_of t) ∙ same in
          both.1 b x carries (subst (λ n. IsWordOf n x) same of) whole (omega arith) some o ∙ ap (λ us. cut_into us (if b then x.value else 0)) is,
    )

pub cut_from : (a c : WireList) (t : IrType) (has all : ℕ) (on : Atom) (us ws : List ℕ) (old new numbers : List Atom) → us ≡ ws → ws ≡ leaf_widths (ty_of t) → all ≡ min (width_of (ty_of t)) (2 ^ 64 - 1) → old ≡ [] → numbers ≡ new
    → AddsWires a c (λ v. (b : Bool) (x : Word) → v has ≡ x → IsWordOf all x → total_width us ≡ all → all ≤ all → AreSome us → atom_value v on ≡ bit b
    → map (atom_value v) new ≡ map (atom_value v) old ++ cut_into us (if b then x.value else 0))
    → AddsWires a c (λ v. CutsWord v t has on numbers)
cut_from a c t has all on us ws old new numbers e is bound none same p =
    cut_put a c t has all on us numbers (e ∙ is) bound
    (subst (λ xs. AddsWires a c (λ v. (b : Bool) (x : Word) → v has ≡ x → IsWordOf all x → total_width us ≡ all → all ≤ all → AreSome us → atom_value v on ≡ bit b → map (atom_value v) xs ≡ [] ++ cut_into us (if b then x.value else 0))) (sym same)
    (subst (λ ys. AddsWires a c (λ v. (b : Bool) (x : Word) → v has ≡ x → IsWordOf all x → total_width us ≡ all → all ≤ all → AreSome us → atom_value v on ≡ bit b
    → map (atom_value v) new ≡ map (atom_value v) ys ++ cut_into us (if b then x.value else 0))) none p))

pub received_put : {E : Type 0} (o : Result (List Atom) E) (a c : WireList) (channels : List Channel) (number : ℕ) (channel : Channel) (has : ℕ) (on : Atom) → slice_get channels number ≡ Some channel
    → IfOk o (λ numbers. AddsWires a c (λ v. CutsWord v channel.ty has on numbers)) → IfOk o (λ numbers. AddsWires a c (λ v. ShowsReceived v channels number has on numbers))
received_put (Ok numbers) a c channels number channel has on there p = λ v h.
    let both = p v h in
    let typed : channel_type channels number ≡ Some channel.ty = ap (option_map (λ (channel : Channel). channel.ty)) there in (
      both.0,
      λ t b x is widths carries of says.
          let same : channel.ty ≡ t = (let e : Some channel.ty ≡ Some t = sym typed ∙ is in cc) in
          let cuts = subst (λ u. CutsWord v u has on numbers) same both.1 in
          receive_shows v channels number t numbers b x is of (cuts b x widths carries of says),
    )
received_put (Err z) a c channels number channel has on there p = tt

pub received_none : (a : WireList) (channels : List Channel) (number has : ℕ) (on : Atom) (numbers : List Atom) → slice_get channels number ≡ None → AddsWires a a (λ v. ShowsReceived v channels number has on numbers)
received_none a channels number has on numbers none = λ v h. (
  h,
  λ t b x is widths carries of says.
      let never : Some t ≡ None = sym is ∙ ap (option_map (λ (channel : Channel). channel.ty)) none in
      absurd (cc),
)

-- ---- a send

joined_is_sent : (v : Values) (t : Ty) (atoms : List Atom) (value : Value) → IsOfType t value → 1 ≤ width_of t → width_of t ≤ 128 → ShowsValue v atoms value → joined (map (atom_value v) atoms) ≡ sent value
joined_is_sent v t atoms value of some most shown =
    let wide = as_wide t value of in
    ap joined shown ∙ sym (flat_is_joined value)
    ∙ sym (ap (λ b. word_where b (flat_of value)) (both_le 1 (flat_of value).width (flat_of value).width 128 (omega (arith, wide, some)) (omega (arith, wide, most))))
  where
    both_le : (m n p q : ℕ) → m ≤ n → p ≤ q → (nat_le m n && nat_le p q) ≡ true
    both_le m n p q h k = go (nat_le m n) (nat_le p q) (grind (arith, nat_tests)) (grind (arith, nat_tests))
      where
        go : (s t : Bool) → s ≡ true → t ≡ true → (s && t) ≡ true
        go s t e f = rw (e, f)

pub sent_put : {E : Type 0} (o : Result Atom E) (a c : WireList) (scope : Scope) (operands : List Operand) (operand : Operand) (atoms : List Atom) → slice_get operands 1 ≡ Some operand → atoms ≡ shown_in scope operand
    → IfOk o (λ r. AddsWires a c (λ v. atom_value v r ≡ joined (map (atom_value v) atoms))) → IfOk o (λ r. AddsWires a c (λ v. CarriesSent v scope operands r))
sent_put (Ok r) a c scope operands operand atoms there is p = λ v h.
    let both = p v h in (
      both.0,
      λ q value second of some most shown.
          let same : operand ≡ q = (let e : Some operand ≡ Some q = sym there ∙ second in cc) in
          let whole : atoms ≡ shown_in scope q = is ∙ ap (shown_in scope) same in
          both.1 ∙ ap (λ xs. joined (map (atom_value v) xs)) whole ∙ joined_is_sent v (ty_of (type_in (scope_types scope) q)) (shown_in scope q) value of some most shown,
    )
sent_put (Err z) a c scope operands operand atoms there is p = tt

pub sent_none : (a : WireList) (scope : Scope) (operands : List Operand) (r : Atom) → slice_get operands 1 ≡ None → AddsWires a a (λ v. CarriesSent v scope operands r)
sent_none a scope operands r none = λ v h.
    (h, λ q value second of some most shown. let never : Some q ≡ None = sym second ∙ none in absurd (cc))
