-- The signals of nodes that are no sites, by their attributes.
use Rattle.std.proofs.Common.{◌≡◌, ℕ, List, [], ◌∷◌, ◌++◌, map, length, Bool, true, false, ◌&&◌, IsTrue, Option, Result, Ok, Err, refl, sym, ◌∙◌, subst}
use Rattle.std.specs.Prelude.{IfOk}
use Rattle.std.specs.List.{AllByRecursion}
use Rattle.xb_bits.specs.Word.{Word}
use Rattle.xb_value.specs.declared.value.Value.{Value}
use Rattle.delay_model.specs.declared.op.Op.{Op}
use Rattle.delay_model.specs.declared.op.Op.TheVariants as op
use Rattle.delay_model.specs.declared.op.Extend.{Extend}
use Rattle.delay_model.specs.declared.op.Binary.{Binary}
use Rattle.delay_model.specs.declared.op.Unary.{Unary}
use Rattle.delay_model.specs.declared.op.Compare.{Compare}
use Rattle.delay_model.specs.declared.op.Shift.{Shift}
use Rattle.delay_model.specs.declared.op.Reduce.{Reduce}
use Rattle.delay_model.specs.declared.signature.Count.{Count}
use Rattle.delay_model.specs.declared.signature.Count.TheVariants.{Exactly}
use Rattle.delay_model.specs.Signatures.{is_met, count_of}
use Rattle.ir_tree.specs.Constants.{no_value, constant_value}
use Rattle.ir_tree.specs.declared.constant.Constant.{Constant}
use Rattle.ir_tree.specs.declared.ir_type.IrType.{IrType}
use Rattle.ir_tree.specs.declared.node.Attributes.{Attributes}
use Rattle.ir_tree.specs.declared.node.Attributes.TheVariants as attributes
use Rattle.ir_tree.specs.declared.node.Node.{Node}
use Rattle.ir_tree.specs.declared.node.Operand.{Operand}
use Rattle.ir_tree.specs.NodeValues.{operand_value, optional_value}
use Rattle.ir_tree.specs.Operations.{plain_value, slice_value, dyn_slice_value, longer_value, index_value, of_one, of_two, on_tuple, on_word, on_words, chosen, element_at}
use Rattle.ir_tree.specs.Types.{ty_of}
use Rattle.ir_tree.specs.Rules.Fitting.{Types, plain_fits, slice_fits, dynamic_fits, extend_fits, index_fits, sel_fits, tuple_index_fits, is_bit_slice, is_dynamic_bit_slice, is_extend, is_sel, is_tuple_index}
use Rattle.ir_tree.proofs.Lemmas.Rules.Typed.Checked.{both_true, and_true}
use Rattle.vlog_tree.specs.declared.expression.Atom.{Atom}
use Rattle.vlog_tree.specs.Value.{Values}
use Rattle.block_build.specs.declared.netlist.scopes.Scope.{Scope}
use Rattle.block_build.specs.declared.netlist.wires.WireList.{WireList}
use Rattle.block_build.specs.Netlist.Added.{AddsWires}
use Rattle.block_build.specs.Netlist.Leaves.{all_leaves, literals_of, ShowAll, ShowsValue}
use Rattle.block_build.specs.Netlist.Nodes.{optional_read}
use Rattle.block_build.specs.Netlist.Pure.{scope_types, shown_in, IsOperandShown, ShowsOperation, ShowsResult, PureShows}
use Rattle.block_build.proofs.OnNetlist.OnLeaves.{nothing_shown, tuple_shown, array_shown}
use Rattle.block_build.proofs.OnNetlist.OnLiterals.{literals_shown}
use Rattle.block_build.proofs.OnNetlist.OnSelections.{all_front}

abbrev pub node_with : Node → Attributes → Node
node_with n x = record { id = n.id; ty = n.ty; op = n.op; operands = n.operands; attributes = x }

-- a weaker promise
pub weaker : {E : Type 0} (o : Result (List Atom) E) (a c : WireList) (P Q : Values → List Atom → Type 0) → ((v : Values) (own : List Atom) → P v own → Q v own)
    → IfOk o (λ own. AddsWires a c (λ v. P v own)) → IfOk o (λ own. AddsWires a c (λ v. Q v own))
weaker (Ok own) a c P Q f p = λ v h. let both = p v h in (both.0, f v own both.1)
weaker (Err z) a c P Q f p = tt

-- one that hangs on no wires
pub without_wires : {E : Type 0} (o : Result (List Atom) E) (a : WireList) (P : List Atom → Type 0) (Q : Values → List Atom → Type 0) → ((v : Values) (own : List Atom) → P own → Q v own)
    → IfOk o P → IfOk o (λ own. AddsWires a a (λ v. Q v own))
without_wires (Ok own) a P Q f p = λ v h. (h, f v own p)
without_wires (Err z) a P Q f p = tt

pure_by : {E : Type 0} (o : Result (List Atom) E) (a c : WireList) (scope : Scope) (n : Node) (x : Attributes) → n.attributes ≡ x → IfOk o (λ own. AddsWires a c (λ v. PureShows v scope (node_with n x) own))
    → IfOk o (λ own. AddsWires a c (λ v. PureShows v scope n own))
pure_by o a c scope n x e p = subst (λ y. IfOk o (λ own. AddsWires a c (λ v. PureShows v scope (node_with n y) own))) (sym e) p

-- ---- operations that have attributes of their own

count_slice : (o : Op) → IsTrue (is_bit_slice o) → count_of o ≡ Exactly 1
count_slice op.BitSlice h = refl
count_slice _ h = absurd (cc)

count_dynamic : (o : Op) → IsTrue (is_dynamic_bit_slice o) → count_of o ≡ Exactly 2
count_dynamic op.DynamicBitSlice h = refl
count_dynamic _ h = absurd (cc)

count_extend : (o : Op) → IsTrue (is_extend o) → count_of o ≡ Exactly 1
count_extend (op.Extend e) h = refl
count_extend _ h = absurd (cc)

count_sel : (o : Op) → IsTrue (is_sel o) → count_of o ≡ Exactly 1
count_sel op.Sel h = refl
count_sel _ h = absurd (cc)

count_index : (o : Op) → IsTrue (is_tuple_index o) → count_of o ≡ Exactly 1
count_index op.TupleIndex h = refl
count_index _ h = absurd (cc)

fits_by : (o : Op) (k : ℕ) (count : Count) (test : Op → Bool) (fits : Bool) → (IsTrue (test o) → count_of o ≡ count) → IsTrue (is_met (count_of o) k && (test o && fits)) → IsTrue (is_met count k && fits)
fits_by o k count test fits f h =
    let both = both_true (is_met (count_of o) k) (test o && fits) h in
    let parts = both_true (test o) fits both.1 in
    and_true (is_met count k) fits (subst (λ c. IsTrue (is_met c k)) (f parts.0) both.0) parts.1

fits_with : (o : Op) (k : ℕ) (count : Count) (test : Op → Bool) (fits : Bool) → (IsTrue (test o) → count_of o ≡ count) → IsTrue (is_met (count_of o) k && (test o && fits)) → IsTrue (is_met count k && (test o && fits))
fits_with o k count test fits f h =
    let both = both_true (is_met (count_of o) k) (test o && fits) h in
    let parts = both_true (test o) fits both.1 in
    and_true (is_met count k) (test o && fits) (subst (λ c. IsTrue (is_met c k)) (f parts.0) both.0) both.1

-- ---- each kind of attributes

pub plain_node : {E : Type 0} (o : Result (List Atom) E) (a c : WireList) (scope : Scope) (n : Node) (os : List Operand) → os ≡ n.operands → n.attributes ≡ attributes.None
    → IfOk o (λ own. AddsWires a c (λ v. ShowsOperation v scope (count_of n.op) os (plain_fits n.op (scope_types scope) os) (plain_value n.op) own)) → IfOk o (λ own. AddsWires a c (λ v. PureShows v scope n own))
plain_node o a c scope n os same e q =
    let p = subst (λ us. IfOk o (λ own. AddsWires a c (λ v. ShowsOperation v scope (count_of n.op) us (plain_fits n.op (scope_types scope) us) (plain_value n.op) own))) same q in
    pure_by o a c scope n attributes.None e
    (weaker o a c (λ v own. ShowsOperation v scope (count_of n.op) n.operands (plain_fits n.op (scope_types scope) n.operands) (plain_value n.op) own) (λ v own. PureShows v scope (node_with n attributes.None) own)
    (λ v own h s values shown fit typed. h n.ty s values (all_front (IsOperandShown v scope s values) n.operands [] shown) fit typed) p)

pub slice_node : {E : Type 0} (o : Result (List Atom) E) (a c : WireList) (scope : Scope) (n : Node) (os : List Operand) (start width : ℕ) → os ≡ n.operands → n.attributes ≡ attributes.StartAndWidth start width
    → IfOk o (λ own. AddsWires a c (λ v. ShowsOperation v scope (Exactly 1) os (slice_fits start width (scope_types scope) os) (of_one (on_word (slice_value start width))) own))
    → IfOk o (λ own. AddsWires a c (λ v. PureShows v scope n own))
slice_node o a c scope n os start width same e q =
    let p = subst (λ us. IfOk o (λ own. AddsWires a c (λ v. ShowsOperation v scope (Exactly 1) us (slice_fits start width (scope_types scope) us) (of_one (on_word (slice_value start width))) own))) same q in
    pure_by o a c scope n (attributes.StartAndWidth start width) e
    (weaker o a c (λ v own. ShowsOperation v scope (Exactly 1) n.operands (slice_fits start width (scope_types scope) n.operands) (of_one (on_word (slice_value start width))) own)
    (λ v own. PureShows v scope (node_with n (attributes.StartAndWidth start width)) own)
    (λ v own h s values shown fit typed.
    h n.ty s values (all_front (IsOperandShown v scope s values) n.operands [] shown) (fits_by n.op (length n.operands) (Exactly 1) is_bit_slice (slice_fits start width (scope_types scope) n.operands n.ty) (count_slice n.op) fit) typed) p)

pub dynamic_node : {E : Type 0} (o : Result (List Atom) E) (a c : WireList) (scope : Scope) (n : Node) (os : List Operand) (width : ℕ) → os ≡ n.operands → n.attributes ≡ attributes.Width width
    → IfOk o (λ own. AddsWires a c (λ v. ShowsOperation v scope (Exactly 2) os (dynamic_fits width (scope_types scope) os) (of_two (on_words (dyn_slice_value width))) own))
    → IfOk o (λ own. AddsWires a c (λ v. PureShows v scope n own))
dynamic_node o a c scope n os width same e q =
    let p = subst (λ us. IfOk o (λ own. AddsWires a c (λ v. ShowsOperation v scope (Exactly 2) us (dynamic_fits width (scope_types scope) us) (of_two (on_words (dyn_slice_value width))) own))) same q in
    pure_by o a c scope n (attributes.Width width) e
    (weaker o a c (λ v own. ShowsOperation v scope (Exactly 2) n.operands (dynamic_fits width (scope_types scope) n.operands) (of_two (on_words (dyn_slice_value width))) own)
    (λ v own. PureShows v scope (node_with n (attributes.Width width)) own)
    (λ v own h s values shown fit typed.
    h n.ty s values (all_front (IsOperandShown v scope s values) n.operands [] shown) (fits_by n.op (length n.operands) (Exactly 2) is_dynamic_bit_slice (dynamic_fits width (scope_types scope) n.operands n.ty) (count_dynamic n.op) fit) typed) p)

pub extend_node : {E : Type 0} (o : Result (List Atom) E) (a c : WireList) (scope : Scope) (n : Node) (os : List Operand) (width : ℕ) → os ≡ n.operands → n.attributes ≡ attributes.NewBitCount width
    → IfOk o (λ own. AddsWires a c (λ v. ShowsOperation v scope (Exactly 1) os (λ t. is_extend n.op && extend_fits width (scope_types scope) os t) (longer_value n.op width) own))
    → IfOk o (λ own. AddsWires a c (λ v. PureShows v scope n own))
extend_node o a c scope n os width same e q =
    let p = subst (λ us. IfOk o (λ own. AddsWires a c (λ v. ShowsOperation v scope (Exactly 1) us (λ t. is_extend n.op && extend_fits width (scope_types scope) us t) (longer_value n.op width) own))) same q in
    pure_by o a c scope n (attributes.NewBitCount width) e
    (weaker o a c (λ v own. ShowsOperation v scope (Exactly 1) n.operands (λ t. is_extend n.op && extend_fits width (scope_types scope) n.operands t) (longer_value n.op width) own)
    (λ v own. PureShows v scope (node_with n (attributes.NewBitCount width)) own)
    (λ v own h s values shown fit typed.
    h n.ty s values (all_front (IsOperandShown v scope s values) n.operands [] shown) (fits_with n.op (length n.operands) (Exactly 1) is_extend (extend_fits width (scope_types scope) n.operands n.ty) (count_extend n.op) fit) typed) p)

pub sel_node : {E : Type 0} (o : Result (List Atom) E) (a c : WireList) (scope : Scope) (n : Node) (os cs cases : List Operand) (default : Option Operand) → os ≡ n.operands → cs ≡ cases → n.attributes ≡ attributes.Cases cases default
    → IfOk o (λ own. AddsWires a c (λ v. ShowsResult v scope (os ++ (cs ++ optional_read default)) n.ty (is_met (Exactly 1) (length os) && sel_fits cs default (scope_types scope) os n.ty)
    (λ s values. of_one (on_word (λ (x : Word). optional_value s values (chosen cs default x.value))) (map (operand_value s values) os)) own))
    → IfOk o (λ own. AddsWires a c (λ v. PureShows v scope n own))
sel_node o a c scope n os cs cases default same alike e q =
    let r = subst (λ us. IfOk o (λ own. AddsWires a c (λ v. ShowsResult v scope (us ++ (cs ++ optional_read default)) n.ty (is_met (Exactly 1) (length us) && sel_fits cs default (scope_types scope) us n.ty)
    (λ s values. of_one (on_word (λ (x : Word). optional_value s values (chosen cs default x.value))) (map (operand_value s values) us)) own))) same q in
    let p = subst (λ us. IfOk o (λ own. AddsWires a c (λ v. ShowsResult v scope (n.operands ++ (us ++ optional_read default)) n.ty (is_met (Exactly 1) (length n.operands) && sel_fits us default (scope_types scope) n.operands n.ty)
    (λ s values. of_one (on_word (λ (x : Word). optional_value s values (chosen us default x.value))) (map (operand_value s values) n.operands)) own))) alike r in
    pure_by o a c scope n (attributes.Cases cases default) e
    (weaker o a c (λ v own. ShowsResult v scope (n.operands ++ (cases ++ optional_read default)) n.ty (is_met (Exactly 1) (length n.operands) && sel_fits cases default (scope_types scope) n.operands n.ty)
    (λ s values. of_one (on_word (λ (x : Word). optional_value s values (chosen cases default x.value))) (map (operand_value s values) n.operands)) own)
    (λ v own. PureShows v scope (node_with n (attributes.Cases cases default)) own)
    (λ v own h s values shown fit typed.
    h s values shown (fits_by n.op (length n.operands) (Exactly 1) is_sel (sel_fits cases default (scope_types scope) n.operands n.ty) (count_sel n.op) fit) typed) p)

pub part_node : {E : Type 0} (o : Result (List Atom) E) (a : WireList) (scope : Scope) (n : Node) (os : List Operand) (i : ℕ) → os ≡ n.operands → n.attributes ≡ attributes.Index i
    → IfOk o (λ own. (v : Values) → ShowsOperation v scope (Exactly 1) os (tuple_index_fits i (scope_types scope) os) (of_one (on_tuple (element_at i))) own)
    → IfOk o (λ own. AddsWires a a (λ v. PureShows v scope n own))
part_node o a scope n os i same e q =
    let p = subst (λ us. IfOk o (λ own. (v : Values) → ShowsOperation v scope (Exactly 1) us (tuple_index_fits i (scope_types scope) us) (of_one (on_tuple (element_at i))) own)) same q in
    pure_by o a a scope n (attributes.Index i) e
    (without_wires o a (λ own. (v : Values) → ShowsOperation v scope (Exactly 1) n.operands (tuple_index_fits i (scope_types scope) n.operands) (of_one (on_tuple (element_at i))) own)
    (λ v own. PureShows v scope (node_with n (attributes.Index i)) own)
    (λ v own h s values shown fit typed.
    h v n.ty s values (all_front (IsOperandShown v scope s values) n.operands [] shown) (fits_by n.op (length n.operands) (Exactly 1) is_tuple_index (tuple_index_fits i (scope_types scope) n.operands n.ty) (count_index n.op) fit) typed) p)

pub index_node : {E : Type 0} (o : Result (List Atom) E) (a c : WireList) (scope : Scope) (n : Node) (os : List Operand) (i : Operand) → os ≡ n.operands → n.attributes ≡ attributes.Indices i
    → IfOk o (λ own. AddsWires a c (λ v. ShowsResult v scope (os ++ i ∷ []) n.ty (is_met (count_of n.op) (length os) && index_fits n.op i (scope_types scope) os n.ty)
    (λ s values. index_value n.op (operand_value s values i) (map (operand_value s values) os)) own))
    → IfOk o (λ own. AddsWires a c (λ v. PureShows v scope n own))
index_node o a c scope n os i same e q =
    pure_by o a c scope n (attributes.Indices i) e
    (subst (λ us. IfOk o (λ own. AddsWires a c (λ v. ShowsResult v scope (us ++ i ∷ []) n.ty (is_met (count_of n.op) (length us) && index_fits n.op i (scope_types scope) us n.ty)
    (λ s values. index_value n.op (operand_value s values i) (map (operand_value s values) us)) own))) same q)

pub literal_node : {E : Type 0} (o : Result (List Atom) E) (a : WireList) (scope : Scope) (n : Node) (constant : Constant) → n.attributes ≡ attributes.Value constant
    → IfOk o (λ own. own ≡ literals_of (constant_value (ty_of n.ty) constant)) → IfOk o (λ own. AddsWires a a (λ v. PureShows v scope n own))
literal_node o a scope n constant e p =
    pure_by o a a scope n (attributes.Value constant) e
    (without_wires o a (λ own. own ≡ literals_of (constant_value (ty_of n.ty) constant)) (λ v own. PureShows v scope (node_with n (attributes.Value constant)) own)
    (λ v own is s values shown fit typed.
    subst (λ atoms. ShowsValue v atoms (constant_value (ty_of n.ty) constant)) (sym is) (literals_shown v (ty_of n.ty) (constant_value (ty_of n.ty) constant) typed)) p)

pub channel_node : (a : WireList) (scope : Scope) (n : Node) (predicate : Option Operand) (c : ℕ) (own : List Atom) → n.attributes ≡ attributes.Channel predicate c → own ≡ [] → AddsWires a a (λ v. PureShows v scope n own)
channel_node a scope n predicate c own e is =
    subst (λ y. AddsWires a a (λ v. PureShows v scope (node_with n y) own)) (sym e)
    (λ v h. (h, λ s values shown fit typed. subst (λ atoms. ShowsValue v atoms no_value) (sym is) (nothing_shown v)))

-- ---- tuples and arrays of operands

operands_shown : (v : Values) (scope : Scope) (s : Value) (values : List Value) (os : List Operand) → AllByRecursion (IsOperandShown v scope s values) os
    → ShowAll v (map (shown_in scope) os) (map (operand_value s values) os)
operands_shown v scope s values [] h = tt
operands_shown v scope s values (o ∷ os) h = (h.0.shows, operands_shown v scope s values os h.1)

pub tuple_put : {E : Type 0} (r : Result (List Atom) E) (a : WireList) (scope : Scope) (o : Op) (os : List Operand) → o ≡ op.Tuple → IfOk r (λ own. own ≡ all_leaves (map (shown_in scope) os))
    → IfOk r (λ own. AddsWires a a (λ v. ShowsOperation v scope (count_of o) os (plain_fits o (scope_types scope) os) (plain_value o) own))
tuple_put r a scope o os e p =
    subst (λ x. IfOk r (λ own. AddsWires a a (λ v. ShowsOperation v scope (count_of x) os (plain_fits x (scope_types scope) os) (plain_value x) own))) (sym e)
    (without_wires r a (λ own. own ≡ all_leaves (map (shown_in scope) os)) (λ v own. ShowsOperation v scope (count_of op.Tuple) os (plain_fits op.Tuple (scope_types scope) os) (plain_value op.Tuple) own)
    (λ v own is t s values shown fit typed.
    subst (λ atoms. ShowsValue v atoms (plain_value op.Tuple (map (operand_value s values) os))) (sym is)
    (tuple_shown v (map (shown_in scope) os) (map (operand_value s values) os) (operands_shown v scope s values os shown))) p)

pub array_put : {E : Type 0} (r : Result (List Atom) E) (a : WireList) (scope : Scope) (o : Op) (os : List Operand) → o ≡ op.Array → IfOk r (λ own. own ≡ all_leaves (map (shown_in scope) os))
    → IfOk r (λ own. AddsWires a a (λ v. ShowsOperation v scope (count_of o) os (plain_fits o (scope_types scope) os) (plain_value o) own))
array_put r a scope o os e p =
    subst (λ x. IfOk r (λ own. AddsWires a a (λ v. ShowsOperation v scope (count_of x) os (plain_fits x (scope_types scope) os) (plain_value x) own))) (sym e)
    (without_wires r a (λ own. own ≡ all_leaves (map (shown_in scope) os)) (λ v own. ShowsOperation v scope (count_of op.Array) os (plain_fits op.Array (scope_types scope) os) (plain_value op.Array) own)
    (λ v own is t s values shown fit typed.
    subst (λ atoms. ShowsValue v atoms (plain_value op.Array (map (operand_value s values) os))) (sym is)
    (array_shown v (map (shown_in scope) os) (map (operand_value s values) os) (operands_shown v scope s values os shown))) p)

-- ---- the rest

pub plain_default : (a : WireList) (scope : Scope) (o : Op) (os : List Operand) (own : List Atom) → ((e : Binary) → o ≡ op.Binary e → ⊥) → ((e : Unary) → o ≡ op.Unary e → ⊥) → ((e : Compare) → o ≡ op.Compare e → ⊥) → ((e : Shift) → o ≡ op.Shift e → ⊥)
    → ((e : Reduce) → o ≡ op.Reduce e → ⊥) → (o ≡ op.Concat → ⊥) → (o ≡ op.Tuple → ⊥) → (o ≡ op.Array → ⊥) → own ≡ []
    → AddsWires a a (λ v. ShowsOperation v scope (count_of o) os (plain_fits o (scope_types scope) os) (plain_value o) own)
plain_default a scope o os own binary unary compare shift reduce concat tuple array is = λ v h. (h, λ t s values shown fit typed. rest v t (map (operand_value s values) os) o binary unary compare shift reduce concat tuple array (both_true (is_met (count_of o) (length os)) (plain_fits o (scope_types scope) os t) fit).1)
  where
    rest : (v : Values) (t : IrType) (vs : List Value) (o : Op) → ((e : Binary) → o ≡ op.Binary e → ⊥) → ((e : Unary) → o ≡ op.Unary e → ⊥) → ((e : Compare) → o ≡ op.Compare e → ⊥) → ((e : Shift) → o ≡ op.Shift e → ⊥)
        → ((e : Reduce) → o ≡ op.Reduce e → ⊥) → (o ≡ op.Concat → ⊥) → (o ≡ op.Tuple → ⊥) → (o ≡ op.Array → ⊥) → IsTrue (plain_fits o (scope_types scope) os t) → ShowsValue v own (plain_value o vs)
    rest v t vs (op.Binary e) binary unary compare shift reduce concat tuple array fit = absurd (binary e refl)
    rest v t vs (op.Unary e) binary unary compare shift reduce concat tuple array fit = absurd (unary e refl)
    rest v t vs (op.Compare e) binary unary compare shift reduce concat tuple array fit = absurd (compare e refl)
    rest v t vs (op.Shift e) binary unary compare shift reduce concat tuple array fit = absurd (shift e refl)
    rest v t vs (op.Reduce e) binary unary compare shift reduce concat tuple array fit = absurd (reduce e refl)
    rest v t vs op.Concat binary unary compare shift reduce concat tuple array fit = absurd (concat refl)
    rest v t vs op.Tuple binary unary compare shift reduce concat tuple array fit = absurd (tuple refl)
    rest v t vs op.Array binary unary compare shift reduce concat tuple array fit = absurd (array refl)
    rest v t vs _ binary unary compare shift reduce concat tuple array fit = subst (λ atoms. ShowsValue v atoms no_value) (sym is) (nothing_shown v)

pub extend_put : {E : Type 0} (r : Result (List Atom) E) (a c : WireList) (scope : Scope) (o : Op) (e : Extend) (os : List Operand) (width : ℕ) → o ≡ op.Extend e
    → IfOk r (λ own. AddsWires a c (λ v. ShowsOperation v scope (Exactly 1) os (extend_fits width (scope_types scope) os) (longer_value (op.Extend e) width) own))
    → IfOk r (λ own. AddsWires a c (λ v. ShowsOperation v scope (Exactly 1) os (λ t. is_extend o && extend_fits width (scope_types scope) os t) (longer_value o width) own))
extend_put r a c scope o e os width is p =
    subst (λ x. IfOk r (λ own. AddsWires a c (λ v. ShowsOperation v scope (Exactly 1) os (λ t. is_extend x && extend_fits width (scope_types scope) os t) (longer_value x width) own))) (sym is) p

no_extend : (o : Op) → ((e : Extend) → o ≡ op.Extend e → ⊥) → is_extend o ≡ false
no_extend (op.Extend e) f = absurd (f e refl)
no_extend _ f = refl

pub extend_none : (a : WireList) (scope : Scope) (o : Op) (os : List Operand) (width : ℕ) (own : List Atom) → ((e : Extend) → o ≡ op.Extend e → ⊥)
    → AddsWires a a (λ v. ShowsOperation v scope (Exactly 1) os (λ t. is_extend o && extend_fits width (scope_types scope) os t) (longer_value o width) own)
extend_none a scope o os width own f = λ v h. (
  h,
  λ t s values shown fit typed.
      let both = both_true (is_met (Exactly 1) (length os)) (is_extend o && extend_fits width (scope_types scope) os t) fit in
      let one = both_true (is_extend o) (extend_fits width (scope_types scope) os t) both.1 in
      let never : false ≡ true = sym (no_extend o f) ∙ one.0 in
      absurd (cc),
)

-- an element of an array, or an array with another
abbrev pub ShowsIndexed : Values → Scope → Op → List Operand → Operand → IrType → List Atom → Type 0
ShowsIndexed v scope o os i t own =
    ShowsResult v scope (os ++ i ∷ []) t (is_met (count_of o) (length os) && index_fits o i (scope_types scope) os t) (λ s values. index_value o (operand_value s values i) (map (operand_value s values) os)) own

pub index_put : {E : Type 0} (r : Result (List Atom) E) (a c : WireList) (scope : Scope) (o p : Op) (os : List Operand) (i : Operand) (t : IrType) → o ≡ p → IfOk r (λ own. AddsWires a c (λ v. ShowsIndexed v scope p os i t own))
    → IfOk r (λ own. AddsWires a c (λ v. ShowsIndexed v scope o os i t own))
index_put r a c scope o p os i t e q = subst (λ x. IfOk r (λ own. AddsWires a c (λ v. ShowsIndexed v scope x os i t own))) (sym e) q

no_index : (o : Op) (i : Operand) (z : Types) (os : List Operand) (t : IrType) → (o ≡ op.ArrayIndex → ⊥) → (o ≡ op.ArrayUpdate → ⊥) → IsTrue (index_fits o i z os t) → ⊥
no_index op.ArrayIndex i z os t index update h = index refl
no_index op.ArrayUpdate i z os t index update h = update refl
no_index _ i z os t index update h = absurd (cc)

pub index_none : (a : WireList) (scope : Scope) (o : Op) (os : List Operand) (i : Operand) (t : IrType) (own : List Atom) → (o ≡ op.ArrayIndex → ⊥) → (o ≡ op.ArrayUpdate → ⊥) → AddsWires a a (λ v. ShowsIndexed v scope o os i t own)
index_none a scope o os i t own index update = λ v h.
    (h, λ s values shown fit typed. absurd (no_index o i (scope_types scope) os t index update (both_true (is_met (count_of o) (length os)) (index_fits o i (scope_types scope) os t) fit).1))
