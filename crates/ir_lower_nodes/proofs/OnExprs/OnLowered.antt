-- Each kind of expression, over what its parts are lowered to.
use Rattle.std.proofs.Common.{◌≡◌, ℕ, ◌+◌, ◌≤◌, ◌<◌, ◌^◌, true, List, ◌∷◌, ◌++◌, map, length, take, Some, None, refl, sym, ap, subst, ◌∙◌, arith, []}
use Rattle.std.specs.Prelude.{slice_get}
use Rattle.xb_bits.specs.Word.{Word, word}
use Rattle.xb_bits.specs.Operations as op
use Rattle.xb_value.specs.declared.ty.Ty.{Ty}
use Rattle.xb_value.specs.declared.ty.Ty as ty
use Rattle.xb_value.specs.declared.value.Value.{Value}
use Rattle.xb_value.specs.declared.value.Value as value
use Rattle.ir_tree.specs.declared.ir_type.IrType.{IrType, Bits, Tuple}
use Rattle.ir_tree.specs.declared.node.Operand.{Operand}
use Rattle.ir_tree.specs.NodeValues.{operand_value}
use Rattle.ir_tree.specs.Operations.{on_tuple, on_array, on_word, element_at, at_index, updated}
use Rattle.ir_rebuild.specs.declared.putting.nodes.Nodes.{Nodes}
use Rattle.ir_rebuild.specs.Putting.Types.{array_of, ir_type_of}
use Rattle.ir_rebuild.specs.Putting.Words.{word_by, words_by, either_by}
use Rattle.ir_rebuild.specs.Putting.Given.{IsNodeType, IsBuilt, HasType, OperandsHaveTypes, OperandsHaveType, GivesValue}
use Rattle.dslx_meaning.specs.Operators.{cast_word}
use Rattle.dslx_core.specs.declared.design.Function.{Function}
use Rattle.dslx_core.specs.declared.expr.Sign.{Sign}
use Rattle.dslx_core.specs.declared.expr.Shape.{Shape}
use Rattle.dslx_core.specs.declared.expr.Arm.{Arm, out-Arm}
use Rattle.dslx_core.specs.declared.expr.CoreUnary.{CoreUnary}
use Rattle.dslx_core.specs.declared.expr.CoreBinary.{CoreBinary}
use Rattle.dslx_core.specs.declared.expr.CoreExpr.{CoreExpr}
use Rattle.dslx_core.specs.declared.expr.CoreExpr as core
use Rattle.dslx_core.specs.declared.expr.CoreExpr.TheOpen.{CoreExpr-F}
use Rattle.dslx_core.specs.declared.expr.CoreExpr.TheViews as views
use Rattle.dslx_core.specs.declared.expr.CoreExpr.TheFolds.{fold_out-Arm}
use Rattle.dslx_core.specs.CoreValues.{CoreDen, CoreArmDen, unary_word, binary_words, is_signed_read, is_width, core_value, core_step, arm_step}
use Rattle.dslx_core.specs.Types.Typing.{Typing, CoreArmTyping, unary_type, binary_type, value_type, arm_typing}
use Rattle.dslx_core.specs.Types.Designs.{FunctionSignature}
use Rattle.ir_lower_nodes.specs.Words.Given.{LoweredTo, word_read, words_read}
use Rattle.ir_lower_nodes.specs.Patterns.Given.{AddsOperands}
use Rattle.ir_lower_nodes.proofs.Lemmas.Patterns.{BindsTo, ArmBindsTo, AnyFitsTo}
use Rattle.ir_lower_nodes.specs.Exprs.NodeTypes.{node_step, node_type, arm_node_type}
use Rattle.ir_lower_nodes.specs.Exprs.Calls.{AreNodeFunctions, calls_below, types_below}
use Rattle.ir_lower_nodes.specs.Exprs.Lowered.{slot_or_state, Lowers, EachLowers, ArmLowers, ArmLowersBy, ArmsLower, TurnLowers, arm_value}
use Rattle.ir_lower_nodes.proofs.OnExprs.OnLayers.{lowers_at}
use Rattle.ir_lower_nodes.proofs.OnExprs.OnParts.{literal_by, slot_by, unary_by, binary_by, cast_by, slice_by, part_by}
use Rattle.ir_lower_nodes.proofs.OnExprs.OnAggregates.{tuple_by, array_by, element_by, index_by, update_by}
use Rattle.ir_lower_nodes.proofs.OnExprs.OnControl.{choose_by, bind_by, arm_by, last_by, choice_by, select_by, turn_by, loop_last, LoopSo}
use Rattle.ir_lower_nodes.proofs.OnExprs.OnCalls.{call_by, no_call}

-- the same over the same slots
pub same_slots : (fs : List Function) (e : CoreExpr) (slots own : List Operand) (old new : Nodes) (o : Operand) → own ≡ slots → Lowers fs e own old new o → Lowers fs e slots old new o
same_slots fs e slots own old new o is h = subst (λ os. Lowers fs e os old new o) is h

pub same_expr : (fs : List Function) (e x : CoreExpr) (slots : List Operand) (old new : Nodes) (o : Operand) → e ≡ x → Lowers fs x slots old new o → Lowers fs e slots old new o
same_expr fs e x slots old new o is h = subst (λ y. Lowers fs y slots old new o) (sym is) h

pub none_item : (xs : List Arm) → length xs < 1 → xs ≡ []
none_item [] h = refl
none_item (x ∷ xs) h = absurd (omega (arith, h))

-- what was bound before is left
take_prefix : (xs ys : List Operand) → take (length xs) (xs ++ ys) ≡ xs
take_prefix [] ys = refl
take_prefix (x ∷ xs) ys = ap (λ zs. x ∷ zs) (take_prefix xs ys)

pub kept_behind : (before own all last : List Operand) (count : ℕ) → own ≡ before → count ≡ length own → AddsOperands own all → last ≡ take count all → last ≡ before
kept_behind before own all last count own_is count_is grown last_is = last_is ∙ (ap (λ n. take n all) count_is ∙ (ap (take (length own)) grown.are ∙ (take_prefix own grown.more ∙ own_is)))

module _ (fs : List Function) (slots : List Operand) where
  pub literal_lowers : (v : Value) (s0 s1 : Nodes) (o : Operand) → ((t : Ty) → IsBuilt s0 → value_type v ≡ Some t → IsNodeType (ir_type_of t) → LoweredTo s0 s1 o t (λ s values. Some v)) → Lowers fs (core.Literal v) slots s0 s1 o
  literal_lowers v s0 s1 o call signatures n given =
      lowers_at (types_below n signatures) (calls_below n fs) (core.Literal v) (CoreExpr-F.Literal v) slots s0 s1 o (views.outs-Literal v)
      (literal_by (types_below n signatures) (calls_below n fs) slots s0 s1 o v call)

  pub slot_lowers : (k : ℕ) (nodes : Nodes) → Lowers fs (core.Slot k) slots nodes nodes (slot_or_state slots k)
  slot_lowers k nodes signatures n given =
      lowers_at (types_below n signatures) (calls_below n fs) (core.Slot k) (CoreExpr-F.Slot k) slots nodes nodes (slot_or_state slots k) (views.outs-Slot k)
      (slot_by (types_below n signatures) (calls_below n fs) slots nodes k)

  pub unary_lowers : (k : CoreUnary) (e : CoreExpr) (s0 s1 s2 : Nodes) (a o : Operand) → Lowers fs e slots s0 s1 a → ((w : ℕ) → IsBuilt s1 → HasType s1 a (Bits w []) → LoweredTo s1 s2 o (unary_type k w) (word_read (λ x. Some (value.Bits (unary_word k x))) a)) → Lowers fs (core.Unary k e) slots s0 s2 o
  unary_lowers k e s0 s1 s2 a o first call signatures n given =
      lowers_at (types_below n signatures) (calls_below n fs) (core.Unary k e) (CoreExpr-F.Unary k e) slots s0 s2 o (views.outs-Unary k e)
      (unary_by (types_below n signatures) (calls_below n fs) slots k (node_type e) (core_value e) s0 s1 s2 a o (first signatures n given) call)

  pub binary_lowers : (k : CoreBinary) (l r : CoreExpr) (s0 s1 s2 s3 : Nodes) (a b o : Operand) → Lowers fs l slots s0 s1 a → Lowers fs r slots s1 s2 b → ((v w : ℕ) (t : Ty) → IsBuilt s2 → HasType s2 a (Bits v []) → HasType s2 b (Bits w []) → binary_type k v w ≡ Some t → LoweredTo s2 s3 o t (words_read (binary_words k) a b)) → Lowers fs (core.Binary k l r) slots s0 s3 o
  binary_lowers k l r s0 s1 s2 s3 a b o first second call signatures n given =
      lowers_at (types_below n signatures) (calls_below n fs) (core.Binary k l r) (CoreExpr-F.Binary k l r) slots s0 s3 o (views.outs-Binary k l r)
      (binary_by (types_below n signatures) (calls_below n fs) slots k (node_type l) (node_type r) (core_value l) (core_value r) s0 s1 s2 s3 a b o (first signatures n given) (second signatures n given) call)

  pub cast_lowers : (sign : Sign) (w : ℕ) (e : CoreExpr) (s0 s1 s2 : Nodes) (a o : Operand) → Lowers fs e slots s0 s1 a → ((v : ℕ) → IsBuilt s1 → HasType s1 a (Bits v []) → is_width w ≡ true → LoweredTo s1 s2 o (ty.Bits w) (word_read (λ x. Some (value.Bits (cast_word (is_signed_read sign) w x))) a)) → Lowers fs (core.Cast sign w e) slots s0 s2 o
  cast_lowers sign w e s0 s1 s2 a o first call signatures n given =
      lowers_at (types_below n signatures) (calls_below n fs) (core.Cast sign w e) (CoreExpr-F.Cast sign w e) slots s0 s2 o (views.outs-Cast sign w e)
      (cast_by (types_below n signatures) (calls_below n fs) slots sign w (node_type e) (core_value e) s0 s1 s2 a o (first signatures n given) call)

  pub slice_lowers : (e : CoreExpr) (from w low width : ℕ) (s0 s1 s2 : Nodes) (a o : Operand) → low ≡ from → width ≡ w → Lowers fs e slots s0 s1 a → ((v : ℕ) → IsBuilt s1 → HasType s1 a (Bits v []) → 1 ≤ width → low + width ≤ v → GivesValue s1 s2 o (Bits width []) (word_by (λ x. op.slice x low width) a)) → Lowers fs (core.Slice e from w) slots s0 s2 o
  slice_lowers e from w low width s0 s1 s2 a o same_low same_width first call signatures n given =
      lowers_at (types_below n signatures) (calls_below n fs) (core.Slice e from w) (CoreExpr-F.Slice e from w) slots s0 s2 o (views.outs-Slice e from w)
      (slice_by (types_below n signatures) (calls_below n fs) slots from w low width (node_type e) (core_value e) s0 s1 s2 a o same_low same_width (first signatures n given) call)

  pub part_lowers : (e i : CoreExpr) (w width : ℕ) (s0 s1 s2 s3 : Nodes) (a b o : Operand) → width ≡ w → Lowers fs e slots s0 s1 a → Lowers fs i slots s1 s2 b → ((v k : ℕ) → IsBuilt s2 → HasType s2 a (Bits v []) → HasType s2 b (Bits k []) → 1 ≤ width → width ≤ 128 → GivesValue s2 s3 o (Bits width []) (words_by (λ x y. op.dyn_slice x y width) a b)) → Lowers fs (core.Part e i w) slots s0 s3 o
  part_lowers e i w width s0 s1 s2 s3 a b o same first second call signatures n given =
      lowers_at (types_below n signatures) (calls_below n fs) (core.Part e i w) (CoreExpr-F.Part e i w) slots s0 s3 o (views.outs-Part e i w)
      (part_by (types_below n signatures) (calls_below n fs) slots w width (node_type e) (node_type i) (core_value e) (core_value i) s0 s1 s2 s3 a b o same (first signatures n given) (second signatures n given) call)

  pub element_lowers : (e : CoreExpr) (k : ℕ) (s0 s1 s2 : Nodes) (a o : Operand) → Lowers fs e slots s0 s1 a → ((us : List IrType) (u : IrType) → IsBuilt s1 → HasType s1 a (Tuple us []) → slice_get us k ≡ Some u → GivesValue s1 s2 o u (λ s values. on_tuple (element_at k) (operand_value s values a))) → Lowers fs (core.Element e k) slots s0 s2 o
  element_lowers e k s0 s1 s2 a o first call signatures n given =
      lowers_at (types_below n signatures) (calls_below n fs) (core.Element e k) (CoreExpr-F.Element e k) slots s0 s2 o (views.outs-Element e k)
      (element_by (types_below n signatures) (calls_below n fs) slots k (node_type e) (core_value e) s0 s1 s2 a o (first signatures n given) call)

  pub index_lowers : (e i : CoreExpr) (s0 s1 s2 s3 : Nodes) (a b o : Operand) → Lowers fs e slots s0 s1 a → Lowers fs i slots s1 s2 b → ((m k : ℕ) (u : IrType) → IsBuilt s2 → HasType s2 a (array_of m u) → HasType s2 b (Bits k []) → GivesValue s2 s3 o u (λ s values. on_array (λ vs. on_word (at_index vs) (operand_value s values b)) (operand_value s values a))) → Lowers fs (core.Index e i) slots s0 s3 o
  index_lowers e i s0 s1 s2 s3 a b o first second call signatures n given =
      lowers_at (types_below n signatures) (calls_below n fs) (core.Index e i) (CoreExpr-F.Index e i) slots s0 s3 o (views.outs-Index e i)
      (index_by (types_below n signatures) (calls_below n fs) slots (node_type e) (node_type i) (core_value e) (core_value i) s0 s1 s2 s3 a b o (first signatures n given) (second signatures n given) call)

  pub update_lowers : (e i v : CoreExpr) (s0 s1 s2 s3 s4 : Nodes) (a b c o : Operand) → Lowers fs e slots s0 s1 a → Lowers fs i slots s1 s2 b → Lowers fs v slots s2 s3 c → ((m k : ℕ) (u : IrType) → IsBuilt s3 → HasType s3 a (array_of m u) → HasType s3 b (Bits k []) → HasType s3 c u → GivesValue s3 s4 o (array_of m u) (λ s values. on_array (λ vs. on_word (updated (operand_value s values c) vs) (operand_value s values b)) (operand_value s values a))) → Lowers fs (core.Update e i v) slots s0 s4 o
  update_lowers e i v s0 s1 s2 s3 s4 a b c o first second third call signatures n given =
      lowers_at (types_below n signatures) (calls_below n fs) (core.Update e i v) (CoreExpr-F.Update e i v) slots s0 s4 o (views.outs-Update e i v)
      (update_by (types_below n signatures) (calls_below n fs) slots (node_type e) (node_type i) (node_type v) (core_value e) (core_value i) (core_value v) s0 s1 s2 s3 s4 a b c o (first signatures n given) (second signatures n given) (third signatures n given) call)

  pub choose_lowers : (t y z : CoreExpr) (s0 s1 s2 s3 s4 : Nodes) (b one zero o : Operand) → Lowers fs t slots s0 s1 b → Lowers fs y slots s1 s2 one → Lowers fs z slots s2 s3 zero → ((u : IrType) → IsBuilt s3 → HasType s3 b (Bits 1 []) → HasType s3 one u → HasType s3 zero u → GivesValue s3 s4 o u (either_by b one zero)) → Lowers fs (core.Choose t y z) slots s0 s4 o
  choose_lowers t y z s0 s1 s2 s3 s4 b one zero o first second third call signatures n given =
      lowers_at (types_below n signatures) (calls_below n fs) (core.Choose t y z) (CoreExpr-F.Choose t y z) slots s0 s4 o (views.outs-Choose t y z)
      (choose_by (types_below n signatures) (calls_below n fs) slots (node_type t) (node_type y) (node_type z) (core_value t) (core_value y) (core_value z) s0 s1 s2 s3 s4 b one zero o (first signatures n given) (second signatures n given) (third signatures n given) call)

  pub tuple_lowers : (es : List CoreExpr) (s0 s1 s2 : Nodes) (os : List Operand) (o : Operand) → EachLowers fs es slots s0 s1 os → ((ts : List IrType) → IsBuilt s1 → OperandsHaveTypes s1 os ts → IsNodeType (Tuple ts []) → GivesValue s1 s2 o (Tuple ts []) (λ s values. value.Tuple (map (operand_value s values) os))) → Lowers fs (core.Tuple es) slots s0 s2 o
  tuple_lowers es s0 s1 s2 os o first call signatures n given =
      lowers_at (types_below n signatures) (calls_below n fs) (core.Tuple es) (CoreExpr-F.Tuple es) slots s0 s2 o (views.outs-Tuple es)
      (tuple_by (types_below n signatures) (calls_below n fs) slots (map node_type es) (map core_value es) s0 s1 s2 os o (first signatures n given) call)

  pub array_lowers : (es : List CoreExpr) (s0 s1 s2 : Nodes) (os : List Operand) (o : Operand) → EachLowers fs es slots s0 s1 os → ((u : IrType) → IsBuilt s1 → 1 ≤ length os → OperandsHaveType s1 os u → IsNodeType (array_of (length os) u) → GivesValue s1 s2 o (array_of (length os) u) (λ s values. value.Array (map (operand_value s values) os))) → Lowers fs (core.Array es) slots s0 s2 o
  array_lowers es s0 s1 s2 os o first call signatures n given =
      lowers_at (types_below n signatures) (calls_below n fs) (core.Array es) (CoreExpr-F.Array es) slots s0 s2 o (views.outs-Array es)
      (array_by (types_below n signatures) (calls_below n fs) slots (map node_type es) (map core_value es) s0 s1 s2 os o (first signatures n given) call)

  pub bind_lowers : (e : CoreExpr) (p : Shape) (body : CoreExpr) (more : List Operand) (s0 s1 s2 s3 : Nodes) (a o : Operand) → Lowers fs e slots s0 s1 a → BindsTo p a s1 s2 slots more → Lowers fs body more s2 s3 o → Lowers fs (core.Bind e p body) slots s0 s3 o
  bind_lowers e p body more s0 s1 s2 s3 a o first binds last signatures n given =
      lowers_at (types_below n signatures) (calls_below n fs) (core.Bind e p body) (CoreExpr-F.Bind e p body) slots s0 s3 o (views.outs-Bind e p body)
      (bind_by (types_below n signatures) (calls_below n fs) slots p (node_type e) (node_type body) (core_value e) (core_value body) more s0 s1 s2 s3 a o (first signatures n given) binds (last signatures n given))

  pub select_lowers : (e : CoreExpr) (arms : List Arm) (s0 s1 s2 : Nodes) (a o : Operand) → Lowers fs e slots s0 s1 a → ArmsLower fs arms a slots s1 s2 o → Lowers fs (core.Select e arms) slots s0 s2 o
  select_lowers e arms s0 s1 s2 a o first last signatures n given =
      lowers_at (types_below n signatures) (calls_below n fs) (core.Select e arms) (CoreExpr-F.Select e arms) slots s0 s2 o (views.outs-Select e arms)
      (select_by (types_below n signatures) (calls_below n fs) slots (node_type e) (core_value e) (map arm_node_type arms) (map arm_value arms) s0 s1 s2 a o (first signatures n given) (last signatures n given))

  pub loop_lowers : (count i : ℕ) (from place : Word) (index shape : Shape) (body start : CoreExpr) (s0 s1 : Nodes) (a : Operand) → count ≤ i
      → ((signatures : List FunctionSignature) (n : ℕ) → AreNodeFunctions signatures fs → LoopSo (types_below n signatures) (calls_below n fs) slots index shape (node_type body) (node_type start) (core_value body) (core_value start) count i from place s0 s1 a)
      → Lowers fs (core.Loop count from index shape body start) slots s0 s1 a
  loop_lowers count i from place index shape body start s0 s1 a done so signatures n given =
      lowers_at (types_below n signatures) (calls_below n fs) (core.Loop count from index shape body start) (CoreExpr-F.Loop count from index shape body start) slots s0 s1 a (views.outs-Loop count from index shape body start)
      (loop_last (types_below n signatures) (calls_below n fs) slots index shape (node_type body) (node_type start) (core_value body) (core_value start) count i from place s0 s1 a done (so signatures n given))

  pub call_lowers : (k : ℕ) (g : Function) (es : List CoreExpr) (s0 s1 s2 : Nodes) (os : List Operand) (o : Operand) → slice_get fs k ≡ Some g → EachLowers fs es slots s0 s1 os → Lowers fs g.body os s1 s2 o → Lowers fs (core.Call k es) slots s0 s2 o
  call_lowers k g es s0 s1 s2 os o there each body signatures n given =
      lowers_at (types_below n signatures) (calls_below n fs) (core.Call k es) (CoreExpr-F.Call k es) slots s0 s2 o (views.outs-Call k es)
      (call_by fs signatures n k g es slots s0 s1 s2 os o given there (each signatures n given) body)

  pub no_call_lowers : (k : ℕ) (es : List CoreExpr) (s0 s1 : Nodes) (o : Operand) → slice_get fs k ≡ None → Lowers fs (core.Call k es) slots s0 s1 o
  no_call_lowers k es s0 s1 o none signatures n given =
      lowers_at (types_below n signatures) (calls_below n fs) (core.Call k es) (CoreExpr-F.Call k es) slots s0 s1 o (views.outs-Call k es)
      (no_call fs signatures n k es slots s0 s1 o given none)

  -- ---- arms

  arm_type_is : (arm : Arm) → arm_node_type arm ≡ record { shapes = (out-Arm arm).shapes; value = node_type (out-Arm arm).value }
  arm_type_is arm = fold_out-Arm Typing CoreArmTyping node_step arm_typing arm

  arm_value_is : (arm : Arm) → arm_value arm ≡ record { shapes = (out-Arm arm).shapes; value = core_value (out-Arm arm).value }
  arm_value_is arm = fold_out-Arm CoreDen CoreArmDen core_step arm_step arm

  pub arm_lowers : (arm : Arm) (shapes : List Shape) (body : CoreExpr) (more : List Operand) (s0 s1 s2 : Nodes) (a o : Operand) → shapes ≡ (out-Arm arm).shapes → body ≡ (out-Arm arm).value → ArmBindsTo shapes a s0 s1 slots more → Lowers fs body more s1 s2 o → ArmLowers fs arm a slots s0 s2 o
  arm_lowers arm shapes body more s0 s1 s2 a o shapes_are body_is binds last signatures n given =
      subst (λ q. ArmLowersBy (types_below n signatures) (calls_below n fs) q (arm_value arm) a slots s0 s2 o) (sym (arm_type_is arm))
      (subst (λ d. ArmLowersBy (types_below n signatures) (calls_below n fs) (record { shapes = (out-Arm arm).shapes; value = node_type (out-Arm arm).value }) d a slots s0 s2 o) (sym (arm_value_is arm))
      (arm_by (types_below n signatures) (calls_below n fs) slots (record { shapes = (out-Arm arm).shapes; value = node_type (out-Arm arm).value }) (record { shapes = (out-Arm arm).shapes; value = core_value (out-Arm arm).value }) more s0 s1 s2 a o
      (subst (λ ps. ArmBindsTo ps a s0 s1 slots more) shapes_are binds)
      ((subst (λ e. Lowers fs e more s1 s2 o) body_is last) signatures n given)))

  arm_shapes : (arm : Arm) → (arm_value arm).shapes ≡ (arm_node_type arm).shapes
  arm_shapes arm = ap (λ (d : CoreArmDen). d.shapes) (arm_value_is arm) ∙ sym (ap (λ (q : CoreArmTyping). q.shapes) (arm_type_is arm))

  pub last_lowers : (arm : Arm) (s0 s1 : Nodes) (a o : Operand) → ArmLowers fs arm a slots s0 s1 o → ArmsLower fs (arm ∷ []) a slots s0 s1 o
  last_lowers arm s0 s1 a o last signatures n given = last_by (types_below n signatures) (calls_below n fs) slots (arm_node_type arm) (arm_value arm) s0 s1 a o (arm_shapes arm) (last signatures n given)

  pub none_lowers : (s0 s1 : Nodes) (a o : Operand) → ArmsLower fs [] a slots s0 s1 o
  none_lowers s0 s1 a o signatures n given types t u whole built have has h = absurd (cc)

  pub choice_lowers : (arm : Arm) (rest : List Arm) (shapes : List Shape) (s0 s1 s2 s3 s4 : Nodes) (a fit one others o : Operand) → 1 ≤ length rest → shapes ≡ (out-Arm arm).shapes
      → AnyFitsTo shapes a s0 s1 fit → ArmLowers fs arm a slots s1 s2 one → ArmsLower fs rest a slots s2 s3 others
      → ((u : IrType) → IsBuilt s3 → HasType s3 fit (Bits 1 []) → HasType s3 one u → HasType s3 others u → GivesValue s3 s4 o u (either_by fit one others))
      → ArmsLower fs (arm ∷ rest) a slots s0 s4 o
  choice_lowers arm [] shapes s0 s1 s2 s3 s4 a fit one others o some shapes_are first second third call signatures n given = absurd (omega (arith, some))
  choice_lowers arm (next ∷ rest) shapes s0 s1 s2 s3 s4 a fit one others o some shapes_are first second third call signatures n given =
      choice_by (types_below n signatures) (calls_below n fs) slots (arm_node_type arm) (arm_node_type next) (map arm_node_type rest) (arm_value arm) (arm_value next) (map arm_value rest) s0 s1 s2 s3 s4 a fit one others o (arm_shapes arm)
      (subst (λ ps. AnyFitsTo ps a s0 s1 fit) (shapes_are ∙ sym (ap (λ (q : CoreArmTyping). q.shapes) (arm_type_is arm))) first)
      (second signatures n given) (third signatures n given) call

  -- ---- turns

  pub turn_lowers : (index shape : Shape) (body : CoreExpr) (place : Word) (w m : ℕ) (number a o : Operand) (some all : List Operand) (s0 s1 s2 s3 s4 : Nodes) → w ≡ place.width → m ≡ place.value
      → (IsBuilt s0 → 1 ≤ w → w ≤ 128 → m < 2 ^ w → GivesValue s0 s1 number (Bits w []) (λ s values. value.Bits (word w m)))
      → BindsTo index number s1 s2 slots some → BindsTo shape a s2 s3 some all → Lowers fs body all s3 s4 o
      → TurnLowers fs index shape body place a slots s0 s4 o
  turn_lowers index shape body place w m number a o some all s0 s1 s2 s3 s4 width_is value_is literal first second last signatures n given =
      turn_by (types_below n signatures) (calls_below n fs) slots index shape (node_type body) (core_value body) place w m number a o some all s0 s1 s2 s3 s4 width_is value_is literal first second (last signatures n given)
