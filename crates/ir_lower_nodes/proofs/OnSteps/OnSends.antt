-- Sends, over what their parts are lowered to.
use Rattle.std.proofs.Common.{◌≡◌, ℕ, List, [], map, length, get_or, Bool, true, false, ◌&&◌, Option, Some, None, refl, sym, ap, subst, ◌∙◌}
use Rattle.std.specs.List.{list_all}
use Rattle.xb_bits.specs.Word.{Word}
use Rattle.xb_value.specs.declared.ty.Ty.{Ty}
use Rattle.xb_value.specs.declared.ty.Ty as ty
use Rattle.xb_value.specs.declared.value.Value.{Value}
use Rattle.ir_tree.specs.declared.ir_type.IrType.{Token}
use Rattle.ir_tree.specs.declared.node.Operand.{Operand}
use Rattle.ir_tree.specs.NodeValues.{is_on, operand_value}
use Rattle.ir_tree.specs.Rules.Lines.{is_there}
use Rattle.ir_rebuild.specs.Built.{AreValues}
use Rattle.ir_rebuild.specs.Operands.{optional_operand}
use Rattle.ir_rebuild.proofs.Lemmas.{there_more}
use Rattle.ir_rebuild.specs.declared.putting.nodes.Nodes.{Nodes}
use Rattle.ir_rebuild.specs.Putting.Types.{ir_type_of}
use Rattle.ir_rebuild.specs.Putting.Given.{IsBuilt, HasType, OperandsHaveTypes, GrowsTo, PutsNode}
use Rattle.ir_rebuild.proofs.Lemmas.Putting.{grows_none, grows_twice, has_later, have_later, values_earlier}
use Rattle.ir_rebuild.proofs.Lemmas.Putting.Types.{type-Bits}
use Rattle.dslx_meaning.specs.Lists.{and_then}
use Rattle.dslx_core.specs.CoreValues.{Functions, core_value}
use Rattle.dslx_core.specs.Designs as core
use Rattle.dslx_core.specs.Designs.{Behind, condition_at, do_step, on_or_off, send_if, send_on}
use Rattle.dslx_core.specs.declared.design.Function.{Function}
use Rattle.dslx_core.specs.declared.expr.CoreExpr.{CoreExpr}
use Rattle.dslx_core.specs.declared.expr.Shape.{Shape}
use Rattle.dslx_core.specs.declared.step.Step.TheVariants as step
use Rattle.dslx_core.specs.declared.step.Send.{Send}
use Rattle.dslx_core.specs.Types.Typing.{binds_types, if_alike}
use Rattle.dslx_core.specs.Types.Designs.{FunctionSignature, token_type}
use Rattle.dslx_core.proofs.Lemmas.Types.{IsThen, then_is, if_alike_is}
use Rattle.ir_lower_nodes.specs.Words.Given.{LoweredTo}
use Rattle.ir_lower_nodes.specs.Patterns.Shapes.{parts_of}
use Rattle.ir_lower_nodes.specs.Patterns.Given.{StandBehind}
use Rattle.ir_lower_nodes.proofs.Lemmas.Patterns.{bound_typed}
use Rattle.ir_lower_nodes.specs.Exprs.NodeTypes.{node_type}
use Rattle.ir_lower_nodes.specs.Exprs.Calls.{AreNodeFunctions, calls_below, types_below}
use Rattle.ir_lower_nodes.specs.Exprs.Lowered.{bound_by, Lowers}
use Rattle.ir_lower_nodes.specs.Steps.StepTypes.{under_node_condition}
use Rattle.ir_lower_nodes.specs.Steps.Steps.{AddsNodes, ConditionLowers, StepLowers, send_node}
use Rattle.ir_lower_nodes.proofs.OnSteps.OnNodes.{adds_grown, adds_twice, have_added, longer, values_added}
use Rattle.ir_lower_nodes.proofs.OnSteps.OnAlike.{apart_now}
use Rattle.ir_lower_nodes.proofs.OnSteps.OnSites.{SendPut, send_put, send_by, send_lowered}
use Rattle.ir_lower_nodes.proofs.OnSteps.OnSteps.{TokenBinds, condition_is, token_typed}

-- what a send under a condition does, by the values of the condition and of what is sent
send_does : (calls : Functions) (word e : CoreExpr) (p : Shape) (rest : Behind) (bound : List Value) (on : Bool) (v : Value) (words : List Word) → condition_at calls e bound ≡ Some on → core_value word calls bound ≡ Some v
    → send_if calls word (Some e) p rest bound words ≡ send_by on p rest bound v words
send_does calls word e p rest bound on v words is value_is =
    ap (λ o. on_or_off o (send_on p rest bound (core_value word calls bound) words) p rest bound (Some core.token) words) is
    ∙ (ap (λ o. on_or_off (Some on) (send_on p rest bound o words) p rest bound (Some core.token) words) value_is ∙ by on)
  where
    by : (b : Bool) → on_or_off (Some b) (send_on p rest bound (Some v) words) p rest bound (Some core.token) words ≡ send_by b p rest bound v words
    by true = refl
    by false = refl

-- a condition, if there is one, is lowered to a predicate: with it the send does what it does under the condition
record ConditionHolds (calls : Functions) (word : CoreExpr) (condition : Option CoreExpr) (before : List Operand) (old new : Nodes) (predicate : Option Operand) : Type 0 where
  grows : GrowsTo old new
  there : list_all (is_there (length new.list.items)) (optional_operand predicate) ≡ true
  does : (s : Value) (values : List Value) → AreValues new.state new.list.items s values → (p : Shape) (rest : Behind) (v : Value) (words : List Word) → core_value word calls (bound_by before s values) ≡ Some v
      → send_if calls word condition p rest (bound_by before s values) words ≡ send_by (is_on s values predicate) p rest (bound_by before s values) v words

condition_holds : (fs : List Function) (signatures : List FunctionSignature) (n : ℕ) → AreNodeFunctions signatures fs → (word : CoreExpr) (before : List Operand) (old new : Nodes) (types : List Ty) (o : Option Ty) (t : Ty) → IsBuilt old → OperandsHaveTypes old before (map ir_type_of types)
    → (condition : Option CoreExpr) (predicate : Option Operand) → ConditionLowers fs condition before old new predicate → under_node_condition (types_below n signatures) types condition o ≡ Some t → ConditionHolds (calls_below n fs) word condition before old new predicate × (o ≡ Some t)
condition_holds fs signatures n given word before old new types o t built have None None same h = (
  record {
    grows = subst (GrowsTo old) (sym same) (grows_none old built);
    there = refl;
    does = λ s values v p rest x words is. ap (λ y. send_on p rest (bound_by before s values) y words) is;
  },
  h,
)
condition_holds fs signatures n given word before old new types o t built have None (Some on) lowers h = absurd lowers
condition_holds fs signatures n given word before old new types o t built have (Some e) None lowers h = absurd lowers
condition_holds fs signatures n given word before old new types o t built have (Some e) (Some on) lowers h =
    let found = then_is (if_alike (ty.Bits 1) (node_type e (types_below n signatures) types)) (λ b. o) t h in
    let bit = if_alike_is (ty.Bits 1) found.first (node_type e (types_below n signatures) types) found.is in
    let one = lowers signatures n given types (ty.Bits 1) built have (bit.1 ∙ ap Some (sym bit.0)) in
    let has = subst (HasType new on) (type-Bits 1) one.has in (
      record {
        grows = one.grows;
        there = ap (λ b. b && true) has.there;
        does = λ s values v p rest x words is.
            send_does (calls_below n fs) word e p rest (bound_by before s values) (is_on s values (Some on)) x words
            (condition_is (calls_below n fs) e before new on has s values v (one.value s values v)) is;
      },
      found.gives,
    )

operand_later : (old new : Nodes) → GrowsTo old new → (o : Operand) → is_there (length old.list.items) o ≡ true → is_there (length new.list.items) o ≡ true
operand_later old new g o h = there_more (length old.list.items) (length new.list.items) (longer old new (adds_grown old new g)) o h

there_later : (old new : Nodes) → GrowsTo old new → (predicate : Option Operand) → list_all (is_there (length old.list.items)) (optional_operand predicate) ≡ true → list_all (is_there (length new.list.items)) (optional_operand predicate) ≡ true
there_later old new g None h = refl
there_later old new g (Some o) h = ap (λ b. b && true) (operand_later old new g o (first (is_there (length old.list.items) o) h))
  where
    first : (b : Bool) → (b && true) ≡ true → b ≡ true
    first true e = refl
    first false e = absurd (cc)

pub send_lowers : (fs : List Function) (cs : List ℕ) (r : Send) (predicate : Option Operand) (c : ℕ) (s0 s1 s2 s3 s9 : Nodes) (from word site : Operand) (before after : List Operand) → ConditionLowers fs r.condition before s0 s1 predicate → Lowers fs r.word before s1 s2 word
    → PutsNode s2 s3 (send_node from word predicate c) site → TokenBinds r.shape s3 s9 before after → c ≡ get_or cs r.member 0 → StepLowers fs cs (step.Send r) before after s0 s9 from site
send_lowers fs cs r predicate c s0 s1 s2 s3 s9 from word site before after lowers_on lowers_word put bind same signatures n given ir words carry types us built have has binds =
    send_lowered ir s0 s2 s3 s9 from word site site predicate (get_or cs r.member 0) outer.first r.shape before after types us (do_step (calls_below n fs) (step.Send r)) built have grown has_from there has_word
    put_own stand.grows (carry r.member outer.first outer.is) stand.have (has_later s3 s9 site (Token []) stand.grows here.has)
    (λ s values v rest later. condition.0.does s values (values_earlier s1 s2 one.grows s values v) r.shape rest (operand_value s values word) later (one.value s values v))
    (λ s all v rest later.
    apart_now r.shape token_type types us core.token rest (bound_by before s all) later token_typed (bound_typed s0 before types have s all (values_added s0 s9 adds s all v)) inner.gives
    ∙ ap (λ bound. rest bound later) (sym (stand.values s all v)))
  where
    outer : IsThen (words r.member) (λ t. and_then (under_node_condition (types_below n signatures) types r.condition (if_alike t (node_type r.word (types_below n signatures) types))) (λ u. binds_types true r.shape token_type types)) us
    outer = then_is (words r.member) (λ t. and_then (under_node_condition (types_below n signatures) types r.condition (if_alike t (node_type r.word (types_below n signatures) types))) (λ u. binds_types true r.shape token_type types)) us binds

    inner : IsThen (under_node_condition (types_below n signatures) types r.condition (if_alike outer.first (node_type r.word (types_below n signatures) types))) (λ u. binds_types true r.shape token_type types) us
    inner = then_is (under_node_condition (types_below n signatures) types r.condition (if_alike outer.first (node_type r.word (types_below n signatures) types))) (λ u. binds_types true r.shape token_type types) us outer.gives

    condition : ConditionHolds (calls_below n fs) r.word r.condition before s0 s1 predicate × (if_alike outer.first (node_type r.word (types_below n signatures) types) ≡ Some inner.first)
    condition = condition_holds fs signatures n given r.word before s0 s1 types (if_alike outer.first (node_type r.word (types_below n signatures) types)) inner.first built have r.condition predicate lowers_on inner.is

    word_is : node_type r.word (types_below n signatures) types ≡ Some outer.first
    word_is = let alike = if_alike_is outer.first inner.first (node_type r.word (types_below n signatures) types) condition.1 in alike.1 ∙ ap Some (sym alike.0)

    one : LoweredTo s1 s2 word outer.first (λ s values. core_value r.word (calls_below n fs) (bound_by before s values))
    one = lowers_word signatures n given types outer.first condition.0.grows.built (have_later s0 s1 before (map ir_type_of types) condition.0.grows have) word_is

    has_word : HasType s2 word (ir_type_of outer.first)
    has_word = one.has

    grown : GrowsTo s0 s2
    grown = grows_twice s0 s1 s2 condition.0.grows one.grows

    has_from : HasType s2 from (Token [])
    has_from = has_later s0 s2 from (Token []) grown has

    there : list_all (is_there (length s2.list.items)) (optional_operand predicate) ≡ true
    there = there_later s1 s2 one.grows predicate condition.0.there

    put_own : PutsNode s2 s3 (send_node from word predicate (get_or cs r.member 0)) site
    put_own = subst (λ x. PutsNode s2 s3 (send_node from word predicate x) site) same put

    here : SendPut s2 s3 site
    here = send_put s2 s3 outer.first from word site predicate (get_or cs r.member 0) one.grows.built has_from has_word there put_own

    own : OperandsHaveTypes s3 before (map ir_type_of types)
    own = have_added s2 s3 before (map ir_type_of types) here.adds (have_later s0 s2 before (map ir_type_of types) grown have)

    stand : StandBehind s3 s9 before after us (λ s values. parts_of r.shape core.token)
    stand = bind types us here.adds.built own inner.gives

    adds : AddsNodes s0 s9
    adds = adds_twice s0 s2 s9 (adds_grown s0 s2 grown) (adds_twice s2 s3 s9 here.adds (adds_grown s3 s9 stand.grows))
