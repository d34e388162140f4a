-- Each kind of step, over what its parts are lowered to.
use Rattle.std.proofs.Common.{◌≡◌, ℕ, List, [], ◌∷◌, ◌++◌, map, length, get_or, Bool, true, false, ◌&&◌, ◌==◌, if◌then◌else◌, Option, Some, None, refl, sym, ap, subst, ◌∙◌, arith}
use Rattle.std.specs.Prelude.{slice_get}
use Rattle.std.specs.List.{list_all}
use Rattle.std.proofs.lemmas.Bool.Decides.{nat_tests}
use Rattle.xb_bits.specs.Word.{Word}
use Rattle.xb_value.specs.declared.ty.Ty.{Ty}
use Rattle.xb_value.specs.declared.ty.Ty as ty
use Rattle.xb_value.specs.declared.value.Value.{Value, out-Value}
use Rattle.xb_value.specs.declared.value.Value as value
use Rattle.xb_value.specs.declared.value.Value.TheViews.{outs-Bits, outs-Tuple}
use Rattle.xb_value.specs.Typing.{IsOfType, fits, tuple_fits}
use Rattle.xb_value.proofs.Lemmas.Typing.{fits-Tuple}
use Rattle.ir_tree.specs.declared.ir_type.IrType.{IrType, Bits, Token, Tuple}
use Rattle.ir_tree.specs.declared.node.Operand.{Operand}
use Rattle.ir_tree.specs.declared.node.Operand.TheVariants as operand
use Rattle.ir_tree.specs.Constants.{no_value}
use Rattle.ir_tree.specs.NodeValues.{is_on, is_one, operand_value}
use Rattle.ir_tree.specs.Operations.{on_tuple, element_at}
use Rattle.ir_tree.specs.NodeTypes.Types.{marks_of}
use Rattle.ir_tree.specs.Rules.Lines.{is_there, type_limits}
use Rattle.ir_tree.specs.Rules.Typed.Typed.{none_broken}
use Rattle.ir_tree.proofs.Lemmas.Rules.Typed.Checked.{and_true}
use Rattle.ir_tree.proofs.Lemmas.Rules.Typed.Scopes.{on_word-Bits}
use Rattle.ir_rebuild.specs.Built.{AreValues}
use Rattle.ir_rebuild.specs.declared.putting.nodes.Nodes.{Nodes}
use Rattle.ir_rebuild.specs.Putting.Types.{ir_type_of}
use Rattle.ir_rebuild.specs.Putting.Words.{either_by}
use Rattle.ir_rebuild.specs.Putting.Given.{IsBuilt, IsNodeType, HasType, OperandsHaveTypes, GrowsTo, PutsNode, GivesValue}
use Rattle.ir_rebuild.proofs.Lemmas.Putting.{grows_none, grows_twice, has_later, have_later, values_earlier, operand_word}
use Rattle.ir_rebuild.proofs.Lemmas.Putting.Types.{type-Bits, type-Tuple}
use Rattle.dslx_meaning.specs.Lists.{and_then, where_true}
use Rattle.dslx_core.specs.CoreValues as core_values
use Rattle.dslx_core.specs.CoreValues.{Functions, core_value, word_of_value}
use Rattle.dslx_core.specs.Designs as core
use Rattle.dslx_core.specs.Designs.{Behind, apart_then, condition_at, do_step, on_or_off, receive_if, receive_on, with_token}
use Rattle.dslx_core.specs.declared.design.Function.{Function}
use Rattle.dslx_core.specs.declared.expr.CoreExpr.{CoreExpr}
use Rattle.dslx_core.specs.declared.expr.Shape.{Shape}
use Rattle.dslx_core.specs.declared.step.Step.TheVariants as step
use Rattle.dslx_core.specs.declared.step.Receive.{Receive}
use Rattle.dslx_core.specs.Types.Typing.{FunctionTypes, binds_types, if_alike}
use Rattle.dslx_core.specs.Types.Designs.{WordTypes, token_type}
use Rattle.dslx_core.proofs.Lemmas.Types.{then_is, if_alike_is}
use Rattle.ir_lower_nodes.specs.Words.Given.{LoweredTo}
use Rattle.ir_lower_nodes.proofs.Lemmas.Words.{read_word}
use Rattle.ir_lower_nodes.specs.Patterns.Shapes.{parts_of}
use Rattle.ir_lower_nodes.specs.Patterns.Given.{StandBehind}
use Rattle.ir_lower_nodes.proofs.Lemmas.Patterns.{BindsTo, bound_typed, typed_value}
use Rattle.ir_lower_nodes.specs.Exprs.NodeTypes.{is_node_type, if_node, node_type}
use Rattle.ir_lower_nodes.specs.Exprs.Calls.{calls_below, types_below}
use Rattle.ir_lower_nodes.specs.Exprs.Lowered.{bound_by, Lowers}
use Rattle.ir_lower_nodes.specs.Steps.StepTypes.{pair_type, node_otherwise, step_node_binds}
use Rattle.ir_lower_nodes.specs.Steps.Steps.{AddsNodes, StepLowers, receive_node}
use Rattle.ir_lower_nodes.proofs.OnSteps.OnNodes.{adds_grown, adds_twice, has_added, have_added, values_added}
use Rattle.ir_lower_nodes.proofs.OnSteps.OnAlike.{apart_now, plain_lowered}
use Rattle.ir_lower_nodes.proofs.OnSteps.OnWords.{pair_is, got_type}
use Rattle.ir_lower_nodes.proofs.OnSteps.OnSites.{ReceivePut, receive_put, receive_by, either_value, receive_lowered}

-- ---- options

some_same : {A : Type 0} (x y : A) → Some x ≡ Some y → x ≡ y
some_same x y h = cc

both_true : (a b : Bool) → (a && b) ≡ true → (a ≡ true) × (b ≡ true)
both_true true true h = (refl, refl)
both_true true false h = absurd (cc)
both_true false b h = absurd (cc)

where_is : {A : Type 0} (b : Bool) (o : Option A) (x : A) → where_true b o ≡ Some x → (b ≡ true) × (o ≡ Some x)
where_is true o x h = (refl, h)
where_is false o x h = absurd (cc)

-- ---- what is bound of a token, and of a token and a value

pub token_typed : IsOfType token_type core.token
token_typed = fits-Tuple [] core.token ∙ ap (tuple_fits (map fits [])) (outs-Tuple [])

pair_typed : (t : Ty) (v : Value) → IsOfType t v → IsOfType (pair_type t) (with_token v)
pair_typed t v h =
    fits-Tuple (token_type ∷ t ∷ []) (with_token v)
    ∙ (ap (tuple_fits (map fits (token_type ∷ t ∷ []))) (outs-Tuple (core.token ∷ v ∷ []))
    ∙ and_true (fits token_type core.token) _ token_typed (and_true (fits t v) true h refl))

abbrev pub TokenBinds : Shape → Nodes → Nodes → List Operand → List Operand → Type 0
TokenBinds p old new before all = (ts us : List Ty) → IsBuilt old → OperandsHaveTypes old before (map ir_type_of ts) → binds_types true p token_type ts ≡ Some us → StandBehind old new before all us (λ s values. parts_of p core.token)

abbrev pub PairBinds : Shape → Operand → Nodes → Nodes → List Operand → List Operand → Type 0
PairBinds p v old new before all =
    (t : Ty) (ts us : List Ty) → IsBuilt old → HasType old v (ir_type_of t) → OperandsHaveTypes old before (map ir_type_of ts) → IsNodeType (ir_type_of (pair_type t)) → binds_types true p (pair_type t) ts ≡ Some us →
    StandBehind old new before all us (λ s values. parts_of p (with_token (operand_value s values v)))

abbrev UnitGiven : Nodes → Nodes → Operand → Type 0
UnitGiven old new u = IsBuilt old → GivesValue old new u (Tuple [] []) (λ s values. value.Tuple [])

pub token_binds : (p : Shape) (s0 s1 s2 : Nodes) (u : Operand) (before all : List Operand) → UnitGiven s0 s1 u → BindsTo p u s1 s2 before all → TokenBinds p s0 s2 before all
token_binds p s0 s1 s2 u before all unit bind ts us built have binds =
    let first = unit built in
    let has = subst (HasType s1 u) (sym (type-Tuple [])) first.has in
    let last = bind true token_type ts us first.grows.built has (have_later s0 s1 before (map ir_type_of ts) first.grows have) binds in
    record {
      grows = grows_twice s0 s1 s2 first.grows last.grows;
      have = last.have;
      values = λ s values v. last.values s values v ∙ ap (λ x. map (operand_value s values) before ++ parts_of p x) (first.value s values (values_earlier s1 s2 last.grows s values v));
    }

pub pair_binds : (p : Shape) (s0 s1 s2 s3 : Nodes) (u v pair : Operand) (before all : List Operand) → UnitGiven s0 s1 u
    → ((ts : List IrType) → IsBuilt s1 → OperandsHaveTypes s1 (u ∷ v ∷ []) ts → IsNodeType (Tuple ts []) → GivesValue s1 s2 pair (Tuple ts []) (λ s values. value.Tuple (map (operand_value s values) (u ∷ v ∷ []))))
    → BindsTo p pair s2 s3 before all → PairBinds p v s0 s3 before all
pair_binds p s0 s1 s2 s3 u v pair before all unit tuple bind t ts us built has have within binds =
    let first = unit built in
    let second = tuple (Tuple [] [] ∷ ir_type_of t ∷ []) first.grows.built (first.has, (has_later s0 s1 v (ir_type_of t) first.grows has, tt)) (subst IsNodeType (pair_is t) within) in
    let own = subst (HasType s2 pair) (sym (pair_is t)) second.has in
    let grown = grows_twice s0 s1 s2 first.grows second.grows in
    let last = bind true (pair_type t) ts us second.grows.built own (have_later s0 s2 before (map ir_type_of ts) grown have) binds in
    record {
      grows = grows_twice s0 s2 s3 grown last.grows;
      have = last.have;
      values = λ s values v3.
          let v2 = values_earlier s2 s3 last.grows s values v3 in
          let v1 = values_earlier s1 s2 second.grows s values v2 in
          last.values s values v3
          ∙ ap (λ x. map (operand_value s values) before ++ parts_of p x)
          (second.value s values v2 ∙ ap (λ x. value.Tuple (x ∷ operand_value s values v ∷ [])) (first.value s values v1));
    }

-- ---- a binding

pub bind_lowers : (fs : List Function) (cs : List ℕ) (e : CoreExpr) (p : Shape) (s0 s1 s2 : Nodes) (from a : Operand) (before after : List Operand) → Lowers fs e before s0 s1 a → BindsTo p a s1 s2 before after → StepLowers fs cs (step.Bind e p) before after s0 s2 from from
bind_lowers fs cs e p s0 s1 s2 from a before after lowers bind signatures n given ir words carry types us built have has binds =
    let found = then_is (node_type e (types_below n signatures) types) (λ t. binds_types true p t types) us binds in
    let one = lowers signatures n given types found.first built have found.is in
    let own = have_later s0 s1 before (map ir_type_of types) one.grows have in
    let two = bind true found.first types us one.grows.built one.has own found.gives in
    let grown = grows_twice s0 s1 s2 one.grows two.grows in
    plain_lowered ir (do_step (calls_below n fs) (step.Bind e p)) before after s0 s2 from types us grown have two.have (has_later s0 s2 from (Token []) grown has)
    (λ s all v rest later.
    let v1 = values_earlier s1 s2 two.grows s all v in
    ap (λ o. apart_then p rest (bound_by before s all) o later) (one.value s all v1)
    ∙ (apart_now p found.first types us (operand_value s all a) rest (bound_by before s all) later (typed_value s1 a found.first one.has s all v1) (bound_typed s1 before types own s all v1) found.gives
    ∙ ap (λ bound. rest bound later) (sym (two.values s all v))))

-- ---- receives

-- what the types of a receive say
record ReceiveSays (calls : FunctionTypes) (words : WordTypes) (r : Receive) (types us : List Ty) : Type 0 where
  word : words r.member ≡ Some r.word
  other : node_otherwise calls types r.word r.condition ≡ Some r.word
  within : IsNodeType (ir_type_of (pair_type r.word))
  binds : binds_types true r.shape (pair_type r.word) types ≡ Some us

-- the type of what is bound is that of the word
other_same : (calls : FunctionTypes) (types : List Ty) (t u : Ty) (o : Option (CoreExpr × CoreExpr)) → node_otherwise calls types t o ≡ Some u → t ≡ u
other_same calls types t u None h = some_same t u h
other_same calls types t u (Some both) h =
    let found = then_is (if_alike (ty.Bits 1) (node_type both.0 calls types)) (λ b. if_alike t (node_type both.1 calls types)) u h in
    (if_alike_is t u (node_type both.1 calls types) found.gives).0

receive_says : (calls : FunctionTypes) (words : WordTypes) (r : Receive) (types us : List Ty) → step_node_binds calls words (step.Receive r) types ≡ Some us → ReceiveSays calls words r types us
receive_says calls words r types us h =
    let outer = then_is (if_alike r.word (words r.member)) (λ t. and_then (node_otherwise calls types t r.condition) (λ u. and_then (if_node (Some (pair_type u))) (λ pair. binds_types true r.shape pair types))) us h in
    let alike = if_alike_is r.word outer.first (words r.member) outer.is in
    let inner = then_is (node_otherwise calls types outer.first r.condition) (λ u. and_then (if_node (Some (pair_type u))) (λ pair. binds_types true r.shape pair types)) us outer.gives in
    let last = then_is (if_node (Some (pair_type inner.first))) (λ pair. binds_types true r.shape pair types) us inner.gives in
    let test = where_is (is_node_type (ir_type_of (pair_type inner.first))) (Some (pair_type inner.first)) last.first last.is in
    let parts = both_true (marks_of (ir_type_of (pair_type inner.first))).sound (none_broken (type_limits 0 (ir_type_of (pair_type inner.first)) 0)) test.0 in
    let pair_same = some_same (pair_type inner.first) last.first test.1 in
    let same : inner.first ≡ r.word = sym (alike.0 ∙ other_same calls types outer.first inner.first r.condition inner.is) in
    record {
      word = alike.1 ∙ ap Some (sym alike.0);
      other = ap (λ t. node_otherwise calls types t r.condition) alike.0 ∙ (inner.is ∙ ap Some same);
      within = subst (λ u. IsNodeType (ir_type_of (pair_type u))) same (record { sound = parts.0; limits = parts.1 });
      binds = ap (λ p. binds_types true r.shape p types) (ap pair_type (sym same) ∙ pair_same) ∙ last.gives;
    }

-- the value of a bit, read as a condition and as a predicate
pub condition_is : (calls : Functions) (e : CoreExpr) (before : List Operand) (nodes : Nodes) (on : Operand) → HasType nodes on (Bits 1 []) → (s : Value) (values : List Value) → AreValues nodes.state nodes.list.items s values → core_value e calls (bound_by before s values) ≡ Some (operand_value s values on)
    → condition_at calls e (bound_by before s values) ≡ Some (is_on s values (Some on))
condition_is calls e before nodes on has s values v is =
    let w = operand_word nodes on 1 has s values v in
    ap (λ o. and_then (and_then o word_of_value) core_values.is_one) is
    ∙ (ap (λ o. and_then o core_values.is_one) (read_word (operand_value s values on) w.word w.is)
    ∙ (one_bit w.word w.of.fits ∙ ap Some (sym (ap (λ x. is_one (out-Value x)) w.is ∙ ap is_one (outs-Bits w.word)))))
  where
    one_bit : (x : Word) → x.width ≡ 1 → core_values.is_one x ≡ Some (x.value == 1)
    one_bit x e = by (x.width == 1) (grind (arith, nat_tests, e))
      where
        by : (b : Bool) → b ≡ true → where_true b (Some (x.value == 1)) ≡ Some (x.value == 1)
        by true h = refl
        by false h = absurd (cc)

abbrev PartGiven : Nodes → Nodes → Operand → ℕ → Operand → Type 0
PartGiven old new tuple n part = (ts : List IrType) (t : IrType) → IsBuilt old → HasType old tuple (Tuple ts []) → slice_get ts n ≡ Some t → GivesValue old new part t (λ s values. on_tuple (element_at n) (operand_value s values tuple))

-- what a pair binds, where its value is this
pair_bound : (p : Shape) (t : Ty) (types us : List Ty) (old last start : Nodes) (got : Operand) (before after : List Operand) → StandBehind old last before after us (λ s values. parts_of p (with_token (operand_value s values got)))
    → AddsNodes start last → OperandsHaveTypes start before (map ir_type_of types) → binds_types true p (pair_type t) types ≡ Some us
    → (s : Value) (all : List Value) → AreValues last.state last.list.items s all → (x : Value) → IsOfType t x → x ≡ operand_value s all got
    → (rest : Behind) (words : List Word) → apart_then p rest (bound_by before s all) (Some (with_token x)) words ≡ rest (bound_by after s all) words
pair_bound p t types us old last start got before after stand adds have binds s all v x typed is rest words =
    apart_now p (pair_type t) types us (with_token x) rest (bound_by before s all) words (pair_typed t x typed) (bound_typed start before types have s all (values_added start last adds s all v)) binds
    ∙ ap (λ bound. rest bound words) (ap (λ y. bound_by before s all ++ parts_of p (with_token y)) is ∙ sym (stand.values s all v))

site_value : (s : Value) (all : List Value) (k : ℕ) (site : Operand) → site ≡ operand.Node k → operand_value s all site ≡ get_or all k no_value
site_value s all k site is = ap (operand_value s all) is

pub always_lowers : (fs : List Function) (cs : List ℕ) (r : Receive) (c : ℕ) (s0 s3 s4 s5 s9 : Nodes) (from site last word : Operand) (before after : List Operand) → PutsNode s0 s3 (receive_node (ir_type_of r.word) from None c) site
    → PartGiven s3 s4 site 0 last → PartGiven s4 s5 site 1 word → PairBinds r.shape word s5 s9 before after → c ≡ get_or cs r.member 0 → r.condition ≡ None → StepLowers fs cs (step.Receive r) before after s0 s9 from last
always_lowers fs cs r c s0 s3 s4 s5 s9 from site last word before after put first second bind same none signatures n given ir words carry types us built have has binds =
    receive_lowered ir s0 s0 s3 s9 from site last operand.State None (get_or cs r.member 0) r.word r.shape before after types us (do_step (calls_below n fs) (step.Receive r)) built have (grows_none s0 built) has refl refl
    put_own k (carry r.member r.word says.word) says.within stand.have (has_later s4 s9 last (Token []) later one.has)
    (λ s values v rest later. ap (λ o. receive_if (calls_below n fs) r.word o r.shape rest (bound_by before s values) later) none)
    (λ s all v x typed is rest later.
    pair_bound r.shape r.word types us s5 s9 s0 word before after stand adds have says.binds s all v x typed
    (is ∙ (sym (ap (λ y. on_tuple (element_at 1) y) (site_value s all (length s0.list.items) site put.is)) ∙ sym (two.value s all (values_earlier s5 s9 stand.grows s all v)))) rest later)
    (λ s values v never. absurd (cc))
  where
    says : ReceiveSays (types_below n signatures) words r types us
    says = receive_says (types_below n signatures) words r types us binds

    put_own : PutsNode s0 s3 (receive_node (ir_type_of r.word) from None (get_or cs r.member 0)) site
    put_own = subst (λ x. PutsNode s0 s3 (receive_node (ir_type_of r.word) from None x) site) same put

    here : ReceivePut s0 s3 r.word site
    here = receive_put s0 s3 r.word from site None (get_or cs r.member 0) built has refl put_own says.within

    one : GivesValue s3 s4 last (Token []) (λ s values. on_tuple (element_at 0) (operand_value s values site))
    one = first (Token [] ∷ ir_type_of r.word ∷ []) (Token []) here.adds.built here.has refl

    two : GivesValue s4 s5 word (ir_type_of r.word) (λ s values. on_tuple (element_at 1) (operand_value s values site))
    two = second (Token [] ∷ ir_type_of r.word ∷ []) (ir_type_of r.word) one.grows.built (has_later s3 s4 site (got_type (ir_type_of r.word)) one.grows here.has) refl

    own : OperandsHaveTypes s5 before (map ir_type_of types)
    own = have_later s3 s5 before (map ir_type_of types) (grows_twice s3 s4 s5 one.grows two.grows) (have_added s0 s3 before (map ir_type_of types) here.adds have)

    stand : StandBehind s5 s9 before after us (λ s values. parts_of r.shape (with_token (operand_value s values word)))
    stand = bind r.word types us two.grows.built two.has own says.within says.binds

    later : GrowsTo s4 s9
    later = grows_twice s4 s5 s9 two.grows stand.grows

    k : GrowsTo s3 s9
    k = grows_twice s3 s4 s9 one.grows later

    adds : AddsNodes s0 s9
    adds = adds_twice s0 s3 s9 here.adds (adds_grown s3 s9 k)

-- what a receive under a condition does, by the values of the condition and of what stands for the word
under_does : (calls : Functions) (t : Ty) (e other : CoreExpr) (p : Shape) (rest : Behind) (bound : List Value) (on : Bool) (off : Value) (words : List Word) → condition_at calls e bound ≡ Some on → core_value other calls bound ≡ Some off
    → receive_if calls t (Some (e, other)) p rest bound words ≡ receive_by on t p rest bound off words
under_does calls t e other p rest bound on off words is off_is =
    ap (λ o. on_or_off o (receive_on t p rest bound words) p rest bound (and_then (core_value other calls bound) (λ v. Some (with_token v))) words) is
    ∙ (ap (λ o. on_or_off (Some on) (receive_on t p rest bound words) p rest bound (and_then o (λ v. Some (with_token v))) words) off_is ∙ by on)
  where
    by : (b : Bool) → on_or_off (Some b) (receive_on t p rest bound words) p rest bound (Some (with_token off)) words ≡ receive_by b t p rest bound off words
    by true = refl
    by false = refl

if_either : (b : Bool) (v w : Value) → (if b then v else w) ≡ either_value b v w
if_either true v w = refl
if_either false v w = refl

pub under_lowers : (fs : List Function) (cs : List ℕ) (r : Receive) (e other : CoreExpr) (c : ℕ) (s0 s1 s2 s3 s4 s5 s6 s9 : Nodes) (from on off site last word got : Operand) (before after : List Operand) → Lowers fs e before s0 s1 on → Lowers fs other before s1 s2 off
    → PutsNode s2 s3 (receive_node (ir_type_of r.word) from (Some on) c) site → PartGiven s3 s4 site 0 last → PartGiven s4 s5 site 1 word
    → ((t : IrType) → IsBuilt s5 → HasType s5 on (Bits 1 []) → HasType s5 word t → HasType s5 off t → GivesValue s5 s6 got t (either_by on word off))
    → PairBinds r.shape got s6 s9 before after → c ≡ get_or cs r.member 0 → r.condition ≡ Some (e, other) → StepLowers fs cs (step.Receive r) before after s0 s9 from last
under_lowers fs cs r e other c s0 s1 s2 s3 s4 s5 s6 s9 from on off site last word got before after lowers_on lowers_off put first second choose bind same some signatures n given ir words carry types us built have has binds =
    receive_lowered ir s0 s2 s3 s9 from site last off (Some on) (get_or cs r.member 0) r.word r.shape before after types us (do_step (calls_below n fs) (step.Receive r)) built have grown (has_later s0 s2 from (Token []) grown has) on_there (has_off.there)
    put_own k (carry r.member r.word says.word) says.within stand.have (has_later s4 s9 last (Token []) later one.has)
    (λ s values v rest later.
    let v1 = values_earlier s1 s2 condition_off.grows s values v in
    ap (λ o. receive_if (calls_below n fs) r.word o r.shape rest (bound_by before s values) later) some
    ∙ under_does (calls_below n fs) r.word e other r.shape rest (bound_by before s values) (is_on s values (Some on)) (operand_value s values off) later
    (condition_is (calls_below n fs) e before s1 on has_on s values v1 (condition_on.value s values v1)) (condition_off.value s values v))
    (λ s all v x typed is rest later.
    let v6 = values_earlier s6 s9 stand.grows s all v in
    let v5 = values_earlier s5 s6 three.grows s all v6 in
    pair_bound r.shape r.word types us s6 s9 s0 got before after stand adds have says.binds s all v x typed
    (is ∙ (sym (ap (λ y. either_value (is_on s all (Some on)) (on_tuple (element_at 1) y) (operand_value s all off)) (site_value s all (length s2.list.items) site put.is))
    ∙ (sym (ap (λ y. either_value (is_on s all (Some on)) y (operand_value s all off)) (two.value s all v5))
    ∙ sym (three.value s all v6 ∙ chosen s all v5)))) rest later)
    (λ s values v never. typed_value s2 off r.word has_off s values v)
  where
    says : ReceiveSays (types_below n signatures) words r types us
    says = receive_says (types_below n signatures) words r types us binds

    types_say : (if_alike (ty.Bits 1) (node_type e (types_below n signatures) types) ≡ Some (ty.Bits 1)) × (node_type other (types_below n signatures) types ≡ Some r.word)
    types_say =
        let h = sym (ap (node_otherwise (types_below n signatures) types r.word) some) ∙ says.other in
        let found = then_is (if_alike (ty.Bits 1) (node_type e (types_below n signatures) types)) (λ b. if_alike r.word (node_type other (types_below n signatures) types)) r.word h in
        let bit = if_alike_is (ty.Bits 1) found.first (node_type e (types_below n signatures) types) found.is in
        (found.is ∙ ap Some (sym bit.0), (if_alike_is r.word r.word (node_type other (types_below n signatures) types) found.gives).1)

    condition_on : LoweredTo s0 s1 on (ty.Bits 1) (λ s values. core_value e (calls_below n fs) (bound_by before s values))
    condition_on = lowers_on signatures n given types (ty.Bits 1) built have (if_alike_is (ty.Bits 1) (ty.Bits 1) (node_type e (types_below n signatures) types) types_say.0).1

    has_on : HasType s1 on (Bits 1 [])
    has_on = subst (HasType s1 on) (type-Bits 1) condition_on.has

    condition_off : LoweredTo s1 s2 off r.word (λ s values. core_value other (calls_below n fs) (bound_by before s values))
    condition_off = lowers_off signatures n given types r.word condition_on.grows.built (have_later s0 s1 before (map ir_type_of types) condition_on.grows have) types_say.1

    grown : GrowsTo s0 s2
    grown = grows_twice s0 s1 s2 condition_on.grows condition_off.grows

    has_off : HasType s2 off (ir_type_of r.word)
    has_off = condition_off.has

    on_here : HasType s2 on (Bits 1 [])
    on_here = has_later s1 s2 on (Bits 1 []) condition_off.grows has_on

    on_there : list_all (is_there (length s2.list.items)) (on ∷ []) ≡ true
    on_there = ap (λ b. b && true) on_here.there

    put_own : PutsNode s2 s3 (receive_node (ir_type_of r.word) from (Some on) (get_or cs r.member 0)) site
    put_own = subst (λ x. PutsNode s2 s3 (receive_node (ir_type_of r.word) from (Some on) x) site) same put

    here : ReceivePut s2 s3 r.word site
    here = receive_put s2 s3 r.word from site (Some on) (get_or cs r.member 0) condition_off.grows.built (has_later s0 s2 from (Token []) grown has) on_there put_own says.within

    one : GivesValue s3 s4 last (Token []) (λ s values. on_tuple (element_at 0) (operand_value s values site))
    one = first (Token [] ∷ ir_type_of r.word ∷ []) (Token []) here.adds.built here.has refl

    two : GivesValue s4 s5 word (ir_type_of r.word) (λ s values. on_tuple (element_at 1) (operand_value s values site))
    two = second (Token [] ∷ ir_type_of r.word ∷ []) (ir_type_of r.word) one.grows.built (has_later s3 s4 site (got_type (ir_type_of r.word)) one.grows here.has) refl

    behind : GrowsTo s3 s5
    behind = grows_twice s3 s4 s5 one.grows two.grows

    last_on : HasType s5 on (Bits 1 [])
    last_on = has_later s3 s5 on (Bits 1 []) behind (has_added s2 s3 on (Bits 1 []) here.adds on_here)

    three : GivesValue s5 s6 got (ir_type_of r.word) (either_by on word off)
    three = choose (ir_type_of r.word) two.grows.built last_on two.has (has_later s3 s5 off (ir_type_of r.word) behind (has_added s2 s3 off (ir_type_of r.word) here.adds has_off))

    own : OperandsHaveTypes s6 before (map ir_type_of types)
    own = have_later s3 s6 before (map ir_type_of types) (grows_twice s3 s5 s6 behind three.grows) (have_added s2 s3 before (map ir_type_of types) here.adds (have_later s0 s2 before (map ir_type_of types) grown have))

    stand : StandBehind s6 s9 before after us (λ s values. parts_of r.shape (with_token (operand_value s values got)))
    stand = bind r.word types us three.grows.built three.has own says.within says.binds

    later : GrowsTo s4 s9
    later = grows_twice s4 s5 s9 two.grows (grows_twice s5 s6 s9 three.grows stand.grows)

    k : GrowsTo s3 s9
    k = grows_twice s3 s4 s9 one.grows later

    adds : AddsNodes s0 s9
    adds = adds_twice s0 s2 s9 (adds_grown s0 s2 grown) (adds_twice s2 s3 s9 here.adds (adds_grown s3 s9 k))

    chosen : (s : Value) (all : List Value) → AreValues s5.state s5.list.items s all → either_by on word off s all ≡ either_value (is_on s all (Some on)) (operand_value s all word) (operand_value s all off)
    chosen s all v =
        let w = operand_word s5 on 1 last_on s all v in
        on_word-Bits (λ x. if x.value == 1 then operand_value s all word else operand_value s all off) (operand_value s all on) w.word w.is
        ∙ (if_either (w.word.value == 1) (operand_value s all word) (operand_value s all off)
        ∙ ap (λ b. either_value b (operand_value s all word) (operand_value s all off)) (sym (ap (λ x. is_one (out-Value x)) w.is ∙ ap is_one (outs-Bits w.word))))
