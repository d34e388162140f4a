-- Each step keeps what comes of the machine.
use Rattle.std.proofs.Common.{◌≡◌, ℕ, Bool, true, false, not, List, [], ◌∷◌, ◌++◌, Option, Some, None, map, refl, sym, ap, ◌∙◌}
use Rattle.std.proofs.lemmas.List.{append_assoc, append-nil}
use Rattle.dslx_tree.specs.declared.block.Block.{Block, out-Block}
use Rattle.dslx_tree.specs.declared.block.Stmt.{Stmt, out-Stmt}
use Rattle.dslx_tree.specs.declared.block.Stmt.TheOpen.{Stmt-F, Node-F, TypeNode-F}
use Rattle.dslx_tree.specs.declared.expr.Arm.{Arm}
use Rattle.dslx_tree.specs.declared.expr.Expr.{Expr}
use Rattle.dslx_tree.specs.declared.item.Field.{Field}
use Rattle.dslx_tree.specs.declared.item.Struct.{Struct as StructItem}
use Rattle.dslx_tree.specs.declared.pattern.Pattern.{Pattern}
use Rattle.dslx_tree.specs.declared.type_expr.TypeExpr.{TypeExpr}
use Rattle.dslx_meaning.specs.Activation.{NodeLayer, StmtLayer, node_of}
use Rattle.dslx_meaning.specs.Callees.{kind_of_call}
use Rattle.dslx_meaning.specs.Items.{enum_member}
use Rattle.dslx_meaning.specs.Lists.{and_then, with_both, where_true}
use Rattle.dslx_meaning.specs.Meaning as m
use Rattle.dslx_meaning.specs.Meaning.{ExprDen, StmtDen, ValueDen, TypeDen, denotation, arg_denotation, value_of, value_of_block, written_type, fitted}
use Rattle.dslx_meaning.specs.Operators.{truth, cast_value, slice_value, part_value}
use Rattle.dslx_meaning.specs.Types.{bits_in}
use Rattle.dslx_meaning.specs.Values.{bits_of}
use Rattle.dslx_meaning.specs.declared.ty.BitKind.{BitKind}
use Rattle.dslx_meaning.specs.declared.ty.DslxType.{DslxType}
use Rattle.dslx_meaning.specs.declared.ty.DslxType as ty
use Rattle.dslx_meaning.specs.declared.value.UntypedLiteral.{UntypedLiteral}
use Rattle.dslx_meaning.specs.declared.value.DslxValue.{DslxValue}
use Rattle.dslx_meaning.specs.Names.ConstMachine.Tasks as task
use Rattle.dslx_meaning.specs.Names.ConstMachine.Tasks.{ConstTask, ConstState, PairMaker, MakesTuple, MakesArray, ThenStatements}
use Rattle.dslx_meaning.specs.Names.ConstMachine.Layers.{TypeLayer, type_of, untyped_of}
use Rattle.dslx_meaning.specs.Names.ConstMachine.States.{value_in, type_in, count_in_finding, doing, without_finding}
use Rattle.dslx_meaning.specs.Names.ConstMachine.Steps as s
use Rattle.dslx_meaning.specs.Names.ConstMachine.Steps.{stepped, made_of_pair, of_base}
use Rattle.dslx_meaning.proofs.OnNames.OnConstMachine.Fitted.{fits_alone, fits_all_keep, fits_if_same_keeps, tries_keep, selects_keep, all_bind_nothing_keep, turns_keep, last_keeps, first_keeps, loop_keeps}
use Rattle.dslx_meaning.proofs.OnNames.OnConstMachine.Gathered.{bare_is, uses_number_keeps, gathers_keep, gathered_keep, parametric_args_keep, number_gathered_keeps, elements_keep, gathers_fields_keep, field_gathered_keeps, fields_keep}
use Rattle.dslx_meaning.proofs.OnNames.OnConstMachine.Meanings.{node_means, opened, type_means, type_opened, stmt_layer_means, stmt_opened, bind_opened, block_opened, statements_mean, loop_opened, arm_means}
use Rattle.dslx_meaning.proofs.OnNames.OnConstMachine.Options.{one_then_other, first_of_all, end_first, past_both}
use Rattle.dslx_meaning.proofs.OnNames.OnConstMachine.Places.{place_of, env_in, gives, gives_type, gives_count, done, answer, answer_of, types_in, field_types_in, struct_of, member_in}
use Rattle.dslx_meaning.proofs.OnNames.OnConstMachine.Uses.{uses_name_keeps, uses_member_keeps, uses_struct_keeps, uses_type_keeps, field_types_keep, parametrics_keep, parametric_keeps, operands_keep}

-- ---- expressions

node_keeps : (x : NodeLayer) (run : ConstState) → answer_of (s.node_begins x run) ≡ answer run.todo (gives ((node_means x).value (env_in run)) (place_of run))
node_keeps (Node-F.Node::Number n) run = uses_number_keeps n run
node_keeps (Node-F.Node::Bool b) run = refl
node_keeps (Node-F.Node::Array None es dots) run = gathers_keep [] es MakesArray run
node_keeps (Node-F.Node::Array (Some t) es dots) run = refl
node_keeps (Node-F.Node::Name name) run = uses_name_keeps name run
node_keeps (Node-F.Node::Member e a) run = uses_member_keeps e.name a.name run
node_keeps (Node-F.Call f parametric_args es) run =
    parametric_args_keep [] parametric_args f.name es run
    ∙ ap (λ o. answer run.todo (gives o (place_of run)))
    (sym (one_then_other (m.values_of (map arg_denotation parametric_args) (env_in run)) (m.values_of (map denotation es) (env_in run)) (m.call_den (kind_of_call f.name) f.name (env_in run))))
node_keeps (Node-F.Node::Tuple es) run = gathers_keep [] es MakesTuple run
node_keeps (Node-F.Struct x fields None) run = uses_struct_keeps x.name (doing (task.FindsFields fields None ∷ []) run)
node_keeps (Node-F.Struct x fields (Some rest)) run = uses_struct_keeps x.name (doing (task.FindsFields fields (Some rest) ∷ []) run)
node_keeps (Node-F.Block b) run = refl
node_keeps (Node-F.If c a b) run = refl
node_keeps (Node-F.Match e arms) run = refl
node_keeps (Node-F.For f) run = ap (λ (v : ValueDen). answer run.todo (gives (v (env_in run)) (place_of run))) (sym (loop_opened f))
node_keeps (Node-F.Index e i) run = refl
node_keeps (Node-F.Slice e a b) run =
    ap (λ o. answer run.todo (gives o (place_of run)))
    (sym (end_first (value_of e (env_in run)) (m.bound_of (denotation a) (env_in run)) (m.bound_of (denotation b) (env_in run)) slice_value))
node_keeps (Node-F.Part e i t) run =
    ap (λ o. answer run.todo (gives o (place_of run)))
    (sym (past_both (value_of e (env_in run)) (value_of i (env_in run)) (and_then (written_type t (env_in run)) bits_in) (λ kind. not kind.signed) (λ v k kind. part_value v k kind.width)))
node_keeps (Node-F.Field e name) run = refl
node_keeps (Node-F.Element e span k) run = refl
node_keeps (Node-F.Prefix o e) run = refl
node_keeps (Node-F.Cast e t) run =
    ap (λ o. answer run.todo (gives o (place_of run))) (sym (one_then_other (written_type t (env_in run)) (value_of e (env_in run)) cast_value))
node_keeps (Node-F.Binary o l r) run = refl

right_keeps : (maker : PairMaker) (e : Expr) (o : Option DslxValue) (run : ConstState)
    → answer_of (s.right_begins maker e o run) ≡ answer run.todo (gives (with_both o (value_of e (env_in run)) (made_of_pair maker)) (place_of run))
right_keeps maker e None run = refl
right_keeps maker e (Some v) run = ap (λ o. answer run.todo (gives o (place_of run))) (sym (one_then_other (Some v) (value_of e (env_in run)) (made_of_pair maker)))

part_keeps : (o : Option BitKind) (e i : Expr) (run : ConstState)
    → answer_of (s.part_begins o e i run)
    ≡ answer run.todo (gives (and_then o (λ kind. where_true (not kind.signed) (with_both (value_of e (env_in run)) (value_of i (env_in run)) (λ v k. part_value v k kind.width)))) (place_of run))
part_keeps None e i run = refl
part_keeps (Some kind) e i run = by kind.signed refl
  where
    by : (b : Bool) → kind.signed ≡ b → answer_of (s.part_begins (Some kind) e i run)
        ≡ answer run.todo (gives (where_true (not kind.signed) (with_both (value_of e (env_in run)) (value_of i (env_in run)) (λ v k. part_value v k kind.width))) (place_of run))
    by true is = rw is refl
    by false is = rw is refl

cast_keeps : (o : Option DslxType) (e : Expr) (run : ConstState)
    → answer_of (s.cast_begins o e run) ≡ answer run.todo (gives (and_then o (λ t. and_then (value_of e (env_in run)) (cast_value t))) (place_of run))
cast_keeps None e run = refl
cast_keeps (Some t) e run = refl

end_keeps : (o : Option ℕ) (e b : Expr) (run : ConstState)
    → answer_of (s.end_begins o e b run)
    ≡ answer run.todo (gives (and_then o (λ from. and_then (m.bound_of (denotation b) (env_in run)) (λ to. and_then (value_of e (env_in run)) (λ v. slice_value v from to)))) (place_of run))
end_keeps None e b run = refl
end_keeps (Some from) e b run = refl

slice_keeps : (o : Option ℕ) (e : Expr) (from : ℕ) (run : ConstState)
    → answer_of (s.slice_begins o e from run) ≡ answer run.todo (gives (and_then o (λ to. and_then (value_of e (env_in run)) (λ v. slice_value v from to))) (place_of run))
slice_keeps None e from run = refl
slice_keeps (Some to) e from run = refl

chooses_keep : (o : Option Bool) (a : Block) (b : Expr) (run : ConstState)
    → answer_of (s.chooses o a b run) ≡ answer run.todo (gives (m.choose o (value_of_block a (env_in run)) (value_of b (env_in run))) (place_of run))
chooses_keep None a b run = refl
chooses_keep (Some true) a b run = refl
chooses_keep (Some false) a b run = refl

selection_keeps : (arms : List Arm) (o : Option DslxValue) (run : ConstState)
    → answer_of (s.selection_begins arms o run) ≡ answer run.todo (gives (and_then o (λ v. m.match_arms (map arm_means arms) v (env_in run))) (place_of run))
selection_keeps arms None run = refl
selection_keeps arms (Some v) run = selects_keep arms v run

-- ---- blocks

stmt_keeps : (x : StmtLayer) (ss : List Stmt) (last : Option Expr) (run : ConstState)
    → answer_of (s.stmt_begins x ss last run) ≡ answer run.todo (gives (stmt_layer_means x (statements_mean ss last) (env_in run)) (place_of run))
stmt_keeps (Stmt-F.Let l) ss last run = ap (λ (g : StmtDen). answer run.todo (gives (g (statements_mean ss last) (env_in run)) (place_of run))) (sym (bind_opened l))
stmt_keeps (Stmt-F.Bare e) ss last run = refl

statements_keep : (ss : List Stmt) (last : Option Expr) (run : ConstState)
    → answer_of (s.statements_begin ss last run) ≡ answer run.todo (gives (statements_mean ss last (env_in run)) (place_of run))
statements_keep [] None run = refl
statements_keep [] (Some e) run = refl
statements_keep (x ∷ ss) last run =
    stmt_keeps (out-Stmt x) ss last run ∙ ap (λ (g : StmtDen). answer run.todo (gives (g (statements_mean ss last) (env_in run)) (place_of run))) (sym (stmt_opened x))

bind_keeps : (o : Option DslxValue) (p : Pattern) (ss : List Stmt) (last : Option Expr) (run : ConstState)
    → answer_of (s.bind_begins o p ss last run)
    ≡ answer run.todo (gives (and_then o (λ v. and_then (fitted p v (env_in run)) (statements_mean ss last))) (place_of run))
bind_keeps None p ss last run = refl
bind_keeps (Some v) p ss last run = fits_alone p v (ThenStatements ss last) run

passes_keep : (o : Option DslxValue) (ss : List Stmt) (last : Option Expr) (run : ConstState)
    → answer_of (s.passes o ss last run) ≡ answer run.todo (gives (and_then o (λ v. statements_mean ss last (env_in run))) (place_of run))
passes_keep None ss last run = refl
passes_keep (Some v) ss last run = refl

-- ---- types, sizes and bounds

types_keep : (ts : List DslxType) (rest : List TypeExpr) (run : ConstState)
    → answer_of (s.types_on ts rest run) ≡ answer run.todo (gives_type (and_then (types_in (env_in run) rest) (λ us. Some (ty.Tuple (ts ++ us)))) (place_of run))
types_keep ts [] run = ap (λ us. answer run.todo (gives_type (Some (ty.Tuple us)) (place_of run))) (sym (append-nil ts))
types_keep ts (t ∷ rest) run =
    ap (λ o. answer run.todo (gives_type o (place_of run)))
    (sym (first_of_all (written_type t (env_in run)) (map (λ (u : TypeDen). u (env_in run)) (map written_type rest)) (λ us. Some (ty.Tuple (ts ++ us)))))

type_keeps : (x : TypeLayer) (run : ConstState) → answer_of (s.type_begins x run) ≡ answer run.todo (gives_type (type_means x (env_in run)) (place_of run))
type_keeps (TypeNode-F.Bits sign w) run = refl
type_keeps (TypeNode-F.Wide sign e) run = refl
type_keeps TypeNode-F.TypeNode::Bool run = refl
type_keeps (TypeNode-F.TypeNode::Name name) run = uses_type_keeps name run
type_keeps (TypeNode-F.TypeNode::Tuple ts) run = types_keep [] ts run
type_keeps (TypeNode-F.TypeNode::Array t e) run =
    ap (λ o. answer run.todo (gives_type o (place_of run))) (sym (one_then_other (written_type t (env_in run)) (m.size_of (denotation e) (env_in run)) (λ u n. Some (ty.Array u n))))

type_gathered_keeps : (ts : List DslxType) (rest : List TypeExpr) (o : Option DslxType) (run : ConstState)
    → answer_of (s.type_gathered ts rest o run) ≡ answer run.todo (gives_type (and_then o (λ t. and_then (types_in (env_in run) rest) (λ us. Some (ty.Tuple (ts ++ t ∷ us))))) (place_of run))
type_gathered_keeps ts rest None run = refl
type_gathered_keeps ts rest (Some t) run =
    types_keep (ts ++ t ∷ []) rest run
    ∙ λ j. answer run.todo (gives_type (and_then (types_in (env_in run) rest) (λ us. Some (ty.Tuple (append_assoc ts (t ∷ []) us j)))) (place_of run))

field_type_gathered_keeps : (ts : List DslxType) (fs : List Field) (x : StructItem) (o : Option DslxType) (run : ConstState)
    → answer_of (s.field_type_gathered ts fs x o run) ≡ answer run.todo (gives_type (and_then o (λ t. and_then (field_types_in (env_in run) fs) (λ us. struct_of x (ts ++ t ∷ us)))) (place_of run))
field_type_gathered_keeps ts fs x None run = refl
field_type_gathered_keeps ts fs x (Some t) run =
    field_types_keep (ts ++ t ∷ []) fs x run
    ∙ λ j. answer run.todo (gives_type (and_then (field_types_in (env_in run) fs) (λ us. struct_of x (append_assoc ts (t ∷ []) us j))) (place_of run))

array_size_keeps : (o : Option DslxType) (e : Expr) (run : ConstState)
    → answer_of (s.array_size_begins o e run) ≡ answer run.todo (gives_type (and_then o (λ t. and_then (m.size_of (denotation e) (env_in run)) (λ n. Some (ty.Array t n)))) (place_of run))
array_size_keeps None e run = refl
array_size_keeps (Some t) e run = refl

member_keeps : (kind : BitKind) (o : Option UntypedLiteral) (e : Expr) (name : List ℕ) (run : ConstState)
    → answer_of (s.member_begins kind o e name run) ≡ answer run.todo (gives (and_then (member_in kind o (value_of e (env_in run))) (enum_member name)) (place_of run))
member_keeps kind None e name run = refl
member_keeps kind (Some b) e name run = refl

base_keeps : (o : Option BitKind) (e : Expr) (name : List ℕ) (run : ConstState)
    → answer_of (s.base_found o e name run)
    ≡ answer run.todo (gives (and_then o (λ kind. and_then (member_in kind (denotation e).bare (value_of e (env_in run))) (enum_member name))) (place_of run))
base_keeps None e name run = refl
base_keeps (Some kind) e name run =
    member_keeps kind (untyped_of e) e name run
    ∙ ap (λ o. answer run.todo (gives (and_then (member_in kind o (value_of e (env_in run))) (enum_member name)) (place_of run))) (sym (bare_is e))

size_keeps : (o : Option UntypedLiteral) (e : Expr) (run : ConstState)
    → answer_of (s.size_begins o e run) ≡ answer run.todo (gives_count (and_then (m.count_in o (value_of e (env_in run))) m.some_count) (place_of run))
size_keeps None e run = refl
size_keeps (Some b) e run = refl

bound_keeps : (o : Option UntypedLiteral) (e : Expr) (run : ConstState)
    → answer_of (s.bound_begins o e run) ≡ answer run.todo (gives_count (m.bound_in o (value_of e (env_in run))) (place_of run))
bound_keeps None e run = refl
bound_keeps (Some b) e run = refl

-- ---- each step

pub keeps : (d : ConstTask) (run : ConstState) → answer run.todo (done d (place_of run)) ≡ answer_of (stepped d run)
keeps (task.ValueDen e) run = ap (λ (x : ExprDen). answer run.todo (gives (x.value (env_in run)) (place_of run))) (opened e) ∙ sym (node_keeps (node_of e) run)
keeps (task.DoesBlock b) run =
    ap (λ (v : ValueDen). answer run.todo (gives (v (env_in run)) (place_of run))) (block_opened b) ∙ sym (statements_keep (out-Block b).statements (out-Block b).value run)
keeps (task.DoesStatements ss last) run = sym (statements_keep ss last run)
keeps (task.Binds p ss last) run = sym (bind_keeps (value_in run.found) p ss last (without_finding run))
keeps (task.Passes ss last) run = sym (passes_keep (value_in run.found) ss last (without_finding run))
keeps (task.Numbers b) run = refl
keeps (task.MakesOne maker) run = refl
keeps (task.FindsRight maker e) run = sym (right_keeps maker e (value_in run.found) (without_finding run))
keeps (task.MakesPair maker v) run = refl
keeps (task.TakesPart e i) run = sym (part_keeps (and_then (type_in run.found) bits_in) e i (without_finding run))
keeps (task.Casts e) run = sym (cast_keeps (type_in run.found) e (without_finding run))
keeps (task.FindsEnd e b) run = sym (end_keeps (count_in_finding run.found) e b (without_finding run))
keeps (task.Slices e from) run = sym (slice_keeps (count_in_finding run.found) e from (without_finding run))
keeps (task.Chooses a b) run = sym (chooses_keep (and_then (value_in run.found) truth) a b (without_finding run))
keeps (task.FindsElements es dots) run = sym (elements_keep (type_in run.found) es dots (without_finding run))
keeps (task.Gathers vs es maker) run = sym (gathered_keep vs es maker (value_in run.found) (without_finding run))
keeps (task.GathersParametricArgs vs parametric_args name es) run = sym (number_gathered_keeps vs parametric_args name es (value_in run.found) (without_finding run))
keeps (task.FindsFields fields rest) run = sym (fields_keep (type_in run.found) fields rest (without_finding run))
keeps (task.TakesRest name names fields) run = sym (gathers_fields_keep name names [] fields (value_in run.found) (without_finding run))
keeps (task.GathersFields name names vs fields rest) run = sym (field_gathered_keeps name names vs fields rest (value_in run.found) (without_finding run))
keeps (task.Selects arms) run = sym (selection_keeps arms (value_in run.found) (without_finding run))
keeps (task.Tries ps a rest v) run = sym (tries_keep ps a rest v run)
keeps (task.BindsNothing pss e) run = sym (all_bind_nothing_keep pss e run)
keeps (task.Fits work names next) run = sym (fits_all_keep work names next run)
keeps (task.Compares v work names next) run = sym (fits_if_same_keeps (value_in run.found) v work names next (without_finding run))
keeps (task.Forgets k) run = refl
keeps (task.StartsLoop f) run = sym (loop_keeps f (value_in run.found) (without_finding run))
keeps (task.FindsFirst f start) run = sym (first_keeps f start (and_then (value_in run.found) bits_of) (without_finding run))
keeps (task.FindsLast f start a) run = sym (last_keeps f start a (and_then (value_in run.found) bits_of) (without_finding run))
keeps (task.Turns f signed n i) run = sym (turns_keep f signed n i (value_in run.found) (without_finding run))
keeps (task.FindsType t) run = ap (λ (u : TypeDen). answer run.todo (gives_type (u (env_in run)) (place_of run))) (type_opened t) ∙ sym (type_keeps (type_of t) run)
keeps (task.MakesBits sign) run = refl
keeps (task.FindsSize e) run = sym (array_size_keeps (type_in run.found) e (without_finding run))
keeps (task.MakesArrayType t) run = refl
keeps (task.GathersTypes ts rest) run = sym (type_gathered_keeps ts rest (type_in run.found) (without_finding run))
keeps (task.GathersFieldTypes ts fs x) run = sym (field_type_gathered_keeps ts fs x (type_in run.found) (without_finding run))
keeps (task.MakesEnumType name) run = refl
keeps (task.FindsMember e name) run = sym (base_keeps (and_then (type_in run.found) bits_in) e name (without_finding run))
keeps (task.MakesMember kind name) run = refl
keeps (task.CountsSize e) run =
    ap (λ o. answer run.todo (gives_count (and_then (m.count_in o (value_of e (env_in run))) m.some_count) (place_of run))) (bare_is e) ∙ sym (size_keeps (untyped_of e) e run)
keeps task.IsSize run = refl
keeps (task.CountsBound e) run = ap (λ o. answer run.todo (gives_count (m.bound_in o (value_of e (env_in run))) (place_of run))) (bare_is e) ∙ sym (bound_keeps (untyped_of e) e run)
keeps task.IsBound run = refl
keeps (task.FindsParametrics call ps) run = sym (parametrics_keep call.given call ps run refl)
keeps (task.GivesParametric call p ps) run = sym (parametric_keeps call p ps (value_in run.found) (without_finding run))
keeps (task.GivesOperands call fs) run = sym (operands_keep call.operands call fs run refl)
keeps (task.Returns bound n) run = refl
