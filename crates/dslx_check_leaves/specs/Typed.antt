-- Trees beside their typings. A tree beside what it comes to is the tree itself, so that all that is asked of the tree computes.
use Rattle.std.specs.Prelude.{ℕ, List, [], ◌∷◌, ◌++◌, ◌==◌, ◌&&◌, ◌||◌, if◌then◌else◌, Bool, true, false, Option, Some, None, length, map}
use Rattle.std.specs.Option.{option_map}
use Rattle.xb_span.specs.declared.span.Span.{Span}
use Rattle.dslx_tree.specs.declared.block.Block.{Block}
use Rattle.dslx_tree.specs.declared.block.Let.{Let, out-Let}
use Rattle.dslx_tree.specs.declared.block.Stmt.{Stmt}
use Rattle.dslx_tree.specs.declared.expr.Arg.{Arg, out-Arg}
use Rattle.dslx_tree.specs.declared.expr.Expr.{Expr, out-Expr}
use Rattle.dslx_tree.specs.declared.ident.Ident.{Ident}
use Rattle.dslx_tree.specs.declared.expr.For.{For, out-For}
use Rattle.dslx_tree.specs.declared.expr.FieldValue.{FieldValue, out-FieldValue}
use Rattle.dslx_tree.specs.declared.expr.Number.{Number}
use Rattle.dslx_tree.specs.declared.pattern.Pattern.{Pattern}
use Rattle.dslx_tree.specs.declared.type_expr.TypeExpr.{TypeExpr, out-TypeExpr}
use Rattle.dslx_meaning.specs.Lists.{all_some, and_then}
use Rattle.dslx_meaning.specs.Items.{as_function, item_named}
use Rattle.dslx_meaning.specs.declared.ty.DslxType as ty
use Rattle.dslx_meaning.specs.Rules.TypeEnvs.{ExprPair, TypeEnv, Judgement, all_alone, alone, limited, no_token, settled, faults_of_all, reached_of_all, types_of, unlimited}
use Rattle.dslx_meaning.specs.Rules.Typings.{ArgPair, BlockPair, FieldSeen, StatementSeen, StatementTyping, typing_sorts}
use Rattle.dslx_meaning.specs.Meaning.{denotation}
use Rattle.dslx_meaning.specs.declared.value.UntypedLiteral.{UntypedLiteral}
use Rattle.dslx_meaning.specs.Rules.NameRules.{member_typing, name_typing}
use Rattle.dslx_meaning.specs.Rules.CallRules.{ParametricArgument, builtin_typing, counting, first_operand_type, function_call, only_on_top, channel_seen, held_typing, token_typing, wrong_call, wrong_effect}
use Rattle.dslx_meaning.specs.Callees.{CallKind}
use Rattle.dslx_tree.specs.declared.process.Direction.{Direction}
use Rattle.dslx_check_rules.specs.Control.Effects.{effect_of}
use Rattle.dslx_check_uses.specs.declared.forms.CallForm.{CallForm}
use Rattle.dslx_check_uses.specs.declared.forms.CallForm.TheVariants as form
use Rattle.dslx_check_uses.specs.Forms.{form_by}
use Rattle.dslx_meaning.specs.Rules.ConstantRules.{constant_of, count_of}
use Rattle.dslx_meaning.specs.Rules.ControlRules.{behind, bound_type, expr_statement_typing, let_with, loop_typing, written_typing}
use Rattle.dslx_meaning.specs.Rules.PatternRules.{is_there, name_pattern, one_value, part_types, parts_typing, pattern_alone, tuple_pattern}
use Rattle.dslx_meaning.specs.Types.{bool_type}
use Rattle.dslx_meaning.specs.Rules.TypeRules.{inner_types}
use Rattle.dslx_meaning.specs.Rules.NodeRules.{block_pair, typing_steps}
use Rattle.dslx_meaning.specs.Rules.Paired.{paired_stmt}
use Rattle.dslx_meaning.specs.Rules.RuleNumbers as rule
use Rattle.dslx_check_rules.specs.Nodes.Nodes.Counts.{wide_of}
use Rattle.dslx_check_rules.specs.Nodes.Nodes.Arrays.{ElementSeen, Untyped, Value}
use Rattle.dslx_check_rules.specs.Nodes.Parts.{Placed}
use Rattle.dslx_tree.specs.declared.item.Function.{Function}
use Rattle.dslx_check_leaves.specs.Named.Constants.{expr_typed}
use Rattle.dslx_check_leaves.specs.Fits.Typed.{type_typed, pattern_typed, number_at, PatternFrom}

abbrev pub block_typed : Block → BlockPair
block_typed b = (b, (block_pair b).1)

abbrev pub arg_typed : Arg → ArgPair
arg_typed a = (a, expr_typed (out-Arg a).value)

abbrev pub field_typed : FieldValue → FieldSeen
field_typed f = record { name = (out-FieldValue f).name; value = option_map expr_typed (out-FieldValue f).value }

-- parts at their places: a value that stands alone, a written type, what stands where a token has to
abbrev pub placed : TypeEnv → Expr → Placed
placed context e = record { span = (out-Expr e).span; judgement = alone context (expr_typed e) }

abbrev pub placed_type : TypeEnv → TypeExpr → Placed
placed_type context t = record { span = (out-TypeExpr t).span; judgement = (type_typed t).1 context }

abbrev pub placed_token : TypeEnv → Expr → Placed
placed_token context e = record { span = (out-Expr e).span; judgement = token_typing context (expr_typed e) }

-- a field of a struct value: given by its name alone it has the value of that name
abbrev pub placed_value : TypeEnv → Ident → Option Expr → Placed
placed_value context name None = record { span = name.span; judgement = no_token name.span (name_typing name.span context name.name) }
placed_value context name (Some e) = placed context e

abbrev pub placed_field : TypeEnv → FieldValue → Placed
placed_field context f = placed_value context (out-FieldValue f).name (out-FieldValue f).value

-- an element of an array that has a type, which may be a number without one
abbrev pub element_by : TypeEnv → Expr → Option UntypedLiteral → ElementSeen
element_by context e None = Value (placed context e)
element_by context e (Some number) = Untyped (out-Expr e).span number

abbrev pub element_at : TypeEnv → Expr → ElementSeen
element_at context e = element_by context e (denotation e).bare

-- a parametric argument that is written
abbrev pub given_at : TypeEnv → Arg → ParametricArgument
given_at context a = record { span = (out-Expr (out-Arg a).value).span; seen = constant_of context (expr_typed (out-Arg a).value) }

abbrev pub number_node_at : Span → Number → TypeEnv → Judgement
number_node_at span n context = limited span (number_at span n context)

-- bits of a width that is computed
abbrev pub wide_at : Span → Bool → Expr → TypeEnv → Judgement
wide_at span s e context = wide_of span s (count_of context (expr_typed e))

-- a tuple of types
abbrev pub tuple_at : Span → List TypeExpr → TypeEnv → Judgement
tuple_at span ts context =
    let js = inner_types context (map type_typed ts) in
    settled span (and_then (all_some (types_of js)) (λ ts. Some (ty.Tuple ts))) (faults_of_all js) (reached_of_all js) (Some 0)

-- a loop
abbrev pub for_at : Span → For → TypeEnv → Judgement
for_at span n context = loop_typing (record {
  index = pattern_typed (out-For n).index;
  accumulator = pattern_typed (out-For n).accumulator;
  ty = option_map type_typed (out-For n).ty;
  from = expr_typed (out-For n).from;
  to = expr_typed (out-For n).to;
  body = block_typed (out-For n).body;
  start = expr_typed (out-For n).start;
}) span context

-- ---- statements

abbrev pub let_by : Let → Option TypeExpr → Bool → TypeEnv → StatementSeen
let_by l t on_top context =
    let value = (expr_typed (out-Let l).value).1 on_top context in
    let written = written_typing context (option_map type_typed t) in
    let_with context (out-Let l).value (out-Expr (out-Let l).value).span value written
    (pattern_alone false context (bound_type written value.ty) (pattern_typed (out-Let l).pattern))

abbrev pub let_at : Let → Bool → TypeEnv → StatementSeen
let_at l on_top context = let_by l (out-Let l).ty on_top context

-- an expression as a statement
abbrev pub bare_half : Bool → Expr → Judgement → Judgement
bare_half on_top e j = expr_statement_typing on_top (expr_typed e) j

abbrev pub bare_at : Expr → Bool → TypeEnv → StatementSeen
bare_at e on_top context =
    let j = bare_half on_top e ((expr_typed e).1 on_top context) in
    record { context = behind context context.locals e; faults = j.faults; reached = j.reached; size = j.size }

abbrev pub stmt_typed : Stmt → StatementTyping
stmt_typed s = (paired_stmt typing_sorts typing_steps s).1

-- ---- patterns

abbrev pub bool_pattern_at : Span → Bool → PatternFrom
bool_pattern_at span may_fail context t names locals = one_value span may_fail t names locals (unlimited (Some bool_type) [] [] (Some 1)) true

abbrev pub name_pattern_at : Span → Bool → List ℕ → PatternFrom
name_pattern_at span may_fail name context t names locals = name_pattern span may_fail context t names locals name (context.known.items.is_constant name)

abbrev pub constant_pattern_at : Span → Bool → List ℕ → PatternFrom
constant_pattern_at span may_fail name context t names locals = name_pattern span may_fail context t names locals name true

abbrev pub member_pattern_at : Span → Bool → Ident → Ident → PatternFrom
member_pattern_at span may_fail e a context t names locals =
    one_value span may_fail t names locals (member_typing context e a) (is_there (context.known.items.member e.name a.name))

abbrev pub tuple_pattern_at : Span → Bool → List Pattern → PatternFrom
tuple_pattern_at span may_fail ps context t names locals =
    let types = part_types (length (map pattern_typed ps)) t in
    tuple_pattern span t types (parts_typing may_fail context (map pattern_typed ps) types names locals)

-- ---- effects

-- an effect of a token, a channel and others, or of anything else
abbrev pub right_effect_at : Direction → Span → List Arg → List Expr → TypeEnv → Judgement
right_effect_at direction span args [] context = wrong_effect span context (map (given_at context) args) []
right_effect_at direction span args (t ∷ []) context = wrong_effect span context (map (given_at context) args) (expr_typed t ∷ [])
right_effect_at direction span args (t ∷ c ∷ es) context =
    effect_of span context direction (token_typing context (expr_typed t)) (channel_seen context (expr_typed c)) (map (placed context) es)

-- it has no parametric arguments and this number of others
abbrev pub fits_effect : ℕ → List Arg → List Expr → Bool
fits_effect count [] operands = length operands == count
fits_effect count (a ∷ args) operands = false

abbrev pub effect_at : Direction → ℕ → Span → List Arg → List Expr → TypeEnv → Judgement
effect_at direction count span args operands context =
    if fits_effect count args operands then right_effect_at direction span args operands context else wrong_effect span context (map (given_at context) args) (map expr_typed operands)

-- what the operands of an effect of another number of arguments come to
abbrev pub wrong_operands_at : List Expr → TypeEnv → List Judgement
wrong_operands_at [] context = []
wrong_operands_at (t ∷ []) context = held_typing context (expr_typed t) ∷ []
wrong_operands_at (t ∷ c ∷ es) context = held_typing context (expr_typed t) ∷ (channel_seen context (expr_typed c)).judgement ∷ all_alone context (map expr_typed es)

-- ---- calls

abbrev pub builtin_by : CallKind → Span → TypeEnv → List ParametricArgument → List ExprPair → Judgement
builtin_by kind span context [] es = builtin_typing kind span es context
builtin_by kind span context (g ∷ gs) es = wrong_call span (g ∷ gs) (all_alone context es) []

abbrev pub function_at : Span → Ident → List Arg → List Expr → TypeEnv → Judgement
function_at span name args operands context =
    function_call span context name (map (given_at context) args) (map expr_typed operands) (all_alone context (map expr_typed operands)) (as_function (item_named name.name context.known.whole.items))

-- a call of each form
abbrev pub call_by : CallForm → CallKind → Span → Ident → List Arg → List Expr → Bool → TypeEnv → Judgement
call_by (form.Effect direction count) kind span name args operands on_top context = only_on_top on_top span (effect_at direction count span args operands context)
call_by form.Function kind span name args operands on_top context = function_at span name args operands context
call_by form.Builtin kind span name args operands on_top context = builtin_by kind span context (map (given_at context) args) (map expr_typed operands)

abbrev pub call_at : CallKind → Span → Ident → List Arg → List Expr → Bool → TypeEnv → Judgement
call_at kind span name args operands on_top context = call_by (form_by kind) kind span name args operands on_top context

abbrev pub counting_at : Bool → Span → List Expr → TypeEnv → Judgement
counting_at gives_bool span operands context =
    let js = all_alone context (map expr_typed operands) in
    counting span (map expr_typed operands) js (if gives_bool then Some bool_type else first_operand_type js)

-- ---- a match

-- from its value and its arms
