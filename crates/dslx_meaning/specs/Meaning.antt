-- The value of an expression, by recursion on its tree.
--
-- An expression has no value where an operand has none or is none of the operator's: what is well typed always has one.
use Rattle.std.specs.Prelude.{ℕ, zero, suc, List, [], ◌∷◌, ◌++◌, ◌-◌, ◌==◌, nat_lt, map, Bool, true, false, not, Option, Some, None, length, option_map, ℤ, pos, negsuc, ◌-ℤ◌, if◌then◌else◌}
use Rattle.std.specs.List.{list_all}
use Rattle.xb_bits.specs.Word.{Word, word}
use Rattle.xb_bits.specs.Operations as op
use Rattle.dslx_tree.specs.declared.block.Stmt.TheOpen.{Stmt-F}
use Rattle.dslx_tree.specs.declared.block.Block.{Block, Block-F, fold-Block}
use Rattle.dslx_tree.specs.declared.block.Let.{Let-F}
use Rattle.dslx_tree.specs.declared.expr.Expr.{Expr, Expr-F, fold-Expr}
use Rattle.dslx_tree.specs.declared.block.Stmt.TheOpen.{Node-F}
use Rattle.dslx_tree.specs.declared.expr.Number.{Number-F}
use Rattle.dslx_tree.specs.declared.expr.Arg.{Arg, Arg-F, fold-Arg}
use Rattle.dslx_tree.specs.declared.expr.Arm.{Arm-F}
use Rattle.dslx_tree.specs.declared.expr.For.{For-F}
use Rattle.dslx_tree.specs.declared.expr.FieldValue.{FieldValue-F}
use Rattle.dslx_tree.specs.declared.pattern.Pattern.{Pattern, Pattern-F, fold-Pattern}
use Rattle.dslx_tree.specs.declared.block.Stmt.TheOpen.{Shape-F}
use Rattle.dslx_tree.specs.declared.type_expr.TypeExpr.{TypeExpr, TypeExpr-F, fold-TypeExpr}
use Rattle.dslx_tree.specs.declared.block.Stmt.TheOpen.{TypeNode-F}
use Rattle.dslx_meaning.specs.Lists.{all_some, and_then, with_both, or_else, where_true, is_in, beside, last_of, repeated}
use Rattle.dslx_meaning.specs.Callees.{CallKind, kind_of_call, Joins, CountsLeading, CountsTrailing, Reverses, AllOnes, SomeOne, Parity, Updates, Calls}
use Rattle.dslx_meaning.specs.Types.{bits_in}
use Rattle.dslx_meaning.specs.Values.{same_value, bits_of, unsigned_of, elements_of, fields_of, bool_value, unit_value}
use Rattle.dslx_meaning.specs.Operators.{number_value, whole_number, index_number, prefix_value, binary_value, truth, cast_value, slice_value, part_value, index_value, element_value, counted, reduced, updated, of_one_type}
use Rattle.dslx_meaning.specs.Environment.{Env, value_of_name, bind}
use Rattle.dslx_meaning.specs.declared.ty.DslxType.{DslxType, out-DslxType}
use Rattle.dslx_meaning.specs.declared.ty.DslxType as ty
use Rattle.dslx_meaning.specs.declared.ty.DslxType.TheOpen.{DslxType-F}
use Rattle.dslx_meaning.specs.declared.value.DslxValue.{DslxValue, Bits, Tuple, Array, Struct, Token}
use Rattle.dslx_meaning.specs.declared.value.SignedWord.{SignedWord}
use Rattle.dslx_meaning.specs.declared.value.UntypedLiteral.{UntypedLiteral}

-- what has a value somewhere
abbrev pub ValueDen : Type 0
ValueDen = Env → Option DslxValue

-- an expression: the number that it is, if it is one without a type, and its value
pub record ExprDen : Type 0 where
  pub bare : Option UntypedLiteral
  pub value : ValueDen

-- what is bound behind a pattern, if a value fits: by the environment of the whole pattern, where its numbers are
-- evaluated, and what is bound so far
abbrev pub MatchDen : Type 0
MatchDen = Env → DslxValue → Env → Option Env

-- a pattern: the names in it, each of which it binds unless it is a constant's
pub record PatternDen : Type 0 where
  pub names : List (List ℕ)
  pub fits : MatchDen

-- a written type
abbrev pub TypeDen : Type 0
TypeDen = Env → Option DslxType

-- a statement: the value of the rest of its block, in which it may have bound names
abbrev pub StmtDen : Type 0
StmtDen = ValueDen → ValueDen

-- an arm of a match, and a field of a struct value
pub record ArmDen : Type 0 where
  pub patterns : List PatternDen
  pub value : ValueDen

pub record FieldDen : Type 0 where
  pub name : List ℕ
  pub value : ValueDen

-- one level of each sort, whose parts mean this
abbrev pub StmtMeanings : Type 0
StmtMeanings = Stmt-F StmtDen ExprDen PatternDen TypeDen ValueDen StmtDen ExprDen ArmDen ExprDen FieldDen ValueDen ExprDen PatternDen TypeDen

abbrev pub NodeMeanings : Type 0
NodeMeanings = Node-F StmtDen ExprDen PatternDen TypeDen ValueDen StmtDen ExprDen ArmDen ExprDen FieldDen ValueDen ExprDen PatternDen TypeDen

abbrev pub ShapeMeanings : Type 0
ShapeMeanings = Shape-F StmtDen ExprDen PatternDen TypeDen ValueDen StmtDen ExprDen ArmDen ExprDen FieldDen ValueDen ExprDen PatternDen TypeDen

abbrev pub TypeNodeMeanings : Type 0
TypeNodeMeanings = TypeNode-F StmtDen ExprDen PatternDen TypeDen ValueDen StmtDen ExprDen ArmDen ExprDen FieldDen ValueDen ExprDen PatternDen TypeDen

abbrev pub BlockMeanings : Type 0
BlockMeanings = Block-F StmtDen ExprDen PatternDen TypeDen ValueDen StmtDen ExprDen ArmDen ExprDen FieldDen ValueDen ExprDen PatternDen TypeDen

abbrev pub LetMeanings : Type 0
LetMeanings = Let-F StmtDen ExprDen PatternDen TypeDen ValueDen StmtDen ExprDen ArmDen ExprDen FieldDen ValueDen ExprDen PatternDen TypeDen

abbrev pub ArgMeanings : Type 0
ArgMeanings = Arg-F StmtDen ExprDen PatternDen TypeDen ValueDen StmtDen ExprDen ArmDen ExprDen FieldDen ValueDen ExprDen PatternDen TypeDen

abbrev pub ArmMeanings : Type 0
ArmMeanings = Arm-F StmtDen ExprDen PatternDen TypeDen ValueDen StmtDen ExprDen ArmDen ExprDen FieldDen ValueDen ExprDen PatternDen TypeDen

abbrev pub ExprMeanings : Type 0
ExprMeanings = Expr-F StmtDen ExprDen PatternDen TypeDen ValueDen StmtDen ExprDen ArmDen ExprDen FieldDen ValueDen ExprDen PatternDen TypeDen

abbrev pub FieldMeanings : Type 0
FieldMeanings = FieldValue-F StmtDen ExprDen PatternDen TypeDen ValueDen StmtDen ExprDen ArmDen ExprDen FieldDen ValueDen ExprDen PatternDen TypeDen

abbrev pub ForMeanings : Type 0
ForMeanings = For-F StmtDen ExprDen PatternDen TypeDen ValueDen StmtDen ExprDen ArmDen ExprDen FieldDen ValueDen ExprDen PatternDen TypeDen

abbrev pub NumberMeanings : Type 0
NumberMeanings = Number-F StmtDen ExprDen PatternDen TypeDen ValueDen StmtDen ExprDen ArmDen ExprDen FieldDen ValueDen ExprDen PatternDen TypeDen

abbrev pub PatternMeanings : Type 0
PatternMeanings = Pattern-F StmtDen ExprDen PatternDen TypeDen ValueDen StmtDen ExprDen ArmDen ExprDen FieldDen ValueDen ExprDen PatternDen TypeDen

abbrev pub TypeExprMeanings : Type 0
TypeExprMeanings = TypeExpr-F StmtDen ExprDen PatternDen TypeDen ValueDen StmtDen ExprDen ArmDen ExprDen FieldDen ValueDen ExprDen PatternDen TypeDen

abbrev pub valued : ValueDen → ExprDen
valued value = record { bare = None; value = value }

-- ---- numbers

abbrev pub number_den : Option TypeDen → UntypedLiteral → ExprDen
number_den None number = record { bare = Some number; value = λ env. None }
number_den (Some ty) number = valued (λ env. and_then (ty env) (λ t. number_value t number))

-- a width, a size, a depth: a number without a type counts as unsigned
abbrev pub count_in : Option UntypedLiteral → Option DslxValue → Option ℕ
count_in None v = and_then v (λ v. and_then (unsigned_of v) (λ w. Some w.value))
count_in (Some number) v = if number.is_negative then None else Some number.value

abbrev pub some_count : ℕ → Option ℕ
some_count zero = None
some_count (suc n) = Some (suc n)

-- a width, a size or a depth is 1 or more
abbrev pub size_of : ExprDen → Env → Option ℕ
size_of e env = and_then (count_in e.bare (e.value env)) some_count

-- a bound of a slice: a number without a type, or a value that is not negative
abbrev pub bound_in : Option UntypedLiteral → Option DslxValue → Option ℕ
bound_in None v = and_then v index_number
bound_in (Some number) v = if number.is_negative then None else Some number.value

abbrev pub bound_of : ExprDen → Env → Option ℕ
bound_of e env = bound_in e.bare (e.value env)

-- ---- types

abbrev pub type_den : TypeNodeMeanings → TypeDen
type_den (TypeNode-F.Bits s w) env = Some (ty.Bits s w)
type_den (TypeNode-F.Wide s e) env = and_then (size_of e env) (λ w. Some (ty.Bits s w))
type_den TypeNode-F.TypeNode::Bool env = Some (ty.Bits false 1)
type_den (TypeNode-F.TypeNode::Name name) env = env.items.type_named name
type_den (TypeNode-F.TypeNode::Tuple ts) env = and_then (all_some (map (λ (t : TypeDen). t env) ts)) (λ ts. Some (ty.Tuple ts))
type_den (TypeNode-F.TypeNode::Array t e) env = with_both (t env) (size_of e env) (λ t n. Some (ty.Array t n))

-- ---- patterns

-- each value of a tuple fits its own pattern, in order
abbrev pub fit_each : Env → List PatternDen → List DslxValue → Env → Option Env
fit_each scope [] [] env = Some env
fit_each scope (p ∷ ps) (v ∷ vs) env = and_then (p.fits scope v env) (fit_each scope ps vs)
fit_each scope [] (v ∷ vs) env = None
fit_each scope (p ∷ ps) [] env = None

-- the value is this one
abbrev pub fit_value : Option DslxValue → DslxValue → Env → Option Env
fit_value None v env = None
fit_value (Some w) v env = if same_value v w then Some env else None

abbrev pub shape_fits : ShapeMeanings → MatchDen
shape_fits Shape-F.Wild scope v env = Some env
shape_fits (Shape-F.Shape::Bool b) scope v env = fit_value (Some (bool_value b)) v env
shape_fits (Shape-F.Shape::Number n) scope v env = fit_value (n.value scope) v env
shape_fits (Shape-F.Shape::Name name) scope v env = if env.items.is_constant name then fit_value (env.items.constant name) v env else Some (bind name v env)
shape_fits (Shape-F.Shape::Member e a) scope v env = fit_value (env.items.member e.name a.name) v env
shape_fits (Shape-F.Shape::Tuple ps) scope v env = and_then (elements_of v) (λ vs. fit_each scope ps vs env)

abbrev pub all_names : List PatternDen → List (List ℕ)
all_names [] = []
all_names (p ∷ ps) = p.names ++ all_names ps

abbrev pub shape_names : ShapeMeanings → List (List ℕ)
shape_names (Shape-F.Shape::Name name) = name ∷ []
shape_names (Shape-F.Shape::Tuple ps) = all_names ps
shape_names _ = []

abbrev pub shape_den : ShapeMeanings → PatternDen
shape_den s = record { names = shape_names s; fits = shape_fits s }

-- in its own scope
abbrev pub fits_in_scope : PatternDen → DslxValue → Env → Option Env
fits_in_scope p v env = p.fits env v env

-- ---- literals

-- an element of an array literal that has a type may be a number without one
abbrev pub element_den : DslxType → Env → ExprDen → Option DslxValue
element_den t env e = in_type e.bare
  where
    in_type : Option UntypedLiteral → Option DslxValue
    in_type None = e.value env
    in_type (Some number) = number_value t number

-- `n` elements, the last one repeated where three dots stand; no more than there is room for
abbrev pub filled : Bool → ℕ → List DslxValue → Option DslxValue
filled false n vs = where_true (length vs == n) (Some (Array vs))
filled true n vs = where_true (not (nat_lt n (length vs))) (option_map (λ last. Array (vs ++ repeated (n - length vs) last)) (last_of vs))

abbrev pub array_at : Env → List ExprDen → Bool → DslxType-F DslxType → Option DslxValue
array_at env es dots (DslxType-F.Array t n) = and_then (all_some (map (element_den t env) es)) (filled dots n)
array_at env es dots _ = None

abbrev pub values_of : List ExprDen → Env → Option (List DslxValue)
values_of es env = all_some (map (λ (e : ExprDen). e.value env) es)

abbrev pub array_den : Option TypeDen → List ExprDen → Bool → ValueDen
array_den None es dots env = and_then (values_of es env) (λ vs. Some (Array vs))
array_den (Some ty) es dots env = and_then (ty env) (λ t. array_at env es dots (out-DslxType t))

-- the fields of a struct value that are written, by name
abbrev pub field_written : List ℕ → List FieldDen → Option ValueDen
field_written name [] = None
field_written name (f ∷ fs) = if is_in name (f.name ∷ []) then Some f.value else field_written name fs

-- a field of the value that gives the others
abbrev pub field_from : List ℕ → Option DslxValue → Option DslxValue
field_from field v = and_then v (λ v. and_then (fields_of v) (λ s. beside field s.names s.values))

abbrev pub field_given : Env → Option DslxValue → List ℕ → Option ValueDen → Option DslxValue
field_given env rest field None = field_from field rest
field_given env rest field (Some value) = value env

abbrev pub struct_at : Env → List FieldDen → Option DslxValue → DslxType-F DslxType → Option DslxValue
struct_at env written rest (DslxType-F.Struct name fields ts) =
    and_then (all_some (map (λ field. field_given env rest field (field_written field written)) fields)) (λ vs. Some (Struct name fields vs))
struct_at env written rest _ = None

abbrev pub rest_of : Option ExprDen → ValueDen
rest_of None env = None
rest_of (Some e) env = e.value env

abbrev pub field_of : DslxValue → List ℕ → Option DslxValue
field_of v name = and_then (fields_of v) (λ s. beside name s.names s.values)

-- ---- control

abbrev pub choose : Option Bool → Option DslxValue → Option DslxValue → Option DslxValue
choose None a b = None
choose (Some true) a b = a
choose (Some false) a b = b

-- what the first pattern that fits binds
abbrev pub first_fit : List PatternDen → DslxValue → Env → Option Env
first_fit [] v env = None
first_fit (p ∷ ps) v env = or_else (fits_in_scope p v env) (first_fit ps v env)

-- the value of an arm whose pattern fits, and otherwise that of the rest
abbrev pub take_arm : ArmDen → Option Env → Option DslxValue → Option DslxValue
take_arm a None rest = rest
take_arm a (Some inner) rest = a.value inner

-- the value of an arm that binds nothing
abbrev pub value_without : ArmDen → ValueDen
value_without a env = if list_all env.items.is_constant (all_names a.patterns) then a.value env else None

-- the first arm that fits; where none does, the last one, which binds nothing
abbrev pub match_arms : List ArmDen → DslxValue → ValueDen
match_arms [] v env = None
match_arms (a ∷ []) v env = take_arm a (first_fit a.patterns v env) (value_without a env)
match_arms (a ∷ b ∷ as') v env = take_arm a (first_fit a.patterns v env) (match_arms (b ∷ as') v env)

-- the turns that are left of a loop, from an index and what is accumulated so far
abbrev pub turns_from : (DslxValue → DslxValue → Option DslxValue) → Bool → ℕ → Word → DslxValue → Option DslxValue
turns_from body signed zero i acc = Some acc
turns_from body signed (suc n) i acc = and_then (body (Bits signed i) acc) (turns_from body signed n (op.add i (word i.width 1)))

-- how many turns a range has: none where it doesn't rise
abbrev pub turn_count : SignedWord → SignedWord → ℕ
turn_count a b = rising (whole_number b -ℤ whole_number a)
  where
    rising : ℤ → ℕ
    rising (pos n) = n
    rising (negsuc n) = 0

abbrev pub loop_over : (DslxValue → DslxValue → Option DslxValue) → DslxValue → SignedWord → SignedWord → Option DslxValue
loop_over body start a b = where_true (of_one_type a b) (turns_from body a.signed (turn_count a b) a.word start)

abbrev pub for_den : ForMeanings → ValueDen
for_den f env =
    let body : DslxValue → DslxValue → Option DslxValue = λ i acc. and_then (fits_in_scope f.index i env) (λ inner. and_then (fits_in_scope f.accumulator acc inner) f.body) in
    and_then (f.start.value env) (λ start.
    with_both (and_then (f.from.value env) bits_of) (and_then (f.to.value env) bits_of) (loop_over body start))

-- ---- statements

abbrev pub let_den : LetMeanings → StmtDen
let_den l rest env = and_then (l.value.value env) (λ v. and_then (fits_in_scope l.pattern v env) rest)

abbrev pub stmt_den : StmtMeanings → StmtDen
stmt_den (Stmt-F.Let l) rest env = l rest env
stmt_den (Stmt-F.Bare e) rest env = and_then (e.value env) (λ v. rest env)

-- the value of the last expression, () without one
abbrev pub last_den : Option ExprDen → ValueDen
last_den None env = Some unit_value
last_den (Some e) env = e.value env

abbrev pub statements_den : List StmtDen → ValueDen → ValueDen
statements_den [] last env = last env
statements_den (s ∷ ss) last env = s (statements_den ss last) env

abbrev pub block_den : BlockMeanings → ValueDen
block_den b = statements_den b.statements (last_den b.value)

-- ---- calls

-- effects have no value of their own: an activation gives it
abbrev pub call_den : CallKind → List ℕ → Env → List DslxValue → List DslxValue → Option DslxValue
call_den Joins name env parametric_args vs = Some Token
call_den CountsLeading name env parametric_args vs = counted op.clz vs
call_den CountsTrailing name env parametric_args vs = counted op.ctz vs
call_den Reverses name env parametric_args vs = counted op.rev vs
call_den AllOnes name env parametric_args vs = reduced op.and_reduce vs
call_den SomeOne name env parametric_args vs = reduced op.or_reduce vs
call_den Parity name env parametric_args vs = reduced op.xor_reduce vs
call_den Updates name env parametric_args vs = updated vs
call_den Calls name env parametric_args vs = env.items.call name parametric_args vs
call_den _ name env parametric_args vs = None

-- ---- expressions

abbrev pub node_den : NodeMeanings → ExprDen
node_den (Node-F.Node::Number n) = n
node_den (Node-F.Node::Bool b) = valued (λ env. Some (bool_value b))
node_den (Node-F.Node::Array ty es dots) = valued (array_den ty es dots)
node_den (Node-F.Node::Name name) = valued (value_of_name name)
node_den (Node-F.Node::Member e a) = valued (λ env. env.items.member e.name a.name)
node_den (Node-F.Call f parametric_args es) =
    valued (λ env. with_both (values_of parametric_args env) (values_of es env) (call_den (kind_of_call f.name) f.name env))
node_den (Node-F.Node::Tuple es) = valued (λ env. and_then (values_of es env) (λ vs. Some (Tuple vs)))
node_den (Node-F.Struct s fields rest) =
    valued (λ env. and_then (env.items.struct_named s.name) (λ t. struct_at env fields (rest_of rest env) (out-DslxType t)))
node_den (Node-F.Block b) = valued b
node_den (Node-F.If c a b) = valued (λ env. choose (and_then (c.value env) truth) (a env) (b.value env))
node_den (Node-F.Match e arms) = valued (λ env. and_then (e.value env) (λ v. match_arms arms v env))
node_den (Node-F.For f) = valued f
node_den (Node-F.Index e i) = valued (λ env. with_both (e.value env) (i.value env) index_value)
node_den (Node-F.Slice e a b) = valued (λ env. and_then (e.value env) (λ v. with_both (bound_of a env) (bound_of b env) (slice_value v)))
node_den (Node-F.Part e i t) = valued (λ env. with_both (e.value env) (i.value env) (λ v k. and_then (and_then (t env) bits_in) (λ kind. where_true (not kind.signed) (part_value v k kind.width))))
node_den (Node-F.Field e name) = valued (λ env. and_then (e.value env) (λ v. field_of v name.name))
node_den (Node-F.Element e span k) = valued (λ env. and_then (e.value env) (λ v. element_value v k))
node_den (Node-F.Prefix o e) = valued (λ env. and_then (e.value env) (prefix_value o))
node_den (Node-F.Cast e t) = valued (λ env. with_both (t env) (e.value env) cast_value)
node_den (Node-F.Binary o l r) = valued (λ env. with_both (l.value env) (r.value env) (binary_value o))

abbrev pub expr_den : ExprMeanings → ExprDen
expr_den e = e.node

abbrev pub number_node : NumberMeanings → ExprDen
number_node n = number_den n.ty (record { is_negative = n.is_negative; value = n.value })

abbrev pub arg_den : ArgMeanings → ExprDen
arg_den a = a.value

abbrev pub arm_den : ArmMeanings → ArmDen
arm_den a = record { patterns = a.patterns; value = a.value.value }

-- a field given by its name alone has the value of that name
abbrev pub field_value_of : List ℕ → Option ExprDen → ValueDen
field_value_of name None env = value_of_name name env
field_value_of name (Some e) env = e.value env

abbrev pub field_den : FieldMeanings → FieldDen
field_den f = record { name = f.name.name; value = field_value_of f.name.name f.value }

abbrev pub pattern_den : PatternMeanings → PatternDen
pattern_den p = p.shape

abbrev pub type_expr_den : TypeExprMeanings → TypeDen
type_expr_den t = t.node

-- ---- the trees

-- an expression
abbrev pub denotation : Expr → ExprDen
denotation = fold-Expr StmtDen ExprDen PatternDen TypeDen ValueDen StmtDen ExprDen ArmDen ExprDen FieldDen ValueDen ExprDen PatternDen TypeDen
    stmt_den node_den shape_den type_den block_den let_den arg_den arm_den expr_den field_den for_den number_node pattern_den type_expr_den

-- the value of an expression, unless it has none
abbrev pub value_of : Expr → ValueDen
value_of e = (denotation e).value

-- the value of a block
abbrev pub value_of_block : Block → ValueDen
value_of_block = fold-Block StmtDen ExprDen PatternDen TypeDen ValueDen StmtDen ExprDen ArmDen ExprDen FieldDen ValueDen ExprDen PatternDen TypeDen
    stmt_den node_den shape_den type_den block_den let_den arg_den arm_den expr_den field_den for_den number_node pattern_den type_expr_den

-- the type that is written
abbrev pub written_type : TypeExpr → TypeDen
written_type = fold-TypeExpr StmtDen ExprDen PatternDen TypeDen ValueDen StmtDen ExprDen ArmDen ExprDen FieldDen ValueDen ExprDen PatternDen TypeDen
    stmt_den node_den shape_den type_den block_den let_den arg_den arm_den expr_den field_den for_den number_node pattern_den type_expr_den

-- a pattern
abbrev pub pattern_denotation : Pattern → PatternDen
pattern_denotation = fold-Pattern StmtDen ExprDen PatternDen TypeDen ValueDen StmtDen ExprDen ArmDen ExprDen FieldDen ValueDen ExprDen PatternDen TypeDen
    stmt_den node_den shape_den type_den block_den let_den arg_den arm_den expr_den field_den for_den number_node pattern_den type_expr_den

-- what a pattern binds
abbrev pub fitted : Pattern → DslxValue → Env → Option Env
fitted p = fits_in_scope (pattern_denotation p)

-- what stands between `<` and `>`
abbrev pub arg_denotation : Arg → ExprDen
arg_denotation = fold-Arg StmtDen ExprDen PatternDen TypeDen ValueDen StmtDen ExprDen ArmDen ExprDen FieldDen ValueDen ExprDen PatternDen TypeDen
    stmt_den node_den shape_den type_den block_den let_den arg_den arm_den expr_den field_den for_den number_node pattern_den type_expr_den
