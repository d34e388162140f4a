-- The type environment in which a part of a text is typed, and what its judgement holds.
--
-- A part has a type only where neither it nor a part of it breaks a rule, and a rule that needs a type which isn't there
-- doesn't apply.
use Rattle.std.specs.Prelude.{ℕ, List, [], ◌∷◌, ◌++◌, ◌+◌, ◌-◌, ◌^◌, ◌&&◌, nat_lt, min, map, Bool, true, false, Option, Some, None, if◌then◌else◌}
use Rattle.std.specs.Str.{bytes_eq}
use Rattle.std.specs.List.{list_any}
use Rattle.xb_span.specs.declared.span.Span.{Span}
use Rattle.xb_span.specs.declared.fault.Fault.{Fault}
use Rattle.xb_span.specs.declared.fault.Fault.TheVariants.{Whole, Broken, Passed}
use Rattle.xb_span.specs.declared.limit.What.{What}
use Rattle.xb_span.specs.declared.limit.What.TheVariants as what
use Rattle.dslx_tree.specs.declared.expr.Expr.{Expr, out-Expr}
use Rattle.dslx_tree.specs.declared.item.Module.{Module}
use Rattle.dslx_tree.specs.declared.process.Direction.{Direction}
use Rattle.dslx_meaning.specs.Lists.{pairwise, is_in}
use Rattle.dslx_meaning.specs.Types.{leaves_of, levels_of, holds_token}
use Rattle.dslx_meaning.specs.Environment.{Meanings, Given, Env}
use Rattle.dslx_meaning.specs.Meaning.{denotation}
use Rattle.dslx_meaning.specs.Items.{item_named}
use Rattle.dslx_meaning.specs.Activation.{node_of, name_in_node}
use Rattle.dslx_meaning.specs.declared.ty.DslxType.{DslxType, fold-DslxType}
use Rattle.dslx_meaning.specs.declared.ty.DslxType.TheOpen.{DslxType-F}
use Rattle.dslx_meaning.specs.declared.value.DslxValue.{DslxValue}
use Rattle.dslx_meaning.specs.declared.value.UntypedLiteral.{UntypedLiteral}
use Rattle.dslx_meaning.specs.Rules.EqualValues.{equal_value}
use Rattle.dslx_meaning.specs.Rules.RuleNumbers as rule

-- ---- instances

-- a function or a proc with its parametric arguments
pub record Instance : Type 0 where
  pub name : List ℕ
  pub parametric_args : List DslxValue

abbrev pub same_instance : Instance → Instance → Bool
same_instance a b = bytes_eq a.name b.name && pairwise equal_value a.parametric_args b.parametric_args

-- ---- type environments

-- the judgement of a part: its type, the rules that it and its parts break and the limits that they pass, the instances that
-- its calls and spawns reach, and how many nodes it has, loops multiplied and bodies put in the place of calls. It has no
-- size where some part of it, or of a body that it calls, has no type
pub record Judgement : Type 0 where
  pub ty : Option DslxType
  pub faults : List Fault
  pub reached : List Instance
  pub size : Option ℕ

-- a default, with its value if it has one
pub record DefaultSeen : Type 0 where
  pub judgement : Judgement
  pub value : Option DslxValue

-- the types that are declared for the arguments of a function or the ends of a proc, where () is none, and for the result
pub record Signature : Type 0 where
  pub arguments : List (Option DslxType)
  pub result : Option DslxType

-- the global environment: what is known of the items. A constant has a value only where nothing that it reaches breaks a rule or passes a limit; a
-- type is known only where its declaration breaks no rule. A call has the value that it denotes, whatever it breaks;
-- one of a function that reaches itself has none
pub record GlobalEnv : Type 0 where
  pub whole : Module
  pub items : Meanings
  -- a use in the text of the first item of the second one is of an item that is the same or reaches it, which rule 3 refuses
  pub is_cyclic : List ℕ → List ℕ → Bool
  -- the instance reaches nothing that breaks a rule or passes a limit
  pub is_sound : Instance → Bool
  -- the instance reaches nothing that breaks a rule
  pub is_unbroken : Instance → Bool
  -- how many nodes the body of an instance has
  pub body_size : Instance → Option ℕ
  -- the typings of the type and of the default of an item's parametric behind these values of those before it, the last one
  -- first, of which some may not be known; and the item's signature, where these are the values of all
  pub parameter_in : List ℕ → List (Option DslxValue) → Judgement
  pub default_in : List ℕ → List (Option DslxValue) → DefaultSeen
  pub signature_in : List ℕ → List (Option DslxValue) → Signature

-- a name that is bound, with its type if it has one
pub record Typed : Type 0 where
  pub name : List ℕ
  pub ty : Option DslxType

-- an end of a channel, as effects see it, with the type of its words if they have one
pub record ChannelEnd : Type 0 where
  pub name : List ℕ
  pub direction : Direction
  pub word : Option DslxType

-- the type environment of a part
pub record TypeEnv : Type 0 where
  pub known : GlobalEnv
  -- the item in whose text it stands
  pub owner : List ℕ
  -- parametrics with their values, those of which no value is known, the ends of a `config` that are declared before,
  -- and bound names, the last one first
  pub parametric_args : List Given
  pub unknown : List (List ℕ)
  pub ends : List (List ℕ)
  pub locals : List Typed
  -- the proc's members, and which of them have a site before
  pub members : List ChannelEnd
  pub used : List (List ℕ)

abbrev pub with_typed : TypeEnv → List Typed → TypeEnv
with_typed context locals = record context { locals = locals }

abbrev pub typed_in : List ℕ → List Typed → Option (Option DslxType)
typed_in name [] = None
typed_in name (l ∷ ls) = if bytes_eq name l.name then Some l.ty else typed_in name ls

-- what constants are evaluated in: the items and the parametrics that no bound name hides. A constant that names an end
-- breaks rule 1, and has no value
abbrev pub unhidden : List Typed → List Given → List Given
unhidden locals [] = []
unhidden locals (g ∷ gs) = if is_in g.name (map (λ (l : Typed). l.name) locals) then unhidden locals gs else g ∷ unhidden locals gs

abbrev pub constant_env : TypeEnv → Env
constant_env context = record { items = context.known.items; bound = unhidden context.locals context.parametric_args }

-- ---- judgements

-- the rule of this number is broken by the part at this span
abbrev pub breaks : ℕ → Span → Fault
breaks rule span = Broken (record { 0 = rule }) span

abbrev pub breaks_if : Bool → ℕ → Span → List Fault
breaks_if true rule span = breaks rule span ∷ []
breaks_if false rule span = []

abbrev pub is_rule : Fault → Bool
is_rule (Whole limit) = false
is_rule (Broken rule span) = true
is_rule (Passed at limit) = false

-- some rule is broken
abbrev pub has_broken : List Fault → Bool
has_broken faults = list_any is_rule faults

-- numbers past 2^64 - 1 are named as that
abbrev pub found_number : ℕ → ℕ
found_number n = min n (2 ^ 64 - 1)

-- a quantity that is named itself
abbrev pub passes : What → ℕ → ℕ → ℕ → List Fault
passes what most end n = if nat_lt most n then Passed end (record { what = what; found = found_number n; most = most }) ∷ [] else []

-- a quantity that is counted one by one, and named as one more than there may be
abbrev pub passes_count : What → ℕ → ℕ → ℕ → List Fault
passes_count what most end n = if nat_lt most n then Passed end (record { what = what; found = most + 1; most = most }) ∷ [] else []

-- how many bits each leaf has, those of an array once
abbrev pub all_widths : List (List ℕ) → List ℕ
all_widths [] = []
all_widths (ws ∷ wss) = ws ++ all_widths wss

abbrev pub widths_in : DslxType-F (List ℕ) → List ℕ
widths_in (DslxType-F.Bits s w) = w ∷ []
widths_in (DslxType-F.Tuple wss) = all_widths wss
widths_in (DslxType-F.Array ws n) = ws
widths_in (DslxType-F.Struct name fields wss) = all_widths wss
widths_in (DslxType-F.Enum name s w) = w ∷ []
widths_in DslxType-F.Token = []

abbrev pub leaf_widths : DslxType → List ℕ
leaf_widths = fold-DslxType (List ℕ) widths_in

abbrev pub passes_widths : ℕ → List ℕ → List Fault
passes_widths end [] = []
passes_widths end (w ∷ ws) = passes what.Width 128 end w ++ passes_widths end ws

-- the limits on a type that a part which ends there has
abbrev pub type_limits : ℕ → Option DslxType → List Fault
type_limits end None = []
type_limits end (Some t) = passes_widths end (leaf_widths t) ++ passes what.Leaves 256 end (leaves_of t) ++ passes what.Levels 64 end (levels_of t)

-- a type stands only where no rule is broken
abbrev pub unless_broken : {A : Type 0} → List Fault → Option A → Option A
unless_broken faults ty = if has_broken faults then None else ty

-- a part without a type leaves what it stands in without a size
abbrev pub size_if_typed : Option DslxType → Option ℕ → Option ℕ
size_if_typed None size = None
size_if_typed (Some t) size = size

-- a part of this type, with the faults and all else of it and its parts, to whose type no limit applies
abbrev pub unlimited : Option DslxType → List Fault → List Instance → Option ℕ → Judgement
unlimited ty faults reached size =
    let own = unless_broken faults ty in
    record { ty = own; faults = faults; reached = reached; size = size_if_typed own size }

-- the same with the limits on the type of a part that ends there
abbrev pub limited : Span → Judgement → Judgement
limited span j = record j { faults = j.faults ++ type_limits span.to j.ty }

abbrev pub settled : Span → Option DslxType → List Fault → List Instance → Option ℕ → Judgement
settled span ty faults reached size = limited span (unlimited ty faults reached size)

-- ---- sizes

abbrev pub plus_size : Option ℕ → Option ℕ → Option ℕ
plus_size (Some n) (Some k) = Some (n + k)
plus_size _ _ = None

abbrev pub one_and : Option ℕ → Option ℕ
one_and None = None
one_and (Some n) = Some (1 + n)

abbrev pub sum_sizes : List (Option ℕ) → Option ℕ
sum_sizes [] = Some 0
sum_sizes (s ∷ ss) = plus_size s (sum_sizes ss)

-- ---- lists of judgements

abbrev pub types_of : List Judgement → List (Option DslxType)
types_of js = map (λ (j : Judgement). j.ty) js

abbrev pub faults_of_all : List Judgement → List Fault
faults_of_all [] = []
faults_of_all (j ∷ js) = j.faults ++ faults_of_all js

abbrev pub reached_of_all : List Judgement → List Instance
reached_of_all [] = []
reached_of_all (j ∷ js) = j.reached ++ reached_of_all js

abbrev pub size_of_all : List Judgement → Option ℕ
size_of_all js = sum_sizes (map (λ (j : Judgement). j.size) js)

-- ---- expressions as what is around them sees them

-- an expression is typed where effects may stand or not; where they may, it is the whole value of a `let` or a statement at
-- the top of `next`
abbrev pub ExprTyping : Type 0
ExprTyping = Bool → TypeEnv → Judgement

abbrev pub ExprPair : Type 0
ExprPair = Expr × ExprTyping

abbrev pub span_of : ExprPair → Span
span_of e = (out-Expr e.0).span

-- the number that it is, if it is one without a type
abbrev pub untyped_of : ExprPair → Option UntypedLiteral
untyped_of e = (denotation e.0).bare

-- the name that it is
abbrev pub name_of_expr : ExprPair → Option (List ℕ)
name_of_expr e = name_in_node (node_of e.0)

-- its judgement inside another expression, whatever its type
abbrev pub within : TypeEnv → ExprPair → Judgement
within context e = e.1 false context

abbrev pub no_token : Span → Judgement → Judgement
no_token span j = without j.ty
  where
    without : Option DslxType → Judgement
    without None = j
    without (Some t) = if holds_token t then record { ty = None; faults = j.faults ++ breaks rule.EFFECT_STANDS_ALONE span ∷ []; reached = j.reached; size = j.size } else j

-- its judgement where a value stands alone: a token and a receive's pair don't stand there
abbrev pub alone : TypeEnv → ExprPair → Judgement
alone context e = no_token (span_of e) (within context e)

abbrev pub all_alone : TypeEnv → List ExprPair → List Judgement
all_alone context es = map (alone context) es

-- ---- names

-- the name is an item's
abbrev pub is_item : TypeEnv → List ℕ → Bool
is_item context name = is_there (item_named name context.known.whole.items)
  where
    is_there : {A : Type 0} → Option A → Bool
    is_there None = false
    is_there (Some a) = true
