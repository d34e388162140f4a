-- What the walk finds in an item is what its text mentions.
use Rattle.std.proofs.Common.{◌≡◌, ℕ, List, [], ◌∷◌, ◌++◌, length, map, Option, Some, None, refl, ap, ◌∙◌}
use Rattle.std.specs.Prelude.{flat_map}
use Rattle.std.specs.Option.{option_map}
use Rattle.std.proofs.lemmas.List.{append-nil}
use Rattle.dslx_tree.specs.declared.expr.Arg.{Arg}
use Rattle.dslx_tree.specs.declared.expr.Expr.{Expr}
use Rattle.dslx_tree.specs.declared.item.Definition.{Definition}
use Rattle.dslx_tree.specs.declared.item.Definition.TheVariants as d
use Rattle.dslx_tree.specs.declared.item.Enum.{Enum}
use Rattle.dslx_tree.specs.declared.item.Constant.{Constant}
use Rattle.dslx_tree.specs.declared.item.Function.{Function}
use Rattle.dslx_tree.specs.declared.item.Parametric.{Parametric}
use Rattle.dslx_tree.specs.declared.process.ConfigStatement.{ConfigStatement}
use Rattle.dslx_tree.specs.declared.process.ConfigStatement.TheVariants as config_statement
use Rattle.dslx_tree.specs.declared.process.Proc.{Proc}
use Rattle.dslx_tree.specs.declared.type_expr.TypeExpr.{TypeExpr}
use Rattle.dslx_meaning.specs.Rules.Mentions.{AsProc, Mention, Mentions, NamesBound, all_mentions, arg_if, config_statement_mentions, definition_mentions, ends_mentions, expr_if, field_names, fields_mentions, mention, mentioned, mentioned_in_arg, mentioned_in_block, mentioned_in_type, mentions_if, nowhere, parametric_names, parametrics_mentions, proc_mentions, statements_mentions, type_if}
use Rattle.dslx_check_items.specs.Inner.Walks.{MentionWalk, behind, binding, keeping, mentioning, mentioning_all, mentioning_if, running, starts}
use Rattle.dslx_check_items.specs.Inner.Definitions.{behind_parametrics, config_statement_walk, config_walk, constant_walk, definition_walk, enum_walk, function_walk, in_end, in_field_type, in_member, interface_walk, parametric_walk, parametrics_walk, proc_walk}
use Rattle.dslx_check_items.proofs.OnMentions.InTurn.{all_in_turn, if_in_turn, named, nothing, statements_in_turn, two}

-- ---- lists of parts, and parts that may be missing

all_flat : {X : Type 0} (f : X → Mentions) (xs : List X) (bound : List (List ℕ)) → all_mentions (map f xs) bound ≡ flat_map (λ x. f x bound) xs
all_flat f [] bound = refl
all_flat f (x ∷ xs) bound = ap (λ (ms : List Mention). f x bound ++ ms) (all_flat f xs bound)

type_there : (o : Option TypeExpr) (bound : List (List ℕ)) → mentions_if (option_map mentioned_in_type o) bound ≡ type_if o bound
type_there None bound = refl
type_there (Some t) bound = refl

expr_there : (o : Option Expr) (bound : List (List ℕ)) → mentions_if (option_map mentioned o) bound ≡ expr_if o bound
expr_there None bound = refl
expr_there (Some e) bound = refl

arg_there : (o : Option Arg) (bound : List (List ℕ)) → mentions_if (option_map mentioned_in_arg o) bound ≡ arg_if o bound
arg_there None bound = refl
arg_there (Some a) bound = refl

-- the same mentions, whatever is bound
same : (m n : Mentions) (w : MentionWalk) → ((bound : List (List ℕ)) → m bound ≡ n bound) → mentioning m w ≡ mentioning n w
unfolding mentioning
same m n w e = λ i. record { found = w.found ++ e w.bound i; bound = w.bound }

flat_in_turn : {X : Type 0} (f : X → Mentions) (xs : List X) (w : MentionWalk) → mentioning_all (map f xs) w ≡ mentioning (λ bound. flat_map (λ x. f x bound) xs) w
flat_in_turn f xs w = all_in_turn (map f xs) w ∙ same (all_mentions (map f xs)) (λ bound. flat_map (λ x. f x bound) xs) w (all_flat f xs)

type_in_turn : (o : Option TypeExpr) (w : MentionWalk) → mentioning_if (option_map mentioned_in_type o) w ≡ mentioning (type_if o) w
type_in_turn o w = if_in_turn (option_map mentioned_in_type o) w ∙ same (mentions_if (option_map mentioned_in_type o)) (type_if o) w (type_there o)

-- ---- parameters

in_parametric : Parametric → NamesBound
in_parametric p = record { mentions = λ bound. mentioned_in_type p.ty bound ++ expr_if p.default bound; names = p.name.name ∷ [] }

parametric_in_turn : (p : Parametric) (w : MentionWalk) → parametric_walk p w ≡ behind (in_parametric p) w
unfolding in_parametric
parametric_in_turn p w =
    ap (binding (p.name.name ∷ [])) (if_in_turn (option_map mentioned p.default) (mentioning (mentioned_in_type p.ty) w)
    ∙ same (mentions_if (option_map mentioned p.default)) (expr_if p.default) (mentioning (mentioned_in_type p.ty) w) (expr_there p.default)
    ∙ two (mentioned_in_type p.ty) (expr_if p.default) w)

run_parametrics : (ps : List Parametric) (w : MentionWalk) → behind_parametrics ps w ≡ running (map in_parametric ps) w
run_parametrics [] w = refl
run_parametrics (p ∷ ps) w = run_parametrics ps (parametric_walk p w) ∙ ap (running (map in_parametric ps)) (parametric_in_turn p w)

parametrics_flat : (ps : List Parametric) (bound : List (List ℕ)) → statements_mentions (map in_parametric ps) nowhere bound ≡ parametrics_mentions ps bound
unfolding in_parametric
parametrics_flat [] bound = refl
parametrics_flat (p ∷ ps) bound = ap (λ (ms : List Mention). mentioned_in_type p.ty bound ++ expr_if p.default bound ++ ms) (parametrics_flat ps (p.name.name ∷ bound))

parametrics_in_turn : (ps : List Parametric) (w : MentionWalk) → parametrics_walk ps w ≡ binding (parametric_names ps) (mentioning (parametrics_mentions ps) w)
parametrics_in_turn ps w =
    ap (binding (parametric_names ps))
    (ap (keeping (length w.bound)) (run_parametrics ps w ∙ nothing (running (map in_parametric ps) w))
    ∙ statements_in_turn (map in_parametric ps) nowhere w
    ∙ same (statements_mentions (map in_parametric ps) nowhere) (parametrics_mentions ps) w (parametrics_flat ps))

-- behind the parameters of an item
abbrev opened : List Parametric → MentionWalk
opened ps = record { found = parametrics_mentions ps []; bound = parametric_names ps }

parametrics_open : (ps : List Parametric) → parametrics_walk ps starts ≡ opened ps
unfolding binding mentioning
parametrics_open ps = parametrics_in_turn ps starts ∙ (λ i. record { found = parametrics_mentions ps []; bound = append-nil (parametric_names ps) i })

-- ---- what a `config` makes

config_statement_in_turn : (s : ConfigStatement) (w : MentionWalk) → config_statement_walk s w ≡ mentioning (config_statement_mentions s) w
config_statement_in_turn (config_statement.Channel x) w =
    if_in_turn (option_map mentioned_in_arg x.depth) (mentioning (mentioned_in_type x.word) w)
    ∙ same (mentions_if (option_map mentioned_in_arg x.depth)) (arg_if x.depth) (mentioning (mentioned_in_type x.word) w) (arg_there x.depth)
    ∙ two (mentioned_in_type x.word) (arg_if x.depth) w
config_statement_in_turn (config_statement.Spawn s) w =
    ap (mentioning_all (map mentioned_in_arg s.arguments)) (named AsProc s.target.name w)
    ∙ flat_in_turn mentioned_in_arg s.arguments (mentioning (λ bound. mention AsProc s.target.name) w)
    ∙ two (λ bound. mention AsProc s.target.name) (λ bound. flat_map (λ a. mentioned_in_arg a bound) s.arguments) w

config_in_turn : (ss : List ConfigStatement) (w : MentionWalk) → config_walk ss w ≡ mentioning (λ bound. flat_map (λ s. config_statement_mentions s bound) ss) w
config_in_turn [] w = nothing w
config_in_turn (s ∷ ss) w =
    ap (config_walk ss) (config_statement_in_turn s w) ∙ config_in_turn ss (mentioning (config_statement_mentions s) w)
    ∙ two (config_statement_mentions s) (λ bound. flat_map (λ x. config_statement_mentions x bound) ss) w

-- ---- each kind of item

function_found : (f : Function) → (function_walk f starts).found ≡ definition_mentions (d.Function f)
unfolding binding mentioning
function_found f =
    ap (λ (w : MentionWalk). (mentioning (mentioned_in_block f.body) (binding (field_names f.arguments) w)).found)
    (ap (λ (w : MentionWalk). mentioning_if (option_map mentioned_in_type f.result) (mentioning_all (map in_field_type f.arguments) w)) (parametrics_open f.parametrics)
    ∙ ap (mentioning_if (option_map mentioned_in_type f.result)) (flat_in_turn in_field_type f.arguments (opened f.parametrics))
    ∙ type_in_turn f.result (mentioning (fields_mentions f.arguments) (opened f.parametrics)))

interface_in_turn : (p : Proc) → interface_walk p starts ≡ mentioning (ends_mentions p.config.ends) (mentioning (ends_mentions p.members) (opened p.parametrics))
interface_in_turn p =
    ap (λ (w : MentionWalk). mentioning_all (map in_end p.config.ends) (mentioning_all (map in_end p.members) w)) (parametrics_open p.parametrics)
    ∙ ap (mentioning_all (map in_end p.config.ends)) (flat_in_turn in_end p.members (opened p.parametrics))
    ∙ flat_in_turn in_end p.config.ends (mentioning (ends_mentions p.members) (opened p.parametrics))

proc_found : (p : Proc) → (proc_walk p starts).found ≡ proc_mentions p
unfolding binding mentioning
proc_found p =
    ap (λ (w : MentionWalk). (mentioning (mentioned_in_block p.next.body) (binding (p.next.state.name ∷ []) (mentioning (mentioned_in_type p.next.ty) (mentioning (mentioned_in_block p.init) w)))).found)
    (ap (config_walk p.config.config_statements) (interface_in_turn p)
    ∙ config_in_turn p.config.config_statements (mentioning (ends_mentions p.config.ends) (mentioning (ends_mentions p.members) (opened p.parametrics))))

constant_found : (x : Constant) → (constant_walk x starts).found ≡ definition_mentions (d.Constant x)
unfolding mentioning
constant_found x = ap (λ (w : MentionWalk). (mentioning (mentioned x.value) w).found) (type_in_turn x.ty starts)

enum_found : (e : Enum) → (enum_walk e starts).found ≡ definition_mentions (d.Enum e)
unfolding mentioning
enum_found e = ap (λ (w : MentionWalk). w.found) (flat_in_turn in_member e.members (mentioning (mentioned_in_type e.base) starts))

pub item_found : (x : Definition) → (definition_walk x starts).found ≡ definition_mentions x
unfolding mentioning
item_found (d.Function f) = function_found f
item_found (d.Proc p) = proc_found p
item_found (d.Constant x) = constant_found x
item_found (d.Alias a) = refl
item_found (d.Struct s) = ap (λ (w : MentionWalk). w.found) (flat_in_turn in_field_type s.fields starts)
item_found (d.Enum e) = enum_found e

-- of an expression by itself
pub expr_found : (e : Expr) → (mentioning (mentioned e) starts).found ≡ mentioned e []
unfolding mentioning
expr_found e = refl
