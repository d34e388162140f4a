-- Constants: which names are bound around them, what they are evaluated with, and what they come to.
use Rattle.std.specs.Prelude.{ℕ, List, [], ◌∷◌, ◌≡◌, ◌≤◌, ◌&&◌, ◌||◌, not, map, length, drop, Bool, true, false, Option, Some, None, if◌then◌else◌}
use Rattle.std.specs.List.{list_all, list_any}
use Rattle.dslx_tree.specs.declared.expr.Expr.{Expr}
use Rattle.dslx_meaning.specs.Lists.{is_in}
use Rattle.dslx_meaning.specs.Environment.{Given}
use Rattle.dslx_meaning.specs.Meaning.{value_of}
use Rattle.dslx_meaning.specs.declared.value.DslxValue.{DslxValue}
use Rattle.dslx_meaning.specs.declared.value.UntypedLiteral.{UntypedLiteral}
use Rattle.dslx_meaning.specs.Rules.ConstantRules.{ConstantSeen, untyped_typing}
use Rattle.dslx_meaning.specs.Rules.Mentions.{mentioned, names_mentioned}
use Rattle.dslx_meaning.specs.Rules.Namesakes.{told_apart}
use Rattle.dslx_meaning.specs.Rules.NodeRules.{expr_pair}
use Rattle.dslx_meaning.specs.Rules.TypeEnvs.{ExprPair, Judgement, TypeEnv}
use Rattle.dslx_meaning.specs.Names.ConstMachine.Kept.{kept_within}
use Rattle.dslx_const_tasks.specs.Values.{values_kept}
use Rattle.dslx_check_rules.specs.declared.typing.Typing.{Typing}
use Rattle.dslx_check_rules.specs.declared.nodes.parts.ConstantTyping.{ConstantTyping}
use Rattle.dslx_check_rules.specs.Nodes.Parts.{IsConstant, IsPart}
use Rattle.dslx_check_facts.specs.Bound.{bound_names}
use Rattle.dslx_check_facts.specs.Judged.{Comes, environment}
use Rattle.dslx_check_facts.specs.Known.{is_settled, item_names, text_of}
use Rattle.dslx_check_facts.specs.Names.{MentionNoMark}
use Rattle.dslx_check_facts.specs.TypeEnvs.{given_of}
use Rattle.dslx_check_facts.specs.Walks.{WalkShown, WalkGrows, instances_at}
use Rattle.dslx_check_facts.specs.declared.facts.Facts.{Facts}
use Rattle.dslx_check_facts.specs.declared.type_env.TypeEnv.{TypeEnv as CodeEnv}

-- an expression beside its judgement
abbrev pub expr_typed : Expr → ExprPair
expr_typed e = (e, (expr_pair e).1)

-- a number without a type where it may stand so
abbrev pub untyped_found : UntypedLiteral → ConstantSeen
untyped_found number = record { judgement = untyped_typing; bare = Some number; value = None }

-- a local binding is bound by this name: a bound name or a member, which hides no parametric
abbrev pub is_local_name : CodeEnv → List ℕ → Bool
is_local_name s name = is_in name (bound_names s.locals) || (is_in name (bound_names s.members) && not (is_in name (bound_names s.parametric_args)))

abbrev pub some_local : CodeEnv → List (List ℕ) → Bool
some_local s names = list_any (is_local_name s) names

-- the parametrics that no bound name hides
abbrev pub unless_hidden : List (List ℕ) → Given → List Given → List Given
unless_hidden hidden g gs = if is_in g.name hidden then gs else g ∷ gs

abbrev pub unhidden_by : List (List ℕ) → List Given → List Given
unhidden_by hidden [] = []
unhidden_by hidden (g ∷ gs) = unless_hidden hidden g (unhidden_by hidden gs)

abbrev pub args_in_scope : CodeEnv → List Given
args_in_scope s = unhidden_by (bound_names s.locals) (map given_of s.parametric_args)

-- the value of an expression by the values of constants and members that are kept
abbrev pub kept_value : Facts → CodeEnv → Expr → Option DslxValue
kept_value f s e = value_of e (record { items = kept_within (values_kept f.kept) (text_of f) (length (text_of f).items); bound = args_in_scope s })

-- it is the value of an expression that mentions only items that are known with all that they mention, and no name with a mark
pub record IsKeptValue (f : Facts) (s : CodeEnv) (e : Expr) (v : Option DslxValue) : Type 0 where
  pub value : v ≡ kept_value f s e
  pub settled : list_all (is_settled f) (names_mentioned (told_apart (text_of f)) (mentioned e [])) ≡ true
  pub plain : MentionNoMark (mentioned e [])

-- it is that, if the expression is evaluated, or none
abbrev pub IsKeptValueIf : Bool → Facts → CodeEnv → Expr → Option DslxValue → Type 0
IsKeptValueIf true f s e v = IsKeptValue f s e v
IsKeptValueIf false f s e v = v ≡ None

-- without a value it has no type, and no size
abbrev pub if_valued : Bool → Typing → Typing
if_valued true typing = typing
if_valued false typing = record { ty = None; faults = typing.faults; size = None }

-- what a constant comes to, from what its expression came to, which reached what was reached from this place on, where so much was missing
-- before it
pub record ConstantFrom (f : Facts) (s : CodeEnv) (old new : WalkShown) (from missing : ℕ) (inner : Typing) (judged : TypeEnv → Judgement) (found : TypeEnv → ConstantSeen) (c : ConstantTyping) : Type 0 where
  pub grows : WalkGrows old new
  pub reached : new.reached ≡ old.reached
  pub comes : missing ≤ length old.missing → Comes f s old new (λ known later. IsPart (item_names f) old.rows later.rows inner (judged (environment f s known later))
      → instances_at (item_names f) later.met (drop from old.reached) ≡ (judged (environment f s known later)).reached
      → IsConstant (item_names f) new.rows later.rows c (found (environment f s known later)))
