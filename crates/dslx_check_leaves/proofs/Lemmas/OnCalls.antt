-- Calls of builtins and effects by what their operands are.
use Rattle.std.proofs.Common.{◌≡◌, ◌<◌, ◌≤◌, ◌++◌, ◌∙◌, ℕ, suc, arith, length, List, [], ◌∷◌, Bool, true, false, Option, Some, None, map, append_assoc, refl, sym, ap}
use Rattle.std.specs.Prelude.{if◌then◌else◌, ◌==◌, ◌&&◌, nat_lt, not}
use Rattle.xb_span.specs.declared.span.Span.{Span}
use Rattle.xb_span.specs.declared.fault.Fault.{Fault}
use Rattle.dslx_tree.specs.declared.expr.Arg.{Arg, out-Arg}
use Rattle.dslx_tree.specs.declared.expr.Expr.{Expr, out-Expr}
use Rattle.dslx_tree.specs.declared.ident.Ident.{Ident}
use Rattle.dslx_tree.specs.declared.item.Function.{Function}
use Rattle.dslx_meaning.specs.Callees.{CallKind}
use Rattle.dslx_meaning.specs.Items.{as_function, item_named}
use Rattle.dslx_meaning.specs.declared.ty.DslxType as ty
use Rattle.dslx_meaning.specs.declared.ty.DslxType.{DslxType}
use Rattle.dslx_meaning.specs.Rules.TypeEnvs.{ExprPair, GlobalEnv, Judgement, TypeEnv, all_alone, alone, breaks, breaks_if, faults_of_all, one_and, plus_size, reached_of_all, settled, size_of_all, types_of}
use Rattle.dslx_meaning.specs.Rules.AggregateRules.{wanted_faults, when_all}
use Rattle.dslx_meaning.specs.Rules.ConstantRules.{constant_of}
use Rattle.dslx_meaning.specs.Rules.RuleNumbers as rule
use Rattle.dslx_meaning.specs.Rules.CallRules.{ParametricArgument, builtin_typing, call_parametric_args, call_parts_faults, call_parts_reached, call_type, callee_size, function_call, given_parametric_args, is_refused, joining, operand_faults, reached_by, signature_seen, token_typing, typing_there, updating, wrong_call}
use Rattle.base.specs.Lists.Prefix.{IsPrefix}
use Rattle.dslx_check_rules.specs.declared.table.row.TypeRow.{TypeRow}
use Rattle.dslx_check_rules.specs.declared.typing.Typing.{Typing}
use Rattle.dslx_check_rules.specs.Interned.{ItemNames}
use Rattle.dslx_check_facts.specs.declared.facts.Facts.{Facts}
use Rattle.dslx_check_facts.specs.declared.type_env.TypeEnv.{TypeEnv as CodeEnv}
use Rattle.dslx_check_facts.specs.Judged.{environment}
use Rattle.dslx_check_facts.specs.Known.{FactsHold, item_names}
use Rattle.dslx_check_facts.specs.Walks.{WalkShown, instances_at}
use Rattle.dslx_check_facts.proofs.Lemmas.Walks.{grows_refl}
use Rattle.dslx_check_rules.specs.declared.nodes.parts.Spanned.{Spanned}
use Rattle.dslx_check_rules.specs.Nodes.Parts.{ArePlaced, IsPart, Placed, judgements}
use Rattle.dslx_check_rules.specs.declared.control.calls.ParametricArgument.{ParametricArgument as Given}
use Rattle.dslx_check_leaves.specs.Named.Constants.{expr_typed}
use Rattle.dslx_check_leaves.proofs.Lemmas.Fits.Levels.{typed}
use Rattle.dslx_check_leaves.proofs.Lemmas.Walking.{all_dropped}
use Rattle.dslx_check_rules.specs.Control.Calls.{AreGiven, counting_of, misfits, updating_of}
use Rattle.dslx_check_rules.specs.Control.Effects.{joining_of}
use Rattle.dslx_check_leaves.specs.Typed.{builtin_by, counting_at, function_at, given_at, placed, placed_token}
use Rattle.dslx_check_uses.specs.Called.{CallFrom, call_by_parts, call_if}
use Rattle.dslx_check_leaves.specs.Walked.{all_reached, reached_there}
use Rattle.dslx_check_leaves.proofs.Lemmas.Each.{append_nil}
use Rattle.dslx_check_leaves.proofs.Lemmas.Scopes.{arg_level}

-- what parts at their places are, without the places
pub alone_are : (env : TypeEnv) (es : List Expr) → judgements (map (placed env) es) ≡ all_alone env (map expr_typed es)
alone_are env [] = refl
alone_are env (e ∷ es) = ap (λ js. alone env (expr_typed e) ∷ js) (alone_are env es)

tokens_are : (env : TypeEnv) (es : List Expr) → judgements (map (placed_token env) es) ≡ map (token_typing env) (map expr_typed es)
tokens_are env [] = refl
tokens_are env (e ∷ es) = ap (λ js. token_typing env (expr_typed e) ∷ js) (tokens_are env es)

pub places_reach : (xs : List Placed) → reached_of_all (judgements xs) ≡ all_reached reached_there xs
places_reach [] = refl
places_reach (x ∷ xs) = ap (λ ys. x.judgement.reached ++ ys) (places_reach xs)

pub joining_is : (span : Span) (es : List Expr) → ◌≡◌ {A = TypeEnv → Judgement} (λ env. joining_of span (map (placed_token env) es)) (λ env. joining span env (map expr_typed es))
joining_is span es = λ i env. let js = tokens_are env es i in settled span (when_all (types_of js) (Some ty.Token)) (faults_of_all js) (reached_of_all js) (one_and (size_of_all js))

pub counting_is : (gives_bool : Bool) (span : Span) (es : List Expr) → ◌≡◌ {A = TypeEnv → Judgement} (λ env. counting_of span gives_bool (map (placed env) es)) (λ env. counting_at gives_bool span es env)
counting_is true span [] = refl
counting_is false span [] = refl
counting_is true span (e ∷ []) = refl
counting_is false span (e ∷ []) = refl
counting_is gives_bool span (e ∷ d ∷ es) = by gives_bool
  where
    by : (b : Bool) → ◌≡◌ {A = TypeEnv → Judgement} (λ env. counting_of span b (map (placed env) (e ∷ d ∷ es))) (λ env. counting_at b span (e ∷ d ∷ es) env)
    by true = λ i env. wrong_of env (alone_are env (e ∷ d ∷ es) i)
      where
        wrong_of : TypeEnv → List Judgement → Judgement
        wrong_of env js = settled span None (faults_of_all js ++ breaks rule.ARGUMENTS_FIT span ∷ []) (reached_of_all js) None
    by false = λ i env. wrong_of env (alone_are env (e ∷ d ∷ es) i)
      where
        wrong_of : TypeEnv → List Judgement → Judgement
        wrong_of env js = settled span None (faults_of_all js ++ breaks rule.ARGUMENTS_FIT span ∷ []) (reached_of_all js) None

-- ---- arguments

pub args_are : (env : TypeEnv) (as' : List Arg) → given_parametric_args env (map typed.arg as') ≡ map (given_at env) as'
args_are env [] = refl
args_are env (a ∷ as') = λ i. given_by env (arg_level a i) ∷ args_are env as' i
  where
    given_by : TypeEnv → ExprPair → ParametricArgument
    given_by env e = record { span = (out-Expr e.0).span; seen = constant_of env e }

-- ---- what calls of builtins reach

pub counting_reached : (span : Span) (gives_bool : Bool) (xs : List Placed) → (counting_of span gives_bool xs).reached ≡ all_reached reached_there xs
counting_reached span gives_bool [] = refl
counting_reached span gives_bool (x ∷ []) = sym (append_nil x.judgement.reached)
counting_reached span gives_bool (x ∷ y ∷ xs) = places_reach (x ∷ y ∷ xs)

pub updating_reached : (span : Span) (xs : List Placed) → (updating_of span xs).reached ≡ all_reached reached_there xs
updating_reached span [] = refl
updating_reached span (a ∷ []) = places_reach (a ∷ [])
updating_reached span (a ∷ b ∷ []) = places_reach (a ∷ b ∷ [])
updating_reached span (a ∷ b ∷ c ∷ []) = append_assoc a.judgement.reached b.judgement.reached c.judgement.reached ∙ ap (λ ys. a.judgement.reached ++ (b.judgement.reached ++ ys)) (sym (append_nil c.judgement.reached))
updating_reached span (a ∷ b ∷ c ∷ d ∷ xs) = places_reach (a ∷ b ∷ c ∷ d ∷ xs)

pub updating_is : (span : Span) (es : List Expr) → ◌≡◌ {A = TypeEnv → Judgement} (λ env. updating_of span (map (placed env) es)) (λ env. updating span (map expr_typed es) (all_alone env (map expr_typed es)))
updating_is span [] = refl
updating_is span (a ∷ []) = refl
updating_is span (a ∷ b ∷ []) = refl
updating_is span (a ∷ b ∷ c ∷ []) = refl
updating_is span (a ∷ b ∷ c ∷ d ∷ es) = λ i env. wrong_of (alone_are env (a ∷ b ∷ c ∷ d ∷ es) i)
  where
    wrong_of : List Judgement → Judgement
    wrong_of js = settled span None (faults_of_all js ++ breaks rule.ARGUMENTS_FIT span ∷ []) (reached_of_all js) None

-- ---- calls of functions

misfits_are : (env : TypeEnv) (ts : List (Option DslxType)) (es : List Expr) → misfits ts (map (placed env) es) ≡ operand_faults ts (map expr_typed es) (all_alone env (map expr_typed es))
misfits_are env [] [] = refl
misfits_are env [] (e ∷ es) = refl
misfits_are env (t ∷ ts) [] = refl
misfits_are env (t ∷ ts) (e ∷ es) = ap (λ fs. wanted_faults (out-Expr e).span t (alone env (expr_typed e)).ty ++ fs) (misfits_are env ts es)

as_many : (env : TypeEnv) (es : List Expr) → length (map (placed env) es) ≡ length (map expr_typed es)
as_many env [] = refl
as_many env (e ∷ es) = ap (λ n. suc n) (as_many env es)

pub call_parts_are : (span : Span) (name : Ident) (args : List Arg) (es : List Expr)
    → ◌≡◌ {A = TypeEnv → Judgement} (λ env. call_by_parts span name env (map (given_at env) args) (map (placed env) es)) (λ env. function_at span name args es env)
call_parts_are span name args es = λ i env. by env (as_function (item_named name.name env.known.whole.items)) i
  where
    undeclared : List ParametricArgument → List Judgement → Judgement
    undeclared gs js = settled span None (call_parts_faults gs js ++ breaks rule.NAME_IS_DECLARED name.span ∷ []) (call_parts_reached gs js) None

    declared_by : TypeEnv → Function → List ParametricArgument → ℕ → List Judgement → (List (Option DslxType) → List Fault) → Judgement
    declared_by env f gs count js misfit =
        let cyclic = breaks_if (env.known.is_cyclic env.owner name.name) rule.NO_ITEM_REACHES_ITSELF span in
        let given_args = call_parametric_args env.known f gs (types_of js) in
        let there = typing_there cyclic given_args in
        if count == length f.arguments && not (nat_lt (length f.parametrics) (length gs)) then
        settled span (call_type env.known f given_args js)
        (call_parts_faults gs js ++ cyclic ++ given_args.faults ++ there.faults ++ breaks_if given_args.is_wrong rule.ARGUMENTS_FIT span
        ++ (if given_args.is_wrong then [] else misfit (signature_seen env.known f.name.name given_args).arguments))
        (call_parts_reached gs js ++ there.reached ++ reached_by (is_refused cyclic given_args) f.name.name given_args.values)
        (one_and (plus_size (size_of_all js) (callee_size env.known f.name.name given_args.values)))
        else wrong_call span gs js cyclic

    by : (env : TypeEnv) (d : Option Function) → call_if span env name (map (given_at env) args) (map (placed env) es) d ≡ function_call span env name (map (given_at env) args) (map expr_typed es) (all_alone env (map expr_typed es)) d
    by env None = λ i. undeclared (map (given_at env) args) (alone_are env es i)
    by env (Some f) = λ i. declared_by env f (map (given_at env) args) (as_many env es i) (alone_are env es i) (λ ts. misfits_are env ts es i)

-- ---- calls of builtins by what is given

pub builtin_none : (kind : CallKind) (span : Span) (args : List Arg) (operands : List Expr) → length args < 1
    → ◌≡◌ {A = TypeEnv → Judgement} (λ env. builtin_typing kind span (map expr_typed operands) env) (λ env. builtin_by kind span env (map (given_at env) args) (map expr_typed operands))
builtin_none kind span [] operands h = refl
builtin_none kind span (a ∷ args) operands h = absurd (omega (arith, h))

pub builtin_some : (kind : CallKind) (span : Span) (args : List Arg) (operands : List Expr) → 1 ≤ length args
    → ◌≡◌ {A = TypeEnv → Judgement} (λ env. wrong_call span (map (given_at env) args) (all_alone env (map expr_typed operands)) []) (λ env. builtin_by kind span env (map (given_at env) args) (map expr_typed operands))
builtin_some kind span [] operands h = absurd (omega (arith, h))
builtin_some kind span (a ∷ args) operands h = refl

pub refused_is : (span : Span) (args : List Arg) (es : List Expr)
    → ◌≡◌ {A = TypeEnv → Judgement} (λ env. wrong_call span (map (given_at env) args) (judgements (map (placed env) es)) []) (λ env. wrong_call span (map (given_at env) args) (all_alone env (map expr_typed es)) [])
refused_is span args es = λ i env. wrong_call span (map (given_at env) args) (alone_are env es i) []

-- a call that is refused, whatever its parts are
pub refused_from : {f : Facts} {s : CodeEnv} {w : WalkShown} {span : Span} {given : List Given} {operands : List Spanned} {j : Typing}
    → ((names : ItemNames) (later : List TypeRow) (gs : List ParametricArgument) (xs : List Placed) → IsPrefix w.rows later → AreGiven names w.rows later given gs → ArePlaced names w.rows later operands xs
    → IsPart names w.rows later j (wrong_call span gs (judgements xs) []))
    → CallFrom f s w w given operands j (λ env gs xs. wrong_call span gs (judgements xs) [])
refused_from {f} {s} {w} {span} {given} {operands} {j} typed = record {
  grows = grows_refl w;
  comes = λ known later has holds rows missing gs xs are placed.
      let names = item_names f in
      let cpr = call_parts_reached gs (judgements xs) in
      (typed names later.rows gs xs has.rows are placed, ap (λ l. cpr ++ instances_at names later.met l) (all_dropped w.reached) ∙ append_nil cpr);
}
