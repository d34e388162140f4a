-- Calls of functions, from what their parametric arguments and their operands came to.
use Rattle.std.specs.Prelude.{List, [], ◌∷◌, ◌++◌, ◌≡◌, ◌==◌, ◌&&◌, Option, Some, None, not, nat_lt, drop, length, if◌then◌else◌}
use Rattle.std.specs.List.{AllByRecursion}
use Rattle.xb_span.specs.declared.fault.Fault.{Fault}
use Rattle.xb_span.specs.declared.span.Span.{Span}
use Rattle.dslx_tree.specs.declared.ident.Ident.{Ident}
use Rattle.dslx_tree.specs.declared.item.Function.{Function}
use Rattle.dslx_meaning.specs.Items.{as_function, item_named}
use Rattle.dslx_meaning.specs.Rules.CallRules.{ParametricArgument as GivenSeen, ParametricArgsSeen, call_parametric_args, call_parts_faults, call_parts_reached, call_type, callee_size, is_refused, reached_by, signature_seen, typing_there, wrong_call}
use Rattle.dslx_meaning.specs.Rules.RuleNumbers as rule
use Rattle.dslx_meaning.specs.Rules.TypeEnvs.{GlobalEnv, Judgement, TypeEnv, breaks, breaks_if, one_and, plus_size, settled, size_of_all, types_of}
use Rattle.dslx_check_rules.specs.declared.typing.Typing.{Typing}
use Rattle.dslx_check_facts.specs.declared.facts.Facts.{Facts}
use Rattle.dslx_check_facts.specs.declared.type_env.TypeEnv.{TypeEnv as CodeEnv}
use Rattle.dslx_check_facts.specs.Judged.{Comes, environment}
use Rattle.dslx_check_facts.specs.Known.{item_names}
use Rattle.dslx_check_facts.specs.Walks.{WalkShown, WalkGrows, instances_at}
use Rattle.dslx_check_rules.specs.declared.nodes.parts.Spanned.{Spanned}
use Rattle.dslx_check_rules.specs.Nodes.Parts.{ArePlaced, IsPart, Placed, judgements}
use Rattle.dslx_check_rules.specs.declared.control.calls.ParametricArgument.{ParametricArgument}
use Rattle.dslx_check_rules.specs.Control.Calls.{AreGiven, misfits}

-- a call from what its parametric arguments and its operands came to: what it reaches itself comes behind what they reach
pub record CallFrom (f : Facts) (s : CodeEnv) (old new : WalkShown) (given : List ParametricArgument) (operands : List Spanned) (j : Typing)
    (half : TypeEnv → List GivenSeen → List Placed → Judgement) : Type 0 where
  pub grows : WalkGrows old new
  pub comes : Comes f s old new (λ known later. (gs : List GivenSeen) (xs : List Placed) → AreGiven (item_names f) old.rows later.rows given gs → ArePlaced (item_names f) old.rows later.rows operands xs
      → IsPart (item_names f) new.rows later.rows j (half (environment f s known later) gs xs)
      × (call_parts_reached gs (judgements xs) ++ instances_at (item_names f) later.met (drop (length old.reached) new.reached) ≡ (half (environment f s known later) gs xs).reached))

-- ---- calls by their parts

abbrev pub right_call_by : Span → GlobalEnv → Function → List GivenSeen → List Placed → List Fault → ParametricArgsSeen → Judgement
right_call_by span known f given xs cyclic parametric_args =
    let js = judgements xs in
    let declared = typing_there cyclic parametric_args in
    settled span (call_type known f parametric_args js)
    (call_parts_faults given js ++ cyclic ++ parametric_args.faults ++ declared.faults ++ breaks_if parametric_args.is_wrong rule.ARGUMENTS_FIT span
    ++ (if parametric_args.is_wrong then [] else misfits (signature_seen known f.name.name parametric_args).arguments xs))
    (call_parts_reached given js ++ declared.reached ++ reached_by (is_refused cyclic parametric_args) f.name.name parametric_args.values)
    (one_and (plus_size (size_of_all js) (callee_size known f.name.name parametric_args.values)))

abbrev pub call_if : Span → TypeEnv → Ident → List GivenSeen → List Placed → Option Function → Judgement
call_if span context name given xs None =
    settled span None (call_parts_faults given (judgements xs) ++ breaks rule.NAME_IS_DECLARED name.span ∷ []) (call_parts_reached given (judgements xs)) None
call_if span context name given xs (Some f) =
    let cyclic = breaks_if (context.known.is_cyclic context.owner name.name) rule.NO_ITEM_REACHES_ITSELF span in
    if length xs == length f.arguments && not (nat_lt (length f.parametrics) (length given)) then
    right_call_by span context.known f given xs cyclic (call_parametric_args context.known f given (types_of (judgements xs)))
    else wrong_call span given (judgements xs) cyclic

abbrev pub call_by_parts : Span → Ident → TypeEnv → List GivenSeen → List Placed → Judgement
call_by_parts span name context given xs = call_if span context name given xs (as_function (item_named name.name context.known.whole.items))
