-- Calls: what the definitions say at the top is what the walk says of the parts.
use Rattle.std.proofs.Common.{◌≡◌, ◌∙◌, [], ◌∷◌, List, Bool, map, refl, sym, ap}
use Rattle.xb_span.specs.declared.span.Span.{Span}
use Rattle.dslx_tree.specs.declared.block.Stmt.TheOpen.{Node-F}
use Rattle.dslx_tree.specs.declared.expr.Arg.{Arg}
use Rattle.dslx_tree.specs.declared.expr.Expr.{Expr, out-Expr}
use Rattle.dslx_tree.specs.declared.expr.Node.{roll-Node}
use Rattle.dslx_tree.specs.declared.ident.Ident.{Ident}
use Rattle.dslx_meaning.specs.Callees.{CallKind, Calls, Receives, ReceivesIf, Sends, SendsIf, Joins, CountsLeading, CountsTrailing, Reverses, AllOnes, SomeOne, Parity, Updates, kind_of_call}
use Rattle.dslx_meaning.specs.Items.{as_function, item_named}
use Rattle.dslx_meaning.specs.Rules.CallRules.{ParametricArgument, call_typing, function_call, only_on_top, wrong_effect}
use Rattle.dslx_meaning.specs.Rules.TypeEnvs.{Judgement, TypeEnv, all_alone}
use Rattle.dslx_check_leaves.specs.Named.Constants.{expr_typed}
use Rattle.dslx_check_leaves.proofs.Lemmas.Fits.Levels.{typed}
use Rattle.dslx_check_leaves.specs.Typed.{builtin_by, call_at}
use Rattle.dslx_check_leaves.proofs.Lemmas.Levels.{expr_at}
use Rattle.dslx_check_leaves.proofs.Lemmas.OnCalls.{args_are}
use Rattle.dslx_check_leaves.proofs.Lemmas.OnEffects.{receives_if_is, receives_is, sends_if_is, sends_is}

-- a call of each kind
call_is : (kind : CallKind) (span : Span) (name : Ident) (args : List Arg) (operands : List Expr) (on_top : Bool) (env : TypeEnv)
    → call_at kind span name args operands on_top env ≡ call_typing kind span name (map typed.arg args) (map expr_typed operands) on_top env
call_is Receives span name [] operands on_top env = ap (only_on_top on_top span) (receives_is span env operands)
call_is ReceivesIf span name [] operands on_top env = ap (only_on_top on_top span) (receives_if_is span env operands)
call_is Sends span name [] operands on_top env = ap (only_on_top on_top span) (sends_is span env operands)
call_is SendsIf span name [] operands on_top env = ap (only_on_top on_top span) (sends_if_is span env operands)
call_is Joins span name [] operands on_top env = refl
call_is CountsLeading span name [] operands on_top env = refl
call_is CountsTrailing span name [] operands on_top env = refl
call_is Reverses span name [] operands on_top env = refl
call_is AllOnes span name [] operands on_top env = refl
call_is SomeOne span name [] operands on_top env = refl
call_is Parity span name [] operands on_top env = refl
call_is Updates span name [] operands on_top env = refl
call_is Receives span name (a ∷ args) operands on_top env = ap (λ gs. only_on_top on_top span (wrong_effect span env gs (map expr_typed operands))) (sym (args_are env (a ∷ args)))
call_is ReceivesIf span name (a ∷ args) operands on_top env = ap (λ gs. only_on_top on_top span (wrong_effect span env gs (map expr_typed operands))) (sym (args_are env (a ∷ args)))
call_is Sends span name (a ∷ args) operands on_top env = ap (λ gs. only_on_top on_top span (wrong_effect span env gs (map expr_typed operands))) (sym (args_are env (a ∷ args)))
call_is SendsIf span name (a ∷ args) operands on_top env = ap (λ gs. only_on_top on_top span (wrong_effect span env gs (map expr_typed operands))) (sym (args_are env (a ∷ args)))
call_is Joins span name (a ∷ args) operands on_top env = ap (λ gs. builtin_by Joins span env gs (map expr_typed operands)) (sym (args_are env (a ∷ args)))
call_is CountsLeading span name (a ∷ args) operands on_top env = ap (λ gs. builtin_by CountsLeading span env gs (map expr_typed operands)) (sym (args_are env (a ∷ args)))
call_is CountsTrailing span name (a ∷ args) operands on_top env = ap (λ gs. builtin_by CountsTrailing span env gs (map expr_typed operands)) (sym (args_are env (a ∷ args)))
call_is Reverses span name (a ∷ args) operands on_top env = ap (λ gs. builtin_by Reverses span env gs (map expr_typed operands)) (sym (args_are env (a ∷ args)))
call_is AllOnes span name (a ∷ args) operands on_top env = ap (λ gs. builtin_by AllOnes span env gs (map expr_typed operands)) (sym (args_are env (a ∷ args)))
call_is SomeOne span name (a ∷ args) operands on_top env = ap (λ gs. builtin_by SomeOne span env gs (map expr_typed operands)) (sym (args_are env (a ∷ args)))
call_is Parity span name (a ∷ args) operands on_top env = ap (λ gs. builtin_by Parity span env gs (map expr_typed operands)) (sym (args_are env (a ∷ args)))
call_is Updates span name (a ∷ args) operands on_top env = ap (λ gs. builtin_by Updates span env gs (map expr_typed operands)) (sym (args_are env (a ∷ args)))
call_is Calls span name args operands on_top env = ap (λ gs. function_by gs) (sym (args_are env args))
  where
    function_by : List ParametricArgument → Judgement
    function_by gs = function_call span env name gs (map expr_typed operands) (all_alone env (map expr_typed operands)) (as_function (item_named name.name env.known.whole.items))

pub call_top : (e : Expr) (on_top : Bool) (name : Ident) (args : List Arg) (operands : List Expr) → (out-Expr e).node ≡ roll-Node (Node-F.Call name args operands)
    → ◌≡◌ {A = TypeEnv → Judgement} (λ env. call_at (kind_of_call name.name) (out-Expr e).span name args operands on_top env) (λ env. (expr_typed e).1 on_top env)
call_top e on_top name args operands is = (λ i env. call_is (kind_of_call name.name) (out-Expr e).span name args operands on_top env i) ∙ expr_at e on_top (Node-F.Call name args operands) is
