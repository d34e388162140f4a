-- Blocks, statements, patterns and the parts of nodes that are no expressions, by what stands at their tops.
use Rattle.std.proofs.Common.{◌≡◌, ◌∙◌, ◌++◌, [], ◌∷◌, List, Bool, Option, Some, None, map, refl, sym, ap}
use Rattle.std.specs.Option.{option_map}
use Rattle.xb_span.specs.declared.span.Span.{Span}
use Rattle.dslx_tree.specs.declared.block.Stmt.TheOpen.{Stmt-F}
use Rattle.dslx_tree.specs.declared.block.Stmt.TheFolds.{fold_out-Block, fold_out-Let, fold_out-FieldValue, fold_out-Arm, fold_out-Arg}
use Rattle.dslx_tree.specs.declared.block.Block.{Block, out-Block}
use Rattle.dslx_tree.specs.declared.block.Let.{Let, out-Let}
use Rattle.dslx_tree.specs.declared.block.Stmt.{Stmt, roll-Stmt}
use Rattle.dslx_tree.specs.declared.expr.Arg.{Arg, out-Arg}
use Rattle.dslx_tree.specs.declared.expr.Arm.{Arm, out-Arm}
use Rattle.dslx_tree.specs.declared.expr.Expr.{Expr}
use Rattle.dslx_tree.specs.declared.expr.FieldValue.{FieldValue, out-FieldValue}
use Rattle.dslx_tree.specs.declared.type_expr.TypeExpr.{TypeExpr}
use Rattle.dslx_tree.proofs.Lemmas.Folds.Levels.{StmtLevel, trees, map_arm, map_arg, map_block, map_bind, map_field, map_stmt}
use Rattle.dslx_tree.proofs.Lemmas.Folds.Folds.{fold_arg, fold_arm, fold_bind, fold_field, fold_stmt, fold_stmt-roll}
use Rattle.dslx_meaning.specs.Rules.TypeEnvs.{Judgement, TypeEnv}
use Rattle.dslx_meaning.specs.Rules.Typings.{StatementSeen, StatementTyping}
use Rattle.dslx_meaning.specs.Rules.ControlRules.{block_typing, last_typing, let_typing, statements_typing, stmt_typing}
use Rattle.dslx_meaning.specs.Rules.NodeRules.{arm_seen, field_seen, second_of}
use Rattle.dslx_check_rules.specs.Control.Control.{block_of}
use Rattle.dslx_check_leaves.specs.Named.Constants.{expr_typed}
use Rattle.dslx_check_leaves.specs.Fits.Typed.{arm_typed}
use Rattle.dslx_check_leaves.proofs.Lemmas.Fits.Levels.{own, pairs, steps, typed}
use Rattle.dslx_check_leaves.specs.Typed.{bare_at, block_typed, field_typed, let_at, let_by, stmt_typed}

-- ---- blocks

stmts_are : (ss : List Stmt) → map (λ s. s.1) (map typed.stmt ss) ≡ map stmt_typed ss
stmts_are [] = refl
stmts_are (s ∷ ss) = ap (λ ks. stmt_typed s ∷ ks) (stmts_are ss)

abbrev pub block_by : Span → List Stmt → Option Expr → Bool → TypeEnv → Judgement
block_by span ss v on_top env =
    let walked = statements_typing (map stmt_typed ss) on_top env in
    block_of span walked (last_typing walked.context (option_map expr_typed v))

block_is : (span : Span) (ss : List Stmt) (v : Option Expr) (on_top : Bool) (env : TypeEnv)
    → block_typing (map_block trees pairs typed (record { span = span; statements = ss; value = v })) on_top env ≡ block_by span ss v on_top env
block_is span ss None on_top env = ap (λ (ks : List StatementTyping). block_of span (statements_typing ks on_top env) (last_typing (statements_typing ks on_top env).context None)) (stmts_are ss)
block_is span ss (Some e) on_top env =
    ap (λ (ks : List StatementTyping). block_of span (statements_typing ks on_top env) (last_typing (statements_typing ks on_top env).context (Some (expr_typed e)))) (stmts_are ss)

pub block_at : (b : Block) (on_top : Bool)
    → ◌≡◌ {A = TypeEnv → Judgement} (λ env. block_by (out-Block b).span (out-Block b).statements (out-Block b).value on_top env) (λ env. (block_typed b).1 on_top env)
block_at b on_top = sym (λ i env. (ap (λ p. p.1 on_top env) (fold_out-Block pairs.stmt pairs.node pairs.shape pairs.type_node pairs.block pairs.bind pairs.arg pairs.arm pairs.expr pairs.field pairs.loop pairs.number pairs.pattern pairs.type_expr
    steps.stmt steps.node steps.shape steps.type_node steps.block steps.bind steps.arg steps.arm steps.expr steps.field steps.loop steps.number steps.pattern steps.type_expr b)
    ∙ ap (λ m. block_typing (map_block trees pairs m (out-Block b)) on_top env) own
    ∙ block_is (out-Block b).span (out-Block b).statements (out-Block b).value on_top env) i)

-- ---- statements

stmt_level : (x : StmtLevel trees) → (fold_stmt pairs steps (roll-Stmt x)).1 ≡ stmt_typing (map_stmt trees pairs typed x)
stmt_level x = ap (λ p. p.1) (fold_stmt-roll pairs steps x) ∙ ap (λ m. stmt_typing (map_stmt trees pairs m x)) own

let_level : (l : Let) (on_top : Bool) (env : TypeEnv) → (fold_bind pairs steps l).1 on_top env ≡ let_at l on_top env
let_level l on_top env =
    ap (λ p. p.1 on_top env) (fold_out-Let pairs.stmt pairs.node pairs.shape pairs.type_node pairs.block pairs.bind pairs.arg pairs.arm pairs.expr pairs.field pairs.loop pairs.number pairs.pattern pairs.type_expr
    steps.stmt steps.node steps.shape steps.type_node steps.block steps.bind steps.arg steps.arm steps.expr steps.field steps.loop steps.number steps.pattern steps.type_expr l)
    ∙ ap (λ m. let_typing (map_bind trees pairs m (out-Let l)) on_top env) own ∙ by (out-Let l).ty
  where
    by : (t : Option TypeExpr)
        → let_typing (map_bind trees pairs typed (record { span = (out-Let l).span; pattern = (out-Let l).pattern; ty = t; value = (out-Let l).value })) on_top env ≡ let_by l t on_top env
    by None = refl
    by (Some t) = refl

pub stmt_let : (s : Stmt) (on_top : Bool) (l : Let) → s ≡ roll-Stmt (Stmt-F.Let l) → ◌≡◌ {A = TypeEnv → StatementSeen} (λ env. let_at l on_top env) (λ env. stmt_typed s on_top env)
stmt_let s on_top l is = sym (λ i env. (ap (λ (x : Stmt). stmt_typed x on_top env) is ∙ ap (λ (k : StatementTyping). k on_top env) (stmt_level (Stmt-F.Let l)) ∙ let_level l on_top env) i)

pub stmt_bare : (s : Stmt) (on_top : Bool) (e : Expr) → s ≡ roll-Stmt (Stmt-F.Bare e) → ◌≡◌ {A = TypeEnv → StatementSeen} (λ env. bare_at e on_top env) (λ env. stmt_typed s on_top env)
stmt_bare s on_top e is = sym (λ i env. (ap (λ (x : Stmt). stmt_typed x on_top env) is ∙ ap (λ (k : StatementTyping). k on_top env) (stmt_level (Stmt-F.Bare e))) i)

-- ---- fields, arms and arguments

pub field_level : (f : FieldValue) → (fold_field pairs steps f).1 ≡ field_typed f
field_level f =
    ap (λ p. p.1) (fold_out-FieldValue pairs.stmt pairs.node pairs.shape pairs.type_node pairs.block pairs.bind pairs.arg pairs.arm pairs.expr pairs.field pairs.loop pairs.number pairs.pattern pairs.type_expr
    steps.stmt steps.node steps.shape steps.type_node steps.block steps.bind steps.arg steps.arm steps.expr steps.field steps.loop steps.number steps.pattern steps.type_expr f)
    ∙ ap (λ m. field_seen (map_field trees pairs m (out-FieldValue f))) own ∙ by (out-FieldValue f).value
  where
    by : (v : Option Expr) → field_seen (map_field trees pairs typed (record { name = (out-FieldValue f).name; value = v })) ≡ record { name = (out-FieldValue f).name; value = option_map expr_typed v }
    by None = refl
    by (Some e) = refl

pub fields_are : (fs : List FieldValue) → map second_of (map typed.field fs) ≡ map field_typed fs
fields_are [] = refl
fields_are (f ∷ fs) = λ i. field_level f i ∷ fields_are fs i

pub arm_level : (a : Arm) → (fold_arm pairs steps a).1 ≡ arm_typed a
arm_level a =
    ap (λ p. p.1) (fold_out-Arm pairs.stmt pairs.node pairs.shape pairs.type_node pairs.block pairs.bind pairs.arg pairs.arm pairs.expr pairs.field pairs.loop pairs.number pairs.pattern pairs.type_expr
    steps.stmt steps.node steps.shape steps.type_node steps.block steps.bind steps.arg steps.arm steps.expr steps.field steps.loop steps.number steps.pattern steps.type_expr a)
    ∙ ap (λ m. arm_seen (map_arm trees pairs m (out-Arm a))) own

pub arms_are : (as' : List Arm) → map second_of (map typed.arm as') ≡ map arm_typed as'
arms_are [] = refl
arms_are (a ∷ as') = λ i. arm_level a i ∷ arms_are as' i

pub arg_level : (a : Arg) → (fold_arg pairs steps a).1 ≡ expr_typed (out-Arg a).value
arg_level a =
    ap (λ p. p.1) (fold_out-Arg pairs.stmt pairs.node pairs.shape pairs.type_node pairs.block pairs.bind pairs.arg pairs.arm pairs.expr pairs.field pairs.loop pairs.number pairs.pattern pairs.type_expr
    steps.stmt steps.node steps.shape steps.type_node steps.block steps.bind steps.arg steps.arm steps.expr steps.field steps.loop steps.number steps.pattern steps.type_expr a)
    ∙ ap (λ m. (map_arg trees pairs m (out-Arg a)).value) own
