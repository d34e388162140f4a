-- Instances of functions and procs.
use Rattle.std.proofs.Common.{◌≡◌, ◌++◌, ◌∙◌, ◌+◌, ◌&&◌, nat_lt, ltb-false, ℕ, arith, Bool, true, false, List, [], ◌∷◌, Option, Some, None, length, drop, map, min, refl, sym, ap, subst, if◌then◌else◌}
use mathlib.Core.Bool.{true≢false}
use Rattle.std.specs.List.{AllByRecursion}
use Rattle.std.proofs.lemmas.List.{append-nil}
use Rattle.std.proofs.lemmas.Bool.{ltb-true}
use Rattle.std.proofs.lemmas.Option.{same_Some}
use Rattle.xb_span.specs.declared.limit.What.TheVariants as what
use Rattle.dslx_tree.specs.declared.block.Block.{out-Block}
use Rattle.dslx_tree.specs.declared.block.Stmt.{Stmt, out-Stmt}
use Rattle.dslx_tree.specs.declared.block.Stmt.TheOpen.{Stmt-F}
use Rattle.dslx_tree.specs.declared.ident.Ident.{Ident}
use Rattle.dslx_tree.specs.declared.item.Definition.{Definition}
use Rattle.dslx_tree.specs.declared.item.Definition.TheVariants as d
use Rattle.dslx_tree.specs.declared.item.Field.{Field}
use Rattle.dslx_tree.specs.declared.item.Function.{Function}
use Rattle.dslx_tree.specs.declared.item.Parametric.{Parametric}
use Rattle.dslx_tree.specs.declared.process.End.{End}
use Rattle.dslx_tree.specs.declared.process.Proc.{Proc}
use Rattle.dslx_meaning.specs.Activation.{StmtLayer}
use Rattle.dslx_meaning.specs.Items.{as_function, parametric_args_bound}
use Rattle.dslx_meaning.specs.declared.ty.DslxType.{DslxType}
use Rattle.dslx_meaning.specs.declared.value.DslxValue.{DslxValue}
use Rattle.dslx_meaning.specs.Rules.ItemRules.{Found, FunctionSeen, and_found, arguments_found, arguments_typed, body_typing, found_in, function_seen, item_type_env, nothing_found, only_faults, parametrics_found, result_typing, typing_of_type}
use Rattle.dslx_meaning.specs.Rules.ModuleRules.{found_of_item, size_known}
use Rattle.dslx_meaning.specs.Rules.NameRules.{local_name}
use Rattle.dslx_meaning.specs.Rules.ProcRules as the
use Rattle.dslx_meaning.specs.Rules.TypeEnvs.{ChannelEnd, GlobalEnv, TypeEnv, passes_count}
use Rattle.dslx_check_rules.specs.declared.faults.Faults.{Faults}
use Rattle.dslx_check_rules.specs.declared.table.row.TypeId.{TypeId}
use Rattle.dslx_check_rules.specs.declared.table.row.TypeRow.{TypeRow}
use Rattle.dslx_check_rules.specs.declared.typing.Typing.{Typing}
use Rattle.dslx_check_rules.specs.Interned.{HasRowIf, ItemNames, type_if}
use Rattle.dslx_check_rules.specs.Seen.{capped, seen}
use Rattle.dslx_check_facts.specs.declared.facts.Facts.{Facts}
use Rattle.dslx_check_facts.specs.declared.type_env.TypeEnv.{TypeEnv as CodeEnv}
use Rattle.dslx_check_facts.specs.Judged.{HasRows, environment}
use Rattle.dslx_check_facts.specs.Known.{FactsHold, HasKnownRows, item_at, item_names, text_of}
use Rattle.dslx_check_facts.specs.Names.{definition_at, name_or}
use Rattle.dslx_check_facts.specs.TypeEnvs.{HasBoundRows, end_of, typed_of}
use Rattle.dslx_check_facts.specs.Walks.{HasTables, WalkShown, instances_at}
use Rattle.dslx_check_facts.proofs.Lemmas.Walks.{grows_refl, grows_trans, nothing_missing, tables_refl, tables_trans}
use Rattle.dslx_check_facts.proofs.Lemmas.Judged.{row_stays_if}
use Rattle.dslx_check_rules.specs.Nodes.Parts.{Pairs}
use Rattle.dslx_check_leaves.specs.Fits.Typed.{type_typed}
use Rattle.dslx_check_declarations.specs.declared.ends.NamedEnd.{NamedEnd}
use Rattle.dslx_check_declarations.specs.Ends.{IsNamed}
use Rattle.dslx_check_declarations.specs.Procs.{member_bound}
use Rattle.dslx_check_declarations.specs.Scopes.{outside}
use Rattle.dslx_check_declarations.specs.Tops.{named_as}
use Rattle.dslx_check_declarations.proofs.Lemmas.Ends.{named_stays}
use Rattle.dslx_check_declarations.proofs.Lemmas.Told.{told_at}
use Rattle.dslx_check_leaves.specs.Walked.{TypesPart, WalksTo}
use Rattle.dslx_check_leaves.proofs.Lemmas.Each.{each_weaker}
use Rattle.dslx_check_leaves.proofs.Lemmas.Walking.{all_dropped, behind_both}
use Rattle.dslx_check_judge.specs.declared.instances.channels.EndsSeen.{EndsSeen}
use Rattle.dslx_check_judge.specs.declared.instances.functions.InstanceSeen.{InstanceSeen}
use Rattle.dslx_check_judge.specs.Instances.Inner.Bodies.{JudgesBody, JudgesEnds, TypesBody, TypesEnds}
use Rattle.dslx_check_judge.specs.Instances.Inner.Config.{JudgesConfig, TypesConfig}
use Rattle.dslx_check_judge.specs.Instances.Inner.Instances.{JudgesActivity, JudgesFunction, JudgesProc, activity_found, is_site}
use Rattle.dslx_check_judge.specs.Items.Lists.{IsTypeAs, TypesList, inner_types_of}
use Rattle.dslx_check_judge.specs.Instances.Inner.Arguments.{bound_behind}
use Rattle.dslx_check_judge.specs.Instances.Inner.Parametrics.{ParametricsWalked}
use Rattle.dslx_check_judge.specs.Items.Judged.{FindsAs}
use Rattle.dslx_check_judge.specs.Instances.Judged.{JudgesInstance}
use Rattle.dslx_check_judge.proofs.OnInstances.OnArguments.{arguments_bound, arguments_have_rows}
use Rattle.dslx_check_judge.proofs.OnInstances.OnRuns.{IsFound, Joins, Runs, Said, Then, as_run, both_found, found_as, found_joins, in_scope, one_then, only_found, rows_after}

-- ---- the start of an instance

-- nothing is in scope there
pub rows_outside : {f : Facts} {w : WalkShown} (item : ℕ) → HasKnownRows w.rows f → HasRows f (outside item) w
rows_outside item rows = record { known = rows; bound = record { parametric_args = tt; locals = tt; members = tt } }

-- what parametrics break and reach, and what is in scope behind them
record Declares (f : Facts) (item : ℕ) (s : CodeEnv) (faults : Faults) (ps : List Parametric) (vs : List DslxValue) (known : GlobalEnv) (later : WalkShown) (more : List ℕ) : Type 0 where
  found : IsFound (item_names f) later more faults (parametrics_found known ((item_names f).item item) [] [] ps vs)
  env : environment f s known later ≡ item_type_env known ((item_names f).item item) (parametric_args_bound [] ps vs)

declares : {f : Facts} {item : ℕ} {s : CodeEnv} {w0 w1 : WalkShown} {faults : Faults} {ps : List Parametric} {vs : List DslxValue} → ParametricsWalked f item s w0 w1 faults ps vs
    → Runs f (outside item) s w0 w1 (Declares f item s faults ps vs)
declares {f} {item} {s} {w0} {w1} {faults} {ps} {vs} g = record {
  grows = g.grows;
  bound = g.bound;
  holds = λ known later has agrees there none. record { found = record { is = g.found known later has agrees there none; reaches = g.reaches known later has agrees there none }; env = g.args known later has agrees there none };
}

-- ---- functions

abbrev function_by : GlobalEnv → List ℕ → List Parametric → List Field → Function → List DslxValue → FunctionSeen
function_by known owner ps fs own values =
    let context = item_type_env known owner (parametric_args_bound [] ps values) in
    let result = result_typing context own.result in
    let body = body_typing false (record context { locals = arguments_typed context [] fs }) result.ty own.body in
    record {
      found = and_found (parametrics_found known owner [] [] ps values) (and_found (arguments_found context [] fs) (and_found (found_in result) (found_in body)));
      body = body;
    }

-- what it comes to by a walk
record FunctionIs (f : Facts) (later : WalkShown) (more : List ℕ) (faults : Faults) (size : Option ℕ) (x : FunctionSeen) : Type 0 where
  found : IsFound (item_names f) later more faults x.found
  sized : size ≡ capped x.body.size

pub function_walked : {f : Facts} {s0 s1 s2 s3 s4 s5 : CodeEnv} {w0 w1 w2 w3 w4 : WalkShown} {declared args mid1 mid2 faults : Faults} {types : List (Option TypeId)} {result body : Typing} (item : ℕ) (own : Function)
    (values : List DslxValue) (ps : List Parametric) (fs : List Field) (slice : List (Option TypeId)) → ps ≡ own.parametrics → fs ≡ own.arguments → slice ≡ types → s0 ≡ outside item
    → ((i : ℕ) → s0 ≡ outside i → ParametricsWalked f i s1 w0 w1 declared ps values)
    → WalksTo f s1 s2 w1 w2 (TypesList IsTypeAs args types (λ env. arguments_found env [] fs) (λ env. inner_types_of env fs))
    → WalksTo f s2 s3 w2 w3 (TypesPart result (λ env. result_typing env own.result))
    → s4 ≡ record s3 { locals = bound_behind s3.locals fs slice } → JudgesBody f s4 s5 w3 w4 body result.ty false own.body
    → Joins declared args mid1 → Joins mid1 result.faults mid2 → Joins mid2 body.faults faults → JudgesFunction f w0 w4 item own values (record { faults = faults; size = body.size })
function_walked {f} {s0} {s1} {s2} {s3} {s4} {s5} {w0} {w1} {w2} {w3} {w4} {declared} {args} {mid1} {mid2} {faults} {types} {result} {body} item own values ps fs slice ps_is fs_is slice_is start g1 g2 g3 bind g4 join1 join2 join3 = record {
  grows = run.grows;
  is = λ known later name has agrees rows none called. (all known later name has agrees rows none called).found.is;
  reaches = λ known later name has agrees rows none called. (all known later name has agrees rows none called).found.reaches;
  size = λ known later name has agrees rows none called. (all known later name has agrees rows none called).sized;
}
  where
    P1 : Said
    P1 = Declares f item s1 declared ps values

    A : TypeEnv → Found
    A env = arguments_found env [] fs

    P2 : Said
    P2 = λ known later more. TypesList IsTypeAs args types A (λ env. inner_types_of env fs) (item_names f) w2.rows later more (environment f s1 known later)

    P3 : Said
    P3 = λ known later more. TypesPart result (λ env. result_typing env own.result) (item_names f) w3.rows later more (environment f s2 known later)

    P4 : Said
    P4 = λ known later more. TypesBody body w3.rows result.ty false own.body (item_names f) w4.rows later more (environment f s4 known later)

    first : ParametricsWalked f item s1 w0 w1 declared ps values
    first = g1 item start

    front : Runs f (outside item) s3 w0 w3 (Then (Then P1 P2) P3)
    front = one_then (Then P1 P2) P3 (one_then P1 P2 (declares first) (as_run (TypesList IsTypeAs args types A (λ env. inner_types_of env fs)) g2)) (as_run (TypesPart result (λ env. result_typing env own.result)) g3)

    same : s3 ≡ s1
    same = g3.sight ∙ g2.sight

    no_locals : s3.locals ≡ []
    no_locals = ap (λ (s : CodeEnv). s.locals) (same ∙ first.scope)

    types_stay : (later : WalkShown) (ts : List (Option TypeId)) (ds : List (Option DslxType)) → Pairs (IsTypeAs (item_names f) w2.rows later.rows) ts ds → Pairs (IsTypeAs (item_names f) w3.rows later.rows) ts ds
    types_stay later ts ds h = each_weaker (IsTypeAs (item_names f) w2.rows later.rows) (IsTypeAs (item_names f) w3.rows later.rows) ts ds
        (λ t o p. record { row = row_stays_if w2.rows w3.rows t g3.grows.tables.rows p.row; ty = p.ty }) h

    bound_rows : (known : GlobalEnv) (later : WalkShown) (more : List ℕ) → HasTables w3 later → FactsHold f later known → HasRows f s3 w3 → Then (Then P1 P2) P3 known later more → HasBoundRows (item_names f) w3.rows s4
    bound_rows known later more has agrees there t = subst (HasBoundRows (item_names f) w3.rows) (sym bind) (record {
      parametric_args = there.bound.parametric_args;
      locals = arguments_have_rows (item_names f) w3.rows later.rows (environment f s1 known later) s3.locals fs slice
          (subst (λ (l : List (Option TypeId)). Pairs (IsTypeAs (item_names f) w3.rows later.rows) l (inner_types_of (environment f s1 known later) fs)) (sym slice_is)
          (types_stay later types (inner_types_of (environment f s1 known later) fs) t.first.second.parts)) there.bound.locals;
      members = there.bound.members;
    })

    run : Runs f (outside item) s5 w0 w4 (Then (Then (Then P1 P2) P3) P4)
    run = one_then (Then (Then P1 P2) P3) P4 (in_scope (Then (Then P1 P2) P3) front bound_rows) (as_run (TypesBody body w3.rows result.ty false own.body) g4)

    all : (known : GlobalEnv) (later : WalkShown) (name : Ident) → HasTables w4 later → FactsHold f later known → HasKnownRows w0.rows f → w4.missing ≡ [] → (item_names f).item item ≡ name.name
        → FunctionIs f later (drop (length w0.reached) w4.reached) faults body.size (function_seen known (record own { name = name }) values)
    all known later name has agrees rows none called =
        let names = item_names f in
        let t = run.holds known later has agrees (rows_outside item rows) none in
        let owner = names.item item in
        let D = t.first.first.first in
        let C = item_type_env known owner (parametric_args_bound [] ps values) in
        let e1 : environment f s1 known later ≡ C = D.env in
        let e2 : environment f s2 known later ≡ C = ap (λ (s : CodeEnv). environment f s known later) g2.sight ∙ e1 in
        let a : TypesList IsTypeAs args types A (λ env. inner_types_of env fs) names w2.rows later t.first.first.rest C =
        subst (TypesList IsTypeAs args types A (λ env. inner_types_of env fs) names w2.rows later t.first.first.rest) e1 t.first.first.second in
        let r : TypesPart result (λ env. result_typing env own.result) names w3.rows later t.first.rest C =
        subst (TypesPart result (λ env. result_typing env own.result) names w3.rows later t.first.rest) e2 t.first.second in
        let R = result_typing C own.result in
        let inside : TypeEnv = record C { locals = arguments_typed C [] fs } in
        let typed : map (typed_of names later.rows) (bound_behind s3.locals fs slice) ≡ arguments_typed C [] fs =
        (λ i. map (typed_of names later.rows) (bound_behind (no_locals i) fs (slice_is i))) ∙ arguments_bound names w2.rows later.rows C [] fs types a.parts in
        let e4 : environment f s4 known later ≡ inside =
        ap (λ (s : CodeEnv). environment f s known later) bind ∙ (λ i. record (environment f (same i) known later) { locals = typed i }) ∙ (λ i. record (e1 i) { locals = arguments_typed C [] fs }) in
        let b : TypesBody body w3.rows result.ty false own.body names w4.rows later t.rest inside = subst (TypesBody body w3.rows result.ty false own.body names w4.rows later t.rest) e4 t.second in
        let B = body_typing false inside R.ty own.body in
        let body_found : IsFound names later t.rest body.faults (found_in B) = record {
          is = (b.part r.part.row).faults ∙ ap (λ (o : Option DslxType). seen (body_typing false inside o own.body).faults) r.part.ty;
          reaches = b.reaches r.part.row ∙ ap (λ (o : Option DslxType). (body_typing false inside o own.body).reached) r.part.ty;
        } in
        let X = parametrics_found known owner [] [] ps values in
        let two = both_found t.first.first.joined D.found (record { is = a.faults_are; reaches = a.reaches }) join1 in
        let three = both_found t.first.joined two (record { is = r.part.faults; reaches = r.reaches }) join2 in
        let four = both_found t.joined three body_found join3 in
        let whole : FunctionIs f later (drop (length w0.reached) w4.reached) faults body.size (function_by known owner ps fs own values) = record {
          found = found_as (found_joins (and_found X (A C)) (found_in R) (found_in B) ∙ found_joins X (A C) (and_found (found_in R) (found_in B))) four;
          sized = (b.part r.part.row).size ∙ ap (λ (o : Option DslxType). capped (body_typing false inside o own.body).size) r.part.ty;
        } in
        subst (FunctionIs f later (drop (length w0.reached) w4.reached) faults body.size) (λ i. function_by known (called i) (ps_is i) (fs_is i) own values) whole

-- ---- sites

pub counts_one : (x : StmtLayer) → the.counts_site x ≡ (if is_site x then 1 else 0)
counts_one (Stmt-F.Let l) = refl
counts_one (Stmt-F.Bare e) = refl

pub sites_next : (ss : List Stmt) (s : Stmt) → the.count_sites ss + the.counts_site (out-Stmt s) ≡ the.count_sites (ss ++ s ∷ [])
sites_next [] s = omega arith
sites_next (x ∷ ss) s = let rest = sites_next ss s in omega (arith, rest)

pub site_counted : (sites n : ℕ) (b : Bool) → (b && nat_lt sites 33) ≡ true → sites ≡ min 33 n → sites + 1 ≡ min 33 (n + (if b then 1 else 0))
site_counted sites n true e h = let below = ltb-true sites 33 e in omega (arith, h, below)
site_counted sites n false e h = absurd (true≢false (sym e))

pub site_not_counted : (sites n : ℕ) (b : Bool) → (b && nat_lt sites 33) ≡ false → sites ≡ min 33 n → sites ≡ min 33 (n + (if b then 1 else 0))
site_not_counted sites n true e h = let past = ltb-false sites 33 e in omega (arith, h, past)
site_not_counted sites n false e h = omega (arith, h)

-- ---- `init` and `next`

pub activity_walked : {f : Facts} {s0 s1 s3 : CodeEnv} {locals : List (List ℕ × Option TypeId)} {w0 w1 w2 : WalkShown} {init body : Typing} {name limit mid1 mid2 faults : Faults} {state : Option TypeId} {sites : ℕ} (p : Proc) (ss : List Stmt)
    → JudgesBody f s0 s1 w0 w1 init state false p.init
    → ((known : GlobalEnv) (later : WalkShown) (context : TypeEnv) → FactsHold f later known → context.known.whole ≡ known.whole → name ≡ seen (local_name context [] p.next.state))
    → locals ≡ (p.next.state.name, state) ∷ s1.locals → JudgesBody f (record s1 { locals = locals }) s3 w1 w2 body state true p.next.body
    → ss ≡ (out-Block p.next.body).statements → sites ≡ min 33 (the.count_sites ss) → ((n : ℕ) → sites ≡ min (32 + 1) n → limit ≡ seen (passes_count what.Sites 32 p.span.to n))
    → Joins init.faults name mid1 → Joins mid1 body.faults mid2 → Joins mid2 limit faults → JudgesActivity f s0 w0 w2 faults p state
activity_walked {f} {s0} {s1} {s3} {locals} {w0} {w1} {w2} {init} {body} {name} {limit} {mid1} {mid2} {faults} {state} {sites} p ss g1 named adds g2 ss_is counted limited join1 join2 join3 = record {
  grows = grows_trans w0 w1 w2 g1.grows g2.grows;
  is = λ no_locals row known later has agrees there none. (all no_locals row known later has agrees there none).is;
  reaches = λ no_locals row known later has agrees there none. (all no_locals row known later has agrees there none).reaches;
}
  where
    s2 : CodeEnv
    s2 = record s1 { locals = locals }

    bind : s2 ≡ record s1 { locals = (p.next.state.name, state) ∷ s1.locals }
    bind = ap (λ l. record s1 { locals = l }) adds

    P1 : Said
    P1 = λ known later more. TypesBody init w0.rows state false p.init (item_names f) w1.rows later more (environment f s0 known later)

    P2 : Said
    P2 = λ known later more. TypesBody body w1.rows state true p.next.body (item_names f) w2.rows later more (environment f s2 known later)

    run : HasRowIf w0.rows state → Runs f s0 s3 w0 w2 (Then P1 P2)
    run row = one_then P1 P2 (in_scope P1 (as_run (TypesBody init w0.rows state false p.init) g1) (λ known later more has agrees there t. subst (HasBoundRows (item_names f) w1.rows) (sym bind) (record {
      parametric_args = there.bound.parametric_args;
      locals = (row_stays_if w0.rows w1.rows state g1.grows.tables.rows row, there.bound.locals);
      members = there.bound.members;
    }))) (as_run (TypesBody body w1.rows state true p.next.body) g2)

    all : s0.locals ≡ [] → HasRowIf w0.rows state → (known : GlobalEnv) (later : WalkShown) → HasTables w2 later → FactsHold f later known → HasRows f s0 w0 → w2.missing ≡ []
        → IsFound (item_names f) later (drop (length w0.reached) w2.reached) faults (activity_found p (type_if (item_names f) later.rows state) (environment f s0 known later))
    all no_locals row known later has agrees there none =
        let names = item_names f in
        let t = (run row).holds known later has agrees there none in
        let C = environment f s0 known later in
        let ty = type_if names later.rows state in
        let inside : TypeEnv = record C { locals = record { name = p.next.state.name; ty = ty } ∷ [] } in
        let e2 : environment f s2 known later ≡ inside =
        ap (λ (s : CodeEnv). environment f s known later) bind ∙ (λ i. record (environment f (g1.sight i) known later) { locals = record { name = p.next.state.name; ty = ty } ∷ map (typed_of names later.rows) (g1.sight i).locals })
        ∙ (λ i. record C { locals = record { name = p.next.state.name; ty = ty } ∷ map (typed_of names later.rows) (no_locals i) }) in
        let b : TypesBody body w1.rows state true p.next.body names w2.rows later t.rest inside = subst (TypesBody body w1.rows state true p.next.body names w2.rows later t.rest) e2 t.second in
        let row1 = row_stays_if w0.rows w1.rows state g1.grows.tables.rows row in
        let I = found_in (body_typing false C ty p.init) in
        let N = local_name C [] p.next.state in
        let B = found_in (body_typing true inside ty p.next.body) in
        let L = passes_count what.Sites 32 p.span.to (the.count_sites (out-Block p.next.body).statements) in
        let limits : limit ≡ seen L = limited (the.count_sites (out-Block p.next.body).statements) (counted ∙ ap (λ l. min 33 (the.count_sites l)) ss_is ∙ (let z : min 33 (the.count_sites (out-Block p.next.body).statements) ≡ min (32 + 1) (the.count_sites (out-Block p.next.body).statements) = omega arith in z)) in
        let one : IsFound names later t.front init.faults I = record { is = (t.first.part row).faults; reaches = t.first.reaches row } in
        let two = only_found N one (named known later C agrees refl) join1 in
        let three = both_found t.joined two (record { is = (b.part row1).faults; reaches = b.reaches row1 }) join2 in
        let four = only_found L three limits join3 in
        found_as (found_joins (and_found I (only_faults N)) B (only_faults L) ∙ found_joins I (only_faults N) (and_found B (only_faults L))) four

-- ---- procs

abbrev proc_by : GlobalEnv → List ℕ → List Parametric → List End → Proc → List DslxValue → Found
proc_by known owner ps es own values =
    let context = item_type_env known owner (parametric_args_bound [] ps values) in
    let state = typing_of_type context own.next.ty in
    and_found (parametrics_found known owner [] [] ps values)
    (and_found (the.ends_found context [] es)
    (and_found (the.config_found context own)
    (and_found (found_in state) (activity_found own state.ty (record context { members = map (the.channel_end_of context) es })))))

members_are : (names : ItemNames) (rows later : List TypeRow) (ns : List NamedEnd) (os : List ChannelEnd) → Pairs (IsNamed names rows later) ns os → map (end_of names later) (map member_bound ns) ≡ os
members_are names rows later [] [] h = refl
members_are names rows later [] (o ∷ os) h = absurd h
members_are names rows later (n ∷ ns) [] h = absurd h
members_are names rows later (n ∷ ns) (o ∷ os) h =
    λ i. record { name = h.0.name i; direction = h.0.end.direction i; word = h.0.end.word i } ∷ members_are names rows later ns os h.1 i

members_have_rows : (names : ItemNames) (rows later : List TypeRow) (ns : List NamedEnd) (os : List ChannelEnd) → Pairs (IsNamed names rows later) ns os → AllByRecursion (λ b. HasRowIf rows b.1.word) (map member_bound ns)
members_have_rows names rows later [] [] h = tt
members_have_rows names rows later [] (o ∷ os) h = absurd h
members_have_rows names rows later (n ∷ ns) [] h = absurd h
members_have_rows names rows later (n ∷ ns) (o ∷ os) h = (h.0.end.row, members_have_rows names rows later ns os h.1)

pub proc_walked : {f : Facts} {s0 s1 s2 s3 s4 s5 : CodeEnv} {w0 w1 w2 w3 w4 w5 : WalkShown} {declared config inside mid1 mid2 mid3 faults : Faults} {members : EndsSeen} {state : Typing} (item : ℕ) (own : Proc)
    (values : List DslxValue) (ps : List Parametric) (es : List End) (ns ms : List NamedEnd) → ps ≡ own.parametrics → es ≡ own.members → ns ≡ members.ends.items → ms ≡ members.ends.items → s0 ≡ outside item
    → ((i : ℕ) → s0 ≡ outside i → ParametricsWalked f i s1 w0 w1 declared ps values) → JudgesEnds f s1 s2 w1 w2 members es → JudgesConfig f s2 s3 w2 w3 config own ns
    → WalksTo f s3 s4 w3 w4 (TypesPart state (λ env. (type_typed own.next.ty).1 env)) → s5 ≡ record s4 { members = map member_bound ms ++ s4.members } → JudgesActivity f s5 w4 w5 inside own state.ty
    → Joins declared members.faults mid1 → Joins mid1 config mid2 → Joins mid2 state.faults mid3 → Joins mid3 inside faults → JudgesProc f w0 w5 item own values (record { faults = faults; size = None })
proc_walked {f} {s0} {s1} {s2} {s3} {s4} {s5} {w0} {w1} {w2} {w3} {w4} {w5} {declared} {config} {inside} {mid1} {mid2} {mid3} {faults} {members} {state} item own values ps es ns ms ps_is es_is ns_is ms_is start g1 g2 configured g4 bind g5 join1 join2 join3 join4 =
    record {
      grows = grows_trans w0 w4 w5 front.grows g5.grows;
      is = λ known later name has agrees rows none called. (all known later name has agrees rows none called).is;
      reaches = λ known later name has agrees rows none called. (all known later name has agrees rows none called).reaches;
      size = refl;
    }
  where
    T : TypeEnv → Found
    T env = the.config_found env own

    P1 : Said
    P1 = Declares f item s1 declared ps values

    P2 : Said
    P2 = λ known later more. TypesEnds members es (item_names f) w2.rows later more (environment f s1 known later)

    P3 : Said
    P3 = λ known later more. TypesConfig config own ns w2.rows (item_names f) w3.rows later more (environment f s2 known later)

    P4 : Said
    P4 = λ known later more. TypesPart state (λ env. (type_typed own.next.ty).1 env) (item_names f) w4.rows later more (environment f s3 known later)

    first : ParametricsWalked f item s1 w0 w1 declared ps values
    first = g1 item start

    scope2 : s2 ≡ record (outside item) { parametric_args = s1.parametric_args }
    scope2 = g2.sight ∙ first.scope

    g3 : WalksTo f s2 s3 w2 w3 (TypesConfig config own ns w2.rows)
    g3 = configured (ap (λ (s : CodeEnv). s.is_declaring) scope2) (ap (λ (s : CodeEnv). s.ends) scope2)

    front : Runs f (outside item) s4 w0 w4 (Then (Then (Then P1 P2) P3) P4)
    front = one_then (Then (Then P1 P2) P3) P4 (one_then (Then P1 P2) P3 (one_then P1 P2 (declares first) (as_run (TypesEnds members es) g2)) (as_run (TypesConfig config own ns w2.rows) g3))
        (as_run (TypesPart state (λ env. (type_typed own.next.ty).1 env)) g4)

    scope4 : s4 ≡ record (outside item) { parametric_args = s1.parametric_args }
    scope4 = g4.sight ∙ g3.sight ∙ scope2

    named4 : (known : GlobalEnv) (later : WalkShown) (more : List ℕ) → Then (Then (Then P1 P2) P3) P4 known later more → Pairs (IsNamed (item_names f) w4.rows later.rows) ms (map (the.channel_end_of (environment f s1 known later)) es)
    named4 known later more t =
        let os = map (the.channel_end_of (environment f s1 known later)) es in
        subst (λ (l : List NamedEnd). Pairs (IsNamed (item_names f) w4.rows later.rows) l os) (sym ms_is)
        (each_weaker (IsNamed (item_names f) w2.rows later.rows) (IsNamed (item_names f) w4.rows later.rows) members.ends.items os
        (λ n o. named_stays (item_names f) w2.rows w4.rows later.rows (grows_trans w2 w3 w4 g3.grows g4.grows).tables.rows n o) t.first.first.second.ends)

    run : Runs f (outside item) s5 w0 w4 (Then (Then (Then P1 P2) P3) P4)
    run = in_scope (Then (Then (Then P1 P2) P3) P4) front (λ known later more has agrees there t. subst (HasBoundRows (item_names f) w4.rows) (sym bind) (record {
      parametric_args = there.bound.parametric_args;
      locals = there.bound.locals;
      members = subst (λ l. AllByRecursion (λ b. HasRowIf w4.rows b.1.word) (map member_bound ms ++ l)) (sym (ap (λ (s : CodeEnv). s.members) scope4))
          (subst (AllByRecursion (λ b. HasRowIf w4.rows b.1.word)) (sym (append-nil (map member_bound ms)))
          (members_have_rows (item_names f) w4.rows later.rows ms (map (the.channel_end_of (environment f s1 known later)) es) (named4 known later more t)));
    }))

    no_locals : s5.locals ≡ []
    no_locals = ap (λ (s : CodeEnv). s.locals) bind ∙ ap (λ (s : CodeEnv). s.locals) scope4

    all : (known : GlobalEnv) (later : WalkShown) (name : Ident) → HasTables w5 later → FactsHold f later known → HasKnownRows w0.rows f → w5.missing ≡ [] → (item_names f).item item ≡ name.name
        → IsFound (item_names f) later (drop (length w0.reached) w5.reached) faults (the.proc_seen known (record own { name = name }) values)
    all known later name has agrees rows none called =
        let names = item_names f in
        let there = rows_outside item rows in
        let has4 = tables_trans w4 w5 later g5.grows.tables has in
        let none4 = nothing_missing w4 w5 g5.grows none in
        let t = run.holds known later has4 agrees there none4 in
        let owner = names.item item in
        let D = t.first.first.first in
        let C = item_type_env known owner (parametric_args_bound [] ps values) in
        let e1 : environment f s1 known later ≡ C = D.env in
        let e2 : environment f s2 known later ≡ C = ap (λ (s : CodeEnv). environment f s known later) g2.sight ∙ e1 in
        let e3 : environment f s3 known later ≡ C = ap (λ (s : CodeEnv). environment f s known later) g3.sight ∙ e2 in
        let m : TypesEnds members es names w2.rows later t.first.first.rest C = subst (TypesEnds members es names w2.rows later t.first.first.rest) e1 t.first.first.second in
        let k : TypesConfig config own ns w2.rows names w3.rows later t.first.rest C = subst (TypesConfig config own ns w2.rows names w3.rows later t.first.rest) e2 t.first.second in
        let u : TypesPart state (λ env. (type_typed own.next.ty).1 env) names w4.rows later t.rest C = subst (TypesPart state (λ env. (type_typed own.next.ty).1 env) names w4.rows later t.rest) e3 t.second in
        let S = typing_of_type C own.next.ty in
        let os = map (the.channel_end_of C) es in
        let named : Pairs (IsNamed names w2.rows later.rows) ns (map (the.channel_end_of C) own.members) =
        subst (λ (l : List End). Pairs (IsNamed names w2.rows later.rows) ns (map (the.channel_end_of C) l)) es_is (subst (λ (l : List NamedEnd). Pairs (IsNamed names w2.rows later.rows) l os) (sym ns_is) m.ends) in
        let named5 : Pairs (IsNamed names w4.rows later.rows) ms os = subst (λ (E : TypeEnv). Pairs (IsNamed names w4.rows later.rows) ms (map (the.channel_end_of E) es)) e1 (named4 known later (drop (length w0.reached) w4.reached) t) in
        let typed : map (end_of names later.rows) (map member_bound ms ++ s4.members) ≡ os =
        (λ i. map (end_of names later.rows) (map member_bound ms ++ ap (λ (s : CodeEnv). s.members) scope4 i)) ∙ ap (map (end_of names later.rows)) (append-nil (map member_bound ms)) ∙ members_are names w4.rows later.rows ms os named5 in
        let within : TypeEnv = record C { members = os } in
        let e5 : environment f s5 known later ≡ within =
        ap (λ (s : CodeEnv). environment f s known later) bind ∙ (λ i. record (environment f (g4.sight i) known later) { members = typed i }) ∙ (λ i. record (e3 i) { members = os }) in
        let after : HasRows f s5 w4 = rows_after run known later has4 agrees there none4 in
        let V = activity_found own S.ty within in
        let activity : IsFound names later (drop (length w4.reached) w5.reached) inside V = record {
          is = g5.is no_locals u.part.row known later has agrees after none ∙ (λ i. seen (activity_found own (u.part.ty i) (e5 i)).faults);
          reaches = g5.reaches no_locals u.part.row known later has agrees after none ∙ (λ i. (activity_found own (u.part.ty i) (e5 i)).reached);
        } in
        let X = parametrics_found known owner [] [] ps values in
        let M = the.ends_found C [] es in
        let two = both_found t.first.first.joined D.found (record { is = m.is; reaches = m.reaches }) join1 in
        let three = both_found t.first.joined two (record { is = k.is named; reaches = k.reaches }) join2 in
        let four = both_found t.joined three (record { is = u.part.faults; reaches = u.reaches }) join3 in
        let five = both_found (behind_both w0.reached w4.reached w5.reached run.grows.reached g5.grows.reached) four activity join4 in
        let whole : IsFound names later (drop (length w0.reached) w5.reached) faults (proc_by known owner ps es own values) =
        found_as (found_joins (and_found (and_found X M) (T C)) (found_in S) V ∙ found_joins (and_found X M) (T C) (and_found (found_in S) V) ∙ found_joins X M (and_found (T C) (and_found (found_in S) V))) five in
        found_as (λ i. proc_by known (called i) (ps_is i) (es_is i) own values) whole

-- ---- what an item is

-- under the name that it has where items of one name are told apart
told : (f : Facts) (item : ℕ) {definition x : Definition} → definition_at (text_of f).items item ≡ Some definition → item_at f item ≡ Some x → (name : Ident) × (x ≡ named_as name definition)
told f item {definition} {x} at is = let t = told_at [] (text_of f).items item definition at in (t.0, same_Some x (named_as t.0 definition) (sym is ∙ t.2))

pub function_judged : {f : Facts} {w0 w1 : WalkShown} {item : ℕ} {definition : Definition} {values : List DslxValue} {j : InstanceSeen} (own : Function) → definition ≡ d.Function own → JudgesFunction f w0 w1 item own values j
    → JudgesInstance f w0 w1 item definition values j
function_judged {f} {w0} {w1} {item} {definition} {values} {j} own kind g = record {
  grows = g.grows;
  finds = λ known agrees rows none x at is.
      let t = named x at is in
      subst (λ (y : Definition). FindsAs f w0 w1 j.faults (found_of_item known values (Some y))) (sym t.1) (record {
        faults_are = g.is known w1 t.0 (tables_refl w1) (agrees w1 (tables_refl w1)) rows none (called x t.0 is t.1);
        reaches = λ later has. g.reaches known later t.0 has (agrees later has) rows none (called x t.0 is t.1);
      });
  size = λ known agrees rows none x at is.
      let t = named x at is in
      subst (λ (y : Definition). j.size ≡ capped (size_known known values (as_function (Some y)))) (sym t.1) (g.size known w1 t.0 (tables_refl w1) (agrees w1 (tables_refl w1)) rows none (called x t.0 is t.1));
}
  where
    named : (x : Definition) → definition_at (text_of f).items item ≡ Some definition → item_at f item ≡ Some x → (name : Ident) × (x ≡ d.Function (record own { name = name }))
    named x at is = let t = told f item at is in (t.0, t.1 ∙ ap (named_as t.0) kind)

    called : (x : Definition) (name : Ident) → item_at f item ≡ Some x → x ≡ d.Function (record own { name = name }) → (item_names f).item item ≡ name.name
    called x name is e = ap (name_or item) (is ∙ ap Some e)

pub proc_judged : {f : Facts} {w0 w1 : WalkShown} {item : ℕ} {definition : Definition} {values : List DslxValue} {j : InstanceSeen} (own : Proc) → definition ≡ d.Proc own → JudgesProc f w0 w1 item own values j
    → JudgesInstance f w0 w1 item definition values j
proc_judged {f} {w0} {w1} {item} {definition} {values} {j} own kind g = record {
  grows = g.grows;
  finds = λ known agrees rows none x at is.
      let t = named x at is in
      subst (λ (y : Definition). FindsAs f w0 w1 j.faults (found_of_item known values (Some y))) (sym t.1) (record {
        faults_are = g.is known w1 t.0 (tables_refl w1) (agrees w1 (tables_refl w1)) rows none (called x t.0 is t.1);
        reaches = λ later has. g.reaches known later t.0 has (agrees later has) rows none (called x t.0 is t.1);
      });
  size = λ known agrees rows none x at is. let t = named x at is in subst (λ (y : Definition). j.size ≡ capped (size_known known values (as_function (Some y)))) (sym t.1) g.size;
}
  where
    named : (x : Definition) → definition_at (text_of f).items item ≡ Some definition → item_at f item ≡ Some x → (name : Ident) × (x ≡ d.Proc (record own { name = name }))
    named x at is = let t = told f item at is in (t.0, t.1 ∙ ap (named_as t.0) kind)

    called : (x : Definition) (name : Ident) → item_at f item ≡ Some x → x ≡ d.Proc (record own { name = name }) → (item_names f).item item ≡ name.name
    called x name is e = ap (name_or item) (is ∙ ap Some e)

-- an item that has no instances
abbrev has_instances : Definition → Bool
has_instances (d.Function own) = true
has_instances (d.Proc own) = true
has_instances _ = false

pub other_item : (definition : Definition) → ((own : Function) → definition ≡ d.Function own → ⊥) → ((own : Proc) → definition ≡ d.Proc own → ⊥) → has_instances definition ≡ false
other_item (d.Function own) no_function no_proc = absurd (no_function own refl)
other_item (d.Proc own) no_function no_proc = absurd (no_proc own refl)
other_item (d.Constant c) no_function no_proc = refl
other_item (d.Alias a) no_function no_proc = refl
other_item (d.Struct s) no_function no_proc = refl
other_item (d.Enum n) no_function no_proc = refl

record HasNone (known : GlobalEnv) (values : List DslxValue) (x : Definition) : Type 0 where
  found : found_of_item known values (Some x) ≡ nothing_found
  size : size_known known values (as_function (Some x)) ≡ None

has_none : (known : GlobalEnv) (values : List DslxValue) (name : Ident) (definition : Definition) → has_instances definition ≡ false → HasNone known values (named_as name definition)
has_none known values name (d.Function own) e = absurd (true≢false e)
has_none known values name (d.Proc own) e = absurd (true≢false e)
has_none known values name (d.Constant c) e = record { found = refl; size = refl }
has_none known values name (d.Alias a) e = record { found = refl; size = refl }
has_none known values name (d.Struct s) e = record { found = refl; size = refl }
has_none known values name (d.Enum n) e = record { found = refl; size = refl }

pub nothing_judged : {f : Facts} {w : WalkShown} {item : ℕ} {definition : Definition} {values : List DslxValue} {faults : Faults} → has_instances definition ≡ false → faults ≡ seen []
    → JudgesInstance f w w item definition values (record { faults = faults; size = None })
nothing_judged {f} {w} {item} {definition} {values} {faults} other none_is = record {
  grows = grows_refl w;
  finds = λ known agrees rows none x at is.
      let t = told f item at is in
      let h = has_none known values t.0 definition other in
      subst (λ (y : Definition). FindsAs f w w faults (found_of_item known values (Some y))) (sym t.1) (subst (FindsAs f w w faults) (sym h.found) (record {
        faults_are = none_is;
        reaches = λ later has. ap (instances_at (item_names f) later.met) (all_dropped w.reached);
      }));
  size = λ known agrees rows none x at is.
      let t = told f item at is in
      let h = has_none known values t.0 definition other in
      sym (ap capped h.size) ∙ ap (λ (y : Definition). capped (size_known known values (as_function (Some y)))) (sym t.1);
}
