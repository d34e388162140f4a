-- The steps that the statements of `next` become have their sites, in their order.
use Rattle.std.proofs.Common.{◌≡◌, ◌++◌, ◌&&◌, not, ℕ, zero, suc, Bool, true, false, List, [], ◌∷◌, map, Option, Some, None, refl, sym, ap, ◌∙◌}
use Rattle.std.specs.Prelude.{slice_get, get_or, unwrap_or}
use Rattle.std.proofs.lemmas.List.{map-append}
use Rattle.net_core.specs.declared.net.Site.{Site}
use Rattle.dslx_tree.specs.declared.block.Block.{out-Block}
use Rattle.dslx_tree.specs.declared.block.Let.{out-Let}
use Rattle.dslx_tree.specs.declared.block.Stmt.{Stmt, out-Stmt}
use Rattle.dslx_tree.specs.declared.block.Stmt.TheOpen.{Stmt-F}
use Rattle.dslx_tree.specs.declared.expr.Expr.{Expr}
use Rattle.dslx_tree.specs.declared.process.End.{End}
use Rattle.dslx_tree.specs.declared.process.Proc.{Proc}
use Rattle.dslx_meaning.specs.Activation.{Computes, SendsWord, SendsWordIf, SiteAct, SiteName, StmtLayer, TakesWord, TakesWordIf, act_of, site_names, sites_in_act, sites_in_stmt, sites_in_stmts}
use Rattle.dslx_meaning.specs.Lists.{and_then, beside, index_in, where_true, with_both}
use Rattle.dslx_meaning.specs.Types.{plain_type, received}
use Rattle.dslx_meaning.specs.declared.ty.DslxType as ty
use Rattle.dslx_meaning.specs.declared.ty.DslxType.{DslxType}
use Rattle.dslx_core.proofs.Lemmas.Typing.Typed.{same_some}
use Rattle.dslx_core.specs.Designs.{site_of_step, sites_of_steps}
use Rattle.dslx_core.specs.declared.step.Step.{Step}
use Rattle.dslx_core.specs.declared.step.Step.TheVariants as step
use Rattle.dslx_core.specs.Lowering.CoreScopes.{BodyEnv, CoreScope, with_local}
use Rattle.dslx_core.specs.Lowering.EqualTypes.{equal_type}
use Rattle.dslx_core.specs.Lowering.Functions.{parametric_args_are_well_typed, outer_scope}
use Rattle.dslx_core.specs.Lowering.Lowering.{LoweredExpr}
use Rattle.dslx_core.specs.Lowering.Patterns.{LoweredShape, lower_in_scope}
use Rattle.dslx_core.specs.Lowering.Steps.{BindsInScope, CoreMember, LoweredNext, LoweredSteps, StepsLowering, lower_act, binds_nothing, can_travel, lower_compute, end_names, is_sized, last_of_steps, member_in, lower_next, lower_pattern_of_text, lower_receive, lower_send, statement_steps, statements_steps, step_then, steps_from}
use Rattle.dslx_core.specs.Lowering.Trees.{lower_expression, of_type, lower_type_of_text}
use Rattle.dslx_core.proofs.Lemmas.Lowering.{from_both, from_then, from_where}

-- the site of a member, by the channels of the members
abbrev pub site_in : List End → List ℕ → SiteName → Site
site_in ends channels site = record { chan = unwrap_or (beside site.member (end_names ends) channels) 0; sends = site.sends }

at_or : (xs : List ℕ) (k : ℕ) → unwrap_or (slice_get xs k) 0 ≡ get_or xs k 0
at_or [] zero = refl
at_or [] (suc k) = refl
at_or (x ∷ xs) zero = refl
at_or (x ∷ xs) (suc k) = at_or xs k

member_chan : (outer : CoreScope) (ends : List End) (name channels : List ℕ) (m : CoreMember) → member_in outer ends name ≡ Some m → unwrap_or (beside name (end_names ends) channels) 0 ≡ get_or channels m.number 0
member_chan outer ends name channels m e =
    let k = from_then (index_in name (end_names ends)) (λ k. and_then (slice_get ends k) (λ e. and_then (lower_type_of_text e.word outer) (λ t. where_true (can_travel t) (Some (record { number = k; word = t }))))) m e in
    let x = from_then (slice_get ends k.0) (λ e. and_then (lower_type_of_text e.word outer) (λ t. where_true (can_travel t) (Some (record { number = k.0; word = t })))) m k.2 in
    let t = from_then (lower_type_of_text x.0.word outer) (λ t. where_true (can_travel t) (Some (record { number = k.0; word = t }))) m x.2 in
    let w = from_where (can_travel t.0) (Some (record { number = k.0; word = t.0 })) m t.2 in
    ap (λ o. unwrap_or (and_then o (slice_get channels)) 0) k.1 ∙ at_or channels k.0 ∙ ap (λ (c : CoreMember). get_or channels c.number 0) (same_some (record { number = k.0; word = t.0 }) m w.1)

-- what the steps behind a step have, its own site stands before
abbrev pub RestHas : List ℕ → StepsLowering → List Site → Type 0
RestHas channels rest sites = (scope : CoreScope) (l : LoweredSteps) → rest scope ≡ Some l → sites_of_steps channels l.steps ≡ sites

step_has : (channels : List ℕ) (s : Step) (o : Option LoweredSteps) (sites : List Site) → ((l : LoweredSteps) → o ≡ Some l → sites_of_steps channels l.steps ≡ sites) → (l : LoweredSteps) → step_then s o ≡ Some l
    → sites_of_steps channels l.steps ≡ site_of_step channels s ++ sites
step_has channels s o sites h l e =
    let r = from_then o (λ rest. Some (record { steps = s ∷ rest.steps; next = rest.next })) l e in
    sym (ap (λ (x : LoweredSteps). sites_of_steps channels x.steps) (same_some (record { steps = s ∷ r.0.steps; next = r.0.next }) l r.2)) ∙ ap (λ ss. site_of_step channels s ++ ss) (h r.0 r.1)

-- a step whose site doesn't depend on what it binds
bound_has : (channels : List ℕ) (o : Option LoweredShape) (step : LoweredShape → Step) (rest : StepsLowering) (own sites : List Site) → ((s : LoweredShape) → site_of_step channels (step s) ≡ own) → RestHas channels rest sites
    → (l : LoweredSteps) → and_then o (λ s. step_then (step s) (rest s.scope)) ≡ Some l → sites_of_steps channels l.steps ≡ own ++ sites
bound_has channels o step rest own sites same h l e =
    let s = from_then o (λ s. step_then (step s) (rest s.scope)) l e in
    step_has channels (step s.0) (rest s.0.scope) sites (h s.0.scope) l s.2 ∙ ap (λ ss. ss ++ sites) (same s.0)

at_member : (outer : CoreScope) (ends : List End) (c channels : List ℕ) (sends : Bool) (m : CoreMember) → member_in outer ends c ≡ Some m
    → Path (List Site) (record { chan = get_or channels m.number 0; sends = sends } ∷ []) (site_in ends channels (record { member = c; sends = sends }) ∷ [])
at_member outer ends c channels sends m e = λ i. record { chan = sym (member_chan outer ends c channels m e) i; sends = sends } ∷ []

receive_has : (outer : CoreScope) (ends : List End) (c channels : List ℕ) (m : CoreMember) → member_in outer ends c ≡ Some m → (o : Option (LoweredExpr × LoweredExpr)) (binds : BindsInScope) (rest : StepsLowering) (sites : List Site) → RestHas channels rest sites
    → (scope : CoreScope) (l : LoweredSteps) → lower_receive m o binds rest scope ≡ Some l → sites_of_steps channels l.steps ≡ site_in ends channels (record { member = c; sends = false }) ∷ sites
receive_has outer ends c channels m e None binds rest sites h scope l k =
    bound_has channels (binds scope (received m.word))
    (λ s. step.Receive (record { member = m.number; word = plain_type m.word; condition = None; shape = s.shape })) rest (site_in ends channels (record { member = c; sends = false }) ∷ []) sites
    (λ s. at_member outer ends c channels false m e) h l k
receive_has outer ends c channels m e (Some both) binds rest sites h scope l k =
    bound_has channels (binds scope (received m.word))
    (λ s. step.Receive (record { member = m.number; word = plain_type m.word; condition = Some (both.0.core, both.1.core); shape = s.shape })) rest (site_in ends channels (record { member = c; sends = false }) ∷ []) sites
    (λ s. at_member outer ends c channels false m e) h l k

send_has : (outer : CoreScope) (ends : List End) (c channels : List ℕ) (m : CoreMember) → member_in outer ends c ≡ Some m → (o : Option LoweredExpr) (word : LoweredExpr) (binds : BindsInScope) (rest : StepsLowering) (sites : List Site) → RestHas channels rest sites
    → (scope : CoreScope) (l : LoweredSteps) → lower_send m o word binds rest scope ≡ Some l → sites_of_steps channels l.steps ≡ site_in ends channels (record { member = c; sends = true }) ∷ sites
send_has outer ends c channels m e None word binds rest sites h scope l k =
    bound_has channels (binds scope ty.Token)
    (λ s. step.Send (record { member = m.number; condition = None; word = word.core; shape = s.shape })) rest (site_in ends channels (record { member = c; sends = true }) ∷ []) sites
    (λ s. at_member outer ends c channels true m e) h l k
send_has outer ends c channels m e (Some p) word binds rest sites h scope l k =
    bound_has channels (binds scope ty.Token)
    (λ s. step.Send (record { member = m.number; condition = Some p.core; word = word.core; shape = s.shape })) rest (site_in ends channels (record { member = c; sends = true }) ∷ []) sites
    (λ s. at_member outer ends c channels true m e) h l k

act_has : (outer : CoreScope) (ends : List End) (channels : List ℕ) (a : SiteAct) (e : Expr) (binds : BindsInScope) (rest : StepsLowering) (sites : List Site) → RestHas channels rest sites
    → (scope : CoreScope) (l : LoweredSteps) → lower_act outer ends a e binds rest scope ≡ Some l → sites_of_steps channels l.steps ≡ map (site_in ends channels) (sites_in_act a) ++ sites
act_has outer ends channels Computes e binds rest sites h scope l k =
    let x = from_then (lower_expression e scope) (λ e. lower_compute e binds rest scope) l k in
    bound_has channels (binds scope x.0.ty) (λ s. step.Bind x.0.core s.shape) rest [] sites (λ s. refl) h l x.2
act_has outer ends channels (TakesWord c) e binds rest sites h scope l k =
    let m = from_then (member_in outer ends c) (λ m. lower_receive m None binds rest scope) l k in
    receive_has outer ends c channels m.0 m.1 None binds rest sites h scope l m.2
act_has outer ends channels (TakesWordIf c p other) e binds rest sites h scope l k =
    let m = from_then (member_in outer ends c) (λ m. with_both (lower_expression p scope) (of_type m.word (lower_expression other scope)) (λ p other. lower_receive m (Some (p, other)) binds rest scope)) l k in
    let b = from_both (lower_expression p scope) (of_type m.0.word (lower_expression other scope)) (λ p other. lower_receive m.0 (Some (p, other)) binds rest scope) l m.2 in
    receive_has outer ends c channels m.0 m.1 (Some (b.0, b.1)) binds rest sites h scope l b.4
act_has outer ends channels (SendsWord c word) e binds rest sites h scope l k =
    let m = from_then (member_in outer ends c) (λ m. and_then (of_type m.word (lower_expression word scope)) (λ word. lower_send m None word binds rest scope)) l k in
    let w = from_then (of_type m.0.word (lower_expression word scope)) (λ word. lower_send m.0 None word binds rest scope) l m.2 in
    send_has outer ends c channels m.0 m.1 None w.0 binds rest sites h scope l w.2
act_has outer ends channels (SendsWordIf c p word) e binds rest sites h scope l k =
    let m = from_then (member_in outer ends c) (λ m. with_both (lower_expression p scope) (of_type m.word (lower_expression word scope)) (λ p word. lower_send m (Some p) word binds rest scope)) l k in
    let b = from_both (lower_expression p scope) (of_type m.0.word (lower_expression word scope)) (λ p word. lower_send m.0 (Some p) word binds rest scope) l m.2 in
    send_has outer ends c channels m.0 m.1 (Some b.0) b.1 binds rest sites h scope l b.4

statement_has : (outer : CoreScope) (ends : List End) (channels : List ℕ) (s : StmtLayer) (rest : StepsLowering) (sites : List Site) → RestHas channels rest sites
    → (scope : CoreScope) (l : LoweredSteps) → statement_steps outer ends s rest scope ≡ Some l → sites_of_steps channels l.steps ≡ map (site_in ends channels) (sites_in_stmt s) ++ sites
statement_has outer ends channels (Stmt-F.Let b) rest sites h scope l k =
    act_has outer ends channels (act_of (out-Let b).value) (out-Let b).value (lower_in_scope (lower_pattern_of_text (out-Let b).pattern)) rest sites h scope l k
statement_has outer ends channels (Stmt-F.Bare e) rest sites h scope l k = act_has outer ends channels (act_of e) e binds_nothing rest sites h scope l k

statements_have : (outer : CoreScope) (ends : List End) (channels : List ℕ) (ss : List Stmt) (last : Option Expr) → RestHas channels (statements_steps outer ends ss last) (map (site_in ends channels) (sites_in_stmts ss))
statements_have outer ends channels [] last scope l e =
    let v = from_then (last_of_steps last scope) (λ e. Some (record { steps = []; next = e })) l e in
    sym (ap (λ (x : LoweredSteps). sites_of_steps channels x.steps) (same_some (record { steps = []; next = v.0 }) l v.2))
statements_have outer ends channels (s ∷ ss) last scope l e =
    statement_has outer ends channels (out-Stmt s) (statements_steps outer ends ss last) (map (site_in ends channels) (sites_in_stmts ss)) (statements_have outer ends channels ss last) scope l e
    ∙ sym (map-append (site_in ends channels) (sites_in_stmt (out-Stmt s)) (sites_in_stmts ss))

-- the sites of an instance at its channels
pub sites_alike : (known : BodyEnv) (p : Proc) (l : LoweredNext) → lower_next known p ≡ Some l → (channels : List ℕ) → sites_of_steps channels l.steps ≡ map (site_in p.members channels) (site_names p)
sites_alike known p l low channels =
    let w = from_where (parametric_args_are_well_typed known.items known.parametric_args && not (known.items.is_constant p.next.state.name))
    (and_then (lower_type_of_text p.next.ty (outer_scope known)) (λ t. where_true (is_sized t) (steps_from (outer_scope known) p t))) l low in
    let t = from_then (lower_type_of_text p.next.ty (outer_scope known)) (λ t. where_true (is_sized t) (steps_from (outer_scope known) p t)) l w.1 in
    let z = from_where (is_sized t.0) (steps_from (outer_scope known) p t.0) l t.2 in
    let s = from_then (statements_steps (outer_scope known) p.members (out-Block p.next.body).statements (out-Block p.next.body).value (with_local p.next.state.name t.0 (outer_scope known)))
    (λ s. where_true (equal_type t.0 s.next.ty) (Some (record { state = t.0; steps = s.steps; next = s.next.core }))) l z.1 in
    let q = from_where (equal_type t.0 s.0.next.ty) (Some (record { state = t.0; steps = s.0.steps; next = s.0.next.core })) l s.2 in
    sym (ap (λ (x : LoweredNext). sites_of_steps channels x.steps) (same_some (record { state = t.0; steps = s.0.steps; next = s.0.next.core }) l q.1))
    ∙ statements_have (outer_scope known) p.members channels (out-Block p.next.body).statements (out-Block p.next.body).value (with_local p.next.state.name t.0 (outer_scope known)) s.0 s.1
