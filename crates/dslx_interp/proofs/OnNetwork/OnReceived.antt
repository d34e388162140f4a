-- Each word that is received in a checked text which is made of a text's instances has 1 to 128 bits.
use Rattle.std.proofs.Common.{◌≡◌, ◌++◌, ◌&&◌, ℕ, not, IsTrue, List, [], ◌∷◌, Option, Some, None, refl, sym, subst}
use Rattle.std.specs.List.{list_all}
use Rattle.std.specs.Prelude.{slice_get}
use Rattle.dslx_tree.specs.declared.block.Block.{out-Block}
use Rattle.dslx_tree.specs.declared.block.Let.{out-Let}
use Rattle.dslx_tree.specs.declared.block.Stmt.{Stmt, out-Stmt}
use Rattle.dslx_tree.specs.declared.block.Stmt.TheOpen.{Stmt-F}
use Rattle.dslx_tree.specs.declared.expr.Expr.{Expr}
use Rattle.dslx_tree.specs.declared.item.Module.{Module}
use Rattle.dslx_tree.specs.declared.process.End.{End}
use Rattle.dslx_tree.specs.declared.process.Proc.{Proc}
use Rattle.dslx_meaning.specs.Activation.{Computes, SendsWord, SendsWordIf, SiteAct, StmtLayer, TakesWord, TakesWordIf, act_of, opening_state}
use Rattle.dslx_meaning.specs.Environment.{Meanings}
use Rattle.dslx_meaning.specs.Items.{item_named, meanings_of}
use Rattle.dslx_meaning.specs.Lists.{and_then, index_in, where_true, with_both}
use Rattle.dslx_meaning.specs.Network.{as_proc}
use Rattle.dslx_meaning.specs.Types.{plain_type, received}
use Rattle.dslx_meaning.specs.declared.ty.DslxType.{DslxType}
use Rattle.dslx_meaning.specs.declared.ty.DslxType as ty
use Rattle.dslx_meaning.specs.declared.value.DslxValue.{DslxValue}
use Rattle.dslx_core.specs.Lowering.CoreScopes.{BodyEnv, CoreScope, with_local}
use Rattle.dslx_core.specs.Lowering.EqualTypes.{equal_type}
use Rattle.dslx_core.specs.Lowering.Functions.{CoreInstance, Instantiated, outer_scope, parametric_args_are_well_typed}
use Rattle.dslx_core.specs.Lowering.Lowering.{LoweredExpr}
use Rattle.dslx_core.specs.Lowering.Patterns.{lower_in_scope}
use Rattle.dslx_core.specs.Lowering.Steps.{BindsInScope, CoreMember, LoweredNext, LoweredSteps, StepsLowering, binds_nothing, can_travel, end_names, fits_word, is_sized, last_of_steps, lower_act, lower_compute, lower_next, lower_pattern_of_text, lower_receive, lower_send, member_in, proc_globals, statement_steps, statements_steps, step_then, steps_from}
use Rattle.dslx_core.specs.Lowering.Trees.{lower_expression, lower_type_of_text, of_type}
use Rattle.dslx_core.specs.Networks.Assembly.{IsDesignFrom, instances_alone}
use Rattle.dslx_core.specs.Networks.Configs.{ProcInstance, lower_config}
use Rattle.dslx_core.specs.Networks.Procs.{lower_proc, next_proc, procs_from}
use Rattle.dslx_core.specs.Networks.Procs as procs
use Rattle.dslx_core.specs.Typing.Typed.Kinds.{is_of}
use Rattle.dslx_core.specs.declared.design.Design.{Design}
use Rattle.dslx_core.specs.declared.design.Instance.{Instance}
use Rattle.dslx_core.specs.declared.step.Step.{Step}
use Rattle.dslx_core.specs.declared.step.Step.TheVariants as step
use Rattle.dslx_core.proofs.Lemmas.Lowering.{from_both, from_then, from_where}
use Rattle.dslx_core.proofs.Lemmas.Typing.Laws.{and_true}
use Rattle.dslx_core.proofs.Lemmas.Typing.Typed.{none_some, same_some}
use Rattle.dslx_interp.specs.Network.Bodies.{ReceivesWords, receives_word}
use Rattle.dslx_interp.proofs.OnNetwork.OnLinked.{Earlier, Final, OneMore, not_alone, there_or_last}

-- ---- steps

abbrev AllReceive : List Step → Type 0
AllReceive ss = IsTrue (list_all receives_word ss)

abbrev StepsReceive : StepsLowering → Type 0
StepsReceive l = (scope : CoreScope) (r : LoweredSteps) → l scope ≡ Some r → AllReceive r.steps

-- a step before others
step_receives : (s : Step) (rest : Option LoweredSteps) → IsTrue (receives_word s) → ((q : LoweredSteps) → rest ≡ Some q → AllReceive q.steps) → (r : LoweredSteps) → step_then s rest ≡ Some r → AllReceive r.steps
step_receives s rest one others r e =
    let q = from_then rest (λ rest. Some (record { steps = s ∷ rest.steps; next = rest.next })) r e in
    subst (λ (x : LoweredSteps). AllReceive x.steps) (same_some (record { steps = s ∷ (q.0).steps; next = (q.0).next }) r q.2) (λ i. one i && others q.0 q.1 i)

-- a word holds those of a member
member_fits : (outer : CoreScope) (ends : List End) (name : List ℕ) (m : CoreMember) → member_in outer ends name ≡ Some m → IsTrue (fits_word (plain_type m.word))
member_fits outer ends name m e =
    let k = from_then (index_in name (end_names ends)) (λ k. and_then (slice_get ends k) (λ e. and_then (lower_type_of_text e.word outer) (λ t. where_true (can_travel t) (Some (record { number = k; word = t }))))) m e in
    let x = from_then (slice_get ends k.0) (λ e. and_then (lower_type_of_text e.word outer) (λ t. where_true (can_travel t) (Some (record { number = k.0; word = t })))) m k.2 in
    let t = from_then (lower_type_of_text (x.0).word outer) (λ t. where_true (can_travel t) (Some (record { number = k.0; word = t }))) m x.2 in
    let w = from_where (can_travel t.0) (Some (record { number = k.0; word = t.0 })) m t.2 in
    subst (λ (n : CoreMember). IsTrue (fits_word (plain_type n.word))) (same_some (record { number = k.0; word = t.0 }) m w.1) (and_true (is_sized t.0) (fits_word (plain_type t.0)) w.0).1

receive_receives : (m : CoreMember) (both : Option (LoweredExpr × LoweredExpr)) (binds : BindsInScope) (rest : StepsLowering) → IsTrue (fits_word (plain_type m.word)) → StepsReceive rest → StepsReceive (lower_receive m both binds rest)
receive_receives m None binds rest fits h scope r low =
    let s = from_then (binds scope (received m.word)) (λ s. step_then (step.Receive (record { member = m.number; word = plain_type m.word; condition = None; shape = s.shape })) (rest s.scope)) r low in
    step_receives (step.Receive (record { member = m.number; word = plain_type m.word; condition = None; shape = (s.0).shape })) (rest (s.0).scope) fits (h (s.0).scope) r s.2
receive_receives m (Some both) binds rest fits h scope r low =
    let s = from_then (binds scope (received m.word)) (λ s. step_then (step.Receive (record { member = m.number; word = plain_type m.word; condition = Some ((both.0).core, (both.1).core); shape = s.shape })) (rest s.scope)) r low in
    step_receives (step.Receive (record { member = m.number; word = plain_type m.word; condition = Some ((both.0).core, (both.1).core); shape = (s.0).shape })) (rest (s.0).scope) fits (h (s.0).scope) r s.2

send_receives : (m : CoreMember) (c : Option LoweredExpr) (word : LoweredExpr) (binds : BindsInScope) (rest : StepsLowering) → StepsReceive rest → StepsReceive (lower_send m c word binds rest)
send_receives m None word binds rest h scope r low =
    let s = from_then (binds scope ty.Token) (λ s. step_then (step.Send (record { member = m.number; condition = None; word = word.core; shape = s.shape })) (rest s.scope)) r low in
    step_receives (step.Send (record { member = m.number; condition = None; word = word.core; shape = (s.0).shape })) (rest (s.0).scope) refl (h (s.0).scope) r s.2
send_receives m (Some c) word binds rest h scope r low =
    let s = from_then (binds scope ty.Token) (λ s. step_then (step.Send (record { member = m.number; condition = Some c.core; word = word.core; shape = s.shape })) (rest s.scope)) r low in
    step_receives (step.Send (record { member = m.number; condition = Some c.core; word = word.core; shape = (s.0).shape })) (rest (s.0).scope) refl (h (s.0).scope) r s.2

act_receives : (outer : CoreScope) (ends : List End) (act : SiteAct) (e : Expr) (binds : BindsInScope) (rest : StepsLowering) → StepsReceive rest → StepsReceive (lower_act outer ends act e binds rest)
act_receives outer ends Computes e binds rest h scope r low =
    let c = from_then (lower_expression e scope) (λ e. lower_compute e binds rest scope) r low in
    let s = from_then (binds scope (c.0).ty) (λ s. step_then (step.Bind (c.0).core s.shape) (rest s.scope)) r c.2 in
    step_receives (step.Bind (c.0).core (s.0).shape) (rest (s.0).scope) refl (h (s.0).scope) r s.2
act_receives outer ends (TakesWord c) e binds rest h scope r low =
    let m = from_then (member_in outer ends c) (λ m. lower_receive m None binds rest scope) r low in
    receive_receives m.0 None binds rest (member_fits outer ends c m.0 m.1) h scope r m.2
act_receives outer ends (TakesWordIf c p other) e binds rest h scope r low =
    let m = from_then (member_in outer ends c) (λ m. with_both (lower_expression p scope) (of_type m.word (lower_expression other scope)) (λ p other. lower_receive m (Some (p, other)) binds rest scope)) r low in
    let both = from_both (lower_expression p scope) (of_type (m.0).word (lower_expression other scope)) (λ p other. lower_receive m.0 (Some (p, other)) binds rest scope) r m.2 in
    receive_receives m.0 (Some (both.0, both.1)) binds rest (member_fits outer ends c m.0 m.1) h scope r both.4
act_receives outer ends (SendsWord c word) e binds rest h scope r low =
    let m = from_then (member_in outer ends c) (λ m. and_then (of_type m.word (lower_expression word scope)) (λ word. lower_send m None word binds rest scope)) r low in
    let w = from_then (of_type (m.0).word (lower_expression word scope)) (λ word. lower_send m.0 None word binds rest scope) r m.2 in
    send_receives m.0 None w.0 binds rest h scope r w.2
act_receives outer ends (SendsWordIf c p word) e binds rest h scope r low =
    let m = from_then (member_in outer ends c) (λ m. with_both (lower_expression p scope) (of_type m.word (lower_expression word scope)) (λ p word. lower_send m (Some p) word binds rest scope)) r low in
    let both = from_both (lower_expression p scope) (of_type (m.0).word (lower_expression word scope)) (λ p word. lower_send m.0 (Some p) word binds rest scope) r m.2 in
    send_receives m.0 (Some both.0) both.1 binds rest h scope r both.4

statement_receives : (outer : CoreScope) (ends : List End) (s : StmtLayer) (rest : StepsLowering) → StepsReceive rest → StepsReceive (statement_steps outer ends s rest)
statement_receives outer ends (Stmt-F.Let l) rest h = act_receives outer ends (act_of (out-Let l).value) (out-Let l).value (lower_in_scope (lower_pattern_of_text (out-Let l).pattern)) rest h
statement_receives outer ends (Stmt-F.Bare e) rest h = act_receives outer ends (act_of e) e binds_nothing rest h

statements_receive : (outer : CoreScope) (ends : List End) (ss : List Stmt) (last : Option Expr) → StepsReceive (statements_steps outer ends ss last)
statements_receive outer ends [] last scope r low =
    let e = from_then (last_of_steps last scope) (λ e. Some (record { steps = []; next = e })) r low in
    subst (λ (x : LoweredSteps). AllReceive x.steps) (same_some (record { steps = []; next = e.0 }) r e.2) refl
statements_receive outer ends (s ∷ ss) last scope r low = statement_receives outer ends (out-Stmt s) (statements_steps outer ends ss last) (statements_receive outer ends ss last) scope r low

-- ---- instances

next_receives : (known : BodyEnv) (p : Proc) (n : LoweredNext) → lower_next known p ≡ Some n → AllReceive n.steps
next_receives known p n e =
    let outer = outer_scope known in
    let body = out-Block p.next.body in
    let a = from_where (parametric_args_are_well_typed known.items known.parametric_args && not (known.items.is_constant p.next.state.name))
    (and_then (lower_type_of_text p.next.ty outer) (λ t. where_true (is_sized t) (steps_from outer p t))) n e in
    let t = from_then (lower_type_of_text p.next.ty outer) (λ t. where_true (is_sized t) (steps_from outer p t)) n a.1 in
    let b = from_where (is_sized t.0) (steps_from outer p t.0) n t.2 in
    let s = from_then (statements_steps outer p.members body.statements body.value (with_local p.next.state.name t.0 outer)) (λ s.
    where_true (equal_type t.0 s.next.ty) (Some (record { state = t.0; steps = s.steps; next = s.next.core }))) n b.1 in
    let c = from_where (equal_type t.0 (s.0).next.ty) (Some (record { state = t.0; steps = (s.0).steps; next = (s.0).next.core })) n s.2 in
    subst (λ (x : LoweredNext). AllReceive x.steps) (same_some (record { state = t.0; steps = (s.0).steps; next = (s.0).next.core }) n c.1)
    (statements_receive outer p.members body.statements body.value (with_local p.next.state.name t.0 outer) s.0 s.1)

proc_receives : (m : Module) (items : Meanings) (functions : List CoreInstance) (before : List ProcInstance) (p : Proc) (parametric_args : List DslxValue) (l : Instance) → lower_proc m items functions before p parametric_args ≡ Some l
    → AllReceive l.steps
proc_receives m items functions before p parametric_args l e =
    let both = from_both (lower_next (proc_globals m items functions p parametric_args) p) (lower_config m items before p parametric_args) (λ next config.
    and_then (opening_state items p parametric_args) (λ v. where_true (is_of next.state v) (Some (procs.instance_of p next config v)))) l e in
    let opening = from_then (opening_state items p parametric_args) (λ v. where_true (is_of (both.0).state v) (Some (procs.instance_of p both.0 both.1 v))) l both.4 in
    let fits = from_where (is_of (both.0).state opening.0) (Some (procs.instance_of p both.0 both.1 opening.0)) l opening.2 in
    subst (λ (i : Instance). AllReceive i.steps) (same_some (procs.instance_of p both.0 both.1 opening.0) l fits.1) (next_receives (proc_globals m items functions p parametric_args) p both.0 both.2)

instance_receives : (m : Module) (items : Meanings) (functions : List CoreInstance) (before : List ProcInstance) (i : Instantiated) (c : ProcInstance) → next_proc m items functions before i ≡ Some c
    → AllReceive (c.instance).steps
instance_receives m items functions before i c e =
    let p = from_then (as_proc (item_named i.name m.items)) (λ p.
    and_then (lower_proc m items functions before p i.parametric_args) (λ l. Some (record { name = i.name; parametric_args = i.parametric_args; instance = l }))) c e in
    let l = from_then (lower_proc m items functions before p.0 i.parametric_args) (λ l. Some (record { name = i.name; parametric_args = i.parametric_args; instance = l })) c p.2 in
    subst (λ (x : ProcInstance). AllReceive (x.instance).steps) (same_some (record { name = i.name; parametric_args = i.parametric_args; instance = l.0 }) c l.2)
    (proc_receives m items functions before p.0 i.parametric_args l.0 l.1)

EachReceives : List ProcInstance → Type 0
EachReceives is = (k : ℕ) (i : ProcInstance) → slice_get is k ≡ Some i → AllReceive (i.instance).steps

one_more_receives : (before : List ProcInstance) (c : ProcInstance) → EachReceives before → AllReceive (c.instance).steps → EachReceives (before ++ c ∷ [])
unfolding EachReceives
one_more_receives before c all one k i e = by_place (there_or_last before c k i e)
  where
    by_place : OneMore before c k i → AllReceive (i.instance).steps
    by_place (Earlier h) = all k i h
    by_place (Final h) = subst (λ (x : ProcInstance). AllReceive (x.instance).steps) (sym h) one

all_receive : (m : Module) (items : Meanings) (functions : List CoreInstance) (is : List Instantiated) (before found : List ProcInstance) → EachReceives before → procs_from m items functions before is ≡ Some found → EachReceives found
all_receive m items functions [] before found all e = subst EachReceives (same_some before found e) all
all_receive m items functions (i ∷ is) before found all e =
    let next = from_then (next_proc m items functions before i) (λ c. procs_from m items functions (before ++ c ∷ []) is) found e in
    all_receive m items functions is (before ++ next.0 ∷ []) found (one_more_receives before next.0 all (instance_receives m items functions before i next.0 next.1)) next.2

none_receive : EachReceives []
unfolding EachReceives
none_receive k i e = none_some i e

pub receives_if_made : (m : Module) (top : Option (List ℕ)) (design : Design) → IsDesignFrom m top design → ReceivesWords design
unfolding EachReceives
receives_if_made m top design d = subst ReceivesWords (sym d.design_is) each
  where
    all : EachReceives d.procs
    all = all_receive m (meanings_of m) d.functions d.named_procs [] d.procs none_receive d.each_proc

    each : (k : ℕ) (x : Instance) → slice_get (instances_alone d.procs) k ≡ Some x → AllReceive x.steps
    each k x e =
        let i = not_alone d.procs k x e in
        subst (λ (y : Instance). AllReceive y.steps) i.2 (all k i.0 i.1)
