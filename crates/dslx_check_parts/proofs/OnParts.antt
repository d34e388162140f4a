-- What is between the functions of the walk: loops over lists, slices of vectors, forms of calls, and names in scope.
use Rattle.std.proofs.Common.{◌≡◌, ◌∙◌, ◌++◌, ◌∷◌, ◌+◌, ◌-◌, ◌<◌, ◌≤◌, [], ℕ, List, Bool, true, false, Option, Some, None, drop, get_or, length, map, take, refl, sym, ap, subst}
use Rattle.xb_span.specs.declared.span.Span.{Span}
use Rattle.dslx_tree.specs.declared.expr.Arg.{Arg}
use Rattle.dslx_tree.specs.declared.expr.Expr.{Expr}
use Rattle.dslx_tree.specs.declared.expr.Arm.{Arm, out-Arm}
use Rattle.dslx_tree.specs.declared.expr.For.{For}
use Rattle.dslx_tree.specs.declared.expr.Number.{Number}
use Rattle.dslx_tree.specs.declared.type_expr.TypeExpr.{TypeExpr}
use Rattle.dslx_tree.specs.declared.ident.Ident.{Ident}
use Rattle.dslx_tree.specs.declared.process.Direction.{Direction}
use Rattle.dslx_meaning.specs.Callees.{CallKind, Joins, CountsLeading, CountsTrailing, Reverses, AllOnes, SomeOne, Parity, Updates, Receives, ReceivesIf, Sends, SendsIf, Calls}
use Rattle.dslx_meaning.specs.Rules.CallRules.{builtin_typing, only_on_top}
use Rattle.dslx_meaning.specs.declared.ty.DslxType.{DslxType}
use Rattle.dslx_meaning.specs.Rules.AggregateRules.{typed_array}
use Rattle.dslx_meaning.specs.Rules.PatternRules.{is_there, one_value}
use Rattle.dslx_meaning.specs.Rules.TypeEnvs.{Instance, Judgement, TypeEnv, Typed, alone}
use Rattle.dslx_meaning.specs.Rules.Typings.{ArmSeen as ArmTree, PatternPair}
use Rattle.dslx_check_rules.specs.declared.table.row.TypeId.{TypeId}
use Rattle.dslx_check_rules.specs.declared.table.row.TypeRow.{TypeRow}
use Rattle.dslx_check_rules.specs.declared.typing.Typing.{Typing}
use Rattle.dslx_check_rules.specs.Interned.{AreDistinct, HasRowIf, ItemNames, type_if}
use Rattle.base.specs.Lists.Prefix.{IsPrefix}
use Rattle.dslx_check_facts.specs.declared.facts.Facts.{Facts}
use Rattle.dslx_check_facts.specs.declared.type_env.TypeEnv.{TypeEnv as CodeEnv}
use Rattle.dslx_check_facts.specs.Walks.{WalkShown}
use Rattle.dslx_check_rules.specs.declared.nodes.arrays.Element.{Element}
use Rattle.dslx_check_rules.specs.declared.nodes.parts.Spanned.{Spanned}
use Rattle.dslx_check_rules.specs.Nodes.Nodes.Arrays.{FromElements, IsElement, typed_array_of}
use Rattle.dslx_check_rules.specs.Nodes.Parts.{FromAll, IsPart, IsPlaced, Placed}
use Rattle.dslx_check_rules.specs.declared.control.matches.AlternativesTyping.{AlternativesTyping}
use Rattle.dslx_check_rules.specs.declared.control.matches.ArmTyping.{ArmTyping}
use Rattle.dslx_check_rules.specs.declared.control.patterns.PatternTyping.{PatternTyping}
use Rattle.dslx_check_rules.specs.Control.Patterns.{IsPattern}
use Rattle.dslx_check_uses.specs.declared.forms.CallForm.{CallForm}
use Rattle.dslx_check_uses.specs.declared.forms.CallForm.TheVariants as form
use Rattle.dslx_check_uses.specs.Forms.{form_by}
use Rattle.dslx_check_leaves.specs.Named.Constants.{expr_typed}
use Rattle.dslx_check_leaves.specs.Fits.Typed.{PatternFrom, arm_typed, number_at, number_pattern_at, pattern_typed, type_typed}
use Rattle.dslx_check_leaves.proofs.Lemmas.Moving.{restated}
use Rattle.dslx_tree.specs.declared.block.Stmt.{Stmt}
use Rattle.dslx_meaning.specs.Rules.ControlRules.{statements_typing}
use Rattle.dslx_check_rules.specs.declared.control.control.StatementTyping.{StatementTyping}
use Rattle.dslx_check_leaves.specs.Typed.{stmt_typed, builtin_by, call_at, call_by, effect_at, element_at, function_at, given_at}
use Rattle.dslx_check_leaves.specs.Walked.{JudgedAlternatives, Moved, TypesStatements, PatternNames, WalksTo, TypesArm, TypesArms, TypesEach, TypesOne, TypesPart, TypesPattern, all_bound, all_reached, element_reached, reached_there, used_now}
use Rattle.dslx_check_leaves.proofs.Lemmas.Each.{each_by, elements_reach, next_of, none_yet, of_all, of_elements, one_more}
use Rattle.dslx_check_leaves.proofs.Lemmas.Walking.{AddsTypes, halved, retyped, same_types, with_rows}
use Rattle.dslx_check_leaves.proofs.Lemmas.OnArrays.{typed_array_is}
use Rattle.dslx_check_leaves.proofs.Lemmas.OnArms.{arm_walked, arms_by, kept_names, next_upto, no_arms, one_arm}
use Rattle.dslx_check_leaves.proofs.Lemmas.OnPatterns.{known_by, patterns_length, value_walked}
use Rattle.dslx_check_leaves.proofs.Lemmas.Binding.{scope_behind}
use Rattle.dslx_check_leaves.proofs.Lemmas.Loops.{Heads}
use Rattle.dslx_check_parts.specs.declared.builtins.BuiltinForm.{BuiltinForm}
use Rattle.dslx_check_parts.specs.declared.loops.LoopHeads.{LoopHeads}
use Rattle.dslx_check_parts.specs.Parts.{BindsAlternatives}
use Rattle.dslx_check_parts.specs.Builtins.{builtin_by_form, builtin_form_of}
use Rattle.dslx_check_parts.specs.Loops.{TypesHeads, from_of, to_of, start_of, written_of}

-- ---- loops over lists

-- one element more
pub each_next : {f : Facts} {s0 s1 s2 : CodeEnv} {w0 w1 w2 : WalkShown} {A C D : Type 0} {is : ItemNames → List TypeRow → List TypeRow → C → D → Type 0} {reached : D → List Instance} {all now : List C} {c : C}
    (g : TypeEnv → A → D) (xs : List A) (n : ℕ) (x : A)
    → ((names : ItemNames) (rows longer later : List TypeRow) (c : C) (d : D) → IsPrefix rows longer → is names rows later c d → is names longer later c d)
    → n < length xs → x ≡ get_or xs n x → now ≡ all ++ c ∷ []
    → WalksTo f s0 s1 w0 w1 (TypesEach is reached all (λ env. map (g env) (take n xs))) → WalksTo f s1 s2 w1 w2 (TypesOne is reached c (λ env. g env x))
    → WalksTo f s0 s2 w0 w2 (TypesEach is reached now (λ env. map (g env) (take (n + 1) xs)))
each_next {f} {s0} {s1} {s2} {w0} {w1} {w2} {A} {C} {D} {is} {reached} {all} {now} {c} g xs n x stays h e pushed before one =
    subst (λ (cs : List C). WalksTo f s0 s2 w0 w2 (TypesEach is reached cs (λ env. map (g env) (take (n + 1) xs)))) (sym pushed)
    (each_by (next_of g xs n x h e) (one_more stays before one))

-- none yet
pub each_begun : {f : Facts} {s : CodeEnv} {w : WalkShown} {A C D : Type 0} {is : ItemNames → List TypeRow → List TypeRow → C → D → Type 0} {reached : D → List Instance} {all : List C}
    (g : TypeEnv → A → D) (xs : List A) → all ≡ [] → WalksTo f s s w w (TypesEach is reached all (λ env. map (g env) (take 0 xs)))
each_begun {f} {s} {w} {A} {C} {D} {is} {reached} {all} g xs e =
    subst (λ (cs : List C). WalksTo f s s w w (TypesEach is reached cs (λ env. map (g env) (take 0 xs)))) (sym e) (none_yet {is = is} {reached = reached})

-- ---- names in scope

-- nothing is bound before
pub from_none : {f : Facts} {s0 s1 : CodeEnv} {w0 w1 : WalkShown} {p : PatternTyping} {old : List TypeRow} {ty : Option TypeId} {before after : PatternNames} {P : PatternFrom} → before ≡ []
    → WalksTo f s0 s1 w0 w1 (TypesPattern p old ty before after P) → WalksTo f s0 s1 w0 w1 (TypesPattern p old ty [] after P)
from_none {f} {s0} {s1} {w0} {w1} {p} {old} {ty} {before} {after} {P} e g = subst (λ (b : PatternNames). WalksTo f s0 s1 w0 w1 (TypesPattern p old ty b after P)) e g

-- ---- loops of the text

pub heads_are : {f : Facts} {s0 s1 : CodeEnv} {w0 w1 : WalkShown} {heads : LoopHeads} {n : For}
    → WalksTo f s0 s1 w0 w1 (Heads heads.from.constant heads.to.constant heads.start heads.written (from_of n) (to_of n) (start_of n) (written_of n)) → WalksTo f s0 s1 w0 w1 (TypesHeads heads n)
heads_are {f} {s0} {s1} {w0} {w1} {heads} {n} g =
    halved (Heads heads.from.constant heads.to.constant heads.start heads.written (from_of n) (to_of n) (start_of n) (written_of n)) (TypesHeads heads n) g (same_types w1.rows)
    (λ names later more env distinct p t. record { of_from = t.of_from; of_to = t.of_to; of_start = t.of_start; of_written = t.of_written; reaches = t.reaches })

pub heads_of : {f : Facts} {s0 s1 : CodeEnv} {w0 w1 : WalkShown} {heads : LoopHeads} {n : For}
    → WalksTo f s0 s1 w0 w1 (TypesHeads heads n) → WalksTo f s0 s1 w0 w1 (Heads heads.from.constant heads.to.constant heads.start heads.written (from_of n) (to_of n) (start_of n) (written_of n))
heads_of {f} {s0} {s1} {w0} {w1} {heads} {n} g =
    halved (TypesHeads heads n) (Heads heads.from.constant heads.to.constant heads.start heads.written (from_of n) (to_of n) (start_of n) (written_of n)) g (same_types w1.rows)
    (λ names later more env distinct p t. record { of_from = t.of_from; of_to = t.of_to; of_start = t.of_start; of_written = t.of_written; reaches = t.reaches })

-- ---- forms of calls

pub call_effect : (kind : CallKind) (direction : Direction) (count : ℕ) (span : Span) (name : Ident) (args : List Arg) (operands : List Expr) (on_top : Bool) → form.Effect direction count ≡ form_by kind
    → ◌≡◌ {A = TypeEnv → Judgement} (λ env. only_on_top on_top span (effect_at direction count span args operands env)) (call_at kind span name args operands on_top)
call_effect kind direction count span name args operands on_top is = λ i env. call_by (is i) kind span name args operands on_top env

pub call_function : (kind : CallKind) (span : Span) (name : Ident) (args : List Arg) (operands : List Expr) (on_top : Bool) → form.Function ≡ form_by kind
    → ◌≡◌ {A = TypeEnv → Judgement} (function_at span name args operands) (call_at kind span name args operands on_top)
call_function kind span name args operands on_top is = λ i env. call_by (is i) kind span name args operands on_top env

pub call_builtin : (own kind : CallKind) (span : Span) (name : Ident) (args : List Arg) (operands : List Expr) (on_top : Bool) → own ≡ kind → form.Builtin ≡ form_by kind
    → ◌≡◌ {A = TypeEnv → Judgement} (λ env. builtin_by own span env (map (given_at env) args) (map expr_typed operands)) (call_at kind span name args operands on_top)
call_builtin own kind span name args operands on_top same is =
    (λ i env. builtin_by (same i) span env (map (given_at env) args) (map expr_typed operands)) ∙ (λ i env. call_by (is i) kind span name args operands on_top env)

builtin_form_is : (kind : CallKind) (span : Span) (es : List Expr) (env : TypeEnv) → builtin_by_form (builtin_form_of kind) span es env ≡ builtin_typing kind span (map expr_typed es) env
builtin_form_is Joins span es env = refl
builtin_form_is CountsLeading span es env = refl
builtin_form_is CountsTrailing span es env = refl
builtin_form_is Reverses span es env = refl
builtin_form_is AllOnes span es env = refl
builtin_form_is SomeOne span es env = refl
builtin_form_is Parity span es env = refl
builtin_form_is Updates span es env = refl
builtin_form_is Receives span es env = refl
builtin_form_is ReceivesIf span es env = refl
builtin_form_is Sends span es env = refl
builtin_form_is SendsIf span es env = refl
builtin_form_is Calls span es env = refl

pub builtin_formed : (kind : CallKind) (own : BuiltinForm) (span : Span) (es : List Expr) → own ≡ builtin_form_of kind
    → ◌≡◌ {A = TypeEnv → Judgement} (builtin_by_form own span es) (λ env. builtin_typing kind span (map expr_typed es) env)
builtin_formed kind own span es is = (λ i env. builtin_by_form (is i) span es env) ∙ (λ i env. builtin_form_is kind span es env i)

pub formed : {own kind : CallKind} → own ≡ kind → form_by own ≡ form_by kind
formed e = ap form_by e

-- ---- slices of vectors

pub in_slice : {f : Facts} {s0 s1 : CodeEnv} {w0 w1 : WalkShown} {C D : Type 0} {is : ItemNames → List TypeRow → List TypeRow → C → D → Type 0} {reached : D → List Instance} {slice all : List C} {X : TypeEnv → List D}
    → slice ≡ all → WalksTo f s0 s1 w0 w1 (TypesEach is reached all X) → WalksTo f s0 s1 w0 w1 (TypesEach is reached slice X)
in_slice {f} {s0} {s1} {w0} {w1} {C} {D} {is} {reached} {slice} {all} {X} e g = subst (λ (cs : List C). WalksTo f s0 s1 w0 w1 (TypesEach is reached cs X)) (sym e) g

pub of_slice : {f : Facts} {s0 s1 : CodeEnv} {w0 w1 : WalkShown} {rows : List TypeRow} {slice all : List Spanned} {j : Typing} {X : TypeEnv → List Placed} {half : List Placed → Judgement}
    → slice ≡ all → WalksTo f s0 s1 w0 w1 (TypesEach IsPlaced reached_there all X) → AddsTypes w1.rows rows → FromAll half w1.rows rows slice j → ((xs : List Placed) → (half xs).reached ≡ all_reached reached_there xs)
    → WalksTo f s0 s1 w0 (with_rows w1 rows) (TypesPart j (λ env. half (X env)))
of_slice e g p h r = of_all (in_slice e g) p h r

pub array_walked : {f : Facts} {s0 s1 s2 : CodeEnv} {w0 w1 w2 : WalkShown} {a j : Typing} {slice all : List Element} (span : Span) (dots : Bool) (t : TypeExpr) (es : List Expr) → slice ≡ all
    → WalksTo f s0 s1 w0 w1 (TypesPart a (λ env. (type_typed t).1 env)) → WalksTo f s1 s2 w1 w2 (TypesEach IsElement element_reached all (λ env. map (element_at env) es))
    → FromElements (typed_array_of span dots) w2.rows a slice j → WalksTo f s0 s2 w0 w2 (TypesPart j (λ env. typed_array span env ((type_typed t).1 env) (map expr_typed es) dots))
array_walked span dots t es e g k made =
    retyped (typed_array_is span dots (λ env. (type_typed t).1 env) es) (of_elements {half = typed_array_of span dots} g (in_slice e k) made (λ x xs. ap (λ ys. x.reached ++ ys) (elements_reach _ xs)))

-- ---- what is bound

pub number_walked : {f : Facts} {s0 s1 : CodeEnv} {w0 w1 : WalkShown} {own : Typing} {p : PatternTyping} {ty : Option TypeId} {before : PatternNames} {is_known : Bool} (span : Span) (may_fail : Bool) (n : Number)
    → WalksTo f s0 s1 w0 w1 (TypesPart own (number_at span n))
    → ((items : ItemNames) (later : List TypeRow) → is_known ≡ is_there (type_if items later own.ty))
    → ((items : ItemNames) (later : List TypeRow) (j : Judgement) (bound : List (List ℕ)) (locals : List Typed) → AreDistinct items → IsPrefix w1.rows later → HasRowIf w1.rows ty
    → IsPart items w1.rows later own j → IsPattern p (one_value span may_fail (type_if items later ty) bound locals j is_known))
    → WalksTo f s0 s1 w0 w1 (TypesPattern p w0.rows ty before before (number_pattern_at span may_fail n))
number_walked {f} {s0} {s1} {w0} {w1} {own} {p} {ty} {before} {is_known} span may_fail n g known is =
    value_walked {D = number_at span n} {K = λ env. is_there (number_at span n env).ty} span may_fail g (same_types w1.rows)
    (λ items later env t. known_by items later own.ty (number_at span n env).ty is_known (known items later) t.ty) is

-- ---- arms

pub arms_in_slice : {f : Facts} {s0 s1 : CodeEnv} {w0 w1 : WalkShown} {slice all : List ArmTyping} {old : List TypeRow} {ty : Option TypeId} {trees : List ArmTree} → slice ≡ all
    → WalksTo f s0 s1 w0 w1 (TypesArms all old ty trees) → WalksTo f s0 s1 w0 w1 (TypesArms slice old ty trees)
arms_in_slice {f} {s0} {s1} {w0} {w1} {slice} {all} {old} {ty} {trees} e g = subst (λ (as' : List ArmTyping). WalksTo f s0 s1 w0 w1 (TypesArms as' old ty trees)) (sym e) g

pub arms_begun : {f : Facts} {s : CodeEnv} {w : WalkShown} {all : List ArmTyping} {ty : Option TypeId} (arms : List Arm) → all ≡ [] → WalksTo f s s w w (TypesArms all w.rows ty (map arm_typed (take 0 arms)))
arms_begun {f} {s} {w} {all} {ty} arms e = subst (λ (as' : List ArmTyping). WalksTo f s s w w (TypesArms as' w.rows ty (map arm_typed (take 0 arms)))) (sym e) no_arms

pub arms_next : {f : Facts} {s0 s1 s2 : CodeEnv} {w0 w1 w2 : WalkShown} {all now : List ArmTyping} {one : ArmTyping} {ty : Option TypeId} (arms : List Arm) (n : ℕ) (x : Arm) → n < length arms → x ≡ get_or arms n x → now ≡ all ++ one ∷ []
    → WalksTo f s0 s1 w0 w1 (TypesArms all w0.rows ty (map arm_typed (take n arms))) → WalksTo f s1 s2 w1 w2 (TypesArm one w1.rows ty (arm_typed x))
    → WalksTo f s0 s2 w0 w2 (TypesArms now w0.rows ty (map arm_typed (take (n + 1) arms)))
arms_next {f} {s0} {s1} {s2} {w0} {w1} {w2} {all} {now} {one} {ty} arms n x h e pushed g k =
    subst (λ (as' : List ArmTyping). WalksTo f s0 s2 w0 w2 (TypesArms as' w0.rows ty (map arm_typed (take (n + 1) arms)))) (sym pushed) (arms_by (next_upto arm_typed arms n x h e) (one_arm g k))

pub arm_done : {f : Facts} {s0 s2 s3 : CodeEnv} {w0 w1 w2 : WalkShown} {j : AlternativesTyping} {value : Typing} {ty : Option TypeId} {count kept : ℕ} {L : PatternNames} (a : Arm)
    → kept ≡ length s0.locals → BindsAlternatives f s0 s2 w0 w1 j ty (map pattern_typed (out-Arm a).patterns) → WalksTo f s2 s3 w1 w2 (TypesPart value (λ env. alone env (expr_typed (out-Arm a).value)))
    → L ≡ drop (length s3.locals - kept) s3.locals → count ≡ length (out-Arm a).patterns
    → WalksTo f s0 (record s3 { locals = L }) w0 w2 (TypesArm (record { count = count; alternatives = j; value = value }) w0.rows ty (arm_typed a))
arm_done {f} {s0} {s2} {s3} {w0} {w1} {w2} {j} {value} {ty} {count} {kept} {L} a n b h l counts =
    let more = all_bound b.names in
    let back : record s3 { locals = L } ≡ s0 = kept_names more (b.is ∙ ap (scope_behind more None) b.walked.walked.sight) h.sight n l in
    arm_walked {a = record { count = count; alternatives = j; value = value }} (arm_typed a) b.walked b.is h back (counts ∙ sym (patterns_length (out-Arm a).patterns))

pub alternatives_from_none : {f : Facts} {s0 s1 : CodeEnv} {w0 w1 : WalkShown} {j : AlternativesTyping} {ty : Option TypeId} {before now : List PatternNames} {ps : List PatternPair} → before ≡ []
    → JudgedAlternatives f s0 s1 w0 w1 j ty before now ps → JudgedAlternatives f s0 s1 w0 w1 j ty [] now ps
alternatives_from_none {f} {s0} {s1} {w0} {w1} {j} {ty} {before} {now} {ps} e g = subst (λ (b : List PatternNames). JudgedAlternatives f s0 s1 w0 w1 j ty b now ps) e g

-- what a box holds
pub some_by : {A : Type 0} {o : Option A} {x y : A} → o ≡ Some x → y ≡ x → o ≡ Some y
some_by is e = is ∙ ap (λ z. Some z) (sym e)

-- statements of a slice
pub statements_of : {f : Facts} {s0 s1 : CodeEnv} {w0 w1 : WalkShown} {j : StatementTyping} {slice all : List Stmt} (on_top : Bool) → slice ≡ all
    → Moved f s0 s1 w0 w1 (TypesStatements j (λ env. statements_typing (map stmt_typed slice) on_top env)) → Moved f s0 s1 w0 w1 (TypesStatements j (λ env. statements_typing (map stmt_typed all) on_top env))
statements_of on_top e g = restated (λ i env. statements_typing (map stmt_typed (e i)) on_top env) g
