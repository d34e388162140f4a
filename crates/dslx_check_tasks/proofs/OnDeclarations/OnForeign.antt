-- Parts of declarations.
use Rattle.std.proofs.Common.{◌≡◌, ◌∙◌, ◌<◌, ◌+◌, ◌++◌, ℕ, List, [], ◌∷◌, Option, Some, None, map, length, take, get_or, slice_get, refl, sym, ap, subst}
use Rattle.std.specs.List.{AllByRecursion}
use Rattle.base.specs.Lists.Prefix.{IsPrefix}
use Rattle.dslx_tree.specs.declared.expr.Expr.{Expr}
use Rattle.dslx_tree.specs.declared.item.Definition.{Definition}
use Rattle.dslx_tree.specs.declared.item.Definition.TheVariants as d
use Rattle.dslx_tree.specs.declared.item.Function.{Function}
use Rattle.dslx_tree.specs.declared.item.Parametric.{Parametric}
use Rattle.dslx_tree.specs.declared.process.Proc.{Proc}
use Rattle.dslx_meaning.specs.declared.value.DslxValue.{DslxValue}
use Rattle.dslx_meaning.specs.Rules.ConstantRules.{constant_of, untyped_typing}
use Rattle.dslx_meaning.specs.Rules.ModuleRules.{default_if, no_signature, signature_of}
use Rattle.dslx_meaning.specs.Rules.NodeRules.{expr_pair}
use Rattle.dslx_meaning.specs.Rules.TypeEnvs.{Judgement, Signature, TypeEnv}
use Rattle.dslx_meaning.specs.Rules.TypeRules.{unless_unit}
use Rattle.dslx_check_rules.specs.declared.table.row.TypeId.{TypeId}
use Rattle.dslx_check_rules.specs.declared.table.row.TypeRow.{TypeRow}
use Rattle.dslx_check_rules.specs.declared.typing.Typing.{Typing}
use Rattle.dslx_check_rules.specs.Interned.{HasRowIf, ItemNames, type_if}
use Rattle.dslx_check_rules.specs.Seen.{seen}
use Rattle.dslx_check_facts.specs.declared.facts.Facts.{Facts}
use Rattle.dslx_check_facts.specs.declared.facts.ForeignSeen.{ForeignSeen}
use Rattle.dslx_check_facts.specs.declared.facts.ForeignSeen.TheVariants as foreign
use Rattle.dslx_check_facts.specs.declared.facts.SignatureThere.{SignatureThere}
use Rattle.dslx_check_facts.specs.declared.facts.TypingThere.{TypingThere}
use Rattle.dslx_check_facts.specs.declared.type_env.TypeEnv.{TypeEnv as CodeEnv}
use Rattle.dslx_check_facts.specs.Keys.{list_or_none, values_or_none}
use Rattle.dslx_check_facts.specs.Known.{item_names}
use Rattle.dslx_check_facts.specs.Walks.{WalkShown}
use Rattle.dslx_check_facts.proofs.Lemmas.Judged.{all_weaker, row_stays_if}
use Rattle.dslx_check_rules.specs.declared.nodes.parts.ConstantTyping.{ConstantTyping}
use Rattle.dslx_check_rules.specs.Nodes.Parts.{Pairs}
use Rattle.dslx_check_leaves.specs.Walked.{Claim, TypesConstant, TypesEach, TypesOne, TypesPart, WalksTo}
use Rattle.dslx_check_leaves.proofs.Lemmas.Each.{each_by, next_of, none_yet, one_more}
use Rattle.dslx_check_leaves.proofs.Lemmas.Walking.{Both, both, front_and_rest, halved, nothing_reached, same_types}
use Rattle.dslx_check_judge.proofs.Lemmas.Items.OnLists.{type_stays}
use Rattle.dslx_check_tasks.specs.Declarations.Inner.Foreign.{GivesDefault, GivesParameter, GivesSignature, IsDeclaredAs, TypesSignature, TypesThere, TypesTree, default_tree, parameter_in, reached_in}

-- ---- what isn't there

pub no_part : {f : Facts} {s : CodeEnv} {w : WalkShown} {j : Typing} → j.ty ≡ None → j.faults ≡ seen [] → j.size ≡ Some 1 → WalksTo f s s w w (TypesPart j (λ env. untyped_typing))
no_part {f} {s} {w} {j} ty faults size =
    nothing_reached (TypesPart j (λ env. untyped_typing)) (same_types w.rows)
    (λ names later env distinct p. record { part = record { row = subst (HasRowIf w.rows) (sym ty) tt; ty = ap (type_if names later.rows) ty; faults = faults; size = size }; reaches = refl })

pub no_default : {f : Facts} {s : CodeEnv} {w : WalkShown} {c : ConstantTyping} → c.typing.ty ≡ None → c.typing.faults ≡ seen [] → c.typing.size ≡ Some 1 → c.value ≡ None
    → WalksTo f s s w w (TypesTree c (λ env. default_if env None))
no_default {f} {s} {w} {c} ty faults size value =
    nothing_reached (TypesTree c (λ env. default_if env None)) (same_types w.rows)
    (λ names later env distinct p. record { part = record { row = subst (HasRowIf w.rows) (sym ty) tt; ty = ap (type_if names later.rows) ty; faults = faults; size = size }; value = value; reaches = refl })

pub some_default : {f : Facts} {s0 s1 : CodeEnv} {w0 w1 : WalkShown} {c : ConstantTyping} (e : Expr) → WalksTo f s0 s1 w0 w1 (TypesConstant c (λ env. constant_of env (expr_pair e)))
    → WalksTo f s0 s1 w0 w1 (TypesTree c (λ env. default_if env (Some e)))
some_default {f} {s0} {s1} {w0} {w1} {c} e g =
    halved (TypesConstant c (λ env. constant_of env (expr_pair e))) (TypesTree c (λ env. default_if env (Some e))) g (same_types w1.rows)
    (λ names later more env distinct p t. record { part = t.constant.part; value = t.constant.value; reaches = t.reaches })

-- ---- with all that was reached

joined_there : {f : Facts} {s0 s1 : CodeEnv} {w0 w1 : WalkShown} {j : Typing} {J : TypeEnv → Judgement} (t : TypingThere) → WalksTo f s0 s1 w0 w1 (TypesPart j J) → t.ty ≡ j.ty → t.faults ≡ j.faults → t.reached.items ≡ w1.reached
    → WalksTo f s0 s1 w0 w1 (TypesThere t w0.reached J)
joined_there {f} {s0} {s1} {w0} {w1} {j} {J} t g ty faults reached = record {
  grows = g.grows;
  sight = g.sight;
  holds = λ known later has agrees there none.
      let k = g.holds known later has agrees there none in
      record {
        type = record { row = subst (HasRowIf w1.rows) (sym ty) k.part.row; ty = ap (type_if (item_names f) later.rows) ty ∙ k.part.ty };
        faults_are = faults ∙ k.part.faults;
        all = reached ∙ front_and_rest w0.reached w1.reached g.grows.reached;
        reaches = k.reaches;
      };
}

pub gives_parameter : {f : Facts} {s0 s1 : CodeEnv} {w0 w1 : WalkShown} {j : Typing} {t : TypingThere} {there : ForeignSeen} (p : Option Parametric) → WalksTo f s0 s1 w0 w1 (TypesPart j (λ env. parameter_in env p))
    → t.ty ≡ j.ty → t.faults ≡ j.faults → t.reached.items ≡ w1.reached → there ≡ foreign.Parameter t → GivesParameter f s0 s1 w0 w1 there p
gives_parameter {f} {s0} {s1} {w0} {w1} {j} {t} p g ty faults reached is = (t, is, joined_there t g ty faults reached)

pub gives_default : {f : Facts} {s0 s1 : CodeEnv} {w0 w1 : WalkShown} {c : ConstantTyping} {t : TypingThere} {value : Option DslxValue} {there : ForeignSeen} (p : Option Parametric)
    → WalksTo f s0 s1 w0 w1 (TypesTree c (λ env. default_if env (default_tree p))) → t.ty ≡ c.typing.ty → t.faults ≡ c.typing.faults → t.reached.items ≡ w1.reached → value ≡ c.value
    → there ≡ foreign.Default (record { typing = t; value = value }) → GivesDefault f s0 s1 w0 w1 there p
gives_default {f} {s0} {s1} {w0} {w1} {c} {t} {value} p g ty faults reached valued is =
    let J : TypeEnv → Judgement = λ env. (default_if env (default_tree p)).judgement in
    let typed : WalksTo f s0 s1 w0 w1 (TypesPart c.typing J) =
    halved (TypesTree c (λ env. default_if env (default_tree p))) (TypesPart c.typing J) g (same_types w1.rows) (λ names later more env distinct q k. record { part = k.part; reaches = k.reaches }) in
    let walked = joined_there t typed ty faults reached in (
      record { typing = t; value = value },
      is,
      record {
        grows = g.grows;
        sight = g.sight;
        holds = λ known later has agrees there none. record {
          typing = walked.holds known later has agrees there none;
          value = valued ∙ (g.holds known later has agrees there none).value;
        };
      },
    )

pub gives_signature : {f : Facts} {s0 s1 : CodeEnv} {w0 w1 : WalkShown} {s : SignatureThere} {there : ForeignSeen} (signature : TypeEnv → Signature) → WalksTo f s0 s1 w0 w1 (TypesSignature s signature) → there ≡ foreign.Signature s
    → GivesSignature f s0 s1 w0 w1 there signature
gives_signature {f} {s0} {s1} {w0} {w1} {s} signature g is = (s, is, g)

-- ---- signatures

pub declared_one : {f : Facts} {s0 s1 : CodeEnv} {w0 w1 : WalkShown} {j : Typing} {t : Option TypeId} {J : TypeEnv → Judgement} → WalksTo f s0 s1 w0 w1 (TypesPart j J)
    → ((names : ItemNames) (later : List TypeRow) → IsPrefix w1.rows later → HasRowIf w1.rows j.ty → type_if names later t ≡ unless_unit (type_if names later j.ty)) → (HasRowIf w1.rows j.ty → HasRowIf w1.rows t)
    → WalksTo f s0 s1 w0 w1 (TypesOne IsDeclaredAs reached_in t J)
declared_one {f} {s0} {s1} {w0} {w1} {j} {t} {J} g is there =
    halved (TypesPart j J) (TypesOne IsDeclaredAs reached_in t J) g (same_types w1.rows)
    (λ names later more env distinct p k. record { part = record { row = there k.part.row; ty = is names later.rows p k.part.row ∙ ap unless_unit k.part.ty }; reaches = k.reaches })

pub declared_stays : (names : ItemNames) (rows longer later : List TypeRow) (c : Option TypeId) (d : Judgement) → IsPrefix rows longer → IsDeclaredAs names rows later c d → IsDeclaredAs names longer later c d
declared_stays names rows longer later c d p t = type_stays names rows longer later c (unless_unit d.ty) p t

all_rows : {A : Type 0} (of : A → Judgement) (names : ItemNames) (rows later : List TypeRow) (ts : List (Option TypeId)) (xs : List A) → Pairs (IsDeclaredAs names rows later) ts (map of xs) → AllByRecursion (HasRowIf rows) ts
all_rows of names rows later [] [] h = tt
all_rows of names rows later [] (x ∷ xs) h = absurd h
all_rows of names rows later (t ∷ ts) [] h = absurd h
all_rows of names rows later (t ∷ ts) (x ∷ xs) h = (h.0.row, all_rows of names rows later ts xs h.1)

all_types : {A : Type 0} (of : A → Judgement) (names : ItemNames) (rows later : List TypeRow) (ts : List (Option TypeId)) (xs : List A) → Pairs (IsDeclaredAs names rows later) ts (map of xs)
    → map (type_if names later) ts ≡ map (λ x. unless_unit (of x).ty) xs
all_types of names rows later [] [] h = refl
all_types of names rows later [] (x ∷ xs) h = absurd h
all_types of names rows later (t ∷ ts) [] h = absurd h
all_types of names rows later (t ∷ ts) (x ∷ xs) h = λ i. h.0.ty i ∷ all_types of names rows later ts xs h.1 i

-- arguments and a result
pub with_result : {A : Type 0} {f : Facts} {s0 s1 s2 : CodeEnv} {w0 w1 w2 : WalkShown} (of : TypeEnv → A → Judgement) (xs : List A) {slice : List A} {ts : List (Option TypeId)} {j : Typing} {J : TypeEnv → Judgement} {s : SignatureThere} → slice ≡ xs
    → WalksTo f s0 s1 w0 w1 (TypesEach IsDeclaredAs reached_in ts (λ env. map (of env) slice)) → WalksTo f s1 s2 w1 w2 (TypesPart j J) → s.arguments.items ≡ ts → s.result ≡ j.ty
    → WalksTo f s0 s2 w0 w2 (TypesSignature s (λ env. record { arguments = map (λ x. unless_unit (of env x).ty) xs; result = (J env).ty }))
with_result {A} {f} {s0} {s1} {s2} {w0} {w1} {w2} of xs {slice} {ts} {j} {J} {s} as_slice g k arguments result =
    let P : Claim = TypesEach IsDeclaredAs reached_in ts (λ env. map (of env) xs) in
    let walked : WalksTo f s0 s1 w0 w1 P = subst (λ (ys : List A). WalksTo f s0 s1 w0 w1 (TypesEach IsDeclaredAs reached_in ts (λ env. map (of env) ys))) as_slice g in
    halved (Both P (TypesPart j J) w1.rows) (TypesSignature s (λ env. record { arguments = map (λ x. unless_unit (of env x).ty) xs; result = (J env).ty })) (both P (TypesPart j J) walked k) (same_types w2.rows)
    (λ names later more env distinct p t. record {
      rows_there = subst (AllByRecursion (HasRowIf w2.rows)) (sym arguments) (all_weaker (HasRowIf w1.rows) (HasRowIf w2.rows) ts (λ c. row_stays_if w1.rows w2.rows c t.grows) (all_rows (of env) names w1.rows later.rows ts xs t.first.parts));
      arguments = ap (map (type_if names later.rows)) arguments ∙ all_types (of env) names w1.rows later.rows ts xs t.first.parts;
      result = record { row = subst (HasRowIf w2.rows) (sym result) t.second.part.row; ty = ap (type_if names later.rows) result ∙ t.second.part.ty };
    })

-- arguments alone
pub without_result : {A : Type 0} {f : Facts} {s0 s1 : CodeEnv} {w0 w1 : WalkShown} (of : TypeEnv → A → Judgement) (xs : List A) {slice : List A} {ts : List (Option TypeId)} {s : SignatureThere} → slice ≡ xs
    → WalksTo f s0 s1 w0 w1 (TypesEach IsDeclaredAs reached_in ts (λ env. map (of env) slice)) → s.arguments.items ≡ ts → s.result ≡ None
    → WalksTo f s0 s1 w0 w1 (TypesSignature s (λ env. record { arguments = map (λ x. unless_unit (of env x).ty) xs; result = None }))
without_result {A} {f} {s0} {s1} {w0} {w1} of xs {slice} {ts} {s} as_slice g arguments result =
    let P : Claim = TypesEach IsDeclaredAs reached_in ts (λ env. map (of env) xs) in
    let walked : WalksTo f s0 s1 w0 w1 P = subst (λ (ys : List A). WalksTo f s0 s1 w0 w1 (TypesEach IsDeclaredAs reached_in ts (λ env. map (of env) ys))) as_slice g in
    halved P (TypesSignature s (λ env. record { arguments = map (λ x. unless_unit (of env x).ty) xs; result = None })) walked (same_types w1.rows)
    (λ names later more env distinct p t. record {
      rows_there = subst (AllByRecursion (HasRowIf w1.rows)) (sym arguments) (all_rows (of env) names w1.rows later.rows ts xs t.parts);
      arguments = ap (map (type_if names later.rows)) arguments ∙ all_types (of env) names w1.rows later.rows ts xs t.parts;
      result = record { row = subst (HasRowIf w1.rows) (sym result) tt; ty = ap (type_if names later.rows) result };
    })

-- an item that has none
no_signature_of : (x : Definition) → ((own : Function) → x ≡ d.Function own → ⊥) → ((own : Proc) → x ≡ d.Proc own → ⊥) → ◌≡◌ {A = TypeEnv → Signature} (λ context. no_signature) (λ context. signature_of context (Some x))
no_signature_of (d.Function own) no_function no_proc = absurd (no_function own refl)
no_signature_of (d.Proc own) no_function no_proc = absurd (no_proc own refl)
no_signature_of (d.Constant c) no_function no_proc = refl
no_signature_of (d.Alias a) no_function no_proc = refl
no_signature_of (d.Struct s) no_function no_proc = refl
no_signature_of (d.Enum e) no_function no_proc = refl

nothing_declared : {f : Facts} {s : CodeEnv} {w : WalkShown} {there : SignatureThere} → there.arguments.items ≡ [] → there.result ≡ None → WalksTo f s s w w (TypesSignature there (λ context. no_signature))
nothing_declared {f} {s} {w} {there} arguments result =
    nothing_reached (TypesSignature there (λ context. no_signature)) (same_types w.rows)
    (λ names later env distinct p. record {
      rows_there = subst (AllByRecursion (HasRowIf w.rows)) (sym arguments) tt;
      arguments = ap (map (type_if names later.rows)) arguments;
      result = record { row = subst (HasRowIf w.rows) (sym result) tt; ty = ap (type_if names later.rows) result };
    })

pub other_declared : {f : Facts} {s : CodeEnv} {w : WalkShown} {there : SignatureThere} (x : Definition) → ((own : Function) → x ≡ d.Function own → ⊥) → ((own : Proc) → x ≡ d.Proc own → ⊥) → there.arguments.items ≡ [] → there.result ≡ None
    → WalksTo f s s w w (TypesSignature there (λ context. signature_of context (Some x)))
other_declared {f} {s} {w} {there} x no_function no_proc arguments result =
    subst (λ (S : TypeEnv → Signature). WalksTo f s s w w (TypesSignature there S)) (no_signature_of x no_function no_proc) (nothing_declared arguments result)

-- ---- between functions

pub tree_as : {f : Facts} {s0 s1 : CodeEnv} {w0 w1 : WalkShown} {c : ConstantTyping} {o p : Option Expr} → o ≡ p → WalksTo f s0 s1 w0 w1 (TypesTree c (λ env. default_if env o)) → WalksTo f s0 s1 w0 w1 (TypesTree c (λ env. default_if env p))
tree_as {f} {s0} {s1} {w0} {w1} {c} e g = subst (λ (o : Option Expr). WalksTo f s0 s1 w0 w1 (TypesTree c (λ env. default_if env o))) e g

pub declared_as : {f : Facts} {s0 s1 : CodeEnv} {w0 w1 : WalkShown} {there : SignatureThere} {x y : Definition} → x ≡ y → WalksTo f s0 s1 w0 w1 (TypesSignature there (λ context. signature_of context (Some x)))
    → WalksTo f s0 s1 w0 w1 (TypesSignature there (λ context. signature_of context (Some y)))
declared_as {f} {s0} {s1} {w0} {w1} {there} e g = subst (λ (x : Definition). WalksTo f s0 s1 w0 w1 (TypesSignature there (λ context. signature_of context (Some x)))) e g

pub declared_begun : {f : Facts} {s : CodeEnv} {w : WalkShown} {A : Type 0} {all : List (Option TypeId)} (g : TypeEnv → A → Judgement) (xs : List A) → all ≡ []
    → WalksTo f s s w w (TypesEach IsDeclaredAs reached_in all (λ env. map (g env) (take 0 xs)))
declared_begun {f} {s} {w} {A} {all} g xs e =
    subst (λ (cs : List (Option TypeId)). WalksTo f s s w w (TypesEach IsDeclaredAs reached_in cs (λ env. map (g env) (take 0 xs)))) (sym e) (none_yet {is = IsDeclaredAs} {reached = reached_in})

pub declared_next : {f : Facts} {s0 s1 s2 : CodeEnv} {w0 w1 w2 : WalkShown} {A : Type 0} {all now : List (Option TypeId)} {c : Option TypeId} (g : TypeEnv → A → Judgement) (xs : List A) (n : ℕ) (x : A) → n < length xs → x ≡ get_or xs n x → now ≡ all ++ c ∷ []
    → WalksTo f s0 s1 w0 w1 (TypesEach IsDeclaredAs reached_in all (λ env. map (g env) (take n xs))) → WalksTo f s1 s2 w1 w2 (TypesOne IsDeclaredAs reached_in c (λ env. g env x))
    → WalksTo f s0 s2 w0 w2 (TypesEach IsDeclaredAs reached_in now (λ env. map (g env) (take (n + 1) xs)))
declared_next {f} {s0} {s1} {s2} {w0} {w1} {w2} {A} {all} {now} {c} g xs n x h e pushed before one =
    subst (λ (cs : List (Option TypeId)). WalksTo f s0 s2 w0 w2 (TypesEach IsDeclaredAs reached_in cs (λ env. map (g env) (take (n + 1) xs)))) (sym pushed) (each_by (next_of g xs n x h e) (one_more declared_stays before one))

-- a prefix that is there
pub list_there : (lists : List (List (Option DslxValue))) (n : ℕ) {list : List (Option DslxValue)} → slice_get lists n ≡ Some list → slice_get lists n ≡ Some (list_or_none lists n)
list_there lists n is = is ∙ ap Some (sym (ap values_or_none is))

-- that of no parametrics
pub first_prefix : (lists : List (List (Option DslxValue))) (n first : ℕ) → n ≡ first → slice_get lists first ≡ Some [] → slice_get lists n ≡ Some (list_or_none lists n)
first_prefix lists n first same none = list_there lists n (ap (slice_get lists) same ∙ none)
