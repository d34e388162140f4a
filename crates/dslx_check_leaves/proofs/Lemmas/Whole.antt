-- Nodes from what their parts came to, by functions that look things up themselves.
use Rattle.std.proofs.Common.{◌≡◌, ◌++◌, ◌∙◌, ℕ, List, [], ◌∷◌, Option, Some, None, length, drop, refl, sym, ap, subst}
use Rattle.std.specs.Option.{option_map}
use Rattle.xb_span.specs.declared.span.Span.{Span}
use Rattle.dslx_tree.specs.declared.expr.Arg.{Arg, out-Arg}
use Rattle.dslx_tree.specs.declared.expr.Expr.{Expr, out-Expr}
use Rattle.dslx_tree.specs.declared.expr.FieldValue.{FieldValue, out-FieldValue}
use Rattle.dslx_meaning.specs.Rules.ConstantRules.{constant_of}
use Rattle.dslx_meaning.specs.Rules.CallRules.{ParametricArgument as GivenSeen, call_parts_reached, given_judgements}
use Rattle.dslx_meaning.specs.Rules.AggregateRules.{field_type}
use Rattle.dslx_meaning.specs.Rules.NameRules.{name_typing}
use Rattle.dslx_meaning.specs.Rules.TypeEnvs.{GlobalEnv, Judgement, TypeEnv, alone, no_token, reached_of_all}
use Rattle.base.specs.Lists.Prefix.{IsPrefix}
use Rattle.dslx_check_rules.specs.declared.table.row.TypeRow.{TypeRow}
use Rattle.dslx_check_rules.specs.declared.table.row.TypeId.{TypeId}
use Rattle.dslx_check_rules.specs.declared.typing.Typing.{Typing}
use Rattle.dslx_check_rules.specs.Interned.{HasRowIf, ItemNames, type_if}
use Rattle.dslx_check_facts.specs.declared.facts.Facts.{Facts}
use Rattle.dslx_check_facts.specs.declared.type_env.TypeEnv.{TypeEnv as CodeEnv}
use Rattle.dslx_check_facts.specs.Judged.{HasRows, environment}
use Rattle.dslx_check_facts.specs.Known.{FactsHold, item_names}
use Rattle.dslx_check_facts.specs.Walks.{WalkShown, instances_at}
use Rattle.dslx_check_facts.proofs.Lemmas.Walks.{grows_trans, nothing_missing, tables_trans}
use Rattle.dslx_check_facts.proofs.Lemmas.Judged.{rows_stay}
use Rattle.dslx_check_rules.specs.declared.nodes.parts.ConstantTyping.{ConstantTyping}
use Rattle.dslx_check_rules.specs.declared.nodes.parts.Spanned.{Spanned}
use Rattle.dslx_check_rules.specs.Nodes.Parts.{IsPart, IsPlaced, IsPlacedIf, Placed, judgements}
use Rattle.dslx_check_rules.specs.Nodes.Nodes.Structs.{FromField, field_part_of}
use Rattle.dslx_check_rules.specs.declared.control.calls.ParametricArgument.{ParametricArgument}
use Rattle.dslx_check_rules.specs.Control.Calls.{AreGiven, IsGiven}
use Rattle.dslx_check_leaves.specs.Named.Constants.{expr_typed}
use Rattle.dslx_check_leaves.specs.Typed.{given_at, placed, placed_field, placed_value}
use Rattle.dslx_check_uses.specs.Called.{CallFrom}
use Rattle.dslx_check_uses.specs.Uses.{NodeFrom}
use Rattle.dslx_check_leaves.specs.Walked.{Claim, WalksTo, TypesPart, TypesConstant, TypesEach, TypesOne, all_reached, given_reached, reached_if, reached_there}
use Rattle.dslx_check_leaves.proofs.Lemmas.Walking.{Both, both, behind_both, constant_stays, halved, nothing_reached, reached_both, same_types}
use Rattle.dslx_check_leaves.proofs.Lemmas.Each.{each_weaker}

-- a node that reaches nothing more than its parts
pub node_from : {X : Type 0} {f : Facts} {s0 s1 : CodeEnv} {w0 w1 w2 : WalkShown} {j : Typing} {is : ItemNames → List TypeRow → List TypeRow → X → Type 0} {half : TypeEnv → X → Judgement} (P : Claim) (x : TypeEnv → X)
    → WalksTo f s0 s1 w0 w1 P → NodeFrom f s1 w1 w2 is half j
    → ((names : ItemNames) (later : WalkShown) (more : List ℕ) (env : TypeEnv) → P names w1.rows later more env → is names w1.rows later.rows (x env))
    → ((names : ItemNames) (later : WalkShown) (more : List ℕ) (env : TypeEnv) → P names w1.rows later more env → instances_at names later.met more ≡ (half env (x env)).reached)
    → WalksTo f s0 s1 w0 w2 (TypesPart j (λ env. half env (x env)))
node_from {X} {f} {s0} {s1} {w0} {w1} {w2} {j} {is} {half} P x g h found comes = record {
  grows = grows_trans w0 w1 w2 g.grows h.grows;
  sight = g.sight;
  holds = λ known later has agrees there none.
      let names = item_names f in
      let env = environment f s0 known later in
      let t = g.holds known later (tables_trans w1 w2 later h.grows.tables has) agrees there (nothing_missing w1 w2 h.grows none) in
      let there_too : HasRows f s1 w1 = subst (λ (s : CodeEnv). HasRows f s w1) (sym g.sight) (rows_stay f s0 w0 w1 g.grows.tables there) in
      record {
        part = subst (λ (s : CodeEnv). IsPart names w2.rows later.rows j (half (environment f s known later) (x env))) g.sight
            (h.comes known later has agrees there_too none (x env) (found names later (drop (length w0.reached) w1.reached) env t));
        reaches = ap (λ (l : List ℕ). instances_at names later.met (drop (length w0.reached) l)) h.reached ∙ comes names later (drop (length w0.reached) w1.reached) env t;
      };
}

-- ---- fields of struct values

pub field_named : {f : Facts} {s0 s1 : CodeEnv} {w0 w1 : WalkShown} {j : Typing} (field : FieldValue) → (out-FieldValue field).value ≡ None
    → WalksTo f s0 s1 w0 w1 (TypesPart j (λ env. no_token (out-FieldValue field).name.span (name_typing (out-FieldValue field).name.span env (out-FieldValue field).name.name)))
    → WalksTo f s0 s1 w0 w1 (TypesOne IsPlaced reached_there (record { span = (out-FieldValue field).name.span; typing = j }) (λ env. placed_field env field))
field_named {f} {s0} {s1} {w0} {w1} {j} field is g =
    let name = (out-FieldValue field).name in
    subst (λ (v : Option Expr). WalksTo f s0 s1 w0 w1 (TypesOne IsPlaced reached_there (record { span = name.span; typing = j }) (λ env. placed_value env name v))) (sym is)
    (halved (TypesPart j (λ env. no_token name.span (name_typing name.span env name.name))) (TypesOne IsPlaced reached_there (record { span = name.span; typing = j }) (λ env. placed_value env name None)) g (same_types w1.rows)
    (λ names later more env distinct p t. record { part = record { span = refl; part = t.part }; reaches = t.reaches }))

pub field_value : {f : Facts} {s0 s1 : CodeEnv} {w0 w1 : WalkShown} {j : Typing} (field : FieldValue) (e : Expr) → (out-FieldValue field).value ≡ Some e → WalksTo f s0 s1 w0 w1 (TypesPart j (λ env. alone env (expr_typed e)))
    → WalksTo f s0 s1 w0 w1 (TypesOne IsPlaced reached_there (record { span = (out-Expr e).span; typing = j }) (λ env. placed_field env field))
field_value {f} {s0} {s1} {w0} {w1} {j} field e is g =
    let name = (out-FieldValue field).name in
    subst (λ (v : Option Expr). WalksTo f s0 s1 w0 w1 (TypesOne IsPlaced reached_there (record { span = (out-Expr e).span; typing = j }) (λ env. placed_value env name v))) (sym is)
    (halved (TypesPart j (λ env. alone env (expr_typed e))) (TypesOne IsPlaced reached_there (record { span = (out-Expr e).span; typing = j }) (λ env. placed_value env name (Some e))) g (same_types w1.rows)
    (λ names later more env distinct p t. record { part = record { span = refl; part = t.part }; reaches = t.reaches }))

pub others_none : {f : Facts} {s : CodeEnv} {w : WalkShown} {v : Option Expr} → v ≡ None → WalksTo f s s w w (TypesOne IsPlacedIf reached_if None (λ env. option_map (placed env) v))
others_none {f} {s} {w} {v} is =
    subst (λ (o : Option Expr). WalksTo f s s w w (TypesOne IsPlacedIf reached_if None (λ env. option_map (placed env) o))) (sym is)
    (nothing_reached (TypesOne IsPlacedIf reached_if None (λ env. None)) (same_types w.rows) (λ names later env distinct p. record { part = tt; reaches = refl }))

pub others_some : {f : Facts} {s0 s1 : CodeEnv} {w0 w1 : WalkShown} {j : Typing} {v : Option Expr} {e : Expr} → v ≡ Some e → WalksTo f s0 s1 w0 w1 (TypesPart j (λ env. alone env (expr_typed e)))
    → WalksTo f s0 s1 w0 w1 (TypesOne IsPlacedIf reached_if (Some (record { span = (out-Expr e).span; typing = j })) (λ env. option_map (placed env) v))
others_some {f} {s0} {s1} {w0} {w1} {j} {v} {e} is g =
    subst (λ (o : Option Expr). WalksTo f s0 s1 w0 w1 (TypesOne IsPlacedIf reached_if (Some (record { span = (out-Expr e).span; typing = j })) (λ env. option_map (placed env) o))) (sym is)
    (halved (TypesPart j (λ env. alone env (expr_typed e))) (TypesOne IsPlacedIf reached_if (Some (record { span = (out-Expr e).span; typing = j })) (λ env. Some (placed env e))) g (same_types w1.rows)
    (λ names later more env distinct p t. record { part = record { span = refl; part = t.part }; reaches = t.reaches }))

-- ---- parametric arguments

pub given_stays : (names : ItemNames) (rows longer later : List TypeRow) (g : ParametricArgument) (x : GivenSeen) → IsPrefix rows longer → IsGiven names rows later g x → IsGiven names longer later g x
given_stays names rows longer later g x h t = record { span = t.span; constant = constant_stays h t.constant }

pub argument_given : {f : Facts} {s0 s1 : CodeEnv} {w0 w1 : WalkShown} {c : ConstantTyping} (a : Arg) → WalksTo f s0 s1 w0 w1 (TypesConstant c (λ env. constant_of env (expr_typed (out-Arg a).value)))
    → WalksTo f s0 s1 w0 w1 (TypesOne IsGiven given_reached (record { span = (out-Expr (out-Arg a).value).span; constant = c }) (λ env. given_at env a))
argument_given {f} {s0} {s1} {w0} {w1} {c} a g =
    halved (TypesConstant c (λ env. constant_of env (expr_typed (out-Arg a).value))) (TypesOne IsGiven given_reached (record { span = (out-Expr (out-Arg a).value).span; constant = c }) (λ env. given_at env a)) g (same_types w1.rows)
    (λ names later more env distinct p t. record { part = record { span = refl; constant = t.constant }; reaches = t.reaches })

pub given_reach : (gs : List GivenSeen) → reached_of_all (given_judgements gs) ≡ all_reached given_reached gs
given_reach [] = refl
given_reach (g ∷ gs) = ap (λ ys. g.seen.judgement.reached ++ ys) (given_reach gs)

-- a call from its parametric arguments and its operands, with what it reaches itself
pub call_from : {f : Facts} {s0 s1 s2 : CodeEnv} {w0 w1 w2 w3 : WalkShown} {given : List ParametricArgument} {operands : List Spanned} {j : Typing} {G : TypeEnv → List GivenSeen} {X : TypeEnv → List Placed}
    {half : TypeEnv → List GivenSeen → List Placed → Judgement}
    → WalksTo f s0 s1 w0 w1 (TypesEach IsGiven given_reached given G) → WalksTo f s1 s2 w1 w2 (TypesEach IsPlaced reached_there operands X) → CallFrom f s2 w2 w3 given operands j half
    → ((xs : List Placed) → reached_of_all (judgements xs) ≡ all_reached reached_there xs)
    → WalksTo f s0 s2 w0 w3 (TypesPart j (λ env. half env (G env) (X env)))
call_from {f} {s0} {s1} {s2} {w0} {w1} {w2} {w3} {given} {operands} {j} {G} {X} {half} g k h places = record {
  grows = grows_trans w0 w2 w3 both_walked.grows h.grows;
  sight = both_walked.sight;
  holds = λ known later has agrees there none.
      let names = item_names f in
      let env = environment f s0 known later in
      let t = both_walked.holds known later (tables_trans w2 w3 later h.grows.tables has) agrees there (nothing_missing w2 w3 h.grows none) in
      let there_too : HasRows f s2 w2 = subst (λ (s : CodeEnv). HasRows f s w2) (sym both_walked.sight) (rows_stay f s0 w0 w2 both_walked.grows.tables there) in
      let gs : AreGiven names w2.rows later.rows given (G env) = each_weaker (IsGiven names w1.rows later.rows) (IsGiven names w2.rows later.rows) given (G env) (λ x y. given_stays names w1.rows w2.rows later.rows x y t.grows) t.first.parts in
      let k = h.comes known later has agrees there_too none (G env) (X env) gs t.second.parts in
      let parts : instances_at names later.met (drop (length w0.reached) w2.reached) ≡ call_parts_reached (G env) (judgements (X env)) =
      reached_both names later.met (drop (length w0.reached) w2.reached) t.front t.rest (all_reached given_reached (G env)) (all_reached reached_there (X env)) t.joined t.first.reaches t.second.reaches
      ∙ (λ i. sym (given_reach (G env)) i ++ sym (places (X env)) i) in
      record {
        part = subst (λ (s : CodeEnv). IsPart names w3.rows later.rows j (half (environment f s known later) (G env) (X env))) both_walked.sight k.0;
        reaches = reached_both names later.met (drop (length w0.reached) w3.reached) (drop (length w0.reached) w2.reached) (drop (length w2.reached) w3.reached)
            (call_parts_reached (G env) (judgements (X env))) (instances_at names later.met (drop (length w2.reached) w3.reached)) (behind_both w0.reached w2.reached w3.reached both_walked.grows.reached h.grows.reached) parts refl
            ∙ subst (λ (s : CodeEnv). call_parts_reached (G env) (judgements (X env)) ++ instances_at names later.met (drop (length w2.reached) w3.reached) ≡ (half (environment f s known later) (G env) (X env)).reached) both_walked.sight k.1;
      };
}
  where
    both_walked : WalksTo f s0 s2 w0 w2 (Both (TypesEach IsGiven given_reached given G) (TypesEach IsPlaced reached_there operands X) w1.rows)
    both_walked = both (TypesEach IsGiven given_reached given G) (TypesEach IsPlaced reached_there operands X) g k

-- ---- a field of a value

pub field_walked : {f : Facts} {s0 s1 : CodeEnv} {w0 w1 : WalkShown} {v j : Typing} {V : TypeEnv → Judgement} {field : Option TypeId} (span : Span) (name : List ℕ)
    → WalksTo f s0 s1 w0 w1 (TypesPart v V) → (HasRowIf w1.rows v.ty → HasRowIf w1.rows field)
    → ((later : List TypeRow) → IsPrefix w1.rows later → HasRowIf w1.rows v.ty → type_if (item_names f) later field ≡ field_type (type_if (item_names f) later v.ty) name)
    → FromField span w1.rows v field j → WalksTo f s0 s1 w0 w1 (TypesPart j (λ env. field_part_of span name (V env)))
field_walked {f} {s0} {s1} {w0} {w1} {v} {j} {V} {field} span name g row is made = record {
  grows = g.grows;
  sight = g.sight;
  holds = λ known later has agrees there none.
      let t = g.holds known later has agrees there none in
      record {
        part = made.typed (item_names f) later.rows agrees.distinct has.rows name (V (environment f s0 known later)) t.part (row t.part.row) (is later.rows has.rows t.part.row);
        reaches = t.reaches;
      };
}
