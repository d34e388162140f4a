-- Constants.
use Rattle.std.proofs.Common.{◌≡◌, ◌∙◌, ◌&&◌, ◌++◌, ℕ, Bool, List, [], Option, Some, None, refl, sym, ap, subst}
use Rattle.std.specs.Prelude.{if◌then◌else◌}
use Rattle.std.specs.Option.{option_map}
use Rattle.base.specs.Lists.Prefix.{IsPrefix}
use Rattle.xb_span.specs.declared.fault.Fault.{Fault}
use Rattle.dslx_tree.specs.declared.expr.Expr.{out-Expr}
use Rattle.dslx_tree.specs.declared.item.Constant.{Constant}
use Rattle.dslx_tree.specs.declared.item.Definition.TheVariants as d
use Rattle.dslx_tree.specs.declared.type_expr.TypeExpr.{TypeExpr}
use Rattle.dslx_meaning.specs.Values.{type_of_value}
use Rattle.dslx_meaning.specs.declared.value.DslxValue.{DslxValue}
use Rattle.dslx_meaning.specs.Rules.AggregateRules.{wanted_faults}
use Rattle.dslx_meaning.specs.Rules.ConstantRules.{ConstantSeen, constant_of, is_empty}
use Rattle.dslx_meaning.specs.Rules.ItemRules.{annotation_typing, is_annotated, typing_of_type}
use Rattle.dslx_meaning.specs.Rules.NodeRules.{expr_pair}
use Rattle.dslx_meaning.specs.Rules.TypeEnvs.{Judgement, TypeEnv}
use Rattle.dslx_check_rules.specs.declared.faults.Faults.{Faults}
use Rattle.dslx_check_rules.specs.declared.table.row.TypeId.{TypeId}
use Rattle.dslx_check_rules.specs.declared.table.row.TypeRow.{TypeRow}
use Rattle.dslx_check_rules.specs.declared.typing.Typing.{Typing}
use Rattle.dslx_check_rules.specs.Interned.{HasRowIf, ItemNames, type_if}
use Rattle.dslx_check_rules.specs.Seen.{seen}
use Rattle.dslx_check_facts.specs.declared.facts.Facts.{Facts}
use Rattle.dslx_check_facts.specs.declared.type_env.TypeEnv.{TypeEnv as CodeEnv}
use Rattle.dslx_check_facts.specs.Known.{item_names}
use Rattle.dslx_check_facts.specs.Walks.{WalkShown}
use Rattle.dslx_check_facts.proofs.Lemmas.Walks.{tables_refl}
use Rattle.dslx_check_rules.specs.declared.nodes.parts.ConstantTyping.{ConstantTyping}
use Rattle.dslx_check_declarations.specs.declared.items.ItemSeen.{ItemSeen}
use Rattle.dslx_check_declarations.specs.Items.{AnnotatesBy, IsWrittenType, annotated, annotated_faults}
use Rattle.dslx_check_declarations.specs.Scopes.{outside}
use Rattle.dslx_check_declarations.proofs.Lemmas.Items.{walk_item}
use Rattle.dslx_check_leaves.specs.Walked.{Claim, TypesConstant, TypesPart, WalksTo}
use Rattle.dslx_check_leaves.proofs.Lemmas.Walking.{AddsTypes, Both, both, grows_rows, halved, has_rows, nothing_reached, part_stays, reached_both, same_types, with_rows}
use Rattle.dslx_check_judge.specs.declared.items.constants.ConstantParts.{ConstantParts}
use Rattle.dslx_check_judge.specs.Items.Inner.Kinds.{JudgesNamed, TypesNamedValue, TypesWritten}
use Rattle.dslx_check_judge.proofs.Lemmas.Items.OnNames.{called}
use Rattle.dslx_check_judge.proofs.OnItems.OnItems.{holds_named}

-- ---- the type that is written

pub none_written : {f : Facts} {s : CodeEnv} {w : WalkShown} {t : Option TypeExpr} → t ≡ None → WalksTo f s s w w (TypesWritten None t)
none_written {f} {s} {w} {t} e =
    subst (λ (o : Option TypeExpr). WalksTo f s s w w (TypesWritten None o)) (sym e) (nothing_reached (TypesWritten None None) (same_types w.rows) (λ names later env distinct p. record { written = tt; reaches = refl }))

pub some_written : {f : Facts} {s0 s1 : CodeEnv} {w0 w1 : WalkShown} {t : Option TypeExpr} {j : Typing} (e : TypeExpr) → t ≡ Some e → WalksTo f s0 s1 w0 w1 (TypesPart j (λ env. typing_of_type env e))
    → WalksTo f s0 s1 w0 w1 (TypesWritten (Some j) t)
some_written {f} {s0} {s1} {w0} {w1} {t} {j} e is g =
    subst (λ (o : Option TypeExpr). WalksTo f s0 s1 w0 w1 (TypesWritten (Some j) o)) (sym is)
    (halved (TypesPart j (λ env. typing_of_type env e)) (TypesWritten (Some j) (Some e)) g (same_types w1.rows) (λ names later more env distinct p k. record { written = k.part; reaches = k.reaches }))

-- ---- by what is written

written_stays : (names : ItemNames) (rows longer later : List TypeRow) (t : Option TypeExpr) (j : Option Typing) (x : Judgement) → IsPrefix rows longer → IsWrittenType names rows later t j x → IsWrittenType names longer later t j x
written_stays names rows longer later None None x p h = tt
written_stays names rows longer later None (Some j) x p h = absurd h
written_stays names rows longer later (Some t) None x p h = absurd h
written_stays names rows longer later (Some t) (Some j) x p h = part_stays p h

type_written : (t : Option TypeExpr) (env : TypeEnv) → annotated t (annotation_typing env t) ≡ (annotation_typing env t).ty
type_written None env = refl
type_written (Some t) env = refl

faults_written : (t : Option TypeExpr) (env : TypeEnv) → annotated_faults t (annotation_typing env t) ≡ (annotation_typing env t).faults
faults_written None env = refl
faults_written (Some t) env = refl

pub constant_parts : {f : Facts} {item : ℕ} {s0 s1 s2 : CodeEnv} {w0 w1 w2 : WalkShown} (own : Constant) {written : Option Typing} {c : ConstantTyping} {before wrong all : Faults} {is_fine : Bool} {value : Option DslxValue} {p : ConstantParts} → s0 ≡ outside item
    → WalksTo f s0 s1 w0 w1 (TypesWritten written own.ty) → WalksTo f s1 s2 w1 w2 (TypesConstant c (λ env. constant_of env (expr_pair own.value)))
    → AnnotatesBy w2.rows (out-Expr own.value).span written c.typing.ty wrong is_fine
    → ((names : ItemNames) (rows later : List TypeRow) (t : Option TypeExpr) (x : Judgement) → IsWrittenType names rows later t written x → before ≡ seen (annotated_faults t x))
    → ((fs gs hs : List Fault) → before ≡ seen fs → c.typing.faults ≡ seen gs → wrong ≡ seen hs → all ≡ seen ((fs ++ gs) ++ hs)) → value ≡ (if is_fine then c.value else None)
    → p.faults ≡ all → p.value ≡ value → WalksTo f (outside item) (outside item) w0 w2 (TypesNamedValue p own)
constant_parts {f} {item} {s0} {s1} {s2} {w0} {w1} {w2} own {written} {c} {before} {wrong} {all} {is_fine} {value} {p} fresh_env g k by first adds value_is all_is is =
    let P : Claim = TypesWritten written own.ty in
    let Q : Claim = TypesConstant c (λ env. constant_of env (expr_pair own.value)) in
    let walked : WalksTo f (outside item) s1 w0 w1 P = subst (λ (s : CodeEnv). WalksTo f s s1 w0 w1 P) fresh_env g in
    subst (λ (s : CodeEnv). WalksTo f (outside item) s w0 w2 (TypesNamedValue p own)) (k.sight ∙ walked.sight)
    (halved (Both P Q w1.rows) (TypesNamedValue p own) (both P Q walked k) (same_types w2.rows)
    (λ names later more env distinct q t.
    let x : Judgement = annotation_typing env own.ty in
    let found : ConstantSeen = constant_of env (expr_pair own.value) in
    let span = (out-Expr own.value).span in
    let row = t.second.constant.part.row in
    let there : IsWrittenType names w2.rows later.rows own.ty written x = written_stays names w1.rows w2.rows later.rows own.ty written x t.grows t.first.written in
    let wrong_is : wrong ≡ seen (wanted_faults span x.ty found.judgement.ty) =
    by.is names later.rows distinct q row own.ty x there ∙ (λ i. seen (wanted_faults span (type_written own.ty env i) (t.second.constant.part.ty i))) in
    let fine_is : is_fine ≡ (is_empty (x.faults ++ wanted_faults span x.ty found.judgement.ty) && is_annotated own.ty x.ty) =
    by.fine names later.rows distinct q row own.ty x there
    ∙ (λ i. is_empty (faults_written own.ty env i ++ wanted_faults span (type_written own.ty env i) (t.second.constant.part.ty i)) && is_annotated own.ty (type_written own.ty env i)) in
    record {
      faults_are = all_is ∙ adds x.faults found.judgement.faults (wanted_faults span x.ty found.judgement.ty) (first names w2.rows later.rows own.ty x there ∙ ap seen (faults_written own.ty env)) t.second.constant.part.faults wrong_is;
      value = is ∙ value_is ∙ (λ i. if fine_is i then t.second.constant.value i else None);
      reaches = reached_both names later.met more t.front t.rest x.reached found.judgement.reached t.joined t.first.reaches t.second.reaches;
    }))

-- ---- as an item

pub constant_named : {f : Facts} {item : ℕ} {w0 w1 : WalkShown} {rows : List TypeRow} (own : Constant) {p : ConstantParts} {value_type : Option TypeId} {value : Option DslxValue} {j : ItemSeen} → WalksTo f (outside item) (outside item) w0 w1 (TypesNamedValue p own)
    → AddsTypes w1.rows rows → value ≡ p.value → ((later : List TypeRow) → IsPrefix rows later → type_if (item_names f) later value_type ≡ option_map type_of_value value) → HasRowIf rows value_type
    → j.faults ≡ p.faults → j.named_type ≡ None → j.value_type ≡ value_type → j.value ≡ p.value → JudgesNamed f w0 (with_rows w1 rows) item (d.Constant own) j
constant_named {f} {item} {w0} {w1} {rows} own {p} {value_type} {value} {j} g adds same is there faults named typed valued =
    let grows = grows_rows w0 w1 rows g.grows adds in
    record {
      grows = walk_item item grows;
      postponed = λ missing. grows;
      finds = λ known agrees known_rows none name at fresh. record {
        faults_are = let w2 = with_rows w1 rows in
            faults ∙ (holds_named (TypesNamedValue p own) g known w2 (has_rows w1 w2 rows adds.rows (tables_refl w2)) (agrees w2 (tables_refl w2)) known_rows none (called f item (d.Constant (record own { name = name })) at)).faults_are;
        reaches = λ later has.
            (holds_named (TypesNamedValue p own) g known later (has_rows w1 later rows adds.rows has) (agrees later has) known_rows none (called f item (d.Constant (record own { name = name })) at)).reaches;
      };
      comes = λ known agrees known_rows none name at fresh.
          let w2 = with_rows w1 rows in
          let here = holds_named (TypesNamedValue p own) g known w2 (has_rows w1 w2 rows adds.rows (tables_refl w2)) (agrees w2 (tables_refl w2)) known_rows none (called f item (d.Constant (record own { name = name })) at) in
          record {
            is = valued ∙ here.value;
            type = λ later has. ap (type_if (item_names f) later.rows) typed ∙ is later.rows has.rows ∙ ap (option_map type_of_value) (same ∙ here.value);
            row = subst (HasRowIf rows) (sym typed) there;
            no_type = named;
          };
    }
