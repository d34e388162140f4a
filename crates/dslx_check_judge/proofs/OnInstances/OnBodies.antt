-- Bodies.
use Rattle.std.proofs.Common.{◌≡◌, ◌++◌, ◌∙◌, ℕ, Bool, List, [], Option, length, drop, sym, ap, subst}
use Rattle.std.specs.List.{list_all}
use Rattle.base.specs.Lists.Prefix.{IsPrefix}
use Rattle.xb_span.specs.declared.fault.Fault.{Fault}
use Rattle.dslx_tree.specs.declared.block.Block.{Block, out-Block}
use Rattle.dslx_meaning.specs.Rules.AggregateRules.{wanted_faults}
use Rattle.dslx_meaning.specs.Rules.ConstantRules.{with_size_limit}
use Rattle.dslx_meaning.specs.Rules.TypeEnvs.{GlobalEnv, Judgement}
use Rattle.dslx_meaning.specs.declared.ty.DslxType.{DslxType}
use Rattle.dslx_check_rules.specs.declared.faults.Faults.{Faults}
use Rattle.dslx_check_rules.specs.declared.table.row.TypeId.{TypeId}
use Rattle.dslx_check_rules.specs.declared.table.row.TypeRow.{TypeRow}
use Rattle.dslx_check_rules.specs.declared.typing.Typing.{Typing}
use Rattle.dslx_check_rules.specs.Interned.{AreDistinct, HasRowIf, ItemNames, type_if}
use Rattle.dslx_check_rules.specs.Seen.{capped, seen}
use Rattle.dslx_check_facts.specs.declared.facts.Facts.{Facts}
use Rattle.dslx_check_facts.specs.declared.type_env.TypeEnv.{TypeEnv as CodeEnv}
use Rattle.dslx_check_facts.specs.Judged.{environment}
use Rattle.dslx_check_facts.specs.Known.{FactsHold, item_names}
use Rattle.dslx_check_facts.specs.Walks.{OnlyMisses, WalkGrows, WalkShown, instances_at}
use Rattle.dslx_check_facts.proofs.Lemmas.Walks.{grows_trans, misses_grows, nothing_missing, tables_trans}
use Rattle.dslx_check_facts.proofs.Lemmas.Judged.{row_stays_if}
use Rattle.dslx_check_leaves.specs.Typed.{block_typed}
use Rattle.dslx_check_leaves.specs.Walked.{TypesPart, WalksTo}
use Rattle.dslx_check_judge.specs.Instances.Inner.Bodies.{TypesBody}

-- a block with rule 9 at it, and the limit on its size
pub body_walked : {f : Facts} {s0 s1 : CodeEnv} {w0 w1 w2 : WalkShown} {a k j : Typing} {wrong : Faults} {wanted : Option TypeId} {from : ℕ} {unbroken : Bool} (on_top : Bool) (body : Block) → from ≡ length w0.reached
    → WalksTo f s0 s1 w0 w1 (TypesPart a (λ env. (block_typed body).1 on_top env))
    → ((names : ItemNames) (later : List TypeRow) → AreDistinct names → IsPrefix w1.rows later → HasRowIf w1.rows wanted → HasRowIf w1.rows a.ty
    → wrong ≡ seen (wanted_faults (out-Block body).span (type_if names later wanted) (type_if names later a.ty)))
    → OnlyMisses w1 w2
    → ((known : GlobalEnv) (later : WalkShown) → FactsHold f later known → w2.missing ≡ [] → unbroken ≡ list_all known.is_unbroken (instances_at (item_names f) later.met (drop from w1.reached)))
    → k.ty ≡ a.ty → ((fs gs : List Fault) → a.faults ≡ seen fs → wrong ≡ seen gs → k.faults ≡ seen (fs ++ gs)) → k.size ≡ a.size
    → j.ty ≡ k.ty → j.size ≡ k.size
    → ((known : GlobalEnv) (x : Judgement) → k.faults ≡ seen x.faults → k.size ≡ capped x.size → unbroken ≡ list_all known.is_unbroken x.reached → j.faults ≡ seen (with_size_limit known (out-Block body).span.to x).faults)
    → WalksTo f s0 s1 w0 w2 (TypesBody j w0.rows wanted on_top body)
body_walked {f} {s0} {s1} {w0} {w1} {w2} {a} {k} {j} {wrong} {wanted} {from} {unbroken} on_top body from_is g wrong_is misses unbroken_is kt adds ks jt js limited = record {
  grows = grows_trans w0 w1 w2 g.grows more;
  sight = g.sight;
  holds = λ known later has agrees there none.
      let names = item_names f in
      let env = environment f s0 known later in
      let own : Judgement = (block_typed body).1 on_top env in
      let before = tables_trans w1 w2 later more.tables has in
      let t : TypesPart a (λ env. (block_typed body).1 on_top env) names w1.rows later (drop (length w0.reached) w1.reached) env = g.holds known later before agrees there (nothing_missing w1 w2 more none) in
      let span = (out-Block body).span in
      let wrongs : Option DslxType → List Fault = λ o. wanted_faults span (type_if names later.rows wanted) o in
      record {
        part = λ row.
            let is : wrong ≡ seen (wrongs own.ty) =
            wrong_is names later.rows agrees.distinct before.rows (row_stays_if w0.rows w1.rows wanted g.grows.tables.rows row) t.part.row ∙ ap (λ o. seen (wrongs o)) t.part.ty in
            let all : unbroken ≡ list_all known.is_unbroken own.reached =
            unbroken_is known later agrees none ∙ ap (λ n. list_all known.is_unbroken (instances_at names later.met (drop n w1.reached))) from_is ∙ ap (list_all known.is_unbroken) t.reaches in
            record {
              row = subst (HasRowIf w2.rows) (sym (jt ∙ kt)) (row_stays_if w1.rows w2.rows a.ty more.tables.rows t.part.row);
              ty = ap (type_if names later.rows) (jt ∙ kt) ∙ t.part.ty;
              faults = limited env.known (record { ty = own.ty; faults = own.faults ++ wrongs own.ty; reached = own.reached; size = own.size }) (adds own.faults (wrongs own.ty) t.part.faults is) (ks ∙ t.part.size) all;
              size = js ∙ ks ∙ t.part.size;
            };
        reaches = λ row. ap (λ (l : List ℕ). instances_at names later.met (drop (length w0.reached) l)) misses.reached ∙ t.reaches;
      };
}
  where
    more : WalkGrows w1 w2
    more = misses_grows w1 w2 misses
