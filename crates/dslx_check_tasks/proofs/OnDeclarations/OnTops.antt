-- The top of a text.
use Rattle.std.proofs.Common.{◌≡◌, ◌∙◌, ◌++◌, ◌||◌, ℕ, Bool, true, false, List, [], ◌∷◌, Option, Some, None, length, drop, arith, refl, sym, ap, subst}
use Rattle.std.specs.Prelude.{if◌then◌else◌}
use Rattle.dslx_tree.specs.declared.item.Definition.TheVariants as d
use Rattle.dslx_tree.specs.declared.process.Proc.{Proc}
use Rattle.dslx_meaning.specs.declared.value.DslxValue.{DslxValue}
use Rattle.dslx_meaning.specs.Rules.CallRules.{ParametricArgsSeen, known_before, nothing_there, parametric_args_seen, reached_by, typing_there}
use Rattle.dslx_meaning.specs.Rules.ModuleRules.{top_found}
use Rattle.dslx_meaning.specs.Rules.ItemRules.{Found}
use Rattle.dslx_meaning.specs.Rules.ProcRules.{proc_parametric_args}
use Rattle.dslx_meaning.specs.Rules.TypeEnvs.{GlobalEnv, Instance}
use Rattle.dslx_check_rules.specs.declared.faults.Faults.{Faults}
use Rattle.dslx_check_rules.specs.Seen.{seen}
use Rattle.dslx_check_facts.specs.declared.facts.Facts.{Facts}
use Rattle.dslx_check_facts.specs.Known.{FactsHold, HasKnownRows, item_names}
use Rattle.dslx_check_facts.specs.Walks.{HasTables, WalkShown, instances_at}
use Rattle.dslx_check_facts.proofs.Lemmas.Walks.{grows_trans, nothing_missing, tables_refl, tables_trans}
use Rattle.dslx_check_uses.specs.declared.parametrics.CalledItem.{CalledItem}
use Rattle.dslx_check_uses.specs.declared.parametrics.ParametricArgs.{ParametricArgs}
use Rattle.dslx_check_uses.specs.Arguments.{AreArgs, ArgsFrom}
use Rattle.dslx_check_declarations.specs.Tops.{IsProcAt}
use Rattle.dslx_check_judge.proofs.Lemmas.Items.OnLists.{Adds}
use Rattle.dslx_check_judge.proofs.Lemmas.Items.OnNames.{called}
use Rattle.dslx_check_judge.specs.Instances.Reached.{ReachesProc, proc_reached}
use Rattle.dslx_check_judge.proofs.Lemmas.Instances.OnValues.{wrong_has_no_values}
use Rattle.dslx_check_tasks.specs.declared.declarations.tops.TopSeen.{TopSeen}
use Rattle.dslx_check_tasks.specs.Declarations.Judged.{JudgesTop}

-- the top's own item, which nothing hides
abbrev pub top_item : ℕ → CalledItem
top_item item = record { item = item; is_cyclic = false; is_hidden = false }

-- what the top comes to, from what is found of its parametrics
abbrev instance_if : List ℕ → Option (List DslxValue) → List Instance
instance_if name None = []
instance_if name (Some vs) = record { name = name; parametric_args = vs } ∷ []

abbrev found_by : List ℕ → ParametricArgsSeen → Found
found_by name n = let declared = typing_there [] n in record { faults = n.faults ++ declared.faults; reached = declared.reached ++ instance_if name n.values }

top_is : (known : GlobalEnv) (p : Proc) → top_found known (Some p) ≡ found_by p.name.name (proc_parametric_args known p [])
top_is known p = refl

declared_is : {declared kept : Faults} (n : ParametricArgsSeen) (wrong : Bool) → wrong ≡ n.is_wrong → declared ≡ (if wrong then seen [] else kept) → kept ≡ seen n.declared.faults → declared ≡ seen (typing_there [] n).faults
declared_is {declared} {kept} n wrong is by kept_is = by ∙ ap (λ b. if b then seen [] else kept) is ∙ by_test n.is_wrong
  where
    by_test : (b : Bool) → (if b then seen [] else kept) ≡ seen (if b then nothing_there else n.declared).faults
    by_test true = refl
    by_test false = kept_is

reached_is : (name : List ℕ) (n : ParametricArgsSeen) → (n.is_wrong ≡ true → n.values ≡ None) → proc_reached false name n ≡ (found_by name n).reached
reached_is name n none = by_test n.is_wrong refl
  where
    by_values : (o : Option (List DslxValue)) → reached_by false name o ≡ instance_if name o
    by_values None = refl
    by_values (Some vs) = refl

    by_test : (b : Bool) → n.is_wrong ≡ b → (if b then [] else n.declared.reached ++ reached_by false name n.values) ≡ (if b then nothing_there else n.declared).reached ++ instance_if name n.values
    by_test true e = sym (ap (instance_if name) (none e))
    by_test false e = ap (λ l. n.declared.reached ++ l) (by_values n.values)

pub top_judged : {f : Facts} {item : ℕ} {w0 w1 w2 : WalkShown} (process : Proc) {args : ParametricArgs} {declared : Faults} {t : TopSeen} → ArgsFrom f (top_item item) w0 w1 process.parametrics [] [] [] args
    → declared ≡ (if false || args.is_wrong then seen [] else args.declared) → ReachesProc f (top_item item) w1 w2 args → Adds args.faults declared t.faults → JudgesTop f w0 w2 item process t
top_judged {f} {item} {w0} {w1} {w2} process {args} {declared} {t} a declared_by r adds =
    let names = item_names f in
    let came : (known : GlobalEnv) (later : WalkShown) (p : Proc) → HasTables w2 later → FactsHold f later known → HasKnownRows w0.rows f → w2.missing ≡ [] → IsProcAt f item process p → AreArgs names later false args (proc_parametric_args known p []) =
    λ known later p has agrees rows none at.
    let name_is : names.item item ≡ p.name.name = called f item (d.Proc p) at.at in
    subst (λ (q : Proc). AreArgs names later false args (parametric_args_seen known p.name.name [] [] (known_before []) q.parametrics [])) (sym at.is)
    (subst (λ (n : List ℕ). AreArgs names later false args (parametric_args_seen known n [] [] (known_before []) process.parametrics [])) name_is
    (a.says known known later (tables_trans w1 w2 later r.grows.tables has) agrees (record { parameter = λ before. refl; default = λ before. refl; signature = λ before. refl; size = λ i. refl }) rows (nothing_missing w1 w2 r.grows none)
    [] tt (omega arith))) in
    record {
      grows = grows_trans w0 w1 w2 a.grows r.grows;
      finds = λ known agrees rows none p at. record {
        faults_are =
            let n = proc_parametric_args known p [] in
            let k = came known w2 p (tables_refl w2) (agrees w2 (tables_refl w2)) rows none at in
            adds n.faults (typing_there [] n).faults k.faults (declared_is n args.is_wrong k.wrong declared_by (k.declared refl)) ∙ ap (λ (x : Found). seen x.faults) (sym (top_is known p));
        reaches = λ later has.
            let n = proc_parametric_args known p [] in
            let k = came known later p has (agrees later has) rows none at in
            ap (λ l. instances_at names later.met (drop l w2.reached)) (ap length (sym a.reached))
            ∙ r.says later has n k
            ∙ ap (λ (name : List ℕ). proc_reached false name n) (called f item (d.Proc p) at.at)
            ∙ reached_is p.name.name n (wrong_has_no_values known p.name.name [] [] p.parametrics [] (known_before []))
            ∙ ap (λ (x : Found). x.reached) (sym (top_is known p));
      };
    }
