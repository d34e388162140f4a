-- The top's instance behind all that it spawns, and the design that they are.
use Rattle.std.proofs.Common.{◌≡◌, ◌++◌, ℕ, zero, suc, length, Bool, true, false, List, [], ◌∷◌, Option, Some, None, arith, refl, sym, ap, ◌∙◌}
use mathlib.Core.Bool.{true≢false}
use Rattle.std.proofs.lemmas.List.{length-append}
use Rattle.xb_span.specs.Spans.{nowhere}
use Rattle.dslx_tree.specs.declared.item.Definition.{Definition}
use Rattle.dslx_tree.specs.declared.item.Module.{Module}
use Rattle.dslx_tree.specs.declared.process.Proc.{Proc}
use Rattle.dslx_meaning.specs.Items.{item_named, meanings_of}
use Rattle.dslx_meaning.specs.Lists.{and_then}
use Rattle.dslx_meaning.specs.Network.{top_parametric_args, top_proc}
use Rattle.dslx_meaning.specs.declared.value.DslxValue.{DslxValue}
use Rattle.dslx_meaning.specs.Rules.TypeEnvs.{Instance, breaks}
use Rattle.dslx_meaning.specs.Rules.ModuleRules.{faults_of, ident_of, instances_faults, instances_of, items_found, globals_of, not_a_proc, outside_instances, top_faults, top_found}
use Rattle.dslx_core.specs.Typing.TypingRelations.Closed.{ends_within}
use Rattle.dslx_core.proofs.Lemmas.Typing.Sound.{none_in, some_fault}
use Rattle.dslx_core.proofs.Lemmas.Typing.Accepted.{one_of_these, own_faults}
use Rattle.dslx_core.specs.Lowering.Functions.{CoreInstance}
use Rattle.dslx_core.specs.Networks.Procs.{procs_from}
use Rattle.dslx_total.specs.Families.EachElaborated.{NextLowers}
use Rattle.dslx_total.specs.Configs.LowersTotally.{ConfigLowers}
use Rattle.dslx_total.specs.Configs.ReachedProcs.{IsReachedProc}
use Rattle.dslx_total.specs.Designs.Designs.{ProcsHaveTable}
use Rattle.dslx_total.proofs.OnDesigns.Growing.{appended, last_there}
use Rattle.dslx_total.proofs.OnDesigns.Lists.{fewer}
use Rattle.dslx_total.proofs.OnDesigns.Ordered.{checked_next, in_order, no_more_than, table_of}

-- how long the longest chain is
record LongestChain (m : Module) (name : List ℕ) : Type 0 where
  number : ℕ
  most : ends_within m (suc number) name ≡ true
  least : ends_within m number name ≡ false

longest_chain : (m : Module) (name : List ℕ) (n : ℕ) → ends_within m n name ≡ true → LongestChain m name
longest_chain m name zero e = absurd (true≢false (sym e))
longest_chain m name (suc n) e = by_less (ends_within m n name) refl (longest_chain m name n)
  where
    by_less : (b : Bool) → ends_within m n name ≡ b → (ends_within m n name ≡ true → LongestChain m name) → LongestChain m name
    by_less true q less = less q
    by_less false q less = record { number = n; most = e; least = q }

pub procs_have_table : (m : Module) (top : Option (List ℕ)) (functions : List CoreInstance) → ((p : Proc) (parametric_args : List DslxValue) → IsReachedProc m top p parametric_args → NextLowers m functions p parametric_args)
    → ((p : Proc) (parametric_args : List DslxValue) → IsReachedProc m top p parametric_args → ConfigLowers m (meanings_of m) top p parametric_args) → (p : Proc) → ends_within m (length m.items) p.name.name ≡ true → IsReachedProc m top p (top_parametric_args (meanings_of m) p)
    → ProcsHaveTable m top functions p
procs_have_table m top functions nexts configs p ends checked =
    let parametric_args = top_parametric_args (meanings_of m) p in
    let k = longest_chain m p.name.name (length m.items) ends in
    let t = table_of m top functions nexts configs k.number in
    let own = checked_next m top functions nexts configs k.number t.table t.holds p parametric_args checked k.most in
    let order = in_order m top functions nexts configs k.number in
    let i : Instance = record { name = p.name.name; parametric_args = parametric_args } in
    let shorter = t.many in
    let passing = no_more_than m top functions nexts configs k.number in
    let other = fewer (λ (j : Instance). ends_within m k.number j.name) i (instances_of m top) (one_of_these i (instances_of m top) checked.checked) k.least in
    let both = length-append t.table (own.instance ∷ []) in
    record {
      instances = order ++ record { name = p.name.name; parametric_args = parametric_args } ∷ [];
      table = t.table ++ own.instance ∷ [];
      lowered = appended m functions [] order (record { name = p.name.name; parametric_args = parametric_args } ∷ []) t.table t.lowered
          ∙ ap (λ o. and_then o (λ c. procs_from m (meanings_of m) functions (t.table ++ c ∷ []) [])) own.is;
      last = own.instance;
      is_last = last_there t.table own.instance;
      of_name = own.name;
      of_parametric_args = own.parametric_args;
      few = omega (arith, shorter, passing, other, both);
    }

-- ---- a text without faults has a top proc

no_proc_faulty : {X : Type 0} (o : Option Definition) → not_a_proc o ≡ [] → X
no_proc_faulty None e = some_fault (breaks 32 nowhere) [] e
no_proc_faulty (Some x) e = some_fault (breaks 32 (ident_of x).span) [] e

pub top_there : (m : Module) (top : Option (List ℕ)) → faults_of m top ≡ [] → (p : Proc) × (top_proc m top ≡ Some p)
top_there m top e =
    let known = globals_of m in
    let tops = top_faults m top (top_proc m top) in
    let others = (items_found known m.items).faults ++ (top_found known (top_proc m top)).faults in
    let outside = (none_in (outside_instances m top).faults (instances_faults known (instances_of m top)) (own_faults m top e)).0 in
    by_top top (top_proc m top) refl (none_in tops others outside).0
  where
    by_top : (t : Option (List ℕ)) (o : Option Proc) → top_proc m top ≡ o → top_faults m t o ≡ [] → (p : Proc) × (top_proc m top ≡ Some p)
    by_top t (Some p) q f = (p, q)
    by_top None None q f = some_fault (breaks 32 nowhere) [] f
    by_top (Some name) None q f = no_proc_faulty (item_named name m.items) f
