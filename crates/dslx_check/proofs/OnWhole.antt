-- What a text is told, from all that is found of it.
use Rattle.std.proofs.Common.{◌≡◌, ◌∙◌, ◌++◌, ℕ, List, [], Option, None, sym, ap, subst}
use Rattle.std.specs.Prelude.{◌↔◌}
use Rattle.std.proofs.lemmas.List.{map-append}
use Rattle.xb_span.specs.declared.fault.Fault.{Fault}
use Rattle.dslx_tree.specs.declared.item.Module.{Module}
use Rattle.dslx_tree.specs.declared.process.Proc.{Proc}
use Rattle.dslx_meaning.specs.Network.{top_proc}
use Rattle.dslx_meaning.specs.Rules.ModuleRules.{faults_of, first_fault, globals_of, item_names, outside_instances, own_instances, top_faults}
use Rattle.dslx_meaning.specs.Rules.Namesakes.{told_apart}
use Rattle.dslx_meaning.specs.Rules.TypeEnvs.{Instance}
use Rattle.dslx_check_rules.specs.declared.faults.Faults.{Faults}
use Rattle.dslx_check_rules.specs.Interned.{AreDistinct}
use Rattle.dslx_check_rules.specs.Seen.{seen}
use Rattle.dslx_check_facts.specs.Names.{names_of}
use Rattle.dslx_check_facts.specs.Walks.{instance_at, instances_at, shown}
use Rattle.dslx_check_facts.proofs.Lemmas.Walks.{tables_trans}
use Rattle.dslx_check_declarations.specs.Tops.{IsProcIf, IsTop}
use Rattle.dslx_check_declarations.specs.declared.tops.Top.{Top}
use Rattle.dslx_check_declarations.specs.Work.Settled.{DeclarationsSettle, FunctionsSettle, ItemsSettle}
use Rattle.dslx_check_tasks.specs.declared.work.Reaches.{Reaches}
use Rattle.dslx_check_tasks.specs.declared.work.Work.{Work}
use Rattle.dslx_check_tasks.specs.Standing.{WorkGoesOn, IsFoundBy, IsRight, IsSettledText, text_in}
use Rattle.dslx_check.specs.declared.checking.Broken.{Broken}
use Rattle.dslx_check.specs.declared.checking.Verdict.{Verdict}
use Rattle.dslx_check.specs.Finds.{AreNumbersOf, FindsInside, FindsOutside, FindsOwn, outside_found}
use Rattle.dslx_check.specs.Verdicts.{FindsBroken, IsFirstOfBoth, IsVerdictOn, TellsFirst}
use Rattle.dslx_check.proofs.OnChecking.{Few, Many, first_is, told}
use Rattle.dslx_check.proofs.OnNamesakes.{no_namesakes}
use Rattle.dslx_check.proofs.OnOutside.{same_if}

-- the text's own global environment has of each item, instance and part what its text comes to
pub settled_text : (text : Module) → AreDistinct (names_of text) → ((m : Module) → AreDistinct (names_of m) → ItemsSettle m (globals_of (told_apart m)))
    → ((m : Module) → AreDistinct (names_of m) → FunctionsSettle m (globals_of (told_apart m))) → ((m : Module) → DeclarationsSettle m (globals_of (told_apart m))) → IsSettledText text
settled_text text distinct items functions declarations = record { items = items text distinct; functions = functions text distinct; declarations = declarations text }

-- what is broken outside all instances, and inside those that are reached from there
pub all_broken : (a b c : Work) (top : Option Proc) (ns start : List ℕ) (r : Reaches) (inside : Option Faults) (broken : Broken) → IsRight a → WorkGoesOn a b → WorkGoesOn b c → FindsOwn a b ns → FindsOutside b c top r → start ≡ ns ++ r.reached.items
    → ((starts : List Instance) → IsRight c → AreNumbersOf (text_in c) (shown c.walk) start starts → FindsInside (text_in c) starts inside) → broken.outside ≡ r.faults → broken.inside ≡ inside → FindsBroken (text_in a) top broken
all_broken a b c top ns start r inside broken right g h own_are outside_is start_is found outside_same inside_same =
    let text = text_in a in
    let same : text_in c ≡ text = h.text ∙ g.text in
    let outside : IsFoundBy (names_of text) (shown c.walk) r (outside_found text top) =
    subst (λ (t : Module). IsFoundBy (names_of t) (shown c.walk) r (outside_found t top)) g.text (outside_is (g.right right)) in
    let starts = own_instances (told_apart text).items ++ (outside_found text top).reached in
    let are : AreNumbersOf text (shown c.walk) start starts = λ later t. ap (instances_at (names_of text) later.met) start_is
    ∙ map-append (instance_at (names_of text) later.met) ns r.reached.items
    ∙ (λ i. own_are later (tables_trans (shown b.walk) (shown c.walk) later h.tables t) i ++ outside.reached later t i) in
    record {
      outside_are = outside_same ∙ outside.faults;
      inside_are = subst (FindsInside text starts) (sym inside_same) (subst (λ (t : Module). FindsInside t starts inside) same
          (found starts (h.right (g.right right)) (subst (λ (t : Module). AreNumbersOf t (shown c.walk) start starts) (sym same) are)));
    }

module _ (top : Option (List ℕ)) (w0 w1 : Work) (right : IsRight w0) (g : WorkGoesOn w0 w1) (own : Top) (own_is : IsTop w0.facts top own) (broken : Broken)
    (found : (o : Option Proc) → IsRight w0 → IsProcIf w0.facts o own.process → FindsBroken (text_in w0) o broken) where
  abbrev text : Module
  text = text_in w0

  abbrev at_top : Option Proc
  at_top = top_proc (told_apart text) top

  here : FindsBroken text at_top broken
  here = found at_top right own_is.process

  outside_is : (names sum outside : Faults) → names ≡ seen (item_names [] text.items) → ((a b : List Fault) → own.faults ≡ seen a → broken.outside ≡ seen b → sum ≡ seen (a ++ b))
      → ((a b : List Fault) → names ≡ seen a → sum ≡ seen b → outside ≡ seen (a ++ b)) → outside ≡ seen (item_names [] text.items ++ (outside_instances (told_apart text) top).faults)
  outside_is names sum outside names_are sum_is is = is (item_names [] text.items) (outside_instances (told_apart text) top).faults names_are
      (sum_is (top_faults (told_apart text) top at_top) (outside_found text at_top).faults own_is.faults here.outside_are)

  pub verdict_is : Few → Many → ((m : Module) (t : Option (List ℕ)) → (first_fault m t ≡ None) ↔ (faults_of m t ≡ [])) → AreDistinct (names_of text) → (names sum outside : Faults) → names ≡ seen (item_names [] text.items)
      → ((a b : List Fault) → own.faults ≡ seen a → broken.outside ≡ seen b → sum ≡ seen (a ++ b)) → ((a b : List Fault) → names ≡ seen a → sum ≡ seen b → outside ≡ seen (a ++ b))
      → (first : Option Fault) → IsFirstOfBoth outside broken.inside first → (v : Verdict) → TellsFirst w1.facts own.process first v → IsVerdictOn text top v
  verdict_is few many law distinct names sum outside names_are sum_is is first first_of_both v tells =
      told text top w1.facts g.text own.process (same_if w0.facts w1.facts at_top own.process g.text own_is.process) distinct (no_namesakes law text top)
      first (first_is few many text top broken.inside outside first (outside_is names sum outside names_are sum_is is) here.inside_are first_of_both) v tells

pub told_all : (top : Option (List ℕ)) (m : Module) (w0 w1 : Work) → text_in w0 ≡ m → Few → Many → ((n : Module) (t : Option (List ℕ)) → (first_fault n t ≡ None) ↔ (faults_of n t ≡ [])) → AreDistinct (names_of (text_in w0))
    → IsRight w0 → WorkGoesOn w0 w1 → (own : Top) → IsTop w0.facts top own → (broken : Broken) → ((o : Option Proc) → IsRight w0 → IsProcIf w0.facts o own.process → FindsBroken (text_in w0) o broken)
    → (names sum outside : Faults) → names ≡ seen (item_names [] m.items) → ((a b : List Fault) → own.faults ≡ seen a → broken.outside ≡ seen b → sum ≡ seen (a ++ b))
    → ((a b : List Fault) → names ≡ seen a → sum ≡ seen b → outside ≡ seen (a ++ b)) → (first : Option Fault) → IsFirstOfBoth outside broken.inside first → (v : Verdict) → TellsFirst w1.facts own.process first v → IsVerdictOn m top v
told_all top m w0 w1 e few many law distinct right g own own_is broken found names sum outside names_are sum_is is first first_of_both v tells =
    subst (λ (t : Module). IsVerdictOn t top v) e
    (verdict_is top w0 w1 right g own own_is broken found few many law distinct names sum outside (names_are ∙ ap (λ (t : Module). seen (item_names [] t.items)) (sym e)) sum_is is first first_of_both v tells)
