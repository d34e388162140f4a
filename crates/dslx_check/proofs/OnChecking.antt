-- What a text is told.
use denote.Ref.{Bor}
use Rattle.std.proofs.Common.{◌≡◌, ◌∙◌, ◌++◌, ◌≤◌, ℕ, Bool, true, false, List, [], length, nat_lt, Option, Some, None, refl, sym, ap, subst, arith}
use Rattle.std.proofs.lemmas.Bool.Decides.{Decides-ltb}
use Rattle.std.proofs.lemmas.Option.{same_Some}
use Rattle.xb_span.specs.Fault.{first_of}
use Rattle.xb_span.specs.declared.fault.Fault.{Fault}
use Rattle.dslx_tree.specs.declared.item.Definition.TheVariants as d
use Rattle.dslx_tree.specs.declared.item.Module.{Module}
use Rattle.dslx_tree.specs.declared.process.Proc.{Proc}
use Rattle.dslx_meaning.specs.Items.{item_named}
use Rattle.dslx_meaning.specs.Network.{as_proc, top_proc}
use Rattle.dslx_meaning.specs.Rules.ModuleRules.{first_fault, instances_faults, item_names, outside_instances}
use Rattle.dslx_meaning.specs.Rules.Namesakes.{told_apart}
use Rattle.dslx_meaning.specs.Rules.TypeEnvs.{Instance}
use Rattle.dslx_core.specs.Typing.TypingRelations.Closed.{IsLeastClosed}
use Rattle.dslx_check_rules.specs.declared.faults.Faults.{Faults}
use Rattle.dslx_check_rules.specs.Interned.{AreDistinct}
use Rattle.dslx_check_rules.specs.Seen.{seen}
use Rattle.dslx_check_facts.specs.declared.facts.Facts.{Facts}
use Rattle.dslx_check_facts.specs.Known.{text_of}
use Rattle.dslx_check_facts.specs.Names.{definition_at, names_of}
use Rattle.dslx_check_declarations.specs.Tops.{IsProcIf}
use Rattle.dslx_check.specs.Least.Starts.{AreInstancesApart, AreStarted, found_faults, starts_of, too_many}
use Rattle.dslx_check_declarations.proofs.Lemmas.Work.Firsts.{first_named}
use Rattle.dslx_check.specs.declared.checking.Verdict.{Verdict}
use Rattle.dslx_check.specs.declared.checking.Verdict.TheVariants as verdict
use Rattle.dslx_check.specs.Finds.{FindsInside}
use Rattle.dslx_check_tasks.specs.Standing.{own_globals}
use Rattle.dslx_check.specs.Verdicts.{IsAcceptedWith, IsFirstOfBoth, IsProcOf, IsVerdictOn, TellsFirst}

abbrev pub Few : Type 0
Few = (text : Module) (top : Option (List ℕ)) (all : List Instance) → IsLeastClosed (own_globals text) (starts_of (told_apart text) top) all → nat_lt 4096 (length all) ≡ false → first_fault text top ≡ first_of (found_faults text top all)

abbrev pub Many : Type 0
Many = (text : Module) (top : Option (List ℕ)) (some : List Instance) → AreStarted (own_globals text) (starts_of (told_apart text) top) some → AreInstancesApart some → nat_lt 4096 (length some) ≡ true → first_fault text top ≡ Some too_many

not_over : (n : ℕ) → n ≤ 4096 → nat_lt 4096 n ≡ false
not_over n h = by (nat_lt 4096 n) refl
  where
    by : (b : Bool) → nat_lt 4096 n ≡ b → b ≡ false
    by true q = absurd (omega (arith, h, (Decides-ltb 4096 n).0 q))
    by false q = refl

-- ---- the first fault

pub first_is : Few → Many → (text : Module) (top : Option (List ℕ)) (inside : Option Faults) (outside : Faults) (first : Option Fault)
    → outside ≡ seen (item_names [] text.items ++ (outside_instances (told_apart text) top).faults) → FindsInside text (starts_of (told_apart text) top) inside → IsFirstOfBoth outside inside first → first ≡ first_fault text top
first_is few many text top None outside first faults found is =
    is ∙ sym (many text top found.some found.started found.apart ((Decides-ltb 4096 (length found.some)).1 (omega (arith, found.many))))
first_is few many text top (Some inside) outside first faults found is =
    is (item_names [] text.items ++ (outside_instances (told_apart text) top).faults) (instances_faults (own_globals text) found.all) faults found.faults_are
    ∙ sym (few text top found.all found.least (not_over (length found.all) found.few))

-- ---- who is accepted

module _ (text : Module) (top : Option (List ℕ)) (same : told_apart text ≡ text) (distinct : AreDistinct (names_of text)) where
  of_number : (item : ℕ) (q p : Proc) → definition_at (told_apart text).items item ≡ Some (d.Proc q) → as_proc (definition_at text.items item) ≡ Some p → q ≡ p
  of_number item q p at is = same_Some q p (ap as_proc (sym at ∙ ap (λ (t : Module). definition_at t.items item) same) ∙ is)

  accepted_at : (f : Facts) → text_of f ≡ text → (o : Option Proc) → top_proc (told_apart text) top ≡ o → (t : Option (ℕ × Bor Proc)) → IsProcIf f o t → (p : Proc) → IsProcOf f t p → first_fault text top ≡ None
      → IsAcceptedWith text top p
  accepted_at f e None is None h p proc none = absurd proc
  accepted_at f e None is (Some t) h p proc none = absurd h
  accepted_at f e (Some q) is None h p proc none = absurd proc
  accepted_at f e (Some q) is (Some t) h p proc none =
      let at : definition_at (told_apart text).items t.0 ≡ Some (d.Proc q) = ap (λ (m : Module). definition_at (told_apart m).items t.0) (sym e) ∙ h.at in
      let one : q ≡ p = of_number t.0 q p at (ap (λ (m : Module). as_proc (definition_at m.items t.0)) (sym e) ∙ proc) in record {
        none = none;
        proc = ap (λ (m : Module). top_proc m top) (sym same) ∙ is ∙ ap Some one;
        item = subst (λ x. as_proc (item_named x.name.name text.items) ≡ Some x) one
            (ap (λ (m : Module). as_proc (item_named q.name.name m.items)) (sym same) ∙ ap as_proc (first_named text distinct t.0 (d.Proc q) at));
      }

  pub accepted : (f : Facts) → text_of f ≡ text → (t : Option (ℕ × Bor Proc)) → IsProcIf f (top_proc (told_apart text) top) t → (p : Proc) → IsProcOf f t p → first_fault text top ≡ None → IsAcceptedWith text top p
  accepted f e t h p proc none = accepted_at f e (top_proc (told_apart text) top) refl t h p proc none

pub told : (text : Module) (top : Option (List ℕ)) (f : Facts) → text_of f ≡ text → (t : Option (ℕ × Bor Proc)) → IsProcIf f (top_proc (told_apart text) top) t → AreDistinct (names_of text)
    → (first_fault text top ≡ None → told_apart text ≡ text) → (first : Option Fault) → first ≡ first_fault text top → (v : Verdict) → TellsFirst f t first v → IsVerdictOn text top v
told text top f e t top_is distinct same first is (verdict.Accepted p) tells = let none = sym is ∙ tells.0 in accepted text top (same none) distinct f e t top_is p.now tells.1 none
told text top f e t top_is distinct same first is (verdict.Refused fault) tells = sym is ∙ tells
