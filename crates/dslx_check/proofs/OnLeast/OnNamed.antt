-- Which fault is named.
use Rattle.std.proofs.Common.{◌≡◌, ◌∙◌, ◌≤◌, ◌++◌, inl, ℕ, Bool, true, false, List, [], ◌∷◌, length, Option, Some, None, nat_lt, if◌then◌else◌, refl, sym, ap, subst, arith, append_assoc}
use mathlib.Core.Bool.{true≢false}
use Rattle.std.proofs.lemmas.Bool.Decides.{Decides-ltb}
use Rattle.xb_span.specs.Fault.{first_of, key_of}
use Rattle.xb_span.specs.declared.fault.Fault.{Fault}
use Rattle.dslx_tree.specs.declared.item.Module.{Module}
use Rattle.dslx_meaning.specs.Rules.ModuleRules.{first_fault, globals_of, instance_limit, instances_faults, instances_of, item_names, items_faults, or_else_all, outside_instances}
use Rattle.dslx_meaning.specs.Rules.Namesakes.{told_apart}
use Rattle.dslx_meaning.specs.Rules.TypeEnvs.{Instance}
use Rattle.dslx_core.specs.Typing.Laws.Least.{HaveSameFaults, IsAmong}
use Rattle.dslx_core.proofs.Lemmas.Typing.Laws.{none_without_faults}
use Rattle.dslx_check.specs.Least.Starts.{found_faults, too_many}
use Rattle.dslx_check.proofs.OnLeast.OnLists.{faults_behind}

-- ---- lists with the same faults

nothing_among : (fs gs : List Fault) → ((f : Fault) → IsAmong f fs → IsAmong f gs) → gs ≡ [] → fs ≡ []
nothing_among [] gs there e = refl
nothing_among (f ∷ fs) gs there e = absurd (subst (IsAmong f) e (there f (inl refl)))

pub named_alike : ((fs gs : List Fault) (f g : Fault) → HaveSameFaults fs gs → first_of fs ≡ Some f → first_of gs ≡ Some g → key_of f ≡ key_of g) → ((f g : Fault) → key_of f ≡ key_of g → f ≡ g)
    → (fs gs : List Fault) → HaveSameFaults fs gs → first_of fs ≡ first_of gs
named_alike order one fs gs same = by (first_of fs) refl (first_of gs) refl
  where
    by : (o : Option Fault) → first_of fs ≡ o → (p : Option Fault) → first_of gs ≡ p → o ≡ p
    by None a None b = refl
    by (Some f) a (Some g) b = ap Some (one f g (order fs gs f g same a b))
    by None a (Some g) b = let e = (none_without_faults fs).0 a in sym a ∙ ap first_of (e ∙ sym (nothing_among gs fs same.back e)) ∙ b
    by (Some f) a None b = let e = (none_without_faults gs).0 b in sym a ∙ ap first_of (nothing_among fs gs same.there e ∙ sym e) ∙ b

-- ---- the first fault of a text

not_over : (is : List Instance) → nat_lt 4096 (length is) ≡ false → instance_limit is ≡ []
not_over is e = ap (λ b. if b then too_many ∷ [] else []) e

over : (is : List Instance) → nat_lt 4096 (length is) ≡ true → instance_limit is ≡ too_many ∷ []
over is e = ap (λ b. if b then too_many ∷ [] else []) e

module _ (text : Module) (top : Option (List ℕ)) where
  abbrev m : Module
  m = told_apart text

  abbrev names : List Fault
  names = item_names [] text.items

  abbrev outside : List Fault
  outside = (outside_instances m top).faults

  pub few : ((fs gs : List Fault) → HaveSameFaults fs gs → first_of fs ≡ first_of gs) → (all : List Instance) → length (instances_of m top) ≤ length all
      → HaveSameFaults (instances_faults (globals_of m) all) (instances_faults (globals_of m) (instances_of m top)) → nat_lt 4096 (length all) ≡ false → first_fault text top ≡ first_of (found_faults text top all)
  few one all size same small =
      let limit : instance_limit (instances_of m top) ≡ [] = not_over (instances_of m top) (small_too (nat_lt 4096 (length (instances_of m top))) refl) in
      ap (λ l. first_of (or_else_all l (names ++ items_faults m top))) limit
      ∙ ap first_of (sym (append_assoc names outside (instances_faults (globals_of m) (instances_of m top))))
      ∙ sym (one (found_faults text top all) ((names ++ outside) ++ instances_faults (globals_of m) (instances_of m top))
      (faults_behind (names ++ outside) (instances_faults (globals_of m) all) (instances_faults (globals_of m) (instances_of m top)) same))
    where
      small_too : (b : Bool) → nat_lt 4096 (length (instances_of m top)) ≡ b → b ≡ false
      small_too true q = absurd (true≢false (sym ((Decides-ltb 4096 (length all)).1 (omega (arith, size, (Decides-ltb 4096 (length (instances_of m top))).0 q))) ∙ small))
      small_too false q = refl

  pub many : (some : List Instance) → length some ≤ length (instances_of m top) → nat_lt 4096 (length some) ≡ true → first_fault text top ≡ Some too_many
  many some less large = ap (λ l. first_of (or_else_all l (names ++ items_faults m top))) (over (instances_of m top) (more (length some) (length (instances_of m top)) less large))
    where
      more : (n k : ℕ) → n ≤ k → nat_lt 4096 n ≡ true → nat_lt 4096 k ≡ true
      more n k h e = (Decides-ltb 4096 k).1 (omega (arith, h, (Decides-ltb 4096 n).0 e))
