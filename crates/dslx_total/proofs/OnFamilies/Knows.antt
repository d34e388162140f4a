-- Global environments that have of what is checked what the text's own one has.
use Rattle.std.proofs.Common.{◌*◌, ◌≡◌, ◌≤◌, ◌&&◌, ℕ, length, true, List, [], ◌∷◌, Option, arith, refl}
use Rattle.std.specs.List.{list_all}
use Rattle.dslx_tree.specs.declared.item.Definition.TheVariants as d
use Rattle.dslx_tree.specs.declared.item.Module.{Module}
use Rattle.dslx_tree.specs.declared.process.Proc.{Proc}
use Rattle.dslx_meaning.specs.Network.{top_proc}
use Rattle.dslx_meaning.specs.declared.value.DslxValue.{DslxValue}
use Rattle.dslx_meaning.specs.Rules.Mentions.{Mention}
use Rattle.dslx_meaning.specs.Rules.ModuleRules.{found_of_instance, globals_over, is_reached, top_found}
use Rattle.dslx_meaning.specs.Rules.TypeEnvs.{GlobalEnv, Instance}
use Rattle.dslx_core.proofs.Lemmas.Typing.Accepted.{IsAccepted, one_of_these, sound}
use Rattle.dslx_core.proofs.Lemmas.Typing.Complete.{none_own}
use Rattle.dslx_core.proofs.Lemmas.Typing.Depends.{NoProcs, settles, stands_first}
use Rattle.dslx_core.proofs.Lemmas.Typing.Laws.{and_true}
use Rattle.dslx_core.proofs.Lemmas.Typing.TypingRelations.{whole_is}
use Rattle.dslx_core.specs.Typing.Complete.HasValue.{AreTyped}
use Rattle.dslx_core.specs.Typing.Depends.Alike.{DeclaredAlike}
use Rattle.dslx_core.specs.Typing.Typed.Complete.{EachParametricKnown, IsComplete}
use Rattle.dslx_core.specs.Typing.TypingRelations.Closed.{IsOneOf}
use Rattle.dslx_core.specs.Typing.TypingRelations.Reached.{AllNamed, DeclarationReaches, MentionsReach}
use Rattle.dslx_total.proofs.OnFamilies.Parametrics.{LoopsHaveNoValue, globals_alike, parametrics_known, parametrics_pass, proc_known}
use Rattle.dslx_total.proofs.OnFamilies.Reached.{IsProcOf, K, Listed, Passing, all, most, reaching}

-- it has the text, what instances that are checked break and reach, and what procs declare
pub record Knows (m : Module) (top : Option (List ℕ)) (s : IsAccepted m top) (known : GlobalEnv) : Type 0 where
  pub text : known.whole ≡ m
  pub found : (i : Instance) → IsOneOf i (all m top s) → found_of_instance known i ≡ found_of_instance (K m top s) i
  pub sound : (k : ℕ) → k ≤ length m.items → (i : Instance) → IsOneOf i (all m top s) → settles m k i.name ≡ true → known.is_sound i ≡ true
  pub reaching : (owner : List ℕ) (ms : List Mention) → NoProcs ms → MentionsReach (Passing m top s) known owner ms
  pub tops : top_found known (top_proc m top) ≡ top_found (K m top s) (top_proc m top)
  pub parametrics : (p : Proc) → IsProcOf m p → EachParametricKnown known p.name.name [] p.parametrics
  pub passing : (p : Proc) → IsProcOf m p → DeclarationReaches (Passing m top s) known p.name.name
  pub declared : (p : Proc) (parametric_args : List DslxValue) → IsProcOf m p → is_reached (record { name = p.name.name; parametric_args = parametric_args }) (all m top s) ≡ true → DeclaredAlike known (globals_over known) p.name.name

-- the text's own
pub knows_itself : (m : Module) (top : Option (List ℕ)) (s : IsAccepted m top) → LoopsHaveNoValue m → IsComplete (K m top s) → AreTyped (K m top s) → Knows m top s (K m top s)
knows_itself m top s loops complete typed = record {
  text = whole_is m (2 * length m.items);
  found = λ i one. refl;
  sound = sound m top s;
  reaching = reaching m top s;
  tops = refl;
  parametrics = λ p named. parametrics_known (K m top s) complete typed p.name.name (d.Proc p) (proc_known m p named) (globals_alike m p named loops) [] [] (none_own (K m top s)) p.parametrics (stands_first p.name.name (d.Proc p));
  passing = λ p named. parametrics_pass m p named;
  declared = λ p parametric_args named checked. globals_alike m p named loops;
}

-- instances that are checked, and are of no proc, are sound
pub all_sound : (m : Module) (top : Option (List ℕ)) (s : IsAccepted m top) (known : GlobalEnv) → Knows m top s known → (is : List Instance) → AllNamed (Passing m top s) is → Listed m top s is → list_all known.is_sound is ≡ true
all_sound m top s known knows [] named h = refl
all_sound m top s known knows (i ∷ is) named h =
    let q = and_true (is_reached i (all m top s)) (list_all (λ (i : Instance). is_reached i (all m top s)) is) h in
    let enough : most m top s ≤ most m top s = omega arith in
    λ t. knows.sound (most m top s) enough i (one_of_these i (all m top s) q.0) named.0 t && all_sound m top s known knows is named.1 q.1 t
