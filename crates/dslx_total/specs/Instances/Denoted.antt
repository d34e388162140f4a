-- What is known of items of a text that are checked, with what calls denote.
use Rattle.std.specs.Prelude.{◌≡◌, ◌&&◌, ℕ, List, [], true, Bool, Option, Some, None, if◌then◌else◌}
use Rattle.dslx_tree.specs.declared.item.Definition.TheVariants as d
use Rattle.dslx_tree.specs.declared.item.Function.{Function}
use Rattle.dslx_tree.specs.declared.item.Module.{Module}
use Rattle.dslx_tree.specs.declared.process.Proc.{Proc}
use Rattle.dslx_meaning.specs.Items.{item_named, meanings_of}
use Rattle.dslx_meaning.specs.Network.{top_proc}
use Rattle.dslx_meaning.specs.declared.value.DslxValue.{DslxValue}
use Rattle.dslx_meaning.specs.Rules.ModuleRules.{found_of_instance, globals_of, globals_over, instances_of, top_found}
use Rattle.dslx_meaning.specs.Rules.TypeEnvs.{DefaultSeen, GlobalEnv, Instance}
use Rattle.dslx_core.specs.Typing.Complete.HasValue.{AreTyped}
use Rattle.dslx_core.specs.Typing.Depends.Alike.{DeclaredAlike}
use Rattle.dslx_core.specs.Typing.GlobalEnv.Filled.{refused}
use Rattle.dslx_core.specs.Typing.Typed.Complete.{EachParametricKnown, IsComplete}
use Rattle.dslx_core.specs.Typing.TypingRelations.Closed.{IsOneOf}
use Rattle.dslx_total.specs.Instances.Checked.{is_checked_item}

-- a default of which nothing is known
abbrev pub refused_default : DefaultSeen
refused_default = record { judgement = refused; value = None }

-- the global environment with other values of calls. Of what a function or a proc declares whose name doesn't pass nothing is known,
-- and no instance of it is sound
abbrev pub with_calls : (List ℕ → Bool) → (List ℕ → List DslxValue → List DslxValue → Option DslxValue) → GlobalEnv → GlobalEnv
with_calls P call known = record known {
  items = record known.items { call = call };
  is_sound = λ i. P i.name && known.is_sound i;
  parameter_in = λ owner before. if P owner then known.parameter_in owner before else refused;
  default_in = λ owner before. if P owner then known.default_in owner before else refused_default;
}

-- of a text: what is checked, with what calls denote
abbrev pub checked_globals : Module → Option (List ℕ) → GlobalEnv
checked_globals m top = with_calls (is_checked_item m top) (meanings_of m).call (globals_of m)

-- a global environment of the text that has what its items denote, and of all that is checked what the text's own one has
pub record KnowsChecked (m : Module) (top : Option (List ℕ)) (known : GlobalEnv) : Type 0 where
  pub text : known.whole ≡ m
  pub denoted : known.items ≡ meanings_of m
  pub complete : IsComplete known
  pub typed : AreTyped known
  -- what instances that are checked break and reach, and what the top does
  pub found : (i : Instance) → IsOneOf i (instances_of m top) → found_of_instance known i ≡ found_of_instance (globals_of m) i
  pub tops : top_found known (top_proc m top) ≡ top_found (globals_of m) (top_proc m top)
  -- what functions and procs that are checked declare is what is judged in their texts
  pub parametrics : (p : Proc) → item_named p.name.name m.items ≡ Some (d.Proc p) → EachParametricKnown known p.name.name [] p.parametrics
  pub functions : (f : Function) → item_named f.name.name m.items ≡ Some (d.Function f) → is_checked_item m top f.name.name ≡ true → DeclaredAlike known (globals_over known) f.name.name
  pub procs : (p : Proc) → item_named p.name.name m.items ≡ Some (d.Proc p) → is_checked_item m top p.name.name ≡ true → DeclaredAlike known (globals_over known) p.name.name
