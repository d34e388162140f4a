-- What is known of a text is enough for functions to become something: their types are known as they are judged.
use Rattle.std.proofs.Common.{◌≡◌, [], Some, ◌∙◌}
use Rattle.dslx_tree.specs.declared.item.Definition.TheVariants as d
use Rattle.dslx_tree.specs.declared.item.Function.{Function}
use Rattle.dslx_meaning.specs.Items.{item_named}
use Rattle.dslx_meaning.specs.Rules.TypeEnvs.{GlobalEnv}
use Rattle.dslx_meaning.specs.Rules.ModuleRules.{globals_over}
use Rattle.dslx_core.specs.Typing.Depends.Alike.{DeclaredAlike}
use Rattle.dslx_core.specs.Typing.Typed.Numbers.{values_behind}
use Rattle.dslx_core.proofs.Lemmas.Typing.Depends.{of_all, signature_is}
use Rattle.dslx_total.specs.Expressions.InstanceLists.{IsAsTyped}

-- where what it declares is what is judged in its text
pub types_typing : (known : GlobalEnv) (f : Function) → item_named f.name.name known.whole.items ≡ Some (d.Function f) → DeclaredAlike known (globals_over known) f.name.name → IsAsTyped known f
types_typing known f named h parametric_args many = h.signature (values_behind [] parametric_args) (of_all known f.name.name (d.Function f) parametric_args named many) ∙ signature_is f.name.name (d.Function f) parametric_args known named
