-- What is known of items, and whether instances of functions are sound.
use Rattle.std.proofs.Common.{◌*◌, ◌≡◌, ◌∙◌, ◌≤◌, ℕ, suc, List, Option, Some, length, arith, ap}
use Rattle.dslx_tree.specs.declared.item.Definition.{Definition}
use Rattle.dslx_tree.specs.declared.item.Definition.TheVariants as d
use Rattle.dslx_tree.specs.declared.item.Function.{Function}
use Rattle.dslx_tree.specs.declared.item.Module.{Module}
use Rattle.dslx_meaning.specs.Items.{as_constant, as_enum, as_function, as_struct, item_named, member_named, name_of_definition}
use Rattle.dslx_meaning.specs.Lists.{and_then}
use Rattle.dslx_meaning.specs.Rules.ItemRules.{constant_seen, enum_member_value, struct_seen}
use Rattle.dslx_meaning.specs.Rules.Mentions.{Use, AsEnum, AsStruct, AsType, AsValue}
use Rattle.dslx_meaning.specs.Rules.ModuleRules.{globals_of, globals_over, sound_instance, type_known, unbroken_instance}
use Rattle.dslx_meaning.specs.Rules.Namesakes.{told_apart}
use Rattle.dslx_meaning.specs.Rules.TypeEnvs.{GlobalEnv, Instance}
use Rattle.dslx_core.specs.Typing.Depends.Alike.{UseAlike}
use Rattle.dslx_core.proofs.Lemmas.Typing.Depends.{instances_settle, uses_settle}
use Rattle.dslx_core.proofs.Lemmas.Typing.TypingRelations.{whole_is}
use Rattle.dslx_check_rules.specs.Interned.{AreDistinct}
use Rattle.dslx_check_facts.specs.Names.{names_of}
use Rattle.dslx_check_declarations.proofs.Lemmas.Work.Firsts.{first_named}
use Rattle.dslx_check_declarations.specs.Work.Settled.{ItemsSettle, told_item}

-- ---- of any text

module _ (m : Module) where
  abbrev pub K : GlobalEnv
  K = globals_of m

  abbrev pub most : ℕ
  most = 2 * length m.items

  pub enough : most ≤ most
  enough = omega arith

  pub more : most ≤ suc most
  more = omega arith

  -- one link more adds nothing
  pub uses : (u : Use) (name : List ℕ) → UseAlike K (globals_over K) u name
  uses u name = uses_settle m most (suc most) enough more u name

  pub sound : (i : Instance) (f : Function) → as_function (item_named i.name m.items) ≡ Some f → (K.is_sound i ≡ sound_instance K i) × (K.is_unbroken i ≡ unbroken_instance K i)
  sound i f e = instances_settle m most (suc most) enough more i f e

  -- it has the item of this name
  pub item_there : (name : List ℕ) (o : Option Definition) → item_named name m.items ≡ o → item_named name K.whole.items ≡ o
  item_there name o e = (λ i. item_named name (whole_is m most i).items) ∙ e

-- ---- where items of one name are told apart

pub items : (text : Module) → AreDistinct (names_of text) → ItemsSettle text (globals_of (told_apart text))
items text distinct = record {
  alias = λ i a e. uses m AsType a.name.name ∙ ap (type_known known) (here i (d.Alias a) e);
  structure = λ i s e. uses m AsType s.name.name ∙ ap (type_known known) (here i (d.Struct s) e);
  fields = λ i s e. uses m AsStruct s.name.name ∙ ap (λ o. and_then (as_struct o) (λ x. (struct_seen known x).ty)) (here i (d.Struct s) e);
  choice = λ i c e. uses m AsType c.name.name ∙ ap (type_known known) (here i (d.Enum c) e);
  member = λ i c name e. (uses m AsEnum c.name.name).members name ∙ ap (λ o. and_then (as_enum o) (λ x. enum_member_value known x name (member_named name x.members))) (here i (d.Enum c) e);
  constant = λ i c e. uses m AsValue c.name.name ∙ ap (λ o. and_then (as_constant o) (λ x. (constant_seen known x).value)) (here i (d.Constant c) e);
}
  where
    m : Module
    m = told_apart text

    known : GlobalEnv
    known = globals_of m

    here : (i : ℕ) (x : Definition) → told_item text i ≡ Some x → item_named (name_of_definition x) known.whole.items ≡ Some x
    here i x e = item_there m (name_of_definition x) (Some x) (first_named text distinct i x e)
