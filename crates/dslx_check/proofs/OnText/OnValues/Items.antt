-- What is known of an item of a text is what it denotes by what is known of the others, where its type is known and it doesn't reach itself.
use Rattle.std.proofs.Common.{◌*◌, ◌≡◌, ◌++◌, ◌||◌, ℕ, suc, true, false, List, [], length, map, Option, Some, None, arith, refl, sym, ap, ◌∙◌}
use mathlib.Core.Bool.{true≢false}
use Rattle.dslx_tree.specs.declared.item.Alias.{Alias}
use Rattle.dslx_tree.specs.declared.item.Definition.{Definition}
use Rattle.dslx_tree.specs.declared.item.Definition.TheVariants as d
use Rattle.dslx_tree.specs.declared.item.Enum.{Enum}
use Rattle.dslx_tree.specs.declared.item.Field.{Field}
use Rattle.dslx_tree.specs.declared.item.Module.{Module}
use Rattle.dslx_tree.specs.declared.item.Struct.{Struct}
use Rattle.dslx_meaning.specs.Environment.{outside}
use Rattle.dslx_meaning.specs.Items.{as_function, as_struct, call_of, enum_type, item_named, name_of_field, struct_type, type_of_item}
use Rattle.dslx_meaning.specs.Lists.{and_then}
use Rattle.dslx_meaning.specs.Meaning.{written_type}
use Rattle.dslx_meaning.specs.Types.{bits_in}
use Rattle.dslx_meaning.specs.declared.ty.BitKind.{BitKind}
use Rattle.dslx_meaning.specs.declared.ty.DslxType.{DslxType}
use Rattle.dslx_meaning.specs.declared.ty.DslxType as ty
use Rattle.dslx_meaning.specs.declared.value.DslxValue.{DslxValue}
use Rattle.dslx_meaning.specs.Rules.ItemRules.{alias_seen, enum_of_base, enum_seen, fields_found, fields_types, has_equal_values, item_type_env, member_values, members_found, base_if_bits, struct_seen, typing_of_inner, typing_of_type}
use Rattle.dslx_meaning.specs.Rules.ConstantRules.{is_empty}
use Rattle.dslx_meaning.specs.Rules.Mentions.{AsFunction, AsStruct, AsType, is_of_use, item_reaches}
use Rattle.dslx_meaning.specs.Rules.ModuleRules.{globals_of, type_known}
use Rattle.dslx_meaning.specs.Rules.OperatorRules.{unless_type, is_bits}
use Rattle.dslx_meaning.specs.Rules.PatternRules.{is_there}
use Rattle.dslx_meaning.specs.Rules.RuleNumbers as rule
use Rattle.dslx_meaning.specs.Rules.TypeEnvs.{GlobalEnv, breaks_if}
use Rattle.dslx_core.specs.Typing.Typed.InTypeEnv.{IsInTypeEnv}
use Rattle.dslx_core.proofs.Lemmas.Typing.Depends.{call_unless, uses_settle}
use Rattle.dslx_core.proofs.Lemmas.Typing.Typed.{settled_type}
use Rattle.dslx_core.proofs.Lemmas.Typing.TypingRelations.{whole_is}
use Rattle.dslx_check.proofs.OnText.OnValues.Types.{Keeps, all_kept, then_kept, type_kept}

-- ---- options

from_there : {A : Type 0} (o p : Option A) → is_there o ≡ true → Keeps o p → o ≡ p
from_there None p h k = absurd (true≢false (sym h))
from_there (Some a) p h k = sym (k a refl)

then_then : {A B C : Type 0} (o : Option A) (f : A → Option B) (g : B → Option C) → and_then (and_then o f) g ≡ and_then o (λ a. and_then (f a) g)
then_then None f g = refl
then_then (Some a) f g = refl

-- ---- types

-- in the text of an item, outside all blocks, nothing is bound
item_place : (known : GlobalEnv) (owner : List ℕ) → IsInTypeEnv (item_type_env known owner []) []
item_place known owner = record { others = λ name e. refl; hides = λ name c. refl }

alias_kept : (known : GlobalEnv) (a : Alias) → Keeps (alias_seen known a).ty (written_type a.ty (outside known.items))
alias_kept known a t e =
    let context = item_type_env known a.name.name [] in
    let j = typing_of_type context a.ty in
    type_kept a.ty context [] (item_place known a.name.name) t (settled_type j.ty j.faults t e).1

struct_kept : (known : GlobalEnv) (s : Struct) → Keeps (struct_seen known s).ty (struct_type known.items s)
struct_kept known s t e =
    let context = item_type_env known s.name.name [] in
    let whole = λ (ts : List DslxType). Some (ty.Struct s.name.name (map name_of_field s.fields) ts) in
    let faults = (fields_found context [] s.fields).faults ++ breaks_if (is_empty s.fields) rule.NO_UNIT_INSIDE s.span in
    let own = (settled_type (and_then (fields_types context s.fields) whole) faults t e).1 in
    then_kept (fields_types context s.fields) _ whole
    (all_kept (λ (f : Field). (typing_of_inner context f.ty).ty) (λ (f : Field). written_type f.ty (outside known.items)) (λ f. type_kept f.ty context [] (item_place known s.name.name)) s.fields) t own

enum_kept : (known : GlobalEnv) (x : Enum) → Keeps (enum_seen known x).ty (enum_type known.items x)
enum_kept known x t e =
    let context = item_type_env known x.name.name [] in
    let base = typing_of_type context x.base in
    let members = members_found context (base_if_bits base.ty) [] x.members in
    let faults = base.faults ++ members.faults ++ unless_type is_bits rule.ENUM_MEMBERS x.span base.ty
    ++ breaks_if (is_empty x.members || has_equal_values (member_values context (base_if_bits base.ty) x.members)) rule.ENUM_MEMBERS x.span in
    let whole = λ (kind : BitKind). Some (ty.Enum x.name.name kind.signed kind.width) in
    let own = (settled_type (enum_of_base x.name.name base.ty) faults t e).1 in
    then_then (written_type x.base (outside known.items)) bits_in whole
    ∙ then_kept base.ty (written_type x.base (outside known.items)) (λ u. and_then (bits_in u) whole) (type_kept x.base context [] (item_place known x.name.name)) t own

-- the type that an item names, if it is one, is known
abbrev pub IsTypeThere : GlobalEnv → Option Definition → Type 0
IsTypeThere known o = is_of_use AsType o ≡ true → is_there (type_known known o) ≡ true

pub type_itself : (known : GlobalEnv) (o : Option Definition) → IsTypeThere known o → type_known known o ≡ type_of_item known.items o
type_itself known (Some (d.Alias a)) h = from_there (alias_seen known a).ty (written_type a.ty (outside known.items)) (h refl) (alias_kept known a)
type_itself known (Some (d.Struct s)) h = from_there (struct_seen known s).ty (struct_type known.items s) (h refl) (struct_kept known s)
type_itself known (Some (d.Enum x)) h = from_there (enum_seen known x).ty (enum_type known.items x) (h refl) (enum_kept known x)
type_itself known (Some (d.Function f)) h = refl
type_itself known (Some (d.Proc p)) h = refl
type_itself known (Some (d.Constant c)) h = refl
type_itself known None h = refl

pub struct_itself : (known : GlobalEnv) (o : Option Definition) → IsTypeThere known o → and_then (as_struct o) (λ s. (struct_seen known s).ty) ≡ and_then (as_struct o) (struct_type known.items)
struct_itself known (Some (d.Struct s)) h = from_there (struct_seen known s).ty (struct_type known.items s) (h refl) (struct_kept known s)
struct_itself known (Some (d.Alias a)) h = refl
struct_itself known (Some (d.Enum x)) h = refl
struct_itself known (Some (d.Function f)) h = refl
struct_itself known (Some (d.Proc p)) h = refl
struct_itself known (Some (d.Constant c)) h = refl
struct_itself known None h = refl

-- ---- in the global environment of a text

module _ (m : Module) (name : List ℕ) where
  abbrev K : GlobalEnv
  K = globals_of m

  abbrev next : ℕ
  next = suc (2 * length m.items)

  at_item : {X : Type 0} (f : Option Definition → X) → f (item_named name K.whole.items) ≡ f (item_named name m.items)
  at_item f i = f (item_named name (whole_is m (2 * length m.items) i).items)

  type_read : K.items.type_named name ≡ type_known K (item_named name m.items)
  type_read = uses_settle m (2 * length m.items) next (omega arith) (omega arith) AsType name ∙ at_item (type_known K)

  module _ (there : is_of_use AsType (item_named name K.whole.items) ≡ true → is_there (K.items.type_named name) ≡ true) where
    is_type_there : IsTypeThere K (item_named name m.items)
    is_type_there h = ap is_there (sym type_read) ∙ there (at_item (is_of_use AsType) ∙ h)

    pub type_meant : K.items.type_named name ≡ type_of_item K.items (item_named name m.items)
    type_meant = type_read ∙ type_itself K (item_named name m.items) is_type_there

    pub struct_meant : K.items.struct_named name ≡ and_then (as_struct (item_named name m.items)) (struct_type K.items)
    struct_meant =
        uses_settle m (2 * length m.items) next (omega arith) (omega arith) AsStruct name ∙ at_item (λ o. and_then (as_struct o) (λ s. (struct_seen K s).ty))
        ∙ struct_itself K (item_named name m.items) is_type_there

  -- what reaches itself has no value
  pub call_none : item_reaches K.whole name name ≡ true → (given operands : List DslxValue) → K.items.call name given operands ≡ None
  call_none reaches given operands =
      (uses_settle m (2 * length m.items) next (omega arith) (omega arith) AsFunction name).call given operands
      ∙ ap (λ b. call_unless b (and_then (as_function (item_named name K.whole.items)) (λ f. call_of K.items f given operands))) reaches

  pub call_meant : item_reaches K.whole name name ≡ false → (given operands : List DslxValue) → K.items.call name given operands ≡ and_then (as_function (item_named name m.items)) (λ f. call_of K.items f given operands)
  call_meant free given operands =
      (uses_settle m (2 * length m.items) next (omega arith) (omega arith) AsFunction name).call given operands
      ∙ ap (λ b. call_unless b (and_then (as_function (item_named name K.whole.items)) (λ f. call_of K.items f given operands))) free
      ∙ at_item (λ o. and_then (as_function o) (λ f. call_of K.items f given operands))
