-- Constants and members of enums are of their own types.
use Rattle.std.proofs.Common.{◌≡◌, ℕ, Bool, true, false, if◌then◌else◌, List, [], ◌∷◌, map, Option, Some, None, refl, sym, ap, subst, ◌∙◌}
use Rattle.std.specs.Str.{bytes_eq}
use Rattle.dslx_tree.specs.declared.item.Definition.{Definition}
use Rattle.dslx_tree.specs.declared.item.Definition.TheVariants as d
use Rattle.dslx_tree.specs.declared.item.Enum.{Enum}
use Rattle.dslx_tree.specs.declared.item.Member.{Member}
use Rattle.dslx_tree.specs.declared.item.Module.{Module}
use Rattle.dslx_meaning.specs.Environment.{Meanings}
use Rattle.dslx_meaning.specs.Items.{as_enum, item_named, meanings_over, member_named, member_value}
use Rattle.dslx_meaning.specs.Lists.{and_then, is_in}
use Rattle.dslx_meaning.specs.Values.{type_of_value}
use Rattle.dslx_meaning.specs.declared.ty.DslxType.{DslxType}
use Rattle.dslx_meaning.specs.declared.value.DslxValue.{DslxValue}
use Rattle.dslx_meaning.specs.Rules.TypeEnvs.{GlobalEnv}
use Rattle.dslx_meaning.specs.Rules.Mentions.{AsType, is_of_use}
use Rattle.dslx_core.specs.Typing.Typed.Complete.{IsComplete}
use Rattle.dslx_core.specs.Typing.Typed.Declared.{Declarations}
use Rattle.dslx_core.specs.Typing.Typed.Given.{GivesOf}
use Rattle.dslx_core.specs.Typing.Typed.Kinds.{is_of}
use Rattle.dslx_core.proofs.Lemmas.Typing.Typed.{none_some, one_type, same_some}
use Rattle.dslx_core.specs.Typing.Complete.HasValue.{AreTyped}
use Rattle.dslx_core.specs.Lowering.Correspondence.{IsOwn}
use Rattle.dslx_core.specs.Lowering.Instances.{ItemsAreOwn}
use Rattle.dslx_core.proofs.Lemmas.Lowering.{from_then}

-- a value that is given is of its own type
own_given : (types : Declarations) (t : DslxType) (v : DslxValue) → GivesOf types t (Some v) → IsOwn v
own_given types t v g =
    let same = same_some v g.value g.is in
    let of : is_of t v ≡ true = subst (λ w. is_of t w ≡ true) (sym same) g.of in
    subst (λ u. is_of u v ≡ true) (sym (one_type t v of)) of

-- a member that is found is one of the enum
member_there : (name : List ℕ) (ms : List Member) (x : Member) → member_named name ms ≡ Some x → is_in name (map (λ (m : Member). m.name.name) ms) ≡ true
member_there name [] x e = none_some x e
member_there name (m ∷ ms) x e = by_name (bytes_eq name m.name.name) e (member_there name ms x)
  where
    by_name : (t : Bool) → (if t then Some m else member_named name ms) ≡ Some x → (member_named name ms ≡ Some x → is_in name (map (λ (m : Member). m.name.name) ms) ≡ true)
        → (if t then true else is_in name (map (λ (m : Member). m.name.name) ms)) ≡ true
    by_name true q rest = refl
    by_name false q rest = rest q

enum_is_type : (o : Option Definition) (e : Enum) → as_enum o ≡ Some e → is_of_use AsType o ≡ true
enum_is_type None e q = none_some e q
enum_is_type (Some (d.Enum x)) e q = refl
enum_is_type (Some (d.Function f)) e q = none_some e q
enum_is_type (Some (d.Proc p)) e q = none_some e q
enum_is_type (Some (d.Constant c)) e q = none_some e q
enum_is_type (Some (d.Alias a)) e q = none_some e q
enum_is_type (Some (d.Struct s)) e q = none_some e q

pub items_are_own : (m : Module) (known : GlobalEnv) → known.whole ≡ m → IsComplete known → AreTyped known → (items : Meanings) → meanings_over m items ≡ items → known.items ≡ items → ItemsAreOwn items
items_are_own m known whole complete typed items settled same = record {
  constants = λ name v e. own_given known.items.type_named (type_of_value v) v (typed.constants name v (ap (λ (x : Meanings). x.constant name) same ∙ e));
  members = λ name member v e.
      let over : and_then (as_enum (item_named name m.items)) (λ e. and_then (member_named member e.members) (member_value items e)) ≡ Some v = ap (λ (x : Meanings). x.member name member) settled ∙ e in
      let n = from_then (as_enum (item_named name m.items)) (λ e. and_then (member_named member e.members) (member_value items e)) v over in
      let x = from_then (member_named member n.0.members) (member_value items n.0) v n.2 in
      let at : as_enum (item_named name known.whole.items) ≡ Some n.0 = ap (λ (y : Module). as_enum (item_named name y.items)) whole ∙ n.1 in
      let t = complete.types name (enum_is_type (item_named name known.whole.items) n.0 at) in
      let g = typed.members name member n.0 t.0 at (member_there member n.0.members x.0 x.1) t.1 in
      own_given known.items.type_named t.0 v (subst (GivesOf known.items.type_named t.0) (ap (λ (y : Meanings). y.member name member) same ∙ e) g);
}
