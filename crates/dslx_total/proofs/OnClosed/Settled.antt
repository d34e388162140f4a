-- What checked items denote: calls give what the texts of their functions give, and constants and members are of their own types.
use Rattle.std.proofs.Common.{◌*◌, ◌≡◌, ◌≤◌, ℕ, suc, length, Bool, true, false, if◌then◌else◌, List, [], ◌∷◌, map, Option, Some, None, arith, refl, sym, ap, subst, ◌∙◌}
use Rattle.std.specs.Str.{bytes_eq}
use Rattle.dslx_tree.specs.declared.item.Definition.{Definition}
use Rattle.dslx_tree.specs.declared.item.Definition.TheVariants as d
use Rattle.dslx_tree.specs.declared.item.Enum.{Enum}
use Rattle.dslx_tree.specs.declared.item.Function.{Function}
use Rattle.dslx_tree.specs.declared.item.Member.{Member}
use Rattle.dslx_tree.specs.declared.item.Module.{Module}
use Rattle.dslx_meaning.specs.Environment.{Meanings}
use Rattle.dslx_meaning.specs.Items.{as_enum, as_function, call_of, item_named, meanings_of, meanings_over, member_named}
use Rattle.dslx_meaning.specs.Lists.{and_then, is_in}
use Rattle.dslx_meaning.specs.Values.{type_of_value}
use Rattle.dslx_meaning.specs.declared.ty.DslxType.{DslxType}
use Rattle.dslx_meaning.specs.declared.value.DslxValue.{DslxValue}
use Rattle.dslx_meaning.specs.Rules.ItemRules.{enum_member_value}
use Rattle.dslx_meaning.specs.Rules.Mentions.{AsEnum, AsFunction, AsType, definition_mentions, is_of_use, item_reaches}
use Rattle.dslx_meaning.specs.Rules.ModuleRules.{globals_of}
use Rattle.dslx_meaning.specs.Rules.TypeEnvs.{GlobalEnv}
use Rattle.dslx_core.proofs.Lemmas.Lowering.{from_then}
use Rattle.dslx_core.proofs.Lemmas.Typing.Accepted.{IsAccepted}
use Rattle.dslx_core.proofs.Lemmas.Typing.Denotation.{of_kinds}
use Rattle.dslx_core.proofs.Lemmas.Typing.Depends.{agreeing, uses_settle}
use Rattle.dslx_core.proofs.Lemmas.Typing.Laws.{call_one}
use Rattle.dslx_core.proofs.Lemmas.Typing.Typed.{none_some, one_type, same_some}
use Rattle.dslx_core.proofs.Lemmas.Typing.TypingRelations.{whole_is}
use Rattle.dslx_core.specs.Lowering.Correspondence.{IsOwn}
use Rattle.dslx_core.specs.Lowering.Functions.{Instantiated}
use Rattle.dslx_core.specs.Lowering.Instances.{CallSettles, CallsSettle, ItemsAreOwn}
use Rattle.dslx_core.specs.Networks.Assembly.{DesignEnds, IsDesignFrom}
use Rattle.dslx_core.specs.declared.design.Design.{Design}
use Rattle.dslx_core.specs.Typing.Complete.HasValue.{AreTyped}
use Rattle.dslx_core.specs.Typing.Typed.Complete.{IsComplete}
use Rattle.dslx_core.specs.Typing.Typed.Declared.{Declarations}
use Rattle.dslx_core.specs.Typing.Typed.Given.{GivesOf}
use Rattle.dslx_core.specs.Typing.Typed.Kinds.{is_of}
use Rattle.dslx_core.specs.Typing.TypingRelations.Closed.{ends_within}
use Rattle.dslx_core.specs.Typing.TypingRelations.Reached.{IsClosed}
use Rattle.dslx_total.specs.Instances.Checked.{AreOfChecked, is_checked_item}
use Rattle.dslx_total.specs.Instances.Denoted.{checked_globals}
use Rattle.dslx_total.proofs.OnClosed.Denoted.{mentions_there, stage}
use Rattle.dslx_total.proofs.OnFamilies.Reached.{K}
use Rattle.dslx_total.proofs.OnFamilies.Spawns.{proc_is}

-- ---- values of their own types

own_given : (types : Declarations) (t : DslxType) (v : DslxValue) → GivesOf types t (Some v) → IsOwn v
own_given types t v g =
    let same = same_some v g.value g.is in
    let of : is_of t v ≡ true = subst (λ w. is_of t w ≡ true) (sym same) g.of in
    subst (λ u. is_of u v ≡ true) (sym (one_type t v of)) of

-- a member that is found is one of the enum
member_there : (name : List ℕ) (ms : List Member) (x : Member) → member_named name ms ≡ Some x → is_in name (map (λ (m : Member). m.name.name) ms) ≡ true
member_there name [] x e = none_some x e
member_there name (m ∷ ms) x e = by_name (bytes_eq name m.name.name) e (member_there name ms x)
  where
    by_name : (t : Bool) → (if t then Some m else member_named name ms) ≡ Some x → (member_named name ms ≡ Some x → is_in name (map (λ (m : Member). m.name.name) ms) ≡ true)
        → (if t then true else is_in name (map (λ (m : Member). m.name.name) ms)) ≡ true
    by_name true q rest = refl
    by_name false q rest = rest q

-- so is one that has a value
valued_there : (known : GlobalEnv) (e : Enum) (name : List ℕ) (o : Option Member) → member_named name e.members ≡ o → (v : DslxValue) → enum_member_value known e name o ≡ Some v → is_in name (map (λ (m : Member). m.name.name) e.members) ≡ true
valued_there known e name None q v k = none_some v k
valued_there known e name (Some x) q v k = member_there name e.members x q

enum_is_type : (o : Option Definition) (e : Enum) → as_enum o ≡ Some e → is_of_use AsType o ≡ true
enum_is_type None e q = none_some e q
enum_is_type (Some (d.Enum x)) e q = refl
enum_is_type (Some (d.Function f)) e q = none_some e q
enum_is_type (Some (d.Proc p)) e q = none_some e q
enum_is_type (Some (d.Constant c)) e q = none_some e q
enum_is_type (Some (d.Alias a)) e q = none_some e q
enum_is_type (Some (d.Struct s)) e q = none_some e q

module _ (m : Module) (top : Option (List ℕ)) (s : IsAccepted m top) where
  abbrev own : GlobalEnv
  own = K m top s

  abbrev most : ℕ
  most = 2 * length m.items

  pub items_own : IsComplete own → AreTyped own → (checked_globals m top).items ≡ meanings_of m → ItemsAreOwn (meanings_of m)
  items_own complete typed denoted = record {
    constants = λ name v e. own_given own.items.type_named (type_of_value v) v (typed.constants name v (ap (λ (x : Meanings). x.constant name) denoted ∙ e));
    members = λ name member v e.
        let least : most ≤ most = omega arith in
        let more : most ≤ suc most = omega arith in
        let here : own.items.member name member ≡ Some v = ap (λ (x : Meanings). x.member name member) denoted ∙ e in
        let over : and_then (as_enum (item_named name own.whole.items)) (λ x. enum_member_value own x member (member_named member x.members)) ≡ Some v = sym ((uses_settle m most (suc most) least more AsEnum name).members member) ∙ here in
        let n = from_then (as_enum (item_named name own.whole.items)) (λ x. enum_member_value own x member (member_named member x.members)) v over in
        let t = complete.types name (enum_is_type (item_named name own.whole.items) n.0 n.1) in
        let g = typed.members name member n.0 t.0 n.1 (valued_there own n.0 member (member_named member n.0.members) refl v n.2) t.1 in
        own_given own.items.type_named t.0 v (subst (GivesOf own.items.type_named t.0) here g);
  }

  -- ---- calls

  module _ (closed : IsClosed (is_checked_item m top) m)
      (calls : (name : List ℕ) (f : Function) → item_named name m.items ≡ Some (d.Function f) → is_checked_item m top name ≡ true → (given operands : List DslxValue) → (globals_of m).items.call name given operands ≡ (meanings_of m).call name given operands)
      (free : (name : List ℕ) → is_checked_item m top name ≡ true → item_reaches m name name ≡ false) (denoted : (checked_globals m top).items ≡ meanings_of m) where
    abbrev known : GlobalEnv
    known = checked_globals m top

    abbrev call_at : Meanings → List DslxValue → List DslxValue → Option Definition → Option DslxValue
    call_at items given operands o = and_then (as_function o) (λ f. call_of items f given operands)

    -- by the text's own global environment
    own_call : (name : List ℕ) (f : Function) → item_named name m.items ≡ Some (d.Function f) → is_checked_item m top name ≡ true → (given operands : List DslxValue) → own.items.call name given operands ≡ call_of own.items f given operands
    own_call name f q h given operands =
        let least : most ≤ most = omega arith in
        let more : most ≤ suc most = omega arith in
        let text = whole_is m most in
        (uses_settle m most (suc most) least more AsFunction name).call given operands
        ∙ (λ t. if item_reaches (text t) name name then None else call_at own.items given operands (item_named name (text t).items))
        ∙ (λ t. if free name h t then None else call_at own.items given operands (q t))

    pub call_settles : (name : List ℕ) → is_checked_item m top name ≡ true → CallSettles m (meanings_of m) name
    call_settles name h given operands = by_item (item_named name m.items) refl
      where
        no_function : (o : Option Definition) → item_named name m.items ≡ o → is_of_use AsFunction o ≡ false → call_at (meanings_of m) given operands o ≡ None → (meanings_over m (meanings_of m)).call name given operands ≡ (meanings_of m).call name given operands
        no_function o q e none = ap (call_at (meanings_of m) given operands) q ∙ none ∙ sym ((of_kinds m (length m.items)).calls name (ap (is_of_use AsFunction) q ∙ e) given operands)

        by_item : (o : Option Definition) → item_named name m.items ≡ o → (meanings_over m (meanings_of m)).call name given operands ≡ (meanings_of m).call name given operands
        by_item (Some (d.Function f)) q =
            ap (call_at (meanings_of m) given operands) q
            ∙ ap (λ (x : Meanings). call_of x f given operands) (sym denoted)
            ∙ sym (call_one own.items known.items f given operands (agreeing (is_checked_item m top) m own known closed (stage m top s closed calls) (definition_mentions (d.Function f)) (mentions_there m top s closed calls name (d.Function f) q h)))
            ∙ sym (own_call name f q h given operands)
            ∙ calls name f q h given operands
        by_item (Some (d.Proc x)) q = no_function (Some (d.Proc x)) q refl refl
        by_item (Some (d.Constant x)) q = no_function (Some (d.Constant x)) q refl refl
        by_item (Some (d.Alias x)) q = no_function (Some (d.Alias x)) q refl refl
        by_item (Some (d.Struct x)) q = no_function (Some (d.Struct x)) q refl refl
        by_item (Some (d.Enum x)) q = no_function (Some (d.Enum x)) q refl refl
        by_item None q = no_function None q refl refl

-- ---- designs

pub calls_settled : (m : Module) (top : Option (List ℕ)) → ((name : List ℕ) → is_checked_item m top name ≡ true → CallSettles m (meanings_of m) name) → (is : List Instantiated) → AreOfChecked m top is → CallsSettle m (meanings_of m) is
calls_settled m top settled [] h = tt
calls_settled m top settled (i ∷ is) h = (settled i.name h.0, calls_settled m top settled is h.1)

pub design_ends : (m : Module) (top : Option (List ℕ)) (design : Design) → ((name : List ℕ) → is_checked_item m top name ≡ true → CallSettles m (meanings_of m) name)
    → ((name : List ℕ) (x : Definition) → item_named name m.items ≡ Some x → is_checked_item m top name ≡ true → ends_within m (length m.items) name ≡ true) → (made : IsDesignFrom m top design)
    → is_checked_item m top made.proc.name.name ≡ true → AreOfChecked m top made.named_functions → DesignEnds m top design made
design_ends m top design settled ends made tops checked = record {
  proc = ends made.proc.name.name (d.Proc made.proc) (proc_is (item_named made.proc.name.name m.items) made.proc made.is_item) tops;
  functions = calls_settled m top settled made.named_functions checked;
}
