-- All bits in what names of a text stand for have a width.
use Rattle.std.proofs.Common.{◌&&◌, ◌≡◌, ◌||◌, ◌++◌, ℕ, zero, suc, Bool, true, false, if◌then◌else◌, List, [], ◌∷◌, map, Option, Some, None, refl, sym, ap, ◌∙◌}
use Rattle.std.specs.List.{list_all}
use Rattle.xb_span.specs.declared.fault.Fault.{Fault}
use Rattle.dslx_tree.specs.declared.item.Definition.{Definition}
use Rattle.dslx_tree.specs.declared.item.Definition.TheVariants as d
use Rattle.dslx_tree.specs.declared.item.Field.{Field}
use Rattle.dslx_tree.specs.declared.item.Module.{Module}
use Rattle.dslx_tree.specs.declared.item.Struct.{Struct}
use Rattle.dslx_tree.specs.declared.type_expr.TypeExpr.{TypeExpr}
use Rattle.dslx_meaning.specs.Items.{item_named, name_of_field}
use Rattle.dslx_meaning.specs.Lists.{and_then}
use Rattle.dslx_meaning.specs.Types.{bits_in}
use Rattle.dslx_meaning.specs.declared.ty.BitKind.{BitKind}
use Rattle.dslx_meaning.specs.declared.ty.DslxType.{DslxType}
use Rattle.dslx_meaning.specs.declared.ty.DslxType as ty
use Rattle.dslx_meaning.specs.Rules.ConstantRules.{is_empty}
use Rattle.dslx_meaning.specs.Rules.ItemRules.{base_if_bits, enum_of_base, fields_found, fields_types, has_equal_values, item_type_env, typing_of_inner, typing_of_type, member_values, members_found}
use Rattle.dslx_meaning.specs.Rules.TypeEnvs.{GlobalEnv, TypeEnv, breaks_if, has_broken, unless_broken}
use Rattle.dslx_meaning.specs.Rules.ModuleRules.{globals_within, type_known}
use Rattle.dslx_meaning.specs.Rules.NodeRules.{type_pair}
use Rattle.dslx_meaning.specs.Rules.OperatorRules.{is_bits, unless_type}
use Rattle.dslx_core.proofs.Lemmas.Typing.Typed.{all_there, list_parts, none_some, same_some}
use Rattle.dslx_core.proofs.Lemmas.Typing.Sound.{some_fault}
use Rattle.dslx_core.proofs.Lemmas.Typing.TypingRelations.{whole_is}
use Rattle.dslx_total.specs.Expressions.Beside.{NamesHaveWidths, has_widths}
use Rattle.dslx_total.specs.Expressions.ExprLowering.{IsWide}
use Rattle.dslx_total.proofs.Lemmas.Expressions.{in_enum, in_struct, own_width}

-- what stands where no rule is broken
without_faults : (faults : List Fault) (o : Option DslxType) (t : DslxType) → unless_broken faults o ≡ Some t → o ≡ Some t
without_faults faults o t e = by_broken (has_broken faults) e
  where
    by_broken : (b : Bool) → (if b then None else o) ≡ Some t → o ≡ Some t
    by_broken true q = none_some t q
    by_broken false q = q

-- fields, each with a type that has widths
fields_wide : ((t : TypeExpr) → IsWide (type_pair t).1) → (context : TypeEnv) → NamesHaveWidths context.known → (fs : List Field)
    → (ts : List DslxType) → map (λ (f : Field). (typing_of_inner context f.ty).ty) fs ≡ map Some ts → list_all (λ b. b) (map has_widths ts) ≡ true
fields_wide wide context names [] [] e = refl
fields_wide wide context names [] (t ∷ ts) e = some_fault (Some t) (map Some ts) (sym e)
fields_wide wide context names (f ∷ fs) [] e = some_fault (typing_of_inner context f.ty).ty (map (λ (f : Field). (typing_of_inner context f.ty).ty) fs) e
fields_wide wide context names (f ∷ fs) (t ∷ ts) e =
    let both = list_parts (typing_of_inner context f.ty).ty (Some t) (map (λ (f : Field). (typing_of_inner context f.ty).ty) fs) (map Some ts) e in
    λ i. wide f.ty context names t both.0 i && fields_wide wide context names fs ts both.1 i

struct_wide : ((t : TypeExpr) → IsWide (type_pair t).1) → (context : TypeEnv) → NamesHaveWidths context.known → (s : Struct)
    → (t : DslxType) → and_then (fields_types context s.fields) (λ ts. Some (ty.Struct s.name.name (map name_of_field s.fields) ts)) ≡ Some t → has_widths t ≡ true
struct_wide wide context names s t e = by_types (fields_types context s.fields) refl e
  where
    by_types : (o : Option (List DslxType)) → fields_types context s.fields ≡ o → and_then o (λ ts. Some (ty.Struct s.name.name (map name_of_field s.fields) ts)) ≡ Some t → has_widths t ≡ true
    by_types None q r = none_some t r
    by_types (Some ts) q r =
        ap has_widths (sym (same_some (ty.Struct s.name.name (map name_of_field s.fields) ts) t r)) ∙ in_struct s.name.name (map name_of_field s.fields) ts
        ∙ fields_wide wide context names s.fields ts (all_there (map (λ (f : Field). (typing_of_inner context f.ty).ty) s.fields) ts q)

-- an enum of a base that has a width
enum_wide : (name : List ℕ) (base : Option DslxType) → ((t : DslxType) → base ≡ Some t → has_widths t ≡ true) → (t : DslxType) → enum_of_base name base ≡ Some t → has_widths t ≡ true
enum_wide name None wide t e = none_some t e
enum_wide name (Some base) wide t e = by_bits (bits_in base) refl e
  where
    by_bits : (o : Option BitKind) → bits_in base ≡ o → and_then o (λ kind. Some (ty.Enum name kind.signed kind.width)) ≡ Some t → has_widths t ≡ true
    by_bits None q r = none_some t r
    by_bits (Some own) q r = ap has_widths (sym (same_some (ty.Enum name own.signed own.width) t r)) ∙ in_enum name own.signed own.width ∙ own_width base (wide base refl) own q

-- by chains of items of any length
pub names_have_widths : ((t : TypeExpr) → IsWide (type_pair t).1) → (m : Module) (n : ℕ) → NamesHaveWidths (globals_within m n)
names_have_widths wide m zero name t e = none_some t e
names_have_widths wide m (suc n) name t e = by_item (item_named name m.items) refl ((λ i. type_known known (item_named name (sym (whole_is m n) i).items)) ∙ e) (names_have_widths wide m n)
  where
    known : GlobalEnv
    known = globals_within m n

    by_item : (o : Option Definition) → item_named name m.items ≡ o → type_known known o ≡ Some t → NamesHaveWidths known → has_widths t ≡ true
    by_item None q r names = none_some t r
    by_item (Some (d.Function f)) q r names = none_some t r
    by_item (Some (d.Proc p)) q r names = none_some t r
    by_item (Some (d.Constant c)) q r names = none_some t r
    by_item (Some (d.Alias a)) q r names =
        let j = typing_of_type (item_type_env known a.name.name []) a.ty in
        wide a.ty (item_type_env known a.name.name []) names t (without_faults j.faults j.ty t r)
    by_item (Some (d.Struct s)) q r names =
        let context = item_type_env known s.name.name [] in
        let faults = (fields_found context [] s.fields).faults ++ breaks_if (is_empty s.fields) 31 s.span in
        let own = and_then (fields_types context s.fields) (λ ts. Some (ty.Struct s.name.name (map name_of_field s.fields) ts)) in
        struct_wide wide context names s t (without_faults faults own t r)
    by_item (Some (d.Enum x)) q r names =
        let context = item_type_env known x.name.name [] in
        let base = typing_of_type context x.base in
        let members = members_found context (base_if_bits base.ty) [] x.members in
        let none_or_twice = breaks_if (is_empty x.members || has_equal_values (member_values context (base_if_bits base.ty) x.members)) 23 x.span in
        let faults = base.faults ++ members.faults ++ unless_type is_bits 23 x.span base.ty ++ none_or_twice in
        enum_wide x.name.name base.ty (wide x.base context names) t (without_faults faults (enum_of_base x.name.name base.ty) t r)
