-- Items by their numbers, where those of one name are told apart: each keeps all but its name.
use Rattle.std.proofs.Common.{◌≡◌, ℕ, zero, suc, List, [], ◌∷◌, Option, Some, None, length, refl, ap, subst}
use Rattle.dslx_tree.specs.declared.ident.Ident.{Ident}
use Rattle.dslx_tree.specs.declared.item.Definition.{Definition}
use Rattle.dslx_tree.specs.declared.item.Definition.TheVariants as d
use Rattle.dslx_tree.specs.declared.item.Item.{Item}
use Rattle.dslx_meaning.specs.Items.{name_of_definition}
use Rattle.dslx_meaning.specs.Lists.{times_in}
use Rattle.dslx_meaning.specs.Rules.ModuleRules.{ident_of}
use Rattle.dslx_meaning.specs.Rules.Namesakes.{marked_definition, marked_ident, told_apart_behind}
use Rattle.dslx_check_facts.specs.Names.{definition_at}
use Rattle.dslx_check_declarations.specs.Tops.{named_as}

pub told_at : (before : List (List ℕ)) (is : List Item) (k : ℕ) (definition : Definition) → definition_at is k ≡ Some definition
    → (name : Ident) × (name.span ≡ (ident_of definition).span) × (definition_at (told_apart_behind before is) k ≡ Some (named_as name definition))
told_at before [] k definition e = absurd (never e)
  where
    never : None ≡ Some definition → ⊥
    never h = cc
told_at before (i ∷ is) zero definition e =
    subst (λ (x : Definition). (name : Ident) × (name.span ≡ (ident_of x).span) × (Some (marked_definition (times_in (name_of_definition i.definition) before) i.definition) ≡ Some (named_as name x))) (same e)
    (marked_ident (times_in (name_of_definition i.definition) before) (ident_of i.definition), refl, ap Some (marks (times_in (name_of_definition i.definition) before) i.definition))
  where
    same : Some i.definition ≡ Some definition → i.definition ≡ definition
    same h = cc

    marks : (n : ℕ) (x : Definition) → marked_definition n x ≡ named_as (marked_ident n (ident_of x)) x
    marks n (d.Function f) = refl
    marks n (d.Proc p) = refl
    marks n (d.Constant c) = refl
    marks n (d.Alias a) = refl
    marks n (d.Struct s) = refl
    marks n (d.Enum e) = refl
told_at before (i ∷ is) (suc k) definition e = told_at (name_of_definition i.definition ∷ before) is k definition e

pub none_told : (before : List (List ℕ)) (is : List Item) (k : ℕ) → definition_at is k ≡ None → definition_at (told_apart_behind before is) k ≡ None
none_told before [] k e = refl
none_told before (i ∷ is) zero e = absurd (never e)
  where
    never : Some i.definition ≡ None → ⊥
    never h = cc
none_told before (i ∷ is) (suc k) e = none_told (name_of_definition i.definition ∷ before) is k e

pub told_long : (before : List (List ℕ)) (is : List Item) → length (told_apart_behind before is) ≡ length is
told_long before [] = refl
told_long before (i ∷ is) = ap suc (told_long (name_of_definition i.definition ∷ before) is)
