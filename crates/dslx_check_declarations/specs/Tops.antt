-- The top of a text.
use denote.Ref.{Bor}
use Rattle.std.specs.Prelude.{ℕ, List, [], ◌∷◌, ◌≡◌, Option, Some, None}
use Rattle.std.specs.List.{list_any}
use Rattle.xb_span.specs.declared.fault.Fault.{Fault}
use Rattle.dslx_tree.specs.declared.ident.Ident.{Ident}
use Rattle.dslx_tree.specs.declared.item.Definition.{Definition}
use Rattle.dslx_tree.specs.declared.item.Definition.TheVariants as d
use Rattle.dslx_tree.specs.declared.process.Proc.{Proc}
use Rattle.dslx_meaning.specs.Network.{as_proc, top_proc}
use Rattle.dslx_meaning.specs.Rules.ModuleRules.{ident_of, lacks_default, top_faults}
use Rattle.dslx_meaning.specs.Rules.Namesakes.{told_apart}
use Rattle.dslx_meaning.specs.Rules.RuleNumbers as rule
use Rattle.dslx_meaning.specs.Rules.TypeEnvs.{breaks, breaks_if}
use Rattle.dslx_check_rules.specs.Seen.{seen}
use Rattle.dslx_check_facts.specs.declared.facts.Facts.{Facts}
use Rattle.dslx_check_facts.specs.Known.{item_at, text_of}
use Rattle.dslx_check_declarations.specs.declared.tops.Top.{Top}

-- an item under another name
abbrev pub named_as : Ident → Definition → Definition
named_as name (d.Function f) = d.Function (record f { name = name })
named_as name (d.Proc p) = d.Proc (record p { name = name })
named_as name (d.Constant c) = d.Constant (record c { name = name })
named_as name (d.Alias a) = d.Alias (record a { name = name })
named_as name (d.Struct s) = d.Struct (record s { name = name })
named_as name (d.Enum e) = d.Enum (record e { name = name })

-- the item of a number is this proc, perhaps under another name at the same span
pub record IsProcAt (f : Facts) (item : ℕ) (process p : Proc) : Type 0 where
  pub name : Ident
  pub span : name.span ≡ process.name.span
  pub is : p ≡ record process { name = name }
  pub at : item_at f item ≡ Some (d.Proc p)

-- the same of what may be none
abbrev pub IsProcIf : Facts → Option Proc → Option (ℕ × Bor Proc) → Type 0
IsProcIf f None None = Unit {0}
IsProcIf f (Some p) (Some q) = IsProcAt f q.0 q.1.now p
IsProcIf f _ _ = ⊥

-- rule 32 at a proc that is the top
abbrev pub proc_faults : Proc → List Fault
proc_faults p = breaks_if (list_any lacks_default p.parametrics) rule.TOP_IS_A_PROC p.name.span

-- rule 32 at an item that is named as the top
abbrev pub named_faults : Definition → Option Proc → List Fault
named_faults definition (Some p) = proc_faults p
named_faults definition None = breaks rule.TOP_IS_A_PROC (ident_of definition).span ∷ []

-- what an item of a number is as the top
pub record IsTopAt (item : ℕ) (definition : Definition) (t : Top) : Type 0 where
  pub process : (f : Facts) → item_at f item ≡ Some definition → IsProcIf f (as_proc (Some definition)) t.process
  pub faults : t.faults ≡ seen (named_faults definition (as_proc (Some definition)))

pub record IsTop (f : Facts) (top : Option (List ℕ)) (t : Top) : Type 0 where
  pub process : IsProcIf f (top_proc (told_apart (text_of f)) top) t.process
  pub faults : t.faults ≡ seen (top_faults (told_apart (text_of f)) top (top_proc (told_apart (text_of f)) top))
