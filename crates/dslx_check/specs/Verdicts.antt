-- What a text is told.
use denote.Ref.{Bor}
use Rattle.std.specs.Prelude.{ℕ, List, ◌≡◌, ◌++◌, Option, Some, None}
use Rattle.xb_span.specs.declared.fault.Fault.{Fault}
use Rattle.xb_span.specs.Fault.{first_of}
use Rattle.dslx_tree.specs.declared.item.Module.{Module}
use Rattle.dslx_tree.specs.declared.process.Proc.{Proc}
use Rattle.dslx_meaning.specs.Items.{item_named}
use Rattle.dslx_meaning.specs.Network.{as_proc, top_proc}
use Rattle.dslx_meaning.specs.Rules.ModuleRules.{first_fault, own_instances}
use Rattle.dslx_meaning.specs.Rules.Namesakes.{told_apart}
use Rattle.dslx_check_rules.specs.declared.faults.Faults.{Faults}
use Rattle.dslx_check_rules.specs.Seen.{seen}
use Rattle.dslx_check_facts.specs.declared.facts.Facts.{Facts}
use Rattle.dslx_check_facts.specs.Known.{text_of}
use Rattle.dslx_check_facts.specs.Names.{definition_at}
use Rattle.dslx_check.specs.Least.Starts.{too_many}
use Rattle.dslx_check.specs.Finds.{FindsInside, outside_found}
use Rattle.dslx_check.specs.declared.checking.Broken.{Broken}
use Rattle.dslx_check.specs.declared.checking.Verdict.{Verdict}
use Rattle.dslx_check.specs.declared.checking.Verdict.TheVariants as verdict

-- nothing is broken and no limit passed, and this is the top: the item of its name
pub record IsAcceptedWith (text : Module) (top : Option (List ℕ)) (p : Proc) : Type 0 where
  pub none : first_fault text top ≡ None
  pub proc : top_proc text top ≡ Some p
  pub item : as_proc (item_named p.name.name text.items) ≡ Some p

-- the text is refused for its first fault, or it has none
abbrev pub IsVerdictOn : Module → Option (List ℕ) → Verdict → Type 0
IsVerdictOn text top (verdict.Accepted p) = IsAcceptedWith text top p.now
IsVerdictOn text top (verdict.Refused fault) = first_fault text top ≡ Some fault

-- ---- what the code is told

-- these are broken outside all instances, where this is the top, and inside all that are reached from there
pub record FindsBroken (text : Module) (top : Option Proc) (b : Broken) : Type 0 where
  pub outside_are : b.outside ≡ seen (outside_found text top).faults
  pub inside_are : FindsInside text (own_instances (told_apart text).items ++ (outside_found text top).reached) b.inside

-- the first fault of those outside all instances and of those inside, where there aren't too many of these
abbrev pub IsFirstOfBoth : Faults → Option Faults → Option Fault → Type 0
IsFirstOfBoth outside None first = first ≡ Some too_many
IsFirstOfBoth outside (Some inside) first = (a b : List Fault) → outside ≡ seen a → inside ≡ seen b → first ≡ first_of (a ++ b)

-- the proc at the number of the top
abbrev pub IsProcOf : Facts → Option (ℕ × Bor Proc) → Proc → Type 0
IsProcOf f None p = ⊥
IsProcOf f (Some t) p = as_proc (definition_at (text_of f).items t.0) ≡ Some p

abbrev pub TellsFirst : Facts → Option (ℕ × Bor Proc) → Option Fault → Verdict → Type 0
TellsFirst f top first (verdict.Accepted p) = (first ≡ None) × IsProcOf f top p.now
TellsFirst f top first (verdict.Refused fault) = first ≡ Some fault
