-- What several parts come to together.
use Rattle.std.specs.Prelude.{◌≡◌, ◌++◌, List, [], ◌∷◌, Option, is_some}
use Rattle.xb_span.specs.declared.fault.Fault.{Fault}
use Rattle.dslx_meaning.specs.Lists.{all_some}
use Rattle.dslx_meaning.specs.declared.ty.DslxType.{DslxType}
use Rattle.dslx_meaning.specs.Rules.TypeEnvs.{Judgement, faults_of_all, size_of_all, types_of}
use Rattle.dslx_meaning.specs.Rules.AggregateRules.{wanted_faults}
use Rattle.dslx_check_rules.specs.Seen.{seen, capped}
use Rattle.dslx_check_rules.specs.declared.nodes.lists.ListTyping.{ListTyping}
use Rattle.dslx_check_rules.specs.Nodes.Parts.{Placed}
use Rattle.dslx_check_rules.specs.Nodes.Nodes.Written.{inside}

-- their faults, their size, and whether each has a type
pub record IsList (all : ListTyping) (js : List Judgement) : Type 0 where
  pub faults : all.faults ≡ seen (faults_of_all js)
  pub size : all.size ≡ capped (size_of_all js)
  pub typed : all.is_typed ≡ is_some (all_some (types_of js))

-- one list of all
abbrev pub all_faults : List (List Fault) → List Fault
all_faults [] = []
all_faults (fs ∷ fss) = fs ++ all_faults fss

-- a part of a tuple or an array, which may not be ()
abbrev pub element_of : Placed → Judgement
element_of x = inside x.span x.judgement

-- a part of which this type is wanted
abbrev pub fitted : Option DslxType → Placed → Judgement
fitted t x = record x.judgement { faults = x.judgement.faults ++ wanted_faults x.span t x.judgement.ty }
