-- Parts whose names are in scope behind them, and parametric arguments.
use Rattle.std.specs.Prelude.{List, [], ◌++◌, ◌≡◌, Option}
use Rattle.dslx_meaning.specs.Rules.CallRules.{ParametricArgument as GivenSeen}
use Rattle.dslx_meaning.specs.Rules.TypeEnvs.{TypeEnv}
use Rattle.dslx_meaning.specs.Rules.Typings.{PatternPair}
use Rattle.dslx_check_rules.specs.declared.table.row.TypeId.{TypeId}
use Rattle.dslx_check_facts.specs.declared.facts.Facts.{Facts}
use Rattle.dslx_check_facts.specs.declared.type_env.TypeEnv.{TypeEnv as CodeEnv}
use Rattle.dslx_check_facts.specs.Walks.{WalkShown}
use Rattle.dslx_check_rules.specs.declared.control.calls.ParametricArgument.{ParametricArgument}
use Rattle.dslx_check_rules.specs.declared.control.matches.AlternativesTyping.{AlternativesTyping}
use Rattle.dslx_check_rules.specs.declared.control.patterns.PatternTyping.{PatternTyping}
use Rattle.dslx_check_rules.specs.Control.Calls.{IsGiven}
use Rattle.dslx_check_leaves.specs.Fits.Typed.{PatternFrom}
use Rattle.dslx_check_leaves.specs.Walked.{JudgedAlternatives, PatternNames, TypesOne, TypesPattern, WalksTo, all_bound, given_reached}

-- a parametric argument that is written
abbrev pub GivenOne : Facts → CodeEnv → CodeEnv → WalkShown → WalkShown → ParametricArgument → (TypeEnv → GivenSeen) → Type 0
GivenOne f before after old new given found = WalksTo f before after old new (TypesOne IsGiven given_reached given found)

-- a pattern of its own, what it binds being in scope behind it
pub record JudgedBinding (f : Facts) (before after : CodeEnv) (old new : WalkShown) (p : PatternTyping) (ty : Option TypeId) (pattern : PatternFrom) : Type 0 where
  pub middle : CodeEnv
  pub names : PatternNames
  pub walked : WalksTo f before middle old new (TypesPattern p old.rows ty [] names pattern)
  pub is : after ≡ record middle { locals = names ++ middle.locals }

-- the same of the alternatives of an arm
pub record BindsAlternatives (f : Facts) (before after : CodeEnv) (old new : WalkShown) (j : AlternativesTyping) (ty : Option TypeId) (patterns : List PatternPair) : Type 0 where
  pub middle : CodeEnv
  pub names : List PatternNames
  pub walked : JudgedAlternatives f before middle old new j ty [] names patterns
  pub is : after ≡ record middle { locals = all_bound names ++ middle.locals }
