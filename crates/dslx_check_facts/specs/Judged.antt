-- What a function of a walk promises of what it comes to: it is the typing of the part by the definitions, at every global environment
-- that says what is known, wherever the walk goes on to, if it asked for nothing that isn't known.
use Rattle.std.specs.Prelude.{List, [], ◌≡◌}
use Rattle.dslx_meaning.specs.Rules.TypeEnvs.{GlobalEnv, TypeEnv, Judgement}
use Rattle.dslx_check_rules.specs.declared.typing.Typing.{Typing}
use Rattle.dslx_check_facts.specs.declared.facts.Facts.{Facts}
use Rattle.dslx_check_facts.specs.declared.type_env.TypeEnv.{TypeEnv as CodeEnv}
use Rattle.dslx_check_facts.specs.Known.{FactsHold, HasKnownRows, item_names}
use Rattle.dslx_check_facts.specs.TypeEnvs.{HasBoundRows, env_of}
use Rattle.dslx_check_facts.specs.Typings.{IsTyping}
use Rattle.dslx_check_facts.specs.Walks.{WalkShown, HasTables}

-- each type that is known or bound has a row in the walk's table
pub record HasRows (f : Facts) (s : CodeEnv) (walk : WalkShown) : Type 0 where
  pub known : HasKnownRows walk.rows f
  pub bound : HasBoundRows (item_names f) walk.rows s

-- a claim on a walk from one state to another: it is so at every global environment that says what is known and for every walk that has
-- its tables, if nothing was asked for in vain
abbrev pub Comes : Facts → CodeEnv → WalkShown → WalkShown → (GlobalEnv → WalkShown → Type 0) → Type 0
Comes f s old new claim = (known : GlobalEnv) (later : WalkShown) → HasTables new later → FactsHold f later known → HasRows f s old → new.missing ≡ [] → claim known later

-- the code's type environment, by the definitions
abbrev pub environment : Facts → CodeEnv → GlobalEnv → WalkShown → TypeEnv
environment f s known later = env_of (item_names f) later.rows known s

-- the walk comes to the typing that the part has in this type environment
abbrev pub ComesToTyping : Facts → CodeEnv → WalkShown → WalkShown → Typing → (TypeEnv → Judgement) → Type 0
ComesToTyping f s old new typing judgement = Comes f s old new (λ known later. IsTyping (item_names f) old new later typing (judgement (environment f s known later)))
