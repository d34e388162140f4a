-- What is bound in an environment, as constants there see it.
use Rattle.std.specs.Prelude.{◌≡◌, ℕ, List, map, true, false}
use Rattle.dslx_meaning.specs.Lists.{is_in}
use Rattle.dslx_meaning.specs.Environment.{Given, Env, given_in}
use Rattle.dslx_meaning.specs.Rules.TypeEnvs.{TypeEnv, Typed}

abbrev pub local_names : TypeEnv → List (List ℕ)
local_names context = map (λ (l : Typed). l.name) context.locals

-- a name that is no local stands for the parametric of that name, if there is one, and no local has the name of a
-- constant, which rule 2 refuses
pub record IsInTypeEnv (context : TypeEnv) (bound : List Given) : Type 0 where
  pub others : (name : List ℕ) → is_in name (local_names context) ≡ false → given_in name bound ≡ given_in name context.parametric_args
  pub hides : (name : List ℕ) → context.known.items.is_constant name ≡ true → is_in name (local_names context) ≡ false

-- the environment itself, where items denote what the global environment has of them
abbrev pub env_there : TypeEnv → List Given → Env
env_there context bound = record { items = context.known.items; bound = bound }
