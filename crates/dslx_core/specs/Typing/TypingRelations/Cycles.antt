-- Mentions that rule 3 lets pass.
use Rattle.std.specs.Prelude.{◌≡◌, ℕ, List, [], ◌∷◌, Bool, true, false, None}
use Rattle.dslx_meaning.specs.Environment.{given_in}
use Rattle.dslx_meaning.specs.Lists.{is_in}
use Rattle.dslx_meaning.specs.Rules.TypeEnvs.{TypeEnv, typed_in}
use Rattle.dslx_meaning.specs.Rules.Mentions.{Use, AsPattern, Mention}

-- each of these mentions passes the test, as it is used
abbrev pub AllUsed : (Use → List ℕ → Bool) → List Mention → Type 0
AllUsed Q [] = Unit {0}
AllUsed Q (m ∷ ms) = (Q m.use_as m.name ≡ true) × AllUsed Q ms

-- nothing that is bound around a part has this name
pub record IsUnbound (context : TypeEnv) (name : List ℕ) : Type 0 where
  pub in_locals : typed_in name context.locals ≡ None
  pub in_ends : is_in name context.ends ≡ false
  pub in_given : given_in name context.parametric_args ≡ None
  pub in_unknown : is_in name context.unknown ≡ false

-- a name in a pattern that is no constant's binds, and passes the test
abbrev pub BindersPass : (Use → List ℕ → Bool) → TypeEnv → Type 0
BindersPass Q context = (name : List ℕ) → context.known.items.is_constant name ≡ false → Q AsPattern name ≡ true

-- a part stands behind these names alone, and the test is passed by each item, however it is used, that doesn't reach the item in
-- whose text the part stands
pub record IsBehindNames (Q : Use → List ℕ → Bool) (bound : List (List ℕ)) (context : TypeEnv) : Type 0 where
  pub free : (u : Use) (name : List ℕ) → context.known.is_cyclic context.owner name ≡ false → Q u name ≡ true
  pub binders : BindersPass Q context
  pub unbound : (name : List ℕ) → is_in name bound ≡ false → IsUnbound context name
