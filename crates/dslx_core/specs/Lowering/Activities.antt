-- What it means that steps stand for the statements of `next`.
use Rattle.std.specs.Prelude.{◌≡◌, ℕ, List, [], ◌∷◌, true, Some, slice_get}
use Rattle.xb_bits.specs.Word.{Word}
use Rattle.xb_value.specs.declared.value.Value.{Value}
use Rattle.xb_value.specs.Typing.{IsOfType}
use Rattle.net_core.specs.Behavior.{Turn}
use Rattle.dslx_tree.specs.declared.process.Proc.{Proc}
use Rattle.dslx_meaning.specs.Types.{plain_type}
use Rattle.dslx_meaning.specs.Values.{plain_value}
use Rattle.dslx_meaning.specs.Activation.{Activity, activation_of}
use Rattle.dslx_meaning.specs.declared.ty.DslxType.{DslxType}
use Rattle.dslx_meaning.specs.declared.value.DslxValue.{DslxValue}
use Rattle.dslx_core.specs.Typing.Typed.Kinds.{is_of}
use Rattle.dslx_core.specs.CoreValues.{Functions}
use Rattle.dslx_core.specs.Designs.{CoreActivity, do_steps}
use Rattle.dslx_core.specs.Lowering.CoreScopes.{BodyEnv}
use Rattle.dslx_core.specs.Lowering.Steps.{LoweredNext}

-- what the text's activity does at a site, the other one does, too; and where it ends with a value, of this type, the other one
-- has done just that, and ends with it
pub record DoesTheSame (t : DslxType) (a : Activity) (c : CoreActivity) : Type 0 where
  pub turns : (i : ℕ) (turn : Turn) → slice_get a.turns i ≡ Some turn → slice_get c.turns i ≡ Some turn
  pub last : (v : DslxValue) → a.last ≡ Some v → (is_of t v ≡ true) × (c.turns ≡ a.turns) × (c.last ≡ Some (plain_value v))

-- an activation of a proc from each state of its type, over each list of words
abbrev pub NextSimulates : BodyEnv → Functions → Proc → List DslxValue → LoweredNext → Type 0
NextSimulates known calls p parametric_args l = (state : Value) (words : List Word) → IsOfType (plain_type l.state) state
    → DoesTheSame l.state (activation_of known.items p parametric_args state words) (do_steps calls l.steps l.next (state ∷ []) words)
