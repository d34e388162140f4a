-- Which checked text stands for a text: it has the same network, and from each state of its type and over all words its procs do
-- the same.
use Rattle.std.specs.Prelude.{◌≡◌, ℕ, List, [], ◌∷◌, Option}
use Rattle.xb_bits.specs.Word.{Word}
use Rattle.xb_value.specs.declared.value.Value.{Value}
use Rattle.xb_value.specs.Typing.{IsOfType}
use Rattle.net_core.specs.Behavior.{Behavior}
use Rattle.dslx_tree.specs.declared.item.Module.{Module}
use Rattle.dslx_meaning.specs.Network.{network_of, behaviors_of}
use Rattle.dslx_core.specs.declared.design.Design.{Design}
use Rattle.dslx_core.specs.Designs.{core_network, core_behaviors}

-- two procs that do the same from each state of their type
pub record BehavesAlike (a b : Behavior) : Type 0 where
  pub state : a.state ≡ b.state
  pub sites : a.sites ≡ b.sites
  pub width : a.width ≡ b.width
  pub turn : (s : Value) → IsOfType a.state s → (words : List Word) (i : ℕ) → a.turn s words i ≡ b.turn s words i
  pub next_state : (s : Value) → IsOfType a.state s → (words : List Word) → a.next_state s words ≡ b.next_state s words

abbrev pub EachBehavesAlike : List Behavior → List Behavior → Type 0
EachBehavesAlike [] [] = Unit {0}
EachBehavesAlike (a ∷ as') (b ∷ bs) = BehavesAlike a b × EachBehavesAlike as' bs
EachBehavesAlike [] (b ∷ bs) = ⊥
EachBehavesAlike (a ∷ as') [] = ⊥

pub record CoreOf (m : Module) (top : Option (List ℕ)) (design : Design) : Type 0 where
  pub network : core_network design ≡ network_of m top
  pub behaviors : EachBehavesAlike (core_behaviors design) (behaviors_of m top)
