-- Things named by number, of which each needs others; what it is for an order to respect that.
use Rattle.std.specs.Prelude.{◌≡◌, ℕ, ◌<◌, ◌⊎◌, List, [], length, slice_get, Some, unwrap_or}

-- what thing i needs
abbrev pub needs_of : List (List ℕ) → ℕ → List ℕ
needs_of needs i = unwrap_or (slice_get needs i) []

-- thing i needs thing j
abbrev pub Needs : List (List ℕ) → ℕ → ℕ → Type 0
Needs needs i j = (k : ℕ) × (slice_get (needs_of needs i) k ≡ Some j)

-- thing i needs thing j, itself or by way of others
pub data Reaches (needs : List (List ℕ)) : ℕ → ℕ → Type 0 where
  itself : (i j : ℕ) → Needs needs i j → Reaches needs i j
  by_way : (i j k : ℕ) → Needs needs i j → Reaches needs j k → Reaches needs i k

-- they are one thing, or each needs the other, itself or by way of others
abbrev pub AreMutual : List (List ℕ) → ℕ → ℕ → Type 0
AreMutual needs i j = (i ≡ j) ⊎ (Reaches needs i j × Reaches needs j i)

-- each thing has a group, which is one of the things in it: mutual things have one group, and no others
pub record AreGroups (needs : List (List ℕ)) (groups : List ℕ) : Type 0 where
  pub size : length groups ≡ length needs
  pub one : (i j g h : ℕ) → slice_get groups i ≡ Some g → slice_get groups j ≡ Some h → AreMutual needs i j → g ≡ h
  pub only : (i j g : ℕ) → slice_get groups i ≡ Some g → slice_get groups j ≡ Some g → AreMutual needs i j
  pub inside : (i g : ℕ) → slice_get groups i ≡ Some g → AreMutual needs i g

-- what is needed is among the things
abbrev pub AreClosed : List (List ℕ) → Type 0
AreClosed needs = (i j : ℕ) → Needs needs i j → j < length needs

-- each thing stands in the order once, behind all that it needs
pub record IsOrderOf (needs : List (List ℕ)) (order : List ℕ) : Type 0 where
  pub all : (i : ℕ) → i < length needs → (p : ℕ) × (slice_get order p ≡ Some i)
  pub within : (p i : ℕ) → slice_get order p ≡ Some i → i < length needs
  pub once : (p q i : ℕ) → slice_get order p ≡ Some i → slice_get order q ≡ Some i → p ≡ q
  pub behind : (p i j : ℕ) → slice_get order p ≡ Some i → Needs needs i j → (q : ℕ) × (q < p) × (slice_get order q ≡ Some j)
