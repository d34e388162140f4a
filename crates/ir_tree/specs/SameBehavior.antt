-- Networks and packages that mean the same: the same network, in which each proc does the same in every activation.
use Rattle.std.specs.Prelude.{◌≡◌, ℕ, ◌<◌, List, length, slice_get, Some}
use Rattle.xb_bits.specs.Word.{Word}
use Rattle.xb_value.specs.declared.value.Value.{Value}
use Rattle.net_core.specs.declared.net.Site.{Site}
use Rattle.net_core.specs.declared.net.Net.{Net}
use Rattle.net_core.specs.Behavior.{Behavior, IsOpen}
use Rattle.ir_tree.specs.declared.package.Package.{Package}
use Rattle.ir_tree.specs.Networks.{network_of, behaviors_of}

-- the two do the same at each site, and end with the same state, from every state of the type and for all words that can be
-- received up to there
pub record SameActivations (a b : Behavior) : Type 0 where
  pub state : a.state ≡ b.state
  pub sites : a.sites ≡ b.sites
  pub width : (i : ℕ) (site : Site) → slice_get a.sites i ≡ Some site → a.width site.chan ≡ b.width site.chan
  pub turn : (s : Value) (got : List Word) (i : ℕ) → IsOpen a s got i → i < length a.sites → a.turn s got i ≡ b.turn s got i
  pub next_state : (s : Value) (got : List Word) → IsOpen a s got (length a.sites) → a.next_state s got ≡ b.next_state s got

-- as many, and each does the same as its counterpart
pub record SameActivationsEach (xs ys : List Behavior) : Type 0 where
  pub count : length xs ≡ length ys
  pub each : (p : ℕ) (a b : Behavior) → slice_get xs p ≡ Some a → slice_get ys p ≡ Some b → SameActivations a b

-- a network whose procs do this means the same as a package
pub record IsDenotedBy (net : Net) (behaviors : List Behavior) (ir : Package) : Type 0 where
  pub network : net ≡ network_of ir
  pub activations : SameActivationsEach behaviors (behaviors_of ir)

-- two packages mean the same
abbrev pub SameBehavior : Package → Package → Type 0
SameBehavior p q = IsDenotedBy (network_of p) (behaviors_of p) q
