-- Which networks, bodies, inputs and depths belong together.
use Rattle.std.specs.Prelude.{◌≡◌, ◌≢◌, ℕ, ◌<◌, ◌≤◌, ◌^◌, true, false, List, [], ◌∷◌, length, get_or, slice_get, Some}
use Rattle.xb_bits.specs.Word.{Word}
use Rattle.xb_value.specs.Typing.{IsOfType}
use Rattle.xb_value.specs.Width.{width_of, HasWidths}
use Rattle.net_core.specs.declared.net.Net.{Net}
use Rattle.net_core.specs.declared.net.ProcHead.{ProcHead}
use Rattle.net_core.specs.declared.net.Chan.{Chan}
use Rattle.net_core.specs.declared.net.Site.{Site}
use Rattle.net_core.specs.declared.net.Kind.TheVariants.{Input, Output}
use Rattle.net_core.specs.declared.outcome.Outcome.{Outcome}
use Rattle.net_core.specs.declared.outcome.Stream.{Stream}
use Rattle.net_core.specs.declared.outcome.ProcEnd.{ProcEnd}
use Rattle.net_core.specs.declared.outcome.Stall.{Stall}
use Rattle.net_core.specs.Behavior.{Behavior, KeepsTypes, IsWordOf}
use Rattle.net_core.specs.Cuts.{Proc, Run, sender, receiver}

-- the site with index i of proc p
pub record IsSiteOf (net : Net) (p i : ℕ) (site : Site) : Type 0 where
  pub head : ProcHead
  pub proc : slice_get net.procs p ≡ Some head
  pub place : slice_get head.sites i ≡ Some site

-- a network whose parts fit
pub record IsNet (net : Net) : Type 0 where
  pub few_procs : length net.procs < 2 ^ 32
  pub few_chans : length net.chans < 2 ^ 32
  pub few_sites : (p : ℕ) (head : ProcHead) → slice_get net.procs p ≡ Some head → length head.sites < 2 ^ 30
  -- each proc opens with a state of its type
  pub opening : (p : ℕ) (head : ProcHead) → slice_get net.procs p ≡ Some head → IsOfType head.state head.init
  -- the bits in its types are 1 to 128 wide
  pub state_widths : (p : ℕ) (head : ProcHead) → slice_get net.procs p ≡ Some head → HasWidths head.state
  pub chan_widths : (c : ℕ) (chan : Chan) → slice_get net.chans c ≡ Some chan → HasWidths chan.ty
  -- a site's channel is there, and no proc sends on an input or receives from an output
  pub site : (p i : ℕ) (site : Site) → IsSiteOf net p i site → site.chan < length net.chans
  pub no_send : (p i : ℕ) (site : Site) (chan : Chan) → IsSiteOf net p i site → site.sends ≡ true → slice_get net.chans site.chan ≡ Some chan → chan.kind ≢ Input
  pub no_receive : (p i : ℕ) (site : Site) (chan : Chan) → IsSiteOf net p i site → site.sends ≡ false → slice_get net.chans site.chan ≡ Some chan → chan.kind ≢ Output
  -- all sites of one end of a channel stand in one proc
  pub one_proc : (p q i j : ℕ) (a b : Site) → IsSiteOf net p i a → IsSiteOf net q j b → a.chan ≡ b.chan → a.sends ≡ b.sends → p ≡ q
  -- a channel's words are 1 to 128 bits wide, and channels have names of their own
  pub some_width : (c : ℕ) (chan : Chan) → slice_get net.chans c ≡ Some chan → 1 ≤ width_of chan.ty
  pub most_width : (c : ℕ) (chan : Chan) → slice_get net.chans c ≡ Some chan → width_of chan.ty ≤ 128
  pub own_names : (c d : ℕ) (a b : Chan) → slice_get net.chans c ≡ Some a → slice_get net.chans d ≡ Some b → a.name ≡ b.name → c ≡ d

-- words of this width
abbrev pub AreWordsOf : ℕ → List Word → Type 0
AreWordsOf width words = (k : ℕ) (w : Word) → slice_get words k ≡ Some w → IsWordOf width w

-- words for each input, and none for the other channels
pub record IsInputs (net : Net) (inputs : List (List Word)) : Type 0 where
  pub count : length inputs ≡ length net.chans
  pub words : (c : ℕ) (chan : Chan) → slice_get net.chans c ≡ Some chan → AreWordsOf (width_of chan.ty) (get_or inputs c [])
  pub only : (c : ℕ) (chan : Chan) → slice_get net.chans c ≡ Some chan → chan.kind ≢ Input → get_or inputs c [] ≡ []

-- a depth of 1 or more for each channel, of which those of inner channels count
pub record IsDepths (net : Net) (depths : List ℕ) : Type 0 where
  pub count : length depths ≡ length net.chans
  pub some : (c : ℕ) → c < length depths → 1 ≤ get_or depths c 0

-- a stream for each channel, with words of its width, and an end for each proc, with a state of its type and a stall at
-- a channel that is there
pub record IsOutcome (net : Net) (outcome : Outcome) : Type 0 where
  pub streams : length outcome.streams ≡ length net.chans
  pub words : (c : ℕ) (chan : Chan) (stream : Stream) → slice_get net.chans c ≡ Some chan → slice_get outcome.streams c ≡ Some stream → AreWordsOf (width_of chan.ty) stream.words
  pub procs : length outcome.procs ≡ length net.procs
  pub states : (p : ℕ) (head : ProcHead) (stand : ProcEnd) → slice_get net.procs p ≡ Some head → slice_get outcome.procs p ≡ Some stand → IsOfType head.state stand.state
  pub stalls : (p : ℕ) (stand : ProcEnd) (stall : Stall) → slice_get outcome.procs p ≡ Some stand → stand.stall ≡ Some stall → stall.chan < length net.chans

-- this is what the proc of a head does in a network
pub record IsBehaviorFor (net : Net) (head : ProcHead) (b : Behavior) : Type 0 where
  pub state : b.state ≡ head.state
  pub sites : b.sites ≡ head.sites
  pub widths : (i : ℕ) (site : Site) (chan : Chan) → slice_get head.sites i ≡ Some site → slice_get net.chans site.chan ≡ Some chan → b.width site.chan ≡ width_of chan.ty

-- what each proc of a network does, in order
pub record AreBehaviorsOf (net : Net) (behaviors : List Behavior) : Type 0 where
  pub count : length behaviors ≡ length net.procs
  pub each : (p : ℕ) (head : ProcHead) (b : Behavior) → slice_get net.procs p ≡ Some head → slice_get behaviors p ≡ Some b → IsBehaviorFor net head b

-- each keeps its types
abbrev pub EachKeepsTypes : List Behavior → Type 0
EachKeepsTypes behaviors = (p : ℕ) (b : Behavior) → slice_get behaviors p ≡ Some b → KeepsTypes b

-- procs with their opening states
abbrev pub procs_of : List ProcHead → List Behavior → List Proc
procs_of [] bs = []
procs_of (head ∷ heads) [] = []
procs_of (head ∷ heads) (b ∷ bs) = record { opening = head.init; behavior = b } ∷ procs_of heads bs

-- the run of a network
abbrev pub run_of : Net → List Behavior → List (List Word) → ℕ → List ℕ → Run
run_of net behaviors inputs n depths =
    record { procs = procs_of net.procs behaviors; chans = net.chans; inputs = inputs; activations = n; depths = depths }

-- the site with index i of proc p, whose channel is this one
pub record IsSiteIn (run : Run) (p : ℕ) (proc : Proc) (i : ℕ) (site : Site) : Type 0 where
  pub proc_is : slice_get run.procs p ≡ Some proc
  pub place : slice_get proc.behavior.sites i ≡ Some site

-- a site's channel is there, it has the width that the proc takes it to have, and this proc is the one at that end
pub record SiteFits (run : Run) (p : ℕ) (b : Behavior) (site : Site) : Type 0 where
  pub chan : Chan
  pub chan_is : slice_get run.chans site.chan ≡ Some chan
  pub width : b.width site.chan ≡ width_of chan.ty
  pub sends : site.sends ≡ true → sender run site.chan ≡ p
  pub no_send : site.sends ≡ true → chan.kind ≢ Input
  pub receives : site.sends ≡ false → receiver run site.chan ≡ p
  pub no_receive : site.sends ≡ false → chan.kind ≢ Output

-- a run whose parts fit
pub record IsRun (run : Run) : Type 0 where
  pub activations : run.activations < 2 ^ 32
  pub few_procs : length run.procs < 2 ^ 32
  pub few_sites : (p : ℕ) (proc : Proc) → slice_get run.procs p ≡ Some proc → length proc.behavior.sites < 2 ^ 30
  pub keeps_types : (p : ℕ) (proc : Proc) → slice_get run.procs p ≡ Some proc → KeepsTypes proc.behavior
  pub sites : (p i : ℕ) (proc : Proc) (site : Site) → IsSiteIn run p proc i site → SiteFits run p proc.behavior site
