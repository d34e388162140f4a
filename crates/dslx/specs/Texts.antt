-- What a text of DSLX gives: the tree that is read and that nothing refuses, or why it is refused.
--
-- The causes come in this order: the first character that begins no token; the first token with which no text goes on,
-- or one before it that is nested too deep; the fault of the tree that is named; the limit that its network passes.
use Rattle.std.specs.Prelude.{◌≡◌, ℕ, List, length, Option, Some, None, Result, Ok, Err}
use Rattle.xb_span.specs.Fault.{error_of}
use Rattle.xb_span.specs.declared.fault.Fault.{Fault}
use Rattle.xb_span.specs.declared.read_error.ReadError.{ReadError}
use Rattle.xb_span.specs.declared.read_error.ReadError.TheVariants.{OutOfMemory}
use Rattle.dslx_tree.specs.declared.item.Module.{Module}
use Rattle.dslx_parser.specs.Reads.{TextGives}
use Rattle.dslx_meaning.specs.Network.{network_of}
use Rattle.dslx_meaning.specs.Rules.NetworkLimits.{refusal_of}
use Rattle.dslx_core.specs.declared.design.Design.{Design}
use Rattle.dslx_elab.specs.Runs.{IsAcceptedText, IsMadeOfChecked}
use Rattle.dslx.specs.declared.count.size.NetworkSize.{NetworkSize}

abbrev pub unless_refused : Module → Option Fault → Result Module ReadError
unless_refused m None = Ok m
unless_refused m (Some fault) = Err (error_of fault)

-- What a text gives where its top is the proc of this name, or the last one.
pub data GivesTree (text : List ℕ) (top : Option (List ℕ)) : Result Module ReadError → Type 0 where
  judged : (m : Module) → TextGives text (Ok m) → GivesTree text top (unless_refused m (refusal_of m top))
  unread : (error : ReadError) → TextGives text (Err error) → GivesTree text top (Err error)

-- why a text is refused, or that memory was wanting
abbrev pub RefusesText : List ℕ → Option (List ℕ) → ReadError → Type 0
RefusesText text top OutOfMemory = Unit {0}
RefusesText text top error = GivesTree text top (Err error)

-- so many procs and channels as the network of a tree has
pub record IsNetworkSize (m : Module) (top : Option (List ℕ)) (size : NetworkSize) : Type 0 where
  pub procs : size.procs ≡ length (network_of m top).procs
  pub channels : size.channels ≡ length (network_of m top).chans

-- so many as that of the tree that a text gives
pub record HasNetworkSize (text : List ℕ) (top : Option (List ℕ)) (size : NetworkSize) : Type 0 where
  pub tree : Module
  pub given : GivesTree text top (Ok tree)
  pub is : IsNetworkSize tree top size

-- the checked text of the tree that a text gives, by which it is run
pub record HasCheckedText (text : List ℕ) (top : Option (List ℕ)) (design : Design) : Type 0 where
  pub tree : Module
  pub given : GivesTree text top (Ok tree)
  pub accepted : IsAcceptedText tree top
  pub is : IsMadeOfChecked tree top design
