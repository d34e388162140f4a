-- What a configuration of the machine shows: a cut of its run.
use Rattle.std.specs.Prelude.{List, ◌≡◌, ◌≤◌, ◌-◌, ◌*◌, ℕ, suc, length, get_or, slice_get, option_map, sum_by, Some}
use Rattle.xb_value.specs.Width.{width_of}
use Rattle.net_core.specs.declared.net.Chan.{Chan}
use Rattle.net_core.specs.declared.config.Config.{Config}
use Rattle.net_core.specs.declared.progress.Progress.{Progress}
use Rattle.net_core.specs.declared.channel.Channel.{Channel}
use Rattle.net_core.specs.Behavior.{Behavior, IsOpen}
use Rattle.net_core.specs.Cuts.{Proc, Run, Cut, IsWithin, words_at, received_at, round, final_cut}
use Rattle.net_core.specs.Machine.{Position, position_in}
use Rattle.net_core.specs.Outcomes.{behaviors_of}
use Rattle.net_core.specs.WellFormed.{IsRun, AreWordsOf}

-- where a proc stands in a cut, as the machine keeps it
abbrev pub progress_at : Proc → Position → Progress
progress_at proc at = record { sites = proc.behavior.sites; state = at.state; got = at.got; done = at.done; ends = at.ends }

abbrev pub progress_of : Run → Cut → ℕ → Proc → Progress
progress_of run cut p proc = progress_at proc (position_in run cut p proc)

-- a channel in a cut
abbrev pub channel_of : Run → Cut → ℕ → Chan → Channel
channel_of run cut c chan = record { kind = chan.kind; depth = get_or run.depths c 0; words = words_at run cut c; received = received_at run cut c }

-- the configuration is that of this cut of the run, and the cut can come about
pub record Shows (run : Run) (cut : Cut) (config : Config) : Type 0 where
  pub run_fits : IsRun run
  pub activations : config.activations ≡ run.activations
  pub procs : (p : ℕ) → slice_get config.procs.items p ≡ option_map (progress_of run cut p) (slice_get run.procs p)
  pub channels : (c : ℕ) → slice_get config.channels.items c ≡ option_map (channel_of run cut c) (slice_get run.chans c)
  -- no proc is further than it can come by itself, nor than the final cut
  pub consistent : IsWithin cut (round run cut)
  pub below : IsWithin cut (final_cut run)
  -- each proc stands where an activation can, and each channel's words have its width
  pub stands : (p : ℕ) (proc : Proc) → slice_get run.procs p ≡ Some proc → let at = position_in run cut p proc in IsOpen proc.behavior at.state at.got at.done
  pub received : (c : ℕ) → received_at run cut c ≤ length (words_at run cut c)
  pub words : (c : ℕ) (chan : Chan) → slice_get run.chans c ≡ Some chan → AreWordsOf (width_of chan.ty) (words_at run cut c)

-- the behavior is that of proc p
abbrev pub IsBehaviorOf : Run → ℕ → Behavior → Type 0
IsBehaviorOf run p b = (proc : Proc) × (slice_get run.procs p ≡ Some proc) × (proc.behavior ≡ b)

-- the configuration is one of a run in which proc p has this behavior
abbrev pub IsAskedWith : Config → ℕ → Behavior → Type 0
IsAskedWith config p b = (run : Run) × (cut : Cut) × Shows run cut config × IsBehaviorOf run p b

-- what holds of each run and cut that the configuration shows, in which proc p has this behavior
abbrev pub WhereAsked : Config → ℕ → Behavior → (Run → Cut → Type 0) → Type 0
WhereAsked config p b claim = (run : Run) (cut : Cut) → Shows run cut config → IsBehaviorOf run p b → claim run cut

-- the configuration is one of a run in which the procs have these behaviors
abbrev pub IsRunWith : Config → List Behavior → Type 0
IsRunWith config behaviors = (run : Run) × (cut : Cut) × Shows run cut config × (behaviors_of run ≡ behaviors)

-- what holds of each run and cut that the configuration shows, in which the procs have these behaviors
abbrev pub WhereRun : Config → List Behavior → (Run → Cut → Type 0) → Type 0
WhereRun config behaviors claim = (run : Run) (cut : Cut) → Shows run cut config → behaviors_of run ≡ behaviors → claim run cut

-- nothing that a configuration shows has changed
pub record IsUnchanged (old new : Config) : Type 0 where
  pub activations : new.activations ≡ old.activations
  pub procs : new.procs.items ≡ old.procs.items
  pub channels : new.channels.items ≡ old.channels.items

-- how many events a proc may still make, at most
abbrev pub progress_left : ℕ → Progress → ℕ
progress_left n progress = (n - progress.ends) * suc (length progress.sites) - progress.done

-- how many events may still be made, at most
unfoldable pub events_left : Config → ℕ
events_left config = sum_by (progress_left config.activations) config.procs.items
