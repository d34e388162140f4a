-- A task: a proc that moves, and where it stands in its run.
use Rattle.std.specs.Prelude.{◌≡◌, ◌≢◌, ℕ, ◌<◌, ◌≤◌, ◌⊎◌, Bool, true, false, List, [], ◌++◌, length, Option, Some, None, slice_get, option_map, nat_lt, if◌then◌else◌}
use Rattle.xb_bits.specs.Word.{Word}
use Rattle.xb_value.specs.declared.value.Value.{Value}
use Rattle.xb_value.specs.Typing.{IsOfType}
use Rattle.net_core.specs.declared.outcome.ProcEnd.{ProcEnd}
use Rattle.net_core.specs.Outcomes.{stall_for}
use Rattle.chan_queue.specs.declared.queue.ChanQueue.{ChanQueue}
use Rattle.net_core.specs.declared.net.Site.{Site}
use Rattle.net_core.specs.declared.event.Event.{Event}
use Rattle.net_core.specs.declared.event.Event.TheVariants.{Recv, Send, End}
use Rattle.net_core.specs.Cuts.{Proc, Run}
use Rattle.net_core.specs.Machine.{Position, next_of}
use Rattle.chan_queue.specs.Streams.Moves.{IsTyped, IsStanding, sent_first, received_first}
use Rattle.proc_task.specs.declared.port.Outlet.{Outlet}
use Rattle.proc_task.specs.declared.port.Inlet.{Inlet}
use Rattle.proc_task.specs.declared.task.Task.{Task}
use Rattle.proc_task.specs.Ports.{IsOutlet, IsInlet, IsFull, IsDry, told_out, told_in, AreEnds, HaveMet}

module _ {S : Type 0} where
  -- a site that sends has this outlet, one that receives this inlet
  pub record HasOutlet (sites : List Site) (indices : List ℕ) (outlets : List (Outlet S)) (i : ℕ) (site : Site) : Type 0 where
    pub place : ℕ
    pub outlet : Outlet S
    pub place_is : slice_get indices i ≡ Some place
    pub outlet_is : slice_get outlets place ≡ Some outlet
    pub chan_is : outlet.chan ≡ site.chan

  pub record HasInlet (sites : List Site) (indices : List ℕ) (inlets : List (Inlet S)) (i : ℕ) (site : Site) : Type 0 where
    pub place : ℕ
    pub inlet : Inlet S
    pub place_is : slice_get indices i ≡ Some place
    pub inlet_is : slice_get inlets place ≡ Some inlet
    pub chan_is : inlet.chan ≡ site.chan

  -- the ends of channels of a proc with these sites: one for each end that has a site, with its right
  pub record HasEnds (run : Run) (lines : List (Option (ChanQueue S))) (sites : List Site) (indices : List ℕ) (outlets : List (Outlet S)) (inlets : List (Inlet S)) : Type 0 where
    pub senders : (i : ℕ) (site : Site) → slice_get sites i ≡ Some site → site.sends ≡ true → HasOutlet sites indices outlets i site
    pub receivers : (i : ℕ) (site : Site) → slice_get sites i ≡ Some site → site.sends ≡ false → HasInlet sites indices inlets i site
    pub outlet : (k : ℕ) (outlet : Outlet S) → slice_get outlets k ≡ Some outlet → IsOutlet run lines outlet
    pub inlet : (k : ℕ) (inlet : Inlet S) → slice_get inlets k ≡ Some inlet → IsInlet run lines inlet
    pub one_outlet : (j k : ℕ) (a b : Outlet S) → slice_get outlets j ≡ Some a → slice_get outlets k ≡ Some b → a.chan ≡ b.chan → j ≡ k
    pub one_inlet : (j k : ℕ) (a b : Inlet S) → slice_get inlets j ≡ Some a → slice_get inlets k ≡ Some b → a.chan ≡ b.chan → j ≡ k

  -- the outlet and the inlet with these indices are the ends of one channel
  pub record MeetAt (outlets : List (Outlet S)) (k : ℕ) (inlets : List (Inlet S)) (j : ℕ) : Type 0 where
    pub outlet : Outlet S
    pub inlet : Inlet S
    pub outlet_is : slice_get outlets k ≡ Some outlet
    pub inlet_is : slice_get inlets j ≡ Some inlet
    pub ends : AreEnds outlet inlet

  -- and they have met
  pub record HasMetAt (run : Run) (outlets : List (Outlet S)) (k : ℕ) (inlets : List (Inlet S)) (j : ℕ) : Type 0 where
    pub outlet : Outlet S
    pub inlet : Inlet S
    pub outlet_is : slice_get outlets k ≡ Some outlet
    pub inlet_is : slice_get inlets j ≡ Some inlet
    pub ends : AreEnds outlet inlet
    pub met : HaveMet run outlet inlet

  -- the parts of a task that has made no event
  pub record IsNewTask (run : Run) (lines : List (Option (ChanQueue S))) (number : ℕ) (sites : List Site) (state : Value) (indices : List ℕ) (outlets : List (Outlet S)) (inlets : List (Inlet S)) : Type 0 where
    pub typed : IsTyped run
    pub proc : Proc
    pub proc_is : slice_get run.procs number ≡ Some proc
    pub opening : proc.opening ≡ state
    pub of_type : IsOfType proc.behavior.state state
    pub sites_are : sites ≡ proc.behavior.sites
    pub ports : HasEnds run lines sites indices outlets inlets
    pub no_words : (k : ℕ) (outlet : Outlet S) → slice_get outlets k ≡ Some outlet → outlet.words.items ≡ []
    pub none_received : (k : ℕ) (inlet : Inlet S) → slice_get inlets k ≡ Some inlet → inlet.received ≡ 0

-- the proc has a site on the channel, in this direction
abbrev pub HasSiteOn : Proc → ℕ → Bool → Type 0
HasSiteOn proc c sends = (i : ℕ) × (site : Site) × (slice_get proc.behavior.sites i ≡ Some site) × (site.sends ≡ sends) × (site.chan ≡ c)

-- where a proc stands, with what it waits for
abbrev pub end_at : Run → Proc → Position → ProcEnd
end_at run proc at = record { state = at.state; ends = at.ends; stall = if nat_lt at.ends run.activations then stall_for proc.behavior.sites at.ends (next_of proc.behavior at) else None }

-- an event's site is one of these
abbrev pub IsAtSiteIn : List Site → Event → Type 0
IsAtSiteIn sites (Recv i) = i < length sites
IsAtSiteIn sites (Send i w) = i < length sites
IsAtSiteIn sites (End s) = Unit {0}

module _ {S H : Type 0} where
  -- where the task's proc stands
  abbrev pub position_of : Task S H → Position
  position_of task = record { state = task.state; got = task.got.items; done = task.done; ends = task.ends }

  -- the task stands after the first events of its proc in the final cut: it has sent their words and received as many
  pub record IsTask (run : Run) (lines : List (Option (ChanQueue S))) (task : Task S H) : Type 0 where
    pub typed : IsTyped run
    pub proc : Proc
    pub standing : IsStanding run task.number proc task.count (position_of task)
    pub sites : task.sites.items ≡ proc.behavior.sites
    pub ports : HasEnds run lines task.sites.items task.indices.items task.outlets.items task.inlets.items
    pub words : (k : ℕ) (outlet : Outlet S) → slice_get task.outlets.items k ≡ Some outlet → outlet.words.items ≡ sent_first run task.number proc task.count outlet.chan
    pub received : (k : ℕ) (inlet : Inlet S) → slice_get task.inlets.items k ≡ Some inlet → inlet.received ≡ received_first run task.number proc task.count inlet.chan

  -- this is its next event
  pub record IsBefore (run : Run) (task : Task S H) (event : Event) : Type 0 where
    pub active : task.ends < run.activations
    pub next : (proc : Proc) → slice_get run.procs task.number ≡ Some proc → next_of proc.behavior (position_of task) ≡ event

  -- the event has no word, or no room, as far as the task's passes were told
  abbrev pub IsHeldAt : Run → Task S H → Event → Type 0
  IsHeldAt run task (Recv i) =
      (site : Site) × (k : ℕ) × (inlet : Inlet S) × (slice_get task.sites.items i ≡ Some site) × (slice_get task.inlets.items k ≡ Some inlet) × (inlet.chan ≡ site.chan) × IsDry run inlet
  IsHeldAt run task (Send i w) =
      (site : Site) × (k : ℕ) × (outlet : Outlet S) × (slice_get task.sites.items i ≡ Some site) × (slice_get task.outlets.items k ≡ Some outlet) × (outlet.chan ≡ site.chan) × IsFull outlet
  IsHeldAt run task (End s) = ⊥

  -- the task is done, or its next event waits
  abbrev pub Waits : Run → Task S H → Type 0
  Waits run task = (run.activations ≤ task.ends) ⊎ ((event : Event) × IsBefore run task event × IsHeldAt run task event)

  -- what no event changes: which proc of which run it is, the channels of its ports, and what their passes were told
  pub record IsSameTask (old new : Task S H) : Type 0 where
    pub runtime : new.runtime ≡ old.runtime
    pub number : new.number ≡ old.number
    pub outlets : (k : ℕ) → option_map told_out (slice_get new.outlets.items k) ≡ option_map told_out (slice_get old.outlets.items k)
    pub inlets : (k : ℕ) → option_map told_in (slice_get new.inlets.items k) ≡ option_map told_in (slice_get old.inlets.items k)

  -- the same activation, which may have received more words and be past more sites
  pub record IsFurther (old new : Task S H) : Type 0 where
    pub state : new.state ≡ old.state
    pub more : List Word
    pub got : new.got.items ≡ old.got.items ++ more
    pub done : old.done ≤ new.done

  -- what a meeting changes: what the pass of one outlet, or of one inlet, was told
  pub record IsSameButOutlet (k : ℕ) (old new : Task S H) : Type 0 where
    pub runtime : new.runtime ≡ old.runtime
    pub number : new.number ≡ old.number
    pub count : new.count ≡ old.count
    pub stands : position_of new ≡ position_of old
    pub outlets : (j : ℕ) → j ≢ k → slice_get new.outlets.items j ≡ slice_get old.outlets.items j
    pub inlets : new.inlets.items ≡ old.inlets.items

  pub record IsSameButInlet (k : ℕ) (old new : Task S H) : Type 0 where
    pub runtime : new.runtime ≡ old.runtime
    pub number : new.number ≡ old.number
    pub count : new.count ≡ old.count
    pub stands : position_of new ≡ position_of old
    pub outlets : new.outlets.items ≡ old.outlets.items
    pub inlets : (j : ℕ) → j ≢ k → slice_get new.inlets.items j ≡ slice_get old.inlets.items j

  pub record IsSameButPorts (o i : ℕ) (old new : Task S H) : Type 0 where
    pub runtime : new.runtime ≡ old.runtime
    pub number : new.number ≡ old.number
    pub count : new.count ≡ old.count
    pub stands : position_of new ≡ position_of old
    pub outlets : (j : ℕ) → j ≢ o → slice_get new.outlets.items j ≡ slice_get old.outlets.items j
    pub inlets : (j : ℕ) → j ≢ i → slice_get new.inlets.items j ≡ slice_get old.inlets.items j
