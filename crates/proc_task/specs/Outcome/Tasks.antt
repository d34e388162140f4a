-- How far the tasks of a run have come.
use Rattle.std.specs.Prelude.{◌≡◌, ◌<◌, ◌^◌, ℕ, List, [], ◌∷◌, length, map, Option, Some, None, slice_get, sum_by, if◌then◌else◌, ◌==◌}
use Rattle.chan_queue.specs.declared.queue.ChanQueue.{ChanQueue}
use Rattle.net_core.specs.declared.net.Net.{Net}
use Rattle.net_core.specs.declared.net.ProcHead.{ProcHead}
use Rattle.net_core.specs.declared.event.Event.{Event}
use Rattle.net_core.specs.Cuts.{Proc, Run, Cut}
use Rattle.chan_queue.specs.Streams.Moves.{IsTyped, first_events}
use Rattle.task_queue.specs.Tasks.{sum_below}
use Rattle.proc_task.specs.declared.task.Task.{Task}
use Rattle.proc_task.specs.Moving.{IsTask}

module _ {S H : Type 0} where
  -- the task of this number, the first one
  abbrev pub task_in : ℕ → List (Task S H) → Option (Task S H)
  task_in p [] = None
  task_in p (task ∷ tasks) = if task.number == p then Some task else task_in p tasks

  -- the events that a task has made
  abbrev pub events_by : Run → ℕ → Option (Task S H) → List Event
  events_by run p None = []
  events_by run p (Some task) = first_events run p task.count

  -- the cut to which the tasks have come
  abbrev pub cut_by : Run → List (Task S H) → Cut
  cut_by run tasks p = events_by run p (task_in p tasks)

  -- the tasks of a run: one for each proc, whatever is added up over their numbers
  pub record AreTasksOf (run : H → Run) (lines : H → List (Option (ChanQueue S))) (runtime : H) (tasks : List (Task S H)) : Type 0 where
    pub typed : IsTyped (run runtime)
    pub each : (k : ℕ) (task : Task S H) → slice_get tasks k ≡ Some task → (task.runtime ≡ runtime) × IsTask (run task.runtime) (lines task.runtime) task
    pub all : (h : ℕ → ℕ) → sum_by (λ (task : Task S H). h task.number) tasks ≡ sum_below h (length (run runtime).procs)

-- the run is one of this network
pub record IsRunOf (net : Net) (run : Run) : Type 0 where
  pub few : length net.chans < 2 ^ 32
  pub chans : run.chans ≡ net.chans
  pub sites : map (λ (proc : Proc). proc.behavior.sites) run.procs ≡ map (λ (head : ProcHead). head.sites) net.procs
