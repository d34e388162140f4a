-- The procs of a run by their heads, and the rights to the ends of channels that no proc has taken yet.
use Rattle.std.specs.Prelude.{◌≡◌, ◌≢◌, ◌<◌, ◌≤◌, ◌^◌, ℕ, List, length, Option, Some, slice_get}
use Rattle.chan_queue.specs.declared.pass.SendPass.{SendPass}
use Rattle.chan_queue.specs.declared.pass.RecvPass.{RecvPass}
use Rattle.chan_queue.specs.declared.queue.ChanQueue.{ChanQueue}
use Rattle.xb_value.specs.Typing.{IsOfType}
use Rattle.net_core.specs.declared.net.Chan.{Chan}
use Rattle.net_core.specs.declared.net.ProcHead.{ProcHead}
use Rattle.net_core.specs.declared.net.Kind.TheVariants.{Input, Output}
use Rattle.net_core.specs.Cuts.{Proc, Run, sender, receiver}
use Rattle.task_queue.specs.Tasks.{sum_below}
use Rattle.task_queue.specs.Passes.{AreTasks, sum_numbers}
use Rattle.proc_task.specs.declared.task.Task.{Task}
use Rattle.proc_task.specs.Moving.{IsTask}
use Rattle.proc_runner.specs.Inner.Opened.{HasSend, HasRecv}

-- this is the head of proc p
pub record IsHead (run : Run) (p : ℕ) (head : ProcHead) : Type 0 where
  pub small : p < 2 ^ 32
  pub proc : Proc
  pub proc_is : slice_get run.procs p ≡ Some proc
  pub opening : proc.opening ≡ head.init
  pub of_type : IsOfType proc.behavior.state head.init
  pub sites : head.sites ≡ proc.behavior.sites

abbrev pub AreHeads : Run → List ProcHead → Type 0
AreHeads run heads = (p : ℕ) (head : ProcHead) → slice_get heads p ≡ Some head → IsHead run p head

module _ {S : Type 0} where
  -- the rights of the procs from p on stand at their channels' indices, and the procs at the ends of channels are these
  pub record AreLeft (run : Run) (queues : List (Option (ChanQueue S))) (p : ℕ) (senders receivers : List ℕ) (sends : List (Option (SendPass S))) (recvs : List (Option (RecvPass S))) : Type 0 where
    pub few : length run.chans < 2 ^ 32
    pub senders_count : length senders ≡ length run.chans
    pub receivers_count : length receivers ≡ length run.chans
    pub sends_count : length sends ≡ length run.chans
    pub recvs_count : length recvs ≡ length run.chans
    pub senders_are : (c : ℕ) → c < length run.chans → slice_get senders c ≡ Some (sender run c)
    pub receivers_are : (c : ℕ) → c < length run.chans → slice_get receivers c ≡ Some (receiver run c)
    pub send : (c : ℕ) (chan : Chan) → slice_get run.chans c ≡ Some chan → chan.kind ≢ Input → p ≤ sender run c → HasSend run queues sends c chan
    pub recv : (c : ℕ) (chan : Chan) → slice_get run.chans c ≡ Some chan → chan.kind ≢ Output → p ≤ receiver run c → HasRecv run queues recvs c chan

module _ {S H : Type 0} (run : H → Run) (lines : H → List (Option (ChanQueue S))) where
  -- these are the tasks of so many procs of a run, each once, whatever is added up over their numbers
  pub record AreRunTasks (runtime : H) (count : ℕ) (tasks : List (Task S H)) : Type 0 where
    pub each : AreTasks (λ (task : Task S H). task.runtime) (λ task. IsTask (run task.runtime) (lines task.runtime) task) (Some runtime) tasks
    pub all : (h : ℕ → ℕ) → sum_numbers (λ (task : Task S H). task.number) h tasks ≡ sum_below h count
