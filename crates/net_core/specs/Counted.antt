-- What can be known of a cut by counts alone, where each proc received words of the final streams.
use Rattle.std.specs.Prelude.{◌≡◌, ◌<◌, ◌≤◌, ℕ, true, length, slice_get, Some}
use Rattle.net_core.specs.declared.net.Chan.{Chan}
use Rattle.net_core.specs.declared.net.Kind.TheVariants.{Inner}
use Rattle.net_core.specs.Cuts.{Run, Cut, sites_at, words_sent, count_received, words_at, room_at, trace_of, final_cut}
use Rattle.base.specs.Lists.Prefix.{IsPrefix}

pub record IsCounted (run : Run) (cut : Cut) : Type 0 where
  -- each proc has made a prefix of its trace over the words of the final cut
  pub made : (p : ℕ) → IsPrefix (cut p) (trace_of run.activations (words_at run (final_cut run)) (slice_get run.procs p))
  -- and has sent on no inner channel more than in the final cut
  pub sent : (p c : ℕ) (chan : Chan) → slice_get run.chans c ≡ Some chan → chan.kind ≡ Inner → length (words_sent (sites_at run p) c (cut p)) ≤ length (words_sent (sites_at run p) c (final_cut run p))
  -- what it received was sent
  pub received : (p c : ℕ) → count_received (sites_at run p) c (cut p) ≤ length (words_at run cut c)
  -- and what it sent had room
  pub room : (p c j : ℕ) → j < length (words_sent (sites_at run p) c (cut p)) → room_at run cut c j ≡ true
