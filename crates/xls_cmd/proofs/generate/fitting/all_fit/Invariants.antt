use Rattle.std.proofs.Common.{◌≡◌, ℕ, [], ◌<◌, get_or, slice_get, Some}
use Rattle.net_core.specs.declared.net.Chan.{Chan}
use Rattle.xls_cmd.specs.Gen.Inner.{FitsChannel}
use Rattle.xls_cmd.proofs.generate.fitting.all_fit.Given as goal

abbrev pub invariant-channels : goal.invariant-channels
invariant-channels l = (c : ℕ) (chan : Chan) → c < l.c → slice_get l.chans c ≡ Some chan → FitsChannel chan (get_or l.words c [])
