use Rattle.std.proofs.Common.{◌≡◌, take}
use Rattle.xb_value.specs.Inner.ScannerState.{state_of, FitsDigits}
use Rattle.xb_value.proofs.Faults.{StandsBehind}
use Rattle.xb_value.proofs.scan.scan.Given as goal

abbrev pub invariant-bytes : goal.invariant-bytes
invariant-bytes l =
    record {
      offset : l.at ≡ l.byte-index;
      sound : FitsDigits l.scanner.mode;
      stands : StandsBehind (state_of l.scanner) (take l.byte-index l.text);
    }
