use Rattle.std.proofs.Common.{◌≡◌, ℕ, ◌<◌, length, Bool, false, arith}
use Rattle.block_stage.specs.Machine.Circuits.{cycle_by}
use Rattle.block_stage.specs.Machine.Logic.{circuit_of}
use Rattle.net_samples.specs.Blocks.Samples.{pipeline_of, ports_of}
use Rattle.net_samples.proofs.OnBlocks.Tables.{four}
use Rattle.net_samples.proofs.blocks.machine.Machine.next_done.Goals as goal

pub returns : goal.returns
returns c = λ opening now small shows i l.
    let x = circuit_of c.args.logic.now in
    let q = pipeline_of c.args.sample.now opening in
    let ports = ports_of c.args.ports.now in
    four (λ (k : ℕ) (b : Bool). k < length c.args.sample.now.sites.now → b ≡ (cycle_by x q now ports).done k) _ _ _ _ false
    (c.site_done.ensures opening now small shows) (c.site_done-2.ensures opening now small shows) (c.site_done-3.ensures opening now small shows) (c.site_done-4.ensures opening now small shows)
    i (let s = small.sites in omega (arith, l, s)) l
