use Rattle.std.proofs.Common.{◌≡◌, ℕ, ◌<◌, length, arith}
use Rattle.xb_bits.specs.Word.{Word}
use Rattle.block_stage.specs.Machine.Circuits.{cycle_by}
use Rattle.block_stage.specs.Machine.Logic.{circuit_of}
use Rattle.net_samples.specs.Blocks.Samples.{pipeline_of, ports_of}
use Rattle.net_samples.specs.Blocks.Shows.{no_word}
use Rattle.net_samples.proofs.OnBlocks.Tables.{four}
use Rattle.net_samples.proofs.blocks.machine.Machine.next_kept.Goals as goal

pub returns : goal.returns
returns c = λ opening now small shows i l.
    let x = circuit_of c.args.logic.now in
    let q = pipeline_of c.args.sample.now opening in
    let ports = ports_of c.args.ports.now in
    four (λ (k : ℕ) (b : Word). k < length c.args.sample.now.sites.now → b ≡ (cycle_by x q now ports).kept k) _ _ _ _ no_word
    (c.site_kept.ensures opening now small shows) (c.site_kept-2.ensures opening now small shows) (c.site_kept-3.ensures opening now small shows) (c.site_kept-4.ensures opening now small shows)
    i (let s = small.sites in omega (arith, l, s)) l
