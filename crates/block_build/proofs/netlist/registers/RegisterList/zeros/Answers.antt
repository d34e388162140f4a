use Rattle.std.proofs.Common.{[], ◌∷◌, subst}
use Rattle.block_build.specs.Netlist.Registers.{Lays}
use Rattle.block_build.proofs.OnNetlist.OnRegisters.{nothing_laid, zeros_more}
use Rattle.block_build.proofs.netlist.registers.RegisterList.zeros.Goals as goal

pub registers-init : goal.registers-init
registers-init c = nothing_laid c.args.self.now

pub registers-preserved : goal.registers-preserved
registers-preserved c =
    zeros_more c.args.self.now c.registers.self c.register.new.self c.registers.counter c.args.width c.registers.invariant
    (subst (λ t. Lays c.registers.self c.register.new.self (record { width = c.args.width; reset = t } ∷ [])) c.zeros.ensures c.in_ok-register.ensures.lays)
