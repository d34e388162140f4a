-- The registers of a proc, one behind another.
use Rattle.std.proofs.Common.{◌≡◌, ℕ, zero, suc, ◌+◌, ◌-◌, ◌<◌, ◌^◌, List, ◌++◌, length, refl, sym, ap, ◌∙◌, subst, arith}
use Rattle.std.proofs.lemmas.List.{length-append, append_assoc}
use Rattle.ir_tree.specs.declared.node.Node.{Node}
use Rattle.ir_tree.specs.Types.{ty_of}
use Rattle.block_build.specs.declared.netlist.last_reads.LastReads.{LastReads}
use Rattle.block_build.specs.declared.netlist.layout.SiteRegisters.{SiteRegisters}
use Rattle.block_build.specs.declared.netlist.registers.Register.{Register}
use Rattle.block_build.specs.declared.netlist.registers.RegisterList.{RegisterList}
use Rattle.block_build.specs.Netlist.Leaves.{leaf_widths}
use Rattle.block_build.specs.Netlist.ProcRegisters.{state_registers, full_registers, sites_registers, sites_at, copy_registers, nodes_registers, copies_at}
use Rattle.block_build.specs.Netlist.Registers.{next_register, Lays}
use Rattle.block_verilog.specs.declared.signals.layout.ProcRegisters.{ProcRegisters}
use Rattle.block_verilog.specs.Pipelines.Pipelines.{ScheduledProc, proc_registers, RegistersStand}

laid_next : (a b : RegisterList) (xs : List Register) → Lays a b xs → next_register b ≡ next_register a + length xs
laid_next a b xs p =
    let begin = p.first in
    let count = ap length p.laid in
    let more = length-append a.registers.items xs in
    omega (arith, begin, count, more)

lays_both : (a b c : RegisterList) (xs ys : List Register) → Lays a b xs → Lays b c ys → Lays a c (xs ++ ys)
lays_both a b c xs ys p q = record { first = q.first ∙ p.first; laid = q.laid ∙ ap (λ zs. zs ++ ys) p.laid ∙ append_assoc a.registers.items xs ys }

pub full_count : (stage n : ℕ) → length (full_registers stage n) ≡ n
full_count stage zero = refl
full_count stage (suc n) = let rest = full_count (suc stage) n in omega (arith, rest)

-- what is laid for a proc, and where
pub record RegistersLaid (a b : RegisterList) (s : ScheduledProc) (reads : LastReads) (own : ProcRegisters) : Type 0 where
  pub laid : RegistersStand s reads (next_register a) own
  pub lays : Lays a b (proc_registers s reads)

pub registers_laid : (a b c d e f : RegisterList) (s : ScheduledProc) (reads : LastReads) (state full state_copies : ℕ) (sites : List SiteRegisters) (copies : List ℕ) (own : ProcRegisters) (nodes : List Node) (lasts : List ℕ)
    → nodes ≡ s.proc.nodes → lasts ≡ reads.nodes.items → state ≡ next_register a → Lays a b (state_registers s.proc) → full ≡ next_register b → Lays b c (full_registers 0 s.depth)
    → sites ≡ sites_at s.channels (next_register c) nodes → Lays c d (sites_registers s.channels nodes) → state_copies ≡ next_register d → Lays d e (copy_registers (leaf_widths (ty_of s.proc.state)) (reads.state - 0))
    → copies ≡ copies_at (next_register e) nodes s.stages lasts → Lays e f (nodes_registers nodes s.stages lasts)
    → own ≡ record { state = state; full = full; sites = sites; state_copies = state_copies; copies = copies } → own.state_copies < 2 ^ 32 → RegistersLaid a f s reads own
registers_laid a b c d e f s reads state full state_copies sites copies own nodes lasts same same_lasts state_is p full_is q sites_are r copies_is t firsts_are u is few =
    let ws = copy_registers (leaf_widths (ty_of s.proc.state)) (reads.state - 0) in
    let one = laid_next a b (state_registers s.proc) p in
    let two = laid_next b c (full_registers 0 s.depth) q in
    let three = laid_next c d (sites_registers s.channels nodes) r in
    let four = laid_next d e (copy_registers (leaf_widths (ty_of s.proc.state)) (reads.state - 0)) t in
    let stages = full_count 0 s.depth in
    let there : next_register c ≡ full + s.depth = omega (arith, two, full_is, stages) in
    let behind : next_register d ≡ full + s.depth + length (sites_registers s.channels nodes) = omega (arith, three, there) in
    let last : next_register e ≡ state_copies + length (copy_registers (leaf_widths (ty_of s.proc.state)) (reads.state - 0)) = omega (arith, four, copies_is) in
    let r' : Lays c d (sites_registers s.channels s.proc.nodes) = subst (λ ns. Lays c d (sites_registers s.channels ns)) same r in
    let u' : Lays e f (nodes_registers s.proc.nodes s.stages reads.nodes.items) = subst (λ ls. Lays e f (nodes_registers s.proc.nodes s.stages ls)) same_lasts (subst (λ ns. Lays e f (nodes_registers ns s.stages lasts)) same u) in
    subst (RegistersLaid a f s reads) (sym is)
    (record {
      laid = record {
        state = state_is;
        full = full_is ∙ one;
        sites = sites_are ∙ ap (λ k. sites_at s.channels k nodes) there ∙ ap (sites_at s.channels (full + s.depth)) same;
        state_copies = copies_is ∙ behind ∙ ap (λ ns. full + s.depth + length (sites_registers s.channels ns)) same;
        few = subst (λ (x : ProcRegisters). x.state_copies < 2 ^ 32) is few;
        copies = firsts_are ∙ ap (λ k. copies_at k nodes s.stages lasts) last ∙ ap (λ ns. copies_at (state_copies + length ws) ns s.stages lasts) same ∙ ap (copies_at (state_copies + length ws) s.proc.nodes s.stages) same_lasts;
      };
      lays = lays_both a e f (state_registers s.proc ++ full_registers 0 s.depth ++ sites_registers s.channels s.proc.nodes ++ ws) (nodes_registers s.proc.nodes s.stages reads.nodes.items)
          (lays_both a d e (state_registers s.proc ++ full_registers 0 s.depth ++ sites_registers s.channels s.proc.nodes) ws
          (lays_both a c d (state_registers s.proc ++ full_registers 0 s.depth) (sites_registers s.channels s.proc.nodes) (lays_both a b c (state_registers s.proc) (full_registers 0 s.depth) p q) r') t) u';
    })
