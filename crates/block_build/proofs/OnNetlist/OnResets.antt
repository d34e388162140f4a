-- What a pipeline's registers hold behind reset.
use Rattle.std.proofs.Common.{◌≡◌, ℕ, zero, suc, List, [], ◌∷◌, sym, ap, arith, true, false, Bool}
use Rattle.std.specs.List.{AllByRecursion}
use Rattle.std.proofs.lemmas.Bool.Decides.{nat_tests}
use Rattle.xb_value.specs.Typing.{IsOfType}
use Rattle.ir_tree.specs.declared.node.Operand.{Operand}
use Rattle.ir_tree.specs.declared.node.Operand.TheVariants as operand
use Rattle.ir_tree.specs.declared.node.Role.{Role}
use Rattle.ir_tree.specs.declared.node.Role.TheVariants as role
use Rattle.ir_tree.specs.declared.package.Channel.{Channel}
use Rattle.ir_tree.specs.declared.package.Proc.{Proc}
use Rattle.ir_tree.specs.NodeValues.{role_of, no_word}
use Rattle.ir_tree.specs.Types.{ty_of}
use Rattle.block_stage.specs.Machine.Pipeline.{Pipeline, first}
use Rattle.block_stage.specs.Machine.Cycle.{opened, brought}
use Rattle.vlog_tree.specs.Value.{Values, bit, atom_value}
use Rattle.block_build.specs.Netlist.Handshakes.{SiteNets}
use Rattle.block_build.specs.Netlist.Holding.{DataHeld, AreFullBits, IsWordKept, AreWordsKept, AreAllWordsKept, AreReset, PipelineHeld}
use Rattle.block_build.specs.Netlist.Leaves.{ShowsValue}
use Rattle.block_build.specs.Netlist.Nodes.{ProcNets}
use Rattle.block_build.specs.Netlist.Procs.{turns_by_words, gathered}
use Rattle.block_build.specs.Netlist.Stages.{StageNets, AreDoneBits, AreAllDoneBits}
use Rattle.block_build.proofs.OnNetlist.OnStaged.{first_none}

full_reset : (v : Values) (q : Pipeline) (stages : List StageNets) (j : ℕ) → AreReset v j stages → AreFullBits v (opened q) j stages
unfolding opened
full_reset v q [] j h = tt
full_reset v q (one ∷ more) j h = (h.0, full_reset v q more (suc j) h.2)

done_reset : (v : Values) (q : Pipeline) (sites : List SiteNets) (i : ℕ) → AllByRecursion (λ (site : SiteNets). atom_value v site.done ≡ bit false) sites → AreDoneBits v (opened q) i sites
unfolding opened
done_reset v q [] i h = tt
done_reset v q (site ∷ sites) i h = (h.0, done_reset v q sites (suc i) h.1)

all_done_reset : (v : Values) (q : Pipeline) (stages : List StageNets) (j : ℕ) → AreReset v j stages → AreAllDoneBits v q (opened q) j stages
all_done_reset v q [] j h = tt
all_done_reset v q (one ∷ more) j h = (done_reset v q one.sites (first q j) h.1, all_done_reset v q more (suc j) h.2)

word_reset : (v : Values) (nets : ProcNets) (q : Pipeline) (i : ℕ) (rl : Role) → IsWordKept v nets (opened q) i rl
unfolding opened
word_reset v nets q i role.Pure = tt
word_reset v nets q i (role.Receive predicate d) = λ done. absurd (cc)
word_reset v nets q i (role.Send predicate d) = tt

words_reset : (v : Values) (proc : Proc) (nets : ProcNets) (q : Pipeline) (sites : List SiteNets) (i : ℕ) → AreWordsKept v proc nets (opened q) i sites
words_reset v proc nets q [] i = tt
words_reset v proc nets q (site ∷ sites) i = ((λ n there. word_reset v nets q i (role_of n)), words_reset v proc nets q sites (suc i))

all_words_reset : (v : Values) (proc : Proc) (nets : ProcNets) (q : Pipeline) (stages : List StageNets) (j : ℕ) → AreAllWordsKept v proc nets q (opened q) j stages
all_words_reset v proc nets q [] j = tt
all_words_reset v proc nets q (one ∷ more) j = (words_reset v proc nets q one.sites (first q j), all_words_reset v proc nets q more (suc j))

first_alone : (q : Pipeline) (j : ℕ) → (opened q).full j ≡ true → j ≡ 0
unfolding opened
first_alone q j h = grind (arith, nat_tests)

first_entry : (v : Values) (channels : List Channel) (proc : Proc) (nets : ProcNets) (stage : Operand → ℕ) (carried : Operand → ℕ → Bool) (q : Pipeline) (j : ℕ) → IsOfType (ty_of proc.state) q.proc.opening → j ≡ 0
    → DataHeld v channels proc nets stage carried q (brought (opened q) j) j
unfolding opened
first_entry v channels proc nets stage carried q zero typed e =
    record {
      words = λ i. no_word;
      typed = typed;
      got = ap (gathered (turns_by_words channels proc.nodes q.proc.opening (λ i. no_word)) (λ i. no_word)) (sym (first_none q));
      copies = λ o early there. absurd (omega (arith, early));
    }
first_entry v channels proc nets stage carried q (suc j) typed e = absurd (omega (arith, e))

opened_state : (v : Values) (nets : ProcNets) (q : Pipeline) → ShowsValue v (nets.shown 0 operand.State) q.proc.opening → ShowsValue v (nets.shown 0 operand.State) (opened q).state
unfolding opened
opened_state v nets q h = h

opened_typed : (proc : Proc) (q : Pipeline) → IsOfType (ty_of proc.state) q.proc.opening → IsOfType (ty_of proc.state) (opened q).state
unfolding opened
opened_typed proc q h = h

pub reset_registers_hold : (v : Values) (channels : List Channel) (proc : Proc) (nets : ProcNets) (stage : Operand → ℕ) (carried : Operand → ℕ → Bool) (q : Pipeline) (stages : List StageNets) → AreReset v 0 stages
    → ShowsValue v (nets.shown 0 operand.State) q.proc.opening → IsOfType (ty_of proc.state) q.proc.opening → PipelineHeld v channels proc nets stage carried q stages (opened q)
reset_registers_hold v channels proc nets stage carried q stages h state typed =
    record {
      full = full_reset v q stages 0 h;
      done = all_done_reset v q stages 0 h;
      kept = all_words_reset v proc nets q stages 0;
      state = opened_state v nets q state;
      typed = opened_typed proc q typed;
      entries = λ j l full. first_entry v channels proc nets stage carried q j typed (first_alone q j full);
    }
