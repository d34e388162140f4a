-- All nodes are kept.
use Rattle.std.proofs.Common.{◌≡◌, ℕ, zero, suc, ◌<◌, List, length, get_or, Bool, true, false, refl, sym, subst, arith}
use Rattle.std.specs.Prelude.{replicate}
use Rattle.std.proofs.lemmas.Option.{slice_get_within}
use Rattle.ir_tree.specs.declared.node.Operand.{Operand}
use Rattle.ir_tree.specs.declared.node.Operand.TheVariants as operand
use Rattle.ir_tree.specs.declared.package.Proc.{Proc}
use Rattle.ir_tree.specs.Rules.Lines.{is_there}
use Rattle.ir_rebuild.specs.Operands.{operands_in}
use Rattle.ir_rebuild.specs.Kept.{is_kept, AreKept, StandBefore}
use Rattle.ir_rebuild.proofs.Building.{below, all_weaker, there_more}

true_at : (n i : ℕ) → i < n → get_or (replicate n true) i false ≡ true
true_at zero i h = absurd (omega arith)
true_at (suc n) zero h = refl
true_at (suc n) (suc i) h = true_at n i (omega arith)

kept_there : (n : ℕ) (o : Operand) → is_there n o ≡ true → is_kept (replicate n true) o ≡ true
kept_there n operand.State h = refl
kept_there n (operand.Node i) h = true_at n i (below i n h)

pub all_kept : (proc : Proc) (kept : List Bool) → StandBefore proc → kept ≡ replicate (length proc.nodes) true → AreKept proc kept
all_kept proc kept before e = subst (AreKept proc) (sym e) (record {
  next = kept_there (length proc.nodes) proc.next before.next;
  sites = λ j n there site. true_at (length proc.nodes) j (slice_get_within proc.nodes j n there);
  operands = λ j n there marked.
      let less : j < length proc.nodes = slice_get_within proc.nodes j n there in
      all_weaker (is_there j) (is_kept (replicate (length proc.nodes) true)) (λ o h. kept_there (length proc.nodes) o (there_more j (length proc.nodes) (omega (arith, less)) o h)) (operands_in n) (before.operands j n there);
})
