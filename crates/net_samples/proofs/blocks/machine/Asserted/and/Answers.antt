use Rattle.std.proofs.Common.{◌≡◌, ℕ, ◌++◌, ◌∙◌, refl, Bool, false, Option, None, arith}
use Rattle.std.specs.Prelude.{not, ◌==◌}
use Rattle.xb_bits.specs.Word.{Word}
use Rattle.net_core.specs.Cuts.{words_sent, count_received}
use Rattle.net_samples.specs.Blocks.Shows.{first_of}
use Rattle.net_samples.proofs.OnBlocks.Tables.{four}
use Rattle.net_samples.proofs.OnBlocks.Walks.{both_ready, both_words}
use Rattle.net_samples.proofs.blocks.machine.Asserted.and.Goals as goal

pub returns : goal.returns
returns c = λ sites es fs one other. record {
  ready = λ k l. four (λ (i : ℕ) (b : Bool). b ≡ not (count_received sites i (es ++ fs) == 0)) _ _ _ _ false
      (c.any_flag.ensures ∙ both_ready sites 0 es fs _ _ (one.ready 0 (omega arith)) (other.ready 0 (omega arith)))
      (c.any_flag-2.ensures ∙ both_ready sites 1 es fs _ _ (one.ready 1 (omega arith)) (other.ready 1 (omega arith)))
      (c.any_flag-3.ensures ∙ both_ready sites 2 es fs _ _ (one.ready 2 (omega arith)) (other.ready 2 (omega arith)))
      (c.any_flag-4.ensures ∙ both_ready sites 3 es fs _ _ (one.ready 3 (omega arith)) (other.ready 3 (omega arith))) k l;
  words = λ k l. four (λ (i : ℕ) (b : Option Word). b ≡ first_of (words_sent sites i (es ++ fs))) _ _ _ _ None
      (c.either.ensures ∙ both_words sites 0 es fs _ _ (c.valid_word_at.ensures ∙ one.words 0 (omega arith)) (c.valid_word_at-2.ensures ∙ other.words 0 (omega arith)))
      (c.either-2.ensures ∙ both_words sites 1 es fs _ _ (c.valid_word_at-3.ensures ∙ one.words 1 (omega arith)) (c.valid_word_at-4.ensures ∙ other.words 1 (omega arith)))
      (c.either-3.ensures ∙ both_words sites 2 es fs _ _ (c.valid_word_at-5.ensures ∙ one.words 2 (omega arith)) (c.valid_word_at-6.ensures ∙ other.words 2 (omega arith)))
      (c.either-4.ensures ∙ both_words sites 3 es fs _ _ (c.valid_word_at-7.ensures ∙ one.words 3 (omega arith)) (c.valid_word_at-8.ensures ∙ other.words 3 (omega arith))) k l;
  ready_size = refl;
  words_size = refl;
}
