-- The registers.
use Rattle.std.proofs.Common.{◌≡◌, ℕ, ◌<◌, [], ◌∷◌, refl, sym, ap, arith, true, false, Bool, None}
use Rattle.std.specs.Prelude.{◌==◌}
use Rattle.xb_bits.specs.Word.{Word}
use Rattle.xb_value.specs.declared.value.Value.TheViews.{outs-Bits}
use Rattle.block_stage.specs.Machine.Cycle.{opened}
use Rattle.net_samples.specs.declared.blocks.sample.StageEntry.{StageEntry}
use Rattle.net_samples.specs.declared.blocks.sample.Sample.{Sample}
use Rattle.net_samples.specs.Blocks.Samples.{bits_in, bits_of, pipeline_of, FitsMachine}
use Rattle.net_samples.specs.Blocks.Shows.{no_word, no_stage_entry, ShowsStageEntry, ShowsMachine}
use Rattle.net_samples.proofs.OnBlocks.Tables.{four, eq_apart}

pub reset_shows : (sample : Sample) → FitsMachine sample → (state kept : Word) → kept ≡ no_word
    → ShowsMachine sample
    (record {
      full = true ∷ false ∷ false ∷ false ∷ [];
      done = false ∷ false ∷ false ∷ false ∷ [];
      state = state;
      stage_regs = record { state = state; got = None } ∷ record { state = state; got = None } ∷ record { state = state; got = None } ∷ record { state = state; got = None } ∷ [];
      kept = kept ∷ kept ∷ kept ∷ kept ∷ [];
    })
    (opened (pipeline_of sample state))
unfolding opened
reset_shows sample small state kept e = record {
  full = λ j l. four (λ (i : ℕ) (b : Bool). b ≡ (i == 0)) true false false false false refl (apart 1 (omega arith)) (apart 2 (omega arith)) (apart 3 (omega arith)) j (let s = small.stages in omega arith);
  state = the_state;
  stage_regs = λ j z l. four (λ (i : ℕ) (b : StageEntry). ShowsStageEntry b (record { state = (pipeline_of sample state).proc.opening; got = [] })) _ _ _ _ no_stage_entry begins begins begins begins j (let s = small.stages in omega arith);
  done = λ i l. four (λ (k : ℕ) (b : Bool). b ≡ false) false false false false false refl refl refl refl i (let s = small.sites in omega arith);
  kept = λ i l. four (λ (k : ℕ) (w : Word). w ≡ no_word) kept kept kept kept no_word e e e e i (let s = small.sites in omega arith);
}
  where
    apart : (i : ℕ) → 0 < i → false ≡ (i == 0)
    apart i l = sym (eq_apart i 0 (λ e. omega arith))

    the_state : state ≡ bits_of (pipeline_of sample state).proc.opening
    the_state = sym (ap bits_in (outs-Bits state))

    begins : ShowsStageEntry (record { state = state; got = None }) (record { state = (pipeline_of sample state).proc.opening; got = [] })
    begins = record { state = the_state; got = refl }
