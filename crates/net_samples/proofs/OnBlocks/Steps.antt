-- Along the sites of a stage.
use Rattle.std.proofs.Common.{◌≡◌, ℕ, zero, suc, ◌+◌, ◌-◌, ◌≤◌, List, length, refl, ap, ◌∙◌, subst, arith, false, Bool, Option, None, get_or}
use Rattle.std.specs.Prelude.{map, slice_get}
use Rattle.xb_bits.specs.Word.{Word}
use Rattle.xb_value.specs.declared.value.Value.{Value}
use Rattle.net_core.specs.Behavior.{chan_at}
use Rattle.block_stage.specs.Machine.Cycle.{Circuit, stopped, follow, walk_by}
use Rattle.block_stage.specs.declared.machine.logic.Step.{Step}
use Rattle.block_stage.specs.Machine.Logic.{turn_of}
use Rattle.net_samples.specs.declared.blocks.machine.Machine.{Machine}
use Rattle.net_samples.specs.declared.blocks.machine.Ports.{Ports}
use Rattle.net_samples.specs.declared.blocks.machine.Walk.{Walk}
use Rattle.net_samples.specs.declared.blocks.sample.StageEntry.{StageEntry}
use Rattle.net_samples.specs.declared.blocks.sample.Sample.{Sample}
use Rattle.net_samples.specs.Blocks.Samples.{last_word, site_of, behavior_of, ports_of, bits_of, turn_at}
use Rattle.net_samples.specs.Blocks.Shows.{Keeps, ShowsWalk, no_word, site_step}
use Rattle.net_samples.proofs.OnBlocks.Tables.{chan_is}

-- a walk over one site and more, by what happens there
pub unwinds : (x : Circuit) (sample : Sample) (machine : Machine) (ports : Ports) (stage_entry : StageEntry) (done : ℕ → Bool) (kept : ℕ → Word) (s : Value) (got : List Word) (place left : ℕ) (step : Step)
    → place + left ≤ length sample.sites.now → (left ≡ 0 → ⊥) → Keeps sample machine done kept → stage_entry.state ≡ bits_of s → stage_entry.got ≡ last_word got
    → step ≡ site_step x sample ports stage_entry (get_or machine.done place false) (get_or machine.kept place no_word) place
    → follow place got (λ got'. walk_by x (behavior_of sample) done kept (ports_of ports) s got' (place + 1) (left - 1)) step
    ≡ walk_by x (behavior_of sample) done kept (ports_of ports) s got place left
unwinds x sample machine ports stage_entry done kept s got place zero step l some keeps st g e = absurd (some refl)
unwinds x sample machine ports stage_entry done kept s got place (suc n) step l some keeps st g e =
    let one : place + 1 ≡ suc place = omega arith in
    let less : suc n - 1 ≡ n = omega arith in
    ap (follow place got (λ got'. walk_by x (behavior_of sample) done kept (ports_of ports) s got' (place + 1) (suc n - 1)))
    (e ∙ ap (λ (v : Word). site_of_turn v stage_entry.got (get_or machine.done place false) (get_or machine.kept place no_word)) st
    ∙ ap (λ v. site_of_turn (bits_of s) v (get_or machine.done place false) (get_or machine.kept place no_word)) g
    ∙ ap (λ v. site_of_turn (bits_of s) (last_word got) v (get_or machine.kept place no_word)) (keeps.is_done place (omega arith))
    ∙ ap (λ v. site_of_turn (bits_of s) (last_word got) (done place) v) (keeps.is_kept place (omega arith))
    ∙ ap (λ c. x.step (turn_of (turn_at (slice_get sample.sites.now place) (bits_of s) (last_word got))) (done place) (kept place) ((ports_of ports).valid_word c) ((ports_of ports).room c)) (chan_is sample.sites.now place))
    ∙ ap (λ p. follow place got (λ got'. walk_by x (behavior_of sample) done kept (ports_of ports) s got' p (suc n - 1)) (step_at (chan_at (map site_of sample.sites.now) place))) one
    ∙ ap (λ p. follow place got (λ got'. walk_by x (behavior_of sample) done kept (ports_of ports) s got' (suc place) p) (step_at (chan_at (map site_of sample.sites.now) place))) less
  where
    site_of_turn : Word → Option Word → Bool → Word → Step
    site_of_turn v g d k = site_step x sample ports (record { state = v; got = g }) d k place

    step_at : ℕ → Step
    step_at c = x.step (turn_of (turn_at (slice_get sample.sites.now place) (bits_of s) (last_word got))) (done place) (kept place) ((ports_of ports).valid_word c) ((ports_of ports).room c)

-- so what shows the walk from what happens there on shows all of it
pub shown : (x : Circuit) (sample : Sample) (machine : Machine) (ports : Ports) (stage_entry : StageEntry) (done : ℕ → Bool) (kept : ℕ → Word) (s : Value) (got : List Word) (place left : ℕ) (step : Step)
    → place + left ≤ length sample.sites.now → (left ≡ 0 → ⊥) → Keeps sample machine done kept → stage_entry.state ≡ bits_of s → stage_entry.got ≡ last_word got
    → step ≡ site_step x sample ports stage_entry (get_or machine.done place false) (get_or machine.kept place no_word) place → (walk : Walk)
    → ShowsWalk (map site_of sample.sites.now) walk (follow place got (λ got'. walk_by x (behavior_of sample) done kept (ports_of ports) s got' (place + 1) (left - 1)) step)
    → ShowsWalk (map site_of sample.sites.now) walk (walk_by x (behavior_of sample) done kept (ports_of ports) s got place left)
shown x sample machine ports stage_entry done kept s got place left step l some keeps st g e walk shows =
    subst (ShowsWalk (map site_of sample.sites.now) walk) (unwinds x sample machine ports stage_entry done kept s got place left step l some keeps st g e) shows

pub shown_end : (x : Circuit) (sample : Sample) (ports : Ports) (done : ℕ → Bool) (kept : ℕ → Word) (s : Value) (got : List Word) (place left : ℕ) → left ≡ 0 → (walk : Walk)
    → ShowsWalk (map site_of sample.sites.now) walk (stopped place got None)
    → ShowsWalk (map site_of sample.sites.now) walk (walk_by x (behavior_of sample) done kept (ports_of ports) s got place left)
shown_end x sample ports done kept s got place zero e walk shows = shows
shown_end x sample ports done kept s got place (suc n) e walk shows = absurd (omega (arith, e))
