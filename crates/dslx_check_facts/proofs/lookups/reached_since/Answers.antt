use Rattle.std.proofs.Common.{◌≡◌, ◌∙◌, ◌&&◌, ◌+◌, ◌<◌, ℕ, List, drop, length, get_or, refl, ap, arith}
use Rattle.std.specs.List.{list_all}
use Rattle.dslx_check_facts.specs.Known.{item_names}
use Rattle.dslx_check_facts.specs.Walks.{instances_at, shown}
use Rattle.dslx_check_facts.specs.declared.lookups.Reached.{Reached}
use Rattle.dslx_check_facts.proofs.Lemmas.Walks.{misses_grows, misses_refl, misses_trans, nothing_missing}
use Rattle.dslx_check_facts.proofs.OnLookups.{sound_next, unbroken_next}
use Rattle.dslx_check_facts.proofs.lookups.reached_since.Goals as goal

pub instances-init : goal.instances-init
instances-init c = record {
  counted = ap length c.as_slice-count.ensures.value;
  misses = misses_refl (shown c.args.w.now);
  sound = λ known later agrees missing. refl;
  unbroken = λ known later agrees missing. refl;
}

pub instances-preserved : goal.instances-preserved
instances-preserved c =
    let within : c.instances.i < length c.args.w.now.reached.items = omega (arith, c.instances.invariant.counted, c.instances-test.true) in
    let is : c.index-instance.result.now ≡ get_or c.args.w.now.reached.items c.instances.i c.index-instance.result.now =
    c.index-instance.ensures ∙ ap (λ (l : List ℕ). get_or l c.instances.i c.index-instance.result.now) c.instances.invariant.misses.reached in
    record {
      counted = c.instances.invariant.counted;
      misses = misses_trans (shown c.args.w.now) (shown c.instances.w) (shown c.done.new.w) c.instances.invariant.misses c.in_ok-sums.ensures.misses;
      sound = λ known later agrees missing.
          ap (λ (all : Reached). all.sound && list_all known.is_sound (instances_at (item_names c.args.f.now) later.met (drop (c.instances.i + 1) c.args.w.now.reached.items))) c.and-all.ensures
          ∙ sound_next c.args.f.now later known c.args.w.now.reached.items c.instances.i c.index-instance.result.now c.instances.all c.in_ok-sums.sums within is
          (c.in_ok-sums.ensures.sums known later agrees missing)
          ∙ c.instances.invariant.sound known later agrees
          (nothing_missing (shown c.instances.w) (shown c.done.new.w) (misses_grows (shown c.instances.w) (shown c.done.new.w) c.in_ok-sums.ensures.misses) missing);
      unbroken = λ known later agrees missing.
          ap (λ (all : Reached). all.unbroken && list_all known.is_unbroken (instances_at (item_names c.args.f.now) later.met (drop (c.instances.i + 1) c.args.w.now.reached.items))) c.and-all.ensures
          ∙ unbroken_next c.args.f.now later known c.args.w.now.reached.items c.instances.i c.index-instance.result.now c.instances.all c.in_ok-sums.sums within is
          (c.in_ok-sums.ensures.sums known later agrees missing)
          ∙ c.instances.invariant.unbroken known later agrees
          (nothing_missing (shown c.instances.w) (shown c.done.new.w) (misses_grows (shown c.instances.w) (shown c.done.new.w) c.in_ok-sums.ensures.misses) missing);
    }
