use Rattle.std.proofs.Common.{◌≡◌, ◌<◌, ◌≤◌, ◌+◌, ◌*◌, ◌-◌, ◌++◌, ◌∷◌, [], ◌∙◌, Some, length, true, false, refl, sym, ap, arith}
use mathlib.Core.Bool.{true≢false}
use Rattle.dslx_config.specs.Configs.Spawned.{spawned_instances}
use Rattle.dslx_core.specs.Networks.Configs.{config_scope}
use Rattle.dslx_meaning.specs.Items.{item_named, meanings_of}
use Rattle.dslx_meaning.specs.Network.{as_proc}
use Rattle.dslx.specs.Order.Adding.{is_one_of}
use Rattle.dslx.proofs.OnOrder.OnOrder.{stands_by_test, not_by_test, within_at}
use Rattle.dslx.proofs.OnOrder.OnAdding.{all_added, behind, none_added, not_missing, one_more_at, shorter, unchanged}
use Rattle.dslx.proofs.order.adding.+adding.Goals as goal

pub add_all-spawned-init : goal.add_all-spawned-init
add_all-spawned-init t c = λ top faults within. none_added _ _ _

pub add_all-add_instance-requires : goal.add_all-add_instance-requires
add_all-add_instance-requires t c = (omega arith, tt)

pub add_all-returns-then-not-branch : goal.add_all-returns-then-not-branch
add_all-returns-then-not-branch t c = λ top faults within.
    absurd (true≢false (sym (c.in_ok-add_instance.ensures top faults
    (within_at c.args.text.now c.args.depth top c.args.spawned.now c.spawned.instance-index c.instance-item.result c.spawned-test.true c.instance-item.is within)).0 ∙ c.if-not-branch.true))

pub add_all-spawned-preserved : goal.add_all-spawned-preserved
add_all-spawned-preserved t c = λ top faults within.
    one_more_at c.args.text.now top c.args.spawned.now c.spawned.instance-index c.instance-item.result c.args.order.now.items c.spawned.order.items c.add_instance.new.order.items c.spawned-test.true c.instance-item.is
    (c.spawned.invariant top faults within)
    (c.in_ok-add_instance.ensures top faults (within_at c.args.text.now c.args.depth top c.args.spawned.now c.spawned.instance-index c.instance-item.result c.spawned-test.true c.instance-item.is within)).1

pub add_all-returns : goal.add_all-returns
add_all-returns t c = λ top faults within.
    (refl, all_added c.args.text.now top c.args.spawned.now c.spawned.instance-index c.args.order.now.items c.spawned.order.items (omega (arith, c.spawned-test.false)) (c.spawned.invariant top faults within))

pub add_instance-returns-then-is_among : goal.add_instance-returns-then-is_among
add_instance-returns-then-is_among t c = λ top faults w.
    (refl, unchanged c.args.text.now top c.args.instance.now c.args.order.now.items c.args.order.now.items refl (stands_by_test c.args.instance.now c.args.order.now.items (ap (is_one_of c.args.instance.now) (sym c.as_slice.ensures.value) ∙ sym c.is_among.ensures ∙ c.if-is_among.true)))

pub add_instance-returns-in_default-2 : goal.add_instance-returns-in_default-2
add_instance-returns-in_default-2 t c = λ top faults w.
    absurd (not_missing c.args.text.now top (c.lower_total_configs.ensures.configs c.args.text.now top faults) c.args.instance.now c.in-Some.process.now (c.in-Some.ensures ∙ ap (λ items. as_proc (item_named c.args.instance.now.name items)) c.as_slice-2.ensures) c.args.depth w (sym (c.in_ok-spawned.ensures ∙ ap (λ vs. spawned_instances c.args.text.now (config_scope (meanings_of c.args.text.now) c.in-Some.process.now vs) c.in-Some.process.now.config.config_statements) c.as_slice-args.ensures) ∙ c.in_default-2.is))

pub add_instance-add_all-requires : goal.add_instance-add_all-requires
add_instance-add_all-requires t c = (omega (arith, c.if-depth-eq0.false), tt)

pub add_instance-returns-then-not-branch : goal.add_instance-returns-then-not-branch
add_instance-returns-then-not-branch t c = λ top faults w.
    absurd (true≢false (sym (c.in_ok-add_all.ensures top faults
    (shorter c.args.text.now top (c.lower_total_configs.ensures.configs c.args.text.now top faults) c.args.instance.now c.in-Some.process.now (c.in-Some.ensures ∙ ap (λ items. as_proc (item_named c.args.instance.now.name items)) c.as_slice-2.ensures) c.args.depth w c.as_slice-3.result.now
    (sym (c.in_ok-spawned.ensures ∙ ap (λ vs. spawned_instances c.args.text.now (config_scope (meanings_of c.args.text.now) c.in-Some.process.now vs) c.in-Some.process.now.config.config_statements) c.as_slice-args.ensures) ∙ c.in-Some-2.is ∙ ap Some (sym c.as_slice-3.ensures)))).0 ∙ c.if-not-branch.true))

pub add_instance-returns : goal.add_instance-returns
add_instance-returns t c = λ top faults w.
    let configs = c.lower_total_configs.ensures.configs c.args.text.now top faults in
    let spawns = sym (c.in_ok-spawned.ensures ∙ ap (λ vs. spawned_instances c.args.text.now (config_scope (meanings_of c.args.text.now) c.in-Some.process.now vs) c.in-Some.process.now.config.config_statements) c.as_slice-args.ensures) ∙ c.in-Some-2.is ∙ ap Some (sym c.as_slice-3.ensures) in
    let within = shorter c.args.text.now top configs c.args.instance.now c.in-Some.process.now (c.in-Some.ensures ∙ ap (λ items. as_proc (item_named c.args.instance.now.name items)) c.as_slice-2.ensures) c.args.depth w c.as_slice-3.result.now spawns in (
      refl,
      behind c.args.text.now top configs c.args.instance.now c.in-Some.process.now (c.in-Some.ensures ∙ ap (λ items. as_proc (item_named c.args.instance.now.name items)) c.as_slice-2.ensures) c.args.depth w c.as_slice-3.result.now spawns c.args.order.now.items c.add_all.new.order.items c.push.new.self.items
          (not_by_test c.args.instance.now c.args.order.now.items (ap (is_one_of c.args.instance.now) (sym c.as_slice.ensures.value) ∙ sym c.is_among.ensures ∙ c.if-is_among.false))
          (c.in_ok-add_all.ensures top faults within).1
          (c.in_ok-push.ensures.items ∙ ap (λ x. c.add_all.new.order.items ++ x ∷ []) c.in_ok-copy_of.ensures),
    )
