use Rattle.std.proofs.Common.{◌≡◌, List, Some, rules, subst, sym, ◌∙◌}
use Rattle.std.specs.Prelude.{slice_get}
use denote.Enum.Bare.{same_true}
use Rattle.net_core.specs.contracts.Kind.{the_type}
use Rattle.net_core.specs.declared.net.Chan.{Chan}
use Rattle.xls_cmd.proofs.generate.fitting.has_channel.Goals as goal

pub returns-in-Some : goal.returns-in-Some
returns-in-Some c = λ h. (
  c.in-Some.chan.now,
  subst (λ (chans : List Chan). slice_get chans c.args.number ≡ Some c.in-Some.chan.now) c.as_slice.ensures (sym (c.in-Some.ensures {u = tt})),
  same_true the_type (search rules) _ _ (sym c.eq.ensures ∙ h),
)
