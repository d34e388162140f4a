use Rattle.std.proofs.Common.{◌≡◌, ◌∙◌, ◌++◌, ◌&&◌, ◌||◌, Some, nat_lt, is_some, sym, ap}
use Rattle.dslx_meaning.specs.Lists.{all_some}
use Rattle.dslx_meaning.specs.Rules.TypeEnvs.{plus_size, types_of}
use Rattle.dslx_meaning.specs.Rules.ConstantRules.{is_empty}
use Rattle.dslx_meaning.specs.Rules.ControlRules.{ArmTyping as ArmSeen, arm_values, arms_faults, arms_size, has_several}
use Rattle.dslx_check_rules.specs.Seen.{capped, seen}
use Rattle.dslx_check_rules.specs.Interned.{type_at}
use Rattle.dslx_check_rules.proofs.Lemmas.Nodes.Lists.{some_alike, some_next}
use Rattle.dslx_check_rules.proofs.OnControl.OnControl.{all_next, any_next, arm_types_next, arms_faults_next, arms_size_next, several_is}
use Rattle.dslx_check_rules.proofs.control.matches.ArmsTyping.and.Goals as goal

pub returns : goal.returns
returns c = λ names rows later xs x all arm.
    let own = arm.alternatives in
    let fine : c.both-is_fine.result ≡ (x.seen.is_known && is_empty x.seen.faults) = c.both-is_fine.ensures ∙ (λ i. own.known i && c.is_empty.ensures x.seen.faults own.faults i) in
    let binds : c.both-binds.result ≡ (has_several x.patterns && x.seen.binds) =
    c.both-binds.ensures ∙ (λ i. (ap (nat_lt 1) arm.count ∙ several_is x.patterns) i && own.binds i) in
    record {
      faults = c.and.ensures (arms_faults xs) (x.seen.faults ++ x.value.faults) all.faults (c.and-faults.ensures x.seen.faults x.value.faults own.faults arm.value.faults)
          ∙ ap seen (sym (arms_faults_next xs x));
      size = c.plus_size.ensures (arms_size xs) (plus_size (Some x.seen.size) x.value.size) all.size (c.plus_size-size.ensures (Some x.seen.size) x.value.size own.size arm.value.size)
          ∙ ap capped (sym (arms_size_next xs x));
      known = c.both.ensures ∙ (λ i. all.known i && own.known i) ∙ sym (all_next (λ (a : ArmSeen). a.seen.is_known) xs x);
      fine = c.both-2.ensures ∙ (λ i. all.fine i && fine i) ∙ sym (all_next (λ (a : ArmSeen). a.seen.is_known && is_empty a.seen.faults) xs x);
      typed = c.both-3.ensures ∙ (λ i. all.typed i && (c.is_some.ensures ∙ some_alike (type_at names later) c.args.arm.value.ty x.value.ty arm.value.ty) i)
          ∙ sym (some_next (types_of (arm_values xs)) x.value.ty) ∙ ap (λ os. is_some (all_some os)) (sym (arm_types_next xs x));
      binds = c.either.ensures ∙ (λ i. all.binds i || binds i) ∙ sym (any_next (λ (a : ArmSeen). has_several a.patterns && a.seen.binds) xs x);
    }
