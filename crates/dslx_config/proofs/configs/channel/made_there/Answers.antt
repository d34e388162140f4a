use Rattle.std.proofs.Common.{◌+◌, ◌∙◌, List, Some, ap, drop, refl, sym, arith}
use Rattle.dslx_core.specs.declared.design.MadeChannel.{MadeChannel}
use Rattle.dslx_core.specs.Networks.Configs.{lower_made}
use Rattle.dslx_scope_names.specs.Values.Seen.{scope_seen}
use Rattle.dslx_scope_names.proofs.Lemmas.Numbers.InOrder.{behind}
use Rattle.dslx_config.proofs.OnConfigs.InOrder.{all_made, next_made, next_missing, next_passed}
use Rattle.dslx_config.proofs.OnConfigs.ConfigStatements.{made_channel, no_channel, spawned}
use Rattle.dslx_config.proofs.configs.channel.made_there.Goals as goal
use Rattle.dslx_config.proofs.configs.channel.made_there.Goals.{in-Channel+in_ok-channel-in-Channel+in-Some+in_ok-push-in-Some, in-Spawn}

pub returns-in-None : goal.returns-in-None
returns-in-None c =
    next_missing (lower_made (scope_seen c.args.context)) c.args.config_statements.now c.config_statements.config_statement-index c.config_statement-item.result c.config_statements.made.items (omega arith) c.config_statement-item.is
    (no_channel (scope_seen c.args.context) c.config_statement-item.result c.in-Channel.channel c.in-Channel.is (sym c.in_ok-channel-in-Channel.ensures ∙ c.in-None.is)) ∙ c.config_statements.invariant

pub config_statements-preserved : goal.config_statements-preserved
config_statements-preserved c =
    elim c.match-config_statement.branch [
      | in-Channel+in_ok-channel-in-Channel+in-Some+in_ok-push-in-Some w ↦
          ap (λ (cs : List MadeChannel). behind cs (lower_made (scope_seen c.args.context) (drop (c.config_statements.config_statement-index + 1) c.args.config_statements.now))) (ap (λ (v : _). v.items) w.made-is ∙ w.in_ok-push-in-Some.ensures.items)
          ∙ next_made (lower_made (scope_seen c.args.context)) c.args.config_statements.now c.config_statements.config_statement-index c.config_statement-item.result c.config_statements.made.items w.in-Some.channel (omega arith) c.config_statement-item.is
          (made_channel (scope_seen c.args.context) c.config_statement-item.result w.in-Channel.channel w.in-Some.channel w.in-Channel.is (sym w.in_ok-channel-in-Channel.ensures ∙ w.in-Some.is)) ∙ c.config_statements.invariant
      | in-Spawn w ↦
          ap (λ (cs : List MadeChannel). behind cs (lower_made (scope_seen c.args.context) (drop (c.config_statements.config_statement-index + 1) c.args.config_statements.now))) (ap (λ (v : _). v.items) w.made-is)
          ∙ next_passed (lower_made (scope_seen c.args.context)) c.args.config_statements.now c.config_statements.config_statement-index c.config_statement-item.result c.config_statements.made.items (omega arith) c.config_statement-item.is
          (spawned (scope_seen c.args.context) c.config_statement-item.result w.in-Spawn.field-0 w.in-Spawn.is) ∙ c.config_statements.invariant
    ]

pub returns : goal.returns
returns c = ap Some c.from_vec.ensures ∙ all_made (lower_made (scope_seen c.args.context)) c.args.config_statements.now c.config_statements.config_statement-index c.config_statements.made.items (omega arith) refl ∙ c.config_statements.invariant
