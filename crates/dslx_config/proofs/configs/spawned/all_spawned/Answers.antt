use Rattle.std.proofs.Common.{◌+◌, ◌∙◌, List, Option, Some, ap, drop, refl, sym, arith}
use Rattle.dslx_tree.specs.declared.process.ConfigStatement.{ConfigStatement}
use Rattle.dslx_core.specs.Lowering.Functions.{Instantiated}
use Rattle.dslx_scope_names.specs.Values.Seen.{scope_seen}
use Rattle.dslx_scope_names.specs.declared.values.context.ScopeEnv.{ScopeEnv}
use Rattle.dslx_config.specs.Configs.Spawned.{spawned_instances}
use Rattle.dslx_scope_names.proofs.Lemmas.Numbers.InOrder.{behind}
use Rattle.dslx_config.proofs.OnConfigs.InOrder.{all_made, next_made, next_missing, next_passed}
use Rattle.dslx_config.proofs.OnConfigs.ConfigStatements.{channel_spawns_none, no_instance, spawned_first}
use Rattle.dslx_config.proofs.configs.spawned.all_spawned.Goals as goal
use Rattle.dslx_config.proofs.configs.spawned.all_spawned.Goals.{in-Spawn+in_ok-instance-in-Spawn+in-Some+in_ok-push-in-Some, in-Channel}

abbrev instances : ScopeEnv → List ConfigStatement → Option (List Instantiated)
instances context ms = spawned_instances context.text.now (scope_seen context) ms

pub returns-in-None : goal.returns-in-None
returns-in-None c =
    next_missing (instances c.args.context) c.args.config_statements.now c.config_statements.config_statement-index c.config_statement-item.result c.config_statements.spawned.items (omega arith) c.config_statement-item.is
    (no_instance c.args.context.text.now (scope_seen c.args.context) c.config_statement-item.result c.in-Spawn.spawn c.in-Spawn.is (sym c.in_ok-instance-in-Spawn.ensures ∙ c.in-None.is))
    ∙ c.config_statements.invariant

pub config_statements-preserved : goal.config_statements-preserved
config_statements-preserved c =
    elim c.match-config_statement.branch [
      | in-Spawn+in_ok-instance-in-Spawn+in-Some+in_ok-push-in-Some w ↦
          ap (λ (is : List Instantiated). behind is (instances c.args.context (drop (c.config_statements.config_statement-index + 1) c.args.config_statements.now))) (ap (λ (v : _). v.items) w.spawned-is ∙ w.in_ok-push-in-Some.ensures.items)
          ∙ next_made (instances c.args.context) c.args.config_statements.now c.config_statements.config_statement-index c.config_statement-item.result c.config_statements.spawned.items w.in-Some.instance (omega arith) c.config_statement-item.is
          (spawned_first c.args.context.text.now (scope_seen c.args.context) c.config_statement-item.result w.in-Spawn.spawn w.in-Some.instance w.in-Spawn.is (sym w.in_ok-instance-in-Spawn.ensures ∙ w.in-Some.is))
          ∙ c.config_statements.invariant
      | in-Channel w ↦
          ap (λ (is : List Instantiated). behind is (instances c.args.context (drop (c.config_statements.config_statement-index + 1) c.args.config_statements.now))) (ap (λ (v : _). v.items) w.spawned-is)
          ∙ next_passed (instances c.args.context) c.args.config_statements.now c.config_statements.config_statement-index c.config_statement-item.result c.config_statements.spawned.items (omega arith) c.config_statement-item.is
          (channel_spawns_none c.args.context.text.now (scope_seen c.args.context) c.config_statement-item.result w.in-Channel.field-0 w.in-Channel.is) ∙ c.config_statements.invariant
    ]

pub returns : goal.returns
returns c =
    ap Some c.from_vec.ensures
    ∙ all_made (instances c.args.context) c.args.config_statements.now c.config_statements.config_statement-index c.config_statements.spawned.items (omega arith) refl ∙ c.config_statements.invariant
