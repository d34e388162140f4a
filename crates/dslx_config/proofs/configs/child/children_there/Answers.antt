use Rattle.std.proofs.Common.{◌+◌, ◌∙◌, List, Option, Some, ap, drop, map, refl, sym, arith}
use Rattle.dslx_tree.specs.declared.process.ConfigStatement.{ConfigStatement}
use Rattle.dslx_core.specs.declared.design.Child.{Child}
use Rattle.dslx_meaning.specs.Network.{Held}
use Rattle.dslx_core.specs.Networks.Configs.{ProcInstance, lower_children}
use Rattle.dslx_scope_names.specs.Values.Seen.{scope_seen}
use Rattle.dslx_scope_names.specs.declared.values.context.ScopeEnv.{ScopeEnv}
use Rattle.dslx_config.specs.Configs.Shown.{held}
use Rattle.dslx_scope_names.proofs.Lemmas.Numbers.InOrder.{behind}
use Rattle.dslx_config.proofs.OnConfigs.InOrder.{all_made, next_made, next_missing, next_passed}
use Rattle.dslx_config.proofs.OnConfigs.ConfigStatements.{channel_made, made_child, no_child}
use Rattle.dslx_config.proofs.configs.child.children_there.Goals as goal
use Rattle.dslx_config.proofs.configs.child.children_there.Goals.{in-Spawn+in_ok-child-in-Spawn+in-Some+in_ok-push-in-Some, in-Channel}

abbrev children : ScopeEnv → List Held → List ProcInstance → List ConfigStatement → Option (List Child)
children context ends procs ms = lower_children context.text.now (scope_seen context) ends procs ms

pub returns-in-None : goal.returns-in-None
returns-in-None c =
    next_missing (children c.args.context (map held c.args.ends.now) c.args.procs.now) c.args.config_statements.now c.config_statements.config_statement-index c.config_statement-item.result c.config_statements.children.items (omega arith) c.config_statement-item.is
    (no_child c.args.context.text.now (scope_seen c.args.context) (map held c.args.ends.now) c.args.procs.now c.config_statement-item.result c.in-Spawn.spawn c.in-Spawn.is (sym c.in_ok-child-in-Spawn.ensures ∙ c.in-None.is))
    ∙ c.config_statements.invariant

pub config_statements-preserved : goal.config_statements-preserved
config_statements-preserved c =
    elim c.match-config_statement.branch [
      | in-Spawn+in_ok-child-in-Spawn+in-Some+in_ok-push-in-Some w ↦
          ap (λ (cs : List Child). behind cs (children c.args.context (map held c.args.ends.now) c.args.procs.now (drop (c.config_statements.config_statement-index + 1) c.args.config_statements.now))) (ap (λ (v : _). v.items) w.children-is ∙ w.in_ok-push-in-Some.ensures.items)
          ∙ next_made (children c.args.context (map held c.args.ends.now) c.args.procs.now) c.args.config_statements.now c.config_statements.config_statement-index c.config_statement-item.result c.config_statements.children.items w.in-Some.child (omega arith) c.config_statement-item.is
          (made_child c.args.context.text.now (scope_seen c.args.context) (map held c.args.ends.now) c.args.procs.now c.config_statement-item.result w.in-Spawn.spawn w.in-Some.child w.in-Spawn.is (sym w.in_ok-child-in-Spawn.ensures ∙ w.in-Some.is))
          ∙ c.config_statements.invariant
      | in-Channel w ↦
          ap (λ (cs : List Child). behind cs (children c.args.context (map held c.args.ends.now) c.args.procs.now (drop (c.config_statements.config_statement-index + 1) c.args.config_statements.now))) (ap (λ (v : _). v.items) w.children-is)
          ∙ next_passed (children c.args.context (map held c.args.ends.now) c.args.procs.now) c.args.config_statements.now c.config_statements.config_statement-index c.config_statement-item.result c.config_statements.children.items (omega arith) c.config_statement-item.is
          (channel_made c.args.context.text.now (scope_seen c.args.context) (map held c.args.ends.now) c.args.procs.now c.config_statement-item.result w.in-Channel.field-0 w.in-Channel.is) ∙ c.config_statements.invariant
    ]

pub returns : goal.returns
returns c =
    ap Some c.from_vec.ensures
    ∙ all_made (children c.args.context (map held c.args.ends.now) c.args.procs.now) c.args.config_statements.now c.config_statements.config_statement-index c.config_statements.children.items (omega arith) refl ∙ c.config_statements.invariant
