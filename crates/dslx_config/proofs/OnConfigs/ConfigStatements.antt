-- What a `config` makes, one after another.
use Rattle.std.proofs.Common.{◌≡◌, ◌∙◌, List, ◌∷◌, Some, None, ap}
use Rattle.dslx_tree.specs.declared.item.Module.{Module}
use Rattle.dslx_tree.specs.declared.process.Channel.{Channel}
use Rattle.dslx_tree.specs.declared.process.Spawn.{Spawn}
use Rattle.dslx_tree.specs.declared.process.ConfigStatement.{ConfigStatement}
use Rattle.dslx_tree.specs.declared.process.ConfigStatement.TheVariants as config_statement
use Rattle.dslx_meaning.specs.Items.{put_first}
use Rattle.dslx_meaning.specs.Network.{Held}
use Rattle.dslx_core.specs.declared.design.Child.{Child}
use Rattle.dslx_core.specs.declared.design.MadeChannel.{MadeChannel}
use Rattle.dslx_core.specs.Lowering.CoreScopes.{CoreScope}
use Rattle.dslx_core.specs.Lowering.Functions.{Instantiated}
use Rattle.dslx_core.specs.Networks.Configs.{ProcInstance, lower_channel, lower_child, lower_children, lower_made}
use Rattle.dslx_config.specs.Configs.Spawned.{spawned_instance, spawned_instances}
use Rattle.dslx_config.proofs.OnConfigs.InOrder.{made_first, missing_first}

-- ---- channels

module _ (scope : CoreScope) (part : ConfigStatement) where
  pub made_channel : (c : Channel) (made : MadeChannel) → part ≡ config_statement.Channel c → lower_channel scope c ≡ Some made
      → (rest : List ConfigStatement) → lower_made scope (part ∷ rest) ≡ put_first made (lower_made scope rest)
  made_channel c made is lowered rest =
      ap (λ (m : ConfigStatement). lower_made scope (m ∷ rest)) is ∙ made_first (lower_channel scope c) made (lower_made scope rest) lowered

  pub no_channel : (c : Channel) → part ≡ config_statement.Channel c → lower_channel scope c ≡ None → (rest : List ConfigStatement) → lower_made scope (part ∷ rest) ≡ None
  no_channel c is lowered rest = ap (λ (m : ConfigStatement). lower_made scope (m ∷ rest)) is ∙ missing_first (lower_channel scope c) (lower_made scope rest) lowered

  pub spawned : (s : Spawn) → part ≡ config_statement.Spawn s → (rest : List ConfigStatement) → lower_made scope (part ∷ rest) ≡ lower_made scope rest
  spawned s is rest = ap (λ (m : ConfigStatement). lower_made scope (m ∷ rest)) is

-- ---- children

module _ (m : Module) (scope : CoreScope) (ends : List Held) (procs : List ProcInstance) (part : ConfigStatement) where
  pub made_child : (s : Spawn) (child : Child) → part ≡ config_statement.Spawn s → lower_child m scope ends procs s ≡ Some child
      → (rest : List ConfigStatement) → lower_children m scope ends procs (part ∷ rest) ≡ put_first child (lower_children m scope ends procs rest)
  made_child s child is lowered rest =
      ap (λ (n : ConfigStatement). lower_children m scope ends procs (n ∷ rest)) is
      ∙ made_first (lower_child m scope ends procs s) child (lower_children m scope ends procs rest) lowered

  pub no_child : (s : Spawn) → part ≡ config_statement.Spawn s → lower_child m scope ends procs s ≡ None → (rest : List ConfigStatement) → lower_children m scope ends procs (part ∷ rest) ≡ None
  no_child s is lowered rest =
      ap (λ (n : ConfigStatement). lower_children m scope ends procs (n ∷ rest)) is
      ∙ missing_first (lower_child m scope ends procs s) (lower_children m scope ends procs rest) lowered

  pub channel_made : (c : Channel) → part ≡ config_statement.Channel c → (rest : List ConfigStatement) → lower_children m scope ends procs (part ∷ rest) ≡ lower_children m scope ends procs rest
  channel_made c is rest = ap (λ (n : ConfigStatement). lower_children m scope ends procs (n ∷ rest)) is

-- ---- instances

module _ (m : Module) (scope : CoreScope) (part : ConfigStatement) where
  pub spawned_first : (s : Spawn) (i : Instantiated) → part ≡ config_statement.Spawn s → spawned_instance m scope s ≡ Some i
      → (rest : List ConfigStatement) → spawned_instances m scope (part ∷ rest) ≡ put_first i (spawned_instances m scope rest)
  spawned_first s i is comes rest =
      ap (λ (n : ConfigStatement). spawned_instances m scope (n ∷ rest)) is
      ∙ made_first (spawned_instance m scope s) i (spawned_instances m scope rest) comes

  pub no_instance : (s : Spawn) → part ≡ config_statement.Spawn s → spawned_instance m scope s ≡ None → (rest : List ConfigStatement) → spawned_instances m scope (part ∷ rest) ≡ None
  no_instance s is none rest =
      ap (λ (n : ConfigStatement). spawned_instances m scope (n ∷ rest)) is
      ∙ missing_first (spawned_instance m scope s) (spawned_instances m scope rest) none

  pub channel_spawns_none : (c : Channel) → part ≡ config_statement.Channel c → (rest : List ConfigStatement) → spawned_instances m scope (part ∷ rest) ≡ spawned_instances m scope rest
  channel_spawns_none c is rest = ap (λ (n : ConfigStatement). spawned_instances m scope (n ∷ rest)) is
