use Rattle.std.proofs.Common.{◌≡◌, ◌&&◌, [], drop, length}
use Rattle.std.specs.List.{list_all}
use Rattle.dslx_meaning.specs.Rules.TypeEnvs.{GlobalEnv}
use Rattle.dslx_check_facts.specs.Known.{FactsHold, item_names}
use Rattle.dslx_check_facts.specs.Walks.{OnlyMisses, WalkShown, instances_at, shown}
use Rattle.dslx_check_facts.proofs.lookups.reached_since.Given as goal

abbrev pub invariant-instances : goal.invariant-instances
invariant-instances l =
    record {
      counted : l.count ≡ length (shown l.initial.w).reached;
      misses : OnlyMisses (shown l.initial.w) (shown l.w);
      sound : (known : GlobalEnv) (later : WalkShown) → FactsHold l.f later known → (shown l.w).missing ≡ []
          → (l.all.sound && list_all known.is_sound (instances_at (item_names l.f) later.met (drop l.i (shown l.initial.w).reached)))
          ≡ list_all known.is_sound (instances_at (item_names l.f) later.met (drop l.from (shown l.initial.w).reached));
      unbroken : (known : GlobalEnv) (later : WalkShown) → FactsHold l.f later known → (shown l.w).missing ≡ []
          → (l.all.unbroken && list_all known.is_unbroken (instances_at (item_names l.f) later.met (drop l.i (shown l.initial.w).reached)))
          ≡ list_all known.is_unbroken (instances_at (item_names l.f) later.met (drop l.from (shown l.initial.w).reached));
    }
