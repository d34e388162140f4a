-- What instances reach by so many calls and spawns is all among what has them and what it reaches itself.
use Rattle.std.proofs.Common.{◌≡◌, inl, inr, ◌++◌, ◌*◌, ℕ, zero, suc, length, Bool, true, List, [], Option}
use Rattle.std.specs.Prelude.{flat_map}
use Rattle.dslx_tree.specs.declared.item.Module.{Module}
use Rattle.dslx_meaning.specs.Rules.TypeEnvs.{Instance, GlobalEnv}
use Rattle.dslx_meaning.specs.Rules.ModuleRules.{add_new, found_of_instance, instances_of, globals_of, globals_within, outside_instances, own_instances, reached_next, reached_within}
use Rattle.dslx_core.specs.Typing.TypingRelations.Closed.{IsLeastClosed, IsOneOf}
use Rattle.dslx_core.proofs.OnTyping.OnTyping.Closed.{all_added, from_flat, in_either, in_first, in_second, old_or_new, one_reached, outside_reached, reached_from, reaching_ends, steps_keep, still_reached}

-- each of these passes the test
abbrev AllPass : (Instance → Bool) → List Instance → Type 0
AllPass P is = (i : Instance) → IsOneOf i is → P i ≡ true

added_pass : (P : Instance → Bool) (found is : List Instance) → AllPass P found → AllPass P is → AllPass P (add_new found is)
added_pass P found is f g i h = elim (old_or_new i found is h) [
  | inl old ↦ f i old
  | inr new ↦ g i new.0
]

module _ (known : GlobalEnv) (P : Instance → Bool) (kept : (i j : Instance) → P i ≡ true → IsOneOf j (found_of_instance known i).reached → P j ≡ true) where
  reached_pass : (found : List Instance) → AllPass P found → AllPass P (flat_map (reached_from known) found)
  reached_pass found f i h = let r = from_flat (reached_from known) i found h in kept r.by i (f r.by r.among) r.reached

  pub within_pass : (n : ℕ) (found : List Instance) → AllPass P found → AllPass P (reached_within known n found)
  within_pass zero found f = f
  within_pass (suc n) found f = within_pass n (reached_next known found) (added_pass P found (flat_map (reached_from known) found) f (reached_pass found f))

pub reached_least : (m : Module) (a : ℕ) (start : List Instance) → IsLeastClosed (globals_within m a) start (reached_within (globals_within m a) (length m.items) start)
reached_least m a start = record {
  starts = λ i h. steps_keep (globals_within m a) i (length m.items) start (one_reached i start h);
  closed = reaching_ends m a start;
  least = λ P first kept. within_pass (globals_within m a) P kept (length m.items) start first;
}

pub checked_least : (m : Module) (top : Option (List ℕ)) → IsLeastClosed (globals_of m) (own_instances m.items ++ (outside_instances m top).reached) (instances_of m top)
checked_least m top =
    let own = own_instances m.items in
    let outside = (outside_instances m top).reached in
    let l = reached_least m (2 * length m.items) (add_new (add_new [] own) outside) in
    record {
      starts = λ i h. elim (in_either i own outside h) [
        | inl p ↦ steps_keep (globals_of m) i (length m.items) (add_new (add_new [] own) outside) (still_reached i (add_new [] own) outside (all_added i [] own p))
        | inr q ↦ outside_reached m top i q
      ];
      closed = l.closed;
      least = λ P first kept.
          let of_own : AllPass P (add_new [] own) = added_pass P [] own (λ i h. absurd h) (λ i h. first i (in_first i own outside h)) in
          l.least P (added_pass P (add_new [] own) outside of_own (λ i h. first i (in_second i own outside h))) kept;
    }
