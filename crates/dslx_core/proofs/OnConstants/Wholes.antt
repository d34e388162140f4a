-- What the rules know of a text is of that text.
use Rattle.std.proofs.Common.{◌*◌, ◌≡◌, ℕ, zero, suc, length, refl}
use Rattle.dslx_tree.specs.declared.item.Module.{Module}
use Rattle.dslx_meaning.specs.Rules.ModuleRules.{globals_of, globals_within}

within_whole : (m : Module) (n : ℕ) → (globals_within m n).whole ≡ m
within_whole m zero = refl
within_whole m (suc n) = within_whole m n

pub globals_whole : (m : Module) → (globals_of m).whole ≡ m
globals_whole m = within_whole m (2 * length m.items)
