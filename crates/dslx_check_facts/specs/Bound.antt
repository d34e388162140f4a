-- Names with what they stand for, the last one first.
use Rattle.std.specs.Prelude.{ℕ, List, [], ◌∷◌, map, Option, Some, None, if◌then◌else◌}
use Rattle.std.specs.Borrow.{Bor}
use Rattle.std.specs.Str.{bytes_eq}
use Rattle.dslx_check_facts.specs.declared.bindings.Binding.{Binding}

abbrev pub bound_of : {T : Type 0} → Binding T → List ℕ × T
bound_of b = (b.name.now, b.value)

abbrev pub lent_of : {T : Type 0} → Bor (List ℕ) × Bor T → List ℕ × T
lent_of b = (b.0.now, b.1.now)

-- what the last one of a name stands for
abbrev pub bound_in : {T : Type 0} → List ℕ → List (List ℕ × T) → Option T
bound_in name [] = None
bound_in name (b ∷ bs) = if bytes_eq name b.0 then Some b.1 else bound_in name bs

abbrev pub bound_names : {T : Type 0} → List (List ℕ × T) → List (List ℕ)
bound_names bs = map (λ b. b.0) bs
