-- What registers take at a clock edge.
use Rattle.std.proofs.Common.{◌≡◌, ℕ, zero, suc, ◌<◌, List, [], ◌∷◌, refl, ap, subst, ◌∙◌, arith, cond, true, false, eqb, Some, ◌++◌}
use Rattle.std.specs.Prelude.{slice_get}
use Rattle.std.proofs.lemmas.Bool.Decides.{nat_tests}
use Rattle.vlog_tree.specs.declared.module.Assignment.{Assignment}
use Rattle.vlog_tree.specs.declared.module.Set.{Set}
use Rattle.vlog_tree.specs.declared.module.VModule.{VModule}
use Rattle.vlog_tree.specs.Meaning.{AreDriven, IsNow, taken_by}
use Rattle.vlog_tree.specs.Value.{Values, atom_value}
use Rattle.block_build.specs.Netlist.Wires.{Wire, AreWired, assigned}

-- no set among these is for a register
abbrev IsUnset : List Set → ℕ → Type 0
IsUnset sets r = (k : ℕ) (other : Set) → slice_get sets k ≡ Some other → other.target.0 ≡ r → ⊥

apart : (m n : ℕ) → (m ≡ n → ⊥) → eqb m n ≡ false
apart m n h = grind (arith, nat_tests)

same : (n : ℕ) → eqb n n ≡ true
same n = grind (arith, nat_tests)

pub unset_stays : (sets : List Set) (values held : Values) (r : ℕ) → IsUnset sets r → taken_by sets values held r ≡ held r
unset_stays [] values held r h = refl
unset_stays (set ∷ sets) values held r h =
    unset_stays sets values (λ s. cond (eqb set.target.0 s) (atom_value values set.value) (held s)) r (λ k other there is. h (suc k) other there is)
    ∙ ap (λ t. cond t (atom_value values set.value) (held r)) (apart set.target.0 r (λ e. h 0 set refl e))

pub set_is_taken : (sets : List Set) (values held : Values) (i : ℕ) (set : Set) → slice_get sets i ≡ Some set → ((k : ℕ) (other : Set) → i < k → slice_get sets k ≡ Some other → other.target.0 ≡ set.target.0 → ⊥)
    → taken_by sets values held set.target.0 ≡ atom_value values set.value
set_is_taken [] values held i set e last = absurd (cc)
set_is_taken (x ∷ sets) values held zero set e last =
    let is : x ≡ set = cc in
    unset_stays sets values (λ s. cond (eqb x.target.0 s) (atom_value values x.value) (held s)) set.target.0 (λ k other there t. last (suc k) other (omega arith) there t)
    ∙ ap (λ (y : Set). cond (eqb y.target.0 set.target.0) (atom_value values y.value) (held set.target.0)) is
    ∙ ap (λ t. cond t (atom_value values set.value) (held set.target.0)) (same set.target.0)
set_is_taken (x ∷ sets) values held (suc i) set e last =
    set_is_taken sets values (λ s. cond (eqb x.target.0 s) (atom_value values x.value) (held s)) i set e (λ k other l there t. last (suc k) other (omega (arith, l)) there t)

-- the wires among a module's assignments
first_driven : (values : Values) (xs ys : List Assignment) → AreDriven values (xs ++ ys) → AreDriven values xs
first_driven values [] ys h = tt
first_driven values (x ∷ xs) ys h = (h.0, first_driven values xs ys h.1)

pub module_wires_are_driven : (m : VModule) (n : ℕ) (wires : List Wire) (outputs : List Assignment) (held given values : Values) → m.assignments ≡ assigned n wires ++ outputs → IsNow m held given values → AreWired values n wires
module_wires_are_driven m n wires outputs held given values e is = first_driven values (assigned n wires) outputs (subst (AreDriven values) e is.wires)
