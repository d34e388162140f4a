-- Names of builtins and effects.
use Rattle.std.proofs.Common.{◌≡◌, ◌∙◌, ℕ, Bool, true, false, List, not, refl, ap}
use Rattle.dslx_meaning.specs.Callees.{CallKind, Calls, is_own_name, kind_of_call}
use Rattle.dslx_meaning.specs.Names.Called.{kind_of}
use Rattle.dslx_meaning.specs.declared.names.callee.Callee.{Callee}
use Rattle.dslx_meaning.specs.declared.names.callee.Callee.TheVariants as callee
use Rattle.dslx_check_facts.specs.Callees.{is_function_callee}

-- any but functions of the text
abbrev is_other : CallKind → Bool
is_other Calls = false
is_other _ = true

other_by_callee : (c : Callee) → not (is_function_callee c) ≡ is_other (kind_of c)
other_by_callee callee.Join = refl
other_by_callee callee.Receive = refl
other_by_callee callee.ReceiveIf = refl
other_by_callee callee.Send = refl
other_by_callee callee.SendIf = refl
other_by_callee callee.CountLeading = refl
other_by_callee callee.CountTrailing = refl
other_by_callee callee.Reverse = refl
other_by_callee callee.AllOnes = refl
other_by_callee callee.SomeOne = refl
other_by_callee callee.Parity = refl
other_by_callee callee.Update = refl
other_by_callee callee.Function = refl

own_is : (name : List ℕ) → is_other (kind_of_call name) ≡ is_own_name name
own_is name = refl

pub own_by_callee : (c : Callee) (name : List ℕ) → kind_of c ≡ kind_of_call name → not (is_function_callee c) ≡ is_own_name name
own_by_callee c name e = other_by_callee c ∙ ap is_other e ∙ own_is name
