-- Where no fault is named, no check says that something is broken.
use Rattle.std.proofs.Common.{◌≡◌, List, [], ◌∷◌, ◌++◌, Bool, true, false, ◌&&◌, IsTrue, Some, None, refl, sym, ◌∙◌}
use Rattle.std.specs.Prelude.{not, if◌then◌else◌}
use Rattle.std.proofs.lemmas.List.Folds.{list_all-append}
use Rattle.xb_span.specs.declared.fault.Fault.{Fault}
use Rattle.xb_span.specs.Fault.{precedes}
use Rattle.ir_tree.specs.Rules.Checks.{Check, note, noted}
use Rattle.ir_tree.specs.Rules.Typed.Typed.{none_broken}

pub both_true : (a b : Bool) → IsTrue (a && b) → IsTrue a × IsTrue b
both_true true true h = (refl, refl)
both_true true false h = absurd (cc)
both_true false b h = absurd (cc)

pub and_true : (a b : Bool) → IsTrue a → IsTrue b → IsTrue (a && b)
and_true true b h k = k
and_true false b h k = absurd (cc)

pub not_true : (b : Bool) → IsTrue (not b) → b ≡ false
not_true true h = absurd (cc)
not_true false h = refl

pub not_not_true : (b : Bool) → IsTrue (not (not b)) → b ≡ true
not_not_true true h = refl
not_not_true false h = absurd (cc)

held_or : (b : Bool) (g f : Fault) (cs : List Check) → ((h : Fault) → noted (Some h) cs ≡ None → ⊥) → noted (if b then Some g else Some f) cs ≡ None → ⊥
held_or true g f cs k e = k g e
held_or false g f cs k e = k f e

note_or : (b : Bool) (g f : Fault) (cs : List Check) → ((h : Fault) → noted (Some h) cs ≡ None → ⊥) → noted (note b g (Some f)) cs ≡ None → ⊥
note_or false g f cs k e = k f e
note_or true g f cs k e = held_or (precedes g f) g f cs k e

-- a fault that was found stays
some_stays : (cs : List Check) (f : Fault) → noted (Some f) cs ≡ None → ⊥
some_stays [] f e = cc
some_stays (c ∷ cs) f e = note_or c.broken c.fault f cs (some_stays cs) e

first_not : (b : Bool) (g : Fault) (cs : List Check) → (noted None cs ≡ None → IsTrue (none_broken cs)) → noted (note b g None) cs ≡ None → IsTrue (not b && none_broken cs)
first_not true g cs k e = absurd (some_stays cs g e)
first_not false g cs k e = k e

pub none_noted : (cs : List Check) → noted None cs ≡ None → IsTrue (none_broken cs)
none_noted [] e = refl
none_noted (c ∷ cs) e = first_not c.broken c.fault cs (none_noted cs) e

pub parts_not : (xs ys : List Check) → IsTrue (none_broken (xs ++ ys)) → IsTrue (none_broken xs) × IsTrue (none_broken ys)
parts_not xs ys h = both_true _ _ (sym (list_all-append (λ (c : Check). not c.broken) xs ys) ∙ h)
