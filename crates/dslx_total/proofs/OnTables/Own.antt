-- A test of values that are of their own types.
use Rattle.std.proofs.Common.{◌≡◌, ◌&&◌, Bool, true, List, [], ◌∷◌, Some, refl, sym, subst, ◌∙◌}
use Rattle.std.specs.List.{list_all}
use Rattle.dslx_meaning.specs.Values.{type_of_value}
use Rattle.dslx_meaning.specs.declared.value.DslxValue.{DslxValue}
use Rattle.dslx_core.proofs.Lemmas.Typing.Laws.{and_true}
use Rattle.dslx_core.specs.Typing.Typed.Declared.{Declarations, as_declared}
use Rattle.dslx_core.specs.Typing.Typed.Given.{GivesOf}
use Rattle.dslx_core.specs.Typing.Typed.Kinds.{is_of}
use Rattle.dslx_core.specs.Typing.Typed.Numbers.{AllOwn}
use Rattle.dslx_core.proofs.Lemmas.Typing.Typed.{one_type, same_some}

-- it is of its type with each struct and each enum replaced by what its name stands for: so nothing was to be replaced
abbrev pub is_own : Declarations → DslxValue → Bool
is_own types v = is_of (as_declared types (type_of_value v)) v

abbrev pub are_own : Declarations → List DslxValue → Bool
are_own types vs = list_all (is_own types) vs

own_there : (types : Declarations) (v : DslxValue) → is_own types v ≡ true → GivesOf types (type_of_value v) (Some v)
own_there types v e =
    let same = one_type (as_declared types (type_of_value v)) v e in
    record { value = v; is = refl; of = subst (λ t. is_of t v ≡ true) (sym same) e; declared = sym same }

own_passes : (types : Declarations) (v : DslxValue) → GivesOf types (type_of_value v) (Some v) → is_own types v ≡ true
own_passes types v g = (λ i. is_of (g.declared i) (same_some v g.value g.is i)) ∙ g.of

pub all_own_there : (types : Declarations) (vs : List DslxValue) → are_own types vs ≡ true → AllOwn types vs
all_own_there types [] e = tt
all_own_there types (v ∷ vs) e = let q = and_true (is_own types v) (are_own types vs) e in (own_there types v q.0, all_own_there types vs q.1)

pub all_own_pass : (types : Declarations) (vs : List DslxValue) → AllOwn types vs → are_own types vs ≡ true
all_own_pass types [] h = refl
all_own_pass types (v ∷ vs) h = λ i. own_passes types v h.0 i && all_own_pass types vs h.1 i
