-- Arguments in their scope, one after the other.
use Rattle.std.proofs.Common.{◌≡◌, ◌∙◌, ◌<◌, ◌≤◌, ◌+◌, ℕ, suc, Bool, true, false, List, [], ◌∷◌, ◌++◌, Option, Some, None, drop, length, map, get_or, refl, sym, ap, arith, if◌then◌else◌}
use Rattle.std.specs.Option.{option_map}
use Rattle.std.proofs.Math.ListN.{drop_of_length-le}
use Rattle.std.proofs.Math.Seq.{drop-cons}
use Rattle.dslx_tree.specs.declared.item.Field.{Field}
use Rattle.dslx_tree.specs.declared.item.Module.{Module}
use Rattle.dslx_meaning.specs.Environment.{Meanings}
use Rattle.dslx_meaning.specs.Items.{meanings_of, put_first}
use Rattle.dslx_meaning.specs.Lists.{all_some, and_then}
use Rattle.dslx_meaning.specs.declared.ty.DslxType.{DslxType}
use Rattle.dslx_meaning.specs.declared.names.scope.Binding.{Binding}
use Rattle.dslx_core.specs.Lowering.CoreScopes.{BoundSlot, BodyEnv, CoreScope}
use Rattle.dslx_core.specs.Lowering.Functions.{argument_types, arguments_in_scope, outer_scope}
use Rattle.dslx_core.specs.Lowering.Trees.{lower_type_of_text}
use Rattle.dslx_core.specs.Machines.Machine.Callees.{CalleesByName}
use Rattle.dslx_scope_names.specs.Numbers.InScope.{arguments_of, arguments_shown, globals_with, locals_in_scope}
use Rattle.dslx_scope_names.specs.declared.parametric_args.arguments.Arguments.{Arguments}
use Rattle.dslx_scope_names.proofs.Lemmas.Numbers.InOrder.{behind, behind_all, behind_more, behind_none}

-- ---- what each makes of it

module _ {A B : Type 0} (f : A → Option B) where
  first_there : (b : B) (os : List (Option B)) → all_some (Some b ∷ os) ≡ put_first b (all_some os)
  first_there b os = refl

  next_is : (xs : List A) (i : ℕ) (x : A) (bs : List B) (o : Option B) → i < length xs → x ≡ get_or xs i x → o ≡ f x
      → behind bs (all_some (map f (drop i xs))) ≡ behind bs (all_some (o ∷ map f (drop (suc i) xs)))
  next_is xs i x bs o within at is =
      ap (λ (ys : List A). behind bs (all_some (map f ys))) (drop-cons xs i x within ∙ ap (λ (y : A). y ∷ drop (suc i) xs) (sym at))
      ∙ ap (λ (r : Option B). behind bs (all_some (r ∷ map f (drop (suc i) xs)))) (sym is)

  -- the next one makes something
  pub next_made : (xs : List A) (i : ℕ) (x : A) (bs : List B) (b : B) → i < length xs → x ≡ get_or xs i x → Some b ≡ f x
      → behind (bs ++ b ∷ []) (all_some (map f (drop (i + 1) xs))) ≡ behind bs (all_some (map f (drop i xs)))
  next_made xs i x bs b within at is =
      let next : i + 1 ≡ suc i = omega arith in
      behind_more bs b (all_some (map f (drop (i + 1) xs)))
      ∙ ap (λ (n : ℕ). behind bs (put_first b (all_some (map f (drop n xs))))) next
      ∙ ap (behind bs) (sym (first_there b (map f (drop (suc i) xs))))
      ∙ sym (next_is xs i x bs (Some b) within at is)

  -- the next one makes nothing
  pub next_makes_none : (xs : List A) (i : ℕ) (x : A) (bs : List B) → i < length xs → x ≡ get_or xs i x → None ≡ f x → None ≡ behind bs (all_some (map f (drop i xs)))
  next_makes_none xs i x bs within at is = sym (behind_none bs) ∙ sym (next_is xs i x bs None within at is)

  -- none is left
  pub all_made : (xs : List A) (i : ℕ) (bs : List B) → length xs ≤ i → Some bs ≡ behind bs (all_some (map f (drop i xs)))
  all_made xs i bs past = sym (behind_all bs) ∙ sym (ap (λ (ys : List A). behind bs (all_some (map f ys))) (drop_of_length-le xs past))

-- ---- where they are bound

by_test : {A : Type 0} (b : Bool) (o : Option A) → None ≡ o → None ≡ (if b then None else o)
by_test true o e = refl
by_test false o e = e

-- not as many types as arguments
pub uneven : (items : Meanings) (fs : List Field) (ts : List DslxType) (locals : List BoundSlot) (n : ℕ) → (length fs ≡ length ts → ⊥) → None ≡ locals_in_scope items fs ts locals n
uneven items [] [] locals n other = absurd (other refl)
uneven items [] (t ∷ ts) locals n other = refl
uneven items (f ∷ fs) [] locals n other = refl
uneven items (f ∷ fs) (t ∷ ts) locals n other =
    by_test (items.is_constant f.name.name) (locals_in_scope items fs ts (record { name = f.name.name; slot = n; ty = t } ∷ locals) (suc n)) (uneven items fs ts _ (suc n) (λ same. other (ap suc same)))

step : (b : Bool) (o : Option CoreScope) (l : Option (List BoundSlot)) (put : List BoundSlot → CoreScope) → o ≡ option_map put l → (if b then None else o) ≡ option_map put (if b then None else l)
step true o l put e = refl
step false o l put e = e

located : (known : BodyEnv) (fs : List Field) (ts : List DslxType) (locals : List BoundSlot) (n m : ℕ) → m ≡ length fs + n
    → arguments_in_scope fs ts (record { known = known; locals = locals; count = n }) ≡ option_map (λ (ls : List BoundSlot). record { known = known; locals = ls; count = m }) (locals_in_scope known.items fs ts locals n)
located known [] [] locals n m e = let same : n ≡ m = omega arith in λ i. Some (record { known = known; locals = locals; count = same i })
located known [] (t ∷ ts) locals n m e = refl
located known (f ∷ fs) [] locals n m e = refl
located known (f ∷ fs) (t ∷ ts) locals n m e =
    let next : m ≡ length fs + suc n = omega arith in
    step (known.items.is_constant f.name.name) _ (locals_in_scope known.items fs ts (record { name = f.name.name; slot = n; ty = t } ∷ locals) (suc n)) (λ (ls : List BoundSlot). record { known = known; locals = ls; count = m })
    (located known fs ts (record { name = f.name.name; slot = n; ty = t } ∷ locals) (suc n) m next)

-- arguments of these types
abbrev pub arguments_with : List DslxType → ℕ → List BoundSlot → Arguments
arguments_with ts n locals = record { types = ts; locals = locals; count = n }

shown_by : (callee : CalleesByName) (m : Module) (parametric_args : List Binding) (ts : List DslxType) (n : ℕ) (l : Option (List BoundSlot))
    → arguments_shown callee m parametric_args (option_map (arguments_with ts n) l)
    ≡ and_then (option_map (λ (ls : List BoundSlot). record { known = globals_with callee m parametric_args; locals = ls; count = n }) l) (λ (scope : CoreScope). Some (ts, scope))
shown_by callee m parametric_args ts n None = refl
shown_by callee m parametric_args ts n (Some ls) = refl

-- the types are there
pub are_in_scope : (callee : CalleesByName) (m : Module) (parametric_args : List Binding) (fs : List Field) (ts : List DslxType) (found : Option Arguments) → Some ts ≡ argument_types (globals_with callee m parametric_args) fs
    → found ≡ option_map (arguments_with ts (length fs)) (locals_in_scope (meanings_of m) fs ts [] 0) → arguments_shown callee m parametric_args found ≡ arguments_of (globals_with callee m parametric_args) fs
are_in_scope callee m parametric_args fs ts found types is =
    let known : BodyEnv = globals_with callee m parametric_args in
    let count : length fs ≡ length fs + 0 = omega arith in
    ap (arguments_shown callee m parametric_args) is ∙ shown_by callee m parametric_args ts (length fs) (locals_in_scope (meanings_of m) fs ts [] 0)
    ∙ ap (λ (o : Option CoreScope). and_then o (λ (scope : CoreScope). Some (ts, scope))) (sym (located known fs ts [] 0 (length fs) count))
    ∙ ap (λ (o : Option (List DslxType)). and_then o (λ (us : List DslxType). and_then (arguments_in_scope fs us (outer_scope known)) (λ (scope : CoreScope). Some (us, scope)))) types

-- a type isn't there
pub are_not_in_scope : (callee : CalleesByName) (m : Module) (parametric_args : List Binding) (fs : List Field) → None ≡ argument_types (globals_with callee m parametric_args) fs → None ≡ arguments_of (globals_with callee m parametric_args) fs
are_not_in_scope callee m parametric_args fs none =
    ap (λ (o : Option (List DslxType)). and_then o (λ (us : List DslxType). and_then (arguments_in_scope fs us (outer_scope (globals_with callee m parametric_args))) (λ (scope : CoreScope). Some (us, scope)))) none

-- the types in a scope where nothing is bound
pub types_there : (known : BodyEnv) (locals : List BoundSlot) (fs : List Field) → locals ≡ []
    → all_some (map (λ (f : Field). lower_type_of_text f.ty (record { known = known; locals = locals; count = 0 })) fs) ≡ argument_types known fs
types_there known locals fs none = ap (λ (ls : List BoundSlot). all_some (map (λ (f : Field). lower_type_of_text f.ty (record { known = known; locals = ls; count = 0 })) fs)) none
