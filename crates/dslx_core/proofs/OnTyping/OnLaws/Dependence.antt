-- The value of each part of a text depends on what it mentions alone.
use Rattle.std.proofs.Common.{◌≡◌, ℕ, Bool, true, false, not, List, [], ◌∷◌, ◌++◌, map, Option, Some, None, if◌then◌else◌, refl, ap, subst}
use Rattle.std.specs.List.{list_all}
use Rattle.dslx_tree.specs.declared.block.Stmt.TheOpen.{Stmt-F, Node-F, Shape-F, TypeNode-F}
use Rattle.dslx_tree.proofs.Lemmas.Folds.Levels.{Carriers, StmtLevel, NodeLevel, ShapeLevel, TypeNodeLevel, BlockLevel, LetLevel, ArmLevel, FieldValueLevel, ForLevel, NumberLevel, map_stmt, map_node, map_shape, map_type_node, map_block, map_bind, map_arm, map_field, map_loop, map_number}
use Rattle.dslx_tree.proofs.Lemmas.Folds.Folds.{Steps}
use Rattle.dslx_tree.proofs.Lemmas.Folds.Related.{Relations, both, firsts, seconds, KeepRelated}
use Rattle.dslx_meaning.specs.Lists.{all_some, and_then, with_both, where_true, is_in}
use Rattle.dslx_meaning.specs.Callees.{CallKind, Calls, kind_of_call, is_text_function}
use Rattle.dslx_meaning.specs.Types.{bits_in}
use Rattle.dslx_meaning.specs.Values.{bits_of, elements_of, bool_value}
use Rattle.dslx_meaning.specs.Operators.{number_value, truth, binary_value, prefix_value, cast_value, slice_value, part_value, index_value, element_value}
use Rattle.dslx_meaning.specs.Environment.{Env}
use Rattle.dslx_meaning.specs.Meaning as m
use Rattle.dslx_meaning.specs.Meaning.{ValueDen, ExprDen, PatternDen, TypeDen, StmtDen, ArmDen, FieldDen}
use Rattle.dslx_meaning.specs.declared.ty.DslxType.{DslxType, out-DslxType}
use Rattle.dslx_meaning.specs.declared.ty.DslxType as ty
use Rattle.dslx_meaning.specs.declared.ty.DslxType.TheOpen.{DslxType-F}
use Rattle.dslx_meaning.specs.declared.value.DslxValue.{DslxValue, Tuple, Array, Struct}
use Rattle.dslx_meaning.specs.declared.value.UntypedLiteral.{UntypedLiteral}
use Rattle.dslx_meaning.specs.Rules.Mentions as k
use Rattle.dslx_meaning.specs.Rules.Mentions.{AsEnum, AsFunction, AsPattern, Mention, Mentions, NamesBound, mention, all_mentions, binders_mentions, binders_names, bound_behind, statements_mentions, mentions_if}
use Rattle.dslx_core.specs.Typing.Laws.Agreement.{AgreeOn}
use Rattle.dslx_core.proofs.OnTyping.OnLaws.Agreeing.{NamesAgree, ConstantsAgree, parts, three_parts, names_join, names_first, constants_join, all_constants_same, constants_values, name_same, Extend, FitAlike, unchanged, names_move, mentions_move, meaning_moves, bound_moves, one_behind, whatever_is_bound, fits_behind, binds_nothing, first_or_rest, made_alike, value_fits, name_fits}

-- ---- the two folds

abbrev pub meanings : Carriers
meanings = record {
  stmt = StmtDen;
  node = ExprDen;
  shape = PatternDen;
  type_node = TypeDen;
  block = ValueDen;
  bind = StmtDen;
  arg = ExprDen;
  arm = ArmDen;
  expr = ExprDen;
  field = FieldDen;
  loop = ValueDen;
  number = ExprDen;
  pattern = PatternDen;
  type_expr = TypeDen;
}

abbrev pub meaning_steps : Steps meanings
meaning_steps = record {
  stmt = m.stmt_den;
  node = m.node_den;
  shape = m.shape_den;
  type_node = m.type_den;
  block = m.block_den;
  bind = m.let_den;
  arg = m.arg_den;
  arm = m.arm_den;
  expr = m.expr_den;
  field = m.field_den;
  loop = m.for_den;
  number = m.number_node;
  pattern = m.pattern_den;
  type_expr = m.type_expr_den;
}

abbrev pub mentions : Carriers
mentions = record {
  stmt = NamesBound;
  node = Mentions;
  shape = NamesBound;
  type_node = Mentions;
  block = Mentions;
  bind = NamesBound;
  arg = Mentions;
  arm = Mentions;
  expr = Mentions;
  field = Mentions;
  loop = Mentions;
  number = Mentions;
  pattern = NamesBound;
  type_expr = Mentions;
}

abbrev pub mention_steps : Steps mentions
mention_steps = record {
  stmt = k.stmt_mentions;
  node = k.node_mentions;
  shape = k.shape_mentions;
  type_node = k.type_mentions;
  block = k.block_mentions;
  bind = k.let_mentions;
  arg = λ a. a.value;
  arm = k.arm_mentions;
  expr = λ e. e.node;
  field = k.field_mentions;
  loop = k.for_mentions;
  number = λ n. mentions_if n.ty;
  pattern = λ p. p.shape;
  type_expr = λ t. t.node;
}

-- ---- what holds between them

-- environments that agree on what is mentioned give one thing
abbrev pub DependsOn : {X : Type 0} → Mentions → (Env → X) → Type 0
DependsOn ms f = (bound : List (List ℕ)) (a b : Env) → NamesAgree bound a b → AgreeOn (ms bound) a b → f a ≡ f b

abbrev pub ValueDepends : ExprDen → Mentions → Type 0
ValueDepends v ms = DependsOn ms v.value

abbrev pub TypeDepends : TypeDen → Mentions → Type 0
TypeDepends t ms = DependsOn ms t

abbrev pub BlockDepends : ValueDen → Mentions → Type 0
BlockDepends f ms = DependsOn ms f

-- a statement, where the rest gives one thing behind it
abbrev pub StmtDenDepends : StmtDen → NamesBound → Type 0
StmtDenDepends g n = (bound : List (List ℕ)) (a b : Env) (rest : ValueDen) → NamesAgree bound a b → AgreeOn (n.mentions bound) a b
    → ((a' b' : Env) → Extend n.names a b a' b' → rest a' ≡ rest b') → g rest a ≡ g rest b

pub record PatternDepends (p : PatternDen) (n : NamesBound) : Type 0 where
  pub same_names : p.names ≡ n.names
  pub fits : (bound : List (List ℕ)) (a b a' b' : Env) (v : DslxValue) → NamesAgree bound a b → AgreeOn (n.mentions bound) a b → Extend [] a b a' b'
      → FitAlike n.names a' b' (p.fits a v a') (p.fits b v b')
  pub constants : (bound : List (List ℕ)) (a b : Env) → AgreeOn (n.mentions bound) a b → ConstantsAgree p.names a b

pub record ArmDepends (arm : ArmDen) (ms : Mentions) : Type 0 where
  pub taken : (bound : List (List ℕ)) (a b : Env) (v : DslxValue) (r r' : Option DslxValue) → NamesAgree bound a b → AgreeOn (ms bound) a b → r ≡ r'
      → m.take_arm arm (m.first_fit arm.patterns v a) r ≡ m.take_arm arm (m.first_fit arm.patterns v b) r'
  pub without : (bound : List (List ℕ)) (a b : Env) → NamesAgree bound a b → AgreeOn (ms bound) a b → m.value_without arm a ≡ m.value_without arm b

abbrev pub FieldDepends : FieldDen → Mentions → Type 0
FieldDepends f ms = DependsOn ms f.value

abbrev pub dependence : Relations meanings mentions
dependence = record {
  stmt = StmtDenDepends;
  node = ValueDepends;
  shape = PatternDepends;
  type_node = TypeDepends;
  block = BlockDepends;
  bind = StmtDenDepends;
  arg = ValueDepends;
  arm = ArmDepends;
  expr = ValueDepends;
  field = FieldDepends;
  loop = BlockDepends;
  number = ValueDepends;
  pattern = PatternDepends;
  type_expr = TypeDepends;
}

-- a part as what it means and what it mentions
abbrev Parts : Carriers
Parts = both meanings mentions dependence

abbrev ExprDenPart : Type 0
ExprDenPart = (v : ExprDen) × (ms : Mentions) × ValueDepends v ms

abbrev TypePart : Type 0
TypePart = (t : TypeDen) × (ms : Mentions) × TypeDepends t ms

abbrev FieldPart : Type 0
FieldPart = (f : FieldDen) × (ms : Mentions) × FieldDepends f ms

abbrev ArmPart : Type 0
ArmPart = (arm : ArmDen) × (ms : Mentions) × ArmDepends arm ms

abbrev PatternPart : Type 0
PatternPart = (p : PatternDen) × (n : NamesBound) × PatternDepends p n

abbrev StmtDenPart : Type 0
StmtDenPart = (g : StmtDen) × (n : NamesBound) × StmtDenDepends g n

-- ---- lists of parts

values_same : (xs : List ExprDenPart) (bound : List (List ℕ)) (a b : Env) → NamesAgree bound a b → AgreeOn (all_mentions (map (λ x. x.1) xs) bound) a b
    → map (λ (e : ExprDen). e.value a) (map (λ x. x.0) xs) ≡ map (λ (e : ExprDen). e.value b) (map (λ x. x.0) xs)
values_same [] bound a b n h = refl
values_same (x ∷ xs) bound a b n h =
    let r = parts a b (x.1 bound) (all_mentions (map (λ (y : ExprDenPart). y.1) xs) bound) h in
    λ i. x.2 bound a b n r.0 i ∷ values_same xs bound a b n r.1 i

types_same : (xs : List TypePart) (bound : List (List ℕ)) (a b : Env) → NamesAgree bound a b → AgreeOn (all_mentions (map (λ x. x.1) xs) bound) a b
    → map (λ (t : TypeDen). t a) (map (λ x. x.0) xs) ≡ map (λ (t : TypeDen). t b) (map (λ x. x.0) xs)
types_same [] bound a b n h = refl
types_same (x ∷ xs) bound a b n h =
    let r = parts a b (x.1 bound) (all_mentions (map (λ (y : TypePart). y.1) xs) bound) h in
    λ i. x.2 bound a b n r.0 i ∷ types_same xs bound a b n r.1 i

-- an element of a literal
element_same : (t : DslxType) (a b : Env) (bare : Option UntypedLiteral) (value : ValueDen) → value a ≡ value b
    → m.element_den t a (record { bare = bare; value = value }) ≡ m.element_den t b (record { bare = bare; value = value })
element_same t a b None value e = e
element_same t a b (Some number) value e = refl

elements_same : (t : DslxType) (xs : List ExprDenPart) (bound : List (List ℕ)) (a b : Env) → NamesAgree bound a b → AgreeOn (all_mentions (map (λ x. x.1) xs) bound) a b
    → map (m.element_den t a) (map (λ x. x.0) xs) ≡ map (m.element_den t b) (map (λ x. x.0) xs)
elements_same t [] bound a b n h = refl
elements_same t (x ∷ xs) bound a b n h =
    let r = parts a b (x.1 bound) (all_mentions (map (λ (y : ExprDenPart). y.1) xs) bound) h in
    λ i. element_same t a b x.0.bare x.0.value (x.2 bound a b n r.0) i ∷ elements_same t xs bound a b n r.1 i

array_same : (dots : Bool) (xs : List ExprDenPart) (bound : List (List ℕ)) (a b : Env) → NamesAgree bound a b → AgreeOn (all_mentions (map (λ x. x.1) xs) bound) a b
    → (u : DslxType-F DslxType) → m.array_at a (map (λ x. x.0) xs) dots u ≡ m.array_at b (map (λ x. x.0) xs) dots u
array_same dots xs bound a b n h (DslxType-F.Array t k) = ap (λ os. and_then (all_some os) (m.filled dots k)) (elements_same t xs bound a b n h)
array_same dots xs bound a b n h (DslxType-F.Bits s w) = refl
array_same dots xs bound a b n h (DslxType-F.Tuple ts) = refl
array_same dots xs bound a b n h (DslxType-F.Struct name fields ts) = refl
array_same dots xs bound a b n h (DslxType-F.Enum name s w) = refl
array_same dots xs bound a b n h DslxType-F.Token = refl

-- ---- struct values

-- the field of a name, where the value that gives the others is the same
field_same : (name : List ℕ) (xs : List FieldPart) (bound : List (List ℕ)) (a b : Env) (r r' : Option DslxValue) → NamesAgree bound a b
    → AgreeOn (all_mentions (map (λ x. x.1) xs) bound) a b → r ≡ r'
    → m.field_given a r name (m.field_written name (map (λ x. x.0) xs)) ≡ m.field_given b r' name (m.field_written name (map (λ x. x.0) xs))
field_same name [] bound a b r r' n h e = ap (m.field_from name) e
field_same name (x ∷ xs) bound a b r r' n h e =
    let q = parts a b (x.1 bound) (all_mentions (map (λ (y : FieldPart). y.1) xs) bound) h in
    pick (is_in name (x.0.name ∷ [])) (x.2 bound a b n q.0) (field_same name xs bound a b r r' n q.1 e)
  where
    rest : Option ValueDen
    rest = m.field_written name (map (λ (y : FieldPart). y.0) xs)

    pick : (t : Bool) → x.0.value a ≡ x.0.value b → m.field_given a r name rest ≡ m.field_given b r' name rest
        → m.field_given a r name (if t then Some x.0.value else rest) ≡ m.field_given b r' name (if t then Some x.0.value else rest)
    pick true own other = own
    pick false own other = other

fields_same : (names : List (List ℕ)) (xs : List FieldPart) (bound : List (List ℕ)) (a b : Env) (r r' : Option DslxValue) → NamesAgree bound a b
    → AgreeOn (all_mentions (map (λ x. x.1) xs) bound) a b → r ≡ r'
    → map (λ field. m.field_given a r field (m.field_written field (map (λ x. x.0) xs))) names ≡ map (λ field. m.field_given b r' field (m.field_written field (map (λ x. x.0) xs))) names
fields_same [] xs bound a b r r' n h e = refl
fields_same (name ∷ names) xs bound a b r r' n h e = λ i. field_same name xs bound a b r r' n h e i ∷ fields_same names xs bound a b r r' n h e i

struct_same : (xs : List FieldPart) (bound : List (List ℕ)) (a b : Env) (r r' : Option DslxValue) → NamesAgree bound a b
    → AgreeOn (all_mentions (map (λ x. x.1) xs) bound) a b → r ≡ r' → (u : DslxType-F DslxType) → m.struct_at a (map (λ x. x.0) xs) r u ≡ m.struct_at b (map (λ x. x.0) xs) r' u
struct_same xs bound a b r r' n h e (DslxType-F.Struct name fields ts) = ap (λ os. and_then (all_some os) (λ vs. Some (Struct name fields vs))) (fields_same fields xs bound a b r r' n h e)
struct_same xs bound a b r r' n h e (DslxType-F.Bits s w) = refl
struct_same xs bound a b r r' n h e (DslxType-F.Tuple ts) = refl
struct_same xs bound a b r r' n h e (DslxType-F.Array t k) = refl
struct_same xs bound a b r r' n h e (DslxType-F.Enum name s w) = refl
struct_same xs bound a b r r' n h e DslxType-F.Token = refl

-- ---- calls

call_same : (kind : CallKind) (name : List ℕ) (a b : Env) → AgreeOn (if is_text_function kind then mention AsFunction name else []) a b → (ns vs : List DslxValue)
    → m.call_den kind name a ns vs ≡ m.call_den kind name b ns vs
call_same Calls name a b h ns vs = h.0 ns vs
call_same _ name a b h ns vs = refl

-- ---- patterns

pattern_names : (ps : List PatternPart) → m.all_names (map (λ x. x.0) ps) ≡ binders_names (map (λ x. x.1) ps)
pattern_names [] = refl
pattern_names (p ∷ ps) = λ i. p.2.same_names i ++ pattern_names ps i

patterns_constants : (ps : List PatternPart) (bound : List (List ℕ)) (a b : Env) → AgreeOn (binders_mentions (map (λ x. x.1) ps) bound) a b → ConstantsAgree (m.all_names (map (λ x. x.0) ps)) a b
patterns_constants [] bound a b h = tt
patterns_constants (p ∷ ps) bound a b h =
    let r = parts a b (p.1.mentions bound) (binders_mentions (map (λ (y : PatternPart). y.1) ps) bound) h in
    constants_join a b p.0.names (m.all_names (map (λ (y : PatternPart). y.0) ps)) (p.2.constants bound a b r.0) (patterns_constants ps bound a b r.1)

each_fits : (ps : List PatternPart) (vs : List DslxValue) (bound : List (List ℕ)) (a b a' b' : Env) → NamesAgree bound a b → AgreeOn (binders_mentions (map (λ x. x.1) ps) bound) a b
    → Extend [] a b a' b' → FitAlike (binders_names (map (λ x. x.1) ps)) a' b' (m.fit_each a (map (λ x. x.0) ps) vs a') (m.fit_each b (map (λ x. x.0) ps) vs b')
each_fits [] [] bound a b a' b' n h x = unchanged [] a' b' tt
each_fits [] (v ∷ vs) bound a b a' b' n h x = tt
each_fits (p ∷ ps) [] bound a b a' b' n h x = tt
each_fits (p ∷ ps) (v ∷ vs) bound a b a' b' n h x =
    let r = parts a b (p.1.mentions bound) (binders_mentions (map (λ (y : PatternPart). y.1) ps) bound) h in
    fits_behind p.1.names (binders_names (map (λ (y : PatternPart). y.1) ps)) a' b' (p.0.fits a v a') (p.0.fits b v b')
    (m.fit_each a (map (λ (y : PatternPart). y.0) ps) vs) (m.fit_each b (map (λ (y : PatternPart). y.0) ps) vs) (p.2.fits bound a b a' b' v n r.0 x)
    (λ a'' b'' y. each_fits ps vs bound a b a'' b'' n r.1 (one_behind [] [] a b a' b' a'' b'' x (whatever_is_bound p.1.names a' b' a'' b'' y)))

tuple_fits : (ps : List PatternPart) (o : Option (List DslxValue)) (bound : List (List ℕ)) (a b a' b' : Env) → NamesAgree bound a b
    → AgreeOn (binders_mentions (map (λ x. x.1) ps) bound) a b → Extend [] a b a' b'
    → FitAlike (binders_names (map (λ x. x.1) ps)) a' b' (and_then o (λ vs. m.fit_each a (map (λ x. x.0) ps) vs a')) (and_then o (λ vs. m.fit_each b (map (λ x. x.0) ps) vs b'))
tuple_fits ps None bound a b a' b' n h x = tt
tuple_fits ps (Some vs) bound a b a' b' n h x = each_fits ps vs bound a b a' b' n h x

-- at its own place
fits_there : (p : PatternPart) (bound : List (List ℕ)) (a b : Env) (v : DslxValue) → NamesAgree bound a b → AgreeOn (p.1.mentions bound) a b
    → FitAlike p.1.names a b (m.fits_in_scope p.0 v a) (m.fits_in_scope p.0 v b)
fits_there p bound a b v n h = p.2.fits bound a b a b v n h (unchanged [] a b tt)

-- ---- arms

any_fits : (ps : List PatternPart) (v : DslxValue) (bound : List (List ℕ)) (a b : Env) → NamesAgree bound a b → AgreeOn (binders_mentions (map (λ x. x.1) ps) bound) a b
    → FitAlike [] a b (m.first_fit (map (λ x. x.0) ps) v a) (m.first_fit (map (λ x. x.0) ps) v b)
any_fits [] v bound a b n h = tt
any_fits (p ∷ ps) v bound a b n h =
    let r = parts a b (p.1.mentions bound) (binders_mentions (map (λ (y : PatternPart). y.1) ps) bound) h in
    first_or_rest [] a b (m.fits_in_scope p.0 v a) (m.fits_in_scope p.0 v b) (m.first_fit (map (λ (y : PatternPart). y.0) ps) v a) (m.first_fit (map (λ (y : PatternPart). y.0) ps) v b)
    (binds_nothing p.1.names a b (m.fits_in_scope p.0 v a) (m.fits_in_scope p.0 v b) (fits_there p bound a b v n r.0)) (any_fits ps v bound a b n r.1)

alternatives_fit : (ps : List PatternPart) (v : DslxValue) (bound : List (List ℕ)) (a b : Env) → NamesAgree bound a b → AgreeOn (binders_mentions (map (λ x. x.1) ps) bound) a b
    → FitAlike (bound_behind (map (λ x. x.1) ps)) a b (m.first_fit (map (λ x. x.0) ps) v a) (m.first_fit (map (λ x. x.0) ps) v b)
alternatives_fit [] v bound a b n h = tt
alternatives_fit (p ∷ []) v bound a b n h =
    first_or_rest p.1.names a b (m.fits_in_scope p.0 v a) (m.fits_in_scope p.0 v b) None None (fits_there p bound a b v n (parts a b (p.1.mentions bound) [] h).0) tt
alternatives_fit (p ∷ q ∷ ps) v bound a b n h = any_fits (p ∷ q ∷ ps) v bound a b n h

take_same : (arm : ArmDen) (ns : List (List ℕ)) (a b : Env) (oa ob : Option Env) (r r' : Option DslxValue) → FitAlike ns a b oa ob
    → ((a' b' : Env) → Extend ns a b a' b' → arm.value a' ≡ arm.value b') → r ≡ r' → m.take_arm arm oa r ≡ m.take_arm arm ob r'
take_same arm ns a b None None r r' h inner e = e
take_same arm ns a b None (Some b') r r' h inner e = absurd h
take_same arm ns a b (Some a') None r r' h inner e = absurd h
take_same arm ns a b (Some a') (Some b') r r' h inner e = inner a' b' h

-- all names of an arm that binds nothing have one value
constant_names : (ps : List PatternPart) (a b : Env) → NamesAgree (m.all_names (map (λ x. x.0) ps)) a b → NamesAgree (bound_behind (map (λ x. x.1) ps)) a b
constant_names [] a b h = tt
constant_names (p ∷ []) a b h = subst (λ ns. NamesAgree ns a b) p.2.same_names (names_first a b p.0.names [] h)
constant_names (p ∷ q ∷ ps) a b h = tt

without_same : (ps : List PatternPart) (value : ExprDenPart) (bound : List (List ℕ)) (a b : Env) → NamesAgree bound a b
    → AgreeOn (binders_mentions (map (λ x. x.1) ps) bound ++ value.1 (bound_behind (map (λ x. x.1) ps) ++ bound)) a b
    → (t : Bool) → list_all a.items.is_constant (m.all_names (map (λ x. x.0) ps)) ≡ t → (if t then value.0.value a else None) ≡ (if t then value.0.value b else None)
without_same ps value bound a b n h true e =
    let behind = bound_behind (map (λ (y : PatternPart). y.1) ps) in
    let r = parts a b (binders_mentions (map (λ (y : PatternPart). y.1) ps) bound) (value.1 (behind ++ bound)) h in
    value.2 (behind ++ bound) a b
    (names_join a b behind bound (constant_names ps a b (constants_values a b (m.all_names (map (λ (y : PatternPart). y.0) ps)) (patterns_constants ps bound a b r.0) e)) n) r.1
without_same ps value bound a b n h false e = refl

arm_depends : (x : ArmLevel Parts) → ArmDepends (m.arm_den (map_arm Parts meanings (firsts meanings mentions dependence) x)) (k.arm_mentions (map_arm Parts mentions (seconds meanings mentions dependence) x))
arm_depends x = record {
  taken = λ bound a b v r r' n h e.
      let own = binders_mentions (map (λ (y : PatternPart). y.1) x.patterns) bound in
      let behind = bound_behind (map (λ (y : PatternPart). y.1) x.patterns) in
      let inner = x.value.1 (behind ++ bound) in
      let q = parts a b own inner h in
      take_same (m.arm_den (map_arm Parts meanings (firsts meanings mentions dependence) x)) behind a b
      (m.first_fit (map (λ (y : PatternPart). y.0) x.patterns) v a) (m.first_fit (map (λ (y : PatternPart). y.0) x.patterns) v b) r r'
      (alternatives_fit x.patterns v bound a b n q.0)
      (λ a' b' more. x.value.2 (behind ++ bound) a' b' (bound_moves behind bound a b a' b' more n) (mentions_move behind a b a' b' more inner q.1)) e;
  without = λ bound a b n h.
      let own = binders_mentions (map (λ (y : PatternPart). y.1) x.patterns) bound in
      let behind = bound_behind (map (λ (y : PatternPart). y.1) x.patterns) in
      let names = m.all_names (map (λ (y : PatternPart). y.0) x.patterns) in
      let q = parts a b own (x.value.1 (behind ++ bound)) h in
      subst (λ t. (if list_all a.items.is_constant names then x.value.0.value a else None) ≡ (if t then x.value.0.value b else None))
      (all_constants_same a b names (patterns_constants x.patterns bound a b q.0))
      (without_same x.patterns x.value bound a b n h (list_all a.items.is_constant names) refl);
}

arms_same : (xs : List ArmPart) (v : DslxValue) (bound : List (List ℕ)) (a b : Env) → NamesAgree bound a b → AgreeOn (all_mentions (map (λ x. x.1) xs) bound) a b
    → m.match_arms (map (λ x. x.0) xs) v a ≡ m.match_arms (map (λ x. x.0) xs) v b
arms_same [] v bound a b n h = refl
arms_same (x ∷ []) v bound a b n h =
    let r = parts a b (x.1 bound) [] h in
    x.2.taken bound a b v (m.value_without x.0 a) (m.value_without x.0 b) n r.0 (x.2.without bound a b n r.0)
arms_same (x ∷ y ∷ ys) v bound a b n h =
    let r = parts a b (x.1 bound) (all_mentions (map (λ (z : ArmPart). z.1) (y ∷ ys)) bound) h in
    x.2.taken bound a b v (m.match_arms (map (λ (z : ArmPart). z.0) (y ∷ ys)) v a) (m.match_arms (map (λ (z : ArmPart). z.0) (y ∷ ys)) v b) n r.0 (arms_same (y ∷ ys) v bound a b n r.1)

-- ---- expressions

node_depends : (x : NodeLevel Parts) → ValueDepends (m.node_den (map_node Parts meanings (firsts meanings mentions dependence) x)) (k.node_mentions (map_node Parts mentions (seconds meanings mentions dependence) x))
node_depends (Node-F.Node::Number x) = x.2
node_depends (Node-F.Node::Bool bit) = λ bound a b n h. refl
node_depends (Node-F.Node::Array None es dots) = λ bound a b n h. ap (λ os. and_then (all_some os) (λ vs. Some (Array vs))) (values_same es bound a b n h)
node_depends (Node-F.Node::Array (Some t) es dots) = λ bound a b n h.
    let r = parts a b (t.1 bound) (all_mentions (map (λ (y : ExprDenPart). y.1) es) bound) h in
    λ i. and_then (t.2 bound a b n r.0 i) (λ u. array_same dots es bound a b n r.1 (out-DslxType u) i)
node_depends (Node-F.Node::Name name) = λ bound a b n h. name_same name bound a b n h
node_depends (Node-F.Node::Member e member) = λ bound a b n h. h.0 member.name
node_depends (Node-F.Call callee parametric_args es) = λ bound a b n h.
    let called = if is_text_function (kind_of_call callee.name) then mention AsFunction callee.name else [] in
    let r = three_parts a b called (all_mentions (map (λ (y : ExprDenPart). y.1) parametric_args) bound) (all_mentions (map (λ (y : ExprDenPart). y.1) es) bound) h in
    λ i. with_both (all_some (values_same parametric_args bound a b n r.1 i)) (all_some (values_same es bound a b n r.2 i)) (λ ns vs. call_same (kind_of_call callee.name) callee.name a b r.0 ns vs i)
node_depends (Node-F.Node::Tuple es) = λ bound a b n h. ap (λ os. and_then (all_some os) (λ vs. Some (Tuple vs))) (values_same es bound a b n h)
node_depends (Node-F.Struct name fields None) = λ bound a b n h.
    let r = parts a b (all_mentions (map (λ (y : FieldPart). y.1) fields) bound) [] h.1 in
    λ i. and_then (h.0 i) (λ t. struct_same fields bound a b None None n r.0 refl (out-DslxType t) i)
node_depends (Node-F.Struct name fields (Some e)) = λ bound a b n h.
    let r = parts a b (all_mentions (map (λ (y : FieldPart). y.1) fields) bound) (e.1 bound) h.1 in
    λ i. and_then (h.0 i) (λ t. struct_same fields bound a b (e.0.value a) (e.0.value b) n r.0 (e.2 bound a b n r.1) (out-DslxType t) i)
node_depends (Node-F.Block block) = block.2
node_depends (Node-F.If test taken other) = λ bound a b n h.
    let r = three_parts a b (test.1 bound) (taken.1 bound) (other.1 bound) h in
    λ i. m.choose (and_then (test.2 bound a b n r.0 i) truth) (taken.2 bound a b n r.1 i) (other.2 bound a b n r.2 i)
node_depends (Node-F.Match e arms) = λ bound a b n h.
    let r = parts a b (e.1 bound) (all_mentions (map (λ (y : ArmPart). y.1) arms) bound) h in
    λ i. and_then (e.2 bound a b n r.0 i) (λ v. arms_same arms v bound a b n r.1 i)
node_depends (Node-F.For loop) = loop.2
node_depends (Node-F.Index e place) = λ bound a b n h.
    let r = parts a b (e.1 bound) (place.1 bound) h in
    λ i. with_both (e.2 bound a b n r.0 i) (place.2 bound a b n r.1 i) index_value
node_depends (Node-F.Slice e low high) = λ bound a b n h.
    let r = three_parts a b (e.1 bound) (low.1 bound) (high.1 bound) h in
    λ i. and_then (e.2 bound a b n r.0 i) (λ v. with_both (m.bound_in low.0.bare (low.2 bound a b n r.1 i)) (m.bound_in high.0.bare (high.2 bound a b n r.2 i)) (slice_value v))
node_depends (Node-F.Part e start t) = λ bound a b n h.
    let r = three_parts a b (e.1 bound) (start.1 bound) (t.1 bound) h in
    λ i. part_of (t.2 bound a b n r.2 i) (e.2 bound a b n r.0 i) (start.2 bound a b n r.1 i)
  where
    part_of : Option DslxType → Option DslxValue → Option DslxValue → Option DslxValue
    part_of o v s = with_both v s (λ v k. and_then (and_then o bits_in) (λ kind. where_true (not kind.signed) (part_value v k kind.width)))
node_depends (Node-F.Field e name) = λ bound a b n h. ap (λ o. and_then o (λ v. m.field_of v name.name)) (e.2 bound a b n h)
node_depends (Node-F.Element e span place) = λ bound a b n h. ap (λ o. and_then o (λ v. element_value v place)) (e.2 bound a b n h)
node_depends (Node-F.Prefix o e) = λ bound a b n h. ap (λ v. and_then v (prefix_value o)) (e.2 bound a b n h)
node_depends (Node-F.Cast e t) = λ bound a b n h.
    let r = parts a b (e.1 bound) (t.1 bound) h in
    λ i. with_both (t.2 bound a b n r.1 i) (e.2 bound a b n r.0 i) cast_value
node_depends (Node-F.Binary o l r) = λ bound a b n h.
    let q = parts a b (l.1 bound) (r.1 bound) h in
    λ i. with_both (l.2 bound a b n q.0 i) (r.2 bound a b n q.1 i) (binary_value o)

-- ---- types

type_depends : (x : TypeNodeLevel Parts) → TypeDepends (m.type_den (map_type_node Parts meanings (firsts meanings mentions dependence) x)) (k.type_mentions (map_type_node Parts mentions (seconds meanings mentions dependence) x))
type_depends (TypeNode-F.Bits signed width) = λ bound a b n h. refl
type_depends (TypeNode-F.Wide signed e) = λ bound a b n h. ap (λ v. and_then (and_then (m.count_in e.0.bare v) m.some_count) (λ w. Some (ty.Bits signed w))) (e.2 bound a b n h)
type_depends TypeNode-F.TypeNode::Bool = λ bound a b n h. refl
type_depends (TypeNode-F.TypeNode::Name name) = λ bound a b n h. h.0
type_depends (TypeNode-F.TypeNode::Tuple ts) = λ bound a b n h. ap (λ os. and_then (all_some os) (λ us. Some (ty.Tuple us))) (types_same ts bound a b n h)
type_depends (TypeNode-F.TypeNode::Array t e) = λ bound a b n h.
    let r = parts a b (t.1 bound) (e.1 bound) h in
    λ i. with_both (t.2 bound a b n r.0 i) (and_then (m.count_in e.0.bare (e.2 bound a b n r.1 i)) m.some_count) (λ u k. Some (ty.Array u k))

-- ---- patterns

shape_depends : (x : ShapeLevel Parts) → PatternDepends (m.shape_den (map_shape Parts meanings (firsts meanings mentions dependence) x)) (k.shape_mentions (map_shape Parts mentions (seconds meanings mentions dependence) x))
shape_depends Shape-F.Wild = record { same_names = refl; fits = λ bound a b a' b' v n h x. unchanged [] a' b' tt; constants = λ bound a b h. tt }
shape_depends (Shape-F.Shape::Bool bit) = record {
  same_names = refl;
  fits = λ bound a b a' b' v n h x. value_fits [] v a' b' tt (Some (bool_value bit)) (Some (bool_value bit)) refl;
  constants = λ bound a b h. tt;
}
shape_depends (Shape-F.Shape::Number x) = record {
  same_names = refl;
  fits = λ bound a b a' b' v n h more. value_fits [] v a' b' tt (x.0.value a) (x.0.value b) (x.2 bound a b n h);
  constants = λ bound a b h. tt;
}
shape_depends (Shape-F.Shape::Name name) = record {
  same_names = refl;
  fits = λ bound a b a' b' v n h x. name_fits name v a' b' (meaning_moves [] a b a' b' x AsPattern name h.0);
  constants = λ bound a b h. (h.0, tt);
}
shape_depends (Shape-F.Shape::Member e member) = record {
  same_names = refl;
  fits = λ bound a b a' b' v n h x.
      value_fits [] v a' b' tt (a'.items.member e.name member.name) (b'.items.member e.name member.name) (meaning_moves [] a b a' b' x AsEnum e.name h.0 member.name);
  constants = λ bound a b h. tt;
}
shape_depends (Shape-F.Shape::Tuple ps) = record {
  same_names = pattern_names ps;
  fits = λ bound a b a' b' v n h x. tuple_fits ps (elements_of v) bound a b a' b' n h x;
  constants = λ bound a b h. patterns_constants ps bound a b h;
}

-- ---- statements and blocks

bind_depends : (x : LetLevel Parts) → StmtDenDepends (m.let_den (map_bind Parts meanings (firsts meanings mentions dependence) x)) (k.let_mentions (map_bind Parts mentions (seconds meanings mentions dependence) x))
bind_depends x = by_type x.ty
  where
    going : (bound : List (List ℕ)) (a b : Env) (rest : ValueDen) → NamesAgree bound a b → AgreeOn (x.value.1 bound) a b → AgreeOn (x.pattern.1.mentions bound) a b
        → ((a' b' : Env) → Extend x.pattern.1.names a b a' b' → rest a' ≡ rest b')
        → and_then (x.value.0.value a) (λ v. and_then (m.fits_in_scope x.pattern.0 v a) rest) ≡ and_then (x.value.0.value b) (λ v. and_then (m.fits_in_scope x.pattern.0 v b) rest)
    going bound a b rest n own inner same =
        λ i. and_then (x.value.2 bound a b n own i)
        (λ v. made_alike x.pattern.1.names a b (m.fits_in_scope x.pattern.0 v a) (m.fits_in_scope x.pattern.0 v b) rest rest (fits_there x.pattern bound a b v n inner) same i)

    by_type : (o : Option TypePart)
        → StmtDenDepends (m.let_den (map_bind Parts meanings (firsts meanings mentions dependence) (record { span = x.span; pattern = x.pattern; ty = o; value = x.value })))
        (k.let_mentions (map_bind Parts mentions (seconds meanings mentions dependence) (record { span = x.span; pattern = x.pattern; ty = o; value = x.value })))
    by_type None = λ bound a b rest n h same.
        let r = parts a b (x.value.1 bound) (x.pattern.1.mentions bound) h in
        going bound a b rest n r.0 r.1 same
    by_type (Some t) = λ bound a b rest n h same.
        let r = three_parts a b (t.1 bound) (x.value.1 bound) (x.pattern.1.mentions bound) h in
        going bound a b rest n r.1 r.2 same

stmt_depends : (x : StmtLevel Parts) → StmtDenDepends (m.stmt_den (map_stmt Parts meanings (firsts meanings mentions dependence) x)) (k.stmt_mentions (map_stmt Parts mentions (seconds meanings mentions dependence) x))
stmt_depends (Stmt-F.Let l) = λ bound a b rest n h same. l.2 bound a b rest n h same
stmt_depends (Stmt-F.Bare e) = λ bound a b rest n h same. λ i. and_then (e.2 bound a b n h i) (λ v. same a b (unchanged [] a b tt) i)

statements_same : (xs : List StmtDenPart) (last : ValueDen) (ms : Mentions) → DependsOn ms last → (bound : List (List ℕ)) (a b : Env) → NamesAgree bound a b
    → AgreeOn (statements_mentions (map (λ x. x.1) xs) ms bound) a b → m.statements_den (map (λ x. x.0) xs) last a ≡ m.statements_den (map (λ x. x.0) xs) last b
statements_same [] last ms d bound a b n h = d bound a b n h
statements_same (x ∷ xs) last ms d bound a b n h =
    let behind = statements_mentions (map (λ (y : StmtDenPart). y.1) xs) ms (x.1.names ++ bound) in
    let r = parts a b (x.1.mentions bound) behind h in
    x.2 bound a b (m.statements_den (map (λ (y : StmtDenPart). y.0) xs) last) n r.0
    (λ a' b' more. statements_same xs last ms d (x.1.names ++ bound) a' b' (bound_moves x.1.names bound a b a' b' more n) (mentions_move x.1.names a b a' b' more behind r.1))

block_depends : (x : BlockLevel Parts) → BlockDepends (m.block_den (map_block Parts meanings (firsts meanings mentions dependence) x)) (k.block_mentions (map_block Parts mentions (seconds meanings mentions dependence) x))
block_depends x = by_value x.value
  where
    by_value : (o : Option ExprDenPart)
        → BlockDepends (m.block_den (map_block Parts meanings (firsts meanings mentions dependence) (record { span = x.span; statements = x.statements; value = o })))
        (k.block_mentions (map_block Parts mentions (seconds meanings mentions dependence) (record { span = x.span; statements = x.statements; value = o })))
    by_value None = λ bound a b n h. statements_same x.statements (m.last_den None) (mentions_if None) (λ bound a b n h. refl) bound a b n h
    by_value (Some e) = λ bound a b n h. statements_same x.statements (m.last_den (Some e.0)) (mentions_if (Some e.1)) e.2 bound a b n h

-- ---- loops

loop_depends : (x : ForLevel Parts) → BlockDepends (m.for_den (map_loop Parts meanings (firsts meanings mentions dependence) x)) (k.for_mentions (map_loop Parts mentions (seconds meanings mentions dependence) x))
loop_depends x = by_type x.ty
  where
    inner_names : List (List ℕ) → List (List ℕ)
    inner_names bound = (x.accumulator.1.names ++ x.index.1.names) ++ bound

    body_same : (bound : List (List ℕ)) (a b : Env) → NamesAgree bound a b → AgreeOn (x.index.1.mentions bound) a b → AgreeOn (x.accumulator.1.mentions bound) a b
        → AgreeOn (x.body.1 ((x.accumulator.1.names ++ x.index.1.names) ++ bound)) a b → (i acc : DslxValue)
        → and_then (m.fits_in_scope x.index.0 i a) (λ inner. and_then (m.fits_in_scope x.accumulator.0 acc inner) x.body.0) ≡ and_then (m.fits_in_scope x.index.0 i b) (λ inner. and_then (m.fits_in_scope x.accumulator.0 acc inner) x.body.0)
    body_same bound a b n index accumulator body i acc =
        made_alike x.index.1.names a b (m.fits_in_scope x.index.0 i a) (m.fits_in_scope x.index.0 i b) (λ inner. and_then (m.fits_in_scope x.accumulator.0 acc inner) x.body.0) (λ inner. and_then (m.fits_in_scope x.accumulator.0 acc inner) x.body.0)
        (fits_there x.index bound a b i n index)
        (λ a' b' more. made_alike x.accumulator.1.names a' b' (m.fits_in_scope x.accumulator.0 acc a') (m.fits_in_scope x.accumulator.0 acc b') x.body.0 x.body.0
        (fits_there x.accumulator bound a' b' acc (names_move x.index.1.names bound a b a' b' more n) (mentions_move x.index.1.names a b a' b' more (x.accumulator.1.mentions bound) accumulator))
        (λ a'' b'' still. x.body.2 ((x.accumulator.1.names ++ x.index.1.names) ++ bound) a'' b''
        (names_join a'' b'' (x.accumulator.1.names ++ x.index.1.names) bound
        (bound_moves x.accumulator.1.names x.index.1.names a' b' a'' b'' still more.bound)
        (names_move x.accumulator.1.names bound a' b' a'' b'' still (names_move x.index.1.names bound a b a' b' more n)))
        (mentions_move x.accumulator.1.names a' b' a'' b'' still (x.body.1 ((x.accumulator.1.names ++ x.index.1.names) ++ bound))
        (mentions_move x.index.1.names a b a' b' more (x.body.1 ((x.accumulator.1.names ++ x.index.1.names) ++ bound)) body))))

    same : (bound : List (List ℕ)) (a b : Env) → NamesAgree bound a b → AgreeOn (x.from.1 bound) a b → AgreeOn (x.to.1 bound) a b → AgreeOn (x.start.1 bound) a b
        → AgreeOn (x.index.1.mentions bound) a b → AgreeOn (x.accumulator.1.mentions bound) a b → AgreeOn (x.body.1 ((x.accumulator.1.names ++ x.index.1.names) ++ bound)) a b
        → and_then (x.start.0.value a) (λ start. with_both (and_then (x.from.0.value a) bits_of) (and_then (x.to.0.value a) bits_of)
        (m.loop_over (λ i acc. and_then (m.fits_in_scope x.index.0 i a) (λ inner. and_then (m.fits_in_scope x.accumulator.0 acc inner) x.body.0)) start))
        ≡ and_then (x.start.0.value b) (λ start. with_both (and_then (x.from.0.value b) bits_of) (and_then (x.to.0.value b) bits_of)
        (m.loop_over (λ i acc. and_then (m.fits_in_scope x.index.0 i b) (λ inner. and_then (m.fits_in_scope x.accumulator.0 acc inner) x.body.0)) start))
    same bound a b n from to start index accumulator body =
        λ d. and_then (x.start.2 bound a b n start d) (λ s. with_both (and_then (x.from.2 bound a b n from d) bits_of) (and_then (x.to.2 bound a b n to d) bits_of)
        (m.loop_over (λ i acc. body_same bound a b n index accumulator body i acc d) s))

    by_type : (o : Option TypePart)
        → BlockDepends (m.for_den (map_loop Parts meanings (firsts meanings mentions dependence) (record { index = x.index; accumulator = x.accumulator; ty = o; from = x.from; to = x.to; body = x.body; start = x.start })))
        (k.for_mentions (map_loop Parts mentions (seconds meanings mentions dependence) (record { index = x.index; accumulator = x.accumulator; ty = o; from = x.from; to = x.to; body = x.body; start = x.start })))
    by_type o = λ bound a b n h.
        let body = x.body.1 ((x.accumulator.1.names ++ x.index.1.names) ++ bound) in
        let typed = mentions_if (types_mentions o) bound in
        let six = parts a b (((((x.from.1 bound ++ x.to.1 bound) ++ x.start.1 bound) ++ typed) ++ x.index.1.mentions bound) ++ x.accumulator.1.mentions bound) body (retyped o bound a b h) in
        let five = parts a b ((((x.from.1 bound ++ x.to.1 bound) ++ x.start.1 bound) ++ typed) ++ x.index.1.mentions bound) (x.accumulator.1.mentions bound) six.0 in
        let four = parts a b (((x.from.1 bound ++ x.to.1 bound) ++ x.start.1 bound) ++ typed) (x.index.1.mentions bound) five.0 in
        let three = parts a b ((x.from.1 bound ++ x.to.1 bound) ++ x.start.1 bound) typed four.0 in
        let ends = three_parts a b (x.from.1 bound) (x.to.1 bound) (x.start.1 bound) three.0 in
        same bound a b n ends.0 ends.1 ends.2 four.1 five.1 six.1
      where
        types_mentions : Option TypePart → Option Mentions
        types_mentions None = None
        types_mentions (Some t) = Some t.1

        retyped : (o : Option TypePart) (bound : List (List ℕ)) (a b : Env)
            → AgreeOn (k.for_mentions (map_loop Parts mentions (seconds meanings mentions dependence) (record { index = x.index; accumulator = x.accumulator; ty = o; from = x.from; to = x.to; body = x.body; start = x.start })) bound) a b
            → AgreeOn ((((((x.from.1 bound ++ x.to.1 bound) ++ x.start.1 bound) ++ mentions_if (types_mentions o) bound) ++ x.index.1.mentions bound) ++ x.accumulator.1.mentions bound)
            ++ x.body.1 ((x.accumulator.1.names ++ x.index.1.names) ++ bound)) a b
        retyped None bound a b h = h
        retyped (Some t) bound a b h = h

-- ---- numbers, fields and what stands around other parts

number_depends : (x : NumberLevel Parts) → ValueDepends (m.number_node (map_number Parts meanings (firsts meanings mentions dependence) x)) (mentions_if (map_number Parts mentions (seconds meanings mentions dependence) x).ty)
number_depends x = by_type x.ty
  where
    by_type : (o : Option TypePart)
        → ValueDepends (m.number_node (map_number Parts meanings (firsts meanings mentions dependence) (record { ty = o; is_negative = x.is_negative; value = x.value })))
        (mentions_if (map_number Parts mentions (seconds meanings mentions dependence) (record { ty = o; is_negative = x.is_negative; value = x.value })).ty)
    by_type None = λ bound a b n h. refl
    by_type (Some t) = λ bound a b n h. ap (λ o. and_then o (λ u. number_value u (record { is_negative = x.is_negative; value = x.value }))) (t.2 bound a b n h)

field_depends : (x : FieldValueLevel Parts) → FieldDepends (m.field_den (map_field Parts meanings (firsts meanings mentions dependence) x)) (k.field_mentions (map_field Parts mentions (seconds meanings mentions dependence) x))
field_depends x = by_value x.value
  where
    by_value : (o : Option ExprDenPart)
        → FieldDepends (m.field_den (map_field Parts meanings (firsts meanings mentions dependence) (record { name = x.name; value = o })))
        (k.field_mentions (map_field Parts mentions (seconds meanings mentions dependence) (record { name = x.name; value = o })))
    by_value None = λ bound a b n h. name_same x.name.name bound a b n h
    by_value (Some e) = λ bound a b n h. e.2 bound a b n h

-- each step keeps the dependence
pub all_depend : KeepRelated meanings mentions dependence meaning_steps mention_steps
all_depend = record {
  stmt = stmt_depends;
  node = node_depends;
  shape = shape_depends;
  type_node = type_depends;
  block = block_depends;
  bind = bind_depends;
  arg = λ x. x.value.2;
  arm = arm_depends;
  expr = λ x. x.node.2;
  field = field_depends;
  loop = loop_depends;
  number = number_depends;
  pattern = λ x. x.shape.2;
  type_expr = λ x. x.node.2;
}
