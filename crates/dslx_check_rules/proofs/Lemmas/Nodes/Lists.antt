-- Lists of parts beside lists of their judgements.
use Rattle.std.proofs.Common.{◌≡◌, ◌∙◌, ◌<◌, ◌≤◌, ◌+◌, ◌++◌, ◌∷◌, ◌&&◌, [], List, ℕ, zero, suc, Bool, true, false, Option, Some, None, arith, length, get_or, map, slice_get, take, refl, sym, ap, subst, append_assoc, is_some}
use Rattle.std.specs.Option.{option_map}
use Rattle.std.proofs.lemmas.List.{append-nil, map-append, take_all, take_more}
use Rattle.std.proofs.lemmas.Option.{get_or_from_slice_get, slice_get-map, slice_get_within}
use mathlib.Core.Bool.{true≢false}
use Rattle.xb_span.specs.declared.fault.Fault.{Fault}
use Rattle.dslx_meaning.specs.Lists.{all_some, and_then}
use Rattle.dslx_meaning.specs.declared.ty.DslxType.{DslxType}
use Rattle.dslx_meaning.specs.declared.ty.DslxType as ty
use Rattle.dslx_meaning.specs.Rules.TypeEnvs.{Judgement, faults_of_all, plus_size, size_of_all, types_of}
use Rattle.dslx_meaning.specs.Rules.PatternRules.{is_there}
use Rattle.dslx_meaning.specs.Rules.AggregateRules.{when_all}
use Rattle.dslx_check_rules.specs.Interned.{ItemNames, KeepsItems, is_item_row, type_at, type_if, with_row}
use Rattle.dslx_check_rules.specs.declared.table.row.TypeId.{TypeId}
use Rattle.dslx_check_rules.specs.declared.table.row.TypeRow.{TypeRow}
use Rattle.dslx_check_rules.proofs.Lemmas.Rows.{items_stay}
use Rattle.dslx_check_rules.specs.declared.nodes.parts.Spanned.{Spanned}
use Rattle.xb_span.specs.declared.span.Span.{Span}
use Rattle.dslx_meaning.specs.declared.value.UntypedLiteral.{UntypedLiteral}
use Rattle.dslx_check_rules.specs.declared.nodes.arrays.Element.{Element}
use Rattle.dslx_check_rules.specs.declared.nodes.arrays.Element.TheVariants as code
use Rattle.dslx_check_rules.specs.Nodes.Nodes.Lists.{all_faults, element_of}
use Rattle.dslx_check_rules.specs.Nodes.Nodes.Arrays.{ElementSeen, IsElement, Untyped, Value}
use Rattle.dslx_check_rules.specs.Nodes.Parts.{ArePlaced, IsPlaced, Pairs, Placed, judgements}

-- ---- pairs, one after another

pub pair_at : {A B : Type 0} (R : A → B → Type 0) (as' : List A) (bs : List B) (i : ℕ) (d : A) → Pairs R as' bs → i < length as' → (b : B) × (slice_get bs i ≡ Some b) × R (get_or as' i d) b
pair_at R [] bs i d p h = absurd (omega (arith, h))
pair_at R (a ∷ as') [] i d p h = absurd p
pair_at R (a ∷ as') (b ∷ bs) zero d p h = (b, refl, p.0)
pair_at R (a ∷ as') (b ∷ bs) (suc i) d p h = pair_at R as' bs i d p.1 (omega (arith, h))

pub pairs_long : {A B : Type 0} (R : A → B → Type 0) (as' : List A) (bs : List B) → Pairs R as' bs → length as' ≡ length bs
pairs_long R [] [] p = refl
pairs_long R [] (b ∷ bs) p = absurd p
pairs_long R (a ∷ as') [] p = absurd p
pairs_long R (a ∷ as') (b ∷ bs) p = ap suc (pairs_long R as' bs p.1)

pub take_next : {B : Type 0} (bs : List B) (i : ℕ) (b : B) → slice_get bs i ≡ Some b → take (i + 1) bs ≡ take i bs ++ b ∷ []
take_next bs i b e = take_more bs i b (slice_get_within bs i b e) ∙ ap (λ x. take i bs ++ x ∷ []) (get_or_from_slice_get bs i b b e)

-- what is so of what the first ones make is so with the next one
pub next_pair : {A B C : Type 0} (F : B → C) (T : List C → Type 0) (R : A → B → Type 0) (as' : List A) (bs : List B) (i : ℕ) (d : A) → Pairs R as' bs → i < length as'
    → ((b : B) → R (get_or as' i d) b → T (take i (map F bs) ++ F b ∷ [])) → T (take (i + 1) (map F bs))
next_pair F T R as' bs i d p h next =
    let q = pair_at R as' bs i d p h in
    subst T (sym (take_next (map F bs) i (F q.0) (slice_get-map F bs i ∙ ap (option_map F) q.1))) (next q.0 q.2)

pub next_one : {A B : Type 0} (T : List B → Type 0) (R : A → B → Type 0) (as' : List A) (bs : List B) (i : ℕ) (d : A) → Pairs R as' bs → i < length as'
    → ((b : B) → R (get_or as' i d) b → T (take i bs ++ b ∷ [])) → T (take (i + 1) bs)
next_one T R as' bs i d p h next = let q = pair_at R as' bs i d p h in subst T (sym (take_next bs i q.0 q.1)) (next q.0 q.2)

pub all_ones : {A B : Type 0} (T : List B → Type 0) (R : A → B → Type 0) (as' : List A) (bs : List B) (i : ℕ) → Pairs R as' bs → length as' ≤ i → T (take i bs) → T bs
all_ones T R as' bs i p h t = subst T (take_all i bs (omega (arith, h, pairs_long R as' bs p))) t

-- and at the end of all
pub all_pairs : {A B C : Type 0} (F : B → C) (T : List C → Type 0) (R : A → B → Type 0) (as' : List A) (bs : List B) (i : ℕ) → Pairs R as' bs → length as' ≤ i → T (take i (map F bs)) → T (map F bs)
all_pairs F T R as' bs i p h t = subst T (take_all i (map F bs) (omega (arith, h, long, pairs_long R as' bs p))) t
  where
    length-map' : {X Y : Type 0} (f : X → Y) (xs : List X) → length (map f xs) ≡ length xs
    length-map' f [] = refl
    length-map' f (x ∷ xs) = ap suc (length-map' f xs)

    long : length (map F bs) ≡ length bs
    long = length-map' F bs

-- ---- one judgement more

pub faults_next : (js : List Judgement) (j : Judgement) → faults_of_all (js ++ j ∷ []) ≡ faults_of_all js ++ j.faults
faults_next [] j = append-nil j.faults
faults_next (k ∷ js) j = ap (λ fs. k.faults ++ fs) (faults_next js j) ∙ sym (append_assoc k.faults (faults_of_all js) j.faults)

pub all_faults_next : (fss : List (List Fault)) (fs : List Fault) → all_faults (fss ++ fs ∷ []) ≡ all_faults fss ++ fs
all_faults_next [] fs = append-nil fs
all_faults_next (gs ∷ fss) fs = ap (λ hs. gs ++ hs) (all_faults_next fss fs) ∙ sym (append_assoc gs (all_faults fss) fs)

pub plus_assoc : (x y z : Option ℕ) → plus_size x (plus_size y z) ≡ plus_size (plus_size x y) z
plus_assoc None y z = refl
plus_assoc (Some a) None z = refl
plus_assoc (Some a) (Some b) None = refl
plus_assoc (Some a) (Some b) (Some c) = ap Some (omega arith)

pub plus_nothing : (x : Option ℕ) → plus_size x (Some 0) ≡ x
plus_nothing None = refl
plus_nothing (Some a) = ap Some (omega arith)

pub nothing_plus : (x : Option ℕ) → plus_size (Some 0) x ≡ x
nothing_plus None = refl
nothing_plus (Some a) = ap Some (omega arith)

pub size_next : (js : List Judgement) (j : Judgement) → size_of_all (js ++ j ∷ []) ≡ plus_size (size_of_all js) j.size
size_next [] j = plus_nothing j.size ∙ sym (nothing_plus j.size)
size_next (k ∷ js) j = ap (plus_size k.size) (size_next js j) ∙ plus_assoc k.size (size_of_all js) j.size

-- ---- whether all are there

some_first : {A : Type 0} (o : Option A) (os : List (Option A)) → is_some (all_some (o ∷ os)) ≡ (is_some o && is_some (all_some os))
some_first None os = refl
some_first (Some a) os = by (all_some os) refl
  where
    by : (q : Option (List _)) → all_some os ≡ q → is_some (all_some (Some a ∷ os)) ≡ is_some q
    by None e = rw e refl
    by (Some more) e = rw e refl

and_assoc : (a b c : Bool) → (a && (b && c)) ≡ ((a && b) && c)
and_assoc true b c = refl
and_assoc false b c = refl

pub some_next : {A : Type 0} (os : List (Option A)) (o : Option A) → is_some (all_some (os ++ o ∷ [])) ≡ (is_some (all_some os) && is_some o)
some_next [] o = some_first o [] ∙ by (is_some o)
  where
    by : (b : Bool) → (b && true) ≡ b
    by true = refl
    by false = refl
some_next (p ∷ os) o =
    some_first p (os ++ o ∷ []) ∙ ap (λ b. is_some p && b) (some_next os o) ∙ and_assoc (is_some p) (is_some (all_some os)) (is_some o)
    ∙ ap (λ b. b && is_some o) (sym (some_first p os))

pub typed_next : (js : List Judgement) (j : Judgement) → is_some (all_some (types_of (js ++ j ∷ []))) ≡ (is_some (all_some (types_of js)) && is_some j.ty)
typed_next js j = ap (λ os. is_some (all_some os)) (map-append (λ (j : Judgement). j.ty) js (j ∷ [])) ∙ some_next (types_of js) j.ty

pub some_alike : {A B : Type 0} (f : A → B) (o : Option A) (q : Option B) → option_map f o ≡ q → is_some o ≡ is_some q
some_alike f None q e = ap is_some e
some_alike f (Some a) q e = ap is_some e

pub there_alike : {A B : Type 0} (f : A → B) (o : Option A) (q : Option B) → option_map f o ≡ q → is_there o ≡ is_there q
there_alike f None q e = ap is_there e
there_alike f (Some a) q e = ap is_there e

-- what is there where all are
pub kept_where_some : {A B : Type 0} (q : Option A) (t : Option B) → is_some q ≡ true → t ≡ and_then q (λ a. t)
kept_where_some None t e = absurd (true≢false (sym e))
kept_where_some (Some a) t e = refl

pub nothing_where_none : {A B : Type 0} (q : Option A) (t : Option B) → is_some q ≡ false → None ≡ and_then q (λ a. t)
nothing_where_none None t e = refl
nothing_where_none (Some a) t e = absurd (true≢false e)

-- ---- lists of what is there

pub some_before : {A : Type 0} (a : A) (os : List (Option A)) → all_some (Some a ∷ os) ≡ option_map (λ more. a ∷ more) (all_some os)
some_before a os = by (all_some os) refl
  where
    by : (q : Option (List _)) → all_some os ≡ q → all_some (Some a ∷ os) ≡ option_map (λ more. a ∷ more) q
    by None e = rw e refl
    by (Some more) e = rw e refl

some_behind : {A : Type 0} (os : List (Option A)) (a : A) → all_some (os ++ Some a ∷ []) ≡ option_map (λ as'. as' ++ a ∷ []) (all_some os)
some_behind [] a = refl
some_behind (None ∷ os) a = refl
some_behind (Some b ∷ os) a =
    some_before b (os ++ Some a ∷ []) ∙ ap (option_map (λ more. b ∷ more)) (some_behind os a) ∙ by (all_some os) ∙ ap (option_map (λ as'. as' ++ a ∷ [])) (sym (some_before b os))
  where
    by : (q : Option (List _)) → option_map (λ more. b ∷ more) (option_map (λ as'. as' ++ a ∷ []) q) ≡ option_map (λ as'. as' ++ a ∷ []) (option_map (λ more. b ∷ more) q)
    by None = refl
    by (Some more) = refl

pub there_next : {A : Type 0} (os : List (Option A)) (as' : List A) (o : Option A) (a : A) → all_some os ≡ Some as' → o ≡ Some a → all_some (os ++ o ∷ []) ≡ Some (as' ++ a ∷ [])
there_next os as' o a e is = ap (λ q. all_some (os ++ q ∷ [])) is ∙ some_behind os a ∙ ap (option_map (λ bs. bs ++ a ∷ [])) e

pub one_missing : {A : Type 0} (os : List (Option A)) (i : ℕ) (d : Option A) → i < length os → get_or os i d ≡ None → all_some os ≡ None
one_missing [] i d h e = absurd (omega (arith, h))
one_missing (o ∷ os) zero d h e = ap (λ q. all_some (q ∷ os)) e
one_missing (None ∷ os) (suc i) d h e = refl
one_missing (Some a ∷ os) (suc i) d h e = some_before a os ∙ ap (option_map (λ more. a ∷ more)) (one_missing os i d (omega (arith, h)) e)

some_mapped : {A B : Type 0} (f : A → B) (os : List (Option A)) → all_some (map (option_map f) os) ≡ option_map (map f) (all_some os)
some_mapped f [] = refl
some_mapped f (None ∷ os) = refl
some_mapped f (Some a ∷ os) =
    some_before (f a) (map (option_map f) os) ∙ ap (option_map (λ more. f a ∷ more)) (some_mapped f os) ∙ by (all_some os) ∙ ap (option_map (map f)) (sym (some_before a os))
  where
    by : (q : Option (List _)) → option_map (λ more. f a ∷ more) (option_map (map f) q) ≡ option_map (map f) (option_map (λ more. a ∷ more) q)
    by None = refl
    by (Some more) = refl

-- ---- the types of parts

abbrev pub type_ids : List Spanned → List (Option TypeId)
type_ids parts = map (λ (part : Spanned). part.typing.ty) parts

placed_types : (names : ItemNames) (rows later : List TypeRow) (parts : List Spanned) (xs : List Placed) → ArePlaced names rows later parts xs
    → map (type_if names later) (type_ids parts) ≡ types_of (judgements xs)
placed_types names rows later [] [] p = refl
placed_types names rows later [] (x ∷ xs) p = absurd p
placed_types names rows later (part ∷ parts) [] p = absurd p
placed_types names rows later (part ∷ parts) (x ∷ xs) p = λ i. p.0.part.ty i ∷ placed_types names rows later parts xs p.1 i

pub types_there : (names : ItemNames) (rows later : List TypeRow) (parts : List Spanned) (xs : List Placed) (all : Option (List TypeId)) → ArePlaced names rows later parts xs
    → all ≡ all_some (type_ids parts) → option_map (map (type_at names later)) all ≡ all_some (types_of (judgements xs))
types_there names rows later parts xs all p e =
    ap (option_map (map (type_at names later))) e ∙ sym (some_mapped (type_at names later) (type_ids parts)) ∙ ap all_some (placed_types names rows later parts xs p)

pub tuple_there : (names : ItemNames) (rows later : List TypeRow) (parts : List Spanned) (xs : List Placed) (all : List TypeId) (t : TypeId) → ArePlaced names rows later parts xs
    → Some all ≡ all_some (type_ids parts) → type_at names later t ≡ ty.Tuple (map (type_at names later) all)
    → type_if names later (Some t) ≡ and_then (all_some (types_of (judgements xs))) (λ ts. Some (ty.Tuple ts))
tuple_there names rows later parts xs all t p e is =
    ap Some is ∙ ap (λ o. and_then o (λ ts. Some (ty.Tuple ts))) (types_there names rows later parts xs (Some all) p e)

pub no_tuple_there : (names : ItemNames) (rows later : List TypeRow) (parts : List Spanned) (xs : List Placed) → ArePlaced names rows later parts xs
    → None ≡ all_some (type_ids parts) → None ≡ and_then (all_some (types_of (judgements xs))) (λ ts. Some (ty.Tuple ts))
no_tuple_there names rows later parts xs p e = ap (λ o. and_then o (λ ts. Some (ty.Tuple ts))) (types_there names rows later parts xs None p e)

pub types_inside : (xs : List Placed) → types_of (map element_of xs) ≡ types_of (judgements xs)
types_inside [] = refl
types_inside (x ∷ xs) = ap (λ ts. x.judgement.ty ∷ ts) (types_inside xs)

-- ---- rows with one more

pub with_row_kept : (old new : List TypeRow) (r : TypeRow) → is_item_row r ≡ false → new ≡ with_row old r → KeepsItems old new
with_row_kept old new r none rows = subst (KeepsItems old) (sym rows) (items_stay old r none)

-- ---- elements of arrays that have a type

pub untyped_element : (names : ItemNames) (rows later : List TypeRow) (P : ElementSeen → Type 0) (element : Element) (span : Span) (number : UntypedLiteral) (x : ElementSeen)
    → element ≡ code.Untyped span number → IsElement names rows later element x → P (Untyped span number) → P x
untyped_element names rows later P element span number (Untyped at n) e is h =
    let same = subst (λ y. IsElement names rows later y (Untyped at n)) e is in subst P (λ i. Untyped (same.0 i) (same.1 i)) h
untyped_element names rows later P element span number (Value y) e is h = absurd (subst (λ z. IsElement names rows later z (Value y)) e is)

pub value_element : (names : ItemNames) (rows later : List TypeRow) (P : ElementSeen → Type 0) (element : Element) (part : Spanned) (x : ElementSeen)
    → element ≡ code.Value part → IsElement names rows later element x → ((y : Placed) → IsPlaced names rows later part y → P (Value y)) → P x
value_element names rows later P element part (Untyped at n) e is h = absurd (subst (λ z. IsElement names rows later z (Untyped at n)) e is)
value_element names rows later P element part (Value y) e is h = h y (subst (λ z. IsElement names rows later z (Value y)) e is)

-- a type where the first one and all others are there
pub when_first : (o : Option DslxType) (os : List (Option DslxType)) (t : Option DslxType) → when_all (o ∷ os) t ≡ and_then o (λ u. when_all os t)
when_first None os t = refl
when_first (Some a) os t = ap (λ q. and_then q (λ ts. t)) (some_before a os) ∙ by (all_some os)
  where
    by : (q : Option (List DslxType)) → and_then (option_map (λ more. a ∷ more) q) (λ ts. t) ≡ and_then q (λ ts. t)
    by None = refl
    by (Some ts) = refl
