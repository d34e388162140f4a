-- Lists and names, as the definitions of the language use them.
use Rattle.std.specs.Prelude.{ℕ, zero, suc, List, [], ◌∷◌, ◌&&◌, Bool, true, false, Option, Some, None, slice_get, if◌then◌else◌}
use Rattle.std.specs.Str.{bytes_eq}

-- what each makes of it, if each makes something
abbrev pub all_some : {A : Type 0} → List (Option A) → Option (List A)
all_some [] = Some []
all_some (None ∷ os) = None
all_some (Some a ∷ os) = put_before a (all_some os)
  where
    put_before : {A : Type 0} → A → Option (List A) → Option (List A)
    put_before a None = None
    put_before a (Some as') = Some (a ∷ as')

-- a value, and what is made of it if it is there
abbrev pub and_then : {A B : Type 0} → Option A → (A → Option B) → Option B
and_then None f = None
and_then (Some a) f = f a

-- two values, and what is made of them if both are there
abbrev pub with_both : {A B C : Type 0} → Option A → Option B → (A → B → Option C) → Option C
with_both (Some a) (Some b) f = f a b
with_both _ _ f = None

-- the first that is there
abbrev pub or_else : {A : Type 0} → Option A → Option A → Option A
or_else None o = o
or_else (Some a) o = Some a

-- the value only where the test holds
abbrev pub where_true : {A : Type 0} → Bool → Option A → Option A
where_true true o = o
where_true false o = None

-- whether the name is one of these
abbrev pub is_in : List ℕ → List (List ℕ) → Bool
is_in name [] = false
is_in name (n ∷ ns) = if bytes_eq name n then true else is_in name ns

-- how often the name stands among these
abbrev pub times_in : List ℕ → List (List ℕ) → ℕ
times_in name [] = 0
times_in name (n ∷ ns) = if bytes_eq name n then suc (times_in name ns) else times_in name ns

-- the index of the first name that is this one
abbrev pub index_in : List ℕ → List (List ℕ) → Option ℕ
index_in name [] = None
index_in name (n ∷ ns) = if bytes_eq name n then Some 0 else one_more (index_in name ns)
  where
    one_more : Option ℕ → Option ℕ
    one_more None = None
    one_more (Some k) = Some (suc k)

-- what stands beside the first name that is this one
abbrev pub beside : {A : Type 0} → List ℕ → List (List ℕ) → List A → Option A
beside name names as' = and_then (index_in name names) (λ k. slice_get as' k)

-- the two lists are equally long, and each pair passes the test
abbrev pub pairwise : {A B : Type 0} → (A → B → Bool) → List A → List B → Bool
pairwise test [] [] = true
pairwise test (a ∷ as') (b ∷ bs) = test a b && pairwise test as' bs
pairwise test [] (b ∷ bs) = false
pairwise test (a ∷ as') [] = false

-- each function at its own argument, where there are as many
abbrev pub apply_each : {A B : Type 0} → List (A → B) → List A → List B
apply_each [] as' = []
apply_each (f ∷ fs) [] = []
apply_each (f ∷ fs) (a ∷ as') = f a ∷ apply_each fs as'

-- as many of one
abbrev pub repeated : {A : Type 0} → ℕ → A → List A
repeated zero a = []
repeated (suc n) a = a ∷ repeated n a

-- the last of a list
abbrev pub last_of : {A : Type 0} → List A → Option A
last_of [] = None
last_of (a ∷ []) = Some a
last_of (a ∷ b ∷ bs) = last_of (b ∷ bs)
