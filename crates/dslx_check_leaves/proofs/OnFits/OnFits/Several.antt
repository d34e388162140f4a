-- Whether some of several is so, or all of them, one after another.
use Rattle.std.proofs.Common.{ℕ, ◌≡◌, ◌∙◌, ◌<◌, ◌≤◌, ◌+◌, Bool, true, false, List, length, drop, get_or, Option, refl, sym, ap}
use Rattle.std.specs.Prelude.{◌&&◌, ◌||◌}
use Rattle.std.specs.List.{list_all, list_any}
use Rattle.dslx_tree.specs.declared.pattern.Pattern.{Pattern}
use Rattle.dslx_meaning.specs.declared.ty.DslxType.{DslxType}
use Rattle.dslx_meaning.specs.declared.value.DslxValue.{DslxValue}
use Rattle.dslx_meaning.specs.Rules.TypeEnvs.{TypeEnv, constant_env}
use Rattle.dslx_check_rules.specs.declared.table.row.TypeId.{TypeId}
use Rattle.dslx_check_facts.specs.Walks.{OnlyMisses, WalkShown}
use Rattle.dslx_check_facts.specs.declared.facts.Facts.{Facts}
use Rattle.dslx_check_facts.proofs.Lemmas.Walks.{misses_trans}
use Rattle.dslx_check_leaves.specs.Fits.Fits.{Asked, IsFine, PatternFits, fits_there}
use Rattle.dslx_check_leaves.proofs.OnFits.Among.{all_next, any_next, no_rest}
use Rattle.dslx_check_leaves.proofs.OnFits.OnFits.Asked.{asked_at, none_before}

-- a pattern in the scope of the constants
pub pattern_there : {f : Facts} {w0 w1 : WalkShown} {ty : Option TypeId} {p : Pattern} {v : DslxValue} {b : Bool} → PatternFits f w0 w1 ty p v b
    → Asked f w0 w1 ty (λ known context t. IsFine context t p → b ≡ fits_there context v p)
pattern_there {f} {w0} {w1} {ty} {p} {v} {b} h known later context t asked none fine = (h.fit known later context t asked none fine (constant_env context) asked.items).is

-- whether some of several is so is left to those from one place on
pub record SomeLeft {A : Type 0} (f : Facts) (old new : WalkShown) (ty : Option TypeId) (xs : List A) (fine : TypeEnv → DslxType → List A → Type 0) (test : TypeEnv → A → Bool) (i : ℕ) : Type 0 where
  pub misses : OnlyMisses old new
  pub left : Asked f old new ty (λ known context t. fine context t xs → list_any (test context) xs ≡ list_any (test context) (drop i xs))

pub some_begin : {A : Type 0} {f : Facts} {w : WalkShown} {ty : Option TypeId} {xs : List A} {fine : TypeEnv → DslxType → List A → Type 0} {test : TypeEnv → A → Bool} → OnlyMisses w w → SomeLeft f w w ty xs fine test 0
some_begin {A} {f} {w} {ty} {xs} {fine} {test} m = record { misses = m; left = λ known later context t asked none all. refl }

some_next : {A : Type 0} {f : Facts} {w0 w1 w2 : WalkShown} {ty : Option TypeId} {xs : List A} {fine : TypeEnv → DslxType → List A → Type 0} {test : TypeEnv → A → Bool} {b : Bool}
    (one : TypeEnv → DslxType → A → Type 0) (i : ℕ) (x : A) → SomeLeft f w0 w1 ty xs fine test i → i < length xs → x ≡ get_or xs i x → ((context : TypeEnv) (t : DslxType) → fine context t xs → one context t x)
    → OnlyMisses w1 w2 → Asked f w1 w2 ty (λ known context t. one context t x → b ≡ test context x)
    → Asked f w0 w2 ty (λ known context t. fine context t xs → list_any (test context) xs ≡ (b || list_any (test context) (drop (i + 1) xs)))
some_next {A} {f} {w0} {w1} {w2} {ty} {xs} {fine} {test} {b} one i x left h e at m is known later context t asked none all =
    left.left known later context t asked (none_before m none) all ∙ any_next (test context) xs i x h e
    ∙ ap (λ c. c || list_any (test context) (drop (i + 1) xs)) (sym (is known later context t (asked_at left.misses.rows asked) none (at context t all)))

pub some_more : {A : Type 0} {f : Facts} {w0 w1 w2 : WalkShown} {ty : Option TypeId} {xs : List A} {fine : TypeEnv → DslxType → List A → Type 0} {test : TypeEnv → A → Bool} {b : Bool}
    (one : TypeEnv → DslxType → A → Type 0) (i : ℕ) (x : A) → SomeLeft f w0 w1 ty xs fine test i → i < length xs → x ≡ get_or xs i x → ((context : TypeEnv) (t : DslxType) → fine context t xs → one context t x)
    → OnlyMisses w1 w2 → Asked f w1 w2 ty (λ known context t. one context t x → b ≡ test context x) → b ≡ false → SomeLeft f w0 w2 ty xs fine test (i + 1)
some_more {A} {f} {w0} {w1} {w2} {ty} {xs} {fine} {test} {b} one i x left h e at m is not_so = record {
  misses = misses_trans w0 w1 w2 left.misses m;
  left = λ known later context t asked none all. some_next one i x left h e at m is known later context t asked none all ∙ ap (λ c. c || list_any (test context) (drop (i + 1) xs)) not_so;
}

pub some_so : {A : Type 0} {f : Facts} {w0 w1 w2 : WalkShown} {ty : Option TypeId} {xs : List A} {fine : TypeEnv → DslxType → List A → Type 0} {test : TypeEnv → A → Bool} {b : Bool}
    (one : TypeEnv → DslxType → A → Type 0) (i : ℕ) (x : A) → SomeLeft f w0 w1 ty xs fine test i → i < length xs → x ≡ get_or xs i x → ((context : TypeEnv) (t : DslxType) → fine context t xs → one context t x)
    → OnlyMisses w1 w2 → Asked f w1 w2 ty (λ known context t. one context t x → b ≡ test context x) → b ≡ true → Asked f w0 w2 ty (λ known context t. fine context t xs → true ≡ list_any (test context) xs)
some_so {A} {f} {w0} {w1} {w2} {ty} {xs} {fine} {test} {b} one i x left h e at m is so known later context t asked none all =
    sym (some_next one i x left h e at m is known later context t asked none all ∙ ap (λ c. c || list_any (test context) (drop (i + 1) xs)) so)

pub some_end : {A : Type 0} {f : Facts} {w0 w1 : WalkShown} {ty : Option TypeId} {xs : List A} {fine : TypeEnv → DslxType → List A → Type 0} {test : TypeEnv → A → Bool} (i : ℕ) → length xs ≤ i → SomeLeft f w0 w1 ty xs fine test i
    → Asked f w0 w1 ty (λ known context t. fine context t xs → false ≡ list_any (test context) xs)
some_end {A} {f} {w0} {w1} {ty} {xs} {fine} {test} i h left known later context t asked none all = sym (left.left known later context t asked none all ∙ ap (list_any (test context)) (no_rest xs i h))

-- whether all are
pub record AllLeft {A : Type 0} (f : Facts) (old new : WalkShown) (ty : Option TypeId) (xs : List A) (fine : TypeEnv → DslxType → Type 0) (test : TypeEnv → A → Bool) (i : ℕ) : Type 0 where
  pub misses : OnlyMisses old new
  pub left : Asked f old new ty (λ known context t. fine context t → list_all (test context) xs ≡ list_all (test context) (drop i xs))

pub all_begin : {A : Type 0} {f : Facts} {w : WalkShown} {ty : Option TypeId} {xs : List A} {fine : TypeEnv → DslxType → Type 0} {test : TypeEnv → A → Bool} → OnlyMisses w w → AllLeft f w w ty xs fine test 0
all_begin {A} {f} {w} {ty} {xs} {fine} {test} m = record { misses = m; left = λ known later context t asked none all. refl }

all_next_is : {A : Type 0} {f : Facts} {w0 w1 w2 : WalkShown} {ty : Option TypeId} {xs : List A} {fine : TypeEnv → DslxType → Type 0} {test : TypeEnv → A → Bool} {b : Bool} (i : ℕ) (x : A)
    → AllLeft f w0 w1 ty xs fine test i → i < length xs → x ≡ get_or xs i x → OnlyMisses w1 w2 → Asked f w1 w2 ty (λ known context t. fine context t → b ≡ test context x)
    → Asked f w0 w2 ty (λ known context t. fine context t → list_all (test context) xs ≡ (b && list_all (test context) (drop (i + 1) xs)))
all_next_is {A} {f} {w0} {w1} {w2} {ty} {xs} {fine} {test} {b} i x left h e m is known later context t asked none all =
    left.left known later context t asked (none_before m none) all ∙ all_next (test context) xs i x h e
    ∙ ap (λ c. c && list_all (test context) (drop (i + 1) xs)) (sym (is known later context t (asked_at left.misses.rows asked) none all))

pub all_more : {A : Type 0} {f : Facts} {w0 w1 w2 : WalkShown} {ty : Option TypeId} {xs : List A} {fine : TypeEnv → DslxType → Type 0} {test : TypeEnv → A → Bool} {b : Bool} (i : ℕ) (x : A)
    → AllLeft f w0 w1 ty xs fine test i → i < length xs → x ≡ get_or xs i x → OnlyMisses w1 w2 → Asked f w1 w2 ty (λ known context t. fine context t → b ≡ test context x) → b ≡ true → AllLeft f w0 w2 ty xs fine test (i + 1)
all_more {A} {f} {w0} {w1} {w2} {ty} {xs} {fine} {test} {b} i x left h e m is so = record {
  misses = misses_trans w0 w1 w2 left.misses m;
  left = λ known later context t asked none all. all_next_is i x left h e m is known later context t asked none all ∙ ap (λ c. c && list_all (test context) (drop (i + 1) xs)) so;
}

pub all_not : {A : Type 0} {f : Facts} {w0 w1 w2 : WalkShown} {ty : Option TypeId} {xs : List A} {fine : TypeEnv → DslxType → Type 0} {test : TypeEnv → A → Bool} {b : Bool} (i : ℕ) (x : A)
    → AllLeft f w0 w1 ty xs fine test i → i < length xs → x ≡ get_or xs i x → OnlyMisses w1 w2 → Asked f w1 w2 ty (λ known context t. fine context t → b ≡ test context x) → b ≡ false
    → Asked f w0 w2 ty (λ known context t. fine context t → false ≡ list_all (test context) xs)
all_not {A} {f} {w0} {w1} {w2} {ty} {xs} {fine} {test} {b} i x left h e m is not_so known later context t asked none all =
    sym (all_next_is i x left h e m is known later context t asked none all ∙ ap (λ c. c && list_all (test context) (drop (i + 1) xs)) not_so)

pub all_end_is : {A : Type 0} {f : Facts} {w0 w1 : WalkShown} {ty : Option TypeId} {xs : List A} {fine : TypeEnv → DslxType → Type 0} {test : TypeEnv → A → Bool} (i : ℕ) → length xs ≤ i → AllLeft f w0 w1 ty xs fine test i
    → Asked f w0 w1 ty (λ known context t. fine context t → true ≡ list_all (test context) xs)
all_end_is {A} {f} {w0} {w1} {ty} {xs} {fine} {test} i h left known later context t asked none all = sym (left.left known later context t asked none all ∙ ap (list_all (test context)) (no_rest xs i h))
