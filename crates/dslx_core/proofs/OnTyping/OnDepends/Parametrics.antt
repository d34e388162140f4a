-- What is known of an item's parametrics and of its signature by the values of parametrics, from what is written there.
use Rattle.std.proofs.Common.{◌≡◌, ◌≤◌, ◌+◌, ◌||◌, ℕ, suc, Bool, true, false, if◌then◌else◌, List, [], ◌∷◌, length, Option, Some, None, arith, refl, sym, ap, ◌∙◌}
use mathlib.Core.Bool.{true≢false}
use Rattle.std.specs.Str.{bytes_eq}
use Rattle.dslx_tree.specs.declared.item.Definition.{Definition}
use Rattle.dslx_tree.specs.declared.item.Parametric.{Parametric}
use Rattle.dslx_meaning.specs.Environment.{Given, given_in}
use Rattle.dslx_meaning.specs.Items.{item_named, parametric_args_bound, with_number}
use Rattle.dslx_meaning.specs.Lists.{is_in}
use Rattle.dslx_meaning.specs.declared.value.DslxValue.{DslxValue}
use Rattle.dslx_meaning.specs.Rules.ItemRules.{item_type_env, typing_of_inner}
use Rattle.dslx_meaning.specs.Rules.TypeEnvs.{DefaultSeen, GlobalEnv, TypeEnv}
use Rattle.dslx_meaning.specs.Rules.Mentions.{parametric_names}
use Rattle.dslx_meaning.specs.Rules.ModuleRules.{BehindParametrics, behind_next, behind_values, default_if, default_seen, globals_over, parameter_seen, parametrics_of, signature_of}
use Rattle.dslx_meaning.specs.Rules.PatternRules.{is_there}
use Rattle.dslx_core.specs.Typing.Typed.Numbers.{FitParametricArgs, values_behind}
use Rattle.dslx_core.specs.Typing.Depends.Alike.{DeclaredAlike, OfAllParametrics, TypesAlike}

-- behind these values of parametrics of an item so much is bound, and these parametrics are left, whatever else is known
abbrev pub Stands : List ℕ → Definition → List (Option DslxValue) → List Given → List Parametric → Type 0
Stands owner x before so_far ps = (known : GlobalEnv) → item_named owner known.whole.items ≡ Some x → behind_values known owner before ≡ record { context = item_type_env known owner so_far; left = ps }

pub stands_first : (owner : List ℕ) (x : Definition) → Stands owner x [] [] (parametrics_of (Some x))
stands_first owner x known is = λ i. record { context = item_type_env known owner []; left = parametrics_of (is i) }

-- one value more
pub stands_next : (owner : List ℕ) (x : Definition) (before : List (Option DslxValue)) (so_far : List Given) (p : Parametric) (ps : List Parametric) (v : DslxValue) → Stands owner x before so_far (p ∷ ps)
    → Stands owner x (Some v ∷ before) (with_number so_far p v) ps
stands_next owner x before so_far p ps v h known is = ap (λ (b : BehindParametrics). behind_next b.context b.left (Some v)) (h known is)

-- all values: those past the last parametric bind nothing
pub stands_all : (owner : List ℕ) (x : Definition) (before : List (Option DslxValue)) (so_far : List Given) (ps : List Parametric) (vs : List DslxValue) → Stands owner x before so_far ps
    → (left : List Parametric) × Stands owner x (values_behind before vs) (parametric_args_bound so_far ps vs) left
stands_all owner x before so_far [] [] h = ([], h)
stands_all owner x before so_far (p ∷ ps) [] h = (p ∷ ps, h)
stands_all owner x before so_far [] (v ∷ vs) h = stands_all owner x (Some v ∷ before) so_far [] vs (λ known is. ap (λ (b : BehindParametrics). behind_next b.context b.left (Some v)) (h known is))
stands_all owner x before so_far (p ∷ ps) (v ∷ vs) h = stands_all owner x (Some v ∷ before) (with_number so_far p v) ps vs (stands_next owner x before so_far p ps v h)

-- the type and the default of the parametric that is left first
pub parameter_is : (owner : List ℕ) (x : Definition) (before : List (Option DslxValue)) (so_far : List Given) (p : Parametric) (ps : List Parametric) → Stands owner x before so_far (p ∷ ps)
    → (known : GlobalEnv) → item_named owner known.whole.items ≡ Some x → (globals_over known).parameter_in owner before ≡ typing_of_inner (item_type_env known owner so_far) p.ty
parameter_is owner x before so_far p ps h known is = ap (λ (b : BehindParametrics). parameter_seen b.context b.left) (h known is)

pub default_is : (owner : List ℕ) (x : Definition) (before : List (Option DslxValue)) (so_far : List Given) (p : Parametric) (ps : List Parametric) → Stands owner x before so_far (p ∷ ps)
    → (known : GlobalEnv) → item_named owner known.whole.items ≡ Some x → (globals_over known).default_in owner before ≡ default_if (item_type_env known owner so_far) p.default
default_is owner x before so_far p ps h known is = ap (λ (b : BehindParametrics). default_seen b.context b.left) (h known is)

-- the signature behind values of all parametrics
pub signature_is : (owner : List ℕ) (x : Definition) (vs : List DslxValue) (known : GlobalEnv) → item_named owner known.whole.items ≡ Some x
    → (globals_over known).signature_in owner (values_behind [] vs) ≡ signature_of (item_type_env known owner (parametric_args_bound [] (parametrics_of (Some x)) vs)) (Some x)
signature_is owner x vs known is =
    let all = stands_all owner x [] [] (parametrics_of (Some x)) vs (stands_first owner x) in
    λ i. signature_of (all.1 known is i).context (is i)

-- parametric arguments that fit are as many as the parametrics
all_values : (before : List (Option DslxValue)) (vs : List DslxValue) → length (values_behind before vs) ≡ length before + length vs
all_values before [] = omega arith
all_values before (v ∷ vs) = all_values (Some v ∷ before) vs ∙ one_further
  where
    one_further : length (Some v ∷ before) + length vs ≡ length before + length (v ∷ vs)
    one_further = omega arith

pub fit_many : (known : GlobalEnv) (owner : List ℕ) (before : List (Option DslxValue)) (ps : List Parametric) (vs : List DslxValue) → FitParametricArgs known owner before ps vs → length vs ≡ length ps
fit_many known owner before [] [] h = refl
fit_many known owner before [] (v ∷ vs) h = absurd h
fit_many known owner before (p ∷ ps) [] h = absurd h
fit_many known owner before (p ∷ ps) (v ∷ vs) h = ap suc (fit_many known owner (Some v ∷ before) ps vs h.1)

pub of_all : (known : GlobalEnv) (owner : List ℕ) (x : Definition) (parametric_args : List DslxValue) → item_named owner known.whole.items ≡ Some x → length parametric_args ≡ length (parametrics_of (Some x)) → OfAllParametrics known owner (values_behind [] parametric_args)
of_all known owner x parametric_args here many =
    let none_before : 0 + length parametric_args ≡ length parametric_args = omega arith in
    all_values [] parametric_args ∙ none_before ∙ many ∙ ap (λ o. length (parametrics_of o)) (sym here)

-- ---- what two global environments know

-- the type environment in the text of an item behind parametrics with these values, where of these no value is known
abbrev pub env_behind : GlobalEnv → List ℕ → List Given → List (List ℕ) → TypeEnv
env_behind known owner given unknown = record (item_type_env known owner given) { unknown = unknown }

-- nothing is bound but these names
abbrev pub Covers : List (List ℕ) → List Given → List (List ℕ) → Type 0
Covers bound given unknown = (name : List ℕ) → is_in name bound ≡ false → (given_in name given ≡ None) × (is_in name unknown ≡ false)

-- each of these is bound to a value or unknown
abbrev pub AreBound : List (List ℕ) → List Given → List (List ℕ) → Type 0
AreBound bound given unknown = (name : List ℕ) → is_in name bound ≡ true → (is_there (given_in name given) || is_in name unknown) ≡ true

-- what is none of these names is none of those before and none of those that are left
abbrev Divided : List (List ℕ) → List (List ℕ) → List (List ℕ) → Type 0
Divided all bound left = (name : List ℕ) → is_in name all ≡ false → (is_in name bound ≡ false) × (is_in name left ≡ false)

not_first : (name n : List ℕ) (ns : List (List ℕ)) → is_in name (n ∷ ns) ≡ false → (bytes_eq name n ≡ false) × (is_in name ns ≡ false)
not_first name n ns h = by_first (bytes_eq name n) h
  where
    by_first : (b : Bool) → (if b then true else is_in name ns) ≡ false → (b ≡ false) × (is_in name ns ≡ false)
    by_first true g = absurd (true≢false g)
    by_first false g = (refl, g)

not_either : (name n : List ℕ) (ns : List (List ℕ)) → bytes_eq name n ≡ false → is_in name ns ≡ false → is_in name (n ∷ ns) ≡ false
not_either name n ns e h = (λ i. if e i then true else is_in name ns) ∙ h

covers_unknown : (bound : List (List ℕ)) (given : List Given) (unknown : List (List ℕ)) (n : List ℕ) → Covers bound given unknown → Covers (n ∷ bound) given (n ∷ unknown)
covers_unknown bound given unknown n h name q = let r = not_first name n bound q in let c = h name r.1 in (c.0, not_either name n unknown r.0 c.1)

pub covers_given : (bound : List (List ℕ)) (given : List Given) (unknown : List (List ℕ)) (p : Parametric) (v : DslxValue) → Covers bound given unknown → Covers (p.name.name ∷ bound) (with_number given p v) unknown
covers_given bound given unknown p v h name q =
    let r = not_first name p.name.name bound q in
    let c = h name r.1 in
    ((λ i. if r.0 i then Some v else given_in name given) ∙ c.0, c.1)

divided_next : (all bound : List (List ℕ)) (n : List ℕ) (ns : List (List ℕ)) → Divided all bound (n ∷ ns) → Divided all (n ∷ bound) ns
divided_next all bound n ns h name q = let d = h name q in let r = not_first name n ns d.1 in (not_either name n bound r.0 d.0, r.1)

-- one more name
one_name : (name n : List ℕ) (ns : List (List ℕ)) → is_in name (n ∷ ns) ≡ true → (bytes_eq name n ≡ false → is_in name ns ≡ true)
one_name name n ns h e = sym (λ i. if e i then true else is_in name ns) ∙ h

bound_unknown : (bound : List (List ℕ)) (given : List Given) (unknown : List (List ℕ)) (n : List ℕ) → AreBound bound given unknown → AreBound (n ∷ bound) given (n ∷ unknown)
bound_unknown bound given unknown n h name q = by_first (bytes_eq name n) refl
  where
    either : (b : Bool) → (b || true) ≡ true
    either true = refl
    either false = refl

    by_first : (b : Bool) → bytes_eq name n ≡ b → (is_there (given_in name given) || (if b then true else is_in name unknown)) ≡ true
    by_first true e = either (is_there (given_in name given))
    by_first false e = h name (one_name name n bound q e)

pub bound_given : (bound : List (List ℕ)) (given : List Given) (unknown : List (List ℕ)) (p : Parametric) (v : DslxValue) → AreBound bound given unknown → AreBound (p.name.name ∷ bound) (with_number given p v) unknown
bound_given bound given unknown p v h name q = by_first (bytes_eq name p.name.name) refl
  where
    by_first : (b : Bool) → bytes_eq name p.name.name ≡ b → (is_there (if b then Some v else given_in name given) || is_in name unknown) ≡ true
    by_first true e = refl
    by_first false e = h name (one_name name p.name.name bound q e)

-- what is one of these names is one of those before or of those that are left
abbrev Joined : List (List ℕ) → List (List ℕ) → List (List ℕ) → Type 0
Joined all bound left = (name : List ℕ) → is_in name all ≡ true → is_in name bound ≡ false → is_in name left ≡ true

joined_next : (all bound : List (List ℕ)) (n : List ℕ) (ns : List (List ℕ)) → Joined all bound (n ∷ ns) → Joined all (n ∷ bound) ns
joined_next all bound n ns h name q e = let r = not_first name n bound e in one_name name n ns (h name q r.1) r.0

-- the parametrics that are left behind so many values
abbrev others : List Parametric → List Parametric
others [] = []
others (p ∷ ps) = ps

abbrev left_of : List (Option DslxValue) → List Parametric → List Parametric
left_of [] ps = ps
left_of (v ∷ vs) ps = others (left_of vs ps)

left_others : (vs : List (Option DslxValue)) (ps : List Parametric) → left_of vs (others ps) ≡ others (left_of vs ps)
left_others [] ps = refl
left_others (v ∷ vs) ps = ap others (left_others vs ps)

nothing_left : (vs : List (Option DslxValue)) (ps : List Parametric) → length ps ≤ length vs → left_of vs ps ≡ []
nothing_left [] [] h = refl
nothing_left [] (p ∷ ps) h = absurd (none_many (length ps) h)
  where
    none_many : (n : ℕ) → suc n ≤ 0 → ⊥
    none_many n l = omega (arith, l)
nothing_left (v ∷ vs) ps h = sym (left_others vs ps) ∙ nothing_left vs (others ps) (less ps h)
  where
    less : (ps : List Parametric) → length ps ≤ suc (length vs) → length (others ps) ≤ length vs
    less [] l = omega arith
    less (p ∷ ps) l = omega (arith, l)

-- behind these values, of which some may not be known: what is bound, and the parametrics that are left, of which this holds
-- behind the names of those before
record Behind (Q : List (List ℕ) → List Parametric → Type 0) (owner : List ℕ) (x : Definition) (before : List (Option DslxValue)) : Type 0 where
  given : List Given
  unknown : List (List ℕ)
  left : List Parametric
  bound : List (List ℕ)
  stands : (known : GlobalEnv) → item_named owner known.whole.items ≡ Some x → behind_values known owner before ≡ record { context = env_behind known owner given unknown; left = left }
  holds : Q bound left
  covers : Covers bound given unknown
  divided : Divided (parametric_names (parametrics_of (Some x))) bound (parametric_names left)
  within : AreBound bound given unknown
  joined : Joined (parametric_names (parametrics_of (Some x))) bound (parametric_names left)
  is_left : left ≡ left_of before (parametrics_of (Some x))

abbrev PassesOn : (List (List ℕ) → List Parametric → Type 0) → Type 0
PassesOn Q = (bound : List (List ℕ)) (p : Parametric) (ps : List Parametric) → Q bound (p ∷ ps) → Q (p.name.name ∷ bound) ps

-- one more
abbrev behind_more : BehindParametrics → Option DslxValue → BehindParametrics
behind_more b v = behind_next b.context b.left v

behind_one : (Q : List (List ℕ) → List Parametric → Type 0) → PassesOn Q → (owner : List ℕ) (x : Definition) (before : List (Option DslxValue)) → Behind Q owner x before → (v : Option DslxValue) → Behind Q owner x (v ∷ before)
behind_one Q on owner x before r v = by_left r.left r.stands r.holds r.divided r.joined r.is_left v
  where
    all : List (List ℕ)
    all = parametric_names (parametrics_of (Some x))

    by_left : (left : List Parametric) → ((known : GlobalEnv) → item_named owner known.whole.items ≡ Some x → behind_values known owner before ≡ record { context = env_behind known owner r.given r.unknown; left = left })
        → Q r.bound left → Divided all r.bound (parametric_names left) → Joined all r.bound (parametric_names left) → left ≡ left_of before (parametrics_of (Some x)) → (v : Option DslxValue) → Behind Q owner x (v ∷ before)
    by_left [] h q d j l v = record {
      given = r.given;
      unknown = r.unknown;
      left = [];
      bound = r.bound;
      stands = λ known is. ap (λ b. behind_more b v) (h known is);
      holds = q;
      covers = r.covers;
      divided = d;
      within = r.within;
      joined = j;
      is_left = ap others l;
    }
    by_left (p ∷ ps) h q d j l None = record {
      given = r.given;
      unknown = p.name.name ∷ r.unknown;
      left = ps;
      bound = p.name.name ∷ r.bound;
      stands = λ known is. ap (λ b. behind_more b None) (h known is);
      holds = on r.bound p ps q;
      covers = covers_unknown r.bound r.given r.unknown p.name.name r.covers;
      divided = divided_next all r.bound p.name.name (parametric_names ps) d;
      within = bound_unknown r.bound r.given r.unknown p.name.name r.within;
      joined = joined_next all r.bound p.name.name (parametric_names ps) j;
      is_left = ap others l;
    }
    by_left (p ∷ ps) h q d j l (Some w) = record {
      given = with_number r.given p w;
      unknown = r.unknown;
      left = ps;
      bound = p.name.name ∷ r.bound;
      stands = λ known is. ap (λ b. behind_more b (Some w)) (h known is);
      holds = on r.bound p ps q;
      covers = covers_given r.bound r.given r.unknown p w r.covers;
      divided = divided_next all r.bound p.name.name (parametric_names ps) d;
      within = bound_given r.bound r.given r.unknown p w r.within;
      joined = joined_next all r.bound p.name.name (parametric_names ps) j;
      is_left = ap others l;
    }

behind : (Q : List (List ℕ) → List Parametric → Type 0) → PassesOn Q → (owner : List ℕ) (x : Definition) → Q [] (parametrics_of (Some x)) → (before : List (Option DslxValue)) → Behind Q owner x before
behind Q on owner x q [] = record {
  given = [];
  unknown = [];
  left = parametrics_of (Some x);
  bound = [];
  stands = λ known is i. record { context = item_type_env known owner []; left = parametrics_of (is i) };
  holds = q;
  covers = λ name e. (refl, refl);
  divided = λ name e. (refl, e);
  within = λ name e. absurd (true≢false (sym e));
  joined = λ name q e. q;
  is_left = refl;
}
behind Q on owner x q (v ∷ before) = behind_one Q on owner x before (behind Q on owner x q before) v

-- where as many values are given as there are parametrics, each parametric is bound
all_bound : (Q : List (List ℕ) → List Parametric → Type 0) (owner : List ℕ) (x : Definition) (before : List (Option DslxValue)) (r : Behind Q owner x before) → length before ≡ length (parametrics_of (Some x))
    → AreBound (parametric_names (parametrics_of (Some x))) r.given r.unknown
all_bound Q owner x before r many name q = by_bound (is_in name r.bound) refl
  where
    enough : length (parametrics_of (Some x)) ≤ length before
    enough = omega (arith, many)

    none : r.left ≡ []
    none = r.is_left ∙ nothing_left before (parametrics_of (Some x)) enough

    by_bound : (b : Bool) → is_in name r.bound ≡ b → (is_there (given_in name r.given) || is_in name r.unknown) ≡ true
    by_bound true e = r.within name e
    by_bound false e = absurd (true≢false (sym (sym (ap (λ ps. is_in name (parametric_names ps)) none) ∙ r.joined name q e)))

module _ (a b : GlobalEnv) (owner : List ℕ) (x : Definition) (at : item_named owner a.whole.items ≡ Some x) (to : item_named owner b.whole.items ≡ Some x) (Q : List (List ℕ) → List Parametric → Type 0) (on : PassesOn Q)
    (typed : (bound : List (List ℕ)) (p : Parametric) (ps : List Parametric) → Q bound (p ∷ ps) → (given : List Given) (unknown : List (List ℕ)) → AreBound bound given unknown
    → typing_of_inner (env_behind a owner given unknown) p.ty ≡ typing_of_inner (env_behind b owner given unknown) p.ty)
    (defaults : (bound : List (List ℕ)) (p : Parametric) (ps : List Parametric) → Q bound (p ∷ ps) → (given : List Given) (unknown : List (List ℕ)) → AreBound bound given unknown
    → default_if (env_behind a owner given unknown) p.default ≡ default_if (env_behind b owner given unknown) p.default)
    (signatures : (given : List Given) (unknown : List (List ℕ)) → AreBound (parametric_names (parametrics_of (Some x))) given unknown → signature_of (env_behind a owner given unknown) (Some x) ≡ signature_of (env_behind b owner given unknown) (Some x)) where
  parameter_alike : (left : List Parametric) (bound : List (List ℕ)) → Q bound left → (given : List Given) (unknown : List (List ℕ)) → AreBound bound given unknown → parameter_seen (env_behind a owner given unknown) left ≡ parameter_seen (env_behind b owner given unknown) left
  parameter_alike [] bound q given unknown w = refl
  parameter_alike (p ∷ ps) bound q given unknown w = typed bound p ps q given unknown w

  default_alike : (left : List Parametric) (bound : List (List ℕ)) → Q bound left → (given : List Given) (unknown : List (List ℕ)) → AreBound bound given unknown → default_seen (env_behind a owner given unknown) left ≡ default_seen (env_behind b owner given unknown) left
  default_alike [] bound q given unknown w = refl
  default_alike (p ∷ ps) bound q given unknown w = defaults bound p ps q given unknown w

  -- what is written in the text of an item is the same by both
  pub declared_alike : Q [] (parametrics_of (Some x)) → DeclaredAlike (globals_over a) (globals_over b) owner
  declared_alike q = record {
    parameter = λ before.
        let r = behind Q on owner x q before in
        ap (λ (z : BehindParametrics). parameter_seen z.context z.left) (r.stands a at) ∙ parameter_alike r.left r.bound r.holds r.given r.unknown r.within ∙ sym (ap (λ (z : BehindParametrics). parameter_seen z.context z.left) (r.stands b to));
    default = λ before.
        let r = behind Q on owner x q before in
        ap (λ (z : BehindParametrics). default_seen z.context z.left) (r.stands a at) ∙ default_alike r.left r.bound r.holds r.given r.unknown r.within ∙ sym (ap (λ (z : BehindParametrics). default_seen z.context z.left) (r.stands b to));
    signature = λ before many.
        let r = behind Q on owner x q before in
        (λ i. signature_of (r.stands a at i).context (at i)) ∙ signatures r.given r.unknown (all_bound Q owner x before r (many ∙ ap (λ o. length (parametrics_of o)) at)) ∙ sym (λ i. signature_of (r.stands b to i).context (to i));
  }

-- ---- types and values alone

-- one value and one type
abbrev pub SameDefault : DefaultSeen → DefaultSeen → Type 0
SameDefault x y = (x.value ≡ y.value) × (x.judgement.ty ≡ y.judgement.ty)

module _ (a b : GlobalEnv) (owner : List ℕ) (x : Definition) (at : item_named owner a.whole.items ≡ Some x) (to : item_named owner b.whole.items ≡ Some x) (Q : List (List ℕ) → List Parametric → Type 0) (on : PassesOn Q)
    (typed : (bound : List (List ℕ)) (p : Parametric) (ps : List Parametric) → Q bound (p ∷ ps) → (given : List Given) (unknown : List (List ℕ)) → Covers bound given unknown → AreBound bound given unknown
    → (typing_of_inner (env_behind a owner given unknown) p.ty).ty ≡ (typing_of_inner (env_behind b owner given unknown) p.ty).ty)
    (defaults : (bound : List (List ℕ)) (p : Parametric) (ps : List Parametric) → Q bound (p ∷ ps) → (given : List Given) (unknown : List (List ℕ)) → Covers bound given unknown → AreBound bound given unknown
    → SameDefault (default_if (env_behind a owner given unknown) p.default) (default_if (env_behind b owner given unknown) p.default))
    (signatures : (given : List Given) (unknown : List (List ℕ)) → Covers (parametric_names (parametrics_of (Some x))) given unknown → AreBound (parametric_names (parametrics_of (Some x))) given unknown
    → signature_of (env_behind a owner given unknown) (Some x) ≡ signature_of (env_behind b owner given unknown) (Some x)) where
  type_alike : (left : List Parametric) (bound : List (List ℕ)) → Q bound left → (given : List Given) (unknown : List (List ℕ)) → Covers bound given unknown → AreBound bound given unknown
      → (parameter_seen (env_behind a owner given unknown) left).ty ≡ (parameter_seen (env_behind b owner given unknown) left).ty
  type_alike [] bound q given unknown c w = refl
  type_alike (p ∷ ps) bound q given unknown c w = typed bound p ps q given unknown c w

  value_alike : (left : List Parametric) (bound : List (List ℕ)) → Q bound left → (given : List Given) (unknown : List (List ℕ)) → Covers bound given unknown → AreBound bound given unknown
      → SameDefault (default_seen (env_behind a owner given unknown) left) (default_seen (env_behind b owner given unknown) left)
  value_alike [] bound q given unknown c w = (refl, refl)
  value_alike (p ∷ ps) bound q given unknown c w = defaults bound p ps q given unknown c w

  -- of what is written in the text of an item the same types and values are known by both
  pub types_alike : Q [] (parametrics_of (Some x)) → TypesAlike (globals_over a) (globals_over b) owner
  types_alike q = record {
    parameter = λ before.
        let r = behind Q on owner x q before in
        ap (λ (z : BehindParametrics). (parameter_seen z.context z.left).ty) (r.stands a at) ∙ type_alike r.left r.bound r.holds r.given r.unknown r.covers r.within
        ∙ sym (ap (λ (z : BehindParametrics). (parameter_seen z.context z.left).ty) (r.stands b to));
    default = λ before.
        let r = behind Q on owner x q before in
        ap (λ (z : BehindParametrics). (default_seen z.context z.left).value) (r.stands a at) ∙ (value_alike r.left r.bound r.holds r.given r.unknown r.covers r.within).0
        ∙ sym (ap (λ (z : BehindParametrics). (default_seen z.context z.left).value) (r.stands b to));
    default_type = λ before.
        let r = behind Q on owner x q before in
        ap (λ (z : BehindParametrics). (default_seen z.context z.left).judgement.ty) (r.stands a at) ∙ (value_alike r.left r.bound r.holds r.given r.unknown r.covers r.within).1
        ∙ sym (ap (λ (z : BehindParametrics). (default_seen z.context z.left).judgement.ty) (r.stands b to));
    signature = λ before many.
        let r = behind Q on owner x q before in
        (λ i. signature_of (r.stands a at i).context (at i)) ∙ signatures r.given r.unknown (λ name e. r.covers name (r.divided name e).0) (all_bound Q owner x before r (many ∙ ap (λ o. length (parametrics_of o)) at)) ∙ sym (λ i. signature_of (r.stands b to i).context (to i));
  }
