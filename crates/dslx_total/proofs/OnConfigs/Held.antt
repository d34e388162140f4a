-- Ends in a `config` by their names: all that are declared have numbers.
use Rattle.std.proofs.Common.{◌≡◌, ◌++◌, ◌||◌, ℕ, suc, length, Bool, true, false, not, if◌then◌else◌, List, [], ◌∷◌, map, Some, refl, sym, ap, ◌∙◌}
use mathlib.Core.Bool.{true≢false}
use Rattle.std.specs.Str.{bytes_eq}
use Rattle.std.proofs.lemmas.List.{map-append}
use Rattle.dslx_tree.specs.declared.ident.Ident.{Ident}
use Rattle.dslx_tree.specs.declared.process.End.{End}
use Rattle.dslx_tree.specs.declared.process.ConfigStatement.{ConfigStatement}
use Rattle.dslx_tree.specs.declared.process.ConfigStatement.TheVariants as config_statement
use Rattle.dslx_tree.specs.declared.process.Proc.{Proc}
use Rattle.dslx_meaning.specs.Lists.{is_in}
use Rattle.dslx_meaning.specs.Network.{Held, made_ends, outer_ends}
use Rattle.dslx_meaning.specs.Rules.TypeEnvs.{TypeEnv, breaks_if}
use Rattle.dslx_meaning.specs.Rules.ProcRules.{Made, end_names, made_at_end, made_at_start, made_with, unknown_ends}
use Rattle.dslx_core.proofs.Lemmas.Typing.Sound.{none_in, passed}
use Rattle.dslx_core.proofs.Lemmas.Typing.Typed.{all_are}
use Rattle.dslx_meaning.specs.Lists.{all_some}
use Rattle.dslx_core.specs.Networks.Ends.{end_number, end_numbers, numbered_ends}

abbrev names_held : List Held → List (List ℕ)
names_held hs = map (λ (h : Held). h.name) hs

-- each of these names has a number
abbrev pub AreNumbered : List Held → List (List ℕ) → Type 0
AreNumbered held names = (name : List ℕ) → is_in name names ≡ true → (k : ℕ) × (end_number name held ≡ Some k)

numbered : (hs : List Held) → AreNumbered hs (names_held hs)
numbered [] name e = absurd (true≢false (sym e))
numbered (h ∷ hs) name e = by_name (bytes_eq name h.name) e (numbered hs name)
  where
    by_name : (b : Bool) → (if b then true else is_in name (names_held hs)) ≡ true → (is_in name (names_held hs) ≡ true → (k : ℕ) × (end_number name hs ≡ Some k))
        → (k : ℕ) × ((if b then Some h.channel else end_number name hs) ≡ Some k)
    by_name true q rest = (h.channel, refl)
    by_name false q rest = rest q

-- ---- what is declared

in_both : (name : List ℕ) (xs ys : List (List ℕ)) → (is_in name xs || is_in name ys) ≡ true → is_in name (xs ++ ys) ≡ true
in_both name [] ys e = e
in_both name (x ∷ xs) ys e = by_first (bytes_eq name x) e (in_both name xs ys)
  where
    by_first : (b : Bool) → ((if b then true else is_in name xs) || is_in name ys) ≡ true → ((is_in name xs || is_in name ys) ≡ true → is_in name (xs ++ ys) ≡ true) → (if b then true else is_in name (xs ++ ys)) ≡ true
    by_first true q rest = refl
    by_first false q rest = rest q

outer_named : (n : ℕ) (es : List End) → names_held (outer_ends n es) ≡ end_names es
outer_named n [] = refl
outer_named n (e ∷ es) = ap (λ names. e.name.name ∷ names) (outer_named (suc n) es)

-- two names before others, in the other order behind those
moved : (a b c d : Bool) → ((if a then true else (if b then true else c)) || d) ≡ true → (c || (if b then true else (if a then true else d))) ≡ true
moved a b true d e = refl
moved true true false d e = refl
moved true false false d e = refl
moved false true false d e = refl
moved false false false d e = e

or_none : (b : Bool) → b ≡ true → (b || false) ≡ true
or_none true e = refl
or_none false e = e

-- what is declared in the end is declared before these, or by them
declared_or_made : (name : List ℕ) (context : TypeEnv) (made : Made) (number : ℕ) (ms : List ConfigStatement) → is_in name (made_at_end context made ms).names ≡ true → (is_in name made.names || is_in name (names_held (made_ends number ms))) ≡ true
declared_or_made name context made number [] e = or_none (is_in name made.names) e
declared_or_made name context made number (config_statement.Spawn s ∷ ms) e = declared_or_made name context made number ms e
declared_or_made name context made number (config_statement.Channel c ∷ ms) e =
    moved (bytes_eq name c.receiver.name) (bytes_eq name c.sender.name) (is_in name made.names) (is_in name (names_held (made_ends (suc number) ms))) (declared_or_made name context (made_with context made c) (suc number) ms e)

-- what is declared stays
pub stays : (name : List ℕ) (context : TypeEnv) (made : Made) (ms : List ConfigStatement) → is_in name made.names ≡ true → is_in name (made_at_end context made ms).names ≡ true
stays name context made [] e = e
stays name context made (config_statement.Spawn s ∷ ms) e = stays name context made ms e
stays name context made (config_statement.Channel c ∷ ms) e = stays name context (made_with context made c) ms (behind (bytes_eq name c.receiver.name) (bytes_eq name c.sender.name) e)
  where
    behind : (a b : Bool) → is_in name made.names ≡ true → (if a then true else (if b then true else is_in name made.names)) ≡ true
    behind true b q = refl
    behind false true q = refl
    behind false false q = q

pub declared_numbered : (context : TypeEnv) (p : Proc) → AreNumbered (numbered_ends p) (made_at_end context (made_at_start context p.config.ends) p.config.config_statements).names
declared_numbered context p name e =
    let outer = outer_ends 0 p.config.ends in
    let made = made_ends (length p.config.ends) p.config.config_statements in
    let both = declared_or_made name context (made_at_start context p.config.ends) (length p.config.ends) p.config.config_statements e in
    numbered (numbered_ends p) name
    (ap (is_in name) (map-append (λ (h : Held). h.name) outer made)
    ∙ in_both name (names_held outer) (names_held made) ((λ i. is_in name (outer_named 0 p.config.ends i) || is_in name (names_held made)) ∙ both))

-- ---- ends that are named

pub record ParametricArgsThere (held : List Held) (is : List Ident) : Type 0 where
  pub parametric_args : List ℕ
  pub are : end_numbers held is ≡ Some parametric_args
  pub many : length parametric_args ≡ length is

-- declared ends have numbers
pub parametric_args_there : (held : List Held) (names : List (List ℕ)) → AreNumbered held names → (is : List Ident) → unknown_ends names is ≡ [] → ParametricArgsThere held is
parametric_args_there held names known is f = let k = each is f in record { parametric_args = k.0; are = ap all_some k.1 ∙ all_are k.0; many = k.2 }
  where
    each : (is : List Ident) → unknown_ends names is ≡ [] → (ks : List ℕ) × (map (λ (i : Ident). end_number i.name held) is ≡ map Some ks) × (length ks ≡ length is)
    each [] g = ([], refl, refl)
    each (i ∷ is) g =
        let q = none_in (breaks_if (not (is_in i.name names)) 1 i.span) (unknown_ends names is) g in
        let k = known i.name (passed (is_in i.name names) 1 i.span q.0) in
        let rest = each is q.1 in
        (k.0 ∷ rest.0, (λ t. k.1 t ∷ rest.1 t), ap suc rest.2)
