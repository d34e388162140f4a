-- What a printed module says is that module.
use Rattle.std.proofs.Common.{◌≡◌, ◌+◌, ◌-◌, ◌<◌, ◌≤◌, ◌==◌, ◌||◌, ◌∙◌, ℕ, zero, suc, Bool, true, false, List, [], ◌∷◌, ◌++◌, map, length, Some, None, refl, sym, ap, ap₂, subst, arith}
use Rattle.std.specs.Prelude.{bytes_eq, min, option_map, slice_get, unwrap_or, if◌then◌else◌}
use Rattle.std.specs.List.{AllByRecursion}
use Rattle.std.proofs.Props.{props}
use Rattle.std.proofs.lemmas.Bool.{eqb-true}
use Rattle.std.proofs.lemmas.List.{map-append}
use Rattle.std.proofs.lemmas.List.Folds.{list_any-append}
use Rattle.std.proofs.lemmas.Slice.Eq.{bytes_eq-Decides}
use mathlib.Core.HLevel.{is_prop→PathP}
use Rattle.vlog_tree.specs.declared.module.VModule.{VModule}
use Rattle.vlog_tree.specs.declared.module.Port.{Port}
use Rattle.vlog_tree.specs.declared.module.Declaration.{Declaration}
use Rattle.vlog_tree.specs.declared.module.Assignment.{Assignment}
use Rattle.vlog_tree.specs.declared.module.Set.{Set}
use Rattle.vlog_tree.specs.declared.signal.Signal.{Signal}
use Rattle.vlog_tree.specs.declared.expression.Atom.{Atom}
use Rattle.vlog_tree.specs.declared.expression.Atom.TheVariants as atom
use Rattle.vlog_tree.specs.declared.expression.Simple.{Simple}
use Rattle.vlog_tree.specs.declared.expression.Simple.TheVariants as simple
use Rattle.vlog_tree.specs.declared.expression.Expr.{Expr}
use Rattle.vlog_tree.specs.declared.expression.Expr.TheVariants as expr
use Rattle.vlog_tree.specs.Signals.{Declared, declared_own, declared_port, signals}
use Rattle.vlog_tree.specs.Sound.{IsKnown, IsKnownAtom, IsKnownSimple}
use Rattle.vlog_tree.specs.Verifier.Parts.{is_among}
use Rattle.vlog_text.specs.Builder.Parts.{most, name_text, index_from, range_width, signal_of, undeclared}
use Rattle.vlog_text.specs.Builder.Rules.{declaration_by, port_by}
use Rattle.vlog_text.specs.Printer.Parts.{signal_text}
use Rattle.vlog_text.proofs.OnRoundTrip.WithSpans.{AreApart}
use Rattle.vlog_text.proofs.OnRoundTrip.Spelling.{if_false, if_true, literal-said, name-said, number-said}
use Rattle.vlog_text.proofs.OnRoundTrip.Whole.{read_names, said_module}
use Rattle.vlog_text.proofs.OnRoundTrip.Words.{IsShort, IsShortExpr, IsWrittenAssignment, IsWrittenDeclaration, IsWrittenModule, IsWrittenPort, IsWrittenSet, declaration_names, port_names, said_assignment, said_atom, said_declaration, said_expr, said_number, said_port, said_range, said_set, said_signal, said_simple}

-- ---- the place of a name

abbrev names_of : List Declared → List (List ℕ)
names_of ds = map (λ (d : Declared). d.name) ds

no_first : (a b : Bool) → (a || b) ≡ false → a ≡ false
no_first true b h = absurd (cc)
no_first false b h = refl

no_second : (a b : Bool) → (a || b) ≡ false → b ≡ false
no_second true b h = absurd (cc)
no_second false b h = h

unseen : (seen : List (List ℕ)) (ds : List Declared) → AreApart seen ds → (k : ℕ) (d : Declared) → slice_get ds k ≡ Some d → is_among seen d.name ≡ false
unseen seen [] h k d e = absurd (cc)
unseen seen (x ∷ ds) h zero d e = let same : x ≡ d = cc in subst (λ (y : Declared). is_among seen y.name ≡ false) same h.0
unseen seen (x ∷ ds) h (suc k) d e =
    no_first (is_among seen d.name) (is_among (x.name ∷ []) d.name)
    (sym (list_any-append (bytes_eq d.name) seen (x.name ∷ [])) ∙ unseen (seen ++ x.name ∷ []) ds h.1 k d e)

last_differs : (seen : List (List ℕ)) (name q : List ℕ) → is_among (seen ++ name ∷ []) q ≡ false → bytes_eq q name ≡ false
last_differs seen name q h =
    no_first (bytes_eq q name) false (no_second (is_among seen q) (is_among (name ∷ []) q) (sym (list_any-append (bytes_eq q) seen (name ∷ [])) ∙ h))

same_name : (q : List ℕ) → bytes_eq q q ≡ true
same_name q = (bytes_eq-Decides q q).1 refl

found : (seen : List (List ℕ)) (ds : List Declared) → AreApart seen ds → (i k : ℕ) (d : Declared) → slice_get ds k ≡ Some d → index_from i (names_of ds) d.name ≡ Some (min (i + k) undeclared)
found seen [] h i k d e = absurd (cc)
found seen (x ∷ ds) h i zero d e =
    let same : x ≡ d = cc in
    if_true (bytes_eq d.name x.name) (Some (min i undeclared)) _ (ap (λ (y : Declared). bytes_eq d.name y.name) same ∙ same_name d.name)
    ∙ ap (λ j. Some (min j undeclared)) (none_more i)
  where
    none_more : (i : ℕ) → i ≡ i + 0
    none_more i = omega arith
found seen (x ∷ ds) h i (suc k) d e =
    if_false (bytes_eq d.name x.name) (Some (min i undeclared)) (index_from (suc i) (names_of ds) d.name) (last_differs seen x.name d.name (unseen (seen ++ x.name ∷ []) ds h.1 k d e))
    ∙ found (seen ++ x.name ∷ []) ds h.1 (suc i) k d e
    ∙ ap (λ j. Some (min j undeclared)) (step i k)
  where
    step : (i k : ℕ) → suc i + k ≡ i + suc k
    step i k = omega arith

-- ---- lists

pub each_of : {A : Type 0} (P Q : A → Type 0) → ((x : A) → P x → Q x) → (xs : List A) → AllByRecursion P xs → AllByRecursion Q xs
each_of P Q go [] h = tt
each_of P Q go (x ∷ xs) h = (go x h.0, each_of P Q go xs h.1)

pub map_same : {A : Type 0} (f : A → A) (xs : List A) → AllByRecursion (λ x. f x ≡ x) xs → map f xs ≡ xs
map_same f [] h = refl
map_same f (x ∷ xs) h = ap₂ (λ y ys. y ∷ ys) h.0 (map_same f xs h.1)

pub slice_within : {A : Type 0} (xs : List A) (k : ℕ) → k < length xs → (x : A) × (slice_get xs k ≡ Some x)
slice_within [] k h = absurd (omega (arith, h))
slice_within (x ∷ xs) zero h = (x, refl)
slice_within (x ∷ xs) (suc k) h = slice_within xs k (omega (arith, h))

-- ---- signals

-- the names of a module's signals, as they are read, are its signals' names
port_names_are : (ports : List Port) → AllByRecursion IsWrittenPort ports → port_names ports ≡ names_of (map declared_port ports)
port_names_are [] h = refl
port_names_are (p ∷ ports) h = ap₂ (λ n ns. n ∷ ns) (name-said p.name h.0.1.0) (port_names_are ports h.1)

declaration_names_are : (ds : List Declaration) → AllByRecursion IsWrittenDeclaration ds → declaration_names ds ≡ names_of (map declared_own ds)
declaration_names_are [] h = refl
declaration_names_are (d ∷ ds) h = ap₂ (λ n ns. n ∷ ns) (name-said d.name h.0.1.0) (declaration_names_are ds h.1)

names_are : (m : VModule) → IsWrittenModule m → read_names m ≡ names_of (signals m)
unfolding read_names
names_are m w =
    ap₂ (λ a b. a ++ b) (port_names_are m.ports w.ports) (declaration_names_are m.declarations w.declarations)
    ∙ sym (map-append (λ (d : Declared). d.name) (map declared_port m.ports) (map declared_own m.declarations))

pub text_is : (m : VModule) (s : ℕ) (d : Declared) → slice_get (signals m) s ≡ Some d → signal_text m s ≡ d.name
unfolding signal_text
text_is m s d e = ap (λ o. unwrap_or (option_map (λ (x : Declared). x.name) o) []) e

module _ (m : VModule) (w : IsWrittenModule m) (apart : AreApart [] (signals m)) (few : length (signals m) < 4294967296) where
  resolved : (s : ℕ) → s < length (signals m) → signal_of (read_names m) (name_text (signal_text m s)) ≡ s
  resolved s h =
      let at = slice_within (signals m) s h in
      let name : signal_text m s ≡ at.0.name = text_is m s at.0 at.1 in
      ap₂ signal_of (names_are m w) (name-said (signal_text m s) (w.named s h).0 ∙ name)
      ∙ ap (λ o. unwrap_or o undeclared) (found [] (signals m) apart 0 s at.0 at.1)
      ∙ small s (omega (arith, h, few))
    where
      small : (s : ℕ) → s < 4294967296 → min (0 + s) undeclared ≡ s
      small s h = omega (arith, h)

  same_signal : (s : Signal) → s.0 < length (signals m) → said_signal m (read_names m) s ≡ s
  same_signal s h = ap (λ (k : ℕ). record { 0 = k }) (resolved s.0 h)

  same_atom : (a : Atom) → IsKnownAtom (length (signals m)) a → said_atom m (read_names m) a ≡ a
  same_atom (atom.Signal s) h = ap atom.Signal (same_signal s h)
  same_atom (atom.Literal l) h = ap atom.Literal (literal-said l h)

  same_simple : (x : Simple) → IsKnownSimple (length (signals m)) x → IsShort x → said_simple m (read_names m) x ≡ x
  same_simple (simple.Atom a) h short = ap simple.Atom (same_atom a h)
  same_simple (simple.Binary o a b) h short = ap₂ (simple.Binary o) (same_atom a h.0) (same_atom b h.1)
  same_simple (simple.Unary o a) h short = ap (simple.Unary o) (same_atom a h)
  same_simple (simple.Slice s high low) h short =
      ap (λ (t : Signal). simple.Slice t (said_number high) (said_number low)) (same_signal s h)
      ∙ ap₂ (λ (i j : ℕ). simple.Slice s i j) (number-said high short.0) (number-said low short.1)
  same_simple (simple.Concat atoms) h short = ap simple.Concat (map_same (said_atom m (read_names m)) atoms (each_of (IsKnownAtom (length (signals m))) (λ a. said_atom m (read_names m) a ≡ a) same_atom atoms h))

  same_expr : (x : Expr) → IsKnown (length (signals m)) x → IsShortExpr x → said_expr m (read_names m) x ≡ x
  same_expr (expr.Simple x) h short = ap expr.Simple (same_simple x h short)
  same_expr (expr.SignedOrder o a b) h short = ap₂ (expr.SignedOrder o) (same_signal a h.0) (same_signal b h.1)
  same_expr (expr.SignedShift a k) h short = ap₂ expr.SignedShift (same_signal a h.0) (same_atom k h.1)
  same_expr (expr.Choice c a b) h short =
      ap (λ (d : Atom). expr.Choice d (said_simple m (read_names m) a) (said_simple m (read_names m) b)) (same_atom c h.0)
      ∙ ap₂ (expr.Choice c) (same_simple a h.1 short.0) (same_simple b h.2 short.1)

  same_assignment : (a : Assignment) → IsWrittenAssignment m a → said_assignment m (read_names m) a ≡ a
  same_assignment a h = ap₂ (λ (t : Signal) (x : Expr). record { target = t; value = x }) (same_signal a.target h.0) (same_expr a.value h.1 h.2)

  same_set : (set : Set) → IsWrittenSet m set → said_set m (read_names m) set ≡ set
  same_set set h = ap₂ (λ (t : Signal) (x : Atom). record { target = t; value = x }) (same_signal set.target h.0) (same_atom set.value h.1)

-- ---- ports and declarations

width_by : (b : Bool) (width : ℕ) → (width == 1) ≡ b → 1 ≤ width → width ≤ 128 → range_width (if b then None else Some (said_number (width - 1))) ≡ width
width_by true width e some most = sym (eqb-true width 1 e)
width_by false width e some few =
    let said : said_number (width - 1) ≡ width - 1 = number-said (width - 1) (omega (arith, few)) in
    omega (arith, said, some, few)

same_width : (width : ℕ) → 1 ≤ width → width ≤ 128 → range_width (said_range width) ≡ width
same_width width some few = width_by (width == 1) width refl some few

port_path : (a b : Port) → a.direction ≡ b.direction → a.name ≡ b.name → a.width ≡ b.width → a ≡ b
port_path a b d n w = λ i. record { direction = d i; name = n i; width = w i; some_width = is_prop→PathP (λ j. 1 ≤ w j) (λ j. hlevel props) a.some_width b.some_width i }

declaration_path : (a b : Declaration) → a.storage ≡ b.storage → a.name ≡ b.name → a.width ≡ b.width → a ≡ b
declaration_path a b d n w = λ i. record { storage = d i; name = n i; width = w i; some_width = is_prop→PathP (λ j. 1 ≤ w j) (λ j. hlevel props) a.some_width b.some_width i }

same_port : (p : Port) → IsWrittenPort p → said_port p ≡ p
unfolding port_by
same_port p h = port_path (said_port p) p refl (name-said p.name h.1.0) (same_width p.width p.some_width h.0)

same_declaration : (d : Declaration) → IsWrittenDeclaration d → said_declaration d ≡ d
unfolding declaration_by
same_declaration d h = declaration_path (said_declaration d) d refl (name-said d.name h.1.0) (same_width d.width d.some_width h.0)

-- ---- the module

module_path : (a b : VModule) → a.name ≡ b.name → a.ports ≡ b.ports → a.declarations ≡ b.declarations → a.assignments ≡ b.assignments → a.at_reset ≡ b.at_reset → a.at_clock ≡ b.at_clock → a ≡ b
module_path a b n p d s r c = λ i. record { name = n i; ports = p i; declarations = d i; assignments = s i; at_reset = r i; at_clock = c i }

pub same_module : (m : VModule) → IsWrittenModule m → AreApart [] (signals m) → length (signals m) < 4294967296 → said_module m ≡ m
same_module m w apart few =
    module_path (said_module m) m (name-said m.name w.name.0)
    (map_same said_port m.ports (each_of IsWrittenPort (λ p. said_port p ≡ p) same_port m.ports w.ports))
    (map_same said_declaration m.declarations (each_of IsWrittenDeclaration (λ d. said_declaration d ≡ d) same_declaration m.declarations w.declarations))
    (map_same (said_assignment m (read_names m)) m.assignments (each_of (IsWrittenAssignment m) (λ a. said_assignment m (read_names m) a ≡ a) (same_assignment m w apart few) m.assignments w.assignments))
    (map_same (said_set m (read_names m)) m.at_reset (each_of (IsWrittenSet m) (λ s. said_set m (read_names m) s ≡ s) (same_set m w apart few) m.at_reset w.resets))
    (map_same (said_set m (read_names m)) m.at_clock (each_of (IsWrittenSet m) (λ s. said_set m (read_names m) s ≡ s) (same_set m w apart few) m.at_clock w.clocks))
