-- Parametrics of calls, one after another.
use Rattle.std.proofs.Common.{◌≡◌, ◌∙◌, ◌<◌, ◌≤◌, ◌+◌, ◌++◌, ◌∷◌, ◌==◌, ◌&&◌, ◌||◌, [], ℕ, zero, suc, Bool, true, false, is_some, List, Option, Some, None, arith, drop, take, eq-eqb, get_or, length, slice_get, refl, sym, ap, subst, append_assoc, if◌then◌else◌}
use mathlib.Core.Bool.{true≢false}
use Rattle.std.specs.List.{list_all}
use Rattle.std.specs.Option.{option_map}
use Rattle.std.specs.Prelude.{Result, Ok, Err, OnOk}
use Rattle.std.proofs.Math.Seq.{drop-cons}
use Rattle.std.proofs.lemmas.List.{append-nil, map-append}
use Rattle.std.proofs.lemmas.Option.{none-some, same_Some}
use Rattle.base.specs.Lists.Prefix.{IsPrefix}
use Rattle.base.proofs.Lemmas.Lists.Prefixes.{IsPrefix-refl, IsPrefix-trans}
use Rattle.xb_span.specs.declared.fault.Fault.{Fault}
use Rattle.xb_span.specs.declared.span.Span.{Span}
use Rattle.dslx_tree.specs.declared.expr.Expr.{Expr, out-Expr}
use Rattle.dslx_tree.specs.declared.item.Parametric.{Parametric}
use Rattle.dslx_meaning.specs.Inference.{Inferred as InferredNumber}
use Rattle.dslx_meaning.specs.Lists.{all_some, is_in, where_true}
use Rattle.dslx_meaning.specs.Operators.{number_value}
use Rattle.dslx_meaning.specs.Types.{bits_in, same_type}
use Rattle.dslx_meaning.specs.Values.{type_of_value}
use Rattle.dslx_meaning.specs.declared.ty.DslxType.{DslxType}
use Rattle.dslx_meaning.specs.declared.value.DslxValue.{DslxValue}
use Rattle.dslx_meaning.specs.Rules.AggregateRules.{is_narrow, untyped_value, wanted_faults}
use Rattle.dslx_meaning.specs.Rules.CallRules.{Before, JudgedThere, ParametricArgument as GivenSeen, ParametricArgsSeen, Resolved as ResolvedSeen, Number, Unknown, Wrong, and_parametric, and_there, default_value, in_type, is_wrong_parametric, known_before, not_given, nothing_there, number_before, of_type, parametric_args_for, parametric_args_seen, parametric_type, resolved_value, type_there, value_before, without_default}
use Rattle.dslx_meaning.specs.Rules.ConstantRules.{untyped_typing}
use Rattle.dslx_meaning.specs.Rules.PatternRules.{is_there}
use Rattle.dslx_meaning.specs.Rules.TypeRules.{unless_unit}
use Rattle.dslx_meaning.specs.Rules.TypeEnvs.{DefaultSeen, GlobalEnv, Judgement}
use Rattle.dslx_check_rules.specs.declared.faults.Faults.{Faults}
use Rattle.dslx_check_rules.specs.declared.table.row.TypeId.{TypeId}
use Rattle.dslx_check_rules.specs.declared.table.row.TypeRow.{TypeRow}
use Rattle.dslx_check_rules.specs.Seen.{seen}
use Rattle.dslx_check_rules.specs.Interned.{HasRowIf, ItemNames, type_if}
use Rattle.dslx_check_rules.proofs.Lemmas.Types.{get_in_prefix}
use Rattle.dslx_check_facts.specs.declared.facts.Facts.{Facts}
use Rattle.dslx_check_facts.specs.declared.facts.DefaultThere.{DefaultThere}
use Rattle.dslx_check_facts.specs.declared.facts.TypingThere.{TypingThere}
use Rattle.dslx_check_facts.specs.Keys.{list_or_none, values_or_none}
use Rattle.dslx_check_facts.specs.Known.{FactsHold, Has, HasKnownRows, item_names}
use Rattle.dslx_check_facts.specs.Typings.{IsDefault, IsTypingThere}
use Rattle.dslx_check_facts.specs.Walks.{WalkShown, WalkGrows, HasTables, instance_at, instances_at}
use Rattle.dslx_check_facts.proofs.Lemmas.Judged.{known_rows_stay, row_stays_if}
use Rattle.dslx_check_facts.proofs.Lemmas.Walks.{grows_refl, grows_trans, nothing_missing, tables_trans}
use Rattle.dslx_check_rules.specs.Nodes.Nodes.Aggregates.{is_in_range}
use Rattle.dslx_check_rules.proofs.Lemmas.Nodes.Lists.{pairs_long, some_before, some_next}
use Rattle.dslx_check_rules.specs.declared.control.calls.ParametricArgument.{ParametricArgument}
use Rattle.dslx_check_rules.specs.Control.Calls.{AreGiven, IsGiven}
use Rattle.dslx_check_uses.specs.declared.parametrics.CalledItem.{CalledItem}
use Rattle.dslx_check_uses.specs.declared.parametrics.ParametricArgs.{ParametricArgs}
use Rattle.dslx_check_uses.specs.declared.parametrics.Resolved.{Resolved}
use Rattle.dslx_check_uses.specs.declared.parametrics.Resolved.TheVariants as code
use Rattle.dslx_check_uses.specs.Arguments.{AreArgs, ArgsFrom, Finds, Saying, Sees}
use Rattle.dslx_check_uses.specs.Inner.Parametrics.{AddsThere, Argues, Argument, ArgumentFrom, GivenFrom, HasBefore, IsNoArgs, IsGivenIf, IsResolved, NextFrom, NotesDefault, NotesThere, NotesType, PutsValue, ResolvedFrom, Resolves, DeclaredType, argument_by, default_at, default_known, is_number, is_same, is_wrong_value, next_argument, not_given_by, value_if}
use Rattle.dslx_check_uses.specs.Inferring.{first_number}

-- ---- results

pub on_ok : {T E : Type 0} (r : Result T E) (P Q : Type 0) → (P → Q) → OnOk r P → OnOk r Q
on_ok (Ok t) P Q weaker h = weaker h
on_ok (Err e) P Q weaker h = tt

-- ---- what is there

pub no_one : {A : Type 0} (o : Option A) (P : A → Type 0) → o ≡ None → Has o P → ⊥
no_one None P e h = h
no_one (Some a) P e h = none-some a (sym e)

pub the_one : {A : Type 0} (o : Option A) (P : A → Type 0) (a : A) → o ≡ Some a → Has o P → P a
the_one o P a e h = subst (λ o. Has o P) e h

pub take_next : {A : Type 0} (xs : List A) (i : ℕ) (d : A) → i < length xs → take (i + 1) xs ≡ take i xs ++ get_or xs i d ∷ []
take_next [] i d h = absurd (omega (arith, h))
take_next (x ∷ xs) zero d h = refl
take_next (x ∷ xs) (suc i) d h = let e : suc i + 1 ≡ suc (i + 1) = omega arith in ap (λ n. take n (x ∷ xs)) e ∙ ap (λ l. x ∷ l) (take_next xs i d (omega (arith, h)))

-- ---- walks that reach nothing

-- a walk that did nothing
pub unmoved : {f : Facts} {callee : CalledItem} {w : WalkShown} (saying : Saying)
    → ((known seen_as : GlobalEnv) (later : WalkShown) → HasTables w later → FactsHold f later known → Sees f callee known seen_as → HasKnownRows w.rows f → saying (item_names f) seen_as later)
    → Finds f callee w w saying
unmoved {f} {callee} {w} saying h = record { grows = grows_refl w; reached = refl; says = λ known seen_as later has holds sees rows missing. h known seen_as later has holds sees rows }

-- two, one after the other
pub finds_then : {f : Facts} {callee : CalledItem} {w0 w1 w2 : WalkShown} (P Q R : Saying) → Finds f callee w0 w1 P → Finds f callee w1 w2 Q
    → ((names : ItemNames) (seen_as : GlobalEnv) (later : WalkShown) → HasTables w1 later → P names seen_as later → Q names seen_as later → R names seen_as later) → Finds f callee w0 w2 R
finds_then {f} {callee} {w0} {w1} {w2} P Q R g h follows = record {
  grows = grows_trans w0 w1 w2 g.grows h.grows;
  reached = h.reached ∙ g.reached;
  says = λ known seen_as later has holds sees rows missing.
      let middle : HasTables w1 later = tables_trans w1 w2 later h.grows.tables has in
      follows (item_names f) seen_as later middle (g.says known seen_as later middle holds sees rows (nothing_missing w1 w2 h.grows missing))
      (h.says known seen_as later has holds sees (known_rows_stay w0.rows w1.rows f g.grows.tables.rows rows) missing);
}

-- the same said otherwise
pub finds_as : {f : Facts} {callee : CalledItem} {w0 w1 : WalkShown} (P Q : Saying) → ((names : ItemNames) (seen_as : GlobalEnv) (later : WalkShown) → P names seen_as later → Q names seen_as later)
    → Finds f callee w0 w1 P → Finds f callee w0 w1 Q
finds_as {f} {callee} {w0} {w1} P Q follows g = record { grows = g.grows; reached = g.reached; says = λ known seen_as later has holds sees rows missing. follows (item_names f) seen_as later (g.says known seen_as later has holds sees rows missing) }

-- more lists of values
pub prefixes_grow : (old : WalkShown) (prefixes : List (List (Option DslxValue))) → IsPrefix old.prefixes prefixes → WalkGrows old (record old { prefixes = prefixes })
prefixes_grow old prefixes p = record {
  tables = record { rows = IsPrefix-refl old.rows; met = IsPrefix-refl old.met; prefixes = p; asked = IsPrefix-refl old.asked };
  items = λ k r at h. at;
  reached = IsPrefix-refl old.reached;
  missing = IsPrefix-refl old.missing;
}

-- ---- what is found in the other declaration

pub adds_nothing : (names : ItemNames) (later : WalkShown) (cyclic : Bool) (args : ParametricArgs) → AddsThere names later cyclic args args nothing_there
adds_nothing names later cyclic args = record {
  declared = λ acyclic fs e. e ∙ ap seen (sym (append-nil fs));
  reaches = λ acyclic. sym (append-nil (instances_at names later.met args.reached.items));
}

pub adds_both : (names : ItemNames) (later : WalkShown) (cyclic : Bool) (a b c : ParametricArgs) (x y : JudgedThere) → AddsThere names later cyclic a b x → AddsThere names later cyclic b c y → AddsThere names later cyclic a c (and_there x y)
adds_both names later cyclic a b c x y g h = record {
  declared = λ acyclic fs e. h.declared acyclic (fs ++ x.faults) (g.declared acyclic fs e) ∙ ap seen (append_assoc fs x.faults y.faults);
  reaches = λ acyclic. h.reaches acyclic ∙ ap (λ is. is ++ y.reached) (g.reaches acyclic) ∙ append_assoc (instances_at names later.met a.reached.items) x.reached y.reached;
}

-- where rule 3 is broken nothing is said of it
pub adds_by : (names : ItemNames) (later : WalkShown) (cyclic : Bool) (old new : ParametricArgs) (faults : Faults) (reached : List ℕ) (x : JudgedThere) → NotesThere old new faults reached
    → (cyclic ≡ false → faults ≡ seen x.faults) → (cyclic ≡ false → instances_at names later.met reached ≡ x.reached) → AddsThere names later cyclic old new x
adds_by names later cyclic old new faults reached x notes f r = record {
  declared = λ acyclic fs e. notes.declared fs x.faults e (f acyclic);
  reaches = λ acyclic. ap (instances_at names later.met) notes.reaches ∙ map-append (instance_at names later.met) old.reached.items reached ∙ ap (λ is. instances_at names later.met old.reached.items ++ is) (r acyclic);
}

-- ---- the type that is declared

pub type_noted : (old new : ParametricArgs) (there : TypingThere) (reached : List ℕ) → old.are_known ≡ true → reached ≡ there.reached.items → NotesThere old new there.faults reached → NotesType old new there
type_noted old new there reached known is notes = record {
  declared = λ a b x y. notes.declared a b x (y known) ∙ ap (λ k. seen (if k then a ++ b else a)) (sym known);
  reaches = notes.reaches ∙ ap (λ l. old.reached.items ++ l) is ∙ ap (λ k. if k then old.reached.items ++ there.reached.items else old.reached.items) (sym known);
  rest = notes.rest;
}

pub type_not_noted : (args : ParametricArgs) (there : TypingThere) → args.are_known ≡ false → NotesType args args there
type_not_noted args there known = record {
  declared = λ a b x y. x ∙ ap (λ k. seen (if k then a ++ b else a)) (sym known);
  reaches = ap (λ k. if k then args.reached.items ++ there.reached.items else args.reached.items) (sym known);
  rest = refl;
}

pub type_adds : (names : ItemNames) (later : WalkShown) (cyclic : Bool) (old new : ParametricArgs) (there : TypingThere) (x : JudgedThere) (known : Bool) → old.are_known ≡ known → NotesType old new there
    → (cyclic ≡ false → there.faults ≡ seen x.faults) → (cyclic ≡ false → instances_at names later.met there.reached.items ≡ x.reached)
    → AddsThere names later cyclic old new (if known then x else nothing_there)
type_adds names later cyclic old new there x true is notes f r = record {
  declared = λ acyclic fs e. notes.declared fs x.faults e (λ k. f acyclic) ∙ ap (λ k. seen (if k then fs ++ x.faults else fs)) is;
  reaches = λ acyclic. ap (instances_at names later.met) (notes.reaches ∙ ap (λ k. if k then old.reached.items ++ there.reached.items else old.reached.items) is)
      ∙ map-append (instance_at names later.met) old.reached.items there.reached.items ∙ ap (λ is. instances_at names later.met old.reached.items ++ is) (r acyclic);
}
type_adds names later cyclic old new there x false is notes f r = record {
  declared = λ acyclic fs e. notes.declared fs [] e (λ k. absurd (true≢false (sym k ∙ is))) ∙ ap (λ k. seen (if k then fs ++ [] else fs)) is ∙ ap seen (sym (append-nil fs));
  reaches = λ acyclic. ap (instances_at names later.met) (notes.reaches ∙ ap (λ k. if k then old.reached.items ++ there.reached.items else old.reached.items) is)
      ∙ sym (append-nil (instances_at names later.met old.reached.items));
}

-- ---- values

pub nothing_of_type : (t : Option DslxType) → resolved_value (of_type t None) ≡ Unknown
nothing_of_type None = refl
nothing_of_type (Some t) = refl

value_by : (b : Bool) (v : DslxValue) → resolved_value (if b then Some v else None) ≡ (if b then Number v else Unknown)
value_by true v = refl
value_by false v = refl

pub value_of_type : (t : Option DslxType) (v : DslxValue) → resolved_value (of_type t (Some v)) ≡ (if is_same t (Some (type_of_value v)) then Number v else Unknown)
value_of_type None v = refl
value_of_type (Some t) v = value_by (same_type t (type_of_value v)) v

pub is_value : (t : Option DslxType) (v own : DslxValue) → is_same t (Some (type_of_value v)) ≡ true → own ≡ v → IsResolved (code.Number own) (resolved_value (of_type t (Some v)))
is_value t v own same e = subst (IsResolved (code.Number own)) (sym (value_of_type t v ∙ ap (λ b. if b then Number v else Unknown) same)) e

pub is_unknown : (t : Option DslxType) (v : DslxValue) → is_same t (Some (type_of_value v)) ≡ false → IsResolved code.Unknown (resolved_value (of_type t (Some v)))
is_unknown t v other = subst (IsResolved code.Unknown) (sym (value_of_type t v ∙ ap (λ b. if b then Number v else Unknown) other)) tt

pub is_nothing : (t : Option DslxType) (o : Option DslxValue) → o ≡ None → IsResolved code.Unknown (resolved_value (of_type t o))
is_nothing t o e = subst (IsResolved code.Unknown) (sym (ap (λ v. resolved_value (of_type t v)) e ∙ nothing_of_type t)) tt

-- what lies in the type's range has a value, but where the type is wider than values are
abbrev in_range : Option DslxValue → Option DslxValue → ResolvedSeen
in_range number value = if is_there number then resolved_value value else Wrong

of_value : (narrow : Bool) (number : Option DslxValue) (v : DslxValue) → Some v ≡ where_true narrow number → IsResolved (code.Number v) (in_range number (where_true narrow number))
of_value true (Some u) v e = subst (λ o. IsResolved (code.Number v) (resolved_value o)) e refl
of_value true None v e = absurd (none-some v (sym e))
of_value false number v e = absurd (none-some v (sym e))

pub lies_in : (t : DslxType) (n : ℕ) (v : DslxValue) → Some v ≡ untyped_value t (record { is_negative = false; value = n }) → IsResolved (code.Number v) (in_type (Some t) n)
lies_in t n v e = of_value (is_narrow (bits_in t)) (number_value t (record { is_negative = false; value = n })) v e

pub without_value : (r : Resolved) (t : DslxType) (n : ℕ) → None ≡ untyped_value t (record { is_negative = false; value = n })
    → IsResolved r (if is_in_range t (record { is_negative = false; value = n }) then Unknown else Wrong) → IsResolved r (in_type (Some t) n)
without_value r t n e found = subst (λ o. IsResolved r (in_range (number_value t (record { is_negative = false; value = n })) o)) e found

pub nowhere : (t : Option DslxType) (n : ℕ) → t ≡ None → IsResolved code.Unknown (in_type t n)
nowhere t n e = subst (λ o. IsResolved code.Unknown (in_type o n)) (sym e) tt

-- ---- one that isn't given

first_by : (b : Bool) → b ≡ true → (ns : Bool) → (b && ns) ≡ ns
first_by true e ns = refl
first_by false e ns = absurd (true≢false (sym e))

-- what is inferred, where there is a first number
pub inferred_first : (known : GlobalEnv) (owner : List ℕ) (before : Before) (p : Parametric) (t : Option DslxType) (first : ℕ) (ns : List ℕ) (r : Resolved) → first_number ns ≡ Some first
    → ((n : ℕ) → (n == n) ≡ true) → IsResolved r (if list_all (λ k. k == first) ns then in_type t first else Wrong) → IsResolved r (not_given known owner before p t false ns).value
inferred_first known owner before p t first [] r e itself h = absurd (none-some first e)
inferred_first known owner before p t first (n ∷ ns) r e itself h =
    let is : n ≡ first = same_Some n first e in
    subst (λ (b : Bool). IsResolved r (if b then in_type t n else Wrong)) (first_by (n == n) (itself n) (list_all (λ k. k == n) ns))
    (subst (λ (m : ℕ). IsResolved r (if list_all (λ k. k == m) (n ∷ ns) then in_type t m else Wrong)) (sym is) h)

pub inferred_adds : (known : GlobalEnv) (owner : List ℕ) (before : Before) (p : Parametric) (t : Option DslxType) (first : ℕ) (ns : List ℕ) → first_number ns ≡ Some first
    → (not_given known owner before p t false ns).typing ≡ nothing_there
inferred_adds known owner before p t first [] e = absurd (none-some first e)
inferred_adds known owner before p t first (n ∷ ns) e = refl

pub not_inferred : (known : GlobalEnv) (owner : List ℕ) (before : Before) (p : Parametric) (t : Option DslxType) (ns : List ℕ) → first_number ns ≡ None
    → not_given known owner before p t false ns ≡ default_value known owner before t p.default
not_inferred known owner before p t [] e = refl
not_inferred known owner before p t (n ∷ ns) e = absurd (none-some n (sym e))

-- ---- all, one after another

-- what is found of the first ones
pub record SoFar : Type 0 where
  pub values : List (Option DslxValue)
  pub is_wrong : Bool
  pub faults : List Fault
  pub there : JudgedThere

-- the values of those behind, with those of the first ones before them
abbrev values_behind : List (Option DslxValue) → Option (List DslxValue) → Option (List DslxValue)
values_behind [] rest = rest
values_behind (None ∷ vs) rest = None
values_behind (Some v ∷ vs) rest = option_map (λ all. v ∷ all) (values_behind vs rest)

abbrev pub behind : SoFar → ParametricArgsSeen → ParametricArgsSeen
behind so rest = record {
  values = values_behind so.values rest.values;
  bound = rest.bound;
  is_wrong = so.is_wrong || rest.is_wrong;
  faults = so.faults ++ rest.faults;
  declared = and_there so.there rest.declared;
}

abbrev pub nothing_yet : SoFar
nothing_yet = record { values = []; is_wrong = false; faults = []; there = nothing_there }

-- the parametric's value as the definitions have it, by what code has
abbrev pub one_so_far : Resolved → Argument → SoFar
one_so_far r a = record { values = value_if r ∷ []; is_wrong = is_wrong_value r; faults = a.faults; there = a.there }

abbrev pub and_so_far : SoFar → SoFar → SoFar
and_so_far a b = record { values = a.values ++ b.values; is_wrong = a.is_wrong || b.is_wrong; faults = a.faults ++ b.faults; there = and_there a.there b.there }

there_assoc : (x y z : JudgedThere) → and_there (and_there x y) z ≡ and_there x (and_there y z)
there_assoc x y z = λ i. record { faults = append_assoc x.faults y.faults z.faults i; reached = append_assoc x.reached y.reached z.reached i }

or_assoc : (a b c : Bool) → ((a || b) || c) ≡ (a || (b || c))
or_assoc true b c = refl
or_assoc false b c = refl

values_assoc : (vs us : List (Option DslxValue)) (rest : Option (List DslxValue)) → values_behind (vs ++ us) rest ≡ values_behind vs (values_behind us rest)
values_assoc [] us rest = refl
values_assoc (None ∷ vs) us rest = refl
values_assoc (Some v ∷ vs) us rest = ap (option_map (λ all. v ∷ all)) (values_assoc vs us rest)

behind_both : (a b : SoFar) (x : ParametricArgsSeen) → behind (and_so_far a b) x ≡ behind a (behind b x)
behind_both a b x = λ i. record {
  values = values_assoc a.values b.values x.values i;
  bound = x.bound;
  is_wrong = or_assoc a.is_wrong b.is_wrong x.is_wrong i;
  faults = append_assoc a.faults b.faults x.faults i;
  declared = there_assoc a.there b.there x.declared i;
}

-- those before the next one
abbrev pub and_before : Before → Resolved → Before
and_before before r = record { values = value_if r ∷ before.values; are_known = before.are_known && is_number r }

and_true : (b : Bool) → (b && true) ≡ b
and_true true = refl
and_true false = refl

and_false : (b : Bool) → (b && false) ≡ false
and_false true = refl
and_false false = refl

before_next : (before : Before) (r : Resolved) (x : ResolvedSeen) → IsResolved r x → and_before before r ≡ and_parametric before x
before_next before (code.Number v) (Number u) e = λ i. record { values = Some (e i) ∷ before.values; are_known = and_true before.are_known i }
before_next before code.Unknown Unknown e = λ i. record { values = None ∷ before.values; are_known = and_false before.are_known i }
before_next before code.Wrong Wrong e = λ i. record { values = None ∷ before.values; are_known = and_false before.are_known i }
before_next before (code.Number v) Unknown e = absurd e
before_next before (code.Number v) Wrong e = absurd e
before_next before code.Unknown (Number u) e = absurd e
before_next before code.Unknown Wrong e = absurd e
before_next before code.Wrong (Number u) e = absurd e
before_next before code.Wrong Unknown e = absurd e

value_next : (r : Resolved) (x : ResolvedSeen) (rest : Option (List DslxValue)) → IsResolved r x → values_behind (value_if r ∷ []) rest ≡ value_before x rest
value_next (code.Number v) (Number u) None e = refl
value_next (code.Number v) (Number u) (Some vs) e = λ i. Some (e i ∷ vs)
value_next code.Unknown Unknown rest e = refl
value_next code.Wrong Wrong rest e = refl
value_next (code.Number v) Unknown rest e = absurd e
value_next (code.Number v) Wrong rest e = absurd e
value_next code.Unknown (Number u) rest e = absurd e
value_next code.Unknown Wrong rest e = absurd e
value_next code.Wrong (Number u) rest e = absurd e
value_next code.Wrong Unknown rest e = absurd e

wrong_next : (r : Resolved) (x : ResolvedSeen) → IsResolved r x → is_wrong_value r ≡ is_wrong_parametric x
wrong_next (code.Number v) (Number u) e = refl
wrong_next code.Unknown Unknown e = refl
wrong_next code.Wrong Wrong e = refl
wrong_next (code.Number v) Unknown e = absurd e
wrong_next (code.Number v) Wrong e = absurd e
wrong_next code.Unknown (Number u) e = absurd e
wrong_next code.Unknown Wrong e = absurd e
wrong_next code.Wrong (Number u) e = absurd e
wrong_next code.Wrong Unknown e = absurd e

next_is : (r : Resolved) (a : Argument) (x : ParametricArgsSeen) → IsResolved r a.value → number_before a.value a.faults a.there x ≡ behind (one_so_far r a) x
next_is r a x e = λ i. record {
  values = sym (value_next r a.value x.values e) i;
  bound = x.bound;
  is_wrong = sym (wrong_next r a.value e) i || x.is_wrong;
  faults = a.faults ++ x.faults;
  declared = and_there a.there x.declared;
}

abbrev first_given : List GivenSeen → Option GivenSeen
first_given [] = None
first_given (g ∷ gs) = Some g

abbrev rest_given : List GivenSeen → List GivenSeen
rest_given [] = []
rest_given (g ∷ gs) = gs

-- one step of the definitions
step_is : (known : GlobalEnv) (owner : List ℕ) (numbers : List InferredNumber) (maybe : List (List ℕ)) (before : Before) (p : Parametric) (ps : List Parametric) (gs : List GivenSeen)
    → parametric_args_seen known owner numbers maybe before (p ∷ ps) gs
    ≡ number_before (next_argument known owner before p numbers maybe (first_given gs)).value (next_argument known owner before p numbers maybe (first_given gs)).faults
    (next_argument known owner before p numbers maybe (first_given gs)).there
    (parametric_args_seen known owner numbers maybe (and_parametric before (next_argument known owner before p numbers maybe (first_given gs)).value) ps (rest_given gs))
step_is known owner numbers maybe before p ps [] = refl
step_is known owner numbers maybe before p ps (g ∷ gs) =
    let t = parametric_type known owner before in
    let r = resolved_value (of_type t g.seen.value) in
    let there = type_there known owner before in
    λ i. number_before r (wanted_faults g.span t g.seen.judgement.ty) (record { faults = sym (append-nil there.faults) i; reached = sym (append-nil there.reached) i })
    (parametric_args_seen known owner numbers maybe (and_parametric before r) ps gs)

parted : {A : Type 0} (xs : List A) (i : ℕ) (x : A) → i < length xs → x ≡ get_or xs i x → drop i xs ≡ x ∷ drop (i + 1) xs
parted xs i x within e =
    let later : suc i ≡ i + 1 = omega arith in
    drop-cons xs i x within ∙ ap (λ y. y ∷ drop (suc i) xs) (sym e) ∙ ap (λ j. x ∷ drop j xs) later

given_at : (gs : List GivenSeen) (i : ℕ) → first_given (drop i gs) ≡ slice_get gs i
given_at [] zero = refl
given_at [] (suc i) = refl
given_at (g ∷ gs) zero = refl
given_at (g ∷ gs) (suc i) = given_at gs i

given_behind : (gs : List GivenSeen) (i : ℕ) → rest_given (drop i gs) ≡ drop (suc i) gs
given_behind [] zero = refl
given_behind [] (suc i) = refl
given_behind (g ∷ gs) zero = refl
given_behind (g ∷ gs) (suc i) = given_behind gs i

step_at : (known : GlobalEnv) (owner : List ℕ) (numbers : List InferredNumber) (maybe : List (List ℕ)) (before : Before) (ps : List Parametric) (gs : List GivenSeen) (i : ℕ) (p : Parametric) → i < length ps → p ≡ get_or ps i p
    → parametric_args_seen known owner numbers maybe before (drop i ps) (drop i gs)
    ≡ number_before (next_argument known owner before p numbers maybe (slice_get gs i)).value (next_argument known owner before p numbers maybe (slice_get gs i)).faults
    (next_argument known owner before p numbers maybe (slice_get gs i)).there
    (parametric_args_seen known owner numbers maybe (and_parametric before (next_argument known owner before p numbers maybe (slice_get gs i)).value) (drop (i + 1) ps) (drop (i + 1) gs))
step_at known owner numbers maybe before ps gs i p h e =
    let more : suc i ≡ i + 1 = omega arith in
    let a : Option GivenSeen → Argument = λ g. next_argument known owner before p numbers maybe g in
    let by : Option GivenSeen → List GivenSeen → ParametricArgsSeen = λ g rest.
    number_before (a g).value (a g).faults (a g).there (parametric_args_seen known owner numbers maybe (and_parametric before (a g).value) (drop (i + 1) ps) rest) in
    ap (λ l. parametric_args_seen known owner numbers maybe before l (drop i gs)) (parted ps i p h e)
    ∙ step_is known owner numbers maybe before p (drop (i + 1) ps) (drop i gs)
    ∙ (λ j. by (given_at gs i j) ((given_behind gs i ∙ ap (λ k. drop k gs) more) j))

-- what is given for the one at this place
pub given_if : (names : ItemNames) (rows later : List TypeRow) (given : List ParametricArgument) (gs : List GivenSeen) (i : ℕ) → AreGiven names rows later given gs
    → IsGivenIf names rows later (slice_get given i) (slice_get gs i)
given_if names rows later [] [] i h = tt
given_if names rows later [] (g ∷ gs) i h = absurd h
given_if names rows later (g ∷ given) [] i h = absurd h
given_if names rows later (g ∷ given) (x ∷ gs) zero h = h.0
given_if names rows later (g ∷ given) (x ∷ gs) (suc i) h = given_if names rows later given gs i h.1

-- in a longer table of types
pub given_if_stays : (names : ItemNames) (rows longer later : List TypeRow) (given : Option ParametricArgument) (g : Option GivenSeen) → IsPrefix rows longer → IsGivenIf names rows later given g
    → IsGivenIf names longer later given g
given_if_stays names rows longer later None None p h = tt
given_if_stays names rows longer later None (Some g) p h = absurd h
given_if_stays names rows longer later (Some x) None p h = absurd h
given_if_stays names rows longer later (Some x) (Some g) p h =
    let part = h.constant.part in
    record {
      span = h.span;
      constant = record {
        part = record { row = row_stays_if rows longer x.constant.typing.ty p part.row; ty = part.ty; faults = part.faults; size = part.size };
        untyped = h.constant.untyped;
        value = h.constant.value;
      };
    }

-- what is known of the first so many
pub record UptoAt (known : GlobalEnv) (owner : List ℕ) (names : ItemNames) (later : WalkShown) (prefixes : List (List (Option DslxValue))) (cyclic : Bool) (ps : List Parametric) (gs : List GivenSeen)
    (numbers : List InferredNumber) (maybe : List (List ℕ)) (args : ParametricArgs) (i : ℕ) : Type 0 where
  pub so : SoFar
  pub before : Before
  pub is_before : HasBefore prefixes args before
  pub values : args.values.items ≡ so.values
  pub all_known : args.are_known ≡ is_some (all_some so.values)
  pub whole : args.is_whole ≡ true
  pub wrong : args.is_wrong ≡ so.is_wrong
  pub faults : args.faults ≡ seen so.faults
  pub declared : cyclic ≡ false → args.declared ≡ seen so.there.faults
  pub reaches : cyclic ≡ false → instances_at names later.met args.reached.items ≡ so.there.reached
  pub left : parametric_args_seen known owner numbers maybe (known_before []) ps gs ≡ behind so (parametric_args_seen known owner numbers maybe before (drop i ps) (drop i gs))

abbrev pub Upto : Facts → CalledItem → WalkShown → WalkShown → List Parametric → List ParametricArgument → List InferredNumber → List (List ℕ) → ParametricArgs → ℕ → Type 0
Upto f callee w0 w1 ps given numbers maybe args i = Finds f callee w0 w1 (λ names known later. (gs : List GivenSeen) → AreGiven names w0.rows later.rows given gs
    → UptoAt known (names.item callee.item) names later w1.prefixes callee.is_cyclic ps gs numbers maybe args i)

number_is_some : (r : Resolved) → is_number r ≡ is_some (value_if r)
number_is_some (code.Number v) = refl
number_is_some code.Unknown = refl
number_is_some code.Wrong = refl

one_more : (known : GlobalEnv) (owner : List ℕ) (names : ItemNames) (later : WalkShown) (w1 w2 w3 : WalkShown) (cyclic : Bool) (ps : List Parametric) (gs : List GivenSeen) (numbers : List InferredNumber) (maybe : List (List ℕ))
    (a0 a1 a2 : ParametricArgs) (i : ℕ) (p : Parametric) (r : Resolved) (callee : CalledItem) → callee.is_cyclic ≡ cyclic → i < length ps → p ≡ get_or ps i p → IsPrefix w1.prefixes w2.prefixes
    → (u : UptoAt known owner names later w1.prefixes cyclic ps gs numbers maybe a0 i) → Argues names later callee a0 a1 r (next_argument known owner u.before p numbers maybe (slice_get gs i)) → PutsValue w2 w3 a1 a2 r
    → UptoAt known owner names later w3.prefixes cyclic ps gs numbers maybe a2 (i + 1)
one_more known owner names later w1 w2 w3 cyclic ps gs numbers maybe a0 a1 a2 i p r callee same h e grows u argued put =
    let x = next_argument known owner u.before p numbers maybe (slice_get gs i) in
    let next : and_before u.before r ≡ and_parametric u.before x.value = before_next u.before r x.value argued.value in
    let prefix : slice_get w2.prefixes a1.prefix ≡ Some u.before.values =
    ap (λ (a : ParametricArgs). slice_get w2.prefixes a.prefix) argued.rest ∙ get_in_prefix w1.prefixes w2.prefixes a0.prefix u.before.values grows u.is_before.at in
    let rest = parametric_args_seen known owner numbers maybe (and_parametric u.before x.value) (drop (i + 1) ps) (drop (i + 1) gs) in
    record {
      so = and_so_far u.so (one_so_far r x);
      before = and_parametric u.before x.value;
      is_before = record {
        at = put.prefix u.before.values prefix ∙ ap (λ (b : Before). Some b.values) next;
        known = put.known ∙ ap (λ (a : ParametricArgs). a.are_known && is_number r) argued.rest ∙ ap (λ b. b && is_number r) u.is_before.known ∙ ap (λ (b : Before). b.are_known) next;
      };
      values = put.values ∙ ap (λ (a : ParametricArgs). a.values.items ++ value_if r ∷ []) argued.rest ∙ ap (λ vs. vs ++ value_if r ∷ []) u.values;
      all_known = put.known ∙ ap (λ (a : ParametricArgs). a.are_known && is_number r) argued.rest ∙ (λ j. u.all_known j && number_is_some r j) ∙ sym (some_next u.so.values (value_if r));
      whole = ap (λ (a : ParametricArgs). a.is_whole) put.rest ∙ ap (λ (a : ParametricArgs). a.is_whole) argued.rest ∙ u.whole;
      wrong = put.wrong ∙ ap (λ (a : ParametricArgs). a.is_wrong || is_wrong_value r) argued.rest ∙ ap (λ b. b || is_wrong_value r) u.wrong;
      faults = ap (λ (a : ParametricArgs). a.faults) put.rest ∙ argued.faults u.so.faults u.faults;
      declared = λ acyclic. ap (λ (a : ParametricArgs). a.declared) put.rest ∙ argued.adds.declared (same ∙ acyclic) u.so.there.faults (u.declared acyclic);
      reaches = λ acyclic. ap (λ (a : ParametricArgs). instances_at names later.met a.reached.items) put.rest ∙ argued.adds.reaches (same ∙ acyclic) ∙ ap (λ is. is ++ x.there.reached) (u.reaches acyclic);
      left = u.left ∙ ap (behind u.so) (step_at known owner numbers maybe u.before ps gs i p h e ∙ next_is r x rest argued.value) ∙ sym (behind_both u.so (one_so_far r x) rest);
    }

pub upto_next : {f : Facts} {callee : CalledItem} {w0 w1 w2 w3 : WalkShown} {ps : List Parametric} {numbers : List InferredNumber} {maybe : List (List ℕ)} {a0 a1 a2 : ParametricArgs} {r : Resolved}
    (given : List ParametricArgument) (i : ℕ) (p : Parametric) → i < length ps → p ≡ get_or ps i p → Upto f callee w0 w1 ps given numbers maybe a0 i
    → (o : Option ParametricArgument) → o ≡ slice_get given i → NextFrom f callee w1 w2 a0 a1 p o numbers maybe r → PutsValue w2 w3 a1 a2 r
    → Upto f callee w0 w3 ps given numbers maybe a2 (i + 1)
upto_next {f} {callee} {w0} {w1} {w2} {w3} {ps} {numbers} {maybe} {a0} {a1} {a2} {r} given i p h e upto o is next put = record {
  grows = grows_trans w0 w1 w3 upto.grows (grows_trans w1 w2 w3 next.grows put.grows);
  reached = put.reached ∙ next.reached ∙ upto.reached;
  says = λ known seen_as later has holds sees rows missing gs are.
      let at_two : HasTables w2 later = tables_trans w2 w3 later put.grows.tables has in
      let at_one : HasTables w1 later = tables_trans w1 w2 later next.grows.tables at_two in
      let missing_two : w2.missing ≡ [] = nothing_missing w2 w3 put.grows missing in
      let u = upto.says known seen_as later at_one holds sees rows (nothing_missing w1 w2 next.grows missing_two) gs are in
      let there = given_if_stays (item_names f) w0.rows w1.rows later.rows (slice_get given i) (slice_get gs i) upto.grows.tables.rows (given_if (item_names f) w0.rows later.rows given gs i are) in
      let argued = next.says known seen_as later at_two holds sees (known_rows_stay w0.rows w1.rows f upto.grows.tables.rows rows) missing_two u.before (slice_get gs i) u.is_before
      (subst (λ (g : Option ParametricArgument). IsGivenIf (item_names f) w1.rows later.rows g (slice_get gs i)) (sym is) there) in
      one_more seen_as ((item_names f).item callee.item) (item_names f) later w1 w2 w3 callee.is_cyclic ps gs numbers maybe a0 a1 a2 i p r callee refl h e next.grows.tables.prefixes u argued put;
}

-- none yet
pub upto_none : {f : Facts} {callee : CalledItem} {w : WalkShown} {ps : List Parametric} {numbers : List InferredNumber} {maybe : List (List ℕ)} {args : ParametricArgs} (given : List ParametricArgument)
    → IsNoArgs w.prefixes args → Upto f callee w w ps given numbers maybe args 0
upto_none {f} {callee} {w} {ps} {numbers} {maybe} {args} given e = unmoved _ (λ known seen_as later has holds sees rows gs are. record {
  so = nothing_yet;
  before = known_before [];
  is_before = record { at = e.at; known = e.known };
  values = e.values;
  all_known = e.known;
  whole = e.whole;
  wrong = e.wrong;
  faults = e.faults;
  declared = λ acyclic. e.declared;
  reaches = λ acyclic. ap (instances_at (item_names f) later.met) e.reached;
  left = nothing_behind (parametric_args_seen seen_as ((item_names f).item callee.item) numbers maybe (known_before []) ps gs);
})
  where
    nothing_behind : (x : ParametricArgsSeen) → x ≡ behind nothing_yet x
    nothing_behind x = refl

values_all : (vs : List (Option DslxValue)) → values_behind vs (Some []) ≡ all_some vs
values_all [] = refl
values_all (None ∷ vs) = refl
values_all (Some v ∷ vs) = ap (option_map (λ all. v ∷ all)) (values_all vs) ∙ sym (some_before v vs)

known_all : {A : Type 0} (o : Option A) (b : Bool) → b ≡ is_some o → (if b then o else None) ≡ o
known_all None b e = ap (λ k. if k then None else None) e
known_all (Some a) b e = ap (λ k. if k then Some a else None) e

past_all : {A : Type 0} (xs : List A) (i : ℕ) → length xs ≤ i → drop i xs ≡ []
past_all [] zero h = refl
past_all [] (suc i) h = refl
past_all (x ∷ xs) zero h = absurd (omega (arith, h))
past_all (x ∷ xs) (suc i) h = past_all xs i (omega (arith, h))

or_false : (b : Bool) → (b || false) ≡ b
or_false true = refl
or_false false = refl

-- all of them
pub upto_all : {f : Facts} {callee : CalledItem} {w0 w1 : WalkShown} {ps : List Parametric} {numbers : List InferredNumber} {maybe : List (List ℕ)} {args : ParametricArgs}
    (given : List ParametricArgument) (i : ℕ) → length ps ≤ i → Upto f callee w0 w1 ps given numbers maybe args i → ArgsFrom f callee w0 w1 ps given numbers maybe args
upto_all {f} {callee} {w0} {w1} {ps} {numbers} {maybe} {args} given i past upto = record {
  grows = upto.grows;
  reached = upto.reached;
  says = λ known seen_as later has holds sees rows missing gs are count.
      let names = item_names f in
      let u = upto.says known seen_as later has holds sees rows missing gs are in
      let long : length given ≡ length gs = pairs_long (IsGiven names w0.rows later.rows) given gs are in
      let none_left : drop i gs ≡ [] = past_all gs i (omega (arith, long, count, past)) in
      let end : ParametricArgsSeen = record { values = Some []; bound = u.before; is_wrong = false; faults = []; declared = nothing_there } in
      let is : parametric_args_seen seen_as (names.item callee.item) numbers maybe (known_before []) ps gs ≡ behind u.so end =
      u.left ∙ ap (behind u.so) (λ j. parametric_args_seen seen_as (names.item callee.item) numbers maybe u.before (past_all ps i past j) (none_left j)) in
      subst (AreArgs names later callee.is_cyclic args) (sym is) (record {
        values = ap (λ vs. if args.are_known then all_some vs else None) u.values ∙ known_all (all_some u.so.values) args.are_known u.all_known ∙ sym (values_all u.so.values);
        at = get_in_prefix w1.prefixes later.prefixes args.prefix u.before.values has.prefixes u.is_before.at;
        known = u.is_before.known;
        all_known = u.all_known ∙ ap is_some (sym (values_all u.so.values));
        whole = u.whole;
        wrong = u.wrong ∙ sym (or_false u.so.is_wrong);
        faults = u.faults ∙ ap seen (sym (append-nil u.so.faults));
        declared = λ acyclic. u.declared acyclic ∙ ap seen (sym (append-nil u.so.there.faults));
        reaches = λ acyclic. u.reaches acyclic ∙ sym (append-nil u.so.there.reached);
      });
}

-- where something is missing nothing is said
pub cut_off : {f : Facts} {callee : CalledItem} {w0 w1 : WalkShown} {args : ParametricArgs} (ps : List Parametric) (given : List ParametricArgument) (numbers : List InferredNumber) (maybe : List (List ℕ))
    (missing now : ℕ) → WalkGrows w0 w1 → w1.reached ≡ w0.reached → missing ≡ length w0.missing → now ≡ length w1.missing → (now ≡ missing → ⊥) → ArgsFrom f callee w0 w1 ps given numbers maybe args
cut_off {f} {callee} {w0} {w1} {args} ps given numbers maybe missing now grows reached before after more = record {
  grows = grows;
  reached = reached;
  says = λ known seen_as later has holds sees rows none.
      let none_before : w0.missing ≡ [] = nothing_missing w0 w1 grows none in
      absurd (more (after ∙ ap length none ∙ sym (ap length none_before) ∙ sym before));
}

-- ---- where nothing is there

-- what isn't there is missing
pub none_there : {f : Facts} {callee : CalledItem} {w0 w1 : WalkShown} {saying : Saying} → WalkGrows w0 w1 → w1.reached ≡ w0.reached
    → ((known : GlobalEnv) (later : WalkShown) → HasTables w1 later → FactsHold f later known → w1.missing ≡ [] → ⊥) → Finds f callee w0 w1 saying
none_there grows reached none = record { grows = grows; reached = reached; says = λ known seen_as later has holds sees rows missing. absurd (none known later has holds missing) }

nothing_wanted : (span : Span) (t : Option DslxType) → wanted_faults span t None ≡ []
nothing_wanted span None = refl
nothing_wanted span (Some t) = refl

-- ---- types that are declared

parametric_row : (prefixes later : List (List (Option DslxValue))) (args : ParametricArgs) (before : Before) → IsPrefix prefixes later → HasBefore prefixes args before → list_or_none later args.prefix ≡ before.values
parametric_row prefixes later args before p is = ap values_or_none (get_in_prefix prefixes later args.prefix before.values p is.at)

-- where nothing of the declaration is seen
pub hidden_type : {f : Facts} {callee : CalledItem} {w : WalkShown} {args : ParametricArgs} → callee.is_hidden ≡ true → Finds f callee w w (DeclaredType w.prefixes w.rows callee args args None)
hidden_type {f} {callee} {w} {args} hidden = unmoved _ (λ known seen_as later has holds sees rows.
    let owner = (item_names f).item callee.item in
    let none : (before : List (Option DslxValue)) → untyped_typing ≡ seen_as.parameter_in owner before = λ before. ap (λ b. if b then untyped_typing else known.parameter_in owner before) (sym hidden) ∙ sym (sees.parameter before) in
    record {
      row = tt;
      is = λ before is. ap (λ (j : Judgement). unless_unit j.ty) (none before.values);
      adds = λ before is. subst (λ (j : Judgement). AddsThere (item_names f) later callee.is_cyclic args args (if before.are_known then record { faults = j.faults; reached = j.reached } else nothing_there)) (none before.values)
          (subst (AddsThere (item_names f) later callee.is_cyclic args args) (either_way before.are_known) (adds_nothing (item_names f) later callee.is_cyclic args));
      rest = refl;
    })
  where
    either_way : (b : Bool) → nothing_there ≡ (if b then record { faults = []; reached = [] } else nothing_there)
    either_way true = refl
    either_way false = refl

pub type_found : {f : Facts} {callee : CalledItem} {w0 w1 : WalkShown} {old new : ParametricArgs} {there : TypingThere} {ty : Option TypeId} → callee.is_hidden ≡ false → WalkGrows w0 w1 → w1.reached ≡ w0.reached
    → ((rows : List TypeRow) → HasKnownRows rows f → w1.missing ≡ [] → HasRowIf rows there.ty)
    → ((known : GlobalEnv) (later : WalkShown) → HasTables w1 later → FactsHold f later known → w1.missing ≡ []
    → IsTypingThere (item_names f) later callee.is_cyclic there (known.parameter_in ((item_names f).item callee.item) (list_or_none later.prefixes old.prefix)))
    → NotesType old new there → ((names : ItemNames) (later : List TypeRow) → IsPrefix w1.rows later → HasRowIf w1.rows there.ty → type_if names later ty ≡ unless_unit (type_if names later there.ty))
    → (HasRowIf w1.rows there.ty → HasRowIf w1.rows ty) → Finds f callee w0 w1 (DeclaredType w0.prefixes w1.rows callee old new ty)
type_found {f} {callee} {w0} {w1} {old} {new} {there} {ty} acyclic grows reached row typing notes without rowed = record {
  grows = grows;
  reached = reached;
  says = λ known seen_as later has holds sees rows missing.
      let names = item_names f in
      let owner = names.item callee.item in
      let own : HasRowIf w1.rows there.ty = row w1.rows (known_rows_stay w0.rows w1.rows f grows.tables.rows rows) missing in
      let says_of : (before : Before) → HasBefore w0.prefixes old before → IsTypingThere names later callee.is_cyclic there (seen_as.parameter_in owner before.values) = λ before is.
      subst (IsTypingThere names later callee.is_cyclic there)
      (ap (known.parameter_in owner) (parametric_row w0.prefixes later.prefixes old before (IsPrefix-trans w0.prefixes w1.prefixes later.prefixes grows.tables.prefixes has.prefixes) is)
      ∙ ap (λ b. if b then untyped_typing else known.parameter_in owner before.values) (sym acyclic) ∙ sym (sees.parameter before.values))
      (typing known later has holds missing) in
      record {
        row = rowed own;
        is = λ before is. without names later.rows has.rows own ∙ ap unless_unit (says_of before is).ty;
        adds = λ before is. let t = says_of before is in
            type_adds names later callee.is_cyclic old new there (record { faults = (seen_as.parameter_in owner before.values).faults; reached = (seen_as.parameter_in owner before.values).reached }) before.are_known is.known notes t.faults t.reached;
        rest = notes.rest;
      };
}

-- ---- defaults

pub no_default : {f : Facts} {callee : CalledItem} {w : WalkShown} {args : ParametricArgs} (ty : Option TypeId) (default : Option Expr) → default ≡ None
    → ResolvedFrom f callee w w args args ty (λ known owner before t. default_value known owner before t default) code.Wrong
no_default {f} {callee} {w} {args} ty default e = unmoved _ (λ known seen_as later has holds sees rows before is row.
    let owner = (item_names f).item callee.item in
    subst (λ (d : Option Expr). Resolves (item_names f) later callee args args code.Wrong (default_value seen_as owner before (type_if (item_names f) later.rows ty) d)) (sym e)
    (record { value = tt; adds = adds_nothing (item_names f) later callee.is_cyclic args; rest = refl }))

pub some_default : {f : Facts} {callee : CalledItem} {w0 w1 : WalkShown} {old new : ParametricArgs} {r : Resolved} (ty : Option TypeId) (default : Option Expr) (e : Expr) → default ≡ Some e
    → ResolvedFrom f callee w0 w1 old new ty (default_known (out-Expr e).span) r → ResolvedFrom f callee w0 w1 old new ty (λ known owner before t. default_value known owner before t default) r
some_default {f} {callee} {w0} {w1} {old} {new} {r} ty default e is g =
    subst (λ (d : Option Expr). ResolvedFrom f callee w0 w1 old new ty (λ known owner before t. default_value known owner before t d) r) (sym is) g

pub known_default : {f : Facts} {callee : CalledItem} {w0 w1 : WalkShown} {old new : ParametricArgs} {r : Resolved} (ty : Option TypeId) (at : Span) → old.are_known ≡ true
    → ResolvedFrom f callee w0 w1 old new ty (default_at at) r → ResolvedFrom f callee w0 w1 old new ty (default_known at) r
known_default {f} {callee} {w0} {w1} {old} {new} {r} ty at known g = finds_as _ _ (λ names seen_as later h before is row.
    let owner = names.item callee.item in
    let t = type_if names later.rows ty in
    subst (λ (b : Bool). Resolves names later callee old new r (if b then default_at at seen_as owner before t else without_default Unknown)) (sym known ∙ is.known) (h before is row)) g

pub unknown_default : {f : Facts} {callee : CalledItem} {w : WalkShown} {args : ParametricArgs} (ty : Option TypeId) (at : Span) → args.are_known ≡ false
    → ResolvedFrom f callee w w args args ty (default_known at) code.Unknown
unknown_default {f} {callee} {w} {args} ty at unknown = unmoved _ (λ known seen_as later has holds sees rows before is row.
    let names = item_names f in
    let t = type_if names later.rows ty in
    subst (λ (b : Bool). Resolves names later callee args args code.Unknown (if b then default_at at seen_as (names.item callee.item) before t else without_default Unknown)) (sym unknown ∙ is.known)
    (record { value = tt; adds = adds_nothing names later callee.is_cyclic args; rest = refl }))

pub hidden_default : {f : Facts} {callee : CalledItem} {w : WalkShown} {args : ParametricArgs} (ty : Option TypeId) (at : Span) → callee.is_hidden ≡ true → ResolvedFrom f callee w w args args ty (default_at at) code.Unknown
hidden_default {f} {callee} {w} {args} ty at hidden = unmoved _ (λ known seen_as later has holds sees rows before is row.
    let names = item_names f in
    let owner = names.item callee.item in
    let t = type_if names later.rows ty in
    let none : record { judgement = untyped_typing; value = None } ≡ seen_as.default_in owner before.values =
    ap (λ b. if b then record { judgement = untyped_typing; value = None } else known.default_in owner before.values) (sym hidden) ∙ sym (sees.default before.values) in
    subst (λ (d : DefaultSeen). Resolves names later callee args args code.Unknown (record {
      value = resolved_value (of_type t d.value);
      typing = record { faults = d.judgement.faults ++ wanted_faults at t d.judgement.ty; reached = d.judgement.reached };
    })) none
    (record {
      value = is_nothing t None refl;
      adds = subst (λ (fs : List Fault). AddsThere names later callee.is_cyclic args args (record { faults = fs; reached = [] })) (sym (nothing_wanted at t)) (adds_nothing names later callee.is_cyclic args);
      rest = refl;
    }))

pub default_found : {f : Facts} {callee : CalledItem} {w0 w1 : WalkShown} {old new : ParametricArgs} {default : DefaultThere} {ty : Option TypeId} {at : Span} {r : Resolved} → callee.is_hidden ≡ false → WalkGrows w0 w1 → w1.reached ≡ w0.reached
    → ((rows : List TypeRow) → HasKnownRows rows f → w1.missing ≡ [] → HasRowIf rows default.typing.ty)
    → ((known : GlobalEnv) (later : WalkShown) → HasTables w1 later → FactsHold f later known → w1.missing ≡ []
    → IsDefault (item_names f) later callee.is_cyclic default (known.default_in ((item_names f).item callee.item) (list_or_none later.prefixes old.prefix)))
    → NotesDefault (item_names f) w1.rows ty at default old new r → ResolvedFrom f callee w0 w1 old new ty (default_at at) r
default_found {f} {callee} {w0} {w1} {old} {new} {default} {ty} {at} {r} acyclic grows reached row typing notes = record {
  grows = grows;
  reached = reached;
  says = λ known seen_as later has holds sees rows missing before is typed.
      let names = item_names f in
      let owner = names.item callee.item in
      let t = type_if names later.rows ty in
      let own : HasRowIf w1.rows default.typing.ty = row w1.rows (known_rows_stay w0.rows w1.rows f grows.tables.rows rows) missing in
      let there : HasRowIf w1.rows ty = row_stays_if w0.rows w1.rows ty grows.tables.rows typed in
      let values : list_or_none later.prefixes old.prefix ≡ before.values =
      parametric_row w0.prefixes later.prefixes old before (IsPrefix-trans w0.prefixes w1.prefixes later.prefixes grows.tables.prefixes has.prefixes) is in
      let d : DefaultSeen = known.default_in owner before.values in
      let is_it : IsDefault names later callee.is_cyclic default d = subst (λ vs. IsDefault names later callee.is_cyclic default (known.default_in owner vs)) values (typing known later has holds missing) in
      let seen_there : d ≡ seen_as.default_in owner before.values =
      ap (λ b. if b then record { judgement = untyped_typing; value = None } else known.default_in owner before.values) (sym acyclic) ∙ sym (sees.default before.values) in
      subst (λ (x : DefaultSeen). Resolves names later callee old new r (record {
        value = resolved_value (of_type t x.value);
        typing = record { faults = x.judgement.faults ++ wanted_faults at t x.judgement.ty; reached = x.judgement.reached };
      })) seen_there
      (record {
        value = subst (λ o. IsResolved r (resolved_value (of_type t o))) is_it.value (notes.value later.rows holds.distinct has.rows there own);
        adds = record {
          declared = λ free fs e. notes.declared later.rows fs d.judgement.faults holds.distinct has.rows there own e (is_it.typing.faults free)
              ∙ ap (λ o. seen (fs ++ (d.judgement.faults ++ wanted_faults at t o))) is_it.typing.ty;
          reaches = λ free. ap (instances_at names later.met) notes.reaches ∙ map-append (instance_at names later.met) old.reached.items default.typing.reached.items
              ∙ ap (λ is. instances_at names later.met old.reached.items ++ is) (is_it.typing.reached free);
        };
        rest = notes.rest;
      });
}

-- ---- one that isn't given, or is

pub might_infer : {f : Facts} {callee : CalledItem} {w : WalkShown} {args : ParametricArgs} (ty : Option TypeId) (p : Parametric) (numbers : List InferredNumber) (maybe : List (List ℕ)) → is_in p.name.name maybe ≡ true
    → ResolvedFrom f callee w w args args ty (not_given_by p numbers maybe) code.Unknown
might_infer {f} {callee} {w} {args} ty p numbers maybe e = unmoved _ (λ known seen_as later has holds sees rows before is row.
    let names = item_names f in
    subst (λ (b : Bool). Resolves names later callee args args code.Unknown (not_given seen_as (names.item callee.item) before p (type_if names later.rows ty) b (parametric_args_for p.name.name numbers))) (sym e)
    (record { value = tt; adds = adds_nothing names later callee.is_cyclic args; rest = refl }))

pub inferred_from : {f : Facts} {callee : CalledItem} {w : WalkShown} {args : ParametricArgs} {r : Resolved} (ty : Option TypeId) (p : Parametric) (numbers : List InferredNumber) (maybe : List (List ℕ)) (first : ℕ) → is_in p.name.name maybe ≡ false
    → first_number (parametric_args_for p.name.name numbers) ≡ Some first
    → ((names : ItemNames) (later : List TypeRow) → IsPrefix w.rows later → HasRowIf w.rows ty
    → IsResolved r (if list_all (λ k. k == first) (parametric_args_for p.name.name numbers) then in_type (type_if names later ty) first else Wrong))
    → ResolvedFrom f callee w w args args ty (not_given_by p numbers maybe) r
inferred_from {f} {callee} {w} {args} {r} ty p numbers maybe first e is typed = unmoved _ (λ known seen_as later has holds sees rows before behind row.
    let names = item_names f in
    let owner = names.item callee.item in
    let t = type_if names later.rows ty in
    let ns = parametric_args_for p.name.name numbers in
    subst (λ (b : Bool). Resolves names later callee args args r (not_given seen_as owner before p t b ns)) (sym e)
    (record {
      value = inferred_first seen_as owner before p t first ns r is (λ n. eq-eqb n n refl) (typed names later.rows has.rows row);
      adds = subst (AddsThere names later callee.is_cyclic args args) (sym (inferred_adds seen_as owner before p t first ns is)) (adds_nothing names later callee.is_cyclic args);
      rest = refl;
    }))

pub default_from : {f : Facts} {callee : CalledItem} {w0 w1 : WalkShown} {old new : ParametricArgs} {r : Resolved} (ty : Option TypeId) (p : Parametric) (numbers : List InferredNumber) (maybe : List (List ℕ)) → is_in p.name.name maybe ≡ false
    → first_number (parametric_args_for p.name.name numbers) ≡ None → ResolvedFrom f callee w0 w1 old new ty (λ known owner before t. default_value known owner before t p.default) r
    → ResolvedFrom f callee w0 w1 old new ty (not_given_by p numbers maybe) r
default_from {f} {callee} {w0} {w1} {old} {new} {r} ty p numbers maybe e is g = finds_as _ _ (λ names seen_as later h before behind row.
    let owner = names.item callee.item in
    let t = type_if names later.rows ty in
    let ns = parametric_args_for p.name.name numbers in
    subst (λ (b : Bool). Resolves names later callee old new r (not_given seen_as owner before p t b ns)) (sym e)
    (subst (Resolves names later callee old new r) (sym (not_inferred seen_as owner before p t ns is)) (h before behind row))) g

given_rest : (old new : ParametricArgs) → new ≡ record old { faults = new.faults } → new ≡ record old { faults = new.faults; declared = new.declared; reached = new.reached }
given_rest old new e = e ∙ (λ i. record old { faults = new.faults; declared = sym (ap (λ (a : ParametricArgs). a.declared) e) i; reached = sym (ap (λ (a : ParametricArgs). a.reached) e) i })

pub argument_given : {f : Facts} {callee : CalledItem} {w : WalkShown} {old new : ParametricArgs} {ty : Option TypeId} {r : Resolved} (p : Parametric) (numbers : List InferredNumber) (maybe : List (List ℕ)) (o : Option ParametricArgument)
    (given : ParametricArgument) → o ≡ Some given → GivenFrom (item_names f) w.rows ty given old new r → ArgumentFrom f callee w w old new ty p o numbers maybe r
argument_given {f} {callee} {w} {old} {new} {ty} {r} p numbers maybe o given e from =
    subst (λ (o : Option ParametricArgument). ArgumentFrom f callee w w old new ty p o numbers maybe r) (sym e)
    (unmoved _ (λ known seen_as later has holds sees rows before g is row are. by known seen_as later has holds before g row are))
  where
    by : (known seen_as : GlobalEnv) (later : WalkShown) → HasTables w later → FactsHold f later known → (before : Before) (g : Option GivenSeen) → HasRowIf w.rows ty → IsGivenIf (item_names f) w.rows later.rows (Some given) g
        → Argues (item_names f) later callee old new r (argument_by seen_as ((item_names f).item callee.item) before p (type_if (item_names f) later.rows ty) numbers maybe g)
    by known seen_as later has holds before None row are = absurd are
    by known seen_as later has holds before (Some g) row are =
        let names = item_names f in
        let t = type_if names later.rows ty in
        let part = are.constant.part in
        record {
          value = subst (λ v. IsResolved r (resolved_value (of_type t v))) are.constant.value (from.value later.rows holds.distinct has.rows row part.row);
          faults = λ fs is. from.faults later.rows fs holds.distinct has.rows row part.row is ∙ (λ i. seen (fs ++ wanted_faults (are.span i) t (part.ty i)));
          adds = record {
            declared = λ acyclic fs is. ap (λ (a : ParametricArgs). a.declared) from.rest ∙ is ∙ ap seen (sym (append-nil fs));
            reaches = λ acyclic. ap (λ (a : ParametricArgs). instances_at names later.met a.reached.items) from.rest ∙ sym (append-nil (instances_at names later.met old.reached.items));
          };
          rest = given_rest old new from.rest;
        }

pub argument_not_given : {f : Facts} {callee : CalledItem} {w0 w1 : WalkShown} {old new : ParametricArgs} {r : Resolved} (ty : Option TypeId) (p : Parametric) (numbers : List InferredNumber) (maybe : List (List ℕ)) (o : Option ParametricArgument)
    → o ≡ None → ResolvedFrom f callee w0 w1 old new ty (not_given_by p numbers maybe) r → ArgumentFrom f callee w0 w1 old new ty p o numbers maybe r
argument_not_given {f} {callee} {w0} {w1} {old} {new} {r} ty p numbers maybe o e g =
    subst (λ (o : Option ParametricArgument). ArgumentFrom f callee w0 w1 old new ty p o numbers maybe r) (sym e)
    (finds_as _ _ (λ names seen_as later h before x is row are. by names seen_as later before x (h before is row) are) g)
  where
    by : (names : ItemNames) (seen_as : GlobalEnv) (later : WalkShown) (before : Before) (x : Option GivenSeen)
        → Resolves names later callee old new r (not_given_by p numbers maybe seen_as (names.item callee.item) before (type_if names later.rows ty)) → IsGivenIf names w0.rows later.rows None x
        → Argues names later callee old new r (argument_by seen_as (names.item callee.item) before p (type_if names later.rows ty) numbers maybe x)
    by names seen_as later before None h are = record {
      value = h.value;
      faults = λ fs is. ap (λ (a : ParametricArgs). a.faults) h.rest ∙ is ∙ ap seen (sym (append-nil fs));
      adds = h.adds;
      rest = h.rest ∙ (λ i. record old { faults = sym (ap (λ (a : ParametricArgs). a.faults) h.rest) i; declared = new.declared; reached = new.reached });
    }
    by names seen_as later before (Some x) h are = absurd are

-- ---- the next one, with its type

pub next_found : {f : Facts} {callee : CalledItem} {w0 w1 w2 : WalkShown} {a0 a1 a2 : ParametricArgs} {ty : Option TypeId} {r : Resolved} (p : Parametric) (given : Option ParametricArgument) (numbers : List InferredNumber) (maybe : List (List ℕ))
    → Finds f callee w0 w1 (DeclaredType w0.prefixes w1.rows callee a0 a1 ty) → ArgumentFrom f callee w1 w2 a1 a2 ty p given numbers maybe r → NextFrom f callee w0 w2 a0 a2 p given numbers maybe r
next_found {f} {callee} {w0} {w1} {w2} {a0} {a1} {a2} {ty} {r} p given numbers maybe g h = finds_then _ _ _ g h (λ names seen_as later has found argued before x is are.
    let owner = names.item callee.item in
    let behind : HasBefore w1.prefixes a1 before = record {
      at = ap (λ (a : ParametricArgs). slice_get w1.prefixes a.prefix) found.rest ∙ get_in_prefix w0.prefixes w1.prefixes a0.prefix before.values g.grows.tables.prefixes is.at;
      known = ap (λ (a : ParametricArgs). a.are_known) found.rest ∙ is.known;
    } in
    let own = subst (λ t. Argues names later callee a1 a2 r (argument_by seen_as owner before p t numbers maybe x)) (found.is before is)
    (argued before x behind found.row (given_if_stays names w0.rows w1.rows later.rows given x g.grows.tables.rows are)) in
    record {
      value = own.value;
      faults = λ fs e. own.faults fs (ap (λ (a : ParametricArgs). a.faults) found.rest ∙ e);
      adds = adds_both names later callee.is_cyclic a0 a1 a2 (type_there seen_as owner before) _ (found.adds before is) own.adds;
      rest = own.rest ∙ ap (λ (a : ParametricArgs). record a { faults = a2.faults; declared = a2.declared; reached = a2.reached }) found.rest;
    })
