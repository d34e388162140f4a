-- Tops.
use denote.Ref.{Bor}
use Rattle.std.proofs.Common.{◌≡◌, ◌∙◌, ◌++◌, ◌≤◌, ◌+◌, ℕ, zero, suc, Bool, true, false, List, [], ◌∷◌, Option, Some, None, length, take, append_assoc, arith, refl, sym, ap, subst}
use Rattle.std.specs.Prelude.{if◌then◌else◌}
use Rattle.std.specs.List.{list_any}
use Rattle.std.proofs.lemmas.List.{append-nil}
use Rattle.std.proofs.lemmas.List as lists
use Rattle.xb_span.specs.Spans.{nowhere}
use Rattle.xb_span.specs.declared.fault.Fault.{Fault}
use Rattle.xb_span.specs.declared.span.Span.{Span}
use Rattle.dslx_tree.specs.declared.ident.Ident.{Ident}
use Rattle.dslx_tree.specs.declared.item.Definition.{Definition}
use Rattle.dslx_tree.specs.declared.item.Definition.TheVariants as d
use Rattle.dslx_tree.specs.declared.item.Item.{Item}
use Rattle.dslx_tree.specs.declared.process.Proc.{Proc}
use Rattle.dslx_meaning.specs.Items.{item_named}
use Rattle.dslx_meaning.specs.Lists.{or_else}
use Rattle.dslx_meaning.specs.Network.{as_proc, last_proc_of}
use Rattle.dslx_meaning.specs.Rules.ModuleRules.{ident_of, item_names, lacks_default, not_a_proc, top_faults}
use Rattle.dslx_meaning.specs.Rules.NameRules.{listed_name}
use Rattle.dslx_meaning.specs.Rules.Namesakes.{told_apart}
use Rattle.dslx_meaning.specs.Rules.RuleNumbers as rule
use Rattle.dslx_meaning.specs.Rules.TypeEnvs.{breaks, breaks_if}
use Rattle.dslx_check_rules.specs.declared.faults.Faults.{Faults}
use Rattle.dslx_check_rules.specs.Seen.{seen}
use Rattle.dslx_check_facts.specs.declared.facts.Facts.{Facts}
use Rattle.dslx_check_facts.specs.Firsts.{meant_by}
use Rattle.dslx_check_facts.specs.Known.{item_at, text_of}
use Rattle.dslx_check_facts.specs.Names.{definition_at}
use Rattle.dslx_check_declarations.specs.declared.tops.Top.{Top}
use Rattle.dslx_check_declarations.specs.Tops.{IsProcAt, IsProcIf, IsTop, IsTopAt, named_as, named_faults, proc_faults}
use Rattle.dslx_check_declarations.proofs.Lemmas.Listed.{names_behind}
use Rattle.dslx_check_declarations.proofs.Lemmas.Told.{none_told, told_at, told_long}

-- ---- the names of items

abbrev pub item_name : Item → List ℕ
item_name i = (ident_of i.definition).name

pub item_names_next : (before : List (List ℕ)) (is : List Item) (i : Item) → item_names before is ++ listed_name (names_behind item_name before is) (ident_of i.definition) ≡ item_names before (is ++ i ∷ [])
item_names_next before [] i = sym (append-nil (listed_name before (ident_of i.definition)))
item_names_next before (j ∷ is) i =
    append_assoc (listed_name before (ident_of j.definition)) (item_names (item_name j ∷ before) is) (listed_name (names_behind item_name (item_name j ∷ before) is) (ident_of i.definition))
    ∙ ap (λ (fs : List Fault). listed_name before (ident_of j.definition) ++ fs) (item_names_next (item_name j ∷ before) is i)

-- ---- procs by their numbers

is_the_proc : (x : Definition) (p : Proc) → as_proc (Some x) ≡ Some p → x ≡ d.Proc p
is_the_proc (d.Function f) p e = absurd (never e)
  where
    never : None ≡ Some p → ⊥
    never h = cc
is_the_proc (d.Proc q) p e = ap d.Proc (same e)
  where
    same : Some q ≡ Some p → q ≡ p
    same h = cc
is_the_proc (d.Constant c) p e = absurd (never e)
  where
    never : None ≡ Some p → ⊥
    never h = cc
is_the_proc (d.Alias a) p e = absurd (never e)
  where
    never : None ≡ Some p → ⊥
    never h = cc
is_the_proc (d.Struct s) p e = absurd (never e)
  where
    never : None ≡ Some p → ⊥
    never h = cc
is_the_proc (d.Enum n) p e = absurd (never e)
  where
    never : None ≡ Some p → ⊥
    never h = cc

there_by : (o : Option Definition) (p : Proc) → as_proc o ≡ Some p → o ≡ Some (d.Proc p)
there_by None p e = absurd (never e)
  where
    never : None ≡ Some p → ⊥
    never h = cc
there_by (Some x) p e = ap Some (is_the_proc x p e)

no_proc : (name : Ident) (x : Definition) → as_proc (Some x) ≡ None → as_proc (Some (named_as name x)) ≡ None
no_proc name (d.Function f) e = refl
no_proc name (d.Proc p) e = absurd (never e)
  where
    never : Some p ≡ None → ⊥
    never h = cc
no_proc name (d.Constant c) e = refl
no_proc name (d.Alias a) e = refl
no_proc name (d.Struct s) e = refl
no_proc name (d.Enum n) e = refl

-- the later one is found
pub later_some : (f : Facts) (item : ℕ) (q : Proc) (b : Bor Proc) (o : Option Proc) → as_proc (definition_at (text_of f).items item) ≡ Some q → b.now ≡ q → IsProcIf f (or_else (as_proc (item_at f item)) o) (Some (item, b))
later_some f item q b o e is =
    let t = told_at [] (text_of f).items item (d.Proc q) (there_by (definition_at (text_of f).items item) q e) in
    subst (λ (x : Option Definition). IsProcIf f (or_else (as_proc x) o) (Some (item, b))) (sym t.2)
    (subst (λ (r : Proc). IsProcAt f item r (record q { name = t.0 })) (sym is) (record { name = t.0; span = t.1; is = refl; at = t.2 }))

none_at : (f : Facts) (item : ℕ) (x : Option Definition) → definition_at (text_of f).items item ≡ x → as_proc x ≡ None → as_proc (item_at f item) ≡ None
none_at f item None e n = ap as_proc (none_told [] (text_of f).items item e)
none_at f item (Some x) e n = let t = told_at [] (text_of f).items item x e in ap as_proc t.2 ∙ no_proc t.0 x n

pub later_none : (f : Facts) (item : ℕ) (o : Option Proc) (found : Option (ℕ × Bor Proc)) → as_proc (definition_at (text_of f).items item) ≡ None → IsProcIf f o found → IsProcIf f (or_else (as_proc (item_at f item)) o) found
later_none f item o found e h = subst (λ (x : Option Proc). IsProcIf f (or_else x o) found) (sym (none_at f item (definition_at (text_of f).items item) refl e)) h

-- ---- the last proc

one_last : (found : Option Proc) (x : Item) (e : Definition) → x.definition ≡ e → last_proc_of (x ∷ []) found ≡ or_else (as_proc (Some e)) found
one_last found x (d.Function f) e = ap (λ (y : Definition). last_proc_of (record x { definition = y } ∷ []) found) e
one_last found x (d.Proc p) e = ap (λ (y : Definition). last_proc_of (record x { definition = y } ∷ []) found) e
one_last found x (d.Constant c) e = ap (λ (y : Definition). last_proc_of (record x { definition = y } ∷ []) found) e
one_last found x (d.Alias a) e = ap (λ (y : Definition). last_proc_of (record x { definition = y } ∷ []) found) e
one_last found x (d.Struct s) e = ap (λ (y : Definition). last_proc_of (record x { definition = y } ∷ []) found) e
one_last found x (d.Enum n) e = ap (λ (y : Definition). last_proc_of (record x { definition = y } ∷ []) found) e

last_by : (is : List Item) (k : ℕ) (found : Option Proc) → last_proc_of (take (suc k) is) found ≡ or_else (as_proc (definition_at is k)) (last_proc_of (take k is) found)
last_by [] zero found = refl
last_by [] (suc k) found = refl
last_by (x ∷ is) zero found = one_last found x x.definition refl
last_by (x ∷ is) (suc k) found = last_by is k _

pub last_next : (f : Facts) (found : Option (ℕ × Bor Proc)) (is : List Item) (k : ℕ) → IsProcIf f (or_else (as_proc (definition_at is k)) (last_proc_of (take k is) None)) found → IsProcIf f (last_proc_of (take (k + 1) is) None) found
last_next f found is k h = subst (λ (o : Option Proc). IsProcIf f o found) (sym (ap (λ n. last_proc_of (take n is) None) (let on : k + 1 ≡ suc k = omega arith in on) ∙ last_by is k None)) h

pub last_of_all : (f : Facts) (found : Option (ℕ × Bor Proc)) (k : ℕ) → length (text_of f).items ≤ k → IsProcIf f (last_proc_of (take k (told_apart (text_of f)).items) None) found → IsProcIf f (last_proc_of (told_apart (text_of f)).items None) found
last_of_all f found k past h =
    subst (λ (is : List Item). IsProcIf f (last_proc_of is None) found) (lists.take_all k (told_apart (text_of f)).items (omega (arith, past, told_long [] (text_of f).items))) h

-- ---- tops

if_breaks : (b : Bool) (n : ℕ) (span : Span) → (if b then breaks n span ∷ [] else []) ≡ breaks_if b n span
if_breaks true n span = refl
if_breaks false n span = refl

-- as it is under another name
same_faults : {f : Facts} {item : ℕ} {q p : Proc} → IsProcAt f item q p → (if list_any lacks_default p.parametrics then breaks rule.TOP_IS_A_PROC p.name.span ∷ [] else []) ≡ proc_faults q
same_faults {f} {item} {q} {p} h =
    if_breaks (list_any lacks_default p.parametrics) rule.TOP_IS_A_PROC p.name.span
    ∙ ap (λ (r : Proc). breaks_if (list_any lacks_default r.parametrics) rule.TOP_IS_A_PROC r.name.span) h.is
    ∙ ap (λ (s : Span). breaks_if (list_any lacks_default q.parametrics) rule.TOP_IS_A_PROC s) h.span

-- the last proc as the top
pub last_none : {t : Top} {found : Option (ℕ × Bor Proc)} (f : Facts) → IsProcIf f (last_proc_of (told_apart (text_of f)).items None) found → found ≡ None → t.process ≡ None → t.faults ≡ seen (breaks rule.TOP_IS_A_PROC nowhere ∷ [])
    → IsTop f None t
last_none {t} {found} f h none process faults =
    let m = told_apart (text_of f) in
    let o = nothing (last_proc_of m.items None) (subst (λ (x : Option (ℕ × Bor Proc)). IsProcIf f (last_proc_of m.items None) x) none h) in
    record {
      process = subst (λ (q : Option Proc). IsProcIf f q t.process) (sym o) (subst (λ (x : Option (ℕ × Bor Proc)). IsProcIf f None x) (sym process) tt);
      faults = faults ∙ ap (λ (q : Option Proc). seen (top_faults m None q)) (sym o);
    }
  where
    nothing : (o : Option Proc) → IsProcIf f o None → o ≡ None
    nothing None k = refl
    nothing (Some p) k = absurd k

pub last_some : {t : Top} {found : Option (ℕ × Bor Proc)} (f : Facts) (q : ℕ × Bor Proc) → IsProcIf f (last_proc_of (told_apart (text_of f)).items None) found → found ≡ Some q → t.process ≡ Some q → t.faults ≡ seen (proc_faults q.1.now) → IsTop f None t
last_some {t} {found} f q h some process faults = by (last_proc_of (told_apart (text_of f)).items None) refl (subst (λ (x : Option (ℕ × Bor Proc)). IsProcIf f (last_proc_of (told_apart (text_of f)).items None) x) some h)
  where
    by : (o : Option Proc) → last_proc_of (told_apart (text_of f)).items None ≡ o → IsProcIf f o (Some q) → IsTop f None t
    by None e k = absurd k
    by (Some p) e k = record {
      process = subst (λ (x : Option Proc). IsProcIf f x t.process) (sym e) (subst (λ (x : Option (ℕ × Bor Proc)). IsProcIf f (Some p) x) (sym process) k);
      faults = faults ∙ sym (ap (λ (x : Option Proc). seen (top_faults (told_apart (text_of f)) None x)) e ∙ ap seen (same_faults k));
    }

-- an item of a name as the top
pub named_none : {t : Top} (f : Facts) (name : List ℕ) → meant_by f name ≡ None → t.process ≡ None → t.faults ≡ seen (breaks rule.TOP_IS_A_PROC nowhere ∷ []) → IsTop f (Some name) t
named_none {t} f name none process faults = record {
  process = subst (λ (o : Option Definition). IsProcIf f (as_proc o) t.process) (sym none) (subst (λ (x : Option (ℕ × Bor Proc)). IsProcIf f None x) (sym process) tt);
  faults = faults ∙ sym (ap (λ (o : Option Proc). seen (top_faults (told_apart (text_of f)) (Some name) o)) (ap as_proc none) ∙ ap (λ (o : Option Definition). seen (not_a_proc o)) none);
}

faults_named : (f : Facts) (name : List ℕ) (x : Definition) (o : Option Proc) → meant_by f name ≡ Some x → top_faults (told_apart (text_of f)) (Some name) o ≡ named_faults x o
faults_named f name x None e = ap not_a_proc e
faults_named f name x (Some p) e = if_breaks (list_any lacks_default p.parametrics) rule.TOP_IS_A_PROC p.name.span

pub named_some : {t : Top} {item : ℕ} (f : Facts) (name : List ℕ) (x : Definition) → meant_by f name ≡ Some x → item_at f item ≡ Some x → IsTopAt item x t → IsTop f (Some name) t
named_some {t} {item} f name x meant at h = record {
  process = subst (λ (o : Option Definition). IsProcIf f (as_proc o) t.process) (sym meant) (h.process f at);
  faults = h.faults ∙ sym (ap (λ (o : Option Definition). seen (top_faults (told_apart (text_of f)) (Some name) (as_proc o))) meant ∙ ap seen (faults_named f name x (as_proc (Some x)) meant));
}

pub proc_top : {t : Top} {item : ℕ} (x : Definition) (q : Proc) (b : Bor Proc) → as_proc (Some x) ≡ Some q → b.now ≡ q → t.process ≡ Some (item, b) → t.faults ≡ seen (proc_faults b.now) → IsTopAt item x t
proc_top {t} {item} x q b e is process faults = record {
  process = λ f at.
      subst (λ (o : Option Proc). IsProcIf f o t.process) (sym e) (subst (λ (x : Option (ℕ × Bor Proc)). IsProcIf f (Some q) x) (sym process)
      (subst (λ (r : Proc). IsProcAt f item r q) (sym is) (record { name = q.name; span = refl; is = refl; at = at ∙ ap Some (is_the_proc x q e) })));
  faults = faults ∙ ap (λ (r : Proc). seen (proc_faults r)) is ∙ sym (ap (λ (o : Option Proc). seen (named_faults x o)) e);
}

pub other_top : {t : Top} {item : ℕ} (x : Definition) → as_proc (Some x) ≡ None → t.process ≡ None → t.faults ≡ seen (breaks rule.TOP_IS_A_PROC (ident_of x).span ∷ []) → IsTopAt item x t
other_top {t} {item} x e process faults = record {
  process = λ f at. subst (λ (o : Option Proc). IsProcIf f o t.process) (sym e) (subst (λ (x : Option (ℕ × Bor Proc)). IsProcIf f None x) (sym process) tt);
  faults = faults ∙ sym (ap (λ (o : Option Proc). seen (named_faults x o)) e);
}
