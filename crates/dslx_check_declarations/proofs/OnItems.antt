-- Constants.
use Rattle.std.proofs.Common.{◌≡◌, ◌∙◌, ◌++◌, ◌&&◌, Bool, true, false, List, [], Option, Some, None, refl, sym, ap}
use Rattle.std.specs.Prelude.{if◌then◌else◌, is_some}
use Rattle.base.specs.Lists.Prefix.{IsPrefix}
use Rattle.xb_span.specs.declared.fault.Fault.{Fault}
use Rattle.xb_span.specs.declared.span.Span.{Span}
use Rattle.dslx_tree.specs.declared.type_expr.TypeExpr.{TypeExpr}
use Rattle.dslx_meaning.specs.declared.ty.DslxType.{DslxType}
use Rattle.dslx_meaning.specs.Rules.AggregateRules.{wanted_faults}
use Rattle.dslx_meaning.specs.Rules.ConstantRules.{is_empty}
use Rattle.dslx_meaning.specs.Rules.ItemRules.{is_annotated}
use Rattle.dslx_meaning.specs.Rules.PatternRules.{is_there}
use Rattle.dslx_meaning.specs.Rules.TypeEnvs.{Judgement, has_broken, unless_broken}
use Rattle.dslx_check_rules.specs.declared.faults.Faults.{Faults}
use Rattle.dslx_check_rules.specs.declared.typing.Typing.{Typing}
use Rattle.dslx_check_rules.specs.declared.table.row.TypeId.{TypeId}
use Rattle.dslx_check_rules.specs.declared.table.row.TypeRow.{TypeRow}
use Rattle.dslx_check_rules.specs.Interned.{AreDistinct, HasRowIf, ItemNames, type_if}
use Rattle.dslx_check_rules.specs.Seen.{seen}
use Rattle.dslx_check_rules.specs.Nodes.Parts.{IsPart}
use Rattle.dslx_check_declarations.specs.Items.{AnnotatesBy, IsWrittenType, annotated, annotated_faults}

abbrev pub Adds : Faults → Faults → Faults → Type 0
Adds a b r = (fs gs : List Fault) → a ≡ seen fs → b ≡ seen gs → r ≡ seen (fs ++ gs)

-- ---- what is written for a constant

part_of : (names : ItemNames) (rows later : List TypeRow) (j : Typing) (t : Option TypeExpr) (x : Judgement) → IsWrittenType names rows later t (Some j) x → IsPart names rows later j x
part_of names rows later j None x h = absurd h
part_of names rows later j (Some t) x h = h

typed_there : (names : ItemNames) (rows later : List TypeRow) (j : Typing) (t : Option TypeExpr) (x : Judgement) → IsWrittenType names rows later t (Some j) x → annotated t x ≡ x.ty
typed_there names rows later j None x h = absurd h
typed_there names rows later j (Some t) x h = refl

faults_there : (names : ItemNames) (rows later : List TypeRow) (j : Typing) (t : Option TypeExpr) (x : Judgement) → IsWrittenType names rows later t (Some j) x → annotated_faults t x ≡ x.faults
faults_there names rows later j None x h = absurd h
faults_there names rows later j (Some t) x h = refl

type_there : (names : ItemNames) (rows later : List TypeRow) (j : Typing) (t : Option TypeExpr) (x : Judgement) → IsWrittenType names rows later t (Some j) x → is_annotated t (annotated t x) ≡ is_there x.ty
type_there names rows later j None x h = absurd h
type_there names rows later j (Some t) x h = refl

some_there : (names : ItemNames) (rows : List TypeRow) (t : Option TypeId) → is_some t ≡ is_there (type_if names rows t)
some_there names rows None = refl
some_there names rows (Some t) = refl

pub written_there : (names : ItemNames) (rows later : List TypeRow) (j : Typing) (t : Option TypeExpr) (x : Judgement) → IsWrittenType names rows later t (Some j) x → j.faults ≡ seen (annotated_faults t x)
written_there names rows later j t x h = (part_of names rows later j t x h).faults ∙ sym (ap seen (faults_there names rows later j t x h))

pub nothing_written : {none : Faults} (names : ItemNames) (rows later : List TypeRow) (t : Option TypeExpr) (x : Judgement) → none ≡ seen [] → IsWrittenType names rows later t None x → none ≡ seen (annotated_faults t x)
nothing_written names rows later None x e h = e
nothing_written names rows later (Some t) x e h = absurd h

none_wanted : {none : Faults} (names : ItemNames) (rows later : List TypeRow) (span : Span) (v : Option DslxType) (t : Option TypeExpr) (x : Judgement) → none ≡ seen [] → IsWrittenType names rows later t None x
    → none ≡ seen (wanted_faults span (annotated t x) v)
none_wanted names rows later span v None x e h = e
none_wanted names rows later span v (Some t) x e h = absurd h

none_fine : (names : ItemNames) (rows later : List TypeRow) (span : Span) (v : Option DslxType) (t : Option TypeExpr) (x : Judgement) → IsWrittenType names rows later t None x
    → true ≡ (is_empty (annotated_faults t x ++ wanted_faults span (annotated t x) v) && is_annotated t (annotated t x))
none_fine names rows later span v None x h = refl
none_fine names rows later span v (Some t) x h = absurd h

pub annotated_none : {rows : List TypeRow} {span : Span} {value : Option TypeId} {none : Faults} → none ≡ seen [] → AnnotatesBy rows span None value none true
annotated_none {rows} {span} {value} {none} e = record {
  is = λ names later distinct p row t x h. none_wanted names rows later span (type_if names later value) t x e h;
  fine = λ names later distinct p row t x h. none_fine names rows later span (type_if names later value) t x h;
}

pub annotated_some : {rows : List TypeRow} {span : Span} {j : Typing} {value : Option TypeId} {wrong all : Faults} {none fine : Bool}
    → ((names : ItemNames) (later : List TypeRow) → AreDistinct names → IsPrefix rows later → HasRowIf rows j.ty → HasRowIf rows value → wrong ≡ seen (wanted_faults span (type_if names later j.ty) (type_if names later value)))
    → Adds j.faults wrong all → ((fs : List Fault) → all ≡ seen fs → none ≡ is_empty fs) → fine ≡ (none && is_some j.ty)
    → AnnotatesBy rows span (Some j) value wrong fine
annotated_some {rows} {span} {j} {value} {wrong} {all} {none} {fine} w adds empty is = record {
  is = λ names later distinct p row t x h.
      let k = part_of names rows later j t x h in
      w names later distinct p k.row row ∙ (λ i. seen (wanted_faults span (k.ty i) (type_if names later value))) ∙ sym (ap (λ (o : Option DslxType). seen (wanted_faults span o (type_if names later value))) (typed_there names rows later j t x h));
  fine = λ names later distinct p row t x h.
      let k = part_of names rows later j t x h in
      let v = type_if names later value in
      let wrong_is : wrong ≡ seen (wanted_faults span (annotated t x) v) = w names later distinct p k.row row ∙ (λ i. seen (wanted_faults span (k.ty i) v)) ∙ sym (ap (λ (o : Option DslxType). seen (wanted_faults span o v)) (typed_there names rows later j t x h)) in
      let both_are = adds (annotated_faults t x) (wanted_faults span (annotated t x) v) (written_there names rows later j t x h) wrong_is in
      is ∙ (λ i. empty (annotated_faults t x ++ wanted_faults span (annotated t x) v) both_are i && some_there names later j.ty i) ∙ (λ i. is_empty (annotated_faults t x ++ wanted_faults span (annotated t x) v) && is_there (k.ty i))
      ∙ sym (ap (λ (b : Bool). is_empty (annotated_faults t x ++ wanted_faults span (annotated t x) v) && b) (type_there names rows later j t x h));
}

pub unless_is : (ty : Option TypeId) (faults : Faults) (names : ItemNames) (rows : List TypeRow) (fs : List Fault) → faults ≡ seen fs → type_if names rows (if faults.broken then None else ty) ≡ unless_broken fs (type_if names rows ty)
unless_is ty faults names rows fs e = ap (λ (x : Faults). type_if names rows (if x.broken then None else ty)) e ∙ by (has_broken fs)
  where
    by : (b : Bool) → type_if names rows (if b then None else ty) ≡ (if b then None else type_if names rows ty)
    by true = refl
    by false = refl
