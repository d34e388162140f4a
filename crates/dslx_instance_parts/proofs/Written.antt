-- Fields that are written, and those that aren't.
use Rattle.std.proofs.Common.{◌≡◌, ℕ, Bool, true, false, List, [], ◌∷◌, Option, Some, None, if◌then◌else◌, refl, sym, ap, ◌∙◌}
use Rattle.std.specs.Prelude.{is_some}
use Rattle.std.specs.List.{list_all}
use Rattle.std.specs.Str.{bytes_eq}
use Rattle.dslx_tree.specs.declared.expr.Expr.{Expr}
use Rattle.dslx_tree.specs.declared.expr.FieldValue.{FieldValue, out-FieldValue}
use Rattle.dslx_meaning.specs.Lists.{is_in}
use Rattle.dslx_meaning.specs.declared.ty.DslxType.{DslxType}
use Rattle.dslx_meaning.specs.Names.ConstMachine.Layers.{field_among}
use Rattle.dslx_core.specs.Machines.Machine.Parts.{fields_begin, names_of_fields}
use Rattle.dslx_core.specs.Machines.Machine.Tasks.{InstanceEnv, OpenBody}
use Rattle.dslx_instance_parts.specs.Inner.Fields.{fields_by, others_needed}

-- the two parts are how fields begin
pub fields_begin_by : (context : InstanceEnv) (written : List FieldValue) (rest : Option Expr) (t : DslxType) (fields : List (List ℕ)) (ts : List DslxType) (body : OpenBody)
    → fields_by context written (others_needed fields written rest) t fields ts body ≡ fields_begin context written rest t fields ts body
fields_begin_by context written None t fields ts body = refl
fields_begin_by context written (Some e) t fields ts body = by (list_all (λ field. is_in field (names_of_fields written)) fields)
  where
    by : (b : Bool) → fields_by context written (if b then None else Some e) t fields ts body
        ≡ (if b then fields_by context written None t fields ts body else fields_by context written (Some e) t fields ts body)
    by true = refl
    by false = refl

-- the same of what is equal to the parts
pub begins_by_parts : (context : InstanceEnv) (written : List FieldValue) (rest : Option Expr) (t : DslxType) (fields names : List (List ℕ)) (ts left : List DslxType) (others : Option Expr) (body : OpenBody)
    → others ≡ others_needed fields written rest → names ≡ fields → left ≡ ts → fields_by context written others t names left body ≡ fields_begin context written rest t fields ts body
begins_by_parts context written rest t fields names ts left others body o n l =
    ap (λ o. fields_by context written o t names left body) o ∙ ap (λ n. fields_by context written (others_needed fields written rest) t n left body) n
    ∙ ap (λ l. fields_by context written (others_needed fields written rest) t fields l body) l ∙ fields_begin_by context written rest t fields ts body

-- ---- whether a field is written

by_test : (b : Bool) (found : Option FieldValue) (f : FieldValue) (rest : Bool) → is_some found ≡ rest → is_some (if b then Some f else found) ≡ (if b then true else rest)
by_test true found f rest same = refl
by_test false found f rest same = same

written_where_found : (name : List ℕ) (fs : List FieldValue) → is_some (field_among name fs) ≡ is_in name (names_of_fields fs)
written_where_found name [] = refl
written_where_found name (f ∷ fs) = by_test (bytes_eq name (out-FieldValue f).name.name) (field_among name fs) f (is_in name (names_of_fields fs)) (written_where_found name fs)

pub is_among : (name : List ℕ) (fs : List FieldValue) (f : FieldValue) → field_among name fs ≡ Some f → true ≡ is_in name (names_of_fields fs)
is_among name fs f found = sym (ap is_some found) ∙ written_where_found name fs

pub is_not_among : (name : List ℕ) (fs : List FieldValue) → field_among name fs ≡ None → false ≡ is_in name (names_of_fields fs)
is_not_among name fs none = sym (ap is_some none) ∙ written_where_found name fs
