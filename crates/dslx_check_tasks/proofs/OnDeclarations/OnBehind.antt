-- Parts behind parametrics of known and unknown values.
use Rattle.std.proofs.Common.{◌≡◌, ◌∙◌, ◌==◌, ◌++◌, ℕ, zero, suc, Bool, true, List, [], ◌∷◌, Option, Some, length, drop, reverse, slice_get, refl, sym, ap, subst}
use Rattle.std.proofs.lemmas.Bool.Decides.{Decides-eqb}
use Rattle.dslx_tree.specs.declared.ident.Ident.{Ident}
use Rattle.dslx_tree.specs.declared.item.Definition.{Definition}
use Rattle.dslx_tree.specs.declared.item.Definition.TheVariants as d
use Rattle.dslx_tree.specs.declared.item.Parametric.{Parametric}
use Rattle.dslx_meaning.specs.Items.{item_named}
use Rattle.dslx_meaning.specs.declared.value.DslxValue.{DslxValue}
use Rattle.dslx_meaning.specs.Rules.ItemRules.{item_type_env}
use Rattle.dslx_meaning.specs.Rules.ModuleRules.{behind_values, default_if, default_seen, parameter_seen, parametrics_of, signature_of}
use Rattle.dslx_meaning.specs.Rules.TypeEnvs.{DefaultSeen, GlobalEnv, Judgement, Signature, TypeEnv}
use Rattle.dslx_check_rules.specs.Seen.{seen}
use Rattle.dslx_check_rules.proofs.Lemmas.Types.{get_in_prefix}
use Rattle.dslx_check_facts.specs.declared.asked.ForeignKey.{ForeignKey}
use Rattle.dslx_check_facts.specs.declared.asked.ForeignPart.{ForeignPart}
use Rattle.dslx_check_facts.specs.declared.asked.ForeignPart.TheVariants as part
use Rattle.dslx_check_facts.specs.declared.facts.Facts.{Facts}
use Rattle.dslx_check_facts.specs.declared.facts.ForeignSeen.{ForeignSeen}
use Rattle.dslx_check_facts.specs.declared.type_env.TypeEnv.{TypeEnv as CodeEnv}
use Rattle.dslx_check_facts.specs.Judged.{HasRows, environment}
use Rattle.dslx_check_facts.specs.Keys.{values_or_none}
use Rattle.dslx_check_facts.specs.Known.{HasKnownRows, item_names, text_of}
use Rattle.dslx_check_facts.specs.Names.{definition_at}
use Rattle.dslx_check_facts.specs.TypeEnvs.{known_to}
use Rattle.dslx_check_facts.specs.Typings.{HasForeignRows}
use Rattle.dslx_check_facts.specs.Walks.{WalkShown, instances_at}
use Rattle.dslx_check_facts.proofs.Lemmas.Judged.{known_rows_stay}
use Rattle.dslx_check_facts.proofs.Lemmas.Walks.{grows_trans, tables_refl, tables_trans}
use Rattle.dslx_check_declarations.specs.Scopes.{BindsAll, context_behind, declaring}
use Rattle.dslx_check_declarations.specs.Tops.{named_as}
use Rattle.dslx_check_declarations.proofs.Lemmas.Parts.{context_is, left_behind}
use Rattle.dslx_check_declarations.proofs.Lemmas.Told.{told_at}
use Rattle.dslx_check_declarations.specs.Work.Comes.{PartIsThere}
use Rattle.dslx_check_declarations.proofs.Lemmas.Work.Firsts.{first_named}
use Rattle.dslx_check_judge.proofs.Lemmas.Items.OnNames.{called}
use Rattle.dslx_check_tasks.specs.Declarations.Inner.Foreign.{GivesDefault, GivesParameter, GivesPart, GivesSignature, JudgesBehind, default_tree, has_all_of, parameter_in}
use Rattle.dslx_check_tasks.specs.Declarations.Judged.{JudgesForeign}

-- ---- the next parametric

next_parameter : (context : TypeEnv) (ps : List Parametric) (n : ℕ) → parameter_in context (slice_get ps n) ≡ parameter_seen context (drop n ps)
next_parameter context [] zero = refl
next_parameter context [] (suc n) = refl
next_parameter context (p ∷ ps) zero = refl
next_parameter context (p ∷ ps) (suc n) = next_parameter context ps n

next_default : (context : TypeEnv) (ps : List Parametric) (n : ℕ) → default_if context (default_tree (slice_get ps n)) ≡ default_seen context (drop n ps)
next_default context [] zero = refl
next_default context [] (suc n) = refl
next_default context (p ∷ ps) zero = refl
next_default context (p ∷ ps) (suc n) = next_default context ps n

-- a name more or less
pub same_parametrics : (name : Ident) (x : Definition) → parametrics_of (Some (named_as name x)) ≡ parametrics_of (Some x)
same_parametrics name (d.Function f) = refl
same_parametrics name (d.Proc p) = refl
same_parametrics name (d.Constant c) = refl
same_parametrics name (d.Alias a) = refl
same_parametrics name (d.Struct s) = refl
same_parametrics name (d.Enum e) = refl

same_signature : (context : TypeEnv) (name : Ident) (x : Definition) → signature_of context (Some (named_as name x)) ≡ signature_of context (Some x)
same_signature context name (d.Function f) = refl
same_signature context name (d.Proc p) = refl
same_signature context name (d.Constant c) = refl
same_signature context name (d.Alias a) = refl
same_signature context name (d.Struct s) = refl
same_signature context name (d.Enum e) = refl

-- what is in scope behind them, by the definitions
module _ (f : Facts) (w0 w1 w2 : WalkShown) (s s2 : CodeEnv) (key : ForeignKey) (own : Definition) (values : List (Option DslxValue)) (ps : List Parametric) (psis : ps ≡ parametrics_of (Some own))
    (bound : BindsAll f (declaring key.item key.is_refused) s w0 w1 ps (reverse values)) where
  abbrev owner : List ℕ
  owner = (item_names f).item key.item

  abbrev seen_as : GlobalEnv → GlobalEnv
  seen_as known = known_to key.is_refused owner known

  abbrev Named : GlobalEnv → Ident → Type 0
  Named known name = item_named owner known.whole.items ≡ Some (named_as name own)

  parametrics_are : (known : GlobalEnv) (name : Ident) → Named known name → ps ≡ parametrics_of (item_named owner known.whole.items)
  parametrics_are known name named = psis ∙ sym (same_parametrics name own) ∙ ap parametrics_of (sym named)

  scope_is : (known : GlobalEnv) (later : WalkShown) (name : Ident) → Named known name → environment f s known later ≡ (behind_values (seen_as known) owner values).context
  scope_is known later name named =
      bound.is known later
      ∙ ap (λ l. context_behind (item_type_env (seen_as known) owner []) l (reverse values)) (parametrics_are known name named)
      ∙ context_is (seen_as known) owner values

  left_is : (known : GlobalEnv) (name : Ident) → Named known name → drop (length values) ps ≡ (behind_values (seen_as known) owner values).left
  left_is known name named = ap (drop (length values)) (parametrics_are known name named) ∙ sym (left_behind (seen_as known) owner values)

  parameter_is : (known : GlobalEnv) (later : WalkShown) (name : Ident) → Named known name
      → parameter_in (environment f s known later) (slice_get ps (length values)) ≡ parameter_seen (behind_values (seen_as known) owner values).context (behind_values (seen_as known) owner values).left
  parameter_is known later name named =
      let b = behind_values (seen_as known) owner values in
      ap (λ e. parameter_in e (slice_get ps (length values))) (scope_is known later name named) ∙ next_parameter b.context ps (length values) ∙ ap (parameter_seen b.context) (left_is known name named)

  default_is : (known : GlobalEnv) (later : WalkShown) (name : Ident) → Named known name
      → default_if (environment f s known later) (default_tree (slice_get ps (length values))) ≡ default_seen (behind_values (seen_as known) owner values).context (behind_values (seen_as known) owner values).left
  default_is known later name named =
      let b = behind_values (seen_as known) owner values in
      ap (λ e. default_if e (default_tree (slice_get ps (length values)))) (scope_is known later name named) ∙ next_default b.context ps (length values) ∙ ap (default_seen b.context) (left_is known name named)

  signature_is : (known : GlobalEnv) (later : WalkShown) (name : Ident) → Named known name
      → signature_of (environment f s known later) (Some own) ≡ signature_of (behind_values (seen_as known) owner values).context (item_named owner known.whole.items)
  signature_is known later name named =
      let b = behind_values (seen_as known) owner values in
      ap (λ e. signature_of e (Some own)) (scope_is known later name named) ∙ sym (same_signature b.context name own) ∙ ap (signature_of b.context) (sym named)

  rows_there : HasKnownRows w0.rows f → HasRows f s w1
  rows_there rows = record { known = known_rows_stay w0.rows w1.rows f bound.grows.tables.rows rows; bound = bound.bound (record { parametric_args = tt; locals = tt; members = tt }) }

  -- what was reached
  all_of : {reached more : List ℕ} → w0.reached ≡ [] → reached ≡ w1.reached ++ more → reached ≡ more
  all_of {reached} {more} none is = is ∙ ap (λ l. l ++ more) (bound.reached ∙ none)

  parameter_behind : {there : ForeignSeen} → GivesParameter f s s2 w1 w2 there (slice_get ps (length values)) → JudgesBehind f w0 w2 key own values there
  parameter_behind {there} given = record {
    grows = grows_trans w0 w1 w2 bound.grows given.2.grows;
    is = λ known later has agrees rows none reached name named.
        let k = given.2.holds known later has agrees (rows_there rows) none in
        let same = parameter_is known later name named in
        subst (PartIsThere (item_names f) known later key values) (sym given.1) (record {
          ty = k.type.ty ∙ ap (λ (j : Judgement). j.ty) same;
          faults = λ r. k.faults_are ∙ ap (λ (j : Judgement). seen j.faults) same;
          reached = λ r. ap (instances_at (item_names f) later.met) (all_of reached k.all) ∙ k.reaches ∙ ap (λ (j : Judgement). j.reached) same;
        });
    rows = λ known later has agrees rows none. subst (HasForeignRows w2.rows) (sym given.1) (given.2.holds known later has agrees (rows_there rows) none).type.row;
  }

  default_behind : {there : ForeignSeen} → GivesDefault f s s2 w1 w2 there (slice_get ps (length values)) → JudgesBehind f w0 w2 key own values there
  default_behind {there} given = record {
    grows = grows_trans w0 w1 w2 bound.grows given.2.grows;
    is = λ known later has agrees rows none reached name named.
        let k = given.2.holds known later has agrees (rows_there rows) none in
        let same = default_is known later name named in
        subst (PartIsThere (item_names f) known later key values) (sym given.1) (record {
          typing = record {
            ty = k.typing.type.ty ∙ ap (λ (j : DefaultSeen). j.judgement.ty) same;
            faults = λ r. k.typing.faults_are ∙ ap (λ (j : DefaultSeen). seen j.judgement.faults) same;
            reached = λ r. ap (instances_at (item_names f) later.met) (all_of reached k.typing.all) ∙ k.typing.reaches ∙ ap (λ (j : DefaultSeen). j.judgement.reached) same;
          };
          value = k.value ∙ ap (λ (j : DefaultSeen). j.value) same;
        });
    rows = λ known later has agrees rows none. subst (HasForeignRows w2.rows) (sym given.1) (given.2.holds known later has agrees (rows_there rows) none).typing.type.row;
  }

  signature_behind : {there : ForeignSeen} → (length values == length ps) ≡ true → GivesSignature f s s2 w1 w2 there (λ context. signature_of context (Some own)) → JudgesBehind f w0 w2 key own values there
  signature_behind {there} long given = record {
    grows = grows_trans w0 w1 w2 bound.grows given.2.grows;
    is = λ known later has agrees rows none reached name named.
        let k = given.2.holds known later has agrees (rows_there rows) none in
        let same = signature_is known later name named in
        subst (PartIsThere (item_names f) known later key values) (sym given.1) (
          (Decides-eqb (length values) (length ps)).0 long ∙ ap length (parametrics_are known name named),
          record { arguments = k.arguments ∙ ap (λ (x : Signature). x.arguments) same; result = k.result.ty ∙ ap (λ (x : Signature). x.result) same },
        );
    rows = λ known later has agrees rows none.
        let k = given.2.holds known later has agrees (rows_there rows) none in
        subst (HasForeignRows w2.rows) (sym given.1) (k.rows_there, k.result.row);
  }

  -- of each kind
  part_behind : (kind : ForeignPart) {there : ForeignSeen} → has_all_of kind (length values) (length ps) ≡ true → GivesPart f s s2 w1 w2 there kind own (slice_get ps (length values)) → JudgesBehind f w0 w2 key own values there
  part_behind part.Parameter {there} all given = parameter_behind given
  part_behind part.Default {there} all given = default_behind given
  part_behind part.Signature {there} all given = signature_behind all given

pub judged_behind : {f : Facts} {w0 w1 w2 : WalkShown} {s : CodeEnv} (s2 : CodeEnv) {key : ForeignKey} {own : Definition} {values : List (Option DslxValue)} {ps : List Parametric} {next : Option Parametric} {b : Bool} {there : ForeignSeen}
    → ps ≡ parametrics_of (Some own)
    → BindsAll f (declaring key.item key.is_refused) s w0 w1 ps (reverse values) → b ≡ has_all_of key.part (length values) (length ps) → b ≡ true → next ≡ slice_get ps (length values)
    → GivesPart f s s2 w1 w2 there key.part own next → JudgesBehind f w0 w2 key own values there
judged_behind {f} {w0} {w1} {w2} {s} s2 {key} {own} {values} {ps} {next} {b} {there} is bound all so at given =
    part_behind f w0 w1 w2 s s2 key own values ps is bound key.part (sym all ∙ so) (subst (GivesPart f s s2 w1 w2 there key.part own) at given)

-- ---- as it was asked for

pub foreign_judged : {f : Facts} {w0 w1 : WalkShown} {key : ForeignKey} {own : Definition} {values : List (Option DslxValue)} {there : ForeignSeen} → definition_at (text_of f).items key.item ≡ Some own → slice_get w0.prefixes key.prefix ≡ Some values
    → JudgesBehind f w0 w1 key own values there → JudgesForeign f w0 w1 key there
foreign_judged {f} {w0} {w1} {key} {own} {values} {there} at prefix b = record {
  grows = b.grows;
  comes = λ known agrees rows none reached number asked.
      let here = agrees w1 (tables_refl w1) in
      let t = told_at [] (text_of f).items key.item own at in
      let x = named_as t.0 own in
      let named : item_named ((item_names f).item key.item) known.whole.items ≡ Some x =
      (λ i. item_named (called f key.item x t.2 i) (here.whole i).items) ∙ first_named (text_of f) here.distinct key.item x t.2 in
      record {
        key = key;
        asked = asked;
        values = values;
        prefix = λ later has. ap values_or_none (get_in_prefix w0.prefixes later.prefixes key.prefix values (tables_trans w0 w1 later b.grows.tables has).prefixes prefix);
        is = λ later has. b.is known later has (agrees later has) rows none reached t.0 named;
        rows = b.rows known w1 (tables_refl w1) here rows none;
      };
}
