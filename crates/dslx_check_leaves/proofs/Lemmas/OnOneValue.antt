-- Patterns that are one value of which more is looked up, and names that patterns bind.
use Rattle.std.proofs.Common.{◌≡◌, ◌∙◌, ◌++◌, ℕ, List, [], ◌∷◌, Bool, true, false, Option, Some, None, map, length, drop, refl, sym, ap, subst}
use Rattle.std.specs.Option.{option_map}
use Rattle.std.proofs.lemmas.Option.{none-some}
use Rattle.base.specs.Lists.Prefix.{IsPrefix}
use Rattle.xb_span.specs.declared.span.Span.{Span}
use Rattle.dslx_tree.specs.declared.item.Definition.{Definition}
use Rattle.dslx_tree.specs.declared.item.Definition.TheVariants as d
use Rattle.dslx_tree.specs.declared.item.Constant.{Constant}
use Rattle.dslx_tree.specs.declared.item.Enum.{Enum}
use Rattle.dslx_meaning.specs.Items.{as_constant, as_enum, is_constant_item}
use Rattle.dslx_meaning.specs.Lists.{is_in}
use Rattle.dslx_meaning.specs.Types.{bool_type}
use Rattle.dslx_meaning.specs.Values.{type_of_value}
use Rattle.dslx_meaning.specs.declared.ty.DslxType.{DslxType}
use Rattle.dslx_meaning.specs.declared.value.DslxValue.{DslxValue}
use Rattle.dslx_meaning.specs.Rules.NameRules.{local_name}
use Rattle.dslx_meaning.specs.Rules.PatternRules.{bound_name, constant_pattern, is_there, name_pattern, one_value}
use Rattle.dslx_meaning.specs.Rules.RuleNumbers as rule
use Rattle.dslx_meaning.specs.Rules.TypeEnvs.{GlobalEnv, Judgement, TypeEnv, Typed, breaks_if, unlimited}
use Rattle.dslx_meaning.specs.Rules.Typings.{PatternSeen}
use Rattle.dslx_check_rules.specs.declared.faults.Faults.{Faults}
use Rattle.dslx_check_rules.specs.declared.table.row.TypeId.{TypeId}
use Rattle.dslx_check_rules.specs.declared.table.row.TypeRow.{TypeRow}
use Rattle.dslx_check_rules.specs.declared.typing.Typing.{Typing}
use Rattle.dslx_check_rules.specs.Seen.{seen}
use Rattle.dslx_check_rules.specs.Interned.{AreDistinct, HasRow, HasRowIf, ItemNames, type_at, type_if}
use Rattle.dslx_check_facts.specs.Bound.{bound_names}
use Rattle.dslx_check_facts.specs.declared.facts.Facts.{Facts}
use Rattle.dslx_check_facts.specs.declared.type_env.TypeEnv.{TypeEnv as CodeEnv}
use Rattle.dslx_check_facts.specs.Firsts.{IsMeant, meant_by}
use Rattle.dslx_check_facts.specs.Judged.{ComesToTyping, environment}
use Rattle.dslx_check_facts.specs.Known.{FactsHold, HasKnownRows, is_cyclic, item_at, item_names}
use Rattle.dslx_check_facts.specs.TypeEnvs.{typed_of}
use Rattle.dslx_check_facts.specs.Typings.{IsUnlimited}
use Rattle.dslx_check_facts.specs.Walks.{OnlyMisses, WalkShown, instances_at}
use Rattle.dslx_check_facts.proofs.Lemmas.Items.{cyclic_is, means}
use Rattle.dslx_check_facts.proofs.Lemmas.Judged.{row_stays_if, rows_stay, unlimited_leaf}
use Rattle.dslx_check_facts.proofs.Lemmas.Walks.{grows_refl, grows_trans, misses_grows, misses_refl, nothing_missing, tables_trans}
use Rattle.dslx_check_rules.specs.declared.control.patterns.PatternTyping.{PatternTyping}
use Rattle.dslx_check_rules.specs.Control.Patterns.{IsPattern}
use Rattle.dslx_check_rules.specs.Nodes.Parts.{IsPart}
use Rattle.dslx_check_leaves.specs.Fits.Typed.{PatternFrom}
use Rattle.dslx_check_leaves.specs.Typed.{bool_pattern_at, constant_pattern_at, name_pattern_at}
use Rattle.dslx_check_leaves.specs.Walked.{BindsAs, PatternNames, Claim, HasBound, WalksTo, TypesPart, TypesPattern}
use Rattle.dslx_check_leaves.proofs.Lemmas.OnPatterns.{bound_stays, value_walked}
use Rattle.dslx_check_leaves.proofs.Lemmas.Walking.{AddsTypes, all_dropped, grows_rows, halved, looked_up, same_types, with_rows}

-- a value's typing, and whether it is known
pub record TypesValue (own : Typing) (is_known : Bool) (D : TypeEnv → Judgement) (K : TypeEnv → Bool) (names : ItemNames) (rows : List TypeRow) (later : WalkShown) (more : List ℕ) (env : TypeEnv) : Type 0 where
  pub typed : TypesPart own D names rows later more env
  pub known : is_known ≡ K env

-- what is looked up behind a walk
pub value_noted : {f : Facts} {s0 s1 : CodeEnv} {w0 w1 w2 : WalkShown} {own : Typing} {is_known : Bool} {D : TypeEnv → Judgement} {K : TypeEnv → Bool}
    → WalksTo f s0 s1 w0 w1 (TypesPart own D) → OnlyMisses w1 w2
    → ((known : GlobalEnv) (later : WalkShown) → FactsHold f later known → w2.missing ≡ [] → is_known ≡ K (environment f s0 known later))
    → WalksTo f s0 s1 w0 w2 (TypesValue own is_known D K)
value_noted {f} {s0} {s1} {w0} {w1} {w2} {own} {is_known} {D} {K} g m h =
    let onward = misses_grows w1 w2 m in
    record {
      grows = grows_trans w0 w1 w2 g.grows onward;
      sight = g.sight;
      holds = λ known later has agrees there none.
          let names = item_names f in
          let env = environment f s0 known later in
          let t : TypesPart own D names w1.rows later (drop (length w0.reached) w1.reached) env = g.holds known later (tables_trans w1 w2 later onward.tables has) agrees there (nothing_missing w1 w2 onward none) in
          record {
            typed = subst (λ (rows : List TypeRow). TypesPart own D names rows later (drop (length w0.reached) w2.reached) env) (sym m.rows)
                (subst (λ (l : List ℕ). TypesPart own D names w1.rows later (drop (length w0.reached) l) env) (sym m.reached) t);
            known = h known later agrees none;
          };
    }

pub value_seen : {f : Facts} {s0 s1 : CodeEnv} {w0 w1 : WalkShown} {own : Typing} {p : PatternTyping} {ty : Option TypeId} {before : PatternNames} {D : TypeEnv → Judgement} {K : TypeEnv → Bool} {is_known : Bool}
    (span : Span) (may_fail : Bool) → WalksTo f s0 s1 w0 w1 (TypesValue own is_known D K)
    → ((items : ItemNames) (later : List TypeRow) (j : Judgement) (bound : List (List ℕ)) (locals : List Typed) → AreDistinct items → IsPrefix w1.rows later → HasRowIf w1.rows ty
    → IsPart items w1.rows later own j → IsPattern p (one_value span may_fail (type_if items later ty) bound locals j is_known))
    → WalksTo f s0 s1 w0 w1 (TypesPattern p w0.rows ty before before (λ env t names locals. one_value span may_fail t names locals (D env) (K env)))
value_seen {f} {s0} {s1} {w0} {w1} {own} {p} {ty} {before} {D} {K} {is_known} span may_fail g is =
    let to_end : IsPrefix w0.rows w1.rows = g.grows.tables.rows in
    halved (TypesValue own is_known D K) (TypesPattern p w0.rows ty before before (λ env t names locals. one_value span may_fail t names locals (D env) (K env))) g (same_types w1.rows)
    (λ items later more env distinct q t. record {
      bound = λ row all. bound_stays w0.rows w1.rows before to_end all;
      binds = λ row all around.
          let kind = type_if items later.rows ty in
          let names = bound_names before in
          let locals = map (typed_of items later.rows) before ++ around in
          let h = is items later.rows (D env) names locals distinct q (row_stays_if w0.rows w1.rows ty to_end row) t.typed.part in
          record {
            typing = subst (λ (b : Bool). IsPattern p (one_value span may_fail kind names locals (D env) b)) t.known h;
            names = refl;
            locals = refl;
            reaches = t.typed.reaches;
          };
    })

-- the same by what it is where the facts hold
pub pattern_as : {f : Facts} {s0 s1 : CodeEnv} {w0 w1 : WalkShown} {p : PatternTyping} {old : List TypeRow} {ty : Option TypeId} {before after : PatternNames} {P Q : PatternFrom}
    → ((known : GlobalEnv) (later : WalkShown) → FactsHold f later known → P (environment f s0 known later) ≡ Q (environment f s0 known later))
    → WalksTo f s0 s1 w0 w1 (TypesPattern p old ty before after P) → WalksTo f s0 s1 w0 w1 (TypesPattern p old ty before after Q)
pattern_as {f} {s0} {s1} {w0} {w1} {p} {old} {ty} {before} {after} {P} {Q} e g = record {
  grows = g.grows;
  sight = g.sight;
  holds = λ known later has agrees there none.
      let items = item_names f in
      let more = drop (length w0.reached) w1.reached in
      let t = g.holds known later has agrees there none in
      record {
        bound = t.bound;
        binds = λ row all around.
            subst (λ (D : Option DslxType → List (List ℕ) → List Typed → PatternSeen).
            BindsAs items later more p after around (D (type_if items later.rows ty) (bound_names before) (map (typed_of items later.rows) before ++ around)))
            (e known later agrees) (t.binds row all around);
      };
}

-- behind types that were added before
pub from_before : {f : Facts} {s0 s1 : CodeEnv} {w0 w1 : WalkShown} {rows : List TypeRow} (P : Claim) → AddsTypes w0.rows rows → WalksTo f s0 s1 (with_rows w0 rows) w1 P → WalksTo f s0 s1 w0 w1 P
from_before {f} {s0} {s1} {w0} {w1} {rows} P a g =
    let first = grows_rows w0 w0 rows (grows_refl w0) a in
    record {
      grows = grows_trans w0 (with_rows w0 rows) w1 first g.grows;
      sight = g.sight;
      holds = λ known later has agrees there none. g.holds known later has agrees (rows_stay f s0 w0 (with_rows w0 rows) first.tables there) none;
    }

-- a pattern is walked from a table with fewer types
pub pattern_before : {f : Facts} {s0 s1 : CodeEnv} {w0 w1 : WalkShown} {p : PatternTyping} {old rows : List TypeRow} {ty : Option TypeId} {before after : PatternNames} {P : PatternFrom} → IsPrefix old rows
    → WalksTo f s0 s1 w0 w1 (TypesPattern p rows ty before after P) → WalksTo f s0 s1 w0 w1 (TypesPattern p old ty before after P)
pattern_before {f} {s0} {s1} {w0} {w1} {p} {old} {rows} {ty} {before} {after} {P} q g =
    halved (TypesPattern p rows ty before after P) (TypesPattern p old ty before after P) g (same_types w1.rows)
    (λ items later more env distinct h t. record {
      bound = λ row all. t.bound (row_stays_if old rows ty q row) (bound_stays old rows before q all);
      binds = λ row all around. t.binds (row_stays_if old rows ty q row) (bound_stays old rows before q all) around;
    })

-- ---- `true` and `false`

pub bool_walked : {f : Facts} {s : CodeEnv} {w : WalkShown} {rows : List TypeRow} {bit : TypeId} {faults : Faults} {own : Typing} {p : PatternTyping} {ty : Option TypeId} {before : PatternNames} (span : Span) (may_fail : Bool)
    → AddsTypes w.rows rows → HasRow rows bit → ((names : ItemNames) (later : List TypeRow) → IsPrefix rows later → type_at names later bit ≡ bool_type)
    → faults ≡ seen [] → IsUnlimited (with_rows w rows) (Some bit) faults (Some 1) own
    → ((items : ItemNames) (later : List TypeRow) (j : Judgement) (bound : List (List ℕ)) (locals : List Typed) → AreDistinct items → IsPrefix rows later → HasRowIf rows ty
    → IsPart items rows later own j → IsPattern p (one_value span may_fail (type_if items later ty) bound locals j true))
    → WalksTo f s s w (with_rows w rows) (TypesPattern p w.rows ty before before (bool_pattern_at span may_fail))
bool_walked {f} {s} {w} {rows} {bit} {faults} {own} {p} {ty} {before} span may_fail a row is none of pattern =
    let w1 : WalkShown = with_rows w rows in
    let D : TypeEnv → Judgement = λ env. unlimited (Some bool_type) [] [] (Some 1) in
    let P = TypesPattern p rows ty before before (bool_pattern_at span may_fail) in
    let typed : ComesToTyping f s w1 w1 own D = unlimited_leaf f s w1 w1 (Some bit) faults own D of (misses_refl w1) (λ known later tables agrees there missing. record {
      type = Some bool_type;
      all = [];
      has_row = row;
      of_type = ap (λ (t : DslxType). Some t) (is (item_names f) later.rows tables.rows);
      of_faults = none;
      is = refl;
    }) in
    pattern_before a.rows (from_before P a (value_walked {D = D} span may_fail (looked_up (misses_refl w1) typed) (same_types rows) (λ items later env t. refl) pattern))

-- ---- constants

there_typed : (o : Option DslxValue) → is_there (option_map type_of_value o) ≡ is_there o
there_typed None = refl
there_typed (Some v) = refl

pub constant_walked : {f : Facts} {s : CodeEnv} {w0 w1 : WalkShown} {faults : Faults} {own : Typing} {cyclic is_known : Bool} {p : PatternTyping} {ty : Option TypeId} {before : PatternNames}
    (own_type : Option TypeId) (span : Span) (may_fail : Bool) (item : ℕ) → OnlyMisses w0 w1 → ((rows : List TypeRow) → HasKnownRows rows f → HasRowIf rows own_type)
    → ((known : GlobalEnv) (later : WalkShown) → FactsHold f later known → w1.missing ≡ []
    → type_if (item_names f) later.rows own_type ≡ option_map type_of_value (known.items.constant ((item_names f).item item)))
    → cyclic ≡ is_cyclic f s.owner item → faults ≡ seen (breaks_if cyclic rule.NO_ITEM_REACHES_ITSELF span) → IsUnlimited w1 own_type faults (Some 1) own
    → ((items : ItemNames) (later : List TypeRow) → is_known ≡ is_there (type_if items later own_type))
    → ((items : ItemNames) (later : List TypeRow) (j : Judgement) (bound : List (List ℕ)) (locals : List Typed) → AreDistinct items → IsPrefix w1.rows later → HasRowIf w1.rows ty
    → IsPart items w1.rows later own j → IsPattern p (one_value span may_fail (type_if items later ty) bound locals j is_known))
    → WalksTo f s s w0 w1 (TypesPattern p w0.rows ty before before (constant_pattern_at span may_fail ((item_names f).item item)))
constant_walked {f} {s} {w0} {w1} {faults} {own} {cyclic} {is_known} {p} {ty} {before} own_type span may_fail item misses row of_type by_group found of there pattern =
    let name : List ℕ = (item_names f).item item in
    let D : TypeEnv → Judgement = λ env. constant_pattern span env name (env.known.items.constant name) in
    let typed : ComesToTyping f s w0 w1 own D = unlimited_leaf f s w0 w1 own_type faults own D of misses (λ known later tables agrees rows missing. record {
      type = option_map type_of_value (known.items.constant name);
      all = breaks_if (known.is_cyclic ((item_names f).item s.owner) name) rule.NO_ITEM_REACHES_ITSELF span;
      has_row = row w1.rows rows.known;
      of_type = of_type known later agrees missing;
      of_faults = found ∙ ap (λ b. seen (breaks_if b rule.NO_ITEM_REACHES_ITSELF span)) (by_group ∙ cyclic_is f s later known item name agrees refl);
      is = refl;
    }) in
    value_seen {D = D} span may_fail
    (value_noted {D = D} (looked_up misses typed) (misses_refl w1) (λ known later agrees none.
    there (item_names f) later.rows ∙ ap is_there (of_type known later agrees none) ∙ there_typed (known.items.constant name))) pattern

-- ---- names

-- a name of the text is a constant, if it is one
pub constant_named : {f : Facts} (span : Span) (may_fail : Bool) (name : List ℕ) (item : ℕ) (c : Constant) (s : CodeEnv) (known : GlobalEnv) (later : WalkShown) → IsMeant f name item (d.Constant c) → FactsHold f later known
    → constant_pattern_at span may_fail ((item_names f).item item) (environment f s known later) ≡ name_pattern_at span may_fail name (environment f s known later)
constant_named {f} span may_fail name item c s known later meant agrees =
    let env = environment f s known later in
    let is : known.items.is_constant name ≡ true = agrees.is_constant name ∙ ap is_constant_item (means f later known name agrees ∙ meant.meant) in
    ap (λ (n : List ℕ). constant_pattern_at span may_fail n env) meant.called ∙ (λ i t names locals. name_pattern span may_fail env t names locals name (sym is i))

pub not_constant : (o : Option Definition) → as_constant o ≡ None → is_constant_item o ≡ false
not_constant None e = refl
not_constant (Some (d.Function x)) e = refl
not_constant (Some (d.Proc x)) e = refl
not_constant (Some (d.Constant x)) e = absurd (none-some x (sym e))
not_constant (Some (d.Alias x)) e = refl
not_constant (Some (d.Struct x)) e = refl
not_constant (Some (d.Enum x)) e = refl

-- and otherwise it is bound
pub name_walked : {f : Facts} {s : CodeEnv} {w : WalkShown} {p : PatternTyping} {ty : Option TypeId} {before after : PatternNames} {faults : Faults} {is_before : Bool} (span : Span) (may_fail : Bool) (name : List ℕ)
    → as_constant (meant_by f name) ≡ None → after ≡ (name, ty) ∷ before → is_before ≡ is_in name (bound_names before)
    → ((known : GlobalEnv) (later : WalkShown) (context : TypeEnv) (names : List (List ℕ)) → FactsHold f later known → context.known.whole ≡ known.whole → is_before ≡ is_in name names
    → faults ≡ seen (local_name context names (record { span = span; name = name })))
    → ((span : Span) (context : TypeEnv) (t : Option DslxType) (names : List (List ℕ)) (locals : List Typed) (name : List ℕ) → faults ≡ seen (local_name context names (record { span = span; name = name }))
    → IsPattern p (bound_name span context t names locals name))
    → WalksTo f s s w w (TypesPattern p w.rows ty before after (name_pattern_at span may_fail name))
name_walked {f} {s} {w} {p} {ty} {before} {after} {faults} {is_before} span may_fail name none is here taken pattern = record {
  grows = grows_refl w;
  sight = refl;
  holds = λ known later has agrees there missing.
      let items = item_names f in
      let env = environment f s known later in
      let more = drop (length w.reached) w.reached in
      let no : known.items.is_constant name ≡ false = agrees.is_constant name ∙ ap is_constant_item (means f later known name agrees) ∙ not_constant (meant_by f name) none in
      let q : IsPattern p (bound_name span env (type_if items later.rows ty) (bound_names before) [] name) = pattern span env (type_if items later.rows ty) (bound_names before) [] name (taken known later env (bound_names before) agrees refl here) in
      record {
        bound = λ row all. subst (HasBound w.rows) (sym is) (row, all);
        binds = λ row all around.
            let t = type_if items later.rows ty in
            let locals = map (typed_of items later.rows) before ++ around in
            let own : BindsAs items later more p ((name, ty) ∷ before) around (bound_name span env t (bound_names before) locals name) = record {
              typing = record { faults = q.faults; size = q.size; known = q.known; sure = q.sure };
              names = refl;
              locals = refl;
              reaches = ap (instances_at items later.met) (all_dropped w.reached);
            } in
            subst (λ (b : Bool). BindsAs items later more p after around (name_pattern span may_fail env t (bound_names before) locals name b)) (sym no)
            (subst (λ (bs : PatternNames). BindsAs items later more p bs around (bound_name span env t (bound_names before) locals name)) (sym is) own);
      };
}

-- ---- members of enums

pub member_there : {f : Facts} (name member : List ℕ) (item : ℕ) (e : Enum) (v : Option DslxValue) (b : Bool) (missing : Type 0) → IsMeant f name item (d.Enum e)
    → ((known : GlobalEnv) (later : WalkShown) → FactsHold f later known → missing → as_enum (item_at f item) ≡ Some e → v ≡ known.items.member ((item_names f).item item) member) → b ≡ is_there v
    → (known : GlobalEnv) (later : WalkShown) → FactsHold f later known → missing → b ≡ is_there (known.items.member name member)
member_there {f} name member item e v b missing meant value is known later agrees none =
    is ∙ ap is_there (value known later agrees none (ap as_enum meant.at)) ∙ ap (λ (n : List ℕ). is_there (known.items.member n member)) meant.called

pub no_member : {f : Facts} (name member : List ℕ) → as_enum (meant_by f name) ≡ None → (known : GlobalEnv) (later : WalkShown) → FactsHold f later known → false ≡ is_there (known.items.member name member)
no_member {f} name member none known later agrees = sym (ap is_there (agrees.not_enum name member (ap as_enum (means f later known name agrees) ∙ none)))
