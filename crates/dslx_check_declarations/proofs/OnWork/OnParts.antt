-- A part of a declaration that is judged by a settled global environment is what that has of it.
use Rattle.std.proofs.Common.{◌≡◌, ◌∙◌, ℕ, Bool, true, false, List, Option, sym, subst}
use mathlib.Core.Bool.{true≢false}
use Rattle.dslx_tree.specs.declared.item.Module.{Module}
use Rattle.dslx_meaning.specs.declared.value.DslxValue.{DslxValue}
use Rattle.dslx_meaning.specs.Items.{item_named}
use Rattle.dslx_meaning.specs.Rules.ModuleRules.{behind_values, default_seen, parameter_seen, signature_of}
use Rattle.dslx_meaning.specs.Rules.TypeEnvs.{GlobalEnv}
use Rattle.dslx_check_rules.specs.Interned.{ItemNames}
use Rattle.dslx_check_facts.specs.declared.asked.ForeignKey.{ForeignKey}
use Rattle.dslx_check_facts.specs.declared.facts.DefaultThere.{DefaultThere}
use Rattle.dslx_check_facts.specs.declared.facts.Facts.{Facts}
use Rattle.dslx_check_facts.specs.declared.facts.ForeignSeen.{ForeignSeen}
use Rattle.dslx_check_facts.specs.declared.facts.ForeignSeen.TheVariants as foreign
use Rattle.dslx_check_facts.specs.declared.facts.SignatureThere.{SignatureThere}
use Rattle.dslx_check_facts.specs.declared.facts.TypingThere.{TypingThere}
use Rattle.dslx_check_facts.specs.Keys.{list_or_none}
use Rattle.dslx_check_facts.specs.Known.{item_names, text_of}
use Rattle.dslx_check_facts.specs.TypeEnvs.{known_to}
use Rattle.dslx_check_facts.specs.Typings.{IsDefault, IsForeign, IsSignature, IsTypingThere}
use Rattle.dslx_check_facts.specs.Walks.{WalkShown}
use Rattle.dslx_check_declarations.specs.Work.Comes.{PartComesTo, PartIsThere}
use Rattle.dslx_check_declarations.specs.Work.Learnt.{IsJudgedPart}
use Rattle.dslx_check_declarations.specs.Work.Settled.{DeclarationsSettle, HasAllValues}

module _ (text : Module) (known : GlobalEnv) (settle : DeclarationsSettle text known) (names : ItemNames) (later : WalkShown) (owner : List ℕ) (values : List (Option DslxValue)) where
  parameter_there : (refused : Bool) (t : TypingThere)
      → IsTypingThere names later refused t (parameter_seen (behind_values (known_to refused owner known) owner values).context (behind_values (known_to refused owner known) owner values).left)
      → IsTypingThere names later refused t (known.parameter_in owner values)
  parameter_there false t h = subst (IsTypingThere names later false t) (sym (settle.parameter owner values)) h
  parameter_there true t h = record { ty = h.ty ∙ sym (settle.parameter_type owner values); faults = λ e. absurd (true≢false e); reached = λ e. absurd (true≢false e) }

  default_there : (refused : Bool) (t : DefaultThere)
      → IsDefault names later refused t (default_seen (behind_values (known_to refused owner known) owner values).context (behind_values (known_to refused owner known) owner values).left)
      → IsDefault names later refused t (known.default_in owner values)
  default_there false t h = subst (IsDefault names later false t) (sym (settle.default owner values)) h
  default_there true t h = record {
    typing = record { ty = h.typing.ty ∙ sym (settle.default_type owner values); faults = λ e. absurd (true≢false e); reached = λ e. absurd (true≢false e) };
    value = h.value ∙ sym (settle.default_value owner values);
  }

  signature_there : (refused : Bool) (s : SignatureThere) → HasAllValues known owner values
      → IsSignature names later s (signature_of (behind_values (known_to refused owner known) owner values).context (item_named owner known.whole.items)) → IsSignature names later s (known.signature_in owner values)
  signature_there false s all h = subst (IsSignature names later s) (sym (settle.signature owner values all)) h
  signature_there true s all h = subst (IsSignature names later s) (sym (settle.signature_types owner values all)) h

foreign_is : (text : Module) (known : GlobalEnv) (settle : DeclarationsSettle text known) (names : ItemNames) (later : WalkShown) (key : ForeignKey) (values : List (Option DslxValue)) (there : ForeignSeen)
    → list_or_none later.prefixes key.prefix ≡ values → PartIsThere names known later key values there → IsForeign names known later key there
foreign_is text known settle names later key values (foreign.Parameter t) e h =
    subst (λ vs. IsTypingThere names later key.is_refused t (known.parameter_in (names.item key.item) vs)) (sym e) (parameter_there text known settle names later (names.item key.item) values key.is_refused t h)
foreign_is text known settle names later key values (foreign.Default t) e h =
    subst (λ vs. IsDefault names later key.is_refused t (known.default_in (names.item key.item) vs)) (sym e) (default_there text known settle names later (names.item key.item) values key.is_refused t h)
foreign_is text known settle names later key values (foreign.Signature s) e h =
    subst (λ vs. IsSignature names later s (known.signature_in (names.item key.item) vs)) (sym e) (signature_there text known settle names later (names.item key.item) values key.is_refused s h.0 h.1)

pub part_judged : (f : Facts) (walk : WalkShown) (known : GlobalEnv) (number : ℕ) (there : ForeignSeen) → DeclarationsSettle (text_of f) known → PartComesTo f walk known number there → IsJudgedPart f walk known number there
part_judged f walk known number there settle comes = record {
  key = comes.key;
  asked = comes.asked;
  is = λ later tables. foreign_is (text_of f) known settle (item_names f) later comes.key comes.values there (comes.prefix later tables) (comes.is later tables);
  rows = comes.rows;
}
