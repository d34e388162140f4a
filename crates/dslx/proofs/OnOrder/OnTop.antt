-- The top's instance, from which all others are reached.
use Rattle.std.proofs.Common.{◌≡◌, ◌++◌, ◌-◌, ◌∙◌, ℕ, List, [], length, true, Option, Some, sym, ap, subst}
use Rattle.std.specs.Prelude.{slice_get}
use Rattle.dslx_tree.specs.declared.item.Module.{Module}
use Rattle.dslx_tree.specs.declared.process.Proc.{Proc}
use Rattle.dslx_meaning.specs.Items.{meanings_of}
use Rattle.dslx_meaning.specs.Network.{top_parametric_args}
use Rattle.dslx_meaning.specs.declared.value.DslxValue.{DslxValue}
use Rattle.dslx_core.specs.Lowering.Functions.{Instantiated}
use Rattle.dslx_core.specs.Typing.TypingRelations.Closed.{ends_within}
use Rattle.dslx_core.proofs.Lemmas.Typing.Typed.{none_some}
use Rattle.dslx_total.specs.Configs.LowersTotally.{TopLowers}
use Rattle.dslx_total.specs.Configs.ReachedProcs.{IsReachedProc}
use Rattle.dslx_elab.specs.Orders.{EndsWithTop, IsSpawnOrder, StandsIn}
use Rattle.dslx.specs.Order.Adding.{AddsInstance, CanBeAdded}

module _ (m : Module) (name : Option (List ℕ)) (p : Proc) (first : Instantiated) (named : first.name ≡ p.name.name) (args : first.parametric_args ≡ top_parametric_args (meanings_of m) p) where
  pub top_within : (depth : ℕ) → depth ≡ length m.items → TopLowers m (meanings_of m) name p → ends_within m (length m.items) p.name.name ≡ true → CanBeAdded m name depth first
  top_within depth all top ends = record {
    proc = p;
    name = sym named;
    checked = subst (IsReachedProc m name p) (sym args) top.checked;
    ends = (λ t. ends_within m (all t) (named t)) ∙ ends;
  }

  is_top : first ≡ record { name = p.name.name; parametric_args = top_parametric_args (meanings_of m) p }
  is_top = λ t. record { name = named t; parametric_args = args t }

  from_none : (after : List Instantiated) → AddsInstance m name first [] after → IsSpawnOrder m name [] after × EndsWithTop m p after
  from_none after adds = (
    subst (IsSpawnOrder m name []) (sym adds.is) adds.order,
    adds.last (λ (s : StandsIn [] first). none_some first s.1) ∙ ap Some is_top,
  )

  pub ordered : (before after : List Instantiated) → before ≡ [] → AddsInstance m name first before after → IsSpawnOrder m name [] after × EndsWithTop m p after
  ordered before after none adds = from_none after (subst (λ (is : List Instantiated). AddsInstance m name first is after) none adds)
