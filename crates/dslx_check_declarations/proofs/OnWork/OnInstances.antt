-- An instance of a function that is done by a settled global environment is what that has of it.
use Rattle.std.proofs.Common.{◌≡◌, ◌∙◌, ◌&&◌, ℕ, not, Some, sym, ap, subst}
use Rattle.std.specs.List.{list_all}
use Rattle.dslx_tree.specs.declared.item.Definition.TheVariants as d
use Rattle.dslx_tree.specs.declared.item.Function.{Function}
use Rattle.dslx_meaning.specs.Items.{item_named}
use Rattle.dslx_meaning.specs.Rules.ConstantRules.{is_empty}
use Rattle.dslx_meaning.specs.Rules.ModuleRules.{found_of_item}
use Rattle.dslx_meaning.specs.Rules.TypeEnvs.{GlobalEnv, Instance, has_broken}
use Rattle.dslx_check_rules.specs.Seen.{capped}
use Rattle.dslx_check_facts.specs.declared.facts.Facts.{Facts}
use Rattle.dslx_check_facts.specs.declared.facts.Sums.{Sums}
use Rattle.dslx_check_facts.specs.Known.{IsSum, item_at, item_names, text_of}
use Rattle.dslx_check_facts.specs.Walks.{WalkShown, instance_at, instance_or_none}
use Rattle.dslx_check_declarations.specs.Work.Learnt.{IsDoneAs}
use Rattle.dslx_check_declarations.specs.Work.Text.{IsTextEnv}
use Rattle.dslx_check_declarations.specs.Work.Comes.{FunctionComesTo}
use Rattle.dslx_check_declarations.specs.Work.Settled.{FunctionsSettle, instance_of_function}
use Rattle.dslx_check_declarations.proofs.OnWork.OnFirsts.{first_named}

module _ (f : Facts) (walk : WalkShown) (known : GlobalEnv) (instance : ℕ) (sums : Sums) (t : IsTextEnv (text_of f) f.reaching known) (settle : FunctionsSettle (text_of f) known)
    (item : ℕ) (own : Function) (e : item_at f item ≡ Some (d.Function own)) (comes : FunctionComesTo f walk known instance own sums) where
  abbrev one : Instance
  one = instance_of_function own comes.key.parametric_args

  is_one : instance_at (item_names f) walk.met instance ≡ one
  is_one = ap (instance_or_none (item_names f)) comes.met ∙ (λ i. record { name = comes.name i; parametric_args = comes.key.parametric_args })

  named : item_named own.name.name known.whole.items ≡ Some (d.Function own)
  named = ap (λ m. item_named own.name.name m.items) t.whole ∙ first_named (text_of f) t.distinct item (d.Function own) e

  sum_is : IsSum known one sums
  sum_is = record {
    sound = comes.sound ∙ sym (settle.sound item own comes.key.parametric_args e
        ∙ ap (λ o. let found = found_of_item known comes.key.parametric_args o in is_empty found.faults && list_all known.is_sound found.reached) named);
    unbroken = comes.unbroken ∙ sym (settle.unbroken item own comes.key.parametric_args e
        ∙ ap (λ o. let found = found_of_item known comes.key.parametric_args o in not (has_broken found.faults) && list_all known.is_unbroken found.reached) named);
    size = comes.size ∙ ap capped (sym (settle.size item own comes.key.parametric_args e));
  }

  pub instance_done : IsDoneAs f walk known instance sums
  instance_done = record { key = comes.key; met = comes.met; is = subst (λ x. IsSum known x sums) (sym is_one) sum_is }
