-- What is known of checked items does in the place of the text's own global environment.
use Rattle.std.proofs.Common.{◌&&◌, ℕ, Bool, true, false, if◌then◌else◌, List, [], ◌∷◌, Option}
use Rattle.dslx_tree.specs.declared.item.Module.{Module}
use Rattle.dslx_meaning.specs.Items.{meanings_of}
use Rattle.dslx_meaning.specs.declared.value.DslxValue.{DslxValue}
use Rattle.dslx_meaning.specs.Rules.Mentions.{AsEnum, AsFunction, AsPattern, AsProc, AsStruct, AsType, AsValue, Mention, Use}
use Rattle.dslx_meaning.specs.Rules.TypeEnvs.{GlobalEnv}
use Rattle.dslx_core.proofs.Lemmas.Typing.Accepted.{IsAccepted, one_of_these, sound}
use Rattle.dslx_core.specs.Typing.GlobalEnv.Filled.{refused}
use Rattle.dslx_core.specs.Typing.TypingRelations.Reached.{AllNamed, DeclarationReaches, InstancesReach, MentionReaches, MentionsReach}
use Rattle.dslx_total.specs.Instances.Checked.{is_checked_item}
use Rattle.dslx_total.specs.Instances.Denoted.{KnowsChecked, checked_globals, refused_default, with_calls}
use Rattle.dslx_total.proofs.OnClosed.OfTexts.{checked_named}
use Rattle.dslx_total.proofs.OnFamilies.Knows.{Knows}
use Rattle.dslx_total.proofs.OnFamilies.Parametrics.{parametrics_pass}
use Rattle.dslx_total.proofs.OnFamilies.Reached.{K, Passing, all, reaching}

-- ---- where less is declared, less is reached

module _ (P : List ℕ → Bool) (call : List ℕ → List DslxValue → List DslxValue → Option DslxValue) (known : GlobalEnv) (Q : List ℕ → Bool) where
  abbrev other : GlobalEnv
  other = with_calls P call known

  pub declaration_reaches : (owner : List ℕ) → DeclarationReaches Q known owner → DeclarationReaches Q other owner
  declaration_reaches owner h = record { ty = λ before. by_type before (P owner); default = λ before. by_default before (P owner) }
    where
      by_type : (before : List (Option DslxValue)) (b : Bool) → AllNamed Q (if b then known.parameter_in owner before else refused).reached
      by_type before true = h.ty before
      by_type before false = tt

      by_default : (before : List (Option DslxValue)) (b : Bool) → AllNamed Q (if b then known.default_in owner before else refused_default).judgement.reached
      by_default before true = h.default before
      by_default before false = tt

  instances_reach : (owner : List ℕ) → InstancesReach Q known owner → InstancesReach Q other owner
  instances_reach owner h = record { own = h.own; declared = declaration_reaches owner h.declared }

  mention_reaches : (owner : List ℕ) (u : Use) (name : List ℕ) → MentionReaches Q known owner u name → MentionReaches Q other owner u name
  mention_reaches owner AsFunction name h = λ free f e. instances_reach f.name.name (h free f e)
  mention_reaches owner AsProc name h = λ p e free. instances_reach p.name.name (h p e free)
  mention_reaches owner AsValue name h = tt
  mention_reaches owner AsPattern name h = tt
  mention_reaches owner AsType name h = tt
  mention_reaches owner AsEnum name h = tt
  mention_reaches owner AsStruct name h = tt

  pub mentions_reach : (owner : List ℕ) (ms : List Mention) → MentionsReach Q known owner ms → MentionsReach Q other owner ms
  mentions_reach owner [] h = tt
  mentions_reach owner (n ∷ ns) h = (mention_reaches owner n.use_as n.name h.0, mentions_reach owner ns h.1)

-- ---- the whole

pub checked_knows : (m : Module) (top : Option (List ℕ)) (s : IsAccepted m top) → KnowsChecked m top (checked_globals m top) → Knows m top s (checked_globals m top)
checked_knows m top s w = record {
  text = w.text;
  found = w.found;
  sound = λ k l i one p t. checked_named m top i one t && sound m top s k l i one p t;
  reaching = λ owner ms none. mentions_reach (is_checked_item m top) (meanings_of m).call (K m top s) (Passing m top s) owner ms (reaching m top s owner ms none);
  tops = w.tops;
  parametrics = w.parametrics;
  passing = λ p named. declaration_reaches (is_checked_item m top) (meanings_of m).call (K m top s) (Passing m top s) p.name.name (parametrics_pass m p named);
  declared = λ p parametric_args named checked.
      w.procs p named (checked_named m top (record { name = p.name.name; parametric_args = parametric_args }) (one_of_these (record { name = p.name.name; parametric_args = parametric_args }) (all m top s) checked));
}
