-- What items declare: one link more adds nothing, and of its own group an item sees types and values alone.
use Rattle.std.proofs.Common.{◌*◌, ◌≡◌, ◌∙◌, ℕ, zero, suc, List, [], ◌∷◌, Option, Some, None, length, refl, sym, ap, subst}
use Rattle.dslx_tree.specs.declared.item.Definition.{Definition}
use Rattle.dslx_tree.specs.declared.item.Definition.TheVariants as d
use Rattle.dslx_tree.specs.declared.item.Function.{Function}
use Rattle.dslx_tree.specs.declared.item.Module.{Module}
use Rattle.dslx_tree.specs.declared.process.Proc.{Proc}
use Rattle.dslx_meaning.specs.Items.{as_function, item_named}
use Rattle.dslx_meaning.specs.declared.value.DslxValue.{DslxValue}
use Rattle.dslx_meaning.specs.Rules.ConstantRules.{untyped_typing}
use Rattle.dslx_meaning.specs.Rules.Mentions.{AsFunction}
use Rattle.dslx_meaning.specs.Rules.ModuleRules.{behind_next, behind_values, default_seen, globals_of, globals_over, globals_within, no_signature, parameter_seen, parametrics_of, signature_of}
use Rattle.dslx_meaning.specs.Rules.Namesakes.{told_apart}
use Rattle.dslx_meaning.specs.Rules.TypeEnvs.{DefaultSeen, GlobalEnv, Judgement, TypeEnv}
use Rattle.dslx_core.specs.Typing.Depends.Alike.{DeclaredAlike, FunctionAlike, TypesAlike}
use Rattle.dslx_core.specs.Typing.Depends.Groups.{without_own}
use Rattle.dslx_core.proofs.Lemmas.Typing.TypingRelations.{item_so_named, whole_is}
use Rattle.dslx_check_declarations.specs.Work.Settled.{DeclarationsSettle}
use Rattle.dslx_check.proofs.OnSettled.OnItems.{item_there, uses}
use Rattle.dslx_check.proofs.OnSettled.OnProcs.{proc_declared}
use Rattle.dslx_check.proofs.OnSettled.OnSizes.{LoopsHaveNoMember}

-- an item declares the same types and values where nothing is known of what its own group declares
abbrev SeesTypes : Module → ℕ → List ℕ → Type 0
SeesTypes m n owner = TypesAlike (globals_within m (suc n)) (globals_over (without_own (globals_within m n) owner)) owner

abbrev pub GroupsSeeTypes : Type 0
GroupsSeeTypes = (m : Module) (n : ℕ) (owner : List ℕ) → SeesTypes m n owner

-- ---- items without parametrics and without a signature

abbrev DeclaresNothing : Option Definition → Type 0
DeclaresNothing o = (parametrics_of o ≡ []) × ((context : TypeEnv) → signature_of context o ≡ no_signature)

none_left : (known : GlobalEnv) (owner : List ℕ) (before : List (Option DslxValue)) → parametrics_of (item_named owner known.whole.items) ≡ [] → (behind_values known owner before).left ≡ []
none_left known owner [] e = e
none_left known owner (v ∷ vs) e = ap (λ ps. (behind_next (behind_values known owner vs).context ps v).left) (none_left known owner vs e)

module _ (known : GlobalEnv) (owner : List ℕ) (h : DeclaresNothing (item_named owner known.whole.items)) where
  pub no_parameter : (before : List (Option DslxValue)) → (globals_over known).parameter_in owner before ≡ untyped_typing
  no_parameter before = ap (parameter_seen (behind_values known owner before).context) (none_left known owner before h.0)

  pub no_default : (before : List (Option DslxValue)) → (globals_over known).default_in owner before ≡ record { judgement = untyped_typing; value = None }
  no_default before = ap (default_seen (behind_values known owner before).context) (none_left known owner before h.0)

  pub none_declared : (values : List (Option DslxValue)) → (globals_over known).signature_in owner values ≡ no_signature
  none_declared values = h.1 (behind_values known owner values).context

-- so however many links there are
nothing_known : (m : Module) (n : ℕ) (owner : List ℕ) → DeclaresNothing (item_named owner m.items) → DeclaredAlike (globals_within m n) (globals_over (globals_within m n)) owner
nothing_known m n owner h = by_level n
  where
    there : (k : ℕ) → DeclaresNothing (item_named owner (globals_within m k).whole.items)
    there k = subst (λ (x : Module). DeclaresNothing (item_named owner x.items)) (sym (whole_is m k)) h

    by_level : (k : ℕ) → DeclaredAlike (globals_within m k) (globals_over (globals_within m k)) owner
    by_level zero = record {
      parameter = λ before. sym (no_parameter (globals_within m zero) owner (there zero) before);
      default = λ before. sym (no_default (globals_within m zero) owner (there zero) before);
      signature = λ values many. sym (none_declared (globals_within m zero) owner (there zero) values);
    }
    by_level (suc k) = record {
      parameter = λ before. no_parameter (globals_within m k) owner (there k) before ∙ sym (no_parameter (globals_within m (suc k)) owner (there (suc k)) before);
      default = λ before. no_default (globals_within m k) owner (there k) before ∙ sym (no_default (globals_within m (suc k)) owner (there (suc k)) before);
      signature = λ values many. none_declared (globals_within m k) owner (there k) values ∙ sym (none_declared (globals_within m (suc k)) owner (there (suc k)) values);
    }

nothing_seen : (known : GlobalEnv) (owner : List ℕ) → DeclaresNothing (item_named owner known.whole.items) → TypesAlike (globals_over known) (globals_over (without_own known owner)) owner
nothing_seen known owner h = record {
  parameter = λ before. ap (λ (j : Judgement). j.ty) (no_parameter known owner h before ∙ sym (no_parameter (without_own known owner) owner h before));
  default = λ before. ap (λ (x : DefaultSeen). x.value) (no_default known owner h before ∙ sym (no_default (without_own known owner) owner h before));
  default_type = λ before. ap (λ (x : DefaultSeen). x.judgement.ty) (no_default known owner h before ∙ sym (no_default (without_own known owner) owner h before));
  signature = λ values many. none_declared known owner h values ∙ sym (none_declared (without_own known owner) owner h values);
}

-- ---- of each item

pub declared : LoopsHaveNoMember → (m : Module) (owner : List ℕ) → DeclaredAlike (globals_of m) (globals_over (globals_of m)) owner
declared no_member m owner = by_item (item_named owner m.items) refl
  where
    known : GlobalEnv
    known = globals_of m

    nothing : (o : Option Definition) → item_named owner m.items ≡ o → DeclaresNothing o → DeclaredAlike known (globals_over known) owner
    nothing o q h = nothing_known m (2 * length m.items) owner (subst DeclaresNothing (sym q) h)

    by_item : (o : Option Definition) → item_named owner m.items ≡ o → DeclaredAlike known (globals_over known) owner
    by_item (Some (d.Function f)) q =
        let alike : FunctionAlike known (globals_over known) f = (uses m AsFunction owner).function f (ap as_function (item_there m owner (Some (d.Function f)) q)) in
        subst (DeclaredAlike known (globals_over known)) (item_so_named m.items owner (d.Function f) q) alike.declared
    by_item (Some (d.Proc p)) q =
        let same : p.name.name ≡ owner = item_so_named m.items owner (d.Proc p) q in
        subst (DeclaredAlike known (globals_over known)) same (proc_declared no_member m p (subst (λ n. item_named n m.items ≡ Some (d.Proc p)) (sym same) q))
    by_item (Some (d.Constant c)) q = nothing (Some (d.Constant c)) q (refl, λ context. refl)
    by_item (Some (d.Alias a)) q = nothing (Some (d.Alias a)) q (refl, λ context. refl)
    by_item (Some (d.Struct s)) q = nothing (Some (d.Struct s)) q (refl, λ context. refl)
    by_item (Some (d.Enum e)) q = nothing (Some (d.Enum e)) q (refl, λ context. refl)
    by_item None q = nothing None q (refl, λ context. refl)

abbrev FunctionsSeeTypes : Type 0
FunctionsSeeTypes = (m : Module) (n : ℕ) (f : Function) → item_named f.name.name m.items ≡ Some (d.Function f) → SeesTypes m n f.name.name

abbrev ProcsSeeTypes : Type 0
ProcsSeeTypes = (m : Module) (n : ℕ) (p : Proc) → item_named p.name.name m.items ≡ Some (d.Proc p) → SeesTypes m n p.name.name

pub groups_see_types : FunctionsSeeTypes → ProcsSeeTypes → GroupsSeeTypes
groups_see_types of_function of_proc m n owner = by_item (item_named owner m.items) refl
  where
    nothing : (o : Option Definition) → item_named owner m.items ≡ o → DeclaresNothing o → SeesTypes m n owner
    nothing o q h = nothing_seen (globals_within m n) owner (subst DeclaresNothing (sym q ∙ (λ i. item_named owner (sym (whole_is m n) i).items)) h)

    by_item : (o : Option Definition) → item_named owner m.items ≡ o → SeesTypes m n owner
    by_item (Some (d.Function f)) q = let same = item_so_named m.items owner (d.Function f) q in subst (SeesTypes m n) same (of_function m n f (subst (λ z. item_named z m.items ≡ Some (d.Function f)) (sym same) q))
    by_item (Some (d.Proc p)) q = let same = item_so_named m.items owner (d.Proc p) q in subst (SeesTypes m n) same (of_proc m n p (subst (λ z. item_named z m.items ≡ Some (d.Proc p)) (sym same) q))
    by_item (Some (d.Constant c)) q = nothing (Some (d.Constant c)) q (refl, λ context. refl)
    by_item (Some (d.Alias a)) q = nothing (Some (d.Alias a)) q (refl, λ context. refl)
    by_item (Some (d.Struct s)) q = nothing (Some (d.Struct s)) q (refl, λ context. refl)
    by_item (Some (d.Enum e)) q = nothing (Some (d.Enum e)) q (refl, λ context. refl)
    by_item None q = nothing None q (refl, λ context. refl)

-- ---- what a text declares

pub declarations : LoopsHaveNoMember → GroupsSeeTypes → (text : Module) → DeclarationsSettle text (globals_of (told_apart text))
declarations no_member groups text = record {
  parameter = λ owner before. (here owner).parameter before;
  default = λ owner before. (here owner).default before;
  signature = λ owner values all. (here owner).signature values all;
  parameter_type = λ owner before. ap (λ (j : Judgement). j.ty) ((here owner).parameter before) ∙ (sees owner).parameter before;
  default_value = λ owner before. ap (λ (x : DefaultSeen). x.value) ((here owner).default before) ∙ (sees owner).default before;
  default_type = λ owner before. ap (λ (x : DefaultSeen). x.judgement.ty) ((here owner).default before) ∙ (sees owner).default_type before;
  signature_types = λ owner values all. (here owner).signature values all ∙ (sees owner).signature values all;
}
  where
    m : Module
    m = told_apart text

    known : GlobalEnv
    known = globals_of m

    here : (owner : List ℕ) → DeclaredAlike known (globals_over known) owner
    here = declared no_member m

    sees : (owner : List ℕ) → TypesAlike (globals_over known) (globals_over (without_own known owner)) owner
    sees = groups m (2 * length m.items)
