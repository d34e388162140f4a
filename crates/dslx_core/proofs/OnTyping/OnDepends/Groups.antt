-- What an item declares, where nothing is known of what the items declare that reach it back: the types and the values are the same.
use Rattle.std.proofs.Common.{◌≡◌, ◌&&◌, ◌||◌, ℕ, Bool, true, false, not, if◌then◌else◌, List, Some, None, refl, sym, ap, ◌∙◌}
use mathlib.Core.Bool.{true≢false}
use Rattle.std.specs.Str.{bytes_eq}
use Rattle.dslx_tree.specs.declared.item.Definition.TheVariants as d
use Rattle.dslx_tree.specs.declared.item.Function.{Function}
use Rattle.dslx_tree.specs.declared.item.Module.{Module}
use Rattle.dslx_tree.specs.declared.process.Proc.{Proc}
use Rattle.dslx_meaning.specs.Items.{as_function, item_named}
use Rattle.dslx_meaning.specs.Rules.ConstantRules.{untyped_typing}
use Rattle.dslx_meaning.specs.Rules.Mentions.{Use, AsValue, AsPattern, AsType, AsFunction, AsProc, AsEnum, AsStruct, is_of_use, item_reaches, mentions_of}
use Rattle.dslx_meaning.specs.Rules.ModuleRules.{globals_over, globals_within, no_signature}
use Rattle.dslx_meaning.specs.Rules.TypeEnvs.{GlobalEnv}
use Rattle.dslx_core.specs.Typing.Depends.Alike.{FunctionAlike, TypesAlike, UseAlike}
use Rattle.dslx_core.specs.Typing.Depends.Groups.{without_own}
use Rattle.dslx_core.specs.Typing.Laws.Ranks.{is_above}
use Rattle.dslx_core.specs.Typing.TypingRelations.Reached.{IsClosed}
use Rattle.dslx_core.proofs.Lemmas.Typing.Laws.Chains.{IsIn, itself, same_name}
use Rattle.dslx_core.proofs.Lemmas.Typing.Laws.Reaching.{reaches_mentioned, reaches_on}
use Rattle.dslx_core.proofs.OnTyping.OnDepends.Declared as of
use Rattle.dslx_core.proofs.OnTyping.OnDepends.Declared.{LowPass, Reads}
use Rattle.dslx_core.proofs.OnTyping.OnDepends.Levels.{reads_level}
use Rattle.dslx_core.proofs.OnTyping.OnDepends.OfItems.{Stage}
use Rattle.dslx_core.proofs.OnTyping.OnDepends.Ranks.{all_from}
use Rattle.dslx_core.proofs.OnTyping.OnDepends.Stages.{and_both, is_proc_item, no_procs_mentioned, not_true, unless_proc}
use Rattle.dslx_core.proofs.OnTyping.OnTyping.OfItems.{cyclic_is, den_reach, function_is, instances_reach, item_so_named, whole_is}

module _ (m : Module) (n : ℕ) (own : List ℕ) where
  abbrev K : GlobalEnv
  K = globals_within m n

  abbrev B : GlobalEnv
  B = without_own K own

  -- what stands below
  abbrev P : List ℕ → Bool
  P = unless_proc (is_above m own) m

  abbrev Q : List ℕ → Bool
  Q name = bytes_eq name own

  above_mentioned : (name : List ℕ) → is_above m own name ≡ true → (x : List ℕ) → IsIn x (mentions_of m (item_named name m.items)) → is_above m own x ≡ true
  above_mentioned name h x i = by_back (item_reaches m x own) refl
    where
      r : (item_reaches m own name ≡ true) × (not (item_reaches m name own) ≡ true)
      r = and_both (item_reaches m own name) (not (item_reaches m name own)) h

      next : item_reaches m name x ≡ true
      next = reaches_mentioned m name x i

      by_back : (b : Bool) → item_reaches m x own ≡ b → is_above m own x ≡ true
      by_back true q = absurd (true≢false (sym r.1 ∙ ap not (reaches_on m name x own next q)))
      by_back false q = λ t. reaches_on m own name x r.0 next t && not (q t)

  closed : IsClosed P m
  closed name h =
      let r = and_both (is_above m own name) (not (is_proc_item (item_named name m.items))) h in
      no_procs_mentioned (is_above m own) m (item_named name m.items) (not_true (is_proc_item (item_named name m.items)) r.1) (all_from (is_above m own) (mentions_of m (item_named name m.items)) (above_mentioned name r.0))

  low : LowPass m P Q
  low owner name h e back other =
      let same = same_name owner own h in
      let there : item_reaches m own name ≡ true = ap (λ z. item_reaches m z name) (sym same) ∙ e in
      let not_back : item_reaches m name own ≡ false = ap (item_reaches m name) (sym same) ∙ back in
      λ t. (there t && not (not_back t)) && not (other t)

  -- it isn't of the own group
  apart : (name : List ℕ) → P name ≡ true → K.is_cyclic own name ≡ false
  apart name h = cyclic_is m n own name ∙ by_name (bytes_eq name own) refl
    where
      r : (item_reaches m own name ≡ true) × (not (item_reaches m name own) ≡ true)
      r = let q = and_both (is_above m own name) (not (is_proc_item (item_named name m.items))) h in and_both (item_reaches m own name) (not (item_reaches m name own)) q.0

      by_name : (b : Bool) → bytes_eq name own ≡ b → (b || (item_reaches m name own && item_reaches m own name)) ≡ false
      by_name true q = absurd (true≢false (sym r.1 ∙ ap not (ap (item_reaches m name) (sym (same_name name own q)) ∙ ap (λ z. item_reaches m z name) (same_name name own q) ∙ r.0)))
      by_name false q = λ t. not_true (item_reaches m name own) r.1 t && item_reaches m own name

  function_alike : (f : Function) → K.is_cyclic own f.name.name ≡ false → FunctionAlike K B f
  function_alike f free = record {
    declared = record {
      parameter = λ before. sym (λ t. if free t then untyped_typing else K.parameter_in f.name.name before);
      default = λ before. sym (λ t. if free t then record { judgement = untyped_typing; value = None } else K.default_in f.name.name before);
      signature = λ values many. sym (λ t. if free t then no_signature else K.signature_in f.name.name values);
    };
    size = λ parametric_args many. refl;
  }

  uses : (u : Use) (name : List ℕ) → (is_of_use u (item_named name m.items) ≡ true → P name ≡ true) → UseAlike K B u name
  uses AsValue name h = refl
  uses AsPattern name h = refl
  uses AsType name h = refl
  uses AsFunction name h = record {
    call = λ given operands. refl;
    function = λ f e.
        let q : item_named name m.items ≡ Some (d.Function f) = function_is (item_named name m.items) f ((λ t. as_function (item_named name (sym (whole_is m n) t).items)) ∙ e) in
        function_alike f (ap (K.is_cyclic own) (item_so_named m.items name (d.Function f) q) ∙ apart name (h (ap (is_of_use AsFunction) q)));
  }
  uses AsProc name h = tt
  uses AsEnum name h = record { ty = λ e q. refl; members = λ member. refl }
  uses AsStruct name h = refl

  stand : Stage P m K B
  stand = record {
    text = whole_is m n;
    known = record { whole = refl; kinds = λ name. refl; cyclic = λ owner name. refl; sound = λ i e. refl; unbroken = λ i e. refl };
    uses = uses;
    reach = λ owner ms h. den_reach P m closed n owner ms h;
    reached = λ i h. instances_reach P m closed n i h;
  }

  reads : Reads m B
  reads = let r = reads_level m n in record { whole = r.whole; kinds = r.kinds; cyclic = r.cyclic }

pub function_sees_types : (m : Module) (n : ℕ) (f : Function) → item_named f.name.name m.items ≡ Some (d.Function f) → TypesAlike (globals_over (globals_within m n)) (globals_over (without_own (globals_within m n) f.name.name)) f.name.name
function_sees_types m n f is =
    let own = f.name.name in
    of.function_types m (P m n own) (Q m n own) (closed m n own) (low m n own) (K m n own) (B m n own) (reads_level m n) (reads m n own) (stand m n own) (λ owner name h e back member. refl) f is (itself own)

pub proc_sees_types : (m : Module) (n : ℕ) (p : Proc) → item_named p.name.name m.items ≡ Some (d.Proc p) → TypesAlike (globals_over (globals_within m n)) (globals_over (without_own (globals_within m n) p.name.name)) p.name.name
proc_sees_types m n p is =
    let own = p.name.name in
    of.proc_types m (P m n own) (Q m n own) (closed m n own) (low m n own) (K m n own) (B m n own) (reads_level m n) (reads m n own) (stand m n own) (λ owner name h e back member. refl) p is (itself own)
