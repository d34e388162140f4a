-- What the parts of a text without faults reach that mention no proc: instances that pass a test of ranks.
use Rattle.std.proofs.Common.{◌*◌, ◌≡◌, ◌&&◌, ◌++◌, ℕ, length, Bool, true, List, [], ◌∷◌, Option, Some, inl, inr, refl}
use Rattle.std.specs.List.{list_all}
use Rattle.dslx_tree.specs.declared.item.Definition.TheVariants as d
use Rattle.dslx_tree.specs.declared.item.Module.{Module}
use Rattle.dslx_tree.specs.declared.process.End.{End}
use Rattle.dslx_tree.specs.declared.process.ConfigStatement.{ConfigStatement}
use Rattle.dslx_tree.specs.declared.process.Proc.{Proc}
use Rattle.dslx_tree.specs.declared.expr.Arg.{Arg}
use Rattle.std.specs.Prelude.{flat_map}
use Rattle.dslx_meaning.specs.Items.{item_named}
use Rattle.dslx_meaning.specs.Rules.TypeEnvs.{Instance, GlobalEnv}
use Rattle.dslx_meaning.specs.Rules.Mentions.{Mention, ends_mentions, config_statement_mentions, mentioned_in_arg, mentioned_in_block, mentioned_in_type, names_mentioned, parametric_names, parametrics_mentions, proc_mentions}
use Rattle.dslx_meaning.specs.Rules.ModuleRules.{instances_of, is_reached, globals_of}
use Rattle.dslx_core.specs.Typing.TypingRelations.Closed.{IsOneOf}
use Rattle.dslx_core.specs.Typing.TypingRelations.Reached.{MentionsReach}
use Rattle.dslx_core.proofs.Lemmas.Typing.TypingRelations.{den_reach}
use Rattle.dslx_core.proofs.Lemmas.Typing.Depends.{NoProcs, den_parts, mentions_settle, no_proc_in_arg, no_proc_in_type, no_procs_join, settles, settles_closed}
use Rattle.dslx_core.proofs.Lemmas.Typing.Accepted.{IsAccepted}

-- a proc of the text, by its name
abbrev pub IsProcOf : Module → Proc → Type 0
IsProcOf m p = item_named p.name.name m.items ≡ Some (d.Proc p)

-- what ends and arguments mention
pub ends_none : (es : List End) (bound : List (List ℕ)) → NoProcs (ends_mentions es bound)
ends_none [] bound = tt
ends_none (e ∷ es) bound = no_procs_join (mentioned_in_type e.word bound) (ends_mentions es bound) (no_proc_in_type e.word bound) (ends_none es bound)

pub arguments_none : (as' : List Arg) (bound : List (List ℕ)) → NoProcs (flat_map (λ a. mentioned_in_arg a bound) as')
arguments_none [] bound = tt
arguments_none (a ∷ as') bound = no_procs_join (mentioned_in_arg a bound) (flat_map (λ b. mentioned_in_arg b bound) as') (no_proc_in_arg a bound) (arguments_none as' bound)

-- all that is mentioned passes the test
abbrev pub Within : (List ℕ → Bool) → Module → List Mention → Type 0
Within R m ms = list_all R (names_mentioned m ms) ≡ true

-- what a proc mentions, by its parts
pub record ProcWithin (R : List ℕ → Bool) (m : Module) (p : Proc) : Type 0 where
  pub parametrics : Within R m (parametrics_mentions p.parametrics [])
  pub members : Within R m (ends_mentions p.members (parametric_names p.parametrics))
  pub ends : Within R m (ends_mentions p.config.ends (parametric_names p.parametrics))
  pub config_statements : Within R m (flat_map (λ (x : ConfigStatement). config_statement_mentions x (parametric_names p.parametrics)) p.config.config_statements)
  pub init : Within R m (mentioned_in_block p.init (parametric_names p.parametrics))
  pub state : Within R m (mentioned_in_type p.next.ty (parametric_names p.parametrics))
  pub next : Within R m (mentioned_in_block p.next.body (p.next.state.name ∷ parametric_names p.parametrics))

pub proc_within : (R : List ℕ → Bool) (m : Module) (p : Proc) → Within R m (proc_mentions p) → ProcWithin R m p
proc_within R m p h =
    let parametric_args = parametric_names p.parametrics in
    let one = parametrics_mentions p.parametrics [] in
    let two = ends_mentions p.members parametric_args in
    let three = ends_mentions p.config.ends parametric_args in
    let four = flat_map (λ (x : ConfigStatement). config_statement_mentions x parametric_args) p.config.config_statements in
    let five = mentioned_in_block p.init parametric_args in
    let six = mentioned_in_type p.next.ty parametric_args in
    let seven = mentioned_in_block p.next.body (p.next.state.name ∷ parametric_args) in
    let a = den_parts R m (((((one ++ two) ++ three) ++ four) ++ five) ++ six) seven h in
    let b = den_parts R m ((((one ++ two) ++ three) ++ four) ++ five) six a.0 in
    let c = den_parts R m (((one ++ two) ++ three) ++ four) five b.0 in
    let e = den_parts R m ((one ++ two) ++ three) four c.0 in
    let f = den_parts R m (one ++ two) three e.0 in
    let g = den_parts R m one two f.0 in
    record { parametrics = g.0; members = g.1; ends = f.1; config_statements = e.1; init = c.1; state = b.1; next = a.1 }

module _ (m : Module) (top : Option (List ℕ)) (s : IsAccepted m top) where
  abbrev pub K : GlobalEnv
  K = globals_of m

  abbrev pub all : List Instance
  all = instances_of m top

  abbrev pub most : ℕ
  most = length m.items

  abbrev pub Passing : List ℕ → Bool
  Passing = settles m most

  -- each of these is checked
  abbrev pub Listed : List Instance → Type 0
  Listed is = list_all (λ (i : Instance). is_reached i all) is ≡ true

  pub all_listed : (is : List Instance) → ((j : Instance) → IsOneOf j is → is_reached j all ≡ true) → Listed is
  all_listed [] h = refl
  all_listed (i ∷ is) h = λ t. h i (inl refl) t && all_listed is (λ j one. h j (inr one)) t

  -- where no proc is mentioned, what is reached passes
  pub reaching : (owner : List ℕ) (ms : List Mention) → NoProcs ms → MentionsReach Passing K owner ms
  reaching owner ms none = den_reach Passing m (settles_closed m most) (2 * most) owner ms (mentions_settle m ms none)
