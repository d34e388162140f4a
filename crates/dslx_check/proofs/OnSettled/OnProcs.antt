-- What a proc declares: one link more adds nothing to it, since all that it mentions stands below.
use Rattle.std.proofs.Common.{◌*◌, ◌≡◌, ◌∙◌, ◌≤◌, ◌++◌, ℕ, suc, Bool, true, List, [], ◌∷◌, map, Option, Some, None, arith, refl, sym, ap, subst}
use Rattle.std.specs.Prelude.{flat_map}
use Rattle.std.specs.Str.{bytes_eq}
use Rattle.std.specs.List.{list_all}
use Rattle.dslx_tree.specs.declared.expr.Expr.{Expr}
use Rattle.dslx_tree.specs.declared.item.Definition.TheVariants as d
use Rattle.dslx_tree.specs.declared.item.Module.{Module}
use Rattle.dslx_tree.specs.declared.item.Parametric.{Parametric}
use Rattle.dslx_tree.specs.declared.process.ConfigStatement.{ConfigStatement}
use Rattle.dslx_tree.specs.declared.process.End.{End}
use Rattle.dslx_tree.specs.declared.process.Proc.{Proc}
use Rattle.dslx_meaning.specs.Environment.{Given}
use Rattle.dslx_meaning.specs.Items.{item_named}
use Rattle.dslx_meaning.specs.Rules.Mentions.{Mention, config_statement_mentions, ends_mentions, expr_if, item_reaches, mentioned_in_block, mentioned_in_type, names_mentioned, parametric_names, parametrics_mentions}
use Rattle.dslx_meaning.specs.Rules.ModuleRules.{declared_type, default_if, globals_of, globals_over, globals_within}
use Rattle.dslx_meaning.specs.Rules.TypeEnvs.{GlobalEnv}
use Rattle.dslx_meaning.specs.Rules.TypeRules.{unless_unit}
use Rattle.dslx_core.specs.Typing.Depends.Alike.{DeclaredAlike, HiddenAlike}
use Rattle.dslx_core.proofs.Lemmas.Typing.Depends.{AreBound, LowPass, NoProcs, Sight, Stage, all_below, below_sight, constant_behind, declared_alike, den_parts, env_behind, hidden_behind, inner_behind, item_rank, no_proc_in_type, no_procs_join, parametrics_none, proc_below, ranked, ranks_settle, reads_level, settles, settles_closed, type_behind}
use Rattle.dslx_core.proofs.Lemmas.Typing.Laws.Chains.{itself, same_name}
use Rattle.dslx_core.proofs.Lemmas.Typing.Laws.Reaching.{reaches_on}
use Rattle.dslx_core.proofs.Lemmas.Typing.TypingRelations.{own_reached, whole_is}
use Rattle.dslx_check.proofs.OnSettled.OnSizes.{LoopsHaveNoMember, one_more, two_for_each}

-- the words of ends mention no proc
ends_none : (es : List End) (bound : List (List ℕ)) → NoProcs (ends_mentions es bound)
ends_none [] bound = tt
ends_none (e ∷ es) bound = no_procs_join (mentioned_in_type e.word bound) (ends_mentions es bound) (no_proc_in_type e.word bound) (ends_none es bound)

module _ (no_member : LoopsHaveNoMember) (m : Module) (p : Proc) (named : item_named p.name.name m.items ≡ Some (d.Proc p)) (k : ℕ) (rank : ranked m (suc k) p.name.name ≡ true) where
  abbrev own : List ℕ
  own = p.name.name

  -- what stands below it settles at the first of these
  abbrev A : GlobalEnv
  A = globals_within m (suc (2 * k))

  abbrev B : GlobalEnv
  B = globals_within m (suc (suc (2 * k)))

  abbrev P : List ℕ → Bool
  P = settles m k

  abbrev Q : List ℕ → Bool
  Q name = bytes_eq name own

  abbrev Passes : List Mention → Type 0
  Passes ms = list_all P (names_mentioned m ms) ≡ true

  stage : Stage P m A B
  stage =
      let next : 2 * k ≤ suc (2 * k) = omega arith in
      let further : 2 * k ≤ suc (suc (2 * k)) = omega arith in
      ranks_settle m k (suc (2 * k)) (suc (suc (2 * k))) next further

  low : LowPass m P Q
  low owner name h e back other = proc_below m k p named rank name (ap (λ z. item_reaches m z name) (sym (same_name owner own h)) ∙ e) other

  beside : (owner name : List ℕ) → Q owner ≡ true → item_reaches m owner name ≡ true → item_reaches m name owner ≡ true → (member : List ℕ) → A.items.member name member ≡ B.items.member name member
  beside owner name h e back member = let loops = reaches_on m name owner name back e in no_member m name loops (suc (2 * k)) member ∙ sym (no_member m name loops (suc (suc (2 * k))) member)

  sight : Sight P Q (λ owner. P) m A B
  sight = below_sight m P Q (settles_closed m k) low A B (reads_level m (suc (2 * k))) (reads_level m (suc (suc (2 * k)))) stage beside

  hidden : (bound : List (List ℕ)) (given : List Given) (unknown : List (List ℕ)) → AreBound bound given unknown → HiddenAlike bound (env_behind A own given unknown) B
  hidden bound given unknown w = hidden_behind P Q (λ owner. P) m A B sight own bound given unknown [] w

  -- ---- parametrics

  abbrev LeftPass : List (List ℕ) → List Parametric → Type 0
  LeftPass bound left = Passes (parametrics_mentions left bound)

  left_next : (bound : List (List ℕ)) (q : Parametric) (qs : List Parametric) → LeftPass bound (q ∷ qs) → LeftPass (q.name.name ∷ bound) qs
  left_next bound q qs h = (den_parts P m (mentioned_in_type q.ty bound ++ expr_if q.default bound) (parametrics_mentions qs (q.name.name ∷ bound)) h).1

  first_of : (bound : List (List ℕ)) (q : Parametric) (qs : List Parametric) → LeftPass bound (q ∷ qs) → Passes (mentioned_in_type q.ty bound) × Passes (expr_if q.default bound)
  first_of bound q qs h =
      den_parts P m (mentioned_in_type q.ty bound) (expr_if q.default bound) (den_parts P m (mentioned_in_type q.ty bound ++ expr_if q.default bound) (parametrics_mentions qs (q.name.name ∷ bound)) h).0

  default_alike : (bound : List (List ℕ)) (o : Option Expr) → Passes (expr_if o bound) → (given : List Given) (unknown : List (List ℕ)) → AreBound bound given unknown
      → default_if (env_behind A own given unknown) o ≡ default_if (env_behind B own given unknown) o
  default_alike bound None h given unknown w = refl
  default_alike bound (Some e) h given unknown w =
      let c = constant_behind P Q (λ owner. P) m A B sight own (itself own) bound e h given unknown [] (hidden bound given unknown w) in
      λ i. record { judgement = (c i).judgement; value = (c i).value }

  words_alike : (es : List End) (bound : List (List ℕ)) → Passes (ends_mentions es bound) → (given : List Given) (unknown : List (List ℕ)) → AreBound bound given unknown
      → map (λ (e : End). declared_type (env_behind A own given unknown) e.word) es ≡ map (λ (e : End). declared_type (env_behind B own given unknown) e.word) es
  words_alike [] bound h given unknown w = refl
  words_alike (e ∷ es) bound h given unknown w =
      let both = den_parts P m (mentioned_in_type e.word bound) (ends_mentions es bound) h in
      let one = type_behind P Q (λ owner. P) m A B sight own (itself own) bound e.word both.0 given unknown [] (hidden bound given unknown w) in
      let rest = words_alike es bound both.1 given unknown w in
      λ i. unless_unit (one i).ty ∷ rest i

  -- ---- what it mentions

  abbrev names : List (List ℕ)
  names = parametric_names p.parametrics

  abbrev Reaches : List Mention → Type 0
  Reaches ms = list_all (item_reaches m own) (names_mentioned m ms) ≡ true

  parts : Reaches (parametrics_mentions p.parametrics []) × Reaches (ends_mentions p.config.ends names)
  parts =
      let R = item_reaches m own in
      let one = parametrics_mentions p.parametrics [] in
      let two = ends_mentions p.members names in
      let three = ends_mentions p.config.ends names in
      let four = flat_map (λ (x : ConfigStatement). config_statement_mentions x names) p.config.config_statements in
      let five = mentioned_in_block p.init names in
      let six = mentioned_in_type p.next.ty names in
      let seven = mentioned_in_block p.next.body (p.next.state.name ∷ names) in
      let a1 = den_parts R m (((((one ++ two) ++ three) ++ four) ++ five) ++ six) seven (own_reached m own (d.Proc p) named) in
      let a2 = den_parts R m ((((one ++ two) ++ three) ++ four) ++ five) six a1.0 in
      let a3 = den_parts R m (((one ++ two) ++ three) ++ four) five a2.0 in
      let a4 = den_parts R m ((one ++ two) ++ three) four a3.0 in
      let a5 = den_parts R m (one ++ two) three a4.0 in
      ((den_parts R m one two a5.0).0, a5.1)

  proc_alike : DeclaredAlike (globals_over A) (globals_over B) own
  proc_alike =
      declared_alike A B own (d.Proc p) ((λ i. item_named own (whole_is m (suc (2 * k)) i).items) ∙ named) ((λ i. item_named own (whole_is m (suc (suc (2 * k))) i).items) ∙ named) LeftPass left_next
      (λ bound q qs h given unknown w. inner_behind P Q (λ owner. P) m A B sight own (itself own) bound q.ty (first_of bound q qs h).0 given unknown [] (hidden bound given unknown w))
      (λ bound q qs h given unknown w. default_alike bound q.default (first_of bound q qs h).1 given unknown w)
      (λ given unknown w. let words = words_alike p.config.ends names ends given unknown w in λ i. record { arguments = words i; result = None })
      (all_below m k p named rank (parametrics_mentions p.parametrics []) (parametrics_none p.parametrics []) parts.0)
    where
      ends : Passes (ends_mentions p.config.ends names)
      ends = all_below m k p named rank (ends_mentions p.config.ends names) (ends_none p.config.ends names) parts.1

pub proc_declared : LoopsHaveNoMember → (m : Module) (p : Proc) → item_named p.name.name m.items ≡ Some (d.Proc p) → DeclaredAlike (globals_of m) (globals_over (globals_of m)) p.name.name
proc_declared no_member m p named =
    one_more m p.name.name (d.Proc p) named (λ k many.
    subst (λ n. DeclaredAlike (globals_within m n) (globals_over (globals_within m n)) p.name.name) (sym (two_for_each m k many))
    (proc_alike no_member m p named k ((λ i. ranked m (sym many i) p.name.name) ∙ item_rank m p.name.name (d.Proc p) named)))
