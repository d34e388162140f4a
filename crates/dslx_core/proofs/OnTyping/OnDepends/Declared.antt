-- What a function declares, in two ways that know alike what stands below it: the types and values are the same, whatever is known of the
-- items that reach it back.
use Rattle.std.proofs.Common.{◌≡◌, ◌&&◌, ◌||◌, ◌++◌, ℕ, Bool, true, false, not, if◌then◌else◌, List, [], ◌∷◌, map, Option, Some, None, refl, sym, ap, subst, ◌∙◌}
use mathlib.Core.Bool.{true≢false}
use Rattle.std.specs.Prelude.{flat_map}
use Rattle.std.specs.Str.{bytes_eq}
use Rattle.std.specs.List.{list_all}
use Rattle.dslx_tree.specs.declared.expr.Expr.{Expr}
use Rattle.dslx_tree.specs.declared.item.Definition.{Definition}
use Rattle.dslx_tree.specs.declared.item.Definition.TheVariants as d
use Rattle.dslx_tree.specs.declared.item.Field.{Field}
use Rattle.dslx_tree.specs.declared.item.Function.{Function}
use Rattle.dslx_tree.specs.declared.item.Module.{Module}
use Rattle.dslx_tree.specs.declared.process.End.{End}
use Rattle.dslx_tree.specs.declared.process.Proc.{Proc}
use Rattle.dslx_tree.specs.declared.type_expr.TypeExpr.{TypeExpr}
use Rattle.dslx_meaning.specs.Environment.{Given}
use Rattle.dslx_meaning.specs.Items.{is_constant_item, item_named}
use Rattle.dslx_meaning.specs.Lists.{and_then}
use Rattle.dslx_meaning.specs.Rules.ConstantRules.{ConstantSeen, constant_of, constant_typing}
use Rattle.dslx_meaning.specs.Rules.ItemRules.{result_typing, typing_of_type}
use Rattle.dslx_meaning.specs.Rules.Mentions.{AsEnum, Mention, config_statement_mentions, definition_mentions, ends_mentions, expr_if, fields_mentions, is_cyclic, is_of_use, item_reaches, mentioned, mentioned_in_block, mentioned_in_type, names_mentioned, parametric_names, parametrics_mentions, type_if}
use Rattle.dslx_meaning.specs.Rules.ModuleRules.{declared_type, default_if, globals_over}
use Rattle.dslx_meaning.specs.Rules.NodeRules.{expr_pair}
use Rattle.dslx_meaning.specs.Rules.TypeEnvs.{GlobalEnv, Judgement, TypeEnv, has_broken, span_of, within}
use Rattle.dslx_meaning.specs.Rules.TypeRules.{unless_unit}
use Rattle.dslx_core.specs.Typing.Depends.Alike.{HiddenAlike, NamesAlike, SeesAlike, TypesAlike}
use Rattle.dslx_core.specs.Typing.TypingRelations.Cycles.{AllUsed}
use Rattle.dslx_core.specs.Typing.TypingRelations.Reached.{IsClosed}
use Rattle.dslx_core.proofs.Lemmas.Typing.Laws.Chains.{or_cases, or_first, or_second, same_name}
use Rattle.dslx_core.proofs.Lemmas.Typing.Laws.Reaching.{reaches_on}
use Rattle.dslx_core.proofs.OnTyping.OnCycles.Joined.{expression_judged, written_type_judged}
use Rattle.dslx_core.proofs.OnTyping.OnCycles.OfItems.{stands_where, uses_freely}
use Rattle.dslx_core.proofs.OnTyping.OnCycles.Parts.{constant_inside, unmarked}
use Rattle.dslx_core.proofs.OnTyping.OnCycles.Untyped.{broken_constant_is_none, broken_type_is_none}
use Rattle.dslx_core.proofs.OnTyping.OnDepends.OfItems as of
use Rattle.dslx_core.proofs.OnTyping.OnDepends.OfItems.{FunctionParts, LeftMentioned, Sight, Stage, den_parts, first_mentioned, function_parts, left_mentioned, mentions_alike, plain_at}
use Rattle.dslx_core.proofs.OnTyping.OnDepends.Parametrics.{AreBound, Covers, SameDefault, env_behind, types_alike}
use Rattle.dslx_core.proofs.OnTyping.OnDepends.NoProcs.{NoProcs, no_proc_in_type, no_procs_join}
use Rattle.dslx_core.proofs.OnTyping.OnDepends.Stages.{all_no_procs, and_both, definition_none, is_proc_item, no_proc_use, not_true, parametrics_none, unless_proc}
use Rattle.dslx_core.proofs.OnTyping.OnTyping.Closed.{all_weaker}
use Rattle.dslx_core.proofs.OnTyping.OnTyping.OfItems.{own_reached}

-- what an item reaches that is the same or reaches it back
abbrev pub is_beside : Module → List ℕ → List ℕ → Bool
is_beside m owner name = item_reaches m owner name && is_cyclic m owner name

-- what stands beside it, or passes
abbrev pub beside_or : Module → (List ℕ → Bool) → List ℕ → List ℕ → Bool
beside_or m P owner name = is_beside m owner name || P name

-- what stands beside reaches itself
pub loops_beside : (m : Module) (owner name : List ℕ) → is_beside m owner name ≡ true → item_reaches m name name ≡ true
loops_beside m owner name e =
    let r = and_both (item_reaches m owner name) (is_cyclic m owner name) e in
    or_cases (bytes_eq name owner) (item_reaches m name owner && item_reaches m owner name) r.1 (λ s. subst (λ z. item_reaches m z name ≡ true) (sym (same_name name owner s)) r.0)
    (λ q. reaches_on m name owner name (and_both (item_reaches m name owner) (item_reaches m owner name) q).0 r.0)

-- of items that pass the second test all that they reach passes the first one, where it is no proc and doesn't reach them back
abbrev pub LowPass : Module → (List ℕ → Bool) → (List ℕ → Bool) → Type 0
LowPass m P Q = (owner name : List ℕ) → Q owner ≡ true → item_reaches m owner name ≡ true → item_reaches m name owner ≡ false → is_proc_item (item_named name m.items) ≡ false → P name ≡ true

-- what is known of a text has its cycles and the names of its constants
pub record Reads (m : Module) (known : GlobalEnv) : Type 0 where
  pub whole : known.whole ≡ m
  pub kinds : (name : List ℕ) → known.items.is_constant name ≡ is_constant_item (item_named name m.items)
  pub cyclic : (owner name : List ℕ) → known.is_cyclic owner name ≡ is_cyclic m owner name

-- one value and one type
abbrev SameConstant : ConstantSeen → ConstantSeen → Type 0
SameConstant x y = (x.value ≡ y.value) × (x.judgement.ty ≡ y.judgement.ty)

-- without a value it has no type
untyped_without : (context : TypeEnv) (x : Expr) → (constant_of context (expr_pair x)).value ≡ None → (constant_of context (expr_pair x)).judgement.ty ≡ None
untyped_without context x e = ap (λ v. and_then v (λ w. (constant_typing context (expr_pair x)).ty)) e

-- the words of ends mention no proc
ends_none : (es : List End) (bound : List (List ℕ)) → NoProcs (ends_mentions es bound)
ends_none [] bound = tt
ends_none (e ∷ es) bound = no_procs_join (mentioned_in_type e.word bound) (ends_mentions es bound) (no_proc_in_type e.word bound) (ends_none es bound)

module _ (m : Module) (P Q : List ℕ → Bool) (closed : IsClosed P m) (low : LowPass m P Q) (A B : GlobalEnv) (a : Reads m A) (b : Reads m B) (s : Stage P m A B)
    (beside : (owner name : List ℕ) → Q owner ≡ true → item_reaches m owner name ≡ true → item_reaches m name owner ≡ true → (member : List ℕ) → A.items.member name member ≡ B.items.member name member) where
  abbrev T : List ℕ → List ℕ → Bool
  T = beside_or m P

  -- enums below, and those beside
  pub enums_alike : (owner : List ℕ) → Q owner ≡ true → (name member : List ℕ) → item_reaches A.whole owner name ≡ true → A.items.member name member ≡ B.items.member name member
  enums_alike owner h name member e = by_back (item_reaches m name owner) refl
    where
      reached : item_reaches m owner name ≡ true
      reached = sym (λ t. item_reaches (a.whole t) owner name) ∙ e

      by_back : (back : Bool) → item_reaches m name owner ≡ back → A.items.member name member ≡ B.items.member name member
      by_back true q = beside owner name h reached q member
      by_back false q =
          let enums = s.uses AsEnum name (λ u. low owner name h reached q (not_true (is_proc_item (item_named name m.items)) (no_proc_use AsEnum tt (item_named name m.items) u))) in
          enums.members member

  -- what mentions none but what stands below
  pub sees_below : (owner : List ℕ) → Q owner ≡ true → (bound : List (List ℕ)) → NamesAlike A B bound → (ms : List Mention) → list_all P (names_mentioned m ms) ≡ true → SeesAlike P bound owner A B ms
  sees_below owner h bound n ms e = record { known = s.known; enums = enums_alike owner h; hidden = n; reach = s.reach owner ms e; alike = mentions_alike P m A B closed s owner ms e }

  pub below_sight : Sight P Q (λ owner. P) m A B
  below_sight = record { text = s.text; known = s.known; plain = plain_at P m A B closed s; sees = sees_below }

  -- where a part of an item mentions no proc, it mentions what stands beside the item or below
  mentioned_so : (owner : List ℕ) → Q owner ≡ true → (ms : List Mention) → NoProcs ms → list_all (item_reaches m owner) (names_mentioned m ms) ≡ true → list_all (T owner) (names_mentioned m ms) ≡ true
  mentioned_so owner h ms none e = all_weaker (unless_proc (item_reaches m owner) m) (T owner) so (names_mentioned m ms) (all_no_procs (item_reaches m owner) m ms none e)
    where
      by_back : (y : List ℕ) → item_reaches m owner y ≡ true → is_proc_item (item_named y m.items) ≡ false → (back : Bool) → item_reaches m y owner ≡ back → T owner y ≡ true
      by_back y r plain true q = or_first (is_beside m owner y) (P y) (λ t. r t && or_second (bytes_eq y owner) (item_reaches m y owner && item_reaches m owner y) (λ j. q j && r j) t)
      by_back y r plain false q = or_second (is_beside m owner y) (P y) (low owner y h r q plain)

      so : (y : List ℕ) → unless_proc (item_reaches m owner) m y ≡ true → T owner y ≡ true
      so y v = let r = and_both (item_reaches m owner y) (not (is_proc_item (item_named y m.items))) v in by_back y r.0 (not_true (is_proc_item (item_named y m.items)) r.1) (item_reaches m y owner) refl

  pub own_mentioned : (owner : List ℕ) (x : Definition) → item_named owner m.items ≡ Some x → is_proc_item (Some x) ≡ false → Q owner ≡ true → list_all (T owner) (names_mentioned m (definition_mentions x)) ≡ true
  own_mentioned owner x is other h = mentioned_so owner h (definition_mentions x) (definition_none x other) (own_reached m owner x is)

  -- ---- the types that an item declares

  abbrev ExprDen : List ℕ → List Mention → Type 0
  ExprDen owner ms = list_all (T owner) (names_mentioned m ms) ≡ true

  -- what rule 3 doesn't refuse stands below
  pub below : (owner : List ℕ) (ms : List Mention) → ExprDen owner ms → AllUsed (uses_freely m owner) ms → list_all P (names_mentioned m ms) ≡ true
  below owner [] e u = refl
  below owner (n ∷ ms) e u = by_use (is_of_use n.use_as (item_named n.name m.items)) e u.0 (λ g. below owner ms g u.1)
    where
      one : not (is_cyclic m owner n.name) ≡ true → T owner n.name ≡ true → P n.name ≡ true
      one v t = or_cases (is_beside m owner n.name) (P n.name) t (λ q. absurd (true≢false (sym v ∙ ap not (and_both (item_reaches m owner n.name) (is_cyclic m owner n.name) q).1))) (λ q. q)

      by_use : (b : Bool) → list_all (T owner) (if b then n.name ∷ names_mentioned m ms else names_mentioned m ms) ≡ true → not (b && is_cyclic m owner n.name) ≡ true
          → (list_all (T owner) (names_mentioned m ms) ≡ true → list_all P (names_mentioned m ms) ≡ true) → list_all P (if b then n.name ∷ names_mentioned m ms else names_mentioned m ms) ≡ true
      by_use true g v rest =
          let r = and_both (T owner n.name) (list_all (T owner) (names_mentioned m ms)) g in
          let own = one v r.0 in
          let others = rest r.1 in
          λ t. own t && others t
      by_use false g v rest = rest g

  type_of : (owner : List ℕ) → Q owner ≡ true → (bound : List (List ℕ)) → (x : TypeExpr) → ExprDen owner (mentioned_in_type x bound) → (given : List Given) (unknown : List (List ℕ)) → Covers bound given unknown → HiddenAlike bound (env_behind A owner given unknown) B
      → (typing_of_type (env_behind A owner given unknown) x).ty ≡ (typing_of_type (env_behind B owner given unknown) x).ty
  type_of owner h bound x e given unknown c n = by_broken (has_broken one.faults) (has_broken two.faults) refl refl
    where
      one : Judgement
      one = typing_of_type (env_behind A owner given unknown) x

      two : Judgement
      two = typing_of_type (env_behind B owner given unknown) x

      same : AllUsed (uses_freely m owner) (mentioned_in_type x bound) → one.ty ≡ two.ty
      same u = ap (λ (z : Judgement). z.ty) (of.type_behind P Q (λ owner. P) m A B below_sight owner h bound x (below owner (mentioned_in_type x bound) e u) given unknown [] n)

      by_broken : (p q : Bool) → has_broken one.faults ≡ p → has_broken two.faults ≡ q → one.ty ≡ two.ty
      by_broken false q v w = same (written_type_judged (uses_freely m owner) x bound (env_behind A owner given unknown) (stands_where m A owner bound given unknown (a.kinds) (a.cyclic) c) v)
      by_broken true false v w = same (written_type_judged (uses_freely m owner) x bound (env_behind B owner given unknown) (stands_where m B owner bound given unknown (b.kinds) (b.cyclic) c) w)
      by_broken true true v w = broken_type_is_none x (env_behind A owner given unknown) v ∙ sym (broken_type_is_none x (env_behind B owner given unknown) w)

  value_of : (owner : List ℕ) → Q owner ≡ true → (bound : List (List ℕ)) → (x : Expr) → ExprDen owner (mentioned x bound) → (given : List Given) (unknown : List (List ℕ)) → Covers bound given unknown → HiddenAlike bound (env_behind A owner given unknown) B
      → SameConstant (constant_of (env_behind A owner given unknown) (expr_pair x)) (constant_of (env_behind B owner given unknown) (expr_pair x))
  value_of owner h bound x e given unknown c n = by_broken (has_broken one.judgement.faults) (has_broken two.judgement.faults) refl refl
    where
      one : ConstantSeen
      one = constant_of (env_behind A owner given unknown) (expr_pair x)

      two : ConstantSeen
      two = constant_of (env_behind B owner given unknown) (expr_pair x)

      same : AllUsed (uses_freely m owner) (mentioned x bound) → SameConstant one two
      same u =
          let c = of.constant_behind P Q (λ owner. P) m A B below_sight owner h bound x (below owner (mentioned x bound) e u) given unknown [] n in
          (ap (λ (z : ConstantSeen). z.value) c, ap (λ (z : ConstantSeen). z.judgement.ty) c)

      whole : (known : GlobalEnv) → Reads m known → has_broken (constant_of (env_behind known owner given unknown) (expr_pair x)).judgement.faults ≡ false → AllUsed (uses_freely m owner) (mentioned x bound)
      whole known r v =
          let context = env_behind known owner given unknown in
          expression_judged (uses_freely m owner) x bound context (stands_where m known owner bound given unknown r.kinds r.cyclic c) (unmarked (span_of (expr_pair x)) (within context (expr_pair x)) (constant_inside context (expr_pair x) v))

      by_broken : (p q : Bool) → has_broken one.judgement.faults ≡ p → has_broken two.judgement.faults ≡ q → SameConstant one two
      by_broken false q v w = same (whole A a v)
      by_broken true false v w = same (whole B b w)
      by_broken true true v w =
          let no_first = broken_constant_is_none (env_behind A owner given unknown) (expr_pair x) v in
          let no_second = broken_constant_is_none (env_behind B owner given unknown) (expr_pair x) w in
          (no_first ∙ sym no_second, untyped_without (env_behind A owner given unknown) x no_first ∙ sym (untyped_without (env_behind B owner given unknown) x no_second))

  default_of : (owner : List ℕ) → Q owner ≡ true → (bound : List (List ℕ)) → (o : Option Expr) → ExprDen owner (expr_if o bound) → (given : List Given) (unknown : List (List ℕ)) → Covers bound given unknown → HiddenAlike bound (env_behind A owner given unknown) B
      → SameDefault (default_if (env_behind A owner given unknown) o) (default_if (env_behind B owner given unknown) o)
  default_of owner h bound None e given unknown c n = (refl, refl)
  default_of owner h bound (Some x) e given unknown c n = value_of owner h bound x e given unknown c n

  arguments_of : (owner : List ℕ) → Q owner ≡ true → (fs : List Field) (bound : List (List ℕ)) → ExprDen owner (fields_mentions fs bound) → (given : List Given) (unknown : List (List ℕ)) → Covers bound given unknown → HiddenAlike bound (env_behind A owner given unknown) B
      → map (λ (f : Field). declared_type (env_behind A owner given unknown) f.ty) fs ≡ map (λ (f : Field). declared_type (env_behind B owner given unknown) f.ty) fs
  arguments_of owner h [] bound e given unknown c n = refl
  arguments_of owner h (f ∷ fs) bound e given unknown c n =
      let both = den_parts (T owner) m (mentioned_in_type f.ty bound) (fields_mentions fs bound) e in
      let first = type_of owner h bound f.ty both.0 given unknown c n in
      let rest = arguments_of owner h fs bound both.1 given unknown c n in
      λ t. unless_unit (first t) ∷ rest t

  words_of : (owner : List ℕ) → Q owner ≡ true → (es : List End) (bound : List (List ℕ)) → ExprDen owner (ends_mentions es bound) → (given : List Given) (unknown : List (List ℕ)) → Covers bound given unknown → HiddenAlike bound (env_behind A owner given unknown) B
      → map (λ (e : End). declared_type (env_behind A owner given unknown) e.word) es ≡ map (λ (e : End). declared_type (env_behind B owner given unknown) e.word) es
  words_of owner h [] bound e given unknown c n = refl
  words_of owner h (x ∷ xs) bound e given unknown c n =
      let both = den_parts (T owner) m (mentioned_in_type x.word bound) (ends_mentions xs bound) e in
      let first = type_of owner h bound x.word both.0 given unknown c n in
      let rest = words_of owner h xs bound both.1 given unknown c n in
      λ t. unless_unit (first t) ∷ rest t

  result_of : (owner : List ℕ) → Q owner ≡ true → (o : Option TypeExpr) (bound : List (List ℕ)) → ExprDen owner (type_if o bound) → (given : List Given) (unknown : List (List ℕ)) → Covers bound given unknown → HiddenAlike bound (env_behind A owner given unknown) B
      → (result_typing (env_behind A owner given unknown) o).ty ≡ (result_typing (env_behind B owner given unknown) o).ty
  result_of owner h None bound e given unknown c n = refl
  result_of owner h (Some x) bound e given unknown c n = type_of owner h bound x e given unknown c n

  hidden_from : (owner : List ℕ) (bound : List (List ℕ)) (given : List Given) (unknown : List (List ℕ)) → AreBound bound given unknown → HiddenAlike bound (env_behind A owner given unknown) B
  hidden_from owner bound given unknown w = of.hidden_behind P Q (λ owner. P) m A B below_sight owner bound given unknown [] w

  pub function_types : (f : Function) → item_named f.name.name m.items ≡ Some (d.Function f) → Q f.name.name ≡ true → TypesAlike (globals_over A) (globals_over B) f.name.name
  function_types f is h =
      types_alike A B owner (d.Function f) ((λ t. item_named owner (a.whole t).items) ∙ is) ((λ t. item_named owner (b.whole t).items) ∙ is) (LeftMentioned T m owner) (left_mentioned T m owner)
      (λ bound p ps l given unknown c w. type_of owner h bound p.ty (first_mentioned T m owner bound p ps l).0 given unknown c (hidden_from owner bound given unknown w))
      (λ bound p ps l given unknown c w. default_of owner h bound p.default (first_mentioned T m owner bound p ps l).1 given unknown c (hidden_from owner bound given unknown w))
      (λ given unknown c w.
      let n = hidden_from owner (parametric_names f.parametrics) given unknown w in
      let arguments = arguments_of owner h f.arguments (parametric_names f.parametrics) parts.arguments given unknown c n in
      let result = result_of owner h f.result (parametric_names f.parametrics) parts.result given unknown c n in
      λ t. record { arguments = arguments t; result = result t })
      parts.parametrics
    where
      owner : List ℕ
      owner = f.name.name

      parts : FunctionParts T m f
      parts = function_parts T m f (own_mentioned owner (d.Function f) is refl h)

  pub proc_types : (p : Proc) → item_named p.name.name m.items ≡ Some (d.Proc p) → Q p.name.name ≡ true → TypesAlike (globals_over A) (globals_over B) p.name.name
  proc_types p is h =
      types_alike A B owner (d.Proc p) ((λ t. item_named owner (a.whole t).items) ∙ is) ((λ t. item_named owner (b.whole t).items) ∙ is) (LeftMentioned T m owner) (left_mentioned T m owner)
      (λ bound q ps l given unknown c w. type_of owner h bound q.ty (first_mentioned T m owner bound q ps l).0 given unknown c (hidden_from owner bound given unknown w))
      (λ bound q ps l given unknown c w. default_of owner h bound q.default (first_mentioned T m owner bound q ps l).1 given unknown c (hidden_from owner bound given unknown w))
      (λ given unknown c w.
      let words = words_of owner h p.config.ends names (mentioned_so owner h (ends_mentions p.config.ends names) (ends_none p.config.ends names) parts.1) given unknown c (hidden_from owner names given unknown w) in
      λ t. record { arguments = words t; result = None })
      (mentioned_so owner h (parametrics_mentions p.parametrics []) (parametrics_none p.parametrics []) parts.0)
    where
      owner : List ℕ
      owner = p.name.name

      names : List (List ℕ)
      names = parametric_names p.parametrics

      -- what its parametrics and its ends mention is reached
      parts : (list_all (item_reaches m owner) (names_mentioned m (parametrics_mentions p.parametrics [])) ≡ true) × (list_all (item_reaches m owner) (names_mentioned m (ends_mentions p.config.ends names)) ≡ true)
      parts =
          let R = item_reaches m owner in
          let one = parametrics_mentions p.parametrics [] in
          let two = ends_mentions p.members names in
          let three = ends_mentions p.config.ends names in
          let four = flat_map (λ x. config_statement_mentions x names) p.config.config_statements in
          let five = mentioned_in_block p.init names in
          let six = mentioned_in_type p.next.ty names in
          let seven = mentioned_in_block p.next.body (p.next.state.name ∷ names) in
          let a1 = den_parts R m (((((one ++ two) ++ three) ++ four) ++ five) ++ six) seven (own_reached m owner (d.Proc p) is) in
          let a2 = den_parts R m ((((one ++ two) ++ three) ++ four) ++ five) six a1.0 in
          let a3 = den_parts R m (((one ++ two) ++ three) ++ four) five a2.0 in
          let a4 = den_parts R m ((one ++ two) ++ three) four a3.0 in
          let a5 = den_parts R m (one ++ two) three a4.0 in
          ((den_parts R m one two a5.0).0, a5.1)
