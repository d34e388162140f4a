-- Walks over what was read and over what was built go alike.
use Rattle.std.proofs.Common.{◌≡◌, ℕ, suc, ◌<◌, ◌≤◌, List, [], ◌∷◌, ◌++◌, map, length, get_or, Bool, true, false, Option, Some, None, refl, sym, ap, subst, ◌∙◌, arith, ⊎_elim}
use Rattle.std.specs.Prelude.{slice_get, option_map, if◌then◌else◌}
use Rattle.std.specs.List.{list_all}
use Rattle.std.proofs.lemmas.Bool.{cases_lt}
use Rattle.std.proofs.lemmas.List.{get_or_append_left, append-nil, append_assoc}
use Rattle.xb_value.specs.declared.value.Value.{Value, out-Value}
use Rattle.net_core.specs.Behavior.{Skip, Receive, Give}
use Rattle.delay_model.specs.declared.op.Op.{Op}
use Rattle.delay_model.specs.declared.op.Op.TheVariants as op
use Rattle.ir_tree.specs.declared.node.Attributes.{Attributes}
use Rattle.ir_tree.specs.declared.node.Attributes.TheVariants as attributes
use Rattle.ir_tree.specs.declared.node.Operand.{Operand}
use Rattle.ir_tree.specs.declared.node.Operand.TheVariants as operand
use Rattle.ir_tree.specs.declared.node.Node.{Node}
use Rattle.ir_tree.specs.declared.node.Role.{Role}
use Rattle.ir_tree.specs.declared.node.Role.TheVariants as role
use Rattle.ir_tree.specs.declared.package.Channel.{Channel}
use Rattle.ir_tree.specs.Constants.{no_value}
use Rattle.ir_tree.specs.NodeValues.{operand_value, optional_value, role_of, role_at, role_by, is_one, is_on, received, pure_value, no_word}
use Rattle.ir_tree.specs.Activations.{sent}
use Rattle.ir_tree.specs.Rules.Lines.{is_there}
use Rattle.ir_rebuild.specs.Operands.{optional_operand, attribute_operands, operands_in}
use Rattle.ir_rebuild.specs.Moves.{moved, moved_node}
use Rattle.ir_rebuild.specs.Built.{is_plain_op, numbered}
use Rattle.ir_rebuild.proofs.Moving.{both, all_parts, SameValues, pure_moved}
use Rattle.ir_rebuild.proofs.Walking.{Walk, Words, word_at, left_at, step_by, step, walk}
use Rattle.ir_rebuild.proofs.Building.{value_more, last_value, one_longer}
use Rattle.ir_rebuild.proofs.NodeChecks.{plain_role}
use Rattle.ir_rebuild.proofs.Standing.{AlikeValues, moved_role, role_moved, last_item}

pub record Alike (kept : List Bool) (places : List Operand) (s : Value) (a b : Walk) : Type 0 where
  pub values : AlikeValues kept places s a.values b.values
  pub site : b.site ≡ a.site
  pub left : b.left ≡ a.left
  pub words : b.words ≡ a.words
  pub turns : b.turns ≡ a.turns

-- ---- the values behind a walk begin with those before it

pub record Prefix (a b : Walk) : Type 0 where
  pub more : List Value
  pub are : b.values ≡ a.values ++ more

step_prefix : (channels : List Channel) (s : Value) (words : Words) (w : Walk) (n : Node) (r : Role) → Prefix w (step_by channels s words w n r)
step_prefix channels s words w n role.Pure = record { more = pure_value n s w.values ∷ []; are = refl }
step_prefix channels s words w n (role.Receive predicate c) = record { more = received channels c (is_on s w.values predicate) (word_at words w.site w.left (is_on s w.values predicate)) ∷ []; are = refl }
step_prefix channels s words w n (role.Send predicate c) = record { more = no_value ∷ []; are = refl }

pub walk_prefix : (channels : List Channel) (s : Value) (words : Words) (w : Walk) (nodes : List Node) → Prefix w (walk channels s words w nodes)
walk_prefix channels s words w [] = record { more = []; are = sym (append-nil w.values) }
walk_prefix channels s words w (n ∷ ns) =
    let one = step_prefix channels s words w n (role_of n) in
    let rest = walk_prefix channels s words (step channels s words w n) ns in
    record { more = one.more ++ rest.more; are = rest.are ∙ ap (λ vs. vs ++ rest.more) one.are ∙ append_assoc w.values one.more rest.more }

-- plain nodes change the values alone
pub record Quiet (a b : Walk) : Type 0 where
  pub site : b.site ≡ a.site
  pub left : b.left ≡ a.left
  pub words : b.words ≡ a.words
  pub turns : b.turns ≡ a.turns

pub plain_walk : (channels : List Channel) (s : Value) (words : Words) (w : Walk) (nodes : List Node) → list_all (λ (n : Node). is_plain_op n.op) nodes ≡ true → Quiet w (walk channels s words w nodes)
plain_walk channels s words w [] h = record { site = refl; left = refl; words = refl; turns = refl }
plain_walk channels s words w (n ∷ ns) h =
    let parts = both (is_plain_op n.op) (list_all (λ (n : Node). is_plain_op n.op) ns) h in
    let rest = plain_walk channels s words (step_by channels s words w n role.Pure) ns parts.1 in
    let all : Quiet w (walk channels s words (step_by channels s words w n role.Pure) ns) = record { site = rest.site; left = rest.left; words = rest.words; turns = rest.turns } in
    subst (λ r. Quiet w (walk channels s words (step_by channels s words w n r) ns)) (sym (plain_role n.op n.attributes parts.0)) all

-- ---- values, one node more

pub values_longer : (kept : List Bool) (places : List Operand) (s : Value) (a b us : List Value) (o : Operand) (v : Value) → length a ≡ length places → AlikeValues kept places s a b → ((j : ℕ) → j < length places → get_or kept j false ≡ true → is_there (length b) (get_or places j operand.State) ≡ true) → (get_or kept (length places) false ≡ true → operand_value s (b ++ us) o ≡ v) → AlikeValues kept (places ++ o ∷ []) s (a ++ v ∷ []) (b ++ us)
values_longer kept places s a b us o v same h there new j less k = ⊎_elim before last (cases_lt j (length places))
  where
    before : j < length places → operand_value s (b ++ us) (get_or (places ++ o ∷ []) j operand.State) ≡ get_or (a ++ v ∷ []) j no_value
    before within =
        ap (operand_value s (b ++ us)) (get_or_append_left places (o ∷ []) operand.State j within)
        ∙ value_more s b us (get_or places j operand.State) (there j within k)
        ∙ h j within k
        ∙ sym (get_or_append_left a (v ∷ []) no_value j (omega (arith, within, same)))

    last : length places ≤ j → operand_value s (b ++ us) (get_or (places ++ o ∷ []) j operand.State) ≡ get_or (a ++ v ∷ []) j no_value
    last past =
        let longer = one_longer places o in
        let at : j ≡ length places = omega arith in
        ap (operand_value s (b ++ us)) (last_item places o operand.State j at)
        ∙ new (subst (λ i. get_or kept i false ≡ true) at k)
        ∙ sym (last_value a v j (omega (arith, at, same)))

-- a node that isn't kept
pub alike_skipped : (channels : List Channel) (words : Words) (kept : List Bool) (places : List Operand) (s : Value) (a b : Walk) (n : Node) (o : Operand) → length a.values ≡ length places → Alike kept places s a b → ((j : ℕ) → j < length places → get_or kept j false ≡ true → is_there (length b.values) (get_or places j operand.State) ≡ true) → get_or kept (length places) false ≡ false → role_of n ≡ role.Pure → Alike kept (places ++ o ∷ []) s (step channels s words a n) b
alike_skipped channels words kept places s a b n o same h there k pure =
    subst (λ r. Alike kept (places ++ o ∷ []) s (step_by channels s words a n r) b) (sym pure)
    (record {
      values = subst (AlikeValues kept (places ++ o ∷ []) s (a.values ++ pure_value n s a.values ∷ [])) (append-nil b.values) (values_longer kept places s a.values b.values [] o (pure_value n s a.values) same h.values there (λ e. absurd (cc)));
      site = h.site;
      left = h.left;
      words = h.words;
      turns = h.turns;
    })

-- a plain node for which an operand stands, after more plain nodes
pub alike_rewritten : (channels : List Channel) (words : Words) (kept : List Bool) (places : List Operand) (s : Value) (a b c : Walk) (n : Node) (o : Operand) → length a.values ≡ length places → Alike kept places s a b → ((j : ℕ) → j < length places → get_or kept j false ≡ true → is_there (length b.values) (get_or places j operand.State) ≡ true) → Prefix b c → Quiet b c → role_of n ≡ role.Pure → (AlikeValues kept places s a.values c.values → operand_value s c.values o ≡ pure_value n s a.values) → Alike kept (places ++ o ∷ []) s (step channels s words a n) c
alike_rewritten channels words kept places s a b c n o same h there front quiet pure value =
    subst (λ r. Alike kept (places ++ o ∷ []) s (step_by channels s words a n r) c) (sym pure)
    (record {
      values = subst (AlikeValues kept (places ++ o ∷ []) s (a.values ++ pure_value n s a.values ∷ [])) (sym front.are)
          (values_longer kept places s a.values b.values front.more o (pure_value n s a.values) same h.values there
          (λ e. subst (λ vs. operand_value s vs o ≡ pure_value n s a.values) front.are (value still)));
      site = quiet.site ∙ h.site;
      left = quiet.left ∙ h.left;
      words = quiet.words ∙ h.words;
      turns = quiet.turns ∙ h.turns;
    })
  where
    still : AlikeValues kept places s a.values c.values
    still = λ j less k.
        ap (λ vs. operand_value s vs (get_or places j operand.State)) front.are
        ∙ value_more s b.values front.more (get_or places j operand.State) (there j less k)
        ∙ h.values j less k

-- ---- sites

on_moved : (p : Operand → Bool) (f : Operand → Operand) (s : Value) (a b : List Value) → SameValues p f s a b → (predicate : Option Operand) → list_all p (optional_operand predicate) ≡ true → is_on s b (option_map f predicate) ≡ is_on s a predicate
on_moved p f s a b h None k = refl
on_moved p f s a b h (Some o) k = ap (λ v. is_one (out-Value v)) (h o (both (p o) true k).0)

second_moved : (p : Operand → Bool) (f : Operand → Operand) (s : Value) (a b : List Value) → SameValues p f s a b → (os : List Operand) → list_all p os ≡ true → optional_value s b (slice_get (map f os) 1) ≡ optional_value s a (slice_get os 1)
second_moved p f s a b h [] k = refl
second_moved p f s a b h (x ∷ []) k = refl
second_moved p f s a b h (x ∷ y ∷ os) k = h y (both (p y) (list_all p os) (both (p x) (list_all p (y ∷ os)) k).1).0

role_operands : Role → List Operand
role_operands role.Pure = []
role_operands (role.Receive predicate c) = optional_operand predicate
role_operands (role.Send predicate c) = optional_operand predicate

-- a copy does what its node does
copy_by : (channels : List Channel) (words : Words) (kept : List Bool) (places : List Operand) (p : Operand → Bool) (s : Value) (a b : Walk) (n : Node) (q : ℕ) → length a.values ≡ length places → q ≡ length b.values → Alike kept places s a b → ((j : ℕ) → j < length places → get_or kept j false ≡ true → is_there (length b.values) (get_or places j operand.State) ≡ true) → SameValues p (moved places) s a.values b.values → list_all p (operands_in n) ≡ true → list_all p n.operands ≡ true → (r : Role) → list_all p (role_operands r) ≡ true → Alike kept (places ++ operand.Node q ∷ []) s (step_by channels s words a n r) (step_by channels s words b (numbered q (moved_node (moved places) n)) (moved_role (moved places) r))
unfolding role_operands
copy_by channels words kept places p s a b n q same at h there values all first role.Pure ready =
    let x = numbered q (moved_node (moved places) n) in
    record {
      values = values_longer kept places s a.values b.values (pure_value x s b.values ∷ []) (operand.Node q) (pure_value n s a.values) same h.values there
          (λ e. last_value b.values (pure_value x s b.values) q at ∙ pure_moved p (moved places) s a.values b.values values n all);
      site = h.site;
      left = h.left;
      words = h.words;
      turns = h.turns;
    }
copy_by channels words kept places p s a b n q same at h there values all first (role.Receive predicate c) ready =
    let on = on_moved p (moved places) s a.values b.values values predicate ready in
    let word : word_at words b.site b.left (is_on s b.values (option_map (moved places) predicate)) ≡ word_at words a.site a.left (is_on s a.values predicate) =
    λ i. word_at words (h.site i) (h.left i) (on i) in
    record {
      values = values_longer kept places s a.values b.values (received channels c (is_on s b.values (option_map (moved places) predicate)) (word_at words b.site b.left (is_on s b.values (option_map (moved places) predicate))) ∷ []) (operand.Node q)
          (received channels c (is_on s a.values predicate) (word_at words a.site a.left (is_on s a.values predicate))) same h.values there
          (λ e. last_value b.values _ q at ∙ (λ i. received channels c (on i) (word i)));
      site = ap suc h.site;
      left = λ i. left_at words (h.left i) (on i);
      words = λ i. h.words i ++ word i ∷ [];
      turns = λ i. h.turns i ++ (if on i then Receive else Skip) ∷ [];
    }
copy_by channels words kept places p s a b n q same at h there values all first (role.Send predicate c) ready =
    let on = on_moved p (moved places) s a.values b.values values predicate ready in
    let word = ap sent (second_moved p (moved places) s a.values b.values values n.operands first) in
    record {
      values = values_longer kept places s a.values b.values (no_value ∷ []) (operand.Node q) no_value same h.values there (λ e. last_value b.values no_value q at);
      site = ap suc h.site;
      left = h.left;
      words = λ i. h.words i ++ no_word ∷ [];
      turns = λ i. h.turns i ++ (if on i then Give (word i) else Skip) ∷ [];
    }

role_ready : (p : Operand → Bool) (n : Node) → list_all p (attribute_operands n.attributes) ≡ true → list_all p (role_operands (role_of n)) ≡ true
unfolding role_operands
role_ready p n h = by n.op n.attributes h
  where
    at : (o : Op) (predicate : Option Operand) (c : ℕ) → list_all p (optional_operand predicate) ≡ true → list_all p (role_operands (role_at o predicate c)) ≡ true
    at op.Receive predicate c k = k
    at op.Send predicate c k = k
    at o predicate c k = refl

    by : (o : Op) (a : Attributes) → list_all p (attribute_operands a) ≡ true → list_all p (role_operands (role_by o a)) ≡ true
    by o attributes.None k = refl
    by o (attributes.StartAndWidth start width) k = refl
    by o (attributes.Width width) k = refl
    by o (attributes.NewBitCount width) k = refl
    by o (attributes.Cases cases default) k = refl
    by o (attributes.Index i) k = refl
    by o (attributes.Indices i) k = refl
    by o (attributes.Value c) k = refl
    by o (attributes.Channel predicate c) k = at o predicate c k

pub alike_copied : (channels : List Channel) (words : Words) (kept : List Bool) (places : List Operand) (p : Operand → Bool) (s : Value) (a b : Walk) (n : Node) (q : ℕ) → length a.values ≡ length places → q ≡ length b.values → Alike kept places s a b → ((j : ℕ) → j < length places → get_or kept j false ≡ true → is_there (length b.values) (get_or places j operand.State) ≡ true) → SameValues p (moved places) s a.values b.values → list_all p (operands_in n) ≡ true → Alike kept (places ++ operand.Node q ∷ []) s (step channels s words a n) (step channels s words b (numbered q (moved_node (moved places) n)))
alike_copied channels words kept places p s a b n q same at h there values all =
    let parts = all_parts p n.operands (attribute_operands n.attributes) all in
    subst (λ r. Alike kept (places ++ operand.Node q ∷ []) s (step channels s words a n) (step_by channels s words b (numbered q (moved_node (moved places) n)) r)) (sym (role_moved (moved places) n.op n.attributes))
    (copy_by channels words kept places p s a b n q same at h there values all parts.0 (role_of n) (role_ready p n parts.1))
