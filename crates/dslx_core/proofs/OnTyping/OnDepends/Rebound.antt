-- What a part mentions behind some names and behind others: the same, but for names that are bound in the one place alone.
use Rattle.std.proofs.Common.{◌≡◌, ◌++◌, ℕ, Bool, true, false, if◌then◌else◌, List, [], ◌∷◌, map, Option, Some, None, refl}
use mathlib.Core.Bool.{true≢false}
use Rattle.std.specs.Str.{bytes_eq}
use Rattle.dslx_tree.specs.declared.block.Stmt.TheOpen.{Stmt-F, Node-F, Shape-F, TypeNode-F}
use Rattle.dslx_tree.specs.declared.expr.Expr.{Expr}
use Rattle.dslx_tree.specs.declared.pattern.Pattern.{Pattern}
use Rattle.dslx_tree.proofs.Lemmas.Folds.Folds.{fold_pattern}
use Rattle.dslx_tree.proofs.Lemmas.Folds.Levels.{Carriers, StmtLevel, NodeLevel, ShapeLevel, TypeNodeLevel, BlockLevel, LetLevel, ArmLevel, FieldValueLevel, ForLevel, NumberLevel, map_stmt, map_node, map_shape, map_type_node, map_block, map_bind, map_arm, map_field, map_loop, map_number}
use Rattle.dslx_tree.proofs.Lemmas.Folds.Related.{Relations, both, firsts, KeepRelated, related_expr, related_pattern}
use Rattle.dslx_meaning.specs.Callees.{is_text_function, kind_of_call}
use Rattle.dslx_meaning.specs.Lists.{is_in}
use Rattle.dslx_meaning.specs.Rules.Mentions.{Use, AsValue, AsFunction, AsStruct, Mention, Mentions, NamesBound, all_mentions, binders_mentions, bound_behind, mention, mentioned, mentions_if, statements_mentions, value_mention}
use Rattle.dslx_core.specs.Typing.TypingRelations.Cycles.{AllUsed}
use Rattle.dslx_core.proofs.OnTyping.OnCycles.Parts.{in_neither}
use Rattle.dslx_core.proofs.OnTyping.OnDepends.Links.{mentions, mention_steps}

-- each of these mentions meets a claim
abbrev pub AllMeet : (Use → List ℕ → Type 0) → List Mention → Type 0
AllMeet R [] = Unit {0}
AllMeet R (m ∷ ms) = R m.use_as m.name × AllMeet R ms

-- so does each name as a value that is one of the first names and none of the others
abbrev pub OthersMeet : (Use → List ℕ → Type 0) → List (List ℕ) → List (List ℕ) → Type 0
OthersMeet R bound names = (n : List ℕ) → is_in n bound ≡ true → is_in n names ≡ false → R AsValue n

pub in_second : (name : List ℕ) (xs ys : List (List ℕ)) → is_in name xs ≡ false → is_in name (xs ++ ys) ≡ true → is_in name ys ≡ true
in_second name [] ys e h = h
in_second name (x ∷ xs) ys e h = by_first (bytes_eq name x) e h (in_second name xs ys)
  where
    by_first : (b : Bool) → (if b then true else is_in name xs) ≡ false → (if b then true else is_in name (xs ++ ys)) ≡ true → (is_in name xs ≡ false → is_in name (xs ++ ys) ≡ true → is_in name ys ≡ true) → is_in name ys ≡ true
    by_first true e h rest = absurd (true≢false e)
    by_first false e h rest = rest e h

module _ (R : Use → List ℕ → Type 0) where
  others_behind : (new bound names : List (List ℕ)) → OthersMeet R bound names → OthersMeet R (new ++ bound) (new ++ names)
  others_behind new bound names o n q k = let r = in_neither n new names k in o n (in_second n new bound r.0 q) r.1

  pub meet : (xs ys : List Mention) → AllMeet R xs → AllMeet R ys → AllMeet R (xs ++ ys)
  meet [] ys h k = k
  meet (x ∷ xs) ys h k = (h.0, meet xs ys h.1 k)

  three_meet : (xs ys zs : List Mention) → AllMeet R xs → AllMeet R ys → AllMeet R zs → AllMeet R ((xs ++ ys) ++ zs)
  three_meet xs ys zs h k l = meet (xs ++ ys) zs (meet xs ys h k) l

  pub both_meet : (xs ys : List Mention) → AllMeet R (xs ++ ys) → AllMeet R xs × AllMeet R ys
  both_meet [] ys h = (tt, h)
  both_meet (x ∷ xs) ys h = let r = both_meet xs ys h.1 in ((h.0, r.0), r.1)

  three_apart : (xs ys zs : List Mention) → AllMeet R ((xs ++ ys) ++ zs) → AllMeet R xs × AllMeet R ys × AllMeet R zs
  three_apart xs ys zs h =
      let r = both_meet (xs ++ ys) zs h in
      let q = both_meet xs ys r.0 in
      (q.0, q.1, r.1)

  -- what is mentioned behind the first names meets it behind the others, too
  abbrev pub Rebinds : Mentions → Type 0
  Rebinds ms = (bound names : List (List ℕ)) → OthersMeet R bound names → AllMeet R (ms bound) → AllMeet R (ms names)

  abbrev rebinding : Relations mentions mentions
  rebinding = record {
    stmt = λ n x. Rebinds n.mentions;
    node = λ ms x. Rebinds ms;
    shape = λ n x. Rebinds n.mentions;
    type_node = λ ms x. Rebinds ms;
    block = λ ms x. Rebinds ms;
    bind = λ n x. Rebinds n.mentions;
    arg = λ ms x. Rebinds ms;
    arm = λ ms x. Rebinds ms;
    expr = λ ms x. Rebinds ms;
    field = λ ms x. Rebinds ms;
    loop = λ ms x. Rebinds ms;
    number = λ ms x. Rebinds ms;
    pattern = λ n x. Rebinds n.mentions;
    type_expr = λ ms x. Rebinds ms;
  }

  abbrev Parts : Carriers
  Parts = both mentions mentions rebinding

  abbrev MentionsPart : Type 0
  MentionsPart = (ms : Mentions) × (x : Mentions) × Rebinds ms

  abbrev NamesPart : Type 0
  NamesPart = (n : NamesBound) × (x : NamesBound) × Rebinds n.mentions

  -- two parts, of which the second one stands behind more names
  two : (ms ns : Mentions) → Rebinds ms → Rebinds ns → (new bound names : List (List ℕ)) → OthersMeet R bound names → AllMeet R (ms bound ++ ns (new ++ bound)) → AllMeet R (ms names ++ ns (new ++ names))
  two ms ns h k new bound names o l =
      let r = both_meet (ms bound) (ns (new ++ bound)) l in
      meet (ms names) (ns (new ++ names)) (h bound names o r.0) (k (new ++ bound) (new ++ names) (others_behind new bound names o) r.1)

  three : (ms ns os : Mentions) → Rebinds ms → Rebinds ns → Rebinds os → (bound names : List (List ℕ)) → OthersMeet R bound names → AllMeet R ((ms bound ++ ns bound) ++ os bound) → AllMeet R ((ms names ++ ns names) ++ os names)
  three ms ns os h k l bound names o q =
      let r = three_apart (ms bound) (ns bound) (os bound) q in
      three_meet (ms names) (ns names) (os names) (h bound names o r.0) (k bound names o r.1) (l bound names o r.2)

  each_rebinds : (ps : List MentionsPart) → Rebinds (all_mentions (map (λ (p : MentionsPart). p.0) ps))
  each_rebinds [] bound names o h = tt
  each_rebinds (p ∷ ps) bound names o h = two p.0 (all_mentions (map (λ (q : MentionsPart). q.0) ps)) p.2 (each_rebinds ps) [] bound names o h

  binders_rebind : (ps : List NamesPart) → Rebinds (binders_mentions (map (λ (p : NamesPart). p.0) ps))
  binders_rebind [] bound names o h = tt
  binders_rebind (p ∷ ps) bound names o h = two p.0.mentions (binders_mentions (map (λ (q : NamesPart). q.0) ps)) p.2 (binders_rebind ps) [] bound names o h

  value_rebinds : (name : List ℕ) → Rebinds (value_mention name)
  value_rebinds name bound names o h = by_in (is_in name bound) refl (is_in name names) refl h
    where
      by_in : (a : Bool) → is_in name bound ≡ a → (b : Bool) → is_in name names ≡ b → AllMeet R (if a then [] else mention AsValue name) → AllMeet R (if b then [] else mention AsValue name)
      by_in a q true k g = tt
      by_in true q false k g = (o name q k, tt)
      by_in false q false k g = g

  node_rebinds : (x : NodeLevel Parts) → Rebinds (mention_steps.node (map_node Parts mentions (firsts mentions mentions rebinding) x))
  node_rebinds (Node-F.Node::Number n) bound names o h = n.2 bound names o h
  node_rebinds (Node-F.Node::Bool b) bound names o h = tt
  node_rebinds (Node-F.Node::Array None es dots) bound names o h = each_rebinds es bound names o h
  node_rebinds (Node-F.Node::Array (Some t) es dots) bound names o h = two t.0 (all_mentions (map (λ (p : MentionsPart). p.0) es)) t.2 (each_rebinds es) [] bound names o h
  node_rebinds (Node-F.Node::Name name) bound names o h = value_rebinds name bound names o h
  node_rebinds (Node-F.Node::Member e a) bound names o h = h
  node_rebinds (Node-F.Call f parametric_args es) bound names o h =
      three (λ names. if is_text_function (kind_of_call f.name) then mention AsFunction f.name else []) (all_mentions (map (λ (p : MentionsPart). p.0) parametric_args)) (all_mentions (map (λ (p : MentionsPart). p.0) es))
      (λ bound names o h. h) (each_rebinds parametric_args) (each_rebinds es) bound names o h
  node_rebinds (Node-F.Node::Tuple es) bound names o h = each_rebinds es bound names o h
  node_rebinds (Node-F.Struct s fields None) bound names o h =
      three (λ names. mention AsStruct s.name) (all_mentions (map (λ (p : MentionsPart). p.0) fields)) (λ names. []) (λ bound names o h. h) (each_rebinds fields) (λ bound names o h. h) bound names o h
  node_rebinds (Node-F.Struct s fields (Some rest)) bound names o h =
      three (λ names. mention AsStruct s.name) (all_mentions (map (λ (p : MentionsPart). p.0) fields)) rest.0 (λ bound names o h. h) (each_rebinds fields) rest.2 bound names o h
  node_rebinds (Node-F.Block b) bound names o h = b.2 bound names o h
  node_rebinds (Node-F.If c a b) bound names o h = three c.0 a.0 b.0 c.2 a.2 b.2 bound names o h
  node_rebinds (Node-F.Match e arms) bound names o h = two e.0 (all_mentions (map (λ (p : MentionsPart). p.0) arms)) e.2 (each_rebinds arms) [] bound names o h
  node_rebinds (Node-F.For f) bound names o h = f.2 bound names o h
  node_rebinds (Node-F.Index e i) bound names o h = two e.0 i.0 e.2 i.2 [] bound names o h
  node_rebinds (Node-F.Slice e a b) bound names o h = three e.0 a.0 b.0 e.2 a.2 b.2 bound names o h
  node_rebinds (Node-F.Part e i t) bound names o h = three e.0 i.0 t.0 e.2 i.2 t.2 bound names o h
  node_rebinds (Node-F.Field e name) bound names o h = e.2 bound names o h
  node_rebinds (Node-F.Element e span k) bound names o h = e.2 bound names o h
  node_rebinds (Node-F.Prefix p e) bound names o h = e.2 bound names o h
  node_rebinds (Node-F.Cast e t) bound names o h = two e.0 t.0 e.2 t.2 [] bound names o h
  node_rebinds (Node-F.Binary p l r) bound names o h = two l.0 r.0 l.2 r.2 [] bound names o h

  type_rebinds : (x : TypeNodeLevel Parts) → Rebinds (mention_steps.type_node (map_type_node Parts mentions (firsts mentions mentions rebinding) x))
  type_rebinds (TypeNode-F.Bits s w) bound names o h = tt
  type_rebinds (TypeNode-F.Wide s e) bound names o h = e.2 bound names o h
  type_rebinds TypeNode-F.TypeNode::Bool bound names o h = tt
  type_rebinds (TypeNode-F.TypeNode::Name name) bound names o h = h
  type_rebinds (TypeNode-F.TypeNode::Tuple ts) bound names o h = each_rebinds ts bound names o h
  type_rebinds (TypeNode-F.TypeNode::Array t e) bound names o h = two t.0 e.0 t.2 e.2 [] bound names o h

  shape_rebinds : (x : ShapeLevel Parts) → Rebinds (mention_steps.shape (map_shape Parts mentions (firsts mentions mentions rebinding) x)).mentions
  shape_rebinds Shape-F.Wild bound names o h = tt
  shape_rebinds (Shape-F.Shape::Bool b) bound names o h = tt
  shape_rebinds (Shape-F.Shape::Number n) bound names o h = n.2 bound names o h
  shape_rebinds (Shape-F.Shape::Name name) bound names o h = h
  shape_rebinds (Shape-F.Shape::Member e a) bound names o h = h
  shape_rebinds (Shape-F.Shape::Tuple ps) bound names o h = binders_rebind ps bound names o h

  bind_rebinds : (x : LetLevel Parts) → Rebinds (mention_steps.bind (map_bind Parts mentions (firsts mentions mentions rebinding) x)).mentions
  bind_rebinds x = by_type x.ty
    where
      by_type : (t : Option MentionsPart) → Rebinds (mention_steps.bind (map_bind Parts mentions (firsts mentions mentions rebinding) (record { span = x.span; pattern = x.pattern; ty = t; value = x.value }))).mentions
      by_type None bound names o h = three (λ names. []) x.value.0 x.pattern.0.mentions (λ bound names o h. h) x.value.2 x.pattern.2 bound names o h
      by_type (Some t) bound names o h = three t.0 x.value.0 x.pattern.0.mentions t.2 x.value.2 x.pattern.2 bound names o h

  stmt_rebinds : (x : StmtLevel Parts) → Rebinds (mention_steps.stmt (map_stmt Parts mentions (firsts mentions mentions rebinding) x)).mentions
  stmt_rebinds (Stmt-F.Let l) = l.2
  stmt_rebinds (Stmt-F.Bare e) = e.2

  statements_rebind : (ss : List NamesPart) (last : Mentions) → Rebinds last → Rebinds (statements_mentions (map (λ (s : NamesPart). s.0) ss) last)
  statements_rebind [] last k bound names o h = k bound names o h
  statements_rebind (s ∷ ss) last k bound names o h = two s.0.mentions (statements_mentions (map (λ (q : NamesPart). q.0) ss) last) s.2 (statements_rebind ss last k) s.0.names bound names o h

  block_rebinds : (x : BlockLevel Parts) → Rebinds (mention_steps.block (map_block Parts mentions (firsts mentions mentions rebinding) x))
  block_rebinds x = by_value x.value
    where
      by_value : (v : Option MentionsPart) → Rebinds (mention_steps.block (map_block Parts mentions (firsts mentions mentions rebinding) (record { span = x.span; statements = x.statements; value = v })))
      by_value None bound names o h = statements_rebind x.statements (mentions_if None) (λ bound names o h. tt) bound names o h
      by_value (Some e) bound names o h = statements_rebind x.statements (mentions_if (Some e.0)) e.2 bound names o h

  loop_rebinds : (x : ForLevel Parts) → Rebinds (mention_steps.loop (map_loop Parts mentions (firsts mentions mentions rebinding) x))
  loop_rebinds x = by_type x.ty
    where
      whole : (typed : Mentions) → Rebinds typed → Rebinds (λ bound. (((((x.from.0 bound ++ x.to.0 bound) ++ x.start.0 bound) ++ typed bound) ++ x.index.0.mentions bound) ++ x.accumulator.0.mentions bound) ++ x.body.0 ((x.accumulator.0.names ++ x.index.0.names) ++ bound))
      whole typed t bound names o h =
          let ends : Mentions = λ b. (x.from.0 b ++ x.to.0 b) ++ x.start.0 b in
          let four : Mentions = λ b. ends b ++ typed b in
          let five : Mentions = λ b. four b ++ x.index.0.mentions b in
          let six : Mentions = λ b. five b ++ x.accumulator.0.mentions b in
          let first : Rebinds ends = λ b n p q. three x.from.0 x.to.0 x.start.0 x.from.2 x.to.2 x.start.2 b n p q in
          let second : Rebinds four = λ b n p q. two ends typed first t [] b n p q in
          let third : Rebinds five = λ b n p q. two four x.index.0.mentions second x.index.2 [] b n p q in
          let fourth : Rebinds six = λ b n p q. two five x.accumulator.0.mentions third x.accumulator.2 [] b n p q in
          two six x.body.0 fourth x.body.2 (x.accumulator.0.names ++ x.index.0.names) bound names o h

      by_type : (t : Option MentionsPart)
          → Rebinds (mention_steps.loop (map_loop Parts mentions (firsts mentions mentions rebinding) (record { index = x.index; accumulator = x.accumulator; ty = t; from = x.from; to = x.to; body = x.body; start = x.start })))
      by_type None bound names o h = whole (λ bound. []) (λ bound names o h. tt) bound names o h
      by_type (Some t) bound names o h = whole t.0 t.2 bound names o h

  number_rebinds : (x : NumberLevel Parts) → Rebinds (mention_steps.number (map_number Parts mentions (firsts mentions mentions rebinding) x))
  number_rebinds x = by_type x.ty
    where
      by_type : (t : Option MentionsPart) → Rebinds (mention_steps.number (map_number Parts mentions (firsts mentions mentions rebinding) (record { ty = t; is_negative = x.is_negative; value = x.value })))
      by_type None bound names o h = tt
      by_type (Some t) bound names o h = t.2 bound names o h

  field_rebinds : (x : FieldValueLevel Parts) → Rebinds (mention_steps.field (map_field Parts mentions (firsts mentions mentions rebinding) x))
  field_rebinds x = by_value x.value
    where
      by_value : (v : Option MentionsPart) → Rebinds (mention_steps.field (map_field Parts mentions (firsts mentions mentions rebinding) (record { name = x.name; value = v })))
      by_value None bound names o h = value_rebinds x.name.name bound names o h
      by_value (Some e) bound names o h = e.2 bound names o h

  arm_rebinds : (x : ArmLevel Parts) → Rebinds (mention_steps.arm (map_arm Parts mentions (firsts mentions mentions rebinding) x))
  arm_rebinds x bound names o h =
      two (binders_mentions (map (λ (p : NamesPart). p.0) x.patterns)) x.value.0 (binders_rebind x.patterns) x.value.2 (bound_behind (map (λ (p : NamesPart). p.0) x.patterns)) bound names o h

  all_rebind : KeepRelated mentions mentions rebinding mention_steps mention_steps
  all_rebind = record {
    stmt = stmt_rebinds;
    node = node_rebinds;
    shape = shape_rebinds;
    type_node = type_rebinds;
    block = block_rebinds;
    bind = bind_rebinds;
    arg = λ x. x.value.2;
    arm = arm_rebinds;
    expr = λ x. x.node.2;
    field = field_rebinds;
    loop = loop_rebinds;
    number = number_rebinds;
    pattern = λ x. x.shape.2;
    type_expr = λ x. x.node.2;
  }

  pub expression_rebinds : (e : Expr) → Rebinds (mentioned e)
  expression_rebinds = related_expr mentions mentions rebinding mention_steps mention_steps all_rebind

  pub pattern_rebinds : (p : Pattern) → Rebinds (fold_pattern mentions mention_steps p).mentions
  pattern_rebinds = related_pattern mentions mentions rebinding mention_steps mention_steps all_rebind

-- a test is such a claim
abbrev pub Passes : (Use → List ℕ → Bool) → Use → List ℕ → Type 0
Passes Q u name = Q u name ≡ true

pub used_meet : (Q : Use → List ℕ → Bool) (ms : List Mention) → AllUsed Q ms → AllMeet (Passes Q) ms
used_meet Q [] h = tt
used_meet Q (m ∷ ms) h = (h.0, used_meet Q ms h.1)

pub met_used : (Q : Use → List ℕ → Bool) (ms : List Mention) → AllMeet (Passes Q) ms → AllUsed Q ms
met_used Q [] h = tt
met_used Q (m ∷ ms) h = (h.0, met_used Q ms h.1)
