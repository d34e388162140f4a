-- The values of plain nodes behind others, and of a site.
use Rattle.std.proofs.Common.{◌≡◌, ℕ, ◌≤◌, ◌-◌, List, [], ◌∷◌, ◌++◌, length, get_or, true, Option, Some, refl, sym, ap, subst, ◌∙◌, arith, length-append}
use Rattle.std.specs.Prelude.{slice_get}
use Rattle.std.specs.List.{list_all}
use Rattle.std.proofs.lemmas.List.{append_assoc, append-nil, get_or_append_left, get_or-append_right}
use Rattle.xb_bits.specs.Word.{Word}
use Rattle.xb_value.specs.declared.value.Value.{Value}
use Rattle.xb_value.specs.Typing.{IsOfType}
use Rattle.delay_model.specs.declared.op.Op.{Op}
use Rattle.delay_model.specs.declared.op.Op.TheVariants as op
use Rattle.ir_tree.specs.declared.ir_type.IrType.{IrType}
use Rattle.ir_tree.specs.declared.node.Node.{Node}
use Rattle.ir_tree.specs.declared.node.Operand.{Operand}
use Rattle.ir_tree.specs.declared.node.Attributes.{Attributes}
use Rattle.ir_tree.specs.declared.node.Attributes.TheVariants as attributes
use Rattle.ir_tree.specs.declared.node.Role.TheVariants as role
use Rattle.ir_tree.specs.declared.package.Channel.{Channel}
use Rattle.ir_tree.specs.Activations.{sites_by, sites_of}
use Rattle.ir_tree.specs.Types.{ty_of}
use Rattle.ir_tree.specs.Constants.{no_value}
use Rattle.ir_tree.specs.NodeValues.{role_of, role_by, role_at, pure_value, no_word, Setting, role_value}
use Rattle.ir_tree.specs.NodeTypes.Types.{marks_of}
use Rattle.ir_tree.specs.Rules.Fitting.{types_behind}
use Rattle.ir_tree.specs.Rules.Lines.{is_there, is_literal_of}
use Rattle.ir_tree.proofs.Lemmas.Rules.Typed.Checked.{both_true}
use Rattle.ir_tree.proofs.Lemmas.Rules.Typed.Tests.{limited}
use Rattle.ir_tree.proofs.Lemmas.Rules.Typed.Scopes.{AreOperands, operands_typed}
use Rattle.ir_tree.proofs.Lemmas.Rules.Typed.Nodes.{HasChannel, node_typed}
use Rattle.ir_rebuild.specs.Built.{AreBuilt, AreValues, FitsAt, is_plain_op}
use Rattle.ir_rebuild.proofs.Lemmas.{at_place, pure_still}
use Rattle.ir_rebuild.specs.declared.putting.nodes.Nodes.{Nodes}
use Rattle.ir_rebuild.specs.Putting.Given.{GrowsTo}
use Rattle.ir_lower_nodes.specs.Acts.Activities.{ByWords, role_then, nodes_then}
use Rattle.ir_lower_nodes.proofs.Lemmas.Acts.{sites_append}
use Rattle.ir_lower_nodes.proofs.OnSteps.OnNodes.{value_kept, built_before, fits_last}

-- ---- one node more

last_value : (vs : List Value) (v : Value) (k : ℕ) → k ≡ length vs → get_or (vs ++ v ∷ []) k no_value ≡ v
last_value vs v k e =
    let within : length vs ≤ k = omega (arith, e) in
    let none : k - length vs ≡ 0 = omega (arith, e) in
    get_or-append_right vs (v ∷ []) (length vs) k no_value refl within ∙ ap (λ j. get_or (v ∷ []) j no_value) none

pub values_more : (state : IrType) (nodes : List Node) (n : Node) (s : Value) (values : List Value) (v : Value) → AreValues state nodes s values → length values ≡ length nodes → AreBuilt state (nodes ++ n ∷ []) → IsOfType (ty_of n.ty) v → (is_plain_op n.op ≡ true → v ≡ pure_value n s values) → AreValues state (nodes ++ n ∷ []) s (values ++ v ∷ [])
values_more state nodes n s values v h count built typed plain = record {
  opened = h.opened;
  typed = λ j m e.
      at_place (IsOfType (ty_of m.ty) (get_or (values ++ v ∷ []) j no_value)) nodes n j m e
      (λ less here. subst (IsOfType (ty_of m.ty)) (sym (get_or_append_left values (v ∷ []) no_value j (omega (arith, less, count)))) (h.typed j m here))
      (λ l. subst (IsOfType (ty_of m.ty)) (sym (last_value values v j (l.place ∙ sym count))) (subst (λ (x : Node). IsOfType (ty_of x.ty) v) l.item typed));
  plain = λ j m e p.
      at_place (get_or (values ++ v ∷ []) j no_value ≡ pure_value m s (values ++ v ∷ [])) nodes n j m e
      (λ less here.
      get_or_append_left values (v ∷ []) no_value j (omega (arith, less, count))
      ∙ (h.plain j m here p ∙ sym (same j m e (omega (arith, less, count)))))
      (λ l.
      last_value values v j (l.place ∙ sym count)
      ∙ (plain (ap (λ (x : Node). is_plain_op x.op) l.item ∙ p)
      ∙ (ap (λ (x : Node). pure_value x s values) l.item ∙ sym (same j m e (let at = l.place in omega (arith, at, count))))));
}
  where
    same : (j : ℕ) (m : Node) → slice_get (nodes ++ n ∷ []) j ≡ Some m → j ≤ length values → pure_value m s (values ++ v ∷ []) ≡ pure_value m s values
    same j m e le = pure_still (is_there j) s values (values ++ v ∷ []) (λ o there. value_kept s values (v ∷ []) j o le there) m (built.before j m e)

-- ---- a plain node

plain_at : (o : Op) (predicate : Option Operand) (c : ℕ) → is_plain_op o ≡ true → role_at o predicate c ≡ role.Pure
plain_at op.Receive predicate c h = absurd (cc)
plain_at op.Send predicate c h = absurd (cc)
plain_at o predicate c h = refl

plain_by : (o : Op) (a : Attributes) → is_plain_op o ≡ true → role_by o a ≡ role.Pure
plain_by o attributes.None h = refl
plain_by o (attributes.StartAndWidth start width) h = refl
plain_by o (attributes.Width width) h = refl
plain_by o (attributes.NewBitCount width) h = refl
plain_by o (attributes.Cases cases default) h = refl
plain_by o (attributes.Index i) h = refl
plain_by o (attributes.Indices i) h = refl
plain_by o (attributes.Value c) h = refl
plain_by o (attributes.Channel predicate c) h = plain_at o predicate c h

-- it is no site
pub plain_role : (n : Node) → is_plain_op n.op ≡ true → role_of n ≡ role.Pure
plain_role n h = plain_by n.op n.attributes h

abbrev no_channels : Value → Setting
no_channels s = record { channels = []; state = s; words = λ i. no_word }

-- what its operation gives is of its type
plain_typed : (state : IrType) (nodes : List Node) (n : Node) (s : Value) (values : List Value) → AreValues state nodes s values → length values ≡ length nodes → AreBuilt state (nodes ++ n ∷ []) → is_plain_op n.op ≡ true → IsOfType (ty_of n.ty) (pure_value n s values)
plain_typed state nodes n s values h count built plain =
    subst (IsOfType (ty_of n.ty)) (ap (role_value (no_channels s) values 0 n) (plain_role n plain))
    (node_typed (no_channels s) (types_behind state nodes) values 0 operands (λ c channel e. absurd (cc)) n (record {
      fits = fits.fits;
      literal = typed.1;
      limits = limited 0 n.ty 0 typed.0 fits.limits;
      channel = subst (HasChannel []) (sym (plain_role n plain)) tt;
    }))
  where
    fits : FitsAt state nodes (length nodes) n
    fits = fits_last state nodes n built plain

    typed : ((marks_of n.ty).sound ≡ true) × (is_literal_of n.ty n.attributes ≡ true)
    typed = both_true (marks_of n.ty).sound (is_literal_of n.ty n.attributes) fits.typed

    before : AreBuilt state nodes
    before = built_before state nodes (n ∷ []) built

    operands : AreOperands (types_behind state nodes) s values
    operands =
        operands_typed state s nodes values (record { value = h.opened; sound = before.sound })
        (record { count = count; each = λ i m e. record { value = h.typed i m e; sound = before.types i m e } })

-- ---- plain nodes

-- values of these nodes behind those that had values: whatever the rest is, it goes on from there
pub record PlainRun (ir : List Channel) (state : IrType) (all : List Node) (s : Value) (more : List Node) (values : List Value) : Type 0 where
  pub added : List Value
  pub are : AreValues state all s (values ++ added)
  pub count : length (values ++ added) ≡ length all
  pub gives : (rest : List Value → ByWords) (words : List Word) → nodes_then ir s more rest values words ≡ rest (values ++ added) words

pub plain_run : (ir : List Channel) (state : IrType) (s : Value) (more before : List Node) (values : List Value) → AreValues state before s values → length values ≡ length before → AreBuilt state (before ++ more) → list_all (λ (n : Node). is_plain_op n.op) more ≡ true → PlainRun ir state (before ++ more) s more values
plain_run ir state s [] before values h count built plain = record {
  added = [];
  are = subst (λ ns. AreValues state ns s (values ++ [])) (sym (append-nil before)) (subst (AreValues state before s) (sym (append-nil values)) h);
  count = ap length (append-nil values) ∙ (count ∙ sym (ap length (append-nil before)));
  gives = λ rest words. ap (λ vs. rest vs words) (sym (append-nil values));
}
plain_run ir state s (n ∷ ns) before values h count built plain =
    let both = both_true (is_plain_op n.op) (list_all (λ (n : Node). is_plain_op n.op) ns) plain in
    let v = pure_value n s values in
    let whole : AreBuilt state ((before ++ n ∷ []) ++ ns) = subst (AreBuilt state) (sym (append_assoc before (n ∷ []) ns)) built in
    let own = built_before state (before ++ n ∷ []) ns whole in
    let here = values_more state before n s values v h count own (plain_typed state before n s values h count own both.0) (λ p. refl) in
    let long : length (values ++ v ∷ []) ≡ length (before ++ n ∷ []) = omega (arith, count, length-append values (v ∷ []), length-append before (n ∷ [])) in
    let rest = plain_run ir state s ns (before ++ n ∷ []) (values ++ v ∷ []) here long whole both.1 in
    let same = append_assoc values (v ∷ []) rest.added in
    record {
      added = v ∷ rest.added;
      are = subst (λ ms. AreValues state ms s (values ++ v ∷ rest.added)) (append_assoc before (n ∷ []) ns) (subst (AreValues state ((before ++ n ∷ []) ++ ns) s) same rest.are);
      count = ap length (sym same) ∙ (rest.count ∙ ap length (append_assoc before (n ∷ []) ns));
      gives = λ later words.
          ap (λ r. role_then ir s n r (nodes_then ir s ns later) values words) (plain_role n both.0)
          ∙ (rest.gives later words ∙ ap (λ vs. later vs words) same);
    }

-- the same for nodes that grew
pub grown_run : (ir : List Channel) (old new : Nodes) (g : GrowsTo old new) (s : Value) (values : List Value) → AreValues old.state old.list.items s values → length values ≡ length old.list.items → PlainRun ir new.state new.list.items s g.extends.more values
grown_run ir old new g s values h count =
    subst (λ t. PlainRun ir t new.list.items s g.extends.more values) (sym g.state)
    (subst (λ ns. PlainRun ir old.state ns s g.extends.more values) (sym g.extends.are)
    (plain_run ir old.state s g.extends.more old.list.items values h count built g.extends.plain))
  where
    built : AreBuilt old.state (old.list.items ++ g.extends.more)
    built = subst (AreBuilt old.state) g.extends.are (subst (λ t. AreBuilt t new.list.items) g.state g.built)

-- ---- sites

pub plain_sites : (more : List Node) → list_all (λ (n : Node). is_plain_op n.op) more ≡ true → sites_of more ≡ []
plain_sites [] h = refl
plain_sites (n ∷ ns) h =
    let both = both_true (is_plain_op n.op) (list_all (λ (n : Node). is_plain_op n.op) ns) h in
    ap (λ r. sites_by r (sites_of ns)) (plain_role n both.0) ∙ plain_sites ns both.1

-- those of nodes that are no sites, of a node, and of nodes that are no sites
pub sites_between : (xs ys : List Node) (n : Node) → list_all (λ (n : Node). is_plain_op n.op) xs ≡ true → list_all (λ (n : Node). is_plain_op n.op) ys ≡ true → sites_of (xs ++ n ∷ ys) ≡ sites_by (role_of n) []
sites_between xs ys n h k = sites_append xs (n ∷ ys) ∙ (ap (λ zs. zs ++ sites_of (n ∷ ys)) (plain_sites xs h) ∙ ap (sites_by (role_of n)) (plain_sites ys k))
