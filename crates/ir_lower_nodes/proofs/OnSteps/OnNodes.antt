-- Nodes that are put behind others, sites or not.
use Rattle.std.proofs.Common.{◌≡◌, ℕ, suc, ◌<◌, ◌≤◌, List, [], ◌∷◌, ◌++◌, length, true, false, refl, sym, ap, subst, ◌∙◌, arith, length-append}
use Rattle.std.specs.Prelude.{slice_get, nat_lt}
use Rattle.std.specs.List.{list_all}
use Rattle.std.proofs.lemmas.Bool.Decides.{nat_tests}
use Rattle.std.proofs.lemmas.List.{append_assoc, append-nil, get_or_append_left}
use Rattle.std.proofs.lemmas.Option.{slice_get_within}
use Rattle.xb_value.specs.declared.value.Value.{Value}
use Rattle.ir_tree.specs.declared.ir_type.IrType.{IrType, Token}
use Rattle.ir_tree.specs.declared.node.Node.{Node}
use Rattle.ir_tree.specs.declared.node.Operand.{Operand}
use Rattle.ir_tree.specs.declared.node.Operand.TheVariants as operand
use Rattle.ir_tree.specs.Constants.{no_value}
use Rattle.ir_tree.specs.NodeValues.{operand_value}
use Rattle.ir_tree.specs.NodeTypes.Types.{marks_of}
use Rattle.ir_tree.specs.Rules.Fitting.{type_in, type_or, types_behind}
use Rattle.ir_tree.specs.Rules.Lines.{is_there}
use Rattle.ir_rebuild.specs.Built.{AreBuilt, AreValues, FitsAt, is_plain_op, numbered}
use Rattle.ir_rebuild.specs.Operands.{operands_in}
use Rattle.ir_rebuild.proofs.Lemmas.{there_more, type_more, values_before, before_more, last_there, at_place, placed_more, fits_still}
use Rattle.ir_rebuild.specs.declared.putting.nodes.Nodes.{Nodes}
use Rattle.ir_rebuild.specs.Putting.Given.{IsBuilt, IsNodeType, HasType, OperandsHaveTypes, GrowsTo, PutsNode}
use Rattle.ir_lower_nodes.specs.Exprs.Lowered.{bound_by}
use Rattle.ir_lower_nodes.specs.Steps.Steps.{AddsNodes}

-- ---- behind others

abbrev pub adds_none : (nodes : Nodes) → IsBuilt nodes → AddsNodes nodes nodes
adds_none nodes built = record { state = refl; built = built; more = []; are = sym (append-nil nodes.list.items) }

abbrev pub adds_grown : (old new : Nodes) → GrowsTo old new → AddsNodes old new
adds_grown old new g = record { state = g.state; built = g.built; more = g.extends.more; are = g.extends.are }

abbrev pub adds_twice : (a b c : Nodes) → AddsNodes a b → AddsNodes b c → AddsNodes a c
adds_twice a b c g h = record {
  state = h.state ∙ g.state;
  built = h.built;
  more = g.more ++ h.more;
  are = h.are ∙ ap (λ ns. ns ++ h.more) g.are ∙ append_assoc a.list.items g.more h.more;
}

pub longer : (old new : Nodes) → AddsNodes old new → length old.list.items ≤ length new.list.items
longer old new g =
    let both : length old.list.items ≤ length (old.list.items ++ g.more) = omega (arith, length-append old.list.items g.more) in
    subst (λ ns. length old.list.items ≤ length ns) (sym g.are) both

-- what an operand was before the nodes were added it still is
pub has_added : (old new : Nodes) (o : Operand) (t : IrType) → AddsNodes old new → HasType old o t → HasType new o t
has_added old new o t g h = record {
  there = there_more (length old.list.items) (length new.list.items) (longer old new g) o h.there;
  ty = ap (λ state. type_in (types_behind state new.list.items) o) g.state
      ∙ (ap (λ ns. type_in (types_behind old.state ns) o) g.are ∙ (type_more old.state old.list.items g.more o h.there ∙ h.ty));
  within = h.within;
}

pub have_added : (old new : Nodes) (os : List Operand) (ts : List IrType) → AddsNodes old new → OperandsHaveTypes old os ts → OperandsHaveTypes new os ts
have_added old new [] [] g h = tt
have_added old new [] (t ∷ ts) g h = h
have_added old new (o ∷ os) [] g h = h
have_added old new (o ∷ os) (t ∷ ts) g h = (has_added old new o t g h.0, have_added old new os ts g h.1)

pub values_added : (old new : Nodes) → AddsNodes old new → (s : Value) (values : List Value) → AreValues new.state new.list.items s values → AreValues old.state old.list.items s values
values_added old new g s values v =
    subst (λ t. AreValues t old.list.items s values) g.state
    (values_before new.state old.list.items g.more s values (subst (λ ns. AreValues new.state ns s values) g.are v))

-- ---- values behind others

below : (i n : ℕ) → nat_lt i n ≡ true → i < n
below i n h = grind (arith, nat_tests, h)

is_below : (i n : ℕ) → i < n → nat_lt i n ≡ true
is_below i n h = grind (arith, nat_tests, h)

pub value_kept : (s : Value) (values more : List Value) (k : ℕ) (o : Operand) → k ≤ length values → is_there k o ≡ true → operand_value s (values ++ more) o ≡ operand_value s values o
value_kept s values more k operand.State h e = refl
value_kept s values more k (operand.Node i) h e =
    let less = below i k e in
    get_or_append_left values more no_value i (omega (arith, less, h))

pub bound_kept : (nodes : Nodes) (os : List Operand) (ts : List IrType) (s : Value) (values more : List Value) → OperandsHaveTypes nodes os ts → length values ≡ length nodes.list.items → bound_by os s (values ++ more) ≡ bound_by os s values
bound_kept nodes [] ts s values more h count = refl
bound_kept nodes (o ∷ os) [] s values more h count = absurd h
bound_kept nodes (o ∷ os) (t ∷ ts) s values more h count =
    let first = value_kept s values more (length nodes.list.items) o (omega (arith, count)) h.0.there in
    let rest = bound_kept nodes os ts s values more h.1 count in
    λ i. first i ∷ rest i

-- ---- nodes before others

fits_before : (state : IrType) (xs ys : List Node) (j : ℕ) (n : Node) → j ≤ length xs → list_all (is_there j) (operands_in n) ≡ true → FitsAt state (xs ++ ys) j n → FitsAt state xs j n
fits_before state xs ys j n le there f = record {
  operands = f.operands;
  attributes = f.attributes;
  fits =
      sym (fits_still (is_there j) (types_behind state xs) (types_behind state (xs ++ ys)) (λ o e. type_more state xs ys o (there_more j (length xs) le o e)) [] n there)
      ∙ f.fits;
  typed = f.typed;
  limits = f.limits;
}

pub built_before : (state : IrType) (xs ys : List Node) → AreBuilt state (xs ++ ys) → AreBuilt state xs
built_before state xs ys h = record {
  sound = h.sound;
  numbered = λ j n e. h.numbered j n (before_more xs ys j n e);
  types = λ j n e. h.types j n (before_more xs ys j n e);
  before = λ j n e. h.before j n (before_more xs ys j n e);
  fits_at = λ j n e plain.
      let less = slice_get_within xs j n e in
      fits_before state xs ys j n (omega (arith, less)) (h.before j n (before_more xs ys j n e)) (h.fits_at j n (before_more xs ys j n e) plain);
}

-- what a plain node that stands behind these fits
pub fits_last : (state : IrType) (xs : List Node) (n : Node) → AreBuilt state (xs ++ n ∷ []) → is_plain_op n.op ≡ true → FitsAt state xs (length xs) n
fits_last state xs n h plain =
    fits_before state xs (n ∷ []) (length xs) n (omega arith) (h.before (length xs) n (last_there xs n)) (h.fits_at (length xs) n (last_there xs n) plain)

-- ---- a site

-- a node that is put between nodes that are no sites
abbrev pub adds_between : (s0 s2 s3 s9 : Nodes) (n : Node) (g : GrowsTo s0 s2) → s3.state ≡ s2.state → s3.list.items ≡ s2.list.items ++ n ∷ [] → (k : GrowsTo s3 s9) → AddsNodes s0 s9
adds_between s0 s2 s3 s9 n g state list k = record {
  state = k.state ∙ (state ∙ g.state);
  built = k.built;
  more = g.extends.more ++ n ∷ k.extends.more;
  are =
      k.extends.are ∙ (ap (λ ns. ns ++ k.extends.more) (list ∙ ap (λ ns. ns ++ n ∷ []) g.extends.are)
      ∙ (append_assoc (s0.list.items ++ g.extends.more) (n ∷ []) k.extends.more ∙ append_assoc s0.list.items g.extends.more (n ∷ k.extends.more)));
}

site_built : (state : IrType) (nodes : List Node) (n : Node) → AreBuilt state nodes → is_plain_op n.op ≡ false → (marks_of n.ty).sound ≡ true → list_all (is_there (length nodes)) (operands_in n) ≡ true → AreBuilt state (nodes ++ numbered (length nodes) n ∷ [])
site_built state nodes n h site sound there = record {
  sound = h.sound;
  numbered = λ j m e.
      at_place (m.id ≡ suc j) nodes (numbered (length nodes) n) j m e (λ less here. h.numbered j m here)
      (λ l. ap (λ (x : Node). x.id) (sym l.item) ∙ ap suc (sym l.place));
  types = λ j m e.
      at_place ((marks_of m.ty).sound ≡ true) nodes (numbered (length nodes) n) j m e (λ less here. h.types j m here)
      (λ l. ap (λ (x : Node). (marks_of x.ty).sound) (sym l.item) ∙ sound);
  before = λ j m e.
      at_place (list_all (is_there j) (operands_in m) ≡ true) nodes (numbered (length nodes) n) j m e (λ less here. h.before j m here)
      (λ l. subst (λ i. list_all (is_there i) (operands_in m) ≡ true) (sym l.place) (ap (λ (x : Node). list_all (is_there (length nodes)) (operands_in x)) (sym l.item) ∙ there));
  fits_at = λ j m e plain.
      at_place (FitsAt state (nodes ++ numbered (length nodes) n ∷ []) j m) nodes (numbered (length nodes) n) j m e
      (λ less here. placed_more state nodes (numbered (length nodes) n ∷ []) j m (omega (arith, less)) (h.fits_at j m here plain))
      (λ l. let both : false ≡ true = sym site ∙ (ap (λ (x : Node). is_plain_op x.op) l.item ∙ plain) in absurd (cc));
}

-- a site behind others: all are built, and its operand has the type of what it gives
pub site_put : (old new : Nodes) (n : Node) (o : Operand) → IsBuilt old → PutsNode old new n o → is_plain_op n.op ≡ false → (marks_of n.ty).sound ≡ true → list_all (is_there (length old.list.items)) (operands_in n) ≡ true → AddsNodes old new
site_put old new n o built p site sound there = record {
  state = p.state;
  built = subst (λ t. AreBuilt t new.list.items) (sym p.state) (subst (AreBuilt old.state) (sym p.list) (site_built old.state old.list.items n built site sound there));
  more = numbered (length old.list.items) n ∷ [];
  are = p.list;
}

pub site_has : (old new : Nodes) (n : Node) (o : Operand) → PutsNode old new n o → IsNodeType n.ty → HasType new o n.ty
site_has old new n o p within = record {
  there = subst (λ x. is_there (length new.list.items) x ≡ true) (sym p.is) (subst (λ ns. is_there (length ns) (operand.Node (length old.list.items)) ≡ true) (sym p.list) here);
  ty = ap (type_in (types_behind new.state new.list.items)) p.is ∙ (ap (λ ns. type_or (Token []) (slice_get ns (length old.list.items))) p.list ∙ ap (type_or (Token [])) (last_there old.list.items (numbered (length old.list.items) n)));
  within = within;
}
  where
    here : nat_lt (length old.list.items) (length (old.list.items ++ numbered (length old.list.items) n ∷ [])) ≡ true
    here =
        let long = length-append old.list.items (numbered (length old.list.items) n ∷ []) in
        let less : length old.list.items < length (old.list.items ++ numbered (length old.list.items) n ∷ []) = omega (arith, long) in
        is_below (length old.list.items) (length (old.list.items ++ numbered (length old.list.items) n ∷ [])) less
