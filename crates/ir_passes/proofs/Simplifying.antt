-- What is appended for a node behind normal nodes is normal.
use Rattle.std.proofs.Common.{◌≡◌, ℕ, ◌<◌, List, [], ◌∷◌, ◌++◌, map, length, Bool, true, false, ◌&&◌, Option, Some, None, refl, sym, ap, ap₂, subst, ◌∙◌, arith, Result, Ok, Err, IfOk}
use Rattle.std.specs.Prelude.{nat_eq, ◌||◌, if◌then◌else◌}
use Rattle.std.specs.List.{list_all}
use Rattle.std.proofs.lemmas.Bool.Decides.{nat_tests}
use Rattle.std.proofs.lemmas.List.{append-nil}
use Rattle.std.proofs.lemmas.List.Folds.{list_all-append}
use Rattle.delay_model.specs.declared.op.Op.{Op}
use Rattle.delay_model.specs.declared.op.Op.TheVariants as op
use Rattle.delay_model.specs.declared.op.Extend.TheVariants as extend
use Rattle.delay_model.specs.Signatures.{is_met, count_of}
use Rattle.ir_tree.specs.declared.ir_type.IrType.{IrType, Bits, Token}
use Rattle.ir_tree.specs.declared.ir_type.IrType.TheViews.{outs-Bits}
use Rattle.ir_tree.specs.declared.constant.Constant.{Constant}
use Rattle.ir_tree.specs.declared.node.Operand.{Operand}
use Rattle.ir_tree.specs.declared.node.Node.{Node}
use Rattle.ir_tree.specs.declared.node.Attributes.{Attributes}
use Rattle.ir_tree.specs.declared.node.Attributes.TheVariants as attributes
use Rattle.ir_tree.specs.NodeTypes.Types.{bits_width, width_there}
use Rattle.ir_tree.specs.Rules.Fitting.{type_in, type_or, types_behind, types_fit, predicate_fits, first_is_token, site_fits, is_literal}
use Rattle.ir_tree.specs.Rules.Lines.{is_there}
use Rattle.ir_rebuild.specs.Operands.{operands_in, attribute_operands, node_of}
use Rattle.ir_rebuild.specs.Built.{AreBuilt, FitsAt, is_plain_op, numbered}
use Rattle.ir_rebuild.proofs.Lemmas.{all_there, last_there}
use Rattle.ir_rebuild.specs.Normal.Origins.{made_by}
use Rattle.ir_rebuild.specs.Normal.Patterns.{is_literal_op as is_normal_literal_op, is_extension, width_if, extended_in, is_some, has_pattern}
use Rattle.ir_rebuild.specs.Normal.Normal.{is_literal_node, names_literal, all_literals, is_cases, chooses_one, IsNormalNode, AreNormal}
use Rattle.ir_rebuild.proofs.Lemmas.Normal.{AreOrdered, normal_more, literals_more, chooses_more}
use Rattle.pass_fold.specs.Folds.{is_literal_op, is_literal as is_literal_operand, are_folded, is_foldable, is_foldable_by, folded_value}
use Rattle.pass_fold.specs.Constants.{constant_of}
use Rattle.pass_fold.specs.Settled.{IsAppended, IsFolded, literal_node, settled_node}
use Rattle.pass_fold.specs.Folds as folds
use Rattle.pass_narrow.specs.Nodes.{extension_node}
use Rattle.pass_narrow.specs.Narrowing.{Narrows}
use Rattle.pass_narrow.specs.KeepsNormal.{IsNarrow, IsNarrowInside}
use Rattle.pass_narrow.specs.declared.rewritten_node.RewrittenNode.TheVariants as rewritten_node
use Rattle.ir_passes.specs.Undecided.{IsUndecided}

both : (a b : Bool) → a && b ≡ true → (a ≡ true) × (b ≡ true)
both true true h = (refl, refl)
both true false h = absurd (cc)
both false b h = absurd (cc)

-- ---- literals, in the words of both

same_op : (o : Op) → is_literal_op o ≡ is_normal_literal_op o
same_op op.Literal = refl
same_op _ = refl

same_node : (x : Option Node) → folds.is_literal_node x ≡ is_literal_node x
same_node None = refl
same_node (Some n) = same_op n.op

same_literal : (nodes : List Node) (o : Operand) → is_literal_operand nodes o ≡ names_literal nodes o
same_literal nodes o = same_node (node_of nodes o)

same_literals : (nodes : List Node) (os : List Operand) → list_all (is_literal_operand nodes) os ≡ list_all (names_literal nodes) os
same_literals nodes [] = refl
same_literals nodes (o ∷ os) = ap₂ (λ a b. a && b) (same_literal nodes o) (same_literals nodes os)

same_folded : (nodes : List Node) (os : List Operand) → are_folded nodes os ≡ all_literals nodes os
same_folded nodes [] = refl
same_folded nodes (o ∷ os) = same_literals nodes (o ∷ os)

-- ---- a node that isn't folded

and_true : (a : Bool) → a && true ≡ a
and_true true = refl
and_true false = refl

and_swap : (a b : Bool) → a && b ≡ b && a
and_swap true true = refl
and_swap true false = refl
and_swap false true = refl
and_swap false false = refl

with_index : (nodes : List Node) (os : List Operand) (i : Operand) → all_literals nodes (os ++ i ∷ []) ≡ names_literal nodes i && list_all (names_literal nodes) os
with_index nodes [] i = refl
with_index nodes (o ∷ os) i =
    list_all-append (names_literal nodes) (o ∷ os) (i ∷ [])
    ∙ ap (λ b. list_all (names_literal nodes) (o ∷ os) && b) (and_true (names_literal nodes i))
    ∙ and_swap (list_all (names_literal nodes) (o ∷ os)) (names_literal nodes i)

no_operands : (o : Op) (os : List Operand) → is_literal o ≡ true → is_met (count_of o) (length os) ≡ true → os ≡ []
no_operands op.Literal [] h m = refl
no_operands op.Literal (x ∷ xs) h m = absurd (grind (arith, nat_tests, m))
no_operands o os h m = absurd (cc)

no_site : (o : Op) (nodes : List Node) (os : List Operand) (t : IrType) (state : IrType) → is_plain_op o ≡ true → site_fits o None (types_behind state nodes) os t ≡ true → ⊥
no_site op.Receive nodes os t state p h = absurd (cc)
no_site op.Send nodes os t state p h = absurd (cc)
no_site o nodes os t state p h = absurd (cc)

unfolded_by : (state : IrType) (nodes : List Node) (n : Node) (a : Attributes) → is_plain_op n.op ≡ true → is_met (count_of n.op) (length n.operands) ≡ true → types_fit [] (types_behind state nodes) n a ≡ true → is_foldable_by nodes n.operands a ≡ false → is_cases a ≡ false → all_literals nodes (n.operands ++ attribute_operands a) ≡ false
unfolded_by state nodes n attributes.None p m f h c = ap (all_literals nodes) (append-nil n.operands) ∙ sym (same_folded nodes n.operands) ∙ h
unfolded_by state nodes n (attributes.StartAndWidth start width) p m f h c = ap (all_literals nodes) (append-nil n.operands) ∙ sym (same_folded nodes n.operands) ∙ h
unfolded_by state nodes n (attributes.Width width) p m f h c = ap (all_literals nodes) (append-nil n.operands) ∙ sym (same_folded nodes n.operands) ∙ h
unfolded_by state nodes n (attributes.NewBitCount width) p m f h c = ap (all_literals nodes) (append-nil n.operands) ∙ sym (same_folded nodes n.operands) ∙ h
unfolded_by state nodes n (attributes.Cases cases default) p m f h c = absurd (cc)
unfolded_by state nodes n (attributes.Index i) p m f h c = ap (all_literals nodes) (append-nil n.operands) ∙ sym (same_folded nodes n.operands) ∙ h
unfolded_by state nodes n (attributes.Indices i) p m f h c =
    with_index nodes n.operands i ∙ sym (ap₂ (λ a b. a && b) (same_literal nodes i) (same_literals nodes n.operands)) ∙ h
unfolded_by state nodes n (attributes.Value x) p m f h c = ap (all_literals nodes) (append-nil n.operands ∙ no_operands n.op n.operands f m)
unfolded_by state nodes n (attributes.Channel predicate x) p m f h c =
    absurd (no_site n.op nodes n.operands n.ty state p
    (both (first_is_token (types_behind state nodes) n.operands) (site_fits n.op None (types_behind state nodes) n.operands n.ty)
    (both (predicate_fits (types_behind state nodes) predicate) (first_is_token (types_behind state nodes) n.operands && site_fits n.op None (types_behind state nodes) n.operands n.ty) f).1).1)

unfolded : (state : IrType) (nodes : List Node) (n : Node) → FitsAt state nodes (length nodes) n → is_plain_op n.op ≡ true → is_foldable nodes n ≡ false → is_cases n.attributes ≡ false → all_literals nodes (operands_in n) ≡ false
unfolded state nodes n fits_at plain h c =
    let parts = both (is_met (count_of n.op) (length n.operands)) (types_fit [] (types_behind state nodes) n n.attributes) fits_at.fits in
    unfolded_by state nodes n n.attributes plain parts.0 parts.1 h c

-- and the other way round
not_foldable_by : (nodes : List Node) (os : List Operand) (a : Attributes) → all_literals nodes (os ++ attribute_operands a) ≡ false → is_foldable_by nodes os a ≡ false
not_foldable_by nodes os attributes.None h = same_folded nodes os ∙ sym (ap (all_literals nodes) (append-nil os)) ∙ h
not_foldable_by nodes os (attributes.StartAndWidth start width) h = same_folded nodes os ∙ sym (ap (all_literals nodes) (append-nil os)) ∙ h
not_foldable_by nodes os (attributes.Width width) h = same_folded nodes os ∙ sym (ap (all_literals nodes) (append-nil os)) ∙ h
not_foldable_by nodes os (attributes.NewBitCount width) h = same_folded nodes os ∙ sym (ap (all_literals nodes) (append-nil os)) ∙ h
not_foldable_by nodes os (attributes.Cases cases default) h = refl
not_foldable_by nodes os (attributes.Index i) h = same_folded nodes os ∙ sym (ap (all_literals nodes) (append-nil os)) ∙ h
not_foldable_by nodes os (attributes.Indices i) h = ap₂ (λ a b. a && b) (same_literal nodes i) (same_literals nodes os) ∙ sym (with_index nodes os i) ∙ h
not_foldable_by nodes os (attributes.Value x) h = refl
not_foldable_by nodes os (attributes.Channel predicate x) h = refl

pub not_foldable : (nodes : List Node) (n : Node) → all_literals nodes (operands_in n) ≡ false → is_foldable nodes n ≡ false
not_foldable nodes n h = not_foldable_by nodes n.operands n.attributes h

no_cases_chosen : (nodes : List Node) (os : List Operand) (a : Attributes) → is_cases a ≡ false → chooses_one nodes os a ≡ false
no_cases_chosen nodes os (attributes.Cases cases default) h = absurd (cc)
no_cases_chosen nodes os a h = refl

either : {A : Type 0} (b : Bool) → (b ≡ true → A) → (b ≡ false → A) → A
either true yes_case no_case = yes_case refl
either false yes_case no_case = no_case refl

-- ---- a node that is appended, or a literal

pub ordered : (state : IrType) (nodes : List Node) → AreBuilt state nodes → AreOrdered nodes
ordered state nodes built = built.before

pub literal_normal : (state : IrType) (nodes : List Node) (t : IrType) (c : Constant) → AreBuilt state nodes → AreNormal state nodes → AreNormal state (nodes ++ numbered (length nodes) (literal_node t c) ∷ [])
literal_normal state nodes t c built h =
    normal_more state nodes (literal_node t c) built.before h refl (λ plain. record { folded = refl; chosen = refl; narrowed = refl })

pub plain_normal : (state : IrType) (nodes : List Node) (n : Node) → FitsAt state nodes (length nodes) n → is_plain_op n.op ≡ true → is_foldable nodes n ≡ false → is_cases n.attributes ≡ false → has_pattern state nodes n ≡ false → IsNormalNode state nodes n
plain_normal state nodes n fits_at plain h c side = record {
  folded = unfolded state nodes n fits_at plain h c;
  chosen = no_cases_chosen nodes n.operands n.attributes c;
  narrowed = side;
}

-- a select that shows no choice
pub select_normal : (state : IrType) (old more : List Node) (n : Node) → list_all (is_there (length old)) (operands_in n) ≡ true → list_all (is_there (length old)) n.operands ≡ true → IsUndecided old n → is_cases n.attributes ≡ true → has_pattern state (old ++ more) n ≡ false → IsNormalNode state (old ++ more) n
select_normal state old more n there own h c side = record {
  folded = literals_more old more (operands_in n) there ∙ h.folded c;
  chosen = chooses_more old more n.operands n.attributes own ∙ h.chosen;
  narrowed = side;
}

pub more_normal : (state : IrType) (nodes : List Node) (n : Node) → AreBuilt state nodes → AreNormal state nodes → FitsAt state nodes (length nodes) n → IsNormalNode state nodes n → AreNormal state (nodes ++ numbered (length nodes) n ∷ [])
more_normal state nodes n built h fits_at own = normal_more state nodes n built.before h (all_there (length nodes) n fits_at.operands fits_at.attributes) (λ plain. own)

-- ---- what is settled

settled_literal : (nodes : List Node) (m : Node) → is_foldable nodes m ≡ true → settled_node nodes m ≡ literal_node m.ty (constant_of (folded_value nodes m))
settled_literal nodes m h = ap (λ b. if b then literal_node m.ty (constant_of (folded_value nodes m)) else m) h

pub settled_itself : (nodes : List Node) (m : Node) → is_foldable nodes m ≡ false → settled_node nodes m ≡ m
settled_itself nodes m h = ap (λ b. if b then literal_node m.ty (constant_of (folded_value nodes m)) else m) h

pub settled_normal : (state : IrType) (nodes new : List Node) (m : Node) (o : Operand) → AreBuilt state nodes → AreNormal state nodes → FitsAt state nodes (length nodes) m → (is_foldable nodes m ≡ false → IsNormalNode state nodes m) → IsFolded nodes new m o → AreNormal state new
settled_normal state nodes new m o built h fits_at own is =
    either (is_foldable nodes m)
    (λ yes.
    subst (AreNormal state) (sym (is.0 ∙ ap (λ x. nodes ++ numbered (length nodes) x ∷ []) (settled_literal nodes m yes)))
    (literal_normal state nodes m.ty (constant_of (folded_value nodes m)) built h))
    (λ no. subst (AreNormal state) (sym (is.0 ∙ ap (λ x. nodes ++ numbered (length nodes) x ∷ []) (settled_itself nodes m no))) (more_normal state nodes m built h fits_at (own no)))

-- a node that narrowing gave
node_normal : (state : IrType) (old mid : List Node) (n m : Node) → FitsAt state old (length old) n → IsUndecided old n → Narrows state old mid n (rewritten_node.Node m) → IsNarrow state mid n m → is_foldable mid m ≡ false → IsNormalNode state mid m
node_normal state old mid n m fits_at undecided narrows narrow free =
    either (is_cases m.attributes)
    (λ c.
    let same : m ≡ n = narrow.select c in
    let own : is_cases n.attributes ≡ true = ap (λ (x : Node). is_cases x.attributes) (sym same) ∙ c in
    let side : has_pattern state (old ++ narrows.extends.more) n ≡ false =
    ap (λ ns. has_pattern state ns n) (sym narrows.extends.are) ∙ ap (has_pattern state mid) (sym same) ∙ narrow.narrowed in
    let there = all_there (length old) n fits_at.operands fits_at.attributes in
    subst (IsNormalNode state mid) (sym same)
    (subst (λ ns. IsNormalNode state ns n) (sym narrows.extends.are) (select_normal state old narrows.extends.more n there fits_at.operands undecided own side)))
    (λ c. plain_normal state mid m narrows.stands.fits_at narrows.stands.plain free c narrow.narrowed)

pub node_simplifies : (state : IrType) (old mid new : List Node) (n m : Node) (o : Operand) → FitsAt state old (length old) n → IsUndecided old n → Narrows state old mid n (rewritten_node.Node m) → (AreNormal state old → AreNormal state mid × IsNarrow state mid n m) → IsFolded mid new m o → AreNormal state old → AreNormal state new
node_simplifies state old mid new n m o fits_at undecided narrows keeps folded h =
    let kept = keeps h in
    settled_normal state mid new m o narrows.built kept.0 narrows.stands.fits_at (node_normal state old mid n m fits_at undecided narrows kept.1) folded

-- ---- an extension of what was settled

same_width : (w : ℕ) → bits_width (Bits w []) ≡ w
same_width w = ap width_there (outs-Bits w [])

other_number : (w own : ℕ) → own < w → nat_eq w own ≡ false
other_number w own h = grind (arith, nat_tests, h)

not_extended : (state : IrType) (nodes : List Node) (x : Node) → is_extension extend.Zero x.op ≡ false → is_some (extended_in extend.Zero (made_by state nodes (Some x))) ≡ false
not_extended state nodes x h = ap (λ b. is_some (width_if b (map (type_in (types_behind state nodes)) x.operands))) h

or_none : (a b : Bool) → a ≡ false → b ≡ false → a || b ≡ false
or_none true b h k = absurd (cc)
or_none false b h k = k

extension_side : (state : IrType) (mid one : List Node) (y : Node) (o : Operand) (w own : ℕ) → IsAppended mid one y o → is_extension extend.Zero y.op ≡ false → y.ty ≡ Bits own [] → own < w → has_pattern state one (extension_node extend.Zero o w) ≡ false
extension_side state mid one y o w own is no_ext t less =
    subst (λ ns. has_pattern state ns (extension_node extend.Zero o w) ≡ false) (sym is.0)
    (subst (λ p. has_pattern state (mid ++ numbered (length mid) y ∷ []) (extension_node extend.Zero p w) ≡ false) (sym is.1)
    (or_none _ _
    (ap₂ nat_eq (same_width w) (ap bits_width (ap (type_or (Token [])) (last_there mid (numbered (length mid) y)) ∙ t) ∙ same_width own) ∙ other_number w own less)
    (ap (λ x. is_some (extended_in extend.Zero (made_by state (mid ++ numbered (length mid) y ∷ []) x))) (last_there mid (numbered (length mid) y))
    ∙ not_extended state (mid ++ numbered (length mid) y ∷ []) (numbered (length mid) y) no_ext)))

folded_side : (state : IrType) (mid one : List Node) (m : Node) (o : Operand) (w own : ℕ) → IsFolded mid one m o → is_extension extend.Zero m.op ≡ false → m.ty ≡ Bits own [] → own < w → has_pattern state one (extension_node extend.Zero o w) ≡ false
folded_side state mid one m o w own is no_ext t less =
    either (is_foldable mid m)
    (λ yes. extension_side state mid one (literal_node m.ty (constant_of (folded_value mid m))) o w own (subst (λ x. IsAppended mid one x o) (settled_literal mid m yes) is) refl t less)
    (λ no. extension_side state mid one m o w own (subst (λ x. IsAppended mid one x o) (settled_itself mid m no) is) no_ext t less)

pub longer_simplifies : (state : IrType) (old mid one new : List Node) (n m : Node) (w : ℕ) (o p : Operand) → Narrows state old mid n (rewritten_node.Extended m w) → (AreNormal state old → AreNormal state mid × IsNarrowInside state mid m) → AreBuilt state one →
    FitsAt state one (length one) (extension_node extend.Zero o w) → IsFolded mid one m o → IsFolded one new (extension_node extend.Zero o w) p → AreNormal state old → AreNormal state new
longer_simplifies state old mid one new n m w o p narrows keeps built fits_at first second h =
    let kept = keeps h in
    let inside = kept.1 in
    let x = extension_node extend.Zero o w in
    let middle : AreNormal state one = settled_normal state mid one m o narrows.built kept.0 narrows.stands.fits_at (λ free. plain_normal state mid m narrows.stands.fits_at narrows.stands.plain free inside.no_select inside.narrowed) first in
    let side = folded_side state mid one m o w narrows.stands.own first inside.no_extension narrows.stands.own_ty narrows.stands.fewer in
    settled_normal state one new x p built middle fits_at (λ free. plain_normal state one x fits_at refl free refl side) second

-- ---- what was appended for a node with zeros before it

pub with_premise : {A B E : Type 0} (P Q : B → Type 0) (r : Result B E) → IfOk r P → (A → IfOk r Q) → IfOk r (λ x. P x × (A → Q x))
with_premise P Q (Ok x) p f = (p, f)
with_premise P Q (Err e) p f = tt
