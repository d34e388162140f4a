-- What is done alike, said otherwise, and one thing after another.
use Rattle.std.proofs.Common.{◌≡◌, List, [], ◌++◌, map, true, Some, refl, sym, ap, subst, ◌∙◌}
use Rattle.std.proofs.lemmas.List.{append_assoc}
use Rattle.xb_bits.specs.Word.{Word}
use Rattle.xb_value.specs.declared.ty.Ty.{Ty}
use Rattle.xb_value.specs.declared.value.Value.{Value}
use Rattle.xb_value.specs.Typing.{IsOfType}
use Rattle.net_core.specs.declared.net.Site.{Site}
use Rattle.ir_tree.specs.declared.ir_type.IrType.{Token}
use Rattle.ir_tree.specs.declared.node.Operand.{Operand}
use Rattle.ir_tree.specs.declared.package.Channel.{Channel}
use Rattle.ir_tree.specs.Activations.{sites_of}
use Rattle.ir_rebuild.specs.Built.{AreValues}
use Rattle.ir_rebuild.specs.declared.putting.nodes.Nodes.{Nodes}
use Rattle.ir_rebuild.specs.Putting.Types.{ir_type_of}
use Rattle.ir_rebuild.specs.Putting.Given.{IsBuilt, HasType, OperandsHaveTypes, GrowsTo}
use Rattle.dslx_core.specs.CoreValues.{Bindings}
use Rattle.dslx_core.specs.Designs.{Behind, apart_then, go_behind}
use Rattle.dslx_core.specs.declared.expr.Shape.{Shape}
use Rattle.dslx_core.specs.Types.Sound.{AreOfTypes}
use Rattle.dslx_core.specs.Types.Typing.{binds_types}
use Rattle.ir_lower_nodes.specs.Patterns.Shapes.{parts_of}
use Rattle.ir_lower_nodes.proofs.Lemmas.Patterns.{always_apart}
use Rattle.ir_lower_nodes.specs.Exprs.Lowered.{bound_by}
use Rattle.ir_lower_nodes.specs.Acts.Activities.{ByWords, nodes_then, word_width, DoAlike}
use Rattle.ir_lower_nodes.specs.Steps.Steps.{DoLowered}
use Rattle.ir_lower_nodes.proofs.OnSteps.OnNodes.{adds_none, adds_grown, adds_twice, bound_kept}
use Rattle.ir_lower_nodes.proofs.Lemmas.Acts.{alike_as, nodes_append, sites_append}
use Rattle.ir_lower_nodes.proofs.OnSteps.OnRuns.{grown_run, plain_sites}

-- ---- said otherwise

-- a value whose pattern always fits is taken apart
pub apart_now : (shape : Shape) (t : Ty) (types us : List Ty) (x : Value) (rest : Behind) (bound : Bindings) (words : List Word) → IsOfType t x → AreOfTypes types bound → binds_types true shape t types ≡ Some us → apart_then shape rest bound (Some x) words ≡ rest (bound ++ parts_of shape x) words
apart_now shape t types us x rest bound words typed each binds = ap (λ o. go_behind rest o words) (always_apart shape t types us x bound typed each binds)

-- ---- nodes that are no sites

pub plain_lowered : (ir : List Channel) (f : Behind → Behind) (before after : List Operand) (old new : Nodes) (token : Operand) (types us : List Ty) → (g : GrowsTo old new) → OperandsHaveTypes old before (map ir_type_of types) → OperandsHaveTypes new after (map ir_type_of us) → HasType new token (Token [])
    → ((s : Value) (all : List Value) → AreValues new.state new.list.items s all → (rest : Behind) (words : List Word) → f rest (bound_by before s all) words ≡ rest (bound_by after s all) words)
    → DoLowered ir [] f before after old new token us
plain_lowered ir f before after old new token types us g have have_now has same = record {
  adds = adds_grown old new g;
  have = have_now;
  has = has;
  listed = plain_sites g.extends.more g.extends.plain;
  alike = λ s values v count rest nodes more h.
      let run = grown_run ir old new g s values v count in
      alike_as (word_width ir) more (rest (bound_by after s (values ++ run.added))) (nodes (values ++ run.added)) (f rest (bound_by before s values)) (nodes_then ir s g.extends.more nodes values)
      (λ words. ap (λ bound. f rest bound words) (sym (bound_kept old before (map ir_type_of types) s values run.added have count)) ∙ same s (values ++ run.added) run.are rest words)
      (λ words. run.gives nodes words)
      (h (values ++ run.added) run.are run.count);
}

-- ---- nothing, and one thing after another

pub nothing_lowered : (ir : List Channel) (before : List Operand) (nodes : Nodes) (token : Operand) (us : List Ty) → IsBuilt nodes → OperandsHaveTypes nodes before (map ir_type_of us) → HasType nodes token (Token []) → DoLowered ir [] (λ rest. rest) before before nodes nodes token us
nothing_lowered ir before nodes token us built have has = record {
  adds = adds_none nodes built;
  have = have;
  has = has;
  listed = refl;
  alike = λ s values v count rest later more h. h values v count;
}

pub lowered_twice : (ir : List Channel) (sites others : List Site) (f g : Behind → Behind) (before some after : List Operand) (a b c : Nodes) (first last : Operand) (ts us : List Ty) → DoLowered ir sites f before some a b first ts → DoLowered ir others g some after b c last us → DoLowered ir (sites ++ others) (λ rest. f (g rest)) before after a c last us
lowered_twice ir sites others f g before some after a b c first last ts us h k = record {
  adds = adds_twice a b c h.adds k.adds;
  have = k.have;
  has = k.has;
  listed = sites_append h.adds.more k.adds.more ∙ (ap (λ xs. xs ++ sites_of k.adds.more) h.listed ∙ ap (λ xs. sites ++ xs) k.listed);
  alike = λ s values v count rest nodes more call.
      subst (λ xs. DoAlike (word_width ir) xs (f (g rest) (bound_by before s values)) (nodes_then ir s (h.adds.more ++ k.adds.more) nodes values)) (sym (append_assoc sites others more))
      (subst (λ (run : List Value → ByWords). DoAlike (word_width ir) (sites ++ (others ++ more)) (f (g rest) (bound_by before s values)) (run values)) (sym (nodes_append ir s h.adds.more k.adds.more nodes))
      (h.alike s values v count (g rest) (nodes_then ir s k.adds.more nodes) (others ++ more) (λ all are many. k.alike s all are many rest nodes more call)));
}
