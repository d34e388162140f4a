-- What is built shows what decides where lines stand.
use Rattle.std.proofs.Common.{◌≡◌, List, [], ◌∷◌, drop, map, reverse, take, refl, sym, ap, ◌∙◌, append-nil}
use Rattle.std.proofs.lemmas.List.{drop-map, take-map}
use Rattle.base.specs.declared.grammar.bottom_up.Step.{Step}
use Rattle.base.specs.declared.grammar.bottom_up.Step.TheVariants.{Shift, Reduce}
use Rattle.dslx_token.specs.Lexeme.{Lexeme}
use Rattle.base.specs.Stacks.Tops.{top_or}
use Rattle.ir_tree.specs.declared.node.Node.{Node}
use Rattle.ir_tree.specs.declared.package.Proc.{Proc}
use Rattle.ir_builder.specs.declared.rule.Rule.{Rule}
use Rattle.ir_builder.specs.declared.rule.Rule.TheVariants.{Keep, Skip, Start, More, Name, Number, BitsElement, TokenElement, TupleElement, TypeOf, NumberValue, TupleValue, ArrayValue, StateOperand, NodeOperand, SomeOperand, NoOperand, PlainCall, SliceCall, DynamicCall, ExtendCall, SelCall, IndexCall, IndicesCall, LiteralCall, SiteChannel, SiteCall, ChannelId, Input, Output, Inner, ChannelOf, HeadOf, NodeOf, NextOf, ProcOf, PackageLine}
use Rattle.ir_builder.specs.declared.state.State.{State}
use Rattle.ir_builder.specs.Building.{built, reduced, rule_of, shifted}
use Rattle.ir_text.proofs.OnRoundTrip.Lists.{onto, onto_is}
use Rattle.ir_text.proofs.OnSpans.View.{NodeKey, ProcKey, View, proc_seen, seen, viewed}

abbrev pub key_of : Node → NodeKey
key_of n = record { id = n.id; op = n.op }

abbrev pub proc_key : Proc → ProcKey
proc_key p = record { name = p.name; nodes = map key_of p.nodes }

abbrev pub view : State → View
view s = record {
  tokens = s.tokens;
  counts = s.counts;
  names = s.names;
  nodes = map key_of s.nodes;
  node_spans = s.node_spans;
  channels = map (λ c. c.name) s.channels;
  channel_spans = s.channel_spans;
  heads = s.heads;
  nexts = s.nexts;
  procs = map proc_key s.procs;
  proc_spans = s.proc_spans;
}

-- ---- lists the other way round

map_onto : {T K : Type 0} (f : T → K) (xs ys : List T) → map f (onto xs ys) ≡ onto (map f xs) (map f ys)
map_onto f [] ys = refl
map_onto f (x ∷ xs) ys = map_onto f xs (x ∷ ys)

reversed : {T : Type 0} (xs : List T) → reverse xs ≡ onto xs []
reversed xs = sym (onto_is xs [] ∙ append-nil (reverse xs))

pub map_reversed : {T K : Type 0} (f : T → K) (xs : List T) → map f (reverse xs) ≡ reverse (map f xs)
map_reversed f xs = ap (map f) (reversed xs) ∙ map_onto f xs [] ∙ sym (reversed (map f xs))

-- ---- rules

proc_sees : (s : State) → view (reduced ProcOf s) ≡ seen ProcOf (view s)
proc_sees s =
    let count = top_or 0 s.counts in
    let others : map key_of (drop count s.nodes) ≡ drop count (map key_of s.nodes) = sym (drop-map key_of count s.nodes) in
    let nodes : map key_of (reverse (take count s.nodes)) ≡ reverse (take count (map key_of s.nodes)) =
    map_reversed key_of (take count s.nodes) ∙ ap reverse (sym (take-map key_of count s.nodes)) in
    λ i. proc_seen (nodes i) (reverse (take count s.node_spans)) (others i) (drop count s.node_spans) (view s)

sees : (r : Rule) (s : State) → view (reduced r s) ≡ seen r (view s)
sees Keep s = refl
sees (Skip count) s = refl
sees (More count) s = refl
sees Start s = refl
sees Name s = refl
sees Number s = refl
sees BitsElement s = refl
sees TokenElement s = refl
sees TupleElement s = refl
sees TypeOf s = refl
sees NumberValue s = refl
sees TupleValue s = refl
sees ArrayValue s = refl
sees StateOperand s = refl
sees NodeOperand s = refl
sees SomeOperand s = refl
sees NoOperand s = refl
sees PlainCall s = refl
sees SliceCall s = refl
sees DynamicCall s = refl
sees ExtendCall s = refl
sees SelCall s = refl
sees IndexCall s = refl
sees IndicesCall s = refl
sees LiteralCall s = refl
sees SiteChannel s = refl
sees SiteCall s = refl
sees ChannelId s = refl
sees Input s = refl
sees Output s = refl
sees Inner s = refl
sees ChannelOf s = refl
sees HeadOf s = refl
sees NodeOf s = refl
sees NextOf s = refl
sees ProcOf s = proc_sees s
sees PackageLine s = refl

-- ---- steps

pub views : (steps : List Step) (ls : List Lexeme) (s : State) → view (built steps ls s) ≡ viewed steps ls (view s)
unfolding built viewed
views [] ls s = refl
views (Shift ∷ steps) [] s = views steps [] s
views (Shift ∷ steps) (l ∷ ls) s = views steps ls (shifted l s)
views (Reduce p ∷ steps) ls s = views steps ls (reduced (rule_of p) s) ∙ ap (λ v. viewed steps ls v) (sees (rule_of p) s)
