-- Lists of a package whose text is short are short.
use Rattle.std.proofs.Common.{◌≡◌, ◌<◌, ◌≤◌, ℕ, ◌+◌, ◌^◌, Bool, true, ◌&&◌, List, [], ◌∷◌, ◌++◌, map, length, codes, decimal, refl, sym, ap, subst, ◌∙◌, arith, length-append}
use Rattle.std.specs.Prelude.{nat_lt}
use Rattle.std.specs.List.{list_all}
use Rattle.std.proofs.lemmas.Bool.{and_parts, and_from}
use Rattle.std.proofs.lemmas.Bool.Decides.{nat_tests}
use Rattle.std.proofs.lemmas.List.{length-map}
use Rattle.xb_value.specs.Text.{listed}
use Rattle.xb_value.proofs.Lemmas.Types.{EachHas}
use Rattle.ir_tree.specs.declared.constant.Constant.{Constant}
use Rattle.ir_tree.specs.declared.ir_type.IrType.{IrType}
use Rattle.ir_tree.specs.declared.node.Attributes.{Attributes}
use Rattle.ir_tree.specs.declared.node.Attributes.TheVariants as attributes
use Rattle.ir_tree.specs.declared.node.Node.{Node}
use Rattle.ir_tree.specs.declared.node.Operand.{Operand}
use Rattle.ir_tree.specs.declared.package.Channel.{Channel}
use Rattle.ir_tree.specs.declared.package.Proc.{Proc}
use Rattle.ir_tree.proofs.Lemmas.NodeTypes.IrTypes as types
use Rattle.ir_tree.proofs.Lemmas.Rules.Typed.Tests.{type_induction}
use Rattle.ir_text.specs.Printer.Parts.{constant_step, constant_text, node_name, operand_text, operands_text, sizes_text, type_step, type_text}
use Rattle.ir_text.specs.Printer.Lines.{attributes_text, channel_id, channel_kind, channel_start, channel_text, default_text, lines_text, node_call, node_end, node_start, node_text, proc_end, proc_init, proc_start, proc_text}
use Rattle.ir_text.specs.RoundTrip.InRange.{all_true, attributes_in_range, constant_in_range, constant_range_step, is_held, node_in_range, type_in_range, type_range_step}
use Rattle.ir_text.proofs.OnRoundTrip.Writable.{channel_writable, is_one_word, proc_writable}
use Rattle.ir_text.proofs.OnRoundTrip.Held.{are_held, attributes_held, channel_held, constant_held, constant_held_step, is_short, node_held, proc_held, type_held, type_held_step}
use Rattle.ir_text.proofs.OnRoundTrip.ValueTexts as values
use Rattle.ir_text.proofs.OnRoundTrip.ValueTexts.{constant_induction}

abbrev pub IsBrief : List ℕ → Type 0
IsBrief text = length text < 2 ^ 32

-- the parts of a short text are short
pub parts_brief : (a b : List ℕ) → IsBrief (a ++ b) → IsBrief a × IsBrief b
parts_brief a b h = let both = length-append a b in (omega (arith, both, h), omega (arith, both, h))

short_list : {A : Type 0} (xs : List A) (n : ℕ) → length xs ≤ n + 1 → n < 2 ^ 32 → is_short xs ≡ true
short_list xs n less few = below (length xs) (omega (arith, less, few))
  where
    below : (m : ℕ) → m < 2 ^ 64 → nat_lt m (2 ^ 64) ≡ true
    below m h = grind (arith, nat_tests)

-- ---- types

sizes_count : (ns : List ℕ) → length ns ≤ length (sizes_text ns)
sizes_count [] = omega arith
sizes_count (n ∷ ns) =
    let rest = sizes_count ns in
    let both = length-append (sizes_text ns) (91 ∷ (decimal n ++ (93 ∷ []))) in
    omega (arith, rest, both)

sizes_brief : (ns : List ℕ) → list_all is_held ns ≡ true → IsBrief (sizes_text ns) → are_held ns ≡ true
sizes_brief ns held h = and_from _ _ held (short_list ns (length (sizes_text ns)) (let count = sizes_count ns in omega (arith, count)) h)

more_count : (ts : List (List ℕ)) → length ts ≤ length (listed (codes ", ") ts)
more_count [] = omega arith
more_count (t ∷ ts) =
    let rest = more_count ts in
    let both = length-append t (listed (codes ", ") ts) in
    omega (arith, rest, both)

listed_count : (ts : List (List ℕ)) → length ts ≤ length (listed [] ts) + 1
listed_count [] = omega arith
listed_count (t ∷ ts) =
    let rest = more_count ts in
    let both = length-append t (listed (codes ", ") ts) in
    omega (arith, rest, both)

-- so many texts, listed, are of so many things
listed_short : {A : Type 0} (f : A → List ℕ) (xs : List A) → IsBrief (listed [] (map f xs)) → is_short xs ≡ true
listed_short f xs h =
    let count = listed_count (map f xs) in
    let same = length-map xs f in
    short_list xs (length (listed [] (map f xs))) (omega (arith, count, same)) h

mapped_short : {A : Type 0} (f : A → Bool) (xs : List A) → is_short xs ≡ true → is_short (map f xs) ≡ true
mapped_short f xs h = ap (λ n. nat_lt n (2 ^ 64)) (length-map xs f) ∙ h

abbrev TypeHeld : IrType → Type 0
TypeHeld t = type_in_range t ≡ true → IsBrief (type_text t) → type_held t ≡ true

more_types : (ts : List IrType) → EachHas TypeHeld ts → all_true (map type_in_range ts) ≡ true → IsBrief (listed (codes ", ") (map type_text ts)) → all_true (map type_held ts) ≡ true
more_types [] each range h = refl
more_types (t ∷ ts) each range h =
    let parts = and_parts (type_in_range t) (all_true (map type_in_range ts)) range in
    let a = parts_brief (codes ", ") (type_text t ++ listed (codes ", ") (map type_text ts)) h in
    let b = parts_brief (type_text t) (listed (codes ", ") (map type_text ts)) a.1 in
    and_from _ _ (each.0 parts.0 b.0) (more_types ts each.1 parts.1 b.1)

all_types : (ts : List IrType) → EachHas TypeHeld ts → all_true (map type_in_range ts) ≡ true → IsBrief (listed [] (map type_text ts)) → all_true (map type_held ts) ≡ true
all_types [] each range h = refl
all_types (t ∷ ts) each range h =
    let parts = and_parts (type_in_range t) (all_true (map type_in_range ts)) range in
    let b = parts_brief (type_text t) (listed (codes ", ") (map type_text ts)) h in
    and_from _ _ (each.0 parts.0 b.0) (more_types ts each.1 parts.1 b.1)

type_brief : (t : IrType) → TypeHeld t
type_brief = type_induction TypeHeld
    (λ w ns range h.
    let parts = and_parts (is_held w) (list_all is_held ns) (sym (types.fold-Bits Bool type_range_step w ns) ∙ range) in
    let a = parts_brief (codes "bits[") (decimal w ++ (codes "]" ++ sizes_text ns)) (subst IsBrief (types.fold-Bits (List ℕ) type_step w ns) h) in
    let b = parts_brief (decimal w) (codes "]" ++ sizes_text ns) a.1 in
    let c = parts_brief (codes "]") (sizes_text ns) b.1 in
    types.fold-Bits Bool type_held_step w ns ∙ and_from _ _ parts.0 (sizes_brief ns parts.1 c.1))
    (λ ns range h.
    let a = parts_brief (codes "token") (sizes_text ns) (subst IsBrief (types.fold-Token (List ℕ) type_step ns) h) in
    types.fold-Token Bool type_held_step ns ∙ sizes_brief ns (sym (types.fold-Token Bool type_range_step ns) ∙ range) a.1)
    (λ ts ns each range h.
    let parts = and_parts (all_true (map type_in_range ts)) (list_all is_held ns) (sym (types.fold-Tuple Bool type_range_step ts ns) ∙ range) in
    let a = parts_brief (codes "(") (listed [] (map type_text ts) ++ (codes ")" ++ sizes_text ns)) (subst IsBrief (types.fold-Tuple (List ℕ) type_step ts ns) h) in
    let b = parts_brief (listed [] (map type_text ts)) (codes ")" ++ sizes_text ns) a.1 in
    let c = parts_brief (codes ")") (sizes_text ns) b.1 in
    types.fold-Tuple Bool type_held_step ts ns
    ∙ and_from _ _ (and_from _ _ (all_types ts each parts.0 b.0) (mapped_short type_held ts (listed_short type_text ts b.0))) (sizes_brief ns parts.1 c.1))

-- ---- constants

abbrev ConstantHeld : Constant → Type 0
ConstantHeld v = constant_in_range v ≡ true → IsBrief (constant_text v) → constant_held v ≡ true

more_values : (vs : List Constant) → EachHas ConstantHeld vs → all_true (map constant_in_range vs) ≡ true → IsBrief (listed (codes ", ") (map constant_text vs)) → all_true (map constant_held vs) ≡ true
more_values [] each range h = refl
more_values (v ∷ vs) each range h =
    let parts = and_parts (constant_in_range v) (all_true (map constant_in_range vs)) range in
    let a = parts_brief (codes ", ") (constant_text v ++ listed (codes ", ") (map constant_text vs)) h in
    let b = parts_brief (constant_text v) (listed (codes ", ") (map constant_text vs)) a.1 in
    and_from _ _ (each.0 parts.0 b.0) (more_values vs each.1 parts.1 b.1)

all_values : (vs : List Constant) → EachHas ConstantHeld vs → all_true (map constant_in_range vs) ≡ true → IsBrief (listed [] (map constant_text vs)) → all_true (map constant_held vs) ≡ true
all_values [] each range h = refl
all_values (v ∷ vs) each range h =
    let parts = and_parts (constant_in_range v) (all_true (map constant_in_range vs)) range in
    let b = parts_brief (constant_text v) (listed (codes ", ") (map constant_text vs)) h in
    and_from _ _ (each.0 parts.0 b.0) (more_values vs each.1 parts.1 b.1)

constant_brief : (v : Constant) → ConstantHeld v
constant_brief = constant_induction ConstantHeld
    (λ n range h. values.fold-Number Bool constant_held_step n ∙ sym (values.fold-Number Bool constant_range_step n) ∙ range)
    (λ vs each range h.
    let a = parts_brief (codes "(") (listed [] (map constant_text vs) ++ codes ")") (subst IsBrief (values.fold-Tuple (List ℕ) constant_step vs) h) in
    let b = parts_brief (listed [] (map constant_text vs)) (codes ")") a.1 in
    values.fold-Tuple Bool constant_held_step vs
    ∙ and_from _ _ (all_values vs each (sym (values.fold-Tuple Bool constant_range_step vs) ∙ range) b.0) (mapped_short constant_held vs (listed_short constant_text vs b.0)))
    (λ vs each range h.
    let a = parts_brief (codes "[") (listed [] (map constant_text vs) ++ codes "]") (subst IsBrief (values.fold-Array (List ℕ) constant_step vs) h) in
    let b = parts_brief (listed [] (map constant_text vs)) (codes "]") a.1 in
    values.fold-Array Bool constant_held_step vs
    ∙ and_from _ _ (all_values vs each (sym (values.fold-Array Bool constant_range_step vs) ∙ range) b.0) (mapped_short constant_held vs (listed_short constant_text vs b.0)))

-- ---- nodes

attributes_brief : (channels : List Channel) (nodes : List Node) (a : Attributes) → attributes_in_range a ≡ true → IsBrief (attributes_text channels nodes a) → attributes_held a ≡ true
attributes_brief channels nodes attributes.None range h = refl
attributes_brief channels nodes (attributes.StartAndWidth start width) range h = range
attributes_brief channels nodes (attributes.Width width) range h = range
attributes_brief channels nodes (attributes.NewBitCount width) range h = range
attributes_brief channels nodes (attributes.Cases cases default) range h =
    let a = parts_brief (codes "cases=[") (listed [] (map (operand_text nodes) cases) ++ (codes "], " ++ default_text nodes default)) h in
    let b = parts_brief (listed [] (map (operand_text nodes) cases)) (codes "], " ++ default_text nodes default) a.1 in
    listed_short (operand_text nodes) cases b.0
attributes_brief channels nodes (attributes.Index i) range h = range
attributes_brief channels nodes (attributes.Indices o) range h = refl
attributes_brief channels nodes (attributes.Value v) range h =
    let a = parts_brief (codes "value=") (constant_text v ++ codes ", ") h in
    constant_brief v range (parts_brief (constant_text v) (codes ", ") a.1).0
attributes_brief channels nodes (attributes.Channel predicate place) range h = refl

operands_count : (nodes : List Node) (os : List Operand) → length os ≤ length (operands_text nodes os)
operands_count nodes [] = omega arith
operands_count nodes (o ∷ os) =
    let rest = operands_count nodes os in
    let both = length-append (operand_text nodes o) (44 ∷ 32 ∷ operands_text nodes os) in
    omega (arith, rest, both)

node_brief : (channels : List Channel) (nodes : List Node) (n : Node) → node_in_range n ≡ true → IsBrief (node_text channels nodes n) → node_held n ≡ true
unfolding node_start
node_brief channels nodes n range h =
    let first = and_parts (nat_lt n.id (2 ^ 32) && type_in_range n.ty) (attributes_in_range n.attributes) range in
    let one = and_parts (nat_lt n.id (2 ^ 32)) (type_in_range n.ty) first.0 in
    let a = parts_brief (node_start n) (node_call n ++ (operands_text nodes n.operands ++ (attributes_text channels nodes n.attributes ++ node_end n))) h in
    let b = parts_brief (node_call n) (operands_text nodes n.operands ++ (attributes_text channels nodes n.attributes ++ node_end n)) a.1 in
    let c = parts_brief (operands_text nodes n.operands) (attributes_text channels nodes n.attributes ++ node_end n) b.1 in
    let d = parts_brief (attributes_text channels nodes n.attributes) (node_end n) c.1 in
    let e = parts_brief (codes "  ") (node_name n ++ (codes ": " ++ type_text n.ty)) a.0 in
    let f = parts_brief (node_name n) (codes ": " ++ type_text n.ty) e.1 in
    let g = parts_brief (codes ": ") (type_text n.ty) f.1 in
    let count = operands_count nodes n.operands in
    and_from _ _ (and_from _ _ one.0 (type_brief n.ty one.1 g.1))
    (and_from _ _ (short_list n.operands (length (operands_text nodes n.operands)) (omega (arith, count)) c.0) (attributes_brief channels nodes n.attributes first.1 d.0))

some_line : (channels : List Channel) (nodes : List Node) (n : Node) → 1 ≤ length (node_text channels nodes n)
unfolding node_start
some_line channels nodes n = omega arith

nodes_count : (channels : List Channel) (nodes ns : List Node) → length ns ≤ length (lines_text (map (node_text channels nodes) ns))
nodes_count channels nodes [] = omega arith
nodes_count channels nodes (n ∷ ns) =
    let rest = nodes_count channels nodes ns in
    let here = some_line channels nodes n in
    let both = length-append (node_text channels nodes n) (lines_text (map (node_text channels nodes) ns)) in
    omega (arith, rest, here, both)

nodes_brief : (channels : List Channel) (nodes ns : List Node) → list_all node_in_range ns ≡ true → IsBrief (lines_text (map (node_text channels nodes) ns)) → list_all node_held ns ≡ true
nodes_brief channels nodes [] range h = refl
nodes_brief channels nodes (n ∷ ns) range h =
    let parts = and_parts (node_in_range n) (list_all node_in_range ns) range in
    let a = parts_brief (node_text channels nodes n) (lines_text (map (node_text channels nodes) ns)) h in
    and_from _ _ (node_brief channels nodes n parts.0 a.0) (nodes_brief channels nodes ns parts.1 a.1)

-- ---- channels and procs

channel_brief : (ch : Channel) → channel_writable ch ≡ true → IsBrief (channel_text ch) → channel_held ch ≡ true
unfolding channel_start
channel_brief ch writable h =
    let parts = and_parts (is_one_word ch.name) (type_in_range ch.ty) writable in
    let a = parts_brief (channel_start ch) (channel_id ch ++ channel_kind ch) h in
    let b = parts_brief (codes "chan ") (ch.name ++ (codes "(" ++ type_text ch.ty)) a.0 in
    let c = parts_brief ch.name (codes "(" ++ type_text ch.ty) b.1 in
    let d = parts_brief (codes "(") (type_text ch.ty) c.1 in
    and_from _ _ parts.0 (type_brief ch.ty parts.1 d.1)

pub channels_brief : (chs : List Channel) → list_all channel_writable chs ≡ true → IsBrief (lines_text (map channel_text chs)) → list_all channel_held chs ≡ true
channels_brief [] writable h = refl
channels_brief (ch ∷ chs) writable h =
    let parts = and_parts (channel_writable ch) (list_all channel_writable chs) writable in
    let a = parts_brief (channel_text ch) (lines_text (map channel_text chs)) h in
    and_from _ _ (channel_brief ch parts.0 a.0) (channels_brief chs parts.1 a.1)

proc_brief : (channels : List Channel) (p : Proc) → proc_writable p ≡ true → IsBrief (proc_text channels p) → proc_held p ≡ true
unfolding proc_start proc_init
proc_brief channels p writable h =
    let first = and_parts (is_one_word p.name && (type_in_range p.state && constant_in_range p.init)) (list_all node_in_range p.nodes) writable in
    let one = and_parts (is_one_word p.name) (type_in_range p.state && constant_in_range p.init) first.0 in
    let two = and_parts (type_in_range p.state) (constant_in_range p.init) one.1 in
    let lines = lines_text (map (node_text channels p.nodes) p.nodes) in
    let a = parts_brief (proc_start p) (proc_init p ++ (lines ++ proc_end p)) h in
    let b = parts_brief (proc_init p) (lines ++ proc_end p) a.1 in
    let c = parts_brief lines (proc_end p) b.1 in
    let d = parts_brief (codes "proc ") (p.name ++ (codes "(st: " ++ type_text p.state)) a.0 in
    let e = parts_brief p.name (codes "(st: " ++ type_text p.state) d.1 in
    let f = parts_brief (codes "(st: ") (type_text p.state) e.1 in
    let g = parts_brief (codes ", init=") (constant_text p.init ++ codes ") {\n") b.0 in
    let i = parts_brief (constant_text p.init) (codes ") {\n") g.1 in
    let count = nodes_count channels p.nodes p.nodes in
    and_from _ _ (and_from _ _ one.0 (and_from _ _ (type_brief p.state two.0 f.1) (constant_brief p.init two.1 i.0)))
    (and_from _ _ (nodes_brief channels p.nodes p.nodes first.1 c.0) (short_list p.nodes (length lines) (omega (arith, count)) c.0))

pub procs_brief : (channels : List Channel) (ps : List Proc) → list_all proc_writable ps ≡ true → IsBrief (lines_text (map (proc_text channels) ps)) → list_all proc_held ps ≡ true
procs_brief channels [] writable h = refl
procs_brief channels (p ∷ ps) writable h =
    let parts = and_parts (proc_writable p) (list_all proc_writable ps) writable in
    let a = parts_brief (proc_text channels p) (lines_text (map (proc_text channels) ps)) h in
    and_from _ _ (proc_brief channels p parts.0 a.0) (procs_brief channels ps parts.1 a.1)
