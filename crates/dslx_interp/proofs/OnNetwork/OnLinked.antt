-- In a checked text that is made of a text's instances all ends are there.
use Rattle.std.proofs.Common.{◌≡◌, ◌++◌, ◌+◌, ◌==◌, ◌≤◌, ◌<◌, ◌&&◌, ℕ, zero, suc, Bool, true, false, if◌then◌else◌, List, [], ◌∷◌, length, map, Option, Some, refl, sym, ap, subst, ◌∙◌, arith}
use Rattle.std.specs.Prelude.{slice_get}
use Rattle.std.specs.Str.{bytes_eq}
use Rattle.std.proofs.lemmas.Bool.Decides.{Decides-eqb}
use Rattle.std.proofs.lemmas.List.{length-map}
use Rattle.dslx_tree.specs.declared.ident.Ident.{Ident}
use Rattle.dslx_tree.specs.declared.item.Module.{Module}
use Rattle.dslx_tree.specs.declared.process.End.{End}
use Rattle.dslx_tree.specs.declared.process.Proc.{Proc}
use Rattle.dslx_tree.specs.declared.process.Spawn.{Spawn}
use Rattle.dslx_tree.specs.declared.process.ConfigStatement.{ConfigStatement}
use Rattle.dslx_tree.specs.declared.process.ConfigStatement.TheVariants as config_statement
use Rattle.dslx_meaning.specs.Activation.{opening_state}
use Rattle.dslx_meaning.specs.Environment.{Meanings}
use Rattle.dslx_meaning.specs.Items.{item_named, meanings_of}
use Rattle.dslx_meaning.specs.Lists.{and_then, pairwise, where_true, with_both}
use Rattle.dslx_meaning.specs.Network.{Held, as_proc, made_ends, outer_ends, top_parametric_args}
use Rattle.dslx_meaning.specs.Rules.EqualValues.{equal_value}
use Rattle.dslx_meaning.specs.declared.value.DslxValue.{DslxValue}
use Rattle.dslx_core.specs.Designs.{last_index}
use Rattle.dslx_core.specs.Lowering.CoreScopes.{CoreScope}
use Rattle.dslx_core.specs.Lowering.Functions.{CoreInstance, Instantiated}
use Rattle.dslx_core.specs.Lowering.Steps.{lower_next, proc_globals}
use Rattle.dslx_core.specs.Networks.Assembly.{IsDesignFrom, instances_alone, lower_outer}
use Rattle.dslx_core.specs.Networks.Configs.{LoweredConfig, ProcInstance, config_scope, is_proc_instance, lower_channel, lower_child, lower_children, lower_config, lower_made, lower_spawn_parametrics, proc_instance_in}
use Rattle.dslx_core.specs.Networks.Ends.{end_number, end_numbers, numbered_ends}
use Rattle.dslx_core.specs.Networks.Procs.{lower_proc, next_proc, procs_from}
use Rattle.dslx_core.specs.Networks.Procs as procs
use Rattle.dslx_core.specs.Typing.Typed.Kinds.{is_of}
use Rattle.dslx_core.specs.declared.design.Child.{Child}
use Rattle.dslx_core.specs.declared.design.Design.{Design}
use Rattle.dslx_core.specs.declared.design.Instance.{Instance}
use Rattle.dslx_core.specs.declared.design.MadeChannel.{MadeChannel}
use Rattle.dslx_core.proofs.Lemmas.Lowering.{from_both, from_then, from_where}
use Rattle.dslx_core.proofs.Lemmas.Typing.Laws.Chains.{same_name}
use Rattle.dslx_core.proofs.Lemmas.Typing.Typed.{none_some, same_some}
use Rattle.dslx_core.proofs.Lemmas.Typing.Typed.OfLists.{all_there}
use Rattle.dslx_interp.specs.Network.Linked.{AllBelow, AreChildren, IsLinked, IsLinkedInstance, end_count}

-- ---- ends by their numbers

abbrev HeldBelow : ℕ → List Held → Type 0
HeldBelow most [] = Unit {0}
HeldBelow most (h ∷ hs) = (h.channel < most) × HeldBelow most hs

held_more : (a b : ℕ) (hs : List Held) → a ≤ b → HeldBelow a hs → HeldBelow b hs
held_more a b [] more h = tt
held_more a b (x ∷ hs) more h = (omega (arith, h.0, more), held_more a b hs more h.1)

held_joined : (most : ℕ) (hs ks : List Held) → HeldBelow most hs → HeldBelow most ks → HeldBelow most (hs ++ ks)
held_joined most [] ks h k = k
held_joined most (x ∷ hs) ks h k = (h.0, held_joined most hs ks h.1 k)

outer_below : (n : ℕ) (es : List End) → HeldBelow (n + length es) (outer_ends n es)
outer_below n [] = tt
outer_below n (e ∷ es) =
    let more : suc n + length es ≤ n + suc (length es) = omega arith in
    (omega arith, held_more (suc n + length es) (n + suc (length es)) (outer_ends (suc n) es) more (outer_below (suc n) es))

-- how many channels there are
channel_count : List ConfigStatement → ℕ
channel_count [] = 0
channel_count (config_statement.Channel c ∷ ms) = suc (channel_count ms)
channel_count (config_statement.Spawn s ∷ ms) = channel_count ms

made_below : (n : ℕ) (ms : List ConfigStatement) → HeldBelow (n + channel_count ms) (made_ends n ms)
unfolding channel_count
made_below n [] = tt
made_below n (config_statement.Channel c ∷ ms) =
    let more : suc n + channel_count ms ≤ n + suc (channel_count ms) = omega arith in
    (omega arith, (omega arith, held_more (suc n + channel_count ms) (n + suc (channel_count ms)) (made_ends (suc n) ms) more (made_below (suc n) ms)))
made_below n (config_statement.Spawn s ∷ ms) = made_below n ms

made_count : (scope : CoreScope) (ms : List ConfigStatement) (made : List MadeChannel) → lower_made scope ms ≡ Some made → length made ≡ channel_count ms
unfolding channel_count
made_count scope [] made e = ap length (sym (same_some [] made e))
made_count scope (config_statement.Channel c ∷ ms) made e =
    let both = from_both (lower_channel scope c) (lower_made scope ms) (λ c cs. Some (c ∷ cs)) made e in
    ap length (sym (same_some (both.0 ∷ both.1) made both.4)) ∙ ap suc (made_count scope ms both.1 both.3)
made_count scope (config_statement.Spawn s ∷ ms) made e = made_count scope ms made e

-- all ends of a `config` are below as many as it knows
numbered_below : (p : Proc) (scope : CoreScope) (made : List MadeChannel) → lower_made scope p.config.config_statements ≡ Some made
    → HeldBelow (length p.config.ends + length made) (numbered_ends p)
numbered_below p scope made e =
    let count = made_count scope p.config.config_statements made e in
    let outer : 0 + length p.config.ends ≤ length p.config.ends + length made = omega arith in
    let inner : length p.config.ends + channel_count p.config.config_statements ≤ length p.config.ends + length made = omega (arith, count) in
    held_joined (length p.config.ends + length made) (outer_ends 0 p.config.ends) (made_ends (length p.config.ends) p.config.config_statements)
    (held_more (0 + length p.config.ends) (length p.config.ends + length made) (outer_ends 0 p.config.ends) outer (outer_below 0 p.config.ends))
    (held_more (length p.config.ends + channel_count p.config.config_statements) (length p.config.ends + length made) (made_ends (length p.config.ends) p.config.config_statements) inner
    (made_below (length p.config.ends) p.config.config_statements))

number_below : (most : ℕ) (name : List ℕ) (hs : List Held) (n : ℕ) → HeldBelow most hs → end_number name hs ≡ Some n → n < most
number_below most name [] n h e = none_some n e
number_below most name (x ∷ hs) n h e = by_test (bytes_eq name x.name) e (number_below most name hs n h.1)
  where
    by_test : (b : Bool) → (if b then Some x.channel else end_number name hs) ≡ Some n → (end_number name hs ≡ Some n → n < most) → n < most
    by_test true q rest = let same = same_some x.channel n q in omega (arith, h.0, same)
    by_test false q rest = rest q

all_below : (most : ℕ) (hs : List Held) → HeldBelow most hs → (is : List Ident) (ns : List ℕ) → map (λ (i : Ident). end_number i.name hs) is ≡ map Some ns → AllBelow most ns
all_below most hs h is [] e = tt
all_below most hs h [] (n ∷ ns) e = absurd (cc)
all_below most hs h (i ∷ is) (n ∷ ns) e =
    let first : end_number i.name hs ≡ Some n = cc in
    let rest : map (λ (i : Ident). end_number i.name hs) is ≡ map Some ns = cc in
    (number_below most i.name hs n h first, all_below most hs h is ns rest)

numbers_below : (most : ℕ) (hs : List Held) → HeldBelow most hs → (is : List Ident) (ns : List ℕ) → end_numbers hs is ≡ Some ns → AllBelow most ns
numbers_below most hs h is ns e = all_below most hs h is ns (all_there (map (λ (i : Ident). end_number i.name hs) is) ns e)

-- ---- instances that are there

-- an instance of a proc of the text takes the ends of its `config`
record OfText (m : Module) (i : ProcInstance) : Type 0 where
  pub proc : Proc
  pub is : as_proc (item_named i.name m.items) ≡ Some proc
  pub ends : (i.instance).ends ≡ length (proc.config).ends

AllOfText : Module → List ProcInstance → Type 0
AllOfText m before = (k : ℕ) (i : ProcInstance) → slice_get before k ≡ Some i → OfText m i

stays_there : {A : Type 0} (xs ys : List A) (k : ℕ) (x : A) → slice_get xs k ≡ Some x → slice_get (xs ++ ys) k ≡ Some x
stays_there [] ys k x e = none_some x e
stays_there (z ∷ xs) ys zero x e = e
stays_there (z ∷ xs) ys (suc k) x e = stays_there xs ys k x e

-- a spawned proc is there, and is given the ends that it takes
record IsChild (before : List ProcInstance) (known : ℕ) (c : Child) : Type 0 where
  pub below : AllBelow known c.ends
  pub instance : ProcInstance
  pub there : slice_get before c.instance ≡ Some instance
  pub ends : length c.ends ≡ (instance.instance).ends

AreAllChildren : List ProcInstance → ℕ → List Child → Type 0
AreAllChildren before known [] = Unit {0}
AreAllChildren before known (c ∷ cs) = IsChild before known c × AreAllChildren before known cs

record IsLinkedIn (before : List ProcInstance) (i : ProcInstance) : Type 0 where
  pub members : AllBelow (end_count i.instance) (i.instance).members
  pub children : AreAllChildren before (end_count i.instance) (i.instance).children

children_stay : (before more : List ProcInstance) (known : ℕ) (cs : List Child) → AreAllChildren before known cs → AreAllChildren (before ++ more) known cs
unfolding AreAllChildren
children_stay before more known [] h = tt
children_stay before more known (c ∷ cs) h =
    let one = h.0 in
    (record { below = one.below; instance = one.instance; there = stays_there before more c.instance one.instance one.there; ends = one.ends }, children_stay before more known cs h.1)

linked_stays : (before more : List ProcInstance) (i : ProcInstance) → IsLinkedIn before i → IsLinkedIn (before ++ more) i
linked_stays before more i h = record { members = h.members; children = children_stay before more (end_count i.instance) (i.instance).children h.children }

-- the instance that is found, with its name
found_there : (name : List ℕ) (parametric_args : List DslxValue) (n : ℕ) (is : List ProcInstance) (k : ℕ) → proc_instance_in name parametric_args n is ≡ Some k
    → (j : ℕ) × (i : ProcInstance) × (k ≡ n + j) × (slice_get is j ≡ Some i) × (name ≡ i.name)
found_there name parametric_args n [] k e = none_some k e
found_there name parametric_args n (i ∷ is) k e = by_test (is_proc_instance name parametric_args i) refl e (found_there name parametric_args (suc n) is k)
  where
    named : (a b : Bool) → bytes_eq name i.name ≡ a → (a && b) ≡ true → name ≡ i.name
    named true b q h = same_name name i.name q
    named false b q h = absurd (cc)

    by_test : (b : Bool) → is_proc_instance name parametric_args i ≡ b → (if b then Some n else proc_instance_in name parametric_args (suc n) is) ≡ Some k
        → (proc_instance_in name parametric_args (suc n) is ≡ Some k → (j : ℕ) × (x : ProcInstance) × (k ≡ suc n + j) × (slice_get is j ≡ Some x) × (name ≡ x.name))
        → (j : ℕ) × (x : ProcInstance) × (k ≡ n + j) × (slice_get (i ∷ is) j ≡ Some x) × (name ≡ x.name)
    by_test true q h behind =
        let same = same_some n k h in
        (0, i, omega (arith, same), refl, named (bytes_eq name i.name) (pairwise equal_value parametric_args i.parametric_args) refl q)
    by_test false q h behind =
        let rest = behind h in
        (suc rest.0, rest.1, omega (arith, rest.2), rest.3, rest.4)

-- ---- the children of a `config`

child_fits : (m : Module) (scope : CoreScope) (held : List Held) (before : List ProcInstance) (most : ℕ) → AllOfText m before → HeldBelow most held
    → (s : Spawn) (c : Child) → lower_child m scope held before s ≡ Some c → IsChild before most c
unfolding AllOfText
child_fits m scope held before most all below s c e =
    let target = from_then (as_proc (item_named s.target.name m.items)) (λ target.
    and_then (lower_spawn_parametrics scope target s.arguments) (λ parametric_args.
    with_both (proc_instance_in s.target.name parametric_args 0 before) (end_numbers held s.ends) (λ k ends.
    where_true (length ends == length target.config.ends) (Some (record { instance = k; ends = ends }))))) c e in
    let args = from_then (lower_spawn_parametrics scope target.0 s.arguments) (λ parametric_args.
    with_both (proc_instance_in s.target.name parametric_args 0 before) (end_numbers held s.ends) (λ k ends.
    where_true (length ends == length (target.0).config.ends) (Some (record { instance = k; ends = ends })))) c target.2 in
    let both = from_both (proc_instance_in s.target.name args.0 0 before) (end_numbers held s.ends) (λ k ends.
    where_true (length ends == length (target.0).config.ends) (Some (record { instance = k; ends = ends }))) c args.2 in
    let fits = from_where (length both.1 == length (target.0).config.ends) (Some (record { instance = both.0; ends = both.1 })) c both.4 in
    let there = found_there s.target.name args.0 0 before both.0 both.2 in
    let of_text = all there.0 there.1 there.3 in
    let at : both.0 ≡ there.0 = omega (arith, there.2) in
    let proc : of_text.proc ≡ target.0 = same_some of_text.proc target.0 (sym of_text.is ∙ ap (λ name. as_proc (item_named name m.items)) (sym there.4) ∙ target.1) in
    let count : length both.1 ≡ length (target.0).config.ends = (Decides-eqb (length both.1) (length (target.0).config.ends)).0 fits.0 in
    subst (IsChild before most) (same_some (record { instance = both.0; ends = both.1 }) c fits.1)
    (record {
      below = numbers_below most held below s.ends both.1 both.3;
      instance = there.1;
      there = ap (slice_get before) at ∙ there.3;
      ends = count ∙ ap (λ (p : Proc). length p.config.ends) (sym proc) ∙ sym of_text.ends;
    })

children_fit : (m : Module) (scope : CoreScope) (held : List Held) (before : List ProcInstance) (most : ℕ) → AllOfText m before → HeldBelow most held
    → (ms : List ConfigStatement) (cs : List Child) → lower_children m scope held before ms ≡ Some cs → AreAllChildren before most cs
unfolding AreAllChildren
children_fit m scope held before most all below [] cs e = subst (AreAllChildren before most) (same_some [] cs e) tt
children_fit m scope held before most all below (config_statement.Channel c ∷ ms) cs e = children_fit m scope held before most all below ms cs e
children_fit m scope held before most all below (config_statement.Spawn s ∷ ms) cs e =
    let both = from_both (lower_child m scope held before s) (lower_children m scope held before ms) (λ c cs. Some (c ∷ cs)) cs e in
    subst (AreAllChildren before most) (same_some (both.0 ∷ both.1) cs both.4)
    (child_fits m scope held before most all below s both.0 both.2, children_fit m scope held before most all below ms both.1 both.3)

-- ---- an instance

-- what an instance is lowered to
record IsLowered (m : Module) (before : List ProcInstance) (i : ProcInstance) : Type 0 where
  pub of_text : OfText m i
  pub linked : IsLinkedIn before i

config_fits : (m : Module) (items : Meanings) (before : List ProcInstance) (p : Proc) (parametric_args : List DslxValue) (config : LoweredConfig) → AllOfText m before
    → lower_config m items before p parametric_args ≡ Some config
    → AllBelow (length p.config.ends + length config.made) config.members × AreAllChildren before (length p.config.ends + length config.made) config.children
config_fits m items before p parametric_args config all e =
    let scope = config_scope items p parametric_args in
    let made = from_then (lower_made scope p.config.config_statements) (λ made.
    with_both (lower_children m scope (numbered_ends p) before p.config.config_statements) (end_numbers (numbered_ends p) p.config.result) (λ children members.
    Some (record { made = made; children = children; members = members }))) config e in
    let both = from_both (lower_children m scope (numbered_ends p) before p.config.config_statements) (end_numbers (numbered_ends p) p.config.result) (λ children members.
    Some (record { made = made.0; children = children; members = members })) config made.2 in
    let most = length p.config.ends + length made.0 in
    let below = numbered_below p scope made.0 made.1 in
    subst (λ (x : LoweredConfig). AllBelow (length p.config.ends + length x.made) x.members × AreAllChildren before (length p.config.ends + length x.made) x.children)
    (same_some (record { made = made.0; children = both.0; members = both.1 }) config both.4)
    (numbers_below most (numbered_ends p) below p.config.result both.1 both.3, children_fit m scope (numbered_ends p) before most all below p.config.config_statements both.0 both.2)

in_proc : Instantiated → Instance → ProcInstance
in_proc i x = record { name = i.name; parametric_args = i.parametric_args; instance = x }

next_is_lowered : (m : Module) (items : Meanings) (functions : List CoreInstance) (before : List ProcInstance) (i : Instantiated) (c : ProcInstance) → AllOfText m before
    → next_proc m items functions before i ≡ Some c → IsLowered m before c
unfolding in_proc
next_is_lowered m items functions before i c all e =
    let p = from_then (as_proc (item_named i.name m.items)) (λ p.
    and_then (lower_proc m items functions before p i.parametric_args) (λ l. Some (record { name = i.name; parametric_args = i.parametric_args; instance = l }))) c e in
    let l = from_then (lower_proc m items functions before p.0 i.parametric_args) (λ l. Some (record { name = i.name; parametric_args = i.parametric_args; instance = l })) c p.2 in
    let both = from_both (lower_next (proc_globals m items functions p.0 i.parametric_args) p.0) (lower_config m items before p.0 i.parametric_args) (λ next config.
    and_then (opening_state items p.0 i.parametric_args) (λ v. where_true (is_of next.state v) (Some (procs.instance_of p.0 next config v)))) l.0 l.1 in
    let opening = from_then (opening_state items p.0 i.parametric_args) (λ v. where_true (is_of (both.0).state v) (Some (procs.instance_of p.0 both.0 both.1 v))) l.0 both.4 in
    let fits = from_where (is_of (both.0).state opening.0) (Some (procs.instance_of p.0 both.0 both.1 opening.0)) l.0 opening.2 in
    let config = config_fits m items before p.0 i.parametric_args both.1 all both.3 in
    let made : ProcInstance = record { name = i.name; parametric_args = i.parametric_args; instance = procs.instance_of p.0 both.0 both.1 opening.0 } in
    let same : made ≡ c =
    ap (in_proc i) (same_some (procs.instance_of p.0 both.0 both.1 opening.0) l.0 fits.1) ∙ same_some (in_proc i l.0) c l.2 in
    subst (IsLowered m before) same
    (record {
      of_text = record { proc = p.0; is = p.1; ends = refl };
      linked = record { members = config.0; children = config.1 };
    })

-- ---- all instances

-- each is lowered over those that are there in the end
AllLowered : Module → List ProcInstance → Type 0
AllLowered m is = (k : ℕ) (i : ProcInstance) → slice_get is k ≡ Some i → IsLowered m is i

-- what stands in a list with one more
pub data OneMore {A : Type 0} (xs : List A) (x : A) (k : ℕ) (y : A) : Type 0 where
  Earlier : slice_get xs k ≡ Some y → OneMore xs x k y
  Final : y ≡ x → OneMore xs x k y

pub there_or_last : {A : Type 0} (xs : List A) (x : A) (k : ℕ) (y : A) → slice_get (xs ++ x ∷ []) k ≡ Some y → OneMore xs x k y
there_or_last [] x zero y e = Final (sym (same_some x y e))
there_or_last [] x (suc k) y e = none_some y e
there_or_last (z ∷ xs) x zero y e = Earlier e
there_or_last (z ∷ xs) x (suc k) y e = by_rest (there_or_last xs x k y e)
  where
    by_rest : OneMore xs x k y → OneMore (z ∷ xs) x (suc k) y
    by_rest (Earlier h) = Earlier h
    by_rest (Final h) = Final h

of_texts : (m : Module) (is : List ProcInstance) → AllLowered m is → AllOfText m is
unfolding AllLowered AllOfText
of_texts m is h k i e = (h k i e).of_text

one_more_lowered : (m : Module) (before : List ProcInstance) (c : ProcInstance) → AllLowered m before → IsLowered m before c → AllLowered m (before ++ c ∷ [])
unfolding AllLowered
one_more_lowered m before c all one k i e = by_place (there_or_last before c k i e)
  where
    longer : (x : ProcInstance) → IsLowered m before x → IsLowered m (before ++ c ∷ []) x
    longer x h = record { of_text = h.of_text; linked = linked_stays before (c ∷ []) x h.linked }

    by_place : OneMore before c k i → IsLowered m (before ++ c ∷ []) i
    by_place (Earlier h) = longer i (all k i h)
    by_place (Final h) = subst (IsLowered m (before ++ c ∷ [])) (sym h) (longer c one)

all_lowered : (m : Module) (items : Meanings) (functions : List CoreInstance) (is : List Instantiated) (before found : List ProcInstance) → AllLowered m before
    → procs_from m items functions before is ≡ Some found → AllLowered m found
all_lowered m items functions [] before found all e = subst (AllLowered m) (same_some before found e) all
all_lowered m items functions (i ∷ is) before found all e =
    let next = from_then (next_proc m items functions before i) (λ c. procs_from m items functions (before ++ c ∷ []) is) found e in
    all_lowered m items functions is (before ++ next.0 ∷ []) found
    (one_more_lowered m before next.0 all (next_is_lowered m items functions before i next.0 (of_texts m before all) next.1)) next.2

none_lowered : (m : Module) → AllLowered m []
unfolding AllLowered
none_lowered m k i e = none_some i e

-- ---- the checked text

alone_there : (is : List ProcInstance) (k : ℕ) (i : ProcInstance) → slice_get is k ≡ Some i → slice_get (instances_alone is) k ≡ Some i.instance
alone_there [] k i e = none_some i e
alone_there (x ∷ is) zero i e = ap (λ (y : ProcInstance). Some y.instance) (same_some x i e)
alone_there (x ∷ is) (suc k) i e = alone_there is k i e

-- an instance of the checked text, with its name
pub not_alone : (is : List ProcInstance) (k : ℕ) (x : Instance) → slice_get (instances_alone is) k ≡ Some x → (i : ProcInstance) × (slice_get is k ≡ Some i) × (i.instance ≡ x)
not_alone [] k x e = none_some x e
not_alone (y ∷ is) zero x e = (y, refl, same_some (y.instance) x e)
not_alone (y ∷ is) (suc k) x e = not_alone is k x e

children_alone : (is : List ProcInstance) (known : ℕ) (cs : List Child) → AreAllChildren is known cs → AreChildren (instances_alone is) known cs
unfolding AreAllChildren
children_alone is known [] h = tt
children_alone is known (c ∷ cs) h =
    let one = h.0 in (
      one.below,
      (λ x e. one.ends ∙ ap (λ (y : Instance). y.ends) (same_some (one.instance).instance x (sym (alone_there is c.instance one.instance one.there) ∙ e))),
      children_alone is known cs h.1,
    )

linked_alone : (is : List ProcInstance) (i : ProcInstance) → IsLinkedIn is i → IsLinkedInstance (instances_alone is) i.instance
linked_alone is i h = record { members = h.members; children = children_alone is (end_count i.instance) (i.instance).children h.children }

pub linked_if_made : (m : Module) (top : Option (List ℕ)) (design : Design) → IsDesignFrom m top design → IsLinked design
unfolding AllLowered
linked_if_made m top design d = subst IsLinked (sym d.design_is) (record { each = each; top = top_ends })
  where
    all : AllLowered m d.procs
    all = all_lowered m (meanings_of m) d.functions d.named_procs [] d.procs (none_lowered m) d.each_proc

    each : (k : ℕ) (x : Instance) → slice_get (instances_alone d.procs) k ≡ Some x → IsLinkedInstance (instances_alone d.procs) x
    each k x e =
        let i = not_alone d.procs k x e in
        subst (IsLinkedInstance (instances_alone d.procs)) i.2 (linked_alone d.procs i.0 (all k i.0 i.1).linked)

    top_ends : (x : Instance) → slice_get (instances_alone d.procs) (last_index (instances_alone d.procs)) ≡ Some x → length d.outer ≡ x.ends
    top_ends x e =
        let of_text = (all (last_index (instances_alone d.procs)) d.last d.is_last).of_text in
        let proc : of_text.proc ≡ d.proc = same_some of_text.proc d.proc (sym of_text.is ∙ ap (λ name. as_proc (item_named name m.items)) d.of_name ∙ d.is_item) in
        let scope = config_scope (meanings_of m) d.proc (top_parametric_args (meanings_of m) d.proc) in
        let there = all_there (map (lower_outer scope) (d.proc).config.ends) d.outer d.outers in
        let count : length d.outer ≡ length (d.proc).config.ends =
        sym (length-map d.outer Some) ∙ ap length (sym there) ∙ length-map (d.proc).config.ends (lower_outer scope) in
        count ∙ ap (λ (p : Proc). length p.config.ends) (sym proc) ∙ sym of_text.ends
        ∙ ap (λ (y : Instance). y.ends) (same_some (d.last).instance x (sym (alone_there d.procs (last_index (instances_alone d.procs)) d.last d.is_last) ∙ e))
