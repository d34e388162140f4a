-- A receive and a send between plain nodes.
use Rattle.std.proofs.Common.{◌≡◌, ℕ, suc, ◌≤◌, ◌-◌, List, [], ◌∷◌, ◌++◌, map, length, get_or, Bool, true, false, ◌&&◌, if◌then◌else◌, Option, Some, None, refl, sym, ap, subst, ◌∙◌, arith, length-append}
use Rattle.std.specs.List.{list_all}
use Rattle.std.proofs.lemmas.List.{append_assoc, get_or_append_left, get_or-append_right}
use Rattle.xb_bits.specs.Word.{Word}
use Rattle.xb_value.specs.declared.ty.Ty.{Ty}
use Rattle.xb_value.specs.declared.value.Value.{Value, out-Value}
use Rattle.xb_value.specs.Flat.{flat_of}
use Rattle.xb_value.specs.Unflat.{unflat_of}
use Rattle.xb_value.specs.Typing.{IsOfType}
use Rattle.xb_value.proofs.Lemmas.Flat.{gives_typed}
use Rattle.net_core.specs.declared.net.Site.{Site}
use Rattle.net_core.specs.Behavior.{Skip, Give}
use Rattle.ir_tree.specs.declared.ir_type.IrType.{IrType, Token}
use Rattle.ir_tree.specs.declared.node.Node.{Node}
use Rattle.ir_tree.specs.declared.node.Operand.{Operand}
use Rattle.ir_tree.specs.declared.package.Channel.{Channel}
use Rattle.ir_tree.specs.Types.{ty_of}
use Rattle.ir_tree.specs.Constants.{no_value}
use Rattle.ir_tree.specs.Activations.{sent}
use Rattle.ir_tree.specs.NodeValues.{channel_type, heard, is_on, is_one, no_word, operand_value, received}
use Rattle.ir_tree.specs.Operations.{on_tuple, element_at}
use Rattle.ir_tree.specs.Rules.Lines.{is_there}
use Rattle.ir_tree.proofs.Lemmas.Rules.Typed.Scopes.{token_value}
use Rattle.ir_rebuild.specs.Built.{AreBuilt, AreValues, is_plain_op, numbered}
use Rattle.ir_rebuild.specs.Operands.{optional_operand}
use Rattle.ir_rebuild.specs.declared.putting.nodes.Nodes.{Nodes}
use Rattle.ir_rebuild.specs.Putting.Types.{ir_type_of}
use Rattle.ir_rebuild.specs.Putting.Given.{IsBuilt, IsNodeType, HasType, OperandsHaveTypes, GrowsTo, PutsNode}
use Rattle.ir_rebuild.proofs.Lemmas.Putting.{have_later}
use Rattle.ir_rebuild.proofs.Lemmas.Putting.Types.{part_type}
use Rattle.dslx_core.specs.CoreValues.{Bindings}
use Rattle.dslx_core.specs.Designs as core
use Rattle.dslx_core.specs.Designs.{Behind, CoreActivity, apart_then, receive_on, turn_before, with_token}
use Rattle.dslx_core.specs.declared.expr.Shape.{Shape}
use Rattle.ir_lower_nodes.proofs.Lemmas.Patterns.{typed_value}
use Rattle.ir_lower_nodes.specs.Exprs.Lowered.{bound_by}
use Rattle.ir_lower_nodes.specs.Acts.Activities.{ByWords, heard_then, nodes_then, word_width, DoAlike, Skips, Gives, Receives}
use Rattle.ir_lower_nodes.specs.Steps.StepTypes.{pair_type}
use Rattle.ir_lower_nodes.specs.Steps.Steps.{AddsNodes, CarriesWords, DoLowered, receive_node, send_node}
use Rattle.ir_lower_nodes.proofs.OnSteps.OnNodes.{adds_between, bound_kept, site_has, site_put, value_kept}
use Rattle.ir_lower_nodes.proofs.OnSteps.OnRuns.{PlainRun, grown_run, sites_between, values_more}
use Rattle.ir_lower_nodes.proofs.Lemmas.Acts.{alike_as, nodes_append}
use Rattle.ir_lower_nodes.proofs.OnSteps.OnWords.{got_type, got_typed, pair_is, received_typed, second_part, sent_is, token_type, word_heard}

-- ---- what stands where a site was put

-- behind the nodes before it
last_at : (values : List Value) (x : Value) (more : List Value) → get_or ((values ++ x ∷ []) ++ more) (length values) no_value ≡ x
last_at values x more =
    let long = length-append values (x ∷ []) in
    get_or_append_left (values ++ x ∷ []) more no_value (length values) (omega (arith, long))
    ∙ get_or-append_right values (x ∷ []) (length values) (length values) no_value refl (omega arith)
    ∙ ap (λ k. get_or (x ∷ []) k no_value) (let none : length values - length values ≡ 0 = omega arith in none)

on_kept : (s : Value) (values more : List Value) (k : ℕ) (predicate : Option Operand) → k ≤ length values → list_all (is_there k) (optional_operand predicate) ≡ true → is_on s (values ++ more) predicate ≡ is_on s values predicate
on_kept s values more k None h there = refl
on_kept s values more k (Some o) h there = ap (λ v. is_one (out-Value v)) (value_kept s values more k o h (first (is_there k o) there))
  where
    first : (b : Bool) → (b && true) ≡ true → b ≡ true
    first true e = refl
    first false e = absurd (cc)

-- the site stands between plain nodes: from these values on it goes on with the nodes behind it
record SiteRun (ir : List Channel) (s : Value) (old last : Nodes) (more : List Node) (values : List Value) (x : Value) : Type 0 where
  all : List Value
  are : AreValues last.state last.list.items s all
  count : length all ≡ length last.list.items
  gives : (rest : List Value → ByWords) (words : List Word) → nodes_then ir s more rest (values ++ x ∷ []) words ≡ rest all words
  kept : (o : Operand) → is_there (length old.list.items) o ≡ true → operand_value s all o ≡ operand_value s values o
  bound : (os : List Operand) (ts : List IrType) → OperandsHaveTypes old os ts → bound_by os s all ≡ bound_by os s values
  on : (predicate : Option Operand) → list_all (is_there (length old.list.items)) (optional_operand predicate) ≡ true → is_on s all predicate ≡ is_on s values predicate
  here : get_or all (length old.list.items) no_value ≡ x

site_run : (ir : List Channel) (old new last : Nodes) (n : Node) (o : Operand) → PutsNode old new n o → AddsNodes old new → (g : GrowsTo new last) → is_plain_op n.op ≡ false → (s : Value) (values : List Value) (x : Value) → AreValues old.state old.list.items s values → length values ≡ length old.list.items → IsOfType (ty_of n.ty) x → SiteRun ir s old last g.extends.more values x
site_run ir old new last n o p adds g site s values x v count typed = record {
  all = (values ++ x ∷ []) ++ run.added;
  are = run.are;
  count = run.count;
  gives = run.gives;
  kept = λ q there.
      value_kept s (values ++ x ∷ []) run.added (length old.list.items) q (omega (arith, count, long)) there
      ∙ value_kept s values (x ∷ []) (length old.list.items) q (omega (arith, count)) there;
  bound = λ os ts h.
      ap (bound_by os s) (append_assoc values (x ∷ []) run.added)
      ∙ bound_kept old os ts s values (x ∷ run.added) h count;
  on = λ predicate there.
      on_kept s (values ++ x ∷ []) run.added (length old.list.items) predicate (omega (arith, count, long)) there
      ∙ on_kept s values (x ∷ []) (length old.list.items) predicate (omega (arith, count)) there;
  here = ap (λ k. get_or ((values ++ x ∷ []) ++ run.added) k no_value) (sym count) ∙ last_at values x run.added;
}
  where
    long : length (values ++ x ∷ []) ≡ suc (length values)
    long = omega (arith, length-append values (x ∷ []))

    listed : length (values ++ x ∷ []) ≡ length new.list.items
    listed =
        let one : length (old.list.items ++ numbered (length old.list.items) n ∷ []) ≡ suc (length old.list.items) = omega (arith, length-append old.list.items (numbered (length old.list.items) n ∷ [])) in
        long ∙ (ap suc count ∙ sym (ap length p.list ∙ one))

    built : AreBuilt old.state (old.list.items ++ numbered (length old.list.items) n ∷ [])
    built = subst (AreBuilt old.state) p.list (subst (λ t. AreBuilt t new.list.items) p.state adds.built)

    more : AreValues new.state new.list.items s (values ++ x ∷ [])
    more =
        subst (λ t. AreValues t new.list.items s (values ++ x ∷ [])) (sym p.state)
        (subst (λ ns. AreValues old.state ns s (values ++ x ∷ [])) (sym p.list)
        (values_more old.state old.list.items (numbered (length old.list.items) n) s values x v count built typed (λ plain. let never : true ≡ false = sym plain ∙ site in absurd (cc))))

    run : PlainRun ir last.state last.list.items s g.extends.more (values ++ x ∷ [])
    run = grown_run ir new last g s (values ++ x ∷ []) more listed

-- ---- a receive

-- as it stands behind these
abbrev receive_in : Nodes → IrType → Operand → Option Operand → ℕ → Node
receive_in nodes t token predicate c = numbered (length nodes.list.items) (receive_node t token predicate c)

abbrev send_in : Nodes → Operand → Operand → Option Operand → ℕ → Node
send_in nodes token word predicate c = numbered (length nodes.list.items) (send_node token word predicate c)

abbrev pub receive_site : ℕ → Site
receive_site c = record { chan = c; sends = false }

-- a receive is put: what it gives is a token and a word
pub record ReceivePut (old new : Nodes) (t : Ty) (site : Operand) : Type 0 where
  pub adds : AddsNodes old new
  pub has : HasType new site (got_type (ir_type_of t))
  pub own : IsNodeType (ir_type_of t)

pub receive_put : (old new : Nodes) (t : Ty) (token site : Operand) (predicate : Option Operand) (c : ℕ) → IsBuilt old → HasType old token (Token []) → list_all (is_there (length old.list.items)) (optional_operand predicate) ≡ true
    → PutsNode old new (receive_node (ir_type_of t) token predicate c) site → IsNodeType (ir_type_of (pair_type t)) → ReceivePut old new t site
receive_put old new t token site predicate c built has_token there p pair = record {
  adds = site_put old new (receive_node (ir_type_of t) token predicate c) site built p refl within.sound (ap (λ b. b && list_all (is_there (length old.list.items)) (optional_operand predicate)) has_token.there ∙ there);
  has = site_has old new (receive_node (ir_type_of t) token predicate c) site p within;
  own = part_type (Token [] ∷ ir_type_of t ∷ []) 1 (ir_type_of t) refl within;
}
  where
    within : IsNodeType (got_type (ir_type_of t))
    within = got_typed (ir_type_of t) (subst IsNodeType (pair_is t) pair)

-- what a receive does where it is on, and where it isn't
abbrev pub receive_by : Bool → Ty → Shape → Behind → Bindings → Value → ByWords
receive_by true t shape rest bound off words = receive_on t shape rest bound words
receive_by false t shape rest bound off words = turn_before Skip (apart_then shape rest bound (Some (with_token off)) words)

abbrev pub either_value : Bool → Value → Value → Value
either_value true v w = v
either_value false v w = w

-- a receive of a word of a type between plain nodes: those before it give its predicate and what stands for a word that isn't received,
-- those behind it bind what it gives
module _ (ir : List Channel) (s0 s2 s3 s9 : Nodes) (token site last off : Operand) (predicate : Option Operand) (c : ℕ) (t : Ty) (shape : Shape) (before after : List Operand) (types us : List Ty) where
  pub receive_lowered : (f : Behind → Behind) → IsBuilt s0 → OperandsHaveTypes s0 before (map ir_type_of types) → (g : GrowsTo s0 s2) → HasType s2 token (Token []) → list_all (is_there (length s2.list.items)) (optional_operand predicate) ≡ true → is_there (length s2.list.items) off ≡ true
      → PutsNode s2 s3 (receive_node (ir_type_of t) token predicate c) site → (k : GrowsTo s3 s9) → CarriesWords ir c t → IsNodeType (ir_type_of (pair_type t))
      → OperandsHaveTypes s9 after (map ir_type_of us) → HasType s9 last (Token [])
      → ((s : Value) (values : List Value) → AreValues s2.state s2.list.items s values → (rest : Behind) (words : List Word) → f rest (bound_by before s values) words ≡ receive_by (is_on s values predicate) t shape rest (bound_by before s values) (operand_value s values off) words)
      → ((s : Value) (all : List Value) → AreValues s9.state s9.list.items s all → (x : Value) → IsOfType t x → x ≡ either_value (is_on s all predicate) (on_tuple (element_at 1) (get_or all (length s2.list.items) no_value)) (operand_value s all off)
      → (rest : Behind) (words : List Word) → apart_then shape rest (bound_by before s all) (Some (with_token x)) words ≡ rest (bound_by after s all) words)
      → ((s : Value) (values : List Value) → AreValues s2.state s2.list.items s values → is_on s values predicate ≡ false → IsOfType t (operand_value s values off))
      → DoLowered ir (receive_site c ∷ []) f before after s0 s9 last us
  receive_lowered f built have g has_token there off_there p k carries pair have_now has_last does binds typed_off = record {
    adds = adds_between s0 s2 s3 s9 (receive_in s2 (ir_type_of t) token predicate c) g p.state p.list k;
    have = have_now;
    has = has_last;
    listed = sites_between g.extends.more k.extends.more (receive_in s2 (ir_type_of t) token predicate c) g.extends.plain k.extends.plain;
    alike = λ s values v count rest nodes more call.
        let run = grown_run ir s0 s2 g s values v count in
        let values2 = values ++ run.added in
        alike_as (word_width ir) (receive_site c ∷ more) (f rest (bound_by before s values2)) (nodes_then ir s (receive_in s2 (ir_type_of t) token predicate c ∷ k.extends.more) nodes values2) (f rest (bound_by before s values)) (nodes_then ir s (g.extends.more ++ receive_in s2 (ir_type_of t) token predicate c ∷ k.extends.more) nodes values)
        (λ words. ap (λ bound. f rest bound words) (sym (bound_kept s0 before (map ir_type_of types) s values run.added have count)))
        (λ words. ap (λ (r : List Value → ByWords). r values words) (nodes_append ir s g.extends.more (receive_in s2 (ir_type_of t) token predicate c ∷ k.extends.more) nodes) ∙ run.gives (nodes_then ir s (receive_in s2 (ir_type_of t) token predicate c ∷ k.extends.more) nodes) words)
        (by s values2 run.are run.count rest nodes more call (is_on s values2 predicate) refl);
  }
    where
      put : ReceivePut s2 s3 t site
      put = receive_put s2 s3 t token site predicate c g.built has_token there p pair

      have2 : (s : Value) → OperandsHaveTypes s2 before (map ir_type_of types)
      have2 s = have_later s0 s2 before (map ir_type_of types) g have

      -- behind the receive, which gave this
      behind : (s : Value) (values : List Value) → AreValues s2.state s2.list.items s values → length values ≡ length s2.list.items → (rest : Behind) (nodes : List Value → ByWords) (more : List Site)
          → ((all : List Value) → AreValues s9.state s9.list.items s all → length all ≡ length s9.list.items → DoAlike (word_width ir) more (rest (bound_by after s all)) (nodes all))
          → (on : Bool) → is_on s values predicate ≡ on → (w : Word) (x : Value) → IsOfType t x → x ≡ either_value on (heard (channel_type ir c) (if on then w else no_word)) (operand_value s values off)
          → DoAlike (word_width ir) more (apart_then shape rest (bound_by before s values) (Some (with_token x))) (nodes_then ir s k.extends.more nodes (values ++ received ir c on w ∷ []))
      behind s values v count rest nodes more call on is w x typed x_is =
          alike_as (word_width ir) more (rest (bound_by after s run.all)) (nodes run.all) (apart_then shape rest (bound_by before s values) (Some (with_token x))) (nodes_then ir s k.extends.more nodes (values ++ received ir c on w ∷ []))
          (λ words.
          ap (λ bound. apart_then shape rest bound (Some (with_token x)) words) (sym (run.bound before (map ir_type_of types) (have2 s)))
          ∙ binds s run.all run.are x typed
          (x_is ∙ sym (ap (λ b. either_value b (on_tuple (element_at 1) (get_or run.all (length s2.list.items) no_value)) (operand_value s run.all off)) (run.on predicate there ∙ is)
          ∙ (ap (λ y. either_value on (on_tuple (element_at 1) y) (operand_value s run.all off)) run.here
          ∙ (ap (λ y. either_value on y (operand_value s run.all off)) (second_part ir c on w)
          ∙ ap (either_value on (heard (channel_type ir c) (if on then w else no_word))) (run.kept off off_there)))))
          rest words)
          (λ words. run.gives nodes words)
          (call run.all run.are run.count)
        where
          run : SiteRun ir s s2 s9 k.extends.more values (received ir c on w)
          run = site_run ir s2 s3 s9 (receive_node (ir_type_of t) token predicate c) site p put.adds k refl s values (received ir c on w) v count (received_typed ir c t on w carries put.own)

      by : (s : Value) (values : List Value) → AreValues s2.state s2.list.items s values → length values ≡ length s2.list.items → (rest : Behind) (nodes : List Value → ByWords) (more : List Site)
          → ((all : List Value) → AreValues s9.state s9.list.items s all → length all ≡ length s9.list.items → DoAlike (word_width ir) more (rest (bound_by after s all)) (nodes all))
          → (on : Bool) → is_on s values predicate ≡ on → DoAlike (word_width ir) (receive_site c ∷ more) (f rest (bound_by before s values)) (nodes_then ir s (receive_in s2 (ir_type_of t) token predicate c ∷ k.extends.more) nodes values)
      by s values v count rest nodes more call true is =
          Receives (receive_site c) more (f rest (bound_by before s values)) (nodes_then ir s (receive_in s2 (ir_type_of t) token predicate c ∷ k.extends.more) nodes values)
          (λ w. apart_then shape rest (bound_by before s values) (Some (with_token (unflat_of t w.value))))
          (λ w. nodes_then ir s k.extends.more nodes (values ++ received ir c true w ∷ []))
          (ap (λ (a : CoreActivity). a.turns) (does s values v rest [] ∙ ap (λ b. receive_by b t shape rest (bound_by before s values) (operand_value s values off) []) is))
          (λ w words. does s values v rest (w ∷ words) ∙ ap (λ b. receive_by b t shape rest (bound_by before s values) (operand_value s values off) (w ∷ words)) is)
          (λ words. ap (λ b. heard_then b (λ w. nodes_then ir s k.extends.more nodes (values ++ received ir c b w ∷ [])) words) is)
          (λ w fits. let x_is = sym (word_heard ir c t w carries put.own fits) in behind s values v count rest nodes more call true is w (unflat_of t w.value) (gives_typed t carries.word.widths w.value) x_is)
      by s values v count rest nodes more call false is =
          Skips (receive_site c) more (f rest (bound_by before s values)) (nodes_then ir s (receive_in s2 (ir_type_of t) token predicate c ∷ k.extends.more) nodes values)
          (apart_then shape rest (bound_by before s values) (Some (with_token (operand_value s values off))))
          (nodes_then ir s k.extends.more nodes (values ++ received ir c false no_word ∷ []))
          (λ words. does s values v rest words ∙ ap (λ b. receive_by b t shape rest (bound_by before s values) (operand_value s values off) words) is)
          (λ words. ap (λ b. heard_then b (λ w. nodes_then ir s k.extends.more nodes (values ++ received ir c b w ∷ [])) words) is)
          (behind s values v count rest nodes more call false is no_word (operand_value s values off) (typed_off s values v is) refl)

-- ---- a send

abbrev pub send_site : ℕ → Site
send_site c = record { chan = c; sends = true }

-- a send is put: it gives a token
pub record SendPut (old new : Nodes) (site : Operand) : Type 0 where
  pub adds : AddsNodes old new
  pub has : HasType new site (Token [])

pub send_put : (old new : Nodes) (t : Ty) (token word site : Operand) (predicate : Option Operand) (c : ℕ) → IsBuilt old → HasType old token (Token []) → HasType old word (ir_type_of t) → list_all (is_there (length old.list.items)) (optional_operand predicate) ≡ true
    → PutsNode old new (send_node token word predicate c) site → SendPut old new site
send_put old new t token word site predicate c built has_token has_word there p = record {
  adds =
      site_put old new (send_node token word predicate c) site built p refl token_type.sound
      (ap (λ b. b && (is_there (length old.list.items) word && list_all (is_there (length old.list.items)) (optional_operand predicate))) has_token.there
      ∙ (ap (λ b. b && list_all (is_there (length old.list.items)) (optional_operand predicate)) has_word.there ∙ there));
  has = site_has old new (send_node token word predicate c) site p token_type;
}

-- what a send does where it is on, and where it isn't
abbrev pub send_by : Bool → Shape → Behind → Bindings → Value → ByWords
send_by on shape rest bound v words = turn_before (if on then Give (flat_of v) else Skip) (apart_then shape rest bound (Some core.token) words)

module _ (ir : List Channel) (s0 s2 s3 s9 : Nodes) (token word site last : Operand) (predicate : Option Operand) (c : ℕ) (t : Ty) (shape : Shape) (before after : List Operand) (types us : List Ty) where
  pub send_lowered : (f : Behind → Behind) → IsBuilt s0 → OperandsHaveTypes s0 before (map ir_type_of types) → (g : GrowsTo s0 s2) → HasType s2 token (Token []) → list_all (is_there (length s2.list.items)) (optional_operand predicate) ≡ true → HasType s2 word (ir_type_of t)
      → PutsNode s2 s3 (send_node token word predicate c) site → (k : GrowsTo s3 s9) → CarriesWords ir c t
      → OperandsHaveTypes s9 after (map ir_type_of us) → HasType s9 last (Token [])
      → ((s : Value) (values : List Value) → AreValues s2.state s2.list.items s values → (rest : Behind) (words : List Word) → f rest (bound_by before s values) words ≡ send_by (is_on s values predicate) shape rest (bound_by before s values) (operand_value s values word) words)
      → ((s : Value) (all : List Value) → AreValues s9.state s9.list.items s all → (rest : Behind) (words : List Word) → apart_then shape rest (bound_by before s all) (Some core.token) words ≡ rest (bound_by after s all) words)
      → DoLowered ir (send_site c ∷ []) f before after s0 s9 last us
  send_lowered f built have g has_token there has_word p k carries have_now has_last does binds = record {
    adds = adds_between s0 s2 s3 s9 (send_in s2 token word predicate c) g p.state p.list k;
    have = have_now;
    has = has_last;
    listed = sites_between g.extends.more k.extends.more (send_in s2 token word predicate c) g.extends.plain k.extends.plain;
    alike = λ s values v count rest nodes more call.
        let run = grown_run ir s0 s2 g s values v count in
        let values2 = values ++ run.added in
        alike_as (word_width ir) (send_site c ∷ more) (f rest (bound_by before s values2)) (nodes_then ir s (send_in s2 token word predicate c ∷ k.extends.more) nodes values2) (f rest (bound_by before s values)) (nodes_then ir s (g.extends.more ++ send_in s2 token word predicate c ∷ k.extends.more) nodes values)
        (λ words. ap (λ bound. f rest bound words) (sym (bound_kept s0 before (map ir_type_of types) s values run.added have count)))
        (λ words. ap (λ (r : List Value → ByWords). r values words) (nodes_append ir s g.extends.more (send_in s2 token word predicate c ∷ k.extends.more) nodes) ∙ run.gives (nodes_then ir s (send_in s2 token word predicate c ∷ k.extends.more) nodes) words)
        (by s values2 run.are run.count rest nodes more call (is_on s values2 predicate) refl);
  }
    where
      site_adds : AddsNodes s2 s3
      site_adds = (send_put s2 s3 t token word site predicate c g.built has_token has_word there p).adds

      behind : (s : Value) (values : List Value) → AreValues s2.state s2.list.items s values → length values ≡ length s2.list.items → (rest : Behind) (nodes : List Value → ByWords) (more : List Site)
          → ((all : List Value) → AreValues s9.state s9.list.items s all → length all ≡ length s9.list.items → DoAlike (word_width ir) more (rest (bound_by after s all)) (nodes all))
          → DoAlike (word_width ir) more (apart_then shape rest (bound_by before s values) (Some core.token)) (nodes_then ir s k.extends.more nodes (values ++ no_value ∷ []))
      behind s values v count rest nodes more call =
          alike_as (word_width ir) more (rest (bound_by after s run.all)) (nodes run.all) (apart_then shape rest (bound_by before s values) (Some core.token)) (nodes_then ir s k.extends.more nodes (values ++ no_value ∷ []))
          (λ words.
          ap (λ bound. apart_then shape rest bound (Some core.token) words) (sym (run.bound before (map ir_type_of types) (have_later s0 s2 before (map ir_type_of types) g have)))
          ∙ binds s run.all run.are rest words)
          (λ words. run.gives nodes words)
          (call run.all run.are run.count)
        where
          run : SiteRun ir s s2 s9 k.extends.more values no_value
          run = site_run ir s2 s3 s9 (send_node token word predicate c) site p site_adds k refl s values no_value v count token_value.value

      by : (s : Value) (values : List Value) → AreValues s2.state s2.list.items s values → length values ≡ length s2.list.items → (rest : Behind) (nodes : List Value → ByWords) (more : List Site)
          → ((all : List Value) → AreValues s9.state s9.list.items s all → length all ≡ length s9.list.items → DoAlike (word_width ir) more (rest (bound_by after s all)) (nodes all))
          → (on : Bool) → is_on s values predicate ≡ on → DoAlike (word_width ir) (send_site c ∷ more) (f rest (bound_by before s values)) (nodes_then ir s (send_in s2 token word predicate c ∷ k.extends.more) nodes values)
      by s values v count rest nodes more call true is =
          Gives (send_site c) more (f rest (bound_by before s values)) (nodes_then ir s (send_in s2 token word predicate c ∷ k.extends.more) nodes values)
          (apart_then shape rest (bound_by before s values) (Some core.token)) (nodes_then ir s k.extends.more nodes (values ++ no_value ∷ [])) (flat_of (operand_value s values word))
          (λ words. does s values v rest words ∙ ap (λ b. send_by b shape rest (bound_by before s values) (operand_value s values word) words) is)
          (λ words.
          ap (λ b. turn_before (if b then Give (sent (operand_value s values word)) else Skip) (nodes_then ir s k.extends.more nodes (values ++ no_value ∷ []) words)) is
          ∙ ap (λ x. turn_before (Give x) (nodes_then ir s k.extends.more nodes (values ++ no_value ∷ []) words)) (sent_is ir c t (operand_value s values word) carries (typed_value s2 word t has_word s values v)))
          (behind s values v count rest nodes more call)
      by s values v count rest nodes more call false is =
          Skips (send_site c) more (f rest (bound_by before s values)) (nodes_then ir s (send_in s2 token word predicate c ∷ k.extends.more) nodes values)
          (apart_then shape rest (bound_by before s values) (Some core.token)) (nodes_then ir s k.extends.more nodes (values ++ no_value ∷ []))
          (λ words. does s values v rest words ∙ ap (λ b. send_by b shape rest (bound_by before s values) (operand_value s values word) words) is)
          (λ words. ap (λ b. turn_before (if b then Give (sent (operand_value s values word)) else Skip) (nodes_then ir s k.extends.more nodes (values ++ no_value ∷ []) words)) is)
          (behind s values v count rest nodes more call)
