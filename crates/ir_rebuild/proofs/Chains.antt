-- The order of sites: what nodes leave, and the tokens that lead from site to site, of what was read and of what was built.
use Rattle.std.proofs.Common.{◌≡◌, ℕ, suc, ◌<◌, List, [], ◌∷◌, ◌++◌, map, length, get_or, Bool, true, false, ◌&&◌, Option, Some, None, refl, sym, ap, ap₂, subst, ◌∙◌, arith}
use Rattle.std.specs.Prelude.{slice_get, not, option_map, ◌||◌, slice_set}
use Rattle.std.specs.List.{list_all}
use Rattle.std.proofs.lemmas.List.{get_or_append_left}
use Rattle.std.proofs.lemmas.Option.{slice_get-get_or}
use Rattle.delay_model.specs.declared.op.Op.{Op}
use Rattle.delay_model.specs.declared.op.Op.TheVariants as op
use Rattle.ir_tree.specs.declared.ir_type.IrType.{IrType}
use Rattle.ir_tree.specs.declared.node.Operand.{Operand}
use Rattle.ir_tree.specs.declared.node.Operand.TheVariants as operand
use Rattle.ir_tree.specs.declared.node.Node.{Node}
use Rattle.ir_tree.specs.declared.node.Role.{Role}
use Rattle.ir_tree.specs.declared.node.Role.TheVariants as role
use Rattle.ir_tree.specs.declared.node.Attributes.{Attributes}
use Rattle.ir_tree.specs.declared.node.Attributes.TheVariants as attributes
use Rattle.ir_tree.specs.declared.package.Channel.{Channel}
use Rattle.ir_tree.specs.NodeValues.{role_of, role_by}
use Rattle.ir_tree.specs.Rules.Lines.{Seen, see, see_op, see_role, is_there, is_after_all, is_first_part, is_operand, are_only, is_token_of, is_start, follows, role_there, token_is, first_token_is, is_chained_role, is_chained, is_at_end, is_free, may_receive, may_send}
use Rattle.ir_tree.specs.Rules.Verified.{seen_after}
use Rattle.ir_rebuild.specs.Moves.{moved, moved_attributes, moved_node}
use Rattle.ir_rebuild.specs.Kept.{is_kept}
use Rattle.ir_rebuild.specs.Built.{is_plain_op, numbered}
use Rattle.ir_rebuild.specs.Fixed.{is_receive_op, is_receive, is_part_of_receive, is_fixed}
use Rattle.ir_rebuild.proofs.Moving.{both, and_both}
use Rattle.ir_rebuild.proofs.Building.{below, same_number, equal_number, one_longer}
use Rattle.ir_rebuild.proofs.NodeChecks.{plain_unseen}
use Rattle.ir_rebuild.proofs.Standing.{Stand, is_ready, moved_role, role_moved, last_item}

-- ---- what nodes leave

-- the place of the last site among the old nodes, and among the new
pub record IsSiteAt (kept : List Bool) (places : List Operand) (l r : ℕ) : Type 0 where
  pub within : l < length places
  pub kept_there : get_or kept l false ≡ true
  pub at : get_or places l operand.State ≡ operand.Node r

abbrev pub SameSite : List Bool → List Operand → Option ℕ → Option ℕ → Type 0
SameSite kept places None None = Unit {0}
SameSite kept places None (Some r) = ⊥
SameSite kept places (Some l) None = ⊥
SameSite kept places (Some l) (Some r) = IsSiteAt kept places l r

pub record SeenAlike (kept : List Bool) (places : List Operand) (a b : Seen) : Type 0 where
  pub received : a.received ≡ b.received
  pub sent : a.sent ≡ b.sent
  pub after_all : b.after_all ≡ true → a.after_all ≡ true
  pub site : SameSite kept places a.site b.site

site_more : (kept : List Bool) (places : List Operand) (o : Operand) (l r : Option ℕ) → SameSite kept places l r → SameSite kept (places ++ o ∷ []) l r
site_more kept places o None None h = tt
site_more kept places o None (Some r) h = h
site_more kept places o (Some l) None h = h
site_more kept places o (Some l) (Some r) h = record {
  within = (let less = h.within in omega (arith, one_longer places o));
  kept_there = h.kept_there;
  at = get_or_append_left places (o ∷ []) operand.State l h.within ∙ h.at;
}

pub seen_alike_more : (kept : List Bool) (places : List Operand) (o : Operand) (a b : Seen) → SeenAlike kept places a b → SeenAlike kept (places ++ o ∷ []) a b
seen_alike_more kept places o a b h = record { received = h.received; sent = h.sent; after_all = h.after_all; site = site_more kept places o a.site b.site h.site }

or_later : (x y : Bool) → y ≡ true → x || y ≡ true
or_later true y h = refl
or_later false y h = h

or_either : (x y z : Bool) → (z ≡ true → y ≡ true) → x || z ≡ true → x || y ≡ true
or_either true y z h e = refl
or_either false y z h e = h e

-- a node that isn't kept, and is no site, leaves nothing that counts
pub seen_skipped : (kept : List Bool) (places : List Operand) (o : Operand) (i : ℕ) (n : Node) (a b : Seen) → role_of n ≡ role.Pure → SeenAlike kept places a b → SeenAlike kept (places ++ o ∷ []) (see i n a) b
seen_skipped kept places o i n a b e h =
    subst (λ r. SeenAlike kept (places ++ o ∷ []) (see_op n.op (see_role i r a)) b) (sym e)
    (record { received = h.received; sent = h.sent; after_all = λ k. or_later (is_after_all n.op) a.after_all (h.after_all k); site = site_more kept places o a.site b.site h.site })

site_here : (kept : List Bool) (places : List Operand) (q : ℕ) → get_or kept (length places) false ≡ true → IsSiteAt kept (places ++ operand.Node q ∷ []) (length places) q
site_here kept places q k = record {
  within = omega (arith, one_longer places (operand.Node q));
  kept_there = k;
  at = last_item places (operand.Node q) operand.State (length places) refl;
}

seen_by_role : (kept : List Bool) (places : List Operand) (q : ℕ) (f : Operand → Operand) (o : Op) (a b : Seen) (r : Role) → get_or kept (length places) false ≡ true → SeenAlike kept places a b → SeenAlike kept (places ++ operand.Node q ∷ []) (see_op o (see_role (length places) r a)) (see_op o (see_role q (moved_role f r) b))
seen_by_role kept places q f o a b role.Pure k h =
    record { received = h.received; sent = h.sent; after_all = λ e. or_either (is_after_all o) a.after_all b.after_all h.after_all e; site = site_more kept places (operand.Node q) a.site b.site h.site }
seen_by_role kept places q f o a b (role.Receive predicate c) k h =
    record { received = ap (λ xs. slice_set xs c true) h.received; sent = h.sent; after_all = λ e. or_either (is_after_all o) a.after_all b.after_all h.after_all e; site = site_here kept places q k }
seen_by_role kept places q f o a b (role.Send predicate c) k h =
    record { received = h.received; sent = ap (λ xs. slice_set xs c true) h.sent; after_all = λ e. or_either (is_after_all o) a.after_all b.after_all h.after_all e; site = site_here kept places q k }

-- a copy leaves what its node leaves
pub seen_copied : (kept : List Bool) (places : List Operand) (i q : ℕ) (f : Operand → Operand) (n : Node) (a b : Seen) → length places ≡ i → get_or kept i false ≡ true → SeenAlike kept places a b → SeenAlike kept (places ++ operand.Node q ∷ []) (see i n a) (see q (numbered q (moved_node f n)) b)
seen_copied kept places i q f n a b e k h =
    subst (λ j. SeenAlike kept (places ++ operand.Node q ∷ []) (see j n a) (see q (numbered q (moved_node f n)) b)) e
    (subst (λ r. SeenAlike kept (places ++ operand.Node q ∷ []) (see_op n.op (see_role (length places) (role_of n) a)) (see_op n.op (see_role q r b))) (sym (role_moved f n.op n.attributes))
    (seen_by_role kept places q f n.op a b (role_of n) (subst (λ j. get_or kept j false ≡ true) (sym e) k) h))

pub unseen_all : (i : ℕ) (seen : Seen) (nodes : List Node) → list_all (λ (n : Node). is_plain_op n.op) nodes ≡ true → seen_after i seen nodes ≡ seen
unseen_all i seen [] h = refl
unseen_all i seen (n ∷ ns) h =
    let parts = both (is_plain_op n.op) (list_all (λ (n : Node). is_plain_op n.op) ns) h in
    ap (λ s. seen_after (suc i) s ns) (plain_unseen i n seen parts.0) ∙ unseen_all (suc i) seen ns parts.1

-- ---- tokens

start_fixed : (all : List Node) (n : Node) → is_after_all n.op ≡ true → is_fixed all n ≡ true
start_fixed all n h = ap (λ b. not b || is_part_of_receive all n.attributes n.operands) (no_plain n.op h)
  where
    no_plain : (o : Op) → is_after_all o ≡ true → is_plain_op o ≡ false
    no_plain op.AfterAll e = refl
    no_plain o e = absurd (cc)

receive_op : (o : Op) (a : Attributes) (predicate : Option Operand) (c : ℕ) → role_by o a ≡ role.Receive predicate c → is_receive_op o ≡ true
receive_op o attributes.None predicate c e = absurd (cc)
receive_op o (attributes.StartAndWidth start width) predicate c e = absurd (cc)
receive_op o (attributes.Width width) predicate c e = absurd (cc)
receive_op o (attributes.NewBitCount width) predicate c e = absurd (cc)
receive_op o (attributes.Cases cases default) predicate c e = absurd (cc)
receive_op o (attributes.Index i) predicate c e = absurd (cc)
receive_op o (attributes.Indices i) predicate c e = absurd (cc)
receive_op o (attributes.Value v) predicate c e = absurd (cc)
receive_op op.Receive (attributes.Channel p d) predicate c e = refl
receive_op op.Send (attributes.Channel p d) predicate c e = absurd (cc)
receive_op o (attributes.Channel p d) predicate c e = absurd (cc)

send_op : (o : Op) (a : Attributes) (predicate : Option Operand) (c : ℕ) → role_by o a ≡ role.Send predicate c → is_plain_op o ≡ false
send_op o attributes.None predicate c e = absurd (cc)
send_op o (attributes.StartAndWidth start width) predicate c e = absurd (cc)
send_op o (attributes.Width width) predicate c e = absurd (cc)
send_op o (attributes.NewBitCount width) predicate c e = absurd (cc)
send_op o (attributes.Cases cases default) predicate c e = absurd (cc)
send_op o (attributes.Index i) predicate c e = absurd (cc)
send_op o (attributes.Indices i) predicate c e = absurd (cc)
send_op o (attributes.Value v) predicate c e = absurd (cc)
send_op op.Receive (attributes.Channel p d) predicate c e = absurd (cc)
send_op op.Send (attributes.Channel p d) predicate c e = refl
send_op o (attributes.Channel p d) predicate c e = absurd (cc)

receive_no_plain : (o : Op) → is_receive_op o ≡ true → is_plain_op o ≡ false
receive_no_plain op.Receive e = refl
receive_no_plain o e = absurd (cc)

pub no_plain_fixed : (all : List Node) (n : Node) → is_plain_op n.op ≡ false → is_fixed all n ≡ true
no_plain_fixed all n h = ap (λ b. not b || is_part_of_receive all n.attributes n.operands) h

first_part_is : (a : Attributes) → is_first_part a ≡ true → a ≡ attributes.Index 0
first_part_is attributes.None h = absurd (cc)
first_part_is (attributes.StartAndWidth start width) h = absurd (cc)
first_part_is (attributes.Width width) h = absurd (cc)
first_part_is (attributes.NewBitCount width) h = absurd (cc)
first_part_is (attributes.Cases cases default) h = absurd (cc)
first_part_is (attributes.Index i) h = ap attributes.Index (same_number i 0 h)
first_part_is (attributes.Indices i) h = absurd (cc)
first_part_is (attributes.Value c) h = absurd (cc)
first_part_is (attributes.Channel predicate c) h = absurd (cc)

operand_is : (i : ℕ) (o : Operand) → is_operand i o ≡ true → o ≡ operand.Node i
operand_is i operand.State h = absurd (cc)
operand_is i (operand.Node j) h = ap operand.Node (same_number j i h)

only_is : (i : ℕ) (os : List Operand) → are_only i os ≡ true → os ≡ operand.Node i ∷ []
only_is i [] h = absurd (cc)
only_is i (o ∷ []) h = ap (λ x. x ∷ []) (operand_is i o h)
only_is i (o ∷ p ∷ os) h = absurd (cc)

-- the token of a receive is fixed
part_fixed : (all : List Node) (n u : Node) (l : ℕ) → n.attributes ≡ attributes.Index 0 → n.operands ≡ operand.Node l ∷ [] → slice_get all l ≡ Some u → is_receive_op u.op ≡ true → is_fixed all n ≡ true
part_fixed all n u l a os e r =
    or_later (not (is_plain_op n.op)) _ (ap₂ (is_part_of_receive all) a os ∙ ap is_receive e ∙ r)

-- a token of the order that was read, where it stands now
pub record IsTokenAt (new : List Node) (places : List Operand) (site : Option ℕ) (j : ℕ) : Type 0 where
  pub at : ℕ
  pub is : get_or places j operand.State ≡ operand.Node at
  pub token : token_is new site at ≡ true

copied_role : (f : Operand → Operand) (new : List Node) (at : ℕ) (u : Node) (r : Role) → slice_get new at ≡ Some (numbered at (moved_node f u)) → role_of u ≡ r → role_there (slice_get new at) ≡ moved_role f r
copied_role f new at u r e h = ap role_there e ∙ role_moved f u.op u.attributes ∙ ap (moved_role f) h

token_behind : (state : IrType) (kept : List Bool) (all old new : List Node) (places : List Operand) → Stand state kept all old new places → ((i : ℕ) (n : Node) → slice_get old i ≡ Some n → slice_get all i ≡ Some n) → (l r j : ℕ) (t u : Node) → IsSiteAt kept places l r → slice_get old j ≡ Some t → slice_get old l ≡ Some u → get_or kept j false ≡ true → (ρ : Role) → role_of u ≡ ρ → follows old l ρ j ≡ true → IsTokenAt new places (Some r) j
token_behind state kept all old new places h front l r j t u site here there k role.Pure e f = absurd (cc)
token_behind state kept all old new places h front l r j t u site here there k (role.Receive predicate c) e f =
    let token : is_first_part t.attributes && are_only l t.operands ≡ true = sym (ap (is_token_of l) here) ∙ f in
    let parts = both (is_first_part t.attributes) (are_only l t.operands) token in
    let first = first_part_is t.attributes parts.0 in
    let only = only_is l t.operands parts.1 in
    let receive = receive_op u.op u.attributes predicate c e in
    let t_copy = h.copy j t here k (part_fixed all t u l first only (front l u there) receive) in
    let u_copy = h.copy l u there site.kept_there (no_plain_fixed all u (receive_no_plain u.op receive)) in
    let same : operand.Node u_copy.at ≡ operand.Node r = sym u_copy.is ∙ site.at in
    let place : u_copy.at ≡ r = cc in
    let role_now : role_there (slice_get new r) ≡ role.Receive (option_map (moved places) predicate) c =
    subst (λ q. role_there (slice_get new q) ≡ role.Receive (option_map (moved places) predicate) c) place (copied_role (moved places) new u_copy.at u (role.Receive predicate c) u_copy.node e) in
    let first_now : is_first_part (moved_attributes (moved places) t.attributes) ≡ true = ap (λ a. is_first_part (moved_attributes (moved places) a)) first in
    let only_now : are_only r (map (moved places) t.operands) ≡ true =
    ap (λ os. are_only r (map (moved places) os)) only ∙ ap (λ o. are_only r (o ∷ [])) site.at ∙ equal_number r in
    record {
      at = t_copy.at;
      is = t_copy.is;
      token = ap (λ ρ. follows new r ρ t_copy.at) role_now ∙ ap (is_token_of r) t_copy.node ∙ and_both _ _ first_now only_now;
    }
token_behind state kept all old new places h front l r j t u site here there k (role.Send predicate c) e f =
    let same : j ≡ l = same_number j l f in
    let u_copy = h.copy l u there site.kept_there (no_plain_fixed all u (send_op u.op u.attributes predicate c e)) in
    let equal : operand.Node u_copy.at ≡ operand.Node r = sym u_copy.is ∙ site.at in
    let place : u_copy.at ≡ r = cc in
    let role_now : role_there (slice_get new r) ≡ role.Send (option_map (moved places) predicate) c =
    subst (λ q. role_there (slice_get new q) ≡ role.Send (option_map (moved places) predicate) c) place (copied_role (moved places) new u_copy.at u (role.Send predicate c) u_copy.node e) in
    record {
      at = r;
      is = ap (λ i. get_or places i operand.State) same ∙ site.at;
      token = ap (λ ρ. follows new r ρ r) role_now ∙ equal_number r;
    }

token_at : (state : IrType) (kept : List Bool) (all old new : List Node) (places : List Operand) → Stand state kept all old new places → ((i : ℕ) (n : Node) → slice_get old i ≡ Some n → slice_get all i ≡ Some n) → (d : Node) (a b : Option ℕ) (j : ℕ) → SameSite kept places a b → j < length old → get_or kept j false ≡ true → token_is old a j ≡ true → IsTokenAt new places b j
token_at state kept all old new places h front d None None j site less k f =
    let t = get_or old j d in
    let here = slice_get-get_or old j d less in
    let start : is_after_all t.op ≡ true = sym (ap is_start here) ∙ f in
    let copy = h.copy j t here k (start_fixed all t start) in
    record { at = copy.at; is = copy.is; token = ap is_start copy.node ∙ start }
token_at state kept all old new places h front d None (Some r) j site less k f = absurd site
token_at state kept all old new places h front d (Some l) None j site less k f = absurd site
token_at state kept all old new places h front d (Some l) (Some r) j site less k f =
    let within : l < length old = (let same = h.count in let one = site.within in omega arith) in
    let there = slice_get-get_or old l d within in
    token_behind state kept all old new places h front l r j (get_or old j d) (get_or old l d) site (slice_get-get_or old j d less) there k (role_of (get_or old l d)) refl
    (sym (ap (λ o. follows old l (role_there o) j) there) ∙ f)

first_token : (state : IrType) (kept : List Bool) (all old new : List Node) (places : List Operand) → Stand state kept all old new places → ((i : ℕ) (n : Node) → slice_get old i ≡ Some n → slice_get all i ≡ Some n) → (d : Node) (a b : Option ℕ) → SameSite kept places a b → (os : List Operand) → list_all (is_ready (length old) kept) os ≡ true → first_token_is old a os ≡ true → first_token_is new b (map (moved places) os) ≡ true
first_token state kept all old new places h front d a b site [] ready f = absurd (cc)
first_token state kept all old new places h front d a b site (operand.State ∷ os) ready f = absurd (cc)
first_token state kept all old new places h front d a b site (operand.Node j ∷ os) ready f =
    let one = both (is_ready (length old) kept (operand.Node j)) (list_all (is_ready (length old) kept) os) ready in
    let parts = both (is_there (length old) (operand.Node j)) (is_kept kept (operand.Node j)) one.0 in
    let token = token_at state kept all old new places h front d a b j site (below j (length old) parts.0) parts.1 f in
    ap (λ o. first_token_is new b (o ∷ map (moved places) os)) token.is ∙ token.token

chained_by : (state : IrType) (kept : List Bool) (all old new : List Node) (places : List Operand) → Stand state kept all old new places → ((i : ℕ) (n : Node) → slice_get old i ≡ Some n → slice_get all i ≡ Some n) → (d : Node) (a b : Option ℕ) → SameSite kept places a b → (os : List Operand) → list_all (is_ready (length old) kept) os ≡ true → (r : Role) → is_chained_role old a os r ≡ true → is_chained_role new b (map (moved places) os) (moved_role (moved places) r) ≡ true
chained_by state kept all old new places h front d a b site os ready role.Pure f = refl
chained_by state kept all old new places h front d a b site os ready (role.Receive predicate c) f = first_token state kept all old new places h front d a b site os ready f
chained_by state kept all old new places h front d a b site os ready (role.Send predicate c) f = first_token state kept all old new places h front d a b site os ready f

one_start : (o u v : Bool) → (v ≡ true → u ≡ true) → not (o && u) ≡ true → not (o && v) ≡ true
one_start false u v h e = refl
one_start true u false h e = refl
one_start true true true h e = e
one_start true false true h e = absurd (let no : false ≡ true = h refl in cc)

-- the copy of a node is chained as the node is
pub copy_chained : (state : IrType) (kept : List Bool) (all old new : List Node) (places : List Operand) → Stand state kept all old new places → ((i : ℕ) (n : Node) → slice_get old i ≡ Some n → slice_get all i ≡ Some n) → (n : Node) (a b : Seen) → SeenAlike kept places a b → list_all (is_ready (length old) kept) n.operands ≡ true → is_chained old a n ≡ true → is_chained new b (numbered (length new) (moved_node (moved places) n)) ≡ true
copy_chained state kept all old new places h front n a b alike ready f =
    let parts = both (not (is_after_all n.op && a.after_all)) (is_chained_role old a.site n.operands (role_of n)) f in
    and_both _ _ (one_start (is_after_all n.op) a.after_all b.after_all alike.after_all parts.0)
    (ap (is_chained_role new b.site (map (moved places) n.operands)) (role_moved (moved places) n.op n.attributes)
    ∙ chained_by state kept all old new places h front n a.site b.site alike.site n.operands ready (role_of n) parts.1)

end_by : (channels : List Channel) (f : Operand → Operand) (a b : Seen) → a.received ≡ b.received → a.sent ≡ b.sent → (r : Role) → is_at_end channels b (moved_role f r) ≡ is_at_end channels a r
end_by channels f a b received sent role.Pure = refl
end_by channels f a b received sent (role.Receive predicate c) = ap (λ xs. may_receive (slice_get channels c) && is_free xs c) (sym received)
end_by channels f a b received sent (role.Send predicate c) = ap (λ xs. may_send (slice_get channels c) && is_free xs c) (sym sent)

pub copy_at_end : (channels : List Channel) (kept : List Bool) (places : List Operand) (f : Operand → Operand) (n : Node) (a b : Seen) → SeenAlike kept places a b → is_at_end channels a (role_of n) ≡ true → is_at_end channels b (role_by n.op (moved_attributes f n.attributes)) ≡ true
copy_at_end channels kept places f n a b h e =
    ap (is_at_end channels b) (role_moved f n.op n.attributes) ∙ end_by channels f a b h.received h.sent (role_of n) ∙ e
