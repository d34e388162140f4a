-- Registers that are laid out for a proc's pipeline.
use Rattle.std.proofs.Common.{◌≡◌, ℕ, zero, suc, ◌+◌, ◌-◌, ◌<◌, ◌≤◌, min, Bool, true, false, cond, List, [], ◌∷◌, ◌++◌, length, drop, get_or, map, Result, Ok, Err, refl, sym, ap, ap₂, ◌∙◌, subst, arith}
use Rattle.std.specs.Prelude.{IfOk, OnOk}
use Rattle.std.proofs.Math.Seq.{drop-cons}
use Rattle.std.proofs.lemmas.List.{append_assoc, append-nil, drop_all}
use Rattle.ir_tree.specs.declared.node.Node.{Node}
use Rattle.ir_tree.specs.declared.package.Channel.{Channel}
use Rattle.ir_tree.specs.NodeValues.{role_of}
use Rattle.ir_tree.specs.Types.{ty_of}
use Rattle.vlog_tree.specs.declared.expression.Atom.{Atom}
use Rattle.block_build.specs.declared.netlist.layout.SiteRegisters.{SiteRegisters}
use Rattle.block_build.specs.declared.netlist.registers.Register.{Register}
use Rattle.block_build.specs.declared.netlist.registers.RegisterList.{RegisterList}
use Rattle.block_build.specs.Netlist.Leaves.{leaf_widths, repeated}
use Rattle.block_build.specs.Netlist.Nexts.{is_literal}
use Rattle.block_build.specs.Netlist.ProcRegisters.{registers_of, full_register, full_registers, site_registers, sites_registers, site_at, sites_at, copy_registers, node_registers, nodes_registers, copies_at}
use Rattle.block_build.specs.Netlist.Registers.{next_register, Lays, zero_register}
use Rattle.block_build.proofs.OnNetlist.OnRegisters.{nothing_laid, lays_both, register_behind}

-- ---- what is laid so far, and what is left

pub record LaidLeft (a b : RegisterList) (rest whole : List Register) : Type 0 where
  pub lay : (c : RegisterList) → Lays b c rest → Lays a c whole

pub laid_begun : (a : RegisterList) (whole : List Register) → LaidLeft a a whole whole
laid_begun a whole = record { lay = λ c p. p }

pub laid_more : (a b c : RegisterList) (xs ys whole : List Register) → LaidLeft a b (xs ++ ys) whole → Lays b c xs → LaidLeft a c ys whole
laid_more a b c xs ys whole p q = record { lay = λ d r. p.lay d (lays_both b c d xs ys q r) }

pub laid_all : (a b : RegisterList) (rest whole : List Register) → rest ≡ [] → LaidLeft a b rest whole → Lays a b whole
laid_all a b rest whole e p = p.lay b (subst (Lays b b) (sym e) (nothing_laid b))

-- one register, and some more
pub one_laid : {A E : Type 0} (o : Result A E) (a b c : RegisterList) (x : Register) (xs : List Register) → Lays a b (x ∷ []) → OnOk o (Lays b c xs) → OnOk o (Lays a c (x ∷ xs))
one_laid (Ok r) a b c x xs p q = lays_both a b c (x ∷ []) xs p q
one_laid (Err e) a b c x xs p q = tt

pub whatever_comes : {A E : Type 0} (o : Result A E) (P : Type 0) → P → OnOk o P
whatever_comes (Ok r) P p = p
whatever_comes (Err e) P p = tt

-- ---- full bits

pub full_begun : (a : RegisterList) (n : ℕ) → LaidLeft a a (full_registers 0 (n - 0)) (full_registers 0 n)
full_begun a n = let e : n - 0 ≡ n = omega arith in subst (λ m. LaidLeft a a (full_registers 0 m) (full_registers 0 n)) (sym e) (laid_begun a (full_registers 0 n))

pub full_more : (a b c : RegisterList) (n stage : ℕ) (reset : Atom) → stage < n → reset ≡ (full_register stage).reset → LaidLeft a b (full_registers stage (n - stage)) (full_registers 0 n) → Lays b c (record { width = 1; reset = reset } ∷ [])
    → LaidLeft a c (full_registers (stage + 1) (n - (stage + 1))) (full_registers 0 n)
full_more a b c n stage reset l reset_is p q =
    let some : n - stage ≡ suc (n - (stage + 1)) = omega (arith, l) in
    let one : suc stage ≡ stage + 1 = omega arith in
    let before = subst (λ m. LaidLeft a b (full_registers stage m) (full_registers 0 n)) some p in
    let here = subst (λ t. Lays b c (record { width = 1; reset = t } ∷ [])) reset_is q in
    subst (λ m. LaidLeft a c (full_registers m (n - (stage + 1))) (full_registers 0 n)) one (laid_more a b c (full_register stage ∷ []) (full_registers (suc stage) (n - (stage + 1))) (full_registers 0 n) before here)

pub full_done : (a b : RegisterList) (n stage : ℕ) → n ≤ stage → LaidLeft a b (full_registers stage (n - stage)) (full_registers 0 n) → Lays a b (full_registers 0 n)
full_done a b n stage l p = let none : n - stage ≡ 0 = omega (arith, l) in laid_all a b (full_registers stage (n - stage)) (full_registers 0 n) (ap (full_registers stage) none) p

-- ---- sites

pub record SitesLaidLeft (a b : RegisterList) (channels : List Channel) (nodes : List Node) (i : ℕ) (sites : List SiteRegisters) : Type 0 where
  pub sites_are : sites ++ sites_at channels (next_register b) (drop i nodes) ≡ sites_at channels (next_register a) nodes
  pub laid : LaidLeft a b (sites_registers channels (drop i nodes)) (sites_registers channels nodes)

pub sites_begun : (a : RegisterList) (channels : List Channel) (nodes : List Node) (sites : List SiteRegisters) → sites ≡ [] → SitesLaidLeft a a channels nodes 0 sites
sites_begun a channels nodes sites e = record { sites_are = ap (λ xs. xs ++ sites_at channels (next_register a) nodes) e; laid = laid_begun a (sites_registers channels nodes) }

pub sites_more : (a b c : RegisterList) (channels : List Channel) (nodes : List Node) (i : ℕ) (n : Node) (sites more : List SiteRegisters) → i < length nodes → n ≡ get_or nodes i n → SitesLaidLeft a b channels nodes i sites
    → more ≡ sites ++ site_at (next_register b) (role_of n) → Lays b c (site_registers channels (role_of n)) → SitesLaidLeft a c channels nodes (i + 1) more
sites_more a b c channels nodes i n sites more l n_is p grown q =
    let one : suc i ≡ i + 1 = omega arith in
    let own = site_registers channels (role_of n) in
    let left : drop i nodes ≡ n ∷ drop (i + 1) nodes = drop-cons nodes i n l ∙ ap (λ x. x ∷ drop (suc i) nodes) (sym n_is) ∙ ap (λ k. n ∷ drop k nodes) one in
    record {
      sites_are =
          ap₂ (λ xs k. xs ++ sites_at channels k (drop (i + 1) nodes)) grown (register_behind b c own q)
          ∙ append_assoc sites (site_at (next_register b) (role_of n)) (sites_at channels (next_register b + length own) (drop (i + 1) nodes))
          ∙ ap (λ xs. sites ++ sites_at channels (next_register b) xs) (sym left)
          ∙ p.sites_are;
      laid = laid_more a b c own (sites_registers channels (drop (i + 1) nodes)) (sites_registers channels nodes) (subst (λ xs. LaidLeft a b (sites_registers channels xs) (sites_registers channels nodes)) left p.laid) q;
    }

pub sites_done : (a b : RegisterList) (channels : List Channel) (nodes : List Node) (i : ℕ) (sites : List SiteRegisters) → length nodes ≤ i → SitesLaidLeft a b channels nodes i sites
    → (sites ≡ sites_at channels (next_register a) nodes) × Lays a b (sites_registers channels nodes)
sites_done a b channels nodes i sites l p =
    let none = drop_all i nodes l in (
      sym (append-nil sites) ∙ ap (λ xs. sites ++ sites_at channels (next_register b) xs) (sym none) ∙ p.sites_are,
      laid_all a b (sites_registers channels (drop i nodes)) (sites_registers channels nodes) (ap (sites_registers channels) none) p.laid,
    )

-- a receive's
pub record ReceiveLaid (a c : RegisterList) (width done kept : ℕ) : Type 0 where
  pub done_is : done ≡ next_register a
  pub kept_is : kept ≡ suc (next_register a)
  pub lays : Lays a c (zero_register 1 ∷ zero_register width ∷ [])

pub receive_laid : (a b c : RegisterList) (width done kept : ℕ) (bit word : Atom) → done ≡ next_register a → bit ≡ (zero_register 1).reset → Lays a b (record { width = 1; reset = bit } ∷ []) → kept ≡ next_register b → word ≡ (zero_register width).reset
    → Lays b c (record { width = width; reset = word } ∷ []) → ReceiveLaid a c width done kept
receive_laid a b c width done kept bit word done_is bit_is p kept_is word_is q =
    let first = subst (λ t. Lays a b (record { width = 1; reset = t } ∷ [])) bit_is p in
    let second = subst (λ t. Lays b c (record { width = width; reset = t } ∷ [])) word_is q in
    record {
      done_is = done_is;
      kept_is = kept_is ∙ register_behind a b (zero_register 1 ∷ []) first ∙ one (next_register a);
      lays = lays_both a b c (zero_register 1 ∷ []) (zero_register width ∷ []) first second;
    }
  where
    one : (n : ℕ) → n + 1 ≡ suc n
    one n = omega arith

-- ---- copies

pub copies_begun : (a : RegisterList) (ws : List ℕ) (n : ℕ) → LaidLeft a a (copy_registers ws (n - 0)) (copy_registers ws n)
copies_begun a ws n = let e : n - 0 ≡ n = omega arith in subst (λ m. LaidLeft a a (copy_registers ws m) (copy_registers ws n)) (sym e) (laid_begun a (copy_registers ws n))

pub copies_more : (a b c : RegisterList) (ws : List ℕ) (n i : ℕ) → i < n → LaidLeft a b (copy_registers ws (n - i)) (copy_registers ws n) → Lays b c (map zero_register ws) → LaidLeft a c (copy_registers ws (n - (i + 1))) (copy_registers ws n)
copies_more a b c ws n i l p q =
    let some : n - i ≡ suc (n - (i + 1)) = omega (arith, l) in
    laid_more a b c (map zero_register ws) (copy_registers ws (n - (i + 1))) (copy_registers ws n) (subst (λ m. LaidLeft a b (copy_registers ws m) (copy_registers ws n)) some p) q

pub copies_done : (a b : RegisterList) (ws us : List ℕ) (n m i : ℕ) → n ≤ i → LaidLeft a b (copy_registers ws (n - i)) (copy_registers ws n) → ws ≡ us → n ≡ m → Lays a b (copy_registers us m)
copies_done a b ws us n m i l p e f =
    let none : n - i ≡ 0 = omega (arith, l) in
    subst (λ k. Lays a b (copy_registers us k)) f (subst (λ xs. Lays a b (copy_registers xs n)) e (laid_all a b (copy_registers ws (n - i)) (copy_registers ws n) (ap (copy_registers ws) none) p))

-- ---- nodes

pub literal_laid : (a : RegisterList) (n : Node) (stage last : ℕ) → is_literal n.attributes ≡ true → Lays a a (node_registers n stage last)
literal_laid a n stage last e = subst (Lays a a) (ap (λ t. cond t [] (copy_registers (leaf_widths (ty_of n.ty)) (last - stage))) (sym e)) (nothing_laid a)

pub value_laid : {A E : Type 0} (o : Result A E) (a b : RegisterList) (n : Node) (stage last : ℕ) → is_literal n.attributes ≡ false → OnOk o (Lays a b (copy_registers (leaf_widths (ty_of n.ty)) (last - stage))) → OnOk o (Lays a b (node_registers n stage last))
value_laid (Ok r) a b n stage last e p = subst (Lays a b) (ap (λ t. cond t [] (copy_registers (leaf_widths (ty_of n.ty)) (last - stage))) (sym e)) p
value_laid (Err z) a b n stage last e p = tt

pub record NodesLaidLeft (a b : RegisterList) (nodes : List Node) (stages lasts : List ℕ) (i : ℕ) (copies : List ℕ) : Type 0 where
  pub copies_are : copies ++ copies_at (next_register b) (drop i nodes) (drop i stages) (drop i lasts) ≡ copies_at (next_register a) nodes stages lasts
  pub laid : LaidLeft a b (nodes_registers (drop i nodes) (drop i stages) (drop i lasts)) (nodes_registers nodes stages lasts)

pub nodes_begun : (a : RegisterList) (nodes : List Node) (stages lasts copies : List ℕ) → copies ≡ [] → NodesLaidLeft a a nodes stages lasts 0 copies
nodes_begun a nodes stages lasts copies e = record { copies_are = ap (λ xs. xs ++ copies_at (next_register a) nodes stages lasts) e; laid = laid_begun a (nodes_registers nodes stages lasts) }

pub nodes_more : (a b c : RegisterList) (nodes : List Node) (stages lasts : List ℕ) (i : ℕ) (n : Node) (first : ℕ) (copies more : List ℕ) → i < length nodes → i < length stages → i < length lasts → n ≡ get_or nodes i n
    → NodesLaidLeft a b nodes stages lasts i copies → first ≡ next_register b → more ≡ copies ++ first ∷ [] → Lays b c (node_registers n (get_or stages i 0) (get_or lasts i 0)) → NodesLaidLeft a c nodes stages lasts (i + 1) more
nodes_more a b c nodes stages lasts i n first copies more l m o n_is p first_is grown q =
    let one : suc i ≡ i + 1 = omega arith in
    let stage = get_or stages i 0 in
    let last = get_or lasts i 0 in
    let own = node_registers n stage last in
    let k = next_register b in
    let nodes_left : drop i nodes ≡ n ∷ drop (i + 1) nodes = drop-cons nodes i n l ∙ ap (λ x. x ∷ drop (suc i) nodes) (sym n_is) ∙ ap (λ j. n ∷ drop j nodes) one in
    let stages_left : drop i stages ≡ stage ∷ drop (i + 1) stages = drop-cons stages i 0 m ∙ ap (λ j. stage ∷ drop j stages) one in
    let lasts_left : drop i lasts ≡ last ∷ drop (i + 1) lasts = drop-cons lasts i 0 o ∙ ap (λ j. last ∷ drop j lasts) one in
    let all_at : copies_at k (drop i nodes) (drop i stages) (drop i lasts) ≡ k ∷ copies_at (k + length own) (drop (i + 1) nodes) (drop (i + 1) stages) (drop (i + 1) lasts) =
    ap₂ (λ xs ys. copies_at k xs ys (drop i lasts)) nodes_left stages_left ∙ ap (copies_at k (n ∷ drop (i + 1) nodes) (stage ∷ drop (i + 1) stages)) lasts_left in
    let all : nodes_registers (drop i nodes) (drop i stages) (drop i lasts) ≡ own ++ nodes_registers (drop (i + 1) nodes) (drop (i + 1) stages) (drop (i + 1) lasts) =
    ap₂ (λ xs ys. nodes_registers xs ys (drop i lasts)) nodes_left stages_left ∙ ap (nodes_registers (n ∷ drop (i + 1) nodes) (stage ∷ drop (i + 1) stages)) lasts_left in
    record {
      copies_are =
          ap₂ (λ xs j. xs ++ copies_at j (drop (i + 1) nodes) (drop (i + 1) stages) (drop (i + 1) lasts)) (grown ∙ ap (λ x. copies ++ x ∷ []) first_is) (register_behind b c own q)
          ∙ append_assoc copies (k ∷ []) (copies_at (k + length own) (drop (i + 1) nodes) (drop (i + 1) stages) (drop (i + 1) lasts))
          ∙ ap (λ xs. copies ++ xs) (sym all_at)
          ∙ p.copies_are;
      laid = laid_more a b c own (nodes_registers (drop (i + 1) nodes) (drop (i + 1) stages) (drop (i + 1) lasts)) (nodes_registers nodes stages lasts)
          (subst (λ xs. LaidLeft a b xs (nodes_registers nodes stages lasts)) all p.laid) q;
    }

nobody : (xs : List Node) (zs : List ℕ) → nodes_registers xs [] zs ≡ []
nobody [] zs = refl
nobody (x ∷ xs) zs = refl

nowhere : (xs : List Node) (ys : List ℕ) → nodes_registers xs ys [] ≡ []
nowhere [] ys = refl
nowhere (x ∷ xs) [] = refl
nowhere (x ∷ xs) (y ∷ ys) = refl

no_copies : (k : ℕ) (xs : List Node) (zs : List ℕ) → copies_at k xs [] zs ≡ []
no_copies k [] zs = refl
no_copies k (x ∷ xs) zs = refl

no_lasts : (k : ℕ) (xs : List Node) (ys : List ℕ) → copies_at k xs ys [] ≡ []
no_lasts k [] ys = refl
no_lasts k (x ∷ xs) [] = refl
no_lasts k (x ∷ xs) (y ∷ ys) = refl

none_left : (xs : List Node) (ys zs : List ℕ) (i : ℕ) → min (min (length xs) (length ys)) (length zs) ≤ i
    → (nodes_registers (drop i xs) (drop i ys) (drop i zs) ≡ []) × ((k : ℕ) → copies_at k (drop i xs) (drop i ys) (drop i zs) ≡ [])
none_left [] ys zs zero l = (refl, λ k. refl)
none_left [] ys zs (suc i) l = (refl, λ k. refl)
none_left (x ∷ xs) [] zs zero l = (refl, λ k. refl)
none_left (x ∷ xs) [] zs (suc i) l = (nobody (drop i xs) (drop (suc i) zs), λ k. no_copies k (drop i xs) (drop (suc i) zs))
none_left (x ∷ xs) (y ∷ ys) [] zero l = (refl, λ k. refl)
none_left (x ∷ xs) (y ∷ ys) [] (suc i) l = (nowhere (drop i xs) (drop i ys), λ k. no_lasts k (drop i xs) (drop i ys))
none_left (x ∷ xs) (y ∷ ys) (z ∷ zs) zero l = absurd (omega (arith, l))
none_left (x ∷ xs) (y ∷ ys) (z ∷ zs) (suc i) l = none_left xs ys zs i (omega (arith, l))

pub nodes_done : (a b : RegisterList) (nodes : List Node) (stages lasts : List ℕ) (i : ℕ) (copies : List ℕ) → min (min (length nodes) (length stages)) (length lasts) ≤ i → NodesLaidLeft a b nodes stages lasts i copies
    → (copies ≡ copies_at (next_register a) nodes stages lasts) × Lays a b (nodes_registers nodes stages lasts)
nodes_done a b nodes stages lasts i copies l p =
    let none = none_left nodes stages lasts i l in (
      sym (append-nil copies) ∙ ap (λ xs. copies ++ xs) (sym (none.1 (next_register b))) ∙ p.copies_are,
      laid_all a b (nodes_registers (drop i nodes) (drop i stages) (drop i lasts)) (nodes_registers nodes stages lasts) none.0 p.laid,
    )
