-- Procs that are placed in a checked text's network as they are in the text's.
use Rattle.std.proofs.Common.{◌≡◌, ◌++◌, ◌+◌, ◌==◌, ℕ, suc, Bool, true, false, if◌then◌else◌, List, [], ◌∷◌, map, length, Some, refl, sym, ap, subst, ◌∙◌, arith}
use Rattle.std.specs.Prelude.{slice_get}
use Rattle.std.specs.Str.{bytes_eq}
use Rattle.std.proofs.lemmas.Bool.Decides.{Decides-eqb}
use Rattle.std.proofs.lemmas.Slice.Eq.{bytes_eq-Decides}
use Rattle.std.proofs.lemmas.List.{length-map}
use Rattle.dslx_tree.specs.declared.item.Module.{Module}
use Rattle.dslx_tree.specs.declared.process.Proc.{Proc}
use Rattle.dslx_tree.specs.declared.process.ConfigStatement.{ConfigStatement}
use Rattle.dslx_tree.specs.declared.process.ConfigStatement.TheVariants as config_statement
use Rattle.dslx_tree.specs.declared.process.Spawn.{Spawn}
use Rattle.dslx_meaning.specs.Environment.{Env, Meanings}
use Rattle.dslx_meaning.specs.Items.{item_named}
use Rattle.dslx_meaning.specs.Lists.{and_then, pairwise, where_true, with_both}
use Rattle.dslx_meaning.specs.Network.{Family, Held, Elaborated, Elaboration, and_family, as_proc, channels_of_ends, child_path, children, handed_over, made_chans, made_ends, no_family, elaborate_over, spawn_parametric_args, spawned, spawned_at}
use Rattle.dslx_meaning.specs.declared.value.DslxValue.{DslxValue}
use Rattle.dslx_core.proofs.Lemmas.Typing.Laws.{and_true}
use Rattle.dslx_core.proofs.Lemmas.Typing.Typed.{none_some, same_some}
use Rattle.dslx_core.specs.Designs.{CoreFamily, CoreElaborated, CoreElaboration, and_core_family, channel_of_end, core_children, core_elaborate, made_of, no_core_family, no_function}
use Rattle.dslx_core.specs.declared.design.Child.{Child}
use Rattle.dslx_core.specs.declared.design.Instance.{Instance}
use Rattle.dslx_core.specs.Lowering.CoreScopes.{CoreScope}
use Rattle.dslx_core.specs.Lowering.Correspondence.{SimulatesInScope, env_at}
use Rattle.dslx_meaning.specs.Rules.EqualValues.{equal_value}
use Rattle.dslx_core.proofs.Lemmas.Lowering.{all_one_number, from_both, from_then, from_where}
use Rattle.dslx_core.specs.Networks.Configs.{LoweredConfig, ProcInstance, lower_child, lower_children, lower_config, config_scope, is_proc_instance, lower_made, proc_instance_in, lower_spawn_parametrics}
use Rattle.dslx_core.specs.Networks.Ends.{end_numbers, numbered_ends}
use Rattle.dslx_core.proofs.OnNetworks.Ends.{channels_at}
use Rattle.dslx_core.proofs.OnNetworks.Parts.{made_means, parametric_args_mean}

-- ---- what families have in common

-- a proc of the one stands for a proc of the other: it has the same path and channels, and this holds of the declaration, its
-- numbers and the instance
pub record CoreSimulates (P : Proc → List DslxValue → Instance → Type 0) (a : Elaborated) (c : CoreElaborated) : Type 0 where
  pub path : c.path ≡ a.path
  pub channels : c.channels ≡ a.channels
  pub instance : P a.proc a.parametric_args c.instance

abbrev pub AllSimulate : (Proc → List DslxValue → Instance → Type 0) → List Elaborated → List CoreElaborated → Type 0
AllSimulate P [] [] = Unit {0}
AllSimulate P (a ∷ as') (c ∷ cs) = CoreSimulates P a c × AllSimulate P as' cs
AllSimulate P [] (c ∷ cs) = ⊥
AllSimulate P (a ∷ as') [] = ⊥

pub record FamilySimulates (P : Proc → List DslxValue → Instance → Type 0) (a : Family) (c : CoreFamily) : Type 0 where
  pub procs : AllSimulate P a.procs c.procs
  pub chans : c.chans ≡ a.chans

all_join : (P : Proc → List DslxValue → Instance → Type 0) (as' : List Elaborated) (cs : List CoreElaborated) (bs : List Elaborated) (ds : List CoreElaborated) → AllSimulate P as' cs → AllSimulate P bs ds → AllSimulate P (as' ++ bs) (cs ++ ds)
all_join P [] [] bs ds h k = k
all_join P (a ∷ as') (c ∷ cs) bs ds h k = (h.0, all_join P as' cs bs ds h.1 k)
all_join P [] (c ∷ cs) bs ds h k = absurd h
all_join P (a ∷ as') [] bs ds h k = absurd h

families_join : (P : Proc → List DslxValue → Instance → Type 0) (a : Family) (c : CoreFamily) (b : Family) (d : CoreFamily) → FamilySimulates P a c → FamilySimulates P b d → FamilySimulates P (and_family a b) (and_core_family c d)
families_join P a c b d h k = record { procs = all_join P a.procs c.procs b.procs d.procs h.procs k.procs; chans = λ i. h.chans i ++ k.chans i }

nobody : (P : Proc → List DslxValue → Instance → Type 0) → FamilySimulates P no_family no_core_family
nobody P = record { procs = tt; chans = refl }

-- ---- the instance of a name and parametric arguments

pub record FoundProc (name : List ℕ) (parametric_args : List DslxValue) (n : ℕ) (is : List ProcInstance) (k : ℕ) : Type 0 where
  pub place : ℕ
  pub found : ProcInstance
  pub number : k ≡ n + place
  pub there : slice_get is place ≡ Some found
  pub named : name ≡ found.name
  pub numbered : parametric_args ≡ found.parametric_args

found_proc : (name : List ℕ) (parametric_args : List DslxValue) (n : ℕ) (is : List ProcInstance) (k : ℕ) → proc_instance_in name parametric_args n is ≡ Some k → FoundProc name parametric_args n is k
found_proc name parametric_args n [] k e = none_some k e
found_proc name parametric_args n (i ∷ is) k e = by_test (is_proc_instance name parametric_args i) refl e (found_proc name parametric_args (suc n) is k)
  where
    further : (n j : ℕ) → (suc n + j) ≡ (n + suc j)
    further n j = omega arith

    by_test : (b : Bool) → is_proc_instance name parametric_args i ≡ b → (if b then Some n else proc_instance_in name parametric_args (suc n) is) ≡ Some k
        → (proc_instance_in name parametric_args (suc n) is ≡ Some k → FoundProc name parametric_args (suc n) is k) → FoundProc name parametric_args n (i ∷ is) k
    by_test true q h rest =
        let t = and_true (bytes_eq name i.name) (pairwise equal_value parametric_args i.parametric_args) q in
        let same : n ≡ k = same_some n k h in
        record { place = 0; found = i; number = omega (arith, same); there = refl; named = (bytes_eq-Decides name i.name).0 t.0; numbered = all_one_number parametric_args i.parametric_args t.1 }
    by_test false q h rest =
        let r = rest h in
        record { place = suc r.place; found = r.found; number = r.number ∙ further n r.place; there = r.there; named = r.named; numbered = r.numbered }

-- ---- children

-- what places families in the text, and in what is checked, for instances of these names
abbrev pub ScopesAlike : (Proc → List DslxValue → Instance → Type 0) → Module → (List ℕ → Type 0) → List ProcInstance → Elaboration → CoreElaboration → Type 0
ScopesAlike P m Named procs place core =
    (j : ℕ) (i : ProcInstance) → slice_get procs j ≡ Some i → Named i.name → (q : Proc) → as_proc (item_named i.name m.items) ≡ Some q
    → (path given : List ℕ) (number : ℕ) → length given ≡ length q.config.ends → FamilySimulates P (place path q i.parametric_args (handed_over q.config.ends given) number) (core path j given number)

-- each spawned proc has such a name
abbrev pub SpawnsNamed : Module → (List ℕ → Type 0) → List ConfigStatement → Type 0
SpawnsNamed m Named [] = Unit {0}
SpawnsNamed m Named (config_statement.Channel c ∷ ms) = SpawnsNamed m Named ms
SpawnsNamed m Named (config_statement.Spawn s ∷ ms) = ((q : Proc) → as_proc (item_named s.target.name m.items) ≡ Some q → Named s.target.name) × SpawnsNamed m Named ms

child_simulates : (P : Proc → List DslxValue → Instance → Type 0) (m : Module) (Named : List ℕ → Type 0) (procs : List ProcInstance) (text : Elaboration) (core : CoreElaboration) → ScopesAlike P m Named procs text core
    → (scope : CoreScope) → SimulatesInScope scope no_function scope.known.parametric_args [] → (p : Proc) (s : Spawn) → ((q : Proc) → as_proc (item_named s.target.name m.items) ≡ Some q → Named s.target.name)
    → (c : Child) → lower_child m scope (numbered_ends p) procs s ≡ Some c → (given : List ℕ) (number : ℕ) → length given ≡ length p.config.ends → (path : List ℕ) (next : ℕ)
    → FamilySimulates P (spawned m scope.known.items text path (env_at scope scope.known.parametric_args) (handed_over p.config.ends given ++ made_ends number p.config.config_statements) s next)
    (core path c.instance (map (channel_of_end given number) c.ends) next)
child_simulates P m Named procs text core alike scope h p s named c e given number many path next =
    let t = from_then (as_proc (item_named s.target.name m.items)) (λ target. and_then (lower_spawn_parametrics scope target s.arguments) (λ parametric_args.
    with_both (proc_instance_in s.target.name parametric_args 0 procs) (end_numbers (numbered_ends p) s.ends) (λ k ends. where_true (length ends == length target.config.ends) (Some (record { instance = k; ends = ends }))))) c e in
    let v = from_then (lower_spawn_parametrics scope t.0 s.arguments) (λ parametric_args.
    with_both (proc_instance_in s.target.name parametric_args 0 procs) (end_numbers (numbered_ends p) s.ends) (λ k ends. where_true (length ends == length t.0.config.ends) (Some (record { instance = k; ends = ends })))) c t.2 in
    let b = from_both (proc_instance_in s.target.name v.0 0 procs) (end_numbers (numbered_ends p) s.ends) (λ k ends. where_true (length ends == length t.0.config.ends) (Some (record { instance = k; ends = ends }))) c v.2 in
    let w = from_where (length b.1 == length t.0.config.ends) (Some (record { instance = b.0; ends = b.1 })) c b.4 in
    let is = same_some (record { instance = b.0; ends = b.1 }) c w.1 in
    let f = found_proc s.target.name v.0 0 procs b.0 b.2 in
    let parametric_args = parametric_args_mean scope h t.0 s.arguments v.0 v.1 in
    let ends = channels_at p given number many s.ends b.1 b.3 in
    let as_many : length (map (channel_of_end given number) b.1) ≡ length t.0.config.ends = length-map b.1 (channel_of_end given number) ∙ (Decides-eqb (length b.1) (length t.0.config.ends)).0 w.0 in
    let stands = alike f.place f.found f.there (subst Named f.named (named t.0 t.1)) t.0 (ap (λ n. as_proc (item_named n m.items)) (sym f.named) ∙ t.1) path (map (channel_of_end given number) b.1) next as_many in
    let elaborated : spawned m scope.known.items text path env held s next ≡ text path t.0 f.found.parametric_args (handed_over t.0.config.ends (map (channel_of_end given number) b.1)) next =
    ap (λ o. spawned_at text path held s next o (and_then o (λ q. spawn_parametric_args scope.known.items env q s.arguments))) t.1 ∙ ap (spawned_at text path held s next (Some t.0)) parametric_args
    ∙ (λ i. text path t.0 (f.numbered i) (handed_over t.0.config.ends (ends i)) next) in
    let same_core : core path f.place (map (channel_of_end given number) b.1) next ≡ core path c.instance (map (channel_of_end given number) c.ends) next =
    (λ i. core path (sym (f.number ∙ nothing_added f.place) i) (map (channel_of_end given number) b.1) next) ∙ ap (λ (x : Child). core path x.instance (map (channel_of_end given number) x.ends) next) is in
    subst (λ a. FamilySimulates P a (core path c.instance (map (channel_of_end given number) c.ends) next)) (sym elaborated)
    (subst (FamilySimulates P (text path t.0 f.found.parametric_args (handed_over t.0.config.ends (map (channel_of_end given number) b.1)) next)) same_core stands)
  where
    env : Env
    env = env_at scope scope.known.parametric_args

    held : List Held
    held = handed_over p.config.ends given ++ made_ends number p.config.config_statements

    nothing_added : (k : ℕ) → (0 + k) ≡ k
    nothing_added k = omega arith

children_simulate : (P : Proc → List DslxValue → Instance → Type 0) (m : Module) (Named : List ℕ → Type 0) (procs : List ProcInstance) (text : Elaboration) (core : CoreElaboration) → ScopesAlike P m Named procs text core
    → (scope : CoreScope) → SimulatesInScope scope no_function scope.known.parametric_args [] → (p : Proc) (ms : List ConfigStatement) → SpawnsNamed m Named ms → (cs : List Child) → lower_children m scope (numbered_ends p) procs ms ≡ Some cs
    → (given : List ℕ) (number : ℕ) → length given ≡ length p.config.ends → (path : List ℕ) (k next : ℕ)
    → FamilySimulates P (children m scope.known.items text path (env_at scope scope.known.parametric_args) (handed_over p.config.ends given ++ made_ends number p.config.config_statements) ms k next) (core_children core path given number cs k next)
children_simulate P m Named procs text core alike scope h p [] named cs e given number many path k next = subst (λ ds. FamilySimulates P no_family (core_children core path given number ds k next)) (same_some [] cs e) (nobody P)
children_simulate P m Named procs text core alike scope h p (config_statement.Channel c ∷ ms) named cs e given number many path k next = children_simulate P m Named procs text core alike scope h p ms named cs e given number many path k next
children_simulate P m Named procs text core alike scope h p (config_statement.Spawn s ∷ ms) named cs e given number many path k next =
    let q = from_both (lower_child m scope (numbered_ends p) procs s) (lower_children m scope (numbered_ends p) procs ms) (λ c cs. Some (c ∷ cs)) cs e in
    let first = child_simulates P m Named procs text core alike scope h p s named.0 q.0 q.2 given number many (child_path path k) next in
    let rest = children_simulate P m Named procs text core alike scope h p ms named.1 q.1 q.3 given number many path (suc k) (next + length (own q.0).chans) in
    let behind = subst (λ n. FamilySimulates P (children m scope.known.items text path env held ms (suc k) (next + n)) (core_children core path given number q.1 (suc k) (next + length (own q.0).chans))) (ap length first.chans) rest in
    subst (λ ds. FamilySimulates P (children m scope.known.items text path env held (config_statement.Spawn s ∷ ms) k next) (core_children core path given number ds k next)) (same_some (q.0 ∷ q.1) cs q.4)
    (families_join P source (own q.0) (children m scope.known.items text path env held ms (suc k) (next + length source.chans)) (core_children core path given number q.1 (suc k) (next + length (own q.0).chans)) first behind)
  where
    env : Env
    env = env_at scope scope.known.parametric_args

    held : List Held
    held = handed_over p.config.ends given ++ made_ends number p.config.config_statements

    own : Child → CoreFamily
    own c = core (child_path path k) c.instance (map (channel_of_end given number) c.ends) next

    source : Family
    source = spawned m scope.known.items text (child_path path k) env held s next

-- ---- a proc with its children

-- an instance with what its `config` becomes
pub record HasConfig (i : Instance) (config : LoweredConfig) : Type 0 where
  pub made : i.made ≡ config.made
  pub children : i.children ≡ config.children
  pub members : i.members ≡ config.members

pub scope_simulates : (P : Proc → List DslxValue → Instance → Type 0) (m : Module) (items : Meanings) (Named : List ℕ → Type 0) (procs : List ProcInstance) (text : Elaboration) (core : CoreElaboration) → ScopesAlike P m Named procs text core
    → (p : Proc) (parametric_args : List DslxValue) → SimulatesInScope (config_scope items p parametric_args) no_function (config_scope items p parametric_args).known.parametric_args [] → SpawnsNamed m Named p.config.config_statements
    → (config : LoweredConfig) → lower_config m items procs p parametric_args ≡ Some config → (i : Instance) → HasConfig i config → P p parametric_args i → (path given : List ℕ) (number : ℕ) → length given ≡ length p.config.ends
    → FamilySimulates P (elaborate_over m items text path p parametric_args (handed_over p.config.ends given) number) (core_elaborate core i path given number)
scope_simulates P m items Named procs text core alike p parametric_args h named config e i has stands path given number many =
    let made = from_then (lower_made scope p.config.config_statements) (λ made. with_both (lower_children m scope (numbered_ends p) procs p.config.config_statements) (end_numbers (numbered_ends p) p.config.result) (λ children members.
    Some (record { made = made; children = children; members = members }))) config e in
    let b = from_both (lower_children m scope (numbered_ends p) procs p.config.config_statements) (end_numbers (numbered_ends p) p.config.result) (λ children members.
    Some (record { made = made.0; children = children; members = members })) config made.2 in
    let is = same_some (record { made = made.0; children = b.0; members = b.1 }) config b.4 in
    let chans = ap (map (made_of path)) (has.made ∙ sym (ap (λ (c : LoweredConfig). c.made) is)) ∙ made_means scope h path p.config.config_statements made.0 made.1 in
    let children_are = has.children ∙ sym (ap (λ (c : LoweredConfig). c.children) is) in
    let members_are = has.members ∙ sym (ap (λ (c : LoweredConfig). c.members) is) in
    let rest = children_simulate P m Named procs text core alike scope h p p.config.config_statements named b.0 b.2 given number many path 0 (number + length (map (made_of path) i.made)) in
    families_join P (record { procs = own ∷ []; chans = made_chans path env p.config.config_statements }) (record { procs = record { path = path; instance = i; channels = map (channel_of_end given number) i.members } ∷ []; chans = map (made_of path) i.made })
    (children m items text path env held p.config.config_statements 0 (number + length (made_chans path env p.config.config_statements)))
    (core_children core path given number i.children 0 (number + length (map (made_of path) i.made)))
    (record { procs = (record { path = refl; channels = ap (map (channel_of_end given number)) members_are ∙ sym (channels_at p given number many p.config.result b.1 b.3); instance = stands }, tt); chans = chans })
    (subst (λ cs. FamilySimulates P (children m items text path env held p.config.config_statements 0 (number + length (made_chans path env p.config.config_statements))) (core_children core path given number cs 0 (number + length (map (made_of path) i.made)))) (sym children_are)
    (subst (λ n. FamilySimulates P (children m items text path env held p.config.config_statements 0 (number + n)) (core_children core path given number b.0 0 (number + length (map (made_of path) i.made)))) (ap length chans) rest))
  where
    scope : CoreScope
    scope = config_scope items p parametric_args

    env : Env
    env = env_at scope scope.known.parametric_args

    held : List Held
    held = handed_over p.config.ends given ++ made_ends number p.config.config_statements

    own : Elaborated
    own = record { path = path; proc = p; parametric_args = parametric_args; channels = channels_of_ends held p.config.result }
