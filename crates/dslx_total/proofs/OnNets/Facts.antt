-- The procs of a network with which nothing is wrong: their states, their sites and what they do.
use Rattle.std.proofs.Common.{◌≡◌, ◌≢◌, ◌≤◌, ◌++◌, ℕ, zero, suc, Bool, true, false, if◌then◌else◌, List, [], ◌∷◌, map, length, Option, Some, arith, refl, sym, ap, subst, ◌∙◌}
use Rattle.std.specs.Prelude.{nat_lt, slice_get}
use Rattle.std.specs.List.{list_all}
use Rattle.std.specs.Str.{bytes_eq}
use Rattle.std.proofs.lemmas.Bool.{ltb-false}
use Rattle.std.proofs.lemmas.List.{length-map}
use Rattle.xb_span.specs.declared.fault.Fault.{Fault}
use Rattle.xb_span.specs.declared.fault.Fault.TheVariants.{Passed}
use Rattle.xb_span.specs.declared.limit.What.TheVariants as what
use Rattle.xb_value.specs.Typing.{IsOfType}
use Rattle.xb_value.specs.Width.{HasWidths, width_of}
use Rattle.xb_value.specs.declared.ty.Ty.{Ty}
use Rattle.xb_value.proofs.Lemmas.Types.{EachHas}
use Rattle.net_core.specs.Behavior.{KeepsTypes}
use Rattle.net_core.specs.declared.net.Chan.{Chan}
use Rattle.net_core.specs.declared.net.Kind.TheVariants as kind
use Rattle.net_core.specs.declared.net.Site.{Site}
use Rattle.dslx_tree.specs.declared.block.Block.{out-Block}
use Rattle.dslx_tree.specs.declared.item.Module.{Module}
use Rattle.dslx_tree.specs.declared.process.Direction.{Direction}
use Rattle.dslx_tree.specs.declared.process.End.{End}
use Rattle.dslx_tree.specs.declared.process.Proc.{Proc}
use Rattle.dslx_meaning.specs.Activation.{member_type, opening_state, site_names, state_of, state_type_of}
use Rattle.dslx_meaning.specs.Environment.{Env}
use Rattle.dslx_meaning.specs.Items.{parametric_args_bound}
use Rattle.dslx_meaning.specs.Meaning.{written_type}
use Rattle.dslx_meaning.specs.Network.{Elaborated, behavior_at, head_at, plain_or_unit, site_at, width_of_chan}
use Rattle.dslx_meaning.specs.Types.{plain_type}
use Rattle.dslx_meaning.specs.declared.ty.DslxType.{DslxType}
use Rattle.dslx_meaning.specs.declared.value.DslxValue.{DslxValue}
use Rattle.dslx_meaning.specs.Rules.CallRules.{channel_end_in}
use Rattle.dslx_meaning.specs.Rules.ItemRules.{Found, body_typing, parametrics_found, typing_of_type}
use Rattle.dslx_meaning.specs.Rules.NameRules.{local_name}
use Rattle.dslx_meaning.specs.Rules.ProcRules.{channel_end_of, count_sites, ends_found, proc_type_env}
use Rattle.dslx_meaning.specs.Rules.TypeEnvs.{ChannelEnd, GlobalEnv, Judgement, TypeEnv, passes_count, with_typed}
use Rattle.dslx_core.proofs.Lemmas.Typing.Accepted.{IsAccepted}
use Rattle.dslx_core.proofs.Lemmas.Typing.Complete.{item_env}
use Rattle.dslx_core.proofs.Lemmas.Typing.Sound.{all_in, none_in, some_fault, type_has_den}
use Rattle.dslx_core.proofs.Lemmas.Typing.Typed.{none_some, same_some}
use Rattle.dslx_core.specs.Lowering.Steps.{is_sized}
use Rattle.dslx_core.specs.Typing.Activities.Members.{IsWellTypedNext, inner_type_env}
use Rattle.dslx_core.specs.Typing.Complete.HasValue.{AreTyped}
use Rattle.dslx_core.specs.Typing.Typed.Complete.{IsComplete}
use Rattle.dslx_core.specs.Typing.Typed.Declared.{IsDeclared}
use Rattle.dslx_core.specs.Typing.Typed.WellTyped.{IsWellTypedEnv, types_at}
use Rattle.dslx_total.specs.Expressions.Beside.{NamesAreFull, NamesHaveWidths}
use Rattle.dslx_total.proofs.Lemmas.Expressions.{sized_there}
use Rattle.dslx_total.proofs.OnFamilies.Acts.{PartsWellTyped, parts_well_typed}
use Rattle.dslx_total.proofs.OnFamilies.Nexts.{Opens, opening_there}
use Rattle.dslx_total.proofs.OnFamilies.Knows.{Knows}
use Rattle.dslx_total.proofs.OnFamilies.There.{IsThere, well}
use Rattle.dslx_total.proofs.OnNets.Ends.{EachHasWord, GoesThere}
use Rattle.dslx_total.proofs.OnNets.Keeps.{MembersHaveChannels, keeps_types}
use Rattle.dslx_total.proofs.OnNets.Once.{UsesEnd}
use Rattle.dslx_total.proofs.OnNets.Placed.{MembersStand, members_have_words}
use Rattle.dslx_total.proofs.OnNets.Plain.{plain_typed}
use Rattle.dslx_total.proofs.OnWords.Narrow.{are_narrow}
use Rattle.dslx_total.proofs.OnNets.Sites.{SiteStands, SitesStand, body_stands, few_sites, way_of}
use Rattle.dslx_total.proofs.OnNets.Words.{IsWordType, type_is_narrow}

-- ---- lists

pub map_there : {A B : Type 0} (f : A → B) (xs : List A) (i : ℕ) (y : B) → slice_get (map f xs) i ≡ Some y → (x : A) × (slice_get xs i ≡ Some x) × (f x ≡ y)
map_there f [] i y e = absurd (cc)
map_there f (x ∷ xs) zero y e = (x, refl, same_some (f x) y e)
map_there f (x ∷ xs) (suc i) y e = map_there f xs i y e

pub each_at : {A : Type 0} (P : A → Type 0) (xs : List A) → EachHas P xs → (i : ℕ) (x : A) → slice_get xs i ≡ Some x → P x
each_at P [] h i x e = absurd (cc)
each_at P (y ∷ ys) h zero x e = subst P (same_some y x e) h.0
each_at P (y ∷ ys) h (suc i) x e = each_at P ys h.1 i x e

pub width_there : (chans : List Chan) (c : ℕ) (chan : Chan) → slice_get chans c ≡ Some chan → width_of_chan chans c ≡ width_of chan.ty
width_there [] c chan e = absurd (cc)
width_there (x ∷ xs) zero chan e = ap (λ (y : Chan). width_of y.ty) (same_some x chan e)
width_there (x ∷ xs) (suc c) chan e = width_there xs c chan e

-- the words at a member are those of its end
member_words : (context : TypeEnv) (env : Env) (es : List End) → EachHasWord context env es → (name : List ℕ) (word : DslxType) → member_type env es name ≡ Some word
    → (o : ChannelEnd) × (channel_end_in name (map (channel_end_of context) es) ≡ Some o) × (o.word ≡ Some word)
member_words context env [] words name word e = none_some word e
member_words context env (x ∷ es) words name word e = by (bytes_eq name x.name.name) e (λ q. member_words context env es words.1 name word q)
  where
    by : (b : Bool) → (if b then written_type x.word env else member_type env es name) ≡ Some word → (member_type env es name ≡ Some word → (o : ChannelEnd) × (channel_end_in name (map (channel_end_of context) es) ≡ Some o) × (o.word ≡ Some word))
        → (o : ChannelEnd) × ((if b then Some (channel_end_of context x) else channel_end_in name (map (channel_end_of context) es)) ≡ Some o) × (o.word ≡ Some word)
    by true q rest = (channel_end_of context x, refl, words.0.typed ∙ sym words.0.means ∙ q)
    by false q rest = rest q

-- ---- one proc

within_sites : (at n : ℕ) → passes_count what.Sites 32 at n ≡ [] → n ≤ 32
within_sites at n e = by_test (nat_lt 32 n) refl e
  where
    by_test : (b : Bool) → nat_lt 32 n ≡ b → (if b then Passed at (record { what = what.Sites; found = 33; most = 32 }) ∷ [] else []) ≡ [] → n ≤ 32
    by_test true q f = some_fault (Passed at (record { what = what.Sites; found = 33; most = 32 })) [] f
    by_test false q f = ltb-false 32 n q

-- a site of a proc stands at a channel that goes its way
pub record SiteFits (chans : List Chan) (site : Site) : Type 0 where
  pub chan : Chan
  pub is : slice_get chans site.chan ≡ Some chan
  pub no_send : site.sends ≡ true → chan.kind ≢ kind.Input
  pub no_receive : site.sends ≡ false → chan.kind ≢ kind.Output

-- what is so of a proc of the network
pub record ProcFits (known : GlobalEnv) (chans : List Chan) (a : Elaborated) : Type 0 where
  pub keeps : KeepsTypes (behavior_at known.items chans a)
  pub opening : IsOfType (head_at known.items a).state (head_at known.items a).init
  pub widths : HasWidths (head_at known.items a).state
  pub few : length (head_at known.items a).sites ≤ 32
  pub sites : (i : ℕ) (site : Site) → slice_get (head_at known.items a).sites i ≡ Some site → SiteFits chans site
  pub uses : (i : ℕ) (site : Site) → slice_get (head_at known.items a).sites i ≡ Some site → UsesEnd known a site.chan (way_of site.sends)

sends_fits : (chans : List Chan) (site : Site) (d : Direction) (chan : Chan) → slice_get chans site.chan ≡ Some chan → way_of site.sends ≡ d → GoesThere d chan.kind → SiteFits chans site
sends_fits chans site d chan is way goes = record {
  chan = chan;
  is = is;
  no_send = λ e. subst (λ d. GoesThere d chan.kind) (sym way ∙ ap way_of e) goes;
  no_receive = λ e. subst (λ d. GoesThere d chan.kind) (sym way ∙ ap way_of e) goes;
}

module _ (m : Module) (top : Option (List ℕ)) (s : IsAccepted m top) (known : GlobalEnv) (knows : Knows m top s known) (complete : IsComplete known) (typed : AreTyped known) (names : NamesHaveWidths known)
    (full : NamesAreFull known) (chans : List Chan)
    (nexts : (p : Proc) (parametric_args : List DslxValue) → IsThere m top s known p parametric_args → (t : DslxType) → state_type_of known.items p parametric_args ≡ Some t → IsWellTypedNext known p parametric_args t) where
  pub proc_fits : (a : Elaborated) → MembersStand m top s known knows complete typed names full chans a → ProcFits known chans a
  proc_fits a h = record {
    keeps = keeps_types chans known a t next sized narrow channels;
    opening = subst (λ (u : Ty). IsOfType u (state_of (opening_state known.items p args))) (sym state_is) (subst (λ o. IsOfType (plain_type t) (state_of o)) (sym opens.is) (plain_typed t opens.value opens.of narrow));
    widths = subst HasWidths (sym state_is) narrow;
    few = let many = length-map (site_names p) (site_at a) in let most = few_sites (out-Block p.next.body).statements in omega (arith, many, most, limit);
    sites = sites;
    uses = uses;
  }
    where
      p : Proc
      p = a.proc

      args : List DslxValue
      args = a.parametric_args

      context : TypeEnv
      context = proc_type_env known p args

      env : Env
      env = item_env known (parametric_args_bound [] p.parametrics args)

      there : IsThere m top s known p args
      there = h.there

      parts : PartsWellTyped m top s known p args
      parts = parts_well_typed m top s known knows p args there.checked

      state : Judgement
      state = typing_of_type context p.next.ty

      last : TypeEnv
      last = with_typed (inner_type_env known p args) (record { name = p.next.state.name; ty = state.ty } ∷ [])

      init : Judgement
      init = body_typing false (inner_type_env known p args) state.ty p.init

      body : Judgement
      body = body_typing true last state.ty p.next.body

      parametrics : Found
      parametrics = parametrics_found known p.name.name [] [] p.parametrics args

      members : Found
      members = ends_found context [] p.members

      sites_limit : List Fault
      sites_limit = passes_count what.Sites 32 p.span.to (count_sites (out-Block p.next.body).statements)

      name : List Fault
      name = local_name context [] p.next.state

      rest : (state.faults ≡ []) × ((body.faults ++ sites_limit) ≡ [])
      rest =
          let one = none_in parametrics.faults (members.faults ++ (init.faults ++ (name ++ (state.faults ++ (body.faults ++ sites_limit))))) parts.acts.faults in
          let two = none_in members.faults (init.faults ++ (name ++ (state.faults ++ (body.faults ++ sites_limit)))) one.1 in
          let three = none_in init.faults (name ++ (state.faults ++ (body.faults ++ sites_limit))) two.1 in
          let four = none_in name (state.faults ++ (body.faults ++ sites_limit)) three.1 in
          none_in state.faults (body.faults ++ sites_limit) four.1

      limit : count_sites (out-Block p.next.body).statements ≤ 32
      limit = within_sites p.span.to (count_sites (out-Block p.next.body).statements) (none_in body.faults sites_limit rest.1).1

      reached : list_all known.is_sound state.reached ≡ true
      reached =
          let one = all_in known.is_sound parametrics.reached (members.reached ++ (init.reached ++ (state.reached ++ (body.reached ++ [])))) parts.acts.reached in
          let two = all_in known.is_sound members.reached (init.reached ++ (state.reached ++ (body.reached ++ []))) one.1 in
          let three = all_in known.is_sound init.reached (state.reached ++ (body.reached ++ [])) two.1 in
          (all_in known.is_sound state.reached (body.reached ++ []) three.1).0

      sees : IsWellTypedEnv context env
      sees = well m top s known complete typed p args there

      own : (t : DslxType) × (state.ty ≡ Some t)
      own = (type_has_den p.next.ty).known context env sees (record { faults = rest.0; reached = reached })

      t : DslxType
      t = own.0

      means : (state_type_of known.items p args ≡ Some t) × IsDeclared (types_at context) t
      means = (type_has_den p.next.ty).means context env sees t own.1

      next : IsWellTypedNext known p args t
      next = nexts p args there t means.0

      sized : is_sized t ≡ true
      sized = sized_there (types_at context) complete.parts t means.1

      narrow : are_narrow (plain_type t) ≡ true
      narrow = type_is_narrow context names p.next.ty rest.0 t own.1

      state_is : (head_at known.items a).state ≡ plain_type t
      state_is = ap plain_or_unit means.0

      opens : Opens known p args t
      opens = opening_there known p args there.own sees parts.acts t own.1

      -- words of members
      channels : MembersHaveChannels chans known a
      channels n word e =
          let o = member_words context env p.members (members_have_words m top s known knows complete typed names full chans p args there) n.member word e in
          let st = h.stands n.member o.0 o.1 in
          let same = same_some st.word word (sym st.typed ∙ o.2) in
          (subst IsWordType same st.fits, width_there chans (site_at a n).chan st.chan st.is ∙ ap width_of (st.ty ∙ ap plain_type same))

      stand : SitesStand (with_typed (inner_type_env known p args) (record { name = p.next.state.name; ty = Some t } ∷ [])) (site_names p)
      stand = body_stands t p.next.body (with_typed (inner_type_env known p args) (record { name = p.next.state.name; ty = Some t } ∷ [])) next.body

      sites : (i : ℕ) (site : Site) → slice_get (head_at known.items a).sites i ≡ Some site → SiteFits chans site
      sites i site e =
          let x = map_there (site_at a) (site_names p) i site e in
          let k = each_at (SiteStands (with_typed (inner_type_env known p args) (record { name = p.next.state.name; ty = Some t } ∷ []))) (site_names p) stand i x.0 x.1 in
          let st = h.stands (x.0).member k.channel_end k.found in
          subst (SiteFits chans) x.2 (sends_fits chans (site_at a x.0) (k.channel_end).direction st.chan st.is k.goes st.goes)

      uses : (i : ℕ) (site : Site) → slice_get (head_at known.items a).sites i ≡ Some site → UsesEnd known a site.chan (way_of site.sends)
      uses i site e =
          let x = map_there (site_at a) (site_names p) i site e in
          let k = each_at (SiteStands (with_typed (inner_type_env known p args) (record { name = p.next.state.name; ty = Some t } ∷ []))) (site_names p) stand i x.0 x.1 in
          subst (λ (y : Site). UsesEnd known a y.chan (way_of y.sends)) x.2 (record { name = (x.0).member; channel_end = k.channel_end; found = k.found; goes = sym k.goes; at = refl })
