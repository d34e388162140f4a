-- The network of a text with which nothing is wrong, proc by proc.
use Rattle.std.proofs.Common.{◌≡◌, ◌≢◌, ◌≤◌, ◌<◌, ◌^◌, ◌+◌, ◌++◌, ℕ, List, [], ◌∷◌, map, length, Option, Some, false, arith, refl, sym, ap, subst, ◌∙◌}
use Rattle.std.specs.Prelude.{slice_get}
use Rattle.std.specs.List.{list_any}
use Rattle.std.proofs.lemmas.List.{length-map}
use Rattle.std.proofs.lemmas.Option.{slice_get_within}
use Rattle.xb_value.specs.Typing.{IsOfType}
use Rattle.xb_value.specs.Width.{HasWidths, width_of}
use Rattle.xb_value.proofs.Lemmas.Types.{EachHas}
use Rattle.net_core.specs.Behavior.{Behavior, KeepsTypes}
use Rattle.net_core.specs.WellFormed.{EachKeepsTypes, IsSiteOf}
use Rattle.net_core.specs.declared.net.Chan.{Chan}
use Rattle.net_core.specs.declared.net.Kind.TheVariants as kind
use Rattle.net_core.specs.declared.net.Net.{Net}
use Rattle.net_core.specs.declared.net.ProcHead.{ProcHead}
use Rattle.net_core.specs.declared.net.Site.{Site}
use Rattle.dslx_tree.specs.declared.item.Module.{Module}
use Rattle.dslx_tree.specs.declared.process.End.{End}
use Rattle.dslx_tree.specs.declared.process.Proc.{Proc}
use Rattle.dslx_meaning.specs.Activation.{state_type_of}
use Rattle.dslx_meaning.specs.Environment.{Meanings}
use Rattle.dslx_meaning.specs.Items.{instance_env, meanings_of, parametric_args_bound}
use Rattle.dslx_meaning.specs.Network.{Elaborated, Family, behavior_at, elaborate_within, head_at, net_if, network_of, outer_chan, outer_ends, top_parametric_args, top_proc}
use Rattle.dslx_meaning.specs.declared.ty.DslxType.{DslxType}
use Rattle.dslx_meaning.specs.declared.value.DslxValue.{DslxValue}
use Rattle.dslx_meaning.specs.Rules.TypeEnvs.{GlobalEnv}
use Rattle.dslx_meaning.specs.Rules.ProcRules.{channel_end_of, config_statements_found, ends_found, made_at_start, proc_type_env}
use Rattle.dslx_core.proofs.Lemmas.Typing.Accepted.{IsAccepted, one_of_these}
use Rattle.dslx_core.proofs.Lemmas.Typing.Complete.{item_env}
use Rattle.dslx_core.proofs.Lemmas.Typing.Sound.{none_in}
use Rattle.dslx_core.proofs.Lemmas.Typing.Typed.{same_some}
use Rattle.dslx_core.specs.Typing.Activities.Members.{IsWellTypedNext}
use Rattle.dslx_core.specs.Typing.Complete.HasValue.{AreTyped}
use Rattle.dslx_core.specs.Typing.Typed.Complete.{IsComplete}
use Rattle.dslx_total.specs.Expressions.Beside.{NamesAreFull, NamesHaveWidths}
use Rattle.dslx_total.specs.Nets.Slashes.{has_slash}
use Rattle.dslx_total.proofs.OnFamilies.Acts.{parts_well_typed}
use Rattle.dslx_total.proofs.OnFamilies.Knows.{Knows}
use Rattle.dslx_total.proofs.OnFamilies.Reached.{all}
use Rattle.dslx_total.proofs.OnFamilies.There.{IsThere}
use Rattle.dslx_total.proofs.OnFamilies.Tops.{top_there}
use Rattle.dslx_total.proofs.OnNets.Facts.{ProcFits, SiteFits, each_at, map_there, proc_fits}
use Rattle.dslx_total.proofs.OnNets.Names.{HaveOwnNames, all_named, whole_named}
use Rattle.dslx_total.proofs.OnNets.Numbered.{FitsButNames}
use Rattle.dslx_total.proofs.OnNets.Once.{Owned, UsedOnce, UsesEnd, all_once, outer_apart, outer_scope}
use Rattle.dslx_total.proofs.OnNets.Pairs.{AreApart}
use Rattle.dslx_total.proofs.OnNets.Sites.{way_of}
use Rattle.dslx_total.proofs.OnNets.Placed.{ChanFits, EndsOf, FamilyStands, MembersStand, StandFrom, all_stand, each_in_both, ends_have_words, outer_fit, outer_stand, stand_first, stand_second}

-- ---- a network, by what items mean

abbrev pub family_over : Module → Meanings → Proc → Family
family_over m items p = elaborate_within m items (length m.items) p.name.name p (top_parametric_args items p) (outer_ends 0 p.config.ends) (length p.config.ends)

abbrev pub chans_over : Module → Meanings → Proc → List Chan
chans_over m items p = map (outer_chan (instance_env items p.parametrics (top_parametric_args items p))) p.config.ends ++ (family_over m items p).chans

abbrev pub net_over : Module → Meanings → Proc → Net
net_over m items p = record { name = p.name.name; procs = map (head_at items) (family_over m items p).procs; chans = chans_over m items p }

abbrev pub behaviors_over : Module → Meanings → Proc → List Behavior
behaviors_over m items p = map (behavior_at items (chans_over m items p)) (family_over m items p).procs

-- the network fits, and its channels have names of their own where no outer one has a slash
abbrev pub WholeFits : Module → Proc → Meanings → Type 0
WholeFits m p items = FitsButNames (net_over m items p) × (list_any (λ (e : End). has_slash e.name.name) p.config.ends ≡ false → HaveOwnNames (chans_over m items p))

each_so : {X : Type 0} (P Q : X → Type 0) → ((x : X) → P x → Q x) → (xs : List X) → EachHas P xs → EachHas Q xs
each_so P Q f [] h = tt
each_so P Q f (x ∷ xs) h = (f x h.0, each_so P Q f xs h.1)

module _ (m : Module) (top : Option (List ℕ)) (s : IsAccepted m top) (known : GlobalEnv) (knows : Knows m top s known) (complete : IsComplete known) (typed : AreTyped known) (names : NamesHaveWidths known)
    (full : NamesAreFull known)
    (nexts : (p : Proc) (parametric_args : List DslxValue) → IsThere m top s known p parametric_args → (t : DslxType) → state_type_of known.items p parametric_args ≡ Some t → IsWellTypedNext known p parametric_args t)
    (p : Proc) (is_top : top_proc m top ≡ Some p) where
  abbrev parametric_args : List DslxValue
  parametric_args = top_parametric_args known.items p

  abbrev family : Family
  family = family_over m known.items p

  abbrev outers : List Chan
  outers = map (outer_chan (item_env known (parametric_args_bound [] p.parametrics parametric_args))) p.config.ends

  abbrev chans : List Chan
  chans = chans_over m known.items p

  pub there : IsThere m top s known p parametric_args
  there =
      let t = top_there m top s known knows complete typed p is_top in
      record { checked = record { named = t.named; among = one_of_these (record { name = p.name.name; parametric_args = parametric_args }) (all m top s) t.among }; own = t.own }

  whole : StandFrom chans 0 chans
  whole i x e = let same : 0 + i ≡ i = omega arith in subst (λ k. slice_get chans k ≡ Some x) (sym same) e

  placed : StandFrom chans (length p.config.ends) family.chans
  placed =
      let many : 0 + length outers ≡ length p.config.ends = let q = length-map p.config.ends (outer_chan (item_env known (parametric_args_bound [] p.parametrics parametric_args))) in omega (arith, q) in
      subst (λ k. StandFrom chans k family.chans) many (stand_second chans 0 outers family.chans whole)

  ends_stand : EndsOf m top s known knows complete typed names full chans p parametric_args (outer_ends 0 p.config.ends)
  ends_stand =
      outer_stand known chans (proc_type_env known p parametric_args) (item_env known (parametric_args_bound [] p.parametrics parametric_args)) refl 0 p.config.ends
      (ends_have_words m top s known knows complete typed names full chans p parametric_args there) (stand_first chans 0 outers family.chans whole)

  family_stands : FamilyStands m top s known knows complete typed names full chans family
  family_stands = all_stand m top s known knows complete typed names full chans (length m.items) p.name.name p parametric_args (outer_ends 0 p.config.ends) (length p.config.ends) there ends_stand placed

  pub chans_fit : EachHas ChanFits chans
  chans_fit =
      let st = family_stands in
      each_in_both ChanFits outers family.chans (outer_fit (proc_type_env known p parametric_args) (item_env known (parametric_args_bound [] p.parametrics parametric_args)) p.config.ends
      (ends_have_words m top s known knows complete typed names full chans p parametric_args there)) st.each_chan

  pub procs_fit : EachHas (ProcFits known chans) family.procs
  procs_fit = each_so (MembersStand m top s known knows complete typed names full chans) (ProcFits known chans) (proc_fits m top s known knows complete typed names full chans nexts) family.procs family_stands.each_proc

  pub keep_types : EachKeepsTypes (behaviors_over m known.items p)
  keep_types q b e =
      let a = map_there (behavior_at known.items chans) family.procs q b e in
      subst KeepsTypes a.2 (each_at (ProcFits known chans) family.procs procs_fit q a.0 a.1).keeps

  -- each end of a channel is at one proc
  pub ends_once : UsedOnce known family.procs (Owned m top s known knows complete typed p parametric_args (outer_ends 0 p.config.ends) (length p.config.ends) (length p.config.ends + length family.chans))
  ends_once =
      let context = proc_type_env known p parametric_args in
      let many : 0 + length p.config.ends ≡ length p.config.ends = omega arith in
      all_once m top s known knows complete typed (length m.items) p.name.name p parametric_args (outer_ends 0 p.config.ends) (length p.config.ends) there (outer_scope context 0 p.config.ends)
      (subst (λ k. AreApart (map (channel_end_of context) p.config.ends) (outer_ends 0 p.config.ends) k) many (outer_apart context 0 p.config.ends))

  -- the channels have names of their own, where no outer one has a slash
  pub own_names : length family.procs < 2 ^ 64 → list_any (λ (e : End). has_slash e.name.name) p.config.ends ≡ false → HaveOwnNames chans
  own_names small plain =
      let context = proc_type_env known p parametric_args in
      let parts = parts_well_typed m top s known knows p parametric_args there.checked in
      let made = config_statements_found context (made_at_start context p.config.ends) p.config.config_statements in
      let outer = ends_found context [] p.config.ends in
      let all : length family.procs ≤ length family.procs = omega arith in
      whole_named context (item_env known (parametric_args_bound [] p.parametrics parametric_args)) p.config.ends (none_in outer.faults (made.faults ++ _) parts.config).0 plain p.name.name family.chans
      (all_named m top s known knows complete typed (length family.procs) small (length m.items) p.name.name p parametric_args (outer_ends 0 p.config.ends) (length p.config.ends) there all)

  pub fits_but_names : length (net_over m known.items p).procs < 2 ^ 32 → length (net_over m known.items p).chans < 2 ^ 32 → FitsButNames (net_over m known.items p)
  fits_but_names few_procs few_chans = record {
    few_procs = few_procs;
    few_chans = few_chans;
    few_sites = λ q head e. let x = proc_at q head e in subst (λ (h : ProcHead). length h.sites < 2 ^ 30) x.2 (let few = (fits_at q x.0 x.1).few in omega (arith, few));
    opening = λ q head e. let x = proc_at q head e in subst (λ (h : ProcHead). IsOfType h.state h.init) x.2 (fits_at q x.0 x.1).opening;
    state_widths = λ q head e. let x = proc_at q head e in subst (λ (h : ProcHead). HasWidths h.state) x.2 (fits_at q x.0 x.1).widths;
    chan_widths = λ c chan e. let w = each_at ChanFits chans chans_fit c chan e in subst HasWidths (sym w.ty) w.fits.narrow;
    site = λ q i site is. let k = site_at_proc q i site is in slice_get_within chans site.chan k.chan k.is;
    no_send = λ q i site chan is sends e. let k = site_at_proc q i site is in subst (λ (x : Chan). x.kind ≢ kind.Input) (same_some k.chan chan (sym k.is ∙ e)) (k.no_send sends);
    no_receive = λ q i site chan is sends e. let k = site_at_proc q i site is in subst (λ (x : Chan). x.kind ≢ kind.Output) (same_some k.chan chan (sym k.is ∙ e)) (k.no_receive sends);
    one_proc = λ q r i j a b is js same_chan same_end.
        let x = proc_at q is.head is.proc in
        let y = proc_at r js.head js.proc in
        let u = (fits_at q x.0 x.1).uses i a (ap (λ (h : ProcHead). slice_get h.sites i) x.2 ∙ is.place) in
        let v = (fits_at r y.0 y.1).uses j b (ap (λ (h : ProcHead). slice_get h.sites j) y.2 ∙ js.place) in
        ends_once.once q r x.0 y.0 b.chan (way_of b.sends) x.1 y.1 (subst (λ c. UsesEnd known x.0 c (way_of b.sends)) same_chan (subst (λ w. UsesEnd known x.0 a.chan (way_of w)) same_end u)) v;
    some_width = λ c chan e. let w = each_at ChanFits chans chans_fit c chan e in let some = w.fits.some in let same = ap width_of w.ty in omega (arith, some, same);
    most_width = λ c chan e. let w = each_at ChanFits chans chans_fit c chan e in let most = w.fits.most in let same = ap width_of w.ty in omega (arith, most, same);
  }
    where
      proc_at : (q : ℕ) (head : ProcHead) → slice_get (map (head_at known.items) family.procs) q ≡ Some head → (a : Elaborated) × (slice_get family.procs q ≡ Some a) × (head_at known.items a ≡ head)
      proc_at q head e = map_there (head_at known.items) family.procs q head e

      fits_at : (q : ℕ) (a : Elaborated) → slice_get family.procs q ≡ Some a → ProcFits known chans a
      fits_at q a e = each_at (ProcFits known chans) family.procs procs_fit q a e

      site_at_proc : (q i : ℕ) (site : Site) → IsSiteOf (net_over m known.items p) q i site → SiteFits chans site
      site_at_proc q i site is =
          let x = proc_at q is.head is.proc in
          (fits_at q x.0 x.1).sites i site (ap (λ (h : ProcHead). slice_get h.sites i) x.2 ∙ is.place)

  -- the whole network, by what items denote
  pub whole_fits : known.items ≡ meanings_of m → length (network_of m top).procs ≤ 256 → length (network_of m top).chans ≤ 1024 → WholeFits m p (meanings_of m)
  whole_fits same procs_few chans_few = subst (WholeFits m p) same (fits_but_names (omega (arith, few_procs)) (omega (arith, few_chans)), own_names small)
    where
      few_procs : length (net_over m known.items p).procs ≤ 256
      few_procs = subst (λ (x : Meanings). length (net_over m x p).procs ≤ 256) (sym same) (subst (λ o. length (net_if m o).procs ≤ 256) is_top procs_few)

      few_chans : length (net_over m known.items p).chans ≤ 1024
      few_chans = subst (λ (x : Meanings). length (net_over m x p).chans ≤ 1024) (sym same) (subst (λ o. length (net_if m o).chans ≤ 1024) is_top chans_few)

      small : length family.procs < 2 ^ 64
      small = let many = length-map family.procs (head_at known.items) in omega (arith, many, few_procs)
