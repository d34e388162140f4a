-- The procs of a network with which nothing is wrong: each member stands for a channel of its words that goes its way.
use Rattle.std.proofs.Common.{◌≡◌, ◌+◌, ◌++◌, ◌==◌, ◌&&◌, ℕ, zero, suc, Bool, List, [], ◌∷◌, map, length, Option, Some, arith, refl, sym, ap, subst, ◌∙◌}
use Rattle.std.specs.Prelude.{slice_get, unwrap_or}
use Rattle.std.specs.List.{list_all}
use Rattle.std.proofs.lemmas.Bool.Decides.{Decides-eqb}
use Rattle.std.proofs.lemmas.List.{append_assoc}
use Rattle.net_core.specs.declared.net.Chan.{Chan}
use Rattle.net_core.specs.declared.net.Kind.TheVariants as kind
use Rattle.xb_value.proofs.Lemmas.Types.{EachHas}
use Rattle.dslx_tree.specs.declared.item.Module.{Module}
use Rattle.dslx_tree.specs.declared.process.Channel.{Channel}
use Rattle.dslx_tree.specs.declared.process.ConfigStatement.{ConfigStatement}
use Rattle.dslx_tree.specs.declared.process.ConfigStatement.TheVariants as config_statement
use Rattle.dslx_tree.specs.declared.process.Direction.{Direction}
use Rattle.dslx_tree.specs.declared.process.Direction.TheVariants.{In, Out}
use Rattle.dslx_tree.specs.declared.process.End.{End}
use Rattle.dslx_tree.specs.declared.process.Proc.{Proc}
use Rattle.dslx_tree.specs.declared.process.Spawn.{Spawn}
use Rattle.dslx_meaning.specs.Environment.{Env}
use Rattle.dslx_meaning.specs.Items.{parametric_args_bound}
use Rattle.dslx_meaning.specs.Lists.{and_then, beside}
use Rattle.dslx_meaning.specs.Network.{Elaborated, Elaboration, Family, Held, channels_of_ends, child_path, children, elaborate_within, handed_over, kind_of_end, made_chan, made_chans, made_ends, outer_chan, outer_ends, plain_or_unit, spawn_parametric_args, spawned, spawned_at}
use Rattle.dslx_meaning.specs.Types.{plain_type}
use Rattle.dslx_meaning.specs.declared.ty.DslxType.{DslxType}
use Rattle.dslx_meaning.specs.declared.value.DslxValue.{DslxValue}
use Rattle.dslx_meaning.specs.Rules.CallRules.{channel_end_in}
use Rattle.dslx_meaning.specs.Rules.Mentions.{ends_mentions, mentioned_in_type, parametric_names}
use Rattle.dslx_meaning.specs.Rules.ModuleRules.{is_reached}
use Rattle.dslx_meaning.specs.Rules.NameRules.{local_name}
use Rattle.dslx_meaning.specs.Rules.ItemRules.{parametrics_found}
use Rattle.dslx_meaning.specs.Rules.ProcRules.{Made, behind_ends, channel_end_of, channel_found, channel_type, config_statements_found, depth_found, end_names, ends_found, is_members, made_at_end, made_at_start, made_with, proc_type_env, spawn_found, string_faults, times_in, unknown_ends, use_faults, used_ends}
use Rattle.dslx_meaning.specs.Rules.TypeEnvs.{ChannelEnd, GlobalEnv, Instance, TypeEnv}
use Rattle.dslx_core.proofs.Lemmas.Typing.Accepted.{IsAccepted, one_of_these}
use Rattle.dslx_core.proofs.Lemmas.Typing.Complete.{item_env}
use Rattle.dslx_core.proofs.Lemmas.Typing.Depends.{no_proc_in_type}
use Rattle.dslx_core.proofs.Lemmas.Typing.Laws.{and_true}
use Rattle.dslx_core.proofs.Lemmas.Typing.Sound.{all_in, none_in, none_in_three, passed}
use Rattle.dslx_core.proofs.Lemmas.Typing.TypingRelations.{found_ends, written_type_reaches}
use Rattle.dslx_core.specs.Typing.Complete.HasValue.{AreTyped}
use Rattle.dslx_core.specs.Typing.Typed.Complete.{IsComplete}
use Rattle.dslx_core.specs.Typing.Typed.Declared.{IsDeclared}
use Rattle.dslx_core.specs.Typing.Typed.WellTyped.{IsWellTypedEnv}
use Rattle.dslx_total.specs.Expressions.Beside.{NamesAreFull, NamesHaveWidths}
use Rattle.dslx_total.proofs.OnFamilies.Acts.{parts_well_typed}
use Rattle.dslx_total.proofs.OnFamilies.Knows.{Knows, all_sound}
use Rattle.dslx_total.proofs.OnFamilies.Reached.{Listed, Passing, all, ends_none}
use Rattle.dslx_total.proofs.OnFamilies.Spawns.{proc_named, spawn_there, well_behind}
use Rattle.dslx_total.proofs.OnFamilies.There.{IsThere, well}
use Rattle.dslx_total.proofs.OnNets.Ends.{EachHasWord, EndStands, EndsStand, GoesThere, each_has_word, first_stands, given_ends_stand, made_stands, members_stand, none_stand}
use Rattle.dslx_total.proofs.OnNets.Words.{IsWordType, word_is}

-- these are channels of the list, the first one at this number
abbrev pub StandFrom : List Chan → ℕ → List Chan → Type 0
StandFrom chans number xs = (i : ℕ) (x : Chan) → slice_get xs i ≡ Some x → slice_get chans (number + i) ≡ Some x

front_get : (xs ys : List Chan) (i : ℕ) (x : Chan) → slice_get xs i ≡ Some x → slice_get (xs ++ ys) i ≡ Some x
front_get [] ys i x e = absurd (cc)
front_get (y ∷ xs) ys zero x e = e
front_get (y ∷ xs) ys (suc i) x e = front_get xs ys i x e

back_get : (xs ys : List Chan) (i k : ℕ) (x : Chan) → k ≡ length xs + i → slice_get ys i ≡ Some x → slice_get (xs ++ ys) k ≡ Some x
back_get [] ys i k x q e = let same : k ≡ i = omega (arith, q) in subst (λ n. slice_get ys n ≡ Some x) (sym same) e
back_get (y ∷ xs) ys i zero x q e = absurd (omega (arith, q))
back_get (y ∷ xs) ys i (suc k) x q e = back_get xs ys i k x (omega (arith, q)) e

pub stand_first : (chans : List Chan) (number : ℕ) (xs ys : List Chan) → StandFrom chans number (xs ++ ys) → StandFrom chans number xs
stand_first chans number xs ys h i x e = h i x (front_get xs ys i x e)

pub stand_second : (chans : List Chan) (number : ℕ) (xs ys : List Chan) → StandFrom chans number (xs ++ ys) → StandFrom chans (number + length xs) ys
stand_second chans number xs ys h i x e =
    let same : number + (length xs + i) ≡ number + length xs + i = omega arith in
    subst (λ k. slice_get chans k ≡ Some x) same (h (length xs + i) x (back_get xs ys i (length xs + i) x refl e))

stand_head : (chans : List Chan) (number : ℕ) (x : Chan) (xs : List Chan) → StandFrom chans number (x ∷ xs) → slice_get chans number ≡ Some x
stand_head chans number x xs h = let same : number + 0 ≡ number = omega arith in subst (λ k. slice_get chans k ≡ Some x) same (h 0 x refl)

stand_tail : (chans : List Chan) (number : ℕ) (x : Chan) (xs : List Chan) → StandFrom chans number (x ∷ xs) → StandFrom chans (suc number) xs
stand_tail chans number x xs h i y e = let same : number + suc i ≡ suc number + i = omega arith in subst (λ k. slice_get chans k ≡ Some y) same (h (suc i) y e)

pub each_in_both : {X : Type 0} (P : X → Type 0) (xs ys : List X) → EachHas P xs → EachHas P ys → EachHas P (xs ++ ys)
each_in_both P [] ys h k = k
each_in_both P (x ∷ xs) ys h k = (h.0, each_in_both P xs ys h.1 k)

-- a channel holds words of such a type
pub record ChanFits (x : Chan) : Type 0 where
  pub word : DslxType
  pub ty : x.ty ≡ plain_type word
  pub fits : IsWordType word

pub outer_fit : (context : TypeEnv) (env : Env) (es : List End) → EachHasWord context env es → EachHas ChanFits (map (outer_chan env) es)
outer_fit context env [] words = tt
outer_fit context env (e ∷ es) words = let w = words.0 in (record { word = w.word; ty = ap plain_or_unit w.means; fits = w.fits }, outer_fit context env es words.1)

end_goes : (d : Direction) → GoesThere d (kind_of_end d)
end_goes In = λ e. never e
  where
    never : kind.Input ≡ kind.Output → ⊥
    never e = cc
end_goes Out = λ e. never e
  where
    never : kind.Output ≡ kind.Input → ⊥
    never e = cc

-- the ends of the top proc
pub outer_stand : (known : GlobalEnv) (chans : List Chan) (context : TypeEnv) (env : Env) → context.known ≡ known → (number : ℕ) (es : List End) → EachHasWord context env es → StandFrom chans number (map (outer_chan env) es)
    → EndsStand known chans (end_names es) (map (channel_end_of context) es) (outer_ends number es)
outer_stand known chans context env same number [] words h = none_stand known chans
outer_stand known chans context env same number (e ∷ es) words h =
    let w = words.0 in
    first_stands known chans (end_names es) (map (channel_end_of context) es) (outer_ends (suc number) es) (channel_end_of context e) number
    (record {
      word = w.word;
      typed = w.typed;
      declared = subst (λ (k : GlobalEnv). IsDeclared k.items.type_named w.word) same w.declared;
      fits = w.fits;
      chan = outer_chan env e;
      is = stand_head chans number (outer_chan env e) (map (outer_chan env) es) h;
      ty = ap plain_or_unit w.means;
      goes = end_goes e.direction;
    })
    (outer_stand known chans context env same (suc number) es words.1 (stand_tail chans number (outer_chan env e) (map (outer_chan env) es) h))

module _ (m : Module) (top : Option (List ℕ)) (s : IsAccepted m top) (known : GlobalEnv) (knows : Knows m top s known) (complete : IsComplete known) (typed : AreTyped known) (names : NamesHaveWidths known)
    (full : NamesAreFull known) (chans : List Chan) where
  abbrev test : Instance → Bool
  test i = is_reached i (all m top s)

  -- the members of a proc of the network
  pub record MembersStand (a : Elaborated) : Type 0 where
    pub there : IsThere m top s known a.proc a.parametric_args
    pub stands : (name : List ℕ) (o : ChannelEnd) → channel_end_in name (map (channel_end_of (proc_type_env known a.proc a.parametric_args)) a.proc.members) ≡ Some o
        → EndStands known chans (unwrap_or (beside name (map (λ (e : End). e.name.name) a.proc.members) a.channels) 0) o

  abbrev pub EndsOf : Proc → List DslxValue → List Held → Type 0
  EndsOf p parametric_args ends = EndsStand known chans (end_names p.config.ends) (map (channel_end_of (proc_type_env known p parametric_args)) p.config.ends) ends

  -- a proc with all that it spawns, and the channels that they make
  pub record FamilyStands (f : Family) : Type 0 where
    pub each_proc : EachHas MembersStand f.procs
    pub each_chan : EachHas ChanFits f.chans

  abbrev ScopesStand : Elaboration → Type 0
  ScopesStand place = (path : List ℕ) (p : Proc) (parametric_args : List DslxValue) (ends : List Held) (number : ℕ) → IsThere m top s known p parametric_args → EndsOf p parametric_args ends
      → StandFrom chans number (place path p parametric_args ends number).chans → FamilyStands (place path p parametric_args ends number)

  -- the ends of the `config` of an instance that is checked have words
  pub ends_have_words : (p : Proc) (parametric_args : List DslxValue) → IsThere m top s known p parametric_args → EachHasWord (proc_type_env known p parametric_args) (item_env known (parametric_args_bound [] p.parametrics parametric_args)) p.config.ends
  ends_have_words p parametric_args here =
      let context = proc_type_env known p parametric_args in
      let parts = parts_well_typed m top s known knows p parametric_args here.checked in
      let made = config_statements_found context (made_at_start context p.config.ends) p.config.config_statements in
      let outer = ends_found context [] p.config.ends in
      let bound = parametric_names p.parametrics in
      let f = (none_in outer.faults (made.faults ++ _) parts.config).0 in
      let r = (all_in test outer.reached (made.reached ++ []) parts.listed).0 in
      let named = found_ends (Passing m top s) context [] p.config.ends bound (knows.reaching context.owner (ends_mentions p.config.ends bound) (ends_none p.config.ends bound)) in
      each_has_word context (item_env known (parametric_args_bound [] p.parametrics parametric_args)) (well m top s known complete typed p parametric_args here) names full [] p.config.ends f (all_sound m top s known knows outer.reached named r)

  -- so have its members
  pub members_have_words : (p : Proc) (parametric_args : List DslxValue) → IsThere m top s known p parametric_args → EachHasWord (proc_type_env known p parametric_args) (item_env known (parametric_args_bound [] p.parametrics parametric_args)) p.members
  members_have_words p parametric_args here =
      let context = proc_type_env known p parametric_args in
      let parts = parts_well_typed m top s known knows p parametric_args here.checked in
      let parametrics = parametrics_found known p.name.name [] [] p.parametrics parametric_args in
      let members = ends_found context [] p.members in
      let r = (all_in known.is_sound members.reached _ (all_in known.is_sound parametrics.reached (members.reached ++ _) parts.acts.reached).1).0 in
      each_has_word context (item_env known (parametric_args_bound [] p.parametrics parametric_args)) (well m top s known complete typed p parametric_args here) names full [] p.members parts.members r

  module _ (place : Elaboration) (such : ScopesStand place) (p : Proc) (parametric_args : List DslxValue) (here : IsThere m top s known p parametric_args) (path : List ℕ) (held : List Held) where
    abbrev context : TypeEnv
    context = proc_type_env known p parametric_args

    abbrev env : Env
    env = item_env known (parametric_args_bound [] p.parametrics parametric_args)

    abbrev bound : List (List ℕ)
    bound = parametric_names p.parametrics

    sees : IsWellTypedEnv context env
    sees = well m top s known complete typed p parametric_args here

    one_stands : (own : List ℕ) (made : Made) (before rest : List Held) (sp : Spawn) (number : ℕ) → EndsStand known chans made.names made.channel_ends before → held ≡ before ++ rest
        → (spawn_found context made sp).faults ≡ [] → Listed m top s (spawn_found context made sp).reached
        → StandFrom chans number (spawned m known.items place own env held sp number).chans → FamilyStands (spawned m known.items place own env held sp number)
    one_stands own made before rest sp number h is f r stand =
        let t = spawn_there m top s known knows complete typed p parametric_args sees made sp bound f r in
        let named = proc_named m sp.target.name t.target t.is in
        let there : IsThere m top s known t.target t.parametric_args = record { checked = record { named = named; among = one_of_these (record { name = t.target.name.name; parametric_args = t.parametric_args }) (all m top s) t.among }; own = t.own } in
        let so_far = parametric_args_bound [] t.target.parametrics t.parametric_args in
        let words = ends_have_words t.target t.parametric_args there in
        let many = (Decides-eqb (length sp.ends) (length t.target.config.ends)).0 t.many in
        let ends = given_ends_stand known chans made before rest h (item_env known so_far) t.target.name.name so_far t.target.config.ends sp.ends many words t.ends t.handed in
        let given : EndsOf t.target t.parametric_args (handed_over t.target.config.ends (channels_of_ends held sp.ends)) =
        subst (λ hs. EndsOf t.target t.parametric_args (handed_over t.target.config.ends (channels_of_ends hs sp.ends))) (sym is) ends in
        let elaborated : spawned m known.items place own env held sp number ≡ place own t.target t.parametric_args (handed_over t.target.config.ends (channels_of_ends held sp.ends)) number =
        (λ i. spawned_at place own held sp number (t.is i) (and_then (t.is i) (λ q. spawn_parametric_args known.items env q sp.arguments))) ∙ ap (spawned_at place own held sp number (Some t.target)) t.given in
        subst FamilyStands (sym elaborated)
        (such own t.target t.parametric_args (handed_over t.target.config.ends (channels_of_ends held sp.ends)) number there given (subst (λ (x : Family). StandFrom chans number x.chans) elaborated stand))

    -- what the statements of a `config` place, and the ends behind them
    record StatementsStand (made : Made) (ms : List ConfigStatement) (k number : ℕ) : Type 0 where
      before : List Held
      is : held ≡ before ++ []
      ends : EndsStand known chans (made_at_end context made ms).names (made_at_end context made ms).channel_ends before
      own : EachHas ChanFits (made_chans path env ms)
      each : FamilyStands (children m known.items place path env held ms k number)

    -- a channel that is made
    record ChannelStands (made : Made) (before : List Held) (c : Channel) (number : ℕ) : Type 0 where
      fits : ChanFits (made_chan path env c)
      ends : EndsStand known chans (made_with context made c).names (made_with context made c).channel_ends (before ++ record { name = c.sender.name; channel = number } ∷ record { name = c.receiver.name; channel = number } ∷ [])

    one_made : (made : Made) (before : List Held) (c : Channel) (number : ℕ) → EndsStand known chans made.names made.channel_ends before
        → (channel_found context made c).faults ≡ [] → Listed m top s (channel_found context made c).reached → slice_get chans number ≡ Some (made_chan path env c) → ChannelStands made before c number
    one_made made before c number h f r at =
        let behind = behind_ends context made in
        let word = channel_type behind c.word in
        let depth = depth_found behind c.depth in
        let sender = local_name context made.names c.sender in
        let receiver = local_name context (c.sender.name ∷ made.names) c.receiver in
        let strings = string_faults made.strings c.name in
        let a = none_in ((sender ++ receiver) ++ strings) (word.faults ++ depth.faults) f in
        let b = none_in_three sender receiver strings a.0 in
        let reached = all_sound m top s known knows word.reached (written_type_reaches (Passing m top s) c.word bound behind (knows.reaching behind.owner (mentioned_in_type c.word bound) (no_proc_in_type c.word bound))) (all_in test word.reached depth.reached r).0 in
        let w = word_is behind env (well_behind context env made sees) names full c.word (none_in word.faults depth.faults a.1).0 reached in
        record { fits = record { word = w.word; ty = ap plain_or_unit w.means; fits = w.fits }; ends = made_stands known chans context env path refl made before c number h w b.0 b.1 at }

    statements_stand : (made : Made) (before : List Held) (ms : List ConfigStatement) (c k number : ℕ) → EndsStand known chans made.names made.channel_ends before → held ≡ before ++ made_ends c ms
        → StandFrom chans c (made_chans path env ms) → StandFrom chans number (children m known.items place path env held ms k number).chans
        → (config_statements_found context made ms).faults ≡ [] → Listed m top s (config_statements_found context made ms).reached
        → StatementsStand made ms k number
    statements_stand made before [] c k number h is own others f r = record { before = before; is = is; ends = h; own = tt; each = record { each_proc = tt; each_chan = tt } }
    statements_stand made before (config_statement.Channel ch ∷ ms) c k number h is own others f r =
        let next = made_with context made ch in
        let a = none_in (channel_found context made ch).faults (config_statements_found context next ms).faults f in
        let b = all_in test (channel_found context made ch).reached (config_statements_found context next ms).reached r in
        let both : List Held = record { name = ch.sender.name; channel = c } ∷ record { name = ch.receiver.name; channel = c } ∷ [] in
        let first = one_made made before ch c h a.0 b.0 (stand_head chans c (made_chan path env ch) (made_chans path env ms) own) in
        let rest = statements_stand next (before ++ both) ms (suc c) k number first.ends (is ∙ sym (append_assoc before both (made_ends (suc c) ms))) (stand_tail chans c (made_chan path env ch) (made_chans path env ms) own) others a.1 b.1 in
        record { before = rest.before; is = rest.is; ends = rest.ends; own = (first.fits, rest.own); each = rest.each }
    statements_stand made before (config_statement.Spawn sp ∷ ms) c k number h is own others f r =
        let a = none_in (spawn_found context made sp).faults (config_statements_found context made ms).faults f in
        let b = all_in test (spawn_found context made sp).reached (config_statements_found context made ms).reached r in
        let first = spawned m known.items place (child_path path k) env held sp number in
        let behind = children m known.items place path env held ms (suc k) (number + length first.chans) in
        let one = one_stands (child_path path k) made before (made_ends c ms) sp number h is a.0 b.0 (stand_first chans number first.chans behind.chans others) in
        let rest = statements_stand made before ms c (suc k) (number + length first.chans) h is own (stand_second chans number first.chans behind.chans others) a.1 b.1 in
        let more = rest.each in
        record {
          before = rest.before;
          is = rest.is;
          ends = rest.ends;
          own = rest.own;
          each = record { each_proc = each_in_both MembersStand first.procs behind.procs one.each_proc more.each_proc; each_chan = each_in_both ChanFits first.chans behind.chans one.each_chan more.each_chan };
        }

  -- by spawns of any number
  pub all_stand : (n : ℕ) → ScopesStand (elaborate_within m known.items n)
  all_stand zero path p parametric_args ends number here h stand = record { each_proc = tt; each_chan = tt }
  all_stand (suc n) path p parametric_args ends number here h stand =
      let context = proc_type_env known p parametric_args in
      let env = item_env known (parametric_args_bound [] p.parametrics parametric_args) in
      let parts = parts_well_typed m top s known knows p parametric_args here.checked in
      let start = made_at_start context p.config.ends in
      let end = made_at_end context start p.config.config_statements in
      let made = config_statements_found context start p.config.config_statements in
      let outer = ends_found context [] p.config.ends in
      let unknown = unknown_ends end.names p.config.result in
      let used = use_faults context p end in
      let a = none_in made.faults (unknown ++ used) (none_in outer.faults (made.faults ++ (unknown ++ used)) parts.config).1 in
      let u = none_in unknown used a.1 in
      let b = (all_in test made.reached [] (all_in test outer.reached (made.reached ++ []) parts.listed).1).0 in
      let own = made_chans path env p.config.config_statements in
      let held = ends ++ made_ends number p.config.config_statements in
      let place = elaborate_within m known.items n in
      let others = children m known.items place path env held p.config.config_statements 0 (number + length own) in
      let st = statements_stand place (all_stand n) p parametric_args here path held start ends p.config.config_statements number 0 (number + length own) h refl (stand_first chans number own others.chans stand) (stand_second chans number own others.chans stand)
      a.0 b in
      let once = list_all (λ name. times_in name (used_ends p.config.config_statements p.config.result) == 1) end.names in
      let fits = (and_true once (is_members context p.members p.config.result end) (passed (once && is_members context p.members p.config.result end) 30 p.config.span u.1)).1 in
      let members = members_stand known chans end st.before [] st.ends context env refl p.members p.config.result (members_have_words p parametric_args here) u.0 fits in
      let itself : MembersStand (record { path = path; proc = p; parametric_args = parametric_args; channels = channels_of_ends held p.config.result }) = record {
        there = here;
        stands = λ name o q. subst (λ hs. EndStands known chans (unwrap_or (beside name (map (λ (e : End). e.name.name) p.members) (channels_of_ends hs p.config.result)) 0) o) (sym st.is) (members name o q);
      } in
      let spawned_ones = st.each in
      record { each_proc = (itself, spawned_ones.each_proc); each_chan = each_in_both ChanFits own others.chans st.own spawned_ones.each_chan }
