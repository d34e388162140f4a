-- Where the ends of channels stand: each name of an end in a `config` stands for a channel of its words that goes its way.
use Rattle.std.proofs.Common.{◌≡◌, ◌≢◌, ◌||◌, ◌++◌, ℕ, suc, Bool, true, false, not, if◌then◌else◌, List, [], ◌∷◌, map, length, Option, Some, None, arith, refl, sym, ap, subst, ◌∙◌}
use mathlib.Core.Bool.{true≢false}
use Rattle.std.specs.Prelude.{slice_get, unwrap_or}
use Rattle.std.specs.Str.{bytes_eq}
use Rattle.std.specs.List.{list_all}
use Rattle.std.proofs.lemmas.List.{append_assoc}
use Rattle.std.proofs.lemmas.Slice.Eq.{bytes_eq-Decides}
use Rattle.net_core.specs.declared.net.Chan.{Chan}
use Rattle.net_core.specs.declared.net.Kind.{Kind}
use Rattle.net_core.specs.declared.net.Kind.TheVariants as kind
use Rattle.dslx_tree.specs.declared.ident.Ident.{Ident}
use Rattle.dslx_tree.specs.declared.process.Channel.{Channel}
use Rattle.dslx_tree.specs.declared.process.Direction.{Direction}
use Rattle.dslx_tree.specs.declared.process.Direction.TheVariants.{In, Out}
use Rattle.dslx_tree.specs.declared.process.End.{End}
use Rattle.dslx_meaning.specs.Callees.{is_own_name}
use Rattle.dslx_meaning.specs.Environment.{Env, Given}
use Rattle.dslx_meaning.specs.Lists.{and_then, beside, index_in, is_in}
use Rattle.dslx_meaning.specs.Network.{Held, channel_held, channels_of_ends, handed_over, made_chan, plain_or_unit}
use Rattle.dslx_meaning.specs.Types.{plain_type, same_type}
use Rattle.dslx_meaning.specs.declared.ty.DslxType.{DslxType}
use Rattle.dslx_meaning.specs.Rules.CallRules.{channel_end_in, same_direction}
use Rattle.dslx_meaning.specs.Rules.ModuleRules.{declared_type}
use Rattle.dslx_meaning.specs.Rules.TypeRules.{unless_unit}
use Rattle.dslx_meaning.specs.Rules.NameRules.{local_name}
use Rattle.dslx_meaning.specs.Rules.ItemRules.{item_type_env, typing_of_inner}
use Rattle.dslx_meaning.specs.Rules.ProcRules.{Made, behind_ends, channel_end_of, channel_type, end_names, ends_found, handed_faults, is_members, made_with, misfits, unknown_ends}
use Rattle.dslx_meaning.specs.Rules.TypeEnvs.{ChannelEnd, GlobalEnv, TypeEnv, breaks_if, is_item}
use Rattle.dslx_core.proofs.Lemmas.Typing.Laws.{and_true}
use Rattle.dslx_core.proofs.Lemmas.Typing.Sound.{all_in, none_in, not_broken, passed}
use Rattle.dslx_core.proofs.Lemmas.Typing.Typed.{none_some, not_false, one_of_text, or_false, same_some}
use Rattle.dslx_core.specs.Typing.Typed.Declared.{IsDeclared}
use Rattle.dslx_core.specs.Typing.Typed.WellTyped.{IsWellTypedEnv}
use Rattle.dslx_total.specs.Expressions.Beside.{NamesAreFull, NamesHaveWidths}
use Rattle.dslx_total.proofs.OnNets.Words.{IsWordType, WordIs, word_is}

-- ---- ends

-- a proc doesn't receive from an output, and doesn't send on an input
abbrev pub GoesThere : Direction → Kind → Type 0
GoesThere In k = k ≢ kind.Output
GoesThere Out k = k ≢ kind.Input

-- the channel of this number is one of the words of the end, and goes its way
pub record EndStands (known : GlobalEnv) (chans : List Chan) (c : ℕ) (o : ChannelEnd) : Type 0 where
  pub word : DslxType
  pub typed : o.word ≡ Some word
  pub declared : IsDeclared known.items.type_named word
  pub fits : IsWordType word
  pub chan : Chan
  pub is : slice_get chans c ≡ Some chan
  pub ty : chan.ty ≡ plain_type word
  pub goes : GoesThere o.direction chan.kind

-- each of these ends stands where its name stands first among those that are held
pub record EndsStand (known : GlobalEnv) (chans : List Chan) (names : List (List ℕ)) (ends : List ChannelEnd) (before : List Held) : Type 0 where
  pub stands : (name : List ℕ) (o : ChannelEnd) → channel_end_in name ends ≡ Some o → (rest : List Held) → EndStands known chans (channel_held name (before ++ rest)) o
  pub skips : (name : List ℕ) → is_in name names ≡ false → (rest : List Held) → channel_held name (before ++ rest) ≡ channel_held name rest
  pub there : (name : List ℕ) → is_in name names ≡ true → (o : ChannelEnd) × (channel_end_in name ends ≡ Some o)

inner_goes : (d : Direction) → GoesThere d kind.Inner
inner_goes In = λ e. never e
  where
    never : kind.Inner ≡ kind.Output → ⊥
    never e = cc
inner_goes Out = λ e. never e
  where
    never : kind.Inner ≡ kind.Input → ⊥
    never e = cc

pub one_direction : (a b : Direction) → same_direction a b ≡ true → a ≡ b
one_direction In In e = refl
one_direction Out Out e = refl
one_direction In Out e = absurd (true≢false (sym e))
one_direction Out In e = absurd (true≢false (sym e))

last_false : (a b c : Bool) → (a || b || c) ≡ false → c ≡ false
last_false true b c e = absurd (true≢false e)
last_false false true c e = absurd (true≢false e)
last_false false false c e = e

-- a name that is new
pub new_name : (context : TypeEnv) (before : List (List ℕ)) (i : Ident) → local_name context before i ≡ [] → is_in i.name before ≡ false
new_name context before i e = last_false (is_own_name i.name) (is_item context i.name) (is_in i.name before) (not_broken _ 2 i.span e)

-- ---- an end that is handed over as another one

pub handed_stands : (known : GlobalEnv) (chans : List Chan) (c : ℕ) (o e : ChannelEnd) (w : Option DslxType) (t : DslxType) → w ≡ Some t → e.word ≡ Some t → IsDeclared known.items.type_named t
    → misfits e.direction w (Some o) ≡ false → EndStands known chans c o → EndStands known chans c e
handed_stands known chans c o e w t is typed declared fits st =
    let q = or_false (not (same_direction e.direction o.direction)) (not (same_type t st.word))
    ((λ i. misfits e.direction (sym is i) (Some (record { name = o.name; direction = o.direction; word = sym st.typed i }))) ∙ fits) in
    let way = one_direction e.direction o.direction (not_false (same_direction e.direction o.direction) q.0) in
    let same = one_of_text known.items.type_named t st.word (not_false (same_type t st.word) q.1) declared st.declared in
    record {
      word = t;
      typed = typed;
      declared = declared;
      fits = subst IsWordType (sym same) st.fits;
      chan = st.chan;
      is = st.is;
      ty = st.ty ∙ ap plain_type (sym same);
      goes = subst (λ d. GoesThere d (st.chan).kind) (sym way) st.goes;
    }

-- ---- a channel that is made

module _ (known : GlobalEnv) (chans : List Chan) (context : TypeEnv) (env : Env) (path : List ℕ) (same : context.known ≡ known) where
  pub made_stands : (made : Made) (before : List Held) (c : Channel) (number : ℕ) → EndsStand known chans made.names made.channel_ends before → WordIs (behind_ends context made) env c.word
      → local_name context made.names c.sender ≡ [] → local_name context (c.sender.name ∷ made.names) c.receiver ≡ [] → slice_get chans number ≡ Some (made_chan path env c)
      → EndsStand known chans (made_with context made c).names (made_with context made c).channel_ends (before ++ record { name = c.sender.name; channel = number } ∷ record { name = c.receiver.name; channel = number } ∷ [])
  made_stands made before c number h w new_sender new_receiver at = record { stands = stands; skips = skips; there = there }
    where
      sender : Held
      sender = record { name = c.sender.name; channel = number }

      receiver : Held
      receiver = record { name = c.receiver.name; channel = number }

      word : Option DslxType
      word = (typing_of_inner (behind_ends context made) c.word).ty

      sends : ChannelEnd
      sends = record { name = c.sender.name; direction = Out; word = word }

      receives : ChannelEnd
      receives = record { name = c.receiver.name; direction = In; word = word }

      declared : IsDeclared known.items.type_named w.word
      declared = subst (λ (k : GlobalEnv). IsDeclared k.items.type_named w.word) same w.declared

      sender_stands : EndStands known chans number sends
      sender_stands = record { word = w.word; typed = w.typed; declared = declared; fits = w.fits; chan = made_chan path env c; is = at; ty = ap plain_or_unit w.means; goes = inner_goes Out }

      receiver_stands : EndStands known chans number receives
      receiver_stands = record { word = w.word; typed = w.typed; declared = declared; fits = w.fits; chan = made_chan path env c; is = at; ty = ap plain_or_unit w.means; goes = inner_goes In }

      held_by : Bool → Bool → ℕ → ℕ
      held_by a b k = if a then number else (if b then number else k)

      regroup : (name : List ℕ) (rest : List Held) → channel_held name ((before ++ sender ∷ receiver ∷ []) ++ rest) ≡ channel_held name (before ++ sender ∷ receiver ∷ rest)
      regroup name rest = ap (channel_held name) (append_assoc before (sender ∷ receiver ∷ []) rest)

      sender_new : (name : List ℕ) → bytes_eq name c.sender.name ≡ true → is_in name made.names ≡ false
      sender_new name e = ap (λ n. is_in n made.names) ((bytes_eq-Decides name c.sender.name).0 e) ∙ new_name context made.names c.sender new_sender

      behind_sender : (a b : Bool) → (if a then true else b) ≡ false → b ≡ false
      behind_sender true b e = absurd (true≢false e)
      behind_sender false b e = e

      receiver_new : (name : List ℕ) → bytes_eq name c.receiver.name ≡ true → is_in name made.names ≡ false
      receiver_new name e =
          ap (λ n. is_in n made.names) ((bytes_eq-Decides name c.receiver.name).0 e)
          ∙ behind_sender (bytes_eq c.receiver.name c.sender.name) (is_in c.receiver.name made.names) (new_name context (c.sender.name ∷ made.names) c.receiver new_receiver)

      stands : (name : List ℕ) (o : ChannelEnd) → channel_end_in name (sends ∷ receives ∷ made.channel_ends) ≡ Some o → (rest : List Held) → EndStands known chans (channel_held name ((before ++ sender ∷ receiver ∷ []) ++ rest)) o
      stands name o q rest = by (bytes_eq name c.sender.name) refl (bytes_eq name c.receiver.name) refl q
        where
          by : (a : Bool) → bytes_eq name c.sender.name ≡ a → (b : Bool) → bytes_eq name c.receiver.name ≡ b → (if a then Some sends else (if b then Some receives else channel_end_in name made.channel_ends)) ≡ Some o
              → EndStands known chans (channel_held name ((before ++ sender ∷ receiver ∷ []) ++ rest)) o
          by true e b f r =
              let here = regroup name rest ∙ h.skips name (sender_new name e) (sender ∷ receiver ∷ rest) ∙ (λ i. held_by (e i) (bytes_eq name c.receiver.name) (channel_held name rest)) in
              subst (EndStands known chans (channel_held name ((before ++ sender ∷ receiver ∷ []) ++ rest))) (same_some sends o r) (subst (λ k. EndStands known chans k sends) (sym here) sender_stands)
          by false e true f r =
              let here = regroup name rest ∙ h.skips name (receiver_new name f) (sender ∷ receiver ∷ rest) ∙ (λ i. held_by (e i) (f i) (channel_held name rest)) in
              subst (EndStands known chans (channel_held name ((before ++ sender ∷ receiver ∷ []) ++ rest))) (same_some receives o r) (subst (λ k. EndStands known chans k receives) (sym here) receiver_stands)
          by false e false f r = subst (λ k. EndStands known chans k o) (sym (regroup name rest)) (h.stands name o r (sender ∷ receiver ∷ rest))

      skips : (name : List ℕ) → is_in name (c.receiver.name ∷ c.sender.name ∷ made.names) ≡ false → (rest : List Held) → channel_held name ((before ++ sender ∷ receiver ∷ []) ++ rest) ≡ channel_held name rest
      skips name q rest = by (bytes_eq name c.sender.name) refl (bytes_eq name c.receiver.name) refl q
        where
          by : (a : Bool) → bytes_eq name c.sender.name ≡ a → (b : Bool) → bytes_eq name c.receiver.name ≡ b → (if b then true else (if a then true else is_in name made.names)) ≡ false
              → channel_held name ((before ++ sender ∷ receiver ∷ []) ++ rest) ≡ channel_held name rest
          by a e true f r = absurd (true≢false r)
          by true e false f r = absurd (true≢false r)
          by false e false f r = regroup name rest ∙ h.skips name r (sender ∷ receiver ∷ rest) ∙ (λ i. held_by (e i) (f i) (channel_held name rest))

      there : (name : List ℕ) → is_in name (c.receiver.name ∷ c.sender.name ∷ made.names) ≡ true → (o : ChannelEnd) × (channel_end_in name (sends ∷ receives ∷ made.channel_ends) ≡ Some o)
      there name q = by (bytes_eq name c.sender.name) refl (bytes_eq name c.receiver.name) refl q
        where
          found_by : Bool → Bool → Option ChannelEnd
          found_by a b = if a then Some sends else (if b then Some receives else channel_end_in name made.channel_ends)

          by : (a : Bool) → bytes_eq name c.sender.name ≡ a → (b : Bool) → bytes_eq name c.receiver.name ≡ b → (if b then true else (if a then true else is_in name made.names)) ≡ true
              → (o : ChannelEnd) × (channel_end_in name (sends ∷ receives ∷ made.channel_ends) ≡ Some o)
          by true e b f r = (sends, λ i. found_by (e i) (bytes_eq name c.receiver.name))
          by false e true f r = (receives, λ i. found_by (e i) (f i))
          by false e false f r = let k = h.there name r in (k.0, (λ i. found_by (e i) (f i)) ∙ k.1)

-- ---- ends with which nothing is wrong

-- each has words
abbrev pub EachHasWord : TypeEnv → Env → List End → Type 0
EachHasWord context env [] = Unit {0}
EachHasWord context env (e ∷ es) = WordIs context env e.word × EachHasWord context env es

pub each_has_word : (context : TypeEnv) (env : Env) → IsWellTypedEnv context env → NamesHaveWidths context.known → NamesAreFull context.known → (before : List (List ℕ)) (es : List End) → (ends_found context before es).faults ≡ []
    → list_all context.known.is_sound (ends_found context before es).reached ≡ true → EachHasWord context env es
each_has_word context env h names full before [] f r = tt
each_has_word context env h names full before (e ∷ es) f r =
    let word = channel_type context e.word in
    let rest = ends_found context (e.name.name ∷ before) es in
    let a = none_in word.faults rest.faults (none_in (local_name context before e.name) (word.faults ++ rest.faults) f).1 in
    let b = all_in context.known.is_sound word.reached rest.reached r in
    (word_is context env h names full e.word a.0 b.0, each_has_word context env h names full (e.name.name ∷ before) es a.1 b.1)

-- ---- ends by their names

-- one end more, first
pub first_stands : (known : GlobalEnv) (chans : List Chan) (names : List (List ℕ)) (ends : List ChannelEnd) (hs : List Held) (o : ChannelEnd) (c : ℕ) → EndStands known chans c o → EndsStand known chans names ends hs
    → EndsStand known chans (o.name ∷ names) (o ∷ ends) (record { name = o.name; channel = c } ∷ hs)
first_stands known chans names ends hs o c st h = record {
  stands = λ name x q rest. by_stands name x rest (bytes_eq name o.name) q;
  skips = λ name q rest. by_skips name rest (bytes_eq name o.name) q;
  there = λ name q. by_there name (bytes_eq name o.name) q;
}
  where
    by_stands : (name : List ℕ) (x : ChannelEnd) (rest : List Held) (b : Bool) → (if b then Some o else channel_end_in name ends) ≡ Some x → EndStands known chans (if b then c else channel_held name (hs ++ rest)) x
    by_stands name x rest true q = subst (EndStands known chans c) (same_some o x q) st
    by_stands name x rest false q = h.stands name x q rest

    by_skips : (name : List ℕ) (rest : List Held) (b : Bool) → (if b then true else is_in name names) ≡ false → (if b then c else channel_held name (hs ++ rest)) ≡ channel_held name rest
    by_skips name rest true q = absurd (true≢false q)
    by_skips name rest false q = h.skips name q rest

    by_there : (name : List ℕ) (b : Bool) → (if b then true else is_in name names) ≡ true → (x : ChannelEnd) × ((if b then Some o else channel_end_in name ends) ≡ Some x)
    by_there name true q = (o, refl)
    by_there name false q = h.there name q

pub none_stand : (known : GlobalEnv) (chans : List Chan) → EndsStand known chans [] [] []
none_stand known chans = record { stands = λ name o q rest. none_some o q; skips = λ name q rest. refl; there = λ name q. absurd (true≢false (sym q)) }

-- ---- ends that are handed over

module _ (known : GlobalEnv) (chans : List Chan) (made : Made) (before rest : List Held) (old : EndsStand known chans made.names made.channel_ends before) where
  -- the channel that an end is handed over at
  given_stands : (i : Ident) (e : ChannelEnd) (w : Option DslxType) (t : DslxType) → is_in i.name made.names ≡ true → w ≡ Some t → e.word ≡ Some t → IsDeclared known.items.type_named t
      → misfits e.direction w (channel_end_in i.name made.channel_ends) ≡ false → EndStands known chans (channel_held i.name (before ++ rest)) e
  given_stands i e w t named is typed declared fits =
      let o = old.there i.name named in
      handed_stands known chans (channel_held i.name (before ++ rest)) o.0 e w t is typed declared (ap (misfits e.direction w) (sym o.1) ∙ fits) (old.stands i.name o.0 o.1 rest)

  -- to a spawned proc
  pub given_ends_stand : (env : Env) (owner : List ℕ) (so_far : List Given) (es : List End) (is : List Ident) → length is ≡ length es → EachHasWord (item_type_env known owner so_far) env es
      → unknown_ends made.names is ≡ [] → handed_faults made (map (λ (e : End). declared_type (item_type_env known owner so_far) e.word) es) es is ≡ []
      → EndsStand known chans (end_names es) (map (channel_end_of (item_type_env known owner so_far)) es) (handed_over es (channels_of_ends (before ++ rest) is))
  given_ends_stand env owner so_far [] is many words f g = none_stand known chans
  given_ends_stand env owner so_far (e ∷ es) [] many words f g = absurd (omega (arith, many))
  given_ends_stand env owner so_far (e ∷ es) (i ∷ is) many words f g =
      let context = item_type_env known owner so_far in
      let w = words.0 in
      let a = none_in (breaks_if (not (is_in i.name made.names)) 1 i.span) (unknown_ends made.names is) f in
      let own = declared_type context e.word in
      let b = none_in (breaks_if (misfits e.direction own (channel_end_in i.name made.channel_ends)) 9 i.span) (handed_faults made (map (λ (e : End). declared_type context e.word) es) es is) g in
      let declared : own ≡ Some w.word = ap unless_unit w.typed ∙ ap (λ b. if b then None else Some w.word) w.whole in
      let st = given_stands i (channel_end_of context e) own w.word (passed (is_in i.name made.names) 1 i.span a.0) declared w.typed w.declared (not_broken (misfits e.direction own (channel_end_in i.name made.channel_ends)) 9 i.span b.0) in
      first_stands known chans (end_names es) (map (channel_end_of context) es) (handed_over es (channels_of_ends (before ++ rest) is)) (channel_end_of context e) (channel_held i.name (before ++ rest)) st
      (given_ends_stand env owner so_far es is (omega (arith, many)) words.1 a.1 b.1)

  -- to the members
  pub members_stand : (context : TypeEnv) (env : Env) → context.known ≡ known → (es : List End) (is : List Ident) → EachHasWord context env es → unknown_ends made.names is ≡ [] → is_members context es is made ≡ true
      → (name : List ℕ) (o : ChannelEnd) → channel_end_in name (map (channel_end_of context) es) ≡ Some o → EndStands known chans (unwrap_or (beside name (map (λ (e : End). e.name.name) es) (channels_of_ends (before ++ rest) is)) 0) o
  members_stand context env same [] is words f g name o q = none_some o q
  members_stand context env same (e ∷ es) [] words f g name o q = absurd (true≢false (sym g))
  members_stand context env same (e ∷ es) (i ∷ is) words f g name o q =
      let w = words.0 in
      let a = none_in (breaks_if (not (is_in i.name made.names)) 1 i.span) (unknown_ends made.names is) f in
      let own = (typing_of_inner context e.word).ty in
      let b = and_true (not (misfits e.direction own (channel_end_in i.name made.channel_ends))) (is_members context es is made) g in
      let declared = subst (λ (k : GlobalEnv). IsDeclared k.items.type_named w.word) same w.declared in
      let st = given_stands i (channel_end_of context e) own w.word (passed (is_in i.name made.names) 1 i.span a.0) w.typed w.typed declared (not_true (misfits e.direction own (channel_end_in i.name made.channel_ends)) b.0) in
      by (bytes_eq name e.name.name) q st (λ x p. members_stand context env same es is words.1 a.1 b.1 name x p)
    where
      not_true : (b : Bool) → not b ≡ true → b ≡ false
      not_true true k = absurd (true≢false (sym k))
      not_true false k = refl

      c : ℕ
      c = channel_held i.name (before ++ rest)

      cs : List ℕ
      cs = channels_of_ends (before ++ rest) is

      ns : List (List ℕ)
      ns = map (λ (e : End). e.name.name) es

      later : (k : Option ℕ) → and_then (elim k as (λ x. Option ℕ) [ None ↦ None | Some j ↦ Some (suc j) ]) (λ k. slice_get (c ∷ cs) k) ≡ and_then k (λ k. slice_get cs k)
      later None = refl
      later (Some j) = refl

      by : (b : Bool) → (if b then Some (channel_end_of context e) else channel_end_in name (map (channel_end_of context) es)) ≡ Some o → EndStands known chans c (channel_end_of context e)
          → ((x : ChannelEnd) → channel_end_in name (map (channel_end_of context) es) ≡ Some x → EndStands known chans (unwrap_or (beside name ns cs) 0) x)
          → EndStands known chans (unwrap_or (and_then (if b then Some 0 else (elim (index_in name ns) as (λ x. Option ℕ) [ None ↦ None | Some j ↦ Some (suc j) ])) (λ k. slice_get (c ∷ cs) k)) 0) o
      by true p st more = subst (EndStands known chans c) (same_some (channel_end_of context e) o p) st
      by false p st more = subst (λ x. EndStands known chans (unwrap_or x 0) o) (sym (later (index_in name ns))) (more o p)
