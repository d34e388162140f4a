-- The ends of channels in a `config`, by their channels and the ways that they go: no two names stand for one end.
use Rattle.std.proofs.Common.{◌≡◌, ◌≤◌, ◌<◌, ◌+◌, ◌++◌, ℕ, suc, inl, inr, Bool, true, false, if◌then◌else◌, List, [], ◌∷◌, length, Option, Some, arith, refl, sym, ap, subst, ◌∙◌}
use mathlib.Core.Bool.{true≢false}
use Rattle.std.specs.Prelude.{◌⊎◌}
use Rattle.std.specs.Str.{bytes_eq}
use Rattle.std.proofs.lemmas.List.{append-nil, append_assoc}
use Rattle.std.proofs.lemmas.Slice.Eq.{bytes_eq-Decides}
use Rattle.dslx_tree.specs.declared.process.Channel.{Channel}
use Rattle.dslx_tree.specs.declared.process.ConfigStatement.{ConfigStatement}
use Rattle.dslx_tree.specs.declared.process.ConfigStatement.TheVariants as config_statement
use Rattle.dslx_tree.specs.declared.process.Direction.{Direction}
use Rattle.dslx_tree.specs.declared.process.Direction.TheVariants.{In, Out}
use Rattle.dslx_meaning.specs.Lists.{is_in}
use Rattle.dslx_meaning.specs.Environment.{Env}
use Rattle.dslx_meaning.specs.Network.{Held, channel_held, made_chans, made_ends}
use Rattle.dslx_meaning.specs.declared.ty.DslxType.{DslxType}
use Rattle.dslx_meaning.specs.Rules.ItemRules.{typing_of_inner}
use Rattle.dslx_meaning.specs.Rules.CallRules.{channel_end_in}
use Rattle.dslx_meaning.specs.Rules.NameRules.{local_name}
use Rattle.dslx_meaning.specs.Rules.ProcRules.{Made, channel_found, channel_type, behind_ends, config_statements_found, depth_found, made_at_end, made_with, spawn_found, string_faults}
use Rattle.dslx_meaning.specs.Rules.TypeEnvs.{ChannelEnd, TypeEnv}
use Rattle.dslx_core.proofs.Lemmas.Typing.Sound.{none_in, none_in_three}
use Rattle.dslx_core.proofs.Lemmas.Typing.Typed.{same_some}
use Rattle.dslx_total.proofs.OnNets.Ends.{new_name}

-- the name stands for the end of this channel that goes this way, whatever is declared behind
pub record PairAt (ends : List ChannelEnd) (before : List Held) (name : List ℕ) (c : ℕ) (d : Direction) : Type 0 where
  pub channel_end : ChannelEnd
  pub found : channel_end_in name ends ≡ Some channel_end
  pub goes : channel_end.direction ≡ d
  pub placed : (rest : List Held) → channel_held name (before ++ rest) ≡ c

-- what is declared so far
pub record IsScope (names : List (List ℕ)) (ends : List ChannelEnd) (before : List Held) : Type 0 where
  pub there : (name : List ℕ) → is_in name names ≡ true → (o : ChannelEnd) × (channel_end_in name ends ≡ Some o)
  pub named : (name : List ℕ) (o : ChannelEnd) → channel_end_in name ends ≡ Some o → is_in name names ≡ true
  pub placed : (name : List ℕ) (o : ChannelEnd) → channel_end_in name ends ≡ Some o → (c : ℕ) × ((rest : List Held) → channel_held name (before ++ rest) ≡ c)
  pub skips : (name : List ℕ) → is_in name names ≡ false → (rest : List Held) → channel_held name (before ++ rest) ≡ channel_held name rest

-- no two names stand for one end, and all channels are below this number
pub record AreApart (ends : List ChannelEnd) (before : List Held) (most : ℕ) : Type 0 where
  pub apart : (name other : List ℕ) (c : ℕ) (d : Direction) → PairAt ends before name c d → PairAt ends before other c d → name ≡ other
  pub below : (name : List ℕ) (c : ℕ) (d : Direction) → PairAt ends before name c d → c < most

-- ---- a channel more

module _ (context : TypeEnv) (made : Made) (before : List Held) (ch : Channel) (number : ℕ) (h : IsScope made.names made.channel_ends before)
    (new_sender : local_name context made.names ch.sender ≡ []) (new_receiver : local_name context (ch.sender.name ∷ made.names) ch.receiver ≡ []) where
  abbrev sender : Held
  sender = record { name = ch.sender.name; channel = number }

  abbrev receiver : Held
  receiver = record { name = ch.receiver.name; channel = number }

  abbrev both : List Held
  both = sender ∷ receiver ∷ []

  abbrev word : Option DslxType
  word = (typing_of_inner (behind_ends context made) ch.word).ty

  abbrev sends : ChannelEnd
  sends = record { name = ch.sender.name; direction = Out; word = word }

  abbrev receives : ChannelEnd
  receives = record { name = ch.receiver.name; direction = In; word = word }

  abbrev ends : List ChannelEnd
  ends = sends ∷ receives ∷ made.channel_ends

  abbrev held_by : Bool → Bool → ℕ → ℕ
  held_by a b k = if a then number else (if b then number else k)

  abbrev found_by : List ℕ → Bool → Bool → Option ChannelEnd
  found_by name a b = if a then Some sends else (if b then Some receives else channel_end_in name made.channel_ends)

  abbrev in_by : List ℕ → Bool → Bool → Bool
  in_by name a b = if b then true else (if a then true else is_in name made.names)

  regroup : (name : List ℕ) (rest : List Held) → channel_held name ((before ++ both) ++ rest) ≡ channel_held name (before ++ sender ∷ receiver ∷ rest)
  regroup name rest = ap (channel_held name) (append_assoc before both rest)

  sender_new : (name : List ℕ) → bytes_eq name ch.sender.name ≡ true → is_in name made.names ≡ false
  sender_new name e = ap (λ n. is_in n made.names) ((bytes_eq-Decides name ch.sender.name).0 e) ∙ new_name context made.names ch.sender new_sender

  behind_first : (a b : Bool) → (if a then true else b) ≡ false → b ≡ false
  behind_first true b e = absurd (true≢false e)
  behind_first false b e = e

  receiver_new : (name : List ℕ) → bytes_eq name ch.receiver.name ≡ true → is_in name made.names ≡ false
  receiver_new name e =
      ap (λ n. is_in n made.names) ((bytes_eq-Decides name ch.receiver.name).0 e)
      ∙ behind_first (bytes_eq ch.receiver.name ch.sender.name) (is_in ch.receiver.name made.names) (new_name context (ch.sender.name ∷ made.names) ch.receiver new_receiver)

  at_sender : (name : List ℕ) → bytes_eq name ch.sender.name ≡ true → (rest : List Held) → channel_held name ((before ++ both) ++ rest) ≡ number
  at_sender name e rest = regroup name rest ∙ h.skips name (sender_new name e) (sender ∷ receiver ∷ rest) ∙ (λ i. held_by (e i) (bytes_eq name ch.receiver.name) (channel_held name rest))

  at_receiver : (name : List ℕ) → bytes_eq name ch.sender.name ≡ false → bytes_eq name ch.receiver.name ≡ true → (rest : List Held) → channel_held name ((before ++ both) ++ rest) ≡ number
  at_receiver name e f rest = regroup name rest ∙ h.skips name (receiver_new name f) (sender ∷ receiver ∷ rest) ∙ (λ i. held_by (e i) (f i) (channel_held name rest))

  pub scope_more : IsScope (made_with context made ch).names ends (before ++ both)
  scope_more = record { there = there; named = named; placed = placed; skips = skips }
    where
      there : (name : List ℕ) → is_in name (ch.receiver.name ∷ ch.sender.name ∷ made.names) ≡ true → (o : ChannelEnd) × (channel_end_in name ends ≡ Some o)
      there name q = by (bytes_eq name ch.sender.name) refl (bytes_eq name ch.receiver.name) refl q
        where
          by : (a : Bool) → bytes_eq name ch.sender.name ≡ a → (b : Bool) → bytes_eq name ch.receiver.name ≡ b → in_by name a b ≡ true → (o : ChannelEnd) × (channel_end_in name ends ≡ Some o)
          by true e b f r = (sends, λ i. found_by name (e i) (bytes_eq name ch.receiver.name))
          by false e true f r = (receives, λ i. found_by name (e i) (f i))
          by false e false f r = let k = h.there name r in (k.0, (λ i. found_by name (e i) (f i)) ∙ k.1)

      named : (name : List ℕ) (o : ChannelEnd) → channel_end_in name ends ≡ Some o → is_in name (ch.receiver.name ∷ ch.sender.name ∷ made.names) ≡ true
      named name o q = by (bytes_eq name ch.sender.name) refl (bytes_eq name ch.receiver.name) refl q
        where
          by : (a : Bool) → bytes_eq name ch.sender.name ≡ a → (b : Bool) → bytes_eq name ch.receiver.name ≡ b → found_by name a b ≡ Some o → is_in name (ch.receiver.name ∷ ch.sender.name ∷ made.names) ≡ true
          by true e true f r = λ i. in_by name (e i) (f i)
          by true e false f r = λ i. in_by name (e i) (f i)
          by false e true f r = λ i. in_by name (e i) (f i)
          by false e false f r = (λ i. in_by name (e i) (f i)) ∙ h.named name o r

      placed : (name : List ℕ) (o : ChannelEnd) → channel_end_in name ends ≡ Some o → (c : ℕ) × ((rest : List Held) → channel_held name ((before ++ both) ++ rest) ≡ c)
      placed name o q = by (bytes_eq name ch.sender.name) refl (bytes_eq name ch.receiver.name) refl q
        where
          by : (a : Bool) → bytes_eq name ch.sender.name ≡ a → (b : Bool) → bytes_eq name ch.receiver.name ≡ b → found_by name a b ≡ Some o → (c : ℕ) × ((rest : List Held) → channel_held name ((before ++ both) ++ rest) ≡ c)
          by true e b f r = (number, at_sender name e)
          by false e true f r = (number, at_receiver name e f)
          by false e false f r = let k = h.placed name o r in (k.0, λ rest. regroup name rest ∙ k.1 (sender ∷ receiver ∷ rest))

      skips : (name : List ℕ) → is_in name (ch.receiver.name ∷ ch.sender.name ∷ made.names) ≡ false → (rest : List Held) → channel_held name ((before ++ both) ++ rest) ≡ channel_held name rest
      skips name q rest = by (bytes_eq name ch.sender.name) refl (bytes_eq name ch.receiver.name) refl q
        where
          by : (a : Bool) → bytes_eq name ch.sender.name ≡ a → (b : Bool) → bytes_eq name ch.receiver.name ≡ b → in_by name a b ≡ false → channel_held name ((before ++ both) ++ rest) ≡ channel_held name rest
          by a e true f r = absurd (true≢false r)
          by true e false f r = absurd (true≢false r)
          by false e false f r = regroup name rest ∙ h.skips name r (sender ∷ receiver ∷ rest) ∙ (λ i. held_by (e i) (f i) (channel_held name rest))

  -- the end that sends, the one that receives, or one that was declared before
  data Which (name : List ℕ) (c : ℕ) (d : Direction) : Type 0 where
    IsSender : name ≡ ch.sender.name → c ≡ number → d ≡ Out → Which name c d
    IsReceiver : name ≡ ch.receiver.name → c ≡ number → d ≡ In → Which name c d
    IsOld : PairAt made.channel_ends before name c d → Which name c d

  which : (name : List ℕ) (c : ℕ) (d : Direction) → PairAt ends (before ++ both) name c d → Which name c d
  which name c d k = by (bytes_eq name ch.sender.name) refl (bytes_eq name ch.receiver.name) refl k.found
    where
      by : (a : Bool) → bytes_eq name ch.sender.name ≡ a → (b : Bool) → bytes_eq name ch.receiver.name ≡ b → found_by name a b ≡ Some k.channel_end → Which name c d
      by true e b f r = IsSender ((bytes_eq-Decides name ch.sender.name).0 e) (sym (k.placed []) ∙ at_sender name e []) (sym k.goes ∙ sym (ap (λ (o : ChannelEnd). o.direction) (same_some sends k.channel_end r)))
      by false e true f r = IsReceiver ((bytes_eq-Decides name ch.receiver.name).0 f) (sym (k.placed []) ∙ at_receiver name e f []) (sym k.goes ∙ sym (ap (λ (o : ChannelEnd). o.direction) (same_some receives k.channel_end r)))
      by false e false f r =
          let x = h.placed name k.channel_end r in
          let same = sym (x.1 (sender ∷ receiver ∷ [])) ∙ sym (regroup name []) ∙ k.placed [] in
          IsOld (record { channel_end = k.channel_end; found = r; goes = k.goes; placed = λ rest. x.1 rest ∙ same })

  pub pair_back : (name : List ℕ) (c : ℕ) (d : Direction) → PairAt ends (before ++ both) name c d → (c ≡ number) ⊎ PairAt made.channel_ends before name c d
  pair_back name c d k = by (which name c d k)
    where
      by : Which name c d → (c ≡ number) ⊎ PairAt made.channel_ends before name c d
      by (IsSender e f g) = inl f
      by (IsReceiver e f g) = inl f
      by (IsOld old) = inr old

  pub pair_on : (name : List ℕ) (c : ℕ) (d : Direction) → PairAt made.channel_ends before name c d → PairAt ends (before ++ both) name c d
  pair_on name c d k = by (bytes_eq name ch.sender.name) refl (bytes_eq name ch.receiver.name) refl (h.named name k.channel_end k.found)
    where
      by : (a : Bool) → bytes_eq name ch.sender.name ≡ a → (b : Bool) → bytes_eq name ch.receiver.name ≡ b → is_in name made.names ≡ true → PairAt ends (before ++ both) name c d
      by true e b f q = absurd (true≢false (sym q ∙ sender_new name e))
      by false e true f q = absurd (true≢false (sym q ∙ receiver_new name f))
      by false e false f q = record {
        channel_end = k.channel_end;
        found = (λ i. found_by name (e i) (f i)) ∙ k.found;
        goes = k.goes;
        placed = λ rest. regroup name rest ∙ k.placed (sender ∷ receiver ∷ rest);
      }

  pub apart_more : AreApart made.channel_ends before number → AreApart ends (before ++ both) (suc number)
  apart_more old = record { apart = λ name other c d x y. by name other c d (which name c d x) (which other c d y); below = λ name c d x. low name c d (which name c d x) }
    where
      two_ways : {X : Type 0} (d : Direction) → d ≡ Out → d ≡ In → X
      two_ways d e f = let never : Out ≡ In = sym e ∙ f in absurd (cc)

      by : (name other : List ℕ) (c : ℕ) (d : Direction) → Which name c d → Which other c d → name ≡ other
      by name other c d (IsSender e f g) (IsSender i j k) = e ∙ sym i
      by name other c d (IsSender e f g) (IsReceiver i j k) = two_ways d g k
      by name other c d (IsSender e f g) (IsOld y) = let less = old.below other c d y in absurd (omega (arith, f, less))
      by name other c d (IsReceiver e f g) (IsSender i j k) = two_ways d k g
      by name other c d (IsReceiver e f g) (IsReceiver i j k) = e ∙ sym i
      by name other c d (IsReceiver e f g) (IsOld y) = let less = old.below other c d y in absurd (omega (arith, f, less))
      by name other c d (IsOld x) (IsSender i j k) = let less = old.below name c d x in absurd (omega (arith, j, less))
      by name other c d (IsOld x) (IsReceiver i j k) = let less = old.below name c d x in absurd (omega (arith, j, less))
      by name other c d (IsOld x) (IsOld y) = old.apart name other c d x y

      low : (name : List ℕ) (c : ℕ) (d : Direction) → Which name c d → c < suc number
      low name c d (IsSender e f g) = omega (arith, f)
      low name c d (IsReceiver e f g) = omega (arith, f)
      low name c d (IsOld x) = let less = old.below name c d x in omega (arith, less)

-- ---- all statements of a `config`

-- how many channels they make
abbrev pub count_made : List ConfigStatement → ℕ
count_made [] = 0
count_made (config_statement.Channel c ∷ ms) = suc (count_made ms)
count_made (config_statement.Spawn s ∷ ms) = count_made ms

pub made_are_counted : (path : List ℕ) (env : Env) (ms : List ConfigStatement) → length (made_chans path env ms) ≡ count_made ms
made_are_counted path env [] = refl
made_are_counted path env (config_statement.Channel c ∷ ms) = ap suc (made_are_counted path env ms)
made_are_counted path env (config_statement.Spawn s ∷ ms) = made_are_counted path env ms

module _ (context : TypeEnv) where
  -- the ends of a channel have names of their own
  pub fresh_ends : (made : Made) (c : Channel) → (channel_found context made c).faults ≡ [] → (local_name context made.names c.sender ≡ []) × (local_name context (c.sender.name ∷ made.names) c.receiver ≡ [])
  fresh_ends made c f =
      let sender = local_name context made.names c.sender in
      let receiver = local_name context (c.sender.name ∷ made.names) c.receiver in
      let strings = string_faults made.strings c.name in
      let word = channel_type (behind_ends context made) c.word in
      let depth = depth_found (behind_ends context made) c.depth in
      let b = none_in_three sender receiver strings (none_in ((sender ++ receiver) ++ strings) (word.faults ++ depth.faults) f).0 in
      (b.0, b.1)

  abbrev ends_at : Made → List ConfigStatement → List ChannelEnd
  ends_at made ms = (made_at_end context made ms).channel_ends

  -- what is so at the end of a `config`
  pub record AtEnd (made : Made) (before : List Held) (c : ℕ) (ms : List ConfigStatement) : Type 0 where
    pub scope : IsScope (made_at_end context made ms).names (ends_at made ms) (before ++ made_ends c ms)
    pub apart : AreApart (ends_at made ms) (before ++ made_ends c ms) (c + count_made ms)
    pub on : (name : List ℕ) (x : ℕ) (d : Direction) → PairAt made.channel_ends before name x d → PairAt (ends_at made ms) (before ++ made_ends c ms) name x d
    pub back : (name : List ℕ) (x : ℕ) (d : Direction) → PairAt (ends_at made ms) (before ++ made_ends c ms) name x d → PairAt made.channel_ends before name x d ⊎ ((c ≤ x) × (x < c + count_made ms))

  pub at_end : (made : Made) (before : List Held) (c : ℕ) (ms : List ConfigStatement) → IsScope made.names made.channel_ends before → AreApart made.channel_ends before c → (config_statements_found context made ms).faults ≡ [] → AtEnd made before c ms
  at_end made before c [] h a f =
      let none = sym (append-nil before) in
      let same : c ≡ c + 0 = omega arith in
      record {
        scope = subst (λ hs. IsScope made.names made.channel_ends hs) none h;
        apart = subst (λ k. AreApart made.channel_ends (before ++ []) k) same (subst (λ hs. AreApart made.channel_ends hs c) none a);
        on = λ name x d k. subst (λ hs. PairAt made.channel_ends hs name x d) none k;
        back = λ name x d k. inl (subst (λ hs. PairAt made.channel_ends hs name x d) (append-nil before) k);
      }
  at_end made before c (config_statement.Spawn s ∷ ms) h a f =
      let q = none_in (spawn_found context made s).faults (config_statements_found context made ms).faults f in
      let rest = at_end made before c ms h a q.1 in
      record { scope = rest.scope; apart = rest.apart; on = rest.on; back = rest.back }
  at_end made before c (config_statement.Channel ch ∷ ms) h a f =
      let next = made_with context made ch in
      let q = none_in (channel_found context made ch).faults (config_statements_found context next ms).faults f in
      let fresh = fresh_ends made ch q.0 in
      let two : List Held = record { name = ch.sender.name; channel = c } ∷ record { name = ch.receiver.name; channel = c } ∷ [] in
      let more = scope_more context made before ch c h fresh.0 fresh.1 in
      let rest = at_end next (before ++ two) (suc c) ms more (apart_more context made before ch c h fresh.0 fresh.1 a) q.1 in
      let same = append_assoc before two (made_ends (suc c) ms) in
      let many : suc c + count_made ms ≡ c + suc (count_made ms) = omega arith in
      record {
        scope = subst (λ hs. IsScope (made_at_end context next ms).names (ends_at next ms) hs) same rest.scope;
        apart = subst (λ k. AreApart (ends_at next ms) (before ++ (two ++ made_ends (suc c) ms)) k) many (subst (λ hs. AreApart (ends_at next ms) hs (suc c + count_made ms)) same rest.apart);
        on = λ name x d k. subst (λ hs. PairAt (ends_at next ms) hs name x d) same (rest.on name x d (pair_on context made before ch c h fresh.0 fresh.1 name x d k));
        back = λ name x d k. later name x d h fresh.0 fresh.1 (rest.back name x d (subst (λ hs. PairAt (ends_at next ms) hs name x d) (sym same) k));
      }
    where
      later : (name : List ℕ) (x : ℕ) (d : Direction) → IsScope made.names made.channel_ends before → local_name context made.names ch.sender ≡ [] → local_name context (ch.sender.name ∷ made.names) ch.receiver ≡ []
          → PairAt (made_with context made ch).channel_ends (before ++ record { name = ch.sender.name; channel = c } ∷ record { name = ch.receiver.name; channel = c } ∷ []) name x d ⊎ ((suc c ≤ x) × (x < suc c + count_made ms))
          → PairAt made.channel_ends before name x d ⊎ ((c ≤ x) × (x < c + suc (count_made ms)))
      later name x d h e g (inr k) = let one = k.0 in let two = k.1 in inr (omega (arith, one), omega (arith, two))
      later name x d h e g (inl k) = by (pair_back context made before ch c h e g name x d k)
        where
          by : (x ≡ c) ⊎ PairAt made.channel_ends before name x d → PairAt made.channel_ends before name x d ⊎ ((c ≤ x) × (x < c + suc (count_made ms)))
          by (inl q) = inr (omega (arith, q), omega (arith, q))
          by (inr old) = inl old
