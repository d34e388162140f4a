-- Lines of channels in printed texts.
use Rattle.std.proofs.Common.{◌≡◌, ◌<◌, ◌≤◌, ℕ, suc, ◌^◌, true, false, List, [], ◌∷◌, ◌++◌, map, codes, decimal, bytes_eq, refl, sym, ap, subst, ◌∙◌, arith, append_assoc}
use Rattle.std.specs.Prelude.{nat_lt}
use Rattle.std.proofs.lemmas.Bool.{cond-false, cond-true}
use Rattle.std.proofs.lemmas.Bool.Decides.{nat_tests}
use Rattle.xb_span.specs.declared.span.Span.{Span}
use Rattle.dslx_token.specs.Blank.{after_blank}
use Rattle.ir_builder.specs.declared.token.rules.generated.kind.TheConstants as kinds
use Rattle.ir_builder.specs.declared.token.rules.generated.nonterminal.TheConstants as nonterminals
use Rattle.ir_builder.specs.declared.token.rules.generated.production.TheConstants as productions
use Rattle.ir_builder.specs.Token.Rules.Ir.{ir}
use Rattle.ir_builder.specs.Token.Rules.Rules.{named_rules}
use Rattle.ir_builder.specs.Token.Kinds.{Context, ir_plain_kind, kind_in}
use Rattle.ir_tree.specs.declared.package.Channel.{Channel}
use Rattle.ir_tree.specs.declared.package.Ends.{Ends}
use Rattle.ir_tree.specs.declared.package.Ends.TheVariants as ends
use Rattle.ir_text.specs.Printer.Parts.{type_text}
use Rattle.ir_text.specs.Printer.Lines.{channel_id, channel_kind, channel_start, channel_text, ends_text, lines_text}
use Rattle.ir_builder.specs.declared.state.State.{State}
use Rattle.ir_text.proofs.OnRoundTrip.Writable.{is_one_word}
use Rattle.ir_text.proofs.OnRoundTrip.Held.{type_held}
use Rattle.ir_text.proofs.OnRoundTrip.Walks.{Due, Goes, Point, a_tree, complete_then, stays, token_then}
use Rattle.ir_text.proofs.OnRoundTrip.Words.{digits_of_decimal, ends_words, number_prefix_is, number_kind, number_shown}
use Rattle.ir_text.proofs.OnRoundTrip.Lists.{onto}
use Rattle.ir_text.proofs.OnRoundTrip.Steps.{Reads, behind, by_rule, close_then, comma, complete_as, equals, keyword_then, left_parenthesis, mark_then, open_then, right_parenthesis, spot, the_chan, the_depth, the_id, the_inner, the_input, the_kind, the_output}
use Rattle.ir_text.proofs.OnRoundTrip.Numbers.{number_reads, small_said_is}
use Rattle.ir_text.proofs.OnRoundTrip.TypeTexts.{type_nesting, type_reads}
use Rattle.ir_text.proofs.OnRoundTrip.Names.{any_word, kind_kept, name_reads}

-- ---- ids of channels

no_digits : (n : ℕ) → n < 2 ^ 128 → bytes_eq (decimal n) [] ≡ false
no_digits n h = let are = digits_of_decimal n h in subst (λ ds. bytes_eq ds [] ≡ false) (sym are.is) refl

-- no node is there whose id it could be
channel_id_kind : (n : ℕ) → n < 2 ^ 32 → kind_in (behind kinds.ASSIGN kinds.ID []) (ir_plain_kind (decimal n)) (decimal n) ≡ kinds.SMALL
channel_id_kind n small =
    let enough : n < 2 ^ 128 = omega arith in
    let below : nat_lt n (2 ^ 32) ≡ true = grind (arith, nat_tests) in
    ap (λ x. kind_in (behind kinds.ASSIGN kinds.ID []) x (decimal n)) (number_kind n enough ∙ cond-true _ kinds.SMALL kinds.LARGE below)
    ∙ cond-false (bytes_eq (decimal n) []) kinds.OWN kinds.SMALL (no_digits n enough)

id_reads : {P : Point → Type 0} → (text : List ℕ) (n : ℕ) (rest here : List ℕ) (last second d r : ℕ) (st : State) → n < 2 ^ 32 → after_blank here ≡ after_blank (105 ∷ 100 ∷ 61 ∷ (decimal n ++ (44 ∷ rest))) → Reads text P nonterminals.CHANNEL_ID (spot here (behind last second []) d r st) rest (record st { ids = n ∷ st.ids })
unfolding ir named_rules
id_reads text n rest here last second d r st small e s k =
    let enough : n < 2 ^ 128 = omega arith in
    by_rule productions.CHANNEL_ID refl
    (keyword_then the_id (61 ∷ (decimal n ++ (44 ∷ rest))) e refl
    (mark_then equals _ refl
    (token_then (decimal n) (44 ∷ rest) d r (number_shown n (44 ∷ rest) enough) (number_prefix_is n (44 ∷ rest) enough refl) (channel_id_kind n small) (stays d r)
    (mark_then comma rest refl
    (complete_as (record st { ids = n ∷ st.ids }) (ap (λ v. record st { ids = v ∷ st.ids }) (small_said_is n small)) (k rest _ _ refl))))))

-- ---- kinds of channels

abbrev pub IsDepthSaid : Ends → Type 0
IsDepthSaid ends.Input = Unit {0}
IsDepthSaid ends.Output = Unit {0}
IsDepthSaid (ends.Inner depth) = depth < 2 ^ 128

ends_read : {P : Point → Type 0} → (text : List ℕ) (x : Ends) (rest here : List ℕ) (c : Context) (d r : ℕ) (st : State) → IsDepthSaid x → ends_words rest ≡ true → after_blank here ≡ after_blank (ends_text x ++ rest) → Reads text P nonterminals.KIND (spot here c d r st) rest (record st { ends = x ∷ st.ends })
unfolding ir named_rules
ends_read text ends.Input rest here c d r st said stop e s k = by_rule productions.KIND__INPUT refl (keyword_then the_input rest e stop (complete_then (k rest _ _ refl)))
ends_read text ends.Output rest here c d r st said stop e s k = by_rule productions.KIND__OUTPUT refl (keyword_then the_output rest e stop (complete_then (k rest _ _ refl)))
ends_read text (ends.Inner depth) rest here c d r st said stop e s k =
    by_rule productions.KIND__INNER refl
    (keyword_then the_inner (44 ∷ 32 ∷ (codes "depth=" ++ (decimal depth ++ rest))) e refl
    (mark_then comma _ refl
    (keyword_then the_depth (61 ∷ (decimal depth ++ rest)) refl refl
    (mark_then equals _ refl
    (number_reads text depth rest _ _ d r _ said stop refl refl _ λ here1 last1 second1 e1.
    complete_then (k here1 last1 second1 e1))))))

-- ---- a line

-- the parts of a channel can be read where so many brackets may be opened inside its own
pub record IsChannelSaid (room : ℕ) (ch : Channel) : Type 0 where
  pub one : is_one_word ch.name ≡ true
  pub id : ch.id < 2 ^ 32
  pub ty : type_held ch.ty ≡ true
  pub nesting : type_nesting ch.ty ≤ room
  pub ends : IsDepthSaid ch.ends

abbrev rest_of_id : Channel → List ℕ → List ℕ
rest_of_id ch rest = codes " kind=" ++ (ends_text ch.ends ++ (41 ∷ 10 ∷ rest))

abbrev rest_of_type : Channel → List ℕ → List ℕ
rest_of_type ch rest = codes ", id=" ++ (decimal ch.id ++ (44 ∷ rest_of_id ch rest))

channel_flat : (ch : Channel) (rest : List ℕ) → channel_text ch ++ rest ≡ codes "chan " ++ (ch.name ++ (40 ∷ (type_text ch.ty ++ rest_of_type ch rest)))
unfolding channel_start channel_id channel_kind
channel_flat ch rest = simp append_assoc

channel_line : {P : Point → Type 0} → (text : List ℕ) (ch : Channel) (rest here : List ℕ) (last second d q : ℕ) (st : State) → IsChannelSaid q ch → after_blank here ≡ after_blank (channel_text ch ++ rest) → (s : List Due)
    → ((span : Span) (second : ℕ) → Goes text P s (spot (10 ∷ rest) (behind kinds.RPAREN second []) d (suc q) (record st { channels = ch ∷ st.channels; channel_spans = span ∷ st.channel_spans; channel_names = ch.name ∷ st.channel_names })))
    → Goes text P (a_tree nonterminals.CHANNEL ∷ s) (spot here (behind last second []) d (suc q) st)
unfolding ir named_rules
channel_line text ch rest here last second d q st said e s k =
    let after_name = 40 ∷ (type_text ch.ty ++ rest_of_type ch rest) in
    by_rule productions.CHANNEL refl
    (keyword_then the_chan (32 ∷ (ch.name ++ after_name)) (e ∙ ap after_blank (channel_flat ch rest)) refl
    (name_reads text ch.name after_name (32 ∷ (ch.name ++ after_name)) (behind kinds.CHAN last []) d (suc q) _ (ir_plain_kind ch.name) (any_word ch.name said.one) said.one refl refl refl (kind_kept (behind kinds.CHAN last []) (ir_plain_kind ch.name) ch.name refl) _
    (open_then left_parenthesis _ q refl refl
    (type_reads ch.ty text (rest_of_type ch rest) (type_text ch.ty ++ rest_of_type ch rest) _ (suc d) q _ said.ty said.nesting refl refl _ λ here1 last1 second1 e1.
    mark_then comma _ e1
    (id_reads text ch.id (rest_of_id ch rest) _ _ _ (suc d) q _ said.id refl _ λ here2 last2 second2 e2.
    by_rule productions.CHANNEL_KIND refl
    (keyword_then the_kind (61 ∷ (ends_text ch.ends ++ (41 ∷ 10 ∷ rest))) e2 refl
    (mark_then equals _ refl
    (ends_read text ch.ends (41 ∷ 10 ∷ rest) _ _ (suc d) q _ said.ends refl refl _ λ here3 last3 second3 e3.
    complete_then
    (close_then right_parenthesis (10 ∷ rest) d refl e3
    (complete_then (k _ _)))))))))))

-- ---- all channels

abbrev pub AreChannelsSaid : ℕ → List Channel → Type 0
AreChannelsSaid room [] = Unit {0}
AreChannelsSaid room (ch ∷ chs) = IsChannelSaid room ch × AreChannelsSaid room chs

abbrev pub names_of : List Channel → List (List ℕ)
names_of chs = map (λ (ch : Channel). ch.name) chs

pub channels_read : {P : Point → Type 0} → (text : List ℕ) (chs : List Channel) (rest here : List ℕ) (last second d q : ℕ) (st : State) → AreChannelsSaid q chs → after_blank here ≡ after_blank (lines_text (map channel_text chs) ++ rest) → (s : List Due)
    → ((here : List ℕ) (last second : ℕ) (spans : List Span) → after_blank here ≡ after_blank rest → Goes text P s (spot here (behind last second []) d (suc q) (record st { channels = onto chs st.channels; channel_spans = spans; channel_names = onto (names_of chs) st.channel_names })))
    → Goes text P (a_tree nonterminals.CHANNELS ∷ s) (spot here (behind last second []) d (suc q) st)
unfolding ir named_rules
channels_read text [] rest here last second d q st said e s k = by_rule productions.CHANNELS__NONE refl (complete_then (k here last second st.channel_spans e))
channels_read text (ch ∷ chs) rest here last second d q st said e s k =
    let lines = lines_text (map channel_text chs) in
    by_rule productions.CHANNELS__CHANNEL refl
    (channel_line text ch (lines ++ rest) here last second d q st said.0 (e ∙ ap after_blank (append_assoc (channel_text ch) lines rest)) _ λ span second1.
    channels_read text chs rest (10 ∷ (lines ++ rest)) kinds.RPAREN second1 d q _ said.1 refl _ λ here2 last2 second2 spans e2.
    complete_then (k here2 last2 second2 spans e2))
