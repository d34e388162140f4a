-- Networks whose channels are named by their numbers.
use Rattle.std.proofs.Common.{◌≡◌, ◌≢◌, ◌≤◌, ◌<◌, ◌^◌, ◌+◌, ℕ, zero, suc, true, false, List, [], ◌∷◌, length, get_or, Some, arith, refl, sym, ap, subst, ◌∙◌}
use Rattle.std.specs.Prelude.{slice_get}
use Rattle.xb_bits.specs.Word.{Word}
use Rattle.xb_value.specs.Typing.{IsOfType}
use Rattle.xb_value.specs.Width.{HasWidths, width_of}
use Rattle.xb_value.specs.declared.ty.Ty.{Ty}
use Rattle.net_core.specs.Behavior.{Behavior}
use Rattle.net_core.specs.WellFormed.{AreBehaviorsOf, AreWordsOf, IsInputs, IsNet, IsSiteOf}
use Rattle.net_core.specs.declared.net.Chan.{Chan}
use Rattle.net_core.specs.declared.net.Kind.{Kind}
use Rattle.net_core.specs.declared.net.Kind.TheVariants.{Input, Output}
use Rattle.net_core.specs.declared.net.Net.{Net}
use Rattle.net_core.specs.declared.net.ProcHead.{ProcHead}
use Rattle.net_core.specs.declared.net.Site.{Site}
use Rattle.dslx_core.proofs.Lemmas.Typing.Typed.{list_parts, same_some}
use Rattle.dslx_total.specs.Nets.Numbered.{numbered, numbered_from}

-- a network whose parts fit, whatever its channels are named
pub record FitsButNames (net : Net) : Type 0 where
  pub few_procs : length net.procs < 2 ^ 32
  pub few_chans : length net.chans < 2 ^ 32
  pub few_sites : (p : ℕ) (head : ProcHead) → slice_get net.procs p ≡ Some head → length head.sites < 2 ^ 30
  pub opening : (p : ℕ) (head : ProcHead) → slice_get net.procs p ≡ Some head → IsOfType head.state head.init
  pub state_widths : (p : ℕ) (head : ProcHead) → slice_get net.procs p ≡ Some head → HasWidths head.state
  pub chan_widths : (c : ℕ) (chan : Chan) → slice_get net.chans c ≡ Some chan → HasWidths chan.ty
  pub site : (p i : ℕ) (site : Site) → IsSiteOf net p i site → site.chan < length net.chans
  pub no_send : (p i : ℕ) (site : Site) (chan : Chan) → IsSiteOf net p i site → site.sends ≡ true → slice_get net.chans site.chan ≡ Some chan → chan.kind ≢ Input
  pub no_receive : (p i : ℕ) (site : Site) (chan : Chan) → IsSiteOf net p i site → site.sends ≡ false → slice_get net.chans site.chan ≡ Some chan → chan.kind ≢ Output
  pub one_proc : (p q i j : ℕ) (a b : Site) → IsSiteOf net p i a → IsSiteOf net q j b → a.chan ≡ b.chan → a.sends ≡ b.sends → p ≡ q
  pub some_width : (c : ℕ) (chan : Chan) → slice_get net.chans c ≡ Some chan → 1 ≤ width_of chan.ty
  pub most_width : (c : ℕ) (chan : Chan) → slice_get net.chans c ≡ Some chan → width_of chan.ty ≤ 128

pub with_names : (net : Net) → FitsButNames net → ((c d : ℕ) (a b : Chan) → slice_get net.chans c ≡ Some a → slice_get net.chans d ≡ Some b → a.name ≡ b.name → c ≡ d) → IsNet net
with_names net h own = record {
  few_procs = h.few_procs;
  few_chans = h.few_chans;
  few_sites = h.few_sites;
  opening = h.opening;
  state_widths = h.state_widths;
  chan_widths = h.chan_widths;
  site = h.site;
  no_send = h.no_send;
  no_receive = h.no_receive;
  one_proc = h.one_proc;
  some_width = h.some_width;
  most_width = h.most_width;
  own_names = own;
}

-- ---- the channel of a number

pub as_many : (n : ℕ) (xs : List Chan) → length (numbered_from n xs) ≡ length xs
as_many n [] = refl
as_many n (x ∷ xs) = ap suc (as_many (suc n) xs)

record IsRenamed (n : ℕ) (xs : List Chan) (c : ℕ) (chan : Chan) : Type 0 where
  was : Chan
  there : slice_get xs c ≡ Some was
  ty : was.ty ≡ chan.ty
  kind : was.kind ≡ chan.kind
  name : chan.name ≡ (n + c) ∷ []

renamed : (n : ℕ) (xs : List Chan) (c : ℕ) (chan : Chan) → slice_get (numbered_from n xs) c ≡ Some chan → IsRenamed n xs c chan
renamed n [] c chan e = absurd (cc)
renamed n (x ∷ xs) zero chan e =
    let same = same_some (record { name = n ∷ []; ty = x.ty; kind = x.kind; depth = x.depth }) chan e in
    let none : n ≡ n + 0 = omega arith in
    record {
      was = x;
      there = refl;
      ty = ap (λ (y : Chan). y.ty) same;
      kind = ap (λ (y : Chan). y.kind) same;
      name = sym (ap (λ (y : Chan). y.name) same) ∙ ap (λ k. k ∷ []) none;
    }
renamed n (x ∷ xs) (suc c) chan e =
    let k = renamed (suc n) xs c chan e in
    let one : suc n + c ≡ n + suc c = omega arith in
    record { was = k.was; there = k.there; ty = k.ty; kind = k.kind; name = k.name ∙ ap (λ k. k ∷ []) one }

same_site : (net : Net) (p i : ℕ) (site : Site) → IsSiteOf (numbered net) p i site → IsSiteOf net p i site
same_site net p i site h = record { head = h.head; proc = h.proc; place = h.place }

-- ---- what fits still fits

pub numbered_is_net : (net : Net) → FitsButNames net → IsNet (numbered net)
numbered_is_net net h = record {
  few_procs = h.few_procs;
  few_chans = let many = as_many 0 net.chans in let few = h.few_chans in omega (arith, many, few);
  few_sites = h.few_sites;
  opening = h.opening;
  state_widths = h.state_widths;
  chan_widths = λ c chan e. let k = renamed 0 net.chans c chan e in subst HasWidths k.ty (h.chan_widths c k.was k.there);
  site = λ p i site is. let many = as_many 0 net.chans in let less = h.site p i site (same_site net p i site is) in omega (arith, many, less);
  no_send = λ p i site chan is sends e. let k = renamed 0 net.chans site.chan chan e in subst (λ (x : Kind). x ≢ Input) k.kind (h.no_send p i site k.was (same_site net p i site is) sends k.there);
  no_receive = λ p i site chan is sends e. let k = renamed 0 net.chans site.chan chan e in subst (λ (x : Kind). x ≢ Output) k.kind (h.no_receive p i site k.was (same_site net p i site is) sends k.there);
  one_proc = λ p q i j a b is js e f. h.one_proc p q i j a b (same_site net p i a is) (same_site net q j b js) e f;
  some_width = λ c chan e. let k = renamed 0 net.chans c chan e in let some = h.some_width c k.was k.there in let same = ap width_of k.ty in omega (arith, some, same);
  most_width = λ c chan e. let k = renamed 0 net.chans c chan e in let most = h.most_width c k.was k.there in let same = ap width_of k.ty in omega (arith, most, same);
  own_names = λ c d a b e f g.
      let k = renamed 0 net.chans c a e in
      let l = renamed 0 net.chans d b f in
      let same = (list_parts (0 + c) (0 + d) [] [] (sym k.name ∙ g ∙ l.name)).0 in
      omega (arith, same);
}

pub numbered_behaviors : (net : Net) (bs : List Behavior) → AreBehaviorsOf net bs → AreBehaviorsOf (numbered net) bs
numbered_behaviors net bs h = record {
  count = h.count;
  each = λ p head b e f.
      let k = h.each p head b e f in
      record {
        state = k.state;
        sites = k.sites;
        widths = λ i site chan s q. let x = renamed 0 net.chans site.chan chan q in k.widths i site x.was s x.there ∙ ap width_of x.ty;
      };
}

pub numbered_inputs : (net : Net) (inputs : List (List Word)) → IsInputs net inputs → IsInputs (numbered net) inputs
numbered_inputs net inputs h = record {
  count = h.count ∙ sym (as_many 0 net.chans);
  words = λ c chan e. let k = renamed 0 net.chans c chan e in subst (λ (t : Ty). AreWordsOf (width_of t) (get_or inputs c [])) k.ty (h.words c k.was k.there);
  only = λ c chan e other. let k = renamed 0 net.chans c chan e in h.only c k.was k.there (λ q. other (sym k.kind ∙ q));
}
