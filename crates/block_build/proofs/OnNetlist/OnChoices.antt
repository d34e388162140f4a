-- What the wires of a choice between values show.
use Rattle.std.proofs.Common.{◌≡◌, ℕ, suc, ◌+◌, ◌/◌, ◌%◌, ◌<◌, ◌≤◌, ◌^◌, List, [], ◌∷◌, ◌++◌, map, length, get_or, Bool, true, false, refl, sym, ap, ap₂, ◌∙◌, arith, cond, nat_lt, Some, append-nil}
use Rattle.std.specs.Prelude.{◌==◌}
use Rattle.std.proofs.lemmas.Bool.Decides.{nat_tests}
use Rattle.std.proofs.lemmas.Nat.{pow_pos}
use Rattle.xb_bits.specs.Word.{Word, word}
use Rattle.xb_bits.specs.Operations as op
use Rattle.xb_value.specs.declared.value.Value.{Value, Tuple}
use Rattle.xb_value.specs.Unflat.{unflat_of}
use Rattle.xb_value.specs.Width.{width_of}
use Rattle.net_core.specs.Behavior.{IsWordOf}
use Rattle.ir_tree.specs.Constants.{no_value}
use Rattle.ir_tree.specs.NodeValues.{heard, received, no_word, channel_type}
use Rattle.ir_tree.specs.Types.{ty_of}
use Rattle.ir_tree.specs.declared.ir_type.IrType.{IrType}
use Rattle.ir_tree.specs.declared.package.Channel.{Channel}
use Rattle.vlog_tree.specs.declared.expression.Atom.{Atom}
use Rattle.vlog_tree.specs.declared.expression.Binary.TheVariants as binary
use Rattle.vlog_tree.specs.declared.expression.Simple.{Simple}
use Rattle.vlog_tree.specs.Value.{Values, bit, atom_value, simple_value}
use Rattle.block_build.specs.Netlist.Wires.{AreWired}
use Rattle.block_build.specs.Netlist.Gates.{net}
use Rattle.block_build.specs.Netlist.Leaves.{leaves_of, ShowsValue, nets, leaf_widths, cut_into}
use Rattle.block_build.specs.Netlist.Operators.{part_of}
use Rattle.block_build.specs.Netlist.Choices.{choice_wires, pick_wires, chosen_below}
use Rattle.block_build.specs.Netlist.Holding.{AreCarriedOn}
use Rattle.block_build.proofs.OnNetlist.OnGates.{choice, operated}
use Rattle.block_build.proofs.OnNetlist.OnOperators.{part_carries}
use Rattle.block_build.proofs.OnNetlist.OnLeaves.{leaves-Tuple, unflat_is_cut}

-- ---- each number of the one or the other

choose_cons : (t : Bool) (x y z : Word) (xs ys zs : List Word) → z ≡ cond t x y → zs ≡ cond t xs ys → z ∷ zs ≡ cond t (x ∷ xs) (y ∷ ys)
choose_cons true x y z xs ys zs e f = ap₂ (λ a b. a ∷ b) e f
choose_cons false x y z xs ys zs e f = ap₂ (λ a b. a ∷ b) e f

none_chosen : (t : Bool) → ◌≡◌ {A = List Word} [] (cond t [] [])
none_chosen true = refl
none_chosen false = refl

pub choice_carries : (v : Values) (k : ℕ) (c : Atom) (ws : List ℕ) (firsts seconds : List Atom) (t : Bool) → AreWired v k (choice_wires c ws firsts seconds) → atom_value v c ≡ bit t
    → length firsts ≡ length ws → length seconds ≡ length ws → map (atom_value v) (nets k (length ws)) ≡ cond t (map (atom_value v) firsts) (map (atom_value v) seconds)
choice_carries v k c [] [] [] t h e l m = none_chosen t
choice_carries v k c [] [] (b ∷ seconds) t h e l m = absurd (omega (arith, m))
choice_carries v k c [] (a ∷ firsts) seconds t h e l m = absurd (omega (arith, l))
choice_carries v k c (w ∷ ws) [] seconds t h e l m = absurd (omega (arith, l))
choice_carries v k c (w ∷ ws) (a ∷ firsts) [] t h e l m = absurd (omega (arith, m))
choice_carries v k c (w ∷ ws) (a ∷ firsts) (b ∷ seconds) t h e l m =
    choose_cons t (atom_value v a) (atom_value v b) (v k) (map (atom_value v) firsts) (map (atom_value v) seconds) (map (atom_value v) (nets (suc k) (length ws)))
    (choice (v k) (atom_value v c) (atom_value v a) (atom_value v b) t h.0 e) (choice_carries v (suc k) c ws firsts seconds t h.1 e (omega (arith, l)) (omega (arith, m)))

chosen_leaves : (t : Bool) (x y : Value) → cond t (leaves_of x) (leaves_of y) ≡ leaves_of (cond t x y)
chosen_leaves true x y = refl
chosen_leaves false x y = refl

pub choice_shows : (v : Values) (k : ℕ) (c : Atom) (ws : List ℕ) (firsts seconds : List Atom) (t : Bool) (x y : Value) → AreWired v k (choice_wires c ws firsts seconds) → atom_value v c ≡ bit t
    → length firsts ≡ length ws → length seconds ≡ length ws → ShowsValue v firsts x → ShowsValue v seconds y → ShowsValue v (nets k (length ws)) (cond t x y)
choice_shows v k c ws firsts seconds t x y h e l m f g =
    choice_carries v k c ws firsts seconds t h e l m ∙ ap₂ (λ xs ys. cond t xs ys) f g ∙ chosen_leaves t x y

-- ---- by a number

pub pick_shows : (v : Values) (k i n w : ℕ) (selector number : Atom) (ws : List ℕ) (firsts seconds : List Atom) (x y : Value) → AreWired v k (pick_wires k selector number ws firsts seconds)
    → atom_value v selector ≡ word w n → atom_value v number ≡ word w i → length firsts ≡ length ws → length seconds ≡ length ws → ShowsValue v firsts x → ShowsValue v seconds y
    → ShowsValue v (nets (suc k) (length ws)) (cond (n == i) x y)
pick_shows v k i n w selector number ws firsts seconds x y h e d l m f g =
    let same : v k ≡ bit (n == i) = operated binary.Equal (v k) (atom_value v selector) (atom_value v number) (word w n) (word w i) h.0 e d in
    choice_shows v (suc k) (net k) ws firsts seconds (n == i) x y h.1 same l m f g

-- one index after another
pub none_chosen_below : (n : ℕ) (other : Value) (values : List Value) → chosen_below n 0 other values ≡ other
none_chosen_below n other values = let e : nat_lt n 0 ≡ false = grind (arith, nat_tests) in rw e refl

step_by : (e l m : Bool) (x y : Value) (at : Value) → (e ≡ true → m ≡ true) → (e ≡ true → at ≡ x) → (e ≡ false → m ≡ l) → cond e at (cond l x y) ≡ cond m x y
step_by true l m x y at h a g = a refl ∙ sym (ap (λ t. cond t x y) (h refl))
step_by false l m x y at h a g = sym (ap (λ t. cond t x y) (g refl))

pub one_chosen_more : (n i : ℕ) (other : Value) (values : List Value) → cond (n == i) (get_or values i no_value) (chosen_below n i other values) ≡ chosen_below n (suc i) other values
one_chosen_more n i other values =
    step_by (n == i) (nat_lt n i) (nat_lt n (suc i)) (get_or values n no_value) other (get_or values i no_value)
    (λ e. within n i e) (λ e. ap (λ j. get_or values j no_value) (sym (same n i e))) (λ e. apart n i e)
  where
    same : (n i : ℕ) → (n == i) ≡ true → n ≡ i
    same n i e = grind (arith, nat_tests)

    within : (n i : ℕ) → (n == i) ≡ true → nat_lt n (suc i) ≡ true
    within n i e = grind (arith, nat_tests)

    apart : (n i : ℕ) → (n == i) ≡ false → nat_lt n (suc i) ≡ nat_lt n i
    apart n i e = grind (arith, nat_tests)

-- ---- the words of receives

zeros_cut : (w m : ℕ) → word w 0 ≡ word w (0 / 2 ^ m % 2 ^ w)
zeros_cut w m = ap (word w) (let q : 0 / 2 ^ m ≡ 0 = none (2 ^ m) (pow_pos m) in sym (ap (λ n. n % 2 ^ w) q ∙ rest (2 ^ w) (pow_pos w)))
  where
    none : (p : ℕ) → 0 < p → 0 / p ≡ 0
    none p h = grind arith

    rest : (p : ℕ) → 0 < p → 0 % p ≡ 0
    rest p h = grind arith

part_is : (t : Bool) (w m n : ℕ) (z : Word) → z ≡ cond t (word w (n / 2 ^ m % 2 ^ w)) (word w 0) → z ≡ word w (cond t n 0 / 2 ^ m % 2 ^ w)
part_is true w m n z e = e
part_is false w m n z e = e ∙ zeros_cut w m

-- one number of the word
pub received_part : (v : Values) (all s k u low : ℕ) (on : Atom) (y : Simple) (zeros : Atom) (t : Bool) (x : Word) → v k ≡ cond ((atom_value v on).value == 0) (atom_value v zeros) (simple_value v y)
    → y ≡ part_of all s low u → v s ≡ x → IsWordOf all x → 1 ≤ u → low + u ≤ all → atom_value v on ≡ bit t → atom_value v zeros ≡ word u 0
    → v k ≡ word u (cond t x.value 0 / 2 ^ low % 2 ^ u)
received_part v all s k u low on y zeros t x h is e i some l o z =
    part_is t u low x.value (v k)
    (choice (v k) (atom_value v on) (simple_value v y) (atom_value v zeros) t h o
    ∙ ap (λ q. cond t q (atom_value v zeros)) (ap (simple_value v) is ∙ part_carries v all s low u x e i.fits i.word.in_range some l)
    ∙ ap (λ q. cond t (op.slice x low u) q) z)

heard_is : (t : IrType) (on : Bool) (x : Word) → x.width ≡ width_of (ty_of t) → heard (Some t) (cond on x no_word) ≡ unflat_of (ty_of t) (cond on x.value 0)
heard_is t true x e = let same : (x.width == width_of (ty_of t)) ≡ true = grind (arith, nat_tests) in ap (λ b. unflat_of (ty_of t) (cond b x.value 0)) same
heard_is t false x e = none (0 == width_of (ty_of t))
  where
    none : (b : Bool) → unflat_of (ty_of t) (cond b 0 0) ≡ unflat_of (ty_of t) 0
    none true = refl
    none false = refl

pair_leaves : (value : Value) → leaves_of (Tuple (no_value ∷ value ∷ [])) ≡ leaves_of value
pair_leaves value = leaves-Tuple (no_value ∷ value ∷ []) ∙ ap (λ xs. xs ++ (leaves_of value ++ [])) (leaves-Tuple []) ∙ append-nil (leaves_of value)

pub receive_shows : (v : Values) (channels : List Channel) (c : ℕ) (t : IrType) (numbers : List Atom) (b : Bool) (x : Word)
    → channel_type channels c ≡ Some t → IsWordOf (width_of (ty_of t)) x → map (atom_value v) numbers ≡ cut_into (leaf_widths (ty_of t)) (cond b x.value 0)
    → ShowsValue v numbers (received channels c b x)
receive_shows v channels c t numbers b x is of cut =
    cut
    ∙ sym (unflat_is_cut (ty_of t) (cond b x.value 0))
    ∙ ap leaves_of (sym (heard_is t b x of.fits))
    ∙ sym (pair_leaves (heard (Some t) (cond b x no_word)))
    ∙ ap (λ u. leaves_of (Tuple (no_value ∷ heard u (cond b x no_word) ∷ []))) (sym is)

-- registers that take what is chosen
pub registers_carry_on : (v next : Values) (k : ℕ) (moves : Atom) (ws : List ℕ) (source registers : List Atom) → AreWired v k (choice_wires moves ws source registers) → length source ≡ length ws → length registers ≡ length ws
    → map (atom_value next) registers ≡ map (atom_value v) (nets k (length ws)) → AreCarriedOn v next moves source registers
registers_carry_on v next k moves ws source registers h l m e t is = e ∙ choice_carries v k moves ws source registers t h is l m
