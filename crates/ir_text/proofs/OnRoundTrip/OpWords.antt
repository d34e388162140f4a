-- The words of operations, and `OP.ID`.
use Rattle.std.proofs.Common.{◌≡◌, ◌<◌, ℕ, suc, ◌+◌, ◌^◌, Bool, true, false, ◌||◌, List, [], ◌∷◌, ◌++◌, take, drop, length, decimal, bytes_eq, cond, min, ◌-◌, Option, Some, is_some, refl, sym, ap, subst, ◌∙◌, arith, length-append}
use Rattle.std.specs.Prelude.{◌==◌, slice_index, find}
use Rattle.std.specs.List.{list_all, prefix_len}
use Rattle.std.specs.Char.{is_ascii_digit}
use Rattle.std.specs.Str.Parse.{digits_value}
use Rattle.std.proofs.lemmas.Bool.{and_parts, and_from, cond-true, eqb-true, eq-eqb}
use Rattle.std.proofs.lemmas.Fmt.{decimal_injective}
use Rattle.base.specs.Texts.Words.{begins_word, is_word_byte}
use Rattle.delay_model.specs.declared.op.Op.{Op}
use Rattle.delay_model.specs.declared.op.TheConstants.Op.{ALL}
use Rattle.delay_model.specs.Names.{name_of, op_named}
use Rattle.delay_model.proofs.Lemmas.Naming.{named_by_name}
use Rattle.ir_builder.specs.declared.token.rules.generated.kind.TheConstants as kinds
use Rattle.ir_builder.specs.Token.TokenPrefixes.{name_len, word_goes_on}
use Rattle.ir_builder.specs.Token.Kinds.{id_part, ir_plain_kind, ir_word_kind, is_id, is_no_dot, is_op_id, op_part}
use Rattle.ir_builder.specs.Token.Said.{id_said}
use Rattle.ir_text.proofs.OnRoundTrip.Writable.{is_one_word}
use Rattle.ir_text.proofs.OnRoundTrip.Words.{digits_go_on, digits_of_decimal, id_is, value_of_decimal}

-- ---- what a test says of all operations

found_passes : (p q : Op → Bool) (os : List Op) (o : Op) → find q os ≡ Some o → list_all p os ≡ true → p o ≡ true
found_passes p q [] o e all = absurd (cc)
found_passes p q (x ∷ xs) o e all =
    let parts = and_parts (p x) (list_all p xs) all in
    one_of (q x) (find q xs) e parts.0 (λ later. found_passes p q xs o later parts.1)
  where
    one_of : (b : Bool) (more : Option Op) → cond b (Some x) more ≡ Some o → p x ≡ true → (more ≡ Some o → p o ≡ true) → p o ≡ true
    one_of true more e here later = let same : x ≡ o = cc in subst (λ y. p y ≡ true) same here
    one_of false more e here later = later e

pub every_op : (p : Op → Bool) → list_all p ALL ≡ true → (o : Op) → p o ≡ true
every_op p all o = found_passes p (λ x. bytes_eq (name_of x) (name_of o)) ALL o (named_by_name o) all

pub word_is_one : (o : Op) → is_one_word (name_of o) ≡ true
word_is_one = every_op (λ o. is_one_word (name_of o)) refl

word_bytes : (o : Op) → list_all is_word_byte (name_of o) ≡ true
word_bytes = every_op (λ o. list_all is_word_byte (name_of o)) refl

no_dots : (o : Op) → list_all is_no_dot (name_of o) ≡ true
no_dots = every_op (λ o. list_all is_no_dot (name_of o)) refl

-- the kind of an operation's name by itself
pub name_kind : (o : Op) → ir_plain_kind (name_of o) ≡ kinds.NAME
unfolding ir_word_kind
name_kind o = eqb-true (ir_plain_kind (name_of o)) kinds.NAME (every_op (λ o. ir_plain_kind (name_of o) == kinds.NAME) refl o)

-- ---- the parts of `OP.ID`

abbrev pub op_id : Op → ℕ → List ℕ
op_id o n = name_of o ++ (46 ∷ decimal n)

byte_goes : (x : Bool) (y : Bool) (z : Bool) → x ≡ true → ((x || y) || z) ≡ true
byte_goes true y z h = refl
byte_goes false y z h = absurd (cc)

bytes_go_on : (word more : List ℕ) → list_all is_word_byte word ≡ true → name_len (word ++ more) ≡ length word + name_len more
bytes_go_on [] more all = omega arith
bytes_go_on (c ∷ cs) more all =
    let parts = and_parts (is_word_byte c) (list_all is_word_byte cs) all in
    let rest = bytes_go_on cs more parts.1 in
    cond-true (word_goes_on c (slice_index (cs ++ more) 0)) (suc (name_len (cs ++ more))) 0 (byte_goes (is_word_byte c) (c == 46) _ parts.0) ∙ omega (arith, rest)

up_to_dot : (word more : List ℕ) → list_all is_no_dot word ≡ true → prefix_len is_no_dot (word ++ (46 ∷ more)) ≡ length word
up_to_dot [] more all = refl
up_to_dot (c ∷ cs) more all =
    let parts = and_parts (is_no_dot c) (list_all is_no_dot cs) all in
    let rest = up_to_dot cs more parts.1 in
    cond-true (is_no_dot c) (1 + prefix_len is_no_dot (cs ++ (46 ∷ more))) 0 parts.0 ∙ omega (arith, rest)

prefix_taken : (a b : List ℕ) → take (length a) (a ++ b) ≡ a
prefix_taken [] b = refl
prefix_taken (x ∷ xs) b = ap (λ t. x ∷ t) (prefix_taken xs b)

behind_dot : (a b : List ℕ) → drop (suc (length a)) (a ++ (46 ∷ b)) ≡ b
behind_dot [] b = refl
behind_dot (x ∷ xs) b = behind_dot xs b

pub op_part_is : (o : Op) (n : ℕ) → op_part (op_id o n) ≡ name_of o
op_part_is o n = ap (λ k. take k (op_id o n)) (up_to_dot (name_of o) (decimal n) (no_dots o)) ∙ prefix_taken (name_of o) (46 ∷ decimal n)

pub id_part_is : (o : Op) (n : ℕ) → id_part (op_id o n) ≡ decimal n
id_part_is o n =
    let up = up_to_dot (name_of o) (decimal n) (no_dots o) in
    let past : prefix_len is_no_dot (op_id o n) + 1 ≡ suc (length (name_of o)) = omega (arith, up) in
    ap (λ k. drop k (op_id o n)) past ∙ behind_dot (name_of o) (decimal n)

pub id_said_is : (o : Op) (n : ℕ) → n < 2 ^ 32 → id_said (op_id o n) ≡ n
id_said_is o n h =
    let enough : n < 2 ^ 128 = omega arith in
    let value : digits_value 10 (id_part (op_id o n)) ≡ n = ap (digits_value 10) (id_part_is o n) ∙ value_of_decimal n enough in
    ap (λ v. min (min v (2 ^ 128 - 1)) (2 ^ 32 - 1)) value ∙ omega arith

-- ---- `OP.ID` as a token

word_with_id : (word digits : List ℕ) → is_one_word word ≡ true → list_all is_word_byte word ≡ true → name_len digits ≡ length digits → is_one_word (word ++ (46 ∷ digits)) ≡ true
word_with_id [] digits h all len = absurd (cc)
word_with_id (c ∷ cs) digits h all len =
    let parts = and_parts (begins_word c) (name_len (c ∷ cs) == suc (length cs)) h in
    let goes = bytes_go_on (c ∷ cs) (46 ∷ digits) all in
    let both = length-append cs (46 ∷ digits) in
    let same : name_len ((c ∷ cs) ++ (46 ∷ digits)) ≡ suc (length (cs ++ (46 ∷ digits))) = omega (arith, goes, both, len) in
    and_from _ _ parts.0 (eq-eqb _ _ same)

decimal_goes_on : (n : ℕ) → n < 2 ^ 32 → name_len (decimal n) ≡ length (decimal n)
decimal_goes_on n h =
    let enough : n < 2 ^ 128 = omega arith in
    let are = digits_of_decimal n enough in
    digits_go_on (decimal n) (subst (λ ds. list_all is_ascii_digit ds ≡ true) (sym are.is) (and_from _ _ are.digit are.all))

pub op_id_word : (o : Op) (n : ℕ) → n < 2 ^ 32 → is_one_word (op_id o n) ≡ true
op_id_word o n h = word_with_id (name_of o) (decimal n) (word_is_one o) (word_bytes o) (decimal_goes_on n h)

word_kind : (word : List ℕ) → is_one_word word ≡ true → ir_plain_kind word ≡ ir_word_kind word
word_kind [] h = absurd (cc)
word_kind (c ∷ cs) h = cond-true (begins_word c) _ _ (and_parts (begins_word c) (name_len (c ∷ cs) == suc (length cs)) h).0

pub op_id_kind : (o : Op) (n : ℕ) → n < 2 ^ 32 → ir_plain_kind (op_id o n) ≡ kinds.OPID
unfolding ir_word_kind
op_id_kind o n h =
    let op : is_some (op_named (op_part (op_id o n))) ≡ true = ap (λ w. is_some (op_named w)) (op_part_is o n) ∙ ap is_some (named_by_name o) in
    let id : is_id (id_part (op_id o n)) ≡ true = ap is_id (id_part_is o n) ∙ id_is n h in
    word_kind (op_id o n) (op_id_word o n h) ∙ cond-true (is_op_id (op_id o n)) _ _ (and_from _ _ op id)

-- different ids make different names
pub ids_same : (o p : Op) (m n : ℕ) → m < 2 ^ 32 → n < 2 ^ 32 → op_id o m ≡ op_id p n → m ≡ n
ids_same o p m n h k e =
    decimal_injective m n (omega arith) (omega arith) (sym (id_part_is o m) ∙ ap id_part e ∙ id_part_is p n)
