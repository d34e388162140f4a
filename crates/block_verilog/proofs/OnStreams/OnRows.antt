-- Rows of a module as a block's: one more, the last one, and those since a reset.
use Rattle.std.proofs.Common.{◌≡◌, suc, Bool, true, false, List, [], ◌∷◌, ◌++◌, length, map, refl, sym, ap, ap₂, ◌∙◌, subst}
use Rattle.std.specs.Prelude.{◌||◌, if◌then◌else◌}
use Rattle.std.specs.List.{list_any, AllByRecursion}
use Rattle.std.proofs.lemmas.List.{append_assoc}
use Rattle.ir_tree.specs.declared.package.Channel.{Channel}
use Rattle.vlog_tree.specs.declared.module.VModule.{VModule}
use Rattle.vlog_tree.specs.declared.row.Outs.{Outs}
use Rattle.vlog_tree.specs.declared.row.Row.{Row}
use Rattle.vlog_tree.specs.Meaning.{IsNow, registers_next}
use Rattle.vlog_tree.specs.Rows.{Runs, start, cycle, given, outs_of}
use Rattle.vlog_tree.specs.Value.{Values}
use Rattle.block_stage.specs.Machine.Cycle.{Ports}
use Rattle.block_build.specs.Block.{Block}
use Rattle.block_build.specs.Rows.{State, InputRow, HasReset, state_after, after_row, since_reset}
use Rattle.block_verilog.specs.Outside.{input_row, row_ports}
use Rattle.block_verilog.specs.Streams.Streams.{SomeResets, rows_since}

-- ---- one row more

pub map_more : {A B : Type 0} (f : A → B) (xs : List A) (x : A) → map f (xs ++ x ∷ []) ≡ map f xs ++ f x ∷ []
map_more f [] x = refl
map_more f (y ∷ xs) x = ap (λ ys. f y ∷ ys) (map_more f xs x)

pub map_long : {A B : Type 0} (f : A → B) (xs : List A) → length (map f xs) ≡ length xs
map_long f [] = refl
map_long f (x ∷ xs) = ap suc (map_long f xs)

state_more : (block : Block) (state : State) (rows : List InputRow) (row : InputRow) → state_after block state (rows ++ row ∷ []) ≡ after_row block (state_after block state rows) row
state_more block state [] row = refl
state_more block state (r ∷ rows) row = state_more block (after_row block state r) rows row

pub state_next : (block : Block) (power : State) (channels : List Channel) (rows : List Row) (row : Row)
    → state_after block power (map (input_row channels) (rows ++ row ∷ [])) ≡ after_row block (state_after block power (map (input_row channels) rows)) (input_row channels row)
state_next block power channels rows row = ap (state_after block power) (map_more (input_row channels) rows row) ∙ state_more block power (map (input_row channels) rows) (input_row channels row)

-- ---- rows that reset

abbrev resets : Row → Bool
resets row = row.reset

any_more : (rows : List Row) (row : Row) → list_any resets (rows ++ row ∷ []) ≡ (list_any resets rows || row.reset)
any_more [] row = or_false row.reset
  where
    or_false : (b : Bool) → (b || false) ≡ b
    or_false true = refl
    or_false false = refl
any_more (r ∷ rows) row = ap (λ b. r.reset || b) (any_more rows row) ∙ assoc r.reset (list_any resets rows) row.reset
  where
    assoc : (a b x : Bool) → (a || (b || x)) ≡ ((a || b) || x)
    assoc true b x = refl
    assoc false b x = refl

pub resets_before : (rows : List Row) (row : Row) → SomeResets (rows ++ row ∷ []) → row.reset ≡ false → SomeResets rows
resets_before rows row h off = sym (or_false (list_any resets rows)) ∙ ap (λ b. list_any resets rows || b) (sym off) ∙ sym (any_more rows row) ∙ h
  where
    or_false : (b : Bool) → (b || false) ≡ b
    or_false true = refl
    or_false false = refl

pub resets_more : (rows : List Row) (row : Row) → SomeResets rows → SomeResets (rows ++ row ∷ [])
resets_more rows row h = any_more rows row ∙ ap (λ b. b || row.reset) h

any_alike : (channels : List Channel) (rows : List Row) → list_any (λ (r : InputRow). r.rst) (map (input_row channels) rows) ≡ list_any resets rows
any_alike channels [] = refl
any_alike channels (row ∷ rows) = ap (λ b. row.reset || b) (any_alike channels rows)

pub resets_alike : (channels : List Channel) (rows : List Row) → SomeResets rows → HasReset (map (input_row channels) rows)
resets_alike channels rows h = any_alike channels rows ∙ h

-- ---- those since

since_by : (channels : List Channel) (before rows : List Row) → since_reset (map (row_ports channels) before) (map (input_row channels) rows) ≡ map (row_ports channels) (rows_since before rows)
since_by channels before [] = refl
since_by channels before (row ∷ rows) = at row.reset (since_by channels [] rows) (since_by channels (before ++ row ∷ []) rows)
  where
    ports : Row → Ports
    ports = row_ports channels

    at : (b : Bool) → since_reset [] (map (input_row channels) rows) ≡ map ports (rows_since [] rows) → since_reset (map ports (before ++ row ∷ [])) (map (input_row channels) rows) ≡ map ports (rows_since (before ++ row ∷ []) rows)
        → since_reset (if b then [] else map ports before ++ ports row ∷ []) (map (input_row channels) rows) ≡ map ports (rows_since (if b then [] else before ++ row ∷ []) rows)
    at true anew on = anew
    at false anew on = ap (λ ps. since_reset ps (map (input_row channels) rows)) (sym (map_more ports before row)) ∙ on

pub since_alike : (channels : List Channel) (rows : List Row) → since_reset [] (map (input_row channels) rows) ≡ map (row_ports channels) (rows_since [] rows)
since_alike channels rows = since_by channels [] rows

pub since_long : (channels : List Channel) (rows : List Row) → length (since_reset [] (map (input_row channels) rows)) ≡ length (rows_since [] rows)
since_long channels rows = ap length (since_alike channels rows) ∙ map_long (row_ports channels) (rows_since [] rows)

each_more : {A : Type 0} (P : A → Type 0) (xs : List A) (x : A) → AllByRecursion P xs → P x → AllByRecursion P (xs ++ x ∷ [])
each_more P [] x h p = (p, tt)
each_more P (y ∷ xs) x h p = (h.0, each_more P xs x h.1 p)

pub each_since : (P : Row → Type 0) (before rows : List Row) → AllByRecursion P before → AllByRecursion P rows → AllByRecursion P (rows_since before rows)
each_since P before [] h g = h
each_since P before (row ∷ rows) h g = at row.reset (each_since P [] rows tt g.1) (each_since P (before ++ row ∷ []) rows (each_more P before row h g.0) g.1)
  where
    at : (b : Bool) → AllByRecursion P (rows_since [] rows) → AllByRecursion P (rows_since (before ++ row ∷ []) rows) → AllByRecursion P (rows_since (if b then [] else before ++ row ∷ []) rows)
    at true anew on = anew
    at false anew on = on

-- ---- the last row of a run

nil_is_no_more : {A : Type 0} (xs : List A) (x : A) → [] ≡ xs ++ x ∷ [] → ⊥
nil_is_no_more [] x e = absurd (cc)
nil_is_no_more (y ∷ xs) x e = absurd (cc)

last_alike : {A : Type 0} (xs ys : List A) (x y : A) → xs ++ x ∷ [] ≡ ys ++ y ∷ [] → (xs ≡ ys) × (x ≡ y)
last_alike [] [] x y e = (refl, cc)
last_alike [] (z ∷ ys) x y e = absurd (nil_is_no_more ys y (cc))
last_alike (z ∷ xs) [] x y e = absurd (nil_is_no_more xs x (let f : xs ++ x ∷ [] ≡ [] = cc in sym f))
last_alike (z ∷ xs) (u ∷ ys) x y e =
    let rest : xs ++ x ∷ [] ≡ ys ++ y ∷ [] = cc in
    let first : z ≡ u = cc in
    let both = last_alike xs ys x y rest in
    (ap₂ (λ a bs. a ∷ bs) first both.0, both.1)

pub record LastRow (m : VModule) (rows : List Row) (row : Row) (outs : List Outs) (now : Outs) (held : Values) : Type 0 where
  pub before : Values
  pub values : Values
  pub runs : Runs m rows outs before
  pub is_now : IsNow m before (given m row) values
  pub shown : now ≡ outs_of m values
  pub next : held ≡ registers_next m values before

last_of : (m : VModule) (all : List Row) (shown : List Outs) (held : Values) → Runs m all shown held → (rows : List Row) (row : Row) (outs : List Outs) (now : Outs) → all ≡ rows ++ row ∷ [] → shown ≡ outs ++ now ∷ [] → LastRow m rows row outs now held
last_of m _ _ _ start rows row outs now e f = absurd (nil_is_no_more rows row e)
last_of m _ _ _ (cycle rs os before values r run is_now) rows row outs now e f =
    let own = last_alike rs rows r row e in
    let other = last_alike os outs (outs_of m values) now f in
    record {
      before = before;
      values = values;
      runs = subst (λ xs. Runs m xs outs before) own.0 (subst (λ ys. Runs m rs ys before) other.0 run);
      is_now = subst (λ x. IsNow m before (given m x) values) own.1 is_now;
      shown = sym other.1;
      next = refl;
    }

pub last_row : (m : VModule) (rows : List Row) (row : Row) (outs : List Outs) (now : Outs) (held : Values) → Runs m (rows ++ row ∷ []) (outs ++ now ∷ []) held → LastRow m rows row outs now held
last_row m rows row outs now held run = last_of m (rows ++ row ∷ []) (outs ++ now ∷ []) held run rows row outs now refl refl

-- and the one before it
pub two_more : {A : Type 0} (xs : List A) (x y : A) → xs ++ x ∷ y ∷ [] ≡ (xs ++ x ∷ []) ++ y ∷ []
two_more xs x y = sym (append_assoc xs (x ∷ []) (y ∷ []))
