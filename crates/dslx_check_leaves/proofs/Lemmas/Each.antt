-- Parts one after another.
use Rattle.std.proofs.Common.{◌≡◌, ◌++◌, ◌∙◌, ◌<◌, ◌≤◌, ◌+◌, ℕ, zero, suc, List, [], ◌∷◌, Option, map, length, take, get_or, append_assoc, arith, refl, sym, ap, subst}
use Rattle.base.specs.Lists.Prefix.{IsPrefix}
use Rattle.xb_span.specs.declared.span.Span.{Span}
use Rattle.dslx_meaning.specs.declared.ty.DslxType.{DslxType}
use Rattle.dslx_meaning.specs.Rules.TypeEnvs.{Instance, Judgement, TypeEnv, reached_of_all}
use Rattle.dslx_check_rules.specs.declared.table.row.TypeRow.{TypeRow}
use Rattle.dslx_check_rules.specs.Interned.{ItemNames}
use Rattle.dslx_check_facts.specs.declared.facts.Facts.{Facts}
use Rattle.dslx_check_facts.specs.declared.type_env.TypeEnv.{TypeEnv as CodeEnv}
use Rattle.dslx_check_facts.specs.Walks.{WalkShown}
use Rattle.dslx_check_rules.specs.declared.typing.Typing.{Typing}
use Rattle.dslx_check_rules.specs.declared.nodes.arrays.Element.{Element}
use Rattle.dslx_check_rules.specs.declared.nodes.arrays.Element.TheVariants as element
use Rattle.dslx_check_rules.specs.declared.nodes.parts.Spanned.{Spanned}
use Rattle.dslx_check_rules.specs.Nodes.Parts.{Pairs, FromAll, IsPlaced, Placed}
use Rattle.dslx_check_rules.specs.Nodes.Nodes.Arrays.{ElementSeen, FromElements, IsElement, Untyped, Value, element_seen}
use Rattle.dslx_check_rules.specs.Nodes.Nodes.Lists.{element_of}
use Rattle.dslx_check_leaves.specs.Walked.{WalksTo, TypesPart, TypesOne, TypesEach, all_reached, element_reached, reached_there}
use Rattle.dslx_check_leaves.proofs.Lemmas.Walking.{AddsTypes, Both, both, halved, nothing_reached, part_stays, reached_both, same_types, with_rows}

-- none
pub none_yet : {f : Facts} {s : CodeEnv} {w : WalkShown} {C D : Type 0} {is : ItemNames → List TypeRow → List TypeRow → C → D → Type 0} {reached : D → List Instance}
    → WalksTo f s s w w (TypesEach is reached [] (λ env. []))
none_yet {f} {s} {w} {C} {D} {is} {reached} = nothing_reached (TypesEach is reached [] (λ env. [])) (same_types w.rows) (λ names later env distinct p. record { parts = tt; reaches = refl })

pub each_then : {C D : Type 0} (is : C → D → Type 0) (cs : List C) (ds : List D) (c : C) (d : D) → Pairs is cs ds → is c d → Pairs is (cs ++ c ∷ []) (ds ++ d ∷ [])
each_then is [] [] c d h i = (i, tt)
each_then is [] (y ∷ ds) c d h i = absurd h
each_then is (x ∷ cs) [] c d h i = absurd h
each_then is (x ∷ cs) (y ∷ ds) c d h i = (h.0, each_then is cs ds c d h.1 i)

pub each_weaker : {C D : Type 0} (is js : C → D → Type 0) (cs : List C) (ds : List D) → ((c : C) (d : D) → is c d → js c d) → Pairs is cs ds → Pairs js cs ds
each_weaker is js [] [] w h = tt
each_weaker is js [] (y ∷ ds) w h = absurd h
each_weaker is js (x ∷ cs) [] w h = absurd h
each_weaker is js (x ∷ cs) (y ∷ ds) w h = (w x y h.0, each_weaker is js cs ds w h.1)

pub append_nil : {A : Type 0} (ys : List A) → ys ++ [] ≡ ys
append_nil [] = refl
append_nil (y ∷ ys) = ap (λ zs. y ∷ zs) (append_nil ys)

pub reached_then : {D : Type 0} (reached : D → List Instance) (ds : List D) (d : D) → all_reached reached (ds ++ d ∷ []) ≡ all_reached reached ds ++ reached d
reached_then reached [] d = append_nil (reached d)
reached_then reached (y ∷ ds) d = ap (λ ys. reached y ++ ys) (reached_then reached ds d) ∙ sym (append_assoc (reached y) (all_reached reached ds) (reached d))

-- one more
pub one_more : {f : Facts} {s0 s1 s2 : CodeEnv} {w0 w1 w2 : WalkShown} {C D : Type 0} {is : ItemNames → List TypeRow → List TypeRow → C → D → Type 0} {reached : D → List Instance}
    {cs : List C} {ds : TypeEnv → List D} {c : C} {d : TypeEnv → D}
    → ((names : ItemNames) (rows longer later : List TypeRow) (x : C) (y : D) → IsPrefix rows longer → is names rows later x y → is names longer later x y)
    → WalksTo f s0 s1 w0 w1 (TypesEach is reached cs ds) → WalksTo f s1 s2 w1 w2 (TypesOne is reached c d)
    → WalksTo f s0 s2 w0 w2 (TypesEach is reached (cs ++ c ∷ []) (λ env. ds env ++ d env ∷ []))
one_more {f} {s0} {s1} {s2} {w0} {w1} {w2} {C} {D} {is} {reached} {cs} {ds} {c} {d} stays g k =
    halved (Both (TypesEach is reached cs ds) (TypesOne is reached c d) w1.rows) (TypesEach is reached (cs ++ c ∷ []) (λ env. ds env ++ d env ∷ []))
    (both (TypesEach is reached cs ds) (TypesOne is reached c d) g k) (same_types w2.rows)
    (λ names later more env distinct p t. record {
      parts = each_then (is names w2.rows later.rows) cs (ds env) c (d env)
          (each_weaker (is names w1.rows later.rows) (is names w2.rows later.rows) cs (ds env) (λ x y. stays names w1.rows w2.rows later.rows x y t.grows) t.first.parts) t.second.part;
      reaches = reached_both names later.met more t.front t.rest (all_reached reached (ds env)) (reached (d env)) t.joined t.first.reaches t.second.reaches ∙ sym (reached_then reached (ds env) (d env));
    })

-- a part beside its span
pub at_place : {f : Facts} {s0 s1 : CodeEnv} {w0 w1 : WalkShown} {j : Typing} {J : TypeEnv → Judgement} (span : Span) → WalksTo f s0 s1 w0 w1 (TypesPart j J)
    → WalksTo f s0 s1 w0 w1 (TypesOne IsPlaced reached_there (record { span = span; typing = j }) (λ env. record { span = span; judgement = J env }))
at_place {f} {s0} {s1} {w0} {w1} {j} {J} span g =
    halved (TypesPart j J) (TypesOne IsPlaced reached_there (record { span = span; typing = j }) (λ env. record { span = span; judgement = J env })) g (same_types w1.rows)
    (λ names later more env distinct p t. record { part = record { span = refl; part = t.part }; reaches = t.reaches })

pub placed_stays : (names : ItemNames) (rows longer later : List TypeRow) (p : Spanned) (x : Placed) → IsPrefix rows longer → IsPlaced names rows later p x → IsPlaced names longer later p x
placed_stays names rows longer later p x h t = record { span = t.span; part = part_stays h t.part }

pub element_stays : (names : ItemNames) (rows longer later : List TypeRow) (e : Element) (x : ElementSeen) → IsPrefix rows longer → IsElement names rows later e x → IsElement names longer later e x
element_stays names rows longer later (element.Untyped s n) (Untyped t k) h i = i
element_stays names rows longer later (element.Untyped s n) (Value x) h i = absurd i
element_stays names rows longer later (element.Value p) (Untyped t k) h i = absurd i
element_stays names rows longer later (element.Value p) (Value x) h i = placed_stays names rows longer later p x h i

-- a node of several parts
pub of_all : {f : Facts} {s0 s1 : CodeEnv} {w0 w1 : WalkShown} {rows : List TypeRow} {all : List Spanned} {j : Typing} {X : TypeEnv → List Placed} {half : List Placed → Judgement}
    → WalksTo f s0 s1 w0 w1 (TypesEach IsPlaced reached_there all X) → AddsTypes w1.rows rows → FromAll half w1.rows rows all j → ((xs : List Placed) → (half xs).reached ≡ all_reached reached_there xs)
    → WalksTo f s0 s1 w0 (with_rows w1 rows) (TypesPart j (λ env. half (X env)))
of_all {f} {s0} {s1} {w0} {w1} {rows} {all} {j} {X} {half} g p h r = halved (TypesEach IsPlaced reached_there all X) (TypesPart j (λ env. half (X env))) g p
    (λ names later more env distinct q t. record { part = h.typed names later.rows distinct q (X env) t.parts; reaches = t.reaches ∙ sym (r (X env)) })

-- an array of a type that is written
pub of_elements : {f : Facts} {s0 s1 s2 : CodeEnv} {w0 w1 w2 : WalkShown} {a j : Typing} {all : List Element} {A : TypeEnv → Judgement} {X : TypeEnv → List ElementSeen} {half : Judgement → List ElementSeen → Judgement}
    → WalksTo f s0 s1 w0 w1 (TypesPart a A) → WalksTo f s1 s2 w1 w2 (TypesEach IsElement element_reached all X) → FromElements half w2.rows a all j
    → ((x : Judgement) (xs : List ElementSeen) → (half x xs).reached ≡ x.reached ++ all_reached element_reached xs)
    → WalksTo f s0 s2 w0 w2 (TypesPart j (λ env. half (A env) (X env)))
of_elements {f} {s0} {s1} {s2} {w0} {w1} {w2} {a} {j} {all} {A} {X} {half} g k h r =
    halved (Both (TypesPart a A) (TypesEach IsElement element_reached all X) w1.rows) (TypesPart j (λ env. half (A env) (X env))) (both (TypesPart a A) (TypesEach IsElement element_reached all X) g k) (same_types w2.rows)
    (λ names later more env distinct q t. record {
      part = h.typed names later.rows distinct q (A env) (X env) (part_stays t.grows t.first.part) t.second.parts;
      reaches = reached_both names later.met more t.front t.rest (A env).reached (all_reached element_reached (X env)) t.joined t.first.reaches t.second.reaches ∙ sym (r (A env) (X env));
    })

pub elements_reach : (wanted : Option DslxType) (xs : List ElementSeen) → reached_of_all (map (element_seen wanted) xs) ≡ all_reached element_reached xs
elements_reach wanted [] = refl
elements_reach wanted (Untyped s n ∷ xs) = elements_reach wanted xs
elements_reach wanted (Value x ∷ xs) = ap (λ ys. x.judgement.reached ++ ys) (elements_reach wanted xs)

-- parts where () may not stand reach what they reached
pub inner_reach : (xs : List Placed) → reached_of_all (map element_of xs) ≡ all_reached reached_there xs
inner_reach [] = refl
inner_reach (x ∷ xs) = ap (λ ys. x.judgement.reached ++ ys) (inner_reach xs)

-- the same by another name
pub each_by : {f : Facts} {s0 s1 : CodeEnv} {w0 w1 : WalkShown} {C D : Type 0} {is : ItemNames → List TypeRow → List TypeRow → C → D → Type 0} {reached : D → List Instance} {cs : List C}
    {X Y : TypeEnv → List D} → X ≡ Y → WalksTo f s0 s1 w0 w1 (TypesEach is reached cs X) → WalksTo f s0 s1 w0 w1 (TypesEach is reached cs Y)
each_by {f} {s0} {s1} {w0} {w1} {C} {D} {is} {reached} {cs} {X} {Y} e g = subst (λ (Z : TypeEnv → List D). WalksTo f s0 s1 w0 w1 (TypesEach is reached cs Z)) e g

-- the next one of a list
pub take_next : {A B : Type 0} (g : A → B) (xs : List A) (n : ℕ) (x : A) → n < length xs → x ≡ get_or xs n x → map g (take n xs) ++ g x ∷ [] ≡ map g (take (suc n) xs)
take_next g [] n x h e = absurd (omega arith)
take_next g (y ∷ xs) zero x h e = ap (λ z. g z ∷ []) e
take_next g (y ∷ xs) (suc n) x h e = ap (λ zs. g y ∷ zs) (take_next g xs n x (omega arith) e)

pub next_of : {A D : Type 0} (g : TypeEnv → A → D) (xs : List A) (n : ℕ) (x : A) → n < length xs → x ≡ get_or xs n x
    → ◌≡◌ {A = TypeEnv → List D} (λ env. map (g env) (take n xs) ++ g env x ∷ []) (λ env. map (g env) (take (n + 1) xs))
next_of g xs n x h e = let on : suc n ≡ n + 1 = omega arith in λ i env. (take_next (g env) xs n x h e ∙ ap (λ k. map (g env) (take k xs)) on) i

pub take_all : {A : Type 0} (xs : List A) (n : ℕ) → length xs ≤ n → take n xs ≡ xs
take_all [] zero h = refl
take_all [] (suc n) h = refl
take_all (x ∷ xs) zero h = absurd (omega arith)
take_all (x ∷ xs) (suc n) h = ap (λ ys. x ∷ ys) (take_all xs n (omega arith))

pub all_of : {A D : Type 0} (g : TypeEnv → A → D) (xs : List A) (n : ℕ) → length xs ≤ n → ◌≡◌ {A = TypeEnv → List D} (λ env. map (g env) (take n xs)) (λ env. map (g env) xs)
all_of g xs n h = λ i env. map (g env) (take_all xs n h i)
