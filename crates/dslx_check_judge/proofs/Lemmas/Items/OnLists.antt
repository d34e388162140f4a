-- Walks over lists whose elements have names.
use Rattle.std.proofs.Common.{◌≡◌, ◌++◌, ◌∙◌, ◌<◌, ◌≤◌, ◌+◌, ℕ, List, [], ◌∷◌, Option, map, length, drop, take, get_or, append_assoc, refl, sym, ap, subst}
use Rattle.std.proofs.lemmas.List.{append-nil, map-append}
use Rattle.base.specs.Lists.Prefix.{IsPrefix}
use Rattle.xb_span.specs.declared.fault.Fault.{Fault}
use Rattle.dslx_meaning.specs.declared.ty.DslxType.{DslxType}
use Rattle.dslx_meaning.specs.declared.value.DslxValue.{DslxValue}
use Rattle.dslx_meaning.specs.Rules.ItemRules.{Found, and_found, found_in, nothing_found, only_faults}
use Rattle.dslx_meaning.specs.Rules.TypeEnvs.{GlobalEnv, Judgement, TypeEnv}
use Rattle.dslx_check_rules.specs.declared.faults.Faults.{Faults}
use Rattle.dslx_check_rules.specs.declared.table.row.TypeId.{TypeId}
use Rattle.dslx_check_rules.specs.declared.table.row.TypeRow.{TypeRow}
use Rattle.dslx_check_rules.specs.declared.typing.Typing.{Typing}
use Rattle.dslx_check_rules.specs.Interned.{ItemNames, type_if}
use Rattle.dslx_check_rules.specs.Seen.{seen}
use Rattle.dslx_check_facts.specs.declared.facts.Facts.{Facts}
use Rattle.dslx_check_facts.specs.declared.type_env.TypeEnv.{TypeEnv as CodeEnv}
use Rattle.dslx_check_facts.specs.Judged.{environment}
use Rattle.dslx_check_facts.specs.Known.{FactsHold, item_names}
use Rattle.dslx_check_facts.specs.Walks.{WalkShown}
use Rattle.dslx_check_facts.proofs.Lemmas.Judged.{row_stays_if}
use Rattle.dslx_check_rules.specs.Nodes.Parts.{Pairs}
use Rattle.dslx_check_declarations.proofs.Lemmas.Listed.{names_behind, take_all, take_next}
use Rattle.dslx_check_leaves.specs.Walked.{Claim, TypesPart, WalksTo}
use Rattle.dslx_check_leaves.proofs.Lemmas.Each.{each_then, each_weaker}
use Rattle.dslx_check_leaves.proofs.Lemmas.Walking.{Both, both, halved, nothing_reached, reached_both, same_types}
use Rattle.dslx_check_judge.specs.Items.Lists.{IsTypeAs, IsValueAs, OfType, TypesElement, TypesList, found_listed}

-- ---- what is found

and_found_assoc : (a b c : Found) → and_found (and_found a b) c ≡ and_found a (and_found b c)
and_found_assoc a b c = λ i. record { faults = append_assoc a.faults b.faults c.faults i; reached = append_assoc a.reached b.reached c.reached i }

pub and_nothing : (a : Found) → and_found a nothing_found ≡ a
and_nothing a = λ i. record { faults = append-nil a.faults i; reached = append-nil a.reached i }

-- with one element more
listed_with : {A : Type 0} (name : A → List ℕ) (taken : List (List ℕ) → A → List Fault) (part : A → Found) (before : List (List ℕ)) (xs : List A) (x : A)
    → found_listed name taken part before (xs ++ x ∷ []) ≡ and_found (found_listed name taken part before xs) (and_found (only_faults (taken (names_behind name before xs) x)) (part x))
listed_with name taken part before [] x = ap (and_found (only_faults (taken before x))) (and_nothing (part x))
listed_with name taken part before (y ∷ ys) x =
    let own = only_faults (taken before y) in
    let rest = found_listed name taken part (name y ∷ before) ys in
    let last = and_found (only_faults (taken (names_behind name before (y ∷ ys)) x)) (part x) in
    ap (λ l. and_found own (and_found (part y) l)) (listed_with name taken part (name y ∷ before) ys x)
    ∙ ap (and_found own) (sym (and_found_assoc (part y) rest last))
    ∙ sym (and_found_assoc own (and_found (part y) rest) last)

-- ---- claims

-- where more is said of what is known
pub with_facts : {f : Facts} {s0 s1 : CodeEnv} {w0 w1 : WalkShown} (P Q : Claim) → WalksTo f s0 s1 w0 w1 P
    → ((known : GlobalEnv) (later : WalkShown) (more : List ℕ) → FactsHold f later known → IsPrefix w1.rows later.rows → P (item_names f) w1.rows later more (environment f s0 known later)
    → Q (item_names f) w1.rows later more (environment f s0 known later))
    → WalksTo f s0 s1 w0 w1 Q
with_facts {f} {s0} {s1} {w0} {w1} P Q g h = record {
  grows = g.grows;
  sight = g.sight;
  holds = λ known later has agrees there none. h known later (drop (length w0.reached) w1.reached) agrees has.rows (g.holds known later has agrees there none);
}

-- a type that stays
pub type_stays : (names : ItemNames) (rows longer later : List TypeRow) (c : Option TypeId) (d : Option DslxType) → IsPrefix rows longer → IsTypeAs names rows later c d → IsTypeAs names longer later c d
type_stays names rows longer later c d p t = record { row = row_stays_if rows longer c p t.row; ty = t.ty }

pub value_stays : (names : ItemNames) (rows longer later : List TypeRow) (c d : Option DslxValue) → IsPrefix rows longer → IsValueAs names rows later c d → IsValueAs names longer later c d
value_stays names rows longer later c d p t = t

-- a written type as an element
pub typed_element : {f : Facts} {s0 s1 : CodeEnv} {w0 w1 : WalkShown} {j : Typing} {J : TypeEnv → Judgement} → WalksTo f s0 s1 w0 w1 (TypesPart j J)
    → WalksTo f s0 s1 w0 w1 (TypesElement IsTypeAs j.faults j.ty (λ env. found_in (J env)) (λ env. (J env).ty))
typed_element {f} {s0} {s1} {w0} {w1} {j} {J} g =
    halved (TypesPart j J) (TypesElement IsTypeAs j.faults j.ty (λ env. found_in (J env)) (λ env. (J env).ty)) g (same_types w1.rows)
    (λ names later more env distinct p t. record { part = record { row = t.part.row; ty = t.part.ty }; faults_are = t.part.faults; reaches = t.reaches })

-- ---- one element more

-- what a list is of: the names of its elements, what these break behind others, and what an element comes to
pub record Parts (A D : Type 0) : Type 0 where
  pub name : A → List ℕ
  pub taken : TypeEnv → List (List ℕ) → A → List Fault
  pub part : TypeEnv → A → Found
  pub value : TypeEnv → A → D

abbrev pub Relation : Type 0 → Type 0 → Type 1
Relation C D = ItemNames → List TypeRow → List TypeRow → C → D → Type 0

-- a list of these elements, and one of them
abbrev pub listed : {A C D : Type 0} → Parts A D → Relation C D → Faults → List C → List A → Claim
listed p is faults cs xs = TypesList is faults cs (λ env. found_listed p.name (p.taken env) (p.part env) [] xs) (λ env. map (p.value env) xs)

abbrev pub element : {A C D : Type 0} → Parts A D → Relation C D → Faults → C → A → Claim
element p is faults c x = TypesElement is faults c (λ env. p.part env x) (λ env. p.value env x)

abbrev pub Stays : {C D : Type 0} → Relation C D → Type 0
Stays {C} {D} is = (names : ItemNames) (rows longer later : List TypeRow) (c : C) (d : D) → IsPrefix rows longer → is names rows later c d → is names longer later c d

-- faults are those and these
abbrev pub Adds : Faults → Faults → Faults → Type 0
Adds a b all = (fs gs : List Fault) → a ≡ seen fs → b ≡ seen gs → all ≡ seen (fs ++ gs)

claim_next : {A C D : Type 0} (p : Parts A D) (is : Relation C D) → Stays is → {faults named own one now : Faults} {cs : List C} {c : C} (xs : List A) (x : A)
    {names : ItemNames} {rows longer : List TypeRow} {later : WalkShown} {front rest more : List ℕ} {env : TypeEnv}
    → IsPrefix rows longer → more ≡ front ++ rest → named ≡ seen (p.taken env (names_behind p.name [] xs) x) → Adds named own one → Adds faults one now
    → listed p is faults cs xs names rows later front env → element p is own c x names longer later rest env → listed p is now (cs ++ c ∷ []) (xs ++ x ∷ []) names longer later more env
claim_next p is stays {faults} {named} {own} {one} {now} {cs} {c} xs x {names} {rows} {longer} {later} {front} {rest} {more} {env} grows joined taken adds_one adds_all t u =
    let before = found_listed p.name (p.taken env) (p.part env) [] xs in
    let name_faults = p.taken env (names_behind p.name [] xs) x in
    let all = listed_with p.name (p.taken env) (p.part env) [] xs x in
    record {
      parts = subst (Pairs (is names longer later.rows) (cs ++ c ∷ [])) (sym (map-append (p.value env) xs (x ∷ [])))
          (each_then (is names longer later.rows) cs (map (p.value env) xs) c (p.value env x)
          (each_weaker (is names rows later.rows) (is names longer later.rows) cs (map (p.value env) xs) (λ a b. stays names rows longer later.rows a b grows) t.parts) u.part);
      faults_are = adds_all before.faults (name_faults ++ (p.part env x).faults) t.faults_are (adds_one name_faults (p.part env x).faults taken u.faults_are) ∙ ap (λ (l : Found). seen l.faults) (sym all);
      reaches = reached_both names later.met more front rest before.reached (p.part env x).reached joined t.reaches u.reaches ∙ ap (λ (l : Found). l.reached) (sym all);
    }

pub listed_next : {f : Facts} {s0 s1 s2 : CodeEnv} {w0 w1 w2 : WalkShown} {A C D : Type 0} (p : Parts A D) (is : Relation C D) → Stays is → {faults named own one now : Faults} {cs next : List C} {c : C}
    (xs : List A) (n : ℕ) (x : A) → n < length xs → x ≡ get_or xs n x → next ≡ cs ++ c ∷ []
    → ((known : GlobalEnv) (later : WalkShown) → FactsHold f later known → named ≡ seen (p.taken (environment f s0 known later) (names_behind p.name [] (take n xs)) x))
    → Adds named own one → Adds faults one now
    → WalksTo f s0 s1 w0 w1 (listed p is faults cs (take n xs)) → WalksTo f s1 s2 w1 w2 (element p is own c x) → WalksTo f s0 s2 w0 w2 (listed p is now next (take (n + 1) xs))
listed_next {f} {s0} {s1} {s2} {w0} {w1} {w2} {A} {C} {D} p is stays {faults} {named} {own} {one} {now} {cs} {next} {c} xs n x h e pushed taken adds_one adds_all g k =
    let P : Claim = listed p is faults cs (take n xs) in
    let Q : Claim = element p is own c x in
    subst (λ (l : List C). WalksTo f s0 s2 w0 w2 (listed p is now l (take (n + 1) xs))) (sym pushed)
    (subst (λ (ys : List A). WalksTo f s0 s2 w0 w2 (listed p is now (cs ++ c ∷ []) ys)) (sym (take_next xs n x h e))
    (with_facts (Both P Q w1.rows) (listed p is now (cs ++ c ∷ []) (take n xs ++ x ∷ [])) (both P Q g k)
    (λ known later more agrees q t. claim_next p is stays (take n xs) x t.grows t.joined (taken known later agrees) adds_one adds_all t.first t.second)))

-- the same by the type of a number
pub typed_next : {f : Facts} {s0 s1 s2 : CodeEnv} {w0 w1 w2 : WalkShown} {A C D : Type 0} (p : Option DslxType → Parts A D) (is : Relation C D) → Stays is → (ty : Option TypeId) {faults named own one now : Faults} {cs next : List C} {c : C}
    (xs : List A) (n : ℕ) (x : A) → n < length xs → x ≡ get_or xs n x → next ≡ cs ++ c ∷ []
    → ((t : Option DslxType) (env : TypeEnv) → named ≡ seen ((p t).taken env (names_behind (p t).name [] (take n xs)) x)) → Adds named own one → Adds faults one now
    → WalksTo f s0 s1 w0 w1 (OfType w0.rows ty (λ t. listed (p t) is faults cs (take n xs))) → WalksTo f s1 s2 w1 w2 (OfType w1.rows ty (λ t. element (p t) is own c x))
    → WalksTo f s0 s2 w0 w2 (OfType w0.rows ty (λ t. listed (p t) is now next (take (n + 1) xs)))
typed_next {f} {s0} {s1} {s2} {w0} {w1} {w2} {A} {C} {D} p is stays ty {faults} {named} {own} {one} {now} {cs} {next} {c} xs n x h e pushed taken adds_one adds_all g k =
    let P : Claim = OfType w0.rows ty (λ t. listed (p t) is faults cs (take n xs)) in
    let Q : Claim = OfType w1.rows ty (λ t. element (p t) is own c x) in
    subst (λ (l : List C). WalksTo f s0 s2 w0 w2 (OfType w0.rows ty (λ t. listed (p t) is now l (take (n + 1) xs)))) (sym pushed)
    (subst (λ (ys : List A). WalksTo f s0 s2 w0 w2 (OfType w0.rows ty (λ t. listed (p t) is now (cs ++ c ∷ []) ys))) (sym (take_next xs n x h e))
    (halved (Both P Q w1.rows) (OfType w0.rows ty (λ t. listed (p t) is now (cs ++ c ∷ []) (take n xs ++ x ∷ []))) (both P Q g k) (same_types w2.rows)
    (λ names later more env distinct q t row. claim_next (p (type_if names later.rows ty)) is stays (take n xs) x t.grows t.joined (taken (type_if names later.rows ty) env) adds_one adds_all (t.first row)
    (t.second (row_stays_if w0.rows w1.rows ty g.grows.tables.rows row)))))

-- ---- none and all

pub listed_none : {f : Facts} {s : CodeEnv} {w : WalkShown} {A C D : Type 0} (p : Parts A D) (is : Relation C D) {faults : Faults} {cs : List C} (xs : List A) → faults ≡ seen [] → cs ≡ []
    → WalksTo f s s w w (listed p is faults cs (take 0 xs))
listed_none {f} {s} {w} {A} {C} {D} p is {faults} {cs} xs none empty =
    subst (λ (l : List C). WalksTo f s s w w (listed p is faults l (take 0 xs))) (sym empty)
    (nothing_reached (listed p is faults [] (take 0 xs)) (same_types w.rows) (λ names later env distinct q. record { parts = tt; faults_are = none; reaches = refl }))

pub typed_none : {f : Facts} {s : CodeEnv} {w : WalkShown} {A C D : Type 0} (p : Option DslxType → Parts A D) (is : Relation C D) (ty : Option TypeId) {faults : Faults} {cs : List C} (xs : List A) → faults ≡ seen [] → cs ≡ []
    → WalksTo f s s w w (OfType w.rows ty (λ t. listed (p t) is faults cs (take 0 xs)))
typed_none {f} {s} {w} {A} {C} {D} p is ty {faults} {cs} xs none empty =
    subst (λ (l : List C). WalksTo f s s w w (OfType w.rows ty (λ t. listed (p t) is faults l (take 0 xs)))) (sym empty)
    (nothing_reached (OfType w.rows ty (λ t. listed (p t) is faults [] (take 0 xs))) (same_types w.rows) (λ names later env distinct q row. record { parts = tt; faults_are = none; reaches = refl }))

pub listed_all : {f : Facts} {s0 s1 : CodeEnv} {w0 w1 : WalkShown} {A C D : Type 0} (p : Parts A D) (is : Relation C D) {faults : Faults} {cs : List C} (xs : List A) (n : ℕ) {found : TypeEnv → Found}
    → length xs ≤ n → ((env : TypeEnv) → found env ≡ found_listed p.name (p.taken env) (p.part env) [] xs) → WalksTo f s0 s1 w0 w1 (listed p is faults cs (take n xs))
    → WalksTo f s0 s1 w0 w1 (TypesList is faults cs found (λ env. map (p.value env) xs))
listed_all {f} {s0} {s1} {w0} {w1} {A} {C} {D} p is {faults} {cs} xs n {found} h same g =
    let whole = subst (λ (ys : List A). WalksTo f s0 s1 w0 w1 (listed p is faults cs ys)) (take_all xs n h) g in
    halved (listed p is faults cs xs) (TypesList is faults cs found (λ env. map (p.value env) xs)) whole (same_types w1.rows)
    (λ names later more env distinct q t. record { parts = t.parts; faults_are = t.faults_are ∙ ap (λ (l : Found). seen l.faults) (sym (same env)); reaches = t.reaches ∙ ap (λ (l : Found). l.reached) (sym (same env)) })

pub typed_all : {f : Facts} {s0 s1 : CodeEnv} {w0 w1 : WalkShown} {A C D : Type 0} (p : Option DslxType → Parts A D) (is : Relation C D) (ty : Option TypeId) {faults : Faults} {cs : List C} (xs : List A) (n : ℕ) {found : Option DslxType → TypeEnv → Found}
    → length xs ≤ n → ((t : Option DslxType) (env : TypeEnv) → found t env ≡ found_listed (p t).name ((p t).taken env) ((p t).part env) [] xs)
    → WalksTo f s0 s1 w0 w1 (OfType w0.rows ty (λ t. listed (p t) is faults cs (take n xs)))
    → WalksTo f s0 s1 w0 w1 (OfType w0.rows ty (λ t. TypesList is faults cs (found t) (λ env. map ((p t).value env) xs)))
typed_all {f} {s0} {s1} {w0} {w1} {A} {C} {D} p is ty {faults} {cs} xs n {found} h same g =
    let whole = subst (λ (ys : List A). WalksTo f s0 s1 w0 w1 (OfType w0.rows ty (λ t. listed (p t) is faults cs ys))) (take_all xs n h) g in
    halved (OfType w0.rows ty (λ t. listed (p t) is faults cs xs)) (OfType w0.rows ty (λ t. TypesList is faults cs (found t) (λ env. map ((p t).value env) xs))) whole (same_types w1.rows)
    (λ names later more env distinct q t row. let x = t row in let y = type_if names later.rows ty in record {
      parts = x.parts;
      faults_are = x.faults_are ∙ ap (λ (l : Found). seen l.faults) (sym (same y env));
      reaches = x.reaches ∙ ap (λ (l : Found). l.reached) (sym (same y env));
    })
