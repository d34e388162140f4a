-- Members of enums.
use Rattle.std.proofs.Common.{◌≡◌, ◌∙◌, ◌&&◌, ◌++◌, ℕ, Bool, List, [], ◌∷◌, Option, Some, None, is_some, refl, sym, ap}
use Rattle.std.specs.Prelude.{if◌then◌else◌}
use Rattle.base.specs.Lists.Prefix.{IsPrefix}
use Rattle.xb_span.specs.declared.fault.Fault.{Fault}
use Rattle.dslx_tree.specs.declared.expr.Expr.{Expr, out-Expr}
use Rattle.dslx_tree.specs.declared.item.Member.{Member}
use Rattle.dslx_meaning.specs.Lists.{and_then}
use Rattle.dslx_meaning.specs.Meaning.{denotation}
use Rattle.dslx_meaning.specs.declared.ty.DslxType.{DslxType}
use Rattle.dslx_meaning.specs.declared.value.DslxValue.{DslxValue}
use Rattle.dslx_meaning.specs.declared.value.UntypedLiteral.{UntypedLiteral}
use Rattle.dslx_meaning.specs.Rules.AggregateRules.{range_faults, wanted_faults}
use Rattle.dslx_meaning.specs.Rules.ConstantRules.{ConstantSeen, constant_of, is_empty}
use Rattle.dslx_meaning.specs.Rules.ItemRules.{ConstantFound, and_found, member_constant, members_found, only_faults}
use Rattle.dslx_meaning.specs.Rules.NameRules.{listed_name}
use Rattle.dslx_meaning.specs.Rules.NodeRules.{expr_pair}
use Rattle.dslx_meaning.specs.Rules.TypeEnvs.{TypeEnv, ExprPair, span_of, untyped_of}
use Rattle.dslx_check_rules.specs.declared.faults.Faults.{Faults}
use Rattle.dslx_check_rules.specs.declared.table.row.TypeId.{TypeId}
use Rattle.dslx_check_rules.specs.declared.table.row.TypeRow.{TypeRow}
use Rattle.dslx_check_rules.specs.Interned.{AreDistinct, HasRowIf, ItemNames, type_if}
use Rattle.dslx_check_rules.specs.Seen.{seen}
use Rattle.dslx_check_facts.specs.declared.facts.Facts.{Facts}
use Rattle.dslx_check_facts.specs.declared.type_env.TypeEnv.{TypeEnv as CodeEnv}
use Rattle.dslx_check_facts.specs.Walks.{WalkShown}
use Rattle.dslx_check_facts.proofs.Lemmas.Judged.{row_stays_if}
use Rattle.dslx_check_rules.specs.declared.nodes.parts.ConstantTyping.{ConstantTyping}
use Rattle.dslx_check_leaves.specs.Walked.{TypesConstant, WalksTo}
use Rattle.dslx_check_leaves.proofs.Lemmas.Walking.{halved, nothing_reached, same_types}
use Rattle.dslx_check_judge.specs.Items.Inner.Kinds.{constant_of_base, number_of_base}
use Rattle.dslx_check_judge.specs.Items.Lists.{IsValueAs, OfType, TypesElement, found_listed}
use Rattle.dslx_check_judge.proofs.Lemmas.Items.OnLists.{Adds, Parts}
use Rattle.dslx_check_judge.proofs.Lemmas.Items.OnTrees.{expr_is}

-- ---- the list

abbrev pub member_name : Member → List ℕ
member_name x = x.name.name

abbrev pub members : Option DslxType → Parts Member (Option DslxValue)
members t = record {
  name = member_name;
  taken = λ env before x. listed_name before x.name;
  part = λ env x. (member_constant env t x).found;
  value = λ env x. (member_constant env t x).value;
}

pub members_are : (t : Option DslxType) (env : TypeEnv) (before : List (List ℕ)) (xs : List Member)
    → members_found env t before xs ≡ found_listed (members t).name ((members t).taken env) ((members t).part env) before xs
members_are t env before [] = refl
members_are t env before (x ∷ xs) = ap (λ l. and_found (only_faults (listed_name before x.name)) (and_found (member_constant env t x).found l)) (members_are t env (x.name.name ∷ before) xs)

-- ---- one member, by what its value is

abbrev member_by : TypeEnv → Option DslxType → ExprPair → Option UntypedLiteral → ConstantFound
member_by context base pair None =
    let c = constant_of context pair in
    let wrong = wanted_faults (span_of pair) base c.judgement.ty in
    record { found = record { faults = c.judgement.faults ++ wrong; reached = c.judgement.reached }; value = and_then base (λ t. if is_empty wrong then c.value else None) }
member_by context base pair (Some number) = record { found = only_faults (range_faults (span_of pair) base number); value = number_of_base base number }

member_is : (context : TypeEnv) (base : Option DslxType) (x : Member) → member_constant context base x ≡ member_by context base (expr_pair x.value) (untyped_of (expr_pair x.value))
member_is context base x = refl

-- a pair of an expression is of the expression
pub of_expr : (context : TypeEnv) (base : Option DslxType) (x : Member) (o : Option UntypedLiteral) → o ≡ (denotation x.value).bare
    → member_by context base (x.value, (expr_pair x.value).1) o ≡ member_constant context base x
of_expr context base x o e =
    (λ i. member_by context base (expr_is x.value i) (e i)) ∙ same ∙ sym (member_is context base x)
  where
    same : member_by context base (expr_pair x.value) (denotation x.value).bare ≡ member_by context base (expr_pair x.value) (untyped_of (expr_pair x.value))
    same = ap (λ (y : Expr). member_by context base (expr_pair x.value) (denotation y).bare) (λ i. (expr_is x.value i).0)

-- a number without a type
pub number_walked : {f : Facts} {s : CodeEnv} {w : WalkShown} (base : Option TypeId) (x : Member) (number : UntypedLiteral) {faults : Faults} {value : Option DslxValue} → Some number ≡ (denotation x.value).bare
    → ((names : ItemNames) (later : List TypeRow) → IsPrefix w.rows later → HasRowIf w.rows base → (faults ≡ seen (range_faults (out-Expr x.value).span (type_if names later base) number)) × (value ≡ number_of_base (type_if names later base) number))
    → WalksTo f s s w w (OfType w.rows base (λ t. TypesElement IsValueAs faults value (λ context. (member_constant context t x).found) (λ context. (member_constant context t x).value)))
number_walked {f} {s} {w} base x number {faults} {value} bare is =
    nothing_reached (OfType w.rows base (λ t. TypesElement IsValueAs faults value (λ context. (member_constant context t x).found) (λ context. (member_constant context t x).value))) (same_types w.rows)
    (λ names later env distinct p row.
    let t = type_if names later.rows base in
    let same = of_expr env t x (Some number) bare in
    let own = is names later.rows p row in
    record {
      part = own.1 ∙ ap (λ (c : ConstantFound). c.value) same;
      faults_are = own.0 ∙ ap (λ (c : ConstantFound). seen c.found.faults) same;
      reaches = ap (λ (c : ConstantFound). c.found.reached) same;
    })

abbrev member_with : TypeEnv → Option DslxType → Member → ExprPair → ConstantFound
member_with context base x pair =
    let c = constant_of context pair in
    let wrong = wanted_faults (out-Expr x.value).span base c.judgement.ty in
    record { found = record { faults = c.judgement.faults ++ wrong; reached = c.judgement.reached }; value = and_then base (λ t. if is_empty wrong then c.value else None) }

constant_is : (context : TypeEnv) (base : Option DslxType) (x : Member) → None ≡ (denotation x.value).bare → constant_of_base context base x.value ≡ member_constant context base x
constant_is context base x bare = (λ i. member_with context base x (sym (expr_is x.value) i)) ∙ of_expr context base x None bare

-- and anything else
pub other_walked : {f : Facts} {s0 s1 : CodeEnv} {w0 w1 : WalkShown} (base : Option TypeId) (x : Member) {faults : Faults} {value : Option DslxValue} → None ≡ (denotation x.value).bare
    → WalksTo f s0 s1 w0 w1 (OfType w0.rows base (λ t. TypesElement IsValueAs faults value (λ context. (constant_of_base context t x.value).found) (λ context. (constant_of_base context t x.value).value)))
    → WalksTo f s0 s1 w0 w1 (OfType w0.rows base (λ t. TypesElement IsValueAs faults value (λ context. (member_constant context t x).found) (λ context. (member_constant context t x).value)))
other_walked {f} {s0} {s1} {w0} {w1} base x {faults} {value} bare g =
    halved (OfType w0.rows base (λ t. TypesElement IsValueAs faults value (λ context. (constant_of_base context t x.value).found) (λ context. (constant_of_base context t x.value).value)))
    (OfType w0.rows base (λ t. TypesElement IsValueAs faults value (λ context. (member_constant context t x).found) (λ context. (member_constant context t x).value))) g (same_types w1.rows)
    (λ names later more env distinct p t row.
    let own = t row in
    let same : constant_of_base env (type_if names later.rows base) x.value ≡ member_constant env (type_if names later.rows base) x = constant_is env (type_if names later.rows base) x bare in
    record {
      part = own.part ∙ ap (λ (c : ConstantFound). c.value) same;
      faults_are = own.faults_are ∙ ap (λ (c : ConstantFound). seen c.found.faults) same;
      reaches = own.reaches ∙ ap (λ (c : ConstantFound). c.found.reached) same;
    })

-- ---- a constant

-- what is so where the base is a type and nothing is wrong
pub value_by : (base : Option DslxType) (wrong : List Fault) (value found : Option DslxValue) {there empty fine : Bool} → there ≡ is_some base → empty ≡ is_empty wrong → fine ≡ (there && empty) → value ≡ found
    → (if fine then value else None) ≡ and_then base (λ t. if is_empty wrong then found else None)
value_by None wrong value found {there} {empty} {fine} a b e v = λ i. if (e ∙ ap (λ c. c && empty) a) i then v i else None
value_by (Some t) wrong value found {there} {empty} {fine} a b e v = λ i. if (e ∙ (λ j. a j && b j)) i then v i else None

pub some_type : (names : ItemNames) (rows : List TypeRow) (t : Option TypeId) → is_some t ≡ is_some (type_if names rows t)
some_type names rows None = refl
some_type names rows (Some t) = refl

pub constant_member : {f : Facts} {s0 s1 : CodeEnv} {w0 w1 : WalkShown} (base : Option TypeId) (e : Expr) {c : ConstantTyping} {wrong faults : Faults} {there empty fine : Bool} {value : Option DslxValue}
    → WalksTo f s0 s1 w0 w1 (TypesConstant c (λ env. constant_of env (expr_pair e)))
    → ((names : ItemNames) (later : List TypeRow) → AreDistinct names → IsPrefix w1.rows later → HasRowIf w1.rows base → HasRowIf w1.rows c.typing.ty
    → wrong ≡ seen (wanted_faults (out-Expr e).span (type_if names later base) (type_if names later c.typing.ty)))
    → there ≡ is_some base → ((fs : List Fault) → wrong ≡ seen fs → empty ≡ is_empty fs) → fine ≡ (there && empty) → Adds c.typing.faults wrong faults → value ≡ (if fine then c.value else None)
    → WalksTo f s0 s1 w0 w1 (OfType w0.rows base (λ t. TypesElement IsValueAs faults value (λ context. (constant_of_base context t e).found) (λ context. (constant_of_base context t e).value)))
constant_member {f} {s0} {s1} {w0} {w1} base e {c} {wrong} {faults} {there} {empty} {fine} {value} g wrong_is there_is empty_is fine_is adds value_is =
    halved (TypesConstant c (λ env. constant_of env (expr_pair e)))
    (OfType w0.rows base (λ t. TypesElement IsValueAs faults value (λ context. (constant_of_base context t e).found) (λ context. (constant_of_base context t e).value))) g (same_types w1.rows)
    (λ names later more env distinct p t row.
    let x : ConstantSeen = constant_of env (expr_pair e) in
    let b = type_if names later.rows base in
    let fs = wanted_faults (out-Expr e).span b x.judgement.ty in
    let own : wrong ≡ seen fs = wrong_is names later.rows distinct p (row_stays_if w0.rows w1.rows base g.grows.tables.rows row) t.constant.part.row
    ∙ ap (λ (o : Option DslxType). seen (wanted_faults (out-Expr e).span b o)) t.constant.part.ty in
    record {
      part = value_is ∙ value_by b fs c.value x.value (there_is ∙ some_type names later.rows base) (empty_is fs own) fine_is t.constant.value;
      faults_are = adds x.judgement.faults fs t.constant.part.faults own;
      reaches = t.reaches;
    })
