-- Patterns: those of one value, names that are bound, and tuples.
use Rattle.std.proofs.Common.{◌≡◌, ◌++◌, ◌∙◌, ◌+◌, ◌<◌, ◌≤◌, ℕ, zero, suc, List, [], ◌∷◌, Bool, true, false, Option, Some, None, map, length, take, get_or, slice_get, append_assoc, arith, refl, sym, ap, subst}
use Rattle.std.specs.Prelude.{◌&&◌, ◌==◌, if◌then◌else◌}
use Rattle.base.specs.Lists.Prefix.{IsPrefix}
use Rattle.base.proofs.Lemmas.Lists.Prefixes.{IsPrefix-trans}
use Rattle.xb_span.specs.declared.span.Span.{Span}
use Rattle.dslx_tree.specs.declared.pattern.Pattern.{Pattern}
use Rattle.dslx_meaning.specs.Lists.{and_then}
use Rattle.dslx_meaning.specs.declared.ty.DslxType.{DslxType}
use Rattle.dslx_meaning.specs.Rules.PatternRules.{both_patterns, is_there, first_part_type, one_value, other_part_types, part_types, parts_typing, tuple_pattern}
use Rattle.dslx_meaning.specs.Rules.TypeEnvs.{Judgement, TypeEnv, Typed}
use Rattle.dslx_meaning.specs.Rules.Typings.{PatternPair, PatternSeen}
use Rattle.dslx_check_rules.specs.declared.table.row.TypeId.{TypeId}
use Rattle.dslx_check_rules.specs.declared.table.row.TypeRow.{TypeRow}
use Rattle.dslx_check_rules.specs.declared.typing.Typing.{Typing}
use Rattle.dslx_check_rules.specs.Interned.{AreDistinct, HasRowIf, ItemNames, type_if}
use Rattle.dslx_check_facts.specs.Bound.{bound_names}
use Rattle.dslx_check_facts.specs.declared.facts.Facts.{Facts}
use Rattle.dslx_check_facts.specs.declared.type_env.TypeEnv.{TypeEnv as CodeEnv}
use Rattle.dslx_check_facts.specs.TypeEnvs.{typed_of}
use Rattle.dslx_check_facts.specs.Walks.{WalkShown}
use Rattle.dslx_check_facts.proofs.Lemmas.Judged.{all_weaker, row_stays_if}
use Rattle.dslx_check_rules.specs.declared.control.patterns.PatternTyping.{PatternTyping}
use Rattle.dslx_check_rules.specs.Control.Patterns.{IsPattern, part_of_so_many, tuple_head}
use Rattle.dslx_check_rules.specs.Nodes.Parts.{IsPart}
use Rattle.dslx_check_leaves.specs.Fits.Typed.{PatternFrom, pattern_typed}
use Rattle.dslx_check_leaves.specs.Typed.{tuple_pattern_at}
use Rattle.dslx_check_leaves.specs.Walked.{BindsAs, PatternNames, HasBound, WalksTo, TypesPart, TypesPattern}
use Rattle.dslx_check_leaves.proofs.Lemmas.Each.{take_all, take_next}
use Rattle.dslx_check_leaves.proofs.Lemmas.Walking.{AddsTypes, Both, both, halved, nothing_reached, part_stays, reached_both, same_types, with_rows}

-- the same by another name
pub repatterned : {f : Facts} {s0 s1 : CodeEnv} {w0 w1 : WalkShown} {p : PatternTyping} {old : List TypeRow} {ty : Option TypeId} {before after : PatternNames} {P Q : PatternFrom} → P ≡ Q
    → WalksTo f s0 s1 w0 w1 (TypesPattern p old ty before after P) → WalksTo f s0 s1 w0 w1 (TypesPattern p old ty before after Q)
repatterned {f} {s0} {s1} {w0} {w1} {p} {old} {ty} {before} {after} e g = subst (λ (D : PatternFrom). WalksTo f s0 s1 w0 w1 (TypesPattern p old ty before after D)) e g

pub bound_stays : (rows longer : List TypeRow) (bound : PatternNames) → IsPrefix rows longer → HasBound rows bound → HasBound longer bound
bound_stays rows longer bound p h = all_weaker (λ (b : List ℕ × Option TypeId). HasRowIf rows b.1) (λ b. HasRowIf longer b.1) bound (λ b. row_stays_if rows longer b.1 p) h

-- a pattern that binds nothing and reaches nothing
pub plain_pattern : {f : Facts} {s : CodeEnv} {w : WalkShown} {p : PatternTyping} {ty : Option TypeId} {before : PatternNames} {P : PatternFrom}
    → ((env : TypeEnv) (t : Option DslxType) (names : List (List ℕ)) (locals : List Typed) → IsPattern p (P env t names locals))
    → ((env : TypeEnv) (t : Option DslxType) (names : List (List ℕ)) (locals : List Typed) → (P env t names locals).names ≡ names)
    → ((env : TypeEnv) (t : Option DslxType) (names : List (List ℕ)) (locals : List Typed) → (P env t names locals).locals ≡ locals)
    → ((env : TypeEnv) (t : Option DslxType) (names : List (List ℕ)) (locals : List Typed) → (P env t names locals).reached ≡ [])
    → WalksTo f s s w w (TypesPattern p w.rows ty before before P)
plain_pattern {f} {s} {w} {p} {ty} {before} {P} is names_stay locals_stay reaches_none =
    nothing_reached (TypesPattern p w.rows ty before before P) (same_types w.rows)
    (λ items later env distinct q. record {
      bound = λ row all. all;
      binds = λ row all around.
          let t = type_if items later.rows ty in
          let names = bound_names before in
          let locals = map (typed_of items later.rows) before ++ around in
          record { typing = is env t names locals; names = names_stay env t names locals; locals = locals_stay env t names locals; reaches = sym (reaches_none env t names locals) };
    })

-- a pattern that is one value, from that value's typing
pub value_walked : {f : Facts} {s0 s1 : CodeEnv} {w0 w1 : WalkShown} {rows : List TypeRow} {own : Typing} {p : PatternTyping} {ty : Option TypeId} {before : PatternNames} {D : TypeEnv → Judgement} {K : TypeEnv → Bool}
    {is_known : Bool} (span : Span) (may_fail : Bool)
    → WalksTo f s0 s1 w0 w1 (TypesPart own D) → AddsTypes w1.rows rows
    → ((items : ItemNames) (later : List TypeRow) (env : TypeEnv) → IsPart items w1.rows later own (D env) → is_known ≡ K env)
    → ((items : ItemNames) (later : List TypeRow) (j : Judgement) (bound : List (List ℕ)) (locals : List Typed) → AreDistinct items → IsPrefix rows later → HasRowIf rows ty
    → IsPart items rows later own j → IsPattern p (one_value span may_fail (type_if items later ty) bound locals j is_known))
    → WalksTo f s0 s1 w0 (with_rows w1 rows) (TypesPattern p w0.rows ty before before (λ env t names locals. one_value span may_fail t names locals (D env) (K env)))
value_walked {f} {s0} {s1} {w0} {w1} {rows} {own} {p} {ty} {before} {D} {K} {is_known} span may_fail g a known is =
    let to_end : IsPrefix w0.rows rows = IsPrefix-trans w0.rows w1.rows rows g.grows.tables.rows a.rows in
    halved (TypesPart own D) (TypesPattern p w0.rows ty before before (λ env t names locals. one_value span may_fail t names locals (D env) (K env))) g a
    (λ items later more env distinct q t. record {
      bound = λ row all. bound_stays w0.rows rows before to_end all;
      binds = λ row all around.
          let kind = type_if items later.rows ty in
          let names = bound_names before in
          let locals = map (typed_of items later.rows) before ++ around in
          let h = is items later.rows (D env) names locals distinct q (row_stays_if w0.rows rows ty to_end row) (part_stays a.rows t.part) in
          record {
            typing = subst (λ (b : Bool). IsPattern p (one_value span may_fail kind names locals (D env) b)) (known items later.rows env t.part) h;
            names = refl;
            locals = refl;
            reaches = t.reaches;
          };
    })

-- ---- tuples

-- parts from the first one on, behind what stands before them
abbrev pub parts_over : Bool → TypeEnv → PatternSeen → List PatternPair → Option (List DslxType) → PatternSeen
parts_over may_fail env x [] types = x
parts_over may_fail env x (p ∷ ps) types = parts_over may_fail env (both_patterns x (p.1 may_fail env (first_part_type types) x.names x.locals)) ps (other_part_types types)

pub and_assoc : (a b c : Bool) → ((a && b) && c) ≡ (a && (b && c))
and_assoc true b c = refl
and_assoc false b c = refl

and_true : (a : Bool) → (a && true) ≡ a
and_true true = refl
and_true false = refl

append_nil : {A : Type 0} (ys : List A) → ys ++ [] ≡ ys
append_nil [] = refl
append_nil (y ∷ ys) = ap (λ zs. y ∷ zs) (append_nil ys)

-- which is what stands before them and then the parts
over_is : (may_fail : Bool) (env : TypeEnv) (x : PatternSeen) (ps : List PatternPair) (types : Option (List DslxType))
    → parts_over may_fail env x ps types ≡ both_patterns x (parts_typing may_fail env ps types x.names x.locals)
over_is may_fail env x [] types = λ i. record {
  names = x.names;
  locals = x.locals;
  faults = sym (append_nil x.faults) i;
  reached = sym (append_nil x.reached) i;
  size = (let e : x.size ≡ x.size + 0 = omega arith in e) i;
  is_known = sym (and_true x.is_known) i;
  is_sure = sym (and_true x.is_sure) i;
}
over_is may_fail env x (p ∷ ps) types =
    let first = p.1 may_fail env (first_part_type types) x.names x.locals in
    let rest = parts_typing may_fail env ps (other_part_types types) first.names first.locals in
    over_is may_fail env (both_patterns x first) ps (other_part_types types)
    ∙ (λ i. record {
      names = rest.names;
      locals = rest.locals;
      faults = append_assoc x.faults first.faults rest.faults i;
      reached = append_assoc x.reached first.reached rest.reached i;
      size = (let e : (x.size + first.size) + rest.size ≡ x.size + (first.size + rest.size) = omega arith in e) i;
      is_known = and_assoc x.is_known first.is_known rest.is_known i;
      is_sure = and_assoc x.is_sure first.is_sure rest.is_sure i;
    })

-- the tuple from what stands before its parts
pub tuple_over : (span : Span) (may_fail : Bool) (env : TypeEnv) (ps : List PatternPair) (t : Option DslxType) (names : List (List ℕ)) (locals : List Typed)
    → parts_over may_fail env (tuple_head span (length ps) t names locals) ps (part_types (length ps) t)
    ≡ tuple_pattern span t (part_types (length ps) t) (parts_typing may_fail env ps (part_types (length ps) t) names locals)
tuple_over span may_fail env ps t names locals = over_is may_fail env (tuple_head span (length ps) t names locals) ps (part_types (length ps) t)

-- one part more
pub over_then : (may_fail : Bool) (env : TypeEnv) (x : PatternSeen) (ps : List PatternPair) (p : PatternPair) (types : Option (List DslxType))
    → parts_over may_fail env x (ps ++ p ∷ []) types
    ≡ both_patterns (parts_over may_fail env x ps types)
    (p.1 may_fail env (and_then types (λ ts. slice_get ts (length ps))) (parts_over may_fail env x ps types).names (parts_over may_fail env x ps types).locals)
over_then may_fail env x [] p types = ap (λ (t : Option DslxType). both_patterns x (p.1 may_fail env t x.names x.locals)) (first_is types)
  where
    first_is : (types : Option (List DslxType)) → first_part_type types ≡ and_then types (λ ts. slice_get ts 0)
    first_is None = refl
    first_is (Some []) = refl
    first_is (Some (t ∷ ts)) = refl
over_then may_fail env x (q ∷ ps) p types =
    let y = both_patterns x (q.1 may_fail env (first_part_type types) x.names x.locals) in
    let z = parts_over may_fail env y ps (other_part_types types) in
    over_then may_fail env y ps p (other_part_types types) ∙ ap (λ (t : Option DslxType). both_patterns z (p.1 may_fail env t z.names z.locals)) (other_is types)
  where
    other_is : (types : Option (List DslxType)) → and_then (other_part_types types) (λ ts. slice_get ts (length ps)) ≡ and_then types (λ ts. slice_get ts (suc (length ps)))
    other_is None = refl
    other_is (Some []) = refl
    other_is (Some (t ∷ ts)) = refl

-- ---- tuples as walks

-- before its parts
pub head_walked : {f : Facts} {s : CodeEnv} {w : WalkShown} {p : PatternTyping} {ty : Option TypeId} {before : PatternNames} (span : Span) (count : ℕ)
    → ((items : ItemNames) (later : List TypeRow) (bound : List (List ℕ)) (locals : List Typed) → IsPrefix w.rows later → HasRowIf w.rows ty → IsPattern p (tuple_head span count (type_if items later ty) bound locals))
    → WalksTo f s s w w (TypesPattern p w.rows ty before before (λ env t names locals. tuple_head span count t names locals))
head_walked {f} {s} {w} {p} {ty} {before} span count is =
    nothing_reached (TypesPattern p w.rows ty before before (λ env t names locals. tuple_head span count t names locals)) (same_types w.rows)
    (λ items later env distinct q. record {
      bound = λ row all. all;
      binds = λ row all around. record {
        typing = is items later.rows (bound_names before) (map (typed_of items later.rows) before ++ around) q row;
        names = refl;
        locals = refl;
        reaches = refl;
      };
    })

-- with one part more
pub part_walked : {f : Facts} {s0 s1 s2 : CodeEnv} {w0 w1 w2 : WalkShown} {all next p : PatternTyping} {ty part : Option TypeId} {b0 b1 b2 : PatternNames} {P Q : PatternFrom} (count i : ℕ)
    → WalksTo f s0 s1 w0 w1 (TypesPattern all w0.rows ty b0 b1 P)
    → ((items : ItemNames) (later : List TypeRow) → IsPrefix w1.rows later → HasRowIf w1.rows ty → type_if items later part ≡ part_of_so_many count i (type_if items later ty))
    → (HasRowIf w1.rows ty → HasRowIf w1.rows part)
    → WalksTo f s1 s2 w1 w2 (TypesPattern next w1.rows part b1 b2 Q)
    → ((x y : PatternSeen) → IsPattern all x → IsPattern next y → IsPattern p (both_patterns x y))
    → WalksTo f s0 s2 w0 w2 (TypesPattern p w0.rows ty b0 b2
    (λ env t names locals. both_patterns (P env t names locals) (Q env (part_of_so_many count i t) (P env t names locals).names (P env t names locals).locals)))
part_walked {f} {s0} {s1} {s2} {w0} {w1} {w2} {all} {next} {p} {ty} {part} {b0} {b1} {b2} {P} {Q} count i g type_is there k is =
    halved (Both (TypesPattern all w0.rows ty b0 b1 P) (TypesPattern next w1.rows part b1 b2 Q) w1.rows)
    (TypesPattern p w0.rows ty b0 b2 (λ env t names locals. both_patterns (P env t names locals) (Q env (part_of_so_many count i t) (P env t names locals).names (P env t names locals).locals)))
    (both (TypesPattern all w0.rows ty b0 b1 P) (TypesPattern next w1.rows part b1 b2 Q) g k) (same_types w2.rows)
    (λ items later more env distinct q t.
    let up : IsPrefix w1.rows later.rows = IsPrefix-trans w1.rows w2.rows later.rows k.grows.tables.rows q in
    record {
      bound = λ row bound. t.second.bound (there (row_stays_if w0.rows w1.rows ty g.grows.tables.rows row)) (t.first.bound row bound);
      binds = λ row bound around.
          let kind = type_if items later.rows ty in
          let x : PatternSeen = P env kind (bound_names b0) (map (typed_of items later.rows) b0 ++ around) in
          let first = t.first.binds row bound around in
          let row_now = row_stays_if w0.rows w1.rows ty g.grows.tables.rows row in
          let rest = t.second.binds (there row_now) (t.first.bound row bound) around in
          let moved : BindsAs items later t.rest next b2 around (Q env (part_of_so_many count i kind) x.names x.locals) =
          subst (λ (d : Option DslxType). BindsAs items later t.rest next b2 around (Q env d x.names x.locals)) (type_is items later.rows up row_now)
          (subst (λ (ns : List (List ℕ)). BindsAs items later t.rest next b2 around (Q env (type_if items later.rows part) ns x.locals)) (sym first.names)
          (subst (λ (ls : List Typed). BindsAs items later t.rest next b2 around (Q env (type_if items later.rows part) (bound_names b1) ls)) (sym first.locals) rest)) in
          let y : PatternSeen = Q env (part_of_so_many count i kind) x.names x.locals in
          record {
            typing = is x y first.typing moved.typing;
            names = moved.names;
            locals = moved.locals;
            reaches = reached_both items later.met more t.front t.rest x.reached y.reached t.joined first.reaches moved.reaches;
          };
    })

pub patterns_length : (ps : List Pattern) → length (map pattern_typed ps) ≡ length ps
patterns_length [] = refl
patterns_length (p ∷ ps) = ap (λ n. suc n) (patterns_length ps)

take_length : {A : Type 0} (xs : List A) (n : ℕ) → n ≤ length xs → length (take n xs) ≡ n
take_length [] zero h = refl
take_length [] (suc n) h = absurd (omega arith)
take_length (x ∷ xs) zero h = refl
take_length (x ∷ xs) (suc n) h = ap (λ k. suc k) (take_length xs n (omega arith))

abbrev pub parts_upto : Span → Bool → List Pattern → ℕ → PatternFrom
parts_upto span may_fail ps n env t names locals = parts_over may_fail env (tuple_head span (length ps) t names locals) (map pattern_typed (take n ps)) (part_types (length ps) t)

pub parts_next : (span : Span) (may_fail : Bool) (ps : List Pattern) (n : ℕ) (p : Pattern) → n < length ps → p ≡ get_or ps n p
    → ◌≡◌ {A = PatternFrom} (λ env t names locals. both_patterns (parts_upto span may_fail ps n env t names locals)
    ((pattern_typed p).1 may_fail env (part_of_so_many (length ps) n t) (parts_upto span may_fail ps n env t names locals).names (parts_upto span may_fail ps n env t names locals).locals))
    (parts_upto span may_fail ps (n + 1))
parts_next span may_fail ps n p h e =
    let on : suc n ≡ n + 1 = omega arith in
    let count : length (map pattern_typed (take n ps)) ≡ n = patterns_length (take n ps) ∙ take_length ps n (omega arith) in
    λ i env t names locals.
    (ap (λ (k : ℕ). both_patterns (parts_upto span may_fail ps n env t names locals)
    ((pattern_typed p).1 may_fail env (part_of_so_many (length ps) k t) (parts_upto span may_fail ps n env t names locals).names (parts_upto span may_fail ps n env t names locals).locals)) (sym count)
    ∙ sym (over_then may_fail env (tuple_head span (length ps) t names locals) (map pattern_typed (take n ps)) (pattern_typed p) (part_types (length ps) t))
    ∙ ap (λ (qs : List PatternPair). parts_over may_fail env (tuple_head span (length ps) t names locals) qs (part_types (length ps) t))
    (take_next pattern_typed ps n p h e ∙ ap (λ k. map pattern_typed (take k ps)) on)) i

pub parts_all : (span : Span) (may_fail : Bool) (ps : List Pattern) (n : ℕ) → length ps ≤ n → ◌≡◌ {A = PatternFrom} (parts_upto span may_fail ps n) (tuple_pattern_at span may_fail ps)
parts_all span may_fail ps n h = λ i env t names locals.
    (ap (λ (qs : List Pattern). parts_over may_fail env (tuple_head span (length ps) t names locals) (map pattern_typed qs) (part_types (length ps) t)) (take_all ps n h)
    ∙ ap (λ (k : ℕ). parts_over may_fail env (tuple_head span k t names locals) (map pattern_typed ps) (part_types k t)) (sym (patterns_length ps))
    ∙ tuple_over span may_fail env (map pattern_typed ps) t names locals) i

-- what has a type
pub known_by : (items : ItemNames) (later : List TypeRow) (ty : Option TypeId) (t : Option DslxType) (b : Bool) → b ≡ is_there (type_if items later ty) → type_if items later ty ≡ t → b ≡ is_there t
known_by items later ty t b e h = e ∙ ap is_there h
