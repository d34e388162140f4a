-- What a `config` does.
use Rattle.std.proofs.Common.{◌≡◌, ◌++◌, ◌∙◌, ◌&&◌, ◌-◌, ℕ, arith, Bool, true, false, not, is_some, List, [], ◌∷◌, Option, Some, None, length, drop, map, append_assoc, refl, sym, ap, subst, if◌then◌else◌}
use Rattle.std.specs.Str.{bytes_eq}
use Rattle.std.proofs.lemmas.List.{append-nil}
use Rattle.base.specs.Lists.Prefix.{IsPrefix}
use Rattle.base.specs.NameTable.Found.{found}
use Rattle.dslx_tree.specs.declared.ident.Ident.{Ident}
use Rattle.dslx_tree.specs.declared.process.Channel.{Channel}
use Rattle.dslx_tree.specs.declared.process.ConfigStatement.{ConfigStatement}
use Rattle.dslx_tree.specs.declared.process.ConfigStatement.TheVariants as config_statement
use Rattle.dslx_tree.specs.declared.process.Direction.TheVariants.{In, Out}
use Rattle.dslx_tree.specs.declared.process.End.{End}
use Rattle.dslx_tree.specs.declared.process.Proc.{Proc}
use Rattle.dslx_meaning.specs.Lists.{is_in}
use Rattle.dslx_meaning.specs.Rules.CallRules.{channel_end_in}
use Rattle.dslx_meaning.specs.Rules.ItemRules.{Found, and_found, found_in, only_faults}
use Rattle.dslx_meaning.specs.Rules.NameRules.{local_name}
use Rattle.dslx_meaning.specs.Rules.ProcRules as the
use Rattle.dslx_meaning.specs.Rules.RuleNumbers as rule
use Rattle.dslx_meaning.specs.Rules.TypeEnvs.{ChannelEnd, TypeEnv, breaks_if}
use Rattle.dslx_check_rules.specs.declared.faults.Faults.{Faults}
use Rattle.dslx_check_rules.specs.declared.table.row.TypeId.{TypeId}
use Rattle.dslx_check_rules.specs.declared.table.row.TypeRow.{TypeRow}
use Rattle.dslx_check_rules.specs.declared.typing.Typing.{Typing}
use Rattle.dslx_check_rules.specs.Interned.{HasRowIf, ItemNames, type_if}
use Rattle.dslx_check_rules.specs.Seen.{seen}
use Rattle.dslx_check_facts.specs.declared.facts.Facts.{Facts}
use Rattle.dslx_check_facts.specs.declared.type_env.MemberEnd.{MemberEnd}
use Rattle.dslx_check_facts.specs.declared.type_env.TypeEnv.{TypeEnv as CodeEnv}
use Rattle.dslx_check_facts.specs.Bound.{bound_names}
use Rattle.dslx_check_facts.specs.Judged.{HasRows, environment}
use Rattle.dslx_check_facts.specs.Known.{item_names}
use Rattle.dslx_check_facts.specs.TypeEnvs.{HasBoundRows}
use Rattle.dslx_check_facts.specs.Walks.{WalkShown, instances_at}
use Rattle.dslx_check_facts.proofs.Lemmas.Walks.{grows_refl, grows_trans, nothing_missing, tables_trans}
use Rattle.dslx_check_facts.proofs.Lemmas.Judged.{row_stays_if, rows_stay}
use Rattle.dslx_check_rules.specs.Nodes.Parts.{Pairs}
use Rattle.dslx_check_declarations.specs.declared.config.Made.{Made}
use Rattle.dslx_check_declarations.specs.declared.ends.NamedEnd.{NamedEnd}
use Rattle.dslx_check_declarations.specs.Config.{AreMadeOf, AreStrings, AreUsed, IsUsed, MakesChannel, NamesChannel, all_once}
use Rattle.dslx_check_declarations.specs.Ends.{IsEndNamed, IsNamed}
use Rattle.dslx_check_declarations.specs.Procs.{AddsEnds, ConfigEnds, end_bound, first_end, result_faults}
use Rattle.dslx_check_declarations.proofs.Lemmas.Ends.{named_stays}
use Rattle.dslx_check_leaves.specs.Walked.{TypesPart, WalksTo}
use Rattle.dslx_check_leaves.proofs.Lemmas.Each.{each_weaker}
use Rattle.dslx_check_leaves.proofs.Lemmas.Walking.{all_dropped, behind_both}
use Rattle.dslx_check_judge.specs.declared.instances.channels.EndsSeen.{EndsSeen}
use Rattle.dslx_check_judge.specs.Instances.Inner.Bodies.{JudgesEnds}
use Rattle.dslx_check_judge.specs.Instances.Inner.Config.{JudgesConfig, StepsStatement, StepsStatements, all_ends_used, ends_used, made_behind, statement_found}
use Rattle.dslx_check_judge.specs.Instances.Inner.Found.{TypesFound}
use Rattle.dslx_check_judge.proofs.OnInstances.OnRuns.{IsFound, Joins, both_found, found_as, found_joins, nothing_behind}
use Rattle.dslx_check_judge.proofs.OnInstances.OnSpawns.{made_stays, same_ends}

-- ---- a channel that is made

-- what the names mean behind it
means_by : (names : ItemNames) (rows later : List TypeRow) (b c : Bool) (sends receives : MemberEnd) (other : Option MemberEnd) (x y : ChannelEnd) (rest : Option ChannelEnd)
    → IsEndNamed names rows later (Some sends) (Some x) → IsEndNamed names rows later (Some receives) (Some y) → IsEndNamed names rows later other rest
    → IsEndNamed names rows later (if b then Some sends else if c then Some receives else other) (if b then Some x else if c then Some y else rest)
means_by names rows later true c sends receives other x y rest p q r = p
means_by names rows later false true sends receives other x y rest p q r = q
means_by names rows later false false sends receives other x y rest p q r = r

some_by : (b c r : Bool) (sends receives : MemberEnd) (other : Option MemberEnd) → is_some other ≡ r → is_some (if b then Some sends else if c then Some receives else other) ≡ (if c then true else if b then true else r)
some_by true true r sends receives other e = refl
some_by true false r sends receives other e = refl
some_by false true r sends receives other e = refl
some_by false false r sends receives other e = e

channel_made : {names : ItemNames} {rows later : List TypeRow} {s0 s1 : CodeEnv} {made next : Made} {m : the.Made} {used : List (List ℕ)} {word : Option TypeId} (context : TypeEnv) (c : Channel) → MakesChannel s0 s1 made next c word
    → HasRowIf rows word → type_if names later word ≡ (the.channel_type (the.behind_ends context m) c.word).ty → AreMadeOf names rows later made m used → AreMadeOf names rows later next (the.made_with context m c) (used ++ [])
channel_made {names} {rows} {later} {s0} {s1} {made} {next} {m} {used} {word} context c makes row ty h =
    let word_is = (the.channel_type (the.behind_ends context m) c.word).ty in
    let sends : MemberEnd = record { direction = Out; word = word } in
    let receives : MemberEnd = record { direction = In; word = word } in
    record {
      ends = λ name. subst (λ (o : Option MemberEnd). IsEndNamed names rows later o (channel_end_in name (the.made_with context m c).channel_ends)) (sym (makes.meant name))
          (means_by names rows later (bytes_eq name c.sender.name) (bytes_eq name c.receiver.name) sends receives (found made.meant name)
          (record { name = c.sender.name; direction = Out; word = word_is }) (record { name = c.receiver.name; direction = In; word = word_is }) (channel_end_in name m.channel_ends)
          (record { row = row; direction = refl; word = ty }) (record { row = row; direction = refl; word = ty }) (h.ends name));
      meant = λ name. ap is_some (makes.meant name) ∙ some_by (bytes_eq name c.sender.name) (bytes_eq name c.receiver.name) (is_in name m.names) sends receives (found made.meant name) (h.meant name);
      strings = λ name. makes.strings name ∙ ap (λ b. if bytes_eq name c.name.name then true else b) (h.strings name);
      used = λ name.
          subst (λ (l : List (List ℕ)). IsUsed (found next.uses name) (the.times_in name l)) (sym (append-nil used))
          (subst (λ t. IsUsed (found t name) (the.times_in name used)) (sym makes.uses) (h.used name));
    }

pub channel_walked : {f : Facts} {s0 s1 s2 s3 : CodeEnv} {w0 w1 w2 : WalkShown} {made next : Made} {word : Typing} {names depth mid faults : Faults} (c : Channel) → NamesChannel f made c names
    → WalksTo f s0 s1 w0 w1 (TypesPart word (λ context. the.channel_type context c.word)) → WalksTo f s1 s2 w1 w2 (TypesFound depth (λ context. the.depth_found context c.depth)) → MakesChannel s2 s3 made next c word.ty
    → Joins names word.faults mid → Joins mid depth faults → StepsStatement f s0 s3 w0 w2 made next faults (config_statement.Channel c)
channel_walked {f} {s0} {s1} {s2} {s3} {w0} {w1} {w2} {made} {next} {word} {names} {depth} {mid} {faults} c named g h makes join1 join2 = record {
  scope = after_is ∙ sym (ap (λ (s : CodeEnv). record s0 { ends = s.ends }) after_is);
  grows = grows_trans w0 w1 w2 g.grows h.grows;
  holds = λ plain known later has agrees there none context m so_far here made_of.
      let items = item_names f in
      let env = environment f s0 known later in
      let E = the.behind_ends context m in
      let has1 = tables_trans w1 w2 later h.grows.tables has in
      let none1 = nothing_missing w1 w2 h.grows none in
      let t : TypesPart word (λ context. the.channel_type context c.word) items w1.rows later (drop (length w0.reached) w1.reached) E =
      subst (TypesPart word (λ context. the.channel_type context c.word) items w1.rows later (drop (length w0.reached) w1.reached)) here (g.holds known later has1 agrees there none1) in
      let there_too : HasRows f s1 w1 = subst (λ (s : CodeEnv). HasRows f s w1) (sym g.sight) (rows_stay f s0 w0 w1 g.grows.tables there) in
      let u : TypesFound depth (λ context. the.depth_found context c.depth) items w2.rows later (drop (length w1.reached) w2.reached) E =
      subst (TypesFound depth (λ context. the.depth_found context c.depth) items w2.rows later (drop (length w1.reached) w2.reached)) (ap (λ (s : CodeEnv). environment f s known later) g.sight ∙ here)
      (h.holds known later has agrees there_too none) in
      let N = local_name context m.names c.sender ++ local_name context (c.sender.name ∷ m.names) c.receiver ++ the.string_faults m.strings c.name in
      let W = the.channel_type E c.word in
      let D = the.depth_found E c.depth in
      let whole : context.known.whole ≡ known.whole = ap (λ (C : TypeEnv). C.known.whole) (sym here) in
      let head : IsFound items later (drop (length w0.reached) w1.reached) mid (and_found (only_faults N) (found_in W)) = record {
        is = join1 N W.faults (named.is known later context m agrees whole made_of.meant made_of.strings) t.part.faults;
        reaches = t.reaches;
      } in
      let rest : IsFound items later (drop (length w1.reached) w2.reached) depth D = record { is = u.is; reaches = u.reaches } in
      let all : IsFound items later (drop (length w0.reached) w2.reached) faults (the.channel_found context m c) =
      found_as (found_joins (only_faults N) (found_in W) D) (both_found (behind_both w0.reached w1.reached w2.reached g.grows.reached h.grows.reached) head rest join2) in
      let row2 : HasRowIf w2.rows word.ty = stays word.ty h.grows.tables.rows t.part.row in
      record {
        is = all.is;
        reaches = all.reaches;
        scope = ap (λ (s : CodeEnv). environment f s known later) after_is ∙ ap (λ (C : TypeEnv). record C { ends = c.receiver.name ∷ c.sender.name ∷ C.ends }) here;
        made = channel_made context c makes row2 t.part.ty (made_stays (grows_trans w0 w1 w2 g.grows h.grows).tables.rows made_of);
      };
}
  where
    after_is : s3 ≡ record s0 { ends = (c.receiver.name, tt) ∷ (c.sender.name, tt) ∷ s0.ends }
    after_is = makes.scope ∙ ap (λ (s : CodeEnv). record s { ends = (c.receiver.name, tt) ∷ (c.sender.name, tt) ∷ s.ends }) (h.sight ∙ g.sight)

    stays : (t : Option TypeId) → IsPrefix w1.rows w2.rows → HasRowIf w1.rows t → HasRowIf w2.rows t
    stays t p r = row_stays_if w1.rows w2.rows t p r

-- ---- statements one after another

pub no_statements : {f : Facts} {s : CodeEnv} {w : WalkShown} {made : Made} {faults : Faults} → faults ≡ seen [] → StepsStatements f s s w w made made faults []
no_statements {f} {s} {w} {made} {faults} none = record {
  scope = same_ends s s refl;
  grows = grows_refl w;
  holds = λ plain known later has agrees there missing context m so_far here made_of. record {
    is = none;
    reaches = ap (instances_at (item_names f) later.met) (all_dropped w.reached);
    scope = here;
    made = subst (AreMadeOf (item_names f) w.rows later.rows made m) (sym (append-nil so_far)) made_of;
  };
}

statements_next : (context : TypeEnv) (m : the.Made) (ss : List ConfigStatement) (x : ConfigStatement)
    → and_found (the.config_statements_found context m ss) (statement_found context (the.made_at_end context m ss) x) ≡ the.config_statements_found context m (ss ++ x ∷ [])
statements_next context m [] (config_statement.Channel c) = sym (nothing_behind (the.channel_found context m c))
statements_next context m [] (config_statement.Spawn s) = sym (nothing_behind (the.spawn_found context m s))
statements_next context m (config_statement.Channel c ∷ ss) x =
    let n = the.made_with context m c in
    found_joins (the.channel_found context m c) (the.config_statements_found context n ss) (statement_found context (the.made_at_end context n ss) x) ∙ ap (and_found (the.channel_found context m c)) (statements_next context n ss x)
statements_next context m (config_statement.Spawn s ∷ ss) x =
    found_joins (the.spawn_found context m s) (the.config_statements_found context m ss) (statement_found context (the.made_at_end context m ss) x) ∙ ap (and_found (the.spawn_found context m s)) (statements_next context m ss x)

made_next : (context : TypeEnv) (m : the.Made) (ss : List ConfigStatement) (x : ConfigStatement) → made_behind context (the.made_at_end context m ss) x ≡ the.made_at_end context m (ss ++ x ∷ [])
made_next context m [] (config_statement.Channel c) = refl
made_next context m [] (config_statement.Spawn s) = refl
made_next context m (config_statement.Channel c ∷ ss) x = made_next context (the.made_with context m c) ss x
made_next context m (config_statement.Spawn s ∷ ss) x = made_next context m ss x

used_next : (ss : List ConfigStatement) (x : ConfigStatement) → all_ends_used ss ++ ends_used x ≡ all_ends_used (ss ++ x ∷ [])
used_next [] x = sym (append-nil (ends_used x))
used_next (s ∷ ss) x = append_assoc (ends_used s) (all_ends_used ss) (ends_used x) ∙ ap (λ l. ends_used s ++ l) (used_next ss x)

-- what is bound has rows whatever ends are in scope
rows_with_ends : {f : Facts} {s0 s1 : CodeEnv} {w : WalkShown} → s1 ≡ record s0 { ends = s1.ends } → HasRows f s0 w → HasRows f s1 w
rows_with_ends {f} {s0} {s1} {w} e h = record {
  known = h.known;
  bound = subst (HasBoundRows (item_names f) w.rows) (sym e) (record { parametric_args = h.bound.parametric_args; locals = h.bound.locals; members = h.bound.members });
}

pub one_statement : {f : Facts} {s0 s1 s2 : CodeEnv} {w0 w1 w2 : WalkShown} {made mid next : Made} {so_far own faults : Faults} (ss : List ConfigStatement) (x : ConfigStatement)
    → StepsStatements f s0 s1 w0 w1 made mid so_far ss → StepsStatement f s1 s2 w1 w2 mid next own x → Joins so_far own faults → StepsStatements f s0 s2 w0 w2 made next faults (ss ++ x ∷ [])
one_statement {f} {s0} {s1} {s2} {w0} {w1} {w2} {made} {mid} {next} {so_far} {own} {faults} ss x g h joins = record {
  scope = h.scope ∙ ap (λ (s : CodeEnv). record s { ends = s2.ends }) g.scope;
  grows = grows_trans w0 w1 w2 g.grows h.grows;
  holds = λ plain known later has agrees there none context m before here made_of.
      let items = item_names f in
      let has1 = tables_trans w1 w2 later h.grows.tables has in
      let none1 = nothing_missing w1 w2 h.grows none in
      let t = g.holds plain known later has1 agrees there none1 context m before here made_of in
      let there_too : HasRows f s1 w1 = rows_with_ends g.scope (rows_stay f s0 w0 w1 g.grows.tables there) in
      let k = the.made_at_end context m ss in
      let u = h.holds (ap (λ (s : CodeEnv). s.is_declaring) g.scope ∙ plain) known later has agrees there_too none context k (before ++ all_ends_used ss) t.scope t.made in
      let front : IsFound items later (drop (length w0.reached) w1.reached) so_far (the.config_statements_found context m ss) = record { is = t.is; reaches = t.reaches } in
      let rest : IsFound items later (drop (length w1.reached) w2.reached) own (statement_found context k x) = record { is = u.is; reaches = u.reaches } in
      let all = found_as (statements_next context m ss x) (both_found (behind_both w0.reached w1.reached w2.reached g.grows.reached h.grows.reached) front rest joins) in
      record {
        is = all.is;
        reaches = all.reaches;
        scope = u.scope ∙ ap (the.behind_ends context) (made_next context m ss x);
        made = subst (AreMadeOf items w2.rows later.rows next (the.made_at_end context m (ss ++ x ∷ []))) (append_assoc before (all_ends_used ss) (ends_used x) ∙ ap (λ l. before ++ l) (used_next ss x))
            (subst (λ (n : the.Made). AreMadeOf items w2.rows later.rows next n ((before ++ all_ends_used ss) ++ ends_used x)) (made_next context m ss x) u.made);
      };
}

-- ---- the ends of a `config`

abbrev pub AreTheEnds : ItemNames → List TypeRow → List TypeRow → TypeEnv → List NamedEnd → List End → Type 0
AreTheEnds names rows later context ns es = Pairs (IsNamed names rows later) ns (map (the.channel_end_of context) es)

ends_named : (names : ItemNames) (rows later : List TypeRow) (context : TypeEnv) (ns : List NamedEnd) (es : List End) → AreTheEnds names rows later context ns es → bound_names (map end_bound ns) ≡ the.end_names es
ends_named names rows later context [] [] h = refl
ends_named names rows later context [] (e ∷ es) h = absurd h
ends_named names rows later context (n ∷ ns) [] h = absurd h
ends_named names rows later context (n ∷ ns) (e ∷ es) h = λ i. h.0.name i ∷ ends_named names rows later context ns es h.1 i

first_by : (names : ItemNames) (rows later : List TypeRow) (b : Bool) (e : MemberEnd) (o : ChannelEnd) (rest : Option MemberEnd) (others : Option ChannelEnd) → IsEndNamed names rows later (Some e) (Some o)
    → IsEndNamed names rows later rest others → IsEndNamed names rows later (if b then Some e else rest) (if b then Some o else others)
first_by names rows later true e o rest others p q = p
first_by names rows later false e o rest others p q = q

ends_mean : (names : ItemNames) (rows later : List TypeRow) (context : TypeEnv) (name : List ℕ) (ns : List NamedEnd) (es : List End) → AreTheEnds names rows later context ns es
    → IsEndNamed names rows later (first_end name ns None) (channel_end_in name (map (the.channel_end_of context) es))
ends_mean names rows later context name [] [] h = tt
ends_mean names rows later context name [] (e ∷ es) h = absurd h
ends_mean names rows later context name (n ∷ ns) [] h = absurd h
ends_mean names rows later context name (n ∷ ns) (e ∷ es) h =
    subst (λ (k : List ℕ). IsEndNamed names rows later (if bytes_eq name k then Some n.end else first_end name ns None) (channel_end_in name (map (the.channel_end_of context) (e ∷ es)))) (sym h.0.name)
    (first_by names rows later (bytes_eq name e.name.name) n.end (the.channel_end_of context e) (first_end name ns None) (channel_end_in name (map (the.channel_end_of context) es)) h.0.end (ends_mean names rows later context name ns es h.1))

some_first : (b r : Bool) (e : MemberEnd) (rest : Option MemberEnd) → is_some rest ≡ r → is_some (if b then Some e else rest) ≡ (if b then true else r)
some_first true r e rest h = refl
some_first false r e rest h = h

ends_meant : (names : ItemNames) (rows later : List TypeRow) (context : TypeEnv) (name : List ℕ) (ns : List NamedEnd) (es : List End) → AreTheEnds names rows later context ns es
    → is_some (first_end name ns None) ≡ is_in name (the.end_names es)
ends_meant names rows later context name [] [] h = refl
ends_meant names rows later context name [] (e ∷ es) h = absurd h
ends_meant names rows later context name (n ∷ ns) [] h = absurd h
ends_meant names rows later context name (n ∷ ns) (e ∷ es) h =
    some_first (bytes_eq name n.name.now) (is_in name (the.end_names es)) n.end (first_end name ns None) (ends_meant names rows later context name ns es h.1)
    ∙ ap (λ (k : List ℕ). if bytes_eq name k then true else is_in name (the.end_names es)) h.0.name

-- what no name meant
no_end_found : (names : ItemNames) (rows later : List TypeRow) (o : Option MemberEnd) → IsEndNamed names rows later o None → o ≡ None
no_end_found names rows later None h = refl
no_end_found names rows later (Some e) h = absurd h

abbrev nothing_made : the.Made
nothing_made = record { names = []; channel_ends = []; strings = [] }

ends_made : {names : ItemNames} {rows later : List TypeRow} {s0 s1 : CodeEnv} {empty made : Made} (context : TypeEnv) (ns : List NamedEnd) (es : List End) → AreMadeOf names rows later empty nothing_made [] → AddsEnds s0 s1 empty made ns
    → AreTheEnds names rows later context ns es → AreMadeOf names rows later made (the.made_at_start context es) []
ends_made {names} {rows} {later} {s0} {s1} {empty} {made} context ns es none adds h =
    let meant : (name : List ℕ) → found made.meant name ≡ first_end name ns None = λ name. adds.meant name ∙ ap (first_end name ns) (no_end_found names rows later (found empty.meant name) (none.ends name)) in
    record {
      ends = λ name. subst (λ (o : Option MemberEnd). IsEndNamed names rows later o (channel_end_in name (map (the.channel_end_of context) es))) (sym (meant name)) (ends_mean names rows later context name ns es h);
      meant = λ name. ap is_some (meant name) ∙ ends_meant names rows later context name ns es h;
      strings = subst (λ (k : Made). AreStrings k []) (sym adds.rest) none.strings;
      used = subst (λ (k : Made). AreUsed k []) (sym adds.rest) none.used;
    }

-- ---- the whole

used_are : (ss : List ConfigStatement) (result : List Ident) → all_ends_used ss ++ the.ident_names result ≡ the.used_ends ss result
used_are [] result = refl
used_are (config_statement.Channel c ∷ ss) result = used_are ss result
used_are (config_statement.Spawn s ∷ ss) result = append_assoc (the.ident_names s.ends) (all_ends_used ss) (the.ident_names result) ∙ ap (λ l. the.ident_names s.ends ++ l) (used_are ss result)

no_ends_kept : {T : Type 0} (bs : List T) → drop (length bs - 0) bs ≡ []
no_ends_kept bs = ap (λ n. drop n bs) (let z : length bs - 0 ≡ length bs = omega arith in z) ∙ all_dropped bs

pub config_walked : {f : Facts} {s0 s1 s2 s3 : CodeEnv} {w0 w1 w2 : WalkShown} {left : List (List ℕ × Unit {0})} {given : EndsSeen} {empty made next : Made} {inside result mid faults : Faults} (p : Proc) (members : List NamedEnd) (ns : List NamedEnd)
    (es : List End) (ss : List ConfigStatement) → es ≡ p.config.ends → ss ≡ p.config.config_statements → ns ≡ given.ends.items
    → JudgesEnds f s0 s1 w0 w1 given es → ((names : ItemNames) (rows later : List TypeRow) → AreMadeOf names rows later empty nothing_made []) → AddsEnds s1 s2 empty made ns
    → StepsStatements f s2 s3 w1 w2 made next inside ss → ConfigEnds w2.rows s3 next p members result → left ≡ drop (length s3.ends - 0) s3.ends
    → Joins given.faults inside mid → Joins mid result faults → JudgesConfig f s0 (record s3 { ends = left }) w0 w2 faults p members
config_walked {f} {s0} {s1} {s2} {s3} {w0} {w1} {w2} {left} {given} {empty} {made} {next} {inside} {result} {mid} {faults} p members ns es ss es_is ss_is ns_is g empty_is adds h ends kept join1 join2 plain outside = record {
  grows = grows_trans w0 w1 w2 g.grows h.grows;
  sight = back;
  holds = λ known later has agrees there none.
      let names = item_names f in
      let env = environment f s0 known later in
      let config = p.config in
      let has1 = tables_trans w1 w2 later h.grows.tables has in
      let none1 = nothing_missing w1 w2 h.grows none in
      let t = g.holds known later has1 agrees there none1 in
      let start = the.made_at_start env es in
      let end = the.made_at_end env start ss in
      let are : AreTheEnds names w1.rows later.rows env ns es = subst (λ (l : List NamedEnd). AreTheEnds names w1.rows later.rows env l es) (sym ns_is) t.ends in
      let made_of : AreMadeOf names w1.rows later.rows made start [] = ends_made env ns es (empty_is names w1.rows later.rows) adds are in
      let here : environment f s2 known later ≡ the.behind_ends env start =
      ap (λ (s : CodeEnv). environment f s known later) (ends_scope) ∙ (λ i. record env { ends = ends_named names w1.rows later.rows env ns es are i }) in
      let there_too : HasRows f s2 w1 = rows_with_ends (ends_scope ∙ sym (ap (λ (s : CodeEnv). record s0 { ends = s.ends }) ends_scope)) (rows_stay f s0 w0 w1 g.grows.tables there) in
      let u = h.holds (ap (λ (s : CodeEnv). s.is_declaring) ends_scope ∙ plain) known later has agrees there_too none env start [] here made_of in
      let F = the.ends_found env [] es in
      let S = the.config_statements_found env start ss in
      let front : IsFound names later (drop (length w0.reached) w1.reached) given.faults F = record { is = t.is; reaches = t.reaches } in
      let rest : IsFound names later (drop (length w1.reached) w2.reached) inside S = record { is = u.is; reaches = u.reaches } in
      let head : IsFound names later (drop (length w0.reached) w2.reached) mid (and_found F S) = both_found (behind_both w0.reached w1.reached w2.reached g.grows.reached h.grows.reached) front rest join1 in
      let R = result_faults p env end (all_ends_used ss) in
      let V = the.unknown_ends end.names config.result ++ the.use_faults env p end in
      let used : all_ends_used ss ++ the.ident_names config.result ≡ the.used_ends config.config_statements config.result = used_are ss config.result ∙ ap (λ l. the.used_ends l config.result) ss_is in
      let same : R ≡ V = ap (λ l. the.unknown_ends end.names config.result ++ breaks_if (not (all_once l end.names && the.is_members env p.members config.result end)) rule.CONFIG_USES_EACH_END config.span) used in
      let by_lists : List End → List ConfigStatement → Found = λ es ss.
      let start = the.made_at_start env es in
      let end = the.made_at_end env start ss in
      and_found (the.ends_found env [] es) (and_found (the.config_statements_found env start ss) (only_faults (the.unknown_ends end.names config.result ++ the.use_faults env p end))) in
      let whole : and_found F (and_found S (only_faults V)) ≡ the.config_found env p = λ i. by_lists (es_is i) (ss_is i) in
      let reached : instances_at names later.met (drop (length w0.reached) w2.reached) ≡ (the.config_found env p).reached =
      head.reaches ∙ sym (append-nil (F.reached ++ S.reached)) ∙ append_assoc F.reached S.reached [] ∙ ap (λ (x : Found). x.reached) whole in
      record {
        is = λ named.
            let named2 = each_weaker (IsNamed names w0.rows later.rows) (IsNamed names w2.rows later.rows) members (map (the.channel_end_of env) p.members)
            (λ n o. named_stays names w0.rows w2.rows later.rows (grows_trans w0 w1 w2 g.grows h.grows).tables.rows n o) named in
            let scope : bound_names s3.ends ≡ end.names = ap (λ (E : TypeEnv). E.ends) u.scope in
            let own : result ≡ seen R = ends.is names later.rows env end (all_ends_used ss) agrees.distinct has.rows u.made.ends u.made.used scope u.made.meant named2 in
            join2 (F.faults ++ S.faults) R head.is own ∙ ap (λ fs. seen (F.faults ++ S.faults ++ fs)) same ∙ ap seen (append_assoc F.faults S.faults V) ∙ ap (λ (x : Found). seen x.faults) whole;
        reaches = reached;
      };
}
  where
    ends_scope : s2 ≡ record s0 { ends = map end_bound ns }
    ends_scope = adds.scope ∙ (λ i. record (g.sight i) { ends = map end_bound ns ++ (g.sight i).ends }) ∙ (λ i. record s0 { ends = map end_bound ns ++ outside i }) ∙ (λ i. record s0 { ends = append-nil (map end_bound ns) i })

    back : record s3 { ends = left } ≡ s0
    back =
        ap (λ l. record s3 { ends = l }) (kept ∙ no_ends_kept s3.ends) ∙ ap (λ (s : CodeEnv). record s { ends = [] }) h.scope ∙ ap (λ (s : CodeEnv). record s { ends = [] }) ends_scope
        ∙ (λ i. record s0 { ends = sym outside i })
