-- Ports, declarations, assignments and sets: the span that is kept is that of their tokens.
use Rattle.std.proofs.Common.{◌≡◌, ◌∙◌, ℕ, Bool, true, false, List, [], ◌∷◌, ◌++◌, map, refl, sym, ap, ap₂, append_assoc, append-nil}
use Rattle.std.specs.Prelude.{◌==◌, ◌≢◌, if◌then◌else◌}
use Rattle.base.specs.declared.grammar.table.Symbol.TheVariants.{Terminal, Nonterminal}
use Rattle.dslx_token.specs.Lexeme.{Lexeme}
use Rattle.vlog_text.specs.declared.token.rules.generated.kind.TheConstants.{ASSIGN, LITERAL}
use Rattle.vlog_text.specs.declared.token.rules.generated.kind.TheConstants as kind
use Rattle.vlog_text.specs.declared.token.rules.generated.nonterminal.TheConstants as nonterminal
use Rattle.vlog_tree.specs.declared.module.Direction.{Direction}
use Rattle.vlog_tree.specs.declared.module.Storage.{Storage}
use Rattle.vlog_text.specs.declared.builder.rule.Rule.TheVariants.{Keep, RangeOf, NoRange, PortOf, DirectionOf, DeclarationOf, StorageOf, AssignmentOf, SetOf}
use Rattle.vlog_text.specs.Builder.Building.{is_name}
use Rattle.vlog_text.specs.Builder.Parts.{literal_of, name_text}
use Rattle.vlog_text.specs.Parser.Spans.{NameToken, end_of, first_name, last_to, literal_ends, literals_in, span_of}
use Rattle.vlog_text.proofs.OnSpans.Effects.{Keeps, Quiet, TokenOf}
use Rattle.vlog_text.proofs.OnSpans.Widths.{no_literal_name, width_by}
use Rattle.vlog_text.proofs.OnSpans.KeepsPlain.{literals_behind}
use Rattle.vlog_text.proofs.OnSpans.Marks.{Marks, mark_by, mark_token, with_assignment, with_declaration, with_port, with_set}

-- ---- tokens in front of others

not_first : (l : Lexeme) (ls : List Lexeme) → is_name l.kind ≡ false → first_name (l ∷ ls) ≡ first_name ls
not_first l ls is = ap (λ b. if b then name_text l.bytes else first_name ls) is

is_first : (l : Lexeme) (ls : List Lexeme) → is_name l.kind ≡ true → first_name (l ∷ ls) ≡ name_text l.bytes
is_first l ls is = ap (λ b. if b then name_text l.bytes else first_name ls) is

no_end : (l : Lexeme) (ls : List Lexeme) → (l.kind == LITERAL) ≡ false → literals_in (l ∷ ls) ≡ literals_in ls
no_end l ls is = ap (λ b. if b then l ∷ literals_in ls else literals_in ls) is

-- of a token of this kind
nameless : {k : ℕ} (l : TokenOf k) (ls : List Lexeme) → is_name k ≡ false → first_name (l.token ∷ ls) ≡ first_name ls
nameless l ls isnt = not_first l.token ls (ap is_name l.is ∙ isnt)

pub endless : {k : ℕ} (l : TokenOf k) (ls : List Lexeme) → (k == LITERAL) ≡ false → literals_in (l.token ∷ ls) ≡ literals_in ls
endless l ls isnt = no_end l.token ls (ap (λ k. k == LITERAL) l.is ∙ isnt)

pub endless_name : (n : NameToken) (ls : List Lexeme) → literals_in (n.token ∷ ls) ≡ literals_in ls
endless_name n ls = no_end n.token ls (no_literal_name n.token.kind n.named)

abbrev pub ends_at : List Lexeme → List ℕ
ends_at ls = map (λ (l : Lexeme). l.span.to) ls

abbrev pub widths_at : List Lexeme → List ℕ
widths_at ls = map (λ (l : Lexeme). (literal_of l.bytes).width) ls

-- the last of some tokens
last_behind : (l : Lexeme) (xs : List Lexeme) (m : Lexeme) (ys : List Lexeme) → last_to l (xs ++ m ∷ ys) ≡ last_to m ys
last_behind l [] m ys = refl
last_behind l (x ∷ xs) m ys = last_behind x xs m ys

none_left : {A : Type 0} (x : A) (xs : List A) → (x ∷ xs) ≢ []
none_left x xs = λ e. absurd (cc)

-- ---- names, numbers and ranges

named_so : (l : Lexeme) (m : Marks) (name literal start : Bool) → name ≡ true → mark_by name literal start l m ≡ record m { idents = record { span = l.span; name = name_text l.bytes } ∷ m.idents; last = (mark_by name literal start l m).last }
named_so l m true literal start is = refl
named_so l m false literal start is = absurd (cc)

pub name_kept : (k : ℕ) → is_name k ≡ true → Keeps Keep nonterminal.NAME (Terminal k ∷ [])
name_kept k is (l, _) _ = record { part = record { token = l.token; named = ap is_name l.is ∙ is }; are = refl; does = λ m. named_so l.token m (is_name k) (k == LITERAL) (k == ASSIGN) is; puts = λ fits w. ap (λ b. width_by b l.token w) (no_literal_name k is) }

quiet_token : {k : ℕ} → TokenOf k → is_name k ≡ false → (k == LITERAL) ≡ false → Quiet
quiet_token l isnt also = record { tokens = l.token ∷ []; nameless = λ more. nameless l more isnt; literals = λ more. endless l more also }

pub number_is : Keeps Keep nonterminal.NUMBER (Terminal kind.NUMBER ∷ [])
unfolding quiet_token
number_is (l, _) _ = record { part = quiet_token l refl refl; are = refl; does = λ m. refl; puts = λ fits w. refl }

pub zero_is : Keeps Keep nonterminal.NUMBER (Terminal kind.ZERO ∷ [])
unfolding quiet_token
zero_is (l, _) _ = record { part = quiet_token l refl refl; are = refl; does = λ m. refl; puts = λ fits w. refl }

pub range_is : Keeps RangeOf nonterminal.RANGE (Terminal kind.LBRACKET ∷ Nonterminal nonterminal.NUMBER ∷ Terminal kind.COLON ∷ Terminal kind.ZERO ∷ Terminal kind.RBRACKET ∷ [])
range_is (bracket, (number, (colon, (zero, (close, _))))) _ =
    let end = colon.token ∷ zero.token ∷ close.token ∷ [] in
    record {
      part = record {
        tokens = bracket.token ∷ (number.tokens ++ end);
        nameless = λ more.
            nameless bracket ((number.tokens ++ end) ++ more) refl
            ∙ (ap first_name (append_assoc number.tokens end more)
            ∙ (number.nameless (end ++ more) ∙ (nameless colon (zero.token ∷ close.token ∷ more) refl ∙ (nameless zero (close.token ∷ more) refl ∙ nameless close more refl))));
        literals = λ more.
            endless bracket ((number.tokens ++ end) ++ more) refl
            ∙ (ap literals_in (append_assoc number.tokens end more)
            ∙ (number.literals (end ++ more) ∙ (endless colon (zero.token ∷ close.token ∷ more) refl ∙ (endless zero (close.token ∷ more) refl ∙ endless close more refl))));
      };
      are = refl;
      does = λ m. refl;
      puts = λ fits w. refl;
    }

pub no_range_is : Keeps NoRange nonterminal.RANGE []
no_range_is run _ = record { part = record { tokens = []; nameless = λ more. refl; literals = λ more. refl }; are = refl; does = λ m. refl; puts = λ fits w. refl }

-- ---- ports and declarations

-- a token that is kept for nothing but where it stands
alone : (name literal start : Bool) (l : Lexeme) (m : Marks) → name ≡ false → literal ≡ false → start ≡ false → mark_by name literal start l m ≡ record m { last = l.span }
alone true literal start l m isnt also other = absurd (cc)
alone false true start l m isnt also other = absurd (cc)
alone false false true l m isnt also other = absurd (cc)
alone false false false l m isnt also other = refl

started : (k : ℕ) (l : Lexeme) (m : Marks) → is_name k ≡ false → (k == LITERAL) ≡ false → (k == ASSIGN) ≡ false
    → record (mark_token k l m) { starts = (mark_token k l m).last.from ∷ (mark_token k l m).starts } ≡ record m { starts = l.span.from ∷ m.starts; last = (mark_token k l m).last }
started k l m name literal start =
    let e = alone (is_name k) (k == LITERAL) (k == ASSIGN) l m name literal start in
    ap (λ (x : Marks). record x { starts = x.last.from ∷ x.starts }) e ∙ ap (λ (x : Marks). record m { starts = l.span.from ∷ m.starts; last = x.last }) (sym e)

pub direction_is : (d : Direction) (k : ℕ) → is_name k ≡ false → (k == LITERAL) ≡ false → (k == ASSIGN) ≡ false → Keeps (DirectionOf d) nonterminal.DIRECTION (Terminal k ∷ [])
direction_is d k name literal start (l, _) _ = record {
  part = record { token = l.token; nameless = ap is_name l.is ∙ name };
  are = refl;
  does = λ m. started k l.token m name literal start;
  puts = λ fits w. ap (λ b. width_by b l.token w) literal;
}

pub storage_is : (d : Storage) (k : ℕ) → is_name k ≡ false → (k == LITERAL) ≡ false → (k == ASSIGN) ≡ false → Keeps (StorageOf d) nonterminal.STORAGE (Terminal k ∷ [])
storage_is d k name literal start (l, _) _ = record {
  part = record { token = l.token; nameless = ap is_name l.is ∙ name };
  are = refl;
  does = λ m. started k l.token m name literal start;
  puts = λ fits w. ap (λ b. width_by b l.token w) literal;
}

pub port_is : Keeps PortOf nonterminal.PORT (Nonterminal nonterminal.DIRECTION ∷ Terminal kind.WIRE ∷ Nonterminal nonterminal.RANGE ∷ Nonterminal nonterminal.NAME ∷ [])
port_is (d, (w, (range, (n, _)))) derived =
    let own = d.token ∷ w.token ∷ (range.tokens ++ n.token ∷ []) in
    let to : n.token.span.to ≡ end_of own = sym (last_behind w.token range.tokens n.token []) in
    let name : name_text n.token.bytes ≡ first_name own =
    sym (not_first d.token (w.token ∷ (range.tokens ++ n.token ∷ [])) d.nameless ∙ nameless w (range.tokens ++ n.token ∷ []) refl ∙ range.nameless (n.token ∷ []) ∙ is_first n.token [] n.named) in
    record {
      part = record { tokens = own; some = none_left d.token (w.token ∷ (range.tokens ++ n.token ∷ [])); derived = derived };
      are = refl;
      does = λ m. ap₂ (λ to name. record (with_port (record { from = d.token.span.from; to = to }) name m) { last = n.token.span }) to name;
      puts = λ fits w. refl;
    }

pub declaration_is : Keeps DeclarationOf nonterminal.DECLARATION (Nonterminal nonterminal.STORAGE ∷ Nonterminal nonterminal.RANGE ∷ Nonterminal nonterminal.NAME ∷ Terminal kind.SEMI ∷ [])
declaration_is (d, (range, (n, (semi, _)))) derived =
    let own = d.token ∷ (range.tokens ++ n.token ∷ semi.token ∷ []) in
    let to : semi.token.span.to ≡ end_of own = sym (last_behind d.token range.tokens n.token (semi.token ∷ [])) in
    let name : name_text n.token.bytes ≡ first_name own =
    sym (not_first d.token (range.tokens ++ n.token ∷ semi.token ∷ []) d.nameless ∙ range.nameless (n.token ∷ semi.token ∷ []) ∙ is_first n.token (semi.token ∷ []) n.named) in
    record {
      part = record { tokens = own; some = none_left d.token (range.tokens ++ n.token ∷ semi.token ∷ []); derived = derived };
      are = refl;
      does = λ m. ap₂ (λ to name. record (with_declaration (record { from = d.token.span.from; to = to }) name m) { last = semi.token.span }) to name;
      puts = λ fits w. refl;
    }

-- ---- assignments and sets

pub assignment_is : Keeps AssignmentOf nonterminal.ASSIGNMENT (Terminal kind.ASSIGN ∷ Nonterminal nonterminal.NAME ∷ Terminal kind.EQUALS ∷ Nonterminal nonterminal.EXPR ∷ Terminal kind.SEMI ∷ [])
assignment_is (a, (n, (sign, (value, (semi, _))))) derived =
    let own = a.token ∷ n.token ∷ sign.token ∷ (value ++ semi.token ∷ []) in
    let to : semi.token.span.to ≡ end_of own = sym (last_behind sign.token value semi.token []) in
    let name : name_text n.token.bytes ≡ first_name own = sym (nameless a (n.token ∷ sign.token ∷ (value ++ semi.token ∷ [])) refl ∙ is_first n.token (sign.token ∷ (value ++ semi.token ∷ [])) n.named) in
    let same : literals_in value ≡ literals_in own =
    sym (endless a (n.token ∷ sign.token ∷ (value ++ semi.token ∷ [])) refl ∙ (endless_name n (sign.token ∷ (value ++ semi.token ∷ [])) ∙ (endless sign (value ++ semi.token ∷ []) refl ∙ (literals_behind value (semi.token ∷ []) ∙ (ap (λ es. literals_in value ++ es) (endless semi [] refl) ∙ append-nil (literals_in value)))))) in
    record {
      part = record { tokens = own; some = none_left a.token (n.token ∷ sign.token ∷ (value ++ semi.token ∷ [])); derived = derived };
      are = refl;
      does = λ m.
          ap₂ (λ to name. record (with_assignment (record { from = a.token.span.from; to = to }) name m) { ends = m.ends ++ literal_ends value; last = semi.token.span }) to name
          ∙ ap (λ ls. record (with_assignment (span_of own) (first_name own) m) { ends = m.ends ++ ends_at ls; last = semi.token.span }) same;
      puts = λ fits w. ap (λ ls. record w { assignments = w.assignments ++ widths_at ls ∷ [] }) same;
    }

pub set_is : Keeps SetOf nonterminal.SET (Nonterminal nonterminal.NAME ∷ Terminal kind.LE ∷ Nonterminal nonterminal.ATOM ∷ Terminal kind.SEMI ∷ [])
set_is (n, (sign, (value, (semi, _)))) derived =
    let own = n.token ∷ sign.token ∷ (value ++ semi.token ∷ []) in
    let to : semi.token.span.to ≡ end_of own = sym (last_behind sign.token value semi.token []) in
    let name : name_text n.token.bytes ≡ first_name own = sym (is_first n.token (sign.token ∷ (value ++ semi.token ∷ [])) n.named) in
    let same : literals_in value ≡ literals_in own =
    sym (endless_name n (sign.token ∷ (value ++ semi.token ∷ [])) ∙ (endless sign (value ++ semi.token ∷ []) refl ∙ (literals_behind value (semi.token ∷ []) ∙ (ap (λ es. literals_in value ++ es) (endless semi [] refl) ∙ append-nil (literals_in value))))) in
    record {
      part = record { tokens = own; some = none_left n.token (sign.token ∷ (value ++ semi.token ∷ [])); derived = derived };
      are = refl;
      does = λ m.
          ap₂ (λ to name. record (with_set (record { from = n.token.span.from; to = to }) name m) { ends = m.ends ++ literal_ends value; last = semi.token.span }) to name
          ∙ ap (λ ls. record (with_set (span_of own) (first_name own) m) { ends = m.ends ++ ends_at ls; last = semi.token.span }) same;
      puts = λ fits w. ap (λ ls. record w { sets = w.sets ++ widths_at ls ∷ [] }) same;
    }
