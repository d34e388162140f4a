-- The global environment of items whose names pass a test, with something else in the place of all other items.
use Rattle.std.specs.Prelude.{ℕ, List, [], ◌∷◌, ◌&&◌, map, Bool, false, Option, Some, None, if◌then◌else◌}
use Rattle.xb_span.specs.Spans.{nowhere}
use Rattle.xb_bits.specs.Word.{word}
use Rattle.dslx_tree.specs.declared.item.Definition.{Definition}
use Rattle.dslx_tree.specs.declared.item.Definition.TheVariants as d
use Rattle.dslx_tree.specs.declared.item.Field.{Field}
use Rattle.dslx_tree.specs.declared.item.Struct.{Struct as StructItem}
use Rattle.dslx_meaning.specs.Items.{item_named, name_of_field}
use Rattle.dslx_meaning.specs.declared.ty.DslxType.{DslxType, Bits, Struct}
use Rattle.dslx_meaning.specs.declared.value.DslxValue.{DslxValue}
use Rattle.dslx_meaning.specs.declared.value.DslxValue as value
use Rattle.dslx_meaning.specs.Rules.ConstantRules.{untyped_typing}
use Rattle.dslx_meaning.specs.Rules.TypeEnvs.{Judgement, GlobalEnv, Signature, breaks}
use Rattle.dslx_meaning.specs.Rules.ModuleRules.{no_signature}

-- a struct whose fields are bits of one width
abbrev pub filler_struct : ℕ → StructItem → DslxType
filler_struct w s = Struct s.name.name (map name_of_field s.fields) (map (λ (f : Field). Bits false w) s.fields)

abbrev pub filler_type : ℕ → Option Definition → Option DslxType
filler_type w (Some (d.Alias a)) = Some (Bits false w)
filler_type w (Some (d.Struct s)) = Some (filler_struct w s)
filler_type w (Some (d.Enum e)) = Some (Bits false w)
filler_type w _ = None

abbrev pub struct_filler : ℕ → Option Definition → Option DslxType
struct_filler w (Some (d.Struct s)) = Some (filler_struct w s)
struct_filler w _ = None

abbrev pub zero_bits : ℕ → DslxValue
zero_bits w = value.Bits false (word w 0)

abbrev pub constant_filler : ℕ → Option Definition → Option DslxValue
constant_filler w (Some (d.Constant c)) = Some (zero_bits w)
constant_filler w _ = None

abbrev pub member_filler : ℕ → Option Definition → Option DslxValue
member_filler w (Some (d.Enum e)) = Some (zero_bits w)
member_filler w _ = None

-- what breaks a rule
abbrev pub refused : Judgement
refused = record untyped_typing { faults = breaks 1 nowhere ∷ [] }

-- a signature without types
abbrev pub nothing_typed : Option Definition → Signature
nothing_typed (Some (d.Function f)) = record { arguments = map (λ (a : Field). None) f.arguments; result = None }
nothing_typed _ = no_signature

-- the items whose names pass as they are; in the place of all others bits of this width, and no sound instances
abbrev pub filled : ℕ → (List ℕ → Bool) → GlobalEnv → GlobalEnv
filled w P known = record known {
  items = record known.items {
    type_named = λ name. if P name then known.items.type_named name else filler_type w (item_named name known.whole.items);
    struct_named = λ name. if P name then known.items.struct_named name else struct_filler w (item_named name known.whole.items);
    constant = λ name. if P name then known.items.constant name else constant_filler w (item_named name known.whole.items);
    member = λ name member. if P name then known.items.member name member else member_filler w (item_named name known.whole.items);
    call = λ name parametric_args operands. if P name then known.items.call name parametric_args operands else None;
  };
  is_sound = λ i. P i.name && known.is_sound i;
  is_unbroken = λ i. P i.name && known.is_unbroken i;
  parameter_in = λ owner before. if P owner then known.parameter_in owner before else refused;
  default_in = λ owner before. if P owner then known.default_in owner before else record { judgement = refused; value = None };
  signature_in = λ owner values. if P owner then known.signature_in owner values else nothing_typed (item_named owner known.whole.items);
}
