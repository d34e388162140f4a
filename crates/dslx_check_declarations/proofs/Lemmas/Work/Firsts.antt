-- Where no two items have one name, the item of a number is the first of its name.
pub use Rattle.dslx_check_declarations.proofs.OnWork.OnFirsts.{first_named, name_is}
