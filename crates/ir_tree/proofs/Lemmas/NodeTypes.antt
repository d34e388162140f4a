-- The public library: equations of folds over written types, which constants have a type, case by case, and lists of equal types.
pub mod IrTypes
pub mod ConstantCases
pub mod SameTypes
