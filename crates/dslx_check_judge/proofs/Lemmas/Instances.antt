-- values of parametrics that break rule 10
pub mod OnValues
