-- free names
pub mod OnFreeNames
-- locals
pub mod OnLocals
-- written types
pub mod OnWrittenTypes
