pub mod AnyError
pub mod MarkEnds
pub mod HeadEnd
pub mod EndFinds
pub mod FieldLemmas
pub mod OneHead
mod ButForTarget
