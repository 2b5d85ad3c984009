-- What the layouts of descriptors share. Places count from the body's first byte as 0.
pub mod Refusal
pub mod Body
pub mod Items
pub mod Field
pub mod Texts
pub mod Widths
pub mod Shapes
