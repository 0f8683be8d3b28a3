pub mod Order
pub mod Inter
pub mod Inside
