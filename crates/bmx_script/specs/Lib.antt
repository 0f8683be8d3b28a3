pub mod Bytes
pub mod Grammar
pub mod Inside
pub mod Laws
pub mod Printing
pub mod Reading
pub mod Spelling
