pub mod Shelves
pub mod Inside
