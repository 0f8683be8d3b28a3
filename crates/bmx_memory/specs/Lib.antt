pub mod Contents
pub mod Shown
pub mod Letters
pub mod Meaning
pub mod Inside
