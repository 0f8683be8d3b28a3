pub mod Rising
pub mod Map
pub mod Index
pub mod Names
