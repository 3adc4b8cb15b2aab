pub mod Output
pub mod Page
