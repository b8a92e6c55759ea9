pub mod CallBytes
pub mod Codes
pub mod Bodies
pub mod RunFiles
pub mod AtTheLimit
