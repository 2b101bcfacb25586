pub mod Codecs
pub mod WireModels
pub mod Lifted
pub mod EndScripts
