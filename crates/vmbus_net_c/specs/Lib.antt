pub mod Network
pub mod NvspWriting
pub mod RndisWriting
