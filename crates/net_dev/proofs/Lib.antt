pub mod NvspLaws
pub mod ObjectLaws
