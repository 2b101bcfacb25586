pub mod NetLaws
pub mod TransferLaws
pub mod PageNetLaws
pub mod NetPageLaws
