pub mod Faults
pub mod FrameList
pub mod Grammar
pub mod Pages
pub mod Pieces
pub mod Reading
pub use Rattle.wire_table.specs.Little
pub use Rattle.wire_table.specs.Rows
