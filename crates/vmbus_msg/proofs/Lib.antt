pub mod Forms
pub mod FrameLaws
pub mod MsgLaws
pub mod PartLaws
pub mod SizeLaws
pub mod UnknownLaws
