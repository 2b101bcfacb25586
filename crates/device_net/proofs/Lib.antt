pub mod CameLaws
pub mod NetCameLaws
pub mod NetFixedLaws
pub mod AskableLaws
