pub mod VstorLaws
pub mod DiskLaws
pub mod DoneLaws
pub mod SpanLaws
pub mod PageDiskLaws
pub mod PageDoneLaws
pub mod SaidLaws
pub mod PageFormatLaws
