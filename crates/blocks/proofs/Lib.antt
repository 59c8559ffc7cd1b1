pub mod EndianLaws
pub mod OverLaws
pub mod PlaceLaws
pub mod MaskLaws
pub mod RangeLaws
