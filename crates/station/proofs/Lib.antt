pub mod FalseLaw
pub mod Lines
pub mod LogLaws
pub mod StepLaws
pub mod Whole
pub mod ZeroLaw
