pub mod CutSteps
pub mod FewLawful
pub mod FewSteps
pub mod RunSteps
