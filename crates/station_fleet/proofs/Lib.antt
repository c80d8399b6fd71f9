pub mod BegunTexts
pub mod FewSteps
pub mod NewStation
pub mod OneTurn
pub mod OwnRuns
pub mod WholeTexts
pub mod OwnTexts
