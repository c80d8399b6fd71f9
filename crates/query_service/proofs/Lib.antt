pub mod DayTexts
pub mod Piece
pub mod HeardLines
pub mod Answered
pub mod Joined
mod OneByOne
pub mod WrittenAnswer
pub mod SaidAnswer
pub mod Turn
