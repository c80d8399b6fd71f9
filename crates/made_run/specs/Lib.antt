pub mod CountsRun
pub mod Made
pub mod MakeEnd
