pub mod Made
pub mod CutSteps
pub mod CutLaws
pub mod AssignLaws
pub mod AssignedLaws
pub mod Laws
pub mod StatementLaws
pub mod NextDayLaws
