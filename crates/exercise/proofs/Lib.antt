pub mod RequestLaws
pub mod CriteriaLaws
