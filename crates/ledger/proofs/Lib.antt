pub mod FactLaws
pub mod KeepLaws
pub mod CalmLaws
