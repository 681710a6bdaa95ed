pub mod FaultLaws
pub mod ByteLaws
pub mod FileLaws
pub mod NameLaws
pub mod GiveLaws
