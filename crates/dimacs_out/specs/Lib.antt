pub mod CompiledText
pub mod TextLaws
pub mod TextSolutions
pub mod ValueLines
pub mod Written
