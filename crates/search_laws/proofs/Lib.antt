pub mod LubyLaws
pub mod StretchLaws
pub mod TrailLaws
