pub mod InstanceLaws
