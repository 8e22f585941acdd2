pub mod Bindings
pub mod Lowering
pub mod Kernels
pub mod Limits
pub mod Items
pub mod Instances
pub mod Laws
