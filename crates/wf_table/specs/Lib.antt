pub mod Built
pub mod Made
pub mod Named
pub mod Preorder
