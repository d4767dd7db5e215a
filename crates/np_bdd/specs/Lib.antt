pub mod Views
pub mod Diagram
pub mod Nodes
pub mod Combining
pub mod Memo
pub mod Fields
pub mod Store
pub mod Walking
