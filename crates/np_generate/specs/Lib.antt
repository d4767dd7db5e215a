pub mod Drawing
pub mod Drawn
pub mod NetLines
pub mod ConfigLines
pub mod Generated
