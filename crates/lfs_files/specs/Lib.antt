pub mod Headers
pub mod Looking
pub mod Files
pub mod Making
