pub mod Apps
pub mod Views
