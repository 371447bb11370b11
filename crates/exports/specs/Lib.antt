pub mod Border
pub mod DdsBorder
pub mod ChannelsBorder
pub mod StationBorder
