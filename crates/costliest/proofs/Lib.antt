pub mod NextRow
pub mod Arguments
pub mod OpenedLogs
