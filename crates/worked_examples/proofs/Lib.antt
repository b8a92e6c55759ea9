-- Worked examples over stores and logs of full size, by computing.
pub mod FullLog
pub mod Openings
pub mod PagesAlone
