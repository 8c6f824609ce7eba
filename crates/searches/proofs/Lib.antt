pub mod Results
pub mod Numbers
