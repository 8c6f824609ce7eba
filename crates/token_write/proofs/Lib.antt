mod Filled
mod Results
