mod Results
mod Examples
