pub mod Bools
pub mod Numbers
pub mod Lists
pub mod Texts
pub mod Options
pub mod Results
