mod Urls
mod Codes
mod Reading
mod Whole
