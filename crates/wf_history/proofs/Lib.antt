mod Adding
mod BadRecords
mod Beginnings
mod Open
mod Places
