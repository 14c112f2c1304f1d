pub mod Lines
pub mod Places
pub mod Lefts
pub mod Tokens
pub mod Scans
pub mod Lexer
pub mod Lexed
pub mod Laws
