-- Laws of what beginning and placing do on plain lists.
pub mod Beginnings
pub mod Places
