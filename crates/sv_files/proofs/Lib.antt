mod Folders
mod Places
