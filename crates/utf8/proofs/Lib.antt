pub mod Utf8s
