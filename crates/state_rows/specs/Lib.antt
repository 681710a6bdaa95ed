pub mod ToldOnce
