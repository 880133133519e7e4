pub mod Referees
