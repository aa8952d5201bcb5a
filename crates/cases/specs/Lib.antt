pub mod Exit
pub mod Met
