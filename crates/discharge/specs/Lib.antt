pub mod Discharge
