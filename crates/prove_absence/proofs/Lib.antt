pub mod Absences
