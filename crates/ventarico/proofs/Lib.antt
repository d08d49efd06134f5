-- Laws of the doors.
pub mod Once
