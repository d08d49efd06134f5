-- an image is what was committed of its page
pub mod Images
-- a log that was written: its header, its frames
pub mod Fields
pub mod Logs
-- and the call: what the desk reads is what was committed
pub mod Calls
