mod Calls
mod Drawing
