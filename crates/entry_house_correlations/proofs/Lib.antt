-- Laws that the proof shares.
mod Laying
