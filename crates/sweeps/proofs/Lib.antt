-- Laws that the proof of both arrangements cites.
mod Arrangements
