mod Chunks
mod Crossing
mod Each
mod Firsts
mod Uncut
