-- the turns of a loop
mod Turns
