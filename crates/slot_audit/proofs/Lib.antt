mod Undrawn
