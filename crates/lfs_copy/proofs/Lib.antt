mod Both
mod Copies
mod Firsts
mod Fits
mod Leads
mod Looks
mod Pieces
mod Trees
