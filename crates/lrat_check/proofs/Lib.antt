mod Checked
mod Trails
mod Said
mod Adding
mod Firsts
mod Steps
mod Exact
