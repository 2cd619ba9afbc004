mod Fronts
mod Going
mod Naming
mod Walking
