mod Churning
mod Walking
