mod Cuts
mod Performed
mod Questions
mod Wishes
mod Whole
