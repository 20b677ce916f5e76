mod Told
mod Zero
