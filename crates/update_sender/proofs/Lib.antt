mod Stepped
mod Absent
mod Refused
mod Written
mod Served
mod Putting
mod Finished
mod Among
