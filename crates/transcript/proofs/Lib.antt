mod Digits
mod Numbers
mod Rows
mod There
mod Wide
