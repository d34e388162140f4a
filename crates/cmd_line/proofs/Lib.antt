mod Numbers
mod Said
