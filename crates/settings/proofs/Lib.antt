mod Numbers
mod Words
