mod Closed
mod LeaseWords
mod MailboxWords
mod Opens
mod Refused
mod Words
