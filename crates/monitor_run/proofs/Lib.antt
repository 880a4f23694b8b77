mod Accepting
mod Judged
mod ReadLog
mod Telling
