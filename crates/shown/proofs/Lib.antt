pub mod ShownAnswers
mod ShownRows
