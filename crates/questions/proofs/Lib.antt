mod Asking
mod QuestionRows
