pub mod Books
pub mod BooksLemmas
