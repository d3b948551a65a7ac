pub mod Bookmarks
