pub mod Markup
pub mod CellWords
pub mod HtmlCells
pub mod Shares
pub mod HtmlTables
pub mod LeftOut
pub mod Page
