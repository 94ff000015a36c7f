pub mod Book
pub mod Forms
pub mod Paragraph
pub mod Shielding
pub mod Token
