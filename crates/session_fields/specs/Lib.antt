pub mod SessionFields
pub mod SessionFieldLaws
pub mod GroupFieldLaws
pub mod AskedFor
pub mod AskedLaws
